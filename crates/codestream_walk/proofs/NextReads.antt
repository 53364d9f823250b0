-- How far the next packet's header was read, by what a reader does.
use Rattle.std.proofs.Common.{◌≡◌, ◌++◌, ℕ, List, [], ◌∷◌, drop, Option, Some, None, sym, ap, subst}
use Rattle.codestream_model.specs.Values.{Head, Place, Block}
use Rattle.packet_header.specs.Headers.{ReaderState}
use Rattle.codestream_walk.specs.InHand.{InHand, with_more}
use Rattle.codestream_walk.specs.Judging.{IsReadSoFar}
use Rattle.codestream_walk.specs.Progressions.{Progress}
use Rattle.codestream_walk.specs.Walking.{AtStart, AtNext, IsBody}
use Rattle.codestream_walk.specs.Staging.{stage_of, IsFirstRead, IsNextRead}
use Rattle.codestream_walk.specs.declared.pieces.State.{State}
use Rattle.codestream_walk.specs.declared.pieces.State.TheVariants as code
use Rattle.codestream_walk.proofs.NextHeaders.{part_grows}
use Rattle.codestream_walk.proofs.Stages.{at_next}

-- in each state no header need be begun
none_first : (fed : Option ℕ) (r : ReaderState) (h : Head) (places : List Place) (hand : List ℕ) → fed ≡ None → IsFirstRead fed r h places hand
none_first fed r h [] hand e = e
none_first fed r h (p ∷ later) hand e = let P : Option ℕ → Type 0 = λ f. IsReadSoFar f r h p hand in subst P (sym e) tt

pub unread : (state : State) (begun : Option Progress) (fed : Option ℕ) (r : ReaderState) (hand : List ℕ) → fed ≡ None → IsNextRead state begun fed r hand
unread code.Start begun fed r hand e = e
unread code.Next (Some b) fed r hand e = none_first fed r b.head b.places hand e
unread code.Next None fed r hand e = e
unread code.Body begun fed r hand e = e
unread code.End begun fed r hand e = tt

-- none is begun where a codestream may begin
pub unread_start : (state : State) (begun : Option Progress) (p : Place) (bs : List Block) (size left : ℕ) (fed : Option ℕ) (r : ReaderState) (hand : List ℕ) → stage_of state begun p bs size left ≡ AtStart → IsNextRead state begun fed r hand → fed ≡ None
unread_start code.Start begun p bs size left fed r hand e k = k
unread_start code.Next (Some b) p bs size left fed r hand e k = absurd (cc)
unread_start code.Next None p bs size left fed r hand e k = k
unread_start code.Body begun p bs size left fed r hand e k = k
unread_start code.End begun p bs size left fed r hand e k = absurd (cc)

-- none is begun where EOC is next
first_none : (fed : Option ℕ) (r : ReaderState) (h : Head) (places : List Place) (hand : List ℕ) → places ≡ [] → IsFirstRead fed r h places hand → fed ≡ None
first_none fed r h places hand e k = let P : List Place → Type 0 = λ l. IsFirstRead fed r h l hand in subst P e k

pub unread_eoc : (state : State) (begun : Option Progress) (p : Place) (bs : List Block) (size left : ℕ) (h : Head) (n : ℕ) (fed : Option ℕ) (r : ReaderState) (hand : List ℕ) → stage_of state begun p bs size left ≡ AtNext h [] n → IsNextRead state begun fed r hand → fed ≡ None
unread_eoc code.Start begun p bs size left h n fed r hand e k = k
unread_eoc code.Next (Some b) p bs size left h n fed r hand e k = first_none fed r b.head b.places hand (at_next code.Next b p bs size left h [] n e).2 k
unread_eoc code.Next None p bs size left h n fed r hand e k = k
unread_eoc code.Body begun p bs size left h n fed r hand e k = k
unread_eoc code.End begun p bs size left h n fed r hand e k = absurd (cc)

-- none is begun in a packet's segments
pub unread_body : (state : State) (begun : Option Progress) (p : Place) (bs : List Block) (size left : ℕ) (fed : Option ℕ) (r : ReaderState) (hand : List ℕ) → IsBody (stage_of state begun p bs size left) → IsNextRead state begun fed r hand → fed ≡ None
unread_body code.Start begun p bs size left fed r hand body k = k
unread_body code.Next (Some b) p bs size left fed r hand (h, q, cs, later, n, m, e) k = absurd (cc)
unread_body code.Next None p bs size left fed r hand body k = k
unread_body code.Body begun p bs size left fed r hand body k = k
unread_body code.End begun p bs size left fed r hand (h, q, cs, later, n, m, e) k = absurd (cc)

-- where a packet is next, its header was read so far
pub next_read : (state : State) (b : Progress) (p0 : Place) (bs : List Block) (size left : ℕ) (h : Head) (later : List Place) (n : ℕ) (p : Place) (fed : Option ℕ) (r : ReaderState) (hand : List ℕ)
    → stage_of state (Some b) p0 bs size left ≡ AtNext h later n → b.places ≡ p ∷ drop 1 b.places → IsNextRead state (Some b) fed r hand → IsReadSoFar fed r b.head p hand
next_read code.Start b p0 bs size left h later n p fed r hand e is k = absurd (cc)
next_read code.Next b p0 bs size left h later n p fed r hand e is k = let P : List Place → Type 0 = λ l. IsFirstRead fed r b.head l hand in subst P is k
next_read code.Body b p0 bs size left h later n p fed r hand e is k = absurd (cc)
next_read code.End b p0 bs size left h later n p fed r hand e is k = absurd (cc)

pub read_next : (state : State) (b : Progress) (p0 : Place) (bs : List Block) (size left : ℕ) (h : Head) (later : List Place) (n : ℕ) (p : Place) (fed : Option ℕ) (r : ReaderState) (hand : List ℕ)
    → stage_of state (Some b) p0 bs size left ≡ AtNext h later n → b.places ≡ p ∷ drop 1 b.places → IsReadSoFar fed r b.head p hand → IsNextRead state (Some b) fed r hand
read_next code.Start b p0 bs size left h later n p fed r hand e is k = absurd (cc)
read_next code.Next b p0 bs size left h later n p fed r hand e is k = let P : List Place → Type 0 = λ l. IsFirstRead fed r b.head l hand in subst P (sym is) k
read_next code.Body b p0 bs size left h later n p fed r hand e is k = absurd (cc)
read_next code.End b p0 bs size left h later n p fed r hand e is k = absurd (cc)

-- what was read stays read where bytes are appended
so_far_grows : (fed : Option ℕ) (r : ReaderState) (h : Head) (p : Place) (hand more : List ℕ) → IsReadSoFar fed r h p hand → IsReadSoFar fed r h p (hand ++ more)
so_far_grows None r h p hand more k = tt
so_far_grows (Some n) r h p hand more k = (k.0, part_grows r h p n hand more k.1)

first_grows : (fed : Option ℕ) (r : ReaderState) (h : Head) (places : List Place) (hand more : List ℕ) → IsFirstRead fed r h places hand → IsFirstRead fed r h places (hand ++ more)
first_grows fed r h [] hand more k = k
first_grows fed r h (p ∷ later) hand more k = so_far_grows fed r h p hand more k

pub next_read_grows : (state : State) (begun : Option Progress) (fed : Option ℕ) (r : ReaderState) (hand more : List ℕ) → IsNextRead state begun fed r hand → IsNextRead state begun fed r (hand ++ more)
next_read_grows code.Start begun fed r hand more k = k
next_read_grows code.Next (Some b) fed r hand more k = first_grows fed r b.head b.places hand more k
next_read_grows code.Next None fed r hand more k = k
next_read_grows code.Body begun fed r hand more k = k
next_read_grows code.End begun fed r hand more k = tt

-- more bytes are in hand
pub next_read_on : (i j : InHand) (more : List ℕ) (state : State) (begun : Option Progress) (fed : Option ℕ) (r : ReaderState) → j ≡ with_more i more → IsNextRead state begun fed r i.bytes → IsNextRead state begun fed r j.bytes
next_read_on i j more state begun fed r e k =
    let P : List ℕ → Type 0 = λ l. IsNextRead state begun fed r l in
    subst P (sym (ap (λ (x : InHand). x.bytes) e)) (next_read_grows state begun fed r i.bytes more k)
