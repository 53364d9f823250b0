-- What a reader's answers do to its stage.
use Rattle.std.proofs.Common.{◌≡◌, ◌<◌, ◌≤◌, ◌+◌, ◌-◌, ◌==◌, ℕ, Bool, true, false, List, ◌∷◌, length, take, drop, Option, Some, None, refl, sym, subst, ◌∙◌, ap, inr, arith, length-take-le, if◌then◌else◌}
use Rattle.std.proofs.lemmas.List.{take-append-drop, length-take}
use Rattle.codestream_model.specs.Values.{Head, Place, Block}
use Rattle.codestream_model.specs.MainHeader.{SpellsHead}
use Rattle.codestream_model.specs.Precincts.{IsPrecinct}
use Rattle.codestream_model.specs.HeadLimits.{IsWithinLimits}
use Rattle.codestream_model.specs.PacketOrder.{IsPacketOrder, packet_order}
use Rattle.codestream_model.proofs.Orders.{packet_order_is_computed}
use Rattle.pcrl_order.proofs.InOrder.{has_steps}
use Rattle.codestream_model.specs.Packet.{NeedsPacketHeaderBytes, HasFewBlocks, segment_bytes}
use Rattle.codestream_model.specs.Codestream.{WalkRefusal, HeadRefused, RefusesPacket}
use Rattle.codestream_model.specs.HeadRefusals.{HeadRefusal, Cut as HeadCut}
use Rattle.codestream_model.specs.RefusedHeader.{RefusesHead}
use Rattle.j2k_markers.specs.Refusals.{refusal_of}
use Rattle.j2k_markers.specs.declared.head.HeadWhy.{HeadWhy}
use Rattle.j2k_markers.specs.declared.head.HeadWhy.TheVariants as head_why
use Rattle.codestream_walk.specs.InHand.{InHand, giving}
use Rattle.codestream_walk.specs.Walking.{Stage, AtStart, AtNext, InBody, Walking, Seen, stage_after, passing, WantsIn, Refuses, RefusesIn, GivesHead, GivesStart, GivesMore, IsDone, IsSound, ShowsHeadAt, IsBody}
use Rattle.codestream_walk.specs.Staging.{stage_of, head_of, staged, HasBegun}
use Rattle.codestream_walk.specs.Judging.{JudgesPacket}
use Rattle.codestream_walk.specs.Faults.{walk_refusal}
use Rattle.codestream_walk.specs.Reading.{Judges}
use Rattle.codestream_walk.specs.declared.fault.WalkWhy.{WalkWhy}
use Rattle.codestream_walk.specs.declared.fault.PieceOut.TheVariants.{Refused}
use Rattle.codestream_walk.specs.declared.fault.Judged.{Judged}
use Rattle.codestream_walk.specs.declared.fault.Judged.TheVariants.{Piece}
use Rattle.codestream_walk.specs.declared.next_header.Header.TheVariants.{Whole}
use Rattle.codestream_walk.specs.Progressions.{Progress, after_packet}
use Rattle.codestream_walk.specs.declared.pieces.State.{State}
use Rattle.codestream_walk.specs.declared.pieces.State.TheVariants as code

-- a reader's place, with these bytes in hand
abbrev pub walk_of : InHand → ℕ → Stage → Walking
walk_of input codestreams stage = record { hand = input.bytes; offset = input.offset; codestreams = codestreams; stage = stage }

-- what a reader shows
abbrev pub seen_of : InHand → ℕ → Stage → Option Head → Place → List Block → Seen
seen_of input codestreams stage head place blocks = record { walk = walk_of input codestreams stage; given = input.given; head = head; place = place; blocks = blocks }

-- the parts of a stage
next_is : (h g : Head) (later others : List Place) (m n : ℕ) → AtNext h later m ≡ AtNext g others n → (h ≡ g) × (later ≡ others) × (m ≡ n)
next_is h g later others m n e = (cc, cc, cc)

pub at_next : (stage : State) (b : Progress) (p : Place) (bs : List Block) (size left : ℕ) (h : Head) (later : List Place) (n : ℕ) → stage_of stage (Some b) p bs size left ≡ AtNext h later n
    → (stage ≡ code.Next) × (b.head ≡ h) × (b.places ≡ later) × (size ≡ n)
at_next code.Start b p bs size left h later n e = absurd (cc)
at_next code.Next b p bs size left h later n e = let k = next_is b.head h (b.places) later size n e in (refl, k.0, k.1, k.2)
at_next code.Body b p bs size left h later n e = absurd (cc)
at_next code.End b p bs size left h later n e = absurd (cc)

-- the stage after a part of a packet
staged_is : (t : Bool) (b : Progress) (p : Place) (bs : List Block) (size left : ℕ)
    → stage_of (if t then code.Next else code.Body) (Some b) p bs size left ≡ (if t then AtNext b.head (b.places) size else InBody b.head p bs (b.places) size left)
staged_is true b p bs size left = refl
staged_is false b p bs size left = refl

pub staged_behind : (b : Progress) (p : Place) (bs : List Block) (size left : ℕ) → stage_of (staged left) (Some b) p bs size left ≡ stage_after b.head p bs (b.places) size left
staged_behind b p bs size left = staged_is (left == 0) b p bs size left

-- one precinct less is to come
pub one_less : (places : List Place) (p : Place) (later : List Place) → places ≡ p ∷ later → drop 1 places ≡ later
one_less places p later e = ap (λ (l : List Place). drop 1 l) e

pub given_size : (n : ℕ) (bytes : List ℕ) → n ≤ length bytes → length (take n bytes) ≡ n
given_size n bytes few = length-take-le n bytes few

-- bytes are passed
pub passed : (input new : InHand) (n codestreams : ℕ) (stage after : Stage) → n ≤ length input.bytes → new ≡ giving n input → walk_of new codestreams after ≡ passing (walk_of input codestreams stage) (take n input.bytes) (drop n input.bytes) after
passed input new n codestreams stage after few is = rw (is, given_size n input.bytes few) refl

-- a packet's header is given
pub gives_start : (stage : State) (b : Progress) (p0 : Place) (bs0 : List Block) (size left : ℕ) (input new : InHand) (codestreams : ℕ) (h : Head) (p : Place) (later : List Place) (n used body : ℕ) (blocks : List Block)
    → stage_of stage (Some b) p0 bs0 size left ≡ AtNext h (p ∷ later) n → IsPrecinct b.head p → JudgesPacket b.head p input.bytes (Whole used body) blocks → new ≡ giving used input
    → GivesStart (walk_of input codestreams (stage_of stage (Some b) p0 bs0 size left)) (Some b.head) (seen_of new codestreams (stage_of (staged body) (Some (after_packet b)) p blocks (size + used) body) (Some b.head) p blocks)
gives_start stage b p0 bs0 size left input new codestreams h p later n used body blocks e precinct (begins, few, body_is, fits) is =
    let parts = at_next stage b p0 bs0 size left h (p ∷ later) n e in
    let size_is = given_size used input.bytes few in
    let after : stage_of (staged body) (Some (after_packet b)) p blocks (size + used) body ≡ stage_after b.head p blocks later (size + length (take used input.bytes)) (segment_bytes blocks) =
    staged_behind (after_packet b) p blocks (size + used) body ∙ rw (one_less b.places p later parts.2, body_is, size_is) refl in
    record {
      head = b.head;
      place = p;
      later = later;
      size = size;
      blocks = blocks;
      front = take used input.bytes;
      rest = drop used input.bytes;
      stage = e ∙ rw (parts.1, parts.3) refl;
      is_precinct = precinct;
      begins = begins;
      fits = omega (arith, size_is, body_is, fits);
      now = passed input new used codestreams (stage_of stage (Some b) p0 bs0 size left) _ few is ∙ ap (λ (s : Stage). passing (walk_of input codestreams (stage_of stage (Some b) p0 bs0 size left)) (take used input.bytes) (drop used input.bytes) s) after;
      given = ap (λ (i : InHand). i.given) is;
      shown = refl;
      shown_place = refl;
      shown_blocks = refl;
    }

-- and then a reader is sound
some_left : (k : ℕ) → (k == 0) ≡ false → 1 ≤ k
some_left k f = grind arith

sound_by : (t : Bool) (h : Head) (p : Place) (bs : List Block) (later : List Place) (size left codestreams offset : ℕ) → (left == 0) ≡ t → codestreams < 65536 → size ≤ offset
    → IsSound (if t then AtNext h later size else InBody h p bs later size left) codestreams offset
sound_by true h p bs later size left codestreams offset e few within = (few, within)
sound_by false h p bs later size left codestreams offset e few within = (few, within, some_left left e)

pub sound_behind : (h : Head) (p : Place) (bs : List Block) (later : List Place) (size left codestreams offset : ℕ) → codestreams < 65536 → size ≤ offset → IsSound (stage_after h p bs later size left) codestreams offset
sound_behind h p bs later size left codestreams offset few within = sound_by (left == 0) h p bs later size left codestreams offset refl few within

begun_by : (t : Bool) (b : Progress) → HasBegun (if t then code.Next else code.Body) (Some b)
begun_by true b = tt
begun_by false b = tt

pub has_begun : (left : ℕ) (b : Progress) → HasBegun (staged left) (Some b)
has_begun left b = begun_by (left == 0) b

-- what is sound of a stage where a packet or EOC is next
pub sound_next : (stage : State) (b : Progress) (p : Place) (bs : List Block) (size left : ℕ) (h : Head) (later : List Place) (n codestreams offset : ℕ) → stage_of stage (Some b) p bs size left ≡ AtNext h later n → IsSound (stage_of stage (Some b) p bs size left) codestreams offset
    → (codestreams < 65536) × (size ≤ offset)
sound_next code.Start b p bs size left h later n codestreams offset e s = absurd (cc)
sound_next code.Next b p bs size left h later n codestreams offset e s = s
sound_next code.Body b p bs size left h later n codestreams offset e s = absurd (cc)
sound_next code.End b p bs size left h later n codestreams offset e s = absurd (cc)

-- after a packet's header
pub sound_started : (stage : State) (b : Progress) (p0 : Place) (bs0 : List Block) (size left : ℕ) (h : Head) (p : Place) (later : List Place) (n codestreams offset after used body : ℕ) (blocks : List Block)
    → stage_of stage (Some b) p0 bs0 size left ≡ AtNext h (p ∷ later) n → IsSound (stage_of stage (Some b) p0 bs0 size left) codestreams offset → after ≡ offset + used
    → IsSound (stage_of (staged body) (Some (after_packet b)) p blocks (size + used) body) codestreams after
sound_started stage b p0 bs0 size left h p later n codestreams offset after used body blocks e s is =
    let sound = sound_next stage b p0 bs0 size left h (p ∷ later) n codestreams offset e s in
    let Q : Stage → Type 0 = λ t. IsSound t codestreams after in
    subst Q (sym (staged_behind (after_packet b) p blocks (size + used) body)) (sound_behind b.head p blocks (drop 1 b.places) (size + used) body codestreams after sound.0 (omega (arith, sound.1)))

-- other code-blocks make no other stage where a packet or EOC is next
pub same_stage : (stage : State) (b : Progress) (p : Place) (bs cs : List Block) (size left : ℕ) (h : Head) (later : List Place) (n : ℕ) → stage_of stage (Some b) p bs size left ≡ AtNext h later n → stage_of stage (Some b) p cs size left ≡ stage_of stage (Some b) p bs size left
same_stage code.Start b p bs cs size left h later n e = refl
same_stage code.Next b p bs cs size left h later n e = refl
same_stage code.Body b p bs cs size left h later n e = absurd (cc)
same_stage code.End b p bs cs size left h later n e = refl

-- a packet's header isn't whole
pub wants_packet : (b : Progress) (stage : Stage) (h : Head) (p : Place) (later : List Place) (n codestreams : ℕ) (bytes : List ℕ) → stage ≡ AtNext h (p ∷ later) n → b.head ≡ h → HasFewBlocks b.head p → NeedsPacketHeaderBytes b.head p bytes → WantsIn stage codestreams bytes
wants_packet b stage h p later n codestreams bytes e same few needs =
    let P : Stage → Type 0 = λ t. WantsIn t codestreams bytes in
    let Q : Head → Type 0 = λ k. HasFewBlocks k p × NeedsPacketHeaderBytes k p bytes in
    subst P (sym e) (subst Q same (few, needs))

-- a packet is refused
pub refuses_packet : (b : Progress) (stage : Stage) (h : Head) (p : Place) (later : List Place) (n codestreams offset at : ℕ) (bytes : List ℕ) (why : WalkRefusal) → stage ≡ AtNext h (p ∷ later) n → b.head ≡ h → RefusesPacket b.head p bytes why → at ≡ offset
    → Refuses (record { hand = bytes; offset = offset; codestreams = codestreams; stage = stage }) at why
refuses_packet b stage h p later n codestreams offset at bytes why e same r is =
    let P : Stage → Type 0 = λ t. RefusesIn t codestreams bytes 0 why in
    let Q : Head → Type 0 = λ k. RefusesPacket k p bytes why in
    (0, subst P (sym e) (subst Q same r, refl), omega arith)

-- more of a packet's segments is given
pub gives_more : (stage : State) (begun : Option Progress) (p : Place) (bs : List Block) (size left : ℕ) (input new : InHand) (codestreams count : ℕ) → IsBody (stage_of stage begun p bs size left)
    → 1 ≤ count → count ≤ 4096 → count ≤ left → count ≤ length input.bytes → new ≡ giving count input
    → GivesMore (walk_of input codestreams (stage_of stage begun p bs size left)) (head_of begun) (seen_of new codestreams (stage_of (staged (left - count)) begun p bs (size + count) (left - count)) (head_of begun) p bs)
gives_more code.Body (Some b) p bs size left input new codestreams count body some few within there is =
    let size_is = given_size count input.bytes there in
    let after : stage_of (staged (left - count)) (Some b) p bs (size + count) (left - count) ≡ stage_after b.head p bs (b.places) (size + length (take count input.bytes)) (left - length (take count input.bytes)) =
    staged_behind b p bs (size + count) (left - count) ∙ rw size_is refl in
    record {
      head = b.head;
      place = p;
      blocks = bs;
      later = b.places;
      size = size;
      left = left;
      front = take count input.bytes;
      rest = drop count input.bytes;
      stage = refl;
      some = omega (arith, size_is);
      few = omega (arith, size_is);
      within = omega (arith, size_is);
      whole = sym (take-append-drop count input.bytes);
      now = passed input new count codestreams (stage_of code.Body (Some b) p bs size left) _ there is ∙ ap (λ (s : Stage). passing (walk_of input codestreams (stage_of code.Body (Some b) p bs size left)) (take count input.bytes) (drop count input.bytes) s) after;
      given = ap (λ (i : InHand). i.given) is;
      shown = refl;
      shown_place = refl;
      shown_blocks = refl;
    }
gives_more code.Body None p bs size left input new codestreams count (h, q, cs, later, n, m, e) some few within there is = absurd (cc)
gives_more code.Start begun p bs size left input new codestreams count (h, q, cs, later, n, m, e) some few within there is = absurd (cc)
gives_more code.Next (Some b) p bs size left input new codestreams count (h, q, cs, later, n, m, e) some few within there is = absurd (cc)
gives_more code.Next None p bs size left input new codestreams count (h, q, cs, later, n, m, e) some few within there is = absurd (cc)
gives_more code.End begun p bs size left input new codestreams count (h, q, cs, later, n, m, e) some few within there is = absurd (cc)

-- what is sound in a packet's segments
pub sound_body : (stage : State) (begun : Option Progress) (p : Place) (bs : List Block) (size left codestreams offset : ℕ) → IsBody (stage_of stage begun p bs size left) → IsSound (stage_of stage begun p bs size left) codestreams offset
    → (size ≤ offset) × (1 ≤ left) × ((after more : ℕ) → after ≡ offset + more → IsSound (stage_of (staged (left - more)) begun p bs (size + more) (left - more)) codestreams after) × HasBegun (staged (left - left)) begun
sound_body code.Body (Some b) p bs size left codestreams offset body (few, within, some) =
    let P : (after more : ℕ) → after ≡ offset + more → IsSound (stage_of (staged (left - more)) (Some b) p bs (size + more) (left - more)) codestreams after = λ after more is.
    (let Q : Stage → Type 0 = λ t. IsSound t codestreams after in
    subst Q (sym (staged_behind b p bs (size + more) (left - more))) (sound_behind b.head p bs (b.places) (size + more) (left - more) codestreams after few (omega (arith, within)))) in
    (within, some, P, has_begun (left - left) b)
sound_body code.Body None p bs size left codestreams offset (h, q, cs, later, n, m, e) s = absurd (cc)
sound_body code.Start begun p bs size left codestreams offset (h, q, cs, later, n, m, e) s = absurd (cc)
sound_body code.Next (Some b) p bs size left codestreams offset (h, q, cs, later, n, m, e) s = absurd (cc)
sound_body code.Next None p bs size left codestreams offset (h, q, cs, later, n, m, e) s = absurd (cc)
sound_body code.End begun p bs size left codestreams offset (h, q, cs, later, n, m, e) s = absurd (cc)

-- a main header is given
pub gives_head : (b : Progress) (p : Place) (bs : List Block) (size left : ℕ) (input new : InHand) (codestreams : ℕ) → codestreams < 65536 → SpellsHead b.head (take size input.bytes) → IsPacketOrder b.head b.places → size ≤ length input.bytes → new ≡ giving size input
    → GivesHead (walk_of input codestreams AtStart) (seen_of new codestreams (AtNext b.head b.places size) (Some b.head) p bs)
gives_head b p bs size left input new codestreams few spells order there is =
    let size_is = given_size size input.bytes there in
    record {
      head = b.head;
      order = b.places;
      front = take size input.bytes;
      rest = drop size input.bytes;
      stage = refl;
      few = few;
      is_head = spells;
      is_order = order;
      whole = sym (take-append-drop size input.bytes);
      now = passed input new size codestreams AtStart (AtNext b.head b.places size) there is ∙ ap (λ (n : ℕ). passing (walk_of input codestreams AtStart) (take size input.bytes) (drop size input.bytes) (AtNext b.head b.places n)) (sym size_is);
      given = ap (λ (i : InHand). i.given) is;
      shown = refl;
    }

-- the main header that was read is given
pub begins_head : (g h : Head) (order : List Place) (p : Place) (bs : List Block) (n size : ℕ) (input new : InHand) (codestreams : ℕ) (stage : Stage)
    → stage ≡ AtStart → g ≡ h → size ≡ h.length → n ≡ h.length → codestreams < 65536 → SpellsHead h (take h.length input.bytes) → IsPacketOrder g order → new ≡ giving n input
    → GivesHead (walk_of input codestreams stage) (seen_of new codestreams (AtNext g order size) (Some g) p bs)
begins_head g h order p bs n size input new codestreams stage start same size_is n_is few spells is_order is =
    let there : h.length ≤ length input.bytes = omega (arith, ap (λ (k : Head). k.length) spells.values, length-take h.length input.bytes) in
    let same_size : n ≡ size = n_is ∙ sym size_is in
    let b : Progress = record { head = g; places = order } in
    let P : Head → Type 0 = λ k. SpellsHead k (take size input.bytes) in
    let Q : ℕ → Type 0 = λ k. SpellsHead h (take k input.bytes) in
    let R : Stage → Type 0 = λ t. GivesHead (walk_of input codestreams t) (seen_of new codestreams (AtNext g order size) (Some g) p bs) in
    subst R (sym start) (gives_head b p bs size 0 input new codestreams few (subst P (sym same) (subst Q (sym size_is) spells)) is_order (omega arith) (is ∙ ap (λ (k : ℕ). giving k input) same_size))

-- the next precinct
pub next_place : (stage : State) (b : Progress) (p0 : Place) (bs0 : List Block) (size left : ℕ) (h : Head) (later : List Place) (n : ℕ) (p : Place)
    → stage_of stage (Some b) p0 bs0 size left ≡ AtNext h later n → b.places ≡ p ∷ drop 1 b.places
    → stage_of stage (Some b) p0 bs0 size left ≡ AtNext h (p ∷ drop 1 b.places) n
next_place stage b p0 bs0 size left h later n p e is =
    let parts = at_next stage b p0 bs0 size left h later n e in
    e ∙ ap (λ (l : List Place). AtNext h l n) (sym parts.2 ∙ is)

-- a refusal
pub refused_answer : (r : Judged) (at : ℕ) (why : WalkWhy) (u v : Seen) → r ≡ Piece (Refused (record { at = at; why = why })) → Refuses u.walk at (walk_refusal why) → IsDone u.head v → Judges r u v
refused_answer r at why u v e refuses done = let P : Judged → Type 0 = λ j. Judges j u v in subst P (sym e) (refuses, done)

-- what is sound where a codestream may begin
pub sound_start : (stage : Stage) (codestreams offset : ℕ) → stage ≡ AtStart → IsSound stage codestreams offset → codestreams ≤ 65536
sound_start stage codestreams offset e s = let P : Stage → Type 0 = λ t. IsSound t codestreams offset in subst P e s

pub wants_head : (stage : Stage) (codestreams at : ℕ) (bytes : List ℕ) → stage ≡ AtStart → codestreams < 65536 → RefusesHead bytes at HeadCut → WantsIn stage codestreams bytes
wants_head stage codestreams at bytes e few r = let P : Stage → Type 0 = λ t. WantsIn t codestreams bytes in subst P (sym e) (inr (few, (at, r)))

pub refuses_head : (stage : Stage) (codestreams offset at place : ℕ) (bytes : List ℕ) (why : HeadRefusal) → stage ≡ AtStart → 1 ≤ length bytes → codestreams < 65536 → RefusesHead bytes at why → (why ≡ HeadCut → ⊥) → place ≡ offset + at
    → Refuses (record { hand = bytes; offset = offset; codestreams = codestreams; stage = stage }) place (HeadRefused why)
refuses_head stage codestreams offset at place bytes why e some few r other is =
    let P : Stage → Type 0 = λ t. RefusesIn t codestreams bytes at (HeadRefused why) in
    (at, subst P (sym e) (some, inr (few, (r, other))), is)

-- only missing bytes are missing bytes
pub not_cut : (w : HeadWhy) → (w ≡ head_why.Cut → ⊥) → refusal_of w ≡ HeadCut → ⊥
not_cut head_why.Cut n e = n refl
not_cut head_why.NoSoc n e = absurd (cc)
not_cut head_why.NoSiz n e = absurd (cc)
not_cut (head_why.Marker m) n e = absurd (cc)
not_cut head_why.Length n e = absurd (cc)
not_cut (head_why.Twice m) n e = absurd (cc)
not_cut (head_why.Missing m) n e = absurd (cc)
not_cut head_why.Tiles n e = absurd (cc)
not_cut head_why.Components n e = absurd (cc)
not_cut head_why.Step n e = absurd (cc)
not_cut head_why.Area n e = absurd (cc)
not_cut head_why.Rsiz n e = absurd (cc)
not_cut head_why.Cap n e = absurd (cc)
not_cut head_why.Order n e = absurd (cc)
not_cut head_why.Layers n e = absurd (cc)
not_cut head_why.Levels n e = absurd (cc)
not_cut head_why.Blocks n e = absurd (cc)
not_cut head_why.Style n e = absurd (cc)
not_cut head_why.Precinct n e = absurd (cc)
not_cut head_why.Quant n e = absurd (cc)
not_cut head_why.Sop n e = absurd (cc)
not_cut head_why.TileHeader n e = absurd (cc)
not_cut head_why.Ids n e = absurd (cc)
not_cut head_why.TooLong n e = absurd (cc)

-- the same of a reader that is seen so
pub head_seen : (a u v : Seen) → a ≡ u → GivesHead a.walk v → GivesHead u.walk v
head_seen a u v e g = let P : Seen → Type 0 = λ x. GivesHead x.walk v in subst P e g

pub start_seen : (a u v : Seen) → a ≡ u → GivesStart a.walk a.head v → GivesStart u.walk u.head v
start_seen a u v e g = let P : Seen → Type 0 = λ x. GivesStart x.walk x.head v in subst P e g

pub more_seen : (a u v : Seen) → a ≡ u → GivesMore a.walk a.head v → GivesMore u.walk u.head v
more_seen a u v e g = let P : Seen → Type 0 = λ x. GivesMore x.walk x.head v in subst P e g

-- the main header of the codestream is shown
pub shows_of : (state : State) (begun : Option Progress) (p : Place) (bs : List Block) (size left : ℕ) → ShowsHeadAt (stage_of state begun p bs size left) (head_of begun)
shows_of code.Start begun p bs size left = tt
shows_of code.Next (Some b) p bs size left = refl
shows_of code.Next None p bs size left = tt
shows_of code.Body (Some b) p bs size left = refl
shows_of code.Body None p bs size left = tt
shows_of code.End begun p bs size left = tt

-- the packet order from the first precinct on
pub first_order : (h g : Head) (places : List Place) → g ≡ h → IsWithinLimits h → packet_order g ≡ places → IsPacketOrder h places
first_order h g places same limits is =
    let P : List Place → Type 0 = λ l. IsPacketOrder h l in
    subst P (ap (λ (k : Head). packet_order k) (sym same) ∙ is) (packet_order_is_computed h (has_steps h limits))
