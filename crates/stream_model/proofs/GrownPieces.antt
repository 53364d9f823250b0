-- What is there of a codestream's packets grows as more bytes come.
use Rattle.std.proofs.Common.{◌≡◌, ◌⊎◌, ℕ, List, [], ◌∷◌, ◌++◌, length, take, drop, subst, refl, sym, ◌∙◌, ap, inl, inr, arith, append_assoc}
use Rattle.std.proofs.lemmas.Bool.{cases_lt}
use Rattle.std.proofs.lemmas.List.{append-nil, length-append, length-take, take-append-drop}
use Rattle.codestream_model.proofs.PacketsOneWay.{one_marked, one_packet}
use Rattle.codestream_model.specs.Values.{Head, Place}
use Rattle.codestream_model.specs.Precincts.{grids}
use Rattle.codestream_model.specs.Packet.{Content, segment_bytes, SpellsPacket, BeginsPacket, LacksSegments}
use Rattle.codestream_model.specs.Codestream.{joined}
use Rattle.codestream_model.proofs.OneWayLemmas.{fronts, same_front}
use Rattle.codestream_model.proofs.OwnBands.{own_bands}
use Rattle.stream_model.specs.Stream.{ArePackets}
use Rattle.stream_model.specs.Cut.{Piece, pieces_of, IsOpened}
use Rattle.stream_model.specs.Laws.{HasGrown}

-- where a packet is whole, its segments aren't lacking
whole_lacks_none : (h : Head) (p : Place) (x : Content) (packet more bytes : List ℕ) → SpellsPacket h p x packet → bytes ≡ packet ++ more → LacksSegments h p bytes → ⊥
whole_lacks_none h p x packet more bytes s e t =
    let split : t.header ++ t.rest ≡ s.header ++ (x.bytes ++ more) = sym t.begins.whole ∙ (e ∙ (ap (λ (l : List ℕ). l ++ more) s.whole ∙ append_assoc s.header x.bytes more)) in
    let one = one_marked (grids h p) h.eph t.blocks x.blocks t.header s.header t.rest (x.bytes ++ more) (own_bands h p) t.begins.is_header s.is_header split in
    let behind = (same_front t.header s.header t.rest (x.bytes ++ more) (ap length one.0) split).1 in
    omega (arith, t.lacks, ap segment_bytes one.1, s.segments, ap length behind, length-append x.bytes more)

-- with more bytes the segments are still lacking, or the packet is whole
lacks_or_whole : (h : Head) (p : Place) (bytes more : List ℕ) → LacksSegments h p bytes
    → LacksSegments h p (bytes ++ more) ⊎ ((x : Content) × (packet : List ℕ) × (rest : List ℕ) × SpellsPacket h p x packet × (bytes ++ more ≡ packet ++ rest))
lacks_or_whole h p bytes more t =
    let behind = t.rest ++ more in
    let split : bytes ++ more ≡ t.header ++ behind = ap (λ (l : List ℕ). l ++ more) t.begins.whole ∙ append_assoc t.header t.rest more in
    let begins : BeginsPacket h p t.blocks t.header behind (bytes ++ more) = record { few_blocks = t.begins.few_blocks; is_header = t.begins.is_header; whole = split } in
    elim (cases_lt (length behind) (segment_bytes t.blocks)) [
      | inl lacks ↦ inl (record { blocks = t.blocks; header = t.header; rest = behind; begins = begins; fits = t.fits; lacks = lacks })
      | inr there ↦
          let n = segment_bytes t.blocks in
          let body = take n behind in
          let x : Content = record { blocks = t.blocks; bytes = body } in
          let size : length body ≡ n = omega (arith, length-take n behind) in
          let whole : bytes ++ more ≡ (t.header ++ body) ++ drop n behind = split ∙ (ap (λ (l : List ℕ). t.header ++ l) (sym (take-append-drop n behind)) ∙ sym (append_assoc t.header body (drop n behind))) in
          let s : SpellsPacket h p x (t.header ++ body) = record { header = t.header; few_blocks = t.begins.few_blocks; is_header = t.begins.is_header; segments = size; whole = refl; short = omega (arith, t.fits, size, length-append t.header body) } in
          inr (x, t.header ++ body, drop n behind, s, whole)
    ]

-- a whole packet isn't what is there of one
not_opened : (h : Head) (p : Place) (later : List Place) (x : Content) (packet more bytes : List ℕ) (opened : List Piece) → SpellsPacket h p x packet → bytes ≡ packet ++ more → IsOpened h (p ∷ later) bytes opened → ⊥
not_opened h p later x packet more bytes opened s e (inl t) = whole_lacks_none h p x packet more bytes s e t.0
not_opened h p later x packet more bytes opened s e (inr t) = t.1 x packet more s e

-- nothing has grown to anything
from_nothing : (was now : List Piece) → was ≡ [] → HasGrown was now
from_nothing was now e = inl e

-- a prefix of one packet has grown
from_front : (p : Place) (bytes extra : List ℕ) (more was now : List Piece) → was ≡ record { place = p; bytes = bytes } ∷ [] → now ≡ record { place = p; bytes = bytes ++ extra } ∷ more → HasGrown was now
from_front p bytes extra more was now e f = inr ([], record { place = p; bytes = bytes }, extra, more, e, f)

-- what is there where a packet is still to come whole
opened_grows : (h : Head) (later : List Place) (rest more : List ℕ) (opened now : List Piece) → IsOpened h later rest opened → IsOpened h later (rest ++ more) now → HasGrown opened now
opened_grows h [] rest more opened now a b = inl a
opened_grows h (p ∷ later) rest more opened now (inr a) b = inl a.2
opened_grows h (p ∷ later) rest more opened now (inl a) (inl b) = from_front p rest more [] opened now a.1 b.1
opened_grows h (p ∷ later) rest more opened now (inl a) (inr b) = elim (lacks_or_whole h p rest more a.0) [
  | inl t ↦ absurd (b.0 t)
  | inr t ↦ absurd (b.1 t.0 t.1 t.2 t.3 t.4)
]

-- what is there where a packet has come whole
opened_closes : (h : Head) (p : Place) (later : List Place) (rest more : List ℕ) (opened : List Piece) (x : Content) (packet tail : List ℕ) (pieces : List Piece)
    → IsOpened h (p ∷ later) rest opened → SpellsPacket h p x packet → rest ++ more ≡ packet ++ tail → HasGrown opened (record { place = p; bytes = packet } ∷ pieces)
opened_closes h p later rest more opened x packet tail pieces (inr a) s e = inl a.2
opened_closes h p later rest more opened x packet tail pieces (inl a) s e =
    let f = fronts rest packet more tail e in
    elim f.1 [
      | inl g ↦ from_front p rest f.0 pieces opened (record { place = p; bytes = packet } ∷ pieces) a.1 (ap (λ (l : List ℕ). record { place = p; bytes = l } ∷ pieces) g)
      | inr g ↦ absurd (whole_lacks_none h p x packet f.0 rest s g a.0)
    ]

-- a piece before what has grown
grown_behind : (x : Piece) (was now : List Piece) → HasGrown was now → HasGrown (x ∷ was) (x ∷ now)
grown_behind x was now (inl e) = inr ([], x, [], now, ap (λ (l : List Piece). x ∷ l) e, ap (λ (l : List ℕ). record { place = x.place; bytes = l } ∷ now) (sym (append-nil x.bytes)))
grown_behind x was now (inr (front, last, extra, more, e, f)) = inr (x ∷ front, last, extra, more, ap (λ (l : List Piece). x ∷ l) e, ap (λ (l : List Piece). x ∷ l) f)

-- the same packet of the same precinct
grown_as : (p q : Place) (c d : List ℕ) (was now : List Piece) → p ≡ q → c ≡ d → HasGrown was now → HasGrown (record { place = p; bytes = c } ∷ was) (record { place = q; bytes = d } ∷ now)
grown_as p q c d was now e f g =
    let G : Piece → Type 0 = λ r. HasGrown (record { place = p; bytes = c } ∷ was) (r ∷ now) in
    let same : record { place = p; bytes = c } ≡ record { place = q; bytes = d } = rw (e, f) refl in
    subst G same (grown_behind (record { place = p; bytes = c }) was now g)

-- the parts of equal lists
first_same : (x y : Place) (xs ys : List Place) → x ∷ xs ≡ y ∷ ys → (x ≡ y) × (xs ≡ ys)
first_same x y xs ys e = (cc, cc)

-- the packets of one codestream, as far as they are there in bytes and in more bytes
pub pieces_grow : (h : Head) (before later known_later known : List Place) (content said : List Content) (packets seen : List (List ℕ)) (rest tail more : List ℕ) (opened now : List Piece)
    → ArePackets h before content packets → ArePackets h known said seen → before ++ later ≡ known ++ known_later → (joined packets ++ rest) ++ more ≡ joined seen ++ tail
    → IsOpened h later rest opened → IsOpened h known_later tail now → HasGrown (pieces_of before packets ++ opened) (pieces_of known seen ++ now)
pieces_grow h [] later known_later [] [] [] [] [] rest tail more opened now a b o e f g =
    let P : List Place → Type 0 = λ l. IsOpened h l tail now in
    let Q : List ℕ → Type 0 = λ l. IsOpened h later l now in
    opened_grows h later rest more opened now f (subst Q (sym e) (subst P (sym o) g))
pieces_grow h [] later known_later (q ∷ known) [] (y ∷ said) [] (c ∷ seen) rest tail more opened now a b o e f g =
    let P : List Place → Type 0 = λ l. IsOpened h l rest opened in
    opened_closes h q (known ++ known_later) rest more opened y c (joined seen ++ tail) (pieces_of known seen ++ now) (subst P o f) b.0 (e ∙ append_assoc c (joined seen) tail)
pieces_grow h (p ∷ before) later known_later [] (x ∷ content) [] (c ∷ packets) [] rest tail more opened now a b o e f g =
    let P : List Place → Type 0 = λ l. IsOpened h l tail now in
    let split : tail ≡ c ++ ((joined packets ++ rest) ++ more) = sym e ∙ (ap (λ (l : List ℕ). l ++ more) (append_assoc c (joined packets) rest) ∙ append_assoc c (joined packets ++ rest) more) in
    absurd (not_opened h p (before ++ later) x c ((joined packets ++ rest) ++ more) tail now a.0 split (subst P (sym o) g))
pieces_grow h (p ∷ before) later known_later (q ∷ known) (x ∷ content) (y ∷ said) (c ∷ packets) (d ∷ seen) rest tail more opened now a b o e f g =
    let order = first_same p q (before ++ later) (known ++ known_later) o in
    let S : Place → Type 0 = λ r. SpellsPacket h r y d in
    let split : c ++ ((joined packets ++ rest) ++ more) ≡ d ++ (joined seen ++ tail) =
    sym (ap (λ (l : List ℕ). l ++ more) (append_assoc c (joined packets) rest) ∙ append_assoc c (joined packets ++ rest) more) ∙ (e ∙ append_assoc d (joined seen) tail) in
    let one = (one_packet h p x y c d ((joined packets ++ rest) ++ more) (joined seen ++ tail) a.0 (subst S (sym order.0) b.0) split).0 in
    let behind = (same_front c d ((joined packets ++ rest) ++ more) (joined seen ++ tail) (ap length one) split).1 in
    grown_as p q c d (pieces_of before packets ++ opened) (pieces_of known seen ++ now) order.0 one (pieces_grow h before later known_later known content said packets seen rest tail more opened now a.1 b.1 order.1 behind f g)
pieces_grow h [] later known_later known [] said (c ∷ packets) seen rest tail more opened now a b o e f g = absurd a
pieces_grow h [] later known_later known (x ∷ content) said packets seen rest tail more opened now a b o e f g = absurd a
pieces_grow h (p ∷ before) later known_later known [] said packets seen rest tail more opened now a b o e f g = absurd a
pieces_grow h (p ∷ before) later known_later known (x ∷ content) said [] seen rest tail more opened now a b o e f g = absurd a
pieces_grow h before later known_later [] content [] packets (d ∷ seen) rest tail more opened now a b o e f g = absurd b
pieces_grow h before later known_later [] content (y ∷ said) packets seen rest tail more opened now a b o e f g = absurd b
pieces_grow h before later known_later (q ∷ known) content [] packets seen rest tail more opened now a b o e f g = absurd b
pieces_grow h before later known_later (q ∷ known) content (y ∷ said) packets [] rest tail more opened now a b o e f g = absurd b
