-- What is known before each Body of a codestream: the packets that are still to come, and whether a run reaches them.
use Rattle.std.proofs.Common.{◌≡◌, ◌⊎◌, ◌<◌, ◌≤◌, ◌+◌, ◌-◌, ℕ, Bool, true, false, List, [], ◌∷◌, ◌++◌, map, length, take, None, subst, refl, sym, ◌∙◌, ap, inl, inr, arith}
use Rattle.std.specs.List.{AllByRecursion, flat_map, sum_by}
use Rattle.std.proofs.lemmas.List.Sums.{sum_by-append, sum_by-cons}
use Rattle.std.proofs.Math.Seq.{take-append_seam, take-append-add}
use Rattle.wire_model.specs.Payload.{PayloadFields, Main, Body}
use Rattle.wire_model.specs.Datagram.{Datagram}
use Rattle.codestream_model.specs.Values.{Place}
use Rattle.codestream_model.specs.Packet.{Content}
use Rattle.codestream_model.proofs.Members.{Has}
use Rattle.codestream_model.proofs.TreeLemmas.{either}
use Rattle.stream_model.specs.Stream.{Parts, ArePartsOf, Sent, Mark, IsResync, mark_of, marks, packet_start, payload_start, precinct_at, packet_span, carried_at}
use Rattle.stream_model.specs.Reached.{ResyncPoint}
use Rattle.stream_model.specs.Decoder.{Decoder, run_of}
use Rattle.stream_model.specs.RunLaws.{reaches, current_of}
use Rattle.stream_model.proofs.Positions.{placed}
use Rattle.stream_model.proofs.CutPayloads.{all-append}
use Rattle.stream_model.proofs.CutBodies.{all_imply}
use Rattle.stream_model.proofs.RunRules.{state}
use Rattle.stream_model.proofs.RunPlaces.{Here, body_is}
use Rattle.stream_model.proofs.RunReach.{Fails, reach_false, point, later_precinct}

-- the marks of Bodies, of which the first has this number and begins n bytes after SOD
abbrev pub marks_from : ℕ → ℕ → List Datagram → List Mark
marks_from i at rest = flat_map (λ ms. ms) (placed (λ x. length x.codestream) (λ j from x. mark_of j from x.payload) i at rest)

-- they are after its start
mark_high : (i at : ℕ) (h : PayloadFields) → AllByRecursion (λ m. (at ≤ m.place) × (m.body ≡ i)) (mark_of i at h)
mark_high i at (Main h) = tt
mark_high i at (Body h) = elim (either h.ordb) [ inl t ↦ rw t ((omega arith, refl), tt) | inr t ↦ rw t tt ]

-- so with many Bodies
pub marks_high : (i at : ℕ) (rest : List Datagram) → AllByRecursion (λ m. at ≤ m.place) (marks_from i at rest)
marks_high i at [] = tt
marks_high i at (x ∷ rest) =
    all-append (λ (m : Mark). at ≤ m.place) (mark_of i at x.payload) (marks_from (i + 1) (at + length x.codestream) rest)
    (all_imply (λ (m : Mark). (at ≤ m.place) × (m.body ≡ i)) (λ m. at ≤ m.place) (mark_of i at x.payload) (λ m h. h.0) (mark_high i at x.payload))
    (all_imply (λ (m : Mark). at + length x.codestream ≤ m.place) (λ m. at ≤ m.place) (marks_from (i + 1) (at + length x.codestream) rest) (λ m h. omega arith) (marks_high (i + 1) (at + length x.codestream) rest))

-- and have its number
pub own_body : (i at : ℕ) (h : PayloadFields) → AllByRecursion (λ m. m.body ≡ i) (mark_of i at h)
own_body i at h = all_imply (λ (m : Mark). (at ≤ m.place) × (m.body ≡ i)) (λ m. m.body ≡ i) (mark_of i at h) (λ m t. t.1) (mark_high i at h)

-- whether a precinct is reached
abbrev pub test : (ℕ → Bool) → ℕ → Sent → ℕ → Bool
test there main s j = reaches there (carried_at main s) j (packet_span s main j)

-- something is missing after a resync point, below this position
abbrev pub Lost : (ℕ → Bool) → ℕ → ResyncPoint → Type 0
Lost there bound r = (x : ℕ) × (r.at ≤ x) × (x < bound) × (there x ≡ false)

-- something is missing after the Main, and after each of these marks
abbrev pub Dead : (ℕ → Bool) → ℕ → Sent → ℕ → List Mark → Type 0
Dead there main s bound ms = Lost there bound (record { at = main; precinct = 0 }) × AllByRecursion (λ m. Lost there bound (point main s m)) ms

-- nothing is missing after a resync point of a precinct at or before this one
abbrev pub Alive : (ℕ → Bool) → ℕ → Sent → ℕ → ℕ → Type 0
Alive there main s bound k = (r : ResyncPoint) × Has (carried_at main s).resyncs r × (r.precinct ≤ k) × ((x : ℕ) → r.at ≤ x → x < bound → there x ≡ true)

-- what is known before a Body
pub record At (d0 : Decoder) (s : Sent) (main : ℕ) (there : ℕ → Bool) (i at : ℕ) (rest : List Datagram) (ps : List Place) (xs : List Content) (bs : List (List ℕ)) (got : List ℕ) (d : Decoder) : Type 0 where
  pub here : Here s.parts at ps xs bs got (flat_map (λ x. x.codestream) rest)
  pub front : List Datagram
  pub bodies : s.bodies ≡ front ++ rest
  pub count : length front ≡ i
  pub start : at ≡ sum_by (λ x. length x.codestream) front
  pub earlier : List Mark
  pub low : AllByRecursion (λ m. m.body < i) earlier
  pub marks_are : marks s.bodies ≡ earlier ++ marks_from i at rest
  pub right : AllByRecursion (IsResync s.parts) (marks_from i at rest)
  pub run :
      (Alive there main s (main + 1 + i) (length here.done) × (d ≡ state d0 (current_of s) (run_of ps) got None))
      ⊎ (Dead there main s (main + 1 + i) earlier × (d ≡ state d0 (current_of s) None [] None))

-- where the Body is
pub body_start : (d0 : Decoder) (s : Sent) (main : ℕ) (there : ℕ → Bool) (i at : ℕ) (x : Datagram) (rest : List Datagram) (ps : List Place) (xs : List Content) (bs : List (List ℕ)) (got : List ℕ) (d : Decoder) (a : At d0 s main there i at (x ∷ rest) ps xs bs got d)
    → (payload_start s.bodies i ≡ at) × (payload_start s.bodies (i + 1) ≡ at + length x.codestream)
body_start d0 s main there i at x rest ps xs bs got d a =
    let f : Datagram → ℕ = λ y. length y.codestream in
    let one = ap (λ l. sum_by f (take (length a.front) l)) a.bodies ∙ ap (sum_by f) (take-append_seam a.front (x ∷ rest)) in
    let two = ap (λ l. sum_by f (take (length a.front + 1) l)) a.bodies ∙ (ap (sum_by f) (take-append-add a.front (x ∷ rest) 1) ∙ sum_by-append f a.front (x ∷ [])) in
    let last = sum_by-cons f x [] in
    let e = ap (payload_start s.bodies) (sym a.count) in
    let g = ap (λ n. payload_start s.bodies (n + 1)) (sym a.count) in
    (omega (arith, one, e, a.start), omega (arith, two, g, last, a.start))

-- the last byte of a packet that ends in the Body is in it
pub last_is : (d0 : Decoder) (s : Sent) (main : ℕ) (there : ℕ → Bool) (i at : ℕ) (x : Datagram) (rest : List Datagram) (ps : List Place) (xs : List Content) (bs : List (List ℕ)) (got : List ℕ) (d : Decoder) (a : At d0 s main there i at (x ∷ rest) ps xs bs got d) (j : ℕ)
    → at < packet_start s.parts (j + 1) → packet_start s.parts (j + 1) ≤ at + length x.codestream → (packet_span s main j).last ≡ main + 1 + i
last_is d0 s main there i at x rest ps xs bs got d a j low high =
    let b = body_start d0 s main there i at x rest ps xs bs got d a in
    ap (λ n. main + 1 + n) (body_is s.bodies i (packet_start s.parts (j + 1) - 1) (omega (arith, b.0)) (omega (arith, b.1)))

-- what is said of each mark is said of each point
all_points : (P : ResyncPoint → Type 0) (main : ℕ) (s : Sent) (ms : List Mark) → AllByRecursion (λ m. P (point main s m)) ms → AllByRecursion P (map (point main s) ms)
all_points P main s [] h = tt
all_points P main s (m ∷ ms) h = (h.0, all_points P main s ms h.1)

-- the Body's own marks
own_fail : (there : ℕ → Bool) (j last main i : ℕ) (s : Sent) (ms : List Mark) → last ≡ main + 1 + i → AllByRecursion (λ m. (j < precinct_at s.parts m.place) ⊎ (there (main + 1 + i) ≡ false)) ms → AllByRecursion (λ m. m.body ≡ i) ms
    → AllByRecursion (λ m. Fails there j last (point main s m)) ms
own_fail there j last main i s [] is h k = tt
own_fail there j last main i s (m ∷ ms) is h k =
    (elim h.0 [ inl high ↦ inl high | inr none ↦ inr (main + 1 + i, omega (arith, k.0), omega (arith, is), none) ], own_fail there j last main i s ms is h.1 k.1)

-- and those after it
pub after_own : (c : Parts) (ms later : List Mark) → AllByRecursion (IsResync c) (ms ++ later) → AllByRecursion (IsResync c) later
after_own c [] later h = h
after_own c (m ∷ ms) later h = after_own c ms later h.1

-- fail by their precincts
later_fail : (there : ℕ → Bool) (j last main : ℕ) (s : Sent) (codestream : List ℕ) (parts : ArePartsOf s.parts codestream) (from : ℕ) (ms : List Mark) → j < length s.parts.packets → packet_start s.parts (j + 1) ≤ from
    → AllByRecursion (IsResync s.parts) ms → AllByRecursion (λ m. from ≤ m.place) ms → AllByRecursion (λ m. Fails there j last (point main s m)) ms
later_fail there j last main s codestream parts from [] few high right behind = tt
later_fail there j last main s codestream parts from (m ∷ ms) few high right behind =
    (inl (later_precinct s.parts codestream parts j from m few high right.0 behind.0), later_fail there j last main s codestream parts from ms few high right.1 behind.1)

-- a packet that ends in the Body isn't reached where something is missing after each mark before it, and the Body's own mark is of a
-- later precinct or the Body is missing
pub none_reached : (d0 : Decoder) (s : Sent) (main : ℕ) (there : ℕ → Bool) (i at : ℕ) (x : Datagram) (rest : List Datagram) (ps : List Place) (xs : List Content) (bs : List (List ℕ)) (got : List ℕ) (d : Decoder) (a : At d0 s main there i at (x ∷ rest) ps xs bs got d)
    (codestream : List ℕ) (parts : ArePartsOf s.parts codestream) (j : ℕ) → Dead there main s (main + 1 + (i + 1)) a.earlier → j < length s.parts.packets → at < packet_start s.parts (j + 1) → packet_start s.parts (j + 1) ≤ at + length x.codestream
    → AllByRecursion (λ m. (j < precinct_at s.parts m.place) ⊎ (there (main + 1 + i) ≡ false)) (mark_of i at x.payload) → test there main s j ≡ false
none_reached d0 s main there i at x rest ps xs bs got d a codestream parts j dead few low high own =
    let last = (packet_span s main j).last in
    let is : last ≡ main + 1 + i = last_is d0 s main there i at x rest ps xs bs got d a j low high in
    let F : ResyncPoint → Type 0 = Fails there j last in
    let lost : (r : ResyncPoint) → Lost there (main + 1 + (i + 1)) r → F r = λ r l. inr (l.0, l.1, omega (arith, l.2, is), l.3) in
    let mine = mark_of i at x.payload in
    let later = marks_from (i + 1) (at + length x.codestream) rest in
    let one : AllByRecursion (λ m. F (point main s m)) a.earlier = all_imply (λ m. Lost there (main + 1 + (i + 1)) (point main s m)) (λ m. F (point main s m)) a.earlier (λ m l. lost (point main s m) l) dead.1 in
    let two : AllByRecursion (λ m. F (point main s m)) mine =
    own_fail there j last main i s mine is own (own_body i at x.payload) in
    let three : AllByRecursion (λ m. F (point main s m)) later =
    later_fail there j last main s codestream parts (at + length x.codestream) later few high (after_own s.parts mine later a.right) (marks_high (i + 1) (at + length x.codestream) rest) in
    let all : AllByRecursion (λ m. F (point main s m)) (a.earlier ++ (mine ++ later)) = all-append (λ m. F (point main s m)) a.earlier (mine ++ later) one (all-append (λ m. F (point main s m)) mine later two three) in
    let P : List Mark → Type 0 = λ l. AllByRecursion (λ m. F (point main s m)) l in
    reach_false there (carried_at main s) j (packet_span s main j) (lost (record { at = main; precinct = 0 }) dead.0, all_points F main s (marks s.bodies) (subst P (sym a.marks_are) all))
