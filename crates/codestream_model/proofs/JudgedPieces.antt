-- What the reader makes of each kind of piece.
use Rattle.std.proofs.Common.{◌≡◌, ◌≢◌, ◌<◌, ◌≤◌, ◌+◌, ◌-◌, ◌^◌, ℕ, zero, suc, Bool, true, false, List, [], ◌∷◌, ◌++◌, length, take, Option, Some, None, nat_le, nat_lt, refl, sym, ◌∙◌, ap, inl, inr, arith, if◌then◌else◌}
use Rattle.std.proofs.lemmas.Bool.{le-leb, lt-leb, leb-false}
use Rattle.std.proofs.lemmas.Bool.Decides.{eqb_tells, leb_tells}
use Rattle.std.proofs.lemmas.List.{length-append, length-take}
use Rattle.codestream_model.specs.StuffedBits.{number_bits}
use Rattle.codestream_model.specs.TagTrees.{Step}
use Rattle.codestream_model.specs.HeaderPieces.{HeaderRefusal, ZeroPlanes, Passes, LengthBits, CleanupShort, CleanupLong, RefineLong, InclusionPiece, PlanesPiece, PassesPiece, LblockPiece, CleanupPiece, RefinePiece, run_of, fault_of, IsSound, refine_width}
use Rattle.codestream_model.specs.PacketHeaderReading.{Read, Got, AtEnd, Refused, and_then, unless, read_bit, read_label, read_passes, read_lblock, read_number, read_cleanup, read_refine}
use Rattle.codestream_model.proofs.BitLemmas.{number_bits-length}
use Rattle.codestream_model.proofs.ReadingLemmas.{label_read, lblock_read, passes_read, number_read, refine_pieces}
use Rattle.codestream_model.proofs.StopLemmas.{StopsIn, stop, Judged, judged_none, judged_same, judged_one}

-- a prefix of one bit that isn't all
short_front : (b : Bool) (bits rest : List Bool) → b ∷ [] ≡ bits ++ rest → 1 ≤ length rest → bits ≡ []
short_front b [] rest e h = refl
short_front b (c ∷ bits) rest e h = absurd (omega (arith, ap length e, length-append bits rest))

-- a bit of the inclusion tree
bit_stops : (b : Bool) (bits : List Bool) (r : Option HeaderRefusal) → StopsIn (InclusionPiece b) bits r → read_bit bits ≡ stop r
bit_stops b bits None s = ap read_bit (short_front b bits s.0 s.1 s.2)
bit_stops b bits (Some why) s = let e : None ≡ Some why = s.1 in absurd (cc)

-- is read, or stops
pub bit_judged : (b : Bool) → Judged read_bit (λ x. Unit {0}) (InclusionPiece b ∷ []) b
bit_judged b = judged_one read_bit (λ x. Unit {0}) (InclusionPiece b) b (λ h. (tt, λ more. refl)) (bit_stops b)

-- a label is at its end in any front that doesn't decide it,
label_cut : (bits : List Bool) (least d : ℕ) (rest : List Bool) → take (75 - least) (run_of false d true) ≡ bits ++ rest → 1 ≤ length rest → read_label least bits ≡ AtEnd
unfolding read_label
label_cut [] least d rest e h = refl
label_cut (b ∷ bits) least zero rest e h = absurd (omega (arith, ap length e, length-append bits rest, length-take (75 - least) (true ∷ [])))
label_cut (b ∷ bits) least (suc d) rest e h = elim (leb_tells 74 least) [
  | inl t ↦ absurd (omega (arith, t.1, ap length e, length-append bits rest, length-take (75 - least) (run_of false (suc d) true)))
  | inr t ↦
      let low : least < 74 = t.1 in
      let k : 75 - least ≡ suc (75 - suc least) = omega arith in
      let f : false ∷ take (75 - suc least) (run_of false d true) ≡ b ∷ (bits ++ rest) = rw k at e in
      let head : b ≡ false = cc in
      let tail : take (75 - suc least) (run_of false d true) ≡ bits ++ rest = cc in
      rw (head, read_label) (rw t.0 (label_cut bits (suc least) d rest tail h))
]

-- and is refused by the zero that makes it 75
label_refused : (d least : ℕ) (rest : List Bool) → least ≤ 74 → 74 < least + d → read_label least (take (75 - least) (run_of false d true) ++ rest) ≡ Refused ZeroPlanes
unfolding read_label
label_refused zero least rest low high = absurd (omega arith)
label_refused (suc d) least rest low high =
    let k : 75 - least ≡ suc (75 - suc least) = omega arith in
    rw (k, read_label) (elim (leb_tells 74 least) [
      | inl t ↦ rw t.0 refl
      | inr t ↦ rw t.0 (label_refused d (suc least) rest t.1 (omega arith))
    ])

-- a step to a node of the value tree
planes_fault : (s : Step) (why : HeaderRefusal) → fault_of (PlanesPiece s) ≡ Some why → (74 < s.to) × (why ≡ ZeroPlanes)
planes_fault s why e = elim (leb_tells s.to 74) [
  | inl t ↦ let f : None ≡ Some why = rw t.0 at e in absurd (cc)
  | inr t ↦ let f : Some ZeroPlanes ≡ Some why = rw t.0 at e in (t.1, cc)
]

-- a step that isn't refused has a label of at most 74
pub planes_sound : (s : Step) → IsSound (PlanesPiece s) → s.to ≤ 74
planes_sound s e = elim (leb_tells s.to 74) [
  | inl t ↦ t.1
  | inr t ↦ let f : Some ZeroPlanes ≡ None = rw t.0 at e in absurd (cc)
]

-- where bits stop in a step, the reader does
label_stops : (s : Step) → s.from ≤ 74 → s.from ≤ s.to → (bits : List Bool) (r : Option HeaderRefusal) → StopsIn (PlanesPiece s) bits r → read_label s.from bits ≡ stop r
label_stops s low up bits None t = label_cut bits s.from (s.to - s.from) t.0 t.1 t.2
label_stops s low up bits (Some why) t =
    let f = planes_fault s why t.1 in
    ap (read_label s.from) t.2 ∙ (label_refused (s.to - s.from) s.from t.0 low (omega (arith, f.0)) ∙ ap (λ (w : HeaderRefusal). Refused w) (sym f.1))

-- a step to a node of the value tree is read, or stops
pub label_judged : (s : Step) → s.from ≤ 74 → s.from ≤ s.to → Judged (read_label s.from) (λ v. v ≤ 74) (PlanesPiece s ∷ []) s.to
label_judged s low up =
    judged_one (read_label s.from) (λ v. v ≤ 74) (PlanesPiece s) s.to
    (λ h.
    let top : s.to ≤ 74 = planes_sound s h in
    let sum : s.from + (s.to - s.from) ≡ s.to = omega arith in
    (top, λ more. label_read (s.to - s.from) s.from more (omega arith) ∙ ap (λ (n : ℕ). Got n more) sum))
    (label_stops s low up)

-- an Lblock is at its end in any front that doesn't decide it,
lblock_cut : (bits : List Bool) (least d : ℕ) (rest : List Bool) → take (25 - least) (run_of true d false) ≡ bits ++ rest → 1 ≤ length rest → read_lblock least bits ≡ AtEnd
unfolding read_lblock
lblock_cut [] least d rest e h = refl
lblock_cut (b ∷ bits) least zero rest e h = absurd (omega (arith, ap length e, length-append bits rest, length-take (25 - least) (false ∷ [])))
lblock_cut (b ∷ bits) least (suc d) rest e h = elim (leb_tells 24 least) [
  | inl t ↦ absurd (omega (arith, t.1, ap length e, length-append bits rest, length-take (25 - least) (run_of true (suc d) false)))
  | inr t ↦
      let low : least < 24 = t.1 in
      let k : 25 - least ≡ suc (25 - suc least) = omega arith in
      let f : true ∷ take (25 - suc least) (run_of true d false) ≡ b ∷ (bits ++ rest) = rw k at e in
      let head : b ≡ true = cc in
      let tail : take (25 - suc least) (run_of true d false) ≡ bits ++ rest = cc in
      rw (head, read_lblock) (rw t.0 (lblock_cut bits (suc least) d rest tail h))
]

-- and is refused by the one that makes it 25
lblock_refused : (d least : ℕ) (rest : List Bool) → least ≤ 24 → 24 < least + d → read_lblock least (take (25 - least) (run_of true d false) ++ rest) ≡ Refused LengthBits
unfolding read_lblock
lblock_refused zero least rest low high = absurd (omega arith)
lblock_refused (suc d) least rest low high =
    let k : 25 - least ≡ suc (25 - suc least) = omega arith in
    rw (k, read_lblock) (elim (leb_tells 24 least) [
      | inl t ↦ rw t.0 refl
      | inr t ↦ rw t.0 (lblock_refused d (suc least) rest t.1 (omega arith))
    ])

-- an Lblock that is refused is above 24
lblock_fault : (n : ℕ) (why : HeaderRefusal) → fault_of (LblockPiece n) ≡ Some why → (24 < n) × (why ≡ LengthBits)
lblock_fault n why e = elim (leb_tells n 24) [
  | inl t ↦ let f : None ≡ Some why = rw t.0 at e in absurd (cc)
  | inr t ↦ let f : Some LengthBits ≡ Some why = rw t.0 at e in (t.1, cc)
]

-- and one that isn't refused is at most 24
pub lblock_sound : (n : ℕ) → IsSound (LblockPiece n) → n ≤ 24
lblock_sound n e = elim (leb_tells n 24) [
  | inl t ↦ t.1
  | inr t ↦ let f : Some LengthBits ≡ None = rw t.0 at e in absurd (cc)
]

-- where bits stop in an Lblock, the reader does
lblock_stops : (n : ℕ) → 3 ≤ n → (bits : List Bool) (r : Option HeaderRefusal) → StopsIn (LblockPiece n) bits r → read_lblock 3 bits ≡ stop r
lblock_stops n low bits None t = lblock_cut bits 3 (n - 3) t.0 t.1 t.2
lblock_stops n low bits (Some why) t =
    let f = lblock_fault n why t.1 in
    ap (read_lblock 3) t.2 ∙ (lblock_refused (n - 3) 3 t.0 (omega arith) (omega (arith, f.0)) ∙ ap (λ (w : HeaderRefusal). Refused w) (sym f.1))

-- an Lblock is read, or stops
pub lblock_judged : (n : ℕ) → 3 ≤ n → Judged (read_lblock 3) (λ v. v ≤ 24) (LblockPiece n ∷ []) n
lblock_judged n low =
    judged_one (read_lblock 3) (λ v. v ≤ 24) (LblockPiece n) n
    (λ h.
    let top : n ≤ 24 = lblock_sound n h in
    let sum : 3 + (n - 3) ≡ n = omega arith in
    (top, λ more. lblock_read (n - 3) 3 more (omega arith) ∙ ap (λ (k : ℕ). Got k more) sum))
    (lblock_stops n low)

-- fronts of the codes of coding passes
cut_one : (bits rest : List Bool) → false ∷ [] ≡ bits ++ rest → 1 ≤ length rest → read_passes bits ≡ AtEnd
unfolding read_passes
cut_one [] rest e h = refl
cut_one (b ∷ bits) rest e h = absurd (omega (arith, ap length e, length-append bits rest))

-- of two bits,
cut_two : (bits rest : List Bool) → true ∷ false ∷ [] ≡ bits ++ rest → 1 ≤ length rest → read_passes bits ≡ AtEnd
unfolding read_passes
cut_two [] rest e h = refl
cut_two (true ∷ []) rest e h = refl
cut_two (false ∷ []) rest e h = absurd (cc)
cut_two (a ∷ b ∷ bits) rest e h = absurd (omega (arith, ap length e, length-append bits rest))

-- and of four
cut_four : (c d : Bool) (bits rest : List Bool) → true ∷ true ∷ c ∷ d ∷ [] ≡ bits ++ rest → 1 ≤ length rest → read_passes bits ≡ AtEnd
unfolding read_passes
cut_four c d [] rest e h = refl
cut_four c d (true ∷ []) rest e h = refl
cut_four c d (true ∷ true ∷ []) rest e h = refl
cut_four c d (true ∷ true ∷ true ∷ []) rest e h = refl
cut_four c d (true ∷ true ∷ false ∷ []) rest e h = refl
cut_four c d (false ∷ bits) rest e h = absurd (cc)
cut_four c d (true ∷ false ∷ bits) rest e h = absurd (cc)
cut_four c d (true ∷ true ∷ x ∷ y ∷ bits) rest e h = absurd (omega (arith, ap length e, length-append bits rest))

-- where bits stop in a number of passes, the reader does
passes_stops : (n : ℕ) → 1 ≤ n → n ≤ 6 → (bits : List Bool) (r : Option HeaderRefusal) → StopsIn (PassesPiece n) bits r → read_passes bits ≡ stop r
unfolding read_passes
passes_stops zero some few bits r s = absurd (omega arith)
passes_stops (suc zero) some few bits None s = cut_one bits s.0 s.1 s.2
passes_stops (suc (suc zero)) some few bits None s = cut_two bits s.0 s.1 s.2
passes_stops (suc (suc (suc zero))) some few bits None s = cut_four false false bits s.0 s.1 s.2
passes_stops (suc (suc (suc (suc zero)))) some few bits None s = cut_four false true bits s.0 s.1 s.2
passes_stops (suc (suc (suc (suc (suc zero))))) some few bits None s = cut_four true false bits s.0 s.1 s.2
passes_stops (suc (suc (suc (suc (suc (suc zero)))))) some few bits None s = cut_four true true bits s.0 s.1 s.2
passes_stops (suc (suc (suc (suc (suc (suc (suc n))))))) some few bits r s = absurd (omega arith)
passes_stops (suc zero) some few bits (Some why) s = let e : None ≡ Some why = s.1 in absurd (cc)
passes_stops (suc (suc zero)) some few bits (Some why) s = let e : None ≡ Some why = s.1 in absurd (cc)
passes_stops (suc (suc (suc zero))) some few bits (Some why) s = let e : None ≡ Some why = s.1 in absurd (cc)
passes_stops (suc (suc (suc (suc zero)))) some few bits (Some why) s = let e : Some Passes ≡ Some why = s.1 in let f : Passes ≡ why = cc in rw s.2 (ap (λ (w : HeaderRefusal). Refused w) f)
passes_stops (suc (suc (suc (suc (suc zero))))) some few bits (Some why) s = let e : Some Passes ≡ Some why = s.1 in let f : Passes ≡ why = cc in rw s.2 (ap (λ (w : HeaderRefusal). Refused w) f)
passes_stops (suc (suc (suc (suc (suc (suc zero)))))) some few bits (Some why) s = let e : Some Passes ≡ Some why = s.1 in let f : Passes ≡ why = cc in rw s.2 (ap (λ (w : HeaderRefusal). Refused w) f)

-- a number of passes that isn't refused is at most 3
passes_sound : (n : ℕ) → IsSound (PassesPiece n) → n ≤ 3
passes_sound n e = elim (leb_tells n 3) [
  | inl t ↦ t.1
  | inr t ↦ let f : Some Passes ≡ None = rw t.0 at e in absurd (cc)
]

-- a number of passes is read, or stops
pub passes_judged : (n : ℕ) → 1 ≤ n → n ≤ 6 → Judged read_passes (λ v. v ≤ 3) (PassesPiece n ∷ []) n
passes_judged n some few = judged_one read_passes (λ v. v ≤ 3) (PassesPiece n) n (λ h. (passes_sound n h, λ more. passes_read n more some (passes_sound n h))) (passes_stops n some few)

-- a number of which bits lack
number_cut : (width n : ℕ) (bits rest : List Bool) → number_bits width n ≡ bits ++ rest → 1 ≤ length rest → read_number width bits ≡ AtEnd
unfolding read_number
number_cut width n bits rest e h =
    let few : nat_le width (length bits) ≡ false = lt-leb width (length bits) (omega (arith, ap length e, number_bits-length width n, length-append bits rest)) in
    rw few refl

-- a cleanup length, by the tests of its limits
cleanup_told : (a b : Bool) (n : ℕ) (why : HeaderRefusal) (rest : List Bool) → (if a then Some CleanupShort else if b then Some CleanupLong else None) ≡ Some why
    → unless a CleanupShort (unless b CleanupLong (Got n rest)) ≡ Refused why
cleanup_told true b n why rest e = let f : CleanupShort ≡ why = cc in ap (λ (w : HeaderRefusal). Refused w) f
cleanup_told false true n why rest e = let f : CleanupLong ≡ why = cc in ap (λ (w : HeaderRefusal). Refused w) f
cleanup_told false false n why rest e = absurd (cc)

-- a cleanup length that isn't refused is within its limits
cleanup_tests : (a b : Bool) → (if a then Some CleanupShort else if b then Some CleanupLong else None) ≡ None → (a ≡ false) × (b ≡ false)
cleanup_tests true b e = absurd (cc)
cleanup_tests false true e = absurd (cc)
cleanup_tests false false e = (refl, refl)

-- where bits stop in a cleanup length, the reader does
cleanup_stops : (width n : ℕ) → n < 2 ^ width → (bits : List Bool) (r : Option HeaderRefusal) → StopsIn (CleanupPiece width n) bits r → read_cleanup width bits ≡ stop r
cleanup_stops width n fits bits None s = rw (number_cut width n bits s.0 s.1 s.2) refl
cleanup_stops width n fits bits (Some why) s = rw (s.2, number_read width n s.0 fits) (cleanup_told (nat_lt n 2) (nat_le 65535 n) n why s.0 s.1)

-- a cleanup length is read, or stops
pub cleanup_judged : (width n : ℕ) → n < 2 ^ width → Judged (read_cleanup width) (λ v. (2 ≤ v) × (v < 65535)) (CleanupPiece width n ∷ []) n
cleanup_judged width n fits =
    judged_one (read_cleanup width) (λ v. (2 ≤ v) × (v < 65535)) (CleanupPiece width n) n
    (λ h.
    let t = cleanup_tests (nat_lt n 2) (nat_le 65535 n) h in
    ((omega (arith, leb-false (suc n) 2 t.0), leb-false 65535 n t.1), λ more. rw (number_read width n more fits, t.0, t.1) refl))
    (cleanup_stops width n fits)

-- a refinement length, by the test of its limit
refine_told : (a : Bool) (n : ℕ) (why : HeaderRefusal) (rest : List Bool) → (if a then Some RefineLong else None) ≡ Some why → unless a RefineLong (Got n rest) ≡ Refused why
refine_told true n why rest e = let f : RefineLong ≡ why = cc in ap (λ (w : HeaderRefusal). Refused w) f
refine_told false n why rest e = absurd (cc)

-- a refinement length that isn't refused is within its limit
refine_test : (a : Bool) → (if a then Some RefineLong else None) ≡ None → a ≡ false
refine_test true e = absurd (cc)
refine_test false e = refl

-- how it is read where there is one
abbrev read_some : ℕ → List Bool → Read ℕ
read_some width bits = and_then (read_number width bits) (λ n more. unless (nat_le 2047 n) RefineLong (Got n more))

-- where bits stop in a refinement length, the reader does
some_stops : (width n : ℕ) → n < 2 ^ width → (bits : List Bool) (r : Option HeaderRefusal) → StopsIn (RefinePiece width n) bits r → read_some width bits ≡ stop r
some_stops width n fits bits None s = rw (number_cut width n bits s.0 s.1 s.2) refl
some_stops width n fits bits (Some why) s = rw (s.2, number_read width n s.0 fits) (refine_told (nat_le 2047 n) n why s.0 s.1)

-- one that is there is read, or stops
some_judged : (width n : ℕ) → n < 2 ^ width → Judged (read_some width) (λ v. v < 2047) (RefinePiece width n ∷ []) n
some_judged width n fits =
    judged_one (read_some width) (λ v. v < 2047) (RefinePiece width n) n
    (λ h. let t = refine_test (nat_le 2047 n) h in (leb-false 2047 n t, λ more. rw (number_read width n more fits, t) refl))
    (some_stops width n fits)

-- a refinement length is read, or stops, where there is one
pub refine_judged : (passes lblock n : ℕ) → 1 ≤ passes → (passes ≢ 1 → n < 2 ^ refine_width passes lblock) → (passes ≡ 1 → n ≡ 0)
    → Judged (read_refine passes lblock) (λ v. v < 2047) (refine_pieces passes lblock n) n
refine_judged passes lblock n some fits none = elim (eqb_tells passes 1) [
  | inl t ↦
      let few : nat_le passes 1 ≡ true = le-leb passes 1 (omega (arith, t.1)) in
      let zero_is : n ≡ 0 = none t.1 in
      let made : Judged (λ (bits : List Bool). Got n bits) (λ v. v < 2047) [] n = judged_none (λ v. v < 2047) n (omega arith) in
      let same = λ (bits : List Bool). let e : read_refine passes lblock bits ≡ Got n bits = rw (few, zero_is) refl in e in
      rw t.0 (judged_same (read_refine passes lblock) (λ (bits : List Bool). Got n bits) (λ v. v < 2047) [] n same made)
  | inr t ↦
      let one : passes ≢ 1 = t.1 in
      let more : nat_le passes 1 ≡ false = lt-leb passes 1 (omega arith) in
      let same = λ (bits : List Bool). let e : read_refine passes lblock bits ≡ read_some (refine_width passes lblock) bits = rw more refl in e in
      rw t.0 (judged_same (read_refine passes lblock) (read_some (refine_width passes lblock)) (λ v. v < 2047) (RefinePiece (refine_width passes lblock) n ∷ []) n same
      (some_judged (refine_width passes lblock) n (fits one)))
]
