-- What is answered to bytes is what their layout says.
use Rattle.std.proofs.Common.{◌≡◌, ◌≤◌, ◌+◌, ◌-◌, ◌*◌, ℕ, Bool, true, false, ◌&&◌, ◌⊎◌, inl, inr, List, length, drop, refl, sym, ap, ◌∙◌, arith, nat_le, nat_lt, Ok, Err, length-drop}
use Rattle.std.specs.Prelude.{slice_index, if◌then◌else◌}
use Rattle.std.proofs.lemmas.Bool.Decides.{nat_tests}
use Rattle.wire_model.specs.Bytes.{IsBytes}
use Rattle.wire_model.specs.Payload.{PayloadFields, IsPayload, xtrac_at, pos_at}
use Rattle.wire_model.specs.PayloadReading.{is_main, is_payload, payload_fields, codestream_start, is_mark_within}
use Rattle.wire_model.proofs.PayloadLaws.{payload_is_read_one_way}
use Rattle.wire_model.proofs.PayloadFound.{payload_reads_as_laid_out}
use Rattle.scl_payload.specs.Heads.{IsReadAs, read_as}
use Rattle.scl_payload.specs.Judged.{judged, judged_main, judged_body}
use Rattle.scl_payload.specs.declared.head.Payload.{Payload}
use Rattle.scl_payload.specs.declared.head.PayloadFault.TheVariants.{Short, Extension, Pos}

-- both tests held
both : (s t : Bool) → (s && t) ≡ true → (s ≡ true) × (t ≡ true)
both true t e = (refl, e)
both false t e = absurd (cc)

-- a choice, by its test
chosen : {A : Type 0} (b : Bool) (x y z : A) → (if b then x else y) ≡ z → ((b ≡ true) × (x ≡ z)) ⊎ ((b ≡ false) × (y ≡ z))
chosen true x y z e = inl (refl, e)
chosen false x y z e = inr (refl, e)

-- the test of POS, and its contrary
not_past : (flag : Bool) (pos n : ℕ) → (if flag then nat_lt pos n else true) ≡ true → (flag && nat_le n pos) ≡ false
not_past true pos n e = grind (arith, nat_tests)
not_past false pos n e = refl

is_below : (flag : Bool) (pos n : ℕ) → (flag && nat_le n pos) ≡ false → (if flag then nat_lt pos n else true) ≡ true
is_below true pos n e = grind (arith, nat_tests)
is_below false pos n e = refl

-- what is answered to a payload of each kind,
answered_by_kind : (main : Bool) (b : List ℕ) → nat_lt (length b) 8 ≡ false → is_main b ≡ main → (if main then nat_le (8 + 4 * xtrac_at b) (length b) else is_mark_within b) ≡ true
    → judged b ≡ Ok (read_as (payload_fields b) (codestream_start b))
answered_by_kind true b long kind within = let t : nat_lt (length b) (8 + 4 * xtrac_at b) ≡ false = grind (arith, nat_tests) in rw (long, kind, t) refl
answered_by_kind false b long kind within =
    let t : (nat_le 128 (slice_index b 1) && nat_le (length b - 8) (pos_at b)) ≡ false = not_past (nat_le 128 (slice_index b 1)) (pos_at b) (length b - 8) within in
    rw (long, kind, t) refl

-- and to any payload
answered : (b : List ℕ) → is_payload b ≡ true → judged b ≡ Ok (read_as (payload_fields b) (codestream_start b))
answered b e =
    let tests = both (nat_le 8 (length b)) _ e in
    let first : nat_le 8 (length b) ≡ true = tests.0 in
    let long : nat_lt (length b) 8 ≡ false = grind (arith, nat_tests) in
    answered_by_kind (is_main b) b long refl tests.1

-- what is read is a payload of its kind,
is_read_by_kind : (main : Bool) (b : List ℕ) (r : Payload × ℕ) → nat_lt (length b) 8 ≡ false → is_main b ≡ main → (if main then judged_main b else judged_body b) ≡ Ok r → is_payload b ≡ true
is_read_by_kind true b r long kind e = elim (chosen (nat_lt (length b) (8 + 4 * xtrac_at b)) _ _ _ e) [
  | inl p ↦ absurd (let q : Err Extension ≡ Ok r = p.1 in cc)
  | inr p ↦
      let past : nat_lt (length b) (8 + 4 * xtrac_at b) ≡ false = p.0 in
      let t0 : nat_le 8 (length b) ≡ true = grind (arith, nat_tests) in
      let t1 : nat_le (8 + 4 * xtrac_at b) (length b) ≡ true = grind (arith, nat_tests) in
      rw (t0, kind, t1) refl
]
is_read_by_kind false b r long kind e = elim (chosen (nat_le 128 (slice_index b 1) && nat_le (length b - 8) (pos_at b)) _ _ _ e) [
  | inl p ↦ absurd (let q : Err Pos ≡ Ok r = p.1 in cc)
  | inr p ↦
      let t0 : nat_le 8 (length b) ≡ true = grind (arith, nat_tests) in
      rw (t0, kind) (is_below (nat_le 128 (slice_index b 1)) (pos_at b) (length b - 8) p.0)
]

-- and a payload
is_read : (b : List ℕ) (r : Payload × ℕ) → judged b ≡ Ok r → is_payload b ≡ true
is_read b r e = elim (chosen (nat_lt (length b) 8) _ _ _ e) [
  | inl p ↦ absurd (let q : Err Short ≡ Ok r = p.1 in cc)
  | inr p ↦ is_read_by_kind (is_main b) b r p.0 refl p.1
]

-- what is read is laid out so,
pub found : (b : List ℕ) (r : Payload × ℕ) → IsBytes b → judged b ≡ Ok r → IsReadAs r.0 (drop r.1 b) b
found b r fits e =
    let is = is_read b r e in
    let same : read_as (payload_fields b) (codestream_start b) ≡ r = (let t = answered b is in cc) in
    rw (sym same) (payload_fields b, refl, payload_reads_as_laid_out b fits is)

-- the codestream bytes start within the bytes
start_within : (main : Bool) (b : List ℕ) → nat_le 8 (length b) ≡ true → (if main then nat_le (8 + 4 * xtrac_at b) (length b) else is_mark_within b) ≡ true → (if main then 8 + 4 * xtrac_at b else 8) ≤ length b
start_within true b long within = grind (arith, nat_tests)
start_within false b long within = grind (arith, nat_tests)

-- and what is laid out so is read
pub only : (b : List ℕ) (h : PayloadFields) (codestream : List ℕ) → IsPayload h codestream b → judged b ≡ Ok (read_as h (length b - length codestream))
only b h codestream is =
    let law = payload_is_read_one_way h codestream b is in
    let tests = both (nat_le 8 (length b)) _ law.0 in
    let within : codestream_start b ≤ length b = start_within (is_main b) b tests.0 tests.1 in
    let left : length codestream ≡ length b - codestream_start b = ap length law.2 ∙ length-drop (codestream_start b) b in
    let start : length b - length codestream ≡ codestream_start b = omega arith in
    rw (start, law.1) (answered b law.0)
