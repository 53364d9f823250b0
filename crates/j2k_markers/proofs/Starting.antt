-- The first two bytes, and what is read after them.
use Rattle.std.proofs.Common.{◌≡◌, ◌≢◌, ◌<◌, ◌≤◌, ◌+◌, ◌-◌, ℕ, min, List, [], length, take, drop, refl, sym, ◌∙◌, ap, inl, inr, arith}
use Rattle.std.specs.Prelude.{None, Some, Err}
use Rattle.std.proofs.lemmas.Bool.{cases_lt, lt-ltb, le-ltb, ltb-false, ne_eqb}
use Rattle.std.proofs.lemmas.List.{length-take, length-drop, take_all}
use Rattle.codestream_model.specs.Bytes.{two_at}
use Rattle.codestream_model.specs.Segments.{SOC}
use Rattle.codestream_model.specs.HeadRefusals.{Cut, NoSoc, first_refusal}
use Rattle.codestream_model.specs.RefusedHeader.{in_reach, soc_tests}
use Rattle.codestream_model.specs.MainHeaderReading.{head_of, read_main}
use Rattle.codestream_model.proofs.HeaderReads.{head_goes_on, head_stops}
use Rattle.codestream_model.proofs.TestLists.{checks}
use Rattle.j2k_markers.specs.declared.head.HeadWhy.TheVariants as why
use Rattle.j2k_markers.specs.declared.segments.Before.{Before}
use Rattle.j2k_markers.specs.Before.{IsKept, IsSoundBefore}
use Rattle.j2k_markers.specs.Refusals.{read_as}
use Rattle.j2k_markers.specs.Walking.{ReadsMain}

-- fewer than two bytes
pub too_few : (b : List ℕ) → length b < 2 → Err (record { at = length b; why = why.Cut }) ≡ read_as (head_of b)
too_few b few =
    let first : first_refusal (soc_tests b) ≡ Some Cut = rw (lt-ltb (length b) 2 few, lt-ltb (length b) 8192 (omega arith)) refl in
    ap read_as (sym (head_stops b Cut first))

-- others than SOC
pub no_soc : (b : List ℕ) → 2 ≤ length b → two_at b 0 ≢ SOC → Err (record { at = 0; why = why.NoSoc }) ≡ read_as (head_of b)
no_soc b some other =
    let first : first_refusal (soc_tests b) ≡ Some NoSoc = rw (le-ltb (length b) 2 some, ne_eqb (two_at b 0) SOC other) refl in
    ap read_as (sym (head_stops b NoSoc first))

-- two bytes are there
pub two_bytes_there : (b : List ℕ) → first_refusal (soc_tests b) ≡ None → 2 ≤ length b
two_bytes_there b e = ltb-false (length b) 2 (checks (soc_tests b) e).0

-- the bytes in reach
pub reach_is : (n : ℕ) (b : List ℕ) → take (min (length b) n) b ≡ take n b
reach_is n b = elim (cases_lt (length b) n) [
  | inl short ↦
      let all : min (length b) n ≡ length b = omega arith in
      ap (λ (k : ℕ). take k b) all ∙ (take_all (length b) b (omega arith) ∙ sym (take_all n b (omega arith)))
  | inr long ↦
      let all : min (length b) n ≡ n = omega arith in
      ap (λ (k : ℕ). take k b) all
]

-- the walk after SOC begins
pub begins : (b : List ℕ) (w : Before) (rest : List ℕ) → first_refusal (soc_tests b) ≡ None → IsKept w [] → IsSoundBefore w → w.qcd_at ≤ 8192 → rest ≡ drop 2 (in_reach b) → ReadsMain b w rest
begins b w rest e k sound qcd_at is =
    let size : length (drop 2 (in_reach b)) + 2 ≡ min 8192 (length b) = omega (arith, length-drop 2 (in_reach b), length-take 8192 b, two_bytes_there b e) in
    let same : length rest ≡ length (drop 2 (in_reach b)) = ap length is in
    let place : w.at ≡ 2 = k.place in
    record {
      before = [];
      left = length b;
      kept = k;
      sound = sound;
      read = head_goes_on b e ∙ ap (λ (l : List ℕ). read_main (length b) b [] l) (sym is);
      room = omega arith;
      place = omega arith;
      qcd_at = qcd_at;
    }

-- the bytes after the first two
pub behind_two : (xs : List ℕ) → take (length xs - 2) (drop 2 xs) ≡ drop 2 xs
behind_two xs = take_all (length xs - 2) (drop 2 xs) (omega (arith, length-drop 2 xs))
