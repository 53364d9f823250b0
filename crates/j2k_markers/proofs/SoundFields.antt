-- What is known of the values of sound contents of SIZ and COD.
use Rattle.std.proofs.Common.{◌≡◌, ◌<◌, ◌≤◌, ◌+◌, ◌/◌, ◌%◌, ◌||◌, ℕ, Bool, true, false, List, map, length, get_or, ◌∙◌, sym, ap, inl, inr, arith}
use Rattle.std.specs.Prelude.{◌==◌, ◌≢◌, slice_index, if◌then◌else◌}
use Rattle.std.specs.List.{All, list_any, range_with_len}
use Rattle.std.proofs.lemmas.Bool.{cases_Bool, eqb-false, or_parts}
use Rattle.std.proofs.lemmas.List.{length-map}
use Rattle.std.proofs.lemmas.List.Elements.{All-map}
use Rattle.std.proofs.lemmas.List.Folds.{list_any_at}
use Rattle.std.proofs.lemmas.List.FromFn.{length-map-range_with_len}
use Rattle.codestream_model.specs.Values.{Pair}
use Rattle.codestream_model.specs.Bytes.{IsBytes}
use Rattle.codestream_model.specs.SegmentTests.{cod_levels, has_sizes, cod_precinct, cod_precincts}
use Rattle.j2k_markers.specs.Fields.{pair}

-- what is not 0 is more
positive : (x : ℕ) → (x == 0) ≡ false → 0 < x
positive x e = let ne : x ≢ 0 = eqb-false x 0 e in omega arith

-- a step of which no part is 0
some_step : (step : Pair) → (step.x == 0 || step.y == 0) ≡ false → (0 < step.x) × (0 < step.y)
some_step step e = let p = or_parts (step.x == 0) (step.y == 0) e in (positive step.x p.0, positive step.y p.1)

-- where no step is 0 each is more
pub some_steps : (steps : List Pair) → list_any (λ step. step.x == 0 || step.y == 0) steps ≡ false → All (λ step. (0 < step.x) × (0 < step.y)) steps
some_steps steps none = λ k d lt.
    let step = get_or steps k d in
    elim (cases_Bool (step.x == 0 || step.y == 0)) [
      | inl zero ↦
          let found = list_any_at (λ (s : Pair). s.x == 0 || s.y == 0) steps k d lt zero in
          absurd (cc)
      | inr more ↦ some_step step more
    ]

-- exponents of at most 15
abbrev IsSmall : Pair → Type 0
IsSmall e = (e.x ≤ 15) × (e.y ≤ 15)

-- four bits are at most 15
small_exponents : (t : Bool) (v : ℕ) → v < 256 → IsSmall (if t then record { x = v % 16; y = v / 16 } else record { x = 15; y = 15 })
small_exponents true v fits = (omega arith, omega arith)
small_exponents false v fits = (omega arith, omega arith)

-- the exponents of the precincts are
pub small_precincts : (c : List ℕ) → IsBytes c → All (λ e. (e.x ≤ 15) × (e.y ≤ 15)) (cod_precincts c)
small_precincts c fits = All-map IsSmall (cod_precinct c) (range_with_len 0 (cod_levels c + 1)) (λ k d lt. small_exponents (has_sizes c) (slice_index c (10 + get_or (range_with_len 0 (cod_levels c + 1)) k d)) (fits (10 + get_or (range_with_len 0 (cod_levels c + 1)) k d)))

-- and there is one for each resolution
pub each_precinct : (c : List ℕ) (items : List (ℕ × ℕ)) → map pair items ≡ cod_precincts c → length items ≡ cod_levels c + 1
each_precinct c items e = sym (length-map items pair) ∙ (ap length e ∙ length-map-range_with_len (cod_precinct c) 0 (cod_levels c + 1))
