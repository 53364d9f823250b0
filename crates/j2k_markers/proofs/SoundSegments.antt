-- A content of SIZ or COD that meets no condition is sound.
use Rattle.std.proofs.Common.{◌≡◌, ◌≤◌, ◌+◌, ◌*◌, ℕ, Bool, true, false, List, length, arith}
use Rattle.std.specs.Prelude.{◌==◌, slice_index, if◌then◌else◌}
use Rattle.std.proofs.lemmas.Bool.{not-false, eqb-true, ltb-false}
use Rattle.codestream_model.specs.Segments.{stated_length}
use Rattle.codestream_model.specs.MainHeader.{Passes}
use Rattle.codestream_model.specs.SegmentTests.{siz_tests, cod_tests, csiz, cod_levels, has_sizes}
use Rattle.codestream_model.proofs.TestLists.{checks}
use Rattle.j2k_markers.specs.Sound.{IsSoundSiz, IsSoundCod}

-- SIZ
pub sound_siz : (c : List ℕ) → 39 ≤ length c → Passes (siz_tests c) → IsSoundSiz c
unfolding siz_tests
sound_siz c long e =
    let k = checks (siz_tests c) e in
    let whole : stated_length c ≡ 38 + 3 * csiz c = eqb-true (stated_length c) (38 + 3 * csiz c) (not-false (stated_length c == 38 + 3 * csiz c) k.1.1.0) in
    record { long = long; few = ltb-false 16 (csiz c) k.1.0; whole = omega arith; steps = k.1.1.1.1.1.1.1.1.1.1.1.1.0 }

-- two more bytes
less_two : (t : Bool) (n l : ℕ) → n + 2 ≡ (if t then 13 + l else 12) → n ≡ (if t then 11 + l else 10)
less_two true n l e = omega arith
less_two false n l e = omega arith

-- COD
pub sound_cod : (c : List ℕ) → 10 ≤ length c → Passes (cod_tests c) → IsSoundCod c
unfolding cod_tests
sound_cod c long e =
    let k = checks (cod_tests c) e in
    let k5 = k.1.1.1.1.1 in
    let stated = if has_sizes c then 13 + cod_levels c else 12 in
    let whole : stated_length c ≡ stated = eqb-true (stated_length c) stated (not-false (stated_length c == stated) k5.0) in
    record {
      is_whole = record { long = long; few = ltb-false 15 (cod_levels c) k.1.1.1.1.0; whole = less_two (has_sizes c) (length c) (cod_levels c) whole };
      wide = ltb-false 8 (slice_index c 6) k5.1.0;
      high = ltb-false 8 (slice_index c 7) k5.1.1.0;
    }
