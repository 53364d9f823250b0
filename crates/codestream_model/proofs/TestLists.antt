-- The conditions of a header's parts: what is known where none is met, and what shows that none is.
use Rattle.std.proofs.Common.{◌≡◌, ◌+◌, ◌&&◌, ◌||◌, ℕ, Bool, true, false, not, List, [], ◌∷◌, length, refl}
use Rattle.std.specs.Prelude.{◌==◌, nat_lt, Option, Some, None, if◌then◌else◌}
use Rattle.codestream_model.specs.Segments.{CAP, SIZ, COD, QCD, SOT, SOD, Segment, stands}
use Rattle.codestream_model.specs.HeadRefusals.{HeadRefusal, Test, first_refusal}
use Rattle.codestream_model.specs.SegmentTests.{tile_tests}
use Rattle.codestream_model.specs.MainHeader.{is_main_marker, is_tile_marker, stands_once, least_length, content_tests, Passes}
use Rattle.codestream_model.specs.RefusedHeader.{segment_tests, skipped_tests}

-- none of these conditions is met, one after another
abbrev pub Checks : List Test → Type 0
Checks [] = Unit {0}
Checks (t ∷ tests) = (t.fails ≡ false) × Checks tests

-- one condition and more, of which none is met
no_refusal : (why : HeadRefusal) (fails : Bool) (more : Option HeadRefusal) → (if fails then Some why else more) ≡ None → (fails ≡ false) × (more ≡ None)
no_refusal why true more e = absurd (cc)
no_refusal why false more e = (refl, e)

-- so it is where there is no refusal,
pub checks : (tests : List Test) → Passes tests → Checks tests
checks [] e = tt
checks (t ∷ tests) e = let p = no_refusal t.why t.fails (first_refusal tests) e in (p.0, checks tests p.1)

-- and there is no refusal where it is so
pub passes : (tests : List Test) → Checks tests → Passes tests
passes [] c = refl
passes (t ∷ tests) c = rw c.0 (passes tests c.1)

-- what is known of a segment before SOT, or of SOT, none of whose conditions is met
pub record MainFacts (before : List Segment) (m n there : ℕ) (c : List ℕ) : Type 0 where
  pub marker_there : nat_lt there 2 ≡ false
  pub siz_first : (length before == 0 && not (m == SIZ)) ≡ false
  pub known : not (is_main_marker m || m == SOT) ≡ false
  pub once : (stands_once m && stands m before) ≡ false
  pub has_cap : (m == SOT && not (stands CAP before)) ≡ false
  pub has_cod : (m == SOT && not (stands COD before)) ≡ false
  pub has_qcd : (m == SOT && not (stands QCD before)) ≡ false
  pub length_there : nat_lt there 4 ≡ false
  pub least : nat_lt n (least_length m) ≡ false
  pub ten : (m == SOT && not (n == 10)) ≡ false
  pub whole : nat_lt there (2 + n) ≡ false
  pub content : Passes (if m == SOT then tile_tests before c else content_tests m c)

-- it is known where there is no refusal,
pub main_facts : (b : List ℕ) (before : List Segment) (m n there : ℕ) (content : List ℕ) → Passes (segment_tests b before m n there content) → MainFacts before m n there content
unfolding segment_tests
main_facts b before m n there content e =
    let c0 = checks (segment_tests b before m n there content) e in
    let c6 = c0.1.1.1.1.1.1 in
    let c11 = c6.1.1.1.1.1 in
    record {
      marker_there = c0.0;
      siz_first = c0.1.0;
      known = c0.1.1.0;
      once = c0.1.1.1.0;
      has_cap = c0.1.1.1.1.0;
      has_cod = c0.1.1.1.1.1.0;
      has_qcd = c6.0;
      length_there = c6.1.0;
      least = c6.1.1.0;
      ten = c6.1.1.1.0;
      whole = c6.1.1.1.1.0;
      content = passes (if m == SOT then tile_tests before content else content_tests m content) c11;
    }

-- and there is no refusal where it is known
pub main_passes : (b : List ℕ) (before : List Segment) (m n there : ℕ) (content : List ℕ) → MainFacts before m n there content → Passes (segment_tests b before m n there content)
unfolding segment_tests
main_passes b before m n there content f = rw (f.marker_there, f.siz_first, f.known, f.once, f.has_cap, f.has_cod, f.has_qcd, f.length_there, f.least, f.ten, f.whole) f.content

-- the same of what follows SOT
pub record TileFacts (m n there : ℕ) : Type 0 where
  pub marker_there : nat_lt there 2 ≡ false
  pub known : not (is_tile_marker m || m == SOD) ≡ false
  pub length_there : (is_tile_marker m && nat_lt there 4) ≡ false
  pub least : (is_tile_marker m && nat_lt n 2) ≡ false
  pub whole : (is_tile_marker m && nat_lt there (2 + n)) ≡ false

-- it is known where there is no refusal,
pub tile_facts : (b : List ℕ) (m n there : ℕ) → Passes (skipped_tests b m n there) → TileFacts m n there
unfolding skipped_tests
tile_facts b m n there e =
    let c = checks (skipped_tests b m n there) e in
    record { marker_there = c.0; known = c.1.0; length_there = c.1.1.0; least = c.1.1.1.0; whole = c.1.1.1.1.0 }

-- and there is no refusal where it is known
pub tile_passes : (b : List ℕ) (m n there : ℕ) → TileFacts m n there → Passes (skipped_tests b m n there)
unfolding skipped_tests
tile_passes b m n there f = rw (f.marker_there, f.known, f.length_there, f.least, f.whole) refl
