-- The conditions of the model in the parts in which they are judged, one after another.
use Rattle.std.proofs.Common.{◌≡◌, ℕ, List, [], ◌∷◌, ◌++◌, take, drop, refl}
use Rattle.codestream_model.specs.HeadRefusals.{refuses, Ids}
use Rattle.codestream_model.specs.SegmentTests.{siz_tests, cod_tests, tile_tests, has_great_pid}
use Rattle.codestream_model.specs.Segments.{SIZ, COD, QCD, Segment, content_of}
use Rattle.j2k_markers.specs.Before.{sot_tests}
use Rattle.j2k_markers.specs.Fields.{head_from}

-- those on SIZ
pub siz_parts : (c : List ℕ) → siz_tests c ≡ take 4 (siz_tests c) ++ (take 4 (drop 4 (siz_tests c)) ++ (take 4 (drop 8 (siz_tests c)) ++ drop 12 (siz_tests c)))
unfolding siz_tests
siz_parts c = refl

-- those on COD
pub cod_parts : (c : List ℕ) → cod_tests c ≡ take 6 (cod_tests c) ++ drop 6 (cod_tests c)
unfolding cod_tests
cod_parts c = refl

-- those on SOT, each of which needs but some of the contents before it
pub sot_parts : (siz cod qcd c : List ℕ) → sot_tests siz cod qcd c ≡ take 3 (sot_tests [] [] [] c) ++ (take 2 (drop 3 (sot_tests [] cod qcd [])) ++ drop 5 (sot_tests siz cod [] []))
unfolding tile_tests
sot_parts siz cod qcd c = refl

-- and of the segments before SOT these contents alone count
pub tile_parts : (main : List Segment) (c : List ℕ) → tile_tests main c ≡ sot_tests (content_of SIZ main) (content_of COD main) (content_of QCD main) c
unfolding tile_tests
tile_parts main c = refl

-- the one condition on the numbers of precincts
pub number_part : (siz cod : List ℕ) → drop 5 (sot_tests siz cod [] []) ≡ refuses Ids (has_great_pid (head_from siz cod 0 0 0)) ∷ []
unfolding tile_tests
number_part siz cod = refl
