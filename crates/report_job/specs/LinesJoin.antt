-- The lines of packets, one after another.
use Rattle.std.proofs.Common.{◌≡◌, ◌++◌, List, ap, ◌∙◌}
use Rattle.std.specs.List.{flat_map}
use Rattle.std.proofs.lemmas.Grind.{flat_map-append}
use Rattle.std.proofs.lemmas.List.{map-append}
use Rattle.stream_model.specs.Commands.{release_lines}
use Rattle.stream_model.specs.Decoder.{Release, precincts_released}
use Rattle.stream_model.specs.Report.{precinct_line, block_lines}

-- The lines of packets are those of the first and then those of the others.
pub lines_join : (xs ys : List Release) → release_lines (xs ++ ys) ≡ release_lines xs ++ release_lines ys
lines_join xs ys =
    ap (flat_map (λ x. precinct_line x ++ block_lines x.blocks x.bytes)) (map-append (λ (x : Release). x.precinct) xs ys)
    ∙ flat_map-append (λ x. precinct_line x ++ block_lines x.blocks x.bytes) (precincts_released xs) (precincts_released ys)
