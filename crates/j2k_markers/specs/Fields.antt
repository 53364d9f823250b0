-- The fields of a head as the values that the definitions speak of.
use Rattle.std.specs.Prelude.{◌≡◌, ◌<◌, ◌≤◌, ◌+◌, ℕ, List, map, length}
use Rattle.std.specs.List.{All}
use Rattle.codestream_model.specs.SegmentTests.{xosiz, yosiz, xsiz, ysiz, siz_steps, cod_levels, cod_block, cod_precincts, cod_order, has_eph}
use Rattle.codestream_model.specs.Values.{Pair, Head}
use Rattle.j2k_markers.specs.declared.head.Fields.{Fields}

-- two numbers, in x and in y
abbrev pub pair : ℕ × ℕ → Pair
pair p = record { x = p.0; y = p.1 }

-- the values of what SIZ and COD say, with Psot, the place of SOT and the length
abbrev pub fields_head : Fields → ℕ → ℕ → ℕ → Head
fields_head a psot sot n = record {
  x0 = a.x0;
  y0 = a.y0;
  x1 = a.x1;
  y1 = a.y1;
  steps = map pair a.steps.items;
  levels = a.levels;
  block = pair a.block;
  precincts = map pair a.precincts.items;
  order = a.order;
  eph = a.eph;
  psot = psot;
  sot = sot;
  length = n;
}

-- the values with these contents of SIZ and COD, Psot, the place of SOT and the length
abbrev pub head_from : List ℕ → List ℕ → ℕ → ℕ → ℕ → Head
head_from siz cod psot sot n = record {
  x0 = xosiz siz;
  y0 = yosiz siz;
  x1 = xsiz siz;
  y1 = ysiz siz;
  steps = siz_steps siz;
  levels = cod_levels cod;
  block = cod_block cod;
  precincts = cod_precincts cod;
  order = cod_order cod;
  eph = has_eph cod;
  psot = psot;
  sot = sot;
  length = n;
}

-- no step is 0, and each resolution has sizes with exponents of at most 15
pub record IsSoundFields (a : Fields) : Type 0 where
  pub few : a.levels ≤ 15
  pub each : length a.precincts.items ≡ a.levels + 1
  pub steps : All (λ step. (0 < step.x) × (0 < step.y)) (map pair a.steps.items)
  pub exponents : All (λ e. (e.x ≤ 15) × (e.y ≤ 15)) (map pair a.precincts.items)
