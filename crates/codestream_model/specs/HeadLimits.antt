-- The limits within which the values of each accepted main header lie.
use Rattle.std.specs.Prelude.{◌≡◌, ◌<◌, ◌≤◌, ◌⊎◌, ◌+◌, ◌^◌, length, drop}
use Rattle.std.specs.List.{All}
use Rattle.codestream_model.specs.Values.{Pair, Head, Place}
use Rattle.codestream_model.specs.Areas.{ceil_div}
use Rattle.codestream_model.specs.Precincts.{IsPrecinct}
use Rattle.codestream_model.specs.PacketOrder.{pid}

-- A step is 1 to 255 in x and in y.
pub record IsStep (step : Pair) : Type 0 where
  pub some_x : 0 < step.x
  pub some_y : 0 < step.y
  pub few_x : step.x < 256
  pub few_y : step.y < 256

-- A component with this step isn't empty.
pub record HasSamples (h : Head) (step : Pair) : Type 0 where
  pub wide : ceil_div h.x0 step.x < ceil_div h.x1 step.x
  pub high : ceil_div h.y0 step.y < ceil_div h.y1 step.y

-- A header within the limits has one to sixteen components, an image within 2^31 - 1, at most 15 levels, code-blocks of
-- 4 to 1024 by 4 to 1024 and of at most 4096 samples, precincts of at most 2^15 samples each way, RPCL or PCRL order,
-- and PIDs below 2^20.
pub record IsWithinLimits (h : Head) : Type 0 where
  pub some_component : 1 ≤ length h.steps
  pub few_components : length h.steps ≤ 16
  pub each_step : All IsStep h.steps
  pub each_component : All (HasSamples h) h.steps
  pub wide : h.x0 < h.x1
  pub high : h.y0 < h.y1
  pub x_end : h.x1 < 2 ^ 31
  pub y_end : h.y1 < 2 ^ 31
  pub few_levels : h.levels ≤ 15
  pub least_block : (2 ≤ h.block.x) × (2 ≤ h.block.y)
  pub most_block : (h.block.x ≤ 10) × (h.block.y ≤ 10)
  pub block_size : h.block.x + h.block.y ≤ 12
  pub each_resolution : length h.precincts ≡ h.levels + 1
  pub most_precinct : All (λ e. (e.x ≤ 15) × (e.y ≤ 15)) h.precincts
  pub least_precinct : All (λ e. (1 ≤ e.x) × (1 ≤ e.y)) (drop 1 h.precincts)
  pub known_order : (h.order ≡ 2) ⊎ (h.order ≡ 3)
  pub few_pids : (p : Place) → IsPrecinct h p → pid h p < 2 ^ 20
  pub psot_fits : h.psot < 2 ^ 32
  pub tile_fits : 2 ≤ h.sot
  pub sod_fits : h.sot + 14 ≤ h.length
  pub short : h.length ≤ 8192
