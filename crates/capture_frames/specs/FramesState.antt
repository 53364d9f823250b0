-- How far a reader of frames has come, and whether it may go on.
use Rattle.std.specs.Prelude.{ℕ, Bool}

pub record FramesState : Type 0 where
  pub offset : ℕ
  pub live : Bool
