-- A capture: whole frames one after another, of at most 1,099,511,627,776 bytes.
use Rattle.std.specs.Prelude.{◌≡◌, ◌≢◌, ◌≤◌, ◌<◌, ◌+◌, ◌⊎◌, ℕ, List, [], length}
use Rattle.wire_model.specs.Framing.{Splits, framing}
use Rattle.capture_frames.specs.Reading.{input_limit}
use Rattle.scl_run.specs.declared.ending.Reason.TheVariants.{CutFrame, InputTooLong}
use Rattle.scl_run.specs.declared.ending.Refusal.{Refusal}
use Rattle.scl_run.specs.InputClass.{InputClass}

-- The input is a capture: whole frames, and not too long.
abbrev pub IsCapture : List ℕ → Type 0
IsCapture input = (length input ≤ input_limit) × ((frames : List (List ℕ)) × Splits input frames [])

-- The input ends inside a frame, which starts at this place.
pub record IsCutAt (input : List ℕ) (at : ℕ) : Type 0 where
  pub short : length input ≤ input_limit
  pub frames : List (List ℕ)
  pub rest : List ℕ
  pub splits : Splits input frames rest
  pub some : rest ≢ []
  pub place : at ≡ length (framing frames)

-- Why an input is no capture: it ends inside a frame, or it is too long.
abbrev pub RefusesCapture : List ℕ → Refusal → Type 0
RefusesCapture input r = ((r.reason ≡ CutFrame) × IsCutAt input r.at) ⊎ ((r.reason ≡ InputTooLong) × (input_limit < length input) × (r.at ≡ input_limit))

-- The class of captures, which are read to their end.
abbrev pub capture_input : InputClass
capture_input = record {
  Accepts = IsCapture;
  Refuses = RefusesCapture;
  AcceptsAtEnd = Unit {0};
  RefusesAtEnd = λ reason. reason ≡ CutFrame;
  Wants = λ read. length read ≤ input_limit;
  Fits = λ read. length read ≤ input_limit + 1;
}
