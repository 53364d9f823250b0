-- A plan by its values.
use Rattle.std.specs.Prelude.{ℕ, Bool}
use Rattle.stream_model.specs.Cut.{Plan}

-- The plan with these values.
abbrev pub plan_with : ℕ → Bool → ℕ → ℕ → ℕ → ℕ → ℕ → Plan
plan_with mtu split kind source number stamp step = record {
  mtu = mtu;
  split = split;
  kind = kind;
  source = source;
  number = number;
  stamp = stamp;
  step = step;
}
