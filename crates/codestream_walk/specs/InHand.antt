-- The bytes that were read and not given yet, after those that were given last.
use Rattle.std.specs.Prelude.{◌≡◌, ◌≤◌, ◌+◌, ◌-◌, ◌++◌, slice_range, ℕ, List, [], length, take, drop}
use Rattle.codestream_model.specs.Bytes.{IsBytes}
use Rattle.scl_outside.specs.Meaning.{Meaning}
use Rattle.scl_outside.specs.Events.{Took, Ended, ReadFailed}
use Rattle.scl_outside.specs.Steps.{Step}
use Rattle.codestream_walk.specs.declared.input.Wider.{Wider}
use Rattle.codestream_walk.specs.declared.input.Wider.TheVariants as wider

-- The bytes given last, the bytes in hand, and the offset in the input of the first byte in hand.
pub record InHand : Type 0 where
  pub given : List ℕ
  pub bytes : List ℕ
  pub offset : ℕ

-- The bytes in hand of a buffer, where `given` bytes before `from` were given last and the bytes up to `to` were read.
abbrev pub in_buffer : List ℕ → ℕ → ℕ → ℕ → ℕ → InHand
in_buffer buf given from to read = record {
  given = slice_range buf (from - given) from;
  bytes = slice_range buf from to;
  offset = read - (to - from);
}

-- The greatest number of bytes that are read of an input.
abbrev pub input_limit : ℕ
input_limit = 1099511627776

-- The offset after the bytes in hand: how many bytes were read.
abbrev pub end_of : InHand → ℕ
end_of i = i.offset + length i.bytes

-- These bytes are added to those in hand.
abbrev pub with_more : InHand → List ℕ → InHand
with_more i bytes = record i { given = []; bytes = i.bytes ++ bytes }

-- The first `n` bytes in hand are given.
abbrev pub giving : ℕ → InHand → InHand
giving n i = record { given = take n i.bytes; bytes = drop n i.bytes; offset = i.offset + n }

-- One read brings more bytes; or none, where the input is over or the read failed; or one past the limit, which isn't kept.
abbrev pub Widens : InHand → Meaning → Wider → InHand → Meaning → Type 0
Widens i s wider.Grown j t =
    (bytes : List ℕ) × (1 ≤ length bytes) × IsBytes bytes × (j ≡ with_more i bytes) × Step s (Took bytes) t
Widens i s wider.Ended j t = (j ≡ with_more i []) × Step s Ended t
Widens i s wider.Past j t =
    (bytes : List ℕ) × (length bytes ≡ 1) × IsBytes bytes × (j ≡ with_more i []) × (end_of i ≡ input_limit)
    × Step s (Took bytes) t
Widens i s wider.Failed j t = (j ≡ with_more i []) × Step s ReadFailed t

-- A read of one byte, which isn't kept, has this answer.
abbrev pub Probes : Meaning → Wider → Meaning → Type 0
Probes s wider.Grown t = ⊥
Probes s wider.Ended t = Step s Ended t
Probes s wider.Past t = (bytes : List ℕ) × (length bytes ≡ 1) × IsBytes bytes × Step s (Took bytes) t
Probes s wider.Failed t = Step s ReadFailed t
