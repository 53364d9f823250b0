-- What calls put into a buffer, after all that was put before.
use Rattle.std.specs.Prelude.{◌≡◌, ◌<◌, ◌≤◌, ◌-◌, ◌==◌, ◌++◌, ℕ, Bool, true, false, List, [], length, drop, Result, Err, IfOk, if◌then◌else◌}
use Rattle.codestream_model.specs.Values as values
use Rattle.codestream_model.specs.StuffedBits.{number_bits}
use Rattle.codestream_model.specs.HeaderPieces.{passes_code, run_of, refine_width}
use Rattle.stuffed_bits.specs.BitWriterState.{BitWriterState}
use Rattle.stuffed_bits.specs.BitsWritten.{HasWritten, reach}
use Rattle.stuffed_bits.specs.declared.bit_writer.Full.{Full}
use Rattle.tag_tree.specs.LeafWriting.{Writes}
use Rattle.packet_header.specs.declared.fault.PutFault.{PutFault}
use Rattle.packet_header.specs.declared.fault.PutFault.TheVariants as fault

-- a writer goes on in the same buffer, and leaves what is after it
pub record Onward (old new : BitWriterState) (before after : List ℕ) : Type 0 where
  pub onward : old.len ≤ new.len
  pub within : new.len ≤ length after
  pub beyond : drop new.len after ≡ drop new.len before

-- a call puts these bits after all that were put before, or answers `Full` exactly where they reach past the buffer
pub record Puts {A : Type 0} (bits : List Bool) (old new : BitWriterState) (before after : List ℕ) (out : Result A Full) : Type 0 where
  pub writes : Writes bits old new before after out
  pub goes : Onward old new before after

-- a call puts these bits after all that were put before, or answers `Full` where they reach past the buffer
pub record Fills {A : Type 0} (bits : List Bool) (old new : BitWriterState) (before after : List ℕ) (out : Result A PutFault) : Type 0 where
  pub full : (done : List Bool) → HasWritten done before old → out ≡ Err fault.Full → length before < reach (done ++ bits)
  pub holds : IfOk out (λ _. (done : List Bool) → HasWritten done before old → HasWritten (done ++ bits) after new)

-- the bits of a refinement length: none with one pass
abbrev pub refine_tail : ℕ → ℕ → ℕ → List Bool
refine_tail passes lblock n = if passes == 1 then [] else number_bits (refine_width passes lblock) n

-- the bits of an included code-block, with this Lblock, after those of its zero bit-planes
abbrev pub value_bits : ℕ → values.Block → List Bool
value_bits lblock b = passes_code b.passes ++ (run_of true (lblock - 3) false ++ (number_bits lblock b.cleanup ++ refine_tail b.passes lblock b.refine))
