-- What a run of `pack` promises of a stream.
use Rattle.std.specs.Prelude.{◌≡◌, ℕ, List}
use Rattle.stream_model.specs.Cut.{Plan}
use Rattle.scl_outside.specs.Meaning.{Meaning}
use Rattle.scl_outside.specs.Effects.{Effects}
use Rattle.scl_outside.specs.Traces.{Affects}
use Rattle.scl_outside.specs.Prompt.{Prompt}
use Rattle.pack_job.specs.PackedStreams.{PacksStream, IsPackedSoFar, EndsPacked}
use Rattle.scl_cli.specs.declared.command.Command.TheVariants.{Pack}
use Rattle.scl_cli.specs.Commands.{Spells}

-- What was written by the end are the frames of the datagrams that the bytes read fix, or with the status 4 a prefix of them.
abbrev pub EndsWithFixed : Plan → Meaning → Meaning → ℕ → Type 0
EndsWithFixed p s t status = (f : Effects) × Affects s f t × EndsPacked p status f

-- A run of `pack` with this status: with 0 what was written is the capture of a stream that carries the codestreams read; at each
-- mark what was written by then are the frames of the datagrams that the bytes read by then fix, and at most 90,000 of these bytes
-- are in none of them; and so at the end, but for the lead.
pub record Packs (p : Plan) (s t : Meaning) (status : ℕ) : Type 0 where
  pub stream : status ≡ 0 → PacksStream p s t
  pub prompt : Prompt (IsPackedSoFar p) s t
  pub ends : EndsWithFixed p s t status

-- Where the words spell `pack`, the run keeps the promise of the plan that they name.
abbrev pub PacksStreams : List (List ℕ) → Meaning → Meaning → ℕ → Type 0
PacksStreams words s t status = (plan : Plan) → Spells (Pack plan) words → Packs plan s t status
