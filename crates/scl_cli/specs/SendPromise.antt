-- What a run of `send` promises.
use Rattle.std.specs.Prelude.{ℕ, List}
use Rattle.scl_outside.specs.Meaning.{Meaning}
use Rattle.scl_outside.specs.Effects.{Effects}
use Rattle.scl_outside.specs.Traces.{Affects}
use Rattle.scl_outside.specs.Prompt.{Prompt}
use Rattle.send_job.specs.Settings.{Settings}
use Rattle.send_job.specs.SentStreams.{IsSentSoFar, EndsSent}
use Rattle.scl_cli.specs.declared.command.Command.TheVariants.{Send}
use Rattle.scl_cli.specs.Commands.{Spells}

-- A run of `send` with this status: at each mark, what was sent by then are the datagrams that the bytes
-- read by then fix, as the link took them, with at most 90,000 of these bytes in none where it took
-- each; and so at the end, where with the status 0 they are the cut of the codestreams that were read,
-- and the line with their counts was written.
pub record SendsAs (s : Settings) (m n : Meaning) (status : ℕ) : Type 0 where
  pub prompt : Prompt (IsSentSoFar s) m n
  pub ends : (f : Effects) × Affects m f n × EndsSent s status f

-- Where the words spell `send`, the run keeps the promise of the plan and the peer that they name.
abbrev pub SendsStreams : List (List ℕ) → Meaning → Meaning → ℕ → Type 0
SendsStreams words m n status = (settings : Settings) → Spells (Send settings) words → SendsAs settings m n status
