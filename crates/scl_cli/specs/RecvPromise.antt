-- What a run of `recv` promises of a stream.
use Rattle.std.specs.Prelude.{ℕ, List}
use Rattle.scl_outside.specs.Meaning.{Meaning}
use Rattle.scl_outside.specs.Effects.{Effects}
use Rattle.scl_outside.specs.Traces.{Affects}
use Rattle.scl_outside.specs.Prompt.{Prompt}
use Rattle.recv_job.specs.Settings.{Settings}
use Rattle.recv_job.specs.Headlines.{WritesDue, EndsWithDue}
use Rattle.scl_cli.specs.declared.command.Command.TheVariants.{Recv}
use Rattle.scl_cli.specs.Commands.{Spells}

-- A run of `recv` with this status: at each mark, what was written by then are the lines of what was
-- due of the datagrams that came by then; with 0, at the end those of what is due at the end, the END
-- line and the line of `recv`; and with 5 those of what was due by then.
pub record ReceivesAs (s : Settings) (m n : Meaning) (status : ℕ) : Type 0 where
  pub prompt : Prompt (WritesDue s) m n
  pub ends : (f : Effects) × Affects m f n × EndsWithDue s status f

-- Where the words spell `recv`, the run keeps the promise of the stream that they pick.
abbrev pub ReceivesStreams : List (List ℕ) → Meaning → Meaning → ℕ → Type 0
ReceivesStreams words m n status = (settings : Settings) → Spells (Recv settings) words → ReceivesAs settings m n status
