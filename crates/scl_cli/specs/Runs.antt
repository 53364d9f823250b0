-- What a run of the program does.
use Rattle.std.specs.Prelude.{◌≡◌, ◌⊎◌, ℕ, List}
use Rattle.scl_outside.specs.Meaning.{Meaning}
use Rattle.scl_outside.specs.Events.{Noted}
use Rattle.scl_outside.specs.Steps.{Step}
use Rattle.scl_run.specs.declared.ending.Ending.{Ending}
use Rattle.scl_run.specs.Endings.{status_of, words_line}
use Rattle.scl_run.specs.Runs.{RunsAs, Decides, WantsMemory}
use Rattle.scl_cli.specs.declared.command.Command.{Command}
use Rattle.scl_cli.specs.Commands.{Spells, SpellsNothing}
use Rattle.scl_cli.specs.Jobs.{job}

-- A run of the program: the words are outside the grammar, and all that it does is to note that; or it runs the job of the command
-- that they spell.
abbrev pub Ran : List (List ℕ) → Meaning → Meaning → ℕ → Type 0
Ran words s t status =
    (SpellsNothing words × (status ≡ 2) × Step s (Noted words_line) t)
    ⊎ ((command : Command) × (ending : Ending) × Spells command words × (status ≡ status_of ending) × RunsAs (job command) s t ending)

-- The input decides how the run of the command that the words spell ends, where it is told and no call failed.
abbrev pub Decided : List (List ℕ) → Meaning → Meaning → ℕ → Type 0
Decided words s t status = (command : Command) → Spells command words → Decides (job command) s t status

-- The words spell a command that may be out of memory, and no more was done by then than its job says.
abbrev pub MayLackMemory : List (List ℕ) → Meaning → Meaning → Type 0
MayLackMemory words s t = (command : Command) × Spells command words × WantsMemory (job command).memory s t
