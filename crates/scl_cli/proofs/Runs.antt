-- A run of the command that the words spell, and what its input decides.
use Rattle.std.proofs.Common.{◌≡◌, ℕ, List, Some, None, refl, sym, subst, ◌∙◌, inl, inr}
use Rattle.scl_outside.specs.Meaning.{Meaning}
use Rattle.scl_outside.specs.Events.{Event, Noted}
use Rattle.scl_outside.specs.Steps.{Step}
use Rattle.scl_run.specs.declared.ending.Ending.{Ending}
use Rattle.scl_run.specs.Endings.{status_of, line_of, words_line, Notes}
use Rattle.scl_run.specs.InputClass.{IsLawful}
use Rattle.scl_run.specs.Performing.{Performs}
use Rattle.scl_run.specs.Runs.{Decides, WantsMemory}
use Rattle.scl_run.proofs.CaptureInputLaws.{capture_input_is_lawful}
use Rattle.scl_run.proofs.HeaderInputLaws.{header_input_is_lawful}
use Rattle.scl_run.proofs.InputClassLaws.{no_input_is_lawful}
use Rattle.scl_run.proofs.Performed.{performed}
use Rattle.parse_job.proofs.Lawful.{codestreams_are_lawful}
use Rattle.pack_job.proofs.Lawful.{sent_inputs_are_lawful}
use Rattle.deliver_job.specs.Items.{ranges_of}
use Rattle.deliver_job.proofs.Lawful.{delivered_inputs_are_lawful}
use Rattle.scl_run.proofs.Decided.{decides, wants}
use Rattle.scl_cli.specs.declared.command.Command.{Command}
use Rattle.scl_cli.specs.declared.command.Command.TheVariants.{Thin, Head, Order, Parse, Pack, Report, Rebuild, Recv, Send, Relay, Deliver, Gen, Trial}
use Rattle.scl_cli.specs.Commands.{Spells, form}
use Rattle.scl_cli.specs.Jobs.{job}
use Rattle.scl_cli.specs.Runs.{Ran}

-- The job of a command that is spelt reads a lawful class of inputs.
lawful : (command : Command) → (form command).IsInRange → IsLawful (job command).inputs
lawful (Thin limit) range = capture_input_is_lawful
lawful Head range = header_input_is_lawful
lawful Order range = header_input_is_lawful
lawful (Parse stamps) range = codestreams_are_lawful
lawful (Pack plan) range = sent_inputs_are_lawful plan range
lawful (Report pick) range = capture_input_is_lawful
lawful (Rebuild pick) range = capture_input_is_lawful
lawful (Recv s) range = no_input_is_lawful
lawful (Send s) range = sent_inputs_are_lawful s.plan range.plan
lawful (Relay settings) range = no_input_is_lawful
lawful (Deliver list) range = delivered_inputs_are_lawful (ranges_of list)
lawful (Gen g) range = no_input_is_lawful
lawful (Trial asked) range = no_input_is_lawful

-- words that spell nothing are said to
pub spells_nothing : (words : List (List ℕ)) (s t : Meaning) → ((command : Command) → Spells command words → None ≡ Some command) → Step s (Noted words_line) t → Ran words s t 2
spells_nothing words s t none step = inl (λ command spells. absurd (let e : None ≡ Some command = none command spells in cc), refl, step)

pub ran : (words : List (List ℕ)) (command : Command) (s t u : Meaning) (ending : Ending) (status : ℕ) (es : List Event) → Spells command words → status ≡ status_of ending → Performs (job command) s t ending es → Notes (line_of ending) t u → Ran words s u status
ran words command s t u ending status es spells is h note = inr (command, ending, spells, is, performed (job command) s t u ending es h note)

pub decided : (command other : Command) (s t u : Meaning) (ending : Ending) (status : ℕ) (es : List Event) → (form other).IsInRange → Some command ≡ Some other → status ≡ status_of ending → Performs (job command) s t ending es → Notes (line_of ending) t u → Decides (job other) s u status
decided command other s t u ending status es range same is h note =
    let e : command ≡ other = cc in
    let P : Command → Type 0 = λ c. Decides (job c) s u status in
    let Q : Command → Type 0 = λ c. (form c).IsInRange in
    subst P e (decides (job command) s u ending status (lawful command (subst Q (sym e) range)) is (performed (job command) s t u ending es h note))

pub wanted : (words : List (List ℕ)) (command : Command) (s t u : Meaning) (ending : Ending) (status : ℕ) (es : List Event) → Spells command words → status ≡ status_of ending → Performs (job command) s t ending es → Notes (line_of ending) t u
    → status ≡ 7 → (other : Command) × Spells other words × WantsMemory (job other).memory s u
wanted words command s t u ending status es spells is h note seven = (command, spells, wants (job command) s u ending (sym is ∙ seven) (performed (job command) s t u ending es h note))
