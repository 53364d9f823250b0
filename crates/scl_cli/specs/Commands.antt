-- The grammar of a command line.
use Rattle.std.specs.Prelude.{◌≡◌, ◌≤◌, ◌<◌, ◌^◌, ◌⊎◌, ◌==◌, ◌++◌, ℕ, Bool, true, false, List, [], ◌∷◌, Option, Some, None, codes, decimal, slice_get, if◌then◌else◌}
use Rattle.stream_model.specs.Cut.{Plan, IsPlan}
use Rattle.send_job.specs.Settings.{AreSettings as AreSender}
use Rattle.stream_receiver.specs.declared.pick.Pick.{Pick}
use Rattle.relay_job.specs.Settings.{Target, AreSettings}
use Rattle.recv_job.specs.Settings.{Settings as Receiver, AreSettings as AreReceiver}
use Rattle.scl_cli.specs.declared.command.Command.{Command}
use Rattle.scl_cli.specs.declared.command.Command.TheVariants.{Thin, Head, Order, Parse, Pack, Report, Rebuild, Recv, Send, Relay, Deliver, Gen, Trial}
use Rattle.scl_cli.specs.declared.command.Stamps.{Stamps}
use Rattle.scl_cli.specs.declared.command.Verb.{Verb}
use Rattle.deliver_job.specs.Positions.{IsList, list_word}
use Rattle.scl_cli.specs.declared.command.Verb.TheVariants as verb
use Rattle.trial_model.specs.GeneratorLaws.{IsShape}
use Rattle.codestream_make.specs.declared.shape.Sub.{Sub}
use Rattle.codestream_make.specs.declared.shape.Sub.TheVariants.{S444, S422, S420}
use Rattle.gen_job.specs.declared.generation.Generation.{Generation}
use Rattle.gen_job.specs.GenJob.{shape_of}
use Rattle.trial_job.specs.Job.{IsTrial}

-- The first word of a command.
abbrev pub verb_word : Verb → List ℕ
verb_word verb.Thin = codes "thin"
verb_word verb.Head = codes "head"
verb_word verb.Order = codes "order"
verb_word verb.Parse = codes "parse"
verb_word verb.Pack = codes "pack"
verb_word verb.Report = codes "report"
verb_word verb.Rebuild = codes "rebuild"
verb_word verb.Recv = codes "recv"
verb_word verb.Send = codes "send"
verb_word verb.Relay = codes "relay"
verb_word verb.Deliver = codes "deliver"
verb_word verb.Gen = codes "gen"
verb_word verb.Trial = codes "trial"

-- The ranges of a timestamp and of a step.
pub record IsStamps (stamps : Stamps) : Type 0 where
  pub first : stamps.first < 2 ^ 32
  pub some : 1 ≤ stamps.step
  pub step : stamps.step < 2 ^ 16

-- The word that says whether a change of resolution ends a payload.
abbrev pub mode_word : Bool → List ℕ
mode_word true = codes "split"
mode_word false = codes "plain"

-- The word of a source: its SSRC, or `any`.
abbrev pub source_word : Option ℕ → List ℕ
source_word None = codes "any"
source_word (Some source) = decimal source

-- An SSRC has 32 bits.
abbrev pub IsSource : Option ℕ → Type 0
IsSource None = Unit {0}
IsSource (Some source) = source < 2 ^ 32

-- The ranges of a payload type, a source and a window.
pub record IsPick (pick : Pick) : Type 0 where
  pub kind : pick.kind ≤ 127
  pub source : IsSource pick.source
  pub some : 1 ≤ pick.window
  pub few : pick.window ≤ 16384

-- The words of a plan for datagrams.
abbrev pub plan_words : Plan → List (List ℕ)
plan_words p =
    decimal p.mtu ∷ mode_word p.split ∷ decimal p.kind ∷ decimal p.source ∷ decimal p.number ∷ decimal p.stamp
    ∷ decimal p.step
    ∷ []

-- The second word and the six after it spell this plan.
pub record HasPlan (words : List (List ℕ)) (p : Plan) : Type 0 where
  pub range : IsPlan p
  pub mtu : slice_get words 1 ≡ Some (decimal p.mtu)
  pub mode : slice_get words 2 ≡ Some (mode_word p.split)
  pub kind : slice_get words 3 ≡ Some (decimal p.kind)
  pub source : slice_get words 4 ≡ Some (decimal p.source)
  pub number : slice_get words 5 ≡ Some (decimal p.number)
  pub stamp : slice_get words 6 ≡ Some (decimal p.stamp)
  pub step : slice_get words 7 ≡ Some (decimal p.step)

-- The words of a stream that is picked.
abbrev pub pick_words : Pick → List (List ℕ)
pick_words pick = decimal pick.kind ∷ source_word pick.source ∷ decimal pick.window ∷ []

-- The second word and the two after it pick this stream.
pub record HasPick (words : List (List ℕ)) (pick : Pick) : Type 0 where
  pub range : IsPick pick
  pub kind : slice_get words 1 ≡ Some (decimal pick.kind)
  pub source : slice_get words 2 ≡ Some (source_word pick.source)
  pub window : slice_get words 3 ≡ Some (decimal pick.window)

-- The words of receivers: the address, the limit and the depth of each.
abbrev pub target_words : List Target → List (List ℕ)
target_words [] = []
target_words (r ∷ targets) = r.address ∷ decimal r.limit ∷ decimal r.depth ∷ target_words targets

-- The word of a chroma subsampling.
abbrev pub sub_word : Sub → List ℕ
sub_word S444 = codes "444"
sub_word S422 = codes "422"
sub_word S420 = codes "420"

-- The words of the options: `rpcl` for the order RPCL, and `eph` for EPH markers.
abbrev pub option_words : ℕ → Bool → List (List ℕ)
option_words order eph = (if order == 2 then codes "rpcl" ∷ [] else []) ++ (if eph then codes "eph" ∷ [] else [])

-- These words are the options for this order, which is RPCL or PCRL, and for EPH markers or none.
pub record AreOptions (words : List (List ℕ)) (order : ℕ) (eph : Bool) : Type 0 where
  pub known : (order ≡ 2) ⊎ (order ≡ 3)
  pub are : words ≡ option_words order eph

-- The ranges of what is asked of a generated codestream.
pub record IsGeneration (g : Generation) : Type 0 where
  pub seed : g.seed < 2 ^ 64
  pub shape : IsShape (shape_of g)

-- The ranges of what is asked of a receiver.
pub record IsReceiver (s : Receiver) : Type 0 where
  pub kind : s.pick.kind ≤ 127
  pub source : IsSource s.pick.source
  pub settings : AreReceiver s

-- How a command is spelt: its first word, the other words, and the ranges of its values.
pub record Form : Type 1 where
  pub verb : Verb
  pub values : List (List ℕ)
  pub IsInRange : Type 0

-- The form of each command; a number is spelt in decimal digits without a leading zero.
abbrev pub form : Command → Form
form (Thin limit) = record { verb = verb.Thin; values = decimal limit ∷ []; IsInRange = limit ≤ 7 }
form Head = record { verb = verb.Head; values = []; IsInRange = Unit {0} }
form Order = record { verb = verb.Order; values = []; IsInRange = Unit {0} }
form (Parse stamps) = record { verb = verb.Parse; values = decimal stamps.first ∷ decimal stamps.step ∷ []; IsInRange = IsStamps stamps }
form (Pack p) = record { verb = verb.Pack; values = plan_words p; IsInRange = IsPlan p }
form (Report pick) = record { verb = verb.Report; values = pick_words pick; IsInRange = IsPick pick }
form (Rebuild pick) = record { verb = verb.Rebuild; values = pick_words pick; IsInRange = IsPick pick }
form (Recv s) = record {
  verb = verb.Recv;
  values =
      decimal s.pick.kind ∷ source_word s.pick.source ∷ decimal s.pick.window ∷ decimal s.max ∷ decimal s.idle ∷ s.local
      ∷ [];
  IsInRange = IsReceiver s;
}
form (Send s) = record {
  verb = verb.Send;
  values = plan_words s.plan ++ decimal s.idle ∷ s.local ∷ s.peer ∷ [];
  IsInRange = AreSender s;
}
form (Relay s) = record { verb = verb.Relay; values = decimal s.max ∷ decimal s.idle ∷ s.local ∷ target_words s.targets; IsInRange = AreSettings s }
form (Deliver list) = record { verb = verb.Deliver; values = list_word list ∷ []; IsInRange = IsList list }
form (Gen g) = record {
  verb = verb.Gen;
  values =
      decimal g.seed ∷ decimal g.width ∷ decimal g.height ∷ decimal g.components ∷ decimal g.levels ∷ sub_word g.sub
      ∷ option_words g.order g.eph;
  IsInRange = IsGeneration g;
}
form (Trial asked) = record {
  verb = verb.Trial;
  values =
      decimal asked.seed ∷ decimal asked.count ∷ decimal asked.loss ∷ decimal asked.window ∷ decimal asked.limit
      ∷ [];
  IsInRange = IsTrial asked;
}

-- The first word of a command, as a name.
abbrev pub verb_of : Command → Verb
verb_of command = (form command).verb

-- The words of a command.
abbrev pub words_of : Command → List (List ℕ)
words_of command = verb_word (form command).verb ∷ (form command).values

-- The words spell this command.
abbrev pub Spells : Command → List (List ℕ) → Type 0
Spells command words = (form command).IsInRange × (words ≡ words_of command)

-- The words are outside the grammar.
abbrev pub SpellsNothing : List (List ℕ) → Type 0
SpellsNothing words = (command : Command) → Spells command words → ⊥

-- The words begin with the first word of a command.
abbrev pub Begins : Verb → List (List ℕ) → Type 0
Begins v words = (more : List (List ℕ)) × (words ≡ verb_word v ∷ more)

-- Where the words spell a command of this verb, it is the one found.
abbrev pub FindsSpelt : Verb → List (List ℕ) → Option Command → Type 0
FindsSpelt v words found = (command : Command) → verb_of command ≡ v → Spells command words → found ≡ Some command
