-- What a finished run has written.
use Rattle.std.proofs.Common.{◌≡◌, ◌≤◌, ◌^◌, ◌++◌, ℕ, Bool, true, false, List, [], length, Option, Some, None, sym, ◌∙◌, ap, subst}
use Rattle.std.proofs.lemmas.List.{append-nil, take_all}
use Rattle.std.specs.Prelude.{IfSome, MatchBool}
use Rattle.wire_model.specs.Causes.{Grew, Fell}
use Rattle.wire_model.specs.Framing.{framing, whole_frames}
use Rattle.wire_model.proofs.FramingLaws.{whole_frames_of_framing}
use Rattle.stream_model.specs.Commands.{counted}
use Rattle.stream_model.specs.Receiver as rules
use Rattle.stream_model.specs.Receiver.{received}
use Rattle.scl_outside.specs.Meaning.{Meaning}
use Rattle.scl_outside.specs.Steps.{IsOver}
use Rattle.scl_outside.specs.Effects.{effects}
use Rattle.scl_run.specs.declared.ending.Ending.TheVariants.{Done}
use Rattle.scl_run.specs.Runs.{RunsAs}
use Rattle.receiving_job.specs.Job.{receiving_job}

-- all of the input was read
pub all_read : (before now : Option (List ℕ)) (read input rest : List ℕ) → Fell before now read → IfSome now (λ r. r ≡ []) → before ≡ Some input → now ≡ Some rest → input ≡ read
all_read before None read input rest f o b n = absurd (cc)
all_read None (Some now) read input rest f o b n = absurd f
all_read (Some was) (Some now) read input rest f o b n = let e : was ≡ input = cc in sym e ∙ (f ∙ (ap (λ l. read ++ l) o ∙ append-nil read))

-- the input is over where its end was met
pub is_over : (b : Bool) (t : Meaning) → b ≡ true → MatchBool b (IsOver t) (Unit {0}) → IsOver t
is_over true t e h = h
is_over false t e h = absurd (cc)

-- the frames of a capture that was read to its end
frames_of : (frames : List (List ℕ)) (input : List ℕ) → input ≡ framing frames ++ [] → length input ≤ 2 ^ 40 → whole_frames (counted input) ≡ frames
frames_of frames input whole few =
    let short : counted input ≡ input = take_all 1099511627776 input few in
    ap whole_frames (short ∙ whole) ∙ whole_frames_of_framing frames [] tt

pub frames_read : (made : rules.Receiver → Bool → List ℕ) (pick : rules.Pick) (s t : Meaning) (frames : List (List ℕ)) (input rest : List ℕ) → (run : RunsAs (receiving_job made pick) s t Done)
    → input ≡ framing frames ++ [] → s.left ≡ Some input → t.left ≡ Some rest → whole_frames (counted (effects run.events).read) ≡ frames
frames_read made pick s t frames input rest run whole sl tl =
    let f = effects run.events in
    let accepted = run.ends.cause.0 in
    let over = is_over f.ended t (accepted.1 tt) run.affects.over in
    let e : input ≡ f.read = all_read s.left t.left f.read input rest run.affects.left over sl tl in
    frames_of frames f.read (sym e ∙ whole) accepted.0.0

-- what is made of the frames of the capture was written
pub finished : (made : rules.Receiver → Bool → List ℕ) (pick : rules.Pick) (s t : Meaning) (frames : List (List ℕ)) (input rest : List ℕ) → RunsAs (receiving_job made pick) s t Done
    → input ≡ framing frames ++ [] → s.left ≡ Some input → t.left ≡ Some rest → Grew s.written t.written (made (received pick frames) true)
finished made pick s t frames input rest run whole sl tl =
    let is = frames_read made pick s t frames input rest run whole sl tl in
    let G : List ℕ → Type 0 = λ l. Grew s.written t.written l in
    subst G (run.ends.output ∙ ap (λ l. made (received pick l) true) is) run.affects.written
