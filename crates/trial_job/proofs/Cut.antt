-- The datagrams that a sender makes of codestreams that can be sent, read from an outside that never fails.
use Rattle.std.proofs.Common.{◌≡◌, ◌≤◌, ◌<◌, ◌-◌, ◌^◌, ◌++◌, ℕ, Bool, true, false, List, [], ◌∷◌, length, Option, Some, None, refl, sym, ◌∙◌, ap, subst, append_assoc, inl, inr, arith}
use Rattle.std.specs.Prelude.{IfSome, MatchBool}
use Rattle.std.proofs.lemmas.List.{append-nil, length-append}
use Rattle.wire_model.specs.Causes.{Fell}
use Rattle.codestream_model.specs.Bytes.{IsBytes}
use Rattle.codestream_model.specs.Codestream.{joined}
use Rattle.codestream_model.proofs.BytesLemmas.{bytes_front}
use Rattle.stream_model.specs.Commands.{counted}
use Rattle.stream_model.specs.Cut.{Plan}
use Rattle.stream_model.specs.Stream.{Parts}
use Rattle.stream_model.specs.ThinnedLaws.{CanBeSent, cut_of}
use Rattle.sender_model.specs.Closing.{closed}
use Rattle.sender_model.specs.Refusals.{SenderRefusal, InputRefused, SenderRefuses, SenderAccepts}
use Rattle.sender_model.specs.Refusals as refusal
use Rattle.sender_model.proofs.Refused.{joined_bytes, all_counted, sendable_is_accepted, sendable_is_cut}
use Rattle.scl_outside.specs.Meaning.{Meaning}
use Rattle.scl_outside.specs.Events.{Event}
use Rattle.scl_outside.specs.Effects.{Effects, effects}
use Rattle.scl_outside.specs.Steps.{Counts, IsOver}
use Rattle.scl_outside.specs.Traces.{Affects}
use Rattle.scl_outside.specs.Memory.{sure_meaning}
use Rattle.scl_outside.specs.declared.never_fails.NeverFails.{NeverFails}
use Rattle.scl_outside.proofs.Affects.{trace_affects}
use Rattle.codestream_walk.specs.Faults.{walk_refusal}
use Rattle.packetiser.specs.Packing.{Packing}
use Rattle.packetiser.specs.Sending.{Sender, Sends, Answers}
use Rattle.packetiser.specs.declared.packetiser.PackOut.{PackOut}
use Rattle.packetiser.specs.declared.packetiser.PackOut.TheVariants as out
use Rattle.scl_run.specs.declared.ending.Reason.TheVariants as reason
use Rattle.scl_run.specs.declared.ending.Refusal.{Refusal}
use Rattle.pack_job.specs.SentInput.{AreSendable, sender_reason}
use Rattle.pack_job.proofs.Lawful.{sent_inputs_are_lawful}
use Rattle.pack_job.proofs.Octets.{octets_are}
use Rattle.pack_job.proofs.Turns.{why_cut}

-- An outside in memory tells what is left of its input.
pub told_left : (d : NeverFails) → (rest : List ℕ) × ((sure_meaning d).left ≡ Some rest)
told_left d = (_, refl)

same_items : (o : Option (List ℕ)) (x y : List ℕ) → o ≡ Some x → o ≡ Some y → x ≡ y
same_items o x y e f = let g : Some x ≡ Some y = sym e ∙ f in cc

pub input_is : (d : NeverFails) (input : List ℕ) → (sure_meaning d).left ≡ Some input → (told_left d).0 ≡ input
input_is d input e = same_items (sure_meaning d).left (told_left d).0 input (told_left d).1 e

-- Of the input these bytes were read and these datagrams given.
pub record HasSent (p : Plan) (input : List ℕ) (d : NeverFails) (u : Packing) (given : List (List ℕ)) : Type 0 where
  pub read : List ℕ
  pub rest : List ℕ
  pub whole : input ≡ read ++ rest
  pub left : (sure_meaning d).left ≡ Some rest
  pub sender : Sender p read given u

pub none_sent : (p : Plan) (d : NeverFails) (u : Packing) (given : List (List ℕ)) → given ≡ [] → Sender p [] [] u → HasSent p (told_left d).0 d u given
none_sent p d u given none s =
    let S : List (List ℕ) → Type 0 = λ l. Sender p [] l u in
    record { read = []; rest = (told_left d).0; whole = refl; left = (told_left d).1; sender = subst S (sym none) s }

-- A step of the sender: what was read by its end, what is left, and what the answer says.
pub record HasStepped (p : Plan) (input : List ℕ) (d : NeverFails) (v : Packing) (given : List (List ℕ)) (answer : PackOut) (f : Effects) : Type 0 where
  pub read : List ℕ
  pub rest : List ℕ
  pub whole : input ≡ read ++ rest
  pub left : (sure_meaning d).left ≡ Some rest
  pub answers : Answers p answer read given v

fell_is : (a b : Option (List ℕ)) (read was now : List ℕ) → Fell a b read → a ≡ Some was → b ≡ Some now → was ≡ read ++ now
fell_is a None read was now f e g = absurd (cc)
fell_is None (Some y) read was now f e g = absurd f
fell_is (Some x) (Some y) read was now f e g = let h : x ≡ was = cc in let k : y ≡ now = cc in sym h ∙ (f ∙ ap (λ l. read ++ l) k)

pub stepped : (p : Plan) (input : List ℕ) (d e : NeverFails) (u v : Packing) (given : List (List ℕ)) (answer : PackOut) (es : List Event) → HasSent p input d u given → Sends u (sure_meaning d) (sure_meaning e) answer v es
    → HasStepped p input e v given answer (effects es)
stepped p input d e u v given answer es so k =
    let f = (effects es).read in
    let now = told_left e in
    let fell = fell_is (sure_meaning d).left (sure_meaning e).left f so.rest now.0 (trace_affects (sure_meaning d) (sure_meaning e) es k.trace).left so.left now.1 in
    let S : Plan → Type 0 = λ q. Sender q so.read given u in
    let A : Plan → Type 0 = λ q. Answers q answer (so.read ++ f) given v in
    record {
      read = so.read ++ f;
      rest = now.0;
      whole = so.whole ∙ (ap (λ l. so.read ++ l) fell ∙ sym (append_assoc so.read f now.0));
      left = now.1;
      answers = subst A so.sender.plan (k.answers so.read given (subst S (sym so.sender.plan) so.sender));
    }

-- One datagram more.
pub one_sent : (p : Plan) (input : List ℕ) (d e : NeverFails) (u v : Packing) (given more : List (List ℕ)) (es : List Event) → HasSent p input d u given → Sends u (sure_meaning d) (sure_meaning e) out.Datagram v es → more ≡ given ++ v.shown ∷ [] → HasSent p input e v more
one_sent p input d e u v given more es so k is =
    let q = stepped p input d e u v given out.Datagram es so k in
    let S : List (List ℕ) → Type 0 = λ l. Sender p q.read l v in
    record { read = q.read; rest = q.rest; whole = q.whole; left = q.left; sender = subst S (sym is) q.answers.0 }

-- There are at most 8,388,607.
pub one_fewer : (p : Plan) (input : List ℕ) (d e : NeverFails) (u v : Packing) (given : List (List ℕ)) (es : List Event) → HasSent p input d u given → Sends u (sure_meaning d) (sure_meaning e) out.Datagram v es → 8388607 - v.given < 8388607 - u.given
one_fewer p input d e u v given es so k =
    let a = (stepped p input d e u v given out.Datagram es so k).answers.0 in
    omega (arith, a.count, a.few, so.sender.count, length-append given (v.shown ∷ []))

-- An input that is accepted isn't refused.
not_refused : (p : Plan) (parts : List Parts) (codestreams : List (List ℕ)) (read rest : List ℕ) (at : ℕ) (why : SenderRefusal) → CanBeSent p parts codestreams → length (joined codestreams) ≤ 2 ^ 40
    → joined codestreams ≡ read ++ rest → SenderRefuses p read at why → (sender_reason why ≡ reason.Cut → rest ≡ []) → IsBytes read → ⊥
not_refused p parts codestreams read rest at why can within whole refuses end bytes =
    let lawful = sent_inputs_are_lawful p can.plan in
    let r : Refusal = record { at = at; reason = sender_reason why } in
    let R : List ℕ → Type 0 = λ l. SenderRefuses p l at why in
    let A : List ℕ → Type 0 = λ l. SenderAccepts p l codestreams in
    let B : List ℕ → Type 0 = λ l. AreSendable p l in
    let accepts : AreSendable p (joined codestreams) = (codestreams, subst A (sym (octets_are (joined codestreams) (joined_bytes codestreams can.bytes))) (sendable_is_accepted p parts codestreams can within)) in
    lawful.one (read ++ rest) r (subst B whole accepts) (lawful.refused read rest r (why, refl, subst R (sym (octets_are read bytes)) refuses) end)

-- All of the input was read where its end was met.
over_is : (t : Meaning) (rest : List ℕ) (ended : Bool) → t.left ≡ Some rest → ended ≡ true → MatchBool ended (IsOver t) (Unit {0}) → rest ≡ []
over_is t rest false left e h = absurd (cc)
over_is t rest true left e h = let P : Option (List ℕ) → Type 0 = λ l. IfSome l (λ r. r ≡ []) in subst P left h

-- What is left of the input after an end.
end_left : (d e : NeverFails) (es : List Event) (rest : List ℕ) → Affects (sure_meaning d) (effects es) (sure_meaning e) → (sure_meaning e).left ≡ Some rest → (effects es).ended ≡ true → rest ≡ []
end_left d e es rest a left ended = over_is (sure_meaning e) rest (effects es).ended left ended a.over

-- No read fails.
never_read_fails : (d e : NeverFails) (es : List Event) → Affects (sure_meaning d) (effects es) (sure_meaning e) → (effects es).read_failed ≡ true → ⊥
never_read_fails d e es a failed = let P : Bool → Type 0 = λ f. Counts f 0 0 in let now = subst P failed a.read_faults in omega (arith, now.1)

-- What was given once a step gives no datagram is the cut.
pub all_sent : (p : Plan) (parts : List Parts) (codestreams : List (List ℕ)) (input : List ℕ) (d e : NeverFails) (u v : Packing) (given : List (List ℕ)) (answer : PackOut) (es : List Event) → CanBeSent p parts codestreams → length (joined codestreams) ≤ 2 ^ 40 → input ≡ joined codestreams
    → HasSent p input d u given → Sends u (sure_meaning d) (sure_meaning e) answer v es → (answer ≡ out.Datagram → ⊥) → given ≡ cut_of p parts
all_sent p parts codestreams input d e u v given answer es can within is so k other = by answer k (stepped p input d e u v given answer es so k) other where
  affects : Affects (sure_meaning d) (effects es) (sure_meaning e)
  affects = trace_affects (sure_meaning d) (sure_meaning e) es k.trace

  refused_here : (read rest : List ℕ) (at : ℕ) (why : SenderRefusal) → input ≡ read ++ rest → SenderRefuses p read at why → (sender_reason why ≡ reason.Cut → rest ≡ []) → ⊥
  refused_here read rest at why whole refuses end =
      let B : List ℕ → Type 0 = λ l. IsBytes l in
      not_refused p parts codestreams read rest at why can within (sym is ∙ whole) refuses end (bytes_front read rest (subst B (sym is ∙ whole) (joined_bytes codestreams can.bytes)))

  by : (a : PackOut) → Sends u (sure_meaning d) (sure_meaning e) a v es → HasStepped p input e v given a (effects es) → (a ≡ out.Datagram → ⊥) → given ≡ cut_of p parts
  by out.Datagram k q is_other = absurd (is_other refl)
  by out.End k q is_other =
      let none = end_left d e es q.rest affects q.left (ap (λ (f : Effects). f.ended) k.only) in
      let all : q.read ≡ joined codestreams = sym (q.whole ∙ (ap (λ l. q.read ++ l) none ∙ append-nil q.read)) ∙ is in
      q.answers.1 ∙ (ap (λ l. closed p (counted l)) all ∙ (ap (closed p) (all_counted (joined codestreams) within) ∙ sendable_is_cut p parts codestreams can))
  by (out.Refused fault) k q is_other = absurd (elim k.only [
    | inl t ↦ refused_here q.read q.rest fault.at (InputRefused (walk_refusal fault.why)) q.whole q.answers.0 (λ i. end_left d e es q.rest affects q.left (ap (λ (f : Effects). f.ended) t.1))
    | inr t ↦ refused_here q.read q.rest fault.at (InputRefused (walk_refusal fault.why)) q.whole q.answers.0 (λ cut. absurd (t.0 (why_cut fault.why cut)))
  ])
  by (out.HeaderTooLong at) k q is_other = absurd (refused_here q.read q.rest at refusal.HeaderTooLong q.whole q.answers.0 (λ cut. absurd (cc)))
  by (out.TooManyDatagrams at) k q is_other = absurd (refused_here q.read q.rest at refusal.TooManyDatagrams q.whole q.answers.0 (λ cut. absurd (cc)))
  by out.ReadFault k q is_other = absurd (never_read_fails d e es affects (ap (λ (f : Effects). f.read_failed) k.only))
