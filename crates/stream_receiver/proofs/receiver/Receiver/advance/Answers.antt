use Rattle.std.proofs.Common.{◌≡◌, ◌∙◌, ℕ, List, Some, true, ap, subst, sym}
use Rattle.stream_model.specs.Arrivals.{is_of_kind}
use Rattle.reassembly_window.specs.Answers.{handed}
use Rattle.reassembly_window.specs.Windows.{WindowState}
use Rattle.resync_decoder.specs.States.{DecoderState}
use Rattle.stream_receiver.specs.States.{ReceiverState}
use Rattle.stream_receiver.proofs.Advancing.{next_none, next_gap, next_held, item_shown, sound_none, sound_gap, sound_held, none_advances, gap_advances, held_advances}
use Rattle.stream_receiver.proofs.receiver.Receiver.advance.Goals as goal

pub invariant_of-self : goal.invariant_of-self
invariant_of-self c =
    let n = next_none _ c.self.inside.window c.next.new.self (handed c.self.inside.window) (sym c.in-None.is ∙ c.next.ensures.answer) c.next.ensures.window in
    sound_none c.self.inside c.next.new.self c.self.invariant n.1

pub returns-in-None-clause-rules : goal.returns-in-None-clause-rules
returns-in-None-clause-rules c =
    let n = next_none _ c.self.inside.window c.next.new.self (handed c.self.inside.window) (sym c.in-None.is ∙ c.next.ensures.answer) c.next.ensures.window in
    let settled : c.self.inside.settled ≡ true = ap (λ (s : ReceiverState). s.settled) c.self.view_is ∙ c.requires in
    none_advances c.self.inside c.args.self.now c.next.new.self c.self.view_is c.self.invariant settled n.0 n.1

pub invariant_of-self-in-Some-Gap : goal.invariant_of-self-in-Some-Gap
invariant_of-self-in-Some-Gap c =
    let n = next_gap _ c.in-Some-Gap.field-0-0 c.in-Some-Gap.field-0-1 c.self.inside.window c.next.new.self (handed c.self.inside.window) (ap Some (sym c.in-Some-Gap.field-0-is) ∙ (sym c.in-Some-Gap.is ∙ c.next.ensures.answer)) c.next.ensures.window in
    sound_gap c.self.inside c.next.new.self c.gap.new.self n.0 n.1 c.self.invariant n.2 n.3 (ap (λ (s : DecoderState). s.waits) c.gap.ensures)

pub returns-in-Some-Gap-clause-rules : goal.returns-in-Some-Gap-clause-rules
returns-in-Some-Gap-clause-rules c =
    let n = next_gap _ c.in-Some-Gap.field-0-0 c.in-Some-Gap.field-0-1 c.self.inside.window c.next.new.self (handed c.self.inside.window) (ap Some (sym c.in-Some-Gap.field-0-is) ∙ (sym c.in-Some-Gap.is ∙ c.next.ensures.answer)) c.next.ensures.window in
    let settled : c.self.inside.settled ≡ true = ap (λ (s : ReceiverState). s.settled) c.self.view_is ∙ c.requires in
    gap_advances c.self.inside c.args.self.now c.next.new.self c.gap.new.self n.0 n.1 c.self.view_is settled n.2 n.3 (ap (λ (s : DecoderState). s.rules) c.gap.ensures)

pub decode-requires-clause-kind : goal.decode-requires-clause-kind
decode-requires-clause-kind c =
    let n = next_held _ c.in-Some-Held.field-0-0 c.self.inside.window c.next.new.self (handed c.self.inside.window) (ap Some (sym c.in-Some-Held.field-0-is) ∙ (sym c.in-Some-Held.is ∙ c.next.ensures.answer)) c.next.ensures.window in
    let shown : Some n.0 ≡ Some c.bytes.result.now = sym (ap (λ (s : WindowState). s.shown) n.3) ∙ c.bytes.ensures in
    let same : n.0 ≡ c.bytes.result.now = cc in
    let K : List ℕ → Type 0 = λ k. is_of_kind c.self.inside.pick.kind k ≡ true in
    subst K same (item_shown c.self.inside n.0 n.1 c.self.invariant n.2)

pub invariant_of-self-in-Some-Held : goal.invariant_of-self-in-Some-Held
invariant_of-self-in-Some-Held c =
    let n = next_held _ c.in-Some-Held.field-0-0 c.self.inside.window c.next.new.self (handed c.self.inside.window) (ap Some (sym c.in-Some-Held.field-0-is) ∙ (sym c.in-Some-Held.is ∙ c.next.ensures.answer)) c.next.ensures.window in
    sound_held c.self.inside c.next.new.self c.decode.new.decoder n.0 n.1 c.self.invariant n.2 n.3

pub returns-in-Some-Held-clause-rules : goal.returns-in-Some-Held-clause-rules
returns-in-Some-Held-clause-rules c =
    let n = next_held _ c.in-Some-Held.field-0-0 c.self.inside.window c.next.new.self (handed c.self.inside.window) (ap Some (sym c.in-Some-Held.field-0-is) ∙ (sym c.in-Some-Held.is ∙ c.next.ensures.answer)) c.next.ensures.window in
    let shown : Some n.0 ≡ Some c.bytes.result.now = sym (ap (λ (s : WindowState). s.shown) n.3) ∙ c.bytes.ensures in
    let same : n.0 ≡ c.bytes.result.now = cc in
    held_advances c.self.inside c.args.self.now c.next.new.self c.decode.new.decoder n.0 c.bytes.result.now n.1 c.self.view_is n.2 n.3 same c.decode.ensures
