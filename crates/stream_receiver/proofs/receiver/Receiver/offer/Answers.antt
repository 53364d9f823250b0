use Rattle.std.proofs.Common.{◌≡◌, ◌<◌, ◌^◌, ℕ, true, sym, ◌∙◌, subst}
use Rattle.wire_model.specs.Datagram.{datagram_of}
use Rattle.stream_model.specs.Stream.{extended_number}
use Rattle.stream_model.specs.Receiver.{is_source}
use Rattle.stream_model.specs.Window as window
use Rattle.reassembly_window.specs.Answers.{offered}
use Rattle.stream_receiver.specs.declared.receiver.Taken.TheVariants as taken
use Rattle.stream_receiver.proofs.Offering.{is_kept, is_again, is_behind, is_drain, is_offered, kept_answers, kept_state, kept_sound, again_answers, again_state, again_sound, again_source, behind_answers, behind_state, behind_sound, behind_source, drain_answers, drain_state, drain_sound}
use Rattle.stream_receiver.proofs.Taking.{offers_inside, low_number}
use Rattle.stream_receiver.proofs.receiver.Receiver.offer.Goals as goal

pub invariant_of-self : goal.invariant_of-self
invariant_of-self c =
    let d = c.self.inside in
    let source : is_source c.args.self.now.rules.source c.in-Ok.read.source ≡ true = sym c.is_source.ensures ∙ c.if-not-is_source.false in
    let e : offered d.window c.in-Ok.read.number ≡ window.Kept = is_kept (offered d.window c.in-Ok.read.number) (sym c.in-Kept.is ∙ c.offer.ensures.answer) in
    let i = is_offered d c.args.self.now c.args.bytes.now c.in-Ok.read window.Kept c.offer.new.self c.self.view_is c.self.invariant c.in-Ok.ensures source e c.offer.ensures.window in
    kept_sound d c.args.bytes.now c.in-Ok.read c.offer.new.self c.saturating_add-self-inside.result i

pub returns-in-Kept-clause-answer : goal.returns-in-Kept-clause-answer
returns-in-Kept-clause-answer c =
    let d = c.self.inside in
    let source : is_source c.args.self.now.rules.source c.in-Ok.read.source ≡ true = sym c.is_source.ensures ∙ c.if-not-is_source.false in
    let e : offered d.window c.in-Ok.read.number ≡ window.Kept = is_kept (offered d.window c.in-Ok.read.number) (sym c.in-Kept.is ∙ c.offer.ensures.answer) in
    let i = is_offered d c.args.self.now c.args.bytes.now c.in-Ok.read window.Kept c.offer.new.self c.self.view_is c.self.invariant c.in-Ok.ensures source e c.offer.ensures.window in
    kept_answers d c.args.self.now c.args.bytes.now c.in-Ok.read c.offer.new.self c.self.view_is i

pub returns-in-Kept-clause-state : goal.returns-in-Kept-clause-state
returns-in-Kept-clause-state c =
    let d = c.self.inside in
    let source : is_source c.args.self.now.rules.source c.in-Ok.read.source ≡ true = sym c.is_source.ensures ∙ c.if-not-is_source.false in
    let e : offered d.window c.in-Ok.read.number ≡ window.Kept = is_kept (offered d.window c.in-Ok.read.number) (sym c.in-Kept.is ∙ c.offer.ensures.answer) in
    let i = is_offered d c.args.self.now c.args.bytes.now c.in-Ok.read window.Kept c.offer.new.self c.self.view_is c.self.invariant c.in-Ok.ensures source e c.offer.ensures.window in
    kept_state d c.args.self.now c.args.bytes.now c.in-Ok.read c.offer.new.self c.saturating_add-self-inside.result c.self.view_is i c.saturating_add-self-inside.ensures

pub returns-in-Kept-clause-takes : goal.returns-in-Kept-clause-takes
returns-in-Kept-clause-takes c = λ few.
    let d = c.self.inside in
    let source : is_source c.args.self.now.rules.source c.in-Ok.read.source ≡ true = sym c.is_source.ensures ∙ c.if-not-is_source.false in
    let e : offered d.window c.in-Ok.read.number ≡ window.Kept = is_kept (offered d.window c.in-Ok.read.number) (sym c.in-Kept.is ∙ c.offer.ensures.answer) in
    let i = is_offered d c.args.self.now c.args.bytes.now c.in-Ok.read window.Kept c.offer.new.self c.self.view_is c.self.invariant c.in-Ok.ensures source e c.offer.ensures.window in
    offers_inside d c.args.self.now _ c.args.bytes.now taken.Kept c.self.view_is c.self.invariant (kept_state d c.args.self.now c.args.bytes.now c.in-Ok.read c.offer.new.self c.saturating_add-self-inside.result c.self.view_is i c.saturating_add-self-inside.ensures) (kept_answers d c.args.self.now c.args.bytes.now c.in-Ok.read c.offer.new.self c.self.view_is i) (low_number c.args.bytes.now c.in-Ok.read.number i.read.number i.read.low) tt few

pub invariant_of-self-in-Again : goal.invariant_of-self-in-Again
invariant_of-self-in-Again c =
    let d = c.self.inside in
    let source : is_source c.args.self.now.rules.source c.in-Ok.read.source ≡ true = sym c.is_source.ensures ∙ c.if-not-is_source.false in
    let e : offered d.window c.in-Ok.read.number ≡ window.Again = is_again (offered d.window c.in-Ok.read.number) (sym c.in-Again.is ∙ c.offer.ensures.answer) in
    let i = is_offered d c.args.self.now c.args.bytes.now c.in-Ok.read window.Again c.offer.new.self c.self.view_is c.self.invariant c.in-Ok.ensures source e c.offer.ensures.window in
    again_sound d c.args.bytes.now c.in-Ok.read c.offer.new.self c.saturating_add-self-inside-in-Again.result i

pub returns-in-Again-clause-answer : goal.returns-in-Again-clause-answer
returns-in-Again-clause-answer c =
    let d = c.self.inside in
    let source : is_source c.args.self.now.rules.source c.in-Ok.read.source ≡ true = sym c.is_source.ensures ∙ c.if-not-is_source.false in
    let e : offered d.window c.in-Ok.read.number ≡ window.Again = is_again (offered d.window c.in-Ok.read.number) (sym c.in-Again.is ∙ c.offer.ensures.answer) in
    let i = is_offered d c.args.self.now c.args.bytes.now c.in-Ok.read window.Again c.offer.new.self c.self.view_is c.self.invariant c.in-Ok.ensures source e c.offer.ensures.window in
    again_answers d c.args.self.now c.args.bytes.now c.in-Ok.read c.offer.new.self c.self.view_is i

pub returns-in-Again-clause-state : goal.returns-in-Again-clause-state
returns-in-Again-clause-state c =
    let d = c.self.inside in
    let source : is_source c.args.self.now.rules.source c.in-Ok.read.source ≡ true = sym c.is_source.ensures ∙ c.if-not-is_source.false in
    let e : offered d.window c.in-Ok.read.number ≡ window.Again = is_again (offered d.window c.in-Ok.read.number) (sym c.in-Again.is ∙ c.offer.ensures.answer) in
    let i = is_offered d c.args.self.now c.args.bytes.now c.in-Ok.read window.Again c.offer.new.self c.self.view_is c.self.invariant c.in-Ok.ensures source e c.offer.ensures.window in
    again_state d c.args.self.now c.args.bytes.now c.in-Ok.read c.offer.new.self c.saturating_add-self-inside-in-Again.result c.self.view_is i c.saturating_add-self-inside-in-Again.ensures

pub returns-in-Again-clause-takes : goal.returns-in-Again-clause-takes
returns-in-Again-clause-takes c = λ few.
    let d = c.self.inside in
    let source : is_source c.args.self.now.rules.source c.in-Ok.read.source ≡ true = sym c.is_source.ensures ∙ c.if-not-is_source.false in
    let e : offered d.window c.in-Ok.read.number ≡ window.Again = is_again (offered d.window c.in-Ok.read.number) (sym c.in-Again.is ∙ c.offer.ensures.answer) in
    let i = is_offered d c.args.self.now c.args.bytes.now c.in-Ok.read window.Again c.offer.new.self c.self.view_is c.self.invariant c.in-Ok.ensures source e c.offer.ensures.window in
    offers_inside d c.args.self.now _ c.args.bytes.now taken.Old c.self.view_is c.self.invariant (again_state d c.args.self.now c.args.bytes.now c.in-Ok.read c.offer.new.self c.saturating_add-self-inside-in-Again.result c.self.view_is i c.saturating_add-self-inside-in-Again.ensures) (again_answers d c.args.self.now c.args.bytes.now c.in-Ok.read c.offer.new.self c.self.view_is i) (low_number c.args.bytes.now c.in-Ok.read.number i.read.number i.read.low) (again_source d c.args.self.now c.args.bytes.now c.in-Ok.read c.offer.new.self c.self.view_is i) few

pub invariant_of-self-in-Behind : goal.invariant_of-self-in-Behind
invariant_of-self-in-Behind c =
    let d = c.self.inside in
    let source : is_source c.args.self.now.rules.source c.in-Ok.read.source ≡ true = sym c.is_source.ensures ∙ c.if-not-is_source.false in
    let e : offered d.window c.in-Ok.read.number ≡ window.Behind = is_behind (offered d.window c.in-Ok.read.number) (sym c.in-Behind.is ∙ c.offer.ensures.answer) in
    let i = is_offered d c.args.self.now c.args.bytes.now c.in-Ok.read window.Behind c.offer.new.self c.self.view_is c.self.invariant c.in-Ok.ensures source e c.offer.ensures.window in
    behind_sound d c.args.bytes.now c.in-Ok.read c.offer.new.self c.saturating_add-self-inside-in-Behind.result i

pub returns-in-Behind-clause-answer : goal.returns-in-Behind-clause-answer
returns-in-Behind-clause-answer c =
    let d = c.self.inside in
    let source : is_source c.args.self.now.rules.source c.in-Ok.read.source ≡ true = sym c.is_source.ensures ∙ c.if-not-is_source.false in
    let e : offered d.window c.in-Ok.read.number ≡ window.Behind = is_behind (offered d.window c.in-Ok.read.number) (sym c.in-Behind.is ∙ c.offer.ensures.answer) in
    let i = is_offered d c.args.self.now c.args.bytes.now c.in-Ok.read window.Behind c.offer.new.self c.self.view_is c.self.invariant c.in-Ok.ensures source e c.offer.ensures.window in
    behind_answers d c.args.self.now c.args.bytes.now c.in-Ok.read c.offer.new.self c.self.view_is i

pub returns-in-Behind-clause-state : goal.returns-in-Behind-clause-state
returns-in-Behind-clause-state c =
    let d = c.self.inside in
    let source : is_source c.args.self.now.rules.source c.in-Ok.read.source ≡ true = sym c.is_source.ensures ∙ c.if-not-is_source.false in
    let e : offered d.window c.in-Ok.read.number ≡ window.Behind = is_behind (offered d.window c.in-Ok.read.number) (sym c.in-Behind.is ∙ c.offer.ensures.answer) in
    let i = is_offered d c.args.self.now c.args.bytes.now c.in-Ok.read window.Behind c.offer.new.self c.self.view_is c.self.invariant c.in-Ok.ensures source e c.offer.ensures.window in
    behind_state d c.args.self.now c.args.bytes.now c.in-Ok.read c.offer.new.self c.saturating_add-self-inside-in-Behind.result c.self.view_is i c.saturating_add-self-inside-in-Behind.ensures

pub returns-in-Behind-clause-takes : goal.returns-in-Behind-clause-takes
returns-in-Behind-clause-takes c = λ few.
    let d = c.self.inside in
    let source : is_source c.args.self.now.rules.source c.in-Ok.read.source ≡ true = sym c.is_source.ensures ∙ c.if-not-is_source.false in
    let e : offered d.window c.in-Ok.read.number ≡ window.Behind = is_behind (offered d.window c.in-Ok.read.number) (sym c.in-Behind.is ∙ c.offer.ensures.answer) in
    let i = is_offered d c.args.self.now c.args.bytes.now c.in-Ok.read window.Behind c.offer.new.self c.self.view_is c.self.invariant c.in-Ok.ensures source e c.offer.ensures.window in
    offers_inside d c.args.self.now _ c.args.bytes.now taken.Old c.self.view_is c.self.invariant (behind_state d c.args.self.now c.args.bytes.now c.in-Ok.read c.offer.new.self c.saturating_add-self-inside-in-Behind.result c.self.view_is i c.saturating_add-self-inside-in-Behind.ensures) (behind_answers d c.args.self.now c.args.bytes.now c.in-Ok.read c.offer.new.self c.self.view_is i) (low_number c.args.bytes.now c.in-Ok.read.number i.read.number i.read.low) (behind_source d c.args.self.now c.args.bytes.now c.in-Ok.read c.offer.new.self c.self.view_is i) few

pub invariant_of-self-in-Drain : goal.invariant_of-self-in-Drain
invariant_of-self-in-Drain c =
    let d = c.self.inside in
    let source : is_source c.args.self.now.rules.source c.in-Ok.read.source ≡ true = sym c.is_source.ensures ∙ c.if-not-is_source.false in
    let k = is_drain (offered d.window c.in-Ok.read.number) (sym c.in-Drain.is ∙ c.offer.ensures.answer) in
    let i = is_offered d c.args.self.now c.args.bytes.now c.in-Ok.read (window.Drain k.0) c.offer.new.self c.self.view_is c.self.invariant c.in-Ok.ensures source k.1 c.offer.ensures.window in
    drain_sound d c.args.bytes.now c.in-Ok.read c.offer.new.self k.0 i

pub returns-in-Drain-clause-answer : goal.returns-in-Drain-clause-answer
returns-in-Drain-clause-answer c =
    let d = c.self.inside in
    let source : is_source c.args.self.now.rules.source c.in-Ok.read.source ≡ true = sym c.is_source.ensures ∙ c.if-not-is_source.false in
    let k = is_drain (offered d.window c.in-Ok.read.number) (sym c.in-Drain.is ∙ c.offer.ensures.answer) in
    let i = is_offered d c.args.self.now c.args.bytes.now c.in-Ok.read (window.Drain k.0) c.offer.new.self c.self.view_is c.self.invariant c.in-Ok.ensures source k.1 c.offer.ensures.window in
    drain_answers d c.args.self.now c.args.bytes.now c.in-Ok.read c.offer.new.self k.0 c.self.view_is i

pub returns-in-Drain-clause-state : goal.returns-in-Drain-clause-state
returns-in-Drain-clause-state c =
    let d = c.self.inside in
    let source : is_source c.args.self.now.rules.source c.in-Ok.read.source ≡ true = sym c.is_source.ensures ∙ c.if-not-is_source.false in
    let k = is_drain (offered d.window c.in-Ok.read.number) (sym c.in-Drain.is ∙ c.offer.ensures.answer) in
    let i = is_offered d c.args.self.now c.args.bytes.now c.in-Ok.read (window.Drain k.0) c.offer.new.self c.self.view_is c.self.invariant c.in-Ok.ensures source k.1 c.offer.ensures.window in
    drain_state d c.args.self.now c.args.bytes.now c.in-Ok.read c.offer.new.self k.0 c.self.view_is i

pub returns-in-Drain-clause-takes : goal.returns-in-Drain-clause-takes
returns-in-Drain-clause-takes c = λ few.
    let d = c.self.inside in
    let source : is_source c.args.self.now.rules.source c.in-Ok.read.source ≡ true = sym c.is_source.ensures ∙ c.if-not-is_source.false in
    let k = is_drain (offered d.window c.in-Ok.read.number) (sym c.in-Drain.is ∙ c.offer.ensures.answer) in
    let i = is_offered d c.args.self.now c.args.bytes.now c.in-Ok.read (window.Drain k.0) c.offer.new.self c.self.view_is c.self.invariant c.in-Ok.ensures source k.1 c.offer.ensures.window in
    offers_inside d c.args.self.now _ c.args.bytes.now taken.Drain c.self.view_is c.self.invariant (drain_state d c.args.self.now c.args.bytes.now c.in-Ok.read c.offer.new.self k.0 c.self.view_is i) (drain_answers d c.args.self.now c.args.bytes.now c.in-Ok.read c.offer.new.self k.0 c.self.view_is i) (low_number c.args.bytes.now c.in-Ok.read.number i.read.number i.read.low) tt few
