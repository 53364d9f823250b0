use Rattle.std.proofs.Common.{sym, ◌∙◌, ap, arith}
use Rattle.reassembly_window.proofs.Entries.{filled_count-most}
use Rattle.reassembly_window.proofs.Offers.{is_ahead, again_answer, again_window, kept_answer, kept_window, kept_sound}
use Rattle.stream_model.specs.Window.{ahead}
use Rattle.reassembly_window.proofs.window.Window.offer.Goals as goal

pub returns-then-is_filled-clause-answer : goal.returns-then-is_filled-clause-answer
returns-then-is_filled-clause-answer c =
    let d = is_ahead c.unwrap_or-base.result c.args.n c.in-Some.d (sym c.in-Some.is ∙ c.ahead_of.ensures) in
    again_answer c.self.inside.base c.self.inside.due c.self.inside.held c.args.n c.in-Some.d c.self.inside.ring c.self.inside.shown c.args.self.now c.self.view_is c.self.invariant c.requires.number
    (d.0 ∙ ap (λ b. ahead b c.args.n) c.unwrap_or-base.ensures) (omega (arith, c.if-d-size.false, c.len-size.ensures.length)) (sym c.is_filled.ensures ∙ c.if-is_filled.true)

pub returns-then-is_filled-clause-window : goal.returns-then-is_filled-clause-window
returns-then-is_filled-clause-window c =
    let d = is_ahead c.unwrap_or-base.result c.args.n c.in-Some.d (sym c.in-Some.is ∙ c.ahead_of.ensures) in
    again_window c.self.inside.base c.self.inside.due c.self.inside.held c.args.n c.in-Some.d c.self.inside.ring c.self.inside.shown c.args.self.now c.args.bytes.now c.self.view_is c.self.invariant c.requires.number
    (d.0 ∙ ap (λ b. ahead b c.args.n) c.unwrap_or-base.ensures) (omega (arith, c.if-d-size.false, c.len-size.ensures.length)) (sym c.is_filled.ensures ∙ c.if-is_filled.true)

pub overflow_add-self : goal.overflow_add-self
overflow_add-self c = let m = filled_count-most c.self.inside.ring.slots in omega (arith, m, c.self.invariant.count, c.self.invariant.few)

pub invariant_of-self-2 : goal.invariant_of-self-2
invariant_of-self-2 c =
    kept_sound c.self.inside.base c.self.inside.due c.self.inside.held c.args.n c.in-Some.d c.unwrap_or-base.result c.self.inside.ring c.put.new.self c.args.bytes.now c.self.invariant c.requires.number c.unwrap_or-base.ensures
    (omega (arith, c.if-d-size.false, c.len-size.ensures.length)) (sym c.is_filled.ensures ∙ c.if-is_filled.false) c.put.ensures

pub returns-clause-answer : goal.returns-clause-answer
returns-clause-answer c =
    let d = is_ahead c.unwrap_or-base.result c.args.n c.in-Some.d (sym c.in-Some.is ∙ c.ahead_of.ensures) in
    kept_answer c.self.inside.base c.self.inside.due c.self.inside.held c.args.n c.in-Some.d c.self.inside.ring c.self.inside.shown c.args.self.now c.self.view_is c.self.invariant c.requires.number
    (d.0 ∙ ap (λ b. ahead b c.args.n) c.unwrap_or-base.ensures) (omega (arith, c.if-d-size.false, c.len-size.ensures.length)) (sym c.is_filled.ensures ∙ c.if-is_filled.false)

pub returns-clause-window : goal.returns-clause-window
returns-clause-window c =
    let d = is_ahead c.unwrap_or-base.result c.args.n c.in-Some.d (sym c.in-Some.is ∙ c.ahead_of.ensures) in
    kept_window c.self.inside.base c.self.inside.due c.self.inside.held c.args.n c.in-Some.d c.unwrap_or-base.result c.self.inside.ring c.put.new.self c.self.inside.shown c.args.self.now c.args.bytes.now c.self.view_is c.self.invariant c.requires.number c.unwrap_or-base.ensures
    d.0 (omega (arith, c.if-d-size.false, c.len-size.ensures.length)) (sym c.is_filled.ensures ∙ c.if-is_filled.false) c.put.ensures
