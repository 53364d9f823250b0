use Rattle.std.proofs.Common.{◌≡◌, ◌-◌, Some, sym, ap, ◌∙◌, arith}
use Rattle.stream_model.specs.Decoder as rules
use Rattle.resync_decoder.proofs.Rules.{meets, released_before, instead_of_long, instead_of_part, dropped_before}
use Rattle.resync_decoder.proofs.Fields.{some_is, in_run, mark_of, marked, mark_follows}
use Rattle.resync_decoder.proofs.decoder.Decoder.follow.Goals as goal

pub overflow_sub-left : goal.overflow_sub-left
overflow_sub-left c = mark_follows c.self.inside c.in-Some.mark c.self.invariant c.in-Some.is

pub returns-then-left-eq0 : goal.returns-then-left-eq0
returns-then-left-eq0 c =
    let (current, is) = some_is c.self.inside.current c.if-is_none.ensures in
    let (next, runs) = some_is c.self.inside.next c.if-is_none-2.ensures in
    let run = in_run c.self.inside c.args.self.now current next c.self.view_is is runs in
    let mark = marked c.self.inside c.args.self.now c.in-Some.mark c.self.view_is c.in-Some.is in
    meets c.args.self.now.rules run (mark_of c.self.inside.front c.in-Some.mark) c.meet_mark.result c.meet_mark.new.self mark c.if-left-eq0.true c.meet_mark.ensures

pub release-requires-then-size-left-clause-before_mark : goal.release-requires-then-size-left-clause-before_mark
release-requires-then-size-left-clause-before_mark c = λ x e.
    let mark = marked c.self.inside c.args.self.now c.in-Some.mark c.self.view_is c.in-Some.is in
    let same : Some (mark_of c.self.inside.front c.in-Some.mark) ≡ Some x = sym mark ∙ (ap (λ (d : rules.Decoder). d.mark) (sym c.seek-2.ensures.same) ∙ e) in
    let is : mark_of c.self.inside.front c.in-Some.mark ≡ x = cc in
    let at : c.in-Some.mark.at - c.self.inside.front ≡ x.at = ap (λ (m : rules.Mark). m.at) is in
    omega (arith, at, c.if-size-left.true)

pub returns-then-size-left : goal.returns-then-size-left
returns-then-size-left c =
    let (current, is) = some_is c.self.inside.current c.if-is_none.ensures in
    let (next, runs) = some_is c.self.inside.next c.if-is_none-2.ensures in
    let run = in_run c.self.inside c.args.self.now current next c.self.view_is is runs in
    let mark = marked c.self.inside c.args.self.now c.in-Some.mark c.self.view_is c.in-Some.is in
    released_before c.args.self.now.rules run (mark_of c.self.inside.front c.in-Some.mark) c.seek-2.new.self c.release-then-size-left.new.self c.release-then-size-left.result c.in-Whole-seek.field-0 c.in-Whole-seek.size
    mark c.if-left-eq0.false c.if-size-left.true c.in-Whole-seek.ensures c.release-then-size-left.ensures

pub returns-else-size-left : goal.returns-else-size-left
returns-else-size-left c =
    let (current, is) = some_is c.self.inside.current c.if-is_none.ensures in
    let (next, runs) = some_is c.self.inside.next c.if-is_none-2.ensures in
    let run = in_run c.self.inside c.args.self.now current next c.self.view_is is runs in
    let mark = marked c.self.inside c.args.self.now c.in-Some.mark c.self.view_is c.in-Some.is in
    instead_of_long c.args.self.now.rules run (mark_of c.self.inside.front c.in-Some.mark) c.seek-2.new.self c.begin_instead.new.self c.begin_instead.result c.in-Whole-seek.field-0 c.in-Whole-seek.size
    mark c.if-left-eq0.false c.if-size-left.false c.in-Whole-seek.ensures c.begin_instead.ensures

pub returns-in-Part-seek : goal.returns-in-Part-seek
returns-in-Part-seek c =
    let (current, is) = some_is c.self.inside.current c.if-is_none.ensures in
    let (next, runs) = some_is c.self.inside.next c.if-is_none-2.ensures in
    let run = in_run c.self.inside c.args.self.now current next c.self.view_is is runs in
    let mark = marked c.self.inside c.args.self.now c.in-Some.mark c.self.view_is c.in-Some.is in
    instead_of_part c.args.self.now.rules run (mark_of c.self.inside.front c.in-Some.mark) c.seek-2.new.self c.begin_instead-in-Part-seek.new.self c.begin_instead-in-Part-seek.result
    mark c.if-left-eq0.false c.in-Part-seek.ensures c.begin_instead-in-Part-seek.ensures

pub returns-in-Other-seek : goal.returns-in-Other-seek
returns-in-Other-seek c =
    let (current, is) = some_is c.self.inside.current c.if-is_none.ensures in
    let (next, runs) = some_is c.self.inside.next c.if-is_none-2.ensures in
    let run = in_run c.self.inside c.args.self.now current next c.self.view_is is runs in
    let mark = marked c.self.inside c.args.self.now c.in-Some.mark c.self.view_is c.in-Some.is in
    dropped_before c.args.self.now.rules run (mark_of c.self.inside.front c.in-Some.mark) c.seek-2.new.self c.drop_run-in-Other-seek.new.self c.drop_run-in-Other-seek.result
    mark c.if-left-eq0.false c.in-Other-seek.ensures c.drop_run-in-Other-seek.ensures
