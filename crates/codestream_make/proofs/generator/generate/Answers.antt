use Rattle.std.proofs.Common.{◌∙◌, Err, ap}
use Rattle.j2k_markers.specs.Refusals.{refusal_of}
use Rattle.codestream_make.specs.declared.fault.MakeFault.{MakeFault}
use Rattle.codestream_make.specs.Generating.{asked}
use Rattle.codestream_make.proofs.PlanLayout.{extra_is_segments, sizes_are_low}
use Rattle.codestream_make.proofs.Generated.{generates, not_other, plan_not_refused, not_too_long}
use Rattle.codestream_make.proofs.generator.generate.Goals as goal

pub make-requires-clause-precincts : goal.make-requires-clause-precincts
make-requires-clause-precincts c =
    sizes_are_low (asked c.args.width c.args.height c.args.components c.args.levels c.args.sub c.args.order c.args.eph) c.in_ok-plan_of.field-0.head c.in_ok-plan_of.ensures.head

pub make-requires-clause-extra : goal.make-requires-clause-extra
make-requires-clause-extra c =
    extra_is_segments (asked c.args.width c.args.height c.args.components c.args.levels c.args.sub c.args.order c.args.eph) c.in_ok-plan_of.field-0.head c.in_ok-plan_of.ensures.head

pub returns-in-Ok-clause-generated : goal.returns-in-Ok-clause-generated
returns-in-Ok-clause-generated c =
    generates (asked c.args.width c.args.height c.args.components c.args.levels c.args.sub c.args.order c.args.eph) c.args.seed c.in_ok-plan_of.field-0 c.in-Ok.bytes.items c.requires c.in_ok-plan_of.ensures c.in-Ok.ensures.made

pub unreachable-requires : goal.unreachable-requires
unreachable-requires c =
    let shape = asked c.args.width c.args.height c.args.components c.args.levels c.args.sub c.args.order c.args.eph in
    let why = c.in-Err-Head.field-0-0 in
    let refused = c.make.ensures.head why (c.in-Err-Head.is ∙ ap (λ (e : MakeFault). Err e) c.in-Err-Head.field-0-is) in
    plan_not_refused shape c.in_ok-plan_of.field-0.head refused.0 (refusal_of why) c.requires c.in_ok-plan_of.ensures.head refused.1

pub unreachable-requires-in-Err-Content : goal.unreachable-requires-in-Err-Content
unreachable-requires-in-Err-Content c =
    let shape = asked c.args.width c.args.height c.args.components c.args.levels c.args.sub c.args.order c.args.eph in
    not_other shape c.args.seed c.in_ok-plan_of.field-0 c.requires c.in_ok-plan_of.ensures (c.make.ensures.content (c.in-Err-Content.is ∙ ap (λ (e : MakeFault). Err e) c.in-Err-Content.field-0-is))

pub unreachable-requires-in-Err-TooLong : goal.unreachable-requires-in-Err-TooLong
unreachable-requires-in-Err-TooLong c =
    let shape = asked c.args.width c.args.height c.args.components c.args.levels c.args.sub c.args.order c.args.eph in
    not_too_long shape c.args.seed c.in_ok-plan_of.field-0 c.requires c.in_ok-plan_of.ensures (c.make.ensures.too_long (c.in-Err-TooLong.is ∙ ap (λ (e : MakeFault). Err e) c.in-Err-TooLong.field-0-is))
