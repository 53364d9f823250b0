use Rattle.std.proofs.Common.{◌≡◌, [], Err, sym, ◌∙◌, ap}
use Rattle.std.proofs.lemmas.List.{append-nil}
use Rattle.codestream_model.specs.Values.{Head}
use Rattle.codestream_model.specs.PacketOrder.{packet_order}
use Rattle.trial_model.specs.Generator.{shape_head, draw_contents}
use Rattle.j2k_markers.specs.declared.plan.PlanFault.{PlanFault}
use Rattle.j2k_markers.specs.Layout.{plan_bytes}
use Rattle.j2k_markers.specs.Refusals.{refusal_of}
use Rattle.codestream_make.specs.Generating.{shape_of}
use Rattle.codestream_make.proofs.PlanLayout.{plan_is_accepted, extra_is_segments}
use Rattle.codestream_make.proofs.Generated.{plan_not_refused}
use Rattle.codestream_make.proofs.generator.plan_of.Goals as goal

pub write_head-requires-clause-extra : goal.write_head-requires-clause-extra
write_head-requires-clause-extra c = extra_is_segments (shape_of c.args.shape) c.in_ok-head.head c.in_ok-head.ensures

pub unreachable-requires : goal.unreachable-requires
unreachable-requires c =
    let why = c.in-Err-Head.field-0-0 in
    let refused = c.write_head.ensures.refused why (c.in-Err-Head.is ∙ ap (λ (e : PlanFault). Err e) c.in-Err-Head.field-0-is) in
    plan_not_refused (shape_of c.args.shape) c.in_ok-head.head refused.0 (refusal_of why) c.requires c.in_ok-head.ensures refused.1

pub unreachable-requires-in_default : goal.unreachable-requires-in_default
unreachable-requires-in_default c =
    let accepted = plan_is_accepted (shape_of c.args.shape) c.in_ok-head.head c.requires c.in_ok-head.ensures in
    let bytes = plan_bytes c.in_ok-head.head in
    c.in_default.not-Ok _ (c.read_head.ensures.only (shape_head (shape_of c.args.shape) 0) bytes [] accepted (c.deref.ensures.value ∙ c.in-Ok.ensures.layout ∙ sym (append-nil bytes)))

pub returns : goal.returns
returns c =
    let accepted = plan_is_accepted (shape_of c.args.shape) c.in_ok-head.head c.requires c.in_ok-head.ensures in
    let bytes = plan_bytes c.in_ok-head.head in
    let read = c.read_head.ensures.only (shape_head (shape_of c.args.shape) 0) bytes [] accepted (c.deref.ensures.value ∙ c.in-Ok.ensures.layout ∙ sym (append-nil bytes)) in
    let same : c.new-walk.result.head ≡ shape_head (shape_of c.args.shape) 0 = c.new-walk.ensures.head ∙ c.new.ensures ∙ (let e = sym c.in-Ok-read_head.is ∙ read in cc) in
    record {
      head = c.in_ok-head.ensures;
      contents = c.in_ok-content.ensures ∙ ap (λ (h : Head). (draw_contents h (packet_order h) c.args.seed).value) same;
    }
