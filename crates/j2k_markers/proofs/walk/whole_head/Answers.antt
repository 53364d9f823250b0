use Rattle.std.proofs.Common.{◌≡◌, ◌+◌, ℕ, ap, sym, ◌∙◌, arith}
use Rattle.std.specs.Prelude.{Ok}
use Rattle.codestream_model.specs.Values.{Head}
use Rattle.codestream_model.specs.MainHeaderReading.{head_of}
use Rattle.j2k_markers.specs.Fields.{fields_head, head_from}
use Rattle.j2k_markers.proofs.Limits.{within}
use Rattle.j2k_markers.proofs.walk.whole_head.Goals as goal

pub new-requires : goal.new-requires
new-requires c =
    let before = c.args.before.now in
    let at = before.at + 2 in
    let values : fields_head c.fields_of-fields.result c.sot_psot.result c.args.sot at ≡ head_from before.siz.now before.cod.now c.sot_psot.result c.args.sot at = c.fields_of-fields.ensures.values c.sot_psot.result c.args.sot at in
    let read : head_of c.args.bytes.now ≡ Ok (fields_head c.fields_of-fields.result c.sot_psot.result c.args.sot at) =
    c.requires.read
    ∙ (ap (λ (p : ℕ). Ok (head_from before.siz.now before.cod.now p c.args.sot at)) (sym c.sot_psot.ensures) ∙ ap (λ (h : Head). Ok h) (sym values)) in
    within c.args.bytes.now (fields_head c.fields_of-fields.result c.sot_psot.result c.args.sot at) (λ i. omega (arith, c.type_inv.bytes i)) read

pub returns : goal.returns
returns c =
    let before = c.args.before.now in
    let at = before.at + 2 in
    c.requires.read
    ∙ (ap (λ (p : ℕ). Ok (head_from before.siz.now before.cod.now p c.args.sot at)) (sym c.sot_psot.ensures)
    ∙ (ap (λ (h : Head). Ok h) (sym (c.fields_of-fields.ensures.values c.sot_psot.result c.args.sot at)) ∙ ap (λ (h : Head). Ok h) (sym c.new.ensures)))
