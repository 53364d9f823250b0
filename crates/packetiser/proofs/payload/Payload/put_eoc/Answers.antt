use Rattle.std.proofs.Common.{◌+◌, List, [], ℕ, length, ap, ◌∙◌, arith}
use Rattle.std.specs.Prelude.{slice_range}
use Rattle.packetiser.specs.Filling.{put_eoc}
use Rattle.packetiser.specs.Filling.{Buffer}
use Rattle.packetiser.proofs.Parts.{put_part}
use Rattle.packetiser.proofs.payload.Payload.put_eoc.Goals as goal

pub returns : goal.returns
returns c =
    let i = c.self.inside in
    let e = ap (λ (l : List ℕ). slice_range l 20 (20 + (i.len + length c.args.bytes.now))) c.set_part.ensures.items ∙ put_part i.buf.items c.args.bytes.now i.len (20 + i.len + length c.args.bytes.now) (omega (arith, c.self.invariant, c.requires)) in
    let of : List ℕ → Buffer = λ l. record { filling = record { payload = l; mark = i.mark; lowest = i.lowest }; shown = [] } in
    let eoc : Buffer → Buffer = λ v. record { filling = put_eoc c.args.bytes.now v.filling; shown = [] } in
    ap of e ∙ ap eoc c.self.view_is
