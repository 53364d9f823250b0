use Rattle.std.proofs.Common.{◌≡◌, ◌+◌, ◌++◌, List, ℕ, length, take, drop, ap, ◌∙◌, arith, false}
use Rattle.std.specs.Prelude.{slice_range}
use Rattle.wire_model.specs.Rtp.{fixed_header}
use Rattle.rtp_header.specs.Reading.{fields_of}
use Rattle.packetiser.specs.Filling.{Buffer}
use Rattle.packetiser.proofs.Parts.{show_part}
use Rattle.packetiser.proofs.payload.Payload.show.Goals as goal

pub returns-clause-shown : goal.returns-clause-shown
returns-clause-shown c =
    let i = c.self.inside in
    let b = i.buf.items in
    let fixed = c.write_rtp.new.buf in
    let header = c.args.header.now in
    let twelve : length fixed ≡ 12 = ap length c.write_rtp.ensures in
    let eight : length header ≡ 8 = omega (arith, c.told-header, c.fits-header) in
    ap (λ (l : List ℕ). take (20 + i.len) l) (c.set_part-2.ensures.items ∙ ap (λ (l : List ℕ). take 12 l ++ (header ++ drop (12 + length header) l)) c.set_part.ensures.items)
    ∙ (show_part b fixed header i.len twelve eight (omega (arith, c.self.invariant))
    ∙ (ap (λ (l : List ℕ). l ++ (header ++ slice_range b 20 (20 + i.len))) c.write_rtp.ensures
    ∙ ap (λ (v : Buffer). fixed_header (fields_of c.args.rtp.now) false false 0 ++ (header ++ v.filling.payload)) c.self.view_is))
