use Rattle.std.proofs.Common.{ap, inl, inr, arith}
use Rattle.codestream_model.specs.Values.{Head}
use Rattle.codestream_model.specs.Codestream.{IsPsotRight}
use Rattle.codestream_walk.proofs.Packets.{is_other}
use Rattle.codestream_walk.proofs.judging.judge_eoc.Goals as goal
use Rattle.codestream_walk.proofs.judging.judge_eoc.Goals.{else-psot-ne0-via-then-psot-ne0+else-psot-from, else-psot-ne0-via-else-psot-ne0, else-bytes-via-then-bytes+else-bytes-2, else-bytes-via-else-bytes}

pub returns-else-bytes : goal.returns-else-bytes
returns-else-bytes c =
    let sot = ap (λ (h : Head). h.sot) c.head-head.ensures in
    let stated = ap (λ (h : Head). h.psot) c.head-head.ensures in
    let same = c.psot.ensures in
    let wide = c.from-psot.ensures in
    let psot : IsPsotRight c.args.geometry.now c.args.size = elim c.else-psot-ne0.branch [ else-psot-ne0-via-then-psot-ne0+else-psot-from w ↦ (let place = w.sot.ensures.sot in let widened = w.from.ensures in inr (omega arith)) | else-psot-ne0-via-else-psot-ne0 w ↦ inl (omega arith) ] in
    elim c.else-bytes.branch [
      | else-bytes-via-then-bytes+else-bytes-2 w ↦ (psot, is_other c.args.bytes.now (omega arith) (λ e f. omega arith))
      | else-bytes-via-else-bytes w ↦ (psot, is_other c.args.bytes.now (omega arith) (λ e f. omega arith))
    ]
