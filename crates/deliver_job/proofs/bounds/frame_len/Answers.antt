use Rattle.std.proofs.Common.{◌+◌, ◌*◌, arith}
use Rattle.deliver_job.proofs.BoundsLaws.{begins}
use Rattle.deliver_job.proofs.bounds.frame_len.Goals as goal

pub returns-then-len-bytes-clause-whole : goal.returns-then-len-bytes-clause-whole
returns-then-len-bytes-clause-whole c =
    begins c.args.bytes.now (2 + c.from.result * 256 + c.from-2.result) 0 0 (λ i. omega (arith, c.type_inv.bytes i)) (omega arith) (omega (arith, c.from.ensures, c.from-2.ensures)) (omega arith)
