use Rattle.std.proofs.Common.{◌∙◌, arith}
use Rattle.rtp_header.proofs.Layouts.{found, only}
use Rattle.rtp_header.proofs.header.read_rtp.Goals as goal

pub returns-clause-found : goal.returns-clause-found
returns-clause-found c = found c.args.bytes.now c.judge.result (λ i. omega (arith, c.type_inv.bytes i)) c.judge.ensures

pub returns-clause-only : goal.returns-clause-only
returns-clause-only c = λ h header payload r. c.judge.ensures ∙ only h header payload c.args.bytes.now r
