use Rattle.std.proofs.Common.{arith}
use Rattle.relay_job.proofs.lines.push_peer.Goals as goal

pub returns-clause-size : goal.returns-clause-size
returns-clause-size c = omega (arith, c.push_number.ensures.size, c.push_number-2.ensures.size, c.push_number-3.ensures.size, c.push_number-4.ensures.size, c.push_number-5.ensures.size, c.push_str.ensures.len)
