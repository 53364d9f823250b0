-- The two bytes of EPH stand after the header.
use Rattle.std.proofs.Common.{arith}
use Rattle.packet_header.proofs.Markers.{two_set}
use Rattle.packet_header.proofs.writing.put_eph.Goals as goal

pub returns-clause-written : goal.returns-clause-written
returns-clause-written c = let t = two_set c.args.used 255 146 c.args.buf.now (omega (arith, c.requires)) in (omega arith, omega arith, t.0, t.1)
