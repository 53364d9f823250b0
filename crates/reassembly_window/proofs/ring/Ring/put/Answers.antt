use Rattle.std.proofs.Common.{rules, ◌≡◌, ◌<◌, length, arith}
use Rattle.reassembly_window.proofs.Rings.{seen, put_at}
use Rattle.reassembly_window.proofs.ring.Ring.put.Goals as goal

pub returns : goal.returns
returns c =
    let s = seen c.self.inside.head c.self.inside.cells.items c.args.self.now c.self.view_is in
    let size : length c.self.inside.cells.items ≡ c.len.result = search rules in
    let low : c.self.inside.head < c.len.result = omega (arith, c.self.invariant.0, size) in
    put_at c.self.inside.head c.args.d c.len.result c.index_after-at.result c.self.inside.cells.items c.fill.new.self c.args.bytes.now c.args.self.now.slots c.index_after-at.ensures.index s.0 low (omega (arith, c.requires.slot, s.1, size)) size c.fill.ensures.filled c.fill.ensures.bytes
