use Rattle.std.proofs.Common.{rules, ◌≡◌, ◌<◌, length, get_or, ◌∙◌, ap, arith}
use Rattle.reassembly_window.specs.Slots.{is_filled}
use Rattle.reassembly_window.proofs.Rings.{seen, filled_is}
use Rattle.reassembly_window.proofs.ring.Ring.is_filled.Goals as goal

pub returns : goal.returns
returns c =
    let s = seen c.self.inside.head c.self.inside.cells.items c.args.self.now c.self.view_is in
    let size : length c.self.inside.cells.items ≡ c.len.result = search rules in
    let low : c.self.inside.head < c.len.result = omega (arith, c.self.invariant.0, size) in
    filled_is c.self.inside.head c.args.d c.len.result c.self.inside.cells.items c.index.result.now low (omega (arith, c.requires, s.1, size)) size (c.index.ensures ∙ ap (λ k. get_or c.self.inside.cells.items k c.index.result.now) c.index_after-at.ensures.index) ∙ ap (is_filled c.args.d) s.0
