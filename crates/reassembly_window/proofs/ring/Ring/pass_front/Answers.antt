use Rattle.std.proofs.Common.{rules, ◌≡◌, ◌<◌, length, refl, arith}
use Rattle.reassembly_window.proofs.Rings.{seen, front_slots_at, front_passed_at}
use Rattle.reassembly_window.proofs.ring.Ring.pass_front.Goals as goal

pub returns-clause-slots : goal.returns-clause-slots
returns-clause-slots c =
    let s = seen c.self.inside.head c.self.inside.cells.items c.args.self.now c.self.view_is in
    let size : length c.self.inside.cells.items ≡ c.len.result = search rules in
    let low : c.self.inside.head < c.len.result = omega (arith, c.self.invariant.0, size) in
    front_slots_at c.self.inside.head c.len.result c.index_after-self-inside.result c.self.inside.cells.items _ c.args.self.now.slots c.index_after-self-inside.ensures.index s.0 low size refl

pub returns-clause-passed : goal.returns-clause-passed
returns-clause-passed c =
    let s = seen c.self.inside.head c.self.inside.cells.items c.args.self.now c.self.view_is in
    let size : length c.self.inside.cells.items ≡ c.len.result = search rules in
    let low : c.self.inside.head < c.len.result = omega (arith, c.self.invariant.0, size) in
    front_passed_at c.self.inside.head c.len.result c.index_after-self-inside.result c.self.inside.cells.items c.index_mut.result.now _ c.args.self.now.slots c.index_after-self-inside.ensures.index s.0 low size c.index_mut.ensures.value refl c.requires
