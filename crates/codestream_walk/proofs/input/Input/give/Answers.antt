use Rattle.std.proofs.Common.{◌≤◌, ◌∙◌, ap, length, slice_range, arith}
use Rattle.codestream_walk.specs.InHand.{InHand, giving}
use Rattle.codestream_walk.proofs.Windows.{view_given, size_of_range}
use Rattle.codestream_walk.proofs.input.Input.give.Goals as goal

pub returns : goal.returns
returns c =
    let i = c.self.inside in
    let sound = c.self.invariant in
    let size = size_of_range i.buf.items i.from i.to (omega arith) (omega arith) in
    let few : c.args.count ≤ length (slice_range i.buf.items i.from i.to) = rw (ap (λ (j : InHand). length j.bytes) c.self.view_is) c.requires in
    view_given i.buf.items i.given i.from i.to i.read c.args.count (omega arith) (omega arith) (omega arith) ∙ ap (λ (j : InHand). giving c.args.count j) c.self.view_is
