-- No bit is written under a label that isn't 0.
use Rattle.std.proofs.Common.{◌≡◌, [], ◌∙◌, ap}
use Rattle.tag_tree.specs.LeafWriting.{step_of}
use Rattle.tag_tree.specs.declared.kind.Kind.{Kind}
use Rattle.tag_tree.proofs.WriteLemmas.{writes_none, step_under_more}
use Rattle.tag_tree.proofs.writing.put_step.Goals as goal

pub returns-then-above-ne0-clause-bits : goal.returns-then-above-ne0-clause-bits
returns-then-above-ne0-clause-bits c =
    let none : step_of c.args.kind c.args.above c.args.label ≡ [] = ap (λ (k : Kind). step_of k c.args.above c.args.label) c.in-Inclusion.is ∙ step_under_more c.args.above c.args.label c.if-above-ne0.true in
    writes_none (Unit {0}) (step_of c.args.kind c.args.above c.args.label) c.args.bits.now c.args.buf.now tt none
