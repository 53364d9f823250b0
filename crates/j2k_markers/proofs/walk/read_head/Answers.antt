use Rattle.std.proofs.Common.{arith}
use Rattle.j2k_markers.proofs.Judgements.{found, only, refused_there, refused_so}
use Rattle.j2k_markers.specs.declared.head.HeadWhy.TheVariants as why
use Rattle.codestream_model.proofs.CutHeads.{cut_head_is_short}
use Rattle.j2k_markers.proofs.walk.read_head.Goals as goal

pub returns-clause-found : goal.returns-clause-found
returns-clause-found c = found c.args.bytes.now c.walk.result c.walk.ensures (λ i. omega (arith, c.type_inv.bytes i))

pub returns-clause-only : goal.returns-clause-only
returns-clause-only c = only c.args.bytes.now c.walk.result c.walk.ensures

pub returns-clause-refused : goal.returns-clause-refused
returns-clause-refused c = λ at why. (refused_there c.args.bytes.now c.walk.result c.walk.ensures (λ i. omega (arith, c.type_inv.bytes i)) at why, refused_so c.args.bytes.now c.walk.result c.walk.ensures at why)

pub returns-clause-wants : goal.returns-clause-wants
returns-clause-wants c = λ at cut. cut_head_is_short c.args.bytes.now at (refused_there c.args.bytes.now c.walk.result c.walk.ensures (λ i. omega (arith, c.type_inv.bytes i)) at why.Cut cut)
