use Rattle.std.proofs.Common.{sym, ◌∙◌}
use Rattle.scl_outside.proofs.TextsCut.{length-texts}
use Rattle.scl_outside.proofs.texts.Texts.len.Goals as goal

pub returns : goal.returns
returns c = let l = length-texts c.args.self.now.bytes.items c.args.self.now.places.items in c.len.ensures ∙ (c.args.self.now.places.ok.0 ∙ sym l)
