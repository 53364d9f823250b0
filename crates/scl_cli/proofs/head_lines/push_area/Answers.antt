use Rattle.std.proofs.Common.{◌∙◌}
use Rattle.scl_cli.proofs.HeadText.{area}
use Rattle.scl_cli.proofs.head_lines.push_area.Goals as goal

pub returns-clause-text : goal.returns-clause-text
returns-clause-text c =
    area c.args.lines.now.bytes c.push_number.new.text.bytes c.push_number-2.new.text.bytes c.push_number-3.new.text.bytes c.push_number-4.new.text.bytes c.push_str.new.self.bytes c.args.head.now _ _ _ _
    (c.from.ensures ∙ c.area-x0.ensures.x0) (c.from-2.ensures ∙ c.area-x0.ensures.y0) (c.from-3.ensures ∙ c.area-x0.ensures.x1) (c.from-4.ensures ∙ c.area-x0.ensures.y1)
    c.push_number.ensures.text c.push_number-2.ensures.text c.push_number-3.ensures.text c.push_number-4.ensures.text c.push_str.ensures.bytes
