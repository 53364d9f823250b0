use Rattle.std.proofs.Common.{List, sym, ◌∙◌, ap}
use Rattle.std.proofs.lemmas.List.{drop_all}
use Rattle.delivery_model.specs.Delivering.{first_missing}
use Rattle.deliver_job.specs.declared.items.Item.{Item}
use Rattle.deliver_job.specs.declared.items.Item.TheVariants.{One}
use Rattle.deliver_job.specs.Items.{ranges_of}
use Rattle.deliver_job.proofs.Missing.{next_item, last_item}
use Rattle.deliver_job.proofs.items.first_missing.Goals as goal

pub loop-item-preserved : goal.loop-item-preserved
loop-item-preserved c = c.loop-item.invariant ∙ next_item c.args.list.now c.loop-item.item-index c.args.frames (One 0) c.loop-item-test.true (sym c.in_default.ensures)

pub returns-in-Some : goal.returns-in-Some
returns-in-Some c = sym (c.loop-item.invariant ∙ last_item c.args.list.now c.loop-item.item-index c.args.frames c.in-Some.position (One 0) c.loop-item-test.true (sym c.in-Some.ensures))

pub returns : goal.returns
returns c = sym (c.loop-item.invariant ∙ ap (λ (l : List Item). first_missing (ranges_of l) c.args.frames) (drop_all c.loop-item.item-index c.args.list.now c.loop-item-test.false))
