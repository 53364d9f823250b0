use Rattle.std.proofs.Common.{List, [], ◌++◌, sym, ◌∙◌, ap}
use Rattle.std.proofs.lemmas.List.{drop_all}
use Rattle.wire_model.specs.Framing.{whole_frames}
use Rattle.deliver_job.specs.declared.items.Item.{Item}
use Rattle.deliver_job.specs.declared.items.Item.TheVariants.{One}
use Rattle.deliver_job.specs.Items.{ranges_of}
use Rattle.deliver_job.specs.Writing.{listed}
use Rattle.deliver_job.proofs.Missing.{item_there, next_item}
use Rattle.deliver_job.proofs.Listed.{next_frames}
use Rattle.deliver_job.proofs.Putting.{none_put, put_more, put_broken, put_all}
use Rattle.deliver_job.proofs.writing.write_listed.Goals as goal

pub loop-item-init : goal.loop-item-init
loop-item-init g c = record { there = c.requires.there; put = ([], none_put _ _) }

pub write_item-requires-clause-there : goal.write_item-requires-clause-there
write_item-requires-clause-there g c = item_there c.args.list.now c.loop-item.item-index _ (One 0) c.loop-item-test.true c.loop-item.invariant.there

pub loop-item-preserved : goal.loop-item-preserved
loop-item-preserved g c =
    let now = c.loop-item.invariant in
    let more = c.in-Done.ensures in
    let i = c.loop-item.item-index in
    let there = item_there c.args.list.now i _ (One 0) c.loop-item-test.true now.there in
    record {
      there = sym (next_item c.args.list.now i _ (One 0) c.loop-item-test.true there) ∙ now.there;
      put = (now.put.0 ++ more.0, put_more _ _ _ _ _ _ _ now.put.0 more.0 now.put.1 (next_frames c.args.list.now i (One 0) (whole_frames c.args.capture.now) c.loop-item-test.true) more.1);
    }

pub returns-in-WriteFault : goal.returns-in-WriteFault
returns-in-WriteFault g c =
    let now = c.loop-item.invariant in
    let more = c.in-WriteFault.ensures in
    (now.put.0 ++ more.0, put_broken _ _ _ _ _ _ _ now.put.0 more.0 now.put.1 (next_frames c.args.list.now c.loop-item.item-index (One 0) (whole_frames c.args.capture.now) c.loop-item-test.true) more.1)

pub returns : goal.returns
returns g c =
    let now = c.loop-item.invariant in
    (now.put.0, put_all _ _ _ _ now.put.0 now.put.1 (ap (λ (l : List Item). listed (ranges_of l) (whole_frames c.args.capture.now)) (drop_all c.loop-item.item-index c.args.list.now c.loop-item-test.false)))
