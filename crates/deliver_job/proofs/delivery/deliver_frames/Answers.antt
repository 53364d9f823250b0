use Rattle.std.proofs.Common.{[], refl, ◌∙◌, arith}
use Rattle.deliver_job.specs.Items.{ranges_of}
use Rattle.deliver_job.proofs.BoundsLaws.{count_bounds}
use Rattle.deliver_job.proofs.Judged.{refused, delivered, not_delivered}
use Rattle.deliver_job.proofs.delivery.deliver_frames.Goals as goal

pub refusal_of-requires-clause-some : goal.refusal_of-requires-clause-some
refusal_of-requires-clause-some g c = omega (arith, count_bounds c.args.capture.now c.deref.result.now (c.deref.ensures.value ∙ c.in-Ok.ensures))

pub returns-in-Some : goal.returns-in-Some
returns-in-Some g c = ([], refused (ranges_of c.args.list.now) c.args.capture.now _ c.in-Some.refusal c.in-Some.ensures.refused)

pub write_listed-requires-clause-there : goal.write_listed-requires-clause-there
write_listed-requires-clause-there g c = (c.in-None.ensures.delivered refl).has_all

pub returns-in-Done : goal.returns-in-Done
returns-in-Done g c = let put = c.in-Done.ensures in (put.0, delivered (ranges_of c.args.list.now) c.args.capture.now _ _ put.0 (c.in-None.ensures.delivered refl) put.1)

pub returns : goal.returns
returns g c = let put = c.in-WriteFault.ensures in (put.0, not_delivered (ranges_of c.args.list.now) c.args.capture.now _ _ put.0 (c.in-None.ensures.delivered refl) put.1)
