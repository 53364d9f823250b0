use Rattle.std.proofs.Common.{◌+◌, ◌%◌, ◌^◌, ◌++◌, ◌∙◌, ap}
use Rattle.trial_model.specs.Generator.{generated}
use Rattle.trial_model.specs.Trial.{trial_shape}
use Rattle.trial_job.proofs.Made.{one_made}
use Rattle.trial_job.proofs.codestreams.codestreams.Goals as goal

pub loop-i-preserved : goal.loop-i-preserved
loop-i-preserved c =
    let bytes = c.loop-i.bytes.items in
    let more = c.in_ok-codestream.codestream.items in
    let is = c.in_ok-codestream.ensures.generated ∙ ap (λ n. generated trial_shape ((c.args.seed + n) % 2 ^ 64)) c.from.ensures in
    c.in_ok-extend_from_slice.ensures.items ∙ (ap (λ l. bytes ++ l) c.deref.ensures.value ∙ one_made c.args.seed c.loop-i.i bytes more c.loop-i.invariant is)
