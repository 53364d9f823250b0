use Rattle.std.proofs.Common.{◌∙◌}
use Rattle.j2k_markers.proofs.Starting.{too_few, no_soc}
use Rattle.j2k_markers.proofs.walk.walk.Goals as goal

pub returns-then-bytes-lt2 : goal.returns-then-bytes-lt2
returns-then-bytes-lt2 c = too_few c.args.bytes.now c.if-bytes-lt2.true

pub returns-then-number_16-ne-SOC : goal.returns-then-number_16-ne-SOC
returns-then-number_16-ne-SOC c = no_soc c.args.bytes.now c.if-bytes-lt2.false (λ e. c.if-number_16-ne-SOC.true (c.number_16.ensures ∙ e))
