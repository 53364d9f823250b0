use Rattle.codestream_model.proofs.VerdictLemmas.{refusal_stays}
use Rattle.codestream_model.proofs.packet_laws.refusals_stay.Goals as goal

pub returns : goal.returns
returns c = refusal_stays
