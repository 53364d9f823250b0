use Rattle.codestream_model.proofs.ItemsJudged.{packet_verdict}
use Rattle.codestream_model.proofs.item_laws.packets_have_one_verdict.Goals as goal

pub returns : goal.returns
returns c = packet_verdict
