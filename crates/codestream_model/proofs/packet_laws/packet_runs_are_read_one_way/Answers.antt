use Rattle.codestream_model.proofs.PacketsOneWay.{one_run}
use Rattle.codestream_model.proofs.packet_laws.packet_runs_are_read_one_way.Goals as goal

pub returns : goal.returns
returns c = one_run
