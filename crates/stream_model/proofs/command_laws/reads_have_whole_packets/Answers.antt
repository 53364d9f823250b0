use Rattle.stream_model.proofs.ReadPackets.{reads_have}
use Rattle.stream_model.proofs.command_laws.reads_have_whole_packets.Goals as goal

pub returns : goal.returns
returns c = reads_have
