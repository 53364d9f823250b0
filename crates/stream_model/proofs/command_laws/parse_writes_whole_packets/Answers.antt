use Rattle.stream_model.proofs.ParsedInputs.{whole_packets}
use Rattle.stream_model.proofs.command_laws.parse_writes_whole_packets.Goals as goal

pub returns : goal.returns
returns c = whole_packets
