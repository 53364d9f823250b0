use Rattle.trial_model.proofs.MadePackets.{drawn_contents_make_packets}
use Rattle.trial_model.proofs.generator_laws.drawn_contents_make_packets.Goals as goal

pub returns : goal.returns
returns c = drawn_contents_make_packets
