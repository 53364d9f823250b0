use Rattle.thinning_relay.proofs.Turned.{turn_none, turn_failed, turn_ended, turn_given, turn_nothing}
use Rattle.thinning_relay.proofs.relay.Relay.turn.Goals as goal

pub returns-in-NoMemory : goal.returns-in-NoMemory
returns-in-NoMemory g c = turn_none _ _ _ _ c.in-NoMemory.ensures

pub returns-in-Failed : goal.returns-in-Failed
returns-in-Failed g c = turn_failed _ _ _ _ _ _ _ c.in-Failed.ensures c.flush.ensures

pub returns-in-Ended : goal.returns-in-Ended
returns-in-Ended g c = turn_ended _ _ _ _ _ _ _ c.in-Ended.ensures c.flush-in-Ended.ensures

pub returns-in-Datagram : goal.returns-in-Datagram
returns-in-Datagram g c = turn_given _ _ _ _ _ _ _ c.in-Datagram.ensures c.flush-in-Datagram.ensures

pub returns-in-Nothing : goal.returns-in-Nothing
returns-in-Nothing g c = turn_nothing _ _ _ _ _ _ _ _ c.turn_of.ensures c.in-Nothing.ensures c.flush-in-Nothing.ensures
