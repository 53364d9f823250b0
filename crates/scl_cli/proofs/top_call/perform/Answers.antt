use Rattle.scl_cli.proofs.top_call.perform.Goals as goal

pub returns-in-Relay : goal.returns-in-Relay
returns-in-Relay g c = rw c.in-Relay.is c.relay.ensures

pub returns-in-Recv : goal.returns-in-Recv
returns-in-Recv g c = rw c.in-Recv.is c.recv.ensures

pub returns-in-Send : goal.returns-in-Send
returns-in-Send g c = rw c.in-Send.is c.send.ensures
