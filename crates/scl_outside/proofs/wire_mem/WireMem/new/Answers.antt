use Rattle.std.proofs.Common.{[], ap}
use Rattle.scl_outside.specs.Inbound.{datagrams_in}
use Rattle.scl_outside.proofs.FreshWires.{fresh}
use Rattle.scl_outside.proofs.wire_mem.WireMem.new.Goals as goal

pub returns : goal.returns
returns c =
    let i = c.in_ok-new.ensures in
    let l = c.in_ok-new-2.ensures in
    let a = c.in_ok-new-3.ensures in
    record {
      meaning = fresh [] c.in_ok-new.field-0 c.in_ok-new-2.field-0 c.in_ok-new-3.field-0 (record {
        left = ap datagrams_in i.left;
        received = i.told;
        sent = l.told.0;
        replies = l.told.1;
        faults = l.faults;
        bound = a.told.0;
        joined = a.told.1;
        peers = a.peers;
      });
      planned = record {
        entries = i.left;
        plans = l.plans;
        asked = l.asked;
        bad = a.bad;
        calls = a.calls;
        inbox_fails = i.mode;
        links_fail = l.mode;
      };
      room = record {
        received = i.room;
        sent = l.room.0;
        replies = l.room.1;
        bound = a.room.0;
        joined = a.room.1;
      };
    }
