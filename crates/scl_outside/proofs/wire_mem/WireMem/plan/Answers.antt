use Rattle.std.proofs.Common.{◌∙◌, ap, sym}
use Rattle.scl_outside.specs.Inbound.{datagrams_in}
use Rattle.scl_outside.proofs.FreshWires.{fresh}
use Rattle.scl_outside.proofs.wire_mem.WireMem.plan.Goals as goal

pub returns : goal.returns
returns c =
    let i = c.plan.ensures in
    let l = c.plan-2.ensures in
    let a = c.clear.ensures in
    record {
      meaning = fresh (datagrams_in c.args.inbound.items) c.plan.new.self c.plan-2.new.self c.clear.new.self (record {
        left = ap datagrams_in i.left;
        received = i.told;
        sent = l.told.0;
        replies = l.told.1;
        faults = l.faults;
        bound = a.told.0;
        joined = a.told.1;
        peers = a.peers;
      });
      planned = λ same. record {
        entries = i.left;
        plans = ap (λ v. v.items) l.plans;
        asked = l.asked;
        bad = ap (λ v. v.items) a.bad;
        calls = a.calls;
        inbox_fails = i.mode;
        links_fail = l.mode ∙ sym same;
      };
      room = λ len h. record {
        received = i.room ∙ h.received;
        sent = l.room ∙ h.sent;
        replies = l.replies_room ∙ h.replies;
        bound = a.room_bound ∙ h.bound;
        joined = a.room_joined ∙ h.joined;
      };
    }
