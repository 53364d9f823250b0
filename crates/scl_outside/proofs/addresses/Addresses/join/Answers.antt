use Rattle.std.proofs.Common.{◌+◌, ◌∙◌, ap}
use Rattle.scl_outside.specs.Texts.{texts_room}
use Rattle.scl_outside.proofs.Named.{named}
use Rattle.scl_outside.proofs.addresses.Addresses.join.Goals as goal

pub returns : goal.returns
returns c = record {
  numbered = record {
    fails = (λ e. absurd (cc), λ there. absurd (cc (c.if-next_fails.ensures.fails.1 there)));
    calls = c.next_fails.ensures.calls;
    bad = c.next_fails.ensures.bad;
  };
  joined = named c.next_fails.new.self.joined c.push.new.self c.args.self.now.joined 0 c.as_bytes.result.now c.args.peer.now c.as_bytes.ensures.value c.next_fails.ensures.joined c.push.ensures.told;
  room = c.push.ensures.room ∙ ap texts_room c.next_fails.ensures.joined;
  bound = c.next_fails.ensures.bound;
  peers = ap (λ n. n + 1) c.next_fails.ensures.peers;
}
