use Rattle.std.proofs.Common.{◌∙◌, ap}
use Rattle.scl_outside.specs.Texts.{texts_room}
use Rattle.scl_outside.proofs.Named.{named}
use Rattle.scl_outside.proofs.addresses.Addresses.bind.Goals as goal

pub returns : goal.returns
returns c = record {
  numbered = record {
    fails = (λ e. absurd (cc), λ there. absurd (cc (c.if-next_fails.ensures.fails.1 there)));
    calls = c.next_fails.ensures.calls;
    bad = c.next_fails.ensures.bad;
  };
  bound = named c.next_fails.new.self.bound c.push.new.self c.args.self.now.bound 0 c.as_bytes.result.now c.args.local.now c.as_bytes.ensures.value c.next_fails.ensures.bound c.push.ensures.told;
  room = c.push.ensures.room ∙ ap texts_room c.next_fails.ensures.bound;
  joined = c.next_fails.ensures.joined;
  peers = c.next_fails.ensures.peers;
}
