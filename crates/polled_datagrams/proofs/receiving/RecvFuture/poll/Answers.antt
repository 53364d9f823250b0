use Rattle.std.proofs.Common.{◌≡◌, ◌∙◌, List, length, take, ap, ℕ, arith}
use Rattle.std.proofs.lemmas.List.{with_items_is}
use Rattle.polled_datagrams.proofs.Polling.{kept}
use Rattle.polled_datagrams.proofs.receiving.RecvFuture.poll.Goals as goal

pub returns-in-Got : goal.returns-in-Got
returns-in-Got g c =
    let got = c.in-Got.ensures.step in
    let len : length c.recv.new.buf ≡ c.args.self.now.buffer.len = omega (arith, c.recv.auto, c.deref_mut.ensures.len, c.args.self.now.buffer.ok) in
    let size : length c.recv.new.buf ≡ 9001 = omega (arith, len, c.args.self.now.buffer.ok, c.args.self.now.room) in
    let k = kept got.0 c.recv.new.buf c.in-Got.len got.1 size in
    record { polled = (got.0, k.0, ap (λ (l : List ℕ). take c.in-Got.len l) (with_items_is c.args.self.now.buffer c.recv.new.buf len) ∙ k.1, got.2) }
