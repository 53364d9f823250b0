use Rattle.std.proofs.Common.{◌≡◌, ℕ, List, [], ◌∷◌, ◌++◌, take, drop, length, sym, ◌∙◌, ap, rules, arith}
use Rattle.std.proofs.lemmas.List.{take-append-le, length-append, length-drop, length-take, length-take-le}
use Rattle.scl_outside.specs.Events.{Took, Ended, ReadFailed}
use Rattle.deliver_job.proofs.WholeReads.{at_start, took, met_end, failed, no_memory, too_long}
use Rattle.deliver_job.proofs.capture.read_capture.Goals as goal

pub loop-buf-init : goal.loop-buf-init
loop-buf-init g c = record {
  few = omega (arith, ap length c.new-capture.ensures.items);
  count = c.new-capture.ensures.len ∙ sym (ap length c.new-capture.ensures.items);
  size = search rules;
  so_far = ([], rw c.new-capture.ensures.items (at_start _));
}

pub loop-buf-preserved : goal.loop-buf-preserved
loop-buf-preserved g c =
    let now = c.loop-buf.invariant in
    let fits = c.in-Got.ensures.fits in
    let room = length-take c.min-room.result c.loop-buf.buf in
    let read : List ℕ = c.loop-buf.capture.items in
    let part : List ℕ = take c.in-Got.count c.read.new.buf in
    let front : take c.in-Got.count (c.read.new.buf ++ drop c.min-room.result c.loop-buf.buf) ≡ part = take-append-le c.in-Got.count c.read.new.buf (drop c.min-room.result c.loop-buf.buf) (omega arith) in
    let kept : c.extend_from_slice.new.self.items ≡ read ++ part = c.in-Ok.ensures.items ∙ ap (λ (l : List ℕ). read ++ l) front in
    let size : length part ≡ c.in-Got.count = length-take-le c.in-Got.count c.read.new.buf (omega arith) in
    record {
      few = omega (arith, ap length kept, length-append read part, size);
      count = omega (arith, ap length kept, length-append read part, size, c.in-Ok.ensures.len, ap length front);
      size = omega (arith, length-append c.read.new.buf (drop c.min-room.result c.loop-buf.buf), length-drop c.min-room.result c.loop-buf.buf);
      so_far = (now.so_far.0 ++ Took part ∷ [], rw kept (took _ _ _ read part now.so_far.0 now.so_far.1 (omega arith) c.in-Got.ensures.step));
    }

pub loop-buf-smaller : goal.loop-buf-smaller
loop-buf-smaller g c =
    let fits = c.in-Got.ensures.fits in
    let room = length-take c.min-room.result c.loop-buf.buf in
    let read : List ℕ = c.loop-buf.capture.items in
    let part : List ℕ = take c.in-Got.count c.read.new.buf in
    let front : take c.in-Got.count (c.read.new.buf ++ drop c.min-room.result c.loop-buf.buf) ≡ part = take-append-le c.in-Got.count c.read.new.buf (drop c.min-room.result c.loop-buf.buf) (omega arith) in
    let kept : c.extend_from_slice.new.self.items ≡ read ++ part = c.in-Ok.ensures.items ∙ ap (λ (l : List ℕ). read ++ l) front in
    omega (arith, ap length kept, length-append read part, length-take-le c.in-Got.count c.read.new.buf (omega arith))

pub returns-in-End : goal.returns-in-End
returns-in-End g c = let now = c.loop-buf.invariant in let end = met_end _ _ _ c.loop-buf.capture.items now.so_far.0 now.so_far.1 (omega arith) c.in-End.ensures.step in (now.so_far.0 ++ Ended ∷ [], end.0, end.1)

pub returns-in-Failed : goal.returns-in-Failed
returns-in-Failed g c = let now = c.loop-buf.invariant in let end = failed _ _ _ c.loop-buf.capture.items now.so_far.0 now.so_far.1 (omega arith) c.in-Failed.ensures.step in (now.so_far.0 ++ ReadFailed ∷ [], end.0, end.1)

pub returns : goal.returns
returns g c = let now = c.loop-buf.invariant in let end = too_long _ _ c.loop-buf.capture.items now.so_far.0 now.so_far.1 (omega arith) in (now.so_far.0, end.0, rw c.too_long.ensures end.1)

pub returns-in_default : goal.returns-in_default
returns-in_default g c =
    let now = c.loop-buf.invariant in
    let fits = c.in-Got.ensures.fits in
    let room = length-take c.min-room.result c.loop-buf.buf in
    let read : List ℕ = c.loop-buf.capture.items in
    let part : List ℕ = take c.in-Got.count c.read.new.buf in
    let size : length part ≡ c.in-Got.count = length-take-le c.in-Got.count c.read.new.buf (omega arith) in
    let end = no_memory _ _ (read ++ part) (now.so_far.0 ++ Took part ∷ []) (took _ _ _ read part now.so_far.0 now.so_far.1 (omega arith) c.in-Got.ensures.step) (omega (arith, length-append read part, size)) in
    (now.so_far.0 ++ Took part ∷ [], end.0, end.1)
