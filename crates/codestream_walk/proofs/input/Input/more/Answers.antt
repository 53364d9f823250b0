use Rattle.std.proofs.Common.{◌≡◌, ◌≤◌, ◌+◌, ◌-◌, ◌++◌, ◌∙◌, List, ℕ, ap, [], length, take, drop, vec_len, slice_range, arith, length-take-le}
use Rattle.std.proofs.lemmas.List.{take_at}
use borrow.Rule.Slice.PartMut.{post_of}
use Rattle.codestream_model.proofs.SegmentBytes.{bytes-take}
use Rattle.codestream_walk.specs.InHand.{InHand, in_buffer, with_more}
use Rattle.codestream_walk.proofs.Windows.{view_grown, view_same, size_put}
use Rattle.codestream_walk.proofs.input.Input.more.Goals as goal

pub returns-in-Got : goal.returns-in-Got
returns-in-Got g c =
    let i = c.self.inside in
    let sound = c.self.invariant in
    let a = c.settled-from.ensures in
    let b = c.deref_mut.ensures in
    let min = c.min.ensures in
    let few = c.in-Got.ensures.fits in
    let n = c.in-Got.count in
    let fits : n ≤ length c.read_bytes.new.buf = omega arith in
    let part = c.read_bytes.new.buf in
    let mem = c.deref_mut.result.now in
    let from = c.settled-from.result.0 in
    let to = c.settled-from.result.1 in
    let k = to + c.min.result - to in
    let ws = take to mem ++ (part ++ post_of to k mem) in
    let part_size : length part ≡ k = omega arith in
    let len : length ws ≡ vec_len c.settled-from.new.buf = size_put mem part to k part_size (omega arith) ∙ b.len in
    let items : take (vec_len c.settled-from.new.buf) (ws ++ drop (length ws) c.settled-from.new.buf.items) ≡ ws = take_at ws (drop (length ws) c.settled-from.new.buf.items) (vec_len c.settled-from.new.buf) len in
    let same : slice_range mem from to ≡ slice_range i.buf.items i.from i.to = rw b.value a.same in (
      take n part,
      omega (arith, length-take-le n part fits),
      bytes-take n part c.read_bytes.ensures.are_bytes,
      ap (λ (l : List ℕ). in_buffer l 0 from (to + n) (i.read + n)) items
          ∙ (view_grown mem part (post_of to k mem) i.buf.items i.given from to i.from i.to i.read n (omega arith) (omega arith) fits same a.range (omega arith) (omega arith)
          ∙ ap (λ (j : InHand). with_more j (take n part)) c.self.view_is),
      c.in-Got.ensures.step,
    )

pub returns-in-End : goal.returns-in-End
returns-in-End g c =
    let i = c.self.inside in
    let sound = c.self.invariant in
    let a = c.settled-from.ensures in
    let b = c.deref_mut.ensures in
    let min = c.min.ensures in
    let part = c.read_bytes.new.buf in
    let mem = c.deref_mut.result.now in
    let from = c.settled-from.result.0 in
    let to = c.settled-from.result.1 in
    let k = to + c.min.result - to in
    let ws = take to mem ++ (part ++ post_of to k mem) in
    let part_size : length part ≡ k = omega arith in
    let len : length ws ≡ vec_len c.settled-from.new.buf = size_put mem part to k part_size (omega arith) ∙ b.len in
    let items : take (vec_len c.settled-from.new.buf) (ws ++ drop (length ws) c.settled-from.new.buf.items) ≡ ws = take_at ws (drop (length ws) c.settled-from.new.buf.items) (vec_len c.settled-from.new.buf) len in
    let same : slice_range mem from to ≡ slice_range i.buf.items i.from i.to = rw b.value a.same in (
      ap (λ (l : List ℕ). in_buffer l 0 from to i.read) items
          ∙ (view_same mem part (post_of to k mem) i.buf.items i.given from to i.from i.to i.read (omega arith) (omega arith) same a.range (omega arith) (omega arith)
          ∙ ap (λ (j : InHand). with_more j []) c.self.view_is),
      c.in-End.ensures.step,
    )

pub returns-in-Failed : goal.returns-in-Failed
returns-in-Failed g c =
    let i = c.self.inside in
    let sound = c.self.invariant in
    let a = c.settled-from.ensures in
    let b = c.deref_mut.ensures in
    let min = c.min.ensures in
    let part = c.read_bytes.new.buf in
    let mem = c.deref_mut.result.now in
    let from = c.settled-from.result.0 in
    let to = c.settled-from.result.1 in
    let k = to + c.min.result - to in
    let ws = take to mem ++ (part ++ post_of to k mem) in
    let part_size : length part ≡ k = omega arith in
    let len : length ws ≡ vec_len c.settled-from.new.buf = size_put mem part to k part_size (omega arith) ∙ b.len in
    let items : take (vec_len c.settled-from.new.buf) (ws ++ drop (length ws) c.settled-from.new.buf.items) ≡ ws = take_at ws (drop (length ws) c.settled-from.new.buf.items) (vec_len c.settled-from.new.buf) len in
    let same : slice_range mem from to ≡ slice_range i.buf.items i.from i.to = rw b.value a.same in (
      ap (λ (l : List ℕ). in_buffer l 0 from to i.read) items
          ∙ (view_same mem part (post_of to k mem) i.buf.items i.given from to i.from i.to i.read (omega arith) (omega arith) same a.range (omega arith) (omega arith)
          ∙ ap (λ (j : InHand). with_more j []) c.self.view_is),
      c.in-Failed.ensures.step,
    )
