use Rattle.std.proofs.Common.{rules, ◌≡◌, ◌-◌, ℕ, ◌++◌, [], ◌∷◌, take, refl, sym, ◌∙◌, ap, arith}
use Rattle.scl_outside.specs.Events.{Took, Ended, ReadFailed}
use borrow.Rule.Slice.PartMut.{put_mid}
use Rattle.capture_frames.proofs.Buffers.{put_rest}
use Rattle.scl_cli.proofs.Looking.{looked_more, found, refused_so, refused_short, read_failed}
use Rattle.scl_cli.proofs.header_input.find_head.Goals as goal

pub returns-in-Ok : goal.returns-in-Ok
returns-in-Ok g c =
    let so_far = c.loop-head.invariant in
    (so_far.0, found _ _ _ _ _ _ so_far.1 c.in-Ok.ensures.judged c.in-Ok.ensures.found)

pub returns-then-ne : goal.returns-then-ne
returns-then-ne g c =
    let so_far = c.loop-head.invariant in
    (so_far.0, rw c.refused.ensures (refused_so _ _ _ _ _ c.in-Err.fault so_far.1 c.in-Err.ensures.judged ((c.in-Err.ensures.refused _ _).0 refl) (search rules)))

pub loop-head-preserved : goal.loop-head-preserved
loop-head-preserved g c =
    let so_far = c.loop-head.invariant in
    let few = c.in-Got.ensures.fits in
    let size = so_far.1.size in
    let fits = so_far.1.fits in
    let whole : put_mid c.loop-head.len (8192 - c.loop-head.len) c.loop-head.bytes c.read.new.buf ≡ take c.loop-head.len c.loop-head.bytes ++ c.read.new.buf =
    ap (λ (n : ℕ). put_mid c.loop-head.len (n - c.loop-head.len) c.loop-head.bytes c.read.new.buf) (sym size) ∙ put_rest c.loop-head.len c.loop-head.bytes c.read.new.buf (omega arith) in (
      so_far.0 ++ Took (take c.in-Got.count c.read.new.buf) ∷ [],
      rw whole (looked_more _ _ _ _ _ _ c.read.new.buf _ c.in-Err.fault so_far.1 (c.in-Err.ensures.judged, (c.in-Err.ensures.refused _ _).0 refl, search rules) (omega arith) (omega arith) c.in-Got.ensures.step),
    )

pub returns-in-End : goal.returns-in-End
returns-in-End g c =
    let so_far = c.loop-head.invariant in
    (so_far.0 ++ Ended ∷ [], rw c.refused-in-End.ensures (refused_short _ _ _ _ _ _ c.in-Err.fault so_far.1 (c.in-Err.ensures.judged, (c.in-Err.ensures.refused _ _).0 refl, search rules) c.in-End.ensures.step))

pub returns-in-Failed : goal.returns-in-Failed
returns-in-Failed g c =
    let so_far = c.loop-head.invariant in
    (so_far.0 ++ ReadFailed ∷ [], read_failed _ _ _ _ _ _ c.in-Err.fault so_far.1 (c.in-Err.ensures.judged, (c.in-Err.ensures.refused _ _).0 refl, search rules) c.in-Failed.ensures.step)
