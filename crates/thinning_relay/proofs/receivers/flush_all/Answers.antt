use Rattle.std.proofs.Common.{◌≡◌, ◌<◌, ◌∙◌, ◌||◌, true, false, Bool, sym, refl, subst, length, length-set, ℕ, List, arith}
use Rattle.scl_outside.specs.Meaning.{Meaning}
use Rattle.thinning_relay.specs.declared.receiver.Receiver.{Receiver}
use Rattle.thinning_relay.proofs.Flushing.{Flushing, flushing_more, flushed, get_at}
use Rattle.thinning_relay.proofs.receivers.flush_all.Goals as goal
use Rattle.thinning_relay.proofs.receivers.flush_all.Goals.{then-flush, else-flush}

-- whether one moved, in the loop's own words
moved_so : (i : ℕ) (rs qs : List Receiver) (was b now : Bool) (s n : Meaning) → now ≡ (was || b) → Flushing i rs (was || b) qs s n → Flushing i rs now qs s n
moved_so i rs qs was b now s n e f = let P : Bool → Type 0 = λ x. Flushing i rs x qs s n in subst P (sym e) f

or_true : (a b : Bool) → b ≡ true → true ≡ (a || b)
or_true true b e = refl
or_true false b e = sym e

or_false : (a b : Bool) → b ≡ false → a ≡ (a || b)
or_false true b e = refl
or_false false b e = sym e

pub loop-j-preserved : goal.loop-j-preserved
loop-j-preserved g c =
    let size : length c.loop-j.receivers ≡ length c.args.receivers.now = c.loop-j.invariant.size in
    let within : c.loop-j.j < length c.loop-j.receivers = omega arith in
    let more = flushing_more c.loop-j.j c.args.receivers.now c.loop-j.receivers c.loop-j.moved c.flush.result _ c.flush.new.self _ _ _ c.requires.numbered within (get_at c.loop-j.receivers c.loop-j.j _ within) c.loop-j.invariant.flushing c.flush.ensures in
    let moved : c.if-flush.moved ≡ (c.loop-j.moved || c.flush.result) = elim c.if-flush.branch [
      | then-flush w ↦ w.moved-is ∙ or_true c.loop-j.moved c.flush.result w.if-flush.true
      | else-flush w ↦ w.moved-is ∙ or_false c.loop-j.moved c.flush.result w.if-flush.false
    ] in
    record { flushing = moved_so _ _ _ c.loop-j.moved c.flush.result _ _ _ moved more; size = length-set _ _ _ ∙ size }

at_end : (i n : ℕ) (rs qs : List Receiver) (some : Bool) (s m : Meaning) → i ≡ n → Flushing i rs some qs s m → Flushing n rs some qs s m
at_end i n rs qs some s m e f = let P : ℕ → Type 0 = λ x. Flushing x rs some qs s m in subst P e f

pub returns : goal.returns
returns g c = flushed c.args.receivers.now c.loop-j.receivers c.loop-j.moved _ _ c.loop-j.invariant.size (at_end c.loop-j.j (length c.args.receivers.now) _ _ _ _ _ (omega arith) c.loop-j.invariant.flushing)
