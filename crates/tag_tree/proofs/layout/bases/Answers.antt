-- One level more has its base.
use Rattle.std.proofs.Common.{◌≡◌, ◌≢◌, ◌≤◌, ◌<◌, ◌+◌, ◌*◌, ◌-◌, ℕ, zero, suc, [], ◌∷◌, length, refl, sym, ◌∙◌, arith, slice_index_or, get_or-set_other, get_or-set_same, below_more}
use Rattle.std.proofs.Math.ListN.{length-set}
use Rattle.tag_tree.specs.Places.{base_of, size_of}
use Rattle.tag_tree.proofs.PlaceLemmas.{base_step, base_small}
use Rattle.tag_tree.proofs.layout.bases.Goals as goal

pub loop-level-init : goal.loop-level-init
unfolding base_of
loop-level-init c = record { low = omega arith; size = refl; each = first } where
  first : (k : ℕ) → k < 1 → slice_index_or (0 ∷ 0 ∷ 0 ∷ 0 ∷ 0 ∷ 0 ∷ 0 ∷ 0 ∷ 0 ∷ 0 ∷ 0 ∷ 0 ∷ 0 ∷ 0 ∷ 0 ∷ 0 ∷ 0 ∷ []) k 0 ≡ base_of c.args.cols c.args.rows k
  first zero lt = refl
  first (suc k) lt = absurd (omega arith)

-- The level after one isn't the first.
later : (level : ℕ) → 1 ≤ level → level ≢ 0
later zero some e = absurd (omega arith)
later (suc level) some e = absurd (omega (arith, e))

pub overflow_add-bases : goal.overflow_add-bases
overflow_add-bases c =
    let is = c.loop-level.invariant in
    let ne = later c.loop-level.level is.low in
    let e = base_step c.args.cols c.args.rows c.loop-level.level ne in
    let b : base_of c.args.cols c.args.rows c.loop-level.level ≤ 2 * (c.args.cols * c.args.rows) + c.loop-level.level = base_small c.args.cols c.args.rows c.loop-level.level ne in
    rw (is.each (c.loop-level.level - 1) (omega (arith, is.low)), c.width.ensures, c.width-in-loop-level.ensures, ← e) (omega (arith, b, c.requires.small))

pub loop-level-preserved : goal.loop-level-preserved
loop-level-preserved c =
    let is = c.loop-level.invariant in
    let lt : c.loop-level.level < length c.loop-level.bases = omega (arith, is.size) in
    let e = base_step c.args.cols c.args.rows c.loop-level.level (later c.loop-level.level is.low) in
    record {
      low = omega (arith, is.low);
      size = length-set c.loop-level.bases c.loop-level.level _ ∙ is.size;
      each =
          below_more _ _
          (λ k h. let ne : k ≢ c.loop-level.level = omega arith in rw get_or-set_other (is.each k h))
          (rw get_or-set_same (rw (is.each (c.loop-level.level - 1) (omega (arith, is.low)), c.width.ensures, c.width-in-loop-level.ensures) (sym e)));
    }
