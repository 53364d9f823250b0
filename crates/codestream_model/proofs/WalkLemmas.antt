-- Labels on the way from a tag tree's root to a leaf.
use Rattle.std.proofs.Common.{◌≡◌, ◌≢◌, ◌≤◌, ◌+◌, ◌==◌, ℕ, zero, suc, Bool, true, refl, inl, inr, arith}
use Rattle.std.proofs.lemmas.Bool.Decides.{eqb_tells}
use Rattle.codestream_model.specs.Values.{Grid}
use Rattle.codestream_model.specs.TagTrees.{Seat, IsSeat, Labels, NeverFalls, label, parent_label, root_level}

-- a label is at most the leaf's
pub label-le : (g : Grid) (labels : Labels) (s : Seat) → NeverFalls g labels → IsSeat g s → (level : ℕ) → level ≤ root_level g → label labels level s ≤ label labels 0 s
label-le g labels s never i zero h = omega arith
label-le g labels s never i (suc level) h =
    let e : level + 1 ≡ suc level = omega arith in
    let one : label labels (suc level) s ≤ label labels level s = rw e at (never s level i (omega arith)) in
    omega (arith, label-le g labels s never i level (omega arith))

-- and at least its parent's
pub parent-le : (g : Grid) (labels : Labels) (s : Seat) → NeverFalls g labels → IsSeat g s → (level : ℕ) → level ≤ root_level g → parent_label g labels level s ≤ label labels level s
parent-le g labels s never i level h = elim (eqb_tells level (root_level g)) [
  | inl t ↦ rw t.0 (omega arith)
  | inr t ↦ let ne : level ≢ root_level g = t.1 in rw t.0 (never s level i (omega arith))
]

-- below the root the parent is the node above
pub parent_below : (g : Grid) (labels : Labels) (s : Seat) (level : ℕ) → suc level ≤ root_level g → parent_label g labels level s ≡ label labels (suc level) s
parent_below g labels s level h = elim (eqb_tells level (root_level g)) [
  | inl t ↦ absurd (omega (arith, t.1))
  | inr t ↦ let e : level + 1 ≡ suc level = omega arith in rw (t.0, e) refl
]

-- each leaf that meets a node of the value tree first gives it
abbrev pub always : ℕ → Seat → Bool
always level s = true

-- a node of the inclusion tree is given where its parent has label 0
abbrev pub below_zero : Grid → Labels → ℕ → Seat → Bool
below_zero g labels level s = parent_label g labels level s == 0
