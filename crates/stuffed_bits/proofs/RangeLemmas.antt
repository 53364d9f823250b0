-- Bytes, and parts of a piece after them.
use Rattle.std.proofs.Common.{◌≡◌, ◌≤◌, ◌+◌, ◌-◌, ℕ, List, ◌++◌, take, drop, sym, ◌∙◌, ap, arith, append_assoc}
use Rattle.std.specs.List.{slice_range}
use Rattle.std.proofs.lemmas.List.{drop-drop}
use Rattle.std.proofs.lemmas.List.Folds.{drop_split}
use Rattle.std.proofs.Math.Seq.{take-add}

-- the bytes of a piece up to a place and up to a further one, and all of them
pub ranges_join : (bytes piece : List ℕ) (at mid end : ℕ) → at ≤ mid → mid ≤ end → (bytes ++ slice_range piece at mid) ++ slice_range piece mid end ≡ bytes ++ slice_range piece at end
ranges_join bytes piece at mid end h t =
    let i : at + (mid - at) ≡ mid = omega arith in
    let j : mid - at + (end - mid) ≡ end - at = omega arith in
    let d : drop (mid - at) (drop at piece) ≡ drop mid piece = drop-drop (mid - at) at piece ∙ ap (λ (n : ℕ). drop n piece) i in
    let e : take (end - at) (drop at piece) ≡ take (mid - at) (drop at piece) ++ take (end - mid) (drop mid piece) =
    ap (λ (n : ℕ). take n (drop at piece)) (sym j) ∙ (take-add (mid - at) (end - mid) (drop at piece) ∙ ap (λ (l : List ℕ). take (mid - at) (drop at piece) ++ take (end - mid) l) d) in
    append_assoc bytes (slice_range piece at mid) (slice_range piece mid end) ∙ ap (λ (l : List ℕ). bytes ++ l) (sym e)

-- and with the rest of the piece
pub range_and_rest : (bytes piece : List ℕ) (at mid : ℕ) → at ≤ mid → (bytes ++ slice_range piece at mid) ++ drop mid piece ≡ bytes ++ drop at piece
range_and_rest bytes piece at mid h = append_assoc bytes (slice_range piece at mid) (drop mid piece) ∙ ap (λ (l : List ℕ). bytes ++ l) (sym (drop_split piece at mid h))
