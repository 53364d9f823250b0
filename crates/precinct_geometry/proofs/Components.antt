-- The areas of the components, put one after another.
use Rattle.std.proofs.Common.{◌≡◌, ◌<◌, ℕ, List, [], ◌∷◌, ◌++◌, ◌+◌, length, get_or, sym, subst, inl, inr, arith}
use Rattle.std.proofs.lemmas.Bool.{cases_lt}
use Rattle.std.proofs.lemmas.List.{length-append}
use Rattle.std.proofs.Math.ListN.{get_or-append}
use Rattle.std.proofs.Math.Seq.{get_or-append_seam}
use Rattle.codestream_model.specs.Values.{Head}
use Rattle.codestream_model.specs.Areas.{component_area}
use Rattle.precinct_geometry.specs.declared.geometry.Area.{Area}
use Rattle.precinct_geometry.specs.Components.{IsComponentAt}
use Rattle.precinct_geometry.specs.Spans.{area_of, IsWithin}

-- an area that is that of a component
abbrev IsOf : Head → ℕ → Area → Type 0
IsOf h c a = (area_of a ≡ component_area h c) × IsWithin a

-- the areas with that of one more component
pub one_more_area : (h : Head) (areas : List Area) (n : ℕ) (one : Area) → length areas ≡ n → ((c : ℕ) (d : Area) → c < length areas → IsComponentAt h areas c d) → area_of one ≡ component_area h n → IsWithin one
    → (c : ℕ) (d : Area) → c < length (areas ++ one ∷ []) → IsComponentAt h (areas ++ one ∷ []) c d
one_more_area h areas n one count each area within c d lt =
    let longer : length (areas ++ one ∷ []) ≡ length areas + 1 = omega (arith, length-append areas (one ∷ [])) in
    elim (cases_lt c (length areas)) [
      | inl less ↦
          let at = each c d less in
          let is = subst (IsOf h c) (sym (get_or-append areas (one ∷ []) d c less)) (at.area, at.within) in
          record { area = is.0; within = is.1 }
      | inr ge ↦
          let same : length areas ≡ c = omega (arith, longer) in
          let first = subst (IsOf h n) (sym (get_or-append_seam areas one [] d)) (area, within) in
          let there = subst (λ (i : ℕ). IsOf h i (get_or (areas ++ one ∷ []) (length areas) d)) (sym count) first in
          let is = subst (λ (i : ℕ). IsOf h i (get_or (areas ++ one ∷ []) i d)) same there in
          record { area = is.0; within = is.1 }
    ]

-- and there is one more of them
pub one_more_count : (areas : List Area) (n : ℕ) (one : Area) → length areas ≡ n → length (areas ++ one ∷ []) ≡ n + 1
one_more_count areas n one count = let longer : length (areas ++ one ∷ []) ≡ length areas + 1 = omega (arith, length-append areas (one ∷ [])) in omega (arith, longer)
