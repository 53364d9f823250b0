-- The grids of a precinct are of different bands.
use Rattle.std.proofs.Common.{◌≡◌, ◌==◌, ℕ, Bool, true, false, [], ◌∷◌, nat_le, refl, inl, inr, arith, if◌then◌else◌}
use Rattle.codestream_model.specs.Values.{Head, Place, Grid}
use Rattle.codestream_model.specs.Precincts.{grid, grids, part_x, part_y}
use Rattle.codestream_model.specs.PacketHeader.{HaveOwnBands}
use Rattle.codestream_model.proofs.TreeLemmas.{either}

-- a grid is of its band
grid_band : (h : Head) (p : Place) (band : ℕ) → (grid h p band).band ≡ band
grid_band h p band = elim (either (nat_le (part_x h p band).to (part_x h p band).from)) [
  | inl t ↦ rw t refl
  | inr t ↦ elim (either (nat_le (part_y h p band).to (part_y h p band).from)) [
    | inl u ↦ rw (t, u) refl
    | inr u ↦ rw (t, u) refl
  ]
]

-- one grid, or three of different bands
bands_differ : (b : Bool) (one x y z : Grid) → x.band ≡ 1 → y.band ≡ 2 → z.band ≡ 3 → HaveOwnBands (if b then one ∷ [] else x ∷ y ∷ z ∷ [])
bands_differ true one x y z e f g = (tt, tt)
bands_differ false one x y z e f g = ((λ t. omega arith, (λ t. omega arith, tt)), ((λ t. omega arith, tt), (tt, tt)))

-- the grids of a precinct
pub own_bands : (h : Head) (p : Place) → HaveOwnBands (grids h p)
own_bands h p = bands_differ (p.r == 0) (grid h p 0) (grid h p 1) (grid h p 2) (grid h p 3) (grid_band h p 1) (grid_band h p 2) (grid_band h p 3)
