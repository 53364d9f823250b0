-- The precincts of a generated picture: how many there are, and that their grids are small.
use Rattle.std.proofs.Common.{◌≡◌, ◌≤◌, ◌<◌, ◌+◌, ◌-◌, ◌*◌, ◌^◌, ◌==◌, ◌⊎◌, if◌then◌else◌, ℕ, zero, suc, min, Bool, true, false, List, [], ◌∷◌, length, replicate, refl, ◌∙◌, ap, inl, inr, arith}
use Rattle.std.specs.Prelude.{slice_index_or, nat_le}
use Rattle.std.specs.List.{AllByRecursion, flat_map, range_with_len}
use Rattle.std.proofs.lemmas.Bool.{cases_Bool, ne_eqb, leb-true, leb-false}
use Rattle.std.proofs.lemmas.List.{length-append, length-map}
use Rattle.std.proofs.lemmas.List.FromFn.{length-range_with_len}
use Rattle.std.proofs.lemmas.Nat.{mul-le}
use Rattle.std.proofs.Math.Nat.{pow-le-pow_right}
use Rattle.codestream_model.specs.Values.{Pair, Head, Place, Grid}
use Rattle.codestream_model.specs.Areas.{ceil_div, Span, step_of, resolution_area, band_area}
use Rattle.codestream_model.specs.Precincts.{precinct_exponents, strips, precinct_columns, precinct_rows, precinct_count, IsPrecinct, strip_x, strip_y, band_exponent, part, part_x, part_y, grid}
use Rattle.codestream_model.specs.PacketOrder.{sum_below, precincts_below, key, is_before, places_of, all_places, placed, sorted, packet_order}
use Rattle.codestream_model.proofs.Anchors.{quotient_is_rounded_up}
use Rattle.trial_model.proofs.HeaderBits.{IsSmall}
use Rattle.trial_model.proofs.DrawnContents.{HasSmallGrids}

-- Precincts of 128 by 128 at resolution 0 and of 256 by 256 above.
abbrev pub sizes : ℕ → List Pair
sizes levels = record { x = 7; y = 7 } ∷ replicate levels (record { x = 8; y = 8 })

-- The values of a header on which the numbers of precincts and code-blocks rest.
pub record IsPlain (h : Head) : Type 0 where
  pub left : h.x0 ≡ 0
  pub top : h.y0 ≡ 0
  pub wide : h.x1 ≤ 4096
  pub high : h.y1 ≤ 4096
  pub few : length h.steps ≤ 4
  pub some_step : (c : ℕ) → (1 ≤ (step_of h c).x) × (1 ≤ (step_of h c).y)
  pub few_levels : h.levels ≤ 15
  pub block : h.block ≡ record { x = 6; y = 6 }
  pub precincts : h.precincts ≡ sizes h.levels

-- The exponents above resolution 0, and those of a resolution that there isn't.
abbrev eight : Pair
eight = record { x = 8; y = 8 }

abbrev fifteen : Pair
fifteen = record { x = 15; y = 15 }

-- The exponents of a resolution.
size_above : (n r : ℕ) → r < n → slice_index_or (replicate n eight) r fifteen ≡ eight
size_above zero r less = absurd (omega (arith, less))
size_above (suc n) zero less = refl
size_above (suc n) (suc r) less = size_above n r (omega (arith, less))

size_at : (h : Head) (r : ℕ) → IsPlain h → r < h.levels → precinct_exponents h (suc r) ≡ eight
size_at h r plain less = ap (λ (l : List Pair). slice_index_or l (suc r) fifteen) plain.precincts ∙ size_above h.levels r less

size_first : (h : Head) → IsPlain h → precinct_exponents h 0 ≡ record { x = 7; y = 7 }
size_first h plain = ap (λ (l : List Pair). slice_index_or l 0 fifteen) plain.precincts

-- Each exponent in a band is 7.
band_size : (h : Head) (r : ℕ) → IsPlain h → r ≤ h.levels → (band_exponent r (precinct_exponents h r).x ≡ 7) × (band_exponent r (precinct_exponents h r).y ≡ 7)
band_size h zero plain less = let e = size_first h plain in (ap (λ (p : Pair). p.x) e, ap (λ (p : Pair). p.y) e)
band_size h (suc r) plain less =
    let e = size_at h r plain (omega (arith, less)) in
    rw (ne_eqb (suc r) 0 (λ z. omega (arith, z))) (ap (λ (p : Pair). p.x - 1) e, ap (λ (p : Pair). p.y - 1) e)

large : (h : Head) (r : ℕ) → IsPlain h → r ≤ h.levels → (7 ≤ (precinct_exponents h r).x) × (7 ≤ (precinct_exponents h r).y)
large h zero plain less = let e = size_first h plain in (omega (arith, ap (λ (p : Pair). p.x) e), omega (arith, ap (λ (p : Pair). p.y) e))
large h (suc r) plain less = let e = size_at h r plain (omega (arith, less)) in (omega (arith, ap (λ (p : Pair). p.x) e), omega (arith, ap (λ (p : Pair). p.y) e))

-- A strip of 128 coordinates has at most two strips of 64.
halves : (strip : ℕ) (s : Span) → (part strip 7 s).from < (part strip 7 s).to → strips 6 (part strip 7 s) ≤ 2
halves strip s some = elim (cases_Bool ((part strip 7 s).to == (part strip 7 s).from)) [
  | inl t ↦ rw t (omega arith)
  | inr f ↦ rw f (
      let a : strip * 128 ≤ (part strip 7 s).from = omega arith in
      let b : (part strip 7 s).to ≤ (strip + 1) * 128 = omega arith in
      omega (arith, a, b)
      )
]

small_parts : (h : Head) (p : Place) (band e f : ℕ) → e ≡ 7 → f ≡ 7 → h.block ≡ record { x = 6; y = 6 } → (x y : Span)
    → ((strips (min h.block.x e) (part (strip_x h p) e x) ≤ 2) ⊎ ((part (strip_x h p) e x).to ≤ (part (strip_x h p) e x).from))
    × ((strips (min h.block.y f) (part (strip_y h p) f y) ≤ 2) ⊎ ((part (strip_y h p) f y).to ≤ (part (strip_y h p) f y).from))
small_parts h p band e f e7 f7 block x y = rw (e7, f7, block) (one (strip_x h p) x, one (strip_y h p) y) where
  one : (strip : ℕ) (s : Span) → (strips 6 (part strip 7 s) ≤ 2) ⊎ ((part strip 7 s).to ≤ (part strip 7 s).from)
  one strip s = elim (cases_Bool (nat_le (part strip 7 s).to (part strip 7 s).from)) [
    | inl t ↦ inr (leb-true (part strip 7 s).to (part strip 7 s).from t)
    | inr f ↦ inl (halves strip s (leb-false (part strip 7 s).to (part strip 7 s).from f))
  ]

-- A precinct has at most two by two code-blocks in a band.
small_grid : (h : Head) (p : Place) (band : ℕ) → IsPlain h → p.r ≤ h.levels → IsSmall (grid h p band)
small_grid h p band plain low = elim (cases_Bool (nat_le (part_x h p band).to (part_x h p band).from)) [
  | inl t ↦ rw t (omega arith, omega arith)
  | inr f ↦ rw f (elim (cases_Bool (nat_le (part_y h p band).to (part_y h p band).from)) [
    | inl t ↦ rw t (omega arith, omega arith)
    | inr g ↦ rw g (
        let sizes = band_size h p.r plain low in
        let parts = small_parts h p band (band_exponent p.r (precinct_exponents h p.r).x) (band_exponent p.r (precinct_exponents h p.r).y) sizes.0 sizes.1 plain.block (band_area h p.c p.r band).x (band_area h p.c p.r band).y in
        let across = leb-false (part_x h p band).to (part_x h p band).from f in
        let down = leb-false (part_y h p band).to (part_y h p band).from g in (
          elim parts.0 [ inl few ↦ few | inr none ↦ absurd (omega (arith, none, across)) ],
          elim parts.1 [ inl few ↦ few | inr none ↦ absurd (omega (arith, none, down)) ],
        )
        )
  ])
]

of_bands : (b : Bool) (one x y z : Grid) → IsSmall one → IsSmall x → IsSmall y → IsSmall z
    → (length {A = Grid} (if b then one ∷ [] else x ∷ y ∷ z ∷ []) ≤ 3) × AllByRecursion IsSmall (if b then one ∷ [] else x ∷ y ∷ z ∷ [])
of_bands true one x y z a b c d = (omega arith, (a, tt))
of_bands false one x y z a b c d = (omega arith, (b, (c, (d, tt))))

pub small_grids : (h : Head) (p : Place) → IsPlain h → IsPrecinct h p → HasSmallGrids h p
small_grids h p plain is =
    let small : (band : ℕ) → IsSmall (grid h p band) = λ band. small_grid h p band plain is.resolution in
    let all = of_bands (p.r == 0) (grid h p 0) (grid h p 1) (grid h p 2) (grid h p 3) (small 0) (small 1) (small 2) (small 3) in
    record { few = all.0; small = all.1 }

-- A resolution has at most 32 columns and 32 rows of precincts.
shrinks : (a b : ℕ) → 1 ≤ b → ceil_div a b ≤ a
shrinks a b some = (quotient_is_rounded_up a b a some).1 (let m = mul-le a 1 a b (omega arith) some in omega (arith, m))

few_strips : (e : ℕ) (s : Span) → 7 ≤ e → s.to ≤ 4096 → strips e s ≤ 32
few_strips e s size low = elim (cases_Bool (s.to == s.from)) [
  | inl t ↦ rw t (omega arith)
  | inr f ↦ rw f (
      let p : 128 ≤ 2 ^ e = pow-le-pow_right (omega arith) {i = 7} size in
      let m = mul-le 32 128 32 (2 ^ e) (omega arith) p in
      let q = (quotient_is_rounded_up s.to (2 ^ e) 32 (omega (arith, p))).1 (omega (arith, m, low)) in
      omega (arith, q)
      )
]

low_to : (h : Head) (c r : ℕ) → IsPlain h → ((resolution_area h c r).x.to ≤ 4096) × ((resolution_area h c r).y.to ≤ 4096)
low_to h c r plain =
    let some : 1 ≤ 2 ^ (h.levels - r) = pow-le-pow_right (omega arith) {i = 0} (omega arith) in
    let steps = plain.some_step c in (
      omega (arith, shrinks (ceil_div h.x1 (step_of h c).x) (2 ^ (h.levels - r)) some, shrinks h.x1 (step_of h c).x steps.0, plain.wide),
      omega (arith, shrinks (ceil_div h.y1 (step_of h c).y) (2 ^ (h.levels - r)) some, shrinks h.y1 (step_of h c).y steps.1, plain.high),
    )

few_precincts : (h : Head) (c r : ℕ) → IsPlain h → r ≤ h.levels → precinct_count h c r ≤ 1024
few_precincts h c r plain low =
    let size = large h r plain low in
    let to = low_to h c r plain in
    mul-le (precinct_columns h c r) (precinct_rows h c r) 32 32
    (few_strips (precinct_exponents h r).x (resolution_area h c r).x size.0 to.0)
    (few_strips (precinct_exponents h r).y (resolution_area h c r).y size.1 to.1)

few_below : (f : ℕ → ℕ) (n most : ℕ) → ((r : ℕ) → r < n → f r ≤ 1024) → sum_below f n ≤ n * 1024
unfolding sum_below
few_below f zero most each = omega arith
few_below f (suc n) most each = omega (arith, few_below f n most (λ r less. each r (omega (arith, less))), each n (omega arith))

-- A component has at most 16,384 precincts.
pub few_of_component : (h : Head) (c : ℕ) → IsPlain h → precincts_below h c (h.levels + 1) ≤ 16384
few_of_component h c plain =
    omega (arith, few_below (precinct_count h c) (h.levels + 1) 0 (λ r less. few_precincts h c r plain (omega (arith, less))), plain.few_levels)

-- The packet order has at most 65,536 precincts.
placed_more : (h : Head) (p : Place) (qs : List Place) → length (placed h p qs) ≤ suc (length qs)
unfolding placed
placed_more h p [] = omega arith
placed_more h p (q ∷ qs) = elim (cases_Bool (is_before (key h p) (key h q))) [
  | inl t ↦ rw t (omega arith)
  | inr f ↦ rw f (elim (cases_Bool (is_before (key h q) (key h p))) [
    | inl t ↦ rw t (omega (arith, placed_more h p qs))
    | inr g ↦ rw g (omega arith)
  ])
]

sorted_few : (h : Head) (ps : List Place) → length (sorted h ps) ≤ length ps
unfolding sorted
sorted_few h [] = omega arith
sorted_few h (p ∷ ps) = omega (arith, placed_more h p (sorted h ps), sorted_few h ps)

places_few : (h : Head) (c r : ℕ) → IsPlain h → r ≤ h.levels → length (places_of h c r) ≤ 1024
places_few h c r plain low =
    omega (
      arith,
      few_precincts h c r plain low,
      length-map (range_with_len 0 (precinct_count h c r)) (λ (k : ℕ). let p : Place = record { c = c; r = r; k = k } in p),
      length-range_with_len 0 (precinct_count h c r),
    )

of_resolutions : (h : Head) (c from n : ℕ) → IsPlain h → from + n ≤ h.levels + 1 → length (flat_map (λ r. places_of h c r) (range_with_len from n)) ≤ n * 1024
of_resolutions h c from zero plain low = omega arith
of_resolutions h c from (suc n) plain low =
    omega (
      arith,
      places_few h c from plain (omega (arith, low)),
      of_resolutions h c (from + 1) n plain (omega (arith, low)),
      length-append (places_of h c from) (flat_map (λ r. places_of h c r) (range_with_len (from + 1) n)),
    )

of_components : (h : Head) (from n : ℕ) → IsPlain h → length (flat_map (λ c. flat_map (λ r. places_of h c r) (range_with_len 0 (h.levels + 1))) (range_with_len from n)) ≤ n * 16384
of_components h from zero plain = omega arith
of_components h from (suc n) plain =
    let here = flat_map (λ r. places_of h from r) (range_with_len 0 (h.levels + 1)) in
    omega (
      arith,
      of_resolutions h from 0 (h.levels + 1) plain (omega arith),
      plain.few_levels,
      of_components h (from + 1) n plain,
      length-append here (flat_map (λ c. flat_map (λ r. places_of h c r) (range_with_len 0 (h.levels + 1))) (range_with_len (from + 1) n)),
    )

pub few_places : (h : Head) → IsPlain h → length (packet_order h) ≤ 65536
few_places h plain = omega (arith, sorted_few h (all_places h), of_components h 0 (length h.steps) plain, plain.few)
