-- The parts of a band that precincts have: each place of the band lies in one of them.
use Rattle.std.proofs.Common.{◌≡◌, ◌<◌, ◌≤◌, ◌+◌, ◌-◌, ◌*◌, ◌/◌, ◌%◌, ◌^◌, ℕ, zero, suc, refl, sym, ◌∙◌, ap, subst, inl, inr, arith, mul-le-mul_right}
use Rattle.std.proofs.lemmas.Bool.{cases_lt, ne_eqb}
use Rattle.std.proofs.lemmas.Nat.{pow_pos, pow-add, mul-add-lt, div-mul-add, mod-mul-add}
use Rattle.std.proofs.Math.Nat.{div-mul-le_self, lt-div-mul-add, le-div_iff_mul-le}
use Rattle.codestream_model.specs.Values.{Head}
use Rattle.codestream_model.specs.Areas.{ceil_div, Span, divided, component_area, resolution_area, band_span, band_level, band_area}
use Rattle.codestream_model.specs.Precincts.{precinct_exponents, strips, precinct_columns, precinct_rows, precinct_count, band_exponent, part, part_x, part_y, strip_x, strip_y}
use Rattle.codestream_model.specs.GeometryLaws.{IsWithin, PartsCoverBands, PartsAreApart}
use Rattle.codestream_model.proofs.Anchors.{ceil_covers, ceil_least, same_quotient}
use Rattle.codestream_model.proofs.StripLaws.{next_begins, quotient_is, strips_are_reached}

-- the odd or even place of a resolution from which a place of a band comes
odd_step : (u odd d : ℕ) → (2 * u + odd) * d ≡ u * (2 * d) + d * odd
odd_step u odd d = omega arith

-- an order along another
le_along : {a b c : ℕ} → a ≤ b → b ≤ c → a ≤ c
le_along {a} {b} {c} p q = omega arith

-- that place lies in the resolution
place_is_within : (from to u odd d : ℕ) → 0 < d → ceil_div (from - d * odd) (2 * d) ≤ u → u < ceil_div (to - d * odd) (2 * d) → (ceil_div from d ≤ 2 * u + odd) × (2 * u + odd < ceil_div to d)
place_is_within from to u odd d pos low high =
    let covered : from - d * odd ≤ ceil_div (from - d * odd) (2 * d) * (2 * d) = ceil_covers (from - d * odd) (2 * d) (omega arith) in
    let more : ceil_div (from - d * odd) (2 * d) * (2 * d) ≤ u * (2 * d) = mul-le-mul_right (2 * d) low in
    let first : ceil_div from d ≤ 2 * u + odd = ceil_least from d (2 * u + odd) pos (rw (odd_step u odd d) (omega arith)) in
    let last : 2 * u + odd < ceil_div to d = elim (cases_lt (2 * u + odd) (ceil_div to d)) [
      | inl below ↦ below
      | inr above ↦
          let reach : ceil_div to d * d ≤ (2 * u + odd) * d = mul-le-mul_right d above in
          let end : to ≤ u * (2 * d) + d * odd = rw (odd_step u odd d) at (le_along (ceil_covers to d pos) reach) in
          absurd (omega (arith, ceil_least (to - d * odd) (2 * d) u (omega arith) (omega arith)))
    ] in
    (first, last)

-- the strip of that place is the place's strip in the band
twice_split : (q p : ℕ) → q * (2 * p) ≡ 2 * (q * p)
twice_split q p = omega arith

-- twice a product with one more
next_twice : (q p : ℕ) → (q + 1) * (2 * p) ≡ 2 * (q * p) + 2 * p
next_twice q p = omega arith

-- the strip of a place in the resolution is that in the band
half_strip : (u odd p : ℕ) → odd ≤ 1 → 0 < p → (2 * u + odd) / (2 * p) ≡ u / p
half_strip u odd p small pos =
    let low : u / p * p ≤ u = div-mul-le_self u p in
    let high : u < u / p * p + p = lt-div-mul-add {a = u} pos in
    quotient_is (2 * u + odd) (u / p) (2 * p) (omega arith) (rw (twice_split (u / p) p) (omega arith)) (rw (next_twice (u / p) p) (omega arith))

-- the strip in which a place of a stretch lies
quotient_grows : (a b p : ℕ) → 0 < p → a ≤ b → a / p ≤ b / p
quotient_grows a b p pos le = (le-div_iff_mul-le {k = p} {x = a / p} {y = b} pos).1 (omega (arith, div-mul-le_self a p))

-- a place of a stretch lies in one of its strips
strip_of : (e : ℕ) (s : Span) (w : ℕ) → IsWithin s w → (i : ℕ) × (i < strips e s) × (w / 2 ^ e ≡ s.from / 2 ^ e + i)
strip_of e s w (low, high) =
    let grows : s.from / 2 ^ e ≤ w / 2 ^ e = quotient_grows s.from w (2 ^ e) (pow_pos e) low in
    let at : w / 2 ^ e ≡ s.from / 2 ^ e + (w / 2 ^ e - s.from / 2 ^ e) = omega arith in
    (w / 2 ^ e - s.from / 2 ^ e, (strips_are_reached e s (w / 2 ^ e - s.from / 2 ^ e) (omega arith)).1 (w, low, high, at), at)

-- in one direction, at the lowest resolution
less_nothing : (t x : ℕ) → t - x * 0 ≡ t
less_nothing t x = omega arith

-- a place of the band lies in a strip of the resolution
line_low : (n e u : ℕ) (s : Span) → IsWithin (band_span n 0 s) u → (i : ℕ) × (i < strips e (divided (2 ^ (n - 0)) s)) × (u / 2 ^ e ≡ (divided (2 ^ (n - 0)) s).from / 2 ^ e + i)
line_low n e u s (low, high) =
    let all : n - 0 ≡ n = omega arith in
    let first : ceil_div s.from (2 ^ (n - 0)) ≤ u = rw (← less_nothing s.from (2 ^ (n - 1)), all) low in
    let last : u < ceil_div s.to (2 ^ (n - 0)) = rw (← less_nothing s.to (2 ^ (n - 1)), all) high in
    strip_of e (divided (2 ^ (n - 0)) s) u (first, last)

-- and at another one
twice_power : (d : ℕ) → 2 ^ (d + 1) ≡ 2 * 2 ^ d
twice_power d = pow-add 2 d 1 ∙ omega arith

-- a place of the band lies in a strip of the resolution
line_high : (d e odd u : ℕ) (s : Span) → odd ≤ 1 → 1 ≤ e → IsWithin (band_span (d + 1) odd s) u → (i : ℕ) × (i < strips e (divided (2 ^ d) s)) × (u / 2 ^ (e - 1) ≡ (divided (2 ^ d) s).from / 2 ^ e + i)
line_high d e odd u s small some (low, high) =
    let less : d + 1 - 1 ≡ d = omega arith in
    let first : ceil_div (s.from - 2 ^ d * odd) (2 * 2 ^ d) ≤ u = rw (← twice_power d) (rw less at low) in
    let last : u < ceil_div (s.to - 2 ^ d * odd) (2 * 2 ^ d) = rw (← twice_power d) (rw less at high) in
    let there = strip_of e (divided (2 ^ d) s) (2 * u + odd) (place_is_within s.from s.to u odd (2 ^ d) (pow_pos d) first last) in
    let whole : e ≡ e - 1 + 1 = omega arith in
    let power : 2 ^ e ≡ 2 * 2 ^ (e - 1) = ap (λ (k : ℕ). 2 ^ k) whole ∙ twice_power (e - 1) in
    let half : (2 * u + odd) / 2 ^ e ≡ u / 2 ^ (e - 1) = ap (λ (k : ℕ). (2 * u + odd) / k) power ∙ half_strip u odd (2 ^ (e - 1)) small (pow_pos (e - 1)) in
    (there.0, there.1, sym half ∙ there.2)

-- a place lies in its strip's part of a stretch
part_has : (strip e : ℕ) (s : Span) (u : ℕ) → IsWithin s u → u / 2 ^ e ≡ strip → IsWithin (part strip e s) u
part_has strip e s u (low, high) at =
    let first : strip * 2 ^ e ≤ u = rw (← at) (div-mul-le_self u (2 ^ e)) in
    let after : u < u / 2 ^ e * 2 ^ e + 2 ^ e = lt-div-mul-add {a = u} (pow_pos e) in
    let last : u < (strip + 1) * 2 ^ e = rw (← at) (rw (next_begins (u / 2 ^ e) (2 ^ e)) after) in
    (omega arith, omega arith)

-- and in that of no other strip
part_is : (strip e : ℕ) (s : Span) (u : ℕ) → IsWithin (part strip e s) u → u / 2 ^ e ≡ strip
part_is strip e s u (low, high) = quotient_is u strip (2 ^ e) (pow_pos e) (omega arith) (omega arith)

-- numbers that are one when the same is added are one
same_less : (a i j : ℕ) → a + i ≡ a + j → i ≡ j
same_less a i j e = omega arith

-- the precinct of a column and a row
put_together : (h : Head) (c r band u v i j : ℕ) → i < precinct_columns h c r → j < precinct_rows h c r
    → u / 2 ^ band_exponent r (precinct_exponents h r).x ≡ (resolution_area h c r).x.from / 2 ^ (precinct_exponents h r).x + i
    → v / 2 ^ band_exponent r (precinct_exponents h r).y ≡ (resolution_area h c r).y.from / 2 ^ (precinct_exponents h r).y + j
    → IsWithin (band_area h c r band).x u
    → IsWithin (band_area h c r band).y v
    → (k : ℕ) × (k < precinct_count h c r) × IsWithin (part_x h (record { c = c; r = r; k = k }) band) u × IsWithin (part_y h (record { c = c; r = r; k = k }) band) v
put_together h c r band u v i j column row x y in_x in_y =
    let n = precinct_columns h c r in
    let k = j * n + i in
    let at_column : k % n ≡ i = mod-mul-add j n i column in
    let at_row : k / n ≡ j = div-mul-add j n i column in (
      k,
      mul-add-lt j n i (precinct_rows h c r) row column,
      part_has (strip_x h (record { c = c; r = r; k = k })) (band_exponent r (precinct_exponents h r).x) (band_area h c r band).x u in_x (x ∙ ap (λ (t : ℕ). (resolution_area h c r).x.from / 2 ^ (precinct_exponents h r).x + t) (sym at_column)),
      part_has (strip_y h (record { c = c; r = r; k = k })) (band_exponent r (precinct_exponents h r).y) (band_area h c r band).y v in_y (y ∙ ap (λ (t : ℕ). (resolution_area h c r).y.from / 2 ^ (precinct_exponents h r).y + t) (sym at_row)),
    )

-- no place lies in the parts of two precincts
pub parts_are_apart : PartsAreApart
parts_are_apart h c r k j band u v kx ky jx jy =
    let n = precinct_columns h c r in
    let ex = band_exponent r (precinct_exponents h r).x in
    let ey = band_exponent r (precinct_exponents h r).y in
    let columns : strip_x h (record { c = c; r = r; k = k }) ≡ strip_x h (record { c = c; r = r; k = j }) = sym (part_is (strip_x h (record { c = c; r = r; k = k })) ex (band_area h c r band).x u kx) ∙ part_is (strip_x h (record { c = c; r = r; k = j })) ex (band_area h c r band).x u jx in
    let rows : strip_y h (record { c = c; r = r; k = k }) ≡ strip_y h (record { c = c; r = r; k = j }) = sym (part_is (strip_y h (record { c = c; r = r; k = k })) ey (band_area h c r band).y v ky) ∙ part_is (strip_y h (record { c = c; r = r; k = j })) ey (band_area h c r band).y v jy in
    same_quotient k j n
    (same_less ((resolution_area h c r).y.from / 2 ^ (precinct_exponents h r).y) (k / n) (j / n) rows)
    (same_less ((resolution_area h c r).x.from / 2 ^ (precinct_exponents h r).x) (k % n) (j % n) columns)

-- each place of LL lies in a part,
cover_low : (h : Head) (c u v : ℕ) → IsWithin (band_area h c 0 0).x u → IsWithin (band_area h c 0 0).y v → (k : ℕ) × (k < precinct_count h c 0) × IsWithin (part_x h (record { c = c; r = 0; k = k }) 0) u × IsWithin (part_y h (record { c = c; r = 0; k = k }) 0) v
cover_low h c u v in_x in_y =
    let x = line_low h.levels (precinct_exponents h 0).x u (component_area h c).x in_x in
    let y = line_low h.levels (precinct_exponents h 0).y v (component_area h c).y in_y in
    put_together h c 0 0 u v x.0 y.0 x.1 y.1 x.2 y.2 in_x in_y

-- the level of a band above the lowest resolution
level_high : (h : Head) (r : ℕ) → band_level h (suc r) ≡ h.levels - suc r + 1
level_high h r = rw (ne_eqb (suc r) 0 (λ e. omega arith)) refl

-- and the exponent of a precinct in it
exponent_high : (r e : ℕ) → band_exponent (suc r) e ≡ e - 1
exponent_high r e = rw (ne_eqb (suc r) 0 (λ e. omega arith)) refl

-- and each place of another band does
cover_high : (h : Head) (c r band u v : ℕ) → 1 ≤ (precinct_exponents h (suc r)).x → 1 ≤ (precinct_exponents h (suc r)).y → band ≤ 3 → IsWithin (band_area h c (suc r) band).x u → IsWithin (band_area h c (suc r) band).y v → (k : ℕ) × (k < precinct_count h c (suc r)) × IsWithin (part_x h (record { c = c; r = suc r; k = k }) band) u × IsWithin (part_y h (record { c = c; r = suc r; k = k }) band) v
cover_high h c r band u v some_x some_y few in_x in_y =
    let d = h.levels - suc r in
    let at_x : IsWithin (band_span (d + 1) (band % 2) (component_area h c).x) u = let P : ℕ → Type 0 = λ n. IsWithin (band_span n (band % 2) (component_area h c).x) u in subst P (level_high h r) in_x in
    let at_y : IsWithin (band_span (d + 1) (band / 2) (component_area h c).y) v = let P : ℕ → Type 0 = λ n. IsWithin (band_span n (band / 2) (component_area h c).y) v in subst P (level_high h r) in_y in
    let x = line_high d (precinct_exponents h (suc r)).x (band % 2) u (component_area h c).x (omega arith) some_x at_x in
    let y = line_high d (precinct_exponents h (suc r)).y (band / 2) v (component_area h c).y (omega arith) some_y at_y in
    put_together h c (suc r) band u v x.0 y.0 x.1 y.1
    (ap (λ (e : ℕ). u / 2 ^ e) (exponent_high r (precinct_exponents h (suc r)).x) ∙ x.2)
    (ap (λ (e : ℕ). v / 2 ^ e) (exponent_high r (precinct_exponents h (suc r)).y) ∙ y.2)
    in_x in_y

-- each place of a band lies in a part
pub parts_cover_bands : PartsCoverBands
parts_cover_bands h c zero band u v halves is in_x in_y =
    let P : ℕ → Type 0 = λ b. IsWithin (band_area h c 0 b).x u in
    let Q : ℕ → Type 0 = λ b. IsWithin (band_area h c 0 b).y v in
    let R : ℕ → Type 0 = λ b. (k : ℕ) × (k < precinct_count h c 0) × IsWithin (part_x h (record { c = c; r = 0; k = k }) b) u × IsWithin (part_y h (record { c = c; r = 0; k = k }) b) v in
    subst R (sym is) (cover_low h c u v (subst P is in_x) (subst Q is in_y))
parts_cover_bands h c (suc r) band u v halves is in_x in_y =
    let some = halves (omega arith) in
    cover_high h c r band u v some.0 some.1 is.1 in_x in_y
