-- The values of accepted headers lie within the limits, and no component of one is without precincts.
use Rattle.std.proofs.Common.{◌≡◌, ◌<◌, ◌≤◌, ◌+◌, ◌*◌, ◌/◌, ◌%◌, ◌^◌, ◌==◌, ◌⊎◌, ◌||◌, ℕ, suc, Bool, true, false, not, List, [], ◌∷◌, ◌++◌, length, get_or, drop, refl, sym, ◌∙◌, ap, inl, inr, subst, arith}
use Rattle.std.specs.Prelude.{◌==◌, ◌≢◌, slice_index, nat_le, if◌then◌else◌}
use Rattle.std.specs.List.{All, AllByRecursion, list_any, range_with_len}
use Rattle.std.proofs.lemmas.Bool.{cases_Bool, cases_lt, ltb-false, leb-false, eqb-true, eqb-false, or_left, or_parts, or_cases}
use Rattle.std.proofs.lemmas.List.{length-append, length-map, get_or-append-add, get_or_append_left, get_or_past}
use Rattle.std.proofs.lemmas.List.Elements.{All-from_recursion, All-map}
use Rattle.std.proofs.lemmas.List.FromFn.{length-range_with_len}
use Rattle.std.proofs.lemmas.Bool.Decides.{eqb_tells}
use Rattle.codestream_model.specs.Values.{Pair, Head, Place}
use Rattle.codestream_model.specs.Bytes.{two_bytes, four_at, IsBytes}
use Rattle.codestream_model.specs.Segments.{SOC, SIZ, CAP, COD, SOD, Segment, stated_length, segment_bytes, segments_bytes, stands, content_of}
use Rattle.codestream_model.specs.SegmentTests.{cod_order, siz_tests, cod_tests, tile_tests, xsiz, ysiz, xosiz, yosiz, csiz, siz_steps, is_empty, cod_block, cod_levels, cod_precinct, cod_precincts, has_sizes, head_values, has_great_pid}
use Rattle.codestream_model.specs.Areas.{ceil_div}
use Rattle.codestream_model.specs.Precincts.{IsPrecinct}
use Rattle.codestream_model.specs.PacketOrder.{pid}
use Rattle.codestream_model.specs.HeadLimits.{IsStep, HasSamples, IsWithinLimits}
use Rattle.codestream_model.specs.MainHeader.{content_tests, Passes, IsMainSegment, StartsWithSiz, SpellsHead}
use Rattle.codestream_model.specs.MainHeaderLaws.{HeaderIsWithinLimits}
use Rattle.codestream_model.proofs.TestLists.{checks}
use Rattle.codestream_model.proofs.SegmentBytes.{segments-append, length-segment}
use Rattle.codestream_model.proofs.Numbers.{great_pids_are_found}

-- the content of a segment that is among sound ones meets no condition
content_sound : (m : ℕ) (main : List Segment) → AllByRecursion IsMainSegment main → stands m main ≡ true → Passes (content_tests m (content_of m main))
content_sound m [] each e = absurd (cc)
content_sound m (s ∷ main) each e = elim (cases_Bool (s.marker == m)) [
  | inl here ↦ rw here (let P : ℕ → Type 0 = λ k. Passes (content_tests k s.content) in subst P (eqb-true s.marker m here) each.0.content)
  | inr not_here ↦ rw not_here (content_sound m main each.1 (elim (or_cases (s.marker == m) (stands m main) e) [ inl here ↦ absurd (cc) | inr there ↦ there ]))
]

-- SIZ is among segments where it is first and there are any
siz_stands : (main : List Segment) → StartsWithSiz main → stands CAP main ≡ true → stands SIZ main ≡ true
siz_stands [] first e = absurd (cc)
siz_stands (s ∷ main) first e = or_left (s.marker == SIZ) (stands SIZ main) (rw first refl)

-- parts of bytes are bytes
left_bytes : (xs ys : List ℕ) → IsBytes (xs ++ ys) → IsBytes xs
left_bytes xs ys fits i = elim (cases_lt i (length xs)) [
  | inl h ↦ rw (← get_or_append_left xs ys 0 i h) (fits i)
  | inr h ↦ rw (get_or_past xs i 0 h) (let e : 0 < 256 = omega arith in e)
]

-- and so are those after them
right_bytes : (xs ys : List ℕ) → IsBytes (xs ++ ys) → IsBytes ys
right_bytes xs ys fits i = rw (← get_or-append-add xs ys i 0) (fits (length xs + i))

-- and the content of a segment
content_bytes : (m : ℕ) (main : List Segment) → IsBytes (segments_bytes main) → IsBytes (content_of m main)
content_bytes m [] fits = fits
content_bytes m (s ∷ main) fits = elim (cases_Bool (s.marker == m)) [
  | inl here ↦ rw here (λ i. left_bytes (segment_bytes s) (segments_bytes main) fits (suc (suc (suc (suc i)))))
  | inr not_here ↦ rw not_here (content_bytes m main (right_bytes (segment_bytes s) (segments_bytes main) fits))
]

-- no item passes a test that none passes
none_passes : {X : Type 0} (test : X → Bool) (xs : List X) → list_any test xs ≡ false → AllByRecursion (λ x. test x ≡ false) xs
none_passes test [] e = tt
none_passes test (x ∷ xs) e = let p = or_parts (test x) (list_any test xs) e in (p.0, none_passes test xs p.1)

-- the same by places
none_pass : {X : Type 0} (test : X → Bool) (xs : List X) → list_any test xs ≡ false → All (λ x. test x ≡ false) xs
none_pass test xs e = All-from_recursion (λ x. test x ≡ false) xs (none_passes test xs e)

-- what is not 0 is more
positive : (x : ℕ) → (x == 0) ≡ false → 0 < x
positive x e = let ne : x ≢ 0 = eqb-false x 0 e in omega arith

-- what SIZ gives
record SizFacts (c : List ℕ) : Type 0 where
  some : 1 ≤ csiz c
  few : csiz c ≤ 16
  x_end : xsiz c < 2 ^ 31
  y_end : ysiz c < 2 ^ 31
  wide : xosiz c < xsiz c
  high : yosiz c < ysiz c
  no_zero : list_any (λ step. step.x == 0 || step.y == 0) (siz_steps c) ≡ false
  no_empty : list_any (is_empty c) (siz_steps c) ≡ false

-- SIZ that meets no condition gives them
siz_facts : (c : List ℕ) → Passes (siz_tests c) → SizFacts c
unfolding siz_tests
siz_facts c e =
    let k = checks (siz_tests c) e in
    let k4 = k.1.1.1.1 in
    let k8 = k4.1.1.1.1 in
    let k12 = k8.1.1.1.1 in
    record {
      some = positive (csiz c) k.0;
      few = ltb-false 16 (csiz c) k.1.0;
      x_end = leb-false (2 ^ 31) (xsiz c) k4.0;
      y_end = leb-false (2 ^ 31) (ysiz c) k4.1.0;
      wide = leb-false (xsiz c) (xosiz c) k4.1.1.0;
      high = leb-false (ysiz c) (yosiz c) k4.1.1.1.0;
      no_zero = k12.0;
      no_empty = k12.1.0;
    }

-- its steps are steps
steps_are : (c : List ℕ) → IsBytes c → SizFacts c → All IsStep (siz_steps c)
steps_are c fits f =
    let small : All (λ step. (step.x < 256) × (step.y < 256)) (siz_steps c) = All-map (λ (step : Pair). (step.x < 256) × (step.y < 256)) (λ i. record { x = slice_index c (37 + 3 * i); y = slice_index c (38 + 3 * i) }) (range_with_len 0 (csiz c)) (λ k d lt. (fits (37 + 3 * get_or (range_with_len 0 (csiz c)) k d), fits (38 + 3 * get_or (range_with_len 0 (csiz c)) k d))) in
    λ k d lt.
    let step = get_or (siz_steps c) k d in
    let some = or_parts (step.x == 0) (step.y == 0) (none_pass (λ (s : Pair). s.x == 0 || s.y == 0) (siz_steps c) f.no_zero k d lt) in
    let few = small k d lt in
    record { some_x = positive step.x some.0; some_y = positive step.y some.1; few_x = few.0; few_y = few.1 }

-- its components are not empty
components_are : (c : List ℕ) → SizFacts c → All (λ step. (ceil_div (xosiz c) step.x < ceil_div (xsiz c) step.x) × (ceil_div (yosiz c) step.y < ceil_div (ysiz c) step.y)) (siz_steps c)
components_are c f = λ k d lt.
    let step = get_or (siz_steps c) k d in
    let some = or_parts (nat_le (ceil_div (xsiz c) step.x) (ceil_div (xosiz c) step.x)) (nat_le (ceil_div (ysiz c) step.y) (ceil_div (yosiz c) step.y)) (none_pass (is_empty c) (siz_steps c) f.no_empty k d lt) in
    (leb-false (ceil_div (xsiz c) step.x) (ceil_div (xosiz c) step.x) some.0, leb-false (ceil_div (ysiz c) step.y) (ceil_div (yosiz c) step.y) some.1)

-- what COD gives
record CodFacts (c : List ℕ) : Type 0 where
  known_order : (cod_order c ≡ 2) ⊎ (cod_order c ≡ 3)
  few_levels : cod_levels c ≤ 15
  most_x : slice_index c 6 ≤ 8
  most_y : slice_index c 7 ≤ 8
  size : (cod_block c).x + (cod_block c).y ≤ 12
  no_zero : list_any (λ e. e.x == 0 || e.y == 0) (drop 1 (cod_precincts c)) ≡ false

-- a number that isn't neither of two is one of them
one_of_two : (n : ℕ) → not (n == 2 || n == 3) ≡ false → (n ≡ 2) ⊎ (n ≡ 3)
one_of_two n e = elim (eqb_tells n 2) [
  | inl t ↦ inl t.1
  | inr t ↦ elim (eqb_tells n 3) [
    | inl u ↦ inr u.1
    | inr u ↦ let c : true ≡ false = rw (t.0, u.0) at e in absurd (cc)
  ]
]

-- COD that meets no condition gives them
cod_facts : (c : List ℕ) → Passes (cod_tests c) → CodFacts c
unfolding cod_tests
cod_facts c e =
    let k = checks (cod_tests c) e in
    let k5 = k.1.1.1.1 in
    let k7 = k5.1.1 in
    record {
      known_order = one_of_two (cod_order c) k.1.1.0;
      few_levels = ltb-false 15 (cod_levels c) k5.0;
      most_x = ltb-false 8 (slice_index c 6) k7.0;
      most_y = ltb-false 8 (slice_index c 7) k7.1.0;
      size = ltb-false 12 ((cod_block c).x + (cod_block c).y) k7.1.1.0;
      no_zero = k7.1.1.1.1.0;
    }

-- exponents of at most 15
abbrev IsSmall : Pair → Type 0
IsSmall e = (e.x ≤ 15) × (e.y ≤ 15)

-- four bits are at most 15
small_exponents : (t : Bool) (v : ℕ) → v < 256 → IsSmall (if t then record { x = v % 16; y = v / 16 } else record { x = 15; y = 15 })
small_exponents true v fits = (omega arith, omega arith)
small_exponents false v fits = (omega arith, omega arith)

-- each exponent is at most 15
exponents_are : (c : List ℕ) → IsBytes c → All (λ e. (e.x ≤ 15) × (e.y ≤ 15)) (cod_precincts c)
exponents_are c fits = All-map IsSmall (cod_precinct c) (range_with_len 0 (cod_levels c + 1)) (λ k d lt. small_exponents (has_sizes c) (slice_index c (10 + get_or (range_with_len 0 (cod_levels c + 1)) k d)) (fits (10 + get_or (range_with_len 0 (cod_levels c + 1)) k d)))

-- above the lowest resolution each is at least 1
least_exponents : (c : List ℕ) → CodFacts c → All (λ e. (1 ≤ e.x) × (1 ≤ e.y)) (drop 1 (cod_precincts c))
least_exponents c f = λ k d lt.
    let e = get_or (drop 1 (cod_precincts c)) k d in
    let some = or_parts (e.x == 0) (e.y == 0) (none_pass (λ (s : Pair). s.x == 0 || s.y == 0) (drop 1 (cod_precincts c)) f.no_zero k d lt) in
    (positive e.x some.0, positive e.y some.1)

-- what SOT gives
no_great_pid : (main : List Segment) (c : List ℕ) → Passes (tile_tests main c) → has_great_pid (head_values main c 0) ≡ false
unfolding tile_tests
no_great_pid main c e = let k = checks (tile_tests main c) e in k.1.1.1.1.1.0

-- no PID is great where none is found
pids_fit : (h : Head) → length h.steps ≤ 16 → has_great_pid h ≡ false → (p : Place) → IsPrecinct h p → pid h p < 2 ^ 20
pids_fit h few none p a = elim (cases_lt (pid h p) (2 ^ 20)) [
  | inl small ↦ small
  | inr great ↦ let found : has_great_pid h ≡ true = (great_pids_are_found h (omega arith)).1 (p, a, great) in absurd (cc)
]

-- a number in four bytes fits 32 bits
four_fits : (b : List ℕ) (at : ℕ) → IsBytes b → four_at b at < 2 ^ 32
four_fits b at fits = omega (arith, fits at, fits (at + 1), fits (at + 2), fits (at + 2 + 1))

-- the lengths of the parts of a header
length-header : (main : List Segment) (tile : Segment) (skipped : List Segment) → stated_length tile.content ≡ 10 → 2 + length (segments_bytes main) + 14 ≤ length (two_bytes SOC ++ (segments_bytes (main ++ tile ∷ skipped) ++ two_bytes SOD))
length-header main tile skipped ten =
    let all : length (segments_bytes (main ++ tile ∷ skipped) ++ two_bytes SOD) ≡ length (segments_bytes (main ++ tile ∷ skipped)) + 2 = length-append (segments_bytes (main ++ tile ∷ skipped)) (two_bytes SOD) in
    let parts : length (segments_bytes (main ++ tile ∷ skipped)) ≡ length (segments_bytes main) + length (segment_bytes tile ++ segments_bytes skipped) = ap length (segments-append main (tile ∷ skipped)) ∙ length-append (segments_bytes main) (segment_bytes tile ++ segments_bytes skipped) in
    let last : length (segment_bytes tile ++ segments_bytes skipped) ≡ length (segment_bytes tile) + length (segments_bytes skipped) = length-append (segment_bytes tile) (segments_bytes skipped) in
    let twelve : length (segment_bytes tile) ≡ 2 + stated_length tile.content = length-segment tile in
    omega arith

-- the values that segments give
values_within : (main : List Segment) (c : List ℕ) (n : ℕ) → IsBytes (content_of SIZ main) → IsBytes (content_of COD main) → IsBytes c → SizFacts (content_of SIZ main) → CodFacts (content_of COD main) → Passes (tile_tests main c) → 2 + length (segments_bytes main) + 14 ≤ n → n ≤ 8192 → IsWithinLimits (head_values main c n)
values_within main c n siz_fits cod_fits fits f g passed long short =
    let count : length (siz_steps (content_of SIZ main)) ≡ csiz (content_of SIZ main) = length-map (range_with_len 0 (csiz (content_of SIZ main))) (λ (i : ℕ). record { x = slice_index (content_of SIZ main) (37 + 3 * i); y = slice_index (content_of SIZ main) (38 + 3 * i) }) ∙ length-range_with_len 0 (csiz (content_of SIZ main)) in
    let some : 1 ≤ csiz (content_of SIZ main) = f.some in
    let few : csiz (content_of SIZ main) ≤ 16 = f.few in
    let samples = components_are (content_of SIZ main) f in
    let most_x : slice_index (content_of COD main) 6 ≤ 8 = g.most_x in
    let most_y : slice_index (content_of COD main) 7 ≤ 8 = g.most_y in
    let few_steps : length (siz_steps (content_of SIZ main)) ≤ 16 = omega arith in
    record {
      some_component = omega arith;
      few_components = few_steps;
      each_step = steps_are (content_of SIZ main) siz_fits f;
      each_component = λ k d lt. let s = samples k d lt in record { wide = s.0; high = s.1 };
      wide = f.wide;
      high = f.high;
      x_end = f.x_end;
      y_end = f.y_end;
      few_levels = g.few_levels;
      least_block = (omega arith, omega arith);
      most_block = (omega arith, omega arith);
      block_size = g.size;
      each_resolution = length-map (range_with_len 0 (cod_levels (content_of COD main) + 1)) (cod_precinct (content_of COD main)) ∙ length-range_with_len 0 (cod_levels (content_of COD main) + 1);
      most_precinct = exponents_are (content_of COD main) cod_fits;
      least_precinct = least_exponents (content_of COD main) g;
      known_order = g.known_order;
      few_pids = λ p a. pids_fit (head_values main c 0) few_steps (no_great_pid main c passed) p (record { component = a.component; resolution = a.resolution; number = a.number });
      psot_fits = four_fits c 2 fits;
      tile_fits = omega arith;
      sod_fits = long;
      short = short;
    }

-- the values of a header lie within the limits
pub header_is_within_limits : HeaderIsWithinLimits
header_is_within_limits h b fits s =
    let spelt_fits : IsBytes (two_bytes SOC ++ (segments_bytes (s.main ++ s.tile ∷ s.skipped) ++ two_bytes SOD)) = let P : List ℕ → Type 0 = λ l. IsBytes l in subst P s.whole fits in
    let all_fit : IsBytes (segments_bytes (s.main ++ s.tile ∷ s.skipped)) = left_bytes (segments_bytes (s.main ++ s.tile ∷ s.skipped)) (two_bytes SOD) (right_bytes (two_bytes SOC) (segments_bytes (s.main ++ s.tile ∷ s.skipped) ++ two_bytes SOD) spelt_fits) in
    let parts_fit : IsBytes (segments_bytes s.main ++ segments_bytes (s.tile ∷ s.skipped)) = let P : List ℕ → Type 0 = λ l. IsBytes l in subst P (segments-append s.main (s.tile ∷ s.skipped)) all_fit in
    let main_fits : IsBytes (segments_bytes s.main) = left_bytes (segments_bytes s.main) (segments_bytes (s.tile ∷ s.skipped)) parts_fit in
    let rest_fits : IsBytes (segment_bytes s.tile ++ segments_bytes s.skipped) = right_bytes (segments_bytes s.main) (segments_bytes (s.tile ∷ s.skipped)) parts_fit in
    let tile_fits : IsBytes s.tile.content = λ i. left_bytes (segment_bytes s.tile) (segments_bytes s.skipped) rest_fits (suc (suc (suc (suc i)))) in
    let siz : Passes (siz_tests (content_of SIZ s.main)) = content_sound SIZ s.main s.is_main.each (siz_stands s.main s.is_main.starts s.is_tile.has_cap) in
    let cod : Passes (cod_tests (content_of COD s.main)) = content_sound COD s.main s.is_main.each s.is_tile.has_cod in
    let long : 2 + length (segments_bytes s.main) + 14 ≤ length b = rw s.whole (length-header s.main s.tile s.skipped s.is_tile.ten) in
    let P : Head → Type 0 = λ x. IsWithinLimits x in
    subst P (sym s.values) (values_within s.main s.tile.content (length b) (content_bytes SIZ s.main main_fits) (content_bytes COD s.main main_fits) tile_fits (siz_facts (content_of SIZ s.main) siz) (cod_facts (content_of COD s.main) cod) s.is_tile.content long s.short)

-- a main header has components, all of them sampled somewhere
pub record HasComponents (h : Head) : Type 0 where
  pub some : 1 ≤ length h.steps
  pub steps : All (λ step. (0 < step.x) × (0 < step.y)) h.steps
  pub samples : All (HasSamples h) h.steps

-- whatever numbers its bytes are
pub header_has_components : (h : Head) (b : List ℕ) → SpellsHead h b → HasComponents h
header_has_components h b s =
    let siz = content_of SIZ s.main in
    let f = siz_facts siz (content_sound SIZ s.main s.is_main.each (siz_stands s.main s.is_main.starts s.is_tile.has_cap)) in
    let count : length (siz_steps siz) ≡ csiz siz = length-map (range_with_len 0 (csiz siz)) (λ (i : ℕ). record { x = slice_index siz (37 + 3 * i); y = slice_index siz (38 + 3 * i) }) ∙ length-range_with_len 0 (csiz siz) in
    let some : 1 ≤ csiz siz = f.some in
    let samples = components_are siz f in
    let c : HasComponents (head_values s.main s.tile.content (length b)) = record {
      some = omega arith;
      steps = λ k d lt.
          let step = get_or (siz_steps siz) k d in
          let parts = or_parts (step.x == 0) (step.y == 0) (none_pass (λ (t : Pair). t.x == 0 || t.y == 0) (siz_steps siz) f.no_zero k d lt) in
          (positive step.x parts.0, positive step.y parts.1);
      samples = λ k d lt. let t = samples k d lt in record { wide = t.0; high = t.1 };
    } in
    let P : Head → Type 0 = λ x. HasComponents x in
    subst P (sym s.values) c
