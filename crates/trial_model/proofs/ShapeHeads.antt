-- The main header of a shape is accepted.
use Rattle.std.proofs.Common.{◌≡◌, ◌≤◌, ◌<◌, ◌+◌, ◌-◌, ◌*◌, ◌/◌, ◌%◌, ◌^◌, ◌==◌, ◌||◌, ◌⊎◌, ◌++◌, ℕ, zero, suc, Bool, true, false, not, List, [], ◌∷◌, length, map, drop, replicate, refl, sym, ◌∙◌, ap, subst, inl, inr, arith}
use Rattle.std.specs.Prelude.{slice_index, slice_index_or, nat_le, nat_lt}
use Rattle.std.specs.List.{AllByRecursion, flat_map, list_any, range_with_len}
use Rattle.std.proofs.lemmas.Bool.{cases_Bool, ne_eqb, eq-eqb, eqb-true, le-ltb, lt-leb}
use Rattle.std.proofs.lemmas.List.{length-append, length-map, length-replicate, get_or-replicate}
use Rattle.std.proofs.lemmas.List.FromFn.{length-range_with_len}
use Rattle.std.proofs.lemmas.Nat.{mul-le}
use Rattle.codestream_model.specs.Values.{Pair, Head}
use Rattle.codestream_model.specs.Areas.{ceil_div}
use Rattle.codestream_model.specs.PacketOrder.{precincts_below}
use Rattle.codestream_model.specs.Bytes.{two_bytes}
use Rattle.codestream_model.specs.Segments.{SOC, SIZ, CAP, COD, QCD, COM, SOT, SOD, Segment, stated_length, segment_bytes, segments_bytes}
use Rattle.codestream_model.specs.SegmentTests.{xsiz, ysiz, xosiz, yosiz, xtsiz, ytsiz, xtosiz, ytosiz, csiz, siz_steps, is_empty, siz_tests, cap_tests, scod, cod_levels, cod_precinct, cod_precincts, has_sizes, cod_tests, head_values, pids_end, has_great_pid, tile_tests}
use Rattle.codestream_model.specs.MainHeader.{stands_once, count_of, Passes, IsMainPart, IsTileStart}
use Rattle.codestream_model.proofs.TestLists.{passes}
use Rattle.codestream_model.proofs.SegmentBytes.{length-front, segments-push}
use Rattle.trial_model.specs.Generator.{Shape, shape_step, step_bytes, siz_content, cod_content, qcd_content, com_content, sot_content, shape_segments, shape_header, shape_head}
use Rattle.trial_model.specs.GeneratorLaws.{IsShape, ShapeHeadersAreAccepted}
use Rattle.trial_model.proofs.Precincts.{IsPlain, sizes, few_of_component}

-- A step of 1 or 2 each way.
abbrev IsStep : Pair → Type 0
IsStep step = (1 ≤ step.x) × (step.x ≤ 2) × (1 ≤ step.y) × (step.y ≤ 2)

step_is : (shape : Shape) → IsShape shape → (c : ℕ) → IsStep (shape_step shape c)
step_is shape is c = elim (cases_Bool ((c == 1) || (c == 2))) [
  | inl t ↦ rw t (is.chroma_x.0, is.chroma_x.1, is.chroma_y.0, is.chroma_y.1)
  | inr f ↦ rw f (omega arith, omega arith, omega arith, omega arith)
]

-- The steps are read from SIZ as they are written.
one_to_four : (n : ℕ) → 1 ≤ n → n ≤ 4 → (n ≡ 1) ⊎ ((n ≡ 2) ⊎ ((n ≡ 3) ⊎ (n ≡ 4)))
one_to_four zero some few = absurd (omega (arith, some))
one_to_four (suc zero) some few = inl refl
one_to_four (suc (suc zero)) some few = inr (inl refl)
one_to_four (suc (suc (suc zero))) some few = inr (inr (inl refl))
one_to_four (suc (suc (suc (suc zero)))) some few = inr (inr (inr refl))
one_to_four (suc (suc (suc (suc (suc n))))) some few = absurd (omega (arith, few))

abbrev shape_steps : Shape → List Pair
shape_steps shape = map (shape_step shape) (range_with_len 0 shape.components)

steps_are : (shape : Shape) → IsShape shape → siz_steps (siz_content shape) ≡ shape_steps shape
steps_are shape is = elim (one_to_four shape.components is.some_component is.few_components) [
  | inl e ↦ rw e refl
  | inr (inl e) ↦ rw e refl
  | inr (inr (inl e)) ↦ rw e refl
  | inr (inr (inr e)) ↦ rw e refl
]

-- What holds of a function's values holds of those at numbers in a row.
each_value : {X : Type 0} (P : X → Type 0) (f : ℕ → X) (from n : ℕ) → ((c : ℕ) → P (f c)) → AllByRecursion P (map f (range_with_len from n))
each_value P f from zero each = tt
each_value P f from (suc n) each = (each from, each_value P f (from + 1) n each)

picked : {X : Type 0} (P : X → Type 0) (xs : List X) (i : ℕ) (d : X) → AllByRecursion P xs → P d → P (slice_index_or xs i d)
picked P [] i d all is = is
picked P (x ∷ xs) zero d all is = all.0
picked P (x ∷ xs) (suc i) d all is = picked P xs i d all.1 is

none_passes : {X : Type 0} (test : X → Bool) (f : ℕ → X) (from n : ℕ) → ((c : ℕ) → test (f c) ≡ false) → list_any test (map f (range_with_len from n)) ≡ false
none_passes test f from zero each = refl
none_passes test f from (suc n) each = rw (each from) (none_passes test f (from + 1) n each)

none_within : (test : ℕ → Bool) (from n : ℕ) → ((c : ℕ) → c < from + n → test c ≡ false) → list_any test (range_with_len from n) ≡ false
none_within test from zero each = refl
none_within test from (suc n) each = rw (each from (omega arith)) (none_within test (from + 1) n (λ c less. each c (omega (arith, less))))

none_repeated : {X : Type 0} (test : X → Bool) (n : ℕ) (x : X) → test x ≡ false → list_any test (replicate n x) ≡ false
none_repeated test zero x fails = refl
none_repeated test (suc n) x fails = rw fails (none_repeated test n x fails)

-- The length of SIZ.
steps_length : (shape : Shape) (from n : ℕ) → length (flat_map (λ c. step_bytes (shape_step shape c)) (range_with_len from n)) ≡ 3 * n
steps_length shape from zero = refl
steps_length shape from (suc n) = omega (arith, steps_length shape (from + 1) n)

siz_length : (shape : Shape) → length (siz_content shape) ≡ 36 + 3 * shape.components
siz_length shape = omega (arith, steps_length shape 0 shape.components)

-- A component has samples.
some_sample : (a w s : ℕ) → a ≡ 0 → 1 ≤ w → 1 ≤ s → s ≤ 2 → ceil_div a s < ceil_div w s
some_sample a w zero none some least most = absurd (omega (arith, least))
some_sample a w (suc zero) none some least most = omega (arith, none, some)
some_sample a w (suc (suc zero)) none some least most = omega (arith, none, some)
some_sample a w (suc (suc (suc s))) none some least most = absurd (omega (arith, most))

-- SIZ is sound.
siz_passes : (shape : Shape) → IsShape shape → Passes (siz_tests (siz_content shape))
unfolding siz_tests
siz_passes shape is =
    let c = siz_content shape in
    let x : xsiz c ≡ shape.width = omega (arith, is.most_width) in
    let y : ysiz c ≡ shape.height = omega (arith, is.most_height) in
    let tile_x : xtsiz c ≡ shape.width = omega (arith, is.most_width) in
    let tile_y : ytsiz c ≡ shape.height = omega (arith, is.most_height) in
    let left : xosiz c ≡ 0 = refl in
    let top : yosiz c ≡ 0 = refl in
    let n : csiz c ≡ shape.components = omega (arith, is.few_components) in
    let size : stated_length c ≡ 38 + 3 * csiz c = omega (arith, siz_length shape, n) in
    let steps = steps_are shape is in
    let zero_step : Pair → Bool = λ step. step.x == 0 || step.y == 0 in
    let some_steps : (k : ℕ) → zero_step (shape_step shape k) ≡ false = λ k.
    let s = step_is shape is k in
    rw (ne_eqb (shape_step shape k).x 0 (λ e. omega (arith, e, s.0)), ne_eqb (shape_step shape k).y 0 (λ e. omega (arith, e, s.2))) refl in
    let some_samples : (k : ℕ) → is_empty c (shape_step shape k) ≡ false = λ k.
    let s = step_is shape is k in
    let step = shape_step shape k in
    rw (
      lt-leb (ceil_div (xsiz c) step.x) (ceil_div (xosiz c) step.x) (some_sample (xosiz c) (xsiz c) step.x left (omega (arith, x, is.some_width)) s.0 s.1),
      lt-leb (ceil_div (ysiz c) step.y) (ceil_div (yosiz c) step.y) (some_sample (yosiz c) (ysiz c) step.y top (omega (arith, y, is.some_height)) s.2 s.3),
    ) refl in
    passes (siz_tests c) (
      ne_eqb (csiz c) 0 (λ e. omega (arith, e, n, is.some_component)),
      (
        le-ltb 16 (csiz c) (omega (arith, n, is.few_components)),
        (
          rw (eq-eqb (stated_length c) (38 + 3 * csiz c) size) refl,
          (
            refl,
            (
              lt-leb (2 ^ 31) (xsiz c) (omega (arith, x, is.most_width)),
              (
                lt-leb (2 ^ 31) (ysiz c) (omega (arith, y, is.most_height)),
                (
                  lt-leb (xsiz c) (xosiz c) (omega (arith, x, is.some_width)),
                  (
                    lt-leb (ysiz c) (yosiz c) (omega (arith, y, is.some_height)),
                    (
                      refl,
                      (
                        refl,
                        (
                          le-ltb (xtosiz c + xtsiz c) (xsiz c) (omega (arith, x, tile_x)),
                          (
                            le-ltb (ytosiz c + ytsiz c) (ysiz c) (omega (arith, y, tile_y)),
                            (
                              ap (list_any zero_step) steps ∙ none_passes zero_step (shape_step shape) 0 shape.components some_steps,
                              (
                                ap (list_any (is_empty c)) steps ∙ none_passes (is_empty c) (shape_step shape) 0 shape.components some_samples,
                                tt,
                              ),
                            ),
                          ),
                        ),
                      ),
                    ),
                  ),
                ),
              ),
            ),
          ),
        ),
      ),
    )

-- The precinct sizes are read from COD as they are written.
abbrev eight : Pair
eight = record { x = 8; y = 8 }

size_above : (shape : Shape) (r : ℕ) → 0 < r → r < 1 + shape.levels → cod_precinct (cod_content shape) r ≡ eight
size_above shape zero some less = absurd (omega (arith, some))
size_above shape (suc k) some less =
    let at : 10 + suc k ≡ suc (suc (suc (suc (suc (suc (suc (suc (suc (suc (suc k)))))))))) = omega arith in
    let here : slice_index (cod_content shape) (10 + suc k) ≡ 0x88 = ap (slice_index (cod_content shape)) at ∙ get_or-replicate shape.levels k 0x88 0 (omega (arith, less)) in
    elim (cases_Bool shape.eph) [
      | inl t ↦ rw (here, t) refl
      | inr f ↦ rw (here, f) refl
    ]

all_above : (shape : Shape) (from n : ℕ) → 0 < from → from + n ≤ 1 + shape.levels → map (cod_precinct (cod_content shape)) (range_with_len from n) ≡ replicate n eight
all_above shape from zero some low = refl
all_above shape from (suc n) some low =
    rw (size_above shape from some (omega (arith, low))) (ap (λ (l : List Pair). eight ∷ l) (all_above shape (from + 1) n (omega (arith, some)) (omega (arith, low))))

lowest : (shape : Shape) → cod_precinct (cod_content shape) 0 ≡ record { x = 7; y = 7 }
lowest shape = elim (cases_Bool shape.eph) [ inl t ↦ rw t refl | inr f ↦ rw f refl ]

sizes_are : (shape : Shape) → cod_precincts (cod_content shape) ≡ sizes shape.levels
sizes_are shape =
    let more : shape.levels + 1 ≡ suc shape.levels = omega arith in
    ap (λ (n : ℕ). map (cod_precinct (cod_content shape)) (range_with_len 0 n)) more
    ∙ ap (λ (p : Pair). p ∷ map (cod_precinct (cod_content shape)) (range_with_len 1 shape.levels)) (lowest shape)
    ∙ ap (λ (l : List Pair). let first : Pair = record { x = 7; y = 7 } in first ∷ l) (all_above shape 1 shape.levels (omega arith) (omega arith))

-- The length of COD.
cod_length : (shape : Shape) → length (cod_content shape) ≡ 11 + shape.levels
cod_length shape = omega (arith, length-replicate {A = ℕ} shape.levels 0x88)

-- COD is sound.
known_order : (n : ℕ) → (n ≡ 2) ⊎ (n ≡ 3) → not (n == 2 || n == 3) ≡ false
known_order n (inl e) = rw e refl
known_order n (inr e) = rw e refl

no_zero : (shape : Shape) → list_any (λ (e : Pair). e.x == 0 || e.y == 0) (drop 1 (cod_precincts (cod_content shape))) ≡ false
no_zero shape =
    ap (λ (l : List Pair). list_any (λ (e : Pair). e.x == 0 || e.y == 0) (drop 1 l)) (sizes_are shape)
    ∙ none_repeated (λ (e : Pair). e.x == 0 || e.y == 0) shape.levels eight refl

sizes_given : (shape : Shape) → has_sizes (cod_content shape) ≡ true
sizes_given shape = elim (cases_Bool shape.eph) [ inl t ↦ rw t refl | inr f ↦ rw f refl ]

cod_passes : (shape : Shape) → IsShape shape → Passes (cod_tests (cod_content shape))
unfolding cod_tests
cod_passes shape is =
    let c = cod_content shape in
    let size : stated_length c ≡ 13 + cod_levels c = omega (arith, cod_length shape) in
    let style : nat_le 8 (scod c) ≡ false = elim (cases_Bool shape.eph) [ inl t ↦ rw t refl | inr f ↦ rw f refl ] in
    let no_sop : (scod c / 2 % 2 == 1) ≡ false = elim (cases_Bool shape.eph) [ inl t ↦ rw t refl | inr f ↦ rw f refl ] in
    passes (cod_tests c) (
      style,
      (
        no_sop,
        (
          known_order shape.order is.order,
          (
            refl,
            (
              le-ltb 15 shape.levels is.few_levels,
              (
                rw (sizes_given shape) (rw (eq-eqb (stated_length c) (13 + cod_levels c) size) refl),
                (
                  refl,
                  (
                    refl,
                    (
                      refl,
                      (
                        refl,
                        (
                          no_zero shape,
                          tt,
                        ),
                      ),
                    ),
                  ),
                ),
              ),
            ),
          ),
        ),
      ),
    )

-- The values of the header.
shape_values : Shape → ℕ → ℕ → Head
shape_values shape psot n = head_values (shape_segments shape) (sot_content psot) n

plain_values : (shape : Shape) (psot n : ℕ) → IsShape shape → IsPlain (head_values (shape_segments shape) (sot_content psot) n)
plain_values shape psot n is = record {
  left = refl;
  top = refl;
  wide = omega (arith, is.most_width);
  high = omega (arith, is.most_height);
  few =
      omega (
        arith,
        ap length (steps_are shape is),
        length-map (range_with_len 0 shape.components) (shape_step shape),
        length-range_with_len 0 shape.components,
        is.few_components,
      );
  some_step = λ c.
      let P : List Pair → Type 0 = λ l. IsStep (slice_index_or l c (record { x = 1; y = 1 })) in
      let all = each_value IsStep (shape_step shape) 0 shape.components (step_is shape is) in
      let s = subst P (sym (steps_are shape is)) (picked IsStep (shape_steps shape) c (record { x = 1; y = 1 }) all (omega arith, omega arith, omega arith, omega arith)) in
      (s.0, s.2);
  few_levels = is.few_levels;
  block = refl;
  precincts = sizes_are shape;
}

pub plain_head : (shape : Shape) (psot : ℕ) → IsShape shape → IsPlain (shape_head shape psot)
plain_head shape psot is = plain_values shape psot (length (shape_header shape psot)) is

-- No PID is great.
low_pids : (h : Head) → IsPlain h → has_great_pid h ≡ false
low_pids h plain = none_within (λ c. nat_lt (2 ^ 20) (pids_end h c)) 0 (length h.steps) (λ c less.
    let count = few_of_component h c plain in
    let product = mul-le (precincts_below h c (h.levels + 1) - 1) (length h.steps) 16384 4 (omega (arith, count)) plain.few in
    le-ltb (2 ^ 20) (pids_end h c) (omega (arith, product, less, plain.few)))

-- SOT is sound.
qcd_length : (shape : Shape) → length (qcd_content shape) ≡ 2 + 3 * shape.levels
qcd_length shape = omega (arith, length-replicate {A = ℕ} (3 * shape.levels + 1) 0x48)

tile_passes : (shape : Shape) (psot : ℕ) → IsShape shape → Passes (tile_tests (shape_segments shape) (sot_content psot))
unfolding tile_tests
tile_passes shape psot is =
    let c = qcd_content shape in
    let size : stated_length c ≡ 4 + 3 * shape.levels = omega (arith, qcd_length shape) in
    passes (tile_tests (shape_segments shape) (sot_content psot)) (
      refl,
      (
        refl,
        (
          refl,
          (
            refl,
            (
              rw (eq-eqb (stated_length c) (4 + 3 * shape.levels) size) refl,
              (
                low_pids (head_values (shape_segments shape) (sot_content psot) 0) (plain_values shape psot 0 is),
                tt,
              ),
            ),
          ),
        ),
      ),
    )

-- The segments before SOT are sound.
once : (shape : Shape) (m : ℕ) → stands_once m ≡ true → count_of m (shape_segments shape) ≤ 1
once shape m e =
    let P : ℕ → Type 0 = λ k. count_of k (shape_segments shape) ≤ 1 in
    elim (cases_Bool (m == SIZ)) [
      | inl t ↦ subst P (sym (eqb-true m SIZ t)) (omega arith)
      | inr siz ↦ elim (cases_Bool (m == CAP)) [
        | inl t ↦ subst P (sym (eqb-true m CAP t)) (omega arith)
        | inr cap ↦ elim (cases_Bool (m == COD)) [
          | inl t ↦ subst P (sym (eqb-true m COD t)) (omega arith)
          | inr cod ↦ elim (cases_Bool (m == QCD)) [
            | inl t ↦ subst P (sym (eqb-true m QCD t)) (omega arith)
            | inr qcd ↦ let none : false ≡ true = rw (siz, cap, cod, qcd) at e in absurd (cc)
          ]
        ]
      ]
    ]

main_part : (shape : Shape) → IsShape shape → IsMainPart (shape_segments shape)
unfolding cap_tests
main_part shape is = record {
  starts = refl;
  once = once shape;
  each = (
    record { known = refl; fits = omega (arith, siz_length shape, is.few_components); least = omega (arith, siz_length shape, is.some_component); content = siz_passes shape is },
    (
      record { known = refl; fits = omega arith; least = omega arith; content = refl },
      (
        record { known = refl; fits = omega (arith, cod_length shape, is.few_levels); least = omega (arith, cod_length shape); content = cod_passes shape is },
        (
          record { known = refl; fits = omega (arith, qcd_length shape, is.few_levels); least = omega (arith, qcd_length shape); content = refl },
          (record { known = refl; fits = omega arith; least = omega arith; content = refl }, tt),
        ),
      ),
    ),
  );
}

tile_start : (shape : Shape) (psot : ℕ) → IsShape shape → IsTileStart (shape_segments shape) (record { marker = SOT; content = sot_content psot })
tile_start shape psot is = record { is_sot = refl; ten = refl; has_cap = refl; has_cod = refl; has_qcd = refl; content = tile_passes shape psot is }

-- The header as segments.
header_is : (shape : Shape) (psot : ℕ)
    → shape_header shape psot ≡ two_bytes SOC ++ (segments_bytes (shape_segments shape ++ record { marker = SOT; content = sot_content psot } ∷ []) ++ two_bytes SOD)
header_is shape psot =
    let tile : Segment = record { marker = SOT; content = sot_content psot } in
    ap (λ (b : List ℕ). two_bytes SOC ++ (b ++ two_bytes SOD)) (sym (segments-push (shape_segments shape) tile))

-- Its length.
main_length : (shape : Shape) → length (segments_bytes (shape_segments shape)) ≡ 81 + 3 * shape.components + 4 * shape.levels
main_length shape =
    let siz : Segment = record { marker = SIZ; content = siz_content shape } in
    let cap : Segment = record { marker = CAP; content = 0 ∷ 2 ∷ 0 ∷ 0 ∷ 0 ∷ 0 ∷ [] } in
    let cod : Segment = record { marker = COD; content = cod_content shape } in
    let qcd : Segment = record { marker = QCD; content = qcd_content shape } in
    let note : Segment = record { marker = COM; content = com_content } in
    omega (
      arith,
      length-front siz (segments_bytes (cap ∷ cod ∷ qcd ∷ note ∷ [])),
      length-front cap (segments_bytes (cod ∷ qcd ∷ note ∷ [])),
      length-front cod (segments_bytes (qcd ∷ note ∷ [])),
      length-front qcd (segments_bytes (note ∷ [])),
      siz_length shape,
      cod_length shape,
      qcd_length shape,
    )

pub header_length : (shape : Shape) (psot : ℕ) → IsShape shape → length (shape_header shape psot) ≤ 8192
header_length shape psot is =
    let tile : Segment = record { marker = SOT; content = sot_content psot } in
    omega (
      arith,
      length-append (segments_bytes (shape_segments shape) ++ segment_bytes tile) (two_bytes SOD),
      length-append (segments_bytes (shape_segments shape)) (segment_bytes tile),
      main_length shape,
      is.few_components,
      is.few_levels,
    )

pub shape_headers_are_accepted : ShapeHeadersAreAccepted
shape_headers_are_accepted shape psot is small = record {
  main = shape_segments shape;
  tile = record { marker = SOT; content = sot_content psot };
  skipped = [];
  whole = header_is shape psot;
  short = header_length shape psot is;
  is_main = main_part shape is;
  is_tile = tile_start shape psot is;
  is_skipped = tt;
  values = refl;
}
