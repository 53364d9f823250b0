-- The header that our writer gives code-blocks says them.
use Rattle.std.proofs.Common.{◌≡◌, ◌≢◌, ◌≤◌, ◌+◌, ◌/◌, ◌^◌, ◌==◌, ◌&&◌, ℕ, min, Bool, true, false, List, [], ◌∷◌, ◌++◌, map, refl, sym, ◌∙◌, ap, subst, inl, inr, arith, if◌then◌else◌}
use Rattle.std.specs.List.{AllByRecursion, filter, flat_map, list_any}
use Rattle.std.proofs.lemmas.Bool.{and_parts}
use Rattle.std.proofs.lemmas.Bool.Decides.{eqb_tells}
use Rattle.std.proofs.Math.Nat.{div-one, pow-le-pow_right}
use Rattle.codestream_model.specs.Values.{Grid, Block}
use Rattle.codestream_model.specs.TagTrees.{Seat, seats, seat_of, label, exponent, is_below, least, least_inclusion, least_planes}
use Rattle.codestream_model.specs.HeaderPieces.{stands_at}
use Rattle.codestream_model.specs.PacketHeader.{HaveOwnBands, is_included, IsWithinLimits, LabelsInclusion, LabelsPlanes, FitLengths, least_lblock, first_lblock, lblock_at, least_choices}
use Rattle.codestream_model.specs.PacketLaws.{WrittenIsHeader}
use Rattle.codestream_model.proofs.TreeLemmas.{either, above, equal_number, same_number, and_false, AreDistinct}
use Rattle.codestream_model.proofs.SeatLemmas.{all-append, all-map, all-filter, seats_distinct, eqb_sym, stands_here}
use Rattle.codestream_model.proofs.BandLemmas.{band_of_seats, other_bands}
use Rattle.codestream_model.proofs.ExponentLemmas.{exponent_is_least}

-- what lies below a node lies below its parent
below_up : (band level : ℕ) (s : Seat) (b : Block) → is_below band level (s.col / 2 ^ level) (s.row / 2 ^ level) b ≡ true → is_below band (level + 1) (s.col / 2 ^ (level + 1)) (s.row / 2 ^ (level + 1)) b ≡ true
below_up band level s b e =
    let p = and_parts (b.band == band) ((b.col / 2 ^ level == s.col / 2 ^ level) && (b.row / 2 ^ level == s.row / 2 ^ level)) e in
    let q = and_parts (b.col / 2 ^ level == s.col / 2 ^ level) (b.row / 2 ^ level == s.row / 2 ^ level) p.1 in
    let c = above b.col s.col level (equal_number (b.col / 2 ^ level) (s.col / 2 ^ level) q.0) in
    let r = above b.row s.row level (equal_number (b.row / 2 ^ level) (s.row / 2 ^ level) q.1) in
    rw (p.0, c, r, same_number (s.col / 2 ^ (level + 1)), same_number (s.row / 2 ^ (level + 1))) refl

-- one that passes a test passes a weaker one
any_weaker : (p q : Block → Bool) (xs : List Block) → ((x : Block) → p x ≡ true → q x ≡ true) → list_any p xs ≡ true → list_any q xs ≡ true
any_weaker p q [] f e = e
any_weaker p q (x ∷ xs) f e = elim (either (p x)) [
  | inl t ↦ rw (f x t) refl
  | inr t ↦
      let g : list_any p xs ≡ true = rw t at e in
      let h = any_weaker p q xs f g in
      elim (either (q x)) [ inl u ↦ rw u refl | inr u ↦ rw u h ]
]

-- the least of more is no greater
least_weaker : (p q : Block → Bool) (xs : List Block) → ((x : Block) → p x ≡ true → q x ≡ true) → least (map (λ b. b.planes) (filter q xs)) ≤ least (map (λ b. b.planes) (filter p xs))
least_weaker p q [] f = omega arith
least_weaker p q (x ∷ xs) f = elim (either (p x)) [
  | inl t ↦ rw (t, f x t) (omega (arith, least_weaker p q xs f))
  | inr t ↦ elim (either (q x)) [
    | inl u ↦ rw (t, u) (omega (arith, least_weaker p q xs f))
    | inr u ↦ rw (t, u) (least_weaker p q xs f)
  ]
]

-- below a leaf lies what is there
below_leaf : (s : Seat) (b : Block) → is_below s.band 0 (s.col / 2 ^ 0) (s.row / 2 ^ 0) b ≡ stands_at s b
below_leaf s b = rw (div-one b.col, div-one s.col, div-one b.row, div-one s.row) refl

any_same : (p q : Block → Bool) (xs : List Block) → ((x : Block) → p x ≡ q x) → list_any p xs ≡ list_any q xs
any_same p q [] f = refl
any_same p q (x ∷ xs) f = rw (f x, any_same p q xs f) refl

filter_same : (p q : Block → Bool) (xs : List Block) → ((x : Block) → p x ≡ q x) → filter p xs ≡ filter q xs
filter_same p q [] f = refl
filter_same p q (x ∷ xs) f = rw (f x, filter_same p q xs f) refl

-- the least labels of inclusion
written_inclusion : (blocks : List Block) (g : Grid) → LabelsInclusion blocks (least_inclusion blocks g.band) g
written_inclusion blocks g = record {
  never_falls = λ s level i h. elim (either (list_any (is_below g.band level (s.col / 2 ^ level) (s.row / 2 ^ level)) blocks)) [
    | inl t ↦
        let u = any_weaker (is_below g.band level (s.col / 2 ^ level) (s.row / 2 ^ level)) (is_below g.band (level + 1) (s.col / 2 ^ (level + 1)) (s.row / 2 ^ (level + 1))) blocks (below_up g.band level s) t in
        rw (t, u) (omega arith)
    | inr t ↦ elim (either (list_any (is_below g.band (level + 1) (s.col / 2 ^ (level + 1)) (s.row / 2 ^ (level + 1))) blocks)) [
      | inl u ↦ rw (t, u) (omega arith)
      | inr u ↦ rw (t, u) (omega arith)
    ]
  ];
  leaves = λ s i.
      let e : list_any (is_below s.band 0 (s.col / 2 ^ 0) (s.row / 2 ^ 0)) blocks ≡ is_included blocks s = any_same (is_below s.band 0 (s.col / 2 ^ 0) (s.row / 2 ^ 0)) (stands_at s) blocks (below_leaf s) in
      let P : ℕ → Type 0 = λ k. label (least_inclusion blocks k) 0 s ≡ (if is_included blocks s then 0 else 1) in
      subst P i.band (ap (λ (x : Bool). if x then 0 else 1) e);
}

-- each of the code-blocks is alone at its position
abbrev pub StandAlone : List Block → Type 0
StandAlone blocks = AllByRecursion (λ (b : Block). filter (stands_at (seat_of b)) blocks ≡ b ∷ []) blocks

-- a leaf has the zero bit-planes of the one that is there
planes_leaves : (blocks : List Block) (g : Grid) (xs : List Block) → AllByRecursion (λ (b : Block). filter (stands_at (seat_of b)) blocks ≡ b ∷ []) xs → AllByRecursion IsWithinLimits xs
    → AllByRecursion (λ (b : Block). b.band ≡ g.band → label (least_planes blocks g.band) 0 (seat_of b) ≡ b.planes) xs
planes_leaves blocks g [] a l = tt
planes_leaves blocks g (b ∷ xs) a l = (
  λ e.
      let f : filter (is_below b.band 0 (b.col / 2 ^ 0) (b.row / 2 ^ 0)) blocks ≡ b ∷ [] =
      filter_same (is_below b.band 0 (b.col / 2 ^ 0) (b.row / 2 ^ 0)) (stands_at (seat_of b)) blocks (below_leaf (seat_of b)) ∙ a.0 in
      let small : min b.planes 74 ≡ b.planes = omega (arith, l.0.planes) in
      let here : label (least_planes blocks b.band) 0 (seat_of b) ≡ b.planes = ap (λ (ys : List Block). least (map (λ x. x.planes) ys)) f ∙ small in
      let P : ℕ → Type 0 = λ k. label (least_planes blocks k) 0 (seat_of b) ≡ b.planes in
      subst P e here,
  planes_leaves blocks g xs a.1 l.1,
)

-- the labels of the value tree
written_planes : (blocks : List Block) (g : Grid) → StandAlone blocks → AllByRecursion IsWithinLimits blocks → LabelsPlanes blocks (least_planes blocks g.band) g
written_planes blocks g alone limits = record {
  never_falls = λ s level i h. least_weaker (is_below g.band level (s.col / 2 ^ level) (s.row / 2 ^ level)) (is_below g.band (level + 1) (s.col / 2 ^ (level + 1)) (s.row / 2 ^ (level + 1))) blocks (below_up g.band level s);
  leaves = planes_leaves blocks g blocks alone limits;
}

-- two positions are one
abbrev pub same_seat : Seat → Seat → Bool
same_seat s t = (t.band == s.band) && ((t.col == s.col) && (t.row == s.row))

-- or two
abbrev pub IsApart : Seat → Seat → Type 0
IsApart s t = (same_seat s t ≡ false) × (same_seat t s ≡ false)

abbrev pub AreApart : List Seat → Type 0
AreApart [] = Unit {0}
AreApart (s ∷ more) = AllByRecursion (IsApart s) more × AreApart more

-- distinct positions of a grid are apart
distinct_apart : (xs : List Seat) → AreDistinct xs → AreApart xs
distinct_apart [] d = tt
distinct_apart (s ∷ xs) d = (
  all-map (λ (t : Seat). ((t.col == s.col) && (t.row == s.row)) ≡ false) (IsApart s) xs
      (λ t e. (
        ap (λ (x : Bool). (t.band == s.band) && x) e ∙ and_false (t.band == s.band),
        ap (λ (x : Bool). (s.band == t.band) && x) (rw (eqb_sym s.col t.col, eqb_sym s.row t.row) e) ∙ and_false (s.band == t.band),
      )) d.0,
  distinct_apart xs d.1,
)

-- positions of different bands are apart
bands_apart : (s : Seat) (band : ℕ) (ys : List Seat) → s.band ≡ band → AllByRecursion (λ (t : Seat). t.band ≢ band) ys → AllByRecursion (IsApart s) ys
bands_apart s band [] e a = tt
bands_apart s band (t ∷ ys) e a =
    let one : (t.band == s.band) ≡ false = elim (eqb_tells t.band s.band) [ inl u ↦ absurd (a.0 (u.1 ∙ e)) | inr u ↦ u.0 ] in
    let other : (s.band == t.band) ≡ false = eqb_sym s.band t.band ∙ one in
    ((rw one refl, rw other refl), bands_apart s band ys e a.1)

apart-append : (band : ℕ) (xs ys : List Seat) → AreApart xs → AreApart ys → AllByRecursion (λ (s : Seat). s.band ≡ band) xs → AllByRecursion (λ (t : Seat). t.band ≢ band) ys → AreApart (xs ++ ys)
apart-append band [] ys a b c d = b
apart-append band (s ∷ xs) ys a b c d = (all-append (IsApart s) xs ys a.0 (bands_apart s band ys c.0 d), apart-append band xs ys a.1 b c.1 d)

-- so the positions of grids are apart,
pub grids_apart : (gs : List Grid) → HaveOwnBands gs → AreApart (flat_map seats gs)
grids_apart [] h = tt
grids_apart (g ∷ gs) h = apart-append g.band (seats g) (flat_map seats gs) (distinct_apart (seats g) (seats_distinct g)) (grids_apart gs h.1) (band_of_seats g) (other_bands g gs h.0)

-- and those that pass a test
pub apart-filter : (test : Seat → Bool) (xs : List Seat) → AreApart xs → AreApart (filter test xs)
apart-filter test [] a = tt
apart-filter test (s ∷ xs) a = elim (either (test s)) [
  | inl t ↦ rw t (all-filter (IsApart s) test xs a.0, apart-filter test xs a.1)
  | inr t ↦ rw t (apart-filter test xs a.1)
]

-- code-blocks whose positions are apart are alone
no_others : (b : Block) (xs : List Block) → AllByRecursion (IsApart (seat_of b)) (map seat_of xs) → filter (stands_at (seat_of b)) xs ≡ []
no_others b [] a = refl
no_others b (x ∷ xs) a = rw a.0.0 (no_others b xs a.1)

still_alone : (b : Block) (blocks xs : List Block) → AllByRecursion (IsApart (seat_of b)) (map seat_of xs) → AllByRecursion (λ (x : Block). filter (stands_at (seat_of x)) blocks ≡ x ∷ []) xs
    → AllByRecursion (λ (x : Block). filter (stands_at (seat_of x)) (b ∷ blocks) ≡ x ∷ []) xs
still_alone b blocks [] a s = tt
still_alone b blocks (x ∷ xs) a s = (rw a.0.1 s.0, still_alone b blocks xs a.1 s.1)

pub stand_alone : (blocks : List Block) → AreApart (map seat_of blocks) → StandAlone blocks
stand_alone [] a = tt
stand_alone (b ∷ blocks) a = (rw (stands_here b) (ap (λ (l : List Block). b ∷ l) (no_others b blocks a.0)), still_alone b blocks blocks a.0 (stand_alone blocks a.1))

-- Lblock and one more fit a refinement length
fits_more : (b : Block) → exponent (b.refine + 1) ≤ least_lblock b + 1
fits_more b = elim (either (b.passes == 3)) [ inl t ↦ rw t (omega arith) | inr t ↦ rw t (omega arith) ]

-- Lblock is low where the exponents of the lengths are
lblock_low : (b : Block) → exponent (b.cleanup + 1) ≤ 16 → exponent (b.refine + 1) ≤ 11 → least_lblock b ≤ 24
lblock_low b c r = elim (either (b.passes == 3)) [ inl t ↦ rw t (omega arith) | inr t ↦ rw t (omega arith) ]

-- the least Lblock fits, and isn't above 24
pub lblock_fits : (b : Block) → IsWithinLimits b → FitLengths (least_lblock b) b × (least_lblock b ≤ 24)
lblock_fits b l =
    let c = exponent_is_least (b.cleanup + 1) in
    let r = exponent_is_least (b.refine + 1) in
    let c_low : exponent (b.cleanup + 1) ≤ 16 = c.1 16 (omega (arith, l.short_cleanup)) in
    let r_low : exponent (b.refine + 1) ≤ 11 = r.1 11 (omega (arith, l.short_refine)) in (
      record {
        least = omega arith;
        cleanup =
            let up : 2 ^ exponent (b.cleanup + 1) ≤ 2 ^ least_lblock b = pow-le-pow_right (omega arith) (omega arith) in
            omega (arith, c.0);
        refine = λ ne. elim (eqb_tells b.passes 2) [
          | inl t ↦
              let three : (b.passes == 3) ≡ false = elim (eqb_tells b.passes 3) [ inl u ↦ absurd (omega (arith, t.1, u.1)) | inr u ↦ u.0 ] in
              let up : 2 ^ exponent (b.refine + 1) ≤ 2 ^ least_lblock b = pow-le-pow_right (omega arith) (rw three (omega arith)) in
              rw t.0 (omega (arith, r.0))
          | inr t ↦
              let up : 2 ^ exponent (b.refine + 1) ≤ 2 ^ (least_lblock b + 1) = pow-le-pow_right (omega arith) (fits_more b) in
              rw t.0 (omega (arith, r.0))
        ];
        none = l.no_refine;
      },
      lblock_low b c_low r_low,
    )

-- of all code-blocks
pub lblocks_fit : (blocks xs : List Block) → AllByRecursion (λ (b : Block). filter (stands_at (seat_of b)) blocks ≡ b ∷ []) xs → AllByRecursion IsWithinLimits xs
    → AllByRecursion (λ (b : Block). FitLengths (lblock_at blocks (seat_of b)) b) xs × AllByRecursion (λ (b : Block). lblock_at blocks (seat_of b) ≤ 24) xs
lblocks_fit blocks [] a l = (tt, tt)
lblocks_fit blocks (b ∷ xs) a l =
    let r = lblocks_fit blocks xs a.1 l.1 in
    let f = lblock_fits b l.0 in
    let e : lblock_at blocks (seat_of b) ≡ least_lblock b = ap first_lblock a.0 in
    let P : ℕ → Type 0 = λ k. FitLengths k b in
    let Q : ℕ → Type 0 = λ k. k ≤ 24 in
    ((subst P (sym e) f.0, r.0), (subst Q (sym e) f.1, r.1))

pub inclusion_all : (blocks : List Block) (gs : List Grid) → AllByRecursion (λ (g : Grid). LabelsInclusion blocks (least_inclusion blocks g.band) g) gs
inclusion_all blocks [] = tt
inclusion_all blocks (g ∷ gs) = (written_inclusion blocks g, inclusion_all blocks gs)

pub planes_all : (blocks : List Block) (gs : List Grid) → StandAlone blocks → AllByRecursion IsWithinLimits blocks → AllByRecursion (λ (g : Grid). LabelsPlanes blocks (least_planes blocks g.band) g) gs
planes_all blocks [] a l = tt
planes_all blocks (g ∷ gs) a l = (written_planes blocks g a l, planes_all blocks gs a l)

-- passes within the limits
pub passes_within : (blocks : List Block) → AllByRecursion IsWithinLimits blocks → AllByRecursion (λ (b : Block). (1 ≤ b.passes) × (b.passes ≤ 6)) blocks
passes_within [] a = tt
passes_within (b ∷ blocks) a = ((a.0.some_passes, omega (arith, a.0.few_passes)), passes_within blocks a.1)

-- what our writer gives says them
pub written_is_header : WrittenIsHeader
written_is_header gs [] bands are = inl (refl, refl)
written_is_header gs (b ∷ more) bands are =
    let blocks = b ∷ more in
    let P : List Seat → Type 0 = λ l. AreApart l in
    let apart : AreApart (map seat_of blocks) = subst P (sym are.seated) (apart-filter (is_included blocks) (flat_map seats gs) (grids_apart gs bands)) in
    let alone = stand_alone blocks apart in
    let lengths = lblocks_fit blocks blocks alone are.limits in
    inr (record {
      choices = least_choices blocks;
      can_say = record { seated = are.seated; inclusion = inclusion_all blocks gs; planes = planes_all blocks gs alone are.limits; passes = passes_within blocks are.limits; lengths = lengths.0 };
      limits = are.limits;
      lblocks = lengths.1;
      whole = refl;
    })
