-- The choices of our writer are the least that a header allows.
use Rattle.std.proofs.Common.{◌≡◌, ◌≢◌, ◌<◌, ◌≤◌, ◌↔◌, ◌+◌, ◌-◌, ◌^◌, ◌==◌, ◌&&◌, ℕ, zero, suc, min, max, Bool, true, false, List, [], ◌∷◌, map, refl, sym, ◌∙◌, ap, subst, inl, inr, arith, if◌then◌else◌}
use Rattle.std.specs.List.{AllByRecursion, filter, flat_map, list_any}
use Rattle.std.proofs.lemmas.Bool.{cases_lt}
use Rattle.std.proofs.lemmas.Bool.Decides.{eqb_tells}
use Rattle.std.proofs.lemmas.Nat.{pow_pos}
use Rattle.codestream_model.specs.Values.{Grid, Block}
use Rattle.codestream_model.specs.TagTrees.{Seat, seats, seat_of, exponent, is_below, least, least_inclusion, least_planes}
use Rattle.codestream_model.specs.HeaderPieces.{refine_width}
use Rattle.codestream_model.specs.PacketHeader.{is_included, IsWithinLimits, FitLengths, least_lblock}
use Rattle.codestream_model.specs.ChoiceLaws.{LblockIsLeast, InclusionIsLeast, PlanesAreLeast, ChoicesCanSay}
use Rattle.codestream_model.proofs.TreeLemmas.{either}
use Rattle.codestream_model.proofs.ExponentLemmas.{exponent_is_least}
use Rattle.codestream_model.proofs.WrittenLemmas.{lblock_fits, stand_alone, grids_apart, apart-filter, AreApart, lblocks_fit, inclusion_all, planes_all, passes_within}

-- the inclusion label is 0 exactly where one is below
pub inclusion_is_least : InclusionIsLeast
inclusion_is_least blocks band level col row = elim (either (list_any (is_below band level col row) blocks)) [
  | inl t ↦ rw t (λ e. refl, λ e. refl)
  | inr t ↦ rw t (λ e. absurd (cc), λ e. absurd (cc))
]

-- a number below others is below the least of them
lower_all : (p : Block → Bool) (blocks : List Block) (m : ℕ) → m ≤ least (map (λ b. b.planes) (filter p blocks)) → AllByRecursion (λ (b : Block). p b ≡ true → m ≤ b.planes) blocks
lower_all p [] m h = tt
lower_all p (b ∷ blocks) m h = elim (either (p b)) [
  | inl t ↦
      let h' : m ≤ min b.planes (least (map (λ x. x.planes) (filter p blocks))) = rw t at h in
      (λ e. omega arith, lower_all p blocks m (omega arith))
  | inr t ↦
      let h' : m ≤ least (map (λ x. x.planes) (filter p blocks)) = rw t at h in
      (λ e. absurd (let c : true ≡ false = sym e ∙ t in cc), lower_all p blocks m h')
]

-- none is left where none passes
none_left : (p : Block → Bool) (blocks : List Block) → list_any p blocks ≡ false → least (map (λ b. b.planes) (filter p blocks)) ≡ 74
none_left p [] e = refl
none_left p (b ∷ blocks) e = elim (either (p b)) [
  | inl t ↦ absurd (let c : true ≡ false = rw t at e in cc)
  | inr t ↦ rw t (none_left p blocks (rw t at e))
]

-- over plain numbers: the least of two that isn't the first is the second
other_one : (a b n : ℕ) → min a b ≡ n → a ≢ n → b ≡ n
other_one a b n m f = elim (cases_lt b a) [ inl t ↦ omega arith | inr t ↦ absurd (f (omega arith)) ]

none_less : (a b n : ℕ) → min a b ≡ n → a ≢ n → a ≤ 74 → b ≡ 74 → ⊥
none_less a b n m f h e = f (omega arith)

-- one that passes has the least
one_has : (p : Block → Bool) (blocks : List Block) (n : ℕ) → AllByRecursion IsWithinLimits blocks → least (map (λ b. b.planes) (filter p blocks)) ≡ n → list_any p blocks ≡ true
    → list_any (λ b. p b && (b.planes == n)) blocks ≡ true
one_has p [] n l m e = e
one_has p (b ∷ blocks) n l m e = elim (either (p b)) [
  | inr t ↦ rw t (one_has p blocks n l.1 (rw t at m) (rw t at e))
  | inl t ↦
      let m' : min b.planes (least (map (λ x. x.planes) (filter p blocks))) ≡ n = rw t at m in
      elim (eqb_tells b.planes n) [
        | inl s ↦ rw (t, s.0) refl
        | inr s ↦
            let rest : least (map (λ x. x.planes) (filter p blocks)) ≡ n = other_one b.planes (least (map (λ x. x.planes) (filter p blocks))) n m' s.1 in
            rw (t, s.0) (elim (either (list_any p blocks)) [
              | inl u ↦ one_has p blocks n l.1 rest u
              | inr u ↦ absurd (none_less b.planes (least (map (λ x. x.planes) (filter p blocks))) n m' s.1 l.0.planes (none_left p blocks u))
            ])
      ]
]

pub planes_are_least : PlanesAreLeast
planes_are_least blocks band level col row l = record {
  lower = lower_all (is_below band level col row) blocks (least_planes blocks band level col row) (let e : least_planes blocks band level col row ≤ least_planes blocks band level col row = omega arith in e);
  reached = one_has (is_below band level col row) blocks (least_planes blocks band level col row) l refl;
  none = none_left (is_below band level col row) blocks;
}

-- the refinement's part of Lblock, by the number of passes
refine_part : (passes lblock refine cleanup : ℕ) → 1 ≤ passes → passes ≤ 3 → 3 ≤ lblock → exponent (cleanup + 1) ≤ lblock
    → (passes ≢ 1 → exponent (refine + 1) ≤ refine_width passes lblock) → (passes ≡ 1 → exponent (refine + 1) ≤ lblock)
    → max 3 (max (exponent (cleanup + 1)) (exponent (refine + 1) - (if passes == 3 then 1 else 0))) ≤ lblock
refine_part zero lblock refine cleanup some few three c r one = absurd (omega arith)
refine_part (suc zero) lblock refine cleanup some few three c r one = (let o : exponent (refine + 1) ≤ lblock = one refl in omega arith)
refine_part (suc (suc zero)) lblock refine cleanup some few three c r one = (let o : exponent (refine + 1) ≤ lblock = r (λ e. omega (arith, e)) in omega arith)
refine_part (suc (suc (suc zero))) lblock refine cleanup some few three c r one = (let o : exponent (refine + 1) ≤ lblock + 1 = r (λ e. omega (arith, e)) in omega arith)
refine_part (suc (suc (suc (suc n)))) lblock refine cleanup some few three c r one = absurd (omega arith)

-- no refinement bytes need no bits
one_exponent : (refine lblock : ℕ) → refine ≡ 0 → exponent (refine + 1) ≤ lblock
one_exponent refine lblock e = (exponent_is_least (refine + 1)).1 lblock (rw e (pow_pos lblock))

less_more : (n m : ℕ) → n < m → n + 1 ≤ m
less_more n m p = omega arith

pub lblock_is_least : LblockIsLeast
lblock_is_least b l = (
  (lblock_fits b l).0,
  λ lblock f.
      refine_part b.passes lblock b.refine b.cleanup l.some_passes l.few_passes f.least
      ((exponent_is_least (b.cleanup + 1)).1 lblock (less_more b.cleanup (2 ^ lblock) f.cleanup))
      (λ ne. (exponent_is_least (b.refine + 1)).1 (refine_width b.passes lblock) (less_more b.refine (2 ^ refine_width b.passes lblock) (f.refine ne)))
      (λ e. one_exponent b.refine lblock (f.none e)),
)

pub choices_can_say : ChoicesCanSay
choices_can_say gs blocks bands are =
    let P : List Seat → Type 0 = λ l. AreApart l in
    let apart : AreApart (map seat_of blocks) = subst P (sym are.seated) (apart-filter (is_included blocks) (flat_map seats gs) (grids_apart gs bands)) in
    let alone = stand_alone blocks apart in
    record {
      seated = are.seated;
      inclusion = inclusion_all blocks gs;
      planes = planes_all blocks gs alone are.limits;
      passes = passes_within blocks are.limits;
      lengths = (lblocks_fit blocks blocks alone are.limits).0;
    }
