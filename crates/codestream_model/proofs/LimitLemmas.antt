-- The pieces of a header are sound exactly where its code-blocks and its Lblocks are within the limits.
use Rattle.std.proofs.Common.{◌≡◌, ◌≤◌, ◌<◌, ◌==◌, ◌&&◌, ℕ, zero, suc, Bool, true, List, [], ◌∷◌, map, refl, sym, ◌∙◌, ap, subst, inl, inr, arith, if◌then◌else◌}
use Rattle.std.specs.List.{AllByRecursion, filter, flat_map}
use Rattle.std.proofs.lemmas.Bool.{and_parts, le-leb, lt-leb}
use Rattle.codestream_model.specs.Values.{Grid, Block}
use Rattle.codestream_model.specs.TagTrees.{Seat, IsSeat, Step, seats, seat_of, label, parent_label, root_level, levels_from, is_first, inclusion_bits, met_first, value_steps}
use Rattle.codestream_model.specs.HeaderPieces.{Piece, InclusionPiece, PlanesPiece, PassesPiece, LblockPiece, CleanupPiece, RefinePiece, IsSound, Choices, refine_width, stands_at, block_pieces, seat_pieces, header_pieces}
use Rattle.codestream_model.specs.PacketHeader.{is_included, IsWithinLimits, LabelsPlanes, CanSay}
use Rattle.codestream_model.proofs.Members.{Has, has_right, has_parts, has_map, map_has, has_flat_map, flat_map_has, at_member, each_member}
use Rattle.codestream_model.proofs.TreeLemmas.{either, equal_number}
use Rattle.codestream_model.proofs.WalkLemmas.{label-le}
use Rattle.codestream_model.proofs.SeatLemmas.{seats_are_seats, stands_here}
use Rattle.codestream_model.proofs.JudgedPieces.{lblock_sound}

-- a member that passes a test
filter_has : {X : Type 0} (test : X → Bool) (xs : List X) (z : X) → Has (filter test xs) z → Has xs z × (test z ≡ true)
filter_has test [] z h = absurd h
filter_has {X} test (x ∷ xs) z h = elim (either (test x)) [
  | inl t ↦
      let f : Has (x ∷ filter test xs) z = rw t at h in
      elim f [
        | inl e ↦ let P : X → Type 0 = λ y. test y ≡ true in (inl e, subst P e t)
        | inr m ↦ let r = filter_has test xs z m in (inr r.0, r.1)
      ]
  | inr t ↦
      let f : Has (filter test xs) z = rw t at h in
      let r = filter_has test xs z f in
      (inr r.0, r.1)
]

-- and a member that passes is there
has_filter : {X : Type 0} (test : X → Bool) (xs : List X) (z : X) → Has xs z → test z ≡ true → Has (filter test xs) z
has_filter test [] z h e = absurd h
has_filter {X} test (x ∷ xs) z (inl f) e =
    let P : X → Type 0 = λ y. test y ≡ true in
    rw (subst P (sym f) e) (inl f)
has_filter test (x ∷ xs) z (inr m) e = elim (either (test x)) [
  | inl t ↦ rw t (inr (has_filter test xs z m e))
  | inr t ↦ rw t (has_filter test xs z m e)
]

-- the levels of a tree
level_low : (height level : ℕ) → Has (levels_from height) level → level ≤ height
unfolding levels_from
level_low zero level (inl e) = omega (arith, e)
level_low zero level (inr m) = absurd m
level_low (suc height) level (inl e) = omega (arith, e)
level_low (suc height) level (inr m) = omega (arith, level_low height level m)

-- a code-block is at its own position alone
own_seat : (s : Seat) (b : Block) → stands_at s b ≡ true → seat_of b ≡ s
own_seat s b e =
    let p = and_parts (b.band == s.band) ((b.col == s.col) && (b.row == s.row)) e in
    let q = and_parts (b.col == s.col) (b.row == s.row) p.1 in
    let band : b.band ≡ s.band = equal_number b.band s.band p.0 in
    let col : b.col ≡ s.col = equal_number b.col s.col q.0 in
    let row : b.row ≡ s.row = equal_number b.row s.row q.1 in
    rw (band, col, row) refl

-- the limits of a code-block's numbers
passes_low : (n : ℕ) → n ≤ 3 → IsSound (PassesPiece n)
passes_low n h = rw (le-leb n 3 h) refl

-- of a cleanup length,
cleanup_low : (width n : ℕ) → 2 ≤ n → n < 65535 → IsSound (CleanupPiece width n)
cleanup_low width n low high = rw (lt-leb (suc n) 2 (omega arith), lt-leb 65535 n high) refl

-- and of a refinement length
refine_low : (width n : ℕ) → n < 2047 → IsSound (RefinePiece width n)
refine_low width n high = rw (lt-leb 2047 n high) refl

-- the pieces of a code-block within the limits are sound
rest_sound : (lblock : ℕ) (b : Block) → IsWithinLimits b → lblock ≤ 24 → (p : Piece)
    → Has (PassesPiece b.passes ∷ LblockPiece lblock ∷ CleanupPiece lblock b.cleanup ∷ (if b.passes == 1 then [] else RefinePiece (refine_width b.passes lblock) b.refine ∷ [])) p → IsSound p
rest_sound lblock b l low p (inl e) = let P : Piece → Type 0 = λ x. IsSound x in subst P e (passes_low b.passes l.few_passes)
rest_sound lblock b l low p (inr (inl e)) = let P : Piece → Type 0 = λ x. IsSound x in subst P e (rw (le-leb lblock 24 low) refl)
rest_sound lblock b l low p (inr (inr (inl e))) = let P : Piece → Type 0 = λ x. IsSound x in subst P e (cleanup_low lblock b.cleanup l.some_cleanup l.short_cleanup)
rest_sound lblock b l low p (inr (inr (inr m))) = elim (either (b.passes == 1)) [
  | inl t ↦ let none : Has [] p = rw t at m in absurd none
  | inr t ↦
      let one : Has (RefinePiece (refine_width b.passes lblock) b.refine ∷ []) p = rw t at m in
      let P : Piece → Type 0 = λ x. IsSound x in
      elim one [ inl e ↦ subst P e (refine_low (refine_width b.passes lblock) b.refine l.short_refine) | inr n ↦ absurd n ]
]

-- with its zero bit-planes
block_sound : (g : Grid) (choices : Choices) (blocks : List Block) (b : Block) (p : Piece) → LabelsPlanes blocks (choices.planes g.band) g → Has blocks b → IsSeat g (seat_of b) → IsWithinLimits b → choices.lblock (seat_of b) ≤ 24
    → Has (block_pieces g choices blocks b) p → IsSound p
block_sound g choices blocks b p labels member i l low m =
    let planes = choices.planes g.band in
    let among = map seat_of (filter (λ x. x.band == g.band) blocks) in
    let rest = PassesPiece b.passes ∷ LblockPiece (choices.lblock (seat_of b)) ∷ CleanupPiece (choices.lblock (seat_of b)) b.cleanup ∷ (if b.passes == 1 then [] else RefinePiece (refine_width b.passes (choices.lblock (seat_of b))) b.refine ∷ []) in
    elim (has_parts (map PlanesPiece (value_steps g planes among (seat_of b))) rest p m) [
      | inr n ↦ rest_sound (choices.lblock (seat_of b)) b l low p n
      | inl n ↦
          let step = map_has PlanesPiece (value_steps g planes among (seat_of b)) p n in
          let to_step = λ (level : ℕ). let x : Step = record { from = parent_label g planes level (seat_of b); to = label planes level (seat_of b) } in x in
          let at = map_has to_step (met_first g (seat_of b) among) step.0 step.1 in
          let level = filter_has (λ (level : ℕ). is_first level (seat_of b) among) (levels_from (root_level g)) at.0 at.1 in
          let leaf : label planes 0 (seat_of b) ≡ b.planes = at_member (λ (x : Block). x.band ≡ g.band → label planes 0 (seat_of x) ≡ x.planes) blocks b labels.leaves member i.band in
          let high : label planes at.0 (seat_of b) ≤ 74 = omega (arith, label-le g planes (seat_of b) labels.never_falls i at.0 (level_low (root_level g) at.0 level.0), l.planes) in
          let sound : IsSound (PlanesPiece (to_step at.0)) = rw (le-leb (label planes at.0 (seat_of b)) 74 high) refl in
          let P : Piece → Type 0 = λ x. IsSound x in
          subst P (ap PlanesPiece at.2 ∙ step.2) sound
    ]

-- so are those of a header
pub pieces_sound : (grids : List Grid) (choices : Choices) (blocks : List Block) → CanSay grids choices blocks → AllByRecursion IsWithinLimits blocks → AllByRecursion (λ (b : Block). choices.lblock (seat_of b) ≤ 24) blocks
    → AllByRecursion IsSound (header_pieces grids choices blocks)
pieces_sound grids choices blocks c limits low =
    each_member IsSound (header_pieces grids choices blocks) (λ p m.
    let g = flat_map_has (λ (g : Grid). flat_map (seat_pieces g choices blocks) (seats g)) grids p m in
    let s = flat_map_has (seat_pieces g.0 choices blocks) (seats g.0) p g.2 in
    elim (has_parts (map InclusionPiece (inclusion_bits g.0 (choices.inclusion g.0.band) s.0)) (flat_map (block_pieces g.0 choices blocks) (filter (stands_at s.0) blocks)) p s.2) [
      | inl n ↦
          let bit = map_has InclusionPiece (inclusion_bits g.0 (choices.inclusion g.0.band) s.0) p n in
          let P : Piece → Type 0 = λ x. IsSound x in
          subst P bit.2 refl
      | inr n ↦
          let b = flat_map_has (block_pieces g.0 choices blocks) (filter (stands_at s.0) blocks) p n in
          let there = filter_has (stands_at s.0) blocks b.0 b.1 in
          let P : Seat → Type 0 = λ x. IsSeat g.0 x in
          let i : IsSeat g.0 (seat_of b.0) = subst P (sym (own_seat s.0 b.0 there.1)) (at_member (IsSeat g.0) (seats g.0) s.0 (seats_are_seats g.0) s.1) in
          block_sound g.0 choices blocks b.0 p (at_member (λ (x : Grid). LabelsPlanes blocks (choices.planes x.band) x) grids g.0 c.planes g.1) there.0 i
          (at_member IsWithinLimits blocks b.0 limits there.0) (at_member (λ (x : Block). choices.lblock (seat_of x) ≤ 24) blocks b.0 low there.0) b.2
    ])

-- and the Lblocks of a header with sound pieces are low
pub lblocks_low : (grids : List Grid) (choices : Choices) (blocks : List Block) → CanSay grids choices blocks → AllByRecursion IsSound (header_pieces grids choices blocks) → AllByRecursion (λ (b : Block). choices.lblock (seat_of b) ≤ 24) blocks
lblocks_low grids choices blocks c sound =
    each_member (λ (b : Block). choices.lblock (seat_of b) ≤ 24) blocks (λ b m.
    let L : List Seat → Type 0 = λ l. Has l (seat_of b) in
    let seated = filter_has (is_included blocks) (flat_map seats grids) (seat_of b) (subst L c.seated (has_map seat_of blocks b m)) in
    let g = flat_map_has seats grids (seat_of b) seated.0 in
    let lblock = choices.lblock (seat_of b) in
    let values = map PlanesPiece (value_steps g.0 (choices.planes g.0.band) (map seat_of (filter (λ x. x.band == g.0.band) blocks)) (seat_of b)) in
    let rest = PassesPiece b.passes ∷ LblockPiece lblock ∷ CleanupPiece lblock b.cleanup ∷ (if b.passes == 1 then [] else RefinePiece (refine_width b.passes lblock) b.refine ∷ []) in
    let own : Has (block_pieces g.0 choices blocks b) (LblockPiece lblock) = has_right values rest (LblockPiece lblock) (inr (inl refl)) in
    let stands : Has (filter (stands_at (seat_of b)) blocks) b = has_filter (stands_at (seat_of b)) blocks b m (stands_here b) in
    let bits = map InclusionPiece (inclusion_bits g.0 (choices.inclusion g.0.band) (seat_of b)) in
    let seat : Has (seat_pieces g.0 choices blocks (seat_of b)) (LblockPiece lblock) =
    has_right bits (flat_map (block_pieces g.0 choices blocks) (filter (stands_at (seat_of b)) blocks)) (LblockPiece lblock) (has_flat_map (block_pieces g.0 choices blocks) (filter (stands_at (seat_of b)) blocks) b (LblockPiece lblock) stands own) in
    let grid : Has (flat_map (seat_pieces g.0 choices blocks) (seats g.0)) (LblockPiece lblock) = has_flat_map (seat_pieces g.0 choices blocks) (seats g.0) (seat_of b) (LblockPiece lblock) g.2 seat in
    let all : Has (header_pieces grids choices blocks) (LblockPiece lblock) = has_flat_map (λ (x : Grid). flat_map (seat_pieces x choices blocks) (seats x)) grids g.0 (LblockPiece lblock) g.1 grid in
    lblock_sound lblock (at_member IsSound (header_pieces grids choices blocks) (LblockPiece lblock) sound all))
