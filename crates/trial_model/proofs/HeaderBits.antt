-- How many bits and bytes the packet header of a few code-blocks has.
use Rattle.std.proofs.Common.{◌≡◌, ◌≤◌, ◌+◌, ◌*◌, ◌-◌, ◌/◌, ◌==◌, ◌&&◌, ◌⊎◌, ◌^◌, ◌++◌, if◌then◌else◌, ℕ, zero, suc, max, Bool, true, false, List, [], ◌∷◌, length, map, replicate, refl, sym, ap, subst, inl, inr, arith}
use Rattle.std.specs.List.{AllByRecursion, filter, flat_map, range_with_len}
use Rattle.std.proofs.lemmas.Bool.{cases_Bool, and_parts}
use Rattle.std.proofs.lemmas.List.{length-append, length-map, length-replicate}
use Rattle.std.proofs.lemmas.List.FromFn.{length-range_with_len}
use Rattle.codestream_model.specs.Values.{Grid, Block}
use Rattle.codestream_model.specs.StuffedBits.{number_bits}
use Rattle.codestream_model.specs.TagTrees.{Seat, Labels, seats, seat_of, root_level, levels_from, label, parent_label, met_first, is_first, inclusion_bits, value_steps, exponent, least, least_planes, is_below}
use Rattle.codestream_model.specs.HeaderPieces.{Piece, InclusionPiece, PlanesPiece, PassesPiece, LblockPiece, CleanupPiece, RefinePiece, passes_code, bits_of, refine_width, block_pieces, seat_pieces, header_pieces, stands_at}
use Rattle.codestream_model.specs.PacketHeader.{least_lblock, first_lblock, lblock_at, least_choices, written_bits, written_header}
use Rattle.codestream_model.proofs.TreeLemmas.{equal_number}
use Rattle.codestream_model.proofs.StopLemmas.{bits_of-append}
use Rattle.codestream_model.proofs.BitLemmas.{number_bits-length}
use Rattle.codestream_model.proofs.ExponentLemmas.{exponent_is_least}
use Rattle.codestream_model.proofs.SeatLemmas.{all-filter}
use Rattle.codestream_model.proofs.WrittenLemmas.{StandAlone}
use Rattle.codestream_model.proofs.LongPackets.{packed_short}

-- A grid of at most two columns and two rows.
abbrev pub IsSmall : Grid → Type 0
IsSmall g = (g.cols ≤ 2) × (g.rows ≤ 2)

-- A filtered list is no longer than the list.
no_longer : {X : Type 0} (test : X → Bool) (xs : List X) → length (filter test xs) ≤ length xs
no_longer test [] = omega arith
no_longer test (x ∷ xs) = elim (cases_Bool (test x)) [
  | inl t ↦ rw t (omega (arith, no_longer test xs))
  | inr f ↦ rw f (omega (arith, no_longer test xs))
]

-- A small grid has at most four code-blocks.
rows_short : (f : ℕ → List Seat) → ((row : ℕ) → length (f row) ≤ 2) → (rows : List ℕ) → length (flat_map f rows) ≤ length rows * 2
rows_short f each [] = omega arith
rows_short f each (row ∷ rows) = omega (arith, each row, rows_short f each rows, length-append (f row) (flat_map f rows))

pub few_seats : (g : Grid) → IsSmall g → length (seats g) ≤ 4
few_seats g small =
    let f : ℕ → List Seat = λ row. map (λ col. record { band = g.band; col = col; row = row }) (range_with_len 0 g.cols) in
    let each : (row : ℕ) → length (f row) ≤ 2 = λ row.
    omega (arith, small.0, length-map (range_with_len 0 g.cols) (λ (col : ℕ). let s : Seat = record { band = g.band; col = col; row = row } in s), length-range_with_len 0 g.cols) in
    omega (arith, small.1, rows_short f each (range_with_len 0 g.rows), length-range_with_len 0 g.rows)

-- Its trees have at most two levels.
levels_length : (height : ℕ) → length (levels_from height) ≡ suc height
unfolding levels_from
levels_length zero = refl
levels_length (suc height) = ap suc (levels_length height)

two_levels : (g : Grid) → IsSmall g → length (levels_from (root_level g)) ≤ 2
two_levels g small =
    let most : max g.cols g.rows ≤ 2 ^ 1 = omega (arith, small.0, small.1) in
    omega (arith, levels_length (root_level g), (exponent_is_least (max g.cols g.rows)).1 1 most)

-- Each node of the inclusion tree has at most one bit.
inclusion_length : (bits : List Bool) → length (bits_of (map InclusionPiece bits)) ≡ length bits
inclusion_length [] = refl
inclusion_length (b ∷ bits) = ap suc (inclusion_length bits)

one_each : (p q : ℕ → Bool) (levels : List ℕ) → length (flat_map (λ level. if p level then q level ∷ [] else []) levels) ≤ length levels
one_each p q [] = omega arith
one_each p q (level ∷ levels) = elim (cases_Bool (p level)) [
  | inl t ↦ rw t (omega (arith, one_each p q levels))
  | inr f ↦ rw f (omega (arith, one_each p q levels))
]

inclusion_short : (g : Grid) (labels : Labels) (s : Seat) → IsSmall g → length (bits_of (map InclusionPiece (inclusion_bits g labels s))) ≤ 2
inclusion_short g labels s small =
    omega (
      arith,
      inclusion_length (inclusion_bits g labels s),
      one_each (λ level. parent_label g labels level s == 0) (λ level. label labels level s == 0) (met_first g s (seats g)),
      no_longer (λ level. is_first level s (seats g)) (levels_from (root_level g)),
      two_levels g small,
    )

-- Each node of the value tree has at most 75 bits.
steps_short : (from to : ℕ → ℕ) → ((level : ℕ) → to level ≤ 74) → (levels : List ℕ)
    → length (bits_of (map PlanesPiece (map (λ level. record { from = from level; to = to level }) levels))) ≤ length levels * 75
steps_short from to low [] = omega arith
steps_short from to low (level ∷ levels) =
    let run = replicate (to level - from level) false in
    let rest = bits_of (map PlanesPiece (map (λ level. record { from = from level; to = to level }) levels)) in
    omega (
      arith,
      low level,
      steps_short from to low levels,
      length-append (run ++ true ∷ []) rest,
      length-append run (true ∷ []),
      length-replicate (to level - from level) false,
    )

least_low : (numbers : List ℕ) → least numbers ≤ 74
least_low [] = omega arith
least_low (n ∷ numbers) = omega (arith, least_low numbers)

planes_short : (g : Grid) (blocks : List Block) (among : List Seat) (s : Seat) → IsSmall g
    → length (bits_of (map PlanesPiece (value_steps g (least_planes blocks g.band) among s))) ≤ 150
planes_short g blocks among s small =
    omega (
      arith,
      steps_short (λ level. parent_label g (least_planes blocks g.band) level s) (λ level. label (least_planes blocks g.band) level s)
          (λ level. least_low (map (λ b. b.planes) (filter (is_below g.band level (s.col / 2 ^ level) (s.row / 2 ^ level)) blocks)))
          (met_first g s among),
      no_longer (λ level. is_first level s among) (levels_from (root_level g)),
      two_levels g small,
    )

-- The number of coding passes has at most four bits.
passes_short : (n : ℕ) → length (passes_code n) ≤ 4
passes_short n = elim (cases_Bool (n == 1)) [
  | inl t ↦ rw t (omega arith)
  | inr f ↦ rw f (elim (cases_Bool (n == 2)) [
    | inl t ↦ rw t (omega arith)
    | inr f ↦ rw f (elim (cases_Bool (n == 3)) [
      | inl t ↦ rw t (omega arith)
      | inr f ↦ rw f (elim (cases_Bool (n == 4)) [
        | inl t ↦ rw t (omega arith)
        | inr f ↦ rw f (elim (cases_Bool (n == 5)) [
          | inl t ↦ rw t (omega arith)
          | inr f ↦ rw f (omega arith)
        ])
      ])
    ])
  ])
]

-- The lengths of a drawn code-block.
abbrev pub IsShort : Block → Type 0
IsShort b = (b.cleanup ≤ 64) × (b.refine ≤ 63)

-- Their Lblock is at most 7.
least_short : (b : Block) → IsShort b → least_lblock b ≤ 7
least_short b short =
    let c : exponent (b.cleanup + 1) ≤ 7 = (exponent_is_least (b.cleanup + 1)).1 7 (omega (arith, short.0)) in
    let r : exponent (b.refine + 1) ≤ 7 = (exponent_is_least (b.refine + 1)).1 7 (omega (arith, short.1)) in
    elim (cases_Bool (b.passes == 3)) [ inl t ↦ rw t (omega (arith, c, r)) | inr f ↦ rw f (omega (arith, c, r)) ]

first_short : (blocks : List Block) → AllByRecursion IsShort blocks → first_lblock blocks ≤ 7
first_short [] short = omega arith
first_short (b ∷ blocks) short = least_short b short.0

lblock_short : (blocks : List Block) → AllByRecursion IsShort blocks → (s : Seat) → lblock_at blocks s ≤ 7
lblock_short blocks short s = first_short (filter (stands_at s) blocks) (all-filter IsShort (stands_at s) blocks short)

-- The pieces of a code-block after its zero bit-planes have at most 24 bits.
refine_short : (passes lblock n : ℕ) → lblock ≤ 7 → length (bits_of (if passes == 1 then [] else RefinePiece (refine_width passes lblock) n ∷ [])) ≤ 8
refine_short passes lblock n low = elim (cases_Bool (passes == 1)) [
  | inl t ↦ rw t (omega arith)
  | inr f ↦ rw f (elim (cases_Bool (passes == 2)) [
    | inl t ↦ rw t (omega (arith, low, number_bits-length lblock n, length-append (number_bits lblock n) []))
    | inr f ↦ rw f (omega (arith, low, number_bits-length (lblock + 1) n, length-append (number_bits (lblock + 1) n) []))
  ])
]

rest_short : (passes lblock cleanup refine : ℕ) → lblock ≤ 7
    → length (bits_of (PassesPiece passes ∷ LblockPiece lblock ∷ CleanupPiece lblock cleanup ∷ (if passes == 1 then [] else RefinePiece (refine_width passes lblock) refine ∷ []))) ≤ 24
rest_short passes lblock cleanup refine low =
    let last = bits_of (if passes == 1 then [] else RefinePiece (refine_width passes lblock) refine ∷ []) in
    let run = replicate (lblock - 3) true in
    omega (
      arith,
      low,
      passes_short passes,
      refine_short passes lblock refine low,
      number_bits-length lblock cleanup,
      length-replicate (lblock - 3) true,
      length-append run (false ∷ []),
      length-append (number_bits lblock cleanup) last,
      length-append (run ++ false ∷ []) (number_bits lblock cleanup ++ last),
      length-append (passes_code passes) ((run ++ false ∷ []) ++ (number_bits lblock cleanup ++ last)),
    )

-- All its pieces have at most 174.
block_short : (g : Grid) (blocks : List Block) → IsSmall g → AllByRecursion IsShort blocks → (b : Block) → length (bits_of (block_pieces g (least_choices blocks) blocks b)) ≤ 174
block_short g blocks small short b =
    let lblock = lblock_at blocks (seat_of b) in
    let among = map seat_of (filter (λ (x : Block). x.band == g.band) blocks) in
    let steps = map PlanesPiece (value_steps g (least_planes blocks g.band) among (seat_of b)) in
    let rest = PassesPiece b.passes ∷ LblockPiece lblock ∷ CleanupPiece lblock b.cleanup ∷ (if b.passes == 1 then [] else RefinePiece (refine_width b.passes lblock) b.refine ∷ []) in
    omega (
      arith,
      planes_short g blocks among (seat_of b) small,
      rest_short b.passes lblock b.cleanup b.refine (lblock_short blocks short (seat_of b)),
      ap length (bits_of-append steps rest),
      length-append (bits_of steps) (bits_of rest),
    )

blocks_short : (f : Block → List Piece) → ((b : Block) → length (bits_of (f b)) ≤ 174) → (blocks : List Block) → length (bits_of (flat_map f blocks)) ≤ length blocks * 174
blocks_short f each [] = omega arith
blocks_short f each (b ∷ blocks) =
    omega (arith, each b, blocks_short f each blocks, ap length (bits_of-append (f b) (flat_map f blocks)), length-append (bits_of (f b)) (bits_of (flat_map f blocks)))

-- At most one code-block is at a position.
at_seat : (s : Seat) (b : Block) → stands_at s b ≡ true → s ≡ seat_of b
at_seat s b e =
    let p = and_parts (b.band == s.band) ((b.col == s.col) && (b.row == s.row)) e in
    let q = and_parts (b.col == s.col) (b.row == s.row) p.1 in
    let band : b.band ≡ s.band = equal_number b.band s.band p.0 in
    let col : b.col ≡ s.col = equal_number b.col s.col q.0 in
    let row : b.row ≡ s.row = equal_number b.row s.row q.1 in
    rw (band, col, row) refl

one_at : (s : Seat) (blocks xs : List Block) → AllByRecursion (λ (b : Block). filter (stands_at (seat_of b)) blocks ≡ b ∷ []) xs
    → (length (filter (stands_at s) xs) ≤ 0) ⊎ (length (filter (stands_at s) blocks) ≤ 1)
one_at s blocks [] alone = inl (omega arith)
one_at s blocks (b ∷ xs) alone = elim (cases_Bool (stands_at s b)) [
  | inl t ↦
      let P : Seat → Type 0 = λ at. length (filter (stands_at at) blocks) ≤ 1 in
      inr (subst P (sym (at_seat s b t)) (omega (arith, ap length alone.0)))
  | inr f ↦ rw f (one_at s blocks xs alone.1)
]

few_at : (s : Seat) (blocks : List Block) → StandAlone blocks → length (filter (stands_at s) blocks) ≤ 1
few_at s blocks alone = elim (one_at s blocks blocks alone) [ inl none ↦ omega (arith, none) | inr one ↦ one ]

-- A position has at most 176 bits.
seat_short : (g : Grid) (blocks : List Block) → IsSmall g → AllByRecursion IsShort blocks → StandAlone blocks → (s : Seat) → length (bits_of (seat_pieces g (least_choices blocks) blocks s)) ≤ 176
seat_short g blocks small short alone s =
    let choices = least_choices blocks in
    let first = map InclusionPiece (inclusion_bits g (choices.inclusion g.band) s) in
    let here = filter (stands_at s) blocks in
    let rest = flat_map (block_pieces g choices blocks) here in
    omega (
      arith,
      inclusion_short g (choices.inclusion g.band) s small,
      few_at s blocks alone,
      blocks_short (block_pieces g choices blocks) (block_short g blocks small short) here,
      ap length (bits_of-append first rest),
      length-append (bits_of first) (bits_of rest),
    )

seats_short : (f : Seat → List Piece) → ((s : Seat) → length (bits_of (f s)) ≤ 176) → (ss : List Seat) → length (bits_of (flat_map f ss)) ≤ length ss * 176
seats_short f each [] = omega arith
seats_short f each (s ∷ ss) =
    omega (arith, each s, seats_short f each ss, ap length (bits_of-append (f s) (flat_map f ss)), length-append (bits_of (f s)) (bits_of (flat_map f ss)))

-- A small grid has at most 704.
grid_short : (g : Grid) (blocks : List Block) → IsSmall g → AllByRecursion IsShort blocks → StandAlone blocks → length (bits_of (flat_map (seat_pieces g (least_choices blocks) blocks) (seats g))) ≤ 704
grid_short g blocks small short alone =
    omega (arith, few_seats g small, seats_short (seat_pieces g (least_choices blocks) blocks) (seat_short g blocks small short alone) (seats g))

grids_short : (gs : List Grid) (blocks : List Block) → AllByRecursion IsSmall gs → AllByRecursion IsShort blocks → StandAlone blocks
    → length (bits_of (header_pieces gs (least_choices blocks) blocks)) ≤ length gs * 704
grids_short [] blocks small short alone = omega arith
grids_short (g ∷ gs) blocks small short alone =
    let first = flat_map (seat_pieces g (least_choices blocks) blocks) (seats g) in
    let rest = header_pieces gs (least_choices blocks) blocks in
    omega (
      arith,
      grid_short g blocks small.0 short alone,
      grids_short gs blocks small.1 short alone,
      ap length (bits_of-append first rest),
      length-append (bits_of first) (bits_of rest),
    )

bits_short : (gs : List Grid) (blocks : List Block) → length gs ≤ 3 → AllByRecursion IsSmall gs → AllByRecursion IsShort blocks → StandAlone blocks → length (written_bits gs blocks) ≤ 2113
bits_short gs [] few small short alone = omega arith
bits_short gs (b ∷ more) few small short alone = omega (arith, few, grids_short gs (b ∷ more) small short alone)

-- The header of up to three small grids has at most 2,114 bytes.
pub header_short : (gs : List Grid) (blocks : List Block) → length gs ≤ 3 → AllByRecursion IsSmall gs → AllByRecursion IsShort blocks → StandAlone blocks → length (written_header gs blocks) ≤ 2114
header_short gs blocks few small short alone =
    omega (arith, bits_short gs blocks few small short alone, packed_short (length (written_bits gs blocks)) 0 (written_bits gs blocks))
