-- Packet headers of many code-blocks of the greatest cleanup length, in one row: how many bits they have.
use Rattle.std.proofs.Common.{◌≡◌, ◌≤◌, ◌<◌, ◌+◌, ◌*◌, ◌-◌, ◌==◌, ◌&&◌, if◌then◌else◌, ℕ, zero, suc, Bool, true, false, List, [], ◌∷◌, ◌++◌, length, map, drop, replicate, subst, refl, sym, ◌∙◌, ap, inl, inr, arith}
use Rattle.std.specs.List.{AllByRecursion, filter, flat_map, list_any, range_with_len}
use Rattle.std.proofs.lemmas.Bool.{cases_Bool, cases_lt, eq-eqb, ne_eqb}
use Rattle.std.proofs.lemmas.List.{append-nil, length-append, length-drop}
use Rattle.codestream_model.specs.Values.{Grid, Block}
use Rattle.codestream_model.specs.StuffedBits.{number_bits, number_of, width_after, carried_after, Packs, packed_after, packing}
use Rattle.codestream_model.specs.TagTrees.{Seat, IsSeat, Step, seats, seat_of, root_level, levels_from, label, parent_label, met_first, is_first, inclusion_bits, value_steps}
use Rattle.codestream_model.specs.HeaderPieces.{Piece, InclusionPiece, PlanesPiece, PassesPiece, LblockPiece, CleanupPiece, bits_of, Choices, block_pieces, seat_pieces, header_pieces, stands_at}
use Rattle.codestream_model.specs.PacketHeader.{AreSeated, CanSay, FitLengths, HeaderBits, IsWithinLimits, is_included}
use Rattle.codestream_model.proofs.TreeLemmas.{and_false}
use Rattle.codestream_model.proofs.StopLemmas.{bits_of-append}
use Rattle.codestream_model.proofs.PackingLemmas.{width-ge, width_cases}
use Rattle.codestream_model.proofs.BitLemmas.{number_bits-length}

-- The grid of n code-blocks beside one another.
abbrev pub row : ℕ → List Grid
row n = record { band = 0; cols = n; rows = 1 } ∷ []

-- A code-block of the greatest cleanup length.
abbrev pub longest : ℕ → Block
longest col = record { band = 0; col = col; row = 0; planes = 0; passes = 1; cleanup = 65534; refine = 0 }

-- One such code-block in each column.
abbrev pub all_longest : ℕ → List Block
all_longest n = map longest (range_with_len 0 n)

-- The position of a column.
abbrev seat_at : ℕ → Seat
seat_at col = record { band = 0; col = col; row = 0 }

-- Labels that are all 0, and an Lblock that fits the lengths.
abbrev zeros : Choices
zeros = record { inclusion = λ band level col row. 0; planes = λ band level col row. 0; lblock = λ s. 16 }

-- What holds of the code-block of any column holds of each of them.
each : (P : Block → Type 0) → ((col : ℕ) → P (longest col)) → (from n : ℕ) → AllByRecursion P (map longest (range_with_len from n))
each P f from zero = tt
each P f from (suc n) = (f from, each P f (from + 1) n)

-- A code-block of another column isn't at a position.
other_column : (s : Seat) (col : ℕ) → (col ≡ s.col → ⊥) → stands_at s (longest col) ≡ false
other_column s col ne = rw (ne_eqb col s.col ne) (and_false (0 == s.band))

-- None of the code-blocks of later columns is at a position.
none_behind : (s : Seat) (from n : ℕ) → s.col < from → filter (stands_at s) (map longest (range_with_len from n)) ≡ []
none_behind s from zero lt = refl
none_behind s from (suc n) lt = rw (other_column s from (λ e. omega (arith, e, lt))) (none_behind s (from + 1) n (omega (arith, lt)))

-- The code-block of its column is at a position.
same_column : (col : ℕ) → stands_at (seat_at col) (longest col) ≡ true
same_column col = rw (eq-eqb col col refl) refl

-- Exactly one code-block is at a position of the row.
alone : (col from n : ℕ) → from ≤ col → col < from + n → filter (stands_at (seat_at col)) (map longest (range_with_len from n)) ≡ longest col ∷ []
alone col from zero low high = absurd (omega (arith, low, high))
alone col from (suc n) low high = elim (cases_lt from col) [
  | inl less ↦ rw (other_column (seat_at col) from (λ e. omega (arith, e, less))) (alone col (from + 1) n (omega (arith, less)) (omega (arith, high)))
  | inr more ↦
      let here : from ≡ col = omega (arith, low, more) in
      let P : ℕ → Type 0 = λ k. filter (stands_at (seat_at col)) (map longest (range_with_len k (suc n))) ≡ longest col ∷ [] in
      subst P (sym here) (rw (same_column col) (ap (λ (l : List Block). longest col ∷ l) (none_behind (seat_at col) (col + 1) n (omega arith))))
]

-- Where `filter` leaves an item, `list_any` finds one.
one_met : (p : Block → Bool) (xs ys : List Block) (y : Block) → filter p xs ≡ y ∷ ys → list_any p xs ≡ true
one_met p [] ys y e = absurd (cc)
one_met p (x ∷ xs) ys y e = elim (cases_Bool (p x)) [
  | inl t ↦ rw t refl
  | inr f ↦ rw f (one_met p xs ys y (rw f at e))
]

-- Each position has an included code-block.
included : (n col : ℕ) → col < n → is_included (all_longest n) (seat_at col) ≡ true
included n col lt = one_met (stands_at (seat_at col)) (all_longest n) [] (longest col) (alone col 0 n (omega arith) (omega (arith, lt)))

-- The positions of the row.
seats_are : (n : ℕ) → seats (record { band = 0; cols = n; rows = 1 }) ≡ map seat_at (range_with_len 0 n)
seats_are n = append-nil (map seat_at (range_with_len 0 n))

-- `filter` keeps all positions where the test holds of each.
all_taken : (p : Seat → Bool) (from n : ℕ) → ((col : ℕ) → from ≤ col → col < from + n → p (seat_at col) ≡ true) → filter p (map seat_at (range_with_len from n)) ≡ map seat_at (range_with_len from n)
all_taken p from zero f = refl
all_taken p from (suc n) f =
    rw (f from (omega arith) (omega arith)) (ap (λ (l : List Seat). seat_at from ∷ l) (all_taken p (from + 1) n (λ col low high. f col (omega (arith, low)) (omega (arith, high)))))

-- The code-blocks are at these positions.
their_seats : (from n : ℕ) → map seat_of (map longest (range_with_len from n)) ≡ map seat_at (range_with_len from n)
their_seats from zero = refl
their_seats from (suc n) = ap (λ (l : List Seat). seat_at from ∷ l) (their_seats (from + 1) n)

-- The code-blocks come in header order.
pub seated : (n : ℕ) → AreSeated (row n) (all_longest n)
seated n =
    let all : flat_map seats (row n) ≡ map seat_at (range_with_len 0 n) = append-nil (seats (record { band = 0; cols = n; rows = 1 })) ∙ seats_are n in
    their_seats 0 n ∙ sym (ap (filter (is_included (all_longest n))) all ∙ all_taken (is_included (all_longest n)) 0 n (λ col low high. included n col (omega (arith, high))))

-- A header can say them.
can_say : (n : ℕ) → CanSay (row n) zeros (all_longest n)
can_say n = record {
  seated = seated n;
  inclusion = (record { never_falls = λ s level i h. omega arith; leaves = leaf }, tt);
  planes = (record { never_falls = λ s level i h. omega arith; leaves = each (λ b. b.band ≡ 0 → ◌≡◌ {A = ℕ} 0 b.planes) (λ col e. refl) 0 n }, tt);
  passes = each (λ b. (1 ≤ b.passes) × (b.passes ≤ 6)) (λ col. (omega arith, omega arith)) 0 n;
  lengths = each (λ b. FitLengths 16 b) (λ col. record { least = omega arith; cleanup = omega arith; refine = λ ne. absurd (ne refl); none = λ e. refl }) 0 n;
} where
  leaf : (s : Seat) → IsSeat (record { band = 0; cols = n; rows = 1 }) s → ◌≡◌ {A = ℕ} 0 (if is_included (all_longest n) s then 0 else 1)
  leaf s i =
      let top : s.row ≡ 0 = omega (arith, i.row) in
      let at : s ≡ seat_at s.col = rw (i.band, top) refl in
      let t : is_included (all_longest n) s ≡ true = ap (is_included (all_longest n)) at ∙ included n s.col i.col in
      rw t refl

-- The bits of their header.
abbrev pub long_bits : ℕ → List Bool
long_bits n = true ∷ bits_of (header_pieces (row n) zeros (all_longest n))

-- These bits are a header's.
pub long_header : (n : ℕ) → HeaderBits (row n) (all_longest n) (long_bits n)
long_header n = inr (record {
  choices = zeros;
  can_say = can_say n;
  limits = each IsWithinLimits (λ col. record { planes = omega arith; some_passes = omega arith; few_passes = omega arith; some_cleanup = omega arith; short_cleanup = omega arith; short_refine = omega arith; no_refine = λ e. refl }) 0 n;
  lblocks = each (λ b. 16 ≤ 24) (λ col. omega arith) 0 n;
  whole = refl;
})

-- A filtered list is no longer than the list.
filter_short : {X : Type 0} (p : X → Bool) (xs : List X) → length (filter p xs) ≤ length xs
filter_short p [] = omega arith
filter_short p (x ∷ xs) = elim (cases_Bool (p x)) [
  | inl t ↦ rw t (omega (arith, filter_short p xs))
  | inr f ↦ rw f (omega (arith, filter_short p xs))
]

-- The levels of the row's trees.
abbrev pub depth : ℕ → ℕ
depth n = length (levels_from (root_level (record { band = 0; cols = n; rows = 1 })))

-- Each piece of the inclusion tree has one bit.
inclusion_length : (xs : List Bool) → length (bits_of (map InclusionPiece xs)) ≡ length xs
inclusion_length [] = refl
inclusion_length (x ∷ xs) = ap suc (inclusion_length xs)

-- An inclusion tree has at most one such bit at each level.
one_each : (p q : ℕ → Bool) (levels : List ℕ) → length (flat_map (λ level. if p level then q level ∷ [] else []) levels) ≤ length levels
one_each p q [] = omega arith
one_each p q (level ∷ levels) = elim (cases_Bool (p level)) [
  | inl t ↦ rw t (omega (arith, one_each p q levels))
  | inr f ↦ rw f (omega (arith, one_each p q levels))
]

-- A step of the value tree to the label 0 has one bit.
step_bits : (from : ℕ → ℕ) (levels : List ℕ) → length (bits_of (map PlanesPiece (map (λ level. record { from = from level; to = 0 }) levels))) ≡ length levels
step_bits from [] = refl
step_bits from (level ∷ levels) =
    let none : 0 - from level ≡ 0 = omega arith in
    rw none (ap suc (step_bits from levels))

-- The pieces of a code-block after those of its trees.
abbrev tail : List Piece
tail = PassesPiece 1 ∷ LblockPiece 16 ∷ CleanupPiece 16 65534 ∷ []

-- These pieces have 31 bits.
tail_length : length (bits_of tail) ≡ 31
unfolding number_bits
tail_length = refl

-- A position has at least 31 bits, and at most two more for each level.
seat_length : (n col : ℕ) → col < n
    → let m = length (bits_of (seat_pieces (record { band = 0; cols = n; rows = 1 }) zeros (all_longest n) (seat_at col))) in (31 ≤ m) × (m ≤ 31 + 2 * depth n)
seat_length n col lt =
    let g : Grid = record { band = 0; cols = n; rows = 1 } in
    let blocks = all_longest n in
    let s = seat_at col in
    let among = map seat_of (filter (λ (x : Block). x.band == 0) blocks) in
    let first = map InclusionPiece (inclusion_bits g (zeros.inclusion 0) s) in
    let steps = map PlanesPiece (value_steps g (zeros.planes 0) among s) in
    let is : seat_pieces g zeros blocks s ≡ first ++ (steps ++ tail) =
    ap (λ (l : List Block). first ++ flat_map (block_pieces g zeros blocks) l) (alone col 0 n (omega arith) (omega (arith, lt))) ∙ ap (λ (l : List Piece). first ++ l) (append-nil (steps ++ tail)) in
    let bits : bits_of (seat_pieces g zeros blocks s) ≡ bits_of first ++ (bits_of steps ++ bits_of tail) =
    ap bits_of is ∙ (bits_of-append first (steps ++ tail) ∙ ap (λ (l : List Bool). bits_of first ++ l) (bits_of-append steps tail)) in
    let a : length (bits_of first) ≤ length (met_first g s (seats g)) =
    rw (inclusion_length (inclusion_bits g (zeros.inclusion 0) s)) (one_each (λ level. parent_label g (zeros.inclusion 0) level s == 0) (λ level. label (zeros.inclusion 0) level s == 0) (met_first g s (seats g))) in
    let b : length (bits_of steps) ≡ length (met_first g s among) = step_bits (λ level. parent_label g (zeros.planes 0) level s) (met_first g s among) in (
      omega (arith, ap length bits, length-append (bits_of first) (bits_of steps ++ bits_of tail), length-append (bits_of steps) (bits_of tail), tail_length),
      omega (
        arith,
        a,
        b,
        ap length bits,
        length-append (bits_of first) (bits_of steps ++ bits_of tail),
        length-append (bits_of steps) (bits_of tail),
        tail_length,
        filter_short (λ level. is_first level s (seats g)) (levels_from (root_level g)),
        filter_short (λ level. is_first level s among) (levels_from (root_level g)),
      ),
    )

-- The bits of positions in a row.
abbrev row_bits : ℕ → ℕ → ℕ → List Bool
row_bits n from m = bits_of (flat_map (seat_pieces (record { band = 0; cols = n; rows = 1 }) zeros (all_longest n)) (map seat_at (range_with_len from m)))

-- One more position adds its bits.
row_more : (n from m : ℕ) → length (row_bits n from (suc m)) ≡ length (bits_of (seat_pieces (record { band = 0; cols = n; rows = 1 }) zeros (all_longest n) (seat_at from))) + length (row_bits n (from + 1) m)
row_more n from m =
    let f = seat_pieces (record { band = 0; cols = n; rows = 1 }) zeros (all_longest n) in
    ap length (bits_of-append (f (seat_at from)) (flat_map f (map seat_at (range_with_len (from + 1) m)))) ∙ length-append (bits_of (f (seat_at from))) (row_bits n (from + 1) m)

-- Each position has at least 31 bits.
row_least : (n from m : ℕ) → from + m ≤ n → m * 31 ≤ length (row_bits n from m)
row_least n from zero fits = omega arith
row_least n from (suc m) fits = omega (arith, (seat_length n from (omega (arith, fits))).0, row_least n (from + 1) m (omega (arith, fits)), row_more n from m)

-- Each position has at most 51 bits where the trees have at most ten levels.
row_most : (n from m : ℕ) → depth n ≤ 10 → from + m ≤ n → length (row_bits n from m) ≤ m * 51
row_most n from zero low fits = omega arith
row_most n from (suc m) low fits = omega (arith, low, (seat_length n from (omega (arith, fits))).1, row_most n (from + 1) m low (omega (arith, fits)), row_more n from m)

-- The header's bits are the first one and those of the positions.
all_bits : (n : ℕ) → length (long_bits n) ≡ suc (length (row_bits n 0 n))
all_bits n =
    let f = seat_pieces (record { band = 0; cols = n; rows = 1 }) zeros (all_longest n) in
    ap (λ (l : List Piece). suc (length (bits_of l))) (append-nil (flat_map f (seats (record { band = 0; cols = n; rows = 1 }))) ∙ ap (flat_map f) (seats_are n))

-- The header has at least 31 bits a code-block.
pub least_length : (n : ℕ) → n * 31 ≤ length (long_bits n)
least_length n = omega (arith, all_bits n, row_least n 0 n (omega arith))

-- The header has at most 51 bits a code-block, and one, where the trees have at most ten levels.
pub most_length : (n : ℕ) → depth n ≤ 10 → length (long_bits n) ≤ n * 51 + 1
most_length n low = omega (arith, all_bits n, row_most n 0 n low (omega arith))

-- Packed bits are at most one byte more than bits.
pub packed_short : (room before : ℕ) (bits : List Bool) → length (packed_after room before bits) ≤ length bits + 1
unfolding packed_after
packed_short room before [] = closing (before == 255) where
  closing : (b : Bool) → length {A = ℕ} (if b then 0 ∷ [] else []) ≤ 1
  closing true = omega arith
  closing false = omega arith
packed_short zero before (b ∷ bits) = omega arith
packed_short (suc room) before (b ∷ bits) =
    let n = number_of (width_after before) (b ∷ bits) in
    let rest = drop (width_after before) (b ∷ bits) in
    omega (arith, packed_short room n rest, length-drop (width_after before) (b ∷ bits), width-ge before)

-- Bytes carry at most eight bits each.
carried_few : (before : ℕ) (bytes : List ℕ) → length (carried_after before bytes) ≤ 8 * length bytes
unfolding carried_after
carried_few before [] = omega arith
carried_few before (b ∷ bytes) =
    let l = length-append (number_bits (width_after before) b) (carried_after b bytes) in
    let n = number_bits-length (width_after before) b in
    elim (width_cases before) [
      | inl t ↦ omega (arith, l, n, t.1, carried_few b bytes)
      | inr t ↦ omega (arith, l, n, t.1, carried_few b bytes)
    ]

-- So packed bits take at least one byte for eight of them.
pub packed_long : (bits : List Bool) (bytes : List ℕ) → Packs bits bytes → length bits ≤ 8 * length bytes
packed_long bits bytes p =
    omega (arith, carried_few 0 (p.front ++ p.last ∷ []), ap length p.filled, length-append bits p.pad, ap length p.whole, length-append p.front (p.last ∷ p.closing), length-append p.front (p.last ∷ []))
