-- Code-blocks are taken at their positions, one after another, exactly where they are seated.
use Rattle.std.proofs.Common.{◌≡◌, ◌==◌, ◌&&◌, ◌<◌, ◌≤◌, ◌++◌, ℕ, zero, suc, Bool, true, false, List, [], ◌∷◌, map, drop, length, get_or, Option, Some, None, refl, sym, ◌∙◌, ap, subst, inl, inr, arith, if◌then◌else◌}
use Rattle.std.specs.List.{AllByRecursion, filter, flat_map}
use Rattle.std.proofs.lemmas.Bool.{and_parts}
use Rattle.codestream_model.specs.Values as values
use Rattle.codestream_model.specs.TagTrees.{Seat, seats, seat_of}
use Rattle.codestream_model.specs.HeaderPieces.{stands_at}
use Rattle.codestream_model.specs.PacketHeader.{HaveOwnBands, is_included, AreSeated}
use Rattle.codestream_model.proofs.TreeLemmas.{either, equal_number}
use Rattle.codestream_model.proofs.SeatLemmas.{all-filter, all-map, stands_here}
use Rattle.codestream_model.proofs.WrittenLemmas.{same_seat, IsApart, AreApart, grids_apart}
use Rattle.packet_header.specs.Answers.{block_of}
use Rattle.packet_header.specs.Queues.{TakesAt, IsElsewhere, left_at, passed}
use Rattle.packet_header.specs.declared.block.Block.{Block}

-- positions, and then others
pub passed-append : (xs ys : List Seat) (blocks : List values.Block) → passed (xs ++ ys) blocks ≡ passed ys (passed xs blocks)
passed-append [] ys blocks = refl
passed-append (x ∷ xs) ys blocks = passed-append xs ys (left_at x blocks)

-- what is left after a position
stays : (s : Seat) (blocks : List values.Block) → IsElsewhere s blocks → blocks ≡ left_at s blocks
stays s [] e = refl
stays s (b ∷ more) e = rw e refl

pub left_behind : (s : Seat) (old now : List values.Block) (out : Option Block) → TakesAt s old now out → now ≡ left_at s old
left_behind s old now None t = t.0 ∙ stays s old t.1
left_behind s old now (Some b) t =
    let e : left_at s (block_of b ∷ now) ≡ now = rw t.1 refl in
    sym (ap (left_at s) t.0 ∙ e)

-- a code-block that is at a position has it
pub position_there : (s : Seat) (b : values.Block) → stands_at s b ≡ true → seat_of b ≡ s
position_there s b e =
    let p = and_parts (b.band == s.band) ((b.col == s.col) && (b.row == s.row)) e in
    let q = and_parts (b.col == s.col) (b.row == s.row) p.1 in
    let band : b.band ≡ s.band = equal_number b.band s.band p.0 in
    let col : b.col ≡ s.col = equal_number b.col s.col q.0 in
    let row : b.row ≡ s.row = equal_number b.row s.row q.1 in
    ap (λ (n : ℕ). let u : Seat = record { band = n; col = b.col; row = b.row } in u) band
    ∙ (ap (λ (n : ℕ). let u : Seat = record { band = s.band; col = n; row = b.row } in u) col
    ∙ ap (λ (n : ℕ). let u : Seat = record { band = s.band; col = s.col; row = n } in u) row)

-- a code-block more at none of these positions changes nothing of which are included
others_kept : (b : values.Block) (blocks : List values.Block) (ss : List Seat) → AllByRecursion (λ (t : Seat). stands_at t b ≡ false) ss → filter (is_included (b ∷ blocks)) ss ≡ filter (is_included blocks) ss
others_kept b blocks [] a = refl
others_kept b blocks (s ∷ ss) a = rw (a.0, others_kept b blocks ss a.1) refl

-- code-blocks at other positions aren't at this one
pub not_included : (s : Seat) (blocks : List values.Block) → AllByRecursion (IsApart s) (map seat_of blocks) → is_included blocks s ≡ false
not_included s [] a = refl
not_included s (b ∷ blocks) a = let here : stands_at s b ≡ false = a.0.0 in rw here (not_included s blocks a.1)

-- where all are taken they are seated
taken_one : (s : Seat) (b : values.Block) (blocks : List values.Block) (ss : List Seat) → AllByRecursion (IsApart s) ss → stands_at s b ≡ true → map seat_of blocks ≡ filter (is_included blocks) ss
    → map seat_of (b ∷ blocks) ≡ filter (is_included (b ∷ blocks)) (s ∷ ss)
taken_one s b blocks ss a t m =
    let e : seat_of b ≡ s = position_there s b t in
    let P : Seat → Type 0 = λ u. AllByRecursion (λ (v : Seat). same_seat v u ≡ false) ss in
    let others : AllByRecursion (λ (v : Seat). stands_at v b ≡ false) ss = subst P (sym e) (all-map (IsApart s) (λ (v : Seat). same_seat v s ≡ false) ss (λ v h. h.1) a) in
    rw t (ap (λ (u : Seat). u ∷ map seat_of blocks) e ∙ ap (λ (l : List Seat). s ∷ l) (m ∙ sym (others_kept b blocks ss others)))

left_one : (s : Seat) (blocks : List values.Block) (ss : List Seat) → AllByRecursion (IsApart s) ss → map seat_of blocks ≡ filter (is_included blocks) ss → map seat_of blocks ≡ filter (is_included blocks) (s ∷ ss)
left_one s blocks ss a m =
    let P : List Seat → Type 0 = λ l. AllByRecursion (IsApart s) l in
    let out : is_included blocks s ≡ false = not_included s blocks (subst P (sym m) (all-filter (IsApart s) (is_included blocks) ss a)) in
    rw out m

taken_positions : (ss : List Seat) (blocks : List values.Block) → AreApart ss → passed ss blocks ≡ [] → map seat_of blocks ≡ filter (is_included blocks) ss
taken_positions [] blocks a e = ap (map seat_of) e
taken_positions (s ∷ ss) [] a e = left_one s [] ss a.0 (taken_positions ss [] a.1 e)
taken_positions (s ∷ ss) (b ∷ blocks) a e = elim (either (stands_at s b)) [
  | inl t ↦
      let rest : passed ss blocks ≡ [] = sym (ap (λ (x : Bool). passed ss (if x then blocks else b ∷ blocks)) t) ∙ e in
      taken_one s b blocks ss a.0 t (taken_positions ss blocks a.1 rest)
  | inr t ↦
      let rest : passed ss (b ∷ blocks) ≡ [] = sym (ap (λ (x : Bool). passed ss (if x then blocks else b ∷ blocks)) t) ∙ e in
      left_one s (b ∷ blocks) ss a.0 (taken_positions ss (b ∷ blocks) a.1 rest)
]

-- and where they are seated all are taken
chosen_pass : (p : Seat → Bool) (ss : List Seat) → AllByRecursion (λ (s : Seat). p s ≡ true) (filter p ss)
chosen_pass p [] = tt
chosen_pass p (s ∷ ss) = elim (either (p s)) [ inl t ↦ rw t (t, chosen_pass p ss) | inr t ↦ rw t (chosen_pass p ss) ]

-- what follows of positions at which the first isn't
pub in_order_after : (p : Seat → Bool) (s : Seat) (ss : List Seat) (blocks : List values.Block) → map seat_of blocks ≡ filter p (s ∷ ss) → map seat_of (left_at s blocks) ≡ filter p ss
in_order_after p s ss [] m = elim (either (p s)) [
  | inl t ↦ let no : [] ≡ s ∷ filter p ss = rw t at m in absurd (cc)
  | inr t ↦ rw t at m
]
in_order_after p s ss (b ∷ blocks) m = elim (either (p s)) [
  | inl t ↦
      let both : seat_of b ∷ map seat_of blocks ≡ s ∷ filter p ss = rw t at m in
      let same : s ≡ seat_of b = sym (cc) in
      let rest : map seat_of blocks ≡ filter p ss = cc in
      let P : Seat → Type 0 = λ u. stands_at u b ≡ true in
      let here : stands_at s b ≡ true = subst P (sym same) (stands_here b) in
      rw here rest
  | inr t ↦
      let rest : seat_of b ∷ map seat_of blocks ≡ filter p ss = rw t at m in
      elim (either (stands_at s b)) [
        | inr u ↦ rw u rest
        | inl u ↦
            let P : List Seat → Type 0 = λ l. AllByRecursion (λ (v : Seat). p v ≡ true) l in
            let all = subst P (sym rest) (chosen_pass p ss) in
            let yes : p s ≡ true = sym (ap p (position_there s b u)) ∙ all.0 in
            let no : true ≡ false = sym yes ∙ t in
            absurd (cc)
      ]
]

positions_taken : (p : Seat → Bool) (ss : List Seat) (blocks : List values.Block) → map seat_of blocks ≡ filter p ss → passed ss blocks ≡ []
positions_taken p [] [] m = refl
positions_taken p [] (b ∷ blocks) m = absurd (cc)
positions_taken p (s ∷ ss) blocks m = positions_taken p ss (left_at s blocks) (in_order_after p s ss blocks m)

-- exactly there
pub in_order_if_taken : (gs : List values.Grid) (blocks : List values.Block) → HaveOwnBands gs → passed (flat_map seats gs) blocks ≡ [] → AreSeated gs blocks
in_order_if_taken gs blocks bands e = taken_positions (flat_map seats gs) blocks (grids_apart gs bands) e

pub taken_if_in_order : (gs : List values.Grid) (blocks : List values.Block) → AreSeated gs blocks → passed (flat_map seats gs) blocks ≡ []
taken_if_in_order gs blocks m = positions_taken (is_included blocks) (flat_map seats gs) blocks m

-- a fact of what all items become, of the one at a place
pub each_at : {X Y : Type 0} (P : Y → Type 0) (f : X → Y) (xs : List X) (i : ℕ) (d : X) → i < length xs → AllByRecursion P (map f xs) → P (f (get_or xs i d))
each_at P f [] i d h a = absurd (omega arith)
each_at P f (x ∷ xs) zero d h a = a.0
each_at P f (x ∷ xs) (suc i) d h a = each_at P f xs i d (omega arith) a.1

-- all were taken where none is left
pub none_left : {X Y : Type 0} (f : X → Y) (xs : List X) (i : ℕ) → map f (drop i xs) ≡ [] → length xs ≤ i
none_left f [] i e = omega arith
none_left f (x ∷ xs) zero e = absurd (cc)
none_left f (x ∷ xs) (suc i) e = omega (arith, none_left f xs i e)

pub all_left : {X Y : Type 0} (f : X → Y) (xs : List X) (i : ℕ) → length xs ≤ i → map f (drop i xs) ≡ []
all_left f [] zero h = refl
all_left f [] (suc i) h = refl
all_left f (x ∷ xs) zero h = absurd (omega arith)
all_left f (x ∷ xs) (suc i) h = all_left f xs i (omega arith)
