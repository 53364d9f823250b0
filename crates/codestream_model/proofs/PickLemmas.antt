-- The code-blocks that labels pick are the included ones, in order.
use Rattle.std.proofs.Common.{◌≡◌, ◌≢◌, ◌<◌, ◌≤◌, ◌+◌, ◌==◌, ◌&&◌, ℕ, zero, suc, Bool, true, false, List, [], ◌∷◌, map, refl, sym, ◌∙◌, ap, subst, inl, inr, arith, if◌then◌else◌}
use Rattle.std.specs.List.{AllByRecursion, filter}
use Rattle.std.proofs.lemmas.Bool.Decides.{eqb_tells}
use Rattle.codestream_model.specs.Values.{Grid, Block}
use Rattle.codestream_model.specs.TagTrees.{Seat, IsSeat, Labels, seats, seat_of, label}
use Rattle.codestream_model.specs.HeaderPieces.{stands_at}
use Rattle.codestream_model.specs.PacketHeader.{is_included}
use Rattle.codestream_model.proofs.TreeLemmas.{AreDistinct, either}
use Rattle.codestream_model.proofs.SeatLemmas.{all-behind, row_from, rows_from, stands_here, stands_apart, stands_beside}
use Rattle.codestream_model.proofs.RunSeatsBack.{Picked}

-- picked code-blocks are of the band of the positions
pub picked_band : (labels : Labels) (band : ℕ) (later : List Seat) (left : List Block) → Picked labels later left → AllByRecursion (λ (s : Seat). s.band ≡ band) later → AllByRecursion (λ (s : Seat). s.band ≡ band) (map seat_of left)
picked_band labels band [] left p a = rw p tt
picked_band labels band (s ∷ more) left (inl p) a = picked_band labels band more left p.1 a.1
picked_band labels band (s ∷ more) left (inr (b, others, e, same, zero_is, p)) a = rw e (ap (λ (x : Seat). x.band) same ∙ a.0, picked_band labels band more others p a.1)

-- none of them is at another position
picked_elsewhere : (labels : Labels) (s : Seat) (later : List Seat) (left : List Block) → Picked labels later left → AllByRecursion (λ (t : Seat). ((t.col == s.col) && (t.row == s.row)) ≡ false) later → is_included left s ≡ false
picked_elsewhere labels s [] left p a = rw p refl
picked_elsewhere labels s (t ∷ more) left (inl p) a = picked_elsewhere labels s more left p.1 a.1
picked_elsewhere labels s (t ∷ more) left (inr (b, others, e, same, zero_is, p)) a =
    let P : Seat → Type 0 = λ x. ((x.col == s.col) && (x.row == s.row)) ≡ false in
    let apart : stands_at s b ≡ false = stands_apart s b (subst P (sym same) a.0) in
    rw e (rw apart (picked_elsewhere labels s more others p a.1))

-- of these positions those with label 0 have one
abbrev pub TellsIncluded : Labels → List Block → Seat → Type 0
TellsIncluded labels left s = label labels 0 s ≡ (if is_included left s then 0 else 1)

-- positions beside a code-block
tell_beside : (labels : Labels) (b : Block) (others : List Block) (more : List Seat) → AllByRecursion (λ (t : Seat). ((t.col == b.col) && (t.row == b.row)) ≡ false) more
    → AllByRecursion (TellsIncluded labels others) more → AllByRecursion (TellsIncluded labels (b ∷ others)) more
tell_beside labels b others [] d a = tt
tell_beside labels b others (t ∷ more) d a =
    let apart : stands_at t b ≡ false = stands_beside t b d.0 in
    (rw apart a.0, tell_beside labels b others more d.1 a.1)

pub picked_tells : (labels : Labels) (later : List Seat) (left : List Block) → AreDistinct later → Picked labels later left → AllByRecursion (TellsIncluded labels left) later
picked_tells labels [] left d p = tt
picked_tells labels (s ∷ more) left d (inl p) = (rw (picked_elsewhere labels s more left p.1 d.0) p.0, picked_tells labels more left d.1 p.1)
picked_tells labels (s ∷ more) left d (inr (b, others, e, same, zero_is, p)) =
    let here : stands_at s b ≡ true = let P : Seat → Type 0 = λ x. stands_at x b ≡ true in subst P same (stands_here b) in
    let P : Seat → Type 0 = λ x. AllByRecursion (λ (t : Seat). ((t.col == x.col) && (t.row == x.row)) ≡ false) more in
    let rest = tell_beside labels b others more (subst P (sym same) d.0) (picked_tells labels more others d.1 p) in
    let first : TellsIncluded labels (b ∷ others) s = rw here zero_is in
    let Q : List Block → Type 0 = λ l. AllByRecursion (TellsIncluded labels l) (s ∷ more) in
    subst Q (sym e) (first, rest)

-- and those that have one are the positions of the code-blocks, if these tell which are included
pub picked_seats : (labels : Labels) (blocks : List Block) (later : List Seat) (left : List Block) → AllByRecursion (TellsIncluded labels blocks) later → Picked labels later left → map seat_of left ≡ filter (is_included blocks) later
picked_seats labels blocks [] left t p = rw p refl
picked_seats labels blocks (s ∷ more) left t (inl p) = elim (either (is_included blocks s)) [
  | inl i ↦ let c : ◌≡◌ {A = ℕ} 1 0 = sym p.0 ∙ (t.0 ∙ ap (λ (b : Bool). if b then 0 else 1) i) in absurd (omega arith)
  | inr i ↦ rw i (picked_seats labels blocks more left t.1 p.1)
]
picked_seats labels blocks (s ∷ more) left t (inr (b, others, e, same, zero_is, p)) = elim (either (is_included blocks s)) [
  | inl i ↦ rw (e, i) (let q : map seat_of others ≡ filter (is_included blocks) more = picked_seats labels blocks more others t.1 p in rw (same, q) refl)
  | inr i ↦ let c : ◌≡◌ {A = ℕ} 0 1 = sym zero_is ∙ (t.0 ∙ ap (λ (b : Bool). if b then 0 else 1) i) in absurd (omega arith)
]

-- a fact of all positions of a grid, of one of them
row_member : (P : Seat → Type 0) (band row col n c : ℕ) → AllByRecursion P (row_from band row col n) → col ≤ c → c < col + n → P (record { band = band; col = c; row = row })
row_member P band row col zero c a low high = absurd (omega arith)
row_member P band row col (suc n) c a low high = elim (eqb_tells col c) [
  | inl t ↦ let Q : ℕ → Type 0 = λ k. P (record { band = band; col = k; row = row }) in subst Q t.1 a.0
  | inr t ↦ let ne : col ≢ c = t.1 in row_member P band row (col + 1) n c a.1 (omega arith) (omega arith)
]

rows_member : (P : Seat → Type 0) (band cols row n c r : ℕ) → AllByRecursion P (rows_from band cols row n) → c < cols → row ≤ r → r < row + n → P (record { band = band; col = c; row = r })
rows_member P band cols row zero c r a h low high = absurd (omega arith)
rows_member P band cols row (suc n) c r a h low high =
    let parts = all-behind P (row_from band row 0 cols) (rows_from band cols (row + 1) n) a in
    elim (eqb_tells row r) [
      | inl t ↦ let Q : ℕ → Type 0 = λ k. P (record { band = band; col = c; row = k }) in subst Q t.1 (row_member P band row 0 cols c parts.0 (omega arith) (omega arith))
      | inr t ↦ let ne : row ≢ r = t.1 in rows_member P band cols (row + 1) n c r parts.1 h (omega arith) (omega arith)
    ]

pub seat_member : (P : Seat → Type 0) (g : Grid) (s : Seat) → AllByRecursion P (seats g) → IsSeat g s → P s
seat_member P g s a i =
    let p = rows_member P g.band g.cols 0 g.rows s.col s.row a i.col (omega arith) (omega (arith, i.row)) in
    let Q : ℕ → Type 0 = λ k. P (record { band = k; col = s.col; row = s.row }) in
    subst Q (sym i.band) p
