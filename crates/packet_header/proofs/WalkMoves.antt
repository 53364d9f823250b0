-- The positions of a grid, one after another.
use Rattle.std.proofs.Common.{◌≡◌, ◌<◌, ◌≤◌, ◌+◌, ◌-◌, ◌++◌, ℕ, zero, suc, Bool, true, false, List, [], ◌∷◌, map, nat_lt, Err, refl, sym, ◌∙◌, ap, subst, inl, inr, arith, append_assoc}
use Rattle.std.specs.List.{flat_map, range_with_len}
use Rattle.std.proofs.lemmas.Bool.{le-leb, lt-leb}
use Rattle.std.proofs.lemmas.Bool.Decides.{leb_tells}
use Rattle.std.proofs.lemmas.List.{append-nil, map-append}
use Rattle.codestream_model.specs.Values as values
use Rattle.codestream_model.specs.StuffedBits.{packed_bits}
use Rattle.codestream_model.specs.TagTrees.{Seat, seats}
use Rattle.codestream_model.specs.PacketHeaderReading.{Read, Got, AtEnd, Refused, Node, read_seats}
use Rattle.packet_header.specs.Answers.{block_of}
use Rattle.packet_header.specs.Moves.{HasGiven, all_of, bits_after, IsStop}
use Rattle.packet_header.specs.Positions.{KnowsBoth, rest_at, ahead, ReadAt, ReadsAt}
use Rattle.packet_header.specs.Walks.{walk_rest, positions_from, WalkWent, Walks}
use Rattle.packet_header.specs.declared.block.Block.{Block}
use Rattle.stuffed_bits.specs.declared.source.Source.{Source}
use Rattle.packet_header.specs.declared.grids.TagTrees.{TagTrees}
use Rattle.packet_header.specs.declared.step.Step.{Step}
use Rattle.packet_header.specs.declared.step.Step.TheVariants.{Inclusion}
use Rattle.packet_header.specs.declared.refusal.HeaderStop.{HeaderStop}
use Rattle.packet_header.proofs.Moving.{same_stop, stops_then, left_behind}

-- before the first step of the first position
pub walk_begins : (levels : List ℕ) (left : List Seat) (nodes others : List Node) (l : List Bool) → read_seats levels left nodes others l ≡ walk_rest levels left nodes others Inclusion l
unfolding read_seats
walk_begins levels [] nodes others l = refl
walk_begins levels (s ∷ more) nodes others l = refl

-- code-blocks ahead of code-blocks
pub twice_ahead : (xs ys : List values.Block) (r : Read (List values.Block)) → ahead xs (ahead ys r) ≡ ahead (xs ++ ys) r
twice_ahead xs ys (Got zs l) = ap (λ (b : List values.Block). Got b l) (sym (append_assoc xs ys zs))
twice_ahead xs ys AtEnd = refl
twice_ahead xs ys (Refused why) = refl

pub none_ahead : (r : Read (List values.Block)) → r ≡ ahead [] r
none_ahead (Got x l) = refl
none_ahead AtEnd = refl
none_ahead (Refused why) = refl

-- a position, and then the further ones
pub walk_at : (levels : List ℕ) (s : Seat) (more : List Seat) (nodes others : List Node) (t : TagTrees) (step : Step) (before : List ℕ) (done : List Bool) (new : Source) (held now : List Block) → ReadAt levels s nodes others t step before done new held now
    → WalkWent levels (s ∷ more) more nodes others t step Inclusion before done new held now
walk_at levels s more nodes others t step before done new held now r = record {
  known = r.known;
  known_others = r.known_others;
  knows = r.knows;
  added = r.added;
  grown = r.grown;
  bits = r.bits;
  holds = r.holds;
  goes_on = λ further. r.goes_on more further ∙ ap (ahead (map block_of r.added)) (walk_begins levels more r.known r.known_others further);
}

-- a part of a walk, and a further one
pub walk_on : (levels : List ℕ) (left mid_left now_left : List Seat) (nodes others : List Node) (t u : TagTrees) (step mid_step at : Step) (before : List ℕ) (done : List Bool) (mid new : Source) (held mid_held now : List Block)
    → (w : WalkWent levels left mid_left nodes others t step mid_step before done mid held mid_held) → WalkWent levels mid_left now_left w.known w.known_others u mid_step at before (done ++ w.bits) new mid_held now
    → WalkWent levels left now_left nodes others u step at before done new held now
walk_on levels left mid_left now_left nodes others t u step mid_step at before done mid new held mid_held now w r =
    let P : List Bool → Type 0 = λ l. HasGiven before l new in
    let rest : List Bool → Read (List values.Block) = λ l. walk_rest levels now_left r.known r.known_others at l in
    record {
      known = r.known;
      known_others = r.known_others;
      knows = r.knows;
      added = w.added ++ r.added;
      grown = r.grown ∙ (ap (λ (l : List Block). l ++ r.added) w.grown ∙ append_assoc held w.added r.added);
      bits = w.bits ++ r.bits;
      holds = subst P (append_assoc done w.bits r.bits) r.holds;
      goes_on = λ further.
          ap (walk_rest levels left nodes others step) (append_assoc w.bits r.bits further)
          ∙ (w.goes_on (r.bits ++ further)
          ∙ (ap (ahead (map block_of w.added)) (r.goes_on further)
          ∙ (twice_ahead (map block_of w.added) (map block_of r.added) (rest further) ∙ ap (λ (b : List values.Block). ahead b (rest further)) (sym (map-append block_of w.added r.added)))));
    }

-- and one that stops
pub walk_stops : (levels : List ℕ) (left mid_left now_left : List Seat) (nodes others : List Node) (t u : TagTrees) (step mid_step at : Step) (before : List ℕ) (done : List Bool) (old mid new : Source) (held mid_held now : List Block) (stopped : HeaderStop) → mid.piece.now ≡ old.piece.now
    → (w : WalkWent levels left mid_left nodes others t step mid_step before done mid held mid_held) → Walks levels mid_left now_left w.known w.known_others u mid_step at before (done ++ w.bits) mid new mid_held now (Err stopped)
    → Walks levels left now_left nodes others u step at before done old new held now (Err stopped)
unfolding walk_on
walk_stops levels left mid_left now_left nodes others t u step mid_step at before done old mid new held mid_held now stopped same w r =
    let l = bits_after done (all_of before old) in
    let m = bits_after (done ++ w.bits) (all_of before mid) in
    let inner = walk_rest levels mid_left w.known w.known_others mid_step m in
    let e : walk_rest levels left nodes others step l ≡ ahead (map block_of w.added) inner = ap (walk_rest levels left nodes others step) (left_behind before done w.bits old mid same w.holds) ∙ w.goes_on m in
    let Q : List ℕ → Type 0 = λ k. IsStop inner (packed_bits (before ++ k)).broken_at stopped in
    let broken = (packed_bits (all_of before old)).broken_at in (
      same_stop (walk_rest levels left nodes others step l) (ahead (map block_of w.added) inner) broken stopped e (stops_then inner (λ xs k. Got (map block_of w.added ++ xs) k) broken stopped (subst Q same r.0)),
      λ n. let q = r.1 n in (q.0, (walk_on levels left mid_left now_left nodes others t u step mid_step at before done mid new held mid_held now w q.1.0, q.1.1)),
    )

-- a position's part of the walk that stops
pub stops_at : (levels : List ℕ) (s : Seat) (more : List Seat) (nodes others : List Node) (t : TagTrees) (step at : Step) (before : List ℕ) (done : List Bool) (old new : Source) (held now : List Block) (stopped : HeaderStop)
    → ReadsAt levels s nodes others t step at before done old new held now (Err stopped) → Walks levels (s ∷ more) (s ∷ more) nodes others t step at before done old new held now (Err stopped)
stops_at levels s more nodes others t step at before done old new held now stopped r = (
  r.0 more,
  λ n.
      let q = r.1 n in
      let b = q.0 in (
        b.whole,
        (
          record {
            known = b.known;
            known_others = b.known_others;
            knows = b.knows;
            added = [];
            grown = q.1 ∙ sym (append-nil held);
            bits = b.bits;
            holds = b.holds;
            goes_on = λ further. b.goes_on more further ∙ none_ahead (rest_at levels s more b.known b.known_others at further);
          },
          b.unread,
        ),
      ),
)

-- a position and the next place in its row, or in the next row
pub next_in_row : (g : values.Grid) (row col : ℕ) → row < g.rows → col + 1 < g.cols → positions_from g row col ≡ record { band = g.band; col = col; row = row } ∷ positions_from g row (col + 1)
next_in_row g row col h c =
    let t : nat_lt row g.rows ≡ true = le-leb (suc row) g.rows (omega arith) in
    let e : g.cols - col ≡ suc (g.cols - (col + 1)) = omega arith in
    rw (t, e) refl

-- the rows after one
rows_behind : (g : values.Grid) (row : ℕ) → flat_map (λ r. map (λ c. record { band = g.band; col = c; row = r }) (range_with_len 0 g.cols)) (range_with_len (row + 1) (g.rows - (row + 1))) ≡ positions_from g (row + 1) 0
rows_behind g row = elim (leb_tells (suc (row + 1)) g.rows) [
  | inl t ↦
      let d : g.rows - (row + 1) ≡ suc (g.rows - (row + 1 + 1)) = omega (arith, t.1) in
      let z : g.cols - 0 ≡ g.cols = omega arith in
      rw (t.0, d, z) refl
  | inr t ↦ let d : g.rows - (row + 1) ≡ zero = omega (arith, t.1) in rw (t.0, d) refl
]

pub next_row : (g : values.Grid) (row col : ℕ) → row < g.rows → col + 1 ≡ g.cols → positions_from g row col ≡ record { band = g.band; col = col; row = row } ∷ positions_from g (row + 1) 0
next_row g row col h c =
    let t : nat_lt row g.rows ≡ true = le-leb (suc row) g.rows (omega arith) in
    let e : g.cols - col ≡ suc zero = omega arith in
    let s : Seat = record { band = g.band; col = col; row = row } in
    let own : positions_from g row col ≡ s ∷ flat_map (λ r. map (λ c. record { band = g.band; col = c; row = r }) (range_with_len 0 g.cols)) (range_with_len (row + 1) (g.rows - (row + 1))) = rw (t, e) refl in
    own ∙ ap (λ (l : List Seat). s ∷ l) (rows_behind g row)

-- all positions of a grid
pub all_positions : (g : values.Grid) → seats g ≡ positions_from g 0 0
all_positions g = elim (leb_tells (suc 0) g.rows) [
  | inl t ↦
      let d : g.rows ≡ suc (g.rows - (0 + 1)) = omega (arith, t.1) in
      let z : g.cols - 0 ≡ g.cols = omega arith in
      let F : ℕ → List Seat = λ n. flat_map (λ r. map (λ c. record { band = g.band; col = c; row = r }) (range_with_len 0 g.cols)) (range_with_len 0 n) in
      ap F d ∙ rw (t.0, z) refl
  | inr t ↦ let d : g.rows ≡ zero = omega (arith, t.1) in let F : ℕ → List Seat = λ n. flat_map (λ r. map (λ c. record { band = g.band; col = c; row = r }) (range_with_len 0 g.cols)) (range_with_len 0 n) in ap F d ∙ rw t.0 refl
]

-- no positions after the last row
pub none_behind : (g : values.Grid) (row col : ℕ) → g.rows ≤ row → positions_from g row col ≡ []
none_behind g row col h = let t : nat_lt row g.rows ≡ false = lt-leb (suc row) g.rows (omega arith) in rw t refl

-- no position yet
pub walk_none : (levels : List ℕ) (left : List Seat) (nodes others : List Node) (t : TagTrees) (step : Step) (before : List ℕ) (done : List Bool) (s : Source) (held : List Block) → KnowsBoth t nodes others → HasGiven before done s
    → WalkWent levels left left nodes others t step step before done s held held
walk_none levels left nodes others t step before done s held k h =
    let P : List Bool → Type 0 = λ l. HasGiven before l s in
    record {
      known = nodes;
      known_others = others;
      knows = k;
      added = [];
      grown = sym (append-nil held);
      bits = [];
      holds = subst P (sym (append-nil done)) h;
      goes_on = λ further. none_ahead (walk_rest levels left nodes others step further);
    }

-- one position more
pub walk_step : (levels : List ℕ) (s : Seat) (first left next : List Seat) (nodes others : List Node) (t u : TagTrees) (step mid_step at : Step) (before : List ℕ) (done : List Bool) (mid new : Source) (held mid_held now : List Block) → left ≡ s ∷ next → at ≡ Inclusion
    → (w : WalkWent levels first left nodes others t step mid_step before done mid held mid_held) → ReadAt levels s w.known w.known_others u mid_step before (done ++ w.bits) new mid_held now
    → WalkWent levels first next nodes others u step at before done new held now
walk_step levels s first left next nodes others t u step mid_step at before done mid new held mid_held now e z w r =
    let P : List Seat → Type 0 = λ l. WalkWent levels l next w.known w.known_others u mid_step Inclusion before (done ++ w.bits) new mid_held now in
    let Q : Step → Type 0 = λ x. WalkWent levels first next nodes others u step x before done new held now in
    subst Q (sym z) (walk_on levels first left next nodes others t u step mid_step Inclusion before done mid new held mid_held now w
    (subst P (sym e) (walk_at levels s next w.known w.known_others u mid_step before (done ++ w.bits) new mid_held now r)))

-- one position that stops
pub walk_halts : (levels : List ℕ) (s : Seat) (first left next : List Seat) (nodes others : List Node) (t u : TagTrees) (step mid_step at : Step) (before : List ℕ) (done : List Bool) (old mid new : Source) (held mid_held now : List Block) (stopped : HeaderStop) → left ≡ s ∷ next → mid.piece.now ≡ old.piece.now
    → (w : WalkWent levels first left nodes others t step mid_step before done mid held mid_held) → ReadsAt levels s w.known w.known_others u mid_step at before (done ++ w.bits) mid new mid_held now (Err stopped)
    → Walks levels first left nodes others u step at before done old new held now (Err stopped)
walk_halts levels s first left next nodes others t u step mid_step at before done old mid new held mid_held now stopped e same w r =
    let P : List Seat → Type 0 = λ l. Walks levels l l w.known w.known_others u mid_step at before (done ++ w.bits) mid new mid_held now (Err stopped) in
    walk_stops levels first left left nodes others t u step mid_step at before done old mid new held mid_held now stopped same w
    (subst P (sym e) (stops_at levels s next w.known w.known_others u mid_step at before (done ++ w.bits) mid new mid_held now stopped r))
