-- The grids of a header, one after another.
use Rattle.std.proofs.Common.{◌≡◌, ◌≢◌, ◌<◌, ◌≤◌, ◌+◌, ◌-◌, ◌*◌, ◌++◌, ℕ, zero, suc, Bool, true, false, List, [], ◌∷◌, map, length, vec_len, vec_capacity, Result, Ok, Err, refl, sym, ◌∙◌, ap, subst, inl, inr, arith, append_assoc}
use Rattle.std.specs.List.{flat_map, range_with_len}
use Rattle.std.proofs.lemmas.Bool.Decides.{leb_tells, eqb_tells}
use Rattle.std.proofs.lemmas.List.{map-append, length-append}
use Rattle.std.proofs.lemmas.List.FromFn.{length-map-range_with_len}
use Rattle.std.proofs.lemmas.List.Sums.{sum_by-cons}
use Rattle.codestream_model.specs.Values as values
use Rattle.codestream_model.specs.StuffedBits.{packed_bits}
use Rattle.codestream_model.specs.Packet.{block_count}
use Rattle.codestream_model.specs.TagTrees.{Seat, seats, root_level, levels_from}
use Rattle.codestream_model.specs.PacketHeaderReading.{Read, Got, AtEnd, Refused, Node, and_then, read_bit, read_either, read_seats, read_grids, read_bits}
use Rattle.stuffed_bits.specs.BitInState.{BitInState}
use Rattle.stuffed_bits.specs.BitsRead.{HasRead}
use Rattle.stuffed_bits.specs.declared.part.Part.{Part}
use Rattle.stuffed_bits.specs.declared.part.Part.TheVariants.{Nothing}
use Rattle.precinct_geometry.specs.Spans.{grid_of}
use Rattle.packet_header.specs.Answers.{block_of}
use Rattle.packet_header.specs.Moves.{HasGiven, taken_of, all_of, bits_after, Went, IsStop, Moved}
use Rattle.packet_header.specs.Steps.{Fits}
use Rattle.tag_tree.specs.Kinds.{levels_of}
use Rattle.packet_header.specs.Positions.{KnowsBoth, HasGrid, IsUnread, FitsAt, ahead}
use Rattle.packet_header.specs.Walks.{walk_rest, positions_from, WalkWent, IsUnreadAt, Walks}
use Rattle.packet_header.specs.Blocks.{grid_and_more, grids_rest, header_rest, grids_left, left_of, IsInGrid, IsAmong, IsNextUnread, IsEntered, later_grids, HasTaken, TookPart}
use Rattle.packet_header.specs.declared.block.Block.{Block}
use Rattle.packet_header.specs.declared.blocks.BlocksReader.{BlocksReader}
use Rattle.packet_header.specs.declared.grids.TagTrees.{TagTrees}
use Rattle.stuffed_bits.specs.declared.source.Source.{Source}
use Rattle.packet_header.specs.declared.step.Step.{Step}
use Rattle.packet_header.specs.declared.step.Step.TheVariants.{Inclusion}
use Rattle.packet_header.specs.declared.refusal.HeaderStop.{HeaderStop}
use Rattle.packet_header.proofs.Moving.{same_stop, stops_then, left_behind}
use Rattle.packet_header.proofs.PositionMoves.{unread_free}
use Rattle.packet_header.proofs.GridRuns.{no_grids_from}
use Rattle.packet_header.proofs.WalkMoves.{walk_begins, twice_ahead, none_ahead, all_positions, next_in_row, next_row, none_behind}

-- all bits that came are those that were given and those after them
pub first_of_all : (before : List ℕ) (done : List Bool) (s : Source) → HasGiven before done s → (packed_bits (all_of before s)).bits ≡ done ++ bits_after done (all_of before s)
first_of_all before done s h = left_behind before [] done s s refl h

-- code-blocks ahead of a grid's stay ahead of the later grids'
ahead_of_grids : (xs : List values.Block) (r : Read (List values.Block)) (later : List values.Grid) → and_then (ahead xs r) (grid_and_more later) ≡ ahead xs (and_then r (grid_and_more later))
ahead_of_grids xs (Got ys l) later = sym (twice_ahead xs ys (read_grids later l))
ahead_of_grids xs AtEnd later = refl
ahead_of_grids xs (Refused why) later = refl

-- before the first step of the first grid
pub grids_begin : (gs : List values.Grid) (l : List Bool) → read_grids gs l ≡ grids_rest gs 0 0 Inclusion [] [] l
unfolding read_grids
grids_begin [] l = refl
grids_begin (g ∷ later) l =
    let levels = levels_from (root_level g) in
    let e : read_seats levels (seats g) [] [] l ≡ walk_rest levels (positions_from g 0 0) [] [] Inclusion l = ap (λ (s : List Seat). read_seats levels s [] [] l) (all_positions g) ∙ walk_begins levels (positions_from g 0 0) [] [] l in
    ap (λ (r : Read (List values.Block)). and_then r (grid_and_more later)) e

-- before the first bit
pub bits_begin : (gs : List values.Grid) (l : List Bool) → read_bits gs l ≡ header_rest false (grids_rest gs 0 0 Inclusion [] []) l
unfolding read_bits
bits_begin gs [] = refl
bits_begin gs (false ∷ l) = refl
bits_begin gs (true ∷ l) = grids_begin gs l

-- what stops a reading of what is left, stops the reading of all
pub taken_stops : (first : List Bool → Read (List values.Block)) (r : BlocksReader) (before : List ℕ) (s : Source) (stopped : HeaderStop) (t : HasTaken first r (taken_of before s) s.bits)
    → IsStop (left_of r t.nodes t.others (bits_after t.done (all_of before s))) (packed_bits (all_of before s)).broken_at stopped
    → IsStop (first (packed_bits (all_of before s)).bits) (packed_bits (all_of before s)).broken_at stopped
taken_stops first r before s stopped t a =
    let l = bits_after t.done (all_of before s) in
    let broken = (packed_bits (all_of before s)).broken_at in
    let found = map block_of r.blocks.items in
    let e : first (packed_bits (all_of before s)).bits ≡ ahead found (left_of r t.nodes t.others l) = ap first (first_of_all before t.done s (record { read = t.read })) ∙ t.goes_on l in
    same_stop (first (packed_bits (all_of before s)).bits) (ahead found (left_of r t.nodes t.others l)) broken stopped e (stops_then (left_of r t.nodes t.others l) (λ xs k. Got (found ++ xs) k) broken stopped a)

-- a part of a grid was read
pub grids_went : (levels : List ℕ) (g : values.Grid) (later : List values.Grid) (row col now_row now_col : ℕ) (nodes others known known_others : List Node) (step at : Step) (bits : List Bool) (added : List values.Block) → levels ≡ levels_from (root_level g)
    → ((further : List Bool) → walk_rest levels (positions_from g row col) nodes others step (bits ++ further) ≡ ahead added (walk_rest levels (positions_from g now_row now_col) known known_others at further))
    → (further : List Bool) → grids_rest (g ∷ later) row col step nodes others (bits ++ further) ≡ ahead added (grids_rest (g ∷ later) now_row now_col at known known_others further)
grids_went levels g later row col now_row now_col nodes others known known_others step at bits added e w further =
    let P : List ℕ → Type 0 = λ ls. and_then (walk_rest ls (positions_from g row col) nodes others step (bits ++ further)) (grid_and_more later) ≡ ahead added (and_then (walk_rest ls (positions_from g now_row now_col) known known_others at further) (grid_and_more later)) in
    subst P e (ap (λ (r : Read (List values.Block)). and_then r (grid_and_more later)) (w further) ∙ ahead_of_grids added (walk_rest levels (positions_from g now_row now_col) known known_others at further) later)

-- all of a grid was read
pub grid_ends : (g : values.Grid) (later : List values.Grid) (row col : ℕ) (nodes others : List Node) (step : Step) (l : List Bool) → positions_from g row col ≡ []
    → grids_rest (g ∷ later) row col step nodes others l ≡ grids_rest later 0 0 Inclusion [] [] l
grid_ends g later row col nodes others step l e =
    let levels = levels_from (root_level g) in
    ap (λ (s : List Seat). and_then (walk_rest levels s nodes others step l) (grid_and_more later)) e ∙ (sym (none_ahead (read_grids later l)) ∙ grids_begin later l)

-- code-blocks that were read, and then some more
pub ahead_more : (held added now : List Block) (r : Read (List values.Block)) → now ≡ held ++ added → ahead (map block_of held) (ahead (map block_of added) r) ≡ ahead (map block_of now) r
ahead_more held added now r e =
    twice_ahead (map block_of held) (map block_of added) r ∙ ap (λ (b : List values.Block). ahead b r) (sym (ap (map block_of) e ∙ map-append block_of held added))

-- where nothing of a value is kept, the next leaf is unread
pub next_unread_free : (gs : List values.Grid) (r : BlocksReader) (others : List Node) (p : Part) → p ≡ Nothing → IsNextUnread gs r others p
next_unread_free [] r others p e = tt
next_unread_free (g ∷ later) r others p e = unread_free (levels_of r.trees.planes) (record { band = g.band; col = r.col; row = r.row }) others r.step p e

-- and the values of a new code-block can be read
pub fits_free : (step : Step) (p : Part) → step ≡ Inclusion → p ≡ Nothing → Fits step p
fits_free step p s e = let P : Step → Type 0 = λ x. Fits x p in subst P (sym s) e

-- past the last grid
pub among_none : (gs : List values.Grid) (r : BlocksReader) → gs ≡ [] → r.step ≡ Inclusion → IsAmong gs r
among_none gs r e s = let P : List values.Grid → Type 0 = λ l. IsAmong l r in subst P (sym e) s

-- a reader that read the first bit is at the same place
among_begun : (gs : List values.Grid) (r : BlocksReader) → IsAmong gs r → IsAmong gs (record r { begun = true })
among_begun [] r a = a
among_begun (g ∷ later) r a = record { grid = a.grid; col_in = a.col_in; none = a.none; inclusion = a.inclusion; planes = a.planes; room = a.room }

-- the first bit was read, by what is read of it
first_then : (first : List Bool → Read (List values.Block)) (r : BlocksReader) (bytes : List ℕ) (h : BitInState) (t : HasTaken first r bytes h) (b : Bool) (more : List Bool) → r.begun ≡ false
    → ((further : List Bool) → read_bit (more ++ further) ≡ Got b further) → (further : List Bool)
    → first ((t.done ++ more) ++ further) ≡ ahead (map block_of r.blocks.items) (read_either b (grids_rest (grids_left r) r.row r.col r.step t.nodes t.others) (λ k. Got [] k) further)
first_then first r bytes h t b more e goes further =
    let found = map block_of r.blocks.items in
    let rest = grids_rest (grids_left r) r.row r.col r.step t.nodes t.others in
    let k : Bool → List Bool → Read (List values.Block) = λ filled m. read_either filled rest (λ k. Got [] k) m in
    ap first (append_assoc t.done more further)
    ∙ (t.goes_on (more ++ further)
    ∙ ap (ahead found) (ap (λ (x : Bool). header_rest x rest (more ++ further)) e ∙ ap (λ (q : Read Bool). and_then q k) (goes further)))

pub first_filled : (first : List Bool → Read (List values.Block)) (r : BlocksReader) (before : List ℕ) (old new : Source) (t : HasTaken first r (taken_of before old) old.bits) → r.begun ≡ false → new.bits.part ≡ Nothing
    → Went read_bit (λ l. Got true l) before t.done new → HasTaken first (record r { begun = true }) (taken_of before new) new.bits
first_filled first r before old new t e free w = record {
  done = t.done ++ w.more;
  nodes = t.nodes;
  others = t.others;
  read = w.holds.read;
  knows = t.knows;
  unread = next_unread_free (grids_left r) (record r { begun = true }) t.others new.bits.part free;
  fits = fits_free r.step new.bits.part (t.fresh e) free;
  fresh = λ f. t.fresh e;
  among = among_begun (grids_left r) r t.among;
  goes_on = first_then first r (taken_of before old) old.bits t true w.more e w.goes_on;
}

pub first_empty : (first : List Bool → Read (List values.Block)) (r : BlocksReader) (before : List ℕ) (old new : Source) (last : ℕ) (t : HasTaken first r (taken_of before old) old.bits) → r.begun ≡ false → new.bits.part ≡ Nothing
    → length r.bands.items ≤ last → Went read_bit (λ l. Got false l) before t.done new → HasTaken first (record r { begun = true; grid = last }) (taken_of before new) new.bits
first_empty first r before old new last t e free all w =
    let now : BlocksReader = record r { begun = true; grid = last } in
    let none : grids_left now ≡ [] = no_grids_from r.bands.items last all in
    let found = map block_of r.blocks.items in
    record {
      done = t.done ++ w.more;
      nodes = t.nodes;
      others = t.others;
      read = w.holds.read;
      knows = t.knows;
      unread = next_unread_free (grids_left now) now t.others new.bits.part free;
      fits = fits_free r.step new.bits.part (t.fresh e) free;
      fresh = λ f. t.fresh e;
      among = among_none (grids_left now) now none (t.fresh e);
      goes_on = λ further. first_then first r (taken_of before old) old.bits t false w.more e w.goes_on further
          ∙ ap (ahead found) (sym (ap (λ (gs : List values.Grid). grids_rest gs r.row r.col r.step t.nodes t.others further) none));
    }

-- or the reading of it stops
pub first_stops : (first : List Bool → Read (List values.Block)) (r : BlocksReader) (before : List ℕ) (old new : Source) (stopped : HeaderStop) (t : HasTaken first r (taken_of before old) old.bits) → r.begun ≡ false → new.bits.part ≡ Nothing
    → Moved {Y = Bool} read_bit read_bit before t.done old new (Err stopped) → TookPart first r before old new (Err stopped)
first_stops first r before old new stopped t e free m =
    let l = bits_after t.done (all_of before old) in
    let broken = (packed_bits (all_of before old)).broken_at in
    let found = map block_of r.blocks.items in
    let rest = grids_rest (grids_left r) r.row r.col r.step t.nodes t.others in
    let k : Bool → List Bool → Read (List values.Block) = λ filled m. read_either filled rest (λ k. Got [] k) m in
    let left : (j : List Bool) → left_of r t.nodes t.others j ≡ and_then (read_bit j) k = λ j. ap (λ (x : Bool). header_rest x rest j) e in (
      taken_stops first r before old stopped t (same_stop (left_of r t.nodes t.others l) (and_then (read_bit l) k) broken stopped (left l) (stops_then (read_bit l) k broken stopped m.0)),
      λ n.
          let w = m.1 n in (
            w.whole,
            record {
              done = t.done ++ w.went.more;
              nodes = t.nodes;
              others = t.others;
              read = w.went.holds.read;
              knows = t.knows;
              unread = next_unread_free (grids_left r) r t.others new.bits.part free;
              fits = fits_free r.step new.bits.part (t.fresh e) free;
              fresh = t.fresh;
              among = t.among;
              goes_on = λ further.
                  ap first (append_assoc t.done w.went.more further)
                  ∙ (t.goes_on (w.went.more ++ further)
                  ∙ ap (ahead found) (left (w.went.more ++ further) ∙ (ap (λ (q : Read Bool). and_then q k) (w.went.goes_on further) ∙ sym (left further))));
            },
          ),
    )

-- what is left, where the first bit was read
left_in : (r : BlocksReader) (gs : List values.Grid) (nodes others : List Node) (l : List Bool) → r.begun ≡ true → grids_left r ≡ gs → left_of r nodes others l ≡ grids_rest gs r.row r.col r.step nodes others l
left_in r gs nodes others l b e =
    ap (λ (x : Bool). header_rest x (grids_rest (grids_left r) r.row r.col r.step nodes others) l) b ∙ ap (λ (own : List values.Grid). grids_rest own r.row r.col r.step nodes others l) e

-- a part of a grid was read
pub grid_part : (first : List Bool → Read (List values.Block)) (g : values.Grid) (later : List values.Grid) (r now : BlocksReader) (before : List ℕ) (old new : Source) (t : HasTaken first r (taken_of before old) old.bits) → grids_left r ≡ g ∷ later → grids_left now ≡ g ∷ later
    → r.begun ≡ true → now.begun ≡ true → levels_of r.trees.inclusion ≡ levels_from (root_level g) → IsAmong (g ∷ later) now → Fits now.step new.bits.part
    → (w : WalkWent (levels_of r.trees.inclusion) (positions_from g r.row r.col) (positions_from g now.row now.col) t.nodes t.others now.trees r.step now.step before t.done new r.blocks.items now.blocks.items)
    → IsNextUnread (g ∷ later) now w.known_others new.bits.part → HasTaken first now (taken_of before new) new.bits
grid_part first g later r now before old new t e f b c levels among fits w unread =
    let found = map block_of r.blocks.items in
    let U : List values.Grid → Type 0 = λ gs. IsNextUnread gs now w.known_others new.bits.part in
    let A : List values.Grid → Type 0 = λ gs. IsAmong gs now in
    record {
      done = t.done ++ w.bits;
      nodes = w.known;
      others = w.known_others;
      read = w.holds.read;
      knows = w.knows;
      unread = subst U (sym f) unread;
      fits = fits;
      fresh = λ z. absurd (let d : true ≡ false = sym c ∙ z in cc);
      among = subst A (sym f) among;
      goes_on = λ further.
          let own = grids_rest (g ∷ later) now.row now.col now.step w.known w.known_others further in
          ap first (append_assoc t.done w.bits further)
          ∙ (t.goes_on (w.bits ++ further)
          ∙ (ap (ahead found) (left_in r (g ∷ later) t.nodes t.others (w.bits ++ further) b e ∙ grids_went (levels_of r.trees.inclusion) g later r.row r.col now.row now.col t.nodes t.others w.known w.known_others r.step now.step w.bits (map block_of w.added) levels w.goes_on further)
          ∙ (ahead_more r.blocks.items w.added now.blocks.items own w.grown ∙ ap (ahead (map block_of now.blocks.items)) (sym (left_in now (g ∷ later) w.known w.known_others further c f)))));
    }

-- or the reading stops in it
pub grid_stops : (first : List Bool → Read (List values.Block)) (g : values.Grid) (later : List values.Grid) (r : BlocksReader) (before : List ℕ) (s : Source) (stopped : HeaderStop) (t : HasTaken first r (taken_of before s) s.bits) → grids_left r ≡ g ∷ later → r.begun ≡ true
    → levels_of r.trees.inclusion ≡ levels_from (root_level g)
    → IsStop (walk_rest (levels_of r.trees.inclusion) (positions_from g r.row r.col) t.nodes t.others r.step (bits_after t.done (all_of before s))) (packed_bits (all_of before s)).broken_at stopped
    → IsStop (first (packed_bits (all_of before s)).bits) (packed_bits (all_of before s)).broken_at stopped
grid_stops first g later r before s stopped t e b levels a =
    let l = bits_after t.done (all_of before s) in
    let broken = (packed_bits (all_of before s)).broken_at in
    let P : List ℕ → Type 0 = λ ls. IsStop (walk_rest ls (positions_from g r.row r.col) t.nodes t.others r.step l) broken stopped in
    taken_stops first r before s stopped t
    (same_stop (left_of r t.nodes t.others l) (grids_rest (g ∷ later) r.row r.col r.step t.nodes t.others l) broken stopped (left_in r (g ∷ later) t.nodes t.others l b e)
    (stops_then (walk_rest (levels_from (root_level g)) (positions_from g r.row r.col) t.nodes t.others r.step l) (grid_and_more later) broken stopped (subst P levels a)))

-- the code-blocks of rows of a grid, and how many these and all are
abbrev rows_of : values.Grid → List ℕ → List Seat
rows_of g rows = flat_map (λ r. map (λ c. record { band = g.band; col = c; row = r }) (range_with_len 0 g.cols)) rows

rows_length : (g : values.Grid) (a n : ℕ) → length (rows_of g (range_with_len a n)) ≡ n * g.cols
rows_length g a zero = omega arith
rows_length g a (suc n) =
    let f : ℕ → Seat = λ c. record { band = g.band; col = c; row = a } in
    let row : List Seat = map f (range_with_len 0 g.cols) in
    let rest : List Seat = rows_of g (range_with_len (a + 1) n) in
    let own : length row ≡ g.cols = length-map-range_with_len f 0 g.cols in
    let more : length rest ≡ n * g.cols = rows_length g (a + 1) n in
    let whole : length (row ++ rest) ≡ length row + length rest = length-append row rest in
    let sum : length row + length rest ≡ suc n * g.cols = omega (arith, own, more) in
    whole ∙ sum

positions_length : (g : values.Grid) → length (positions_from g 0 0) ≡ g.cols * g.rows
positions_length g =
    let all : length (seats g) ≡ g.rows * g.cols = rows_length g 0 g.rows in
    let same : length (seats g) ≡ length (positions_from g 0 0) = ap (λ (l : List Seat). length l) (all_positions g) in
    omega (arith, all, same)

-- a reader at the first code-block of a grid
abbrev pub entered : ℕ → TagTrees → BlocksReader → BlocksReader
entered i u r = record r { grid = i; col = 0; row = 0; trees = u }

among_entered : (gs : List values.Grid) (r : BlocksReader) (i : ℕ) (u : TagTrees) → IsEntered gs u → r.step ≡ Inclusion → block_count gs ≤ u.inclusion.leaves → block_count gs ≤ u.planes.leaves → vec_len r.blocks + block_count gs ≤ vec_capacity r.blocks
    → IsAmong gs (entered i u r)
among_entered [] r i u a s inclusion planes room = s
among_entered (g ∷ later) r i u a s inclusion planes room =
    let n : block_count (g ∷ later) ≡ g.cols * g.rows + block_count later = sum_by-cons (λ (x : values.Grid). x.cols * x.rows) g later in
    record {
      grid = a.0;
      col_in = λ some. some;
      none = λ e. s;
      inclusion = omega (arith, inclusion, n);
      planes = omega (arith, planes, n);
      room = omega (arith, room, n, positions_length g);
    }

none_known : (gs : List values.Grid) (u : TagTrees) → IsEntered gs u → KnowsBoth u [] []
none_known [] u a = a
none_known (g ∷ later) u a = a.1

-- the next grid is entered
pub grid_entered : (first : List Bool → Read (List values.Block)) (g : values.Grid) (later : List values.Grid) (r : BlocksReader) (i : ℕ) (u : TagTrees) (bytes : List ℕ) (h : BitInState) → (t : HasTaken first r bytes h) → grids_left r ≡ g ∷ later → later_grids i r ≡ later → r.begun ≡ true
    → positions_from g r.row r.col ≡ [] → IsEntered (later_grids i r) u → u.inclusion.leaves ≡ r.trees.inclusion.leaves → u.planes.leaves ≡ r.trees.planes.leaves → HasTaken first (entered i u r) bytes h
grid_entered first g later r i u bytes h t e f b none enters inclusion planes =
    let now = entered i u r in
    let found = map block_of r.blocks.items in
    let A : List values.Grid → Type 0 = λ gs. IsAmong gs r in
    let own : IsInGrid g later r = subst A e t.among in
    let s : r.step ≡ Inclusion = own.none none in
    let Q : Step → Type 0 = λ x. Fits x h.part in
    let free : h.part ≡ Nothing = subst Q s t.fits in
    let size : block_count (later_grids i r) ≡ block_count later = ap block_count f in
    record {
      done = t.done;
      nodes = [];
      others = [];
      read = t.read;
      knows = none_known (later_grids i r) u enters;
      unread = next_unread_free (grids_left now) now [] h.part free;
      fits = t.fits;
      fresh = λ z. absurd (let d : true ≡ false = sym b ∙ z in cc);
      among = among_entered (later_grids i r) r i u enters s (omega (arith, own.inclusion, inclusion, size)) (omega (arith, own.planes, planes, size)) (omega (arith, own.room, size));
      goes_on = λ further.
          t.goes_on further
          ∙ ap (ahead found) (left_in r (g ∷ later) t.nodes t.others further b e
          ∙ (grid_ends g later r.row r.col t.nodes t.others r.step further none
          ∙ (ap (λ (x : Step). grids_rest later 0 0 x [] [] further) (sym s)
          ∙ sym (left_in now later [] [] further b f))));
    }

-- the header of a precinct is begun
pub header_begun : (gs : List values.Grid) (r : BlocksReader) (u : TagTrees) (h : BitInState) → map grid_of r.bands.items ≡ gs → r.begun ≡ false → r.step ≡ Inclusion → r.blocks.items ≡ [] → vec_len r.blocks ≡ 0 → h.part ≡ Nothing → HasRead [] [] h → IsEntered (later_grids 0 r) u
    → block_count gs ≤ u.inclusion.leaves → block_count gs ≤ u.planes.leaves → block_count gs ≤ vec_capacity r.blocks → HasTaken (read_bits gs) (entered 0 u r) [] h
header_begun gs r u h e b s none empty free read enters inclusion planes room =
    let now = entered 0 u r in
    let found = map block_of r.blocks.items in
    let size : block_count (later_grids 0 r) ≡ block_count gs = ap block_count e in
    record {
      done = [];
      nodes = [];
      others = [];
      read = read;
      knows = none_known (later_grids 0 r) u enters;
      unread = next_unread_free (grids_left now) now [] h.part free;
      fits = fits_free r.step h.part s free;
      fresh = λ z. s;
      among = among_entered (later_grids 0 r) r 0 u enters s (omega (arith, inclusion, size)) (omega (arith, planes, size)) (omega (arith, room, size, empty));
      goes_on = λ further.
          bits_begin gs further
          ∙ (ap (λ (own : List values.Grid). header_rest false (grids_rest own 0 0 Inclusion [] []) further) (sym e)
          ∙ (ap (λ (x : Step). header_rest false (grids_rest (grids_left now) 0 0 x [] []) further) (sym s)
          ∙ (ap (λ (x : Bool). header_rest x (grids_rest (grids_left now) 0 0 r.step [] []) further) (sym b)
          ∙ (none_ahead (left_of now [] [] further) ∙ ap (λ (l : List Block). ahead (map block_of l) (left_of now [] [] further)) (sym none)))));
    }

-- a reader in a grid
pub in_grid : (first : List Bool → Read (List values.Block)) (g : values.Grid) (later : List values.Grid) (r : BlocksReader) (bytes : List ℕ) (h : BitInState) → HasTaken first r bytes h → grids_left r ≡ g ∷ later → IsInGrid g later r
in_grid first g later r bytes h t e = let A : List values.Grid → Type 0 = λ gs. IsAmong gs r in subst A e t.among

-- the leaf of the first of the positions that are left
unread_at : (levels : List ℕ) (g : values.Grid) (row col : ℕ) (others : List Node) (step : Step) (p : Part) → col < g.cols → (positions_from g row col ≡ [] → step ≡ Inclusion) → IsUnreadAt levels (positions_from g row col) others step p
    → IsUnread levels (record { band = g.band; col = col; row = row }) others step p
unread_at levels g row col others step p within none u = elim (leb_tells (suc row) g.rows) [
  | inl t ↦ let U : List Seat → Type 0 = λ l. IsUnreadAt levels l others step p in
      elim (eqb_tells (col + 1) g.cols) [
        | inl c ↦ subst U (next_row g row col t.1 c.1) u
        | inr c ↦ let less : col + 1 < g.cols = let ne : col + 1 ≢ g.cols = c.1 in omega (arith, within, ne) in subst U (next_in_row g row col t.1 less) u
      ]
  | inr t ↦
      let s : step ≡ Inclusion = none (none_behind g row col (omega (arith, t.1))) in
      let Q : Step → Type 0 = λ x. IsUnread levels (record { band = g.band; col = col; row = row }) others x p in
      subst Q (sym s) tt
]

-- a grid without columns has no code-block
no_columns : (g : values.Grid) (rows : List ℕ) → g.cols ≡ 0 → rows_of g rows ≡ []
no_columns g [] e = refl
no_columns g (r ∷ rows) e = let P : ℕ → Type 0 = λ n. range_with_len 0 n ≡ [] in let z : range_with_len 0 g.cols ≡ [] = subst P (sym e) refl in ap (λ (l : List ℕ). map (λ c. record { band = g.band; col = c; row = r }) l ++ rows_of g rows) z ∙ no_columns g rows e

pub no_positions : (g : values.Grid) (row col : ℕ) → g.cols ≡ 0 → positions_from g row col ≡ []
no_positions g row col e = elim (leb_tells (suc row) g.rows) [
  | inl t ↦
      let z : g.cols - col ≡ zero = omega (arith, e) in
      rw (t.0, z) (no_columns g (range_with_len (row + 1) (g.rows - (row + 1))) e)
  | inr t ↦ none_behind g row col (omega (arith, t.1))
]

-- trees of a grid have its levels
pub levels_in : (t : TagTrees) (g : values.Grid) → HasGrid t g.cols g.rows → levels_of t.inclusion ≡ levels_from (root_level g)
levels_in t g h = rw (h.inclusion_cols, h.inclusion_rows) refl

planes_levels_in : (t : TagTrees) (g : values.Grid) → HasGrid t g.cols g.rows → levels_of t.planes ≡ levels_from (root_level g)
planes_levels_in t g h = rw (h.planes_cols, h.planes_rows) refl

-- what a call reads of a grid, and where it stops
pub grid_took : (first : List Bool → Read (List values.Block)) (g : values.Grid) (later : List values.Grid) (r now : BlocksReader) (before : List ℕ) (old new : Source) (out : Result (Unit {0}) HeaderStop) (t : HasTaken first r (taken_of before old) old.bits) → grids_left r ≡ g ∷ later → grids_left now ≡ g ∷ later
    → r.begun ≡ true → now.begun ≡ true → HasGrid r.trees g.cols g.rows → now.col < g.cols → IsInGrid g later now → FitsAt now.step new.bits.part out
    → Walks (levels_of r.trees.inclusion) (positions_from g r.row r.col) (positions_from g now.row now.col) t.nodes t.others now.trees r.step now.step before t.done old new r.blocks.items now.blocks.items out
    → TookPart first now before old new out
grid_took first g later r now before old new (Ok x) t e f b c grid within own fits walks =
    grid_part first g later r now before old new t e f b c (levels_in r.trees g grid) own (fits_free now.step new.bits.part fits.1 fits.0) walks (next_unread_free (g ∷ later) now walks.known_others new.bits.part fits.0)
grid_took first g later r now before old new (Err stopped) t e f b c grid within own fits walks =
    let levels = levels_in r.trees g grid in (
      grid_stops first g later r before old stopped t e b levels walks.0,
      λ n.
          let q = walks.1 n in
          let same : levels_of r.trees.inclusion ≡ levels_of now.trees.planes = levels ∙ sym (planes_levels_in now.trees g own.grid) in
          let U : List ℕ → Type 0 = λ ls. IsUnreadAt ls (positions_from g now.row now.col) q.1.0.known_others now.step new.bits.part in
          let unread = unread_at (levels_of now.trees.planes) g now.row now.col q.1.0.known_others now.step new.bits.part within own.none (subst U same q.1.1) in
          (q.0, grid_part first g later r now before old new t e f b c levels own (fits n) q.1.0 unread),
    )
