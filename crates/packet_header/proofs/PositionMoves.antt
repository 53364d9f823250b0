-- The code-block at a position, by its trees.
use Rattle.std.proofs.Common.{◌≡◌, ◌≢◌, ◌==◌, ◌++◌, ℕ, Bool, true, false, List, [], ◌∷◌, Some, None, Result, Ok, Err, refl, sym, ◌∙◌, ap, subst, inl, inr, append_assoc}
use Rattle.std.proofs.lemmas.Bool.Decides.{eqb_tells}
use Rattle.std.proofs.lemmas.List.{append-nil}
use Rattle.codestream_model.specs.Values as values
use Rattle.codestream_model.specs.StuffedBits.{packed_bits}
use Rattle.codestream_model.specs.TagTrees.{Seat, root_level, levels_from}
use Rattle.codestream_model.specs.PacketHeaderReading.{Node, Walked, Read, Got, AtEnd, Refused, and_then, read_either, read_inclusion, read_planes, read_passes, read_block, read_seats}
use Rattle.tag_tree.specs.TreeState.{TreeState}
use Rattle.tag_tree.specs.LeafReading.{Knows}
use Rattle.packet_header.specs.Moves.{HasGiven, all_of, bits_after, Went, IsStop, Moved}
use Rattle.packet_header.specs.Steps.{by_passes, block_rest, IsOfBlock}
use Rattle.tag_tree.specs.Kinds.{levels_of}
use Rattle.packet_header.specs.Leaves.{LeafFound, LeafMoved}
use Rattle.packet_header.specs.Positions.{KnowsBoth, block_and_more, rest_at, IsUnread, WentAt, Finds, ahead, ReadAt, ReadsAt}
use Rattle.stuffed_bits.specs.declared.part.Part.{Part}
use Rattle.stuffed_bits.specs.declared.part.Part.TheVariants.{Nothing}
use Rattle.packet_header.specs.Answers.{block_of}
use Rattle.packet_header.specs.declared.block.Block.{Block}
use Rattle.stuffed_bits.specs.declared.source.Source.{Source}
use Rattle.packet_header.specs.declared.grids.TagTrees.{TagTrees}
use Rattle.packet_header.specs.declared.step.Step.{Step}
use Rattle.packet_header.specs.declared.step.Step.TheVariants.{Inclusion, Planes, Passes, MorePasses, LastPasses, Lblock, Cleanup, Refine}
use Rattle.packet_header.specs.declared.refusal.HeaderStop.{HeaderStop}
use Rattle.packet_header.specs.declared.refusal.HeaderStop.TheVariants.{Need}
use Rattle.packet_header.proofs.Moving.{same_stop, stops_then, left_behind}

-- trees of one grid have the same levels
pub same_levels : (t u : TreeState) → u.cols ≡ t.cols → u.rows ≡ t.rows → levels_of u ≡ levels_of t
same_levels t u c r = ap (λ (n : ℕ). levels_from (root_level (record { band = 0; cols = n; rows = u.rows }))) c ∙ ap (λ (n : ℕ). levels_from (root_level (record { band = 0; cols = t.cols; rows = n }))) r

-- what follows the leaf of the inclusion tree
abbrev pub by_label : List ℕ → Seat → List Seat → List Node → Walked → List Bool → Read (List values.Block)
by_label levels s more others found l = read_either (found.label == 0) (λ m. rest_at levels s more found.nodes others Planes m) (λ m. read_seats levels more found.nodes others m) l

positions_by_leaf : (levels : List ℕ) (s : Seat) (more : List Seat) (nodes others : List Node) (l : List Bool) → read_seats levels (s ∷ more) nodes others l ≡ and_then (read_inclusion levels s 0 nodes l) (by_label levels s more others)
unfolding read_seats
positions_by_leaf levels s more nodes others l = refl

-- and that of the value tree
abbrev pub by_planes : List ℕ → Seat → List Seat → List Node → Walked → List Bool → Read (List values.Block)
by_planes levels s more nodes value l = and_then (read_block s value.label l) (block_and_more levels more nodes value.nodes)

block_by_passes : (s : Seat) (planes : ℕ) (l : List Bool) → read_block s planes l ≡ and_then (read_passes l) (by_passes s planes)
unfolding read_block
block_by_passes s planes l = refl

-- an included code-block
pub find_included : (levels : List ℕ) (s : Seat) (nodes others : List Node) (t : TagTrees) (before : List ℕ) (done : List Bool) (new : Source) (label : ℕ) → LeafFound (λ ns l. read_inclusion levels s 0 ns l) nodes before done t.inclusion new label
    → label ≡ 0 → Knows t.planes others → WentAt levels s nodes others t Inclusion before done new (Some Planes)
find_included levels s nodes others t before done new label f z k = record {
  known = f.known;
  known_others = others;
  knows = record { inclusion = f.knows; planes = k };
  bits = f.went.more;
  holds = f.went.holds;
  goes_on = λ more further.
      let test : (label == 0) ≡ true = rw z refl in
      positions_by_leaf levels s more nodes others (f.went.more ++ further)
      ∙ (ap (λ (r : Read Walked). and_then r (by_label levels s more others)) (f.went.goes_on further)
      ∙ ap (λ (b : Bool). read_either b (λ m. rest_at levels s more f.known others Planes m) (λ m. read_seats levels more f.known others m) further) test);
}

-- one that isn't
pub find_left_out : (levels : List ℕ) (s : Seat) (nodes others : List Node) (t : TagTrees) (before : List ℕ) (done : List Bool) (new : Source) (label : ℕ) → LeafFound (λ ns l. read_inclusion levels s 0 ns l) nodes before done t.inclusion new label
    → label ≢ 0 → Knows t.planes others → WentAt levels s nodes others t Inclusion before done new None
find_left_out levels s nodes others t before done new label f z k = record {
  known = f.known;
  known_others = others;
  knows = record { inclusion = f.knows; planes = k };
  bits = f.went.more;
  holds = f.went.holds;
  goes_on = λ more further.
      let test : (label == 0) ≡ false = elim (eqb_tells label 0) [ inl t ↦ absurd (z t.1) | inr t ↦ t.0 ] in
      positions_by_leaf levels s more nodes others (f.went.more ++ further)
      ∙ (ap (λ (r : Read Walked). and_then r (by_label levels s more others)) (f.went.goes_on further)
      ∙ ap (λ (b : Bool). read_either b (λ m. rest_at levels s more f.known others Planes m) (λ m. read_seats levels more f.known others m) further) test);
}

-- the zero bit-planes
pub find_planes : (levels : List ℕ) (s : Seat) (nodes others : List Node) (t : TagTrees) (before : List ℕ) (done : List Bool) (new : Source) (label : ℕ) → LeafFound (λ ns l. read_planes levels s 0 ns l) others before done t.planes new label
    → Knows t.inclusion nodes → WentAt levels s nodes others t Planes before done new (Some (Passes label))
find_planes levels s nodes others t before done new label f k = record {
  known = nodes;
  known_others = f.known;
  knows = record { inclusion = k; planes = f.knows };
  bits = f.went.more;
  holds = f.went.holds;
  goes_on = λ more further.
      ap (λ (r : Read Walked). and_then r (by_planes levels s more nodes)) (f.went.goes_on further)
      ∙ ap (λ (r : Read values.Block). and_then r (block_and_more levels more nodes f.known)) (block_by_passes s label further);
}

-- what stops the reading in the inclusion tree
pub inclusion_stops : (levels : List ℕ) (s : Seat) (nodes others : List Node) (t : TagTrees) (before : List ℕ) (done : List Bool) (old new : Source) (stopped : HeaderStop)
    → LeafMoved (λ ns l. read_inclusion levels s 0 ns l) nodes before done t.inclusion old new (Err stopped) → Knows t.planes others → Finds levels s nodes others t Inclusion before done old new (Err stopped)
inclusion_stops levels s nodes others t before done old new stopped a k =
    let l = bits_after done (all_of before old) in
    let broken = (packed_bits (all_of before old)).broken_at in (
      λ more. same_stop (read_seats levels (s ∷ more) nodes others l) (and_then (read_inclusion levels s 0 nodes l) (by_label levels s more others)) broken stopped (positions_by_leaf levels s more nodes others l)
          (stops_then (read_inclusion levels s 0 nodes l) (by_label levels s more others) broken stopped a.0),
      λ n.
          let r = a.1 n in
          record {
            known = r.known;
            known_others = others;
            knows = record { inclusion = r.knows; planes = k };
            unread = tt;
            whole = r.rests.whole;
            bits = r.rests.went.more;
            holds = r.rests.went.holds;
            goes_on = λ more further.
                positions_by_leaf levels s more nodes others (r.rests.went.more ++ further)
                ∙ (ap (λ (q : Read Walked). and_then q (by_label levels s more others)) (r.rests.went.goes_on further) ∙ sym (positions_by_leaf levels s more r.known others further));
          },
    )

-- and in the value tree
pub planes_stop : (levels : List ℕ) (s : Seat) (nodes others : List Node) (t : TagTrees) (before : List ℕ) (done : List Bool) (old new : Source) (stopped : HeaderStop)
    → LeafMoved (λ ns l. read_planes levels s 0 ns l) others before done t.planes old new (Err stopped) → Knows t.inclusion nodes → Finds levels s nodes others t Planes before done old new (Err stopped)
planes_stop levels s nodes others t before done old new stopped a k =
    let l = bits_after done (all_of before old) in
    let broken = (packed_bits (all_of before old)).broken_at in (
      λ more. stops_then (read_planes levels s 0 others l) (by_planes levels s more nodes) broken stopped a.0,
      λ n.
          let r = a.1 n in
          record {
            known = nodes;
            known_others = r.known;
            knows = record { inclusion = k; planes = r.knows };
            unread = inr (r.left, r.unknown);
            whole = r.rests.whole;
            bits = r.rests.went.more;
            holds = r.rests.went.holds;
            goes_on = λ more further. ap (λ (q : Read Walked). and_then q (by_planes levels s more nodes)) (r.rests.went.goes_on further);
          },
    )

-- a step after the trees reads the values, and then further positions
of_block : (levels : List ℕ) (s : Seat) (more : List Seat) (nodes others : List Node) (step : Step) (l : List Bool) → IsOfBlock step
    → rest_at levels s more nodes others step l ≡ and_then (block_rest s step l) (block_and_more levels more nodes others)
of_block levels s more nodes others Inclusion l h = absurd h
of_block levels s more nodes others Planes l h = absurd h
of_block levels s more nodes others (Passes planes) l h = refl
of_block levels s more nodes others (MorePasses planes) l h = refl
of_block levels s more nodes others (LastPasses planes) l h = refl
of_block levels s more nodes others (Lblock planes passes) l h = refl
of_block levels s more nodes others (Cleanup planes passes lblock) l h = refl
of_block levels s more nodes others (Refine planes passes lblock cleanup) l h = refl

-- a step that is none of these
pub planes_next : (step : Step) → (IsOfBlock step → ⊥) → step ≢ Inclusion → step ≡ Planes
planes_next Inclusion h ne = absurd (ne refl)
planes_next Planes h ne = refl
planes_next (Passes planes) h ne = absurd (h tt)
planes_next (MorePasses planes) h ne = absurd (h tt)
planes_next (LastPasses planes) h ne = absurd (h tt)
planes_next (Lblock planes passes) h ne = absurd (h tt)
planes_next (Cleanup planes passes lblock) h ne = absurd (h tt)
planes_next (Refine planes passes lblock cleanup) h ne = absurd (h tt)

none_unread : (levels : List ℕ) (s : Seat) (others : List Node) (step : Step) (p : Part) → IsOfBlock step → IsUnread levels s others step p
none_unread levels s others Inclusion p h = absurd h
none_unread levels s others Planes p h = absurd h
none_unread levels s others (Passes planes) p h = tt
none_unread levels s others (MorePasses planes) p h = tt
none_unread levels s others (LastPasses planes) p h = tt
none_unread levels s others (Lblock planes passes) p h = tt
none_unread levels s others (Cleanup planes passes lblock) p h = tt
none_unread levels s others (Refine planes passes lblock cleanup) p h = tt

-- the next step's tree wasn't begun
pub unread_free : (levels : List ℕ) (s : Seat) (others : List Node) (step : Step) (p : Part) → p ≡ Nothing → IsUnread levels s others step p
unread_free levels s others Inclusion p h = tt
unread_free levels s others Planes p h = inl h
unread_free levels s others (Passes planes) p h = tt
unread_free levels s others (MorePasses planes) p h = tt
unread_free levels s others (LastPasses planes) p h = tt
unread_free levels s others (Lblock planes passes) p h = tt
unread_free levels s others (Cleanup planes passes lblock) p h = tt
unread_free levels s others (Refine planes passes lblock cleanup) p h = tt

-- the code-block's values were read
pub values_read : (levels : List ℕ) (s : Seat) (nodes others : List Node) (t : TagTrees) (step : Step) (before : List ℕ) (done : List Bool) (new : Source) (held now : List Block) (b : Block) → IsOfBlock step → KnowsBoth t nodes others
    → now ≡ held ++ b ∷ [] → Went (block_rest s step) (λ l. Got (block_of b) l) before done new → ReadAt levels s nodes others t step before done new held now
values_read levels s nodes others t step before done new held now b z k grown w = record {
  known = nodes;
  known_others = others;
  knows = k;
  added = b ∷ [];
  grown = grown;
  bits = w.more;
  holds = w.holds;
  goes_on = λ more further. of_block levels s more nodes others step (w.more ++ further) z ∙ ap (λ (r : Read values.Block). and_then r (block_and_more levels more nodes others)) (w.goes_on further);
}

-- or stop
pub values_stop : (levels : List ℕ) (s : Seat) (nodes others : List Node) (t : TagTrees) (step at : Step) (before : List ℕ) (done : List Bool) (old new : Source) (held : List Block) (stopped : HeaderStop) → IsOfBlock step → KnowsBoth t nodes others
    → (stopped ≡ Need → IsOfBlock at) → Moved {Y = Block} (block_rest s step) (block_rest s at) before done old new (Err stopped) → ReadsAt levels s nodes others t step at before done old new held held (Err stopped)
values_stop levels s nodes others t step at before done old new held stopped z k on m =
    let l = bits_after done (all_of before old) in
    let broken = (packed_bits (all_of before old)).broken_at in (
      λ more. same_stop (rest_at levels s more nodes others step l) (and_then (block_rest s step l) (block_and_more levels more nodes others)) broken stopped (of_block levels s more nodes others step l z)
          (stops_then (block_rest s step l) (block_and_more levels more nodes others) broken stopped m.0),
      λ n.
          let r = m.1 n in (
            record {
              known = nodes;
              known_others = others;
              knows = k;
              unread = none_unread levels s others at new.bits.part (on n);
              whole = r.whole;
              bits = r.went.more;
              holds = r.went.holds;
              goes_on = λ more further.
                  of_block levels s more nodes others step (r.went.more ++ further) z
                  ∙ (ap (λ (q : Read values.Block). and_then q (block_and_more levels more nodes others)) (r.went.goes_on further) ∙ sym (of_block levels s more nodes others at further (on n)));
            },
            refl,
          ),
    )

-- no code-blocks ahead
none_ahead : (r : Read (List values.Block)) → r ≡ ahead [] r
none_ahead (Got x l) = refl
none_ahead AtEnd = refl
none_ahead (Refused why) = refl

pub left_out : (levels : List ℕ) (s : Seat) (nodes others : List Node) (t : TagTrees) (step : Step) (before : List ℕ) (done : List Bool) (new : Source) (held : List Block) → WentAt levels s nodes others t step before done new None
    → ReadAt levels s nodes others t step before done new held held
left_out levels s nodes others t step before done new held w = record {
  known = w.known;
  known_others = w.known_others;
  knows = w.knows;
  added = [];
  grown = sym (append-nil held);
  bits = w.bits;
  holds = w.holds;
  goes_on = λ more further. w.goes_on more further ∙ none_ahead (read_seats levels more w.known w.known_others further);
}

-- what stops in the trees stops in the position
pub finds_stop : (levels : List ℕ) (s : Seat) (nodes others : List Node) (t : TagTrees) (step : Step) (before : List ℕ) (done : List Bool) (old new : Source) (held : List Block) (stopped : HeaderStop) → Finds levels s nodes others t step before done old new (Err stopped)
    → ReadsAt levels s nodes others t step step before done old new held held (Err stopped)
finds_stop levels s nodes others t step before done old new held stopped a = (a.0, λ n. (a.1 n, refl))

-- a step, and then what is left of the position
pub position_on : (levels : List ℕ) (s : Seat) (nodes others : List Node) (t u : TagTrees) (step mid_step at : Step) (before : List ℕ) (done : List Bool) (old mid new : Source) (held now : List Block) (out : Result (Unit {0}) HeaderStop) → mid.piece.now ≡ old.piece.now
    → (w : WentAt levels s nodes others t step before done mid (Some mid_step)) → ReadsAt levels s w.known w.known_others u mid_step at before (done ++ w.bits) mid new held now out
    → ReadsAt levels s nodes others u step at before done old new held now out
position_on levels s nodes others t u step mid_step at before done old mid new held now (Ok x) same w r =
    let P : List Bool → Type 0 = λ l. HasGiven before l new in
    record {
      known = r.known;
      known_others = r.known_others;
      knows = r.knows;
      added = r.added;
      grown = r.grown;
      bits = w.bits ++ r.bits;
      holds = subst P (append_assoc done w.bits r.bits) r.holds;
      goes_on = λ more further. ap (rest_at levels s more nodes others step) (append_assoc w.bits r.bits further) ∙ (w.goes_on more (r.bits ++ further) ∙ r.goes_on more further);
    }
position_on levels s nodes others t u step mid_step at before done old mid new held now (Err stopped) same w r =
    let P : List Bool → Type 0 = λ l. HasGiven before l new in
    let l = bits_after done (all_of before old) in
    let m = bits_after (done ++ w.bits) (all_of before mid) in (
      λ more.
          let e : rest_at levels s more nodes others step l ≡ rest_at levels s more w.known w.known_others mid_step m =
          ap (rest_at levels s more nodes others step) (left_behind before done w.bits old mid same w.holds) ∙ w.goes_on more m in
          let Q : List ℕ → Type 0 = λ k. IsStop (rest_at levels s more w.known w.known_others mid_step m) (packed_bits (before ++ k)).broken_at stopped in
          same_stop (rest_at levels s more nodes others step l) (rest_at levels s more w.known w.known_others mid_step m) (packed_bits (all_of before old)).broken_at stopped e (subst Q same (r.0 more)),
      λ n.
          let q = r.1 n in
          let b = q.0 in (
            record {
              known = b.known;
              known_others = b.known_others;
              knows = b.knows;
              unread = b.unread;
              whole = b.whole;
              bits = w.bits ++ b.bits;
              holds = subst P (append_assoc done w.bits b.bits) b.holds;
              goes_on = λ more further. ap (rest_at levels s more nodes others step) (append_assoc w.bits b.bits further) ∙ (w.goes_on more (b.bits ++ further) ∙ b.goes_on more further);
            },
            q.1,
          ),
    )
