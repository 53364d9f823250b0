-- The pieces of a header are a run, if all limits are left aside.
use Rattle.std.proofs.Common.{◌≡◌, ◌≢◌, ◌≤◌, ◌==◌, ℕ, Bool, true, false, not, List, [], ◌∷◌, ◌++◌, map, refl, sym, ◌∙◌, ap, subst, inl, inr, arith, append_assoc, if◌then◌else◌}
use Rattle.std.specs.List.{AllByRecursion, filter, flat_map, list_any}
use Rattle.std.proofs.lemmas.List.{append-nil, map-append}
use Rattle.std.proofs.lemmas.List.Elements.{filter-append}
use Rattle.codestream_model.specs.Values.{Grid, Block}
use Rattle.codestream_model.specs.TagTrees.{Seat, IsSeat, seats, seat_of, label, root_level, levels_from, shares, is_first, inclusion_bits, value_steps}
use Rattle.codestream_model.specs.HeaderPieces.{Piece, InclusionPiece, PlanesPiece, Choices, stands_at, block_pieces, seat_pieces, header_pieces}
use Rattle.codestream_model.specs.PacketHeader.{HaveOwnBands, is_included, LabelsInclusion, LabelsPlanes, FitLengths, CanSay}
use Rattle.codestream_model.specs.PacketHeaderReading.{Node, known_label, Walked}
use Rattle.codestream_model.proofs.ReadingLemmas.{segment_pieces}
use Rattle.codestream_model.proofs.TreeLemmas.{AreDistinct, either, first_is}
use Rattle.codestream_model.proofs.WalkLemmas.{always, below_zero}
use Rattle.codestream_model.proofs.SeatLemmas.{all-filter, all-behind, distinct-filter, seats_distinct, seats_are_seats, none_stands}
use Rattle.codestream_model.proofs.GridLemmas.{KnowsBehind, next_leaf, leaf_known, root_parent, IsGrid, first_here, alone}
use Rattle.codestream_model.proofs.BandLemmas.{map_split, of_band, band_of_seats, other_bands, all_of_band, none_of_band, still_own, same_own}
use Rattle.codestream_model.proofs.PieceRuns.{PlanesRun, InclusionRun, IncludedRun, SeatsRun, GridsRun}
use Rattle.codestream_model.proofs.RunTrees.{planes_run, inclusion_run}

-- the pieces of a position at which no code-block is included
pub pieces_out : (g : Grid) (choices : Choices) (blocks : List Block) (s : Seat) → filter (stands_at s) blocks ≡ []
    → seat_pieces g choices blocks s ≡ map InclusionPiece (inclusion_bits g (choices.inclusion g.band) s)
pieces_out g choices blocks s e =
    ap (λ (l : List Block). map InclusionPiece (inclusion_bits g (choices.inclusion g.band) s) ++ flat_map (block_pieces g choices blocks) l) e
    ∙ append-nil (map InclusionPiece (inclusion_bits g (choices.inclusion g.band) s))

-- the pieces of the zero bit-planes of a code-block, among those of its grid
abbrev pub value_pieces : Grid → Choices → List Block → Block → List Piece
value_pieces g choices own b = map PlanesPiece (value_steps g (choices.planes g.band) (map seat_of own) (seat_of b))

-- the pieces of a position at which one is included
pub pieces_in : (g : Grid) (choices : Choices) (blocks own : List Block) (s : Seat) (b : Block) → filter (stands_at s) blocks ≡ b ∷ [] → filter (λ x. x.band == g.band) blocks ≡ own
    → seat_pieces g choices blocks s ≡ map InclusionPiece (inclusion_bits g (choices.inclusion g.band) s) ++ (value_pieces g choices own b ++ segment_pieces (choices.lblock (seat_of b)) b)
pieces_in g choices blocks own s b e f =
    let ib = map InclusionPiece (inclusion_bits g (choices.inclusion g.band) s) in
    ap (λ (l : List Block). ib ++ flat_map (block_pieces g choices blocks) l) e
    ∙ ap (λ (l : List Piece). ib ++ l) (append-nil (block_pieces g choices blocks b)
    ∙ ap (λ (l : List Block). value_pieces g choices l b ++ segment_pieces (choices.lblock (seat_of b)) b) f)

-- what a code-block of a grid has, if all limits are left aside
pub record OwnRun (g : Grid) (choices : Choices) (b : Block) : Type 0 where
  pub band : b.band ≡ g.band
  pub planes : label (choices.planes g.band) 0 (seat_of b) ≡ b.planes
  pub passes : (1 ≤ b.passes) × (b.passes ≤ 6)
  pub fits : FitLengths (choices.lblock (seat_of b)) b

-- the inclusion of a position is a run
seat_inclusion : (g : Grid) (choices : Choices) (blocks own : List Block) (earlier more : List Seat) (s : Seat) (inc : List Node)
    → IsGrid g choices blocks own → seats g ≡ earlier ++ s ∷ more → IsSeat g s
    → KnowsBehind (root_level g) (below_zero g (choices.inclusion g.band)) (choices.inclusion g.band) earlier inc
    → (after : List Node) × KnowsBehind (root_level g) (below_zero g (choices.inclusion g.band)) (choices.inclusion g.band) (earlier ++ s ∷ []) after
    × InclusionRun (levels_from (root_level g)) s 0 inc (map InclusionPiece (inclusion_bits g (choices.inclusion g.band) s)) (record { label = label (choices.inclusion g.band) 0 s; nodes = after })
seat_inclusion g choices blocks own earlier more s inc is e i k =
    let labels = choices.inclusion g.band in
    let leaf : label labels 0 s ≡ (if is_included blocks s then 0 else 1) = is.inclusion.leaves s i in
    let small : label labels 0 s ≤ 1 = elim (either (is_included blocks s)) [
      | inl t ↦ omega (arith, leaf ∙ ap (λ (b : Bool). if b then 0 else 1) t)
      | inr t ↦ omega (arith, leaf ∙ ap (λ (b : Bool). if b then 0 else 1) t)
    ] in
    let walk = inclusion_run g labels earlier s (λ l. is_first l s (seats g)) (root_level g) inc is.inclusion.never_falls i small (omega arith) (first_here g earlier more s e)
    (next_leaf (root_level g) (below_zero g labels) labels earlier s inc k) in
    let P : ℕ → Type 0 = λ n. InclusionRun (levels_from (root_level g)) s n inc (map InclusionPiece (inclusion_bits g labels s)) (record { label = label labels 0 s; nodes = walk.0 }) in
    (walk.0, leaf_known (root_level g) (below_zero g labels) labels earlier s walk.0 walk.1, subst P (root_parent g labels s) walk.2)

-- a position without a code-block, and what follows it
seat_out : (g : Grid) (choices : Choices) (blocks own : List Block) (earlier more : List Seat) (s : Seat) (inc pl : List Node)
    → IsGrid g choices blocks own → seats g ≡ earlier ++ s ∷ more → IsSeat g s
    → KnowsBehind (root_level g) (below_zero g (choices.inclusion g.band)) (choices.inclusion g.band) earlier inc
    → is_included blocks s ≡ false
    → (after : List Node) × KnowsBehind (root_level g) (below_zero g (choices.inclusion g.band)) (choices.inclusion g.band) (earlier ++ s ∷ []) after
    × ((left : List Block) → SeatsRun (levels_from (root_level g)) more after pl (flat_map (seat_pieces g choices blocks) more) left
    → SeatsRun (levels_from (root_level g)) (s ∷ more) inc pl (flat_map (seat_pieces g choices blocks) (s ∷ more)) left)
seat_out g choices blocks own earlier more s inc pl is e i k out =
    let labels = choices.inclusion g.band in
    let rest = flat_map (seat_pieces g choices blocks) more in
    let leaf : label labels 0 s ≡ 1 = is.inclusion.leaves s i ∙ ap (λ (b : Bool). if b then 0 else 1) out in
    let zero_no : (label labels 0 s == 0) ≡ false = ap (λ (n : ℕ). n == 0) leaf in
    let r = seat_inclusion g choices blocks own earlier more s inc is e i k in (
      r.0,
      r.1,
      λ left run. (
        record { label = label labels 0 s; nodes = r.0 },
        map InclusionPiece (inclusion_bits g labels s),
        rest,
        ap (λ (l : List Piece). l ++ rest) (pieces_out g choices blocks s (none_stands s blocks out)),
        r.2,
        inl (zero_no, run),
      ),
    )

-- a position with a code-block, and what follows it
seat_in : (g : Grid) (choices : Choices) (blocks own done left : List Block) (b : Block) (earlier more : List Seat) (inc pl : List Node)
    → IsGrid g choices blocks own → seats g ≡ earlier ++ seat_of b ∷ more → IsSeat g (seat_of b) → own ≡ done ++ b ∷ left → OwnRun g choices b
    → KnowsBehind (root_level g) (below_zero g (choices.inclusion g.band)) (choices.inclusion g.band) earlier inc
    → KnowsBehind (root_level g) always (choices.planes g.band) (map seat_of done) pl
    → is_included blocks (seat_of b) ≡ true
    → (after : List Node) × (values : List Node)
    × KnowsBehind (root_level g) (below_zero g (choices.inclusion g.band)) (choices.inclusion g.band) (earlier ++ seat_of b ∷ []) after
    × KnowsBehind (root_level g) always (choices.planes g.band) (map seat_of done ++ seat_of b ∷ []) values
    × ((others : List Block) → SeatsRun (levels_from (root_level g)) more after values (flat_map (seat_pieces g choices blocks) more) others
    → SeatsRun (levels_from (root_level g)) (seat_of b ∷ more) inc pl (flat_map (seat_pieces g choices blocks) (seat_of b ∷ more)) (b ∷ others))
seat_in g choices blocks own done left b earlier more inc pl is e i o ob k v within =
    let s = seat_of b in
    let levels = levels_from (root_level g) in
    let labels = choices.inclusion g.band in
    let planes = choices.planes g.band in
    let ip = map InclusionPiece (inclusion_bits g labels s) in
    let vp = value_pieces g choices own b in
    let sp = segment_pieces (choices.lblock s) b in
    let tail = flat_map (seat_pieces g choices blocks) more in
    let leaf : label labels 0 s ≡ 0 = is.inclusion.leaves s i ∙ ap (λ (b : Bool). if b then 0 else 1) within in
    let zero_yes : (label labels 0 s == 0) ≡ true = ap (λ (n : ℕ). n == 0) leaf in
    let one : filter (stands_at s) blocks ≡ b ∷ [] = alone g choices blocks own done left b is o ob.band in
    let whole : flat_map (seat_pieces g choices blocks) (s ∷ more) ≡ ip ++ ((vp ++ sp) ++ tail) =
    ap (λ (l : List Piece). l ++ tail) (pieces_in g choices blocks own s b one is.own_blocks) ∙ append_assoc ip (vp ++ sp) tail in
    let r = seat_inclusion g choices blocks own earlier more s inc is e i k in
    let seats_own : map seat_of own ≡ map seat_of done ++ s ∷ map seat_of left = ap (map seat_of) o ∙ map-append seat_of done (b ∷ left) in
    let d : AreDistinct (map seat_of own) = rw is.own_seats (distinct-filter (is_included blocks) (seats g) (seats_distinct g)) in
    let d' : AreDistinct (map seat_of done ++ s ∷ map seat_of left) = rw seats_own at d in
    let first = λ (l : ℕ). is_first l s (map seat_of own) in
    let met = λ (l : ℕ). let m : is_first l s (map seat_of own) ≡ not (list_any (shares l s) (map seat_of done)) = rw seats_own (first_is l s (map seat_of done) (map seat_of left) d') in m in
    let w = planes_run g planes (map seat_of done) s first (root_level g) pl is.planes i (omega arith) met (next_leaf (root_level g) always planes (map seat_of done) s pl v) in
    let value : Walked = record { label = label planes 0 s; nodes = w.0 } in
    let P : ℕ → Type 0 = λ n. PlanesRun levels s n pl vp value in
    let included : IncludedRun levels s pl (vp ++ sp) b value = record {
      planes = vp;
      rest = sp;
      whole = refl;
      value_run = subst P (root_parent g planes s) w.2;
      block_run = record { lblock = choices.lblock s; whole = refl; seat = refl; same = sym ob.planes; some = ob.passes.0; few = ob.passes.1; fits = ob.fits };
    } in (
      r.0,
      w.0,
      r.1,
      leaf_known (root_level g) always planes (map seat_of done) s w.0 w.1,
      λ others run. (
        record { label = label labels 0 s; nodes = r.0 },
        ip,
        (vp ++ sp) ++ tail,
        whole,
        r.2,
        inr (b, others, value, vp ++ sp, tail, zero_yes, refl, refl, included, run),
      ),
    )

-- the positions of a grid, from some on
seats_run : (g : Grid) (choices : Choices) (blocks own : List Block) (earlier later : List Seat) (done left : List Block) (inc pl : List Node)
    → IsGrid g choices blocks own → seats g ≡ earlier ++ later → own ≡ done ++ left → map seat_of left ≡ filter (is_included blocks) later
    → AllByRecursion (IsSeat g) later → AllByRecursion (OwnRun g choices) left
    → KnowsBehind (root_level g) (below_zero g (choices.inclusion g.band)) (choices.inclusion g.band) earlier inc
    → KnowsBehind (root_level g) always (choices.planes g.band) (map seat_of done) pl
    → SeatsRun (levels_from (root_level g)) later inc pl (flat_map (seat_pieces g choices blocks) later) left
seats_run g choices blocks own earlier [] done [] inc pl is e o m i ob k v = (refl, refl)
seats_run g choices blocks own earlier [] done (b ∷ left) inc pl is e o m i ob k v = absurd (cc)
seats_run g choices blocks own earlier (s ∷ more) done [] inc pl is e o m i ob k v = elim (either (is_included blocks s)) [
  | inl t ↦ let none : [] ≡ s ∷ filter (is_included blocks) more = rw t at m in absurd (cc)
  | inr t ↦
      let r = seat_out g choices blocks own earlier more s inc pl is e i.0 k t in
      let fewer : map seat_of [] ≡ filter (is_included blocks) more = rw t at m in
      r.2 [] (seats_run g choices blocks own (earlier ++ s ∷ []) more done [] r.0 pl is (e ∙ sym (append_assoc earlier (s ∷ []) more)) o fewer i.1 ob r.1 v)
]
seats_run g choices blocks own earlier (s ∷ more) done (b ∷ left) inc pl is e o m i ob k v = elim (either (is_included blocks s)) [
  | inl t ↦
      let both : seat_of b ∷ map seat_of left ≡ s ∷ filter (is_included blocks) more = rw t at m in
      let same : seat_of b ≡ s = cc in
      let fewer : map seat_of left ≡ filter (is_included blocks) more = cc in
      let e' : seats g ≡ earlier ++ seat_of b ∷ more = e ∙ ap (λ (x : Seat). earlier ++ x ∷ more) (sym same) in
      let i' : IsSeat g (seat_of b) = let P : Seat → Type 0 = λ x. IsSeat g x in subst P (sym same) i.0 in
      let within : is_included blocks (seat_of b) ≡ true = ap (is_included blocks) same ∙ t in
      let r = seat_in g choices blocks own done left b earlier more inc pl is e' i' o ob.0 k v within in
      let next : seats g ≡ (earlier ++ seat_of b ∷ []) ++ more = e' ∙ sym (append_assoc earlier (seat_of b ∷ []) more) in
      let o' : own ≡ (done ++ b ∷ []) ++ left = o ∙ sym (append_assoc done (b ∷ []) left) in
      let v' : KnowsBehind (root_level g) always (choices.planes g.band) (map seat_of (done ++ b ∷ [])) r.1 = rw (map-append seat_of done (b ∷ [])) r.3 in
      let run = r.4 left (seats_run g choices blocks own (earlier ++ seat_of b ∷ []) more (done ++ b ∷ []) left r.0 r.1 is next o' fewer i.1 ob.1 r.2 v') in
      let P : Seat → Type 0 = λ x. SeatsRun (levels_from (root_level g)) (x ∷ more) inc pl (flat_map (seat_pieces g choices blocks) (x ∷ more)) (b ∷ left) in
      subst P same run
  | inr t ↦
      let r = seat_out g choices blocks own earlier more s inc pl is e i.0 k t in
      let fewer : map seat_of (b ∷ left) ≡ filter (is_included blocks) more = rw t at m in
      r.2 (b ∷ left) (seats_run g choices blocks own (earlier ++ s ∷ []) more done (b ∷ left) r.0 pl is (e ∙ sym (append_assoc earlier (s ∷ []) more)) o fewer i.1 ob r.1 v)
]

-- what is needed of a code-block of any grid
abbrev CanRun : Choices → Block → Type 0
CanRun choices b = ((1 ≤ b.passes) × (b.passes ≤ 6)) × FitLengths (choices.lblock (seat_of b)) b

-- what is needed of code-blocks of a grid
own_of : (g : Grid) (choices : Choices) (own : List Block) → AllByRecursion (λ (s : Seat). s.band ≡ g.band) (map seat_of own)
    → AllByRecursion (λ (b : Block). b.band ≡ g.band → label (choices.planes g.band) 0 (seat_of b) ≡ b.planes) own → AllByRecursion (CanRun choices) own → AllByRecursion (OwnRun g choices) own
own_of g choices [] a p c = tt
own_of g choices (b ∷ own) a p c = (record { band = a.0; planes = p.0 a.0; passes = c.0.0; fits = c.0.1 }, own_of g choices own a.1 p.1 c.1)

-- the code-blocks of grids
grids_run : (choices : Choices) (blocks : List Block) (gs : List Grid) (left : List Block)
    → AllByRecursion (λ (g : Grid). LabelsInclusion blocks (choices.inclusion g.band) g) gs
    → AllByRecursion (λ (g : Grid). LabelsPlanes blocks (choices.planes g.band) g) gs
    → HaveOwnBands gs
    → map seat_of left ≡ filter (is_included blocks) (flat_map seats gs)
    → AllByRecursion (λ (g : Grid). filter (of_band g) blocks ≡ filter (of_band g) left) gs
    → AllByRecursion (CanRun choices) left
    → GridsRun gs (header_pieces gs choices blocks) left
unfolding known_label
grids_run choices blocks [] [] inc pl bands m f c = (refl, refl)
grids_run choices blocks [] (b ∷ left) inc pl bands m f c = absurd (cc)
grids_run choices blocks (g ∷ gs) left inc pl bands m f c =
    let split = map_split seat_of left (filter (is_included blocks) (seats g)) (filter (is_included blocks) (flat_map seats gs)) (m ∙ filter-append (is_included blocks) (seats g) (flat_map seats gs)) in
    let own = split.0 in
    let others = split.1 in
    let own_bands : AllByRecursion (λ (s : Seat). s.band ≡ g.band) (map seat_of own) = rw split.3 (all-filter (λ (s : Seat). s.band ≡ g.band) (is_included blocks) (seats g) (band_of_seats g)) in
    let their_bands : AllByRecursion (λ (s : Seat). s.band ≢ g.band) (map seat_of others) = rw split.4 (all-filter (λ (s : Seat). s.band ≢ g.band) (is_included blocks) (flat_map seats gs) (other_bands g gs bands.0)) in
    let own_is : filter (of_band g) blocks ≡ own =
    f.0 ∙ (ap (filter (of_band g)) split.2 ∙ (filter-append (of_band g) own others ∙ (ap (λ (l : List Block). l ++ filter (of_band g) others) (all_of_band g own own_bands)
    ∙ (ap (λ (l : List Block). own ++ l) (none_of_band g others their_bands) ∙ append-nil own)))) in
    let parts = all-behind (CanRun choices) own others (rw split.2 at c) in
    let leaves : AllByRecursion (λ (b : Block). b.band ≡ g.band → label (choices.planes g.band) 0 (seat_of b) ≡ b.planes) own =
    rw own_is at (all-filter (λ (b : Block). b.band ≡ g.band → label (choices.planes g.band) 0 (seat_of b) ≡ b.planes) (of_band g) blocks pl.0.leaves) in
    let is : IsGrid g choices blocks own = record { inclusion = inc.0; planes = pl.0.never_falls; own_blocks = own_is; own_seats = split.3 } in
    let P : List Block → Type 0 = λ l. AllByRecursion (λ (other : Grid). filter (of_band other) blocks ≡ filter (of_band other) l) gs in
    let f' : AllByRecursion (λ (other : Grid). filter (of_band other) blocks ≡ filter (of_band other) (own ++ others)) gs = subst P split.2 f.1 in (
      own,
      others,
      flat_map (seat_pieces g choices blocks) (seats g),
      header_pieces gs choices blocks,
      split.2,
      refl,
      seats_run g choices blocks own [] (seats g) [] own [] [] is refl refl split.3 (seats_are_seats g) (own_of g choices own own_bands leaves parts.0) (λ l t h. refl) (λ l t h. refl),
      grids_run choices blocks gs others inc.1 pl.1 bands.1 split.4 (still_own g blocks own others gs own_bands bands.0 f') parts.1,
    )

-- what is needed of all code-blocks of a header
can_run_all : (choices : Choices) (blocks : List Block) → AllByRecursion (λ (b : Block). (1 ≤ b.passes) × (b.passes ≤ 6)) blocks → AllByRecursion (λ (b : Block). FitLengths (choices.lblock (seat_of b)) b) blocks
    → AllByRecursion (CanRun choices) blocks
can_run_all choices [] p f = tt
can_run_all choices (b ∷ blocks) p f = ((p.0, f.0), can_run_all choices blocks p.1 f.1)

-- the pieces of a header
pub header_run : (grids : List Grid) (choices : Choices) (blocks : List Block) → HaveOwnBands grids → CanSay grids choices blocks → GridsRun grids (header_pieces grids choices blocks) blocks
header_run grids choices blocks bands c = grids_run choices blocks grids blocks c.inclusion c.planes bands c.seated (same_own blocks grids) (can_run_all choices blocks c.passes c.lengths)
