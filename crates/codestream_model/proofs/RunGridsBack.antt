-- A run of grids are the pieces of a header that says these code-blocks, if all limits are left aside.
use Rattle.std.proofs.Common.{◌≡◌, ◌≢◌, ◌≤◌, ◌==◌, ◌&&◌, ◌||◌, ℕ, max, Bool, false, List, [], ◌∷◌, ◌++◌, map, Some, refl, sym, ◌∙◌, ap, subst, inl, inr, arith, append_assoc, if◌then◌else◌}
use Rattle.std.specs.List.{AllByRecursion, filter, flat_map, list_any}
use Rattle.std.proofs.lemmas.Bool.Decides.{eqb_tells}
use Rattle.std.proofs.lemmas.List.{append-nil, map-append}
use Rattle.std.proofs.lemmas.List.Elements.{filter-append}
use Rattle.std.proofs.lemmas.List.Folds.{list_any-append}
use Rattle.codestream_model.specs.Values.{Grid, Block}
use Rattle.codestream_model.specs.TagTrees.{Seat, Labels, seats, seat_of, label, root_level}
use Rattle.codestream_model.specs.HeaderPieces.{Piece, Choices, stands_at, seat_pieces, header_pieces}
use Rattle.codestream_model.specs.PacketHeader.{HaveOwnBands, is_included, FitLengths, LabelsInclusion, LabelsPlanes, CanSay}
use Rattle.codestream_model.specs.PacketHeaderReading.{Node, known_label}
use Rattle.codestream_model.proofs.TreeLemmas.{AreDistinct, or_false}
use Rattle.codestream_model.proofs.SeatLemmas.{all-append, all-map, seats_distinct, seats_are_seats, stands_here, stands_beside, distinct-filter}
use Rattle.codestream_model.proofs.GridLemmas.{IsGrid}
use Rattle.codestream_model.proofs.BandLemmas.{of_band, band_of_seats, all_of_band, none_of_band}
use Rattle.codestream_model.proofs.NodeLemmas.{AreNodes, label_in, label_known, label_small, labels_never_fall}
use Rattle.codestream_model.proofs.PickLemmas.{picked_band, picked_tells, picked_seats, TellsIncluded, seat_member}
use Rattle.codestream_model.proofs.PieceRuns.{GridsRun}
use Rattle.codestream_model.proofs.RunTreesBack.{Agrees, IsUp, IsBelowZero, AreBelow}
use Rattle.codestream_model.proofs.RunSeatsBack.{Picked, HaveLblocks, CanHave, SeatsRunBack, seats_run_back}

-- the greatest label of nodes
highest : List Node → ℕ
highest [] = 0
highest (n ∷ nodes) = max n.label (highest nodes)

-- no label is above it
below_highest : (nodes : List Node) → AreBelow (highest nodes) nodes
unfolding highest
below_highest [] = tt
below_highest (n ∷ nodes) = (omega arith, all-map (λ (x : Node). x.label ≤ highest nodes) (λ (x : Node). x.label ≤ max n.label (highest nodes)) nodes (λ x h. omega arith) (below_highest nodes))

-- what runs of grids are, one after another
abbrev pub GridsBack : List Grid → List Piece → List Block → Type 0
GridsBack [] ps left = (left ≡ []) × (ps ≡ [])
GridsBack (g ∷ gs) ps left =
    (own : List Block) × (others : List Block) × (here : List Piece) × (rest : List Piece) × (left ≡ own ++ others) × (ps ≡ here ++ rest) × SeatsRunBack g (seats g) [] [] here own × GridsBack gs rest others

-- runs of grids are these
grids_back : (gs : List Grid) (ps : List Piece) (left : List Block) → GridsRun gs ps left → GridsBack gs ps left
unfolding known_label
grids_back [] ps left run = (run.1, run.0)
grids_back (g ∷ gs) ps left (own, others, here, rest, e, whole, run, more) =
    (own, others, here, rest, e, whole, seats_run_back g (seats g) [] [] here own (λ l t v h. absurd (cc)) (λ limit low l t v h. absurd (cc)) run, grids_back gs rest others more)

-- the labels of the value tree of a grid
abbrev value_labels : (g : Grid) (here : List Piece) (own : List Block) → SeatsRunBack g (seats g) [] [] here own → Labels
value_labels g here own s = label_in (highest s.pl_after) s.pl_after

-- its nodes are sound
value_nodes : (g : Grid) (here : List Piece) (own : List Block) (s : SeatsRunBack g (seats g) [] [] here own) → AreNodes (root_level g) (highest s.pl_after) IsUp s.pl_after
value_nodes g here own s = s.pl_rise (highest s.pl_after) (below_highest s.pl_after)

-- labels by band: those of one grid, and others for other bands
abbrev by_band : {A : Type 0} → ℕ → A → (ℕ → A) → ℕ → A
by_band band here elsewhere x = if x == band then here else elsewhere x

-- the Lblock of the code-block at a position
lblock_in : List Block → List ℕ → Seat → ℕ
lblock_in [] ns s = 3
lblock_in (b ∷ left) [] s = 3
lblock_in (b ∷ left) (n ∷ ns) s = if stands_at s b then n else lblock_in left ns s

-- the choices that were read
inclusion_read_of : (gs : List Grid) (ps : List Piece) (left : List Block) → GridsBack gs ps left → ℕ → Labels
inclusion_read_of [] ps left b band = λ level col row. 1
inclusion_read_of (g ∷ gs) ps left (own, others, here, rest, e, whole, s, more) band = by_band g.band (label_in 1 s.inc_after) (inclusion_read_of gs rest others more) band

-- of the value trees,
planes_read_of : (gs : List Grid) (ps : List Piece) (left : List Block) → GridsBack gs ps left → ℕ → Labels
planes_read_of [] ps left b band = λ level col row. 0
planes_read_of (g ∷ gs) ps left (own, others, here, rest, e, whole, s, more) band = by_band g.band (value_labels g here own s) (planes_read_of gs rest others more) band

-- and the Lblocks
lblock_read_of : (gs : List Grid) (ps : List Piece) (left : List Block) → GridsBack gs ps left → ℕ → Seat → ℕ
lblock_read_of [] ps left b band = λ s. 3
lblock_read_of (g ∷ gs) ps left (own, others, here, rest, e, whole, s, more) band = by_band g.band (lblock_in own s.ns) (lblock_read_of gs rest others more) band

-- choices that are what was read
Fits : Choices → (gs : List Grid) (ps : List Piece) (left : List Block) → GridsBack gs ps left → Type 0
Fits choices [] ps left b = Unit {0}
Fits choices (g ∷ gs) ps left (own, others, here, rest, e, whole, s, more) =
    (choices.inclusion g.band ≡ label_in 1 s.inc_after) × (choices.planes g.band ≡ value_labels g here own s) × HaveLblocks choices.lblock own s.ns × Fits choices gs rest others more

-- the labels that were read in a grid pick its code-blocks
own_picked : (g : Grid) (here : List Piece) (own : List Block) (s : SeatsRunBack g (seats g) [] [] here own) → Picked (label_in 1 s.inc_after) (seats g) own
own_picked g here own s =
    s.picked (label_in 1 s.inc_after) (labels_never_fall g 1 IsBelowZero s.inc_after (λ u v h. omega (arith, h)) s.inc_sound)
    (λ level x. label_small (root_level g) 1 IsBelowZero s.inc_after s.inc_sound level x) (λ l t v e. label_known 1 l v t s.inc_after e) (seats_are_seats g)

-- which are of its band,
own_bands : (g : Grid) (here : List Piece) (own : List Block) → SeatsRunBack g (seats g) [] [] here own → AllByRecursion (λ (x : Seat). x.band ≡ g.band) (map seat_of own)
own_bands g here own s = picked_band (label_in 1 s.inc_after) g.band (seats g) own (own_picked g here own s) (band_of_seats g)

-- and distinct
own_distinct : (g : Grid) (here : List Piece) (own : List Block) → SeatsRunBack g (seats g) [] [] here own → AreDistinct (map seat_of own)
own_distinct g here own s =
    let p = own_picked g here own s in
    let e : map seat_of own ≡ filter (is_included own) (seats g) = picked_seats (label_in 1 s.inc_after) own (seats g) own (picked_tells (label_in 1 s.inc_after) (seats g) own (seats_distinct g) p) p in
    rw e (distinct-filter (is_included own) (seats g) (seats_distinct g))

-- code-blocks of grids of other bands are of other bands
other_back : (band : ℕ) (gs : List Grid) (ps : List Piece) (left : List Block) → GridsBack gs ps left → AllByRecursion (λ (o : Grid). o.band ≢ band) gs → AllByRecursion (λ (x : Seat). x.band ≢ band) (map seat_of left)
other_back band [] ps left b a = rw b.0 tt
other_back band (g ∷ gs) ps left (own, others, here, rest, e, whole, s, more) a =
    let mine : AllByRecursion (λ (x : Seat). x.band ≢ band) (map seat_of own) = all-map (λ (x : Seat). x.band ≡ g.band) (λ (x : Seat). x.band ≢ band) (map seat_of own) (λ x f h. a.0 (sym f ∙ h)) (own_bands g here own s) in
    rw (e, map-append seat_of own others) (all-append (λ (x : Seat). x.band ≢ band) (map seat_of own) (map seat_of others) mine (other_back band gs rest others more a.1))

-- Lblocks that agree at a band
lblocks_same : (f f' : Seat → ℕ) (band : ℕ) (own : List Block) (ns : List ℕ) → AllByRecursion (λ (x : Seat). x.band ≡ band) (map seat_of own) → ((s : Seat) → s.band ≡ band → f s ≡ f' s) → HaveLblocks f' own ns → HaveLblocks f own ns
lblocks_same f f' band [] ns a e h = tt
lblocks_same f f' band (b ∷ own) [] a e h = h
lblocks_same f f' band (b ∷ own) (n ∷ ns) a e h = (e (seat_of b) a.0 ∙ h.0, lblocks_same f f' band own ns a.1 e h.1)

-- Lblocks beside one more code-block
lblocks_beside : (f : Seat → ℕ) (b : Block) (n : ℕ) (left : List Block) (ns : List ℕ) → AllByRecursion (λ (t : Seat). ((t.col == b.col) && (t.row == b.row)) ≡ false) (map seat_of left) → HaveLblocks f left ns → HaveLblocks (λ s. if stands_at s b then n else f s) left ns
lblocks_beside f b n [] ns a h = tt
lblocks_beside f b n (x ∷ left) [] a h = h
lblocks_beside f b n (x ∷ left) (m ∷ ns) a h =
    let apart : stands_at (seat_of x) b ≡ false = stands_beside (seat_of x) b a.0 in
    (rw apart h.0, lblocks_beside f b n left ns a.1 h.1)

-- the Lblocks of distinct code-blocks
lblocks_in : (own : List Block) (ns : List ℕ) → AreDistinct (map seat_of own) → CanHave own ns → HaveLblocks (lblock_in own ns) own ns
unfolding lblock_in
lblocks_in [] ns d c = tt
lblocks_in (b ∷ own) [] d c = c
lblocks_in (b ∷ own) (n ∷ ns) d c = (rw (stands_here b) refl, lblocks_beside (lblock_in own ns) b n own ns d.0 (lblocks_in own ns d.1 c.1))

-- choices that agree at the bands of grids
abbrev SameAt : Choices → Choices → Grid → Type 0
SameAt c d o = (c.inclusion o.band ≡ d.inclusion o.band) × (c.planes o.band ≡ d.planes o.band) × ((s : Seat) → s.band ≡ o.band → c.lblock s ≡ d.lblock s)

-- choices that agree with what was read
fits_same : (c d : Choices) (gs : List Grid) (ps : List Piece) (left : List Block) (b : GridsBack gs ps left) → AllByRecursion (SameAt c d) gs → Fits d gs ps left b → Fits c gs ps left b
unfolding Fits
fits_same c d [] ps left b a f = tt
fits_same c d (g ∷ gs) ps left (own, others, here, rest, e, whole, s, more) a f =
    (a.0.0 ∙ f.0, a.0.1 ∙ f.1, lblocks_same c.lblock d.lblock g.band own s.ns (own_bands g here own s) a.0.2 f.2, fits_same c d gs rest others more a.1 f.3)

-- the choices that were read
read_choices : (gs : List Grid) (ps : List Piece) (left : List Block) → GridsBack gs ps left → Choices
read_choices gs ps left b = record { inclusion = inclusion_read_of gs ps left b; planes = planes_read_of gs ps left b; lblock = λ s. lblock_read_of gs ps left b s.band s }

-- a choice at its band,
by_band_here : {A : Type 0} (band : ℕ) (here : A) (elsewhere : ℕ → A) (x : ℕ) → x ≡ band → by_band band here elsewhere x ≡ here
by_band_here band here elsewhere x e = elim (eqb_tells x band) [ inl t ↦ rw t.0 refl | inr t ↦ absurd (t.1 e) ]

-- and at another one
by_band_elsewhere : {A : Type 0} (band : ℕ) (here : A) (elsewhere : ℕ → A) (x : ℕ) → x ≢ band → by_band band here elsewhere x ≡ elsewhere x
by_band_elsewhere band here elsewhere x e = elim (eqb_tells x band) [ inl t ↦ absurd (e t.1) | inr t ↦ rw t.0 refl ]

-- they agree with those of fewer grids
same_below : (g : Grid) (gs : List Grid) (ps : List Piece) (left : List Block) (b : GridsBack (g ∷ gs) ps left) (os : List Grid) → AllByRecursion (λ (o : Grid). o.band ≢ g.band) os
    → AllByRecursion (SameAt (read_choices (g ∷ gs) ps left b) (read_choices gs b.3 b.1 b.7)) os
unfolding read_choices inclusion_read_of planes_read_of lblock_read_of
same_below g gs ps left (own, others, here, rest, e, whole, s, more) [] a = tt
same_below g gs ps left (own, others, here, rest, e, whole, s, more) (o ∷ os) a = (
  (
    by_band_elsewhere g.band (label_in 1 s.inc_after) (inclusion_read_of gs rest others more) o.band a.0,
    by_band_elsewhere g.band (value_labels g here own s) (planes_read_of gs rest others more) o.band a.0,
    λ x h. ap (λ (f : Seat → ℕ). f x) (by_band_elsewhere g.band (lblock_in own s.ns) (lblock_read_of gs rest others more) x.band (λ t. a.0 (sym h ∙ t))),
  ),
  same_below g gs ps left (own, others, here, rest, e, whole, s, more) os a.1,
)

-- the choices that were read are what was read
read_fits : (gs : List Grid) (ps : List Piece) (left : List Block) (b : GridsBack gs ps left) → HaveOwnBands gs → Fits (read_choices gs ps left b) gs ps left b
unfolding Fits read_choices inclusion_read_of planes_read_of lblock_read_of
read_fits [] ps left b bands = tt
read_fits (g ∷ gs) ps left (own, others, here, rest, e, whole, s, more) bands = (
  by_band_here g.band (label_in 1 s.inc_after) (inclusion_read_of gs rest others more) g.band refl,
  by_band_here g.band (value_labels g here own s) (planes_read_of gs rest others more) g.band refl,
  lblocks_same (λ x. by_band g.band (lblock_in own s.ns) (lblock_read_of gs rest others more) x.band x) (lblock_in own s.ns) g.band own s.ns (own_bands g here own s)
      (λ x h. ap (λ (f : Seat → ℕ). f x) (by_band_here g.band (lblock_in own s.ns) (lblock_read_of gs rest others more) x.band h))
      (lblocks_in own s.ns (own_distinct g here own s) s.can),
  fits_same (read_choices (g ∷ gs) ps left (own, others, here, rest, e, whole, s, more)) (read_choices gs rest others more) gs rest others more
      (same_below g gs ps left (own, others, here, rest, e, whole, s, more) gs bands.0) (read_fits gs rest others more bands.1),
)

-- what is said of a header by choices that were read, for grids that are left
record SaysBack (gs : List Grid) (choices : Choices) (blocks left : List Block) (ps : List Piece) : Type 0 where
  inclusion : AllByRecursion (λ (g : Grid). LabelsInclusion blocks (choices.inclusion g.band) g) gs
  planes : AllByRecursion (λ (g : Grid). LabelsPlanes blocks (choices.planes g.band) g) gs
  seated : map seat_of left ≡ filter (is_included blocks) (flat_map seats gs)
  passes : AllByRecursion (λ (b : Block). (1 ≤ b.passes) × (b.passes ≤ 6)) left
  fits : AllByRecursion (λ (b : Block). FitLengths (choices.lblock (seat_of b)) b) left
  pieces : ps ≡ header_pieces gs choices blocks

-- code-blocks of other bands are included at no position of a band
none_in_band : (band : ℕ) (xs : List Block) (s : Seat) → AllByRecursion (λ (x : Seat). x.band ≢ band) (map seat_of xs) → s.band ≡ band → is_included xs s ≡ false
none_in_band band [] s a e = refl
none_in_band band (b ∷ xs) s a e =
    let ne : (b.band == s.band) ≡ false = elim (eqb_tells b.band s.band) [ inl t ↦ absurd (a.0 (t.1 ∙ e)) | inr t ↦ t.0 ] in
    rw ne (none_in_band band xs s a.1 e)

-- so of three parts the one of the band tells
included_own : (band : ℕ) (pre own others : List Block) (s : Seat) → AllByRecursion (λ (x : Seat). x.band ≢ band) (map seat_of pre) → AllByRecursion (λ (x : Seat). x.band ≢ band) (map seat_of others) → s.band ≡ band
    → is_included (pre ++ (own ++ others)) s ≡ is_included own s
included_own band pre own others s a c e =
    let p : list_any (stands_at s) pre ≡ false = none_in_band band pre s a e in
    let q : list_any (stands_at s) others ≡ false = none_in_band band others s c e in
    list_any-append (stands_at s) pre (own ++ others) ∙ (ap (λ (x : Bool). x || list_any (stands_at s) (own ++ others)) p ∙ (list_any-append (stands_at s) own others
    ∙ (ap (λ (x : Bool). list_any (stands_at s) own || x) q ∙ or_false (list_any (stands_at s) own))))

-- labels tell which of all code-blocks are included
tells_all : (labels : Labels) (blocks own : List Block) (band : ℕ) (xs : List Seat) → AllByRecursion (λ (x : Seat). x.band ≡ band) xs → ((s : Seat) → s.band ≡ band → is_included blocks s ≡ is_included own s)
    → AllByRecursion (TellsIncluded labels own) xs → AllByRecursion (TellsIncluded labels blocks) xs
tells_all labels blocks own band [] a e t = tt
tells_all labels blocks own band (s ∷ xs) a e t = (t.0 ∙ ap (λ (x : Bool). if x then 0 else 1) (sym (e s a.0)), tells_all labels blocks own band xs a.1 e t.1)

-- zero bit-planes of code-blocks of other bands don't matter
values_other : (labels : Labels) (band : ℕ) (xs : List Block) → AllByRecursion (λ (x : Seat). x.band ≢ band) (map seat_of xs) → AllByRecursion (λ (b : Block). b.band ≡ band → label labels 0 (seat_of b) ≡ b.planes) xs
values_other labels band [] a = tt
values_other labels band (b ∷ xs) a = (λ e. absurd (a.0 e), values_other labels band xs a.1)

-- those of the band do
values_own : (labels : Labels) (band : ℕ) (xs : List Block) → AllByRecursion (λ (b : Block). label labels 0 (seat_of b) ≡ b.planes) xs → AllByRecursion (λ (b : Block). b.band ≡ band → label labels 0 (seat_of b) ≡ b.planes) xs
values_own labels band [] a = tt
values_own labels band (b ∷ xs) a = (λ e. a.0, values_own labels band xs a.1)

-- what code-blocks with these Lblocks have
can_back : (f : Seat → ℕ) (xs : List Block) (ns : List ℕ) → CanHave xs ns → HaveLblocks f xs ns
    → AllByRecursion (λ (b : Block). (1 ≤ b.passes) × (b.passes ≤ 6)) xs × AllByRecursion (λ (b : Block). FitLengths (f (seat_of b)) b) xs
can_back f [] ns c h = (tt, tt)
can_back f (b ∷ xs) [] c h = absurd c
can_back f (b ∷ xs) (n ∷ ns) c h =
    let r = can_back f xs ns c.1 h.1 in
    let P : ℕ → Type 0 = λ k. FitLengths k b in
    ((c.0.0, r.0), (subst P (sym h.0) c.0.1, r.1))

-- code-blocks before grids, with those of the first of them
pre_more : (band : ℕ) (pre own : List Block) (os : List Grid) → AllByRecursion (λ (x : Seat). x.band ≡ band) (map seat_of own) → AllByRecursion (λ (o : Grid). o.band ≢ band) os
    → AllByRecursion (λ (o : Grid). AllByRecursion (λ (x : Seat). x.band ≢ o.band) (map seat_of pre)) os → AllByRecursion (λ (o : Grid). AllByRecursion (λ (x : Seat). x.band ≢ o.band) (map seat_of (pre ++ own))) os
pre_more band pre own [] a d p = tt
pre_more band pre own (o ∷ os) a d p =
    let theirs : AllByRecursion (λ (x : Seat). x.band ≢ o.band) (map seat_of own) = all-map (λ (x : Seat). x.band ≡ band) (λ (x : Seat). x.band ≢ o.band) (map seat_of own) (λ x e h. d.0 (sym h ∙ e)) a in
    (rw (map-append seat_of pre own) (all-append (λ (x : Seat). x.band ≢ o.band) (map seat_of pre) (map seat_of own) p.0 theirs), pre_more band pre own os a d.1 p.1)

-- one grid, and those after it
says_grid : (g : Grid) (gs : List Grid) (choices : Choices) (pre own others : List Block) (here rest : List Piece) (s : SeatsRunBack g (seats g) [] [] here own)
    → choices.inclusion g.band ≡ label_in 1 s.inc_after → choices.planes g.band ≡ value_labels g here own s → HaveLblocks choices.lblock own s.ns
    → AllByRecursion (λ (x : Seat). x.band ≢ g.band) (map seat_of pre) → AllByRecursion (λ (x : Seat). x.band ≢ g.band) (map seat_of others)
    → SaysBack gs choices (pre ++ (own ++ others)) others rest → SaysBack (g ∷ gs) choices (pre ++ (own ++ others)) (own ++ others) (here ++ rest)
unfolding known_label
says_grid g gs choices pre own others here rest s ei ep hl before behind r =
    let blocks = pre ++ (own ++ others) in
    let li = label_in 1 s.inc_after in
    let limit = highest s.pl_after in
    let lp = value_labels g here own s in
    let picked = own_picked g here own s in
    let same = λ (x : Seat) (e : x.band ≡ g.band). included_own g.band pre own others x before behind e in
    let tells : AllByRecursion (TellsIncluded li blocks) (seats g) = tells_all li blocks own g.band (seats g) (band_of_seats g) same (picked_tells li (seats g) own (seats_distinct g) picked) in
    let seats_are : map seat_of own ≡ filter (is_included blocks) (seats g) = picked_seats li blocks (seats g) own tells picked in
    let agrees_li = λ (l : ℕ) (t : Seat) (v : ℕ) (e : known_label l t s.inc_after ≡ Some v). label_known 1 l v t s.inc_after e in
    let agrees_lp = λ (l : ℕ) (t : Seat) (v : ℕ) (e : known_label l t s.pl_after ≡ Some v). label_known limit l v t s.pl_after e in
    let inc : LabelsInclusion blocks li g = record {
      never_falls = labels_never_fall g 1 IsBelowZero s.inc_after (λ u v h. omega (arith, h)) s.inc_sound;
      leaves = λ x i. seat_member (TellsIncluded li blocks) g x tells i;
    } in
    let values = values_own lp g.band own (s.values lp agrees_lp) in
    let Q : Block → Type 0 = λ b. b.band ≡ g.band → label lp 0 (seat_of b) ≡ b.planes in
    let pl : LabelsPlanes blocks lp g = record {
      never_falls = labels_never_fall g limit IsUp s.pl_after (λ u v h. h) (value_nodes g here own s);
      leaves = all-append Q pre (own ++ others) (values_other lp g.band pre before) (all-append Q own others values (values_other lp g.band others behind));
    } in
    let I : Labels → Type 0 = λ x. LabelsInclusion blocks x g in
    let V : Labels → Type 0 = λ x. LabelsPlanes blocks x g in
    let inc' : LabelsInclusion blocks (choices.inclusion g.band) g = subst I (sym ei) inc in
    let pl' : LabelsPlanes blocks (choices.planes g.band) g = subst V (sym ep) pl in
    let own_are : filter (of_band g) blocks ≡ own =
    filter-append (of_band g) pre (own ++ others) ∙ (ap (λ (l : List Block). l ++ filter (of_band g) (own ++ others)) (none_of_band g pre before)
    ∙ (filter-append (of_band g) own others ∙ (ap (λ (l : List Block). l ++ filter (of_band g) others) (all_of_band g own (own_bands g here own s))
    ∙ (ap (λ (l : List Block). own ++ l) (none_of_band g others behind) ∙ append-nil own)))) in
    let is : IsGrid g choices blocks own = record { inclusion = inc'; planes = pl'.never_falls; own_blocks = own_are; own_seats = seats_are } in
    let can = can_back choices.lblock own s.ns s.can hl in
    let AI : Labels → Type 0 = λ x. Agrees x s.inc_after in
    let AP : Labels → Type 0 = λ x. Agrees x s.pl_after in
    let first : here ≡ flat_map (seat_pieces g choices blocks) (seats g) =
    s.given choices blocks own [] [] is refl refl (seats_are_seats g) hl (subst AI (sym ei) agrees_li) (subst AP (sym ep) agrees_lp) (λ l t h. refl) (λ l t h. refl) in
    record {
      inclusion = (inc', r.inclusion);
      planes = (pl', r.planes);
      seated = map-append seat_of own others ∙ (ap (λ (l : List Seat). l ++ map seat_of others) seats_are ∙ (ap (λ (l : List Seat). filter (is_included blocks) (seats g) ++ l) r.seated
          ∙ sym (filter-append (is_included blocks) (seats g) (flat_map seats gs))));
      passes = all-append (λ (b : Block). (1 ≤ b.passes) × (b.passes ≤ 6)) own others can.0 r.passes;
      fits = all-append (λ (b : Block). FitLengths (choices.lblock (seat_of b)) b) own others can.1 r.fits;
      pieces = ap (λ (x : List Piece). x ++ rest) first ∙ ap (λ (x : List Piece). flat_map (seat_pieces g choices blocks) (seats g) ++ x) r.pieces;
    }

-- all grids
says_grids : (choices : Choices) (gs : List Grid) (pre : List Block) (ps : List Piece) (left : List Block) (b : GridsBack gs ps left) → HaveOwnBands gs → Fits choices gs ps left b
    → AllByRecursion (λ (o : Grid). AllByRecursion (λ (x : Seat). x.band ≢ o.band) (map seat_of pre)) gs → SaysBack gs choices (pre ++ left) left ps
unfolding Fits
says_grids choices [] pre ps left b bands f p = rw b.0 (record { inclusion = tt; planes = tt; seated = refl; passes = tt; fits = tt; pieces = b.1 })
says_grids choices (g ∷ gs) pre ps left (own, others, here, rest, e, whole, s, more) bands f p =
    let theirs = own_bands g here own s in
    let r = says_grids choices gs (pre ++ own) rest others more bands.1 f.3 (pre_more g.band pre own gs theirs bands.0 p.1) in
    let P : List Block → Type 0 = λ l. SaysBack gs choices l others rest in
    let r' : SaysBack gs choices (pre ++ (own ++ others)) others rest = subst P (append_assoc pre own others) r in
    let Q : List Block → Type 0 = λ l. SaysBack (g ∷ gs) choices (pre ++ l) l ps in
    let R : List Piece → Type 0 = λ l. SaysBack (g ∷ gs) choices (pre ++ (own ++ others)) (own ++ others) l in
    subst Q (sym e) (subst R (sym whole) (says_grid g gs choices pre own others here rest s f.0 f.1 f.2 p.0 (other_back g.band gs rest others more bands.0) r'))

-- no code-blocks before grids
none_before : (gs : List Grid) → AllByRecursion (λ (o : Grid). AllByRecursion (λ (x : Seat). x.band ≢ o.band) (map seat_of [])) gs
none_before [] = tt
none_before (g ∷ gs) = (tt, none_before gs)

-- a header that has these pieces
pub record HasPieces (gs : List Grid) (blocks : List Block) (ps : List Piece) : Type 0 where
  pub choices : Choices
  pub can_say : CanSay gs choices blocks
  pub pieces : ps ≡ header_pieces gs choices blocks

-- a run of all grids are a header's pieces
pub run_says : (gs : List Grid) (ps : List Piece) (blocks : List Block) → HaveOwnBands gs → GridsRun gs ps blocks → HasPieces gs blocks ps
run_says gs ps blocks bands run =
    let b = grids_back gs ps blocks run in
    let choices = read_choices gs ps blocks b in
    let r = says_grids choices gs [] ps blocks b bands (read_fits gs ps blocks b bands) (none_before gs) in
    record {
      choices = choices;
      can_say = record { seated = r.seated; inclusion = r.inclusion; planes = r.planes; passes = r.passes; lengths = r.fits };
      pieces = r.pieces;
    }
