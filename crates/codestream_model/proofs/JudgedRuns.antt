-- What the reader makes of runs of pieces: it gets their value where all are sound, and stops where bits stop in them.
use Rattle.std.proofs.Common.{◌≡◌, ◌<◌, ◌≤◌, ◌/◌, ◌^◌, ◌==◌, ◌&&◌, ℕ, Bool, true, false, List, [], ◌∷◌, ◌++◌, Some, None, append_assoc, refl, sym, subst, inl, inr, arith}
use Rattle.std.specs.List.{AllByRecursion}
use Rattle.std.proofs.lemmas.List.{append-nil}
use Rattle.codestream_model.specs.Values.{Grid, Block}
use Rattle.codestream_model.specs.TagTrees.{Seat, seats, seat_of, root_level, levels_from}
use Rattle.codestream_model.specs.HeaderPieces.{Piece, InclusionPiece, PlanesPiece, PassesPiece, LblockPiece, CleanupPiece}
use Rattle.codestream_model.specs.PacketHeader.{IsWithinLimits, FitLengths}
use Rattle.codestream_model.specs.PacketHeaderReading.{Read, Got, and_then, read_either, Node, node_of, known_label, Walked, read_bit, read_label, read_passes, read_lblock, read_cleanup, read_refine, read_block, read_inclusion, read_planes, read_seats, read_grids}
use Rattle.codestream_model.proofs.ReadingLemmas.{refine_pieces, segment_pieces}
use Rattle.codestream_model.proofs.TreeLemmas.{either}
use Rattle.codestream_model.proofs.SeatLemmas.{all-append}
use Rattle.codestream_model.proofs.PieceRuns.{PlanesRun, bit_label, InclusionRun, BlockRun, IncludedRun, SeatsRun, GridsRun}
use Rattle.codestream_model.proofs.StopLemmas.{Judged, judged_none, judged_same, judged_then}
use Rattle.codestream_model.proofs.JudgedPieces.{bit_judged, label_judged, passes_judged, lblock_judged, cleanup_judged, refine_judged}

-- the labels of nodes of the value tree that are known are at most 74
abbrev pub AreLow : List Node → Type 0
AreLow nodes = AllByRecursion (λ (n : Node). n.label ≤ 74) nodes

-- a label that is known is low
known_low : (level : ℕ) (s : Seat) (nodes : List Node) (value : ℕ) → AreLow nodes → known_label level s nodes ≡ Some value → value ≤ 74
unfolding known_label
known_low level s [] value a e = absurd (cc)
known_low level s (n ∷ nodes) value a e = elim (either ((level == n.level) && ((s.col / 2 ^ level == n.col) && (s.row / 2 ^ level == n.row)))) [
  | inl t ↦
      let f : Some n.label ≡ Some value = rw t at e in
      let g : n.label ≡ value = cc in
      omega (arith, a.0)
  | inr t ↦
      let f : known_label level s nodes ≡ Some value = rw t at e in
      known_low level s nodes value a.1 f
]

-- a leaf of the value tree that isn't refused has a low label, and low nodes after it
abbrev IsLowWalk : Walked → Type 0
IsLowWalk w = (w.label ≤ 74) × AreLow w.nodes

-- a node of the value tree that is known is passed, and another one is read
planes_pass : (level : ℕ) (levels : List ℕ) (s : Seat) (above value : ℕ) (nodes : List Node) (bits : List Bool) → known_label level s nodes ≡ Some value
    → read_planes (level ∷ levels) s above nodes bits ≡ read_planes levels s value nodes bits
unfolding read_planes
planes_pass level levels s above value nodes bits e = rw (e, read_planes) refl

-- what follows a node of the value tree
abbrev behind_node : ℕ → List ℕ → Seat → List Node → ℕ → List Bool → Read Walked
behind_node level levels s nodes value bits = read_planes levels s value (node_of level s value ∷ nodes) bits

-- a node of the value tree that isn't known is read
planes_read : (level : ℕ) (levels : List ℕ) (s : Seat) (above : ℕ) (nodes : List Node) (bits : List Bool) → known_label level s nodes ≡ None
    → read_planes (level ∷ levels) s above nodes bits ≡ and_then (read_label above bits) (behind_node level levels s nodes)
unfolding read_planes
planes_read level levels s above nodes bits e = rw (e, read_planes) refl

-- a leaf of the value tree
planes_judged : (levels : List ℕ) (s : Seat) (above : ℕ) (nodes : List Node) (ps : List Piece) (w : Walked) → PlanesRun levels s above nodes ps w → above ≤ 74 → AreLow nodes
    → Judged (read_planes levels s above nodes) IsLowWalk ps w
unfolding read_planes
planes_judged [] s above nodes ps w (none, e) low are =
    let P : List Piece → Type 0 = λ x. Judged (read_planes [] s above nodes) IsLowWalk x w in
    let Q : Walked → Type 0 = λ x. Judged (read_planes [] s above nodes) IsLowWalk [] x in
    subst P (sym none) (subst Q (sym e) (judged_none IsLowWalk (record { label = above; nodes = nodes }) (low, are)))
planes_judged (level ∷ levels) s above nodes ps w (inl (value, e, run)) low are =
    judged_same (read_planes (level ∷ levels) s above nodes) (read_planes levels s value nodes) IsLowWalk ps w (λ bits. planes_pass level levels s above value nodes bits e)
    (planes_judged levels s value nodes ps w run (known_low level s nodes value are e) are)
planes_judged (level ∷ levels) s above nodes ps w (inr (value, more, e, up, whole, run)) low are =
    let P : List Piece → Type 0 = λ x. Judged (read_planes (level ∷ levels) s above nodes) IsLowWalk x w in
    let node = PlanesPiece (record { from = above; to = value }) in
    subst P (sym whole) (judged_same (read_planes (level ∷ levels) s above nodes) (λ (bits : List Bool). and_then (read_label above bits) (behind_node level levels s nodes)) IsLowWalk (node ∷ more) w
    (λ bits. planes_read level levels s above nodes bits e)
    (judged_then (read_label above) (behind_node level levels s nodes) (λ v. v ≤ 74) IsLowWalk (node ∷ []) more value w (label_judged (record { from = above; to = value }) low up)
    (λ small. planes_judged levels s value (node_of level s value ∷ nodes) more w run small (small, are))))

-- a node of the inclusion tree that is known is passed, one below a label that isn't 0 too, and another one is read
inclusion_pass : (level : ℕ) (levels : List ℕ) (s : Seat) (above value : ℕ) (nodes : List Node) (bits : List Bool) → known_label level s nodes ≡ Some value
    → read_inclusion (level ∷ levels) s above nodes bits ≡ read_inclusion levels s value nodes bits
unfolding read_inclusion
inclusion_pass level levels s above value nodes bits e = rw (e, read_inclusion) refl

-- one that isn't known is passed below a label that isn't 0,
inclusion_skip : (level : ℕ) (levels : List ℕ) (s : Seat) (above : ℕ) (nodes : List Node) (bits : List Bool) → known_label level s nodes ≡ None → (above == 0) ≡ false
    → read_inclusion (level ∷ levels) s above nodes bits ≡ read_inclusion levels s above nodes bits
unfolding read_inclusion
inclusion_skip level levels s above nodes bits e f = rw (e, read_inclusion) (rw (f, read_inclusion) refl)

-- what follows a bit of the inclusion tree
abbrev behind_bit : ℕ → List ℕ → Seat → List Node → Bool → List Bool → Read Walked
behind_bit level levels s nodes b bits = read_inclusion levels s (bit_label b) (node_of level s (bit_label b) ∷ nodes) bits

-- and else read
inclusion_read : (level : ℕ) (levels : List ℕ) (s : Seat) (above : ℕ) (nodes : List Node) (bits : List Bool) → known_label level s nodes ≡ None → (above == 0) ≡ true
    → read_inclusion (level ∷ levels) s above nodes bits ≡ and_then (read_bit bits) (behind_bit level levels s nodes)
unfolding read_inclusion
inclusion_read level levels s above nodes bits e f = rw (e, read_inclusion) (rw (f, read_inclusion) refl)

-- a leaf of the inclusion tree
abbrev IsAny : {A : Type 0} → A → Type 0
IsAny x = Unit {0}

-- a leaf of the inclusion tree
inclusion_judged : (levels : List ℕ) (s : Seat) (above : ℕ) (nodes : List Node) (ps : List Piece) (w : Walked) → InclusionRun levels s above nodes ps w
    → Judged (read_inclusion levels s above nodes) IsAny ps w
unfolding read_inclusion
inclusion_judged [] s above nodes ps w (none, e) =
    let P : List Piece → Type 0 = λ x. Judged (read_inclusion [] s above nodes) IsAny x w in
    let Q : Walked → Type 0 = λ x. Judged (read_inclusion [] s above nodes) IsAny [] x in
    subst P (sym none) (subst Q (sym e) (judged_none IsAny (record { label = above; nodes = nodes }) tt))
inclusion_judged (level ∷ levels) s above nodes ps w (inl (value, e, run)) =
    judged_same (read_inclusion (level ∷ levels) s above nodes) (read_inclusion levels s value nodes) IsAny ps w (λ bits. inclusion_pass level levels s above value nodes bits e)
    (inclusion_judged levels s value nodes ps w run)
inclusion_judged (level ∷ levels) s above nodes ps w (inr (inl (e, z, run))) =
    judged_same (read_inclusion (level ∷ levels) s above nodes) (read_inclusion levels s above nodes) IsAny ps w (λ bits. inclusion_skip level levels s above nodes bits e z)
    (inclusion_judged levels s above nodes ps w run)
inclusion_judged (level ∷ levels) s above nodes ps w (inr (inr (b, more, e, z, whole, run))) =
    let P : List Piece → Type 0 = λ x. Judged (read_inclusion (level ∷ levels) s above nodes) IsAny x w in
    subst P (sym whole) (judged_same (read_inclusion (level ∷ levels) s above nodes) (λ (bits : List Bool). and_then (read_bit bits) (behind_bit level levels s nodes)) IsAny (InclusionPiece b ∷ more) w
    (λ bits. inclusion_read level levels s above nodes bits e z)
    (judged_then read_bit (behind_bit level levels s nodes) IsAny IsAny (InclusionPiece b ∷ []) more b w (bit_judged b)
    (λ any. inclusion_judged levels s (bit_label b) (node_of level s (bit_label b) ∷ nodes) more w run)))

-- a code-block that is read has values within the limits, if its zero bit-planes are
abbrev IsLimited : Block → Type 0
IsLimited b = b.planes ≤ 74 → IsWithinLimits b

-- how a code-block is read, part by part
abbrev whole_block : Seat → ℕ → ℕ → ℕ → ℕ → Block
whole_block s planes passes cleanup refine = record { band = s.band; col = s.col; row = s.row; planes = planes; passes = passes; cleanup = cleanup; refine = refine }

-- after its refinement length,
abbrev with_refine : Seat → ℕ → ℕ → ℕ → ℕ → List Bool → Read Block
with_refine s planes passes cleanup refine bits = Got (whole_block s planes passes cleanup refine) bits

-- its cleanup length,
abbrev with_cleanup : Seat → ℕ → ℕ → ℕ → ℕ → List Bool → Read Block
with_cleanup s planes passes lblock cleanup bits = and_then (read_refine passes lblock bits) (with_refine s planes passes cleanup)

-- its Lblock,
abbrev with_lblock : Seat → ℕ → ℕ → ℕ → List Bool → Read Block
with_lblock s planes passes lblock bits = and_then (read_cleanup lblock bits) (with_cleanup s planes passes lblock)

-- and its number of passes
abbrev with_passes : Seat → ℕ → ℕ → List Bool → Read Block
with_passes s planes passes bits = and_then (read_lblock 3 bits) (with_lblock s planes passes)

-- the rest of a code-block
block_judged : (lblock : ℕ) (b : Block) → 1 ≤ b.passes → b.passes ≤ 6 → FitLengths lblock b → Judged (read_block (seat_of b) b.planes) IsLimited (segment_pieces lblock b) b
unfolding read_block
block_judged lblock b some few fits =
    let s = seat_of b in
    let refines = refine_pieces b.passes lblock b.refine in
    judged_then read_passes (with_passes s b.planes) (λ v. v ≤ 3) IsLimited (PassesPiece b.passes ∷ []) (LblockPiece lblock ∷ CleanupPiece lblock b.cleanup ∷ refines) b.passes b (passes_judged b.passes some few)
    (λ p. judged_then (read_lblock 3) (with_lblock s b.planes b.passes) (λ v. v ≤ 24) IsLimited (LblockPiece lblock ∷ []) (CleanupPiece lblock b.cleanup ∷ refines) lblock b (lblock_judged lblock fits.least)
    (λ l. judged_then (read_cleanup lblock) (with_cleanup s b.planes b.passes lblock) (λ v. (2 ≤ v) × (v < 65535)) IsLimited (CleanupPiece lblock b.cleanup ∷ []) refines b.cleanup b (cleanup_judged lblock b.cleanup fits.cleanup)
    (λ c.
    let P : List Piece → Type 0 = λ x. Judged (with_cleanup s b.planes b.passes lblock b.cleanup) IsLimited x b in
    subst P (append-nil refines) (judged_then (read_refine b.passes lblock) (with_refine s b.planes b.passes b.cleanup) (λ v. v < 2047) IsLimited refines [] b.refine b
    (refine_judged b.passes lblock b.refine some fits.refine fits.none)
    (λ r. judged_none IsLimited b (λ h. record { planes = h; some_passes = some; few_passes = p; some_cleanup = c.0; short_cleanup = c.1; short_refine = r; no_refine = fits.none }))))))

-- a run of a code-block
block_run_judged : (s : Seat) (planes : ℕ) (ps : List Piece) (b : Block) → BlockRun s planes ps b → Judged (read_block s planes) IsLimited ps b
block_run_judged s planes ps b r =
    let P : List Piece → Type 0 = λ x. Judged (read_block s planes) IsLimited x b in
    let Q : Seat → Type 0 = λ x. Judged (read_block x planes) IsLimited (segment_pieces r.lblock b) b in
    let V : ℕ → Type 0 = λ x. Judged (read_block (seat_of b) x) IsLimited (segment_pieces r.lblock b) b in
    subst P (sym r.whole) (subst Q r.seat (subst V r.same (block_judged r.lblock b r.some r.few r.fits)))

-- how positions are read, part by part
abbrev behind_block : List ℕ → List Seat → List Node → List Node → Block → List Bool → Read (List Block)
behind_block levels more inclusion planes b bits = and_then (read_seats levels more inclusion planes bits) (λ blocks rest. Got (b ∷ blocks) rest)

-- after the zero bit-planes,
abbrev behind_value : List ℕ → Seat → List Seat → List Node → Walked → List Bool → Read (List Block)
behind_value levels s more inclusion value bits = and_then (read_block s value.label bits) (behind_block levels more inclusion value.nodes)

-- after the inclusion of one that is included,
abbrev behind_inclusion : List ℕ → Seat → List Seat → List Node → List Node → List Bool → Read (List Block)
behind_inclusion levels s more inclusion planes bits = and_then (read_planes levels s 0 planes bits) (behind_value levels s more inclusion)

-- and after that of any
abbrev behind_seat : List ℕ → Seat → List Seat → List Node → Walked → List Bool → Read (List Block)
behind_seat levels s more planes found bits =
    read_either (found.label == 0) (behind_inclusion levels s more found.nodes planes) (λ rest. read_seats levels more found.nodes planes rest) bits

-- code-blocks within the limits
abbrev pub AreLimited : List Block → Type 0
AreLimited blocks = AllByRecursion IsWithinLimits blocks

-- an included code-block, and what follows it
included_judged : (levels : List ℕ) (s : Seat) (more : List Seat) (inclusion planes : List Node) (body tail : List Piece) (b : Block) (value : Walked) (others : List Block) → IncludedRun levels s planes body b value → AreLow planes
    → (AreLow value.nodes → Judged (read_seats levels more inclusion value.nodes) AreLimited tail others)
    → Judged (behind_inclusion levels s more inclusion planes) AreLimited (body ++ tail) (b ∷ others)
included_judged levels s more inclusion planes body tail b value others run are rest =
    let P : List Piece → Type 0 = λ x. Judged (behind_inclusion levels s more inclusion planes) AreLimited x (b ∷ others) in
    let joined : run.planes ++ (run.rest ++ (tail ++ [])) ≡ body ++ tail = rw (run.whole, append-nil tail) (sym (append_assoc run.planes run.rest tail)) in
    subst P joined (judged_then (read_planes levels s 0 planes) (behind_value levels s more inclusion) IsLowWalk AreLimited run.planes (run.rest ++ (tail ++ [])) value (b ∷ others)
    (planes_judged levels s 0 planes run.planes value run.value_run (omega arith) are)
    (λ low. judged_then (read_block s value.label) (behind_block levels more inclusion value.nodes) IsLimited AreLimited run.rest (tail ++ []) b (b ∷ others) (block_run_judged s value.label run.rest b run.block_run)
    (λ limited. judged_then (read_seats levels more inclusion value.nodes) (λ blocks bits. Got (b ∷ blocks) bits) AreLimited AreLimited tail [] others (b ∷ others) (rest low.1)
    (λ all. judged_none AreLimited (b ∷ others) (limited (omega (arith, low.0, run.block_run.same)), all)))))

-- the positions of a grid, from some on
seats_judged : (levels : List ℕ) (later : List Seat) (inclusion planes : List Node) (ps : List Piece) (blocks : List Block) → SeatsRun levels later inclusion planes ps blocks → AreLow planes
    → Judged (read_seats levels later inclusion planes) AreLimited ps blocks
unfolding read_seats
seats_judged levels [] inclusion planes ps blocks (none, e) are =
    let P : List Piece → Type 0 = λ x. Judged (read_seats levels [] inclusion planes) AreLimited x blocks in
    let Q : List Block → Type 0 = λ x. Judged (read_seats levels [] inclusion planes) AreLimited [] x in
    subst P (sym none) (subst Q (sym e) (judged_none AreLimited [] tt))
seats_judged levels (s ∷ more) inclusion planes ps blocks (found, own, rest, whole, run, inl (z, next)) are =
    let P : List Piece → Type 0 = λ x. Judged (read_seats levels (s ∷ more) inclusion planes) AreLimited x blocks in
    let same = λ (bits : List Bool). let e : behind_seat levels s more planes found bits ≡ read_seats levels more found.nodes planes bits = rw z refl in e in
    subst P (sym whole) (judged_then (read_inclusion levels s 0 inclusion) (behind_seat levels s more planes) IsAny AreLimited own rest found blocks (inclusion_judged levels s 0 inclusion own found run)
    (λ any. judged_same (behind_seat levels s more planes found) (read_seats levels more found.nodes planes) AreLimited rest blocks same (seats_judged levels more found.nodes planes rest blocks next are)))
seats_judged levels (s ∷ more) inclusion planes ps blocks (found, own, rest, whole, run, inr (b, others, value, body, tail, z, e, split, here, next)) are =
    let P : List Piece → Type 0 = λ x. Judged (read_seats levels (s ∷ more) inclusion planes) AreLimited x blocks in
    let Q : List Block → Type 0 = λ x. Judged (read_seats levels (s ∷ more) inclusion planes) AreLimited (own ++ rest) x in
    let R : List Piece → Type 0 = λ x. Judged (read_seats levels (s ∷ more) inclusion planes) AreLimited (own ++ x) (b ∷ others) in
    let same = λ (bits : List Bool). let e : behind_seat levels s more planes found bits ≡ behind_inclusion levels s more found.nodes planes bits = rw z refl in e in
    subst P (sym whole) (subst Q (sym e) (subst R (sym split) (judged_then (read_inclusion levels s 0 inclusion) (behind_seat levels s more planes) IsAny AreLimited own (body ++ tail) found (b ∷ others)
    (inclusion_judged levels s 0 inclusion own found run)
    (λ any. judged_same (behind_seat levels s more planes found) (behind_inclusion levels s more found.nodes planes) AreLimited (body ++ tail) (b ∷ others) same
    (included_judged levels s more found.nodes planes body tail b value others here are (λ low. seats_judged levels more found.nodes value.nodes tail others next low))))))

-- the code-blocks of grids
abbrev behind_grid : List Grid → List Block → List Bool → Read (List Block)
behind_grid gs own bits = and_then (read_grids gs bits) (λ others rest. Got (own ++ others) rest)

-- grids
pub grids_judged : (gs : List Grid) (ps : List Piece) (blocks : List Block) → GridsRun gs ps blocks → Judged (read_grids gs) AreLimited ps blocks
unfolding read_grids
grids_judged [] ps blocks (none, e) =
    let P : List Piece → Type 0 = λ x. Judged (read_grids []) AreLimited x blocks in
    let Q : List Block → Type 0 = λ x. Judged (read_grids []) AreLimited [] x in
    subst P (sym none) (subst Q (sym e) (judged_none AreLimited [] tt))
grids_judged (g ∷ gs) ps blocks (own, others, here, rest, e, whole, run, next) =
    let P : List Piece → Type 0 = λ x. Judged (read_grids (g ∷ gs)) AreLimited x blocks in
    let Q : List Block → Type 0 = λ x. Judged (read_grids (g ∷ gs)) AreLimited (here ++ rest) x in
    let R : List Piece → Type 0 = λ x. Judged (read_grids (g ∷ gs)) AreLimited (here ++ x) (own ++ others) in
    subst P (sym whole) (subst Q (sym e) (subst R (append-nil rest) (judged_then (read_seats (levels_from (root_level g)) (seats g) [] []) (behind_grid gs) AreLimited AreLimited here (rest ++ []) own (own ++ others)
    (seats_judged (levels_from (root_level g)) (seats g) [] [] here own run tt)
    (λ mine. judged_then (read_grids gs) (λ theirs bits. Got (own ++ theirs) bits) AreLimited AreLimited rest [] others (own ++ others) (grids_judged gs rest others next)
    (λ all. judged_none AreLimited (own ++ others) (all-append IsWithinLimits own others mine all))))))
