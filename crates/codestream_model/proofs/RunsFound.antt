-- Whatever bits are read, they begin with the bits of a run of pieces, or are the front of them.
use Rattle.std.proofs.Common.{◌≡◌, ◌≢◌, ◌<◌, ◌≤◌, ◌⊎◌, ◌+◌, ◌-◌, ◌^◌, ◌==◌, ℕ, suc, Bool, true, false, not, List, [], ◌∷◌, ◌++◌, length, drop, refl, sym, ◌∙◌, ap, subst, inl, inr, arith, append_assoc}
use Rattle.std.specs.List.{AllByRecursion}
use Rattle.std.proofs.lemmas.Bool.{cases_lt}
use Rattle.std.proofs.lemmas.Bool.Decides.{eqb_tells}
use Rattle.std.proofs.lemmas.List.{append-nil, take-append-drop}
use Rattle.std.proofs.Math.Nat.{add-sub_cancel_left}
use Rattle.codestream_model.specs.Values.{Grid, Block}
use Rattle.codestream_model.specs.StuffedBits.{number_bits, number_of}
use Rattle.codestream_model.specs.TagTrees.{Seat, seats, root_level, levels_from}
use Rattle.codestream_model.specs.HeaderPieces.{Piece, InclusionPiece, PlanesPiece, PassesPiece, LblockPiece, CleanupPiece, RefinePiece, run_of, passes_code, refine_width, piece_bits, bits_of}
use Rattle.codestream_model.specs.PacketHeaderReading.{Node, node_of, known_label}
use Rattle.codestream_model.proofs.BitLemmas.{padded, number_of-lt, bits_of_number, padded-take, padded-short}
use Rattle.codestream_model.proofs.ReadingLemmas.{refine_pieces, segment_pieces}
use Rattle.codestream_model.proofs.TreeLemmas.{either}
use Rattle.codestream_model.proofs.SeatLemmas.{all-append}
use Rattle.codestream_model.proofs.NodeLemmas.{known_or}
use Rattle.codestream_model.proofs.PieceRuns.{PlanesRun, bit_label, InclusionRun, BlockRun, SeatsRun, GridsRun}
use Rattle.codestream_model.proofs.StopLemmas.{bits_of-append}

-- bits begin with all of these, or are a prefix of them
abbrev pub Ends : List Bool → List Bool → Type 0
Ends bits all = ((rest : List Bool) × (bits ≡ all ++ rest)) ⊎ ((more : List Bool) × (bits ++ more ≡ all))

-- what is left of the bits, for more to end in
pub ends_next : (bits all : List Bool) → Ends bits all → (mid : List Bool) × ((others : List Bool) → Ends mid others → Ends bits (all ++ others))
ends_next bits all (inl (rest, e)) = (
  rest,
  λ others f. elim f [
    | inl t ↦ inl (t.0, e ∙ (ap (λ (l : List Bool). all ++ l) t.1 ∙ sym (append_assoc all others t.0)))
    | inr t ↦ inr (t.0, ap (λ (l : List Bool). l ++ t.0) e ∙ (append_assoc all rest t.0 ∙ ap (λ (l : List Bool). all ++ l) t.1))
  ],
)
ends_next bits all (inr (more, e)) = ([], λ others f. inr (more ++ others, sym (append_assoc bits more others) ∙ ap (λ (l : List Bool). l ++ others) e))

-- a step of the value tree goes up
abbrev pub IsRising : Piece → Type 0
IsRising (PlanesPiece s) = s.from ≤ s.to
IsRising (InclusionPiece b) = Unit {0}
IsRising (PassesPiece n) = Unit {0}
IsRising (LblockPiece n) = Unit {0}
IsRising (CleanupPiece width n) = Unit {0}
IsRising (RefinePiece width n) = Unit {0}

-- a run whose bits the bits begin with, or are a prefix of
pub record Found {A : Type 0} (Run : List Piece → A → Type 0) (bits : List Bool) : Type 0 where
  pub pieces : List Piece
  pub value : A
  pub run : Run pieces value
  pub rising : AllByRecursion IsRising pieces
  pub ends : Ends bits (bits_of pieces)

-- n bits of one kind, and one of the other
run_found : (b : Bool) (bits : List Bool) → (d : ℕ) × Ends bits (run_of b d (not b))
run_found b [] = (0, inr (not b ∷ [], refl))
run_found true (false ∷ bits) = (0, inl (bits, refl))
run_found false (true ∷ bits) = (0, inl (bits, refl))
run_found true (true ∷ bits) =
    let r = run_found true bits in
    (suc r.0, elim r.1 [ inl t ↦ inl (t.0, ap (λ (l : List Bool). true ∷ l) t.1) | inr t ↦ inr (t.0, ap (λ (l : List Bool). true ∷ l) t.1) ])
run_found false (false ∷ bits) =
    let r = run_found false bits in
    (suc r.0, elim r.1 [ inl t ↦ inl (t.0, ap (λ (l : List Bool). false ∷ l) t.1) | inr t ↦ inr (t.0, ap (λ (l : List Bool). false ∷ l) t.1) ])

-- a code of coding passes
passes_found : (bits : List Bool) → (n : ℕ) × (1 ≤ n) × (n ≤ 6) × Ends bits (passes_code n)
passes_found [] = (1, omega arith, omega arith, inr (false ∷ [], refl))
passes_found (false ∷ bits) = (1, omega arith, omega arith, inl (bits, refl))
passes_found (true ∷ []) = (2, omega arith, omega arith, inr (false ∷ [], refl))
passes_found (true ∷ false ∷ bits) = (2, omega arith, omega arith, inl (bits, refl))
passes_found (true ∷ true ∷ []) = (3, omega arith, omega arith, inr (false ∷ false ∷ [], refl))
passes_found (true ∷ true ∷ false ∷ []) = (3, omega arith, omega arith, inr (false ∷ [], refl))
passes_found (true ∷ true ∷ true ∷ []) = (5, omega arith, omega arith, inr (false ∷ [], refl))
passes_found (true ∷ true ∷ false ∷ false ∷ bits) = (3, omega arith, omega arith, inl (bits, refl))
passes_found (true ∷ true ∷ false ∷ true ∷ bits) = (4, omega arith, omega arith, inl (bits, refl))
passes_found (true ∷ true ∷ true ∷ false ∷ bits) = (5, omega arith, omega arith, inl (bits, refl))
passes_found (true ∷ true ∷ true ∷ true ∷ bits) = (6, omega arith, omega arith, inl (bits, refl))

-- a number of n bits
number_found : (width : ℕ) (bits : List Bool) → (n : ℕ) × (n < 2 ^ width) × Ends bits (number_bits width n)
number_found width bits = (
  number_of width bits,
  number_of-lt width bits,
  elim (cases_lt (length bits) width) [
    | inl h ↦ inr (padded (width - length bits) [], sym (bits_of_number width bits ∙ padded-short width bits (omega arith)))
    | inr h ↦ inl (drop width bits, sym (ap (λ (l : List Bool). l ++ drop width bits) (bits_of_number width bits ∙ padded-take width bits h) ∙ take-append-drop width bits))
  ],
)

-- a refinement length, where there is one
refine_found : (passes lblock : ℕ) (bits : List Bool) → (n : ℕ) × (passes ≢ 1 → n < 2 ^ refine_width passes lblock) × (passes ≡ 1 → n ≡ 0) × Ends bits (bits_of (refine_pieces passes lblock n))
refine_found passes lblock bits = elim (eqb_tells passes 1) [
  | inl t ↦
      let P : List Piece → Type 0 = λ l. Ends bits (bits_of l) in
      let none : refine_pieces passes lblock 0 ≡ [] = rw t.0 refl in
      (0, λ h. absurd (h t.1), λ h. refl, subst P (sym none) (inl (bits, refl)))
  | inr t ↦
      let f = number_found (refine_width passes lblock) bits in
      let P : List Bool → Type 0 = λ l. Ends bits l in
      let one : bits_of (refine_pieces passes lblock f.0) ≡ number_bits (refine_width passes lblock) f.0 = rw t.0 (append-nil (number_bits (refine_width passes lblock) f.0)) in
      (f.0, λ h. f.1, λ h. absurd (t.1 h), subst P (sym one) f.2)
]

-- no step is among refinement lengths
rising_refine : (passes lblock n : ℕ) → AllByRecursion IsRising (refine_pieces passes lblock n)
rising_refine passes lblock n = elim (either (passes == 1)) [ inl t ↦ rw t tt | inr t ↦ rw t (tt, tt) ]

-- the rest of a code-block
block_found : (s : Seat) (planes : ℕ) (bits : List Bool) → Found (BlockRun s planes) bits
block_found s planes bits =
    let p = passes_found bits in
    let behind = ends_next bits (passes_code p.0) p.3 in
    let l = run_found true behind.0 in
    let lblock = 3 + l.0 in
    let ones : run_of true (lblock - 3) false ≡ run_of true l.0 false = ap (λ (k : ℕ). run_of true k false) (add-sub_cancel_left 3 l.0) in
    let L : List Bool → Type 0 = λ x. Ends behind.0 x in
    let lends : Ends behind.0 (run_of true (lblock - 3) false) = subst L (sym ones) l.1 in
    let further = ends_next behind.0 (run_of true (lblock - 3) false) lends in
    let c = number_found lblock further.0 in
    let last = ends_next further.0 (number_bits lblock c.0) c.2 in
    let r = refine_found p.0 lblock last.0 in
    let b : Block = record { band = s.band; col = s.col; row = s.row; planes = planes; passes = p.0; cleanup = c.0; refine = r.0 } in
    record {
      pieces = segment_pieces lblock b;
      value = b;
      run = record { lblock = lblock; whole = refl; seat = refl; same = refl; some = p.1; few = p.2; fits = record { least = omega arith; cleanup = c.1; refine = r.1; none = r.2 } };
      rising = (tt, (tt, (tt, rising_refine p.0 lblock r.0)));
      ends = behind.1 (bits_of (LblockPiece lblock ∷ CleanupPiece lblock c.0 ∷ refine_pieces p.0 lblock r.0)) (further.1 (bits_of (CleanupPiece lblock c.0 ∷ refine_pieces p.0 lblock r.0)) (last.1 (bits_of (refine_pieces p.0 lblock r.0)) r.3));
    }

-- a leaf of the value tree
planes_found : (levels : List ℕ) (s : Seat) (above : ℕ) (nodes : List Node) (bits : List Bool) → Found (PlanesRun levels s above nodes) bits
planes_found [] s above nodes bits = record { pieces = []; value = record { label = above; nodes = nodes }; run = (refl, refl); rising = tt; ends = inl (bits, refl) }
planes_found (level ∷ levels) s above nodes bits = elim (known_or (known_label level s nodes)) [
  | inl k ↦
      let r = planes_found levels s k.0 nodes bits in
      record { pieces = r.pieces; value = r.value; run = inl (k.0, k.1, r.run); rising = r.rising; ends = r.ends }
  | inr k ↦
      let d = run_found false bits in
      let value = above + d.0 in
      let node = PlanesPiece (record { from = above; to = value }) in
      let zeros : piece_bits node ≡ run_of false d.0 true = ap (λ (n : ℕ). run_of false n true) (add-sub_cancel_left above d.0) in
      let P : List Bool → Type 0 = λ l. Ends bits l in
      let next = ends_next bits (piece_bits node) (subst P (sym zeros) d.1) in
      let r = planes_found levels s value (node_of level s value ∷ nodes) next.0 in
      let up : above ≤ value = omega arith in
      record { pieces = node ∷ r.pieces; value = r.value; run = inr (value, r.pieces, k, up, refl, r.run); rising = (up, r.rising); ends = next.1 (bits_of r.pieces) r.ends }
]

-- a leaf of the inclusion tree
bit_found : (bits : List Bool) → (b : Bool) × Ends bits (b ∷ [])
bit_found [] = (true, inr (true ∷ [], refl))
bit_found (b ∷ bits) = (b, inl (bits, refl))

-- and its leaf
inclusion_found : (levels : List ℕ) (s : Seat) (above : ℕ) (nodes : List Node) (bits : List Bool) → Found (InclusionRun levels s above nodes) bits
inclusion_found [] s above nodes bits = record { pieces = []; value = record { label = above; nodes = nodes }; run = (refl, refl); rising = tt; ends = inl (bits, refl) }
inclusion_found (level ∷ levels) s above nodes bits = elim (known_or (known_label level s nodes)) [
  | inl k ↦
      let r = inclusion_found levels s k.0 nodes bits in
      record { pieces = r.pieces; value = r.value; run = inl (k.0, k.1, r.run); rising = r.rising; ends = r.ends }
  | inr k ↦ elim (either (above == 0)) [
    | inr z ↦
        let r = inclusion_found levels s above nodes bits in
        record { pieces = r.pieces; value = r.value; run = inr (inl (k, z, r.run)); rising = r.rising; ends = r.ends }
    | inl z ↦
        let b = bit_found bits in
        let next = ends_next bits (b.0 ∷ []) b.1 in
        let r = inclusion_found levels s (bit_label b.0) (node_of level s (bit_label b.0) ∷ nodes) next.0 in
        record { pieces = InclusionPiece b.0 ∷ r.pieces; value = r.value; run = inr (inr (b.0, r.pieces, k, z, refl, r.run)); rising = (tt, r.rising); ends = next.1 (bits_of r.pieces) r.ends }
  ]
]

-- an end in the pieces of two runs
ends_both : (bits mid : List Bool) (ps qs : List Piece) → ((others : List Bool) → Ends mid others → Ends bits (bits_of ps ++ others)) → Ends mid (bits_of qs) → Ends bits (bits_of (ps ++ qs))
ends_both bits mid ps qs f e = let P : List Bool → Type 0 = λ l. Ends bits l in subst P (sym (bits_of-append ps qs)) (f (bits_of qs) e)

-- the positions of a grid
seats_found : (levels : List ℕ) (later : List Seat) (inclusion planes : List Node) (bits : List Bool) → Found (SeatsRun levels later inclusion planes) bits
seats_found levels [] inclusion planes bits = record { pieces = []; value = []; run = (refl, refl); rising = tt; ends = inl (bits, refl) }
seats_found levels (s ∷ more) inclusion planes bits =
    let i = inclusion_found levels s 0 inclusion bits in
    let next = ends_next bits (bits_of i.pieces) i.ends in
    elim (either (i.value.label == 0)) [
      | inr z ↦
          let r = seats_found levels more i.value.nodes planes next.0 in
          record {
            pieces = i.pieces ++ r.pieces;
            value = r.value;
            run = (i.value, i.pieces, r.pieces, refl, i.run, inl (z, r.run));
            rising = all-append IsRising i.pieces r.pieces i.rising r.rising;
            ends = ends_both bits next.0 i.pieces r.pieces next.1 r.ends;
          }
      | inl z ↦
          let v = planes_found levels s 0 planes next.0 in
          let behind = ends_next next.0 (bits_of v.pieces) v.ends in
          let b = block_found s v.value.label behind.0 in
          let last = ends_next behind.0 (bits_of b.pieces) b.ends in
          let r = seats_found levels more i.value.nodes v.value.nodes last.0 in
          let body = v.pieces ++ b.pieces in
          let within : Ends next.0 (bits_of (v.pieces ++ (b.pieces ++ r.pieces))) = ends_both next.0 behind.0 v.pieces (b.pieces ++ r.pieces) behind.1 (ends_both behind.0 last.0 b.pieces r.pieces last.1 r.ends) in
          let P : List Piece → Type 0 = λ l. Ends next.0 (bits_of l) in
          record {
            pieces = i.pieces ++ (body ++ r.pieces);
            value = b.value ∷ r.value;
            run = (
              i.value,
              i.pieces,
              body ++ r.pieces,
              refl,
              i.run,
              inr (b.value, r.value, v.value, body, r.pieces, z, refl, refl, record { planes = v.pieces; rest = b.pieces; whole = refl; value_run = v.run; block_run = b.run }, r.run),
            );
            rising = all-append IsRising i.pieces (body ++ r.pieces) i.rising (all-append IsRising body r.pieces (all-append IsRising v.pieces b.pieces v.rising b.rising) r.rising);
            ends = ends_both bits next.0 i.pieces (body ++ r.pieces) next.1 (subst P (sym (append_assoc v.pieces b.pieces r.pieces)) within);
          }
    ]

-- the code-blocks of grids
pub grids_found : (gs : List Grid) (bits : List Bool) → Found (GridsRun gs) bits
grids_found [] bits = record { pieces = []; value = []; run = (refl, refl); rising = tt; ends = inl (bits, refl) }
grids_found (g ∷ gs) bits =
    let s = seats_found (levels_from (root_level g)) (seats g) [] [] bits in
    let next = ends_next bits (bits_of s.pieces) s.ends in
    let r = grids_found gs next.0 in
    record {
      pieces = s.pieces ++ r.pieces;
      value = s.value ++ r.value;
      run = (s.value, r.value, s.pieces, r.pieces, refl, refl, s.run, r.run);
      rising = all-append IsRising s.pieces r.pieces s.rising r.rising;
      ends = ends_both bits next.0 s.pieces r.pieces next.1 r.ends;
    }
