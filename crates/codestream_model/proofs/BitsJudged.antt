-- What is read of bits: it is refused where a piece is refused, and at its end where bits end in a piece, and nowhere else.
use Rattle.std.proofs.Common.{◌≡◌, ◌≤◌, ◌⊎◌, ◌+◌, ◌-◌, ℕ, Bool, true, false, List, [], ◌∷◌, ◌++◌, length, drop, replicate, Option, Some, None, refl, sym, ◌∙◌, ap, subst, inl, inr, arith, append_assoc}
use Rattle.std.specs.List.{AllByRecursion}
use Rattle.std.proofs.lemmas.List.{append-nil, append_cancel_left, length-append, length-replicate, take_all, take-append-drop}
use Rattle.codestream_model.specs.Values.{Grid, Block}
use Rattle.codestream_model.specs.HeaderPieces.{HeaderRefusal, Piece, InclusionPiece, PlanesPiece, PassesPiece, LblockPiece, CleanupPiece, RefinePiece, run_of, piece_bits, fault_of, IsSound, deciding_bits, bits_of, header_pieces}
use Rattle.codestream_model.specs.PacketHeader.{HaveOwnBands, EndsInPiece, HasFault}
use Rattle.codestream_model.specs.PacketHeaderReading.{Got, AtEnd, Refused, read_grids, read_bits}
use Rattle.codestream_model.proofs.OneWayLemmas.{fronts}
use Rattle.codestream_model.proofs.StopLemmas.{StopsIn, Stops, stop}
use Rattle.codestream_model.proofs.JudgedPieces.{planes_sound, lblock_sound}
use Rattle.codestream_model.proofs.JudgedRuns.{AreLimited, grids_judged}
use Rattle.codestream_model.proofs.RunGrids.{header_run}
use Rattle.codestream_model.proofs.RunsFound.{Ends, IsRising, grids_found}
use Rattle.codestream_model.proofs.RunGridsBack.{HasPieces, run_says}

-- of a piece that isn't refused all bits decide
run_length : (b last : Bool) (n : ℕ) → length (run_of b n last) ≡ n + 1
run_length b last n = omega (arith, length-append (replicate n b) (last ∷ []), length-replicate n b)

-- so the deciding bits are all
sound_whole : (p : Piece) → IsSound p → IsRising p → deciding_bits p ≡ piece_bits p
sound_whole (InclusionPiece b) h r = refl
sound_whole (PlanesPiece s) h r = take_all (75 - s.from) (run_of false (s.to - s.from) true) (omega (arith, run_length false true (s.to - s.from), planes_sound s h, r))
sound_whole (PassesPiece n) h r = refl
sound_whole (LblockPiece n) h r = take_all 22 (run_of true (n - 3) false) (omega (arith, run_length true false (n - 3), lblock_sound n h))
sound_whole (CleanupPiece width n) h r = refl
sound_whole (RefinePiece width n) h r = refl

-- the bits that decide are the first
deciding_front : (p : Piece) → (behind : List Bool) × (piece_bits p ≡ deciding_bits p ++ behind)
deciding_front (InclusionPiece b) = ([], refl)
deciding_front (PlanesPiece s) = (drop (75 - s.from) (run_of false (s.to - s.from) true), sym (take-append-drop (75 - s.from) (run_of false (s.to - s.from) true)))
deciding_front (PassesPiece n) = ([], sym (append-nil (piece_bits (PassesPiece n))))
deciding_front (LblockPiece n) = (drop 22 (run_of true (n - 3) false), sym (take-append-drop 22 (run_of true (n - 3) false)))
deciding_front (CleanupPiece width n) = ([], sym (append-nil (piece_bits (CleanupPiece width n))))
deciding_front (RefinePiece width n) = ([], sym (append-nil (piece_bits (RefinePiece width n))))

-- a prefix of the first part is all of it or lacks a bit
short_or_whole : (bits a b more gap : List Bool) → a ≡ bits ++ gap → bits ++ more ≡ a ++ b → ((more : List Bool) × (a ≡ bits ++ more) × (1 ≤ length more)) ⊎ ((rest : List Bool) × (bits ≡ a ++ rest) × Ends rest b)
short_or_whole bits a b more [] t e =
    let same : bits ≡ a ++ [] = sym (append-nil bits) ∙ (sym t ∙ sym (append-nil a)) in
    inr ([], same, inr (b, refl))
short_or_whole bits a b more (c ∷ gap) t e = inl (c ∷ gap, t, omega arith)

-- bits that end in two parts end before the first does, or after it
ends_split : (bits a b : List Bool) → Ends bits (a ++ b) → ((more : List Bool) × (a ≡ bits ++ more) × (1 ≤ length more)) ⊎ ((rest : List Bool) × (bits ≡ a ++ rest) × Ends rest b)
ends_split bits a b (inl (rest, e)) = inr (b ++ rest, e ∙ append_assoc a b rest, inl (rest, refl))
ends_split bits a b (inr (more, e)) =
    let f = fronts bits a more b e in
    elim f.1 [
      | inr t ↦
          let cut : a ++ (f.0 ++ more) ≡ a ++ b = sym (append_assoc a f.0 more) ∙ (ap (λ (l : List Bool). l ++ more) (sym t) ∙ e) in
          inr (f.0, t, inr (more, append_cancel_left a (f.0 ++ more) b cut))
      | inl t ↦ short_or_whole bits a b more f.0 t e
    ]

-- a fault is there or not
fault_or : (o : Option HeaderRefusal) → ((why : HeaderRefusal) × (o ≡ Some why)) ⊎ (o ≡ None)
fault_or (Some why) = inl (why, refl)
fault_or None = inr refl

-- where a piece is sound, bits end in it or after it
StopOrWhole : List Piece → List Bool → Type 0
StopOrWhole ps bits = (AllByRecursion IsSound ps × ((rest : List Bool) × (bits ≡ bits_of ps ++ rest))) ⊎ ((r : Option HeaderRefusal) × Stops ps bits r)

-- after a sound piece
behind_sound : (p : Piece) (ps : List Piece) (bits rest : List Bool) → IsSound p → bits ≡ piece_bits p ++ rest → StopOrWhole ps rest → StopOrWhole (p ∷ ps) bits
unfolding StopOrWhole
behind_sound p ps bits rest sound e (inl t) = inl ((sound, t.0), (t.1.0, e ∙ (ap (λ (l : List Bool). piece_bits p ++ l) t.1.1 ∙ sym (append_assoc (piece_bits p) (bits_of ps) t.1.0))))
behind_sound p ps bits rest sound e (inr t) = inr (t.0, inr (sound, (rest, e, t.1)))

-- bits that end in pieces stop in one, or all are sound and whole
stop_or_whole : (ps : List Piece) (bits : List Bool) → AllByRecursion IsRising ps → Ends bits (bits_of ps) → StopOrWhole ps bits
unfolding StopOrWhole
stop_or_whole [] bits rising (inl (rest, e)) = inl (tt, (rest, e))
stop_or_whole [] bits rising (inr (more, e)) = inl (tt, (bits, refl))
stop_or_whole (p ∷ ps) bits rising ends = elim (fault_or (fault_of p)) [
  | inr sound ↦ elim (ends_split bits (piece_bits p) (bits_of ps) ends) [
    | inl t ↦ inr (None, inl (t.0, sound_whole p sound rising.0 ∙ t.1, t.2))
    | inr t ↦ behind_sound p ps bits t.0 sound t.1 (stop_or_whole ps t.0 rising.1 t.2)
  ]
  | inl fault ↦
      let front = deciding_front p in
      let P : List Bool → Type 0 = λ l. Ends bits l in
      let split : piece_bits p ++ bits_of ps ≡ deciding_bits p ++ (front.0 ++ bits_of ps) = ap (λ (l : List Bool). l ++ bits_of ps) front.1 ∙ append_assoc (deciding_bits p) front.0 (bits_of ps) in
      elim (ends_split bits (deciding_bits p) (front.0 ++ bits_of ps) (subst P split ends)) [
        | inl t ↦ inr (None, inl (t.0, t.1, t.2))
        | inr t ↦ inr (Some fault.0, inl (t.0, fault.1, t.1))
      ]
]

-- the piece in which bits stop
record StopPlace (ps : List Piece) (bits : List Bool) (r : Option HeaderRefusal) : Type 0 where
  before : List Piece
  piece : Piece
  after : List Piece
  pieces : ps ≡ before ++ piece ∷ after
  sound : AllByRecursion IsSound before
  part : List Bool
  here : StopsIn piece part r
  whole : bits ≡ bits_of before ++ part

-- where bits stop there is one
stop_place : (ps : List Piece) (bits : List Bool) (r : Option HeaderRefusal) → Stops ps bits r → StopPlace ps bits r
stop_place [] bits r s = absurd s
stop_place (p ∷ ps) bits r (inl s) = record { before = []; piece = p; after = ps; pieces = refl; sound = tt; part = bits; here = s; whole = refl }
stop_place (p ∷ ps) bits r (inr (sound, (more, e, s))) =
    let n = stop_place ps more r s in
    record {
      before = p ∷ n.before;
      piece = n.piece;
      after = n.after;
      pieces = ap (λ (l : List Piece). p ∷ l) n.pieces;
      sound = (sound, n.sound);
      part = n.part;
      here = n.here;
      whole = e ∙ (ap (λ (l : List Bool). piece_bits p ++ l) n.whole ∙ sym (append_assoc (piece_bits p) (bits_of n.before) n.part));
    }

-- and in one they stop
place_stops : (before : List Piece) (piece : Piece) (after : List Piece) (part : List Bool) (r : Option HeaderRefusal) → AllByRecursion IsSound before → StopsIn piece part r
    → Stops (before ++ piece ∷ after) (bits_of before ++ part) r
place_stops [] piece after part r sound here = inl here
place_stops (p ∷ before) piece after part r sound here = inr (sound.0, (bits_of before ++ part, append_assoc (piece_bits p) (bits_of before) part, place_stops before piece after part r sound.1 here))

-- what is read after the first bit, where bits stop in a header's pieces
pub first_bit : (grids : List Grid) (bits : List Bool) → read_bits grids (true ∷ bits) ≡ read_grids grids bits
unfolding read_bits
first_bit grids bits = refl

-- a header with a refused piece is refused
pub fault_read : (grids : List Grid) (bits : List Bool) (why : HeaderRefusal) → HaveOwnBands grids → HasFault grids bits why → read_bits grids bits ≡ Refused why
fault_read grids bits why bands h =
    let part = deciding_bits h.piece ++ h.rest in
    let j = grids_judged grids (header_pieces grids h.choices h.blocks) h.blocks (header_run grids h.choices h.blocks bands h.can_say) in
    let P : List Piece → Type 0 = λ l. Stops l (bits_of h.before ++ part) (Some why) in
    let s = subst P (sym h.pieces) (place_stops h.before h.piece h.after part (Some why) h.sound (h.rest, h.fault, refl)) in
    ap (read_bits grids) h.whole ∙ (first_bit grids (bits_of h.before ++ part) ∙ j.stops (bits_of h.before ++ part) (Some why) s)

-- and one that ends in a piece is at its end
pub end_read : (grids : List Grid) (bits : List Bool) → HaveOwnBands grids → EndsInPiece grids bits → read_bits grids bits ≡ AtEnd
end_read grids bits bands h =
    let j = grids_judged grids (header_pieces grids h.choices h.blocks) h.blocks (header_run grids h.choices h.blocks bands h.can_say) in
    let P : List Piece → Type 0 = λ l. Stops l (bits_of h.before ++ h.part) None in
    let s = subst P (sym h.pieces) (place_stops h.before h.piece h.after h.part None h.sound (h.rest, h.undecided, h.more)) in
    ap (read_bits grids) h.whole ∙ (first_bit grids (bits_of h.before ++ h.part) ∙ j.stops (bits_of h.before ++ h.part) None s)

-- what is read of the bits after the first, and why
pub record BitsTold (grids : List Grid) (bits : List Bool) : Type 0 where
  pub blocks : List Block
  pub pieces : List Piece
  pub header : HasPieces grids blocks pieces
  pub told :
      ((rest : List Bool) × (read_grids grids bits ≡ Got blocks rest) × (bits ≡ bits_of pieces ++ rest) × AllByRecursion IsSound pieces × AreLimited blocks)
      ⊎ ((r : Option HeaderRefusal) × Stops pieces bits r × (read_grids grids bits ≡ stop r))

-- all bits are told
pub bits_told : (grids : List Grid) (bits : List Bool) → HaveOwnBands grids → BitsTold grids bits
unfolding StopOrWhole
bits_told grids bits bands =
    let f = grids_found grids bits in
    let j = grids_judged grids f.pieces f.value f.run in
    record {
      blocks = f.value;
      pieces = f.pieces;
      header = run_says grids f.pieces f.value bands f.run;
      told = elim (stop_or_whole f.pieces bits f.rising f.ends) [
        | inl t ↦ let s = j.sound t.0 in inl (t.1.0, ap (read_grids grids) t.1.1 ∙ s.1 t.1.0, t.1.1, t.0, s.0)
        | inr t ↦ inr (t.0, t.1, j.stops bits t.0 t.1)
      ];
    }

-- what is refused has a refused piece
fault_back : (grids : List Grid) (bits : List Bool) (why : HeaderRefusal) (t : BitsTold grids bits) (r : Option HeaderRefusal) → Stops t.pieces bits r → stop {A = List Block} r ≡ Refused why → HasFault grids (true ∷ bits) why
fault_back grids bits why t None s e = absurd (cc)
fault_back grids bits why t (Some other) s e =
    let same : other ≡ why = cc in
    let p = stop_place t.pieces bits (Some other) s in
    record {
      blocks = t.blocks;
      choices = t.header.choices;
      can_say = t.header.can_say;
      before = p.before;
      piece = p.piece;
      after = p.after;
      pieces = sym t.header.pieces ∙ p.pieces;
      sound = p.sound;
      fault = p.here.1 ∙ ap (λ (w : HeaderRefusal). Some w) same;
      rest = p.here.0;
      whole = ap (λ (l : List Bool). true ∷ l) (p.whole ∙ ap (λ (l : List Bool). bits_of p.before ++ l) p.here.2);
    }

-- so bits that are refused have a fault
pub refused_back : (grids : List Grid) (bits : List Bool) (why : HeaderRefusal) → HaveOwnBands grids → read_bits grids bits ≡ Refused why → HasFault grids bits why
unfolding read_bits
refused_back grids [] why bands e = absurd (cc)
refused_back grids (false ∷ bits) why bands e = absurd (cc)
refused_back grids (true ∷ bits) why bands e =
    let t = bits_told grids bits bands in
    elim t.told [
      | inl g ↦ let c : Got t.blocks g.0 ≡ Refused why = sym g.1 ∙ e in absurd (cc)
      | inr s ↦ fault_back grids bits why t s.0 s.1 (sym s.2 ∙ e)
    ]

-- and what is at its end ends in a piece
end_back : (grids : List Grid) (bits : List Bool) (t : BitsTold grids bits) (r : Option HeaderRefusal) → Stops t.pieces bits r → stop {A = List Block} r ≡ AtEnd → EndsInPiece grids (true ∷ bits)
end_back grids bits t (Some other) s e = absurd (cc)
end_back grids bits t None s e =
    let p = stop_place t.pieces bits None s in
    record {
      blocks = t.blocks;
      choices = t.header.choices;
      can_say = t.header.can_say;
      before = p.before;
      piece = p.piece;
      after = p.after;
      pieces = sym t.header.pieces ∙ p.pieces;
      sound = p.sound;
      part = p.part;
      rest = p.here.0;
      undecided = p.here.1;
      more = p.here.2;
      whole = ap (λ (l : List Bool). true ∷ l) p.whole;
    }

-- so bits that are at their end are none, or end in a piece
pub at_end_back : (grids : List Grid) (bits : List Bool) → HaveOwnBands grids → read_bits grids bits ≡ AtEnd → (bits ≡ []) ⊎ EndsInPiece grids bits
unfolding read_bits
at_end_back grids [] bands e = inl refl
at_end_back grids (false ∷ bits) bands e = absurd (cc)
at_end_back grids (true ∷ bits) bands e =
    let t = bits_told grids bits bands in
    elim t.told [
      | inl g ↦ let c : Got t.blocks g.0 ≡ AtEnd = sym g.1 ∙ e in absurd (cc)
      | inr s ↦ inr (end_back grids bits t s.0 s.1 (sym s.2 ∙ e))
    ]
