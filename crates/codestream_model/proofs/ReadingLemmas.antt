-- What is read of the bits of a piece is the piece.
use Rattle.std.proofs.Common.{◌≡◌, ◌<◌, ◌≤◌, ◌+◌, ◌^◌, ◌==◌, ℕ, zero, suc, Bool, true, false, List, [], ◌∷◌, ◌++◌, length, nat_le, refl, ◌∙◌, ap, arith, if◌then◌else◌}
use Rattle.std.proofs.lemmas.Bool.{le-leb, lt-leb}
use Rattle.std.proofs.lemmas.List.{length-append, drop_at}
use Rattle.codestream_model.specs.Values.{Block}
use Rattle.codestream_model.specs.StuffedBits.{number_bits}
use Rattle.codestream_model.specs.HeaderPieces.{run_of, passes_code, refine_width, Piece, PassesPiece, LblockPiece, CleanupPiece, RefinePiece}
use Rattle.codestream_model.specs.PacketHeaderReading.{Got, read_label, read_passes, read_lblock, read_number}
use Rattle.codestream_model.proofs.BitLemmas.{number_bits-length, number_of_bits}

-- n zeros and a one are a label that is n greater
pub label_read : (d least : ℕ) (rest : List Bool) → least + d ≤ 74 → read_label least (run_of false d true ++ rest) ≡ Got (least + d) rest
unfolding read_label
label_read zero least rest h =
    let e : least + 0 ≡ least = omega arith in
    rw e refl
label_read (suc d) least rest h =
    let below : nat_le 74 least ≡ false = lt-leb 74 least (omega arith) in
    let e : least + suc d ≡ suc least + d = omega arith in
    rw (below, e) (label_read d (suc least) rest (omega arith))

-- n ones and a zero are an Lblock that is n greater
pub lblock_read : (d least : ℕ) (rest : List Bool) → least + d ≤ 24 → read_lblock least (run_of true d false ++ rest) ≡ Got (least + d) rest
unfolding read_lblock
lblock_read zero least rest h =
    let e : least + 0 ≡ least = omega arith in
    rw e refl
lblock_read (suc d) least rest h =
    let below : nat_le 24 least ≡ false = lt-leb 24 least (omega arith) in
    let e : least + suc d ≡ suc least + d = omega arith in
    rw (below, e) (lblock_read d (suc least) rest (omega arith))

-- the code of 1, 2 or 3 passes
pub passes_read : (n : ℕ) (rest : List Bool) → 1 ≤ n → n ≤ 3 → read_passes (passes_code n ++ rest) ≡ Got n rest
unfolding read_passes
passes_read zero rest h t = absurd (omega arith)
passes_read (suc zero) rest h t = refl
passes_read (suc (suc zero)) rest h t = refl
passes_read (suc (suc (suc zero))) rest h t = refl
passes_read (suc (suc (suc (suc n)))) rest h t = absurd (omega arith)

-- a number in n bits
pub number_read : (width n : ℕ) (rest : List Bool) → n < 2 ^ width → read_number width (number_bits width n ++ rest) ≡ Got n rest
unfolding read_number
number_read width n rest h =
    let long : length (number_bits width n ++ rest) ≡ width + length rest = length-append (number_bits width n) rest ∙ ap (λ (k : ℕ). k + length rest) (number_bits-length width n) in
    let enough : nat_le width (length (number_bits width n ++ rest)) ≡ true = le-leb width (length (number_bits width n ++ rest)) (omega arith) in
    rw (enough, number_of_bits width n h rest, drop_at (number_bits width n) rest width (number_bits-length width n)) refl

-- the piece of a refinement length, where there is one
abbrev pub refine_pieces : ℕ → ℕ → ℕ → List Piece
refine_pieces passes lblock refine = if passes == 1 then [] else RefinePiece (refine_width passes lblock) refine ∷ []

-- the pieces after the zero bit-planes of a code-block
abbrev pub segment_pieces : ℕ → Block → List Piece
segment_pieces lblock b = PassesPiece b.passes ∷ LblockPiece lblock ∷ CleanupPiece lblock b.cleanup ∷ refine_pieces b.passes lblock b.refine
