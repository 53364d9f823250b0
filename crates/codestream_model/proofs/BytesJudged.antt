-- What is read of bytes: it is refused, or wants another byte, exactly where the definitions say so.
use Rattle.std.proofs.Common.{◌≡◌, ◌≤◌, ◌+◌, ◌-◌, ◌==◌, ◌&&◌, ℕ, suc, Bool, true, false, List, [], ◌∷◌, ◌++◌, length, take, nat_le, nat_lt, slice_index, Some, None, refl, sym, ◌∙◌, ap, inl, inr, arith, append_assoc, if◌then◌else◌}
use Rattle.std.proofs.lemmas.Bool.{le-leb, lt-leb}
use Rattle.std.proofs.lemmas.List.{append-nil, length-append, take_all}
use Rattle.std.proofs.Math.Seq.{take-append-add}
use Rattle.codestream_model.specs.Values.{Grid, Block}
use Rattle.codestream_model.specs.StuffedBits.{IsStuffed, carried_after, carried, sound_after, bytes_of_bits}
use Rattle.codestream_model.specs.HeaderPieces.{HeaderRefusal, Stuffed, ZeroPlanes, Passes, LengthBits, CleanupShort, CleanupLong, RefineLong, TooLong, NoEph, bits_of, deciding_bits}
use Rattle.codestream_model.specs.PacketHeader.{HaveOwnBands, LacksClosing, WantsMore, IsTooLong, IsBrokenStuffing, HasFault, IsRefusedPiece}
use Rattle.codestream_model.specs.PacketHeaderReading.{Need, Bad, Read, Got, AtEnd, Refused, read_bits, end_by, at_end, closed_by, readable_bits, answer_of, header_of}
use Rattle.codestream_model.specs.PacketLaws.{RefusalsAreRead, NeedsAreRead}
use Rattle.codestream_model.proofs.PackingLemmas.{last_after, carried-append}
use Rattle.codestream_model.proofs.TreeLemmas.{and_false}
use Rattle.codestream_model.proofs.HeaderLemmas.{sound_front, bits_read, bytes_reached, byte_behind}
use Rattle.codestream_model.proofs.BitsJudged.{fault_read, end_read}

-- the first bytes of bytes that begin with these
pub window : (front back : List ℕ) → length front ≤ 65536 → take 65536 (front ++ back) ≡ front ++ take (65536 - length front) back
window front back h =
    let room : 65536 ≡ length front + (65536 - length front) = omega arith in
    ap (λ (n : ℕ). take n (front ++ back)) room ∙ take-append-add front back (65536 - length front)

-- the answer by what is read
pub answer_by : (gs : List Grid) (bytes : List ℕ) (r : Read (List Block)) → read_bits gs (readable_bits bytes) ≡ r → header_of gs bytes ≡ answer_of bytes r
unfolding header_of
answer_by gs bytes r e = ap (answer_of bytes) e

-- where the last byte is FF and none closes it, the bytes are at their end
pub unclosed : (bytes : List ℕ) (n : ℕ) (blocks : List Block) → slice_index bytes (n - 1) ≡ 255 → (nat_lt n (length (take 65536 bytes)) && nat_lt (slice_index bytes n) 128) ≡ false → closed_by bytes n blocks ≡ at_end bytes
unclosed bytes n blocks ff e =
    let last : (slice_index bytes (n - 1) == 255) ≡ true = ap (λ (k : ℕ). k == 255) ff in
    rw (last, e) refl

-- a header that lacks its last byte
lacks_read : (gs : List Grid) (bytes front back : List ℕ) → HaveOwnBands gs → bytes ≡ front ++ back → readable_bits bytes ≡ carried front → LacksClosing gs front
    → (nat_lt (length front) (length (take 65536 bytes)) && nat_lt (slice_index bytes (length front)) 128) ≡ false → header_of gs bytes ≡ at_end bytes
lacks_read gs bytes front back bands whole run l e =
    let read : read_bits gs (readable_bits bytes) ≡ Got l.blocks l.pad = ap (read_bits gs) (run ∙ l.filled) ∙ bits_read gs l.blocks l.bits l.pad bands l.is_header in
    let n : length (readable_bits bytes) - length l.pad ≡ length l.bits = omega (arith, ap length run, ap length l.filled, length-append l.bits l.pad) in
    let all : bytes ≡ l.front ++ 255 ∷ back = whole ∙ (ap (λ (x : List ℕ). x ++ back) l.whole ∙ append_assoc l.front (255 ∷ []) back) in
    let high : length l.bits ≤ length (carried (l.front ++ 255 ∷ [])) = omega (arith, ap (λ (x : List ℕ). length (carried x)) l.whole, ap length l.filled, length-append l.bits l.pad) in
    let size : suc (length l.front) ≡ length front = omega (arith, ap length l.whole, length-append l.front (255 ∷ [])) in
    let used : bytes_of_bits 0 (length l.bits) bytes ≡ length front =
    ap (bytes_of_bits 0 (length l.bits)) all ∙ (bytes_reached 0 l.front 255 back (length l.bits) l.needed high ∙ size) in
    let at : length front - 1 ≡ length l.front = omega arith in
    let ff : slice_index bytes (length front - 1) ≡ 255 = ap (λ (k : ℕ). slice_index bytes k) at ∙ (ap (λ (x : List ℕ). slice_index x (length l.front)) all ∙ byte_behind l.front 255 back) in
    answer_by gs bytes (Got l.blocks l.pad) read ∙ (ap (λ (k : ℕ). closed_by bytes (bytes_of_bits 0 k bytes) l.blocks) n ∙ (ap (λ (k : ℕ). closed_by bytes k l.blocks) used ∙ unclosed bytes (length front) l.blocks ff e))

-- bytes that want another one are at their end, if no byte closes them
wants_read : (gs : List Grid) (bytes front back : List ℕ) → HaveOwnBands gs → bytes ≡ front ++ back → readable_bits bytes ≡ carried front → WantsMore gs front
    → (nat_lt (length front) (length (take 65536 bytes)) && nat_lt (slice_index bytes (length front)) 128) ≡ false → header_of gs bytes ≡ at_end bytes
unfolding carried_after read_bits
wants_read gs bytes front back bands whole run w e = elim w.unfinished [
  | inl none ↦ answer_by gs bytes AtEnd (ap (read_bits gs) (run ∙ ap carried none))
  | inr (inl ends) ↦ answer_by gs bytes AtEnd (ap (read_bits gs) run ∙ end_read gs (carried front) bands ends)
  | inr (inr lacks) ↦ lacks_read gs bytes front back bands whole run lacks e
]

-- the sound front of the bytes that are read is this
sound_is : (bytes front tail : List ℕ) → take 65536 bytes ≡ front ++ tail → IsStuffed front → sound_after (last_after 0 front) tail ≡ [] → sound_after 0 (take 65536 bytes) ≡ front
sound_is bytes front tail e stuffed none =
    ap (sound_after 0) e ∙ (sound_front 0 front tail (λ f. absurd (omega arith)) stuffed ∙ (ap (λ (l : List ℕ). front ++ l) none ∙ append-nil front))

-- where the stuffing is broken, by the sound front
pub end_is : (bytes front : List ℕ) → sound_after 0 (take 65536 bytes) ≡ front
    → at_end bytes ≡ end_by (if nat_lt (length front) (length (take 65536 bytes)) then Some (length front) else None) (length bytes)
end_is bytes front e = ap (λ (s : List ℕ). end_by (if nat_lt (length s) (length (take 65536 bytes)) then Some (length s) else None) (length bytes)) e

-- a number isn't below itself
not_below : (n : ℕ) → nat_lt n n ≡ false
not_below n = lt-leb (suc n) n (omega arith)

-- bytes that want another one, and are all that is read, are at an end that isn't broken
all_read : (gs : List Grid) (bytes front back : List ℕ) → HaveOwnBands gs → bytes ≡ front ++ back → take 65536 bytes ≡ front → WantsMore gs front → header_of gs bytes ≡ end_by None (length bytes)
unfolding sound_after
all_read gs bytes front back bands whole all w =
    let s : sound_after 0 (take 65536 bytes) ≡ front = sound_is bytes front [] (all ∙ sym (append-nil front)) w.stuffed refl in
    let over : nat_lt (length front) (length (take 65536 bytes)) ≡ false = ap (λ (l : List ℕ). nat_lt (length front) (length l)) all ∙ not_below (length front) in
    let closed : (nat_lt (length front) (length (take 65536 bytes)) && nat_lt (slice_index bytes (length front)) 128) ≡ false = ap (λ (b : Bool). b && nat_lt (slice_index bytes (length front)) 128) over in
    wants_read gs bytes front back bands whole (ap carried s) w closed
    ∙ (end_is bytes front s ∙ ap (λ (b : Bool). end_by (if b then Some (length front) else None) (length bytes)) over)

-- bytes that need another one are read so
pub needs_read : NeedsAreRead
needs_read gs bytes bands n =
    let few : nat_le 65536 (length bytes) ≡ false = lt-leb 65536 (length bytes) n.short in
    all_read gs bytes bytes [] bands (sym (append-nil bytes)) (take_all 65536 bytes (omega (arith, n.short))) n.wants
    ∙ ap (λ (b : Bool). if b then Bad TooLong else Need) few

-- those that are too long,
long_read : (gs : List Grid) (bytes : List ℕ) → HaveOwnBands gs → IsTooLong gs bytes → header_of gs bytes ≡ Bad TooLong
long_read gs bytes bands t =
    let none : 65536 - length t.front ≡ 0 = omega (arith, t.long) in
    let all : take 65536 bytes ≡ t.front =
    ap (take 65536) t.whole ∙ (window t.front t.back (omega (arith, t.long)) ∙ (ap (λ (n : ℕ). t.front ++ take n t.back) none ∙ append-nil t.front)) in
    let many : nat_le 65536 (length bytes) ≡ true = le-leb 65536 (length bytes) (omega (arith, t.long, ap length t.whole, length-append t.front t.back)) in
    all_read gs bytes t.front t.back bands t.whole all t.wants ∙ ap (λ (b : Bool). if b then Bad TooLong else Need) many

-- the last of bytes
last_is : (before : ℕ) (xs : List ℕ) (y : ℕ) → last_after before (xs ++ y ∷ []) ≡ y
unfolding last_after
last_is before [] y = refl
last_is before (x ∷ xs) y = last_is x xs y

-- a byte that breaks the stuffing
broken_here : (before byte : ℕ) (more : List ℕ) → before ≡ 255 → 128 ≤ byte → sound_after before (byte ∷ more) ≡ []
unfolding sound_after
broken_here before byte more e h =
    let is : (before == 255) ≡ true = ap (λ (n : ℕ). n == 255) e in
    rw (is, le-leb 128 byte h) refl

-- those whose stuffing is broken,
broken_read : (gs : List Grid) (bytes : List ℕ) → HaveOwnBands gs → IsBrokenStuffing gs bytes → header_of gs bytes ≡ Bad Stuffed
broken_read gs bytes bands t =
    let front = t.front ++ 255 ∷ [] in
    let size : length front ≡ length t.front + 1 = length-append t.front (255 ∷ []) in
    let whole : bytes ≡ front ++ t.byte ∷ t.back = t.whole ∙ sym (append_assoc t.front (255 ∷ []) (t.byte ∷ t.back)) in
    let room : 65536 - length front ≡ suc (65535 - length front) = omega (arith, t.short) in
    let tail = t.byte ∷ take (65535 - length front) t.back in
    let seen : take 65536 bytes ≡ front ++ tail =
    ap (take 65536) whole ∙ (window front (t.byte ∷ t.back) (omega (arith, t.short)) ∙ ap (λ (n : ℕ). front ++ take n (t.byte ∷ t.back)) room) in
    let s : sound_after 0 (take 65536 bytes) ≡ front = sound_is bytes front tail seen t.wants.stuffed (broken_here (last_after 0 front) t.byte (take (65535 - length front) t.back) (last_is 0 t.front 255) t.high) in
    let next : slice_index bytes (length front) ≡ t.byte = ap (λ (l : List ℕ). slice_index l (length front)) whole ∙ byte_behind front t.byte t.back in
    let high : nat_lt (slice_index bytes (length front)) 128 ≡ false = ap (λ (n : ℕ). nat_lt n 128) next ∙ lt-leb (suc t.byte) 128 (omega (arith, t.high)) in
    let closed : (nat_lt (length front) (length (take 65536 bytes)) && nat_lt (slice_index bytes (length front)) 128) ≡ false =
    ap (λ (b : Bool). nat_lt (length front) (length (take 65536 bytes)) && b) high ∙ and_false (nat_lt (length front) (length (take 65536 bytes))) in
    let within : nat_lt (length front) (length (take 65536 bytes)) ≡ true = le-leb (suc (length front)) (length (take 65536 bytes)) (omega (arith, ap length seen, length-append front tail)) in
    wants_read gs bytes front (t.byte ∷ t.back) bands whole (ap carried s) t.wants closed
    ∙ (end_is bytes front s ∙ ap (λ (b : Bool). end_by (if b then Some (length front) else None) (length bytes)) within)

-- a fault stays where more bits follow
pub fault_stays : (gs : List Grid) (bits more : List Bool) (why : HeaderRefusal) → HasFault gs bits why → HasFault gs (bits ++ more) why
fault_stays gs bits more why h = record {
  blocks = h.blocks;
  choices = h.choices;
  can_say = h.can_say;
  before = h.before;
  piece = h.piece;
  after = h.after;
  pieces = h.pieces;
  sound = h.sound;
  fault = h.fault;
  rest = h.rest ++ more;
  whole = ap (λ (l : List Bool). l ++ more) h.whole
      ∙ ap (λ (l : List Bool). true ∷ l) (append_assoc (bits_of h.before) (deciding_bits h.piece ++ h.rest) more ∙ ap (λ (l : List Bool). bits_of h.before ++ l) (append_assoc (deciding_bits h.piece) h.rest more));
}

-- and those with a refused piece are refused
piece_read : (gs : List Grid) (bytes : List ℕ) (why : HeaderRefusal) → HaveOwnBands gs → IsRefusedPiece gs bytes why → header_of gs bytes ≡ Bad why
piece_read gs bytes why bands t =
    let tail = take (65536 - length t.front) t.back in
    let l = last_after 0 t.front in
    let seen : take 65536 bytes ≡ t.front ++ tail = ap (take 65536) t.whole ∙ window t.front t.back t.short in
    let run : readable_bits bytes ≡ carried t.front ++ carried_after l (sound_after l tail) =
    ap (λ (x : List ℕ). carried (sound_after 0 x)) seen ∙ (ap carried (sound_front 0 t.front tail (λ f. absurd (omega arith)) t.stuffed) ∙ carried-append 0 t.front (sound_after l tail)) in
    answer_by gs bytes (Refused why) (ap (read_bits gs) run ∙ fault_read gs (carried t.front ++ carried_after l (sound_after l tail)) why bands (fault_stays gs (carried t.front) (carried_after l (sound_after l tail)) why t.fault))

-- what is refused is read so
pub refusal_read : RefusalsAreRead
refusal_read gs bytes Stuffed bands t = broken_read gs bytes bands t
refusal_read gs bytes TooLong bands t = long_read gs bytes bands t
refusal_read gs bytes ZeroPlanes bands t = piece_read gs bytes ZeroPlanes bands t
refusal_read gs bytes Passes bands t = piece_read gs bytes Passes bands t
refusal_read gs bytes LengthBits bands t = piece_read gs bytes LengthBits bands t
refusal_read gs bytes CleanupShort bands t = piece_read gs bytes CleanupShort bands t
refusal_read gs bytes CleanupLong bands t = piece_read gs bytes CleanupLong bands t
refusal_read gs bytes RefineLong bands t = piece_read gs bytes RefineLong bands t
refusal_read gs bytes NoEph bands t = absurd t
