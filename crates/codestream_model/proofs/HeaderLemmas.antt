-- Whole headers are read as they are spelled, whatever follows them.
use Rattle.std.proofs.Common.{◌≡◌, ◌<◌, ◌≤◌, ◌+◌, ◌-◌, ◌==◌, ◌&&◌, ℕ, suc, Bool, true, false, List, [], ◌∷◌, ◌++◌, length, take, nat_le, nat_lt, slice_index, refl, sym, ◌∙◌, ap, subst, inl, inr, arith, append_assoc, if◌then◌else◌}
use Rattle.std.proofs.lemmas.Bool.{le-leb, lt-leb}
use Rattle.std.proofs.lemmas.Bool.Decides.{eqb_tells}
use Rattle.std.proofs.lemmas.List.{length-append, length-take}
use Rattle.std.proofs.Math.Seq.{take-append-add}
use Rattle.codestream_model.specs.Values.{Grid, Block}
use Rattle.codestream_model.specs.StuffedBits.{IsStuffed, width_after, number_bits, carried_after, carried, closing_after, sound_after, bytes_of_bits}
use Rattle.codestream_model.specs.HeaderPieces.{header_pieces}
use Rattle.codestream_model.specs.PacketHeader.{HaveOwnBands, HeaderBits, SpellsHeader}
use Rattle.codestream_model.specs.PacketHeaderReading.{Done, Got, read_bits, readable_bits, closed_by, answer_of, header_of}
use Rattle.codestream_model.proofs.BitLemmas.{number_bits-length}
use Rattle.codestream_model.proofs.PackingLemmas.{last_after, carried-append, packed_are_carried}
use Rattle.codestream_model.proofs.JudgedRuns.{grids_judged}
use Rattle.codestream_model.proofs.RunGrids.{header_run}
use Rattle.codestream_model.proofs.LimitLemmas.{pieces_sound}

-- the bits of a header are read
pub bits_read : (grids : List Grid) (blocks : List Block) (bits rest : List Bool) → HaveOwnBands grids → HeaderBits grids blocks bits → read_bits grids (bits ++ rest) ≡ Got blocks rest
unfolding read_bits
bits_read grids blocks bits rest bands (inl h) = rw (h.0, h.1) refl
bits_read grids blocks bits rest bands (inr h) =
    let j = grids_judged grids (header_pieces grids h.choices blocks) blocks (header_run grids h.choices blocks bands h.can_say) in
    rw h.whole ((j.sound (pieces_sound grids h.choices blocks h.can_say h.limits h.lblocks)).1 rest)

-- stuffed bytes without the first are stuffed
pub stuffed_tail : (b : ℕ) (bytes : List ℕ) → IsStuffed (b ∷ bytes) → IsStuffed bytes
stuffed_tail b bytes t i e =
    let next : suc i + 1 ≡ suc (i + 1) = omega arith in
    let h : slice_index (b ∷ bytes) (suc i + 1) < 128 = t (suc i) e in
    let P : ℕ → Type 0 = λ k. slice_index (b ∷ bytes) k < 128 in
    subst P next h

-- stuffed bytes are sound, whatever follows them
pub sound_front : (before : ℕ) (bytes more : List ℕ) → (before ≡ 255 → slice_index bytes 0 < 128) → IsStuffed bytes → sound_after before (bytes ++ more) ≡ bytes ++ sound_after (last_after before bytes) more
unfolding sound_after last_after
sound_front before [] more first stuffed = refl
sound_front before (b ∷ bytes) more first stuffed =
    let sound : ((before == 255) && nat_le 128 b) ≡ false = elim (eqb_tells before 255) [
      | inl t ↦ let low : b < 128 = first t.1 in rw (t.0, lt-leb 128 b low) refl
      | inr t ↦ rw t.0 refl
    ] in
    rw sound (ap (λ (l : List ℕ). b ∷ l) (sound_front b bytes more (stuffed 0) (stuffed_tail b bytes stuffed)))

-- the bytes that n bits reach into
pub bytes_reached : (before : ℕ) (front : List ℕ) (last : ℕ) (more : List ℕ) (n : ℕ) → length (carried_after before front) < n → n ≤ length (carried_after before (front ++ last ∷ []))
    → bytes_of_bits before n (front ++ last ∷ more) ≡ suc (length front)
unfolding carried_after bytes_of_bits
bytes_reached before [] last more n low high =
    let fits : nat_le n (width_after before) ≡ true = le-leb n (width_after before) (omega (arith, length-append (number_bits (width_after before) last) [], number_bits-length (width_after before) last)) in
    rw fits refl
bytes_reached before (x ∷ front) last more n low high =
    let a = length-append (number_bits (width_after before) x) (carried_after x front) in
    let b = length-append (number_bits (width_after before) x) (carried_after x (front ++ last ∷ [])) in
    let c = number_bits-length (width_after before) x in
    let over : nat_le n (width_after before) ≡ false = lt-leb n (width_after before) (omega (arith, a, c)) in
    rw over (ap suc (bytes_reached x front last more (n - width_after before) (omega (arith, a, c)) (omega (arith, b, c))))

-- the bytes after others
pub byte_behind : (xs : List ℕ) (y : ℕ) (zs : List ℕ) → slice_index (xs ++ y ∷ zs) (length xs) ≡ y
byte_behind [] y zs = refl
byte_behind (x ∷ xs) y zs = byte_behind xs y zs

pub second_behind : (xs : List ℕ) (y z : ℕ) (zs : List ℕ) → slice_index (xs ++ y ∷ z ∷ zs) (suc (length xs)) ≡ z
second_behind [] y z zs = refl
second_behind (x ∷ xs) y z zs = second_behind xs y z zs

-- a header whose last byte carries a bit is closed
closed_read : (front : List ℕ) (last : ℕ) (closing more : List ℕ) (blocks : List Block) → length closing ≡ closing_after last → IsStuffed (front ++ last ∷ closing) → length (front ++ last ∷ closing) ≤ 65536
    → closed_by (front ++ last ∷ (closing ++ more)) (suc (length front)) blocks ≡ Done (length (front ++ last ∷ closing)) blocks
closed_read front last [] more blocks closes stuffed short =
    let ne : (last == 255) ≡ false = elim (eqb_tells last 255) [
      | inl t ↦ absurd (omega (arith, closes ∙ ap (λ (b : Bool). if b then 1 else 0) t.0))
      | inr t ↦ t.0
    ] in
    let at : suc (length front) - 1 ≡ length front = omega arith in
    let size : length (front ++ last ∷ []) ≡ suc (length front) = omega (arith, length-append front (last ∷ [])) in
    rw (at, byte_behind front last more, ne, size) refl
closed_read front last (c ∷ []) more blocks closes stuffed short =
    let ff : last ≡ 255 = elim (eqb_tells last 255) [
      | inl t ↦ t.1
      | inr t ↦ absurd (omega (arith, closes ∙ ap (λ (b : Bool). if b then 1 else 0) t.0))
    ] in
    let is_ff : (last == 255) ≡ true = ap (λ (n : ℕ). n == 255) ff in
    let at : suc (length front) - 1 ≡ length front = omega arith in
    let next : length front + 1 ≡ suc (length front) = omega arith in
    let size : length (front ++ last ∷ c ∷ []) ≡ suc (length front) + 1 = omega (arith, length-append front (last ∷ c ∷ [])) in
    let low : slice_index (front ++ last ∷ c ∷ []) (length front + 1) < 128 = stuffed (length front) (byte_behind front last (c ∷ []) ∙ ff) in
    let c_low : c < 128 = rw (next, second_behind front last c []) at low in
    let c_test : nat_lt c 128 ≡ true = le-leb (suc c) 128 c_low in
    let within : nat_lt (suc (length front)) (length (take 65536 (front ++ last ∷ c ∷ more))) ≡ true =
    le-leb (suc (suc (length front))) (length (take 65536 (front ++ last ∷ c ∷ more)))
    (omega (arith, length-take 65536 (front ++ last ∷ c ∷ more), length-append front (last ∷ c ∷ more), length-append front (last ∷ c ∷ []))) in
    rw (at, byte_behind front last (c ∷ more), is_ff, second_behind front last c more, within, c_test, size) refl
closed_read front last (c ∷ d ∷ closing) more blocks closes stuffed short = elim (eqb_tells last 255) [
  | inl t ↦ absurd (omega (arith, closes ∙ ap (λ (b : Bool). if b then 1 else 0) t.0))
  | inr t ↦ absurd (omega (arith, closes ∙ ap (λ (b : Bool). if b then 1 else 0) t.0))
]

-- a header whose bits are read is read, whatever follows it
pub header_read_by : (grids : List Grid) (blocks : List Block) (bytes more : List ℕ) (h : SpellsHeader grids blocks bytes)
    → ((rest : List Bool) → read_bits grids (h.bits ++ rest) ≡ Got blocks rest) → header_of grids (bytes ++ more) ≡ Done (length bytes) blocks
unfolding header_of
header_read_by grids blocks bytes more h reads =
    let p = h.packs in
    let room : 65536 ≡ length bytes + (65536 - length bytes) = omega (arith, h.short) in
    let m = take (65536 - length bytes) more in
    let e1 : take 65536 (bytes ++ more) ≡ bytes ++ m = ap (λ (n : ℕ). take n (bytes ++ more)) room ∙ take-append-add bytes more (65536 - length bytes) in
    let l = last_after 0 bytes in
    let c = packed_are_carried h.bits bytes p in
    let x = c.0 ++ carried_after l (sound_after l m) in
    let run : readable_bits (bytes ++ more) ≡ h.bits ++ x =
    ap (λ (l : List ℕ). carried_after 0 (sound_after 0 l)) e1 ∙ (ap (carried_after 0) (sound_front 0 bytes m (λ e. absurd (omega arith)) p.stuffed) ∙ (carried-append 0 bytes (sound_after l m)
    ∙ (ap (λ (x : List Bool). x ++ carried_after l (sound_after l m)) c.1 ∙ append_assoc h.bits c.0 (carried_after l (sound_after l m))))) in
    let read : read_bits grids (readable_bits (bytes ++ more)) ≡ Got blocks x = ap (read_bits grids) run ∙ reads x in
    let n : length (readable_bits (bytes ++ more)) - length x ≡ length h.bits = omega (arith, ap length run, length-append h.bits x) in
    let all : bytes ++ more ≡ p.front ++ p.last ∷ (p.closing ++ more) = ap (λ (l : List ℕ). l ++ more) p.whole ∙ append_assoc p.front (p.last ∷ p.closing) more in
    let high : length h.bits ≤ length (carried (p.front ++ p.last ∷ [])) = omega (arith, ap length p.filled, length-append h.bits p.pad) in
    let used : bytes_of_bits 0 (length h.bits) (bytes ++ more) ≡ suc (length p.front) = ap (bytes_of_bits 0 (length h.bits)) all ∙ bytes_reached 0 p.front p.last (p.closing ++ more) (length h.bits) p.needed high in
    let stuffed : IsStuffed (p.front ++ p.last ∷ p.closing) = let P : List ℕ → Type 0 = λ l. IsStuffed l in subst P p.whole p.stuffed in
    let short : length (p.front ++ p.last ∷ p.closing) ≤ 65536 = omega (arith, ap length p.whole, h.short) in
    let closed = closed_read p.front p.last p.closing more blocks p.closed stuffed short in
    ap (answer_of (bytes ++ more)) read
    ∙ (ap (λ (k : ℕ). closed_by (bytes ++ more) (bytes_of_bits 0 k (bytes ++ more)) blocks) n
    ∙ (ap (λ (k : ℕ). closed_by (bytes ++ more) k blocks) used
    ∙ (ap (λ (l : List ℕ). closed_by l (suc (length p.front)) blocks) all
    ∙ (closed ∙ ap (λ (l : List ℕ). Done (length l) blocks) (sym p.whole)))))

-- a header is read as it is spelled, whatever follows it
pub header_read : (grids : List Grid) (blocks : List Block) (bytes more : List ℕ) → HaveOwnBands grids → SpellsHeader grids blocks bytes → header_of grids (bytes ++ more) ≡ Done (length bytes) blocks
header_read grids blocks bytes more bands h = header_read_by grids blocks bytes more h (λ rest. bits_read grids blocks h.bits rest bands h.is_header)
