-- A packet header of more than 65,536 bytes is refused for its length.
use Rattle.std.proofs.Common.{◌≡◌, ◌<◌, ◌≤◌, ◌⊎◌, ◌+◌, ℕ, suc, Bool, List, [], ◌∷◌, ◌++◌, length, take, drop, slice_index, refl, sym, ◌∙◌, ap, subst, inl, inr, arith, append_assoc}
use Rattle.std.proofs.lemmas.List.{length-append, length-take, take-append-drop}
use Rattle.codestream_model.specs.Values.{Grid, Block}
use Rattle.codestream_model.specs.Bytes.{IsBytes}
use Rattle.codestream_model.specs.StuffedBits.{IsStuffed, Packs, carried, carried_after, closing_after, bytes_of_bits}
use Rattle.codestream_model.specs.HeaderPieces.{HeaderRefusal, Stuffed, ZeroPlanes, Passes, LengthBits, CleanupShort, CleanupLong, RefineLong, TooLong, NoEph}
use Rattle.codestream_model.specs.PacketHeader.{HaveOwnBands, HeaderBits, SpellsHeader, IsRefusedPiece, RefusesHeader}
use Rattle.codestream_model.specs.PacketHeaderReading.{Read, Got, Refused, read_bits}
use Rattle.codestream_model.specs.PacketLaws.{LongHeadersAreRefused}
use Rattle.codestream_model.proofs.BytesLemmas.{bytes_front, stuffed_front}
use Rattle.codestream_model.proofs.PackingLemmas.{last_after, carried-append, packed_are_carried}
use Rattle.codestream_model.proofs.HeaderLemmas.{bits_read, bytes_reached, byte_behind}
use Rattle.codestream_model.proofs.BitsJudged.{fault_read}
use Rattle.codestream_model.proofs.BytesJudged.{fault_stays}
use Rattle.codestream_model.proofs.VerdictLemmas.{headers_judged, refusal_stays}

-- The number of the bits gives the offset of the last byte that carries one of them.
last_stands : (bits : List Bool) (xs tail : List ℕ) (p : Packs bits xs) → bytes_of_bits 0 (length bits) (xs ++ tail) ≡ suc (length p.front)
last_stands bits xs tail p =
    let high : length bits ≤ length (carried (p.front ++ p.last ∷ [])) = omega (arith, ap length p.filled, length-append bits p.pad) in
    ap (λ (l : List ℕ). bytes_of_bits 0 (length bits) (l ++ tail)) p.whole
    ∙ (ap (bytes_of_bits 0 (length bits)) (append_assoc p.front (p.last ∷ p.closing) tail) ∙ bytes_reached 0 p.front p.last (p.closing ++ tail) (length bits) p.needed high)

-- That byte is the last one of `Packs`.
last_is : (bits : List Bool) (xs tail : List ℕ) (p : Packs bits xs) → slice_index (xs ++ tail) (length p.front) ≡ p.last
last_is bits xs tail p =
    ap (λ (l : List ℕ). slice_index (l ++ tail) (length p.front)) p.whole
    ∙ (ap (λ (l : List ℕ). slice_index l (length p.front)) (append_assoc p.front (p.last ∷ p.closing) tail) ∙ byte_behind p.front p.last (p.closing ++ tail))

-- The number of bytes.
packed_length : (bits : List Bool) (xs : List ℕ) (p : Packs bits xs) → length xs ≡ suc (length p.front) + closing_after p.last
packed_length bits xs p = omega (arith, ap length p.whole, length-append p.front (p.last ∷ p.closing), p.closed)

-- As many bits, in bytes of which one list is a prefix of the other, take as many bytes.
same_length : (bits others : List Bool) (xs ys tail : List ℕ) → Packs bits xs → Packs others ys → length bits ≡ length others → xs ≡ ys ++ tail → length xs ≡ length ys
same_length bits others xs ys tail p q n e =
    let whole : xs ++ [] ≡ ys ++ (tail ++ []) = ap (λ (l : List ℕ). l ++ []) e ∙ append_assoc ys tail [] in
    let at : suc (length p.front) ≡ suc (length q.front) =
    sym (last_stands bits xs [] p) ∙ (ap (λ (k : ℕ). bytes_of_bits 0 k (xs ++ [])) n ∙ (ap (bytes_of_bits 0 (length others)) whole ∙ last_stands others ys (tail ++ []) q)) in
    let place : length p.front ≡ length q.front = omega (arith, at) in
    let last : p.last ≡ q.last =
    sym (last_is bits xs [] p) ∙ (ap (λ (k : ℕ). slice_index (xs ++ []) k) place ∙ (ap (λ (l : List ℕ). slice_index l (length q.front)) whole ∙ last_is others ys (tail ++ []) q)) in
    packed_length bits xs p ∙ (ap (λ (k : ℕ). k + closing_after p.last) at ∙ (ap (λ (k : ℕ). suc (length q.front) + closing_after k) last ∙ sym (packed_length others ys q)))

-- The bits that are left after a header was read.
left_over : (x y : List Block) (xs ys : List Bool) → Got x xs ≡ Got y ys → xs ≡ ys
left_over x y xs ys e = cc

-- A header at the start of the bytes is as long as the header that all of them are.
as_long : (gs : List Grid) (blocks others : List Block) (bits : List Bool) (bytes header tail : List ℕ) → HaveOwnBands gs → HeaderBits gs blocks bits → Packs bits bytes
    → SpellsHeader gs others header → bytes ≡ header ++ tail → length bytes ≡ length header
as_long gs blocks others bits bytes header tail bands h p s e =
    let a = packed_are_carried bits bytes p in
    let b = packed_are_carried s.bits header s.packs in
    let z = carried_after (last_after 0 header) tail in
    let two : carried bytes ≡ s.bits ++ (b.0 ++ z) = ap carried e ∙ (carried-append 0 header tail ∙ (ap (λ (l : List Bool). l ++ z) b.1 ∙ append_assoc s.bits b.0 z)) in
    let rest : a.0 ≡ b.0 ++ z = left_over blocks others a.0 (b.0 ++ z) (sym (bits_read gs blocks bits a.0 bands h) ∙ (ap (read_bits gs) (sym a.1 ∙ two) ∙ bits_read gs others s.bits (b.0 ++ z) bands s.is_header)) in
    let n : length bits ≡ length s.bits = omega (arith, ap length a.1, ap length two, length-append bits a.0, length-append s.bits (b.0 ++ z), ap length rest) in
    same_length bits s.bits bytes header tail p s.packs n e

-- No piece of a header is refused.
no_fault : (gs : List Grid) (blocks : List Block) (bits : List Bool) (bytes front rest : List ℕ) (why : HeaderRefusal) → HaveOwnBands gs → HeaderBits gs blocks bits → Packs bits bytes
    → bytes ≡ front ++ rest → IsRefusedPiece gs front why → ⊥
no_fault gs blocks bits bytes front rest why bands h p e t =
    let a = packed_are_carried bits bytes p in
    let z = carried_after (last_after 0 t.front) (t.back ++ rest) in
    let all : bytes ≡ t.front ++ (t.back ++ rest) = e ∙ (ap (λ (l : List ℕ). l ++ rest) t.whole ∙ append_assoc t.front t.back rest) in
    let run : carried bytes ≡ carried t.front ++ z = ap carried all ∙ carried-append 0 t.front (t.back ++ rest) in
    let bad : read_bits gs (carried bytes) ≡ Refused why = ap (read_bits gs) run ∙ fault_read gs (carried t.front ++ z) why bands (fault_stays gs (carried t.front) z why t.fault) in
    let good : read_bits gs (carried bytes) ≡ Got blocks a.0 = ap (read_bits gs) a.1 ∙ bits_read gs blocks bits a.0 bands h in
    absurd (cc)

-- So its first bytes are refused only for their number.
refused_so : (gs : List Grid) (blocks : List Block) (bits : List Bool) (bytes front rest : List ℕ) (why : HeaderRefusal) → HaveOwnBands gs → HeaderBits gs blocks bits → Packs bits bytes
    → bytes ≡ front ++ rest → RefusesHeader gs front why → RefusesHeader gs front TooLong
refused_so gs blocks bits bytes front rest Stuffed bands h p e t =
    let P : List ℕ → Type 0 = λ l. IsStuffed l in
    let stuffed : IsStuffed front = stuffed_front front rest (subst P e p.stuffed) in
    let size : length (t.front ++ 255 ∷ []) ≡ length t.front + 1 = length-append t.front (255 ∷ []) in
    let next : slice_index front (length t.front + 1) ≡ t.byte =
    ap (λ (k : ℕ). slice_index front k) (sym size)
    ∙ (ap (λ (l : List ℕ). slice_index l (length (t.front ++ 255 ∷ []))) (t.whole ∙ sym (append_assoc t.front (255 ∷ []) (t.byte ∷ t.back))) ∙ byte_behind (t.front ++ 255 ∷ []) t.byte t.back) in
    let low : slice_index front (length t.front + 1) < 128 = stuffed (length t.front) (ap (λ (l : List ℕ). slice_index l (length t.front)) t.whole ∙ byte_behind t.front 255 (t.byte ∷ t.back)) in
    absurd (omega (arith, low, next, t.high))
refused_so gs blocks bits bytes front rest TooLong bands h p e t = t
refused_so gs blocks bits bytes front rest NoEph bands h p e t = absurd t
refused_so gs blocks bits bytes front rest ZeroPlanes bands h p e t = absurd (no_fault gs blocks bits bytes front rest ZeroPlanes bands h p e t)
refused_so gs blocks bits bytes front rest Passes bands h p e t = absurd (no_fault gs blocks bits bytes front rest Passes bands h p e t)
refused_so gs blocks bits bytes front rest LengthBits bands h p e t = absurd (no_fault gs blocks bits bytes front rest LengthBits bands h p e t)
refused_so gs blocks bits bytes front rest CleanupShort bands h p e t = absurd (no_fault gs blocks bits bytes front rest CleanupShort bands h p e t)
refused_so gs blocks bits bytes front rest CleanupLong bands h p e t = absurd (no_fault gs blocks bits bytes front rest CleanupLong bands h p e t)
refused_so gs blocks bits bytes front rest RefineLong bands h p e t = absurd (no_fault gs blocks bits bytes front rest RefineLong bands h p e t)

-- A header that is too long is refused, whatever follows.
pub long_headers_are_refused : LongHeadersAreRefused
long_headers_are_refused gs blocks bits bytes more bands h p long =
    let front = take 65536 bytes in
    let rest = drop 65536 bytes in
    let e : bytes ≡ front ++ rest = sym (take-append-drop 65536 bytes) in
    let size : length front ≡ 65536 = omega (arith, length-take 65536 bytes, long) in
    let P : List ℕ → Type 0 = λ l. RefusesHeader gs l TooLong in
    let all : front ++ (rest ++ more) ≡ bytes ++ more = sym (append_assoc front rest more) ∙ ap (λ (l : List ℕ). l ++ more) (sym e) in
    let Q : List ℕ → Type 0 = λ l. IsBytes l in
    elim (headers_judged gs front (bytes_front front rest (subst Q e p.each)) bands) [
      | inl b ↦
          let whole : bytes ≡ b.1 ++ (b.2 ++ rest) = e ∙ (ap (λ (l : List ℕ). l ++ rest) b.4 ∙ append_assoc b.1 b.2 rest) in
          absurd (omega (arith, long, b.3.short, as_long gs blocks b.0 bits bytes b.1 (b.2 ++ rest) bands h p b.3 whole))
      | inr (inl r) ↦ subst P all (refusal_stays gs front (rest ++ more) TooLong (refused_so gs blocks bits bytes front rest r.0 bands h p e r.1))
      | inr (inr n) ↦ absurd (omega (arith, n.short, size))
    ]
