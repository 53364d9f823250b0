-- Bits that are in bytes with zeros after them: the bytes are those of the packing, and reach as far as it does.
use Rattle.std.proofs.Common.{◌≡◌, ◌<◌, ◌≤◌, ◌^◌, ◌==◌, ℕ, zero, suc, Bool, false, List, [], ◌∷◌, ◌++◌, length, take, drop, replicate, slice_index, refl, sym, ◌∙◌, ap, inl, inr, arith, append_assoc, if◌then◌else◌}
use Rattle.std.proofs.lemmas.List.{length-append, length-drop, drop_at, take_at, drop-append-le}
use Rattle.codestream_model.specs.Bytes.{IsBytes}
use Rattle.codestream_model.specs.StuffedBits.{IsStuffed, number_bits, number_of, width_after, carried_after, carried, closing_after, Packs, packed_after, packing, bytes_of_bits}
use Rattle.codestream_model.proofs.BitLemmas.{number_bits-length, number_of_bits}
use Rattle.codestream_model.proofs.PackingLemmas.{width_cases}
use Rattle.codestream_model.proofs.HeaderLemmas.{stuffed_tail, bytes_reached}
use Rattle.stuffed_bits.specs.Carried.{last_from, Carries}
use Rattle.stuffed_bits.proofs.NumberLemmas.{zeros_add_nothing}

-- what closes bits after their last byte
abbrev pub closing : ℕ → List ℕ
closing last = if last == 255 then 0 ∷ [] else []

-- a list of no items
no_items : {A : Type 0} (xs : List A) → length xs ≡ 0 → xs ≡ []
no_items [] e = refl
no_items (x ∷ xs) e = absurd (omega arith)

-- a byte fits the bits that it carries
pub byte_fits : (before b : ℕ) → b < 256 → (before ≡ 255 → b < 128) → b < 2 ^ width_after before
byte_fits before b small low = elim (width_cases before) [
  | inl t ↦ let h : b < 128 = low t.0 in rw t.1 (omega arith)
  | inr t ↦ rw t.1 (omega arith)
]

-- the packing of bits that are in bytes which follow this one
packing_of : (room before : ℕ) (bits : List Bool) (k : ℕ) (bytes : List ℕ) → IsBytes bytes → (before ≡ 255 → slice_index bytes 0 < 128) → IsStuffed bytes
    → carried_after before bytes ≡ bits ++ replicate k false → ((n : ℕ) → n < length bytes → length (carried_after before (take n bytes)) < length bits) → length bits ≤ room
    → packed_after room before bits ≡ bytes ++ closing (last_from before bytes)
unfolding packed_after carried_after last_from
packing_of room before [] k [] each first stuffed filled needed fits = refl
packing_of room before [] k (b ∷ bytes) each first stuffed filled needed fits = absurd (omega (arith, needed 0 (omega arith)))
packing_of room before (c ∷ bits) k [] each first stuffed filled needed fits = absurd (let e : [] ≡ c ∷ (bits ++ replicate k false) = filled in cc)
packing_of zero before (c ∷ bits) k (b ∷ bytes) each first stuffed filled needed fits = absurd (omega arith)
packing_of (suc room) before (c ∷ bits) k (b ∷ []) each first stuffed filled needed fits =
    let w = width_after before in
    let byte : number_of w (c ∷ bits) ≡ b = sym (zeros_add_nothing w (c ∷ bits) k) ∙ (ap (number_of w) (sym filled) ∙ number_of_bits w b (byte_fits before b (each 0) first) []) in
    let done : drop w (c ∷ bits) ≡ [] = no_items (drop w (c ∷ bits)) (omega (arith, length-drop w (c ∷ bits), ap length filled, length-append (number_bits w b) [], number_bits-length w b, length-append (c ∷ bits) (replicate k false))) in
    rw (byte, done) refl
packing_of (suc room) before (c ∷ bits) k (b ∷ r ∷ bytes) each first stuffed filled needed fits =
    let w = width_after before in
    let size = number_bits-length w b in
    let byte : number_of w (c ∷ bits) ≡ b = sym (zeros_add_nothing w (c ∷ bits) k) ∙ (ap (number_of w) (sym filled) ∙ number_of_bits w b (byte_fits before b (each 0) first) (carried_after b (r ∷ bytes))) in
    let long : w < length (c ∷ bits) = omega (arith, needed 1 (omega arith), length-append (number_bits w b) [], size) in
    let rest : carried_after b (r ∷ bytes) ≡ drop w (c ∷ bits) ++ replicate k false =
    sym (drop_at (number_bits w b) (carried_after b (r ∷ bytes)) w size) ∙ (ap (drop w) filled ∙ drop-append-le w (c ∷ bits) (replicate k false) (omega arith)) in
    let more : packed_after room b (drop w (c ∷ bits)) ≡ (r ∷ bytes) ++ closing (last_from b (r ∷ bytes)) =
    packing_of room b (drop w (c ∷ bits)) k (r ∷ bytes) (λ i. each (suc i)) (stuffed 0) (stuffed_tail b (r ∷ bytes) stuffed) rest
    (λ n h. omega (arith, needed (suc n) (omega arith), length-append (number_bits w b) (carried_after b (take n (r ∷ bytes))), size, length-drop w (c ∷ bits)))
    (omega (arith, length-drop w (c ∷ bits), width_cases before)) in
    rw byte (ap (λ (l : List ℕ). b ∷ l) more)

-- the packing of bits that are in bytes, with zeros after them
pub packing_is : (bits : List Bool) (k : ℕ) (bytes : List ℕ) → Carries bits (replicate k false) bytes → packing bits ≡ bytes ++ closing (last_from 0 bytes)
packing_is bits k bytes s = packing_of (length bits) 0 bits k bytes s.each (λ e. absurd (omega arith)) s.stuffed s.filled s.needed (omega arith)

-- bytes with a last one: those before it, and it
pub split_last : (before : ℕ) (b : ℕ) (bytes : List ℕ) → (front : List ℕ) × (b ∷ bytes ≡ front ++ last_from before (b ∷ bytes) ∷ [])
unfolding last_from
split_last before b [] = ([], refl)
split_last before b (c ∷ bytes) =
    let r = split_last b c bytes in
    (b ∷ r.0, ap (λ (l : List ℕ). b ∷ l) r.1)

-- the bytes before the last one carry fewer bits
front_is_short : (bits spare : List Bool) (bytes front : List ℕ) (last : ℕ) → Carries bits spare bytes → bytes ≡ front ++ last ∷ [] → length (carried front) < length bits
front_is_short bits spare bytes front last s e =
    let h : length (carried (take (length front) bytes)) < length bits = s.needed (length front) (omega (arith, ap length e, length-append front (last ∷ []))) in
    let f : take (length front) bytes ≡ front = ap (take (length front)) e ∙ take_at front (last ∷ []) (length front) refl in
    rw f at h

-- bits that are in bytes reach into all of these
pub reach_of : (bits spare : List Bool) (bytes more : List ℕ) → Carries bits spare bytes → 0 < length bytes → bytes_of_bits 0 (length bits) (bytes ++ more) ≡ length bytes
reach_of bits spare [] more s some = absurd (omega arith)
reach_of bits spare (b ∷ bytes) more s some =
    let r = split_last 0 b bytes in
    let last = last_from 0 (b ∷ bytes) in
    let e : b ∷ bytes ≡ r.0 ++ last ∷ [] = r.1 in
    let low : length (carried r.0) < length bits = front_is_short bits spare (b ∷ bytes) r.0 last s e in
    let high : length bits ≤ length (carried (r.0 ++ last ∷ [])) = omega (arith, ap (λ (l : List ℕ). length (carried l)) e, ap length s.filled, length-append bits spare) in
    let whole : (b ∷ bytes) ++ more ≡ r.0 ++ last ∷ more = ap (λ (l : List ℕ). l ++ more) e ∙ append_assoc r.0 (last ∷ []) more in
    ap (bytes_of_bits 0 (length bits)) whole ∙ (bytes_reached 0 r.0 last more (length bits) low high ∙ omega (arith, ap length e, length-append r.0 (last ∷ [])))

-- bits that are in bytes are packed in them, where their last byte is closed
pub packs_where_closed : (bits spare : List Bool) (bytes closes : List ℕ) → Carries bits spare bytes → 0 < length bytes → length closes ≡ closing_after (last_from 0 bytes)
    → IsBytes (bytes ++ closes) → IsStuffed (bytes ++ closes) → Packs bits (bytes ++ closes)
packs_where_closed bits spare [] closes s some size each stuffed = absurd (omega arith)
packs_where_closed bits spare (b ∷ bytes) closes s some size each stuffed =
    let r = split_last 0 b bytes in
    let last = last_from 0 (b ∷ bytes) in
    let e : b ∷ bytes ≡ r.0 ++ last ∷ [] = r.1 in
    record {
      front = r.0;
      last = last;
      pad = spare;
      closing = closes;
      whole = ap (λ (l : List ℕ). l ++ closes) e ∙ append_assoc r.0 (last ∷ []) closes;
      each = each;
      stuffed = stuffed;
      filled = ap carried (sym e) ∙ s.filled;
      needed = front_is_short bits spare (b ∷ bytes) r.0 last s e;
      closed = size;
    }
