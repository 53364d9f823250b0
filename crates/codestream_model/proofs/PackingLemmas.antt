-- Packing: what is packed by computing are the bits in bytes, and the bits of bytes are the first that they carry.
use Rattle.std.proofs.Common.{◌≡◌, ◌≢◌, ◌<◌, ◌≤◌, ◌⊎◌, ◌+◌, ◌-◌, ◌^◌, ℕ, zero, suc, Bool, List, [], ◌∷◌, ◌++◌, length, take, drop, slice_index, refl, sym, ◌∙◌, ap, inl, inr, arith, append_assoc}
use Rattle.std.proofs.lemmas.Bool.Decides.{eqb_tells}
use Rattle.std.proofs.lemmas.List.{append-nil, length-append, length-drop, take-append-drop}
use Rattle.codestream_model.specs.Bytes.{IsBytes}
use Rattle.codestream_model.specs.StuffedBits.{IsStuffed, number_bits, number_of, width_after, carried_after, carried, closing_after, Packs, packed_after, packing}
use Rattle.codestream_model.proofs.BitLemmas.{padded, number_of-lt, bits_of_number, number_bits-length, padded-take, padded-short}

-- bytes with one more in front are bytes
pub bytes-cons : (b : ℕ) (bytes : List ℕ) → b < 256 → IsBytes bytes → IsBytes (b ∷ bytes)
bytes-cons b bytes h t zero = h
bytes-cons b bytes h t (suc i) = t i

-- stuffed bytes with one more in front are stuffed, if the first of them is after it
pub stuffed-cons : (b : ℕ) (bytes : List ℕ) → (b ≡ 255 → slice_index bytes 0 < 128) → IsStuffed bytes → IsStuffed (b ∷ bytes)
stuffed-cons b bytes h t zero e = h e
stuffed-cons b bytes h t (suc i) e =
    let next : suc i + 1 ≡ suc (i + 1) = omega arith in
    rw next (t i e)

-- no bytes are bytes, and stuffed
pub bytes-nil : IsBytes []
bytes-nil i = omega arith

pub stuffed-nil : IsStuffed []
stuffed-nil i e = omega arith

-- a byte after FF carries seven bits, another one eight
pub width_cases : (before : ℕ) → ((before ≡ 255) × (width_after before ≡ 7)) ⊎ ((before ≢ 255) × (width_after before ≡ 8))
width_cases before = elim (eqb_tells before 255) [
  | inl t ↦ inl (t.1, rw t.0 refl)
  | inr t ↦ inr (t.1, rw t.0 refl)
]

-- the bits in bytes that follow this one
record PacksAfter (before : ℕ) (bits : List Bool) (bytes : List ℕ) : Type 0 where
  front : List ℕ
  last : ℕ
  pad : List Bool
  closing : List ℕ
  whole : bytes ≡ front ++ last ∷ closing
  each : IsBytes bytes
  first : before ≡ 255 → slice_index bytes 0 < 128
  stuffed : IsStuffed bytes
  filled : carried_after before (front ++ last ∷ []) ≡ bits ++ pad
  needed : length (carried_after before front) < length bits
  closed : length closing ≡ closing_after last

-- a byte that is packed after another one is a byte, and below 128 after FF
packed_byte : (before : ℕ) (bits : List Bool) → (number_of (width_after before) bits < 256) × (before ≡ 255 → number_of (width_after before) bits < 128)
packed_byte before bits = elim (width_cases before) [
  | inl t ↦ (rw t.1 (let h : number_of 7 bits < 2 ^ 7 = number_of-lt 7 bits in omega arith), λ e. rw t.1 (let h : number_of 7 bits < 2 ^ 7 = number_of-lt 7 bits in omega arith))
  | inr t ↦ (rw t.1 (let h : number_of 8 bits < 2 ^ 8 = number_of-lt 8 bits in omega arith), λ e. absurd (t.0 e))
]

-- what closes the last byte
closing_of : (room before : ℕ) → (length (packed_after room before []) ≡ closing_after before) × (IsBytes (packed_after room before [])) × (before ≡ 255 → slice_index (packed_after room before []) 0 < 128) × IsStuffed (packed_after room before [])
unfolding packed_after
closing_of room before = elim (eqb_tells before 255) [
  | inl t ↦ rw t.0 (refl, bytes-cons 0 [] (let h : 0 < 256 = omega arith in h) bytes-nil, λ e. omega arith, stuffed-cons 0 [] (λ e. omega arith) stuffed-nil)
  | inr t ↦ rw t.0 (refl, bytes-nil, λ e. absurd (t.1 e), stuffed-nil)
]

-- the last byte
pack_last : (room before : ℕ) (b : Bool) (bits : List Bool) → suc (length bits) ≤ width_after before
    → PacksAfter before (b ∷ bits) (number_of (width_after before) (b ∷ bits) ∷ packed_after room (number_of (width_after before) (b ∷ bits)) [])
unfolding carried_after
pack_last room before b bits short =
    let byte = number_of (width_after before) (b ∷ bits) in
    let closing = closing_of room byte in
    let small = packed_byte before (b ∷ bits) in
    record {
      front = [];
      last = byte;
      pad = padded (width_after before - suc (length bits)) [];
      closing = packed_after room byte [];
      whole = refl;
      each = bytes-cons byte (packed_after room byte []) small.0 closing.1;
      first = small.1;
      stuffed = stuffed-cons byte (packed_after room byte []) closing.2 closing.3;
      filled = append-nil (number_bits (width_after before) byte) ∙ (bits_of_number (width_after before) (b ∷ bits) ∙ padded-short (width_after before) (b ∷ bits) short);
      needed = omega arith;
      closed = closing.0;
    }

-- a byte that isn't the last
pack_more : (before : ℕ) (bits : List Bool) (bytes : List ℕ) → width_after before < length bits
    → PacksAfter (number_of (width_after before) bits) (drop (width_after before) bits) bytes
    → PacksAfter before bits (number_of (width_after before) bits ∷ bytes)
unfolding carried_after
pack_more before bits bytes long p =
    let byte = number_of (width_after before) bits in
    let small = packed_byte before bits in
    let full : number_bits (width_after before) byte ≡ take (width_after before) bits = bits_of_number (width_after before) bits ∙ padded-take (width_after before) bits (omega arith) in
    record {
      front = byte ∷ p.front;
      last = p.last;
      pad = p.pad;
      closing = p.closing;
      whole = ap (λ (l : List ℕ). byte ∷ l) p.whole;
      each = bytes-cons byte bytes small.0 p.each;
      first = small.1;
      stuffed = stuffed-cons byte bytes p.first p.stuffed;
      filled = rw (full, p.filled) (sym (append_assoc (take (width_after before) bits) (drop (width_after before) bits) p.pad) ∙ ap (λ (l : List Bool). l ++ p.pad) (take-append-drop (width_after before) bits));
      needed = omega (arith, p.needed, length-append (number_bits (width_after before) byte) (carried_after byte p.front), number_bits-length (width_after before) byte, length-drop (width_after before) bits);
      closed = p.closed;
    }

-- bits packed by computing, by what is left of them after the first byte
packed_by : (room before : ℕ) (b : Bool) (bits rest : List Bool) → drop (width_after before) (b ∷ bits) ≡ rest
    → ((c : Bool) (more : List Bool) → rest ≡ c ∷ more → PacksAfter (number_of (width_after before) (b ∷ bits)) (c ∷ more) (packed_after room (number_of (width_after before) (b ∷ bits)) (c ∷ more)))
    → PacksAfter before (b ∷ bits) (number_of (width_after before) (b ∷ bits) ∷ packed_after room (number_of (width_after before) (b ∷ bits)) rest)
packed_by room before b bits [] e inner = pack_last room before b bits (omega (arith, length-drop (width_after before) (b ∷ bits), ap length e))
packed_by room before b bits (c ∷ more) e inner =
    pack_more before (b ∷ bits) (packed_after room (number_of (width_after before) (b ∷ bits)) (c ∷ more))
    (omega (arith, length-drop (width_after before) (b ∷ bits), ap length e))
    (rw e (inner c more refl))

-- a byte carries at least seven bits
pub width-ge : (before : ℕ) → 7 ≤ width_after before
width-ge before = elim (width_cases before) [ inl t ↦ omega (arith, t.1) | inr t ↦ omega (arith, t.1) ]

-- bits packed by computing
packed : (room before : ℕ) (b : Bool) (bits : List Bool) → length bits < room → PacksAfter before (b ∷ bits) (packed_after room before (b ∷ bits))
unfolding packed_after
packed zero before b bits h = absurd (omega arith)
packed (suc room) before b bits h =
    packed_by room before b bits (drop (width_after before) (b ∷ bits)) refl
    (λ c more e. packed room (number_of (width_after before) (b ∷ bits)) c more (omega (arith, length-drop (width_after before) (b ∷ bits), ap length e, width-ge before)))

-- bits packed by computing are packed
pub packing_packs : (bits : List Bool) → 1 ≤ length bits → Packs bits (packing bits)
packing_packs [] h = absurd (omega arith)
packing_packs (b ∷ bits) h =
    let p = packed (suc (length bits)) 0 b bits (omega arith) in
    record {
      front = p.front;
      last = p.last;
      pad = p.pad;
      closing = p.closing;
      whole = p.whole;
      each = p.each;
      stuffed = p.stuffed;
      filled = p.filled;
      needed = p.needed;
      closed = p.closed;
    }

-- the last of bytes that follow this one, or this one
unfoldable pub last_after : ℕ → List ℕ → ℕ
last_after before [] = before
last_after before (b ∷ bytes) = last_after b bytes

-- the bits of bytes and of those that follow them
pub carried-append : (before : ℕ) (xs ys : List ℕ) → carried_after before (xs ++ ys) ≡ carried_after before xs ++ carried_after (last_after before xs) ys
unfolding carried_after last_after
carried-append before [] ys = refl
carried-append before (x ∷ xs) ys = rw (carried-append x xs ys) (sym (append_assoc (number_bits (width_after before) x) (carried_after x xs) (carried_after (last_after x xs) ys)))

-- the bits of bytes with one more
pub carried-push : (before : ℕ) (xs : List ℕ) (y : ℕ) (more : List ℕ) → carried_after before (xs ++ y ∷ more) ≡ carried_after before (xs ++ y ∷ []) ++ carried_after y more
unfolding carried_after last_after
carried-push before [] y more = ap (λ (l : List Bool). l ++ carried_after y more) (sym (append-nil (number_bits (width_after before) y)))
carried-push before (x ∷ xs) y more = rw (carried-push x xs y more) (sym (append_assoc (number_bits (width_after before) x) (carried_after x (xs ++ y ∷ [])) (carried_after y more)))

-- the bits of bytes are the first that they carry
pub packed_are_carried : (bits : List Bool) (bytes : List ℕ) → Packs bits bytes → (more : List Bool) × (carried bytes ≡ bits ++ more)
packed_are_carried bits bytes p = (
  p.pad ++ carried_after p.last p.closing,
  ap carried p.whole ∙ (carried-push 0 p.front p.last p.closing ∙ (ap (λ (l : List Bool). l ++ carried_after p.last p.closing) p.filled ∙ append_assoc bits p.pad (carried_after p.last p.closing))),
)
