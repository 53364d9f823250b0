-- Bits in bytes with bit stuffing, as packet headers have them (T.800 B.10.1).
use Rattle.std.specs.Prelude.{◌≡◌, ◌<◌, ◌+◌, ◌-◌, ◌*◌, ◌/◌, ◌%◌, ◌^◌, ◌==◌, ◌&&◌, ℕ, zero, suc, Bool, List, [], ◌∷◌, ◌++◌, length, drop, slice_index, nat_le, nat_lt, Option, Some, None, if◌then◌else◌}
use Rattle.codestream_model.specs.Bytes.{bit, IsBytes}

-- `number_bits n v` is the number v in n bits, the most significant first.
unfoldable pub number_bits : ℕ → ℕ → List Bool
number_bits zero v = []
number_bits (suc n) v = (v / 2 ^ n % 2 == 1) ∷ number_bits n v

-- `number_of n bits` is the number that the first n bits spell, the most significant first; missing bits count as 0.
unfoldable pub number_of : ℕ → List Bool → ℕ
number_of zero bits = 0
number_of (suc n) [] = 0
number_of (suc n) (b ∷ bits) = bit b * 2 ^ n + number_of n bits

-- A byte carries eight bits, or the lower seven if the byte before it is FF.
abbrev pub width_after : ℕ → ℕ
width_after before = if before == 255 then 7 else 8

-- `carried_after before bytes` is the bits that bytes carry if the byte before them is `before`.
unfoldable pub carried_after : ℕ → List ℕ → List Bool
carried_after before [] = []
carried_after before (b ∷ bytes) = number_bits (width_after before) b ++ carried_after b bytes

-- `carried bytes` is the bits that bytes carry from the start of a packet header.
abbrev pub carried : List ℕ → List Bool
carried bytes = carried_after 0 bytes

-- Bytes are stuffed if each byte after FF is below 128.
abbrev pub IsStuffed : List ℕ → Type 0
IsStuffed bytes = (i : ℕ) → slice_index bytes i ≡ 255 → slice_index bytes (i + 1) < 128

-- One byte follows the last byte that carries a bit if that byte is FF, and none otherwise.
abbrev pub closing_after : ℕ → ℕ
closing_after last = if last == 255 then 1 else 0

-- Bits are packed in bytes if they fill the bytes from the top: the last byte that carries one of them is filled with any
-- bits, and if it is FF, one byte more closes them.
pub record Packs (bits : List Bool) (bytes : List ℕ) : Type 0 where
  pub front : List ℕ
  pub last : ℕ
  pub pad : List Bool
  pub closing : List ℕ
  pub whole : bytes ≡ front ++ last ∷ closing
  pub each : IsBytes bytes
  pub stuffed : IsStuffed bytes
  pub filled : carried (front ++ last ∷ []) ≡ bits ++ pad
  pub needed : length (carried front) < length bits
  pub closed : length closing ≡ closing_after last

-- `packed_after room before bits` is the bits packed in at most `room` bytes after the byte `before`, with pad bits of 0.
unfoldable pub packed_after : ℕ → ℕ → List Bool → List ℕ
packed_after room before [] = if before == 255 then 0 ∷ [] else []
packed_after zero before (b ∷ bits) = []
packed_after (suc room) before (b ∷ bits) =
    number_of (width_after before) (b ∷ bits)
    ∷ packed_after room (number_of (width_after before) (b ∷ bits)) (drop (width_after before) (b ∷ bits))

-- `packing bits` is the bits packed in bytes, with pad bits of 0.
abbrev pub packing : List Bool → List ℕ
packing bits = packed_after (length bits) 0 bits

-- `sound_after before bytes` is the bytes before the first that is 128 or more after FF, if the byte before them is `before`.
unfoldable pub sound_after : ℕ → List ℕ → List ℕ
sound_after before [] = []
sound_after before (b ∷ bytes) = if (before == 255) && nat_le 128 b then [] else b ∷ sound_after b bytes

-- What bytes carry: the bits before the first byte that breaks the stuffing, and the index of that byte.
pub record BitRun : Type 0 where
  pub bits : List Bool
  pub broken_at : Option ℕ

-- `packed_bits bytes` is the bits read from bytes, and the index at which the stuffing is first broken.
abbrev pub packed_bits : List ℕ → BitRun
packed_bits bytes = record {
  bits = carried (sound_after 0 bytes);
  broken_at = if nat_lt (length (sound_after 0 bytes)) (length bytes) then Some (length (sound_after 0 bytes)) else None;
}

-- `bytes_of_bits before n bytes` is the number of first bytes that carry n bits, if the byte before them is `before`.
unfoldable pub bytes_of_bits : ℕ → ℕ → List ℕ → ℕ
bytes_of_bits before n [] = 0
bytes_of_bits before n (b ∷ bytes) = if nat_le n (width_after before) then 1 else suc (bytes_of_bits b (n - width_after before) bytes)
