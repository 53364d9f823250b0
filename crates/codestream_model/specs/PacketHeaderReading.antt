-- A packet header read by computing, from the front. The laws `HeadersAreSound` and `HeadersAreRead` say that what is read is a
-- header, and that each header is read so; `RefusalsAreSound`, `RefusalsAreRead`, `NeedsAreSound` and `NeedsAreRead` say the
-- same of what is refused and of what wants more bytes.
use Rattle.std.specs.Prelude.{◌+◌, ◌-◌, ◌/◌, ◌^◌, ◌==◌, ◌&&◌, ◌++◌, ℕ, suc, Bool, true, false, List, [], ◌∷◌, length, take, drop, slice_index, nat_le, nat_lt, Option, Some, None, if◌then◌else◌}
use Rattle.codestream_model.specs.Values.{Grid, Block}
use Rattle.codestream_model.specs.StuffedBits.{number_of, packed_bits, bytes_of_bits}
use Rattle.codestream_model.specs.TagTrees.{Seat, seats, root_level, levels_from}
use Rattle.codestream_model.specs.HeaderPieces.{HeaderRefusal, Stuffed, ZeroPlanes, Passes, LengthBits, CleanupShort, CleanupLong, RefineLong, TooLong, refine_width}

-- What is read at the start of bytes: a header, with the number of its bytes and its code-blocks; no answer yet; or a
-- refusal.
pub data HeaderReading : Type 0 where
  Done : ℕ → List Block → HeaderReading
  Need : HeaderReading
  Bad : HeaderRefusal → HeaderReading

-- What is read at the start of bits: a value and the bits after it; or that the bits are at their end; or a refusal.
pub data Read (A : Type 0) : Type 0 where
  Got : A → List Bool → Read A
  AtEnd : Read A
  Refused : HeaderRefusal → Read A

-- A reading, and then the next one, which starts from what the first one got.
abbrev pub and_then : {A B : Type 0} → Read A → (A → List Bool → Read B) → Read B
and_then (Got x bits) next = next x bits
and_then AtEnd next = AtEnd
and_then (Refused why) next = Refused why

-- A reading that got a value which is refused if the test holds.
abbrev pub unless : {A : Type 0} → Bool → HeaderRefusal → Read A → Read A
unless true why read = Refused why
unless false why read = read

-- One bit.
abbrev pub read_bit : List Bool → Read Bool
read_bit [] = AtEnd
read_bit (b ∷ bits) = Got b bits

-- A label of the value tree that is at least this one.
unfoldable pub read_label : ℕ → List Bool → Read ℕ
read_label least [] = AtEnd
read_label least (true ∷ bits) = Got least bits
read_label least (false ∷ bits) = unless (nat_le 74 least) ZeroPlanes (read_label (suc least) bits)

-- The number of passes.
unfoldable pub read_passes : List Bool → Read ℕ
read_passes [] = AtEnd
read_passes (false ∷ bits) = Got 1 bits
read_passes (true ∷ []) = AtEnd
read_passes (true ∷ false ∷ bits) = Got 2 bits
read_passes (true ∷ true ∷ []) = AtEnd
read_passes (true ∷ true ∷ a ∷ []) = AtEnd
read_passes (true ∷ true ∷ false ∷ false ∷ bits) = Got 3 bits
read_passes (true ∷ true ∷ false ∷ true ∷ bits) = Refused Passes
read_passes (true ∷ true ∷ true ∷ b ∷ bits) = Refused Passes

-- An Lblock that is at least this one.
unfoldable pub read_lblock : ℕ → List Bool → Read ℕ
read_lblock least [] = AtEnd
read_lblock least (false ∷ bits) = Got least bits
read_lblock least (true ∷ bits) = unless (nat_le 24 least) LengthBits (read_lblock (suc least) bits)

-- A number of n bits.
unfoldable pub read_number : ℕ → List Bool → Read ℕ
read_number width bits = if nat_le width (length bits) then Got (number_of width bits) (drop width bits) else AtEnd

-- The length of a cleanup segment.
abbrev pub read_cleanup : ℕ → List Bool → Read ℕ
read_cleanup width bits = and_then (read_number width bits) (λ n more. unless (nat_lt n 2) CleanupShort (unless (nat_le 65535 n) CleanupLong (Got n more)))

-- The length of a refinement segment, where there is one.
abbrev pub read_refine : ℕ → ℕ → List Bool → Read ℕ
read_refine passes lblock bits =
    if nat_le passes 1 then Got 0 bits
    else and_then (read_number (refine_width passes lblock) bits) (λ n more. unless (nat_le 2047 n) RefineLong (Got n more))

-- The rest of an included code-block, whose position and zero bit-planes are known.
unfoldable pub read_block : Seat → ℕ → List Bool → Read Block
read_block s planes bits =
    and_then (read_passes bits) (λ passes bits. and_then (read_lblock 3 bits) (λ lblock bits.
    and_then (read_cleanup lblock bits) (λ cleanup bits. and_then (read_refine passes lblock bits) (λ refine bits.
    Got (record { band = s.band; col = s.col; row = s.row; planes = planes; passes = passes; cleanup = cleanup; refine = refine }) bits))))

-- A node of a tree whose label is known.
pub record Node : Type 0 where
  pub level : ℕ
  pub col : ℕ
  pub row : ℕ
  pub label : ℕ

-- The node of a level on a leaf's path, with this label.
abbrev pub node_of : ℕ → Seat → ℕ → Node
node_of level s value = record { level = level; col = s.col / 2 ^ level; row = s.row / 2 ^ level; label = value }

-- The label of that node, where it is known.
unfoldable pub known_label : ℕ → Seat → List Node → Option ℕ
known_label level s [] = None
known_label level s (n ∷ nodes) =
    if (level == n.level) && ((s.col / 2 ^ level == n.col) && (s.row / 2 ^ level == n.row)) then Some n.label else known_label level s nodes

-- A leaf's label, and the nodes that are known after it.
pub record Walked : Type 0 where
  pub label : ℕ
  pub nodes : List Node

-- A leaf of the inclusion tree, read down these levels from a node that has this label.
unfoldable pub read_inclusion : List ℕ → Seat → ℕ → List Node → List Bool → Read Walked
read_inclusion [] s above nodes bits = Got (record { label = above; nodes = nodes }) bits
read_inclusion (level ∷ levels) s above nodes bits = elim (known_label level s nodes) [
  | Some value ↦ read_inclusion levels s value nodes bits
  | None ↦ elim (above == 0) [
    | true ↦ and_then (read_bit bits) (λ b more. read_inclusion levels s (if b then 0 else 1) (node_of level s (if b then 0 else 1) ∷ nodes) more)
    | false ↦ read_inclusion levels s above nodes bits
  ]
]

-- A leaf of the value tree, read down these levels from a node that has this label.
unfoldable pub read_planes : List ℕ → Seat → ℕ → List Node → List Bool → Read Walked
read_planes [] s above nodes bits = Got (record { label = above; nodes = nodes }) bits
read_planes (level ∷ levels) s above nodes bits = elim (known_label level s nodes) [
  | Some value ↦ read_planes levels s value nodes bits
  | None ↦ and_then (read_label above bits) (λ value more. read_planes levels s value (node_of level s value ∷ nodes) more)
]

-- One of two readings, by a test.
abbrev pub read_either : {A : Type 0} → Bool → (List Bool → Read A) → (List Bool → Read A) → List Bool → Read A
read_either true read other bits = read bits
read_either false read other bits = other bits

-- The code-blocks at these positions of a grid whose trees have these levels, where these nodes of both are known.
unfoldable pub read_seats : List ℕ → List Seat → List Node → List Node → List Bool → Read (List Block)
read_seats levels [] inclusion planes bits = Got [] bits
read_seats levels (s ∷ more) inclusion planes bits =
    and_then (read_inclusion levels s 0 inclusion bits) (λ found bits. read_either (found.label == 0)
    (λ bits.
    and_then (read_planes levels s 0 planes bits) (λ value bits. and_then (read_block s value.label bits) (λ b bits.
    and_then (read_seats levels more found.nodes value.nodes bits) (λ blocks bits. Got (b ∷ blocks) bits))))
    (λ bits. read_seats levels more found.nodes planes bits)
    bits)

-- The code-blocks of grids.
unfoldable pub read_grids : List Grid → List Bool → Read (List Block)
read_grids [] bits = Got [] bits
read_grids (g ∷ more) bits =
    and_then (read_seats (levels_from (root_level g)) (seats g) [] [] bits) (λ own bits.
    and_then (read_grids more bits) (λ others bits. Got (own ++ others) bits))

-- The code-blocks of a header.
unfoldable pub read_bits : List Grid → List Bool → Read (List Block)
read_bits grids bits = and_then (read_bit bits) (λ filled more. elim filled [ false ↦ Got [] more | true ↦ read_grids grids more ])

-- The answer where all of n bytes are read and another one is needed: one that breaks the stuffing at this offset, or
-- none.
abbrev pub end_by : Option ℕ → ℕ → HeaderReading
end_by (Some place) size = Bad Stuffed
end_by None size = if nat_le 65536 size then Bad TooLong else Need

-- The answer where a byte is needed after what is read of the bytes.
abbrev pub at_end : List ℕ → HeaderReading
at_end bytes = end_by (packed_bits (take 65536 bytes)).broken_at (length bytes)

-- The answer where all bits of a header are read, and they reach into n bytes: after a last byte FF another one is
-- needed.
abbrev pub closed_by : List ℕ → ℕ → List Block → HeaderReading
closed_by bytes used blocks =
    if slice_index bytes (used - 1) == 255
    then (if nat_lt used (length (take 65536 bytes)) && nat_lt (slice_index bytes used) 128 then Done (used + 1) blocks else at_end bytes)
    else Done used blocks

-- The bits that are read of bytes.
abbrev pub readable_bits : List ℕ → List Bool
readable_bits bytes = (packed_bits (take 65536 bytes)).bits

-- The answer by what is read of these bits.
abbrev pub answer_of : List ℕ → Read (List Block) → HeaderReading
answer_of bytes (Got blocks rest) = closed_by bytes (bytes_of_bits 0 (length (readable_bits bytes) - length rest) bytes) blocks
answer_of bytes AtEnd = at_end bytes
answer_of bytes (Refused why) = Bad why

-- What is read at the start of bytes.
unfoldable pub header_of : List Grid → List ℕ → HeaderReading
header_of grids bytes = answer_of bytes (read_bits grids (readable_bits bytes))
