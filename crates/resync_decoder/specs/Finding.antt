-- What the code finds at the front of bytes, as what the rules find there.
use Rattle.std.specs.Prelude.{◌≡◌, ◌≤◌, ◌+◌, ℕ, List, map, length, take, nat_lt, nat_le, if◌then◌else◌}
use Rattle.codestream_model.specs.Values.{Head, Place}
use Rattle.codestream_model.specs.Precincts.{grids}
use Rattle.codestream_model.specs.Packet.{block_count, segment_bytes}
use Rattle.codestream_model.specs.MarkedHeader.{SpellsMarkedHeader}
use Rattle.stream_model.specs.Decoder as rules
use Rattle.stream_model.specs.Decoder.{Whole, Part, Other}
use Rattle.packet_header.specs.Answers.{block_of}
use Rattle.packet_header.specs.declared.block.Block.{Block}
use Rattle.packet_header.specs.declared.refusal.HeaderOut.{HeaderOut}
use Rattle.packet_header.specs.declared.refusal.HeaderOut.TheVariants as out
use Rattle.packet_header.specs.Headers.{ReaderState, grids_of, IsFed}
use Rattle.resync_decoder.specs.declared.found.Progress.{Progress}
use Rattle.resync_decoder.specs.declared.found.Progress.TheVariants.{Unread, Begun, Read}
use Rattle.resync_decoder.specs.declared.found.Found.{Found}
use Rattle.resync_decoder.specs.declared.found.Found.TheVariants as found

-- The answer for a packet of `size` bytes, `header` of them in its header, where `len` bytes are
-- there.
abbrev pub found_by : ℕ → ℕ → ℕ → Found
found_by size header len = if nat_lt 16777216 size then found.Other else if nat_le size len then found.Whole header size else found.Part

-- The answer is what the rules find, and these are the code-blocks of a whole packet.
abbrev pub Finds : rules.Found → Found → List Block → Type 0
Finds (Whole blocks header size) result held = (result ≡ found.Whole header size) × (map block_of held ≡ blocks)
Finds Part result held = result ≡ found.Part
Finds Other result held = result ≡ found.Other

-- A whole packet is in the `len` bytes, after its header; and less than one is at most 16,777,215
-- bytes.
abbrev pub IsFound : Found → ℕ → Type 0
IsFound (found.Whole header size) len = (header ≤ size) × (size ≤ len)
IsFound found.Part len = len ≤ 16777215
IsFound found.Other len = Unit {0}

-- There is a byte of the packet of a precinct, which has few enough code-blocks.
pub record IsBegun (h : Head) (p : Place) (bytes : List ℕ) : Type 0 where
  pub some : 1 ≤ length bytes
  pub few : block_count (grids h p) ≤ 65536

-- A reader of the header of the packet at the front of bytes was fed the first `n` of them.
pub record IsPartRead (r : ReaderState) (h : Head) (p : Place) (n : ℕ) (bytes : List ℕ) : Type 0 where
  pub begun : IsBegun h p bytes
  pub within : n ≤ length bytes
  pub grids : grids_of r ≡ grids h p
  pub eph : r.eph ≡ h.eph
  pub fed : IsFed r (take n bytes)

-- The header of the packet at the front of bytes is their first `n`, and its code-blocks were read.
pub record IsHeaderRead (r : ReaderState) (h : Head) (p : Place) (n : ℕ) (bytes : List ℕ) : Type 0 where
  pub begun : IsBegun h p bytes
  pub within : n ≤ length bytes
  pub header : SpellsMarkedHeader (grids h p) h.eph (map block_of r.blocks) (take n bytes)

-- The header of the packet of a precinct at the front of bytes was read so far.
abbrev pub IsReadUpTo : Progress → ReaderState → Head → Place → List ℕ → Type 0
IsReadUpTo Unread r h p bytes = Unit {0}
IsReadUpTo (Begun n) r h p bytes = IsPartRead r h p n bytes
IsReadUpTo (Read n) r h p bytes = IsHeaderRead r h p n bytes

-- What the answer of the reader means, where `len` bytes are there of which it read `earlier` before.
abbrev pub Answers : ℕ → ℕ → List Block → HeaderOut → Found → Progress → Type 0
Answers earlier len blocks (out.Done used) result progress =
    (result ≡ found_by (earlier + used + segment_bytes (map block_of blocks)) (earlier + used) len) × (progress ≡ Read (earlier + used))
Answers earlier len blocks out.Need result progress = (result ≡ found.Part) × (progress ≡ Begun len)
Answers earlier len blocks (out.Bad why) result progress = (result ≡ found.Other) × (progress ≡ Unread)
