-- The bytes of a codestream that were gathered so far.
use Rattle.std.specs.Prelude.{◌≡◌, ◌<◌, ◌+◌, ◌/◌, ◌%◌, ◌++◌, ℕ, true, false, List, [], ◌∷◌, length, slice_set, Result, OnOk}
use Rattle.codestream_model.specs.Values.{Head}
use Rattle.codestream_model.specs.MainHeader.{SpellsHead}
use Rattle.codestream_model.specs.Packet.{Content}
use Rattle.codestream_model.specs.PacketOrder.{packet_order, IsPacketOrder}
use Rattle.codestream_model.specs.Codestream.{joined}
use Rattle.codestream_make.specs.Making.{AllFit, made_packets}
use Rattle.codestream_make.specs.declared.gathered.Gathered.{Gathered}

-- These are all bytes that were added, and they are there; or there were too many of them.
pub record HasGathered (g : Gathered) (all : List ℕ) : Type 0 where
  pub fits : g.is_too_long ≡ false → g.bytes.items ≡ all
  pub long : g.is_too_long ≡ true → 268435456 < length all

-- Where the answer is Ok, these bytes were added after all others.
abbrev pub Adds : {T E : Type 0} → Result T E → Gathered → List ℕ → Gathered → Type 0
Adds result old more new = (all : List ℕ) → HasGathered old all → OnOk result (HasGathered new (all ++ more))

-- The bytes that were gathered are a main header, the packets of its image that have these contents, and EOC.
pub record Gathers (header : List ℕ) (contents : List Content) (g : Gathered) : Type 0 where
  pub head : Head
  pub is_head : SpellsHead head header
  pub order : IsPacketOrder head (packet_order head)
  pub fit : AllFit head (packet_order head) contents
  pub gathered : HasGathered g (header ++ (joined (made_packets head contents) ++ 255 ∷ 217 ∷ []))

-- The bytes are a main header, and these contents don't fit the precincts of its image.
pub record HasOther (header : List ℕ) (contents : List Content) : Type 0 where
  pub head : Head
  pub is_head : SpellsHead head header
  pub other : AllFit head (packet_order head) contents → ⊥

-- Bytes with a number in four bytes at an offset.
abbrev pub set_four : List ℕ → ℕ → ℕ → List ℕ
set_four b at n =
    slice_set (slice_set (slice_set (slice_set b at (n / 0x100_0000)) (at + 1) (n / 0x1_0000 % 256)) (at + 2) (n / 256 % 256)) (at + 3) (n % 256)
