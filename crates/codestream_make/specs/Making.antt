-- The codestream that is made of a plan.
use Rattle.std.specs.Prelude.{◌≡◌, ◌<◌, ◌≤◌, ◌++◌, ℕ, List, [], ◌∷◌, length, map}
use Rattle.codestream_model.specs.Values.{Head, Place, Block}
use Rattle.codestream_model.specs.MainHeader.{SpellsHead}
use Rattle.codestream_model.specs.Packet.{Content, SpellsPacket}
use Rattle.codestream_model.specs.Precincts.{grids}
use Rattle.codestream_model.specs.MarkedHeader.{written_marked_header}
use Rattle.codestream_model.specs.PacketOrder.{packet_order}
use Rattle.codestream_model.specs.Codestream.{SpellsCodestream, joined}
use Rattle.trial_model.specs.Generator.{packet_of, packets_of, psot_of}
use Rattle.packet_header.specs.Answers.{block_of}
use Rattle.j2k_markers.specs.declared.plan.HeadPlan.{HeadPlan}
use Rattle.j2k_markers.specs.Layout.{plan_bytes}
use Rattle.codestream_make.specs.declared.plan.PrecinctPlan.{PrecinctPlan}
use Rattle.codestream_make.specs.declared.plan.CodePlan.{CodePlan}

-- The content that a packet is to have.
abbrev pub content_of : PrecinctPlan → Content
content_of x = record { blocks = map block_of x.blocks.items; bytes = x.bytes.items }

-- The contents that the packets of a codestream are to have.
abbrev pub contents_of : CodePlan → List Content
contents_of plan = map content_of plan.content.items

-- The packet that our writer gives a precinct with this content is a packet of it: the code-blocks are those of a packet,
-- their segments have as many bytes as there are, and header and packet aren't too long.
abbrev pub Fits : Head → Place → Content → Type 0
Fits h p x = SpellsPacket h p x (packet_of h p x)

-- The packet header that our writer gives a precinct with these code-blocks, with its EPH.
abbrev pub header_for : Head → Place → List Block → List ℕ
header_for h p blocks = written_marked_header (grids h p) h.eph blocks

-- No bytes make a packet of the precinct with these code-blocks.
abbrev pub NoneFit : Head → Place → List Block → Type 0
NoneFit h p blocks = (bytes : List ℕ) → Fits h p (record { blocks = blocks; bytes = bytes }) → ⊥

-- The packets of an image's precincts with these contents, one after another.
abbrev pub packet_bytes : Head → List Content → List ℕ
packet_bytes h contents = joined (packets_of h (packet_order h) contents)

-- There is a content for each of these precincts, and it fits.
abbrev pub AllFit : Head → List Place → List Content → Type 0
AllFit h [] [] = Unit {0}
AllFit h (p ∷ places) (x ∷ contents) = Fits h p x × AllFit h places contents
AllFit h places contents = ⊥

-- The plan of a main header, with this Psot.
abbrev pub with_psot : HeadPlan → ℕ → HeadPlan
with_psot plan psot = record plan { psot = psot }

-- The packets of an image with these contents, in packet order.
abbrev pub made_packets : Head → List Content → List (List ℕ)
made_packets h contents = packets_of h (packet_order h) contents

-- The codestream: the plan's main header with the right Psot, the packets, and EOC.
abbrev pub made : HeadPlan → Head → List Content → List ℕ
made plan h contents =
    plan_bytes (with_psot plan (psot_of (made_packets h contents)))
    ++ (joined (made_packets h contents) ++ 255 ∷ 217 ∷ [])

-- The main header of a plan is accepted, with these values.
abbrev pub HasHead : CodePlan → Head → Type 0
HasHead plan h = SpellsHead h (plan_bytes plan.head)

-- The bytes are the codestream of a plan, which is accepted and says what the plan does.
pub record Makes (plan : CodePlan) (bytes : List ℕ) : Type 0 where
  pub head : Head
  pub is_head : HasHead plan head
  pub fit : AllFit head (packet_order head) (contents_of plan)
  pub whole : bytes ≡ made plan.head head (contents_of plan)
  pub short : length bytes ≤ 268435456
  pub codestream : (h : Head) × SpellsCodestream h (contents_of plan) bytes

-- The main header of a plan is accepted, and its contents don't fit the image's precincts.
pub record HasOtherContent (plan : CodePlan) : Type 0 where
  pub head : Head
  pub is_head : HasHead plan head
  pub other : AllFit head (packet_order head) (contents_of plan) → ⊥

-- The plan is right, and its codestream has too many bytes.
pub record IsTooLong (plan : CodePlan) : Type 0 where
  pub head : Head
  pub is_head : HasHead plan head
  pub fit : AllFit head (packet_order head) (contents_of plan)
  pub long : 268435456 < length (made plan.head head (contents_of plan))
