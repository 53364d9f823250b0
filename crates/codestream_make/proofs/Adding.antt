-- One packet more.
use Rattle.std.proofs.Common.{◌≡◌, ◌≤◌, ◌+◌, ◌++◌, ℕ, List, map, length, sym, subst, ◌∙◌, ap, arith, append_assoc}
use Rattle.codestream_model.specs.Values.{Head, Place}
use Rattle.codestream_model.specs.Precincts.{grids}
use Rattle.codestream_model.specs.MarkedHeader.{SpellsMarkedHeader, written_marked_header}
use Rattle.codestream_model.specs.Packet.{HasFewBlocks, segment_bytes}
use Rattle.trial_model.specs.Generator.{packet_of}
use Rattle.packet_header.specs.declared.block.Block.{Block}
use Rattle.packet_header.specs.Answers.{block_of}
use Rattle.codestream_make.specs.declared.plan.PrecinctPlan.{PrecinctPlan}
use Rattle.codestream_make.specs.declared.gathered.Gathered.{Gathered}
use Rattle.codestream_make.specs.Gathering.{HasGathered}
use Rattle.codestream_make.specs.Making.{content_of, Fits}
use Rattle.codestream_make.proofs.Fitting.{fits_all}

-- The header that our writer gives code-blocks of a precinct.
abbrev pub header_of : Head → Place → List Block → List ℕ
header_of h p blocks = written_marked_header (grids h p) h.eph (map block_of blocks)

-- The header and the segments of a packet were added.
pub packet_gathered : (g : Gathered) (h : Head) (p : Place) (plan : PrecinctPlan) (seen : List Block) (all front bytes : List ℕ)
    → front ≡ header_of h p seen → seen ≡ plan.blocks.items → bytes ≡ plan.bytes.items
    → HasGathered g ((all ++ front) ++ bytes) → HasGathered g (all ++ packet_of h p (content_of plan))
packet_gathered g h p plan seen all front bytes is same segments has =
    let P : List ℕ → Type 0 = λ l. HasGathered g l in
    subst P (append_assoc all front bytes ∙ ap (λ (l : List ℕ). all ++ (l ++ bytes)) (is ∙ ap (header_of h p) same) ∙ ap (λ (l : List ℕ). all ++ (header_of h p plan.blocks.items ++ l)) segments) has

-- A packet whose header and segments were judged fits.
pub packet_fits : (h : Head) (p : Place) (plan : PrecinctPlan) (seen counted : List Block) (n len : ℕ)
    → HasFewBlocks h p → SpellsMarkedHeader (grids h p) h.eph (map block_of seen) (header_of h p seen) → n ≡ length (header_of h p seen)
    → seen ≡ plan.blocks.items → len ≡ segment_bytes (map block_of counted) → counted ≡ plan.blocks.items → len ≡ length plan.bytes.items → n + len ≤ 16777216
    → Fits h p (content_of plan)
packet_fits h p plan seen counted n len few spelled size same segments also length_is short =
    let P : List Block → Type 0 = λ l. SpellsMarkedHeader (grids h p) h.eph (map block_of l) (header_of h p l) in
    let sizes = size ∙ ap (λ (l : List Block). length (header_of h p l)) same in
    let sums = sym length_is ∙ segments ∙ ap (λ (l : List Block). segment_bytes (map block_of l)) also in
    fits_all h p (map block_of plan.blocks.items) plan.bytes.items n few (subst P same spelled) sizes sums (omega (arith, short, length_is))
