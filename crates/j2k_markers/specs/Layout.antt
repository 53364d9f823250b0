-- How the writer lays out a header.
use Rattle.std.specs.Prelude.{◌≡◌, ◌≢◌, ◌<◌, ◌+◌, ◌-◌, ◌*◌, ◌/◌, ◌%◌, ◌^◌, ◌==◌, ◌++◌, ℕ, List, [], ◌∷◌, length, replicate, if◌then◌else◌}
use Rattle.std.specs.List.{AllByRecursion, flat_map}
use Rattle.codestream_model.specs.Values.{Head}
use Rattle.codestream_model.specs.MainHeader.{SpellsHead}
use Rattle.codestream_model.specs.Bytes.{two_bytes}
use Rattle.codestream_model.specs.Segments.{SOC, SIZ, CAP, COD, QCD, SOT, SOD, Segment, stated_length, segment_bytes, segments_bytes}
use Rattle.j2k_markers.specs.declared.plan.HeadPlan.{HeadPlan}

-- a number below 2^32 in four bytes
abbrev pub four_bytes : ℕ → List ℕ
four_bytes n = (n / 0x100_0000) ∷ (n / 0x1_0000 % 256) ∷ (n / 256 % 256) ∷ (n % 256) ∷ []

-- Ssiz, XRsiz and YRsiz of a component
abbrev pub step_bytes : ℕ × ℕ → List ℕ
step_bytes step = 7 ∷ step.0 ∷ step.1 ∷ []

-- PPx and PPy of a resolution
abbrev pub precinct_byte : ℕ × ℕ → List ℕ
precinct_byte e = (e.0 + 16 * e.1) ∷ []

-- the content of SIZ: one tile that begins at 0 and ends where the image does
unfoldable pub siz_content : HeadPlan → List ℕ
siz_content plan =
    (0x40 ∷ 0 ∷ [])
    ++ (flat_map four_bytes (plan.area.2 ∷ plan.area.3 ∷ plan.area.0 ∷ plan.area.1 ∷ plan.area.2 ∷ plan.area.3 ∷ 0 ∷ 0 ∷ [])
    ++ ((0 ∷ length plan.steps.items ∷ [])
    ++ flat_map step_bytes plan.steps.items))

-- The content of COD: the plan's order, one layer, no component transform, the 5/3 wavelet. Bit 0 of Scod says that there are
-- precinct sizes, bit 2 that EPH markers follow the packet headers.
unfoldable pub cod_content : HeadPlan → List ℕ
cod_content plan =
    (((if length plan.precincts.items == 0 then 0 else 1) + (if plan.eph then 4 else 0)) ∷ plan.order ∷ 0 ∷ 1 ∷ 0 ∷ plan.levels ∷ (plan.block.0 - 2) ∷ (plan.block.1 - 2) ∷ plan.style ∷ 1 ∷ [])
    ++ flat_map precinct_byte plan.precincts.items

-- the content of QCD: no quantisation
unfoldable pub qcd_content : ℕ → List ℕ
qcd_content levels = 0x40 ∷ replicate (3 * levels + 1) 0x48

-- the content of SOT: the one tile-part of the one tile
unfoldable pub sot_content : ℕ → List ℕ
sot_content psot = (0 ∷ 0 ∷ []) ++ (four_bytes psot ++ (0 ∷ 1 ∷ []))

-- the segments up to the extra ones
abbrev pub plan_segments : HeadPlan → List Segment
plan_segments plan =
    record { marker = SIZ; content = siz_content plan }
    ∷ record { marker = CAP; content = 0 ∷ 2 ∷ 0 ∷ 0 ∷ 0 ∷ 0 ∷ [] }
    ∷ record { marker = COD; content = cod_content plan }
    ∷ record { marker = QCD; content = qcd_content plan.levels }
    ∷ []

-- the header: SOC, SIZ, CAP, COD, QCD, the extra segments, SOT and SOD
abbrev pub plan_bytes : HeadPlan → List ℕ
plan_bytes plan =
    two_bytes SOC
    ++ (segments_bytes (plan_segments plan)
    ++ (plan.extra.items
    ++ (segment_bytes (record { marker = SOT; content = sot_content plan.psot })
    ++ two_bytes SOD)))

-- whole segments, none of them SOT
abbrev pub AreSegments : List ℕ → Type 0
AreSegments b = (segments : List Segment) × (b ≡ segments_bytes segments) × AllByRecursion (λ s. (s.marker ≢ SOT) × (stated_length s.content < 2 ^ 16)) segments

-- the bytes are a header
abbrev pub IsHeader : List ℕ → Type 0
IsHeader b = (h : Head) × SpellsHead h b
