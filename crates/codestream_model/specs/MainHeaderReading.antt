-- The main header read by computing. The laws of `MainHeaderLaws` say that it is what `SpellsHead` and `RefusesHead` say.
use Rattle.std.specs.Prelude.{◌+◌, ◌==◌, ℕ, zero, suc, true, false, List, [], ◌∷◌, ◌++◌, length, drop, None, Some, Result, Ok, Err}
use Rattle.codestream_model.specs.Values.{Head}
use Rattle.codestream_model.specs.Bytes.{two_at}
use Rattle.codestream_model.specs.Segments.{SOT, SOD, Segment, segments_bytes, segment_at, behind_segment}
use Rattle.codestream_model.specs.HeadRefusals.{HeadRefusal, first_refusal}
use Rattle.codestream_model.specs.SegmentTests.{head_values}
use Rattle.codestream_model.specs.RefusedHeader.{in_reach, wanting, place_of, soc_tests, refusal_next, refusal_behind}

-- Where a header is refused, and why.
pub record Refused : Type 0 where
  pub at : ℕ
  pub why : HeadRefusal

-- The refusal after these sound segments.
abbrev pub refused : List ℕ → List Segment → HeadRefusal → Result Head Refused
refused b before why = Err (record { at = place_of b before why; why = why })

-- The header of these segments, with SOD after them.
abbrev pub whole_head : List Segment → Segment → List Segment → Result Head Refused
whole_head main tile skipped = Ok (head_values main tile.content (2 + length (segments_bytes (main ++ tile ∷ skipped)) + 2))

-- `read_tile n ..` reads what follows SOT, in at most n segments.
unfoldable pub read_tile : ℕ → List ℕ → List Segment → Segment → List Segment → List ℕ → Result Head Refused
read_tile zero b main tile skipped rest = refused b (main ++ tile ∷ skipped) (wanting b)
read_tile (suc n) b main tile skipped rest = elim (refusal_behind b rest) [
  | Some why ↦ refused b (main ++ tile ∷ skipped) why
  | None ↦ elim (two_at rest 0 == SOD) [
    | true ↦ whole_head main tile skipped
    | false ↦ read_tile n b main tile (skipped ++ segment_at rest ∷ []) (behind_segment rest)
  ]
]

-- `read_main n ..` reads what follows SOC, in at most n segments.
unfoldable pub read_main : ℕ → List ℕ → List Segment → List ℕ → Result Head Refused
read_main zero b before rest = refused b before (wanting b)
read_main (suc n) b before rest = elim (refusal_next b before rest) [
  | Some why ↦ refused b before why
  | None ↦ elim (two_at rest 0 == SOT) [
    | true ↦ read_tile n b before (segment_at rest) [] (behind_segment rest)
    | false ↦ read_main n b (before ++ segment_at rest ∷ []) (behind_segment rest)
  ]
]

-- The header at the start of the bytes, or why there is none; there are fewer segments than bytes.
unfoldable pub head_of : List ℕ → Result Head Refused
head_of b = elim (first_refusal (soc_tests b)) [
  | Some why ↦ refused b [] why
  | None ↦ read_main (length b) b [] (drop 2 (in_reach b))
]
