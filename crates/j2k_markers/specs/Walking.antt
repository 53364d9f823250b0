-- How far the walk has come: what is read of all the bytes is what is read of those that are left.
use Rattle.std.specs.Prelude.{◌≡◌, ◌≤◌, ◌+◌, ◌++◌, ◌∷◌, ℕ, List, length, min}
use Rattle.codestream_model.specs.Segments.{SIZ, COD, Segment, segments_bytes, content_of}
use Rattle.codestream_model.specs.MainHeaderReading.{read_tile, read_main, head_of}
use Rattle.j2k_markers.specs.declared.segments.Before.{Before}
use Rattle.j2k_markers.specs.Before.{IsKept, IsSoundBefore}
use Rattle.j2k_markers.specs.Sound.{IsSoundSiz, IsSoundCod}

-- up to SOT, after these segments
pub record ReadsMain (b : List ℕ) (w : Before) (rest : List ℕ) : Type 0 where
  pub before : List Segment
  pub left : ℕ
  pub kept : IsKept w before
  pub sound : IsSoundBefore w
  pub read : head_of b ≡ read_main left b before rest
  pub room : length rest ≤ left
  pub place : w.at + length rest ≡ min 8192 (length b)
  pub qcd_at : w.qcd_at ≤ 8192

-- after SOT with this content at this place, and segments that are passed over
pub record ReadsTile (b : List ℕ) (w : Before) (tile : List ℕ) (sot : ℕ) (rest : List ℕ) : Type 0 where
  pub main : List Segment
  pub first : Segment
  pub skipped : List Segment
  pub left : ℕ
  pub kept : IsKept w (main ++ first ∷ skipped)
  pub siz : w.siz.now ≡ content_of SIZ main
  pub cod : w.cod.now ≡ content_of COD main
  pub tile_is : tile ≡ first.content
  pub sot_is : sot ≡ 2 + length (segments_bytes main)
  pub eight : length tile ≡ 8
  pub sot_fits : sot ≤ 8192
  pub sound_siz : IsSoundSiz w.siz.now
  pub sound_cod : IsSoundCod w.cod.now
  pub read : head_of b ≡ read_tile left b main first skipped rest
  pub room : length rest ≤ left
  pub place : w.at + length rest ≡ min 8192 (length b)
  pub qcd_at : w.qcd_at ≤ 8192
