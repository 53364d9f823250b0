-- A main header as the first item of a codestream: what refuses the bytes there, and when they end inside it.
use Rattle.std.specs.Prelude.{◌≢◌, ℕ, List}
use Rattle.codestream_model.specs.HeadRefusals.{Cut as HeadCut}
use Rattle.codestream_model.specs.RefusedHeader.{RefusesHead}
use Rattle.codestream_model.specs.Codestream.{WalkRefusal, HeadRefused}

-- The bytes aren't a main header, for this reason and at this place of them.
abbrev pub RefusesHeadItem : List ℕ → ℕ → WalkRefusal → Type 0
RefusesHeadItem bytes at (HeadRefused why) = RefusesHead bytes at why × (why ≢ HeadCut)
RefusesHeadItem bytes at why = ⊥

-- The bytes end inside a main header, or there are none.
abbrev pub NeedsHeadBytes : List ℕ → Type 0
NeedsHeadBytes bytes = (at : ℕ) × RefusesHead bytes at HeadCut
