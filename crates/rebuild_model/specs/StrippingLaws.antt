-- What is promised of stripped main headers.
use Rattle.std.specs.Prelude.{◌≤◌, ℕ, List, length}
use Rattle.codestream_model.specs.Values.{Head}
use Rattle.codestream_model.specs.MainHeader.{SpellsHead}
use Rattle.rebuild_model.specs.Stripping.{stripped}

-- The values of a stripped header: Psot is 0, and SOT and the end of the header are where they are now.
abbrev pub stripped_values : Head → ℕ → List ℕ → Head
stripped_values h sot header = record h { psot = 0; sot = sot; length = length (stripped header) }

-- A stripped main header is a main header with the same values, but for Psot, the offset of SOT and the length. It is no longer
-- than it was.
abbrev pub StrippedIsHead : Type 0
StrippedIsHead =
    (h : Head) (header : List ℕ) → SpellsHead h header
    → (sot : ℕ) × SpellsHead (stripped_values h sot header) (stripped header) × (length (stripped header) ≤ length header)
