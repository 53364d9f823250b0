-- What gathering text on a page does.
use Rattle.std.specs.Prelude.{◌≡◌, ◌≤◌, ◌+◌, ◌++◌, ℕ, List, length}
use Rattle.scl_outside.specs.Meaning.{Meaning}
use Rattle.scl_outside.specs.Events.{Event}
use Rattle.scl_outside.specs.Writing.{Puts}
use Rattle.scl_outside.specs.declared.duct.PutOut.{PutOut}
use Rattle.scl_outside.specs.declared.duct.PutOut.TheVariants.{Done, WriteFault}

-- All of the text behind that of a page was written or is on the page now; or a write of it failed.
abbrev pub GatherGives : List ℕ → Meaning → Meaning → List ℕ → List ℕ → PutOut → List Event → Type 0
GatherGives more s t before after Done es = (out : List ℕ) × Puts out s t Done es × (before ++ more ≡ out ++ after)
GatherGives more s t before after WriteFault es = Puts (before ++ more) s t WriteFault es

-- These bytes came behind the text of a page: what these calls wrote, and then the text that the page has now, is all of it; or
-- a write of it failed.
pub record Gathers (more : List ℕ) (s t : Meaning) (before after : List ℕ) (result : PutOut) (es : List Event) : Type 0 where
  pub gives : GatherGives more s t before after result es

-- Where no write failed, this number of bytes more fits the page.
abbrev pub HasRoomAfter : ℕ → List ℕ → PutOut → Type 0
HasRoomAfter bytes text Done = length text + bytes ≤ 4096
HasRoomAfter bytes text WriteFault = Unit {0}
