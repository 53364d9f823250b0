-- A read of an object in memory.
use Rattle.std.proofs.Common.{refl, ◌≡◌, ◌+◌, ℕ, List, [], ◌∷◌, ◌++◌, true, false, Option, Some, None, length, nat_le, if◌then◌else◌}
use Rattle.wire_model.specs.Causes.{Grew}
use Rattle.scl_outside.specs.Meaning.{Meaning}
use Rattle.scl_outside.specs.Steps.{IsMarkOf, Marks}
use Rattle.scl_outside.specs.Record.{with_room}
use Rattle.scl_outside.specs.declared.duct.Mark.{Mark}

-- a record tells what it told, with more, or nothing
pub grew_room : {A : Type 0} (room : ℕ) (before : Option (List A)) (more : List A) → Grew before (with_room room before more) more
grew_room room None more = tt
grew_room {A} room (Some was) more = elim (nat_le (length was + length more) room) as (λ b. Grew (Some was) (if b then Some (was ++ more) else None) more) [ true ↦ refl | false ↦ tt ]

-- a mark is added, or the marks are told no more
pub marked : (s : Meaning) (m : Mark) (room : ℕ) → IsMarkOf s m → (now : Option (List Mark)) → now ≡ with_room room s.marks (m ∷ []) → Marks true s now
marked s m room is None e = tt
marked s m room is (Some marks) e = (m, is, rw e (grew_room room s.marks (m ∷ [])))
