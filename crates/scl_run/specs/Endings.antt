-- How a run ends: its status, and the line that is noted.
use Rattle.std.specs.Prelude.{◌≡◌, ℕ, Bool, true, false, List, [], ◌∷◌, ◌++◌, codes, decimal}
use Rattle.scl_outside.specs.Meaning.{Meaning}
use Rattle.scl_outside.specs.Events.{Noted}
use Rattle.scl_outside.specs.Steps.{Step}
use Rattle.scl_run.specs.Reasons.{reason_text}
use Rattle.scl_run.specs.declared.ending.Refusal.{Refusal}
use Rattle.scl_run.specs.declared.ending.Ending.{Ending}
use Rattle.scl_run.specs.declared.ending.Ending.TheVariants.{Done, ReadFault, WriteFault, WireFault, Refused, NoMemory}

-- The line for an input that is refused: the place and the reason.
abbrev pub refusal_line : Refusal → List ℕ
refusal_line r = codes "scl: refused at " ++ decimal r.at ++ codes ": " ++ reason_text r.reason ++ codes "\n"

-- The line for words outside the grammar.
abbrev pub words_line : List ℕ
words_line = codes "scl: words\n"

-- The status of the program for each way to end.
abbrev pub status_of : Ending → ℕ
status_of Done = 0
status_of ReadFault = 3
status_of WriteFault = 4
status_of WireFault = 5
status_of (Refused r) = 6
status_of NoMemory = 7

-- The line that is noted: none where the job was done.
abbrev pub line_of : Ending → List ℕ
line_of Done = []
line_of ReadFault = codes "scl: read fault\n"
line_of WriteFault = codes "scl: write fault\n"
line_of WireFault = codes "scl: wire fault\n"
line_of (Refused r) = refusal_line r
line_of NoMemory = codes "scl: memory\n"

-- Whether a read that failed ended the run.
abbrev pub is_read_fault : Ending → Bool
is_read_fault ReadFault = true
is_read_fault ending = false

-- Whether a write that failed ended the run.
abbrev pub is_write_fault : Ending → Bool
is_write_fault WriteFault = true
is_write_fault ending = false

-- Whether a call of the wire that failed ended the run.
abbrev pub is_wire_fault : Ending → Bool
is_wire_fault WireFault = true
is_wire_fault ending = false

-- The line is noted and nothing else is done; where it is empty, nothing at all.
abbrev pub Notes : List ℕ → Meaning → Meaning → Type 0
Notes [] s t = t ≡ s
Notes (c ∷ line) s t = Step s (Noted (c ∷ line)) t
