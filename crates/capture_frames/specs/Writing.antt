-- What writing a frame does, by the answer.
use Rattle.std.specs.Prelude.{ℕ, List}
use Rattle.wire_model.specs.Framing.{frame}
use Rattle.scl_outside.specs.Meaning.{Meaning}
use Rattle.scl_outside.specs.Events.{Event}
use Rattle.scl_outside.specs.Writing.{Puts}
use Rattle.scl_outside.specs.declared.duct.PutOut.{PutOut}

-- One frame is put out, whole or a prefix of it; nothing is read.
abbrev pub WritesFrame : Meaning → Meaning → PutOut → List ℕ → List Event → Type 0
WritesFrame s t result bytes es = Puts (frame bytes) s t result es
