-- What a command is to do.
use Rattle.std.specs.Prelude.{◌≡◌, ℕ, Bool, List, []}
use Rattle.wire_model.specs.Receptions.{Reception}
use Rattle.scl_outside.specs.Meaning.{Reply, Parcel}
use Rattle.scl_outside.specs.Events.{WireEvent}
use Rattle.scl_outside.specs.Effects.{Effects, receptions, answers}
use Rattle.scl_run.specs.InputClass.{InputClass, no_input}

-- What came in: the bytes that were read, the answers to the calls for a datagram, and the answers of the links.
pub record Seen : Type 0 where
  pub read : List ℕ
  pub received : List Reception
  pub answers : List Reply

-- What came in by these bytes and these calls of the wire.
abbrev pub seen : List ℕ → List WireEvent → Seen
seen read wire = record { read = read; received = receptions wire; answers = answers wire }

-- When a run may end because it is out of memory: never; before it asks for input; before it writes.
pub data Memory : Type 0 where
  Never : Memory
  BeforeInput : Memory
  BeforeOutput : Memory

-- What a command is to do, in words that no command's code shares.
pub record Job : Type 1 where
  -- The class of inputs that it reads.
  pub inputs : InputClass
  -- What it has written once this came in, before the end of the input or at it.
  pub made : Seen → Bool → List ℕ
  -- The datagrams that it has sent once this came in.
  pub Sends : Seen → List Parcel → Type 0
  -- Once this was done, a further byte or datagram may be asked for.
  pub Asks : Effects → Type 0
  -- What it may do on the wire.
  pub Wires : List WireEvent → Type 0
  -- What was done on the wire once the job is done to its end.
  pub Closes : List WireEvent → Type 0
  -- When it may end because it is out of memory.
  pub memory : Memory

-- A job that only reads and writes, and reads on while its class of inputs says so.
abbrev pub plain : InputClass → (List ℕ → Bool → List ℕ) → Memory → Job
plain inputs made memory = record {
  inputs = inputs;
  made = λ x ended. made x.read ended;
  Sends = λ x parcels. parcels ≡ [];
  Asks = λ f. inputs.Wants f.read;
  Wires = λ wire. wire ≡ [];
  Closes = λ wire. Unit {0};
  memory = memory;
}

-- A job that reads nothing and writes this text; it may be out of memory before it writes.
abbrev pub writing : List ℕ → Job
writing text = plain no_input (λ read ended. text) BeforeInput
