-- The main header in force, and its bytes.
use Rattle.std.specs.Prelude.{ℕ, List, Option, Some, None}
use Rattle.codestream_model.specs.Values.{Head}
use Rattle.codestream_model.specs.PacketOrder.{packet_order}
use Rattle.stream_model.specs.Decoder.{Current}

-- A main header in force without its bytes: the timestamp of its codestream, and its values.
pub record InForce : Type 0 where
  pub stamp : ℕ
  pub head : Head

-- The main header in force that has these bytes.
abbrev pub current_with : List ℕ → InForce → Current
current_with header c = record { stamp = c.stamp; head = c.head; header = header; order = packet_order c.head }

-- The same, where there is one.
abbrev pub current_at : List ℕ → Option InForce → Option Current
current_at header None = None
current_at header (Some c) = Some (current_with header c)
