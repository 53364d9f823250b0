-- Which precincts of a stream a receiver can give: those that an unbroken run of datagrams in time reaches.
use Rattle.std.specs.Prelude.{◌+◌, ◌-◌, ◌&&◌, ℕ, Bool, List, map, nat_le, nat_lt}
use Rattle.std.specs.List.{filter, flat_map, list_any, list_all, range_with_len, enumerate_from}
use Rattle.stream_model.specs.Arrivals.{in_time, base}

-- Where a packet is in a stream: the datagrams of its first and of its last byte.
pub record CarriedPacket : Type 0 where
  pub first : ℕ
  pub last : ℕ

-- A resync point: the datagram in which it is, and the number of its precinct in the packet order.
pub record ResyncPoint : Type 0 where
  pub at : ℕ
  pub precinct : ℕ

-- How a codestream lies in a stream: its stamp, the position of its Main, where its packets are, in the packet order,
-- and its resync points, of which the Main is one, of the first precinct.
pub record Carried : Type 0 where
  pub stamp : ℕ
  pub main : ℕ
  pub packets : List CarriedPacket
  pub resyncs : List ResyncPoint

-- A precinct of a stream: the stamp of its codestream, and its number in the packet order.
pub record StreamPrecinct : Type 0 where
  pub stamp : ℕ
  pub precinct : ℕ

-- Whether each position from one to another is in time.
abbrev pub run_in_time : List ℕ → ℕ → ℕ → ℕ → Bool
run_in_time events window from last = list_all (λ i. in_time events i window) (range_with_len from (last + 1 - from))

-- Whether a precinct is reached: the Main of its codestream is in time, and so is each datagram from that of a resync
-- point of a precinct at or before it to the last that has a byte of its packet.
abbrev pub is_reached : List ℕ → ℕ → Carried → ℕ → CarriedPacket → Bool
is_reached events window c precinct packet =
    in_time events c.main window
    && list_any (λ r. nat_le r.precinct precinct && run_in_time events window r.at packet.last) c.resyncs

-- Whether a precinct is due: it is reached, and the base has passed its last datagram.
abbrev pub is_due : List ℕ → ℕ → Carried → ℕ → CarriedPacket → Bool
is_due events window c precinct packet = is_reached events window c precinct packet && nat_lt packet.last (base events window)

-- The precincts of a codestream, in the packet order, that pass a test of their number and of where their packet is.
abbrev pub precincts_by : (ℕ → CarriedPacket → Bool) → Carried → List StreamPrecinct
precincts_by test c = map (λ p. record { stamp = c.stamp; precinct = p.0 }) (filter (λ p. test p.0 p.1) (enumerate_from 0 c.packets))

-- The precincts that are due, by codestream and then in the packet order.
abbrev pub due : List ℕ → ℕ → List Carried → List StreamPrecinct
due events window stream = flat_map (λ c. precincts_by (is_due events window c) c) stream

-- The precincts that are due at the end: all that are reached.
abbrev pub due_at_end : List ℕ → ℕ → List Carried → List StreamPrecinct
due_at_end events window stream = flat_map (λ c. precincts_by (is_reached events window c) c) stream
