-- What a sender put in of a codestream: its packets, the payloads that they close, and the payload that is open.
use Rattle.std.specs.Prelude.{◌≡◌, ◌<◌, ◌≤◌, ◌+◌, ◌-◌, ◌&&◌, ◌++◌, ℕ, min, true, false, List, [], ◌∷◌, map, length, Option, Some, None, nat_le, nat_lt, if◌then◌else◌}
use Rattle.std.specs.List.{AllByRecursion, flat_map, fold, sum_by}
use Rattle.codestream_model.specs.Values.{Head, Place}
use Rattle.codestream_model.specs.PacketOrder.{pid}
use Rattle.codestream_model.specs.Codestream.{joined}
use Rattle.stream_model.specs.Cut.{Plan, Piece, Known, room, stretches, chunks, payloads}
use Rattle.packetiser.specs.Filling.{Filling}

-- The number of bytes of packets.
abbrev pub total : List Piece → ℕ
total pieces = sum_by (λ x. length x.bytes) pieces

-- The packets that have a byte and start at or after the offset `from`, each with its own offset; the first packet is
-- at the offset `at`.
abbrev pub marks : ℕ → ℕ → List Piece → List (ℕ × Place)
marks at from [] = []
marks at from (x ∷ xs) =
    if nat_le from at && nat_le 1 (length x.bytes)
    then (at, x.place) ∷ marks (at + length x.bytes) from xs
    else marks (at + length x.bytes) from xs

-- The packets that have a byte after the offset `from`; the first packet is at the offset `at`.
abbrev pub reaching : ℕ → ℕ → List Piece → List Place
reaching at from [] = []
reaching at from (x ∷ xs) =
    if nat_le 1 (length x.bytes) && nat_lt from (at + length x.bytes)
    then x.place ∷ reaching (at + length x.bytes) from xs
    else reaching (at + length x.bytes) from xs

-- The mark of a payload at the offset `from` in which these packets start.
abbrev pub first_mark : Head → ℕ → List (ℕ × Place) → Option (ℕ × ℕ)
first_mark h from [] = None
first_mark h from (m ∷ ms) = Some (m.0 - from, pid h m.1)

-- The lowest resolution of precincts.
abbrev pub lowest_of : List Place → Option ℕ
lowest_of [] = None
lowest_of (q ∷ qs) = Some (fold min q.r (map (λ x. x.r) qs))

-- Each payload is full.
abbrev pub AreFull : ℕ → List (List ℕ) → Type 0
AreFull room full = AllByRecursion (λ b. length b ≡ room) full

-- The last of the stretches isn't over: `done` are the payloads that are closed, and `open_` are the bytes after them.
pub record IsOpen (room : ℕ) (ss done : List (List ℕ)) (open_ : List ℕ) : Type 0 where
  pub before : List (List ℕ)
  pub full : List (List ℕ)
  pub are : ss ≡ before ++ (joined full ++ open_) ∷ []
  pub are_full : AreFull room full
  pub short : length open_ < room
  pub is_done : done ≡ flat_map (chunks room) before ++ full

-- A codestream of which these packets are there, but not EOC.
abbrev pub part : Head → List ℕ → List Piece → Known
part h header pieces = record { head = h; header = header; pieces = pieces; ended = false }

-- A codestream of these packets, with EOC.
abbrev pub whole : Head → List ℕ → List Piece → Known
whole h header pieces = record { head = h; header = header; pieces = pieces; ended = true }

-- The number of bytes of payloads.
abbrev pub bytes_in : List (List ℕ) → ℕ
bytes_in payloads = sum_by (λ b. length b) payloads

-- A packet with more bytes.
abbrev pub longer : Piece → List ℕ → Piece
longer x bytes = record { place = x.place; bytes = x.bytes ++ bytes }

-- A packet of which no byte is there.
abbrev pub unbegun : Place → Piece
unbegun q = record { place = q; bytes = [] }

-- The packets `front` and then `x` were put in, and this is the payload that they leave open. All but the last have a
-- byte.
pub record Fills (p : Plan) (h : Head) (header : List ℕ) (front : List Piece) (x : Piece) (f : Filling) : Type 0 where
  pub each : AllByRecursion (λ y. 1 ≤ length y.bytes) front
  pub is_open :
      IsOpen (room p) (stretches p.split (front ++ x ∷ []))
      (payloads p (part h header (front ++ x ∷ []))) f.payload
  pub size :
      bytes_in (payloads p (part h header (front ++ x ∷ []))) + length f.payload
      ≡ total (front ++ x ∷ [])
  pub mark :
      f.mark
      ≡ first_mark h (bytes_in (payloads p (part h header (front ++ x ∷ []))))
      (marks 0 (bytes_in (payloads p (part h header (front ++ x ∷ [])))) (front ++ x ∷ []))
  pub lowest :
      f.lowest
      ≡ lowest_of (reaching 0 (bytes_in (payloads p (part h header (front ++ x ∷ []))))
      (front ++ x ∷ []))

-- The next bytes are the first of a packet, whose PID is given; or none is given, and they aren't.
abbrev pub IsFresh : Option ℕ → Head → Piece → Type 0
IsFresh (Some id) h x = (x.bytes ≡ []) × (id ≡ pid h x.place)
IsFresh None h x = 1 ≤ length x.bytes
