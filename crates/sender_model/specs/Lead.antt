-- How far a sender may have read ahead of the datagrams that it has given.
use Rattle.std.specs.Prelude.{◌<◌, ◌⊎◌, ◌+◌, ◌-◌, ℕ, List, length}
use Rattle.std.specs.List.{sum_by}
use Rattle.codestream_model.specs.Bytes.{IsBytes}
use Rattle.codestream_model.specs.Codestream.{Cut, Faults, IsInput}
use Rattle.stream_model.specs.Commands.{counted}
use Rattle.stream_model.specs.Cut.{Plan, IsPlan, room}
use Rattle.sender_model.specs.Closing.{closed}
use Rattle.sender_model.specs.Refusals.{HasNoLongHeader, HasFewDatagrams}

-- The number of codestream bytes in datagrams: each follows 12 bytes of RTP and 8 of the payload
-- header.
abbrev pub carried_bytes : List (List ℕ) → ℕ
carried_bytes datagrams = sum_by (λ d. length d - 20) datagrams

-- Bytes leave open what becomes of an input: they are whole codestreams, or end inside one, and a
-- sender refuses nothing of them.
pub record LeavesOpen (p : Plan) (read : List ℕ) : Type 0 where
  pub unfinished :
      ((codestreams : List (List ℕ)) × IsInput read codestreams) ⊎ Faults read (length read) Cut
  pub fit : HasNoLongHeader p (counted read)
  pub few : HasFewDatagrams p (counted read)

-- A sender that reads on only where the bytes leave it open is ahead of its datagrams by less than
-- a payload and the greatest packet header with its EPH.
abbrev pub ReadsLittleAhead : Type 0
ReadsLittleAhead =
    (p : Plan) (read : List ℕ) → IsPlan p → IsBytes read → LeavesOpen p read
    → length read < carried_bytes (closed p (counted read)) + room p + 65537
