-- What `thin`, `parse` and `report` have written once they have read bytes.
use Rattle.std.specs.Prelude.{◌+◌, ◌-◌, ◌%◌, ◌^◌, ◌==◌, ◌&&◌, ◌||◌, ◌++◌, ℕ, zero, suc, Bool, true, false, List, [], ◌∷◌, length, min, take, drop, slice_index, nat_le, Result, Ok, Err, if◌then◌else◌}
use Rattle.codestream_model.specs.Values.{Head, Place}
use Rattle.codestream_model.specs.MainHeaderReading.{head_of, Refused}
use Rattle.codestream_model.specs.PacketOrder.{pid, packet_order}
use Rattle.wire_model.specs.Framing.{framing, whole_frames}
use Rattle.wire_model.specs.Thinning.{kept}
use Rattle.stream_model.specs.Report.{Precinct, lines, end_line}
use Rattle.stream_model.specs.Decoder.{Release, precincts_released, found_packet, Whole, Part, Other}
use Rattle.stream_model.specs.Receiver.{Pick, Receiver, received, flushed, counts_of}

-- At most 1,099,511,627,776 bytes of an input count.
abbrev pub counted : List ℕ → List ℕ
counted read = take 1099511627776 read

-- The packets at the start of the bytes of a codestream after its main header, as precincts with this stamp; where all
-- of them are there and then EOC, as Psot has it, the bytes after that.
pub record Walked : Type 0 where
  pub precincts : List Precinct
  pub whole : Bool
  pub rest : List ℕ

-- The packets end here: what follows is no packet, or less than one.
abbrev pub stopped : List ℕ → Walked
stopped rest = record { precincts = []; whole = false; rest = rest }

-- EOC is at this offset of a codestream.
abbrev pub is_end : Head → ℕ → List ℕ → Bool
is_end h at bytes = ((h.psot == 0) || (h.psot == at - h.sot)) && nat_le 2 (length bytes) && (slice_index bytes 0 == 255) && (slice_index bytes 1 == 217)

-- After the last precinct: the codestream ends where EOC is, and else there is nothing more of it.
abbrev pub walked_end : Head → ℕ → List ℕ → Walked
walked_end h at bytes = if is_end h at bytes then record { precincts = []; whole = true; rest = drop 2 bytes } else stopped bytes

-- A precinct put before those that follow it.
abbrev pub with_precinct : Precinct → Walked → Walked
with_precinct x w = record w { precincts = x ∷ w.precincts }

-- The packets of the precincts that are still to come, from an offset on.
unfoldable pub walk : Head → ℕ → ℕ → List Place → List ℕ → Walked
walk h stamp at [] bytes = walked_end h at bytes
walk h stamp at (p ∷ places) bytes = elim (found_packet h p bytes) [
  | Whole blocks header size ↦ with_precinct
      (record { stamp = stamp; pid = pid h p; place = p; blocks = blocks; bytes = take (size - header) (drop header bytes) })
      (walk h stamp (at + size) places (drop size bytes))
  | Part ↦ stopped bytes
  | Other ↦ stopped bytes
]

-- The packets of a codestream whose main header is read as this, and none where it is refused.
abbrev pub walk_behind : Result Head Refused → ℕ → List ℕ → Walked
walk_behind (Err why) stamp bytes = stopped bytes
walk_behind (Ok h) stamp bytes = walk h stamp h.length (packet_order h) (drop h.length bytes)

-- The precincts of at most n codestreams one after another, up to the first fault; the i-th has the stamp `stamp` + i ×
-- `step`; the law `ParseWritesWholePackets` says which these are.
unfoldable pub parsed : ℕ → ℕ → ℕ → List ℕ → List Precinct
parsed zero stamp step bytes = []
parsed (suc n) stamp step [] = []
parsed (suc n) stamp step (b ∷ bytes) =
    (walk_behind (head_of (b ∷ bytes)) stamp (b ∷ bytes)).precincts
    ++ (if (walk_behind (head_of (b ∷ bytes)) stamp (b ∷ bytes)).whole then parsed n ((stamp + step) % 2 ^ 32) step (walk_behind (head_of (b ∷ bytes)) stamp (b ∷ bytes)).rest else [])

-- The lines of the precincts of packets that are released.
abbrev pub release_lines : List Release → List ℕ
release_lines xs = lines (precincts_released xs)

-- What a receiver of a capture writes: the precincts that the rules give, and at the end those that were still held,
-- and the counts.
abbrev pub reported : Receiver → Bool → List ℕ
reported r false = release_lines r.releases
reported r true = release_lines (flushed r).releases ++ end_line (counts_of (flushed r))

-- What `thin` has written of a capture of which these bytes were read: the frames that it keeps, unchanged and in order.
abbrev pub thin_output : ℕ → List ℕ → List ℕ
thin_output limit read = framing (kept limit (whole_frames (counted read)))

-- What `parse` has written of codestreams of which these bytes were read: the lines of the whole packets, up to the first fault.
abbrev pub parse_lines : ℕ → ℕ → List ℕ → List ℕ
parse_lines stamp step read = lines (parsed (min 65536 (length read)) stamp step (counted read))

-- What `report` has written of a capture of which these bytes were read, before its end or at it.
abbrev pub report_lines : Pick → List ℕ → Bool → List ℕ
report_lines pick read ended = reported (received pick (whole_frames (counted read))) ended
