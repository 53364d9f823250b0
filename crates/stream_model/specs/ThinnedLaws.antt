-- Laws of a cut that is thinned on its way.
use Rattle.std.specs.Prelude.{◌≡◌, ◌<◌, ◌≤◌, ◌⊎◌, ◌+◌, ◌^◌, ◌++◌, ℕ, true, List, map, length, slice_get, Some, None}
use Rattle.std.specs.List.{AllByRecursion, AllZip, Contains, filter, flat_map, range_with_len}
use Rattle.wire_model.specs.Thinning.{is_kept, kept}
use Rattle.codestream_model.specs.Bytes.{IsBytes}
use Rattle.codestream_model.specs.Values.{Place}
use Rattle.wire_model.specs.Framing.{framing, whole_frames}
use Rattle.stream_model.specs.Arrivals.{datagram_at, in_time}
use Rattle.stream_model.specs.Stream.{Parts, Sent, ArePartsOf, datagrams_of, packet_span, carried_at, main_position, carried}
use Rattle.stream_model.specs.Reached.{ResyncPoint, is_reached, due_at_end}
use Rattle.stream_model.specs.Cut.{Plan, IsPlan, room, sent_by, datagram_bytes}
use Rattle.stream_model.specs.Report.{Precinct, Counts, lines, end_line}
use Rattle.stream_model.specs.Decoder.{precincts_released}
use Rattle.stream_model.specs.Receiver.{Pick, received, flushed}
use Rattle.stream_model.specs.EndCounts.{end_counts}
use Rattle.stream_model.specs.Commands.{counted, thin_output, report_lines}
use Rattle.stream_model.specs.RunLaws.{precincts_in, reached_in}

-- The positions of the datagrams that thinning keeps, in order.
abbrev pub kept_positions : ℕ → List (List ℕ) → List ℕ
kept_positions limit datagrams = filter (λ i. is_kept limit (datagram_at datagrams i)) (range_with_len 0 (length datagrams))

-- Where exactly the kept positions arrive, in order, exactly these are in time, whatever the window.
abbrev pub KeptIsInTime : Type 0
KeptIsInTime =
    (limit window : ℕ) (datagrams : List (List ℕ)) (i : ℕ) → 1 ≤ window
    → in_time (kept_positions limit datagrams) i window ≡ is_kept limit (datagram_at datagrams i)

-- Codestreams, with their parts, that can be sent by a plan.
pub record CanBeSent (p : Plan) (parts : List Parts) (codestreams : List (List ℕ)) : Type 0 where
  pub plan : IsPlan p
  pub are_parts : AllZip (λ c codestream. ArePartsOf c codestream) parts codestreams
  pub bytes : AllByRecursion IsBytes codestreams
  pub fit : AllByRecursion (λ c. length c.header ≤ room p) parts
  pub few : length codestreams ≤ 65536
  pub short : length (flat_map datagrams_of (sent_by p parts)) < 2 ^ 23

-- The datagrams of the cut of these codestreams.
abbrev pub cut_of : Plan → List Parts → List (List ℕ)
cut_of p parts = map datagram_bytes (flat_map datagrams_of (sent_by p parts))

-- The Main of each codestream of a cut is kept, and each datagram that has a byte of the packet of a precinct whose resolution is left.
abbrev pub ThinnedKeepsBytes : Type 0
ThinnedKeepsBytes =
    (p : Plan) (parts : List Parts) (codestreams : List (List ℕ)) (limit codestream : ℕ) (s : Sent) → CanBeSent p parts codestreams → slice_get (sent_by p parts) codestream ≡ Some s
    → (is_kept limit (datagram_at (cut_of p parts) (main_position (sent_by p parts) codestream)) ≡ true)
    × ((precinct i : ℕ) (place : Place) → slice_get s.parts.places precinct ≡ Some place → place.r + 7 ≤ s.parts.head.levels + limit
    → (packet_span s (main_position (sent_by p parts) codestream) precinct).first ≤ i → i ≤ (packet_span s (main_position (sent_by p parts) codestream) precinct).last
    → is_kept limit (datagram_at (cut_of p parts) i) ≡ true)

-- The datagram of a cut in which a packet starts has a resync point of a precinct at or before the packet's.
abbrev pub StartsHaveResyncs : Type 0
StartsHaveResyncs =
    (p : Plan) (parts : List Parts) (codestreams : List (List ℕ)) (codestream precinct main : ℕ) (s : Sent) → CanBeSent p parts codestreams → slice_get (sent_by p parts) codestream ≡ Some s
    → precinct < length s.parts.packets
    → (r : ResyncPoint) × Contains (carried_at main s).resyncs r × (r.at ≡ (packet_span s main precinct).first) × (r.precinct ≤ precinct)

-- Where only what thinning keeps of a cut arrives, in order, each precinct of a resolution whose code is within the limit is reached.
abbrev pub ThinnedIsReached : Type 0
ThinnedIsReached =
    (p : Plan) (parts : List Parts) (codestreams : List (List ℕ)) (limit window codestream precinct : ℕ) (s : Sent) (place : Place)
    → CanBeSent p parts codestreams → 1 ≤ window
    → slice_get (sent_by p parts) codestream ≡ Some s → slice_get s.parts.places precinct ≡ Some place → place.r + 7 ≤ s.parts.head.levels + limit
    → is_reached (kept_positions limit (cut_of p parts)) window (carried_at (main_position (sent_by p parts) codestream) s) precinct (packet_span s (main_position (sent_by p parts) codestream) precinct) ≡ true

-- Such a precinct is due at the end.
abbrev pub ThinnedIsDue : Type 0
ThinnedIsDue =
    (p : Plan) (parts : List Parts) (codestreams : List (List ℕ)) (limit window codestream precinct : ℕ) (s : Sent) (place : Place)
    → CanBeSent p parts codestreams → 1 ≤ window
    → slice_get (sent_by p parts) codestream ≡ Some s → slice_get s.parts.places precinct ≡ Some place → place.r + 7 ≤ s.parts.head.levels + limit
    → Contains (due_at_end (kept_positions limit (cut_of p parts)) window (carried (sent_by p parts))) (record { stamp = s.stamp; precinct = precinct })

-- A receiver picks the datagrams of a plan: by its payload type, and by its source or by any.
pub record Picks (p : Plan) (pick : Pick) : Type 0 where
  pub window : 1 ≤ pick.window
  pub kind : pick.kind ≡ p.kind
  pub source : (pick.source ≡ None) ⊎ (pick.source ≡ Some p.source)

-- The precincts that are reached through what thinning keeps of a cut, by codestream and then in packet order.
abbrev pub reached_through : Plan → List Parts → ℕ → ℕ → List Precinct
reached_through p parts limit window = reached_in (λ i. in_time (kept_positions limit (cut_of p parts)) i window) (sent_by p parts)

-- Each precinct of a resolution that the limit leaves is reached.
abbrev pub ReachedHasLeft : Type 0
ReachedHasLeft =
    (p : Plan) (parts : List Parts) (codestreams : List (List ℕ)) (limit window codestream : ℕ) (s : Sent) (x : Precinct)
    → CanBeSent p parts codestreams → 1 ≤ window → slice_get (sent_by p parts) codestream ≡ Some s
    → Contains (precincts_in s) x → x.place.r + 7 ≤ s.parts.head.levels + limit → Contains (reached_through p parts limit window) x

-- The rules give of the thinned cut exactly what is reached.
abbrev pub ThinnedGives : Type 0
ThinnedGives =
    (p : Plan) (parts : List Parts) (codestreams : List (List ℕ)) (limit : ℕ) (pick : Pick)
    → CanBeSent p parts codestreams → Picks p pick
    → precincts_released (flushed (received pick (kept limit (cut_of p parts)))).releases ≡ reached_through p parts limit pick.window

-- The counts where `n` frames are kept and nothing else is counted.
abbrev pub all_kept : ℕ → Counts
all_kept n = record { kept = n; old = 0; refused = 0; unsupported = 0; disagreed = 0; broken = 0 }

-- What thinning keeps of datagrams, arriving in order, is counted as kept and as nothing else.
abbrev pub ThinnedIsCounted : Type 0
ThinnedIsCounted =
    (limit window : ℕ) (datagrams : List (List ℕ)) → 1 ≤ window
    → end_counts (kept limit datagrams) (kept_positions limit datagrams) window ≡ all_kept (length (kept limit datagrams))

-- A report of a capture of the thinned cut writes exactly the lines of what is reached, and counts every frame as kept.
abbrev pub ThinnedIsReported : Type 0
ThinnedIsReported =
    (p : Plan) (parts : List Parts) (codestreams : List (List ℕ)) (limit : ℕ) (pick : Pick) (read : List ℕ)
    → CanBeSent p parts codestreams → Picks p pick → whole_frames (counted read) ≡ kept limit (cut_of p parts)
    → report_lines pick read true ≡ lines (reached_through p parts limit pick.window) ++ end_line (all_kept (length (kept limit (cut_of p parts))))

-- A report of what `thin` has written of a capture of the cut writes the same.
abbrev pub ThinnedThenReported : Type 0
ThinnedThenReported =
    (p : Plan) (parts : List Parts) (codestreams : List (List ℕ)) (limit : ℕ) (pick : Pick)
    → CanBeSent p parts codestreams → Picks p pick
    → report_lines pick (thin_output limit (framing (cut_of p parts))) true
    ≡ lines (reached_through p parts limit pick.window) ++ end_line (all_kept (length (kept limit (cut_of p parts))))
