-- What is promised of a receiver's rules where the frames are datagrams of a stream.
use Rattle.std.specs.Prelude.{◌≡◌, ◌≤◌, ◌⊎◌, ◌+◌, ◌%◌, ◌^◌, ◌==◌, ◌&&◌, List, [], ◌∷◌, ℕ, length, take, nat_lt, Option, Some, None, if◌then◌else◌}
use Rattle.std.specs.List.{AllByRecursion, flat_map}
use Rattle.stream_model.specs.Stream.{Sent, Carry, carried, datagrams_of}
use Rattle.stream_model.specs.Reached.{StreamPrecinct, due, due_at_end}
use Rattle.wire_model.specs.Datagram.{Datagram}
use Rattle.stream_model.specs.Report.{Precinct}
use Rattle.stream_model.specs.Decoder.{at_start, precincts_released}
use Rattle.stream_model.specs.Laws.{all_precincts}
use Rattle.stream_model.specs.Receiver.{Pick, Receiver, received, flushed, counts_of}
use Rattle.stream_model.specs.Arrivals.{picked, Arrive, highest_arrival, in_time, base}
use Rattle.stream_model.specs.EndCounts.{end_counts}
use Rattle.stream_model.specs.RunLaws.{fed, handed, passing, precincts_in, reached_in, releases_reached}

-- Where the frames are the datagrams of a stream in order, each once, and are picked, the rules give every precinct of its
-- codestreams, each once, in order and with its content, before the end and at the end, whatever the window; all frames are
-- kept, and nothing else is counted.
abbrev pub InOrderGivesAll : Type 0
InOrderGivesAll =
    (sent : List Sent) (codestreams datagrams : List (List ℕ)) (pick : Pick) → (c : Carry sent codestreams datagrams)
    → 1 ≤ pick.window → pick.kind ≡ c.kind → (pick.source ≡ None) ⊎ (pick.source ≡ Some c.source)
    → (precincts_released (received pick datagrams).releases ≡ flat_map precincts_in sent)
    × (precincts_released (flushed (received pick datagrams)).releases ≡ flat_map precincts_in sent)
    × (counts_of (flushed (received pick datagrams)) ≡ record { kept = length datagrams; old = 0; refused = 0; unsupported = 0; disagreed = 0; broken = 0 })

-- What a precinct of a stream says is what the packet of its number says in the codestream that has its stamp.
abbrev pub said_by : List Sent → StreamPrecinct → List Precinct
said_by sent x = flat_map (λ s. if s.stamp == x.stamp then passing (λ k. k == x.precinct) 0 (precincts_in s) else []) sent

-- Each precinct of a stream says one thing.
abbrev pub EachPrecinctIsSaid : Type 0
EachPrecinctIsSaid =
    (sent : List Sent) (codestreams datagrams : List (List ℕ)) → Carry sent codestreams datagrams
    → AllByRecursion (λ x. (p : Precinct) × (said_by sent x ≡ p ∷ []) × (p.stamp ≡ x.stamp)) (all_precincts (carried sent))

-- A receiver has fed its decoder these items, from the start on, and has released the packets of that.
pub record HasFed (items : List (Option Datagram)) (r : Receiver) : Type 0 where
  pub releases : r.releases ≡ (fed at_start items).releases
  pub decoder : r.decoder ≡ (fed at_start items).decoder

-- The window hands on each position of a stream below the base once and in order, its datagram where it is in time and else a gap;
-- and at the end each position up to the highest arrival.
abbrev pub HandsOnInOrder : Type 0
HandsOnInOrder =
    (sent : List Sent) (codestreams datagrams frames : List (List ℕ)) (events : List ℕ) (pick : Pick) → Carry sent codestreams datagrams
    → 1 ≤ pick.window → Arrive datagrams (picked pick.kind pick.source frames) events → 1 ≤ length events
    → HasFed (handed (λ i. in_time events i pick.window) 0 (take (base events pick.window) (flat_map datagrams_of sent))) (received pick frames)
    × HasFed (handed (λ i. in_time events i pick.window) 0 (take (highest_arrival events + 1) (flat_map datagrams_of sent))) (flushed (received pick frames))

-- Whatever datagrams of a stream are lost, thinned away, repeated or reordered, and whatever other frames are between
-- them: before the end the rules have given the precincts that are reached by what is in time and below the base, and
-- at the end those that are reached by what is in time, each once, by codestream and then in the packet order, with its
-- content; and the counts are those of the arrivals.
abbrev pub GivesWhatIsReached : Type 0
GivesWhatIsReached =
    (sent : List Sent) (codestreams datagrams frames : List (List ℕ)) (events : List ℕ) (pick : Pick) → Carry sent codestreams datagrams
    → 1 ≤ pick.window → Arrive datagrams (picked pick.kind pick.source frames) events
    → (precincts_released (received pick frames).releases ≡ reached_in (λ i. in_time events i pick.window && nat_lt i (base events pick.window)) sent)
    × (precincts_released (flushed (received pick frames)).releases ≡ reached_in (λ i. in_time events i pick.window) sent)
    × (counts_of (flushed (received pick frames)) ≡ end_counts frames events pick.window)

-- The same with all bytes: the packets that are released are those that are reached, each with its header and its segments, the
-- bytes of its codestream's main header, and the number of main headers that were taken by then.
abbrev pub ReleasesWhatIsReached : Type 0
ReleasesWhatIsReached =
    (sent : List Sent) (codestreams datagrams frames : List (List ℕ)) (events : List ℕ) (pick : Pick) → Carry sent codestreams datagrams
    → 1 ≤ pick.window → Arrive datagrams (picked pick.kind pick.source frames) events
    → ((received pick frames).releases ≡ releases_reached (λ i. in_time events i pick.window && nat_lt i (base events pick.window)) 0 0 sent)
    × ((flushed (received pick frames)).releases ≡ releases_reached (λ i. in_time events i pick.window) 0 0 sent)

-- The window's next number is that of the base, and nothing is due, after each arrival.
abbrev pub WindowIsAtBase : Type 0
WindowIsAtBase =
    (sent : List Sent) (codestreams datagrams frames : List (List ℕ)) (events : List ℕ) (pick : Pick) → (c : Carry sent codestreams datagrams)
    → 1 ≤ pick.window → Arrive datagrams (picked pick.kind pick.source frames) events → 1 ≤ length events
    → ((received pick frames).window.base ≡ Some ((c.number + base events pick.window) % 2 ^ 24)) × ((received pick frames).window.due ≡ 0)

-- The same in the words of `due`: before the end the rules have given what is due, and at the end what is due at the end, each
-- precinct with its content.
abbrev pub GivesWhatIsDue : Type 0
GivesWhatIsDue =
    (sent : List Sent) (codestreams datagrams frames : List (List ℕ)) (events : List ℕ) (pick : Pick) → Carry sent codestreams datagrams
    → 1 ≤ pick.window → Arrive datagrams (picked pick.kind pick.source frames) events
    → (precincts_released (received pick frames).releases ≡ flat_map (said_by sent) (due events pick.window (carried sent)))
    × (precincts_released (flushed (received pick frames)).releases ≡ flat_map (said_by sent) (due_at_end events pick.window (carried sent)))
    × (counts_of (flushed (received pick frames)) ≡ end_counts frames events pick.window)
