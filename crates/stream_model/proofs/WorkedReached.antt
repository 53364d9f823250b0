-- Which precincts of two streams are reached: of five datagrams that carry three packets, and of ten that carry them twice.
use Rattle.std.specs.Prelude.{◌≡◌, ◌+◌, ℕ, List, [], ◌∷◌}
use Rattle.std.specs.List.{range_with_len}
use Rattle.std.proofs.Common.{refl}
use Rattle.stream_model.specs.Reached.{Carried, StreamPrecinct, due, due_at_end}

-- Three packets of 102 bytes after a Main at this position, and EOC, in Bodies of 90, 90, 90 and 38 bytes: each of the first
-- three has the first byte of one packet.
abbrev pub three_packets : ℕ → ℕ → Carried
three_packets stamp main = record {
  stamp = stamp;
  main = main;
  packets = record { first = main + 1; last = main + 2 } ∷ record { first = main + 2; last = main + 3 } ∷ record { first = main + 3; last = main + 4 } ∷ [];
  resyncs = record { at = main; precinct = 0 } ∷ record { at = main + 1; precinct = 0 } ∷ record { at = main + 2; precinct = 1 } ∷ record { at = main + 3; precinct = 2 } ∷ [];
}

-- a codestream of three packets in five datagrams,
abbrev pub one_codestream : List Carried
one_codestream = three_packets 0 0 ∷ []

-- and two of them in ten
abbrev pub two_codestreams : List Carried
two_codestreams = three_packets 0 0 ∷ three_packets 3600 5 ∷ []

-- a precinct of the codestream with this stamp
abbrev pub of_stamp : ℕ → ℕ → StreamPrecinct
of_stamp stamp precinct = record { stamp = stamp; precinct = precinct }

-- where all five arrive, all three precincts are reached,
pub all_five : due_at_end (0 ∷ 1 ∷ 2 ∷ 3 ∷ 4 ∷ []) 16 one_codestream ≡ of_stamp 0 0 ∷ of_stamp 0 1 ∷ of_stamp 0 2 ∷ []
all_five = refl

-- without the second datagram those from the next resync point on,
pub lost_second : due_at_end (0 ∷ 2 ∷ 3 ∷ 4 ∷ []) 16 one_codestream ≡ of_stamp 0 1 ∷ of_stamp 0 2 ∷ []
lost_second = refl

-- without the third the last,
pub lost_third : due_at_end (0 ∷ 1 ∷ 3 ∷ 4 ∷ []) 16 one_codestream ≡ of_stamp 0 2 ∷ []
lost_third = refl

-- without the fourth the first,
pub lost_fourth : due_at_end (0 ∷ 1 ∷ 2 ∷ 4 ∷ []) 16 one_codestream ≡ of_stamp 0 0 ∷ []
lost_fourth = refl

-- without the last the first two,
pub lost_last : due_at_end (0 ∷ 1 ∷ 2 ∷ 3 ∷ []) 16 one_codestream ≡ of_stamp 0 0 ∷ of_stamp 0 1 ∷ []
lost_last = refl

-- and without the Main none
pub lost_main : due_at_end (1 ∷ 2 ∷ 3 ∷ 4 ∷ []) 16 one_codestream ≡ []
lost_main = refl

-- repeated and reordered datagrams within the window give each precinct once
pub repeated : due_at_end (0 ∷ 2 ∷ 1 ∷ 1 ∷ 3 ∷ 4 ∷ []) 16 one_codestream ≡ of_stamp 0 0 ∷ of_stamp 0 1 ∷ of_stamp 0 2 ∷ []
repeated = refl

-- in a window of two the third datagram is late and the fourth isn't
pub late_third : due_at_end (0 ∷ 1 ∷ 4 ∷ 2 ∷ 3 ∷ []) 2 one_codestream ≡ of_stamp 0 2 ∷ []
late_third = refl

-- a Main below the first arrival is never in time
pub main_second : due_at_end (1 ∷ 0 ∷ 2 ∷ 3 ∷ 4 ∷ []) 16 one_codestream ≡ []
main_second = refl

-- without the second Main nothing of the second codestream is reached, although its Bodies have resync points
pub lost_second_main : due_at_end (0 ∷ 1 ∷ 2 ∷ 3 ∷ 4 ∷ 6 ∷ 7 ∷ 8 ∷ 9 ∷ []) 16 two_codestreams ≡ of_stamp 0 0 ∷ of_stamp 0 1 ∷ of_stamp 0 2 ∷ []
lost_second_main = refl

-- and from the third datagram on all of the second codestream is
pub second_alone : due_at_end (range_with_len 2 8) 16 two_codestreams ≡ of_stamp 3600 0 ∷ of_stamp 3600 1 ∷ of_stamp 3600 2 ∷ []
second_alone = refl

-- a precinct is due as soon as its last datagram has come in order,
pub due_early : due (0 ∷ 1 ∷ 2 ∷ []) 16 one_codestream ≡ of_stamp 0 0 ∷ []
due_early = refl

-- and after a gap only once the window has passed it, or at the end
pub due_behind_a_gap : due (0 ∷ 2 ∷ 3 ∷ 4 ∷ []) 16 one_codestream ≡ []
due_behind_a_gap = refl

pub due_past_a_gap : due (0 ∷ 2 ∷ 3 ∷ 4 ∷ []) 3 one_codestream ≡ of_stamp 0 1 ∷ of_stamp 0 2 ∷ []
due_past_a_gap = refl
