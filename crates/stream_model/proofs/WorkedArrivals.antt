-- Which of the datagrams of two streams are in time: five datagrams that carry one codestream, and ten that carry two.
use Rattle.std.specs.Prelude.{◌≡◌, [], ◌∷◌, length, codes, replicate}
use Rattle.std.specs.List.{range_with_len}
use Rattle.std.specs.Fmt.{digits}
use Rattle.std.proofs.Common.{refl}
use Rattle.stream_model.specs.Arrivals.{base, positions_in_time}
use Rattle.stream_model.specs.Report.{end_line}
use Rattle.stream_model.specs.EndCounts.{end_counts}

-- five in order are all in time,
pub five_in_order : positions_in_time (0 ∷ 1 ∷ 2 ∷ 3 ∷ 4 ∷ []) 16 ≡ 0 ∷ 1 ∷ 2 ∷ 3 ∷ 4 ∷ []
five_in_order = refl

-- and the base is after them
pub base_of_five : base (0 ∷ 1 ∷ 2 ∷ 3 ∷ 4 ∷ []) 16 ≡ 5
base_of_five = refl

-- where the second is lost, the others are in time,
pub without_the_second : positions_in_time (0 ∷ 2 ∷ 3 ∷ 4 ∷ []) 16 ≡ 0 ∷ 2 ∷ 3 ∷ 4 ∷ []
without_the_second = refl

-- and the base waits for it
pub base_without_the_second : base (0 ∷ 2 ∷ 3 ∷ 4 ∷ []) 16 ≡ 1
base_without_the_second = refl

-- where the third is lost,
pub without_the_third : positions_in_time (0 ∷ 1 ∷ 3 ∷ 4 ∷ []) 16 ≡ 0 ∷ 1 ∷ 3 ∷ 4 ∷ []
without_the_third = refl

-- the fourth,
pub without_the_fourth : positions_in_time (0 ∷ 1 ∷ 2 ∷ 4 ∷ []) 16 ≡ 0 ∷ 1 ∷ 2 ∷ 4 ∷ []
without_the_fourth = refl

-- the last,
pub without_the_last : positions_in_time (0 ∷ 1 ∷ 2 ∷ 3 ∷ []) 16 ≡ 0 ∷ 1 ∷ 2 ∷ 3 ∷ []
without_the_last = refl

-- or the first
pub without_the_first : positions_in_time (1 ∷ 2 ∷ 3 ∷ 4 ∷ []) 16 ≡ 1 ∷ 2 ∷ 3 ∷ 4 ∷ []
without_the_first = refl

-- a repeat is no second position, and one that comes late but within the window is in time
pub with_a_repeat : positions_in_time (0 ∷ 2 ∷ 1 ∷ 1 ∷ 3 ∷ 4 ∷ []) 16 ≡ 0 ∷ 1 ∷ 2 ∷ 3 ∷ 4 ∷ []
with_a_repeat = refl

-- in a window of two the third datagram is late after the fifth, and the fourth is in time
pub in_a_small_window : positions_in_time (0 ∷ 1 ∷ 4 ∷ 2 ∷ 3 ∷ []) 2 ≡ 0 ∷ 1 ∷ 3 ∷ 4 ∷ []
in_a_small_window = refl

-- the fifth passes the third, so the base is at the fourth,
pub base_behind_a_late_one : base (0 ∷ 1 ∷ 4 ∷ []) 2 ≡ 3
base_behind_a_late_one = refl

-- and after the fifth once the fourth has come
pub base_in_a_small_window : base (0 ∷ 1 ∷ 4 ∷ 2 ∷ 3 ∷ []) 2 ≡ 5
base_in_a_small_window = refl

-- what is below the first arrival is never in time
pub below_the_first : positions_in_time (1 ∷ 0 ∷ 2 ∷ 3 ∷ 4 ∷ []) 16 ≡ 1 ∷ 2 ∷ 3 ∷ 4 ∷ []
below_the_first = refl

-- however many these are
pub two_below_the_first : positions_in_time (2 ∷ 0 ∷ 1 ∷ 3 ∷ 4 ∷ []) 16 ≡ 2 ∷ 3 ∷ 4 ∷ []
two_below_the_first = refl

-- of ten, where the sixth is lost, nine are in time,
pub ten_without_the_sixth : length (positions_in_time (0 ∷ 1 ∷ 2 ∷ 3 ∷ 4 ∷ 6 ∷ 7 ∷ 8 ∷ 9 ∷ []) 16) ≡ 9
ten_without_the_sixth = refl

-- and of the last eight all
pub last_eight_of_ten : length (positions_in_time (range_with_len 2 8) 16) ≡ 8
last_eight_of_ten = refl

-- before anything arrived nothing is in time, and the base is 0
pub nothing_arrived : positions_in_time [] 16 ≡ []
nothing_arrived = refl

pub base_of_nothing : base [] 16 ≡ 0
base_of_nothing = refl

-- the line at the end, where one of six arrivals is a repeat,
pub line_with_a_repeat : end_line (end_counts (replicate 6 []) (0 ∷ 2 ∷ 1 ∷ 1 ∷ 3 ∷ 4 ∷ []) 16) ≡ codes "END kept=5 old=1 refused=0 unsupported=0 disagreed=0 broken=0\n"
unfolding digits
line_with_a_repeat = refl

-- and where one of five is late
pub line_in_a_small_window : end_line (end_counts (replicate 5 []) (0 ∷ 1 ∷ 4 ∷ 2 ∷ 3 ∷ []) 2) ≡ codes "END kept=4 old=1 refused=0 unsupported=0 disagreed=0 broken=0\n"
unfolding digits
line_in_a_small_window = refl
