-- What `deliver` and `recv` write of the worked captures.
use Rattle.std.specs.Prelude.{◌≡◌, ◌++◌, ℕ, true, false, List, [], ◌∷◌, Some, None, refl, codes}
use Rattle.std.specs.Fmt.{digits}
use Rattle.wire_model.specs.Receptions.{Reception, Arrived, NotReady, Closed}
use Rattle.wire_model.specs.Framing.{framing, first_frames}
use Rattle.wire_model.proofs.Captures.{capture_a, main_of_b, first_body_of_b, second_body_of_b, third_body_of_b, last_body_of_b}
use Rattle.stream_model.specs.Receiver.{take_frames, drained}
use Rattle.stream_model.specs.Decoder.{settle}
use Rattle.delivery_model.specs.Delivering.{Range, deliver_output, first_missing}
use Rattle.delivery_model.specs.Receiving.{recv_line, recv_output}

-- a single position
abbrev pub only : ℕ → Range
only i = record { first = i; last = i }

-- the frames of a capture of two, the second first and then both
pub frames_are_listed : deliver_output (only 1 ∷ record { first = 0; last = 1 } ∷ []) (framing ((1 ∷ []) ∷ (2 ∷ 3 ∷ []) ∷ [])) true ≡ framing ((2 ∷ 3 ∷ []) ∷ (1 ∷ []) ∷ (2 ∷ 3 ∷ []) ∷ [])
unfolding first_frames
frames_are_listed = refl

-- an empty frame has a position too,
pub empty_frames_count : deliver_output (only 1 ∷ only 0 ∷ []) (framing ([] ∷ (7 ∷ []) ∷ [])) true ≡ framing ((7 ∷ []) ∷ [] ∷ [])
unfolding first_frames
empty_frames_count = refl

-- nothing is written before the end, and nothing of an empty list
pub nothing_is_listed : (deliver_output (only 0 ∷ []) capture_a false ≡ []) × (deliver_output [] capture_a true ≡ [])
nothing_is_listed = (refl, refl)

-- Of two frames `0,2` lacks 2, `9,2` lacks 9, and `0-5` lacks 2.
pub first_is_missing : (first_missing (only 0 ∷ only 2 ∷ []) 2 ≡ Some 2) × (first_missing (only 9 ∷ only 2 ∷ []) 2 ≡ Some 9) × (first_missing (record { first = 0; last = 5 } ∷ []) 2 ≡ Some 2) × (first_missing (only 1 ∷ only 0 ∷ []) 2 ≡ None)
first_is_missing = (refl, refl, refl, refl)

-- the five datagrams of the second capture
abbrev pub all_came : List Reception
all_came = Arrived main_of_b ∷ Arrived first_body_of_b ∷ NotReady ∷ Arrived second_body_of_b ∷ Arrived third_body_of_b ∷ Arrived last_body_of_b ∷ []

-- are as many as are asked for,
pub recv_ends : (recv_line 5 all_came ≡ codes "RECV end=max in=5\n") × (recv_line 6 all_came ≡ codes "RECV end=idle in=5\n") × (recv_line 6 (all_came ++ Closed ∷ []) ≡ codes "RECV end=closed in=5\n")
unfolding digits
recv_ends = (refl, refl, refl)

-- and of nothing `recv` writes the counts and its line
pub nothing_came : recv_output (record { kind = 96; source = None; window = 16 }) 5 (Closed ∷ []) true ≡ codes "END kept=0 old=0 refused=0 unsupported=0 disagreed=0 broken=0\nRECV end=closed in=0\n"
unfolding digits take_frames drained settle
nothing_came = refl
