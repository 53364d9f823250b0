-- What is computed of the captures: their frames, what each datagram says, and what thinning keeps.
use Rattle.std.specs.Prelude.{◌≡◌, true, false, [], ◌∷◌, length, drop, slice_range}
use Rattle.std.proofs.Common.{refl, List, ℕ}
use Rattle.wire_model.specs.Framing.{framing, first_frames, whole_frames}
use Rattle.wire_model.specs.Payload.{Main, Body}
use Rattle.wire_model.specs.Datagram.{datagram_of, is_well_formed}
use Rattle.wire_model.specs.Thinning.{kept}
use Rattle.wire_model.proofs.Captures.{cut_capture, main_header, main_header_of_three, main_of_a, body_of_a, capture_a, codestream_of_b, main_of_b, first_body_of_b, second_body_of_b, third_body_of_b, last_body_of_b, capture_b, small_body}

-- an empty frame is a frame,
pub frames_of_cut_capture : whole_frames cut_capture ≡ [] ∷ (2 ∷ []) ∷ []
unfolding first_frames cut_capture
frames_of_cut_capture = refl

-- and less than a whole one is what is left
pub rest_of_cut_capture : drop (length (framing (whole_frames cut_capture))) cut_capture ≡ 3 ∷ []
unfolding first_frames cut_capture
rest_of_cut_capture = refl

-- the first capture has two frames,
pub frames_of_a : whole_frames capture_a ≡ main_of_a ∷ body_of_a ∷ []
unfolding first_frames main_header main_of_a body_of_a capture_a
frames_of_a = refl

-- and nothing is left
pub rest_of_a : drop (length (framing (whole_frames capture_a))) capture_a ≡ []
unfolding first_frames main_header main_of_a body_of_a capture_a
rest_of_a = refl

-- the first is well-formed,
pub main_of_a_is_well_formed : is_well_formed main_of_a ≡ true
unfolding main_header main_of_a
main_of_a_is_well_formed = refl

-- a Main with the header,
pub main_of_a_is_read : datagram_of main_of_a ≡ record { rtp = record { marker = false; kind = 96; number = 0; stamp = 0; source = 1 }; payload = Main (record { ordh = 4; eseq = 0; xtrac = 0 }); codestream = main_header }
unfolding main_header main_of_a
main_of_a_is_read = refl

-- the second is well-formed,
pub body_of_a_is_well_formed : is_well_formed body_of_a ≡ true
unfolding body_of_a
body_of_a_is_well_formed = refl

-- a Body with the six bytes
pub body_of_a_is_read : datagram_of body_of_a ≡ record { rtp = record { marker = true; kind = 96; number = 1; stamp = 0; source = 1 }; payload = Body (record { res = 7; eseq = 0; ordb = true; pos = 0; pid = 0 }); codestream = 200 ∷ 128 ∷ 170 ∷ 187 ∷ 255 ∷ 217 ∷ [] }
unfolding body_of_a
body_of_a_is_read = refl

-- a limit of 7 keeps both,
pub all_of_a : kept 7 (whole_frames capture_a) ≡ main_of_a ∷ body_of_a ∷ []
unfolding first_frames main_header main_of_a body_of_a capture_a
all_of_a = refl

-- which are the capture again,
pub all_of_a_again : framing (kept 7 (whole_frames capture_a)) ≡ capture_a
unfolding first_frames main_header main_of_a body_of_a capture_a
all_of_a_again = refl

-- and a limit of 0 keeps the Main alone
pub least_of_a : kept 0 (whole_frames capture_a) ≡ main_of_a ∷ []
unfolding first_frames main_header main_of_a body_of_a capture_a
least_of_a = refl

-- the second capture has five frames,
pub frames_of_b : whole_frames capture_b ≡ main_of_b ∷ first_body_of_b ∷ second_body_of_b ∷ third_body_of_b ∷ last_body_of_b ∷ []
unfolding first_frames main_header_of_three codestream_of_b main_of_b first_body_of_b second_body_of_b third_body_of_b last_body_of_b capture_b
frames_of_b = refl

-- and nothing is left
pub rest_of_b : drop (length (framing (whole_frames capture_b))) capture_b ≡ []
unfolding first_frames main_header_of_three codestream_of_b main_of_b first_body_of_b second_body_of_b third_body_of_b last_body_of_b capture_b
rest_of_b = refl

-- the first is well-formed,
pub main_of_b_is_well_formed : is_well_formed main_of_b ≡ true
unfolding main_header_of_three main_of_b
main_of_b_is_well_formed = refl

-- a Main with the longer header,
pub main_of_b_is_read : datagram_of main_of_b ≡ record { rtp = record { marker = false; kind = 96; number = 0; stamp = 0; source = 1 }; payload = Main (record { ordh = 4; eseq = 0; xtrac = 0 }); codestream = main_header_of_three }
unfolding main_header_of_three main_of_b
main_of_b_is_read = refl

-- the second is well-formed,
pub first_body_of_b_is_well_formed : is_well_formed first_body_of_b ≡ true
unfolding main_header_of_three codestream_of_b first_body_of_b
first_body_of_b_is_well_formed = refl

-- a Body with the 90 bytes that follow the header,
pub first_body_of_b_is_read : datagram_of first_body_of_b ≡ record { rtp = record { marker = false; kind = 96; number = 1; stamp = 0; source = 1 }; payload = Body (record { res = 7; eseq = 0; ordb = true; pos = 0; pid = 0 }); codestream = slice_range codestream_of_b 90 180 }
unfolding main_header_of_three codestream_of_b first_body_of_b
first_body_of_b_is_read = refl

-- the third is well-formed,
pub second_body_of_b_is_well_formed : is_well_formed second_body_of_b ≡ true
unfolding main_header_of_three codestream_of_b second_body_of_b
second_body_of_b_is_well_formed = refl

-- a Body with the next 90,
pub second_body_of_b_is_read : datagram_of second_body_of_b ≡ record { rtp = record { marker = false; kind = 96; number = 2; stamp = 0; source = 1 }; payload = Body (record { res = 7; eseq = 0; ordb = true; pos = 12; pid = 1 }); codestream = slice_range codestream_of_b 180 270 }
unfolding main_header_of_three codestream_of_b second_body_of_b
second_body_of_b_is_read = refl

-- the fourth is well-formed,
pub third_body_of_b_is_well_formed : is_well_formed third_body_of_b ≡ true
unfolding main_header_of_three codestream_of_b third_body_of_b
third_body_of_b_is_well_formed = refl

-- a Body with the next 90,
pub third_body_of_b_is_read : datagram_of third_body_of_b ≡ record { rtp = record { marker = false; kind = 96; number = 3; stamp = 0; source = 1 }; payload = Body (record { res = 7; eseq = 0; ordb = true; pos = 24; pid = 2 }); codestream = slice_range codestream_of_b 270 360 }
unfolding main_header_of_three codestream_of_b third_body_of_b
third_body_of_b_is_read = refl

-- the fifth is well-formed,
pub last_body_of_b_is_well_formed : is_well_formed last_body_of_b ≡ true
unfolding main_header_of_three codestream_of_b last_body_of_b
last_body_of_b_is_well_formed = refl

-- a Body with the last 38
pub last_body_of_b_is_read : datagram_of last_body_of_b ≡ record { rtp = record { marker = true; kind = 96; number = 4; stamp = 0; source = 1 }; payload = Body (record { res = 7; eseq = 0; ordb = false; pos = 0; pid = 0 }); codestream = slice_range codestream_of_b 360 398 }
unfolding main_header_of_three codestream_of_b last_body_of_b
last_body_of_b_is_read = refl

-- a limit of 7 keeps all five,
pub all_of_b : kept 7 (whole_frames capture_b) ≡ main_of_b ∷ first_body_of_b ∷ second_body_of_b ∷ third_body_of_b ∷ last_body_of_b ∷ []
unfolding first_frames main_header_of_three codestream_of_b main_of_b first_body_of_b second_body_of_b third_body_of_b last_body_of_b capture_b
all_of_b = refl

-- which are the capture again,
pub all_of_b_again : framing (kept 7 (whole_frames capture_b)) ≡ capture_b
unfolding first_frames main_header_of_three codestream_of_b main_of_b first_body_of_b second_body_of_b third_body_of_b last_body_of_b capture_b
all_of_b_again = refl

-- and a limit of 6 keeps the Main alone
pub less_of_b : kept 6 (whole_frames capture_b) ≡ main_of_b ∷ []
unfolding first_frames main_header_of_three codestream_of_b main_of_b first_body_of_b second_body_of_b third_body_of_b last_body_of_b capture_b
less_of_b = refl

-- of a Main and four Bodies a limit of 5 keeps the Main and the Bodies whose RES is no more
pub kept_by_resolution : kept 5 (main_of_a ∷ small_body 1 0 ∷ small_body 2 5 ∷ small_body 3 6 ∷ small_body 4 7 ∷ []) ≡ main_of_a ∷ small_body 1 0 ∷ small_body 2 5 ∷ []
unfolding main_header main_of_a
kept_by_resolution = refl

-- A Main after a contributing source and an extension of one word, with one skipped word, two codestream bytes and two bytes of padding.
abbrev pub long_main : List ℕ
long_main =
    177 ∷ 96 ∷ 0 ∷ 9 ∷ 0 ∷ 0 ∷ 0 ∷ 5 ∷ 0 ∷ 0 ∷ 0 ∷ 1 ∷ 0 ∷ 0 ∷ 0 ∷ 7 ∷ 190 ∷ 222 ∷ 0 ∷ 1 ∷ 1 ∷ 2 ∷ 3 ∷ 4
    ∷ 195 ∷ 16 ∷ 0 ∷ 2 ∷ 0 ∷ 0 ∷ 0 ∷ 0 ∷ 11 ∷ 12 ∷ 13 ∷ 14 ∷ 170 ∷ 187 ∷ 0 ∷ 2 ∷ []

-- It is well formed,
pub long_main_is_well_formed : is_well_formed long_main ≡ true
long_main_is_well_formed = refl

-- and this is read of it.
pub long_main_is_read : datagram_of long_main ≡ record { rtp = record { marker = false; kind = 96; number = 9; stamp = 5; source = 1 }; payload = Main (record { ordh = 3; eseq = 2; xtrac = 1 }); codestream = 170 ∷ 187 ∷ [] }
long_main_is_read = refl
