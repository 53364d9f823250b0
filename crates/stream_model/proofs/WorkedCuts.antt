-- The cuts of three codestreams: of one packet, of three packets of one resolution, and of two packets of two resolutions.
use Rattle.std.specs.Prelude.{◌≡◌, ℕ, Bool, true, false, List, [], ◌∷◌, map, length, take, drop}
use Rattle.std.specs.List.{flat_map}
use Rattle.wire_model.specs.Thinning.{kept}
use Rattle.std.proofs.Common.{refl}
use Rattle.wire_model.specs.Payload.{PayloadFields, Main, Body}
use Rattle.wire_model.specs.Datagram.{Datagram}
use Rattle.wire_model.proofs.Captures.{main_header, main_header_of_three, main_of_a, body_of_a, codestream_of_b, main_of_b, first_body_of_b, second_body_of_b, third_body_of_b, last_body_of_b}
use Rattle.codestream_model.specs.Values.{Head, Place}
use Rattle.codestream_model.specs.PacketOrder.{sum_below}
use Rattle.stream_model.specs.Stream.{Parts, datagrams_of, extended_number}
use Rattle.stream_model.specs.Cut.{Plan, Piece, Known, known_of, datagrams_by, sent_by, datagram_bytes}
use Rattle.stream_model.proofs.WorkedStreams.{parts_of_one, sent_of_one, parts_of_three, sent_of_three}

-- datagrams of at most n bytes, with payload type 96, source 1, the first number and the first stamp 0 and stamps 3,600 apart
abbrev pub plan_of : ℕ → Bool → Plan
plan_of mtu split = record { mtu = mtu; split = split; kind = 96; source = 1; number = 0; stamp = 0; step = 3600 }

-- what the cut writes
abbrev pub written : Plan → List Parts → List (List ℕ)
written p parts = map datagram_bytes (flat_map datagrams_of (sent_by p parts))

-- one packet in datagrams of 1,400 bytes: the first capture
pub cut_of_one : sent_by (plan_of 1400 false) (parts_of_one ∷ []) ≡ sent_of_one ∷ []
unfolding sum_below main_header
cut_of_one = refl

pub written_of_one : written (plan_of 1400 false) (parts_of_one ∷ []) ≡ main_of_a ∷ body_of_a ∷ []
unfolding sum_below main_header main_of_a body_of_a
written_of_one = refl

-- three packets in datagrams of 110 bytes: the second capture
pub cut_of_three : sent_by (plan_of 110 false) (parts_of_three ∷ []) ≡ sent_of_three 0 0 ∷ []
unfolding sum_below main_header_of_three codestream_of_b
cut_of_three = refl

pub written_of_three : written (plan_of 110 false) (parts_of_three ∷ []) ≡ main_of_b ∷ first_body_of_b ∷ second_body_of_b ∷ third_body_of_b ∷ last_body_of_b ∷ []
unfolding sum_below main_header_of_three codestream_of_b main_of_b first_body_of_b second_body_of_b third_body_of_b last_body_of_b
written_of_three = refl

-- twice in a row: ten datagrams, and the second codestream has the second stamp
pub cut_twice : sent_by (plan_of 110 false) (parts_of_three ∷ parts_of_three ∷ []) ≡ sent_of_three 0 0 ∷ sent_of_three 3600 5 ∷ []
unfolding sum_below main_header_of_three codestream_of_b
cut_twice = refl

-- extended numbers run on from their greatest to 0
pub numbers_wrap : map extended_number (datagrams_by (record { mtu = 110; split = false; kind = 96; source = 1; number = 16777214; stamp = 0; step = 3600 }) (known_of parts_of_three ∷ [])) ≡ 16777214 ∷ 16777215 ∷ 0 ∷ 1 ∷ 2 ∷ []
unfolding sum_below main_header_of_three codestream_of_b
numbers_wrap = refl

-- of a datagram: the number of its codestream bytes, its marker, RES and ORDB, which a Main hasn't
abbrev pub res_and_ordb : PayloadFields → ℕ × Bool
res_and_ordb (Main h) = (0, false)
res_and_ordb (Body h) = (h.res, h.ordb)

abbrev pub outline : Datagram → ℕ × Bool × ℕ × Bool
outline x = (length x.codestream, x.rtp.marker, (res_and_ordb x.payload).0, (res_and_ordb x.payload).1)

-- where the room ends before EOC, EOC is a payload of its own, which serves every resolution;
pub room_before_eoc : map outline (datagrams_by (plan_of 326 false) (known_of parts_of_three ∷ [])) ≡ (90, false, 0, false) ∷ (306, false, 7, true) ∷ (2, true, 0, false) ∷ []
unfolding sum_below main_header_of_three
room_before_eoc = refl

-- where it ends inside EOC, EOC is cut;
pub room_inside_eoc : map outline (datagrams_by (plan_of 327 false) (known_of parts_of_three ∷ [])) ≡ (90, false, 0, false) ∷ (307, false, 7, true) ∷ (1, true, 0, false) ∷ []
unfolding sum_below main_header_of_three
room_inside_eoc = refl

-- and where it ends after EOC, one payload has all
pub room_for_all : map outline (datagrams_by (plan_of 328 false) (known_of parts_of_three ∷ [])) ≡ (90, false, 0, false) ∷ (308, true, 7, true) ∷ []
unfolding sum_below main_header_of_three
room_for_all = refl

-- the main header of an image of two samples side by side with one decomposition level
unfoldable pub header_of_levels : List ℕ
header_of_levels =
    255 ∷ 79 ∷ 255 ∷ 81 ∷ 0 ∷ 41 ∷ 64 ∷ 0 ∷ 0 ∷ 0 ∷ 0 ∷ 2 ∷ 0 ∷ 0 ∷ 0 ∷ 1 ∷ 0 ∷ 0 ∷ 0 ∷ 0
    ∷ 0 ∷ 0 ∷ 0 ∷ 0 ∷ 0 ∷ 0 ∷ 0 ∷ 2 ∷ 0 ∷ 0 ∷ 0 ∷ 1 ∷ 0 ∷ 0 ∷ 0 ∷ 0 ∷ 0 ∷ 0 ∷ 0 ∷ 0
    ∷ 0 ∷ 1 ∷ 7 ∷ 1 ∷ 1 ∷ 255 ∷ 80 ∷ 0 ∷ 8 ∷ 0 ∷ 2 ∷ 0 ∷ 0 ∷ 0 ∷ 0 ∷ 255 ∷ 82 ∷ 0 ∷ 12 ∷ 0
    ∷ 3 ∷ 0 ∷ 1 ∷ 0 ∷ 1 ∷ 4 ∷ 4 ∷ 64 ∷ 1 ∷ 255 ∷ 92 ∷ 0 ∷ 7 ∷ 64 ∷ 72 ∷ 72 ∷ 72 ∷ 72 ∷ 255 ∷ 144
    ∷ 0 ∷ 10 ∷ 0 ∷ 0 ∷ 0 ∷ 0 ∷ 0 ∷ 0 ∷ 0 ∷ 1 ∷ 255 ∷ 147 ∷ []

-- its values
abbrev pub head_of_levels : Head
head_of_levels = record {
  x0 = 0;
  y0 = 0;
  x1 = 2;
  y1 = 1;
  steps = record { x = 1; y = 1 } ∷ [];
  levels = 1;
  block = record { x = 6; y = 6 };
  precincts = record { x = 15; y = 15 } ∷ record { x = 15; y = 15 } ∷ [];
  order = 3;
  eph = false;
  psot = 0;
  sot = 78;
  length = 92;
}

-- the precinct of a resolution
abbrev pub of_resolution : ℕ → Place
of_resolution r = record { c = 0; r = r; k = 0 }

-- a codestream of two empty packets, one of each resolution
abbrev pub parts_of_levels : Parts
parts_of_levels = record {
  head = head_of_levels;
  header = header_of_levels;
  places = of_resolution 0 ∷ of_resolution 1 ∷ [];
  content = record { blocks = []; bytes = [] } ∷ record { blocks = []; bytes = [] } ∷ [];
  packets = (0 ∷ []) ∷ (0 ∷ []) ∷ [];
}

-- in `split` mode each packet has a payload of its own,
pub written_of_levels : written (plan_of 1400 true) (parts_of_levels ∷ []) ≡
    (128 ∷ 96 ∷ 0 ∷ 0 ∷ 0 ∷ 0 ∷ 0 ∷ 0 ∷ 0 ∷ 0 ∷ 0 ∷ 1 ∷ 196 ∷ 0 ∷ 0 ∷ 0 ∷ 0 ∷ 0 ∷ 0 ∷ 0 ∷ header_of_levels)
    ∷ (128 ∷ 96 ∷ 0 ∷ 1 ∷ 0 ∷ 0 ∷ 0 ∷ 0 ∷ 0 ∷ 0 ∷ 0 ∷ 1 ∷ 6 ∷ 128 ∷ 0 ∷ 0 ∷ 0 ∷ 0 ∷ 0 ∷ 0 ∷ 0 ∷ [])
    ∷ (128 ∷ 224 ∷ 0 ∷ 2 ∷ 0 ∷ 0 ∷ 0 ∷ 0 ∷ 0 ∷ 0 ∷ 0 ∷ 1 ∷ 7 ∷ 128 ∷ 0 ∷ 0 ∷ 0 ∷ 0 ∷ 0 ∷ 1 ∷ 0 ∷ 255 ∷ 217 ∷ [])
    ∷ []
unfolding sum_below header_of_levels
written_of_levels = refl

-- of which a limit of 6 leaves the Main and the lower one,
pub thinned_levels : kept 6 (written (plan_of 1400 true) (parts_of_levels ∷ [])) ≡ take 2 (written (plan_of 1400 true) (parts_of_levels ∷ []))
unfolding sum_below header_of_levels
thinned_levels = refl

-- and in plain mode one payload has both, with RES of the lower one
pub plain_levels : drop 1 (written (plan_of 1400 false) (parts_of_levels ∷ [])) ≡
    (128 ∷ 224 ∷ 0 ∷ 1 ∷ 0 ∷ 0 ∷ 0 ∷ 0 ∷ 0 ∷ 0 ∷ 0 ∷ 1 ∷ 6 ∷ 128 ∷ 0 ∷ 0 ∷ 0 ∷ 0 ∷ 0 ∷ 0 ∷ 0 ∷ 0 ∷ 255 ∷ 217 ∷ []) ∷ []
unfolding sum_below header_of_levels
plain_levels = refl

-- a codestream of which these packets are there, and EOC isn't
abbrev pub begun : Parts → List Piece → Known
begun c pieces = record { head = c.head; header = c.header; pieces = pieces; ended = false }

-- where the header of the second packet isn't there, nothing closes the first one's payload: the Main is sent alone;
pub closed_by_nothing : datagrams_by (plan_of 1400 true) (begun parts_of_levels (record { place = of_resolution 0; bytes = 0 ∷ [] } ∷ []) ∷ []) ≡ take 1 (datagrams_by (plan_of 1400 true) (known_of parts_of_levels ∷ []))
closed_by_nothing = refl

-- once the front of a packet of another resolution is there, the payload is closed
pub closed_by_a_change : map outline (datagrams_by (plan_of 1400 true) (begun parts_of_levels (record { place = of_resolution 0; bytes = 0 ∷ [] } ∷ record { place = of_resolution 1; bytes = 200 ∷ 128 ∷ 170 ∷ [] } ∷ []) ∷ [])) ≡ (92, false, 0, false) ∷ (1, false, 6, true) ∷ []
unfolding sum_below header_of_levels
closed_by_a_change = refl

-- and a payload with room left isn't closed before EOC is there
pub closed_by_eoc_alone : map outline (datagrams_by (plan_of 327 false) (begun parts_of_three (known_of parts_of_three).pieces ∷ [])) ≡ (90, false, 0, false) ∷ []
unfolding sum_below main_header_of_three
closed_by_eoc_alone = refl
