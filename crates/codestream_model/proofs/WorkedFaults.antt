-- Faults of inputs byte by byte: after the small header of one precinct.
use Rattle.std.proofs.Common.{◌≡◌, ◌≤◌, ◌+◌, ◌^◌, ℕ, zero, suc, List, [], ◌∷◌, ◌++◌, length, subst, refl, sym, inl, inr, arith}
use Rattle.std.specs.Prelude.{slice_set, Ok}
use Rattle.codestream_model.specs.Values.{Head, Place}
use Rattle.codestream_model.specs.MainHeader.{SpellsHead}
use Rattle.codestream_model.specs.MainHeaderReading.{read_tile, read_main, head_of}
use Rattle.codestream_model.specs.RefusedHeader.{segment_tests, skipped_tests}
use Rattle.codestream_model.specs.SegmentTests.{siz_tests, cap_tests, cod_tests, tile_tests}
use Rattle.codestream_model.specs.Precincts.{grids}
use Rattle.codestream_model.specs.PacketOrder.{sum_below, placed, sorted, packet_order, IsPacketOrder}
use Rattle.codestream_model.specs.HeaderPieces.{Passes, CleanupShort}
use Rattle.codestream_model.specs.GeometryLaws.{HasSteps}
use Rattle.codestream_model.specs.Packet.{Content, SpellsPacket}
use Rattle.codestream_model.specs.Codestream.{SpellsCodestream, IsPsotRight, WalkRefusal, Cut, HeaderRefused, Psot, NoEoc, BeginsCodestream, RefusesCodestream, NeedsCodestreamBytes, Faults, IsInput}
use Rattle.codestream_model.proofs.Headers.{small_header}
use Rattle.codestream_model.proofs.WorkedGeometry.{plain_head}
use Rattle.codestream_model.proofs.WorkedRelations.{bytes_if_tested, spells_if_read, small_header_spells}
use Rattle.codestream_model.proofs.WorkedRefusals.{four_passes_are_refused, a_short_cleanup_is_refused}
use Rattle.codestream_model.proofs.WorkedPackets.{precinct}
use Rattle.codestream_model.proofs.EmptyLemmas.{empty_packet}
use Rattle.codestream_model.proofs.Orders.{packet_order_is_computed}
use Rattle.codestream_model.proofs.Inputs.{refuse_rest, all_read}

-- an item that is refused in an input of one codestream
pub refused_in : (input : List ℕ) (at : ℕ) (why : WalkRefusal) → 1 ≤ length input → length input ≤ 2 ^ 40 → RefusesCodestream input at why → Faults input at why
refused_in input at why some few r =
    let P : List ℕ → Type 0 = λ l. RefusesCodestream l at why in
    let Q : ℕ → Type 0 = λ n. Faults input n why in
    let e : 0 + at ≡ at = omega arith in
    subst Q e (record { codestreams = []; rest = input; whole = refl; each = tt; within = omega arith; follows = some; fault = inr (omega arith, refuse_rest 0 input at why (subst P (sym (all_read 0 input (omega arith))) r)) })

-- and an input that ends inside it
pub cut_in : (input : List ℕ) → 1 ≤ length input → length input ≤ 2 ^ 40 → NeedsCodestreamBytes input → Faults input (length input) Cut
cut_in input some few n = record { codestreams = []; rest = input; whole = refl; each = tt; within = omega arith; follows = some; fault = inr (omega arith, (n, omega arith, omega arith)) }

-- the values of the small header with this Psot
abbrev pub small_head : ℕ → Head
small_head psot = record (plain_head 0 1 1 15 75 89) { psot = psot }

-- the small header with Psot 14
pub header_14 : List ℕ
header_14 = slice_set small_header 84 14

-- its values are read
header_14_is_read : head_of header_14 ≡ Ok (small_head 14)
unfolding header_14 siz_tests cap_tests cod_tests tile_tests segment_tests skipped_tests sum_below read_tile read_main head_of
header_14_is_read = refl

-- so it is a main header
header_14_spells : SpellsHead (small_head 14) header_14
unfolding header_14
header_14_spells = spells_if_read header_14 (small_head 14) (bytes_if_tested header_14 refl) header_14_is_read

-- the one precinct
one_step : (psot : ℕ) → HasSteps (small_head psot)
one_step psot zero d lt = (omega arith, omega arith)
one_step psot (suc k) d lt = absurd (omega arith)

-- is all of the packet order
order_is : (psot : ℕ) → packet_order (small_head psot) ≡ precinct 0 ∷ []
unfolding placed sorted
order_is psot = refl

-- which is the one of the header
pub one_order : (psot : ℕ) → IsPacketOrder (small_head psot) (precinct 0 ∷ [])
one_order psot = let P : List Place → Type 0 = λ places. IsPacketOrder (small_head psot) places in subst P (order_is psot) (packet_order_is_computed (small_head psot) (one_step psot))

-- after the header the packet should be
begun : (psot : ℕ) (head rest : List ℕ) → SpellsHead (small_head psot) head → BeginsCodestream (small_head psot) (precinct 0 ∷ []) (length head) rest (head ++ rest)
begun psot head rest s = record { head = head; before = []; content = []; packets = []; is_head = s; order = one_order psot; are_packets = refl; place = omega arith; whole = refl }

-- the packet that is empty
abbrev pub nothing : Content
nothing = record { blocks = []; bytes = [] }

-- is one of the precinct
empty : (psot : ℕ) → SpellsPacket (small_head psot) (precinct 0) nothing (0 ∷ [])
empty psot = record {
  header = 0 ∷ [];
  few_blocks = omega arith;
  is_header = record { header = 0 ∷ []; is_header = (empty_packet (grids (small_head psot) (precinct 0)) 0 [] (omega arith)).1; whole = refl };
  segments = refl;
  whole = refl;
  short = omega arith;
}

-- after it EOC should be
pub packed : (psot : ℕ) (head rest : List ℕ) → SpellsHead (small_head psot) head → BeginsCodestream (small_head psot) [] (length head + 1) rest (head ++ 0 ∷ rest)
packed psot head rest s = record { head = head; before = precinct 0 ∷ []; content = nothing ∷ []; packets = 0 ∷ []; is_head = s; order = one_order psot; are_packets = (0 ∷ [], [], empty psot, refl, refl); place = refl; whole = refl }

-- FA is refused: four passes
pub four_passes_are_a_fault : Faults (small_header ++ 250 ∷ []) 89 (HeaderRefused Passes)
four_passes_are_a_fault =
    refused_in (small_header ++ 250 ∷ []) 89 (HeaderRefused Passes) (omega arith) (omega arith)
    (small_head 0, precinct 0, [], 250 ∷ [], begun 0 small_header (250 ∷ []) small_header_spells, (omega arith, four_passes_are_refused))

-- E1 is refused: a cleanup length of 1
pub a_short_cleanup_is_a_fault : Faults (small_header ++ 225 ∷ []) 89 (HeaderRefused CleanupShort)
a_short_cleanup_is_a_fault =
    refused_in (small_header ++ 225 ∷ []) 89 (HeaderRefused CleanupShort) (omega arith) (omega arith)
    (small_head 0, precinct 0, [], 225 ∷ [], begun 0 small_header (225 ∷ []) small_header_spells, (omega arith, a_short_cleanup_is_refused))

-- the empty packet alone is cut: EOC isn't there
pub a_missing_eoc_is_cut : Faults (small_header ++ 0 ∷ []) 90 Cut
a_missing_eoc_is_cut =
    cut_in (small_header ++ 0 ∷ []) (omega arith) (omega arith)
    (90, inr (inr (small_head 0, [], packed 0 small_header [] small_header_spells, (inl refl, omega arith))))

-- half of EOC is cut after it
pub half_of_eoc_is_cut : Faults (small_header ++ 0 ∷ 0 ∷ []) 91 Cut
half_of_eoc_is_cut =
    cut_in (small_header ++ 0 ∷ 0 ∷ []) (omega arith) (omega arith)
    (90, inr (inr (small_head 0, 0 ∷ [], packed 0 small_header (0 ∷ []) small_header_spells, (inl refl, omega arith))))

-- two other bytes aren't EOC
pub another_marker_is_a_fault : Faults (small_header ++ 0 ∷ 0 ∷ 0 ∷ []) 90 NoEoc
another_marker_is_a_fault =
    refused_in (small_header ++ 0 ∷ 0 ∷ 0 ∷ []) 90 NoEoc (omega arith) (omega arith)
    (small_head 0, 0 ∷ 0 ∷ [], packed 0 small_header (0 ∷ 0 ∷ []) small_header_spells, (inl refl, (0, 0, [], refl, λ e. omega (arith, e.0))))

-- with Psot 14, where 15 is right, no byte after the packet is looked at
wrong_psot : IsPsotRight (small_head 14) 90 → ⊥
wrong_psot (inl e) = omega arith
wrong_psot (inr e) = omega arith

-- so it is refused there
pub a_wrong_psot_is_a_fault : Faults (header_14 ++ 0 ∷ []) 90 Psot
unfolding header_14
a_wrong_psot_is_a_fault =
    refused_in (header_14 ++ 0 ∷ []) 90 Psot (omega arith) (omega arith)
    (small_head 14, [], packed 14 header_14 [] header_14_spells, wrong_psot)

-- no bytes are an input of no codestream
pub no_bytes_are_an_input : IsInput [] []
no_bytes_are_an_input = record { whole = refl; each = tt; few = omega arith; within = omega arith }

-- the header, the empty packet and EOC are a codestream
pub an_empty_packet_is_a_codestream : SpellsCodestream (small_head 0) (nothing ∷ []) (small_header ++ (0 ∷ []) ++ 255 ∷ 217 ∷ [])
an_empty_packet_is_a_codestream = record {
  head = small_header;
  places = precinct 0 ∷ [];
  packets = 0 ∷ [];
  is_head = small_header_spells;
  order = one_order 0;
  are_packets = (0 ∷ [], [], empty 0, refl, refl);
  psot = inl refl;
  whole = refl;
}

-- and an input
pub one_codestream_is_an_input : IsInput (small_header ++ (0 ∷ []) ++ 255 ∷ 217 ∷ []) ((small_header ++ (0 ∷ []) ++ 255 ∷ 217 ∷ []) ∷ [])
one_codestream_is_an_input = record { whole = refl; each = ((small_head 0, nothing ∷ [], an_empty_packet_is_a_codestream), tt); few = omega arith; within = omega arith }
