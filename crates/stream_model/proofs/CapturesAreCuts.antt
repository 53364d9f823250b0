-- The two captures are the cuts of their codestreams, and an input that is one whole codestream fixes its cut.
use Rattle.std.specs.Prelude.{◌≡◌, ◌≤◌, ◌+◌, false, [], ◌∷◌, ◌++◌, length}
use Rattle.std.proofs.Common.{refl, sym, ap, ◌∙◌, inr, arith}
use Rattle.std.proofs.lemmas.List.{length-append}
use Rattle.wire_model.proofs.Captures.{main_header, main_header_of_three, main_of_a, body_of_a, codestream_of_b, main_of_b, first_body_of_b, second_body_of_b, third_body_of_b, last_body_of_b}
use Rattle.stream_model.specs.Cut.{IsCut, HasNoCodestream, HasNoHead, Closed}
use Rattle.codestream_model.specs.PacketOrder.{sum_below}
use Rattle.stream_model.proofs.WorkedHeads.{header_of_one_spells, header_of_three_samples_spells, order_of_one, order_of_three}
use Rattle.stream_model.proofs.WorkedStreams.{parts_of_one, parts_of_three}
use Rattle.stream_model.proofs.WorkedCuts.{plan_of, written_of_one, written_of_three}
use Rattle.stream_model.proofs.CapturesAreStreams.{codestream_of_one, parts_are_of_one, parts_are_of_three}

-- one packet in datagrams of 1,400 bytes
pub first_capture_is_a_cut : IsCut (plan_of 1400 false) (codestream_of_one ∷ []) (main_of_a ∷ body_of_a ∷ [])
unfolding main_header
first_capture_is_a_cut = (parts_of_one ∷ [], (parts_are_of_one header_of_one_spells order_of_one, tt), sym written_of_one)

-- three packets in datagrams of 110 bytes
pub second_capture_is_a_cut : IsCut (plan_of 110 false) (codestream_of_b ∷ []) (main_of_b ∷ first_body_of_b ∷ second_body_of_b ∷ third_body_of_b ∷ last_body_of_b ∷ [])
unfolding main_header_of_three
second_capture_is_a_cut = (parts_of_three ∷ [], (parts_are_of_three header_of_three_samples_spells order_of_three, tt), sym written_of_three)

-- no codestream is empty
none_in_nothing : HasNoCodestream []
none_in_nothing codestream more r e =
    let s = r.2 in
    let all : 0 ≡ length (codestream ++ more) = ap (λ xs. length xs) e in
    let parts : length (codestream ++ more) ≡ length codestream + length more = length-append codestream more in
    let whole : length codestream ≡ length s.head + length (s.packets ++ 255 ∷ 217 ∷ []) = ap (λ xs. length xs) s.whole ∙ length-append s.head (s.packets ++ 255 ∷ 217 ∷ []) in
    let end : length (s.packets ++ 255 ∷ 217 ∷ []) ≡ length s.packets + 2 = length-append s.packets (255 ∷ 217 ∷ []) in
    omega arith

-- nor is a main header
no_head_in_nothing : HasNoHead []
no_head_in_nothing h header more r e =
    let all : 0 ≡ length (header ++ more) = ap (λ xs. length xs) e in
    let parts : length (header ++ more) ≡ length header + length more = length-append header more in
    let some : 2 ≤ length header = rw r.whole (omega arith) in
    omega arith

-- so a whole codestream fixes its whole cut
pub whole_codestream_fixes_its_cut : Closed (plan_of 1400 false) codestream_of_one (main_of_a ∷ body_of_a ∷ [])
unfolding sum_below main_header main_of_a body_of_a
whole_codestream_fixes_its_cut = record {
  codestreams = codestream_of_one ∷ [];
  parts = parts_of_one ∷ [];
  rest = [];
  next = [];
  whole = refl;
  are_parts = (parts_are_of_one header_of_one_spells order_of_one, tt);
  few = omega arith;
  is_next = inr (omega arith, none_in_nothing, inr (no_head_in_nothing, refl));
  fixed = refl;
}
