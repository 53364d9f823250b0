-- What thinning leaves of the cut of a codestream of two packets of two resolutions.
use Rattle.std.specs.Prelude.{◌≡◌, ℕ, true, false, List, [], ◌∷◌, map, length}
use Rattle.std.proofs.Common.{refl, arith}
use Rattle.std.specs.List.{flat_map}
use Rattle.wire_model.proofs.Captures.{main_header_of_three, codestream_of_b}
use Rattle.codestream_model.specs.PacketOrder.{sum_below}
use Rattle.stream_model.specs.Cut.{Plan, sent_by}
use Rattle.stream_model.specs.Stream.{datagrams_of}
use Rattle.stream_model.specs.ThinnedLaws.{kept_positions, CanBeSent, cut_of, reached_through}
use Rattle.stream_model.proofs.WorkedCuts.{plan_of, header_of_levels, parts_of_levels}
use Rattle.stream_model.proofs.WorkedHeads.{header_of_three_samples_spells, order_of_three}
use Rattle.stream_model.proofs.WorkedStreams.{parts_of_three}
use Rattle.stream_model.proofs.CapturesAreStreams.{are_bytes, parts_are_of_three}

-- the resolutions of what is reached through what a limit leaves
abbrev pub reached_resolutions : Plan → ℕ → List ℕ
reached_resolutions p limit = map (λ x. x.place.r) (reached_through p (parts_of_levels ∷ []) limit 1)

-- in `split` mode a limit of 6 leaves the Main and the Body of the lower resolution, through which that is reached;
pub split_is_left : kept_positions 6 (cut_of (plan_of 1400 true) (parts_of_levels ∷ [])) ≡ 0 ∷ 1 ∷ []
unfolding sum_below header_of_levels
split_is_left = refl

pub split_is_reached : reached_resolutions (plan_of 1400 true) 6 ≡ 0 ∷ []
unfolding sum_below header_of_levels
split_is_reached = refl

-- in plain mode the one Body is left, through which the higher one is reached too;
pub plain_is_reached : reached_resolutions (plan_of 1400 false) 6 ≡ 0 ∷ 1 ∷ []
unfolding sum_below header_of_levels
plain_is_reached = refl

-- a limit of 5 leaves the Main alone, and one of 7 all
pub main_is_left : kept_positions 5 (cut_of (plan_of 1400 false) (parts_of_levels ∷ [])) ≡ 0 ∷ []
unfolding sum_below header_of_levels
main_is_left = refl

pub all_is_reached : reached_resolutions (plan_of 1400 true) 7 ≡ 0 ∷ 1 ∷ []
unfolding sum_below header_of_levels
all_is_reached = refl

-- three packets of the second capture can be sent, so the laws of thinning speak of them
pub three_can_be_sent : CanBeSent (plan_of 110 false) (parts_of_three ∷ []) (codestream_of_b ∷ [])
unfolding sum_below main_header_of_three codestream_of_b
three_can_be_sent =
    let header : length main_header_of_three ≡ 90 = refl in
    let count : length (flat_map datagrams_of (sent_by (plan_of 110 false) (parts_of_three ∷ []))) ≡ 5 = refl in
    record {
      plan = record { least_mtu = omega arith; greatest_mtu = omega arith; kind = omega arith; source = omega arith; number = omega arith; stamp = omega arith; some_step = omega arith; step = omega arith };
      are_parts = (parts_are_of_three header_of_three_samples_spells order_of_three, tt);
      bytes = (are_bytes codestream_of_b refl, tt);
      fit = (omega arith, tt);
      few = omega arith;
      short = omega arith;
    }
