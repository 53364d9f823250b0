-- The main headers of the two captures, and the packets of their images in order.
use Rattle.std.specs.Prelude.{◌≡◌, zero, suc, List, [], ◌∷◌}
use Rattle.std.proofs.Common.{refl, subst, arith}
use Rattle.wire_model.proofs.Captures.{main_header, main_header_of_three}
use Rattle.codestream_model.specs.Values.{Place}
use Rattle.codestream_model.specs.MainHeader.{SpellsHead}
use Rattle.codestream_model.specs.PacketOrder.{sum_below, placed, sorted, packet_order, pid, IsPacketOrder}
use Rattle.codestream_model.specs.GeometryLaws.{HasSteps}
use Rattle.codestream_model.proofs.Orders.{packet_order_is_computed}
use Rattle.codestream_model.proofs.WorkedGeometry.{one_sample, three_samples}
use Rattle.codestream_model.proofs.WorkedPackets.{precinct}
use Rattle.codestream_model.proofs.WorkedRelations.{small_header_spells, header_of_three_spells}

pub header_of_one_spells : SpellsHead one_sample main_header
unfolding main_header
header_of_one_spells = small_header_spells

pub header_of_three_samples_spells : SpellsHead three_samples main_header_of_three
unfolding main_header_of_three
header_of_three_samples_spells = header_of_three_spells

-- the only component of each is sampled at each place
steps_of_one : HasSteps one_sample
steps_of_one zero d lt = (omega arith, omega arith)
steps_of_one (suc k) d lt = absurd (omega arith)

steps_of_three : HasSteps three_samples
steps_of_three zero d lt = (omega arith, omega arith)
steps_of_three (suc k) d lt = absurd (omega arith)

order_of_one_is : packet_order one_sample ≡ precinct 0 ∷ []
unfolding placed sorted
order_of_one_is = refl

order_of_three_is : packet_order three_samples ≡ precinct 0 ∷ precinct 1 ∷ precinct 2 ∷ []
unfolding placed sorted
order_of_three_is = refl

pub order_of_one : IsPacketOrder one_sample (precinct 0 ∷ [])
order_of_one = let P : List Place → Type 0 = λ places. IsPacketOrder one_sample places in subst P order_of_one_is (packet_order_is_computed one_sample steps_of_one)

pub order_of_three : IsPacketOrder three_samples (precinct 0 ∷ precinct 1 ∷ precinct 2 ∷ [])
order_of_three = let P : List Place → Type 0 = λ places. IsPacketOrder three_samples places in subst P order_of_three_is (packet_order_is_computed three_samples steps_of_three)

-- their numbers
pub pid_of_one : 0 ≡ pid one_sample (precinct 0)
unfolding sum_below
pid_of_one = refl

pub first_pid_of_three : 0 ≡ pid three_samples (precinct 0)
unfolding sum_below
first_pid_of_three = refl

pub second_pid_of_three : 1 ≡ pid three_samples (precinct 1)
unfolding sum_below
second_pid_of_three = refl

pub third_pid_of_three : 2 ≡ pid three_samples (precinct 2)
unfolding sum_below
third_pid_of_three = refl
