-- Worked values of what is defined by a relation: a main header, one that is refused, and the numbers of precincts.
use Rattle.std.specs.Prelude.{◌≡◌, ◌≢◌, ◌==◌, ℕ, zero, suc, true, false, List, [], ◌∷◌, slice_set, take, nat_lt, Result, Ok, Err, MatchResult}
use Rattle.std.specs.List.{list_all, list_any}
use Rattle.std.proofs.Common.{refl, subst, arith}
use Rattle.std.proofs.lemmas.Bool.{and_parts, ltb-true, eq-eqb}
use Rattle.codestream_model.specs.Values.{Head, Place}
use Rattle.codestream_model.specs.Bytes.{IsBytes}
use Rattle.codestream_model.specs.Precincts.{IsPrecinct}
use Rattle.codestream_model.specs.PacketOrder.{pid, packet_order}
use Rattle.codestream_model.specs.HeadRefusals.{Sop}
use Rattle.codestream_model.specs.MainHeader.{SpellsHead}
use Rattle.codestream_model.specs.RefusedHeader.{RefusesHead}
use Rattle.codestream_model.specs.MainHeaderReading.{Refused, head_of}
use Rattle.codestream_model.specs.GeometryLaws.{HasSteps}
use Rattle.codestream_model.proofs.Headers.{small_header, header_of_three, header_of_two_components}
use Rattle.codestream_model.proofs.WorkedGeometry.{two_components, plain_head, pid_11}
use Rattle.codestream_model.proofs.WorkedHeaders.{small_header_is_read, header_of_three_is_read, header_of_two_components_is_read, sop}
use Rattle.codestream_model.proofs.Members.{Has, has_contained}
use Rattle.codestream_model.proofs.Numbers.{has_any}
use Rattle.codestream_model.proofs.Orders.{packet_order_is_computed}
use Rattle.codestream_model.proofs.HeaderJudged.{headers_are_judged}

-- a list that passes a test of bytes is one of bytes
pub bytes_if_tested : (b : List ℕ) → list_all (λ x. nat_lt x 256) b ≡ true → IsBytes b
bytes_if_tested [] e i = omega arith
bytes_if_tested (x ∷ b) e zero = ltb-true x 256 (and_parts (nat_lt x 256) (list_all (λ (y : ℕ). nat_lt y 256) b) e).0
bytes_if_tested (x ∷ b) e (suc i) = bytes_if_tested b (and_parts (nat_lt x 256) (list_all (λ (y : ℕ). nat_lt y 256) b) e).1 i

-- bytes that are read as a header are one
pub spells_if_read : (b : List ℕ) (h : Head) → IsBytes b → head_of b ≡ Ok h → SpellsHead h (take h.length b)
spells_if_read b h fits e =
    let P : Result Head Refused → Type 0 = λ x. MatchResult x (λ g. SpellsHead g (take g.length b)) (λ r. RefusesHead b r.at r.why) in
    subst P e (headers_are_judged b fits)

-- and bytes that are refused are so
pub refuses_if_read : (b : List ℕ) (r : Refused) → IsBytes b → head_of b ≡ Err r → RefusesHead b r.at r.why
refuses_if_read b r fits e =
    let P : Result Head Refused → Type 0 = λ x. MatchResult x (λ g. SpellsHead g (take g.length b)) (λ s. RefusesHead b s.at s.why) in
    subst P e (headers_are_judged b fits)

-- the small header spells its values,
pub small_header_spells : SpellsHead (plain_head 0 1 1 15 75 89) small_header
small_header_spells = spells_if_read small_header (plain_head 0 1 1 15 75 89) (bytes_if_tested small_header refl) small_header_is_read

-- that of three samples its own,
pub header_of_three_spells : SpellsHead (plain_head 0 3 1 0 76 90) header_of_three
header_of_three_spells = spells_if_read header_of_three (plain_head 0 3 1 0 76 90) (bytes_if_tested header_of_three refl) header_of_three_is_read

-- that of two components its own too,
pub header_of_two_components_spells : SpellsHead two_components header_of_two_components
unfolding two_components
header_of_two_components_spells = spells_if_read header_of_two_components two_components (bytes_if_tested header_of_two_components refl) header_of_two_components_is_read

-- and with the bit of SOP set the small one is refused at COD
pub small_header_with_sop : RefusesHead (slice_set small_header 59 2) 55 Sop
small_header_with_sop = refuses_if_read (slice_set small_header 59 2) (record { at = 55; why = Sop }) (bytes_if_tested (slice_set small_header 59 2) refl) sop

-- no precinct of two components has the number 11
steps_of_two : HasSteps two_components
unfolding two_components
steps_of_two zero d lt = (omega arith, omega arith)
steps_of_two (suc zero) d lt = (omega arith, omega arith)
steps_of_two (suc (suc k)) d lt = absurd (omega arith)

-- no precinct of two components has the number 11
pub no_precinct_has_11 : (p : Place) → IsPrecinct two_components p → pid two_components p ≢ 11
no_precinct_has_11 p a e =
    let there : Has (packet_order two_components) p = has_contained (packet_order two_components) p (((packet_order_is_computed two_components steps_of_two).each p).1 a) in
    let found : list_any (λ q. pid two_components q == 11) (packet_order two_components) ≡ true = has_any (λ q. pid two_components q == 11) (packet_order two_components) p there (eq-eqb (pid two_components p) 11 e) in
    let neither : list_any (λ q. pid two_components q == 11) (packet_order two_components) ≡ false = pid_11 in
    absurd (cc)
