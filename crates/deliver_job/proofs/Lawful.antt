-- A capture that is to be delivered has one verdict, which stays.
use Rattle.std.proofs.Common.{◌≡◌, ◌≤◌, ℕ, List, [], ◌++◌, length, sym, ◌∙◌, ap, subst, arith, inl, inr}
use Rattle.std.proofs.lemmas.List.{append-nil, length-append}
use Rattle.delivery_model.specs.Delivering.{Range, CaptureTooLong, CutFrame, NoSuchDatagram, most_delivered}
use Rattle.delivery_model.proofs.Delivered.{deliver_has_one_answer}
use Rattle.scl_run.specs.declared.ending.Refusal.{Refusal}
use Rattle.scl_run.specs.InputClass.{IsLawful}
use Rattle.scl_run.proofs.InputClassLaws.{same_refusal}
use Rattle.deliver_job.specs.DeliverInput.{reason_for, IsDelivered, RefusesDelivery, delivered_input}

one : (list : List Range) (input : List ℕ) (r : Refusal) → IsDelivered list input → RefusesDelivery list input r → ⊥
one list input r (frames, d) (why, is, h) = deliver_has_one_answer.not_both list input frames r.at why d h

one_refusal : (list : List Range) (input : List ℕ) (r q : Refusal) → RefusesDelivery list input r → RefusesDelivery list input q → r ≡ q
one_refusal list input r q (why, is, h) (other, also, k) =
    let same = deliver_has_one_answer.one_refusal list input r.at q.at why other h k in
    same_refusal r q same.0 (is ∙ (ap reason_for same.1 ∙ sym also))

-- what was read to its end is the input
to_end : (read rest : List ℕ) → rest ≡ [] → read ≡ read ++ rest
to_end read rest e = sym (ap (λ (l : List ℕ). read ++ l) e ∙ append-nil read)

accepted : (list : List Range) (read rest : List ℕ) → IsDelivered list read → (Unit {0} → rest ≡ []) → IsDelivered list (read ++ rest)
accepted list read rest a end = let P : List ℕ → Type 0 = λ l. IsDelivered list l in subst P (to_end read rest (end tt)) a

refused : (list : List Range) (read rest : List ℕ) (r : Refusal) → RefusesDelivery list read r → ((delivered_input list).RefusesAtEnd r.reason → rest ≡ []) → RefusesDelivery list (read ++ rest) r
refused list read rest r (CaptureTooLong, is, (long, at)) end = (CaptureTooLong, is, (omega (arith, long, length-append read rest), at))
refused list read rest r (CutFrame, is, h) end = let P : List ℕ → Type 0 = λ l. RefusesDelivery list l r in subst P (to_end read rest (end (inl is))) (CutFrame, is, h)
refused list read rest r (NoSuchDatagram, is, h) end = let P : List ℕ → Type 0 = λ l. RefusesDelivery list l r in subst P (to_end read rest (end (inr is))) (NoSuchDatagram, is, h)

waits_to_refuse : (list : List Range) (read : List ℕ) (r : Refusal) → length read ≤ most_delivered → RefusesDelivery list read r → (delivered_input list).RefusesAtEnd r.reason
waits_to_refuse list read r few (CaptureTooLong, is, (long, at)) = absurd (omega (arith, few, long))
waits_to_refuse list read r few (CutFrame, is, h) = inl is
waits_to_refuse list read r few (NoSuchDatagram, is, h) = inr is

pub delivered_inputs_are_lawful : (list : List Range) → IsLawful (delivered_input list)
delivered_inputs_are_lawful list = record {
  one = one list;
  one_refusal = one_refusal list;
  accepted = accepted list;
  refused = refused list;
  waits_to_accept = λ read wants a. tt;
  waits_to_refuse = waits_to_refuse list;
}
