-- Captures that are to be delivered.
use Rattle.std.specs.Prelude.{◌≡◌, ◌≤◌, ◌+◌, ◌⊎◌, ℕ, List, length}
use Rattle.delivery_model.specs.Delivering.{Range, most_delivered, DeliverRefusal, CaptureTooLong, CutFrame, NoSuchDatagram, DeliverRefuses, Delivers}
use Rattle.scl_run.specs.declared.ending.Reason.{Reason}
use Rattle.scl_run.specs.declared.ending.Reason.TheVariants as reason
use Rattle.scl_run.specs.declared.ending.Refusal.{Refusal}
use Rattle.scl_run.specs.InputClass.{InputClass}

-- The reason that is noted for each cause.
abbrev pub reason_for : DeliverRefusal → Reason
reason_for CaptureTooLong = reason.CaptureTooLong
reason_for CutFrame = reason.CutFrame
reason_for NoSuchDatagram = reason.NoSuchDatagram

-- The input is a capture that has all listed positions.
abbrev pub IsDelivered : List Range → List ℕ → Type 0
IsDelivered list input = (frames : List (List ℕ)) × Delivers list input frames

-- The input is refused at this place for this reason.
abbrev pub RefusesDelivery : List Range → List ℕ → Refusal → Type 0
RefusesDelivery list input r =
    (why : DeliverRefusal) × (r.reason ≡ reason_for why) × DeliverRefuses list input r.at why

-- The class of captures of which these positions are delivered: they are read to their end, or to
-- the first byte that is too many.
abbrev pub delivered_input : List Range → InputClass
delivered_input list = record {
  Accepts = IsDelivered list;
  Refuses = RefusesDelivery list;
  AcceptsAtEnd = Unit {0};
  RefusesAtEnd = λ why. (why ≡ reason.CutFrame) ⊎ (why ≡ reason.NoSuchDatagram);
  Wants = λ read. length read ≤ most_delivered;
  Fits = λ read. length read ≤ most_delivered + 1;
}
