-- Laws of what `deliver` writes and refuses.
use Rattle.std.specs.Prelude.{◌≡◌, ◌<◌, ◌≤◌, ◌⊎◌, ℕ, max, true, List, [], ◌∷◌, length, Some}
use Rattle.std.specs.List.{AllByRecursion}
use Rattle.wire_model.specs.Bytes.{IsBytes}
use Rattle.wire_model.specs.Framing.{framing}
use Rattle.delivery_model.specs.Delivering.{Range, positions_of, frames_at, deliver_output, first_missing, DeliverRefusal, DeliverRefuses, Delivers}

-- A capture is delivered or refused.
abbrev pub CapturesAreDeliveredOrRefused : Type 0
CapturesAreDeliveredOrRefused =
    (list : List Range) (input : List ℕ) → IsBytes input
    → ((frames : List (List ℕ)) × Delivers list input frames)
    ⊎ ((at : ℕ) × (why : DeliverRefusal) × DeliverRefuses list input at why)

-- Never both, and it is refused at one place and for one reason.
pub record DeliverHasOneAnswer : Type 0 where
  pub one_refusal :
      (list : List Range) (input : List ℕ) (at place : ℕ) (why reason : DeliverRefusal)
      → DeliverRefuses list input at why → DeliverRefuses list input place reason
      → (at ≡ place) × (why ≡ reason)
  pub not_both :
      (list : List Range) (input : List ℕ) (frames : List (List ℕ)) (at : ℕ) (why : DeliverRefusal)
      → Delivers list input frames → DeliverRefuses list input at why → ⊥

-- Of a capture that is delivered the listed frames are written, each position within the capture.
abbrev pub DeliveredAreListed : Type 0
DeliveredAreListed =
    (list : List Range) (input : List ℕ) (frames : List (List ℕ)) → Delivers list input frames
    → (deliver_output list input true ≡ framing (frames_at (positions_of list) frames))
    × AllByRecursion (λ i. i < length frames) (positions_of list)

-- Of one range that passes the last frame, the first missing position is its first one, or the
-- number of frames, whichever is greater.
abbrev pub MissingIsGreater : Type 0
MissingIsGreater =
    (r : Range) (frames : ℕ) → r.first ≤ r.last → frames ≤ r.last
    → first_missing (r ∷ []) frames ≡ Some (max r.first frames)
