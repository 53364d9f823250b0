-- Codestreams that can be sent: RES and PID of their precincts fit.
use Rattle.std.proofs.Common.{◌<◌, ◌≤◌, ◌^◌, ℕ, List, [], ◌∷◌, ◌++◌, length, refl, subst, arith, inl, inr}
use Rattle.std.specs.Prelude.{slice_index}
use Rattle.std.specs.List.{AllByRecursion, AllZip}
use Rattle.std.proofs.lemmas.Bool.{cases_lt}
use Rattle.std.proofs.lemmas.List.{get_or_append_left, get_or_past}
use Rattle.codestream_model.specs.Values.{Place}
use Rattle.codestream_model.specs.Bytes.{IsBytes}
use Rattle.codestream_model.specs.Precincts.{IsPrecinct}
use Rattle.codestream_model.specs.PacketOrder.{pid}
use Rattle.codestream_model.proofs.Members.{Has, contained_has}
use Rattle.codestream_model.proofs.HeaderLimits.{header_is_within_limits}
use Rattle.codestream_model.proofs.BytesLemmas.{bytes_front}
use Rattle.stream_model.specs.Stream.{Parts, ArePartsOf, bytes_after_sod}
use Rattle.stream_model.specs.Cut.{Plan, room}

-- its main header has room in a datagram, and RES and PID of its precincts fit
pub record IsSendable (p : Plan) (c : Parts) : Type 0 where
  pub fits : length c.header ≤ room p
  pub resolutions : AllByRecursion (λ q. q.r ≤ c.head.levels) c.places
  pub numbers : AllByRecursion (λ q. pid c.head q < 2 ^ 20) c.places

-- what holds of each member
each_member : {X : Type 0} (P : X → Type 0) (xs : List X) → ((x : X) → Has xs x → P x) → AllByRecursion P xs
each_member P [] h = tt
each_member P (x ∷ xs) h = (h x (inl refl), each_member P xs (λ y m. h y (inr m)))

sendable : (p : Plan) (c : Parts) (codestream : List ℕ) → ArePartsOf c codestream → IsBytes codestream → length c.header ≤ room p → IsSendable p c
sendable p c codestream a bytes fits =
    let whole : IsBytes (c.header ++ bytes_after_sod c) = let P : List ℕ → Type 0 = λ b. IsBytes b in subst P a.whole bytes in
    let limits = header_is_within_limits c.head c.header (bytes_front c.header (bytes_after_sod c) whole) a.is_head in
    let each : (q : Place) → Has c.places q → IsPrecinct c.head q = λ q m. (a.order.each q).0 (contained_has c.places q m) in
    record {
      fits = fits;
      resolutions = each_member (λ q. q.r ≤ c.head.levels) c.places (λ q m. (each q m).resolution);
      numbers = each_member (λ q. pid c.head q < 2 ^ 20) c.places (λ q m. limits.few_pids q (each q m));
    }

-- so can each of a list
pub all_sendable : (p : Plan) (parts : List Parts) (codestreams : List (List ℕ)) → AllZip (λ c codestream. ArePartsOf c codestream) parts codestreams → AllByRecursion IsBytes codestreams → AllByRecursion (λ c. length c.header ≤ room p) parts → AllByRecursion (IsSendable p) parts
all_sendable p [] [] a b f = tt
all_sendable p [] (x ∷ codestreams) a b f = absurd a
all_sendable p (c ∷ parts) [] a b f = absurd a
all_sendable p (c ∷ parts) (x ∷ codestreams) a b f = (sendable p c x a.0 b.0 f.0, all_sendable p parts codestreams a.1 b.1 f.1)
