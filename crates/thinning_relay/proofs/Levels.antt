-- What the least limit of a datagram says of it.
use Rattle.std.proofs.Common.{◌≡◌, ◌&&◌, ℕ, Bool, true, false, List, Option, Some, None, nat_le, refl, sym, ◌∙◌, ap, subst, arith, if◌then◌else◌}
use Rattle.std.specs.Prelude.{slice_get}
use Rattle.std.proofs.lemmas.Bool.Decides.{nat_tests}
use Rattle.wire_model.specs.Payload.{PayloadFields, Main, Body}
use Rattle.wire_model.specs.Datagram.{is_well_formed, datagram_of}
use Rattle.wire_model.specs.Thinning.{is_kept, is_within}
use Rattle.polled_datagrams.specs.Sending.{depth_of}
use Rattle.thinning_relay.specs.Receivers.{count_after, queued, queue_after}
use Rattle.thinning_relay.specs.Levels.{IsLevel}
use Rattle.thinning_relay.specs.Passing.{kept_of, PassesOn, PassedOn, HasTaker, IsKeptBySome}
use Rattle.thinning_relay.specs.declared.receiver.Receiver.{Receiver}

both : (a b : Bool) → (a && b) ≡ true → (a ≡ true) × (b ≡ true)
both true b e = (refl, e)
both false b e = absurd (cc)

first_false : (a b : Bool) → b ≡ true → (a && b) ≡ false → a ≡ false
first_false true b e f = sym e ∙ f
first_false false b e f = refl

own_least : (n : ℕ) → nat_le n n ≡ true
own_least n = grind (arith, nat_tests)

-- some limit keeps a payload
kept_by_own : (p : PayloadFields) → (n : ℕ) × (is_within n p ≡ true)
kept_by_own (Main h) = (0, refl)
kept_by_own (Body h) = (h.res, own_least h.res)

-- a datagram with a least limit is well formed
pub formed : (d : List ℕ) (level : ℕ) → IsLevel d (Some level) → is_well_formed d ≡ true
formed d level is = (both (is_well_formed d) (is_within level (datagram_of d).payload) (is level ∙ own_least level)).0

-- and one without isn't
pub not_formed : (d : List ℕ) → IsLevel d None → is_well_formed d ≡ false
not_formed d is = let k = kept_by_own (datagram_of d).payload in first_false (is_well_formed d) (is_within k.0 (datagram_of d).payload) k.1 (is k.0)

-- a datagram that no limit keeps changes no receiver
pub none_takes : (d : List ℕ) (rs : List Receiver) → ((j : ℕ) (r : Receiver) → slice_get rs j ≡ Some r → is_kept r.limit d ≡ false) → PassesOn (Some d) rs rs
none_takes d rs none = record { count = refl; each = λ j r q h k. each j r q h k } where
  own : (r : Receiver) → is_kept r.limit d ≡ false → PassedOn (Some d) r r
  own r e =
      let gone : kept_of r.limit (Some d) ≡ None = ap (λ (b : Bool). if b then Some d else None) e in record {
        queue = sym (ap (λ (o : Option (List ℕ)). queue_after (depth_of r.queue) o (queued r)) gone);
        lost = rw gone (let h : r.lost ≡ count_after r.lost 0 = omega arith in h);
        sent = refl;
        failed = refl;
        keeps = record { limit = refl; queue = record { peer = refl; depth = refl } };
      }

  each : (j : ℕ) (r q : Receiver) → slice_get rs j ≡ Some r → slice_get rs j ≡ Some q → PassedOn (Some d) r q
  each j r q h k =
      let same : Some r ≡ Some q = sym h ∙ k in
      let e : r ≡ q = cc in
      let P : Receiver → Type 0 = λ x. PassedOn (Some d) r x in
      subst P e (own r (none j r h))

pub unwanted : (d : List ℕ) (level : ℕ) (rs : List Receiver) → IsLevel d (Some level) → ((j : ℕ) (r : Receiver) → slice_get rs j ≡ Some r → nat_le level r.limit ≡ false) → PassesOn (Some d) rs rs
unwanted d level rs is none = none_takes d rs (λ j r h. is r.limit ∙ none j r h)

pub refused : (d : List ℕ) (rs : List Receiver) → IsLevel d None → PassesOn (Some d) rs rs
refused d rs is = none_takes d rs (λ j r h. is r.limit)

pub wanted : (d : List ℕ) (level : ℕ) (rs : List Receiver) → IsLevel d (Some level) → HasTaker level rs → IsKeptBySome d rs
wanted d level rs is (j, r, there, kept) = (j, r, there, is r.limit ∙ kept)

-- a datagram that some limit keeps is well formed
pub wanted_formed : (d : List ℕ) (rs : List Receiver) → IsKeptBySome d rs → is_well_formed d ≡ true
wanted_formed d rs (j, r, there, kept) = (both (is_well_formed d) (is_within r.limit (datagram_of d).payload) kept).0
