-- Shares that are given to receivers one after another.
use Rattle.std.proofs.Common.{◌≡◌, ◌≤◌, ◌<◌, ◌⊎◌, inl, inr, ℕ, List, Some, length, refl, sym, ◌∙◌, subst, arith}
use Rattle.std.specs.List.{slice_get}
use Rattle.std.proofs.lemmas.Bool.Decides.{nat_tests}
use Rattle.thinning_relay.specs.Receivers.{share_of}
use Rattle.thinning_relay.specs.Passing.{SameReceiver, SameButShare, SharesAll, share_at}
use Rattle.thinning_relay.specs.declared.receiver.Receiver.{Receiver}
use Rattle.thinning_relay.proofs.Loops.{Changing, changed}

-- a receiver that has its share, and is as it was in all else
pub record Shared (level : ℕ) (d : List ℕ) (r q : Receiver) : Type 0 where
  pub same : SameReceiver r q
  pub share : share_of q ≡ share_at level d r.limit

same_self : (r : Receiver) → SameReceiver r r
same_self r = record { limit = refl; queue = refl; sent = refl; lost = refl; failed = refl }

below_or : (j i : ℕ) → (j < i) ⊎ (i ≤ j)
below_or j i = grind (arith, nat_tests)

-- wherever the loop stops
pub stopped : (level : ℕ) (d : List ℕ) (i : ℕ) (rs qs : List Receiver) → Changing (Shared level d) i rs qs → SameButShare rs qs
stopped level d i rs qs f = record { count = f.count; each = each } where
  equal : (j : ℕ) → i ≤ j → (r q : Receiver) → slice_get rs j ≡ Some r → slice_get qs j ≡ Some q → SameReceiver r q
  equal j above r q h k =
      let e : Some r ≡ Some q = sym h ∙ (sym (f.same j above) ∙ k) in
      let g : r ≡ q = cc in
      let P : Receiver → Type 0 = λ x. SameReceiver r x in subst P g (same_self r)

  each : (j : ℕ) (r q : Receiver) → slice_get rs j ≡ Some r → slice_get qs j ≡ Some q → SameReceiver r q
  each j r q h k = elim (below_or j i) [ inl below ↦ (f.each j below r q h k).same | inr above ↦ equal j above r q h k ]

pub all_shared : (level : ℕ) (d : List ℕ) (i : ℕ) (rs qs : List Receiver) → length rs ≤ i → Changing (Shared level d) i rs qs → SharesAll level d rs qs
all_shared level d i rs qs all f = record { same = stopped level d i rs qs f; each = λ j r q h k. (changed (Shared level d) i rs qs all f j r q h k).share }
