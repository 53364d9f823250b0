-- Whether some receiver takes a datagram.
use Rattle.std.proofs.Common.{◌≡◌, ◌≤◌, ◌<◌, ◌+◌, inl, inr, ℕ, true, false, List, Some, length, get_or, nat_le, refl, sym, ◌∙◌, subst, arith}
use Rattle.std.specs.Prelude.{slice_get}
use Rattle.std.proofs.lemmas.Option.{slice_get_within, slice_get_read}
use Rattle.std.proofs.lemmas.Bool.Decides.{nat_tests}
use Rattle.thinning_relay.specs.Passing.{HasTaker}
use Rattle.thinning_relay.specs.declared.receiver.Receiver.{Receiver}
use Rattle.thinning_relay.proofs.Flushing.{at_or_below}

at_most : (a b : ℕ) → a ≤ b → nat_le a b ≡ true
at_most a b h = grind (arith, nat_tests)

above : (a b : ℕ) → b < a → nat_le a b ≡ false
above a b h = grind (arith, nat_tests)

pub one_takes : (level : ℕ) (rs : List Receiver) (i : ℕ) (r : Receiver) → i < length rs → r ≡ get_or rs i r → level ≤ r.limit → HasTaker level rs
one_takes level rs i r within at h = (i, r, slice_get_read rs (length rs) i r refl within at, at_most level r.limit h)

pub none_more : (level : ℕ) (rs : List Receiver) (i : ℕ) (r : Receiver) → i < length rs → r ≡ get_or rs i r → r.limit < level
    → ((j : ℕ) (x : Receiver) → j < i → slice_get rs j ≡ Some x → nat_le level x.limit ≡ false)
    → (j : ℕ) (x : Receiver) → j < i + 1 → slice_get rs j ≡ Some x → nat_le level x.limit ≡ false
none_more level rs i r within at h none j x below there = elim (at_or_below j i below) [
  | inl e ↦ (
      let Q : ℕ → Type 0 = λ n. slice_get rs n ≡ Some x in
      let f : Some r ≡ Some x = sym (slice_get_read rs (length rs) i r refl within at) ∙ subst Q e there in
      let same : r ≡ x = cc in
      let P : Receiver → Type 0 = λ y. nat_le level y.limit ≡ false in
      subst P same (above level r.limit h))
  | inr e ↦ none j x e there
]

pub none_at_all : (level : ℕ) (rs : List Receiver) (i : ℕ) → length rs ≤ i → ((j : ℕ) (x : Receiver) → j < i → slice_get rs j ≡ Some x → nat_le level x.limit ≡ false)
    → (j : ℕ) (x : Receiver) → slice_get rs j ≡ Some x → nat_le level x.limit ≡ false
none_at_all level rs i all none j x there = none j x (let w = slice_get_within rs j x there in omega arith) there
