-- Receivers that are made one after another.
use Rattle.std.proofs.Common.{◌≡◌, ◌<◌, ◌+◌, ◌++◌, inl, inr, ℕ, zero, suc, List, [], ◌∷◌, Some, length, get_or, refl, sym, ◌∙◌, ap, subst, arith, length-append}
use Rattle.std.specs.Prelude.{slice_get}
use Rattle.std.proofs.lemmas.Option.{slice_get_within}
use Rattle.thinning_relay.specs.Numbered.{AreNumbered}
use Rattle.thinning_relay.specs.Relaying.{IsNewReceiver, AreNew}
use Rattle.thinning_relay.specs.declared.receiver.Receiver.{Receiver}
use Rattle.thinning_relay.specs.declared.relay.Peer.{Peer}
use Rattle.thinning_relay.proofs.Flushing.{get_at, at_or_below}

-- the receivers of the first peers are made
pub record Made (i : ℕ) (peers : List Peer) (rs : List Receiver) : Type 0 where
  pub count : length rs ≡ i
  pub each : (j : ℕ) (p : Peer) (r : Receiver) → slice_get peers j ≡ Some p → slice_get rs j ≡ Some r → IsNewReceiver p r
  pub numbered : AreNumbered rs

pub made_none : (peers : List Peer) (rs : List Receiver) → rs ≡ [] → Made 0 peers rs
made_none peers rs e = let P : List Receiver → Type 0 = λ l. Made 0 peers l in subst P (sym e) (record { count = refl; each = λ j p r h k. absurd (cc); numbered = λ j r h. absurd (cc) })

pushed_at : {A : Type 0} (xs : List A) (x : A) → slice_get (xs ++ x ∷ []) (length xs) ≡ Some x
pushed_at [] x = refl
pushed_at (y ∷ xs) x = pushed_at xs x

pushed_below : {A : Type 0} (xs : List A) (x : A) (j : ℕ) → j < length xs → slice_get (xs ++ x ∷ []) j ≡ slice_get xs j
pushed_below [] x j h = absurd (omega arith)
pushed_below (y ∷ xs) x zero h = refl
pushed_below (y ∷ xs) x (suc j) h = pushed_below xs x j (omega arith)

pub made_more : (i : ℕ) (peers : List Peer) (rs now : List Receiver) (p : Peer) (r : Receiver) → now ≡ rs ++ r ∷ [] → slice_get peers i ≡ Some p → IsNewReceiver p r → r.queue.peer ≡ i → Made i peers rs → Made (i + 1) peers now
made_more i peers rs now p r e at new number m = let P : List Receiver → Type 0 = λ l. Made (i + 1) peers l in subst P (sym e) (record {
  count = (let k = m.count in length-append rs (r ∷ []) ∙ (let h : length rs + 1 ≡ i + 1 = omega arith in h));
  each = each;
  numbered = numbered;
}) where
  size : (j : ℕ) (x : Receiver) → slice_get (rs ++ r ∷ []) j ≡ Some x → j < i + 1
  size j x h = let w = slice_get_within (rs ++ r ∷ []) j x h in let l = length-append rs (r ∷ []) in let k = m.count in omega arith

  last : (x : Receiver) → slice_get (rs ++ r ∷ []) i ≡ Some x → r ≡ x
  last x h =
      let Q : ℕ → Type 0 = λ n. slice_get (rs ++ r ∷ []) n ≡ Some x in
      let f : Some r ≡ Some x = sym (pushed_at rs r) ∙ subst Q (sym m.count) h in
      cc

  below : (j : ℕ) → j < i → slice_get (rs ++ r ∷ []) j ≡ slice_get rs j
  below j h = pushed_below rs r j (let k = m.count in omega arith)

  each : (j : ℕ) (a : Peer) (x : Receiver) → slice_get peers j ≡ Some a → slice_get (rs ++ r ∷ []) j ≡ Some x → IsNewReceiver a x
  each j a x h k = elim (at_or_below j i (size j x k)) [
    | inl f ↦ (
        let Q : ℕ → Type 0 = λ n. slice_get (rs ++ r ∷ []) n ≡ Some x in
        let R : ℕ → Type 0 = λ n. slice_get peers n ≡ Some a in
        let pa : Some p ≡ Some a = sym at ∙ subst R f h in
        let same : p ≡ a = cc in
        let new_x : r ≡ x = last x (subst Q f k) in
        let A : Peer → Type 0 = λ y. IsNewReceiver y x in
        let B : Receiver → Type 0 = λ y. IsNewReceiver p y in
        subst A same (subst B new_x new))
    | inr f ↦ m.each j a x h (sym (below j f) ∙ k)
  ]

  numbered : AreNumbered (rs ++ r ∷ [])
  numbered j x k = elim (at_or_below j i (size j x k)) [
    | inl f ↦ (
        let Q : ℕ → Type 0 = λ n. slice_get (rs ++ r ∷ []) n ≡ Some x in
        let new_x : r ≡ x = last x (subst Q f k) in
        ap (λ (y : Receiver). y.queue.peer) (sym new_x) ∙ (number ∙ sym f))
    | inr f ↦ m.numbered j x (sym (below j f) ∙ k)
  ]

pub all_made : (i : ℕ) (peers : List Peer) (rs : List Receiver) → i ≡ length peers → Made i peers rs → AreNew peers rs
all_made i peers rs e m = record { count = m.count ∙ e; each = m.each }

-- a peer's place in the list of peers
pub peer_at : (peers : List Peer) (i : ℕ) (d : Peer) → i < length peers → slice_get peers i ≡ Some (get_or peers i d)
peer_at peers i d h = get_at peers i d h
