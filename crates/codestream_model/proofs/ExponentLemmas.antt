-- The exponent of a number is the least whose power of two isn't below it.
use Rattle.std.proofs.Common.{◌≡◌, ◌<◌, ◌≤◌, ◌+◌, ◌/◌, ◌^◌, ℕ, zero, suc, true, false, nat_le, refl, inl, inr, arith}
use Rattle.std.proofs.lemmas.Bool.Decides.{leb_tells}
use Rattle.std.proofs.Math.Nat.{pow-suc}
use Rattle.codestream_model.specs.TagTrees.{halvings}
use Rattle.codestream_model.specs.PacketLaws.{ExponentIsLeast}

-- a number that needs no halving, and one that does
halved_none : (room n : ℕ) → nat_le n 1 ≡ true → halvings (suc room) n ≡ 0
unfolding halvings
halved_none room n e = rw (e, halvings) refl

halved_once : (room n : ℕ) → nat_le n 1 ≡ false → halvings (suc room) n ≡ suc (halvings room ((n + 1) / 2))
unfolding halvings
halved_once room n e = rw (e, halvings) refl

-- what halvings of the half say of the whole
halved_more : (room n e : ℕ) → 1 < n → n ≤ 2 ^ e → ((f : ℕ) → (n + 1) / 2 ≤ 2 ^ f → halvings room ((n + 1) / 2) ≤ f) → suc (halvings room ((n + 1) / 2)) ≤ e
halved_more room n zero h t f = absurd (omega arith)
halved_more room n (suc e) h t f = omega (arith, f e (omega (arith, pow-suc 2 e)))

-- halvings bring a number down to 1, and no fewer do
halved : (room n : ℕ) → n ≤ room → (n ≤ 2 ^ halvings room n) × ((e : ℕ) → n ≤ 2 ^ e → halvings room n ≤ e)
unfolding halvings
halved zero n h = (omega arith, λ e t. omega arith)
halved (suc room) n h = elim (leb_tells n 1) [
  | inl t ↦
      let small : n ≤ 1 = t.1 in
      rw (halved_none room n t.0) (omega arith, λ e f. omega arith)
  | inr t ↦
      let large : 1 < n = t.1 in
      let r = halved room ((n + 1) / 2) (omega arith) in
      let half : (n + 1) / 2 ≤ 2 ^ halvings room ((n + 1) / 2) = r.0 in
      rw (halved_once room n t.0) (omega (arith, half, pow-suc 2 (halvings room ((n + 1) / 2))), λ e f. halved_more room n e large f r.1)
]

-- the exponent
pub exponent_is_least : ExponentIsLeast
exponent_is_least n = halved n n (omega arith)
