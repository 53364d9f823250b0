-- Bits that are in bytes: one byte more, and one bit more.
use Rattle.std.proofs.Common.{◌≡◌, ◌<◌, ◌⊎◌, ◌+◌, ℕ, zero, suc, Bool, List, [], ◌∷◌, ◌++◌, length, Some, refl, sym, ◌∙◌, ap, inl, inr, arith, append_assoc}
use Rattle.std.proofs.lemmas.List.{append-nil, length-append, take_at, take-append-le}
use Rattle.codestream_model.specs.Bytes.{IsBytes}
use Rattle.codestream_model.specs.StuffedBits.{IsStuffed, number_bits, width_after, carried_after, carried}
use Rattle.codestream_model.proofs.PackingLemmas.{last_after, carried-append, bytes-cons, bytes-nil, stuffed-cons, stuffed-nil}
use Rattle.codestream_model.proofs.HeaderLemmas.{stuffed_tail}
use Rattle.stuffed_bits.specs.Carried.{last_from, last_of, before_next, Carries, Begun}

-- the last of bytes, as the model of packing has it
pub same_last : (before : ℕ) (bytes : List ℕ) → last_after before bytes ≡ last_from before bytes
unfolding last_after last_from
same_last before [] = refl
same_last before (b ∷ bytes) = same_last b bytes

-- the byte before the next one
pub before_last : (bytes : List ℕ) → before_next (last_of bytes) ≡ last_from 0 bytes
unfolding last_from
before_last [] = refl
before_last (b ∷ bytes) = refl

-- the last of bytes with one more
pub last-push : (before : ℕ) (bytes : List ℕ) (b : ℕ) → last_from before (bytes ++ b ∷ []) ≡ b
unfolding last_from
last-push before [] b = refl
last-push before (x ∷ bytes) b = last-push x bytes b

pub last_of-push : (bytes : List ℕ) (b : ℕ) → last_of (bytes ++ b ∷ []) ≡ Some b
unfolding last_from
last_of-push [] b = refl
last_of-push (x ∷ bytes) b = ap Some (last-push x bytes b)

-- the bits of bytes with one more
pub carried-one : (bytes : List ℕ) (b : ℕ) → carried (bytes ++ b ∷ []) ≡ carried bytes ++ number_bits (width_after (last_from 0 bytes)) b
unfolding carried_after
carried-one bytes b =
    let e : last_after 0 bytes ≡ last_from 0 bytes = same_last 0 bytes in
    carried-append 0 bytes (b ∷ []) ∙ rw (e, append-nil (number_bits (width_after (last_from 0 bytes)) b)) refl

-- bytes with one more
pub bytes-push : (bytes : List ℕ) (b : ℕ) → IsBytes bytes → b < 256 → IsBytes (bytes ++ b ∷ [])
bytes-push [] b t h = bytes-cons b [] h bytes-nil
bytes-push (x ∷ bytes) b t h = bytes-cons x (bytes ++ b ∷ []) (t 0) (bytes-push bytes b (λ i. t (suc i)) h)

-- stuffed bytes with one more
pub stuffed-push : (bytes : List ℕ) (b : ℕ) → IsStuffed bytes → (last_from 0 bytes ≡ 255 → b < 128) → IsStuffed (bytes ++ b ∷ [])
unfolding last_from
stuffed-push [] b t h = stuffed-cons b [] (λ e. omega arith) stuffed-nil
stuffed-push (x ∷ []) b t h = stuffed-cons x (b ∷ []) h (stuffed-cons b [] (λ e. omega arith) stuffed-nil)
stuffed-push (x ∷ y ∷ bytes) b t h = stuffed-cons x (y ∷ (bytes ++ b ∷ [])) (t 0) (stuffed-push (y ∷ bytes) b (stuffed_tail x (y ∷ bytes) t) h)

-- bytes without the last one
pub bytes_less : (bytes : List ℕ) (b : ℕ) → IsBytes (bytes ++ b ∷ []) → IsBytes bytes × (b < 256)
bytes_less [] b t = (bytes-nil, t 0)
bytes_less (x ∷ bytes) b t = let r = bytes_less bytes b (λ i. t (suc i)) in (bytes-cons x bytes (t 0) r.0, r.1)

-- stuffed bytes without the last one
pub stuffed_less : (bytes : List ℕ) (b : ℕ) → IsStuffed (bytes ++ b ∷ []) → IsStuffed bytes × (last_from 0 bytes ≡ 255 → b < 128)
unfolding last_from
stuffed_less [] b t = (stuffed-nil, λ e. absurd (omega arith))
stuffed_less (x ∷ []) b t = (stuffed-cons x [] (λ e. omega arith) stuffed-nil, t 0)
stuffed_less (x ∷ y ∷ bytes) b t = let r = stuffed_less (y ∷ bytes) b (stuffed_tail x (y ∷ (bytes ++ b ∷ [])) t) in (stuffed-cons x (y ∷ bytes) (t 0) r.0, r.1)

-- no byte was begun
pub none_begun : (bits spare : List Bool) (bytes : List ℕ) → Carries bits spare bytes → Begun bits spare bytes
none_begun bits spare bytes s = record {
  each = s.each;
  stuffed = s.stuffed;
  filled = s.filled;
  needed = λ n h. omega (arith, s.needed n h);
}

-- below one more is below, or the last
below_or_last : (n m : ℕ) → n < m + 1 → (n < m) ⊎ (n ≡ m)
below_or_last n zero h = inr (omega arith)
below_or_last zero (suc m) h = inl (omega arith)
below_or_last (suc n) (suc m) h = elim (below_or_last n m (omega arith)) [ inl t ↦ inl (omega arith) | inr t ↦ inr (omega arith) ]

-- the next byte is begun
pub begins : (bits : List Bool) (bytes : List ℕ) (b : ℕ) → Carries bits [] bytes → b < 256 → (last_from 0 bytes ≡ 255 → b < 128)
    → Begun bits (number_bits (width_after (last_from 0 bytes)) b) (bytes ++ b ∷ [])
begins bits bytes b s small low =
    let whole : carried bytes ≡ bits = s.filled ∙ append-nil bits in
    record {
      each = bytes-push bytes b s.each small;
      stuffed = stuffed-push bytes b s.stuffed low;
      filled = carried-one bytes b ∙ rw whole refl;
      needed = λ n h. elim (below_or_last n (length bytes) (omega (arith, length-append bytes (b ∷ [])))) [
        | inl t ↦ rw (take-append-le n bytes (b ∷ []) (omega arith)) (omega (arith, s.needed n t))
        | inr t ↦ rw (take_at bytes (b ∷ []) n (sym t)) (omega (arith, ap length whole))
      ];
    }

-- the first spare bit is taken
pub takes : (bits : List Bool) (d : Bool) (spare : List Bool) (bytes : List ℕ) → Begun bits (d ∷ spare) bytes → Carries (bits ++ d ∷ []) spare bytes
takes bits d spare bytes s = record {
  each = s.each;
  stuffed = s.stuffed;
  filled = s.filled ∙ sym (append_assoc bits (d ∷ []) spare);
  needed = λ n h. omega (arith, s.needed n h, length-append bits (d ∷ []));
}

-- no bits are in no bytes
pub none_carried : Carries [] [] []
unfolding carried_after
none_carried = record { each = bytes-nil; stuffed = stuffed-nil; filled = refl; needed = λ n h. absurd (omega arith) }
