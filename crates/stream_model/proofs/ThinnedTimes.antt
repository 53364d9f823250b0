-- Positions that are kept arrive in order, so each is in time; and a position is kept where its datagram is.
use Rattle.std.proofs.Common.{◌≡◌, ◌<◌, ◌≤◌, ◌⊎◌, ◌+◌, ◌-◌, ℕ, zero, suc, Bool, true, false, cond, List, [], ◌∷◌, ◌++◌, length, refl, sym, ap, ◌∙◌, inl, inr, arith}
use Rattle.std.specs.Prelude.{◌==◌, ◌&&◌, ◌||◌, nat_le, nat_lt}
use Rattle.std.specs.List.{AllZip, filter, range_with_len}
use Rattle.std.proofs.lemmas.Bool.{cases_lt, eqb-true, lt-ltb, le-leb}
use Rattle.wire_model.specs.Thinning.{is_within, is_kept}
use Rattle.wire_model.specs.Datagram.{Datagram, IsDatagram, datagram_of, is_well_formed}
use Rattle.wire_model.proofs.DatagramLaws.{datagram_is_computed}
use Rattle.wire_model.proofs.RtpLaws.{rtp_is_read_one_way}
use Rattle.wire_model.proofs.PayloadLaws.{payload_is_read_one_way}
use Rattle.stream_model.specs.Arrivals.{datagram_at, has_arrived, first_arrival, highest_arrival, in_time, positions_in_time}
use Rattle.stream_model.specs.ThinnedLaws.{kept_positions, KeptIsInTime}
use Rattle.stream_model.proofs.InTime.{clear, clear-cons, arrived_or_not, parts}
use Rattle.stream_model.proofs.Bases.{not_true}
use Rattle.stream_model.proofs.InOrder.{differ, no_test, three}
use Rattle.stream_model.proofs.Bases.{in_time-le-highest}

above_by : (a i : ℕ) → a ≤ i → (a ≡ i → ⊥) → a + 1 ≤ i
above_by a i low n = grind arith

above : (a i : ℕ) → a ≤ i → (a == i) ≡ false → a + 1 ≤ i
above a i low e = above_by a i low (differ a i e)

or_step : (c d : Bool) → (c ≡ false → d ≡ true) → (c || d) ≡ true
or_step true d h = refl
or_step false d h = h refl

-- where a number passes, it is in what is left of a range
other : (a i : ℕ) → (a ≡ i → false ≡ true) → (a == i) ≡ false
other a i e = no_test a i (λ s. let t : false ≡ true = e s in cc)

arrived_step : (a i : ℕ) (xs : List ℕ) (b : Bool) → (a ≡ i → b ≡ true) → ((a == i) ≡ false → has_arrived xs i ≡ true) → has_arrived (cond b (a ∷ xs) xs) i ≡ true
arrived_step a i xs true e h = or_step (a == i) (has_arrived xs i) h
arrived_step a i xs false e h = h (other a i e)

filter_arrived : (q : ℕ → Bool) (a n i : ℕ) → q i ≡ true → a ≤ i → i < a + n → has_arrived (filter q (range_with_len a n)) i ≡ true
filter_arrived q a zero i t low high = absurd (omega arith)
filter_arrived q a (suc n) i t low high =
    arrived_step a i (filter q (range_with_len (a + 1) n)) (q a) (λ s. ap q s ∙ t) (λ e. filter_arrived q (a + 1) n i t (above a i low e) (omega arith))

-- none before it is ahead of it
clear_choice : (b c d : Bool) → c ≡ true → (b ≡ false → d ≡ true) → cond b true (c && d) ≡ true
clear_choice true c d h k = refl
clear_choice false true d h k = k refl
clear_choice false false d h k = absurd (cc)

clear_step : (a i window : ℕ) (xs : List ℕ) (b : Bool) → a < i + window → (a ≡ i → b ≡ true) → ((a == i) ≡ false → clear i window xs ≡ true) → clear i window (cond b (a ∷ xs) xs) ≡ true
clear_step a i window xs true low e h = rw (clear-cons i window a xs) (clear_choice (a == i) (nat_lt a (i + window)) (clear i window xs) (lt-ltb a (i + window) low) h)
clear_step a i window xs false low e h = h (other a i e)

filter_clear : (q : ℕ → Bool) (a n i window : ℕ) → 1 ≤ window → q i ≡ true → a ≤ i → clear i window (filter q (range_with_len a n)) ≡ true
filter_clear q a zero i window some t low = refl
filter_clear q a (suc n) i window some t low =
    clear_step a i window (filter q (range_with_len (a + 1) n)) (q a) (omega arith) (λ s. ap q s ∙ t) (λ e. filter_clear q (a + 1) n i window some t (above a i low e))

-- and none arrives before it that is above it
first_step : (a i : ℕ) (xs : List ℕ) (b : Bool) → a ≤ i → (a ≡ i → b ≡ true) → ((a == i) ≡ false → first_arrival xs ≤ i) → first_arrival (cond b (a ∷ xs) xs) ≤ i
first_step a i xs true low e h = low
first_step a i xs false low e h = h (other a i e)

filter_first : (q : ℕ → Bool) (a n i : ℕ) → q i ≡ true → a ≤ i → i < a + n → first_arrival (filter q (range_with_len a n)) ≤ i
filter_first q a zero i t low high = absurd (omega arith)
filter_first q a (suc n) i t low high =
    first_step a i (filter q (range_with_len (a + 1) n)) (q a) low (λ s. ap q s ∙ t) (λ e. filter_first q (a + 1) n i t (above a i low e) (omega arith))

-- so it is in time
pub filter_in_time : (q : ℕ → Bool) (n i window : ℕ) → 1 ≤ window → q i ≡ true → i < n → in_time (filter q (range_with_len 0 n)) i window ≡ true
filter_in_time q n i window some t less =
    let events = filter q (range_with_len 0 n) in
    three (has_arrived events i) (nat_le (first_arrival events) i) (clear i window events)
    (filter_arrived q 0 n i t (omega arith) (omega arith))
    (le-leb (first_arrival events) i (filter_first q 0 n i t (omega arith) (omega arith)))
    (filter_clear q 0 n i window some t (omega arith))

-- a datagram of a list is kept where its values say so
kept_one : (limit : ℕ) (x : Datagram) (b : List ℕ) → IsDatagram x b → is_within limit x.payload ≡ true → is_kept limit b ≡ true
kept_one limit x b d w =
    let computed = datagram_is_computed rtp_is_read_one_way payload_is_read_one_way x b d in
    let well : is_well_formed b ≡ true = computed.0 in
    let same : is_within limit (datagram_of b).payload ≡ true = ap (λ (y : Datagram). is_within limit y.payload) (sym computed.1) ∙ w in
    rw (well, same) refl

pub kept_here : (limit : ℕ) (front : List Datagram) (x : Datagram) (rest : List Datagram) (datagrams : List (List ℕ)) → AllZip IsDatagram (front ++ x ∷ rest) datagrams → is_within limit x.payload ≡ true → is_kept limit (datagram_at datagrams (length front)) ≡ true
kept_here limit [] x rest [] a w = absurd a
kept_here limit [] x rest (b ∷ datagrams) a w = kept_one limit x b a.0 w
kept_here limit (y ∷ front) x rest [] a w = absurd a
kept_here limit (y ∷ front) x rest (b ∷ datagrams) a w = kept_here limit front x rest datagrams a.1 w

-- a position that is kept is in the list
pub kept_within : (limit : ℕ) (datagrams : List (List ℕ)) (i : ℕ) → is_kept limit (datagram_at datagrams i) ≡ true → i < length datagrams
kept_within limit [] i h = absurd (cc)
kept_within limit (b ∷ datagrams) zero h = omega arith
kept_within limit (b ∷ datagrams) (suc i) h = let m = kept_within limit datagrams i h in omega (arith, m)

-- what arrives of what passes passes
either_of : (c d : Bool) → (c || d) ≡ true → (c ≡ true) ⊎ (d ≡ true)
either_of true d h = inl refl
either_of false d h = inr h

passes_step : (q : ℕ → Bool) (x i : ℕ) (ys : List ℕ) (b : Bool) → (b ≡ true → x ≡ i → q i ≡ true) → (has_arrived ys i ≡ true → q i ≡ true) → has_arrived (cond b (x ∷ ys) ys) i ≡ true → q i ≡ true
passes_step q x i ys true e h k = elim (either_of (x == i) (has_arrived ys i) k) [ inl s ↦ e refl (eqb-true x i s) | inr s ↦ h s ]
passes_step q x i ys false e h k = h k

arrived_passes : (q : ℕ → Bool) (xs : List ℕ) (i : ℕ) → has_arrived (filter q xs) i ≡ true → q i ≡ true
arrived_passes q [] i h = absurd (cc)
arrived_passes q (x ∷ xs) i h = passes_step q x i (filter q xs) (q x) (λ e s. ap q (sym s) ∙ e) (arrived_passes q xs i) h

-- so exactly the positions that are kept are in time
pub kept_is_in_time : KeptIsInTime
kept_is_in_time limit window datagrams i some =
    let q : ℕ → Bool = λ i. is_kept limit (datagram_at datagrams i) in
    let events : List ℕ = kept_positions limit datagrams in
    elim (arrived_or_not (q i)) [
      | inl t ↦ filter_in_time q (length datagrams) i window some t (kept_within limit datagrams i t) ∙ sym t
      | inr f ↦ not_true (in_time events i window) (λ t. (
          let a = parts (has_arrived events i) (nat_le (first_arrival events) i) (clear i window events) t in
          let b : q i ≡ true = arrived_passes q (range_with_len 0 (length datagrams)) i a.0 in
          cc
          )) ∙ sym f
    ]

-- and they are listed so
filter_less : (q : ℕ → Bool) (a d : ℕ) → ((i : ℕ) → a ≤ i → q i ≡ false) → filter q (range_with_len a d) ≡ []
filter_less q a zero h = refl
filter_less q a (suc d) h = let e = h a (omega arith) in rw e (filter_less q (a + 1) d (λ i low. h i (omega arith)))

filter_front : (q : ℕ → Bool) (a m d : ℕ) → ((i : ℕ) → a + m ≤ i → q i ≡ false) → filter q (range_with_len a (m + d)) ≡ filter q (range_with_len a m)
filter_front q a zero d h = let e : zero + d ≡ d = omega arith in ap (λ n. filter q (range_with_len a n)) e ∙ filter_less q a d (λ i low. h i (omega arith))
filter_front q a (suc m) d h =
    let e : suc m + d ≡ suc (m + d) = omega arith in
    ap (λ n. filter q (range_with_len a n)) e ∙ ap (λ ys. cond (q a) (a ∷ ys) ys) (filter_front q (a + 1) m d (λ i low. h i (omega arith)))

same_range : (q : ℕ → Bool) (m n : ℕ) → ((i : ℕ) → m ≤ i → q i ≡ false) → ((i : ℕ) → n ≤ i → q i ≡ false) → filter q (range_with_len 0 m) ≡ filter q (range_with_len 0 n)
same_range q m n h k = elim (cases_lt m n) [
  | inl less ↦ (let e : n ≡ m + (n - m) = omega arith in sym (ap (λ l. filter q (range_with_len 0 l)) e ∙ filter_front q 0 m (n - m) (λ i low. h i (omega arith))))
  | inr more ↦ (let e : m ≡ n + (m - n) = omega arith in ap (λ l. filter q (range_with_len 0 l)) e ∙ filter_front q 0 n (m - n) (λ i low. k i (omega arith)))
]

filter_same : (p q : ℕ → Bool) (xs : List ℕ) → ((i : ℕ) → p i ≡ q i) → filter p xs ≡ filter q xs
filter_same p q [] h = refl
filter_same p q (x ∷ xs) h = ap (λ b. cond b (x ∷ filter p xs) (filter p xs)) (h x) ∙ ap (λ ys. cond (q x) (x ∷ ys) ys) (filter_same p q xs h)

pub kept_are_listed : (limit window : ℕ) (datagrams : List (List ℕ)) → 1 ≤ window → positions_in_time (kept_positions limit datagrams) window ≡ kept_positions limit datagrams
kept_are_listed limit window datagrams some =
    let q : ℕ → Bool = λ i. is_kept limit (datagram_at datagrams i) in
    let events : List ℕ = kept_positions limit datagrams in
    filter_same (λ i. in_time events i window) q (range_with_len 0 (highest_arrival events + 1)) (λ i. kept_is_in_time limit window datagrams i some)
    ∙ same_range q (highest_arrival events + 1) (length datagrams)
    (λ i low. not_true (q i) (λ t. (let high : i ≤ highest_arrival events = in_time-le-highest events i window (kept_is_in_time limit window datagrams i some ∙ t) in omega arith)))
    (λ i low. not_true (q i) (λ t. (let m = kept_within limit datagrams i t in omega (arith, m, low))))
