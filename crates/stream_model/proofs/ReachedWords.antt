-- The test of being reached says what being reached is.
use Rattle.std.proofs.Common.{◌≡◌, ◌<◌, ◌≤◌, ◌⊎◌, ◌+◌, ◌-◌, ℕ, zero, suc, Bool, true, false, List, [], ◌∷◌, ◌++◌, refl, sym, ap, ◌∙◌, inl, inr, arith}
use Rattle.std.specs.Prelude.{◌&&◌, ◌||◌, nat_le}
use Rattle.std.specs.List.{list_any, list_all, range_with_len}
use Rattle.std.proofs.lemmas.Bool.{leb-true, le-leb}
use Rattle.stream_model.specs.Arrivals.{in_time}
use Rattle.stream_model.specs.Reached.{CarriedPacket, ResyncPoint, Carried, run_in_time, is_reached}
use Rattle.stream_model.specs.Laws.{IsReached, ReachedIsComputed}
use Rattle.stream_model.proofs.InTime.{arrived_or_not, both}

same_or_more : (a i : ℕ) → a ≤ i → (a ≡ i) ⊎ (a + 1 ≤ i)
same_or_more a i h = grind arith

or_true : (a b : Bool) → b ≡ true → (a || b) ≡ true
or_true true b h = refl
or_true false b h = h

-- a test of a range tests each of its numbers
pub range_all : (p : ℕ → Bool) (a m i : ℕ) → list_all p (range_with_len a m) ≡ true → a ≤ i → i < a + m → p i ≡ true
range_all p a zero i h low high = absurd (omega arith)
range_all p a (suc m) i h low high =
    let t = both (p a) (list_all p (range_with_len (a + 1) m)) h in
    elim (same_or_more a i low) [
      | inl e ↦ ap p (sym e) ∙ t.0
      | inr l ↦ range_all p (a + 1) m i t.1 (omega arith) (omega arith)
    ]

pub all_range : (p : ℕ → Bool) (a m : ℕ) → ((i : ℕ) → a ≤ i → i < a + m → p i ≡ true) → list_all p (range_with_len a m) ≡ true
all_range p a zero h = refl
all_range p a (suc m) h = rw (h a (omega arith) (omega arith)) (all_range p (a + 1) m (λ i low high. h i (omega arith) (omega arith)))

-- a test of some of a list's items finds one
pub Found : (ResyncPoint → Bool) → List ResyncPoint → Type 0
Found p rs = (point : ResyncPoint) × (before : List ResyncPoint) × (after : List ResyncPoint) × (rs ≡ before ++ point ∷ after) × (p point ≡ true)

some_found : (p : ResyncPoint → Bool) (rs : List ResyncPoint) → list_any p rs ≡ true → Found p rs
unfolding Found
some_found p [] h = absurd (cc)
some_found p (r ∷ rs) h =
    elim (arrived_or_not (p r)) [
      | inl t ↦ (r, [], rs, refl, t)
      | inr f ↦ (let more = some_found p rs (rw f at h) in (more.0, r ∷ more.1, more.2, ap (λ ys. r ∷ ys) more.3, more.4))
    ]

found_some : (p : ResyncPoint → Bool) (point : ResyncPoint) (before after : List ResyncPoint) → p point ≡ true → list_any p (before ++ point ∷ after) ≡ true
found_some p point [] after h = rw h refl
found_some p point (r ∷ before) after h = or_true (p r) (list_any p (before ++ point ∷ after)) (found_some p point before after h)

-- the test and the words
reached_from : (events : List ℕ) (window : ℕ) (c : Carried) (k : ℕ) (q : CarriedPacket) → is_reached events window c k q ≡ true → IsReached events window c k q
unfolding Found
reached_from events window c k q h =
    let p : ResyncPoint → Bool = λ r. nat_le r.precinct k && run_in_time events window r.at q.last in
    let t = both (in_time events c.main window) (list_any p c.resyncs) h in
    let f = some_found p c.resyncs t.1 in
    let u = both (nat_le f.0.precinct k) (run_in_time events window f.0.at q.last) f.4 in
    record {
      point = f.0;
      before = f.1;
      after = f.2;
      main = t.0;
      among = f.3;
      at_or_before = leb-true f.0.precinct k u.0;
      run = λ i low high. range_all (λ i. in_time events i window) f.0.at (q.last + 1 - f.0.at) i u.1 low (omega arith);
    }

reached_back : (events : List ℕ) (window : ℕ) (c : Carried) (k : ℕ) (q : CarriedPacket) → IsReached events window c k q → is_reached events window c k q ≡ true
reached_back events window c k q r =
    let p : ResyncPoint → Bool = λ x. nat_le x.precinct k && run_in_time events window x.at q.last in
    let run : run_in_time events window r.point.at q.last ≡ true = all_range (λ i. in_time events i window) r.point.at (q.last + 1 - r.point.at) (λ i low high. r.run i low (omega arith)) in
    let here : p r.point ≡ true = rw (le-leb r.point.precinct k r.at_or_before) run in
    let some : list_any p c.resyncs ≡ true = ap (λ rs. list_any p rs) r.among ∙ found_some p r.point r.before r.after here in
    rw r.main some

pub reached_is_computed : ReachedIsComputed
reached_is_computed events window c k q = (reached_from events window c k q, reached_back events window c k q)
