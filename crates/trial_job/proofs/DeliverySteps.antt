-- What is drawn and exchanged of a trial's positions, step by step.
use Rattle.std.proofs.Common.{◌≡◌, ◌≢◌, ◌≤◌, ◌<◌, ◌+◌, ◌++◌, ℕ, zero, suc, Bool, true, false, List, [], ◌∷◌, length, take, drop, set, get_or, nat_lt, refl, sym, ◌∙◌, ap, subst, arith, append_assoc, if◌then◌else◌}
use Rattle.std.specs.Prelude.{◌==◌}
use Rattle.std.specs.List.{swap}
use Rattle.std.proofs.lemmas.Bool.{eq-eqb, ne_eqb, lt-ltb, le-ltb}
use Rattle.std.proofs.lemmas.List.{append-nil, length-append, take-append-drop, take_at, drop_at, drop_more, get_or_at, set_at, length-take-le, length-drop}
use Rattle.std.proofs.lemmas.List.Edits.{swap_is}
use Rattle.trial_model.specs.Draws.{next_state, drawn, draw, Drawn, item_before}
use Rattle.trial_model.specs.Trial.{not_lost, arrives, exchanged_pairs, first_kept}
use Rattle.trial_job.specs.declared.delivering.Arrivals.{Arrivals}
use Rattle.trial_job.specs.Delivering.{AddsPosition, AreDrawn}

-- A lost datagram adds no position.
pub lost : (loss position n : ℕ) (old new : Arrivals) → n ≡ (draw 1000 old.draws.state).value → n < loss
    → new.positions.items ≡ old.positions.items → new.draws.state ≡ (draw 1000 old.draws.state).state → AddsPosition loss position old new
unfolding not_lost
lost loss position n old new is less items state =
    let first = next_state old.draws.state in
    let t : nat_lt (drawn 1000 first) loss ≡ true = lt-ltb (drawn 1000 first) loss (omega (arith, is, less)) in
    record {
      positions = rw t (items ∙ sym (append-nil old.positions.items));
      state = rw t state;
    }

-- Any other adds its position once where the draw isn't 0,
pub once : (loss position n m : ℕ) (old new : Arrivals) → n ≡ (draw 1000 old.draws.state).value → loss ≤ n
    → m ≡ (draw 8 (draw 1000 old.draws.state).state).value → m ≢ 0
    → new.positions.items ≡ old.positions.items ++ position ∷ []
    → new.draws.state ≡ (draw 8 (draw 1000 old.draws.state).state).state → AddsPosition loss position old new
unfolding not_lost
once loss position n m old new is more is_m other items state =
    let first = next_state old.draws.state in
    let t : nat_lt (drawn 1000 first) loss ≡ false = le-ltb (drawn 1000 first) loss (omega (arith, is, more)) in
    let u : (drawn 8 (next_state first) == 0) ≡ false = ne_eqb (drawn 8 (next_state first)) 0 (λ e. other (is_m ∙ e)) in
    record {
      positions = rw (t, u) items;
      state = rw (t, u) state;
    }

-- and else twice.
pub twice : (loss position n m : ℕ) (old new : Arrivals) → n ≡ (draw 1000 old.draws.state).value → loss ≤ n
    → m ≡ (draw 8 (draw 1000 old.draws.state).state).value → m ≡ 0
    → new.positions.items ≡ (old.positions.items ++ position ∷ []) ++ position ∷ []
    → new.draws.state ≡ (draw 8 (draw 1000 old.draws.state).state).state → AddsPosition loss position old new
unfolding not_lost
twice loss position n m old new is more is_m none items state =
    let first = next_state old.draws.state in
    let t : nat_lt (drawn 1000 first) loss ≡ false = le-ltb (drawn 1000 first) loss (omega (arith, is, more)) in
    let u : (drawn 8 (next_state first) == 0) ≡ true = eq-eqb (drawn 8 (next_state first)) 0 (sym is_m ∙ none) in
    record {
      positions = rw (t, u) (items ∙ append_assoc old.positions.items (position ∷ []) (position ∷ []));
      state = rw (t, u) state;
    }

-- What comes before a longer list comes before it.
arrives_longer : (at twice : ℕ) (long short : Drawn (List ℕ)) (xs : List ℕ) → long.value ≡ short.value ++ xs → (arrives at twice long).value ≡ (arrives at twice short).value ++ xs
arrives_longer at twice long short xs e = by (twice == 0) where
  by : (b : Bool) → (if b then item_before at (item_before at long) else item_before at long).value ≡ (if b then item_before at (item_before at short) else item_before at short).value ++ xs
  by true = ap (λ (l : List ℕ). at ∷ at ∷ l) e
  by false = ap (λ (l : List ℕ). at ∷ l) e

-- The state stays that of what comes later.
arrives_state : (at twice : ℕ) (later : Drawn (List ℕ)) → (arrives at twice later).state ≡ later.state
arrives_state at twice later = by (twice == 0) where
  by : (b : Bool) → (if b then item_before at (item_before at later) else item_before at later).state ≡ later.state
  by true = refl
  by false = refl

-- One more position comes after those that are drawn before it.
record GoesOn (long short last : Drawn (List ℕ)) : Type 0 where
  positions : long.value ≡ short.value ++ last.value
  state : long.state ≡ last.state

one_more : (loss at n last state : ℕ) → last ≡ at + n
    → GoesOn (not_lost loss at (suc n) state) (not_lost loss at n state) (not_lost loss last 1 (not_lost loss at n state).state)
unfolding not_lost
one_more loss at zero last state e = let same : last ≡ at = omega arith in rw same (record { positions = refl; state = refl })
one_more loss at (suc n) last state e =
    by (nat_lt (drawn 1000 first) loss) (one_more loss (at + 1) n last first (omega (arith, e))) (one_more loss (at + 1) n last second (omega (arith, e))) where
      first : ℕ
      first = next_state state

      second : ℕ
      second = next_state (next_state state)

      by : (b : Bool) → GoesOn (not_lost loss (at + 1) (suc n) first) (not_lost loss (at + 1) n first) (not_lost loss last 1 (not_lost loss (at + 1) n first).state)
          → GoesOn (not_lost loss (at + 1) (suc n) second) (not_lost loss (at + 1) n second) (not_lost loss last 1 (not_lost loss (at + 1) n second).state)
          → GoesOn (if b then not_lost loss (at + 1) (suc n) first else arrives at (drawn 8 second) (not_lost loss (at + 1) (suc n) second))
          (if b then not_lost loss (at + 1) n first else arrives at (drawn 8 second) (not_lost loss (at + 1) n second))
          (not_lost loss last 1 (if b then not_lost loss (at + 1) n first else arrives at (drawn 8 second) (not_lost loss (at + 1) n second)).state)
      by true one two = one
      by false one two =
          let long = not_lost loss (at + 1) (suc n) second in
          let short = not_lost loss (at + 1) n second in
          let P : ℕ → Type 0 = λ s. GoesOn (arrives at (drawn 8 second) long) (arrives at (drawn 8 second) short) (not_lost loss last 1 s) in
          subst P (sym (arrives_state at (drawn 8 second) short)) (record {
            positions = arrives_longer at (drawn 8 second) long short (not_lost loss last 1 short.state).value two.positions;
            state = arrives_state at (drawn 8 second) long ∙ two.state;
          })

-- What is drawn for no datagram.
pub none_drawn : (loss seed : ℕ) (arrivals : Arrivals) → arrivals.positions.items ≡ [] → arrivals.draws.state ≡ seed → AreDrawn loss 0 seed arrivals
unfolding not_lost
none_drawn loss seed arrivals none start = record { positions = none; state = start }

-- One more datagram is drawn.
pub one_more_drawn : (loss count seed next : ℕ) (old new : Arrivals) → AreDrawn loss count seed old → AddsPosition loss count old new → next ≡ suc count → AreDrawn loss next seed new
one_more_drawn loss count seed next old new drawn_before adds is =
    let on = one_more loss 0 count count seed (omega arith) in
    let P : ℕ → Type 0 = λ n. AreDrawn loss n seed new in
    subst P (sym is) (record {
      positions =
          adds.positions
          ∙ (ap (λ (s : ℕ). old.positions.items ++ (not_lost loss count 1 s).value) drawn_before.state
          ∙ (ap (λ (l : List ℕ). l ++ (not_lost loss count 1 (not_lost loss 0 count seed).state).value) drawn_before.positions ∙ sym on.positions));
      state = adds.state ∙ (ap (λ (s : ℕ). (not_lost loss count 1 s).state) drawn_before.state ∙ sym on.state);
    })

-- Two neighbours after others are exchanged.
swapped : (front more : List ℕ) (a b at : ℕ) → length front ≡ at → swap (front ++ a ∷ b ∷ more) at (at + 1) ≡ front ++ b ∷ a ∷ more
swapped front more a b at long =
    let xs = front ++ a ∷ b ∷ more in
    let whole : xs ≡ (front ++ a ∷ []) ++ b ∷ more = sym (append_assoc front (a ∷ []) (b ∷ more)) in
    let longer : length (front ++ a ∷ []) ≡ at + 1 = omega (arith, long, length-append front (a ∷ [])) in
    let enough : at + 1 < length xs = omega (arith, long, length-append front (a ∷ b ∷ more)) in
    let first : get_or xs at 0 ≡ a = get_or_at front a (b ∷ more) 0 at long in
    let second : get_or xs (at + 1) 0 ≡ b = ap (λ l. get_or l (at + 1) 0) whole ∙ get_or_at (front ++ a ∷ []) b more 0 (at + 1) longer in
    sym (swap_is xs at (at + 1) 0 (omega (arith, enough)) enough)
    ∙ (ap (λ n. set (set xs at n) (at + 1) (get_or xs at 0)) second
    ∙ (ap (λ n. set (set xs at b) (at + 1) n) first
    ∙ (ap (λ l. set l (at + 1) a) (set_at front a (b ∷ more) b at long)
    ∙ (ap (λ l. set l (at + 1) a) (sym (append_assoc front (b ∷ []) (b ∷ more)))
    ∙ (set_at (front ++ b ∷ []) b more a (at + 1) (omega (arith, long, length-append front (b ∷ [])))
    ∙ append_assoc front (b ∷ []) (a ∷ more))))))

-- What is left to exchange: with the rest exchanged, the list is the one that is wanted.
pub record PairsLeft (all : List ℕ) (start at : ℕ) (xs : List ℕ) (state : ℕ) : Type 0 where
  pub left : take at xs ++ exchanged_pairs (drop at xs) state ≡ first_kept all start

-- At first all pairs after the first position are left.
pub all_left : (all : List ℕ) (start : ℕ) → PairsLeft all start 1 all start
unfolding exchanged_pairs
all_left [] start = record { left = refl }
all_left (a ∷ more) start = record { left = refl }

-- A list at one of its pairs.
record HasPair (xs : List ℕ) (at : ℕ) : Type 0 where
  a : ℕ
  b : ℕ
  more : List ℕ
  rest : drop at xs ≡ a ∷ b ∷ more
  whole : xs ≡ take at xs ++ a ∷ b ∷ more
  front : length (take at xs) ≡ at

pair_at : (xs : List ℕ) (at : ℕ) → at + 1 < length xs → HasPair xs at
pair_at xs at enough =
    let here = drop_more xs at 0 (omega (arith, enough)) in
    let next = drop_more xs (at + 1) 0 enough in
    let rest : drop at xs ≡ get_or xs at 0 ∷ get_or xs (at + 1) 0 ∷ drop (at + 1 + 1) xs = here ∙ ap (λ l. get_or xs at 0 ∷ l) next in
    record {
      a = get_or xs at 0;
      b = get_or xs (at + 1) 0;
      more = drop (at + 1 + 1) xs;
      rest = rest;
      whole = sym (take-append-drop at xs) ∙ ap (λ l. take at xs ++ l) rest;
      front = length-take-le at xs (omega (arith, enough));
    }

-- A pair after others, and what is left after it.
after_pair : (front more ys : List ℕ) (a b at next first : ℕ) → length front ≡ at → next ≡ at + 2 → ys ≡ front ++ a ∷ b ∷ more
    → take next ys ++ exchanged_pairs (drop next ys) first ≡ front ++ a ∷ b ∷ exchanged_pairs more first
after_pair front more ys a b at next first long is whole =
    let both = front ++ a ∷ b ∷ [] in
    let split : ys ≡ both ++ more = whole ∙ sym (append_assoc front (a ∷ b ∷ []) more) in
    let longer : length both ≡ next = omega (arith, long, is, length-append front (a ∷ b ∷ [])) in
    ap (λ l. take next l ++ exchanged_pairs (drop next l) first) split
    ∙ (ap (λ l. l ++ exchanged_pairs (drop next (both ++ more)) first) (take_at both more next longer)
    ∙ (ap (λ l. both ++ exchanged_pairs l first) (drop_at both more next longer) ∙ append_assoc front (a ∷ b ∷ []) (exchanged_pairs more first)))

-- A pair is exchanged where the draw is 0,
pub pair_exchanged : (all xs ys : List ℕ) (start at next state n new : ℕ) → PairsLeft all start at xs state → at + 1 < length xs → next ≡ at + 2
    → n ≡ (draw 4 state).value → n ≡ 0 → ys ≡ swap xs at (at + 1) → new ≡ (draw 4 state).state → PairsLeft all start next ys new
unfolding exchanged_pairs
pair_exchanged all xs ys start at next state n new l enough is drawn_n none swaps after =
    let p = pair_at xs at enough in
    let front = take at xs in
    let first = next_state state in
    let t : (drawn 4 first == 0) ≡ true = eq-eqb (drawn 4 first) 0 (sym drawn_n ∙ none) in
    let ys_is : ys ≡ front ++ p.b ∷ p.a ∷ p.more = swaps ∙ (ap (λ (k : List ℕ). swap k at (at + 1)) p.whole ∙ swapped front p.more p.a p.b at p.front) in
    let step : exchanged_pairs (p.a ∷ p.b ∷ p.more) state ≡ p.b ∷ p.a ∷ exchanged_pairs p.more first = rw t refl in
    let P : ℕ → Type 0 = λ s. PairsLeft all start next ys s in
    subst P (sym after) (record {
      left =
          after_pair front p.more ys p.b p.a at next first p.front is ys_is
          ∙ (ap (λ k. front ++ k) (sym step) ∙ (ap (λ k. front ++ exchanged_pairs k state) (sym p.rest) ∙ l.left));
    })

-- and else stays.
pub pair_kept : (all xs ys : List ℕ) (start at next state n new : ℕ) → PairsLeft all start at xs state → at + 1 < length xs → next ≡ at + 2
    → n ≡ (draw 4 state).value → n ≢ 0 → ys ≡ xs → new ≡ (draw 4 state).state → PairsLeft all start next ys new
unfolding exchanged_pairs
pair_kept all xs ys start at next state n new l enough is drawn_n some same after =
    let p = pair_at xs at enough in
    let front = take at xs in
    let first = next_state state in
    let t : (drawn 4 first == 0) ≡ false = ne_eqb (drawn 4 first) 0 (λ e. some (drawn_n ∙ e)) in
    let step : exchanged_pairs (p.a ∷ p.b ∷ p.more) state ≡ p.a ∷ p.b ∷ exchanged_pairs p.more first = rw t refl in
    let P : ℕ → Type 0 = λ s. PairsLeft all start next ys s in
    subst P (sym after) (record {
      left =
          after_pair front p.more ys p.a p.b at next first p.front is (same ∙ p.whole)
          ∙ (ap (λ k. front ++ k) (sym step) ∙ (ap (λ k. front ++ exchanged_pairs k state) (sym p.rest) ∙ l.left));
    })

-- A single item stays.
short_stays : (xs : List ℕ) (state : ℕ) → length xs ≤ 1 → exchanged_pairs xs state ≡ xs
unfolding exchanged_pairs
short_stays [] state short = refl
short_stays (a ∷ []) state short = refl
short_stays (a ∷ b ∷ more) state short = absurd (omega (arith, short))

-- Where no pair is left, the list is the one that is wanted.
pub no_pair_left : (all : List ℕ) (start at : ℕ) (xs : List ℕ) (state : ℕ) → PairsLeft all start at xs state → length xs ≤ at + 1 → xs ≡ first_kept all start
no_pair_left all start at xs state l short =
    sym (take-append-drop at xs)
    ∙ (ap (λ k. take at xs ++ k) (sym (short_stays (drop at xs) state (omega (arith, short, length-drop at xs)))) ∙ l.left)
