-- How much work is left: turns and flushes end.
use Rattle.std.proofs.Common.{◌≡◌, ◌≤◌, ◌<◌, ◌+◌, ◌-◌, ◌*◌, ◌++◌, ◌==◌, ◌⊎◌, inl, inr, ℕ, zero, suc, Bool, true, false, List, [], ◌∷◌, Some, length, if◌then◌else◌, refl, sym, ◌∙◌, ap, subst, arith}
use Rattle.std.specs.Prelude.{slice_get}
use Rattle.std.proofs.lemmas.List.{append-nil}
use Rattle.std.proofs.lemmas.Bool.{eq-eqb}
use Rattle.std.proofs.lemmas.Bool.Decides.{nat_tests}
use Rattle.std.proofs.Math.Nat.{mul-le-mul_left, mul-add}
use Rattle.wire_model.specs.Receptions.{Reception, Arrived, NotReady, Closed, Failed}
use Rattle.wire_model.specs.LinkAnswers.{LinkAnswer}
use Rattle.wire_model.specs.LinkAnswers as link
use Rattle.relay_model.specs.Queue.{Tale, Told, untold, poll}
use Rattle.relay_model.specs.Relays.{given_by}
use Rattle.scl_outside.specs.Meaning.{Meaning, Reply}
use Rattle.scl_outside.specs.Effects.{answers}
use Rattle.polled_datagrams.specs.Offers.{answers_to}
use Rattle.polled_datagrams.specs.Sending.{depth_of}
use Rattle.thinning_relay.specs.Receivers.{queued, any_moved, count_after}
use Rattle.thinning_relay.specs.Flushing.{links}
use Rattle.thinning_relay.specs.Relaying.{Turns, TurnsAll, ServedTurn, CountsReceived, receivers_of, arrived_count}
use Rattle.thinning_relay.specs.declared.receiver.Receiver.{Receiver}
use Rattle.thinning_relay.specs.declared.relay.Relay.{Relay}
use Rattle.thinning_relay.specs.declared.relay.Turn.{Turn}
use Rattle.thinning_relay.specs.declared.relay.Turn.TheVariants as turn
use Rattle.relay_job.specs.declared.serving.Round.TheVariants.{On}
use Rattle.relay_job.specs.Settings.{Settings}
use Rattle.relay_job.specs.Serving.{Rounds, Follows}
use Rattle.relay_job.proofs.Tracked.{turned_size, counted}

-- all that waits in queues
abbrev pub total : List Receiver → ℕ
total [] = 0
total (r ∷ rs) = length (queued r) + total rs

-- a poll leaves no more than it found, and less where something moved
pub poll_left : (t : Tale) (q : List (List ℕ)) (given : List LinkAnswer) → length (poll t q given).tale.left ≤ length q
unfolding poll
poll_left t [] given = omega arith
poll_left t (d ∷ q) [] = omega arith
poll_left t (d ∷ q) (link.NotReady ∷ given) = omega arith
poll_left t (d ∷ q) (link.Sent ∷ given) = let h = poll_left (record t { sent = t.sent ++ d ∷ [] }) q given in omega (arith, h)
poll_left t (d ∷ q) (link.Failed ∷ given) = let h = poll_left (record t { failed = t.failed + 1 }) q given in omega (arith, h)

nothing_taken : (a b : Told) (given : List LinkAnswer) → a ≡ b → a.answers ≡ given ++ [] → b.answers ≡ [] → given ≡ []
nothing_taken a b given e f g = sym (append-nil given) ∙ (sym f ∙ (ap (λ (x : Told). x.answers) e ∙ g))

pub left_less : (t u : Tale) (q : List (List ℕ)) (given : List LinkAnswer) → poll t q (given ++ []) ≡ record { tale = u; answers = [] } → any_moved given ≡ true → length u.left < length q
unfolding poll
left_less t u [] given e m =
    let none : given ≡ [] = sym (append-nil given) ∙ ap (λ (x : Told). x.answers) e in
    absurd (let f : any_moved given ≡ false = ap any_moved none in let g : true ≡ false = sym m ∙ f in cc)
left_less t u (d ∷ q) [] e m = absurd (cc)
left_less t u (d ∷ q) (link.NotReady ∷ given) e m =
    let none : given ≡ [] = sym (append-nil given) ∙ ap (λ (x : Told). x.answers) e in
    absurd (let f : any_moved given ≡ false = ap any_moved none in let g : true ≡ false = sym m ∙ f in cc)
left_less t u (d ∷ q) (link.Sent ∷ given) e m =
    let h = poll_left (record t { sent = t.sent ++ d ∷ [] }) q (given ++ []) in
    let f : length (poll (record t { sent = t.sent ++ d ∷ [] }) q (given ++ [])).tale.left ≡ length u.left = ap (λ (x : Told). length x.tale.left) e in
    omega (arith, h, f)
left_less t u (d ∷ q) (link.Failed ∷ given) e m =
    let h = poll_left (record t { failed = t.failed + 1 }) q (given ++ []) in
    let f : length (poll (record t { failed = t.failed + 1 }) q (given ++ [])).tale.left ≡ length u.left = ap (λ (x : Told). length x.tale.left) e in
    omega (arith, h, f)

-- some link moved
a_link_moved : (rs : List Reply) → any_moved (links rs) ≡ true → (j : ℕ) × (any_moved (answers_to j rs) ≡ true)
a_link_moved [] m = absurd (cc)
a_link_moved (r ∷ rs) m = by r.answer m (λ k. a_link_moved rs k) where
  same : (a : LinkAnswer) → any_moved (a ∷ answers_to r.peer rs) ≡ true → any_moved (answers_to r.peer (record { peer = r.peer; answer = a } ∷ rs)) ≡ true
  same a h = rw (eq-eqb r.peer r.peer refl) h

  skipped : (b : Bool) (j : ℕ) → any_moved (answers_to j rs) ≡ true → any_moved (if b then link.NotReady ∷ answers_to j rs else answers_to j rs) ≡ true
  skipped true j h = h
  skipped false j h = h

  by : (a : LinkAnswer) → any_moved (a ∷ links rs) ≡ true → (any_moved (links rs) ≡ true → (j : ℕ) × (any_moved (answers_to j rs) ≡ true)) → (j : ℕ) × (any_moved (answers_to j (record { peer = r.peer; answer = a } ∷ rs)) ≡ true)
  by link.Sent m more = (r.peer, same link.Sent refl)
  by link.Failed m more = (r.peer, same link.Failed refl)
  by link.NotReady m more = let k = more m in (k.0, skipped (r.peer == k.0) k.0 k.1)

-- what waits, receiver by receiver
total_one_more : (rs qs : List Receiver) → length qs ≡ length rs → ((j : ℕ) (a c : Receiver) → slice_get rs j ≡ Some a → slice_get qs j ≡ Some c → length (queued c) ≤ length (queued a) + 1) → total qs ≤ total rs + length rs
total_one_more [] [] e h = omega arith
total_one_more [] (c ∷ qs) e h = absurd (omega arith)
total_one_more (a ∷ rs) [] e h = absurd (omega arith)
total_one_more (a ∷ rs) (c ∷ qs) e h =
    let here = h 0 a c refl refl in
    let more = total_one_more rs qs (omega arith) (λ j x y p q. h (suc j) x y p q) in
    omega (arith, here, more)

pub total_no_more : (rs qs : List Receiver) → length qs ≡ length rs → ((j : ℕ) (a c : Receiver) → slice_get rs j ≡ Some a → slice_get qs j ≡ Some c → length (queued c) ≤ length (queued a)) → total qs ≤ total rs
total_no_more [] [] e h = omega arith
total_no_more [] (c ∷ qs) e h = absurd (omega arith)
total_no_more (a ∷ rs) [] e h = absurd (omega arith)
total_no_more (a ∷ rs) (c ∷ qs) e h =
    let here = h 0 a c refl refl in
    let more = total_no_more rs qs (omega arith) (λ j x y p q. h (suc j) x y p q) in
    omega (arith, here, more)

total_less : (rs qs : List Receiver) (k : ℕ) (b d : Receiver) → length qs ≡ length rs → ((j : ℕ) (a c : Receiver) → slice_get rs j ≡ Some a → slice_get qs j ≡ Some c → length (queued c) ≤ length (queued a))
    → slice_get rs k ≡ Some b → slice_get qs k ≡ Some d → length (queued d) < length (queued b) → total qs < total rs
total_less [] qs k b d e h p q less = absurd (cc)
total_less (a ∷ rs) [] k b d e h p q less = absurd (cc)
total_less (a ∷ rs) (c ∷ qs) zero b d e h p q less =
    let more = total_no_more rs qs (omega arith) (λ j x y v w. h (suc j) x y v w) in
    let ea : a ≡ b = cc in
    let ec : c ≡ d = cc in
    let la : length (queued a) ≡ length (queued b) = ap (λ (x : Receiver). length (queued x)) ea in
    let lc : length (queued c) ≡ length (queued d) = ap (λ (x : Receiver). length (queued x)) ec in
    omega (arith, more, less, la, lc)
total_less (a ∷ rs) (c ∷ qs) (suc k) b d e h p q less =
    let here = h 0 a c refl refl in
    let more = total_less rs qs k b d (omega arith) (λ j x y v w. h (suc j) x y v w) p q less in
    omega (arith, here, more)

-- a receiver that was served in a turn
pub served_most : (got : Reception) (r q : Receiver) (took : List LinkAnswer) (sent : List (List ℕ)) → ServedTurn (given_by got) r q took sent → length (queued q) ≤ length (queued r) + arrived_count got
served_most got r q took sent h =
    let x : Tale = record untold { left = queued r } in
    let grows = turned_size r.limit (depth_of r.queue) x _ took got (λ more. h.told x more refl) in
    omega (arith, grows)

served_less : (got : Reception) (r q : Receiver) (took : List LinkAnswer) (sent : List (List ℕ)) → got ≡ NotReady → ServedTurn (given_by got) r q took sent → any_moved took ≡ true → length (queued q) < length (queued r)
served_less NotReady r q took sent e h m = let x : Tale = record untold { left = queued r } in left_less x _ (queued r) took (h.told x [] refl) m
served_less (Arrived d) r q took sent e h m = absurd (cc)
served_less Closed r q took sent e h m = absurd (cc)
served_less Failed r q took sent e h m = absurd (cc)

below_or : (j n : ℕ) → (j < n) ⊎ (n ≤ j)
below_or j n = grind (arith, nat_tests)

-- a place in a list
pub place : {A : Type 0} (xs : List A) (j : ℕ) → j < length xs → (x : A) × (slice_get xs j ≡ Some x)
place [] j h = absurd (omega arith)
place (x ∷ xs) zero h = (x, refl)
place (x ∷ xs) (suc j) h = place xs j (omega arith)

-- less waits where some link moved
pub some_less : (rs qs : List Receiver) (replies : List Reply) → length qs ≡ length rs → ((j : ℕ) (a c : Receiver) → slice_get rs j ≡ Some a → slice_get qs j ≡ Some c → length (queued c) ≤ length (queued a))
    → ((j : ℕ) (a c : Receiver) → slice_get rs j ≡ Some a → slice_get qs j ≡ Some c → any_moved (answers_to j replies) ≡ true → length (queued c) < length (queued a))
    → ((j : ℕ) → length rs ≤ j → answers_to j replies ≡ []) → any_moved (links replies) ≡ true → total qs < total rs
some_less rs qs replies e most less none m =
    let k = a_link_moved replies m in
    elim (below_or k.0 (length rs)) [
      | inl low ↦ (
          let a = place rs k.0 low in
          let c = place qs k.0 (omega (arith, low, e)) in
          total_less rs qs k.0 a.0 c.0 e most a.1 c.1 (less k.0 a.0 c.0 a.1 c.1 k.1))
      | inr high ↦ absurd (let f : any_moved (answers_to k.0 replies) ≡ false = ap any_moved (none k.0 high) in let g : true ≡ false = sym k.1 ∙ f in cc)
    ]

-- the work of turns: datagrams that may come, what waits, and how long nothing may move
abbrev pub work : ℕ → ℕ → ℕ → ℕ → ℕ → ℕ
work limit n coming waiting idle = ((limit + 1) * n + (limit + 1)) * coming + ((limit + 1) * waiting + (limit - idle))

one_came : (limit n m q p i j : ℕ) → p ≤ q + n → work limit n m p i < work limit n (m + 1) q j
one_came limit n m q p i j h =
    let c = limit + 1 in
    let w = c * n + c in
    let a : c * p ≤ c * (q + n) = mul-le-mul_left c h in
    let b : c * (q + n) ≡ c * q + c * n = mul-add c q n in
    let d : w * (m + 1) ≡ w * m + w * 1 = mul-add w m 1 in
    let e : w * 1 ≡ w = omega arith in
    plain (w * m) (w * (m + 1)) (c * p) (c * (q + n)) (c * q) (c * n) limit i j a b (d ∙ ap (λ k. w * m + k) e) where
      plain : (wm wn cp cqn cq cn l i j : ℕ) → cp ≤ cqn → cqn ≡ cq + cn → wn ≡ wm + (cn + (l + 1)) → wm + (cp + (l - i)) < wn + (cq + (l - j))
      plain wm wn cp cqn cq cn l i j a b d = omega arith

pub one_went : (limit n m q p i j : ℕ) → p < q → work limit n m p i < work limit n m q j
one_went limit n m q p i j h =
    let c = limit + 1 in
    let a : c * (p + 1) ≤ c * q = mul-le-mul_left c (let k : p + 1 ≤ q = omega arith in k) in
    let b : c * (p + 1) ≡ c * p + c * 1 = mul-add c p 1 in
    let e : c * 1 ≡ c = omega arith in
    plain ((c * n + c) * m) (c * p) (c * (p + 1)) (c * q) limit i j a (b ∙ ap (λ k. c * p + k) e) where
      plain : (w cp cpn cq l i j : ℕ) → cpn ≤ cq → cpn ≡ cp + (l + 1) → w + (cp + (l - i)) < w + (cq + (l - j))
      plain w cp cpn cq l i j a b = omega arith

pub none_went : (limit n m q p i : ℕ) → p ≤ q → i < limit → work limit n m p (i + 1) < work limit n m q i
none_went limit n m q p i h k =
    let c = limit + 1 in
    let a : c * p ≤ c * q = mul-le-mul_left c h in
    plain ((c * n + c) * m) (c * p) (c * q) limit i a k where
      plain : (w cp cq l i : ℕ) → cp ≤ cq → i < l → w + (cp + (l - (i + 1))) < w + (cq + (l - i))
      plain w cp cq l i a k = omega arith

-- what comes may be one more
came_once : (got : Reception) (r q : ℕ) (m : ℕ) → r < m → m ≤ 8388607 → arrived_count got ≡ 1 → q ≡ count_after r (arrived_count got) → m - r ≡ (m - q) + 1
came_once got r q m low most one is =
    let e : q ≡ r + 1 = is ∙ ap (λ k. count_after r k) one ∙ counted r 1 (omega arith) in
    omega (arith, e, low)

came_never : (got : Reception) (r q : ℕ) (m : ℕ) → r < m → m ≤ 8388607 → arrived_count got ≡ 0 → q ≡ count_after r (arrived_count got) → m - r ≡ m - q
came_never got r q m low most none is =
    let e : q ≡ r + 0 = is ∙ ap (λ k. count_after r k) none ∙ counted r 0 (omega arith) in
    omega (arith, e, low)

-- the work after a turn that goes on
abbrev pub WorksLess : Settings → Relay → Relay → ℕ → ℕ → Type 0
WorksLess s r q idle count =
    work s.idle (length (receivers_of q)) (s.max - q.received) (total (receivers_of q)) count < work s.idle (length (receivers_of r)) (s.max - r.received) (total (receivers_of r)) idle

by_counts : (s : Settings) (r q : Relay) (idle count coming : ℕ) → length (receivers_of q) ≡ length (receivers_of r) → s.max - r.received ≡ coming
    → work s.idle (length (receivers_of r)) (s.max - q.received) (total (receivers_of q)) count < work s.idle (length (receivers_of r)) coming (total (receivers_of r)) idle → WorksLess s r q idle count
by_counts s r q idle count coming e f h =
    let P : ℕ → Type 0 = λ k. work s.idle k (s.max - q.received) (total (receivers_of q)) count < work s.idle (length (receivers_of r)) (s.max - r.received) (total (receivers_of r)) idle in
    let Q : ℕ → Type 0 = λ k. work s.idle (length (receivers_of r)) (s.max - q.received) (total (receivers_of q)) count < work s.idle (length (receivers_of r)) k (total (receivers_of r)) idle in
    subst P (sym e) (subst Q (sym f) h)

moved_works : (s : Settings) (r q : Relay) (got : Reception) (ws : _) (idle count : ℕ) → r.received < s.max → s.max ≤ 8388607 → TurnsAll got (receivers_of r) (receivers_of q) turn.Moved ws → CountsReceived r got q → WorksLess s r q idle count
moved_works s r q (Arrived d) ws idle count low most all counts =
    let p = total_one_more (receivers_of r) (receivers_of q) all.count (λ j a c x y. served_most (Arrived d) a c _ _ (all.each j a c x y)) in
    by_counts s r q idle count ((s.max - q.received) + 1) all.count (came_once (Arrived d) r.received q.received s.max low most refl counts.received)
    (one_came s.idle (length (receivers_of r)) (s.max - q.received) (total (receivers_of r)) (total (receivers_of q)) count idle p)
moved_works s r q NotReady ws idle count low most all counts =
    let p = some_less (receivers_of r) (receivers_of q) (answers ws) all.count (λ j a c x y. (let h = served_most NotReady a c _ _ (all.each j a c x y) in omega (arith, h)))
    (λ j a c x y m. served_less NotReady a c _ _ refl (all.each j a c x y) m) (λ j above. (all.others j above).0) (is_moved (any_moved (links (answers ws))) all.answers) in
    by_counts s r q idle count (s.max - q.received) all.count (came_never NotReady r.received q.received s.max low most refl counts.received)
    (one_went s.idle (length (receivers_of r)) (s.max - q.received) (total (receivers_of r)) (total (receivers_of q)) count idle p) where
      is_moved : (b : Bool) → turn.Moved ≡ (if b then turn.Moved else turn.Idle) → b ≡ true
      is_moved true e = refl
      is_moved false e = absurd (cc)
moved_works s r q Closed ws idle count low most all counts = absurd (let e = all.answers in cc)
moved_works s r q Failed ws idle count low most all counts = absurd (let e = all.answers in cc)

idle_works : (s : Settings) (r q : Relay) (got : Reception) (ws : _) (idle count : ℕ) → count ≡ idle + 1 → idle < s.idle → r.received < s.max → s.max ≤ 8388607 → TurnsAll got (receivers_of r) (receivers_of q) turn.Idle ws → CountsReceived r got q → WorksLess s r q idle count
idle_works s r q NotReady ws idle count is busy low most all counts =
    let p = total_no_more (receivers_of r) (receivers_of q) all.count (λ j a c x y. (let h = served_most NotReady a c _ _ (all.each j a c x y) in omega (arith, h))) in
    let P : ℕ → Type 0 = λ k. WorksLess s r q idle k in
    subst P (sym is) (by_counts s r q idle (idle + 1) (s.max - q.received) all.count (came_never NotReady r.received q.received s.max low most refl counts.received)
    (none_went s.idle (length (receivers_of r)) (s.max - q.received) (total (receivers_of r)) (total (receivers_of q)) idle p busy))
idle_works s r q (Arrived d) ws idle count is busy low most all counts = absurd (let e = all.answers in cc)
idle_works s r q Closed ws idle count is busy low most all counts = absurd (let e = all.answers in cc)
idle_works s r q Failed ws idle count is busy low most all counts = absurd (let e = all.answers in cc)

pub works : (s : Settings) (r q : Relay) (idle count : ℕ) (n o : Meaning) → r.received < s.max → s.max ≤ 8388607 → idle < s.idle → (h : Rounds s r idle (On count) q n o) → WorksLess s r q idle count
works s r q idle count n o low most busy h = by h.answer h.turns h.follows where
  by : (answer : Turn) → Turns r answer q n o → Follows s answer q.received idle (On count) → WorksLess s r q idle count
  by turn.NoMemory turns is = absurd (cc)
  by turn.Failed turns is = absurd (cc)
  by turn.Ended turns is = absurd (cc)
  by turn.Moved turns is = moved_works s r q turns.got turns.wire idle count low most turns.does turns.counts
  by turn.Idle turns is = idle_works s r q turns.got turns.wire idle count is.2 busy low most turns.does turns.counts
