-- The packets of a stream end in order.
use Rattle.std.proofs.Common.{◌≡◌, ◌<◌, ◌≤◌, ◌+◌, ◌-◌, ℕ, zero, suc, Bool, true, false, cond, List, [], ◌∷◌, ◌++◌, map, length, refl, sym, subst, ap, arith}
use Rattle.std.specs.Prelude.{nat_le}
use Rattle.std.specs.List.{AllByRecursion, count_by, range_with_len}
use Rattle.std.proofs.lemmas.Bool.{leb-true, le-leb}
use Rattle.std.proofs.lemmas.List.Sums.{sum_by-cons}
use Rattle.wire_model.specs.Datagram.{Datagram}
use Rattle.stream_model.specs.Reached.{CarriedPacket, Carried}
use Rattle.stream_model.specs.Stream.{Sent, Carries, datagrams_of, packet_start, payload_start, body_with, packet_span, carried_at}
use Rattle.stream_model.specs.Laws.{NeverFall, last_datagrams, IsInOrder, StreamIsInOrder}
use Rattle.stream_model.proofs.Positions.{placed, are_placed}
use Rattle.stream_model.proofs.StreamShapes.{sum-take-up, span_within}
use Rattle.stream_model.proofs.CutPayloads.{all-append}
use Rattle.stream_model.proofs.CutBodies.{all_imply}

-- what passes a test that passes more is more
count_by_one : (b c : Bool) (m n : ℕ) → (b ≡ true → c ≡ true) → m ≤ n → cond b 1 0 + m ≤ cond c 1 0 + n
count_by_one true c m n h k = rw (h refl) (omega arith)
count_by_one false true m n h k = omega arith
count_by_one false false m n h k = omega arith

count_grows : (p q : ℕ → Bool) (xs : List ℕ) → ((j : ℕ) → p j ≡ true → q j ≡ true) → count_by p xs ≤ count_by q xs
count_grows p q [] h = omega arith
count_grows p q (x ∷ xs) h =
    let one : cond (p x) 1 0 + count_by p xs ≤ cond (q x) 1 0 + count_by q xs = count_by_one (p x) (q x) (count_by p xs) (count_by q xs) (h x) (count_grows p q xs h) in
    omega (arith, one, sum_by-cons (λ y. cond (p y) 1 0) x xs, sum_by-cons (λ y. cond (q y) 1 0) x xs)

-- a later byte is in no earlier Body
pub body_with_rises : (bodies : List Datagram) (x y : ℕ) → x ≤ y → body_with bodies x ≤ body_with bodies y
body_with_rises bodies x y h =
    count_grows (λ j. nat_le (payload_start bodies (j + 1)) x) (λ j. nat_le (payload_start bodies (j + 1)) y) (range_with_len 0 (length bodies))
    (λ j t. (let low : payload_start bodies (j + 1) ≤ x = leb-true (payload_start bodies (j + 1)) x t in le-leb (payload_start bodies (j + 1)) y (omega arith)))

-- so packets end in order
last_at : Sent → ℕ → ℕ → ℕ
last_at s main k = (packet_span s main k).last

last_rises : (s : Sent) (main k : ℕ) → last_at s main k ≤ last_at s main (k + 1)
unfolding last_at
last_rises s main k =
    let up : packet_start s.parts (k + 1) ≤ packet_start s.parts (k + 1 + 1) = sum-take-up (λ b. length b) s.parts.packets (k + 1) in
    let body : body_with s.bodies (packet_start s.parts (k + 1) - 1) ≤ body_with s.bodies (packet_start s.parts (k + 1 + 1) - 1) = body_with_rises s.bodies (packet_start s.parts (k + 1) - 1) (packet_start s.parts (k + 1 + 1) - 1) (omega arith) in
    omega arith

all_above : (f : ℕ → ℕ) (n a m : ℕ) → ((k : ℕ) → f k ≤ f (k + 1)) → n ≤ f a → AllByRecursion (λ b. n ≤ b) (map f (range_with_len a m))
all_above f n a zero up h = tt
all_above f n a (suc m) up h = (h, all_above f n (a + 1) m up (let u : f a ≤ f (a + 1) = up a in omega arith))

range_rises : (f : ℕ → ℕ) (a m : ℕ) → ((k : ℕ) → f k ≤ f (k + 1)) → NeverFall (map f (range_with_len a m))
range_rises f a zero up = tt
range_rises f a (suc m) up = (all_above f (f a) (a + 1) m up (up a), range_rises f (a + 1) m up)

lasts_of : (s : Sent) (main a m : ℕ) → map (λ (q : CarriedPacket). q.last) (map (packet_span s main) (range_with_len a m)) ≡ map (last_at s main) (range_with_len a m)
unfolding last_at
lasts_of s main a zero = refl
lasts_of s main a (suc m) = ap (λ ys. last_at s main a ∷ ys) (lasts_of s main (a + 1) m)

-- the packets of one codestream end before those of the next
below_next : (s : Sent) (main a m : ℕ) → Carries s → AllByRecursion (λ b. b ≤ main + length s.bodies) (map (last_at s main) (range_with_len a m))
unfolding last_at
below_next s main a zero r = tt
below_next s main a (suc m) r =
    let low : (packet_span s main a).last < main + (1 + length s.bodies) = span_within s main (main + (1 + length s.bodies)) a r (omega arith) in
    (omega arith, below_next s main (a + 1) m r)

above_main : (s : Sent) (main a m : ℕ) → AllByRecursion (λ b. main ≤ b) (map (last_at s main) (range_with_len a m))
unfolding last_at
above_main s main a zero = tt
above_main s main a (suc m) = (omega arith, above_main s main (a + 1) m)

behind_main : (s : Sent) (main a m : ℕ) → AllByRecursion (λ (q : CarriedPacket). main ≤ q.last) (map (packet_span s main) (range_with_len a m))
behind_main s main a zero = tt
behind_main s main a (suc m) = (omega arith, behind_main s main (a + 1) m)

abbrev the_carried : ℕ → ℕ → List Sent → List Carried
the_carried i at sent = placed (λ s. length (datagrams_of s)) (λ i at s. carried_at at s) i at sent

lasts_here : (s : Sent) (i at : ℕ) (sent : List Sent) → last_datagrams (the_carried i at (s ∷ sent)) ≡ map (last_at s at) (range_with_len 0 (length s.parts.packets)) ++ last_datagrams (the_carried (i + 1) (at + length (datagrams_of s)) sent)
lasts_here s i at sent = ap (λ ys. ys ++ last_datagrams (the_carried (i + 1) (at + length (datagrams_of s)) sent)) (lasts_of s at 0 (length s.parts.packets))

ends_above : (i at n : ℕ) (sent : List Sent) → n ≤ at → AllByRecursion (λ b. n ≤ b) (last_datagrams (the_carried i at sent))
ends_above i at n [] h = tt
ends_above i at n (s ∷ sent) h =
    let P : List ℕ → Type 0 = AllByRecursion (λ b. n ≤ b) in
    subst P (sym (lasts_here s i at sent))
    (all-append (λ b. n ≤ b) (map (last_at s at) (range_with_len 0 (length s.parts.packets))) (last_datagrams (the_carried (i + 1) (at + length (datagrams_of s)) sent))
    (all_imply (λ b. at ≤ b) (λ b. n ≤ b) (map (last_at s at) (range_with_len 0 (length s.parts.packets))) (λ b k. omega arith) (above_main s at 0 (length s.parts.packets)))
    (ends_above (i + 1) (at + length (datagrams_of s)) n sent (omega arith)))

never_fall-append : (n : ℕ) (xs ys : List ℕ) → NeverFall xs → NeverFall ys → AllByRecursion (λ b. b ≤ n) xs → AllByRecursion (λ b. n ≤ b) ys → NeverFall (xs ++ ys)
never_fall-append n [] ys h k low high = k
never_fall-append n (x ∷ xs) ys h k low high = (
  all-append (λ b. x ≤ b) xs ys h.0 (all_imply (λ b. n ≤ b) (λ b. x ≤ b) ys (λ b m. (let l : x ≤ n = low.0 in omega arith)) high),
  never_fall-append n xs ys h.1 k low.1 high,
)

ends_in_order : (i at : ℕ) (sent : List Sent) → AllByRecursion Carries sent → NeverFall (last_datagrams (the_carried i at sent))
ends_in_order i at [] r = tt
ends_in_order i at (s ∷ sent) r =
    let P : List ℕ → Type 0 = NeverFall in
    subst P (sym (lasts_here s i at sent))
    (never_fall-append (at + length s.bodies) (map (last_at s at) (range_with_len 0 (length s.parts.packets))) (last_datagrams (the_carried (i + 1) (at + length (datagrams_of s)) sent))
    (range_rises (last_at s at) 0 (length s.parts.packets) (last_rises s at))
    (ends_in_order (i + 1) (at + length (datagrams_of s)) sent r.1)
    (below_next s at 0 (length s.parts.packets) r.0)
    (ends_above (i + 1) (at + length (datagrams_of s)) (at + length s.bodies) sent (omega arith)))

mains_in_order : (i at : ℕ) (sent : List Sent) → AllByRecursion (λ (c : Carried). AllByRecursion (λ q. c.main ≤ q.last) c.packets) (the_carried i at sent)
mains_in_order i at [] = tt
mains_in_order i at (s ∷ sent) = (behind_main s at 0 (length s.parts.packets), mains_in_order (i + 1) (at + length (datagrams_of s)) sent)

pub stream_is_in_order : StreamIsInOrder
stream_is_in_order sent r =
    let P : List Carried → Type 0 = IsInOrder in
    subst P (sym (are_placed (λ s. length (datagrams_of s)) (λ i at s. carried_at at s) sent))
    (record { ends = ends_in_order 0 0 sent r; mains = mains_in_order 0 0 sent })
