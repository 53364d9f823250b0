-- Where bytes are in a stream: within it, and in the Body that has them.
use Rattle.std.proofs.Common.{◌≡◌, ◌<◌, ◌≤◌, ◌⊎◌, ◌+◌, ◌-◌, ℕ, zero, suc, Bool, true, false, cond, List, [], ◌∷◌, map, length, take, drop, get_or, refl, sym, subst, ap, ◌∙◌, inl, inr, arith}
use Rattle.std.specs.Prelude.{nat_le}
use Rattle.std.specs.List.{AllByRecursion, flat_map, sum_by, count_by, prefix_len, range_with_len}
use Rattle.std.proofs.lemmas.Bool.{leb-true, le-leb, leb-false}
use Rattle.std.proofs.lemmas.List.{length-append}
use Rattle.std.proofs.lemmas.List.Concat.{length-flat_map}
use Rattle.std.proofs.lemmas.List.FromFn.{length-range_with_len, get_or-range_with_len}
use Rattle.std.proofs.lemmas.List.Sums.{sum_by-cons, sum_by-take-le, prefix_len_passes, prefix_len_stops, prefix_len-le-length}
use Rattle.std.proofs.Math.Seq.{take-length}
use Rattle.std.proofs.lemmas.Slice.Zip.{AllZip-long}
use Rattle.wire_model.specs.Datagram.{Datagram, IsDatagram}
use Rattle.codestream_model.specs.Codestream.{joined}
use Rattle.stream_model.specs.Reached.{Carried}
use Rattle.stream_model.specs.Stream.{Sent, Carries, Carry, datagrams_of, packet_start, payload_start, body_with, packet_span, carried_at, carried}
use Rattle.stream_model.specs.Laws.{IsWithin, BodyHasByte, WholeStreamIsDue}
use Rattle.stream_model.proofs.Positions.{placed, are_placed}
use Rattle.stream_model.proofs.WholeStreams.{whole_is_due_at_end}

-- the sums of the fronts of a list never fall
pub sum-take-up : {A : Type 0} (f : A → ℕ) (xs : List A) (j : ℕ) → sum_by f (take j xs) ≤ sum_by f (take (j + 1) xs)
sum-take-up f [] j = let e : j + 1 ≡ suc j = omega arith in rw e (sum_by-take-le f [] j)
sum-take-up f (x ∷ xs) zero = omega arith
sum-take-up f (x ∷ xs) (suc j) =
    let e : suc j + 1 ≡ suc (j + 1) = omega arith in
    let ih : sum_by f (take j xs) ≤ sum_by f (take (j + 1) xs) = sum-take-up f xs j in
    let a : sum_by f (x ∷ take j xs) ≡ f x + sum_by f (take j xs) = sum_by-cons f x (take j xs) in
    let b : sum_by f (x ∷ take (j + 1) xs) ≡ f x + sum_by f (take (j + 1) xs) = sum_by-cons f x (take (j + 1) xs) in
    rw e (omega arith)

-- a test that, where it fails, fails from there on counts the front that passes
fails : (b c : Bool) → (c ≡ true → b ≡ true) → b ≡ false → c ≡ false
fails b true h e = absurd (let t : b ≡ true = h refl in cc)
fails b false h e = refl

none_pass : (p : ℕ → Bool) (a n : ℕ) → ((j : ℕ) → p (j + 1) ≡ true → p j ≡ true) → p a ≡ false → count_by p (range_with_len a n) ≡ 0
none_pass p a zero down h = refl
none_pass p a (suc n) down h =
    let next : p (a + 1) ≡ false = fails (p a) (p (a + 1)) (down a) h in
    sum_by-cons (λ x. cond (p x) 1 0) a (range_with_len (a + 1) n) ∙ (rw (h, none_pass p (a + 1) n down next) refl)

true_or_false : (b : Bool) → (b ≡ true) ⊎ (b ≡ false)
true_or_false true = inl refl
true_or_false false = inr refl

pub counts_front : (p : ℕ → Bool) (a n : ℕ) → ((j : ℕ) → p (j + 1) ≡ true → p j ≡ true) → count_by p (range_with_len a n) ≡ prefix_len p (range_with_len a n)
counts_front p a zero down = refl
counts_front p a (suc n) down =
    sum_by-cons (λ x. cond (p x) 1 0) a (range_with_len (a + 1) n)
    ∙ (elim (true_or_false (p a)) [
      | inl h ↦ rw (h, counts_front p (a + 1) n down) refl
      | inr h ↦ rw (h, none_pass p (a + 1) n down (fails (p a) (p (a + 1)) (down a) h)) refl
    ])

-- the Body that has a byte
same_or_less : (a b : ℕ) → a ≤ b → (a < b) ⊎ (a ≡ b)
same_or_less a b h = grind arith

-- a Body ends at or before a place
abbrev ends_by : List Datagram → ℕ → ℕ → Bool
ends_by bodies place body = nat_le (payload_start bodies (body + 1)) place

-- the number of Bodies of which this holds is fewer than all,
few_end : (bodies : List Datagram) (place b : ℕ) → place < sum_by (λ x. length x.codestream) bodies → b ≤ length bodies → ((j : ℕ) → j < b → ends_by bodies place j ≡ true) → ((b < length bodies) ⊎ (b ≡ length bodies)) → b < length bodies
few_end bodies place b within few pass (inl h) = h
few_end [] place b within few pass (inr h) = absurd (omega arith)
few_end (x ∷ bodies) place b within few pass (inr h) =
    let last : payload_start (x ∷ bodies) (length bodies + 1) ≤ place = leb-true (payload_start (x ∷ bodies) (length bodies + 1)) place (pass (length bodies) (omega arith)) in
    let n : length bodies + 1 ≡ length (x ∷ bodies) = omega arith in
    let all : payload_start (x ∷ bodies) (length bodies + 1) ≡ sum_by (λ x. length x.codestream) (x ∷ bodies) = ap (λ k. payload_start (x ∷ bodies) k) n ∙ ap (sum_by (λ x. length x.codestream)) (take-length (x ∷ bodies)) in
    absurd (omega arith)

-- and the one after them begins at or before it
begins_by : (bodies : List Datagram) (place b : ℕ) → ((j : ℕ) → j < b → ends_by bodies place j ≡ true) → payload_start bodies b ≤ place
begins_by bodies place zero pass = omega arith
begins_by bodies place (suc b) pass =
    let e : suc b ≡ b + 1 = omega arith in
    rw e (leb-true (payload_start bodies (b + 1)) place (pass b (omega arith)))

pub body_has_byte : BodyHasByte
body_has_byte bodies place within =
    let p : ℕ → Bool = ends_by bodies place in
    let n : ℕ = length bodies in
    let xs : List ℕ = range_with_len 0 n in
    let long : length xs ≡ n = length-range_with_len 0 n in
    let down : (j : ℕ) → p (j + 1) ≡ true → p j ≡ true = λ j h.
    (let high : payload_start bodies (j + 1 + 1) ≤ place = leb-true (payload_start bodies (j + 1 + 1)) place h in
    let up : payload_start bodies (j + 1) ≤ payload_start bodies (j + 1 + 1) = sum-take-up (λ x. length x.codestream) bodies (j + 1) in
    le-leb (payload_start bodies (j + 1)) place (omega arith)) in
    let is : body_with bodies place ≡ prefix_len p xs = counts_front p 0 n down in
    let most : prefix_len p xs ≤ n = (let m : prefix_len p xs ≤ length xs = prefix_len-le-length p xs in omega arith) in
    let pass : (j : ℕ) → j < prefix_len p xs → p j ≡ true = λ j h.
    (let at : get_or xs j 0 ≡ j = get_or-range_with_len 0 n j 0 (omega arith) ∙ (let z : 0 + j ≡ j = omega arith in z) in
    ap p (sym at) ∙ prefix_len_passes p xs j 0 h) in
    let few : prefix_len p xs < n = few_end bodies place (prefix_len p xs) within most pass (same_or_less (prefix_len p xs) n most) in
    let stop : p (prefix_len p xs) ≡ false =
    (let at : get_or xs (prefix_len p xs) 0 ≡ prefix_len p xs = get_or-range_with_len 0 n (prefix_len p xs) 0 few ∙ (let z : 0 + prefix_len p xs ≡ prefix_len p xs = omega arith in z) in
    ap p (sym at) ∙ prefix_len_stops p xs 0 (let k : prefix_len p xs < length xs = omega arith in k)) in
    let low : payload_start bodies (prefix_len p xs) ≤ place = begins_by bodies place (prefix_len p xs) pass in
    let high : place < payload_start bodies (prefix_len p xs + 1) = leb-false (payload_start bodies (prefix_len p xs + 1)) place stop in
    let P : ℕ → Type 0 = λ b. (b < n) × (payload_start bodies b ≤ place) × (place < payload_start bodies (b + 1)) in
    subst P (sym is) (few, low, high)

-- the bytes after SOD are those of the Bodies,
pub bodies_bytes : (s : Sent) → Carries s → sum_by (λ x. length x.codestream) s.bodies ≡ sum_by (λ b. length b) s.parts.packets + 2
bodies_bytes s r =
    sym (length-flat_map (λ x. x.codestream) s.bodies)
    ∙ (ap (λ xs. length xs) r.bytes
    ∙ (length-append (joined s.parts.packets) (255 ∷ 217 ∷ [])
    ∙ ap (λ n. n + 2) (length-flat_map (λ b. b) s.parts.packets)))

-- so each packet ends within its codestream's datagrams
pub span_within : (s : Sent) (main n k : ℕ) → Carries s → main + (1 + length s.bodies) ≤ n → (packet_span s main k).last < n
span_within s main n k r within =
    let most : packet_start s.parts (k + 1) ≤ sum_by (λ b. length b) s.parts.packets = sum_by-take-le (λ b. length b) s.parts.packets (k + 1) in
    let all : sum_by (λ x. length x.codestream) s.bodies ≡ sum_by (λ b. length b) s.parts.packets + 2 = bodies_bytes s r in
    let has = body_has_byte s.bodies (packet_start s.parts (k + 1) - 1) (omega arith) in
    let here : body_with s.bodies (packet_start s.parts (k + 1) - 1) < length s.bodies = has.0 in
    omega arith

spans_within : (s : Sent) (main n a m : ℕ) → Carries s → main + (1 + length s.bodies) ≤ n → AllByRecursion (λ p. p.last < n) (map (packet_span s main) (range_with_len a m))
spans_within s main n a zero r within = tt
spans_within s main n a (suc m) r within = (span_within s main n a r within, spans_within s main n (a + 1) m r within)

carried_within : (s : Sent) (main n : ℕ) → Carries s → main + (1 + length s.bodies) ≤ n → IsWithin n (carried_at main s)
carried_within s main n r within = record {
  marks = drop 1 (carried_at main s).resyncs;
  main = omega arith;
  packets = spans_within s main n 0 (length s.parts.packets) r within;
  starts = refl;
}

-- and each codestream within the stream
all_within : (sent : List Sent) (i at n : ℕ) → AllByRecursion Carries sent → at + sum_by (λ s. length (datagrams_of s)) sent ≤ n → AllByRecursion (IsWithin n) (placed (λ s. length (datagrams_of s)) (λ i at s. carried_at at s) i at sent)
all_within [] i at n r within = tt
all_within (s ∷ sent) i at n r within =
    let e : sum_by (λ s. length (datagrams_of s)) (s ∷ sent) ≡ length (datagrams_of s) + sum_by (λ s. length (datagrams_of s)) sent = sum_by-cons (λ s. length (datagrams_of s)) s sent in
    let z : length (datagrams_of s) ≡ 1 + length s.bodies = omega arith in
    (carried_within s at n r.0 (omega arith), all_within sent (i + 1) (at + length (datagrams_of s)) n r.1 (omega arith))

pub stream_is_within : (sent : List Sent) (codestreams datagrams : List (List ℕ)) → Carry sent codestreams datagrams → AllByRecursion (IsWithin (length datagrams)) (carried sent)
stream_is_within sent codestreams datagrams r =
    let long : length datagrams ≡ length (flat_map datagrams_of sent) = AllZip-long IsDatagram (flat_map datagrams_of sent) datagrams r.are_datagrams in
    let sums : length (flat_map datagrams_of sent) ≡ sum_by (λ s. length (datagrams_of s)) sent = length-flat_map datagrams_of sent in
    let P : List Carried → Type 0 = AllByRecursion (IsWithin (length datagrams)) in
    subst P (sym (are_placed (λ s. length (datagrams_of s)) (λ i at s. carried_at at s) sent)) (all_within sent 0 0 (length datagrams) r.each (omega arith))

pub whole_stream_is_due : WholeStreamIsDue
whole_stream_is_due sent codestreams datagrams window r some =
    let within = stream_is_within sent codestreams datagrams r in
    (within, whole_is_due_at_end (length datagrams) window (carried sent) some within)
