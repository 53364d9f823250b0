-- When a precinct is reached and when not, and which precincts pass a test.
use Rattle.std.proofs.Common.{◌≡◌, ◌⊎◌, ◌<◌, ◌≤◌, ◌+◌, ◌-◌, ◌&&◌, ◌||◌, ℕ, zero, suc, Bool, true, false, List, [], ◌∷◌, ◌++◌, length, nat_le, refl, ◌∙◌, ap, inl, inr, arith, if◌then◌else◌}
use Rattle.std.specs.List.{AllByRecursion, list_any, list_all, range_with_len}
use Rattle.std.proofs.lemmas.Bool.{cases_lt, le-leb, lt-leb}
use Rattle.std.proofs.lemmas.Option.{slice_get_within}
use Rattle.codestream_model.specs.Values.{Place}
use Rattle.codestream_model.specs.Packet.{Content}
use Rattle.codestream_model.proofs.Members.{Has}
use Rattle.stream_model.specs.Decoder.{Current}
use Rattle.stream_model.specs.Stream.{Parts, ArePartsOf, Sent, Mark, IsResync, packet_start, precinct_at}
use Rattle.stream_model.specs.Reached.{CarriedPacket, ResyncPoint, Carried}
use Rattle.stream_model.specs.RunLaws.{reaches, passing, release_of, releases_of}
use Rattle.stream_model.proofs.Found.{packets_have_bytes, starts_rise, precinct_is_found}
use Rattle.stream_model.proofs.RunPlaces.{as_many}

-- a number that isn't below another is it, or above it
here_or_behind : (a i : ℕ) → a ≤ i → (a ≡ i) ⊎ (a + 1 ≤ i)
here_or_behind a i low = elim (cases_lt a i) [ inl t ↦ inr (omega arith) | inr t ↦ inl (omega arith) ]

-- the second of two holds
either_true : (b c : Bool) → c ≡ true → (b || c) ≡ true
either_true true c e = refl
either_true false c e = e

-- what is chosen before a list
chosen : {A : Type 0} (b : Bool) (x : A) (all xs ys : List A) → all ≡ xs ++ ys → (if b then x ∷ all else all) ≡ (if b then x ∷ xs else xs) ++ ys
chosen true x all xs ys e = ap (λ l. x ∷ l) e
chosen false x all xs ys e = e

-- all of a range pass,
pub range_all : (t : ℕ → Bool) (a n : ℕ) → ((i : ℕ) → a ≤ i → i < a + n → t i ≡ true) → list_all t (range_with_len a n) ≡ true
range_all t a zero h = refl
range_all t a (suc n) h = let e = h a (omega arith) (omega arith) in rw e (range_all t (a + 1) n (λ i low high. h i (omega arith) (omega arith)))

-- or one doesn't
first_fails : (b c : Bool) → b ≡ false → (b && c) ≡ false
first_fails b c e = rw e refl

-- or the second
pub second_fails : (b c : Bool) → c ≡ false → (b && c) ≡ false
second_fails true c e = e
second_fails false c e = refl

-- a range fails with one of its numbers
range_not : (t : ℕ → Bool) (a n i : ℕ) → a ≤ i → i < a + n → t i ≡ false → list_all t (range_with_len a n) ≡ false
range_not t a zero i low high e = absurd (omega arith)
range_not t a (suc n) i low high e = elim (here_or_behind a i low) [
  | inl same ↦ first_fails (t a) (list_all t (range_with_len (a + 1) n)) (ap t same ∙ e)
  | inr more ↦ second_fails (t a) (list_all t (range_with_len (a + 1) n)) (range_not t (a + 1) n i more (omega arith) e)
]

-- one of some passes, or none
any_has : {A : Type 0} (t : A → Bool) (xs : List A) (x : A) → Has xs x → t x ≡ true → list_any t xs ≡ true
any_has t [] x h e = absurd h
any_has t (y ∷ xs) x (inl s) e = let p = ap t s ∙ e in rw p refl
any_has t (y ∷ xs) x (inr h) e = either_true (t y) (list_any t xs) (any_has t xs x h e)

-- none passes where each fails
none_pass : {A : Type 0} (t : A → Bool) (xs : List A) → AllByRecursion (λ x. t x ≡ false) xs → list_any t xs ≡ false
none_pass t [] h = refl
none_pass t (x ∷ xs) h = let p = h.0 in rw p (none_pass t xs h.1)

-- a precinct is reached by a resync point from which on everything is there
pub reach_true : (there : ℕ → Bool) (c : Carried) (j : ℕ) (packet : CarriedPacket) (r : ResyncPoint) → there c.main ≡ true → Has c.resyncs r → r.precinct ≤ j → ((i : ℕ) → r.at ≤ i → i ≤ packet.last → there i ≡ true) → reaches there c j packet ≡ true
reach_true there c j packet r main has low run =
    let t : ResyncPoint → Bool = λ r. nat_le r.precinct j && list_all there (range_with_len r.at (packet.last + 1 - r.at)) in
    let a : nat_le r.precinct j ≡ true = le-leb r.precinct j low in
    let b : list_all there (range_with_len r.at (packet.last + 1 - r.at)) ≡ true = range_all there r.at (packet.last + 1 - r.at) (λ i l h. run i l (omega arith)) in
    let u : t r ≡ true = rw (a, b) refl in
    let v : list_any t c.resyncs ≡ true = any_has t c.resyncs r has u in
    rw (main, v) refl

-- and isn't where each resync point is of a later precinct, or something is missing after it
abbrev pub Fails : (ℕ → Bool) → ℕ → ℕ → ResyncPoint → Type 0
Fails there j last r = (j < r.precinct) ⊎ ((x : ℕ) × (r.at ≤ x) × (x ≤ last) × (there x ≡ false))

-- so its test fails
fails_test : (there : ℕ → Bool) (j last : ℕ) (r : ResyncPoint) → Fails there j last r → (nat_le r.precinct j && list_all there (range_with_len r.at (last + 1 - r.at))) ≡ false
fails_test there j last r (inl high) = first_fails (nat_le r.precinct j) (list_all there (range_with_len r.at (last + 1 - r.at))) (lt-leb r.precinct j high)
fails_test there j last r (inr (x, low, most, e)) = second_fails (nat_le r.precinct j) (list_all there (range_with_len r.at (last + 1 - r.at))) (range_not there r.at (last + 1 - r.at) x low (omega arith) e)

-- and that of each
all_fail : (there : ℕ → Bool) (j last : ℕ) (rs : List ResyncPoint) → AllByRecursion (Fails there j last) rs → AllByRecursion (λ r. (nat_le r.precinct j && list_all there (range_with_len r.at (last + 1 - r.at))) ≡ false) rs
all_fail there j last [] h = tt
all_fail there j last (r ∷ rs) h = (fails_test there j last r h.0, all_fail there j last rs h.1)

-- so a precinct is not reached
pub reach_false : (there : ℕ → Bool) (c : Carried) (j : ℕ) (packet : CarriedPacket) → AllByRecursion (Fails there j packet.last) c.resyncs → reaches there c j packet ≡ false
reach_false there c j packet h =
    second_fails (there c.main) (list_any (λ r. nat_le r.precinct j && list_all there (range_with_len r.at (packet.last + 1 - r.at))) c.resyncs)
    (none_pass (λ (r : ResyncPoint). nat_le r.precinct j && list_all there (range_with_len r.at (packet.last + 1 - r.at))) c.resyncs (all_fail there j packet.last c.resyncs h))

-- nothing is reached without the Main
pub reach_lost : (there : ℕ → Bool) (c : Carried) (j : ℕ) (packet : CarriedPacket) → there c.main ≡ false → reaches there c j packet ≡ false
reach_lost there c j packet e = first_fails (there c.main) (list_any (λ r. nat_le r.precinct j && list_all there (range_with_len r.at (packet.last + 1 - r.at))) c.resyncs) e

-- the precincts that pass
pub passing-append : {A : Type 0} (t : ℕ → Bool) (k : ℕ) (xs ys : List A) → passing t k (xs ++ ys) ≡ passing t k xs ++ passing t (k + length xs) ys
passing-append t k [] ys = ap (λ n. passing t n ys) (let e : k ≡ k + 0 = omega arith in e)
passing-append t k (x ∷ xs) ys =
    let e : k + 1 + length xs ≡ k + suc (length xs) = omega arith in
    chosen (t k) x (passing t (k + 1) (xs ++ ys)) (passing t (k + 1) xs) (passing t (k + suc (length xs)) ys) (passing-append t (k + 1) xs ys ∙ ap (λ n. passing t (k + 1) xs ++ passing t n ys) e)

-- all pass where the test holds of each number
pub passing_all : {A : Type 0} (t : ℕ → Bool) (k : ℕ) (xs : List A) → ((j : ℕ) → k ≤ j → j < k + length xs → t j ≡ true) → passing t k xs ≡ xs
passing_all t k [] h = refl
passing_all t k (x ∷ xs) h = let e = h k (omega arith) (omega arith) in rw e (ap (λ l. x ∷ l) (passing_all t (k + 1) xs (λ j low high. h j (omega arith) (omega arith))))

-- and none where it fails
pub passing_none : {A : Type 0} (t : ℕ → Bool) (k : ℕ) (xs : List A) → ((j : ℕ) → k ≤ j → j < k + length xs → t j ≡ false) → passing t k xs ≡ []
passing_none t k [] h = refl
passing_none t k (x ∷ xs) h = let e = h k (omega arith) (omega arith) in rw e (passing_none t (k + 1) xs (λ j low high. h j (omega arith) (omega arith)))

-- The releases of packets, and of those after them.
pub releases-append : (c : Current) (n : ℕ) (ps qs : List Place) (xs ys : List Content) (bs cs : List (List ℕ)) → length ps ≡ length xs → length ps ≡ length bs
    → releases_of c n (ps ++ qs) (xs ++ ys) (bs ++ cs) ≡ releases_of c n ps xs bs ++ releases_of c n qs ys cs
releases-append c n [] qs [] ys [] cs e f = refl
releases-append c n [] qs [] ys (b ∷ bs) cs e f = absurd (omega arith)
releases-append c n [] qs (x ∷ xs) ys bs cs e f = absurd (omega arith)
releases-append c n (p ∷ ps) qs [] ys bs cs e f = absurd (omega arith)
releases-append c n (p ∷ ps) qs (x ∷ xs) ys [] cs e f = absurd (omega arith)
releases-append c n (p ∷ ps) qs (x ∷ xs) ys (b ∷ bs) cs e f = ap (λ l. release_of c n p x b ∷ l) (releases-append c n ps qs xs ys bs cs (omega arith) (omega arith))

-- They are as many as the places.
pub releases-length : (c : Current) (n : ℕ) (ps : List Place) (xs : List Content) (bs : List (List ℕ)) → length ps ≡ length xs → length ps ≡ length bs → length (releases_of c n ps xs bs) ≡ length ps
releases-length c n [] xs bs e f = refl
releases-length c n (p ∷ ps) [] bs e f = absurd (omega arith)
releases-length c n (p ∷ ps) (x ∷ xs) [] e f = absurd (omega arith)
releases-length c n (p ∷ ps) (x ∷ xs) (b ∷ bs) e f = ap suc (releases-length c n ps xs bs (omega arith) (omega arith))

-- the resync point of a mark
abbrev pub point : ℕ → Sent → Mark → ResyncPoint
point main s m = record { at = main + 1 + m.body; precinct = precinct_at s.parts m.place }

-- a mark that is after a packet's end is of a later precinct
pub later_precinct : (c : Parts) (codestream : List ℕ) (a : ArePartsOf c codestream) (j from : ℕ) (m : Mark) → j < length c.packets → packet_start c (j + 1) ≤ from → IsResync c m → from ≤ m.place → j < precinct_at c m.place
later_precinct c codestream a j from m low ends r high =
    let q = r.precinct in
    let most : q < length c.packets = omega (arith, slice_get_within c.places q r.place r.has, as_many c.head c.places c.content c.packets a.are_packets) in
    let number : precinct_at c m.place ≡ q = ap (precinct_at c) r.starts ∙ precinct_is_found c codestream q a most in
    elim (cases_lt j q) [
      | inl t ↦ omega (arith, t, number)
      | inr t ↦ absurd (omega (arith, ends, high, r.starts, starts_rise c.packets q (j + 1) (packets_have_bytes c.head c.places c.content c.packets a.are_packets) (omega (arith, t)) (omega (arith, low))))
    ]
