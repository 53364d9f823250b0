-- What is due stays due, and what becomes due comes after it.
use Rattle.std.proofs.Common.{◌≡◌, ◌<◌, ◌≤◌, ◌⊎◌, ◌+◌, ◌-◌, ℕ, zero, suc, Bool, true, false, cond, List, [], ◌∷◌, ◌++◌, map, refl, sym, subst, ap, ◌∙◌, inl, inr, arith}
use Rattle.std.specs.Prelude.{◌&&◌, ◌||◌, nat_le, nat_lt}
use Rattle.std.specs.List.{AllByRecursion, filter, flat_map, list_any, list_all, range_with_len, enumerate_from}
use Rattle.std.proofs.lemmas.Bool.{lt-ltb, ltb-true}
use Rattle.std.proofs.lemmas.List.{map-append}
use Rattle.stream_model.specs.Arrivals.{in_time, base}
use Rattle.stream_model.specs.Reached.{CarriedPacket, ResyncPoint, Carried, StreamPrecinct, run_in_time, is_reached, is_due, precincts_by}
use Rattle.stream_model.specs.Laws.{NeverFall, last_datagrams, DueGrows}
use Rattle.stream_model.proofs.Bases.{not_true, base-le-append}
use Rattle.stream_model.proofs.Decided.{below_base_is_decided}
use Rattle.stream_model.proofs.Thinned.{filter-map}
use Rattle.stream_model.proofs.CutBodies.{all_imply}
use Rattle.stream_model.proofs.CutPayloads.{all-append}

-- a packet of a stream with its codestream and its number
abbrev pub Item : Type 0
Item = Carried × (ℕ × CarriedPacket)

abbrev pub item : Carried → ℕ × CarriedPacket → Item
item c x = (c, x)

abbrev pub items_of : Carried → List Item
items_of c = map (item c) (enumerate_from 0 c.packets)

abbrev pub items : List Carried → List Item
items stream = flat_map items_of stream

abbrev pub last_of : Item → ℕ
last_of x = x.1.1.last

abbrev pub FollowsMain : Item → Type 0
FollowsMain x = x.0.main ≤ x.1.1.last

abbrev pub named : Item → StreamPrecinct
named x = record { stamp = x.0.stamp; precinct = x.1.0 }

-- to filter two lists is to filter both
filter_by : {A : Type 0} (x : A) (xs ys zs : List A) (b : Bool) → zs ≡ xs ++ ys → cond b (x ∷ zs) zs ≡ cond b (x ∷ xs) xs ++ ys
filter_by x xs ys zs true e = ap (λ ws. x ∷ ws) e
filter_by x xs ys zs false e = e

pub filter-append : {A : Type 0} (t : A → Bool) (xs ys : List A) → filter t (xs ++ ys) ≡ filter t xs ++ filter t ys
filter-append t [] ys = refl
filter-append t (x ∷ xs) ys = filter_by x (filter t xs) (filter t ys) (filter t (xs ++ ys)) (t x) (filter-append t xs ys)

map_map : {A B C : Type 0} (f : B → C) (g : A → B) (xs : List A) → map f (map g xs) ≡ map (λ x. f (g x)) xs
map_map f g [] = refl
map_map f g (x ∷ xs) = ap (λ ys. f (g x) ∷ ys) (map_map f g xs)

-- the precincts that pass a test are the items that do
pub precincts_are_items : (test : Carried → ℕ → CarriedPacket → Bool) (stream : List Carried) → flat_map (λ c. precincts_by (test c) c) stream ≡ map named (filter (λ x. test x.0 x.1.0 x.1.1) (items stream))
precincts_are_items test [] = refl
precincts_are_items test (c ∷ stream) =
    let t : Item → Bool = λ x. test x.0 x.1.0 x.1.1 in
    let here : precincts_by (test c) c ≡ map named (filter t (items_of c)) =
    sym (ap (λ ys. map named ys) (filter-map (item c) t (enumerate_from 0 c.packets)) ∙ map_map named (item c) (filter (λ x. test c x.0 x.1) (enumerate_from 0 c.packets))) in
    ap (λ ys. ys ++ flat_map (λ c. precincts_by (test c) c) stream) here
    ∙ (ap (λ ys. map named (filter t (items_of c)) ++ ys) (precincts_are_items test stream)
    ∙ (sym (map-append named (filter t (items_of c)) (filter t (items stream)))
    ∙ ap (λ ys. map named ys) (sym (filter-append t (items_of c) (items stream)))))

-- of items in order, those below a limit come first
pub none_left : {A : Type 0} (t : A → Bool) (xs : List A) → AllByRecursion (λ x. t x ≡ false) xs → filter t xs ≡ []
none_left t [] h = refl
none_left t (x ∷ xs) h = rw h.0 (none_left t xs h.1)

below_or_not : (a b : ℕ) → (a < b) ⊎ (b ≤ a)
below_or_not a b = grind arith

same_head : {A : Type 0} (x : A) (xs ys later : List A) (a b : Bool) → a ≡ b → ys ≡ xs ++ later → cond b (x ∷ ys) ys ≡ cond a (x ∷ xs) xs ++ later
same_head x xs ys later true b e h = rw (sym e) (ap (λ zs. x ∷ zs) h)
same_head x xs ys later false b e h = rw (sym e) h

abbrev Split : {A : Type 0} → (A → Bool) → (A → Bool) → List A → Type 0
Split {A} t u xs = (later : List A) × (filter u xs ≡ filter t xs ++ later)

past_all : {A : Type 0} (t u : A → Bool) (last : A → ℕ) (b n : ℕ) → b ≤ n → (xs : List A) → AllByRecursion (λ m. n ≤ m) (map last xs) → AllByRecursion (λ x. (last x < b → t x ≡ u x) × (b ≤ last x → t x ≡ false)) xs → AllByRecursion (λ x. t x ≡ false) xs
past_all t u last b n high [] order h = tt
past_all t u last b n high (x ∷ xs) order h = (h.0.1 (let m : n ≤ last x = order.0 in omega arith), past_all t u last b n high xs order.1 h.1)

front_filter : {A : Type 0} (t u : A → Bool) (last : A → ℕ) (b : ℕ) (xs : List A) → NeverFall (map last xs) → AllByRecursion (λ x. (last x < b → t x ≡ u x) × (b ≤ last x → t x ≡ false)) xs → Split t u xs
front_filter t u last b [] order h = ([], refl)
front_filter t u last b (x ∷ xs) order h =
    elim (below_or_not (last x) b) [
      | inl low ↦ (let more = front_filter t u last b xs order.1 h.1 in (more.0, same_head x (filter t xs) (filter u xs) more.0 (t x) (u x) (h.0.0 low) more.1))
      | inr high ↦ (filter u (x ∷ xs), ap (λ ys. ys ++ filter u (x ∷ xs)) (sym (none_left t (x ∷ xs) (h.0.1 high, past_all t u last b (last x) high xs order.0 h.1))))
    ]

-- what is reached below the base is decided
run_decided : (events more : List ℕ) (window a m : ℕ) → 1 ≤ window → a + m ≤ base events window → list_all (λ i. in_time (events ++ more) i window) (range_with_len a m) ≡ list_all (λ i. in_time events i window) (range_with_len a m)
run_decided events more window a zero some h = refl
run_decided events more window a (suc m) some h = rw (below_base_is_decided events more a window some (omega arith), run_decided events more window (a + 1) m some (omega arith)) refl

stretch_decided : (events more : List ℕ) (window a last : ℕ) → 1 ≤ window → last < base events window → ((a ≤ last) ⊎ (last < a)) → run_in_time (events ++ more) window a last ≡ run_in_time events window a last
stretch_decided events more window a last some low (inl h) = run_decided events more window a (last + 1 - a) some (omega arith)
stretch_decided events more window a last some low (inr h) = let z : last + 1 - a ≡ 0 = omega arith in rw z refl

le_or_lt : (a b : ℕ) → (a ≤ b) ⊎ (b < a)
le_or_lt a b = grind arith

resyncs_decided : (events more : List ℕ) (window k last : ℕ) (rs : List ResyncPoint) → 1 ≤ window → last < base events window → list_any (λ r. nat_le r.precinct k && run_in_time (events ++ more) window r.at last) rs ≡ list_any (λ r. nat_le r.precinct k && run_in_time events window r.at last) rs
resyncs_decided events more window k last [] some low = refl
resyncs_decided events more window k last (r ∷ rs) some low =
    ap (λ b. (nat_le r.precinct k && b) || list_any (λ r. nat_le r.precinct k && run_in_time (events ++ more) window r.at last) rs) (stretch_decided events more window r.at last some low (le_or_lt r.at last))
    ∙ ap (λ b. (nat_le r.precinct k && run_in_time events window r.at last) || b) (resyncs_decided events more window k last rs some low)

pub reached_decided : (events more : List ℕ) (window : ℕ) (c : Carried) (k : ℕ) (q : CarriedPacket) → 1 ≤ window → c.main ≤ q.last → q.last < base events window → is_reached (events ++ more) window c k q ≡ is_reached events window c k q
reached_decided events more window c k q some main low =
    ap (λ b. b && list_any (λ r. nat_le r.precinct k && run_in_time (events ++ more) window r.at q.last) c.resyncs) (below_base_is_decided events more c.main window some (omega arith))
    ∙ ap (λ b. in_time events c.main window && b) (resyncs_decided events more window k q.last c.resyncs some low)

-- so what is due stays so
both_true : (a b c : Bool) → b ≡ true → c ≡ true → (a && b) ≡ (a && c)
both_true a b c h k = ap (λ x. a && x) (h ∙ sym k)

no_and : (a b : Bool) → b ≡ false → (a && b) ≡ false
no_and true b h = h
no_and false b h = refl

due_agrees : (events more : List ℕ) (window : ℕ) (x : Item) → 1 ≤ window → x.0.main ≤ x.1.1.last → x.1.1.last < base events window → is_due events window x.0 x.1.0 x.1.1 ≡ is_due (events ++ more) window x.0 x.1.0 x.1.1
due_agrees events more window x some main low =
    let grows : base events window ≤ base (events ++ more) window = base-le-append events more window some in
    both_true (is_reached events window x.0 x.1.0 x.1.1) (nat_lt x.1.1.last (base events window)) (nat_lt x.1.1.last (base (events ++ more) window)) (lt-ltb x.1.1.last (base events window) low) (lt-ltb x.1.1.last (base (events ++ more) window) (omega arith))
    ∙ ap (λ b. b && nat_lt x.1.1.last (base (events ++ more) window)) (sym (reached_decided events more window x.0 x.1.0 x.1.1 some main low))

not_due : (events : List ℕ) (window : ℕ) (x : Item) → base events window ≤ x.1.1.last → is_due events window x.0 x.1.0 x.1.1 ≡ false
not_due events window x high =
    no_and (is_reached events window x.0 x.1.0 x.1.1) (nat_lt x.1.1.last (base events window))
    (not_true (nat_lt x.1.1.last (base events window)) (λ t. let l : x.1.1.last < base events window = ltb-true x.1.1.last (base events window) t in omega arith))

-- the order of the items
ends_of : (c : Carried) (k : ℕ) (qs : List CarriedPacket) → map last_of (map (item c) (enumerate_from k qs)) ≡ map (λ q. q.last) qs
ends_of c k [] = refl
ends_of c k (q ∷ qs) = ap (λ ys. q.last ∷ ys) (ends_of c (k + 1) qs)

pub ends_are : (stream : List Carried) → map last_of (items stream) ≡ last_datagrams stream
ends_are [] = refl
ends_are (c ∷ stream) =
    map-append last_of (items_of c) (items stream)
    ∙ (ap (λ ys. ys ++ map last_of (items stream)) (ends_of c 0 c.packets) ∙ ap (λ ys. map (λ q. q.last) c.packets ++ ys) (ends_are stream))

mains_of : (c : Carried) (k : ℕ) (qs : List CarriedPacket) → AllByRecursion (λ q. c.main ≤ q.last) qs → AllByRecursion FollowsMain (map (item c) (enumerate_from k qs))
mains_of c k [] h = tt
mains_of c k (q ∷ qs) h = (h.0, mains_of c (k + 1) qs h.1)

mains_are : (stream : List Carried) → AllByRecursion (λ c. AllByRecursion (λ q. c.main ≤ q.last) c.packets) stream → AllByRecursion FollowsMain (items stream)
mains_are [] h = tt
mains_are (c ∷ stream) h = all-append FollowsMain (items_of c) (items stream) (mains_of c 0 c.packets h.0) (mains_are stream h.1)

pub due_grows : DueGrows
due_grows events more window stream some order =
    let b : ℕ = base events window in
    let t : Item → Bool = λ x. is_due events window x.0 x.1.0 x.1.1 in
    let u : Item → Bool = λ x. is_due (events ++ more) window x.0 x.1.0 x.1.1 in
    let xs : List Item = items stream in
    let P : List ℕ → Type 0 = NeverFall in
    let rises : NeverFall (map last_of xs) = subst P (sym (ends_are stream)) order.ends in
    let agree : AllByRecursion (λ (x : Item). (x.1.1.last < b → t x ≡ u x) × (b ≤ x.1.1.last → t x ≡ false)) xs =
    all_imply FollowsMain (λ (x : Item). (x.1.1.last < b → t x ≡ u x) × (b ≤ x.1.1.last → t x ≡ false)) xs
    (λ x main. (λ low. due_agrees events more window x some main low, λ high. not_due events window x high))
    (mains_are stream order.mains) in
    let split = front_filter t u last_of b xs rises agree in (
      map named split.0,
      precincts_are_items (is_due (events ++ more) window) stream
          ∙ (ap (λ ys. map named ys) split.1
          ∙ (map-append named (filter t xs) split.0
          ∙ ap (λ ys. ys ++ map named split.0) (sym (precincts_are_items (is_due events window) stream)))),
    )
