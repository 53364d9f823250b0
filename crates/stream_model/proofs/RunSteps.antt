-- One Body more, be it there or missing: what the rules give, and what is known before the next one.
use Rattle.std.proofs.Common.{◌≡◌, ◌⊎◌, ◌<◌, ◌≤◌, ◌+◌, ℕ, suc, Bool, false, List, [], ◌∷◌, ◌++◌, length, Option, None, subst, refl, sym, ◌∙◌, ap, inl, inr, arith, append_assoc}
use Rattle.std.specs.List.{AllByRecursion, flat_map}
use Rattle.std.proofs.lemmas.List.{length-append}
use Rattle.std.proofs.lemmas.List.Sums.{sum_by-append, sum_by-cons}
use Rattle.wire_model.specs.Datagram.{Datagram}
use Rattle.codestream_model.specs.Values.{Head, Place}
use Rattle.codestream_model.specs.Packet.{Content}
use Rattle.codestream_model.specs.Codestream.{joined}
use Rattle.stream_model.specs.Stream.{Parts, ArePackets, ArePartsOf, Sent, Mark, mark_of, precinct_at}
use Rattle.stream_model.specs.Decoder.{Current, Decoder, Release, Settled, run_of, take_gap, settle}
use Rattle.stream_model.specs.RunLaws.{passing, fed, given_before, current_of, releases_of}
use Rattle.stream_model.proofs.CutPayloads.{all-append}
use Rattle.stream_model.proofs.CutBodies.{all_imply}
use Rattle.stream_model.proofs.RunRules.{state, Went, goes_on}
use Rattle.stream_model.proofs.RunPlaces.{Here, as_many, next_here, gone_between}
use Rattle.stream_model.proofs.RunReach.{point, passing-append, passing_none, releases-append, releases-length}
use Rattle.stream_model.proofs.RunStates.{marks_from, own_body, test, Lost, Dead, Alive, At, none_reached, after_own}

-- what is known after a Body: this many packets have ended in it, and these were released
pub record Next (d0 : Decoder) (s : Sent) (main : ℕ) (there : ℕ → Bool) (i at : ℕ) (rest : List Datagram) (k : ℕ) (ps : List Place) (xs : List Content) (bs : List (List ℕ)) (d : Decoder) (item : Option Datagram) : Type 0 where
  pub left : List Place
  pub more : List Content
  pub packets : List (List ℕ)
  pub kept : List ℕ
  pub decoder : Decoder
  pub given : List Release
  pub gone : ℕ
  pub known : At d0 s main there i at rest left more packets kept decoder
  pub count : length known.here.done ≡ k + gone
  pub passes : passing (test there main s) k (releases_of (current_of s) d0.heads ps xs bs) ≡ given ++ passing (test there main s) (k + gone) (releases_of (current_of s) d0.heads left more packets)
  pub feeds : (items : List (Option Datagram)) → fed d (item ∷ items) ≡ given_before given (fed decoder items)

-- what is known before the next Body
pub next_at : (d0 : Decoder) (s : Sent) (main : ℕ) (there : ℕ → Bool) (i at : ℕ) (x : Datagram) (rest : List Datagram) (ps : List Place) (xs : List Content) (bs : List (List ℕ)) (got : List ℕ) (d : Decoder) (a : At d0 s main there i at (x ∷ rest) ps xs bs got d)
    (left : List Place) (more : List Content) (packets : List (List ℕ)) (kept : List ℕ) (h : Here s.parts (at + length x.codestream) left more packets kept (flat_map (λ y. y.codestream) rest)) (next : Decoder)
    → (Alive there main s (main + 1 + (i + 1)) (length h.done) × (next ≡ state d0 (current_of s) (run_of left) kept None))
    ⊎ (Dead there main s (main + 1 + (i + 1)) (a.earlier ++ mark_of i at x.payload) × (next ≡ state d0 (current_of s) None [] None))
    → (t : At d0 s main there (i + 1) (at + length x.codestream) rest left more packets kept next) × (t.here.done ≡ h.done)
next_at d0 s main there i at x rest ps xs bs got d a left more packets kept h next run =
    let mine = mark_of i at x.payload in
    let later = marks_from (i + 1) (at + length x.codestream) rest in
    let f : Datagram → ℕ = λ y. length y.codestream in (
      record {
        here = h;
        front = a.front ++ x ∷ [];
        bodies = a.bodies ∙ sym (append_assoc a.front (x ∷ []) rest);
        count = length-append a.front (x ∷ []) ∙ ap (λ n. n + 1) a.count;
        start = (let e = sum_by-append f a.front (x ∷ []) in let g = sum_by-cons f x [] in omega (arith, e, g, a.start));
        earlier = a.earlier ++ mine;
        low = all-append (λ (m : Mark). m.body < i + 1) a.earlier mine
            (all_imply (λ (m : Mark). m.body < i) (λ m. m.body < i + 1) a.earlier (λ m h. omega arith) a.low)
            (all_imply (λ (m : Mark). m.body ≡ i) (λ m. m.body < i + 1) mine (λ m h. omega arith) (own_body i at x.payload));
        marks_are = a.marks_are ∙ sym (append_assoc a.earlier mine later);
        right = after_own s.parts mine later a.right;
        run = run;
      },
      refl,
    )

-- the bytes of the packets, and what is after them
pub tail_of : (c : Parts) (at : ℕ) (ps : List Place) (xs : List Content) (bs : List (List ℕ)) (got payload todo : List ℕ) → Here c at ps xs bs got (payload ++ todo) → (tail : List ℕ) × (joined bs ++ tail ≡ (got ++ payload) ++ todo)
tail_of c at ps xs bs got payload todo h = elim h.bytes [
  | inl none ↦ ((got ++ payload) ++ todo, ap (λ l. joined l ++ ((got ++ payload) ++ todo)) none)
  | inr e ↦ (255 ∷ 217 ∷ [], e ∙ sym (append_assoc got payload todo))
]

-- the releases that pass among those that are gone, and after them
pub split_passes : (t : ℕ → Bool) (k : ℕ) (c : Current) (n : ℕ) (ps gone left : List Place) (xs said more : List Content) (bs whole rest : List (List ℕ)) → ps ≡ gone ++ left → xs ≡ said ++ more → bs ≡ whole ++ rest
    → length gone ≡ length said → length gone ≡ length whole → passing t k (releases_of c n ps xs bs) ≡ passing t k (releases_of c n gone said whole) ++ passing t (k + length gone) (releases_of c n left more rest)
split_passes t k c n ps gone left xs said more bs whole rest e f g same many =
    ap (λ l. passing t k (releases_of c n l xs bs)) e
    ∙ (ap (λ l. passing t k (releases_of c n (gone ++ left) l bs)) f
    ∙ (ap (λ l. passing t k (releases_of c n (gone ++ left) (said ++ more) l)) g
    ∙ (ap (passing t k) (releases-append c n gone left said more whole rest same many)
    ∙ (passing-append t k (releases_of c n gone said whole) (releases_of c n left more rest)
    ∙ ap (λ m. passing t k (releases_of c n gone said whole) ++ passing t (k + m) (releases_of c n left more rest)) (releases-length c n gone said whole same many)))))

-- as many contents as precincts
pub as_said : (h : Head) (ps : List Place) (xs : List Content) (bs : List (List ℕ)) → ArePackets h ps xs bs → length ps ≡ length xs
as_said h [] [] [] a = refl
as_said h [] [] (b ∷ bs) a = absurd a
as_said h [] (x ∷ xs) bs a = absurd a
as_said h (p ∷ ps) [] bs a = absurd a
as_said h (p ∷ ps) (x ∷ xs) [] a = absurd a
as_said h (p ∷ ps) (x ∷ xs) (b ∷ bs) a = ap suc (as_said h ps xs bs a.1)

-- those that are gone are packets of the codestream
pub few_gone : (c : Parts) (at : ℕ) (ps : List Place) (xs : List Content) (bs : List (List ℕ)) (got todo payload : List ℕ) (h : Here c at ps xs bs got todo) (d : Decoder) (cur : Current) (s : Settled) → cur.head ≡ c.head → (w : Went d cur ps xs bs payload s) → length h.done + length w.gone ≤ length c.packets
few_gone c at ps xs bs got todo payload h d cur s e w =
    let B : Head → Type 0 = λ g. ArePackets g w.gone w.said w.whole in
    let size = as_many c.head w.gone w.said w.whole (subst B e w.are_gone) in
    omega (arith, size, ap length h.packets, length-append h.done bs, ap length w.packets, length-append w.whole w.rest)

-- the number of packets that have ended
pub many_done : (c : Parts) (at : ℕ) (ps : List Place) (xs : List Content) (bs : List (List ℕ)) (got payload todo : List ℕ) (h : Here c at ps xs bs got (payload ++ todo)) (d : Decoder) (cur : Current) (s : Settled) (e : cur.head ≡ c.head) (w : Went d cur ps xs bs (got ++ payload) s)
    → length (next_here c at ps xs bs got payload todo h d cur s e w).0.done ≡ length h.done + length w.gone
many_done c at ps xs bs got payload todo h d cur s e w =
    let B : Head → Type 0 = λ g. ArePackets g w.gone w.said w.whole in
    let size = as_many c.head w.gone w.said w.whole (subst B e w.are_gone) in
    omega (arith, size, ap length (next_here c at ps xs bs got payload todo h d cur s e w).1, length-append h.done w.whole)

-- the packets that are gone, with what is known of the next Body
abbrev pub the_next : (d0 : Decoder) (s : Sent) (main : ℕ) (there : ℕ → Bool) (i at : ℕ) (x : Datagram) (rest : List Datagram) (ps : List Place) (xs : List Content) (bs : List (List ℕ)) (got : List ℕ) (d : Decoder) (item : Option Datagram)
    (a : At d0 s main there i at (x ∷ rest) ps xs bs got d) → Type 0
the_next d0 s main there i at x rest ps xs bs got d item a = Next d0 s main there (i + 1) (at + length x.codestream) rest (length a.here.done) ps xs bs d item

-- a Body that is missing: what ends in it isn't reached, and no run is left
pub step_gap : (d0 : Decoder) (s : Sent) (main : ℕ) (there : ℕ → Bool) (i at : ℕ) (x : Datagram) (rest : List Datagram) (ps : List Place) (xs : List Content) (bs : List (List ℕ)) (got : List ℕ) (d : Decoder) (a : At d0 s main there i at (x ∷ rest) ps xs bs got d)
    (codestream : List ℕ) (parts : ArePartsOf s.parts codestream) → there (main + 1 + i) ≡ false → the_next d0 s main there i at x rest ps xs bs got d None a
step_gap d0 s main there i at x rest ps xs bs got d a codestream parts none =
    let c = s.parts in
    let cur = current_of s in
    let todo = flat_map (λ (y : Datagram). y.codestream) rest in
    let t = tail_of c at ps xs bs got x.codestream todo a.here in
    let n = length (got ++ x.codestream) + 2 in
    let r = settle n (state d0 cur (run_of ps) (got ++ x.codestream) None) in
    let w = goes_on n d0 cur ps xs bs (got ++ x.codestream) todo t.0 a.here.are t.1 (omega arith) in
    let h = next_here c at ps xs bs got x.codestream todo a.here d0 cur r refl w in
    let size = many_done c at ps xs bs got x.codestream todo a.here d0 cur r refl w in
    let k = length a.here.done in
    let mine = mark_of i at x.payload in
    let lost : (m : Mark) → m.body < i + 1 → Lost there (main + 1 + (i + 1)) (point main s m) = λ m low. (main + 1 + i, omega arith, omega arith, none) in
    let main_lost : Lost there (main + 1 + (i + 1)) (record { at = main; precinct = 0 }) = (main + 1 + i, omega arith, omega arith, none) in
    let was : Dead there main s (main + 1 + (i + 1)) a.earlier = (main_lost, all_imply (λ (m : Mark). m.body < i) (λ m. Lost there (main + 1 + (i + 1)) (point main s m)) a.earlier (λ m low. lost m (omega arith)) a.low) in
    let own : AllByRecursion (λ m. Lost there (main + 1 + (i + 1)) (point main s m)) mine = all_imply (λ (m : Mark). m.body ≡ i) (λ m. Lost there (main + 1 + (i + 1)) (point main s m)) mine (λ m e. lost m (omega arith)) (own_body i at x.payload) in
    let dead : Dead there main s (main + 1 + (i + 1)) (a.earlier ++ mine) = (main_lost, all-append (λ m. Lost there (main + 1 + (i + 1)) (point main s m)) a.earlier mine was.1 own) in
    let next : take_gap d ≡ state d0 cur None [] None = elim a.run [ inl u ↦ ap take_gap u.1 | inr u ↦ ap take_gap u.1 ] in
    let known = next_at d0 s main there i at x rest ps xs bs got d a w.left w.more w.rest w.kept h.0 (take_gap d) (inr (dead, next)) in
    let missed : (j : ℕ) → k ≤ j → j < k + length w.gone → test there main s j ≡ false = λ j low high.
    (let b = gone_between c at ps xs bs got x.codestream (x.codestream ++ todo) a.here d0 cur r refl w j low high in
    none_reached d0 s main there i at x rest ps xs bs got d a codestream parts j was (omega (arith, few_gone c at ps xs bs got (x.codestream ++ todo) (got ++ x.codestream) a.here d0 cur r refl w, high)) b.0 b.1
    (all_imply (λ (m : Mark). m.body ≡ i) (λ m. (j < precinct_at c m.place) ⊎ (there (main + 1 + i) ≡ false)) mine (λ m e. inr none) (own_body i at x.payload))) in
    let same = as_said c.head w.gone w.said w.whole w.are_gone in
    let many = as_many c.head w.gone w.said w.whole w.are_gone in
    let passes = split_passes (test there main s) k cur d0.heads ps w.gone w.left xs w.said w.more bs w.whole w.rest w.places w.content w.packets same many in
    let empty = passing_none (test there main s) k (releases_of cur d0.heads w.gone w.said w.whole) (λ j low high. missed j low (omega (arith, high, releases-length cur d0.heads w.gone w.said w.whole same many))) in
    record {
      left = w.left;
      more = w.more;
      packets = w.rest;
      kept = w.kept;
      decoder = take_gap d;
      given = [];
      gone = length w.gone;
      known = known.0;
      count = ap length known.1 ∙ size;
      passes = passes ∙ ap (λ l. l ++ passing (test there main s) (k + length w.gone) (releases_of cur d0.heads w.left w.more w.rest)) empty;
      feeds = λ items. refl;
    }
