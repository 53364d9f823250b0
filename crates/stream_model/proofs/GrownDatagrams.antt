-- The datagrams of what is there of codestreams are the first of those when more of the last one is there, or others follow.
use Rattle.std.proofs.Common.{◌≡◌, ◌⊎◌, ◌<◌, ◌≤◌, ◌+◌, ◌/◌, ◌^◌, ℕ, zero, suc, Bool, true, false, List, [], ◌∷◌, ◌++◌, map, length, take, refl, sym, subst, ap, ◌∙◌, inl, inr, arith, append_assoc, if◌then◌else◌}
use Rattle.std.specs.Prelude.{◌==◌, ◌&&◌, nat_le}
use Rattle.std.specs.List.{AllByRecursion, filter, flat_map, sum_by, prefix_len, enumerate_from}
use Rattle.std.proofs.lemmas.Bool.{eqb-true}
use Rattle.std.proofs.lemmas.List.{append-nil, length-append}
use Rattle.std.proofs.lemmas.List.Sums.{sum_by-append, sum_by-cons}
use Rattle.std.proofs.lemmas.List.Concat.{length-flat_map}
use Rattle.std.proofs.lemmas.List.Folds.{flat_map-map}
use Rattle.wire_model.specs.Datagram.{Datagram}
use Rattle.codestream_model.specs.Codestream.{joined}
use Rattle.codestream_model.proofs.TreeLemmas.{either}
use Rattle.stream_model.specs.Cut.{Plan, Piece, Known, room, stretches, with_eoc, chunks, closed_payloads, payloads, touched, started, res_of, body_header, number_at, main_at, body_at, bodies_at, stamp_at, position_of, datagrams_by, sendable, ordh_of}
use Rattle.stream_model.specs.Laws.{HasGrown}
use Rattle.stream_model.proofs.Bases.{not_true}
use Rattle.stream_model.proofs.Positions.{placed, are_placed}
use Rattle.stream_model.proofs.Thinned.{all-filter}
use Rattle.stream_model.proofs.CutPayloads.{joined-append, chunks_join, chunks_have_room, HasRoom, all-append, all_chunks_join, stretches_join, with_eoc_joins}
use Rattle.stream_model.proofs.CutBodies.{all_imply, the_body, bodies_placed}
use Rattle.stream_model.proofs.ClosedPayloads.{closed_stays}
use Rattle.stream_model.proofs.GrownBodies.{total, longer, seen, touched_stay, started_stay, res_alike, header_alike}

-- some of the items of a list have no more bytes
filter_less_by : (x : List ℕ) (xs ys : List (List ℕ)) (b : Bool) → length (joined ys) ≤ length (joined xs) → length (joined (if b then x ∷ ys else ys)) ≤ length (joined (x ∷ xs))
filter_less_by x xs ys true h = omega (arith, h, length-append x (joined xs), length-append x (joined ys))
filter_less_by x xs ys false h = omega (arith, h, length-append x (joined xs))

-- one after another
filter_less : (t : List ℕ → Bool) (xs : List (List ℕ)) → length (joined (filter t xs)) ≤ length (joined xs)
filter_less t [] = omega arith
filter_less t (x ∷ xs) = filter_less_by x xs (filter t xs) (t x) (filter_less t xs)

-- closed payloads have no more bytes than the stretches,
closed_less : (room : ℕ) (ss : List (List ℕ)) → 1 ≤ room → length (joined (closed_payloads room ss)) ≤ length (joined ss)
closed_less room [] some = omega arith
closed_less room (s ∷ []) some =
    omega (arith, filter_less (λ payload. length payload == room) (chunks room s), ap length (chunks_join room s some), ap length (append-nil s))
closed_less room (s ∷ t ∷ more) some =
    omega (arith, closed_less room (t ∷ more) some, ap length (joined-append (chunks room s) (closed_payloads room (t ∷ more))), length-append (joined (chunks room s)) (joined (closed_payloads room (t ∷ more))), ap length (chunks_join room s some), length-append s (joined (t ∷ more)))

-- and none is empty
closed_some : (room : ℕ) (ss : List (List ℕ)) → 1 ≤ room → AllByRecursion (HasRoom room) (closed_payloads room ss)
closed_some room [] some = tt
closed_some room (s ∷ []) some = all-filter (HasRoom room) (λ payload. length payload == room) (chunks room s) (chunks_have_room room s some)
closed_some room (s ∷ t ∷ more) some = all-append (HasRoom room) (chunks room s) (closed_payloads room (t ∷ more)) (chunks_have_room room s some) (closed_some room (t ∷ more) some)

-- the bytes of pieces
total_is : (pieces : List Piece) → length (joined (map (λ x. x.bytes) pieces)) ≡ total pieces
total_is [] = refl
total_is (x ∷ pieces) = length-append x.bytes (joined (map (λ y. y.bytes) pieces)) ∙ (ap (λ n. length x.bytes + n) (total_is pieces) ∙ sym (sum_by-cons (λ (y : Piece). length y.bytes) x pieces))

-- the bytes of payloads
bytes_are : (bs : List (List ℕ)) → sum_by (λ b. length b) bs ≡ length (joined bs)
bytes_are bs = sym (length-flat_map (λ (b : List ℕ). b) bs)

-- those of what is there: no more than the pieces, or EOC too
pub unended_bytes : (p : Plan) (c : Known) → 1 ≤ room p → c.ended ≡ false → sum_by (λ b. length b) (payloads p c) ≤ total c.pieces
unended_bytes p c some e =
    let is : payloads p c ≡ closed_payloads (room p) (stretches p.split c.pieces) = rw e refl in
    omega (arith, bytes_are (payloads p c), ap (λ (l : List (List ℕ)). length (joined l)) is, closed_less (room p) (stretches p.split c.pieces) some, ap length (stretches_join p.split c.pieces), total_is c.pieces)

-- with EOC there are two more
ended_bytes : (p : Plan) (c : Known) → 1 ≤ room p → c.ended ≡ true → sum_by (λ b. length b) (payloads p c) ≡ total c.pieces + 2
ended_bytes p c some e =
    let is : payloads p c ≡ flat_map (chunks (room p)) (with_eoc (stretches p.split c.pieces)) = rw e refl in
    omega (arith, bytes_are (payloads p c), ap (λ (l : List (List ℕ)). length (joined l)) is, ap length (all_chunks_join (room p) (with_eoc (stretches p.split c.pieces)) some), ap length (with_eoc_joins (stretches p.split c.pieces)), length-append (joined (stretches p.split c.pieces)) (255 ∷ 217 ∷ []), ap length (stretches_join p.split c.pieces), total_is c.pieces)

-- none of the payloads is empty
pub unended_some : (p : Plan) (c : Known) → 1 ≤ room p → c.ended ≡ false → AllByRecursion (λ b. 1 ≤ length b) (payloads p c)
unended_some p c some e =
    let is : payloads p c ≡ closed_payloads (room p) (stretches p.split c.pieces) = rw e refl in
    let P : List (List ℕ) → Type 0 = λ l. AllByRecursion (λ b. 1 ≤ length b) l in
    subst P (sym is) (all_imply (HasRoom (room p)) (λ b. 1 ≤ length b) (closed_payloads (room p) (stretches p.split c.pieces)) (λ b h. h.0) (closed_some (room p) (stretches p.split c.pieces) some))

-- what has grown has no fewer bytes
grown_bytes : (was now : List Piece) → HasGrown was now → total was ≤ total now
grown_bytes was now (inl none) = omega (arith, ap total none)
grown_bytes was now (inr (front, last, extra, more, e, f)) =
    omega (
      arith,
      ap total e,
      ap total f,
      sum_by-append (λ (y : Piece). length y.bytes) front (last ∷ []),
      sum_by-append (λ (y : Piece). length y.bytes) front (longer last extra ∷ more),
      sum_by-cons (λ (y : Piece). length y.bytes) last [],
      sum_by-cons (λ (y : Piece). length y.bytes) (longer last extra) more,
      length-append last.bytes extra,
    )

-- a Body that is closed stays as it is
pub body_stays : (p : Plan) (stamp position : ℕ) (c d : Known) (marker now : Bool) (from : ℕ) (payload : List ℕ) → c.head ≡ d.head → HasGrown c.pieces d.pieces → marker ≡ now → 1 ≤ length payload → from + length payload ≤ total c.pieces
    → body_at p stamp position c marker from payload ≡ body_at p stamp position d now from payload
body_stays p stamp position c d marker now from payload h (inl none) m some within = absurd (omega (arith, ap total none))
body_stays p stamp position c d marker now from payload h (inr (front, last, extra, more, e, f)) m some within =
    let to = from + length payload in
    let size : total c.pieces ≡ total front + length last.bytes = ap total e ∙ (sum_by-append (λ (y : Piece). length y.bytes) front (last ∷ []) ∙ ap (λ n. total front + n) (sum_by-cons (λ (y : Piece). length y.bytes) last [] ∙ (let z : length last.bytes + 0 ≡ length last.bytes = omega arith in z))) in
    let t : map (seen c.pieces) (touched c.pieces from to) ≡ map (seen d.pieces) (touched d.pieces from to) =
    ap (λ l. map (seen l) (touched l from to)) e ∙ (touched_stay front last extra more from to (omega arith) (omega (arith, size, within)) ∙ sym (ap (λ l. map (seen l) (touched l from to)) f)) in
    let s : map (seen c.pieces) (started c.pieces from to) ≡ map (seen d.pieces) (started d.pieces from to) =
    ap (λ l. map (seen l) (started l from to)) e ∙ (started_stay front last extra more from to (omega (arith, size, within)) ∙ sym (ap (λ l. map (seen l) (started l from to)) f)) in
    let eseq = number_at p position / 2 ^ 16 in
    let res : res_of c.head.levels (touched c.pieces from to) ≡ res_of d.head.levels (touched d.pieces from to) = res_alike c.head.levels c.pieces d.pieces (touched c.pieces from to) (touched d.pieces from to) t ∙ ap (λ k. res_of k.levels (touched d.pieces from to)) h in
    let header : body_header c eseq (res_of c.head.levels (touched c.pieces from to)) from (started c.pieces from to) ≡ body_header d eseq (res_of d.head.levels (touched d.pieces from to)) from (started d.pieces from to) =
    ap (λ r. body_header c eseq r from (started c.pieces from to)) res ∙ header_alike c d eseq (res_of d.head.levels (touched d.pieces from to)) from (started c.pieces from to) (started d.pieces from to) h s in
    rw (m, header) refl

-- items that are placed one after another
pub placed-append : {A B : Type 0} (f : A → ℕ) (g : ℕ → ℕ → A → B) (i at : ℕ) (xs ys : List A) → placed f g i at (xs ++ ys) ≡ placed f g i at xs ++ placed f g (i + length xs) (at + sum_by f xs) ys
placed-append f g i at [] ys = let e : i ≡ i + 0 = omega arith in let d : at ≡ at + 0 = omega arith in ap (λ n. placed f g n at ys) e ∙ ap (λ n. placed f g (i + 0) n ys) d
placed-append f g i at (x ∷ xs) ys =
    let e : i + 1 + length xs ≡ i + suc (length xs) = omega arith in
    let d : at + f x + sum_by f xs ≡ at + sum_by f (x ∷ xs) = omega (arith, sum_by-cons f x xs) in
    ap (λ zs. g i at x ∷ zs) (placed-append f g (i + 1) (at + f x) xs ys ∙ (ap (λ n. placed f g (i + 1) (at + f x) xs ++ placed f g n (at + f x + sum_by f xs) ys) e ∙ ap (λ n. placed f g (i + 1) (at + f x) xs ++ placed f g (i + suc (length xs)) n ys) d))

-- as long as they are made alike
pub placed_alike : (g k : ℕ → ℕ → List ℕ → Datagram) (n limit i at : ℕ) (xs : List (List ℕ)) → ((j from : ℕ) (x : List ℕ) → j < n → 1 ≤ length x → from + length x ≤ limit → g j from x ≡ k j from x)
    → i + length xs ≤ n → at + sum_by (λ b. length b) xs ≤ limit → AllByRecursion (λ b. 1 ≤ length b) xs → placed (λ b. length b) g i at xs ≡ placed (λ b. length b) k i at xs
placed_alike g k n limit i at [] same few within some = refl
placed_alike g k n limit i at (x ∷ xs) same few within some =
    let s : sum_by (λ b. length b) (x ∷ xs) ≡ length x + sum_by (λ b. length b) xs = sum_by-cons (λ (b : List ℕ). length b) x xs in
    ap (λ y. y ∷ placed (λ b. length b) g (i + 1) (at + length x) xs) (same i at x (omega arith) some.0 (omega (arith, s)))
    ∙ ap (λ ys. k i at x ∷ ys) (placed_alike g k n limit (i + 1) (at + length x) xs same (omega arith) (omega (arith, s)) some.1)

-- no items have no bytes
none_bytes : (q : List (List ℕ)) → length q ≡ 0 → sum_by (λ b. length b) q ≡ 0
none_bytes [] e = refl
none_bytes (b ∷ q) e = absurd (omega arith)

-- a choice that isn't taken
unmarked : (b c : Bool) → (b ≡ true → c ≡ false) → (b && c) ≡ false
unmarked true c h = h refl
unmarked false c h = refl

-- M stays 0 on the payloads that are closed before the end
pub marker_stays : (p : Plan) (c d : Known) (q : List (List ℕ)) (j : ℕ) → 1 ≤ room p → c.ended ≡ false → HasGrown c.pieces d.pieces → payloads p d ≡ payloads p c ++ q → j < length (payloads p c)
    → (c.ended && (j + 1 == length (payloads p c))) ≡ (d.ended && (j + 1 == length (payloads p d)))
marker_stays p c d q j some e grown is low =
    let was : (c.ended && (j + 1 == length (payloads p c))) ≡ false = rw e refl in
    was ∙ sym (unmarked d.ended (j + 1 == length (payloads p d)) (λ t. not_true (j + 1 == length (payloads p d)) (λ s.
    let last : j + 1 ≡ length (payloads p d) = eqb-true (j + 1) (length (payloads p d)) s in
    let none : length q ≡ 0 = omega (arith, last, ap length is, length-append (payloads p c) q) in
    omega (arith, none_bytes q none, unended_bytes p c some e, ended_bytes p d some t, grown_bytes c.pieces d.pieces grown, ap (sum_by (λ b. length b)) is, sum_by-append (λ (b : List ℕ). length b) (payloads p c) q))))

-- one list of datagrams is a prefix of another
abbrev pub Begins : List Datagram → List Datagram → Type 0
Begins xs ys = (more : List Datagram) × (ys ≡ xs ++ more)

-- the Bodies that are fixed are the first of those that are fixed later
bodies_front : (p : Plan) (stamp at : ℕ) (c d : Known) → 1 ≤ room p → c.ended ≡ false → c.head ≡ d.head → HasGrown c.pieces d.pieces → Begins (bodies_at p stamp at c) (bodies_at p stamp at d)
bodies_front p stamp at c d some e h grown =
    let s = closed_stays p c d some e grown in
    let was = the_body p stamp at c in
    let now = the_body p stamp at d in
    let same : placed (λ b. length b) was 0 0 (payloads p c) ≡ placed (λ b. length b) now 0 0 (payloads p c) =
    placed_alike was now (length (payloads p c)) (total c.pieces) 0 0 (payloads p c)
    (λ j from x low full within. body_stays p stamp (at + 1 + j) c d (c.ended && (j + 1 == length (payloads p c))) (d.ended && (j + 1 == length (payloads p d))) from x h grown (marker_stays p c d s.0 j some e grown s.1 low) full within)
    (omega arith) (omega (arith, unended_bytes p c some e)) (unended_some p c some e) in
    let rest = placed (λ b. length b) now (0 + length (payloads p c)) (0 + sum_by (λ b. length b) (payloads p c)) s.0 in (
      rest,
      bodies_placed p stamp at d
          ∙ (ap (placed (λ b. length b) now 0 0) s.1
          ∙ (placed-append (λ (b : List ℕ). length b) now 0 0 (payloads p c) s.0
          ∙ (ap (λ l. l ++ rest) (sym same) ∙ ap (λ l. l ++ rest) (sym (bodies_placed p stamp at c))))),
    )

-- the datagrams of a codestream
abbrev pub those_of : Plan → ℕ → ℕ → Known → List Datagram
those_of p i at c = main_at p (stamp_at p i) at c ∷ bodies_at p (stamp_at p i) at c

-- how many they are
abbrev pub many_of : Plan → Known → ℕ
many_of p c = 1 + length (payloads p c)

-- those of codestreams that are numbered and placed one after another
abbrev pub all_of : Plan → ℕ → ℕ → List Known → List Datagram
all_of p i at known = flat_map (λ ds. ds) (placed (many_of p) (those_of p) i at known)

-- are all datagrams
pub datagrams_placed : (p : Plan) (known : List Known) → datagrams_by p known ≡ all_of p 0 0 known
datagrams_placed p known =
    sym (flat_map-map (λ (ds : List Datagram). ds) (λ (x : ℕ × Known). those_of p x.0 (position_of p known x.0) x.1) (enumerate_from 0 known))
    ∙ ap (flat_map (λ (ds : List Datagram). ds)) (are_placed (many_of p) (those_of p) known)

-- a codestream whose main header has room is sent, and after one whose main header has none nothing is
pub sent_with : (p : Plan) (c : Known) (known : List Known) → nat_le (length c.header) (room p) ≡ true → sendable p (c ∷ known) ≡ c ∷ sendable p known
sent_with p c known e =
    let n = prefix_len (λ (x : Known). nat_le (length x.header) (room p)) known in
    rw e (ap (λ k. take k (c ∷ known)) (let s : 1 + n ≡ suc n = omega arith in s))

-- one without room ends the list
none_behind : (p : Plan) (c : Known) (known : List Known) → nat_le (length c.header) (room p) ≡ false → sendable p (c ∷ known) ≡ []
none_behind p c known e = rw e refl

-- what is there of a codestream, and more of it with what follows; or nothing, and anything
abbrev pub Follows : List Known → List Known → Type 0
Follows next now =
    (next ≡ [])
    ⊎ ((c : Known) × (d : Known) × (more : List Known) × (next ≡ c ∷ []) × (now ≡ d ∷ more) × (c.ended ≡ false) × (c.head ≡ d.head) × (c.header ≡ d.header) × HasGrown c.pieces d.pieces)

-- nothing is a front
nothing_front : (p : Plan) (i at : ℕ) (xs ys : List Known) → xs ≡ [] → Begins (all_of p i at xs) (all_of p i at ys)
nothing_front p i at xs ys e = let P : List Known → Type 0 = λ l. Begins (all_of p i at l) (all_of p i at ys) in subst P (sym e) (all_of p i at ys, refl)

-- the front of one codestream
one_front : (p : Plan) (i at : ℕ) (c d : Known) (more : List Known) → 1 ≤ room p → c.ended ≡ false → c.head ≡ d.head → c.header ≡ d.header → HasGrown c.pieces d.pieces
    → Begins (all_of p i at (sendable p (c ∷ []))) (all_of p i at (sendable p (d ∷ more)))
one_front p i at c d more some e h f grown = elim (either (nat_le (length c.header) (room p))) [
  | inr t ↦ nothing_front p i at (sendable p (c ∷ [])) (sendable p (d ∷ more)) (none_behind p c [] t)
  | inl t ↦
      let u : nat_le (length d.header) (room p) ≡ true = ap (λ l. nat_le (length l) (room p)) (sym f) ∙ t in
      let b = bodies_front p (stamp_at p i) at c d some e h grown in
      let e_order : ordh_of c.head ≡ ordh_of d.head = ap ordh_of h in
      let main : main_at p (stamp_at p i) at c ≡ main_at p (stamp_at p i) at d = rw (e_order, f) refl in
      let rest = all_of p (i + 1) (at + many_of p d) (sendable p more) in
      let P : List Known → Type 0 = λ l. Begins (all_of p i at l) (all_of p i at (sendable p (d ∷ more))) in
      let Q : List Known → Type 0 = λ l. Begins (all_of p i at (c ∷ [])) (all_of p i at l) in
      let all : those_of p i at d ++ rest ≡ those_of p i at c ++ (b.0 ++ rest) =
      ap (λ l. (main_at p (stamp_at p i) at d ∷ l) ++ rest) b.1 ∙ (ap (λ x. (x ∷ (bodies_at p (stamp_at p i) at c ++ b.0)) ++ rest) (sym main) ∙ append_assoc (those_of p i at c) b.0 rest) in
      subst P (sym (sent_with p c [] t)) (subst Q (sym (sent_with p d more u)) (b.0 ++ rest, all ∙ ap (λ l. l ++ (b.0 ++ rest)) (sym (append-nil (those_of p i at c)))))
]

-- the front where what is there of codestreams has grown
follow_front : (p : Plan) (i at : ℕ) (next now : List Known) → 1 ≤ room p → Follows next now → Begins (all_of p i at (sendable p next)) (all_of p i at (sendable p now))
follow_front p i at next now some (inl e) = nothing_front p i at (sendable p next) (sendable p now) (ap (sendable p) e)
follow_front p i at next now some (inr (c, d, more, e, f, g, h, k, grown)) =
    let P : List Known → Type 0 = λ l. Begins (all_of p i at (sendable p l)) (all_of p i at (sendable p now)) in
    let Q : List Known → Type 0 = λ l. Begins (all_of p i at (sendable p (c ∷ []))) (all_of p i at (sendable p l)) in
    subst P (sym e) (subst Q (sym f) (one_front p i at c d more some g h k grown))

-- after the same codestreams
pub known_front : (p : Plan) (i at : ℕ) (common next now : List Known) → 1 ≤ room p → Follows next now → Begins (all_of p i at (sendable p (common ++ next))) (all_of p i at (sendable p (common ++ now)))
known_front p i at [] next now some f = follow_front p i at next now some f
known_front p i at (c ∷ common) next now some f = elim (either (nat_le (length c.header) (room p))) [
  | inr t ↦ nothing_front p i at (sendable p (c ∷ (common ++ next))) (sendable p (c ∷ (common ++ now))) (none_behind p c (common ++ next) t)
  | inl t ↦
      let r = known_front p (i + 1) (at + many_of p c) common next now some f in
      let P : List Known → Type 0 = λ l. Begins (all_of p i at l) (all_of p i at (sendable p (c ∷ (common ++ now)))) in
      let Q : List Known → Type 0 = λ l. Begins (all_of p i at (c ∷ sendable p (common ++ next))) (all_of p i at l) in
      subst P (sym (sent_with p c (common ++ next) t)) (subst Q (sym (sent_with p c (common ++ now) t))
      (r.0, ap (λ l. those_of p i at c ++ l) r.1 ∙ sym (append_assoc (those_of p i at c) (all_of p (i + 1) (at + many_of p c) (sendable p (common ++ next))) r.0)))
]

-- of at most n
pub take_front : (n : ℕ) (xs ys : List Datagram) → Begins xs ys → Begins (take n xs) (take n ys)
take_front zero xs ys b = ([], refl)
take_front (suc n) [] ys b = (take (suc n) ys, refl)
take_front (suc n) (x ∷ xs) [] b = absurd (omega (arith, ap length b.1, length-append (x ∷ xs) b.0))
take_front (suc n) (x ∷ xs) (y ∷ ys) b =
    let first : y ≡ x = cc in
    let behind : ys ≡ xs ++ b.0 = cc in
    let r = take_front n xs ys (b.0, behind) in
    (r.0, rw (first, r.1) refl)
