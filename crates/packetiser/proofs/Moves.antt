-- One move of a sender: it stays one, or gives its next datagram, or refuses it as one too many.
use Rattle.std.proofs.Common.{◌≡◌, ◌⊎◌, ◌<◌, ◌≤◌, ◌+◌, ◌-◌, ℕ, zero, suc, min, true, false, Bool, List, [], ◌∷◌, ◌++◌, length, take, drop, Some, None, refl, sym, subst, ap, ◌∙◌, inl, inr, arith}
use Rattle.std.specs.Prelude.{◌&&◌, ◌||◌, ◌==◌}
use Rattle.std.proofs.lemmas.Bool.{eqb-true, eq-eqb, cases_lt}
use Rattle.std.proofs.lemmas.List.{length-append, length-take, length-drop, length-map}
use Rattle.stream_model.specs.Cut.{Plan, room, datagram_bytes}
use Rattle.codestream_model.proofs.TreeLemmas.{either}
use Rattle.packetiser.specs.Filling.{Filling}
use Rattle.packetiser.specs.Packing.{Packing, putting, filled, put_count, filled_by, is_last, is_closed, after_closing, closing_body, Closes, Puts}
use Rattle.packetiser.specs.declared.packetiser.PackOut.{PackOut}
use Rattle.packetiser.specs.declared.packetiser.PackOut.TheVariants as out
use Rattle.packetiser.specs.Sending.{IsInPackets, IsAtEoc, IsPutIn, Sender, Answers, goes_on}
use Rattle.packetiser.proofs.Puts.{packet_open, packet_full, eoc_whole, eoc_first, eoc_second}
use Rattle.packetiser.proofs.Settled.{some_room}
use Rattle.packetiser.proofs.Given.{IsDue, due_given, due_refused}

-- What a move answers is what a sender promises, and only after a datagram it goes on.
pub record Moved (p : Plan) (read : List ℕ) (given : List (List ℕ)) (answer : PackOut) (v : Packing) : Type 0 where
  pub answers : Answers p answer read given v
  pub plan : v.plan ≡ p
  pub live : v.live ≡ goes_on answer

-- the payload that a move closes is due
pub closes_due : (p : Plan) (read : List ℕ) (given : List (List ℕ)) (marker : Bool) (x : Packing) (answer : PackOut) (v : Packing) → (e : IsDue p read given (after_closing marker x) (closing_body marker x)) → length x.rest + length x.filling.payload ≤ x.seen.walk.offset → x.given ≡ length given
    → Closes marker x answer v → Moved p read given answer v
closes_due p read given marker x out.Datagram v e within count (few, is) =
    let P : Packing → Type 0 = λ w. Moved p read given out.Datagram w in
    subst P (sym is) (record { answers = due_given p read given (after_closing marker x) (closing_body marker x) e (omega (arith, few, count)); plan = e.plan; live = e.live })
closes_due p read given marker x (out.TooManyDatagrams at) v e within count (full, place, is) =
    let P : Packing → Type 0 = λ w. Moved p read given (out.TooManyDatagrams at) w in
    subst P (sym is) (record {
      answers = due_refused p read given (after_closing marker x) (closing_body marker x) at e (omega (arith, full, count)) (omega (arith, place, within, e.has_read.knows.offset));
      plan = e.plan;
      live = refl;
    })
closes_due p read given marker x out.End v e within count c = absurd c
closes_due p read given marker x (out.Refused fault) v e within count c = absurd c
closes_due p read given marker x (out.HeaderTooLong at) v e within count c = absurd c
closes_due p read given marker x out.ReadFault v e within count c = absurd c

-- the number of datagrams given is the position of the next
pub position_is : (p : Plan) (read : List ℕ) (given : List (List ℕ)) (u : Packing) (s : Sender p read given u) → u.given ≡ length s.sent
position_is p read given u s = s.count ∙ (ap length s.given_is ∙ length-map s.sent datagram_bytes)

-- what is left and what is in the payload was read
pub within_offset : (p : Plan) (read : List ℕ) (given : List (List ℕ)) (u : Packing) (s : Sender p read given u) → length u.rest + length u.filling.payload ≤ u.seen.walk.offset
within_offset p read given u s = omega (arith, s.carried, s.has_read.knows.offset)

-- A move puts in the first `n` bytes of what is left, as many as there is room for.
pub record IsCount (u : Packing) (n : ℕ) : Type 0 where
  pub is : n ≡ put_count u
  pub within : n ≤ length u.rest
  pub fits : length u.filling.payload + n ≤ room u.plan
  pub some : 1 ≤ n

pub is_count : (u : Packing) → 1 ≤ length u.rest → length u.filling.payload < room u.plan → IsCount u (put_count u)
is_count u some few = record { is = refl; within = omega arith; fits = omega (arith, few); some = omega (arith, some, few) }

-- a payload of a packet that isn't full
open_of : (eoc last full : Bool) → eoc ≡ false → ((eoc && last) || full) ≡ false → full ≡ false
open_of false last full e f = f
open_of true last full e f = absurd (cc)

full_of : (eoc last full : Bool) → eoc ≡ false → ((eoc && last) || full) ≡ true → full ≡ true
full_of false last full e f = f
full_of true last full e f = absurd (cc)

differ : (a b : ℕ) → (a == b) ≡ false → a ≡ b → ⊥
differ a b e f = let t : (a == b) ≡ true = eq-eqb a b f in let c : true ≡ false = sym t ∙ e in absurd (cc)

-- how many bytes are in a payload with more put in
size_put : (u : Packing) (n : ℕ) → n ≤ length u.rest → length (u.filling.payload ++ take n u.rest) ≡ length u.filling.payload + n
size_put u n within = omega (arith, length-append u.filling.payload (take n u.rest), length-take n u.rest, within)

-- a sender that puts in what leaves the payload open
stays : (p : Plan) (read : List ℕ) (given : List (List ℕ)) (u : Packing) (s : Sender p read given u) (n : ℕ) → n ≤ length u.rest → IsInPackets (putting false n u) s.parts s.known s.sent → Sender p read given (putting false n u)
stays p read given u s n within b = record {
  consumed = s.consumed;
  parts = s.parts;
  known = s.known;
  sent = s.sent;
  plan = s.plan;
  has_read = s.has_read;
  live = s.live;
  put_in = inr (inr (inl b));
  carried = omega (arith, s.carried, within, size_put u n within, length-drop n u.rest);
  given_is = s.given_is;
  count = s.count;
  few = s.few;
}

-- and one that closes it
closing : (p : Plan) (read : List ℕ) (given : List (List ℕ)) (u : Packing) (s : Sender p read given u) (eoc marker : Bool) (n : ℕ) → n ≤ length u.rest → length (filled_by eoc u (take n u.rest)).payload ≡ length u.filling.payload + n
    → IsPutIn (after_closing marker (putting eoc n u)) s.parts s.known (s.sent ++ closing_body marker (putting eoc n u) ∷ [])
    → IsDue p read given (after_closing marker (putting eoc n u)) (closing_body marker (putting eoc n u))
closing p read given u s eoc marker n within size b = record {
  consumed = s.consumed;
  parts = s.parts;
  known = s.known;
  sent = s.sent;
  plan = s.plan;
  has_read = s.has_read;
  live = s.live;
  put_in = b;
  carried = omega (arith, s.carried, within, size, length-drop n u.rest);
  shown = refl;
  given_is = s.given_is;
  count = ap (λ (k : ℕ). k + 1) s.count;
  few = s.few;
}

-- the bytes of EOC that are put in
eoc_left : (l : List ℕ) (n : ℕ) → l ≡ 255 ∷ 217 ∷ [] → 1 ≤ n → n ≤ length l → ((n ≡ 2) × (take n l ≡ 255 ∷ 217 ∷ []) × (drop n l ≡ [])) ⊎ ((n ≡ 1) × (take n l ≡ 255 ∷ []) × (drop n l ≡ 217 ∷ []))
eoc_left l n e some within = by_two (cases n some (omega (arith, within, ap length e)))
  where
    cases : (n : ℕ) → 1 ≤ n → n ≤ 2 → (n ≡ 1) ⊎ (n ≡ 2)
    cases zero a b = absurd (omega (arith, a))
    cases (suc zero) a b = inl refl
    cases (suc (suc zero)) a b = inr refl
    cases (suc (suc (suc k))) a b = absurd (omega (arith, b))

    by_two : (n ≡ 1) ⊎ (n ≡ 2) → ((n ≡ 2) × (take n l ≡ 255 ∷ 217 ∷ []) × (drop n l ≡ [])) ⊎ ((n ≡ 1) × (take n l ≡ 255 ∷ []) × (drop n l ≡ 217 ∷ []))
    by_two (inl one) = inr (one, ap (λ (k : ℕ). take k l) one ∙ ap (take 1) e, ap (λ (k : ℕ). drop k l) one ∙ ap (drop 1) e)
    by_two (inr two) = inl (two, ap (λ (k : ℕ). take k l) two ∙ ap (take 2) e, ap (λ (k : ℕ). drop k l) two ∙ ap (drop 2) e)

eoc_last : (l : List ℕ) (n : ℕ) → l ≡ 217 ∷ [] → 1 ≤ n → n ≤ length l → (take n l ≡ 217 ∷ []) × (drop n l ≡ [])
eoc_last l n e some within =
    let one : n ≡ 1 = omega (arith, some, within, ap length e) in
    (ap (λ (k : ℕ). take k l) one ∙ ap (take 1) e, ap (λ (k : ℕ). drop k l) one ∙ ap (drop 1) e)

-- where all of EOC is in the payload it is the last
last_when : (eoc : Bool) (l : List ℕ) → eoc ≡ true → l ≡ [] → (eoc && (length l == 0)) ≡ true
last_when true l e f = ap (λ (k : List ℕ). length k == 0) f
last_when false l e f = absurd (cc)

not_last : (eoc : Bool) (l : List ℕ) → l ≡ 217 ∷ [] → (eoc && (length l == 0)) ≡ false
not_last true l f = ap (λ (k : List ℕ). length k == 0) f
not_last false l f = refl

no_eoc : (eoc last : Bool) → eoc ≡ false → (eoc && last) ≡ false
no_eoc false last e = refl
no_eoc true last e = absurd (cc)

-- What becomes of the payload when bytes are put in: it stays open, or its Body is due.
abbrev pub Filled : Plan → List ℕ → List (List ℕ) → Packing → Type 0
Filled p read given u =
    ((is_closed (filled u) ≡ false) × Sender p read given (filled u))
    ⊎ ((marker : Bool) × (is_last (filled u) ≡ marker) × (is_closed (filled u) ≡ true) × IsDue p read given (after_closing marker (filled u)) (closing_body marker (filled u)))

-- bytes of a packet
filled_packet : (p : Plan) (read : List ℕ) (given : List (List ℕ)) (u : Packing) (s : Sender p read given u) → IsInPackets u s.parts s.known s.sent → 1 ≤ length u.rest → Filled p read given u
filled_packet p read given u s b some =
    let n = put_count u in
    let c = is_count u some b.fills.is_open.short in
    let same : putting false n u ≡ filled u = ap (λ (t : Bool). putting t n u) (sym b.not_eoc) in
    let last : Bool = length (drop n u.rest) == 0 in
    let full : Bool = length (u.filling.payload ++ take n u.rest) == room u.plan in
    let size = size_put u n c.within in
    elim (either full) [
      | inl t ↦
          let all : length (u.filling.payload ++ take n u.rest) ≡ room u.plan = eqb-true (length (u.filling.payload ++ take n u.rest)) (room u.plan) t in
          let is_full : length u.filling.payload + n ≡ room u.plan = omega (arith, size, all) in
          let D : Packing → Type 0 = λ x. IsDue p read given (after_closing false x) (closing_body false x) in
          let C : Packing → Type 0 = λ x. is_closed x ≡ true in
          inr (
            false,
            no_eoc u.eoc last b.not_eoc,
            subst C same (ap (λ (x : Bool). (u.eoc && last) || x) t ∙ or_true (u.eoc && last)),
            subst D same (closing p read given u s false false n c.within size (inr (inr (inl (packet_full u s.parts s.known s.sent n b c.some c.within is_full (position_is p read given u s)))))),
          )
      | inr t ↦
          let few : length u.filling.payload + n < room u.plan = strictly (length u.filling.payload + n) (room u.plan) c.fits (λ e. differ (length (u.filling.payload ++ take n u.rest)) (room u.plan) t (size ∙ e)) in
          let S : Packing → Type 0 = λ x. Sender p read given x in
          let C : Packing → Type 0 = λ x. is_closed x ≡ false in
          inl (
            subst C same (ap (λ (x : Bool). (u.eoc && last) || x) t ∙ (ap (λ (x : Bool). x || false) (no_eoc u.eoc last b.not_eoc))),
            subst S same (stays p read given u s n c.within (packet_open u s.parts s.known s.sent n b c.some c.within few)),
          )
    ]
  where
    or_true : (x : Bool) → (x || true) ≡ true
    or_true true = refl
    or_true false = refl

    strictly : (a b : ℕ) → a ≤ b → (a ≡ b → ⊥) → a < b
    strictly a b le ne = elim (cases_lt a b) [ inl l ↦ l | inr m ↦ absurd (ne (omega (arith, le, m))) ]

-- bytes of EOC
eoc_fills : (p : Plan) (read : List ℕ) (given : List (List ℕ)) (u : Packing) (s : Sender p read given u) (eoc marker : Bool) (n : ℕ) → u.eoc ≡ true → IsCount u n → n ≡ put_count u → (u.eoc && (length (drop n u.rest) == 0)) ≡ marker → is_closed (putting true n u) ≡ true
    → IsPutIn (after_closing marker (putting true n u)) s.parts s.known (s.sent ++ closing_body marker (putting true n u) ∷ []) → Filled p read given u
eoc_fills p read given u s eoc marker n is_eoc c e last closed b =
    let same : putting true n u ≡ filled u = ap (λ (t : Bool). putting t n u) (sym is_eoc) ∙ ap (λ (k : ℕ). putting u.eoc k u) e in
    let D : Packing → Type 0 = λ x. IsDue p read given (after_closing marker x) (closing_body marker x) in
    let C : Packing → Type 0 = λ x. is_closed x ≡ true in
    let L : Packing → Type 0 = λ x. is_last x ≡ marker in
    inr (
      marker,
      subst L same last,
      subst C same closed,
      subst D same (closing p read given u s true marker n c.within (size_put u n c.within) b),
    )

closed_last : (x y : Bool) → x ≡ true → (x || y) ≡ true
closed_last true y e = refl
closed_last false y e = absurd (cc)

closed_full : (x y : Bool) → y ≡ true → (x || y) ≡ true
closed_full true y e = refl
closed_full false y e = e

filled_eoc : (p : Plan) (read : List ℕ) (given : List (List ℕ)) (u : Packing) (s : Sender p read given u) → 1 ≤ room u.plan → IsAtEoc u s.parts s.known s.sent → 1 ≤ length u.rest → Filled p read given u
filled_eoc p read given u s room_some b some = elim b.which [
  | inl w ↦
      let n = put_count u in
      let payload : length u.filling.payload ≡ length b.filling.payload = ap (λ (f : Filling). length f.payload) w.1 in
      let c = is_count u some (omega (arith, payload, b.fills.is_open.short)) in
      elim (eoc_left u.rest n w.0 c.some c.within) [
        | inl t ↦
            let last = last_when u.eoc (drop n u.rest) b.is_eoc t.2 in
            eoc_fills p read given u s true true n b.is_eoc c refl last (closed_last (u.eoc && (length (drop n u.rest) == 0)) (length (u.filling.payload ++ take n u.rest) == room u.plan) last)
            (inl (eoc_whole u s.parts s.known s.sent n b t.1 t.2 w.1 (omega (arith, c.fits, t.0, payload)) w.2 (position_is p read given u s)))
        | inr t ↦
            let is_full : length b.filling.payload + 1 ≡ room u.plan = one_left (length u.rest) (length u.filling.payload) (room u.plan) (length b.filling.payload) n (ap length w.0) c.is t.0 payload c.fits in
            let size : length (u.filling.payload ++ take n u.rest) ≡ room u.plan = omega (arith, size_put u n c.within, is_full, t.0, payload) in
            eoc_fills p read given u s true false n b.is_eoc c refl (not_last u.eoc (drop n u.rest) t.2) (closed_full (u.eoc && (length (drop n u.rest) == 0)) (length (u.filling.payload ++ take n u.rest) == room u.plan) (eq-eqb (length (u.filling.payload ++ take n u.rest)) (room u.plan) size))
            (inr (inr (inr (eoc_first u s.parts s.known s.sent n b t.1 t.2 w.1 is_full w.2 (position_is p read given u s)))))
      ]
  | inr w ↦
      let n = put_count u in
      let payload : length u.filling.payload ≡ 0 = ap (λ (f : Filling). length f.payload) w.1 in
      let c = is_count u some (omega (arith, payload, room_some)) in
      let t = eoc_last u.rest n w.0 c.some c.within in
      let last = last_when u.eoc (drop n u.rest) b.is_eoc t.1 in
      eoc_fills p read given u s true true n b.is_eoc c refl last (closed_last (u.eoc && (length (drop n u.rest) == 0)) (length (u.filling.payload ++ take n u.rest) == room u.plan) last)
      (inl (eoc_second u s.parts s.known s.sent n b t.0 t.1 w.1 w.2 w.3 (position_is p read given u s)))
]
  where
    one_left : (rest payload space other n : ℕ) → rest ≡ 2 → n ≡ min rest (space - payload) → n ≡ 1 → payload ≡ other → payload + n ≤ space → other + 1 ≡ space
    one_left rest payload space other n a b c d e = omega (arith, a, b, c, d, e)

-- a sender with something left to put in
pub filled_so : (p : Plan) (read : List ℕ) (given : List (List ℕ)) (u : Packing) (s : Sender p read given u) → 1 ≤ length u.rest → Filled p read given u
filled_so p read given u s some = by_put_in s.put_in
  where
    by_put_in : IsPutIn u s.parts s.known s.sent → Filled p read given u
    by_put_in (inl b) = absurd (omega (arith, some, ap length b.nothing_left))
    by_put_in (inr (inl b)) = absurd (omega (arith, some, ap length b.nothing_left))
    by_put_in (inr (inr (inl b))) = filled_packet p read given u s b some
    by_put_in (inr (inr (inr b))) = (let R : Plan → Type 0 = λ q. 1 ≤ room q in filled_eoc p read given u s (subst R (sym s.plan) (some_room p s.has_read.is_plan)) b some)

-- and it has room for that
pub has_room : (p : Plan) (read : List ℕ) (given : List (List ℕ)) (u : Packing) (s : Sender p read given u) → 1 ≤ length u.rest → length u.filling.payload < room u.plan
has_room p read given u s some = by_put_in s.put_in
  where
    by_put_in : IsPutIn u s.parts s.known s.sent → length u.filling.payload < room u.plan
    by_put_in (inl b) = absurd (omega (arith, some, ap length b.nothing_left))
    by_put_in (inr (inl b)) = absurd (omega (arith, some, ap length b.nothing_left))
    by_put_in (inr (inr (inl b))) = b.fills.is_open.short
    by_put_in (inr (inr (inr b))) = elim b.which [
      | inl w ↦ omega (arith, b.fills.is_open.short, ap (λ (f : Filling). length f.payload) w.1)
      | inr w ↦ omega (arith, w.2, ap (λ (f : Filling). length f.payload) w.1)
    ]

-- bytes are put in, and the payload stays open
pub put_stays : (p : Plan) (read : List ℕ) (given : List (List ℕ)) (u v : Packing) → Sender p read given u → 1 ≤ length u.rest → Puts u None v → Sender p read given v
put_stays p read given u v s some (stays, is) = elim (filled_so p read given u s some) [
  | inl t ↦ (let S : Packing → Type 0 = λ x. Sender p read given x in subst S (sym is) t.1)
  | inr t ↦ (let c : true ≡ false = sym t.2 ∙ stays in absurd (cc))
]

-- or is closed
pub put_closes : (p : Plan) (read : List ℕ) (given : List (List ℕ)) (u v : Packing) (answer : PackOut) → Sender p read given u → 1 ≤ length u.rest → Puts u (Some answer) v → Moved p read given answer v
put_closes p read given u v answer s some (closes, is) = elim (filled_so p read given u s some) [
  | inl t ↦ (let c : true ≡ false = sym closes ∙ t.0 in absurd (cc))
  | inr t ↦
      let C : Bool → Type 0 = λ m. Closes m (filled u) answer v in
      let n = put_count u in
      closes_due p read given t.0 (filled u) answer v t.3 (left_within p read given u s some) s.count (subst C t.1 is)
]
  where
    sizes : (eoc : Bool) (x : Packing) (n : ℕ) → length (filled_by eoc x (take n x.rest)).payload ≡ length (x.filling.payload ++ take n x.rest)
    sizes true x n = refl
    sizes false x n = refl

    left_within : (p : Plan) (read : List ℕ) (given : List (List ℕ)) (u : Packing) (s : Sender p read given u) → 1 ≤ length u.rest → length (filled u).rest + length (filled u).filling.payload ≤ u.seen.walk.offset
    left_within p read given u s some =
        let c = is_count u some (has_room p read given u s some) in
        omega (arith, within_offset p read given u s, sizes u.eoc u (put_count u), size_put u (put_count u) c.within, length-drop (put_count u) u.rest, c.within)
