-- What the window hands on until it has nothing: each position in order, its datagram where it is held, and else a gap.
use Rattle.std.proofs.Common.{◌≡◌, ◌≢◌, ◌⊎◌, ◌<◌, ◌≤◌, ◌+◌, ◌-◌, ◌*◌, ◌==◌, ◌||◌, ℕ, zero, suc, Bool, true, false, not, List, [], ◌∷◌, ◌++◌, length, Option, Some, None, subst, refl, sym, ◌∙◌, ap, inl, inr, arith, append_assoc, if◌then◌else◌}
use Rattle.std.specs.List.{AllByRecursion}
use Rattle.std.proofs.lemmas.Bool.{cases_lt}
use Rattle.std.proofs.lemmas.Bool.Decides.{eqb_tells}
use Rattle.std.proofs.lemmas.List.{append-nil}
use Rattle.wire_model.specs.Datagram.{Datagram}
use Rattle.codestream_model.proofs.TreeLemmas.{either, same_number}
use Rattle.stream_model.specs.Decoder.{Decoder, Settled, settled, take_gap}
use Rattle.stream_model.specs.Window.{Window, Hand, Gap, Nothing, next}
use Rattle.stream_model.specs.Receiver.{Receiver, decoded, followed, drained}
use Rattle.stream_model.specs.RunLaws.{fed}
use Rattle.stream_model.proofs.CutBodies.{all_imply}
use Rattle.stream_model.proofs.RunStream.{fed-append}
use Rattle.stream_model.proofs.WindowSteps.{mem, window_at, others, mem_others, fewer_others, next_hand, next_none, next_gap, gap_of, gap_most, gap_free, gap_some, gap_ends}

-- what is handed on of n positions from one on
abbrev pub items : (ℕ → Bool) → (ℕ → Datagram) → ℕ → ℕ → List (Option Datagram)
items there dg p zero = []
items there dg p (suc n) = (if there p then Some (dg p) else None) ∷ items there dg (p + 1) n

-- in two parts
pub items-append : (there : ℕ → Bool) (dg : ℕ → Datagram) (p m n : ℕ) → items there dg p (m + n) ≡ items there dg p m ++ items there dg (p + m) n
items-append there dg p zero n = let e : zero + n ≡ n = omega arith in let f : p ≡ p + 0 = omega arith in ap (items there dg p) e ∙ ap (λ k. items there dg k n) f
items-append there dg p (suc m) n =
    let e : suc m + n ≡ suc (m + n) = omega arith in
    let f : p + 1 + m ≡ p + suc m = omega arith in
    ap (items there dg p) e ∙ ap (λ l. (if there p then Some (dg p) else None) ∷ l) (items-append there dg (p + 1) m n ∙ ap (λ k. items there dg (p + 1) m ++ items there dg k n) f)

-- by tests that agree
pub items_same : (t u : ℕ → Bool) (dg : ℕ → Datagram) (p n : ℕ) → ((i : ℕ) → p ≤ i → i < p + n → t i ≡ u i) → items t dg p n ≡ items u dg p n
items_same t u dg p zero h = refl
items_same t u dg p (suc n) h =
    ap (λ b. (if b then Some (dg p) else None) ∷ items t dg (p + 1) n) (h p (omega arith) (omega arith))
    ∙ ap (λ l. (if u p then Some (dg p) else None) ∷ l) (items_same t u dg (p + 1) n (λ i low high. h i (omega arith) (omega arith)))

-- gaps are one gap
pub one_gap : (d : Decoder) (there : ℕ → Bool) (dg : ℕ → Datagram) (p n : ℕ) (rest : List (Option Datagram)) → ((i : ℕ) → p ≤ i → i < p + n → there i ≡ false) → 1 ≤ n → fed d (items there dg p n ++ rest) ≡ fed (take_gap d) rest
one_gap d there dg p zero rest h some = absurd (omega arith)
one_gap d there dg p (suc zero) rest h some = let e = h p (omega arith) (omega arith) in ap (λ b. fed d ((if b then Some (dg p) else None) ∷ rest)) e
one_gap d there dg p (suc (suc n)) rest h some =
    let e = h p (omega arith) (omega arith) in
    ap (λ b. fed d ((if b then Some (dg p) else None) ∷ (items there dg (p + 1) (suc n) ++ rest))) e
    ∙ one_gap (take_gap d) there dg (p + 1) (suc n) rest (λ i low high. h i (omega arith) (omega arith)) (omega arith)

-- a receiver whose decoder was fed these items
abbrev pub fed_on : Receiver → List (Option Datagram) → Receiver
fed_on r xs = record r { decoder = (fed r.decoder xs).decoder; releases = r.releases ++ (fed r.decoder xs).releases }

-- in two parts
pub fed_on-append : (r : Receiver) (xs ys : List (Option Datagram)) → fed_on r (xs ++ ys) ≡ fed_on (fed_on r xs) ys
fed_on-append r xs ys =
    ap (λ s. record r { decoder = s.decoder; releases = r.releases ++ s.releases }) (fed-append r.decoder xs ys)
    ∙ ap (λ l. record r { decoder = (fed (fed r.decoder xs).decoder ys).decoder; releases = l }) (sym (append_assoc r.releases (fed r.decoder xs).releases (fed (fed r.decoder xs).decoder ys).releases))

-- a datagram is decoded first
pub fed_on_hand : (r : Receiver) (x : Datagram) (xs : List (Option Datagram)) → fed_on r (Some x ∷ xs) ≡ fed_on (followed r (decoded r.decoder x x.payload)) xs
fed_on_hand r x xs =
    let s = settled (decoded r.decoder x x.payload) in
    ap (λ l. record r { decoder = (fed s.decoder xs).decoder; releases = l }) (sym (append_assoc r.releases s.releases (fed s.decoder xs).releases))

-- one step of the draining
pub drained_hand : (m : ℕ) (r : Receiver) (x : Datagram) (w : Window Datagram) → next r.window r.window.base ≡ Hand x w → drained (suc m) r ≡ drained m (followed (record r { window = w }) (decoded r.decoder x x.payload))
unfolding drained
drained_hand m r x w e = rw (e, drained) refl

-- a gap drops the run
pub drained_gap : (m g : ℕ) (r : Receiver) (w : Window Datagram) → next r.window r.window.base ≡ Gap g w → drained (suc m) r ≡ drained m (record r { window = w; decoder = take_gap r.decoder })
unfolding drained
drained_gap m g r w e = rw (e, drained) refl

-- and with nothing left it ends
pub drained_none : (m : ℕ) (r : Receiver) → next r.window r.window.base ≡ Nothing → drained m r ≡ r
unfolding drained
drained_none zero r e = refl
drained_none (suc m) r e = rw (e, drained) refl

-- From the position p on, u positions of which are due, everything was handed on up to the position q: all that was due, and what
-- was held after it without a break. What is left is held after q.
pub record Ran (number : ℕ) (dg : ℕ → Datagram) (r : Receiver) (p u : ℕ) (hs : List ℕ) (end : ℕ) (result : Receiver) : Type 0 where
  pub q : ℕ
  pub left : List ℕ
  pub low : p + u ≤ q
  pub high : q ≤ end
  pub run : (i : ℕ) → p + u ≤ i → i < q → mem hs i ≡ true
  pub stop : mem hs q ≡ false
  pub same : (i : ℕ) → q ≤ i → mem left i ≡ mem hs i
  pub above : AllByRecursion (λ i. (q ≤ i) × (i < end)) left
  pub is : result ≡ fed_on (record r { window = window_at number dg q 0 left }) (items (mem hs) dg p (q - p))

-- all but one position are above it
above_others : (p end : ℕ) (hs : List ℕ) → AllByRecursion (λ i. (p ≤ i) × (i < end)) hs → AllByRecursion (λ i. (p + 1 ≤ i) × (i < end)) (others p hs)
above_others p end [] h = tt
above_others p end (i ∷ hs) h =
    let rest = above_others p end hs h.1 in
    let P : Bool → Type 0 = λ b. AllByRecursion (λ j. (p + 1 ≤ j) × (j < end)) (if not b then i ∷ others p hs else others p hs) in
    elim (eqb_tells i p) [
      | inl t ↦ subst P (sym t.0) rest
      | inr t ↦ subst P (sym t.0) ((let n : i ≢ p = t.1 in omega (arith, h.0.0), h.0.1), rest)
    ]

-- after a datagram
ran_hand : (number : ℕ) (dg : ℕ → Datagram) (r : Receiver) (p u : ℕ) (hs : List ℕ) (end : ℕ) (result : Receiver) → mem hs p ≡ true → AllByRecursion (λ i. (p ≤ i) × (i < end)) hs
    → Ran number dg (followed (record r { window = window_at number dg (p + 1) (u - 1) (others p hs) }) (decoded r.decoder (dg p) (dg p).payload)) (p + 1) (u - 1) (others p hs) end result → Ran number dg r p u hs end result
ran_hand number dg r p u hs end result t all n =
    let q = n.q in
    let unlike : (i : ℕ) → p + 1 ≤ i → mem (others p hs) i ≡ mem hs i = λ i low. mem_others p i hs (λ e. omega (arith, e, low)) in
    let up : p + 1 ≤ q = omega (arith, n.low) in
    let e : q - p ≡ suc (q - (p + 1)) = omega arith in
    let behind : items (mem (others p hs)) dg (p + 1) (q - (p + 1)) ≡ items (mem hs) dg (p + 1) (q - (p + 1)) = items_same (mem (others p hs)) (mem hs) dg (p + 1) (q - (p + 1)) (λ i low high. unlike i low) in
    let from = record r { window = window_at number dg q 0 n.left } in
    let list : items (mem hs) dg p (q - p) ≡ Some (dg p) ∷ items (mem hs) dg (p + 1) (q - (p + 1)) =
    ap (items (mem hs) dg p) e ∙ ap (λ b. (if b then Some (dg p) else None) ∷ items (mem hs) dg (p + 1) (q - (p + 1))) t in
    record {
      q = q;
      left = n.left;
      low = omega (arith, n.low);
      high = n.high;
      run = λ i low high. elim (cases_lt i (p + 1)) [
        | inr above ↦ sym (unlike i above) ∙ n.run i (omega arith) high
        | inl here ↦ let s : i ≡ p = omega arith in ap (mem hs) s ∙ t
      ];
      stop = sym (unlike q up) ∙ n.stop;
      same = λ i low. n.same i low ∙ unlike i (omega arith);
      above = n.above;
      is = n.is ∙ (ap (fed_on (followed from (decoded r.decoder (dg p) (dg p).payload))) behind ∙ (sym (fed_on_hand from (dg p) (items (mem hs) dg (p + 1) (q - (p + 1)))) ∙ sym (ap (fed_on from) list)));
    }

-- after a gap
ran_gap : (number : ℕ) (dg : ℕ → Datagram) (r : Receiver) (p u g : ℕ) (hs : List ℕ) (end : ℕ) (result : Receiver) → 1 ≤ g → g ≤ u → ((i : ℕ) → p ≤ i → i < p + g → mem hs i ≡ false)
    → Ran number dg (record r { window = window_at number dg (p + g) (u - g) hs; decoder = take_gap r.decoder }) (p + g) (u - g) hs end result → Ran number dg r p u hs end result
ran_gap number dg r p u g hs end result some few free n =
    let q = n.q in
    let e : q - p ≡ g + (q - (p + g)) = omega (arith, n.low) in
    let from = record r { window = window_at number dg q 0 n.left } in
    let rest = items (mem hs) dg (p + g) (q - (p + g)) in
    let list : items (mem hs) dg p (q - p) ≡ items (mem hs) dg p g ++ rest = ap (items (mem hs) dg p) e ∙ items-append (mem hs) dg p g (q - (p + g)) in
    let gap = one_gap r.decoder (mem hs) dg p g rest free some in
    record {
      q = q;
      left = n.left;
      low = omega (arith, n.low);
      high = n.high;
      run = λ i low high. n.run i (omega arith) high;
      stop = n.stop;
      same = n.same;
      above = n.above;
      is = n.is ∙ sym (ap (fed_on from) list ∙ ap (λ (s : Settled). record from { decoder = s.decoder; releases = r.releases ++ s.releases }) gap);
    }

-- what holds of all holds of each
pub mem_all : (P : ℕ → Type 0) (hs : List ℕ) (p : ℕ) → AllByRecursion P hs → mem hs p ≡ true → P p
mem_all P [] p all t = absurd (cc)
mem_all P (i ∷ hs) p all t = elim (eqb_tells i p) [
  | inl e ↦ subst P e.1 all.0
  | inr e ↦ mem_all P hs p all.1 (let f : (false || mem hs p) ≡ true = rw e.0 at t in f)
]

-- neither of two holds
pub or_false : (b c : Bool) → (b || c) ≡ false → (b ≡ false) × (c ≡ false)
or_false true c e = absurd (cc)
or_false false c e = (refl, e)

-- where a stretch isn't held all are after it
all_far : (p g end : ℕ) (hs : List ℕ) → ((j : ℕ) → p ≤ j → j < p + g → mem hs j ≡ false) → AllByRecursion (λ i. (p ≤ i) × (i < end)) hs → AllByRecursion (λ i. (p + g ≤ i) × (i < end)) hs
all_far p g end [] free all = tt
all_far p g end (i ∷ hs) free all =
    let here : p + g ≤ i = elim (cases_lt i (p + g)) [
      | inr t ↦ t
      | inl t ↦ let s : (i == i) ≡ true = same_number i in let n : ((i == i) || mem hs i) ≡ false = free i all.0.0 t in let k : (i == i) ≡ false = (or_false (i == i) (mem hs i) n).0 in absurd (cc)
    ] in
    ((here, all.0.1), all_far p g end hs (λ j low high. (or_false (i == j) (mem hs j) (free j low high)).1) all.1)

-- where nothing is left to hand on
ran_none : (n number : ℕ) (dg : ℕ → Datagram) (r : Receiver) (p : ℕ) (hs : List ℕ) (end : ℕ) → AllByRecursion (λ i. (p ≤ i) × (i < end)) hs → p ≤ end → r.window ≡ window_at number dg p 0 hs → mem hs p ≡ false
    → next r.window r.window.base ≡ Nothing → Ran number dg r p 0 hs end (drained n r)
ran_none n number dg r p hs end all within is none e =
    let z : p - p ≡ 0 = omega arith in
    let from = record r { window = window_at number dg p 0 hs } in
    record {
      q = p;
      left = hs;
      low = omega arith;
      high = within;
      run = λ i low high. absurd (omega arith);
      stop = none;
      same = λ i low. refl;
      above = all;
      is = drained_none n r e ∙ (ap (λ w. record r { window = w }) is ∙ (sym (ap (λ l. record from { releases = l }) (append-nil r.releases)) ∙ sym (ap (λ k. fed_on from (items (mem hs) dg p k)) z)));
    }

-- the draining
pub drains : (n : ℕ) (number : ℕ) (dg : ℕ → Datagram) (r : Receiver) (p u : ℕ) (hs : List ℕ) (end : ℕ) → AllByRecursion (λ i. (p ≤ i) × (i < end)) hs → p + u ≤ end → end < 8388608
    → r.window ≡ window_at number dg p u hs → (2 * length hs + 1 ≤ n) ⊎ ((2 * length hs ≤ n) × ((mem hs p ≡ true) ⊎ (u ≡ 0))) → Ran number dg r p u hs end (drained n r)
drains zero number dg r p u hs end all within few is (inl enough) = absurd (omega arith)
drains zero number dg r p u hs end all within few is (inr (enough, inl t)) = absurd (let f = fewer_others p hs t in omega (arith, f))
drains zero number dg r p u hs end all within few is (inr (enough, inr z)) =
    let small : AllByRecursion (λ i. i < 8388608) hs = all_imply (λ i. (p ≤ i) × (i < end)) (λ i. i < 8388608) hs (λ i h. omega (arith, h.1, few)) all in
    let now : r.window ≡ window_at number dg p 0 hs = is ∙ ap (λ k. window_at number dg p k hs) z in
    let P : ℕ → Type 0 = λ k. Ran number dg r p k hs end (drained 0 r) in
    elim (either (mem hs p)) [
      | inl t ↦ absurd (let f = fewer_others p hs t in omega (arith, f, enough))
      | inr t ↦ subst P (sym z) (ran_none 0 number dg r p hs end all (omega arith) now t (ap (λ (w : Window Datagram). next w w.base) now ∙ next_none number dg p hs (omega arith) small t))
    ]
drains (suc m) number dg r p u hs end all within few is enough =
    let small : AllByRecursion (λ i. i < 8388608) hs = all_imply (λ i. (p ≤ i) × (i < end)) (λ i. i < 8388608) hs (λ i h. omega (arith, h.1, few)) all in
    let high : AllByRecursion (λ i. p ≤ i) hs = all_imply (λ i. (p ≤ i) × (i < end)) (λ i. p ≤ i) hs (λ i h. h.0) all in
    let low : p < 8388608 = omega arith in
    let here = ap (λ (w : Window Datagram). next w w.base) is in
    let most : 2 * length hs ≤ suc m = elim enough [ inl e ↦ omega (arith, e) | inr e ↦ e.0 ] in
    let R : Receiver → Type 0 = λ x. Ran number dg r p u hs end x in
    elim (either (mem hs p)) [
      | inl t ↦
          let w = window_at number dg (p + 1) (u - 1) (others p hs) in
          let next_r = followed (record r { window = w }) (decoded r.decoder (dg p) (dg p).payload) in
          let f = fewer_others p hs t in
          let inside = mem_all (λ i. (p ≤ i) × (i < end)) hs p all t in
          let ran = drains m number dg next_r (p + 1) (u - 1) (others p hs) end (above_others p end hs all) (omega (arith, inside.1, within)) few refl (inl (omega (arith, f, most))) in
          subst R (sym (drained_hand m r (dg p) w (here ∙ next_hand number dg p u hs low small t))) (ran_hand number dg r p u hs end (drained m next_r) t all ran)
      | inr t ↦ elim (cases_lt 0 u) [
        | inr none ↦
            let z : u ≡ 0 = omega arith in
            let now : r.window ≡ window_at number dg p 0 hs = is ∙ ap (λ k. window_at number dg p k hs) z in
            let P : ℕ → Type 0 = λ k. Ran number dg r p k hs end (drained (suc m) r) in
            subst P (sym z) (ran_none (suc m) number dg r p hs end all (omega arith) now t (ap (λ (w : Window Datagram). next w w.base) now ∙ next_none number dg p hs low small t))
        | inl some ↦
            let g = gap_of p u hs in
            let w = window_at number dg (p + g) (u - g) hs in
            let next_r = record r { window = w; decoder = take_gap r.decoder } in
            let g_most = gap_most p u hs in
            let free : (j : ℕ) → p ≤ j → j < p + g → mem hs j ≡ false = λ j a b. gap_free p u hs j high a b in
            let room : 2 * length hs ≤ m = elim enough [
              | inl e ↦ omega (arith, e)
              | inr (e, inl c) ↦ let d : true ≡ false = sym c ∙ t in absurd (cc)
              | inr (e, inr c) ↦ absurd (omega (arith, c, some))
            ] in
            let ends : (mem hs (p + g) ≡ true) ⊎ (u - g ≡ 0) = elim (gap_ends p u hs high) [ inl e ↦ inr (omega (arith, e)) | inr e ↦ inl e ] in
            let ran = drains m number dg next_r (p + g) (u - g) hs end (all_far p g end hs free all) (omega (arith, within, g_most)) few refl (inr (room, ends)) in
            subst R (sym (drained_gap m g r w (here ∙ next_gap number dg p u hs low small high t some))) (ran_gap number dg r p u g hs end (drained m next_r) (gap_some p u hs some high t) g_most free ran)
      ]
    ]
