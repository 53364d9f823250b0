-- One datagram more of a stream: what the window holds, what was handed on, and what was counted.
use Rattle.std.proofs.Common.{◌≡◌, ◌⊎◌, ◌<◌, ◌≤◌, ◌+◌, ◌-◌, ◌*◌, ◌^◌, ◌==◌, ◌||◌, ℕ, max, Bool, true, false, List, [], ◌∷◌, ◌++◌, map, length, nat_le, Some, subst, refl, sym, ◌∙◌, ap, inl, inr, arith, if◌then◌else◌}
use Rattle.std.specs.List.{AllByRecursion}
use Rattle.std.proofs.lemmas.Bool.{cases_lt, le-leb, lt-leb}
use Rattle.std.proofs.lemmas.Bool.Decides.{eqb_tells}
use Rattle.std.proofs.lemmas.List.{length-map}
use Rattle.wire_model.specs.Datagram.{Datagram}
use Rattle.codestream_model.proofs.TreeLemmas.{either}
use Rattle.stream_model.specs.Arrivals.{in_time, base, positions_in_time}
use Rattle.stream_model.specs.Stream.{extended_number}
use Rattle.stream_model.specs.Decoder.{at_start, Settled}
use Rattle.stream_model.specs.Window.{Window, Offer, Behind, Again, Drain, Kept, ahead, is_held, offer_ahead, offer, hold, make_due}
use Rattle.stream_model.specs.Receiver.{Receiver, drain, keep, offered}
use Rattle.stream_model.specs.RunLaws.{fed, given_before}
use Rattle.stream_model.proofs.CutBodies.{all_imply}
use Rattle.stream_model.proofs.Bases.{below_base, floor-le-append, in_time-le-highest, not_true}
use Rattle.stream_model.proofs.InTime.{in_time_stays}
use Rattle.stream_model.proofs.RunStream.{fed-append}
use Rattle.stream_model.proofs.WindowSteps.{num, held_at, mem, window_at, num_test, ahead_is, ahead_behind, put, mem_put, all_put, insert_held}
use Rattle.stream_model.proofs.WindowDrains.{items, items-append, items_same, fed_on, drains}
use Rattle.stream_model.proofs.ArrivalSteps.{other_position, new_arrival, base_is, highest-append, old_position, old_base, new_count, old_count}

-- The window's next position is b. It holds the positions from there on that are there, all of them below the stream's end. The
-- decoder was fed each position below b, its datagram where it is there and else a gap.
pub record Holding (number : ℕ) (dg : ℕ → Datagram) (end b : ℕ) (there : ℕ → Bool) (r : Receiver) : Type 0 where
  pub hs : List ℕ
  pub window : r.window ≡ window_at number dg b 0 hs
  pub all : AllByRecursion (λ i. (b ≤ i) × (i < end)) hs
  pub within : b ≤ end
  pub same : (i : ℕ) → b ≤ i → mem hs i ≡ there i
  pub decoder : r.decoder ≡ (fed at_start (items there dg 0 b)).decoder
  pub releases : r.releases ≡ (fed at_start (items there dg 0 b)).releases

-- the same of other words for the same
pub holding_as : (number : ℕ) (dg : ℕ → Datagram) (end b c : ℕ) (t u : ℕ → Bool) (r s : Receiver) → b ≡ c → ((i : ℕ) → t i ≡ u i) → s.window ≡ r.window → s.decoder ≡ r.decoder → s.releases ≡ r.releases → Holding number dg end b t r → Holding number dg end c u s
holding_as number dg end b c t u r s e same w d p h =
    let f : items t dg 0 b ≡ items u dg 0 c = items_same t u dg 0 b (λ i low high. same i) ∙ ap (items u dg 0) e in
    let P : ℕ → Type 0 = λ k. AllByRecursion (λ i. (k ≤ i) × (i < end)) h.hs in
    record {
      hs = h.hs;
      window = w ∙ (h.window ∙ ap (λ k. window_at number dg k 0 h.hs) e);
      all = subst P e h.all;
      within = omega (arith, e, h.within);
      same = λ i low. h.same i (omega (arith, e, low)) ∙ same i;
      decoder = d ∙ (h.decoder ∙ ap (λ l. (fed at_start l).decoder) f);
      releases = p ∙ (h.releases ∙ ap (λ l. (fed at_start l).releases) f);
    }

-- what was fed on after what was fed
pub fed_further : (there : ℕ → Bool) (dg : ℕ → Datagram) (b q : ℕ) → b ≤ q → fed at_start (items there dg 0 q) ≡ given_before (fed at_start (items there dg 0 b)).releases (fed (fed at_start (items there dg 0 b)).decoder (items there dg b (q - b)))
fed_further there dg b q low =
    let e : q ≡ b + (q - b) = omega arith in
    let z : 0 + b ≡ b = omega arith in
    ap (fed at_start) (ap (items there dg 0) e ∙ (items-append there dg 0 b (q - b) ∙ ap (λ k. items there dg 0 b ++ items there dg k (q - b)) z))
    ∙ fed-append at_start (items there dg 0 b) (items there dg b (q - b))

-- these counts are kept by now, and what else was counted, and the source, are as before
abbrev pub HasCounts : ℕ → Receiver → Receiver → Type 0
HasCounts kept r s = (s.kept ≡ kept) × (s.refused ≡ r.refused) × (s.source ≡ r.source)

-- a datagram that is held from now on, and what is handed on then
pub keep_holding : (number : ℕ) (dg : ℕ → Datagram) (end b a : ℕ) (was now : ℕ → Bool) (r : Receiver) → Holding number dg end b was r → end < 8388608 → a < end → b ≤ a → extended_number (dg a) ≡ num number a
    → now a ≡ true → ((i : ℕ) → (a ≡ i → ⊥) → now i ≡ was i)
    → (q : ℕ) × (b ≤ q) × (now q ≡ false) × ((i : ℕ) → b ≤ i → i < q → now i ≡ true) × Holding number dg end q now (keep r (dg a)) × HasCounts (r.kept + 1) r (keep r (dg a))
keep_holding number dg end b a was now r h few inside low is_number here other =
    let near_all : AllByRecursion (λ i. (b ≤ i) × (i < 8388608)) h.hs = all_imply (λ i. (b ≤ i) × (i < end)) (λ i. (b ≤ i) × (i < 8388608)) h.hs (λ i t. (t.0, omega (arith, t.1, few))) h.all in
    let held : hold r.window (extended_number (dg a)) (dg a) ≡ window_at number dg b 0 (put b a h.hs) =
    ap (λ w. hold w (extended_number (dg a)) (dg a)) h.window ∙ (ap (λ n. hold (window_at number dg b 0 h.hs) n (dg a)) is_number ∙ ap (λ l. record { base = Some (num number b); due = 0; held = l }) (insert_held number dg b a h.hs low (omega (arith, inside, few)) near_all)) in
    let start = record r { window = hold r.window (extended_number (dg a)) (dg a); kept = r.kept + 1 } in
    let n = 2 * length start.window.held + 1 in
    let size : length start.window.held ≡ length (put b a h.hs) = ap (λ (w : Window Datagram). length w.held) held ∙ length-map (put b a h.hs) (held_at number dg) in
    let ran = drains n number dg start b 0 (put b a h.hs) end (all_put (λ i. (b ≤ i) × (i < end)) b a h.hs (low, inside) h.all) (omega (arith, h.within)) few held (inl (omega (arith, size))) in
    let q = ran.q in
    let up : b ≤ q = omega (arith, ran.low) in
    let mine : (i : ℕ) → b ≤ i → mem (put b a h.hs) i ≡ now i = λ i l. mem_put b a h.hs i ∙ elim (eqb_tells a i) [
      | inl e ↦ rw e.0 (sym here ∙ ap now e.1)
      | inr e ↦ rw e.0 (h.same i l ∙ sym (other i e.1))
    ] in
    let list : items (mem (put b a h.hs)) dg b (q - b) ≡ items now dg b (q - b) = items_same (mem (put b a h.hs)) now dg b (q - b) (λ i l m. mine i l) in
    let before : items was dg 0 b ≡ items now dg 0 b = items_same was now dg 0 b (λ i l m. sym (other i (λ e. omega (arith, e, m, low)))) in
    let all = fed_further now dg b q up in
    let d : r.decoder ≡ (fed at_start (items now dg 0 b)).decoder = h.decoder ∙ ap (λ l. (fed at_start l).decoder) before in
    let p : r.releases ≡ (fed at_start (items now dg 0 b)).releases = h.releases ∙ ap (λ l. (fed at_start l).releases) before in
    let is : keep r (dg a) ≡ fed_on (record start { window = window_at number dg q 0 ran.left }) (items now dg b (q - b)) = ran.is ∙ ap (fed_on (record start { window = window_at number dg q 0 ran.left })) list in (
      q,
      up,
      sym (mine q up) ∙ ran.stop,
      λ i l m. sym (mine i l) ∙ ran.run i (omega arith) m,
      record {
        hs = ran.left;
        window = ap (λ (x : Receiver). x.window) is;
        all = ran.above;
        within = ran.high;
        same = λ i l. ran.same i l ∙ mine i (omega arith);
        decoder = ap (λ (x : Receiver). x.decoder) is ∙ (ap (λ y. (fed y (items now dg b (q - b))).decoder) d ∙ sym (ap (λ (s : Settled). s.decoder) all));
        releases = ap (λ (x : Receiver). x.releases) is
            ∙ (ap (λ l. l ++ (fed r.decoder (items now dg b (q - b))).releases) p
            ∙ (ap (λ y. (fed at_start (items now dg 0 b)).releases ++ (fed y (items now dg b (q - b))).releases) d ∙ sym (ap (λ (s : Settled). s.releases) all)));
      },
      (ap (λ (x : Receiver). x.kept) is, ap (λ (x : Receiver). x.refused) is, ap (λ (x : Receiver). x.source) is),
    )

-- what is made due is handed on
pub due_holding : (number : ℕ) (dg : ℕ → Datagram) (end b u : ℕ) (there : ℕ → Bool) (r s : Receiver) (h : Holding number dg end b there r) → end < 8388608 → b + u ≤ end → s.window ≡ window_at number dg b u h.hs → s.decoder ≡ r.decoder → s.releases ≡ r.releases
    → (q : ℕ) × (b + u ≤ q) × (there q ≡ false) × ((i : ℕ) → b + u ≤ i → i < q → there i ≡ true) × Holding number dg end q there (drain s) × HasCounts s.kept s (drain s)
due_holding number dg end b u there r s h few room w dec pre =
    let n = 2 * length s.window.held + 1 in
    let size : length s.window.held ≡ length h.hs = ap (λ (x : Window Datagram). length x.held) w ∙ length-map h.hs (held_at number dg) in
    let ran = drains n number dg s b u h.hs end h.all room few w (inl (omega (arith, size))) in
    let q = ran.q in
    let up : b ≤ q = omega (arith, ran.low) in
    let list : items (mem h.hs) dg b (q - b) ≡ items there dg b (q - b) = items_same (mem h.hs) there dg b (q - b) (λ i l m. h.same i l) in
    let all = fed_further there dg b q up in
    let d = dec ∙ h.decoder in
    let p = pre ∙ h.releases in
    let is : drain s ≡ fed_on (record s { window = window_at number dg q 0 ran.left }) (items there dg b (q - b)) = ran.is ∙ ap (fed_on (record s { window = window_at number dg q 0 ran.left })) list in (
      q,
      ran.low,
      sym (h.same q up) ∙ ran.stop,
      λ i l m. sym (h.same i (omega arith)) ∙ ran.run i l m,
      record {
        hs = ran.left;
        window = ap (λ (x : Receiver). x.window) is;
        all = ran.above;
        within = ran.high;
        same = λ i l. ran.same i l ∙ h.same i (omega arith);
        decoder = ap (λ (x : Receiver). x.decoder) is ∙ (ap (λ y. (fed y (items there dg b (q - b))).decoder) d ∙ sym (ap (λ (y : Settled). y.decoder) all));
        releases = ap (λ (x : Receiver). x.releases) is
            ∙ (ap (λ l. l ++ (fed s.decoder (items there dg b (q - b))).releases) p
            ∙ (ap (λ y. (fed at_start (items there dg 0 b)).releases ++ (fed y (items there dg b (q - b))).releases) d ∙ sym (ap (λ (y : Settled). y.releases) all)));
      },
      (ap (λ (x : Receiver). x.kept) is, ap (λ (x : Receiver). x.refused) is, ap (λ (x : Receiver). x.source) is),
    )

-- whether a number is held
held_mem : (number : ℕ) (dg : ℕ → Datagram) (a : ℕ) (hs : List ℕ) → a < 8388608 → AllByRecursion (λ i. i < 8388608) hs → is_held (num number a) (map (held_at number dg) hs) ≡ mem hs a
held_mem number dg a [] low small = refl
held_mem number dg a (i ∷ hs) low small =
    ap (λ b. b || is_held (num number a) (map (held_at number dg) hs)) (num_test number i a small.0 low) ∙ ap (λ b. (i == a) || b) (held_mem number dg a hs low small.1)

-- what the window answers to a position: after it,
offer_behind : (number : ℕ) (dg : ℕ → Datagram) (window b a : ℕ) (hs : List ℕ) → a < b → b < 8388608 → offer window (num number a) (window_at number dg b 0 hs) (Some (num number b)) ≡ Behind
offer_behind number dg window b a hs less few =
    let far = ahead_behind number b a less few in
    let e : nat_le (2 ^ 23) (ahead (num number b) (num number a)) ≡ true = le-leb (2 ^ 23) (ahead (num number b) (num number a)) far in
    rw e refl

-- too far ahead of it,
offer_far : (number : ℕ) (dg : ℕ → Datagram) (window b a : ℕ) (hs : List ℕ) → b ≤ a → a < 8388608 → window ≤ a - b → offer window (num number a) (window_at number dg b 0 hs) (Some (num number b)) ≡ Drain (a - b + 1 - window)
offer_far number dg window b a hs low few far =
    let d : ahead (num number b) (num number a) ≡ a - b = ahead_is number b a low few in
    let e : nat_le (2 ^ 23) (a - b) ≡ false = lt-leb (2 ^ 23) (a - b) (omega arith) in
    let f : nat_le window (a - b) ≡ true = le-leb window (a - b) far in
    ap (λ k. offer_ahead window k (num number a) (map (held_at number dg) hs)) d ∙ rw (e, f) refl

-- and within it
offer_near : (number : ℕ) (dg : ℕ → Datagram) (window b a : ℕ) (hs : List ℕ) → b ≤ a → a < 8388608 → a - b < window → AllByRecursion (λ i. i < 8388608) hs
    → offer window (num number a) (window_at number dg b 0 hs) (Some (num number b)) ≡ (if mem hs a then Again else Kept)
offer_near number dg window b a hs low few near small =
    let d : ahead (num number b) (num number a) ≡ a - b = ahead_is number b a low few in
    let e : nat_le (2 ^ 23) (a - b) ≡ false = lt-leb (2 ^ 23) (a - b) (omega arith) in
    let f : nat_le window (a - b) ≡ false = lt-leb window (a - b) near in
    ap (λ k. offer_ahead window k (num number a) (map (held_at number dg) hs)) d ∙ (rw (e, f) (ap (λ (t : Bool). if t then Again else Kept) (held_mem number dg a hs few small)))

-- what is known after an arrival
abbrev pub Stepped : ℕ → (ℕ → Datagram) → ℕ → ℕ → List ℕ → Receiver → Receiver → Type 0
Stepped number dg end window events r s = Holding number dg end (base events window) (λ i. in_time events i window) s × HasCounts (length (positions_in_time events window)) r s

-- an old one
step_old : (number : ℕ) (dg : ℕ → Datagram) (end window x : ℕ) (xs : List ℕ) (a : ℕ) (r : Receiver) → Holding number dg end (base (x ∷ xs) window) (λ i. in_time (x ∷ xs) i window) r → 1 ≤ window → r.kept ≡ length (positions_in_time (x ∷ xs) window)
    → (a < base (x ∷ xs) window) ⊎ (in_time (x ∷ xs) a window ≡ true) → Stepped number dg end window ((x ∷ xs) ++ a ∷ []) r (record r { old = r.old + 1 })
step_old number dg end window x xs a r h some count old = (
  holding_as number dg end (base (x ∷ xs) window) (base ((x ∷ xs) ++ a ∷ []) window) (λ i. in_time (x ∷ xs) i window) (λ i. in_time ((x ∷ xs) ++ a ∷ []) i window) r (record r { old = r.old + 1 }) (sym (old_base x xs a window some old)) (λ i. sym (old_position x xs a i window some old)) refl refl refl h,
  (count ∙ sym (old_count x xs a window some old), refl, refl),
)

-- one that is kept at once
step_kept : (number : ℕ) (dg : ℕ → Datagram) (end window x : ℕ) (xs : List ℕ) (a : ℕ) (r : Receiver) → Holding number dg end (base (x ∷ xs) window) (λ i. in_time (x ∷ xs) i window) r → 1 ≤ window → end < 8388608 → a < end → extended_number (dg a) ≡ num number a
    → r.kept ≡ length (positions_in_time (x ∷ xs) window) → base (x ∷ xs) window ≤ a → a - base (x ∷ xs) window < window → in_time (x ∷ xs) a window ≡ false → Stepped number dg end window ((x ∷ xs) ++ a ∷ []) r (keep r (dg a))
step_kept number dg end window x xs a r h some few inside is_number count low near late =
    let events = x ∷ xs in
    let more = events ++ a ∷ [] in
    let b = base events window in
    let now : ℕ → Bool = λ i. in_time more i window in
    let k = keep_holding number dg end b a (λ i. in_time events i window) now r h few inside low is_number (new_arrival x xs a window low late) (λ i n. other_position events a i window n) in
    let top = highest-append 0 a events in
    let up = floor-le-append events (a ∷ []) window some in
    let q : base more window ≡ k.0 = base_is more window k.0 (omega (arith, top, near, low, k.1)) k.2 (λ i l m. elim (cases_lt i b) [
      | inl t ↦ in_time_stays events (a ∷ []) i window (below_base events window i (omega (arith, up, l)) t)
      | inr t ↦ k.3 i t m
    ]) in (
      holding_as number dg end k.0 (base more window) now now (keep r (dg a)) (keep r (dg a)) (sym q) (λ i. refl) refl refl refl k.4,
      (k.5.0 ∙ (ap (λ n. n + 1) count ∙ sym (new_count x xs a window low late)), k.5.1, k.5.2),
    )

-- one before which the window is drained
step_far : (number : ℕ) (dg : ℕ → Datagram) (end window x : ℕ) (xs : List ℕ) (a : ℕ) (r : Receiver) → Holding number dg end (base (x ∷ xs) window) (λ i. in_time (x ∷ xs) i window) r → 1 ≤ window → end < 8388608 → a < end → extended_number (dg a) ≡ num number a
    → r.kept ≡ length (positions_in_time (x ∷ xs) window) → base (x ∷ xs) window ≤ a → window ≤ a - base (x ∷ xs) window
    → Stepped number dg end window ((x ∷ xs) ++ a ∷ []) r (keep (drain (record r { window = make_due (a - base (x ∷ xs) window + 1 - window) r.window })) (dg a))
step_far number dg end window x xs a r h some few inside is_number count low far =
    let events = x ∷ xs in
    let more = events ++ a ∷ [] in
    let b = base events window in
    let was : ℕ → Bool = λ i. in_time events i window in
    let now : ℕ → Bool = λ i. in_time more i window in
    let n = a - b + 1 - window in
    let u = max 0 n in
    let s = record r { window = make_due n r.window } in
    let due : s.window ≡ window_at number dg b u h.hs = ap (make_due n) h.window in
    let d = due_holding number dg end b u was r s h few (omega (arith, inside, far)) due refl refl in
    let late : in_time events a window ≡ false = not_true (in_time events a window) (λ t. let m = in_time-le-highest events a window t in omega (arith, m, far)) in
    let reach : d.0 ≤ a = elim (cases_lt a d.0) [ inr t ↦ t | inl t ↦ let yes : in_time events a window ≡ true = d.3 a (omega (arith, far)) t in absurd (cc) ] in
    let k = keep_holding number dg end d.0 a was now (drain s) d.4 few inside reach is_number (new_arrival x xs a window low late) (λ i m. other_position events a i window m) in
    let top = highest-append 0 a events in
    let q : base more window ≡ k.0 = base_is more window k.0 (omega (arith, top, far, low, k.1, d.1)) k.2 (λ i l m. elim (cases_lt i d.0) [
      | inl t ↦ in_time_stays events (a ∷ []) i window (d.3 i (omega (arith, top, l, far)) t)
      | inr t ↦ k.3 i t m
    ]) in
    let end_r = keep (drain s) (dg a) in (
      holding_as number dg end k.0 (base more window) now now end_r end_r (sym q) (λ i. refl) refl refl refl k.4,
      (k.5.0 ∙ (ap (λ m. m + 1) (d.5.0 ∙ count) ∙ sym (new_count x xs a window low late)), k.5.1 ∙ d.5.1, k.5.2 ∙ d.5.2),
    )

-- any arrival but the first
pub step_on : (number : ℕ) (dg : ℕ → Datagram) (end window x : ℕ) (xs : List ℕ) (a : ℕ) (r : Receiver) → Holding number dg end (base (x ∷ xs) window) (λ i. in_time (x ∷ xs) i window) r → 1 ≤ window → end < 8388608 → a < end → extended_number (dg a) ≡ num number a
    → r.kept ≡ length (positions_in_time (x ∷ xs) window) → Stepped number dg end window ((x ∷ xs) ++ a ∷ []) r (offered r (dg a) (offer window (extended_number (dg a)) r.window r.window.base))
step_on number dg end window x xs a r h some few inside is_number count =
    let events = x ∷ xs in
    let b = base events window in
    let small : AllByRecursion (λ i. i < 8388608) h.hs = all_imply (λ i. (b ≤ i) × (i < end)) (λ i. i < 8388608) h.hs (λ i t. omega (arith, t.1, few)) h.all in
    let asked : offer window (extended_number (dg a)) r.window r.window.base ≡ offer window (num number a) (window_at number dg b 0 h.hs) (Some (num number b)) =
    ap (λ w. offer window (extended_number (dg a)) w w.base) h.window ∙ ap (λ n. offer window n (window_at number dg b 0 h.hs) (Some (num number b))) is_number in
    let S : Offer → Type 0 = λ o. Stepped number dg end window (events ++ a ∷ []) r (offered r (dg a) o) in
    elim (cases_lt a b) [
      | inl less ↦ subst S (sym (asked ∙ offer_behind number dg window b a h.hs less (omega (arith, h.within, few)))) (step_old number dg end window x xs a r h some count (inl less))
      | inr low ↦ elim (cases_lt (a - b) window) [
        | inr far ↦ subst S (sym (asked ∙ offer_far number dg window b a h.hs low (omega (arith, inside, few)) far)) (step_far number dg end window x xs a r h some few inside is_number count low far)
        | inl near ↦
            let near_is = asked ∙ offer_near number dg window b a h.hs low (omega (arith, inside, few)) near small in
            elim (either (mem h.hs a)) [
              | inl t ↦ subst S (sym (near_is ∙ ap (λ (z : Bool). if z then Again else Kept) t)) (step_old number dg end window x xs a r h some count (inr (sym (h.same a low) ∙ t)))
              | inr t ↦ subst S (sym (near_is ∙ ap (λ (z : Bool). if z then Again else Kept) t)) (step_kept number dg end window x xs a r h some few inside is_number count low near (sym (h.same a low) ∙ t))
            ]
      ]
    ]
