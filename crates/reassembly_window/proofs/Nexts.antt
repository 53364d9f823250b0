-- What a window hands on.
use Rattle.std.proofs.Common.{◌≡◌, ◌<◌, ◌≤◌, ◌+◌, ◌-◌, ◌%◌, ◌^◌, ◌==◌, ℕ, zero, suc, min, max, Bool, true, false, not, List, [], ◌∷◌, ◌++◌, map, filter, length, drop, take, replicate, nat_lt, Option, Some, None, refl, sym, ◌∙◌, ap, ap₂, inl, inr, arith, length-append, length-drop, if◌then◌else◌}
use Rattle.std.specs.List.{fold}
use Rattle.std.proofs.lemmas.Bool.{cases_lt, lt-ltb, le-ltb}
use Rattle.std.proofs.lemmas.Bool.Decides.{eqb_tells}
use Rattle.std.proofs.lemmas.List.{append-nil, take-append-drop, length-replicate}
use Rattle.stream_model.specs.Window.{Window, Hand, Gap, Nothing, ahead, base_with, moved, gap_length, next_at, next, make_all_due}
use Rattle.reassembly_window.specs.declared.window.Slot.TheVariants as slots
use Rattle.reassembly_window.specs.Slots.{Slots, entries, is_filled, front, lead, reach, reach_after, rotated, gap_over, past_gap, filled_count}
use Rattle.reassembly_window.specs.Windows.{WindowState, held_of, state_of, IsBase, IsSound}
use Rattle.reassembly_window.specs.Answers.{next_answer, after_next}
use Rattle.reassembly_window.proofs.Rotations.{length-rotated}
use Rattle.reassembly_window.proofs.Entries.{find_first, find_nothing, filter_first, entries_moved, entries-append, entries-take, entries-drop, entries-none, gap_is, reach_is, length-entries, filled_count-append, filled_count-front, filled_count-most, filled_count-replicate, reach-most}

-- the window of these places
abbrev pub window_of : ℕ → ℕ → List (Option (List ℕ)) → Window (List ℕ)
window_of base due slots = record { base = Some base; due = due; held = entries base 0 slots }

-- where the base moves
behind : (base count : ℕ) (slots : List (Option (List ℕ))) → base < 2 ^ 24 → entries base (0 + count) slots ≡ entries ((base + count) % 2 ^ 24) 0 slots
behind base count slots low = let z : 0 + count ≡ count + 0 = omega arith in ap (λ k. entries base k slots) z ∙ entries_moved base count 0 slots low

-- a datagram is handed on
hand : (base due : ℕ) (s t : List (Option (List ℕ))) (x : List ℕ) → base < 2 ^ 24 → length s < 2 ^ 24 → front s ≡ Some x → is_filled 0 s ≡ true → t ≡ drop 1 s ++ None ∷ []
    → next (window_of base due s) (Some base) ≡ Hand x (window_of ((base + 1) % 2 ^ 24) (due - 1) t)
hand base due s t x low few first full is =
    let w = window_of base due s in
    let left : filter (λ h. not (h.number == base)) (entries base 0 s) ≡ entries ((base + 1) % 2 ^ 24) 0 t =
    filter_first base s low few full
    ∙ (behind base 1 (drop 1 s) low
    ∙ sym (ap (entries ((base + 1) % 2 ^ 24) 0) is ∙ (entries-append ((base + 1) % 2 ^ 24) 0 (drop 1 s) (None ∷ []) ∙ append-nil (entries ((base + 1) % 2 ^ 24) 0 (drop 1 s))))) in
    ap (next_at base w) (find_first base s x low first) ∙ ap (λ l. Hand x (record { base = Some ((base + 1) % 2 ^ 24); due = due - 1; held = l })) left

pub hand_window : (base due held : ℕ) (r t : Slots) (shown : Bool) (s : WindowState) → state_of (Some base) due r shown ≡ s → IsSound (Some base) due held r.slots → front r.slots ≡ Some t.passed → is_filled 0 r.slots ≡ true → t.slots ≡ drop 1 r.slots ++ None ∷ []
    → state_of (Some ((base + 1) % 2 ^ 24)) (due - 1) t true ≡ after_next s (next s.window s.window.base)
hand_window base due held r t shown s view sound first full is =
    let few : length r.slots < 2 ^ 24 = omega (arith, sound.few) in
    let e = hand base due r.slots t.slots t.passed sound.base_is few first full is in
    let size : length t.slots ≡ length r.slots = (let a = ap length is in let b = length-append (drop 1 r.slots) (None ∷ []) in let d = length-drop 1 r.slots in omega (arith, a, b, d, sound.some)) in
    ap (λ k. record { size = k; window = window_of ((base + 1) % 2 ^ 24) (due - 1) t.slots; shown = Some t.passed }) size
    ∙ (sym (ap (after_next (state_of (Some base) due r shown)) e)
    ∙ ap (λ (x : WindowState). after_next x (next x.window x.window.base)) view)

pub hand_sound : (base due held : ℕ) (r t : Slots) → IsSound (Some base) due held r.slots → is_filled 0 r.slots ≡ true → t.slots ≡ drop 1 r.slots ++ None ∷ [] → IsSound (Some ((base + 1) % 2 ^ 24)) (due - 1) (held - 1) t.slots
hand_sound base due held r t sound full is =
    let size : length t.slots ≡ length r.slots = (let a = ap length is in let b = length-append (drop 1 r.slots) (None ∷ []) in let d = length-drop 1 r.slots in omega (arith, a, b, d, sound.some)) in
    let count : filled_count t.slots ≡ filled_count (drop 1 r.slots) + 0 = ap filled_count is ∙ filled_count-append (drop 1 r.slots) (None ∷ []) in
    let c = filled_count-front r.slots full in
    record {
      count = omega (arith, count, c, sound.count);
      few_due = omega (arith, sound.few_due);
      few = omega (arith, size, sound.few);
      some = omega (arith, size, sound.some);
      base_is = omega arith;
    }

-- nothing is handed on
nothing : (base : ℕ) (s : List (Option (List ℕ))) → base < 2 ^ 24 → length s < 2 ^ 24 → is_filled 0 s ≡ false → next (window_of base 0 s) (Some base) ≡ Nothing
nothing base s low few free = ap (next_at base (window_of base 0 s)) (find_nothing base s low few free)

pub none_next : (base due held : ℕ) (r : Slots) (shown : Bool) (s : WindowState) → state_of (Some base) due r shown ≡ s → IsSound (Some base) due held r.slots → is_filled 0 r.slots ≡ false → due ≡ 0 → next s.window s.window.base ≡ Nothing
none_next base due held r shown s view sound free none =
    sym (ap (λ (x : WindowState). next x.window x.window.base) view)
    ∙ (ap (λ k. next (window_of base k r.slots) (Some base)) none ∙ nothing base r.slots sound.base_is (omega (arith, sound.few)) free)

pub none_answer : (s : WindowState) → next s.window s.window.base ≡ Nothing → None ≡ next_answer (base_with 0 s.window.base) (next s.window s.window.base)
none_answer s e = sym (ap (next_answer (base_with 0 s.window.base)) e)

pub none_window : (ob : Option ℕ) (due : ℕ) (r : Slots) (shown : Bool) (s : WindowState) → state_of ob due r shown ≡ s → next s.window s.window.base ≡ Nothing → state_of ob due r false ≡ after_next s (next s.window s.window.base)
none_window ob due r shown s view e = ap (λ (x : WindowState). record x { shown = None }) view ∙ sym (ap (after_next s) e)

-- a gap
past_lead : (base due : ℕ) (s : List (Option (List ℕ))) → base < 2 ^ 24 → length s < 2 ^ 24 → entries ((base + gap_over due s) % 2 ^ 24) 0 (past_gap due s) ≡ entries base 0 s
past_lead base due s low few = elim (cases_lt (lead s) (length s)) [
  | inl less ↦
      let t : nat_lt (lead s) (length s) ≡ true = lt-ltb (lead s) (length s) less in
      let k = min due (lead s) in
      let b = (base + k) % 2 ^ 24 in
      let start : entries ((base + gap_over due s) % 2 ^ 24) 0 (past_gap due s) ≡ entries b 0 (rotated k s) = ap (λ (c : Bool). entries ((base + (if c then k else due)) % 2 ^ 24) 0 (if c then rotated k s else s)) t in
      let le : k ≤ lead s = omega arith in
      let z : entries b (0 + length (drop k s)) (take k s) ≡ [] = entries-take b (0 + length (drop k s)) k s le in
      start
      ∙ (entries-append b 0 (drop k s) (take k s)
      ∙ (ap (λ l. entries b 0 (drop k s) ++ l) z
      ∙ (append-nil (entries b 0 (drop k s))
      ∙ (sym (behind base k (drop k s) low) ∙ sym (entries-drop base 0 k s le)))))
  | inr past ↦
      let t : nat_lt (lead s) (length s) ≡ false = le-ltb (lead s) (length s) past in
      let b = (base + due) % 2 ^ 24 in
      let start : entries ((base + gap_over due s) % 2 ^ 24) 0 (past_gap due s) ≡ entries b 0 s = ap (λ (c : Bool). entries ((base + (if c then min due (lead s) else due)) % 2 ^ 24) 0 (if c then rotated (min due (lead s)) s else s)) t in
      start ∙ (entries-none b 0 s past ∙ sym (entries-none base 0 s past))
]

gap : (base due count : ℕ) (s t : List (Option (List ℕ))) → base < 2 ^ 24 → length s < 2 ^ 24 → is_filled 0 s ≡ false → 0 < due → count ≡ gap_over due s → t ≡ past_gap due s
    → next (window_of base due s) (Some base) ≡ Gap count (window_of ((base + count) % 2 ^ 24) (due - count) t)
gap base due count s t low few free some c_is t_is =
    let w = window_of base due s in
    let positive : (due == 0) ≡ false = elim (eqb_tells due 0) [ inl e ↦ absurd (omega (arith, e.1, some)) | inr e ↦ e.0 ] in
    let z : 0 + lead s ≡ lead s = omega arith in
    let long : gap_length base w ≡ count = gap_is base due 0 s low (omega arith) ∙ (ap (λ k. if nat_lt (lead s) (length s) then min due k else due) z ∙ sym c_is) in
    let held : entries base 0 s ≡ entries ((base + count) % 2 ^ 24) 0 t = sym (ap₂ (λ k l. entries ((base + k) % 2 ^ 24) 0 l) c_is t_is ∙ past_lead base due s low few) in
    ap (next_at base w) (find_nothing base s low few free)
    ∙ (ap (λ (b : Bool). if b then Nothing else Gap (gap_length base w) (moved base (gap_length base w) w)) positive
    ∙ (ap (λ k. Gap k (moved base k w)) long
    ∙ ap (λ l. Gap count (record { base = Some ((base + count) % 2 ^ 24); due = due - count; held = l })) held))

gap_size : (due : ℕ) (s : List (Option (List ℕ))) → length (past_gap due s) ≡ length s
gap_size due s = elim (nat_lt (lead s) (length s)) as (λ b. length (if b then rotated (min due (lead s)) s else s) ≡ length s) [
  | true ↦ length-rotated (min due (lead s)) s
  | false ↦ refl
]

filled_rotated : (k : ℕ) (s : List (Option (List ℕ))) → filled_count (rotated k s) ≡ filled_count s
filled_rotated k s =
    let a = filled_count-append (drop k s) (take k s) in
    let b = filled_count-append (take k s) (drop k s) in
    let c = ap (λ (l : List (Option (List ℕ))). filled_count l) (take-append-drop k s) in
    omega (arith, a, b, c)

gap_filled : (due : ℕ) (s : List (Option (List ℕ))) → filled_count (past_gap due s) ≡ filled_count s
gap_filled due s = elim (nat_lt (lead s) (length s)) as (λ b. filled_count (if b then rotated (min due (lead s)) s else s) ≡ filled_count s) [
  | true ↦ filled_rotated (min due (lead s)) s
  | false ↦ refl
]

gap_most : (due : ℕ) (s : List (Option (List ℕ))) → gap_over due s ≤ due
gap_most due s = elim (nat_lt (lead s) (length s)) as (λ b. (if b then min due (lead s) else due) ≤ due) [ true ↦ omega arith | false ↦ omega arith ]

gap_next : (base due held count : ℕ) (r t : Slots) (shown : Bool) (s : WindowState) → state_of (Some base) due r shown ≡ s → IsSound (Some base) due held r.slots → is_filled 0 r.slots ≡ false → 0 < due → count ≡ gap_over due r.slots → t.slots ≡ past_gap due r.slots
    → next s.window s.window.base ≡ Gap count (window_of ((base + count) % 2 ^ 24) (due - count) t.slots)
gap_next base due held count r t shown s view sound free some c_is t_is =
    sym (ap (λ (x : WindowState). next x.window x.window.base) view) ∙ gap base due count r.slots t.slots sound.base_is (omega (arith, sound.few)) free some c_is t_is

pub gap_answer : (base due held count : ℕ) (r t : Slots) (shown : Bool) (s : WindowState) → state_of (Some base) due r shown ≡ s → IsSound (Some base) due held r.slots → is_filled 0 r.slots ≡ false → 0 < due → count ≡ gap_over due r.slots → t.slots ≡ past_gap due r.slots
    → Some (slots.Gap base count) ≡ next_answer (base_with 0 s.window.base) (next s.window s.window.base)
gap_answer base due held count r t shown s view sound free some c_is t_is =
    ap (λ (x : WindowState). Some (slots.Gap (base_with 0 x.window.base) count)) view
    ∙ sym (ap (next_answer (base_with 0 s.window.base)) (gap_next base due held count r t shown s view sound free some c_is t_is))

pub gap_window : (base due held count : ℕ) (r t : Slots) (shown : Bool) (s : WindowState) → state_of (Some base) due r shown ≡ s → IsSound (Some base) due held r.slots → is_filled 0 r.slots ≡ false → 0 < due → count ≡ gap_over due r.slots → t.slots ≡ past_gap due r.slots
    → state_of (Some ((base + count) % 2 ^ 24)) (due - count) t false ≡ after_next s (next s.window s.window.base)
gap_window base due held count r t shown s view sound free some c_is t_is =
    let size : length t.slots ≡ length r.slots = ap length t_is ∙ gap_size due r.slots in
    ap (λ k. record { size = k; window = window_of ((base + count) % 2 ^ 24) (due - count) t.slots; shown = None }) size
    ∙ (ap (λ (x : WindowState). record { size = x.size; window = window_of ((base + count) % 2 ^ 24) (due - count) t.slots; shown = None }) view
    ∙ sym (ap (after_next s) (gap_next base due held count r t shown s view sound free some c_is t_is)))

pub gap_sound : (base due held count : ℕ) (r t : Slots) → IsSound (Some base) due held r.slots → t.slots ≡ past_gap due r.slots → IsSound (Some ((base + count) % 2 ^ 24)) (due - count) held t.slots
gap_sound base due held count r t sound t_is =
    let size : length t.slots ≡ length r.slots = ap length t_is ∙ gap_size due r.slots in
    let many : filled_count t.slots ≡ filled_count r.slots = ap filled_count t_is ∙ gap_filled due r.slots in
    record {
      count = omega (arith, many, sound.count);
      few_due = omega (arith, sound.few_due);
      few = omega (arith, size, sound.few);
      some = omega (arith, size, sound.some);
      base_is = omega arith;
    }

pub gap_few : (due count : ℕ) (s : List (Option (List ℕ))) → count ≡ gap_over due s → count ≤ due
gap_few due count s e = let m = gap_most due s in omega (arith, m, e)

-- nothing is reached where nothing is held
reach_none : (n : ℕ) → reach {T = List ℕ} (replicate n None) ≡ 0
reach_none zero = refl
reach_none (suc n) = ap (reach_after {T = List ℕ} None) (reach_none n)

-- all that is held is due
flush_held : (ob : Option ℕ) (due held u : ℕ) (s : List (Option (List ℕ))) → IsSound ob due held s → u ≡ max due (reach s) → record { base = ob; due = u; held = held_of ob s } ≡ make_all_due (record { base = ob; due = due; held = held_of ob s }) ob
flush_held None due held u s sound is =
    let z = ap reach sound.base_is.0 in
    let n = reach_none (length s) in
    let e : u ≡ due = omega (arith, is, z, n) in
    ap (λ k. record { base = None; due = k; held = [] }) e
flush_held (Some base) due held u s sound is =
    let low : base < 2 ^ 24 = sound.base_is in
    elim (reach_is (List ℕ) base due 0 s low (omega (arith, sound.few))) [
      | inl (z, f) ↦ let e : u ≡ fold max due (map (λ h. ahead base h.number + 1) (entries base 0 s)) = omega (arith, is, z, f) in ap (λ k. record { base = Some base; due = k; held = entries base 0 s }) e
      | inr (some, f) ↦ let e : u ≡ fold max due (map (λ h. ahead base h.number + 1) (entries base 0 s)) = omega (arith, is, f) in ap (λ k. record { base = Some base; due = k; held = entries base 0 s }) e
    ]

pub flush_window : (ob : Option ℕ) (due held u : ℕ) (r : Slots) (shown : Bool) (s : WindowState) → state_of ob due r shown ≡ s → IsSound ob due held r.slots → u ≡ max due (reach r.slots) → state_of ob u r shown ≡ record s { window = make_all_due s.window s.window.base }
flush_window ob due held u r shown s view sound is =
    ap (λ w. record (state_of ob due r shown) { window = w }) (flush_held ob due held u r.slots sound is)
    ∙ ap (λ (x : WindowState). record x { window = make_all_due x.window x.window.base }) view

pub flush_sound : (ob : Option ℕ) (due held u : ℕ) (s : List (Option (List ℕ))) → IsSound ob due held s → u ≡ max due (reach s) → IsSound ob u held s
flush_sound None due held u s sound is =
    let z = ap reach sound.base_is.0 in
    let n = reach_none (length s) in
    let e : u ≡ 0 = omega (arith, is, z, n, sound.base_is.1) in
    record { count = sound.count; few_due = omega (arith, e); few = sound.few; some = sound.some; base_is = (sound.base_is.0, e) }
flush_sound (Some base) due held u s sound is =
    let m = reach-most s in
    record { count = sound.count; few_due = omega (arith, is, m, sound.few, sound.few_due); few = sound.few; some = sound.some; base_is = sound.base_is }

-- how many are held
held_count : (ob : Option ℕ) (due : ℕ) (s : List (Option (List ℕ))) → IsBase ob due s → length (held_of ob s) ≡ filled_count s
held_count None due s h = sym (ap filled_count h.0 ∙ filled_count-replicate (List ℕ) (length s))
held_count (Some base) due s h = length-entries base 0 s

pub held_is : (ob : Option ℕ) (due held : ℕ) (r : Slots) (shown : Bool) (s : WindowState) → state_of ob due r shown ≡ s → IsSound ob due held r.slots → held ≡ length s.window.held
held_is ob due held r shown s view sound = sound.count ∙ (sym (held_count ob due r.slots sound.base_is) ∙ ap (λ (x : WindowState). length x.window.held) view)

pub held_few : (ob : Option ℕ) (due held : ℕ) (r : Slots) (shown : Bool) (s : WindowState) → state_of ob due r shown ≡ s → IsSound ob due held r.slots → held ≤ s.size
held_few ob due held r shown s view sound = let m = filled_count-most r.slots in let e = ap (λ (x : WindowState). x.size) view in omega (arith, m, e, sound.count)

-- at first
pub new_sound : (n : ℕ) (s : List (Option (List ℕ))) → 1 ≤ n → n ≤ 16384 → s ≡ replicate n None → IsSound None 0 0 s
new_sound n s some few is =
    let size : length s ≡ n = ap length is ∙ length-replicate n None in
    record {
      count = sym (ap filled_count is ∙ filled_count-replicate (List ℕ) n);
      few_due = omega arith;
      few = omega (arith, size);
      some = omega (arith, size);
      base_is = (is ∙ ap (λ k. replicate k None) (sym size), refl);
    }
