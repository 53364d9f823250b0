-- The window's rules look at numbers alone.
use Rattle.std.proofs.Common.{◌≡◌, ◌+◌, ◌-◌, ◌%◌, ◌^◌, ◌==◌, ◌||◌, ℕ, min, max, true, false, not, nat_lt, nat_le, List, [], ◌∷◌, map, filter, Option, Some, None, refl, ap, ◌∙◌, if◌then◌else◌}
use Rattle.std.specs.Prelude.{find}
use Rattle.std.specs.List.{fold}
use Rattle.stream_model.specs.Window.{Window, Held, ahead, is_held, Behind, Again, Drain, Kept, offer, insert, base_with, hold, make_all_due, Hand, Gap, Nothing, moved, gap_length, next_at, next}
use Rattle.stream_model.specs.WindowMaps.{held_as, window_as, next_as, WindowOfFrames}
use Rattle.wire_model.specs.Datagram.{datagram_of}

is_held_as : {S T : Type 0} (f : S → T) (n : ℕ) (held : List (Held S)) → is_held n (map (held_as f) held) ≡ is_held n held
is_held_as f n [] = refl
is_held_as f n (h ∷ held) = ap (λ b. (h.number == n) || b) (is_held_as f n held)

pub offer_as : {S T : Type 0} (f : S → T) (size n : ℕ) (w : Window S) (base : Option ℕ) → offer size n (window_as f w) base ≡ offer size n w base
offer_as f size n w None = refl
offer_as f size n w (Some base) = ap (λ b. if nat_le (2 ^ 23) (ahead base n) then Behind else if nat_le size (ahead base n) then Drain (ahead base n + 1 - size) else if b then Again else Kept) (is_held_as f n w.held)

insert_as : {S T : Type 0} (f : S → T) (base : ℕ) (h : Held S) (held : List (Held S)) → insert base (held_as f h) (map (held_as f) held) ≡ map (held_as f) (insert base h held)
insert_as f base h [] = refl
insert_as f base h (k ∷ held) = elim (nat_lt (ahead base h.number) (ahead base k.number)) as (λ b. (if b then held_as f h ∷ held_as f k ∷ map (held_as f) held else held_as f k ∷ insert base (held_as f h) (map (held_as f) held)) ≡ map (held_as f) (if b then h ∷ k ∷ held else k ∷ insert base h held)) [
  | true ↦ refl
  | false ↦ ap (λ l. held_as f k ∷ l) (insert_as f base h held)
]

pub hold_as : {S T : Type 0} (f : S → T) (w : Window S) (n : ℕ) (x : S) → hold (window_as f w) n (f x) ≡ window_as f (hold w n x)
hold_as f w n x = ap (λ l. record { base = Some (base_with n w.base); due = w.due; held = l }) (insert_as f (base_with n w.base) (record { number = n; item = x }) w.held)

abbrev found_as : {S T : Type 0} → (S → T) → Option (Held S) → Option (Held T)
found_as f None = None
found_as f (Some h) = Some (held_as f h)

find_as : {S T : Type 0} (f : S → T) (n : ℕ) (held : List (Held S)) → find (λ h. h.number == n) (map (held_as f) held) ≡ found_as f (find (λ h. h.number == n) held)
find_as f n [] = refl
find_as f n (h ∷ held) = elim (h.number == n) as (λ b. (if b then Some (held_as f h) else find (λ x. x.number == n) (map (held_as f) held)) ≡ found_as f (if b then Some h else find (λ x. x.number == n) held)) [ true ↦ refl | false ↦ find_as f n held ]

filter_as : {S T : Type 0} (f : S → T) (n : ℕ) (held : List (Held S)) → filter (λ h. not (h.number == n)) (map (held_as f) held) ≡ map (held_as f) (filter (λ h. not (h.number == n)) held)
filter_as f n [] = refl
filter_as f n (h ∷ held) = elim (h.number == n) as (λ b. (if not b then held_as f h ∷ filter (λ x. not (x.number == n)) (map (held_as f) held) else filter (λ x. not (x.number == n)) (map (held_as f) held)) ≡ map (held_as f) (if not b then h ∷ filter (λ x. not (x.number == n)) held else filter (λ x. not (x.number == n)) held)) [
  | true ↦ filter_as f n held
  | false ↦ ap (λ l. held_as f h ∷ l) (filter_as f n held)
]

numbers_as : {S T : Type 0} (f : S → T) (g : ℕ → ℕ) (held : List (Held S)) → map (λ h. g h.number) (map (held_as f) held) ≡ map (λ h. g h.number) held
numbers_as f g [] = refl
numbers_as f g (h ∷ held) = ap (λ l. g h.number ∷ l) (numbers_as f g held)

next_found : {S T : Type 0} (f : S → T) (base : ℕ) (w : Window S) (o : Option (Held S)) → next_at base (window_as f w) (found_as f o) ≡ next_as f (next_at base w o)
next_found f base w (Some h) = ap (λ l. Hand (f h.item) (record { base = Some ((base + 1) % 2 ^ 24); due = w.due - 1; held = l })) (filter_as f base w.held)
next_found f base w None = elim (w.due == 0) as (λ b. (if b then Nothing else Gap (gap_length base (window_as f w)) (moved base (gap_length base (window_as f w)) (window_as f w))) ≡ next_as f (if b then Nothing else Gap (gap_length base w) (moved base (gap_length base w) w))) [
  | true ↦ refl
  | false ↦ ap (λ l. Gap (fold min w.due l) (moved base (fold min w.due l) (window_as f w))) (numbers_as f (ahead base) w.held)
]

pub next_as_is : {S T : Type 0} (f : S → T) (w : Window S) (base : Option ℕ) → next (window_as f w) base ≡ next_as f (next w base)
next_as_is f w None = refl
next_as_is f w (Some base) = ap (next_at base (window_as f w)) (find_as f base w.held) ∙ next_found f base w (find (λ h. h.number == base) w.held)

pub all_due_as : {S T : Type 0} (f : S → T) (w : Window S) (base : Option ℕ) → make_all_due (window_as f w) base ≡ window_as f (make_all_due w base)
all_due_as f w None = refl
all_due_as f w (Some base) = ap (λ l. record { base = w.base; due = fold max w.due l; held = map (held_as f) w.held }) (numbers_as f (λ n. ahead base n + 1) w.held)

pub window_of_frames : WindowOfFrames
window_of_frames w size n x base = (offer_as datagram_of size n w base, hold_as datagram_of w n x, next_as_is datagram_of w base, all_due_as datagram_of w base)
