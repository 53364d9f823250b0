-- The rules of the window: items, such as datagrams, are held by their extended numbers until they follow one another, or until the
-- missing ones are given up.
use Rattle.std.specs.Prelude.{◌+◌, ◌-◌, ◌%◌, ◌^◌, ◌==◌, ℕ, Bool, max, min, List, [], ◌∷◌, map, filter, nat_le, nat_lt, not, find, Option, Some, None, if◌then◌else◌}
use Rattle.std.specs.List.{fold, list_any}

-- An item that is held, with its extended number.
pub record Held (T : Type 0) : Type 0 where
  pub number : ℕ
  pub item : T

-- A window: the number that comes next (none before the first item), how many numbers from there on are due, and the items that are
-- held, in the order of their numbers from there on.
pub record Window (T : Type 0) : Type 0 where
  pub base : Option ℕ
  pub due : ℕ
  pub held : List (Held T)

-- A window before its first item.
abbrev pub empty : {T : Type 0} → Window T
empty = record { base = None; due = 0; held = [] }

-- How far the number `n` is ahead of `base`; extended numbers run modulo 2^24.
abbrev pub ahead : ℕ → ℕ → ℕ
ahead base n = (n + 2 ^ 24 - base) % 2 ^ 24

-- Whether an item with this number is held.
abbrev pub is_held : {T : Type 0} → ℕ → List (Held T) → Bool
is_held n held = list_any (λ h. h.number == n) held

-- The answer to an item that is offered: its number was passed; it is held already; it is too far ahead, and this many numbers from
-- the base on have to be made due first; or it is held from now on.
pub data Offer : Type 0 where
  Behind : Offer
  Again : Offer
  Drain : ℕ → Offer
  Kept : Offer

-- The answer to a number that is `d` ahead of the base.
abbrev pub offer_ahead : {T : Type 0} → ℕ → ℕ → ℕ → List (Held T) → Offer
offer_ahead size d n held =
    if nat_le (2 ^ 23) d then Behind else if nat_le size d then Drain (d + 1 - size) else if is_held n held then Again else Kept

-- The answer to an item with the number `n`; the first one is always kept.
abbrev pub offer : {T : Type 0} → ℕ → ℕ → Window T → Option ℕ → Offer
offer size n w None = Kept
offer size n w (Some base) = offer_ahead size (ahead base n) n w.held

-- The list with one more item, in the order of the numbers from the base on.
abbrev pub insert : {T : Type 0} → ℕ → Held T → List (Held T) → List (Held T)
insert base h [] = h ∷ []
insert base h (k ∷ held) = if nat_lt (ahead base h.number) (ahead base k.number) then h ∷ k ∷ held else k ∷ insert base h held

-- The base, which the first item sets.
abbrev pub base_with : ℕ → Option ℕ → ℕ
base_with n None = n
base_with n (Some base) = base

-- The window once it holds this item.
abbrev pub hold : {T : Type 0} → Window T → ℕ → T → Window T
hold w n x = record w { base = Some (base_with n w.base); held = insert (base_with n w.base) (record { number = n; item = x }) w.held }

-- The window once at least `n` numbers from the base on are due.
abbrev pub make_due : {T : Type 0} → ℕ → Window T → Window T
make_due n w = record w { due = max w.due n }

-- The window once all numbers up to the highest that is held are due.
abbrev pub make_all_due : {T : Type 0} → Window T → Option ℕ → Window T
make_all_due w None = w
make_all_due w (Some base) = record w { due = fold max w.due (map (λ h. ahead base h.number + 1) w.held) }

-- What the window hands on next: the item at the base; a gap over this many numbers that are due and not held; or nothing yet.
pub data Next (T : Type 0) : Type 0 where
  Hand : T → Window T → Next T
  Gap : ℕ → Window T → Next T
  Nothing : Next T

-- The window once its base has moved past `count` numbers.
abbrev pub moved : {T : Type 0} → ℕ → ℕ → Window T → Window T
moved base count w = record w { base = Some ((base + count) % 2 ^ 24); due = w.due - count }

-- How many numbers the gap at the base has: up to the first item that is held, and no further than is due.
abbrev pub gap_length : {T : Type 0} → ℕ → Window T → ℕ
gap_length base w = fold min w.due (map (λ h. ahead base h.number) w.held)

-- What is handed on, by the item that is held at the base.
abbrev pub next_at : {T : Type 0} → ℕ → Window T → Option (Held T) → Next T
next_at base w (Some h) = Hand h.item (moved base 1 (record w { held = filter (λ x. not (x.number == base)) w.held }))
next_at base w None = if w.due == 0 then Nothing else Gap (gap_length base w) (moved base (gap_length base w) w)

-- What the window hands on next, by its base.
abbrev pub next : {T : Type 0} → Window T → Option ℕ → Next T
next w None = Nothing
next w (Some base) = next_at base w (find (λ h. h.number == base) w.held)
