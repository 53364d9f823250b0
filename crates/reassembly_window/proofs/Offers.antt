-- What is offered to a window.
use Rattle.std.proofs.Common.{◌≡◌, ◌<◌, ◌≤◌, ◌+◌, ◌-◌, ◌%◌, ◌^◌, ℕ, Bool, true, false, List, length, set, Option, Some, None, unwrap_or, refl, sym, ◌∙◌, ap, arith, length-set, if◌then◌else◌}
use Rattle.std.proofs.lemmas.Bool.{lt-leb, ltb-true}
use Rattle.std.specs.Prelude.{nat_lt}
use Rattle.scl_payload.specs.Writing.{ahead as ahead_by}
use Rattle.stream_model.specs.Window.{Held, Again, Kept, ahead, is_held, offer_ahead, offer, base_with, insert, hold}
use Rattle.reassembly_window.specs.declared.window.Offer.TheVariants as offers
use Rattle.reassembly_window.specs.Slots.{Slots, entries, is_filled, filled_count}
use Rattle.reassembly_window.specs.Windows.{WindowState, held_of, state_of, IsBase, IsSound}
use Rattle.reassembly_window.specs.Answers.{offer_answer, after_offer}
use Rattle.reassembly_window.proofs.Entries.{number, entries-set, is_held-number, filled_count-set, entries-replicate, is_filled-replicate}

-- a number that is less than 2^23 ahead
pub is_ahead : (base n d : ℕ) → Some d ≡ ahead_by base n → (d ≡ ahead base n) × (d < 2 ^ 23)
is_ahead base n d e = by (nat_lt (ahead base n) 8388608) refl e where
  by : (b : Bool) → nat_lt (ahead base n) 8388608 ≡ b → Some d ≡ (if b then Some (ahead base n) else None) → (d ≡ ahead base n) × (d < 2 ^ 23)
  by true low e = let is : d ≡ ahead base n = cc in let m = ltb-true (ahead base n) 8388608 low in (is, omega (arith, is, m))
  by false low e = absurd (let f : Some d ≡ None = e in cc)

-- the base of what is offered
base_is : (ob : Option ℕ) (n : ℕ) → unwrap_or ob n ≡ base_with n ob
base_is None n = refl
base_is (Some base) n = refl

base_low : (ob : Option ℕ) (due n : ℕ) (slots : List (Option (List ℕ))) → IsBase ob due slots → n < 2 ^ 24 → base_with n ob < 2 ^ 24
base_low None due n slots h low = low
base_low (Some base) due n slots h low = h

-- what is held is in the places after it
held_is : (ob : Option ℕ) (due n : ℕ) (slots : List (Option (List ℕ))) → IsBase ob due slots → held_of ob slots ≡ entries (base_with n ob) 0 slots
held_is None due n slots h = sym (ap (entries n 0) h.0 ∙ entries-replicate (List ℕ) n 0 (length slots))
held_is (Some base) due n slots h = refl

-- a number by its place
pub place_number : (base n : ℕ) → base < 2 ^ 24 → n < 2 ^ 24 → number base (0 + ahead base n) ≡ n
place_number base n b low = let e : (base + (0 + (n + 16777216 - base) % 16777216)) % 16777216 ≡ n = omega arith in e

-- what is answered, by the place
near : (size d n : ℕ) (held : List (Held (List ℕ))) → d < 2 ^ 23 → d < size → offer_ahead size d n held ≡ (if is_held n held then Again else Kept)
near size d n held low less =
    let e = lt-leb (2 ^ 23) d low in
    let f = lt-leb size d less in
    rw (e, f) refl

asked : (ob : Option ℕ) (due n : ℕ) (slots : List (Option (List ℕ))) (u : ℕ) → IsBase ob due slots → n < 2 ^ 24 → length slots ≤ 16384 → ahead (base_with n ob) n < length slots
    → offer (length slots) n (record { base = ob; due = u; held = held_of ob slots }) ob ≡ (if is_filled (ahead (base_with n ob) n) slots then Again else Kept)
asked None due n slots u h low few less =
    let e : is_filled (ahead n n) slots ≡ false = ap (is_filled (ahead n n)) h.0 ∙ is_filled-replicate (List ℕ) (length slots) (ahead n n) in
    sym (ap (λ (b : Bool). if b then Again else Kept) e)
asked (Some base) due n slots u h low few less =
    let d = ahead base n in
    let m : is_held n (entries base 0 slots) ≡ is_filled d slots = ap (λ k. is_held k (entries base 0 slots)) (sym (place_number base n h low)) ∙ is_held-number base 0 d slots h less (omega arith) in
    near (length slots) d n (entries base 0 slots) (omega arith) less ∙ ap (λ (b : Bool). if b then Again else Kept) m

-- one answer for what a clause sees
answered : (ob : Option ℕ) (due held n d : ℕ) (r : Slots) (shown : Bool) (s : WindowState) → state_of ob due r shown ≡ s → IsSound ob due held r.slots → n < 2 ^ 24 → d ≡ ahead (unwrap_or ob n) n → d < length r.slots
    → offer s.size n s.window s.window.base ≡ (if is_filled d r.slots then Again else Kept)
answered ob due held n d r shown s view sound low is less =
    let e : d ≡ ahead (base_with n ob) n = is ∙ ap (λ b. ahead b n) (base_is ob n) in
    sym (ap (λ (x : WindowState). offer x.size n x.window x.window.base) view)
    ∙ (asked ob due n r.slots due sound.base_is low sound.few (omega (arith, less, e)) ∙ sym (ap (λ k. if is_filled k r.slots then Again else Kept) e))

-- a datagram that is held already
pub again_answer : (ob : Option ℕ) (due held n d : ℕ) (r : Slots) (shown : Bool) (s : WindowState) → state_of ob due r shown ≡ s → IsSound ob due held r.slots → n < 2 ^ 24 → d ≡ ahead (unwrap_or ob n) n → d < length r.slots → is_filled d r.slots ≡ true
    → offers.Again ≡ offer_answer (offer s.size n s.window s.window.base)
again_answer ob due held n d r shown s view sound low is less full =
    sym (ap offer_answer (answered ob due held n d r shown s view sound low is less ∙ ap (λ (b : Bool). if b then Again else Kept) full))

pub again_window : (ob : Option ℕ) (due held n d : ℕ) (r : Slots) (shown : Bool) (s : WindowState) (bytes : List ℕ) → state_of ob due r shown ≡ s → IsSound ob due held r.slots → n < 2 ^ 24 → d ≡ ahead (unwrap_or ob n) n → d < length r.slots → is_filled d r.slots ≡ true
    → state_of ob due r false ≡ after_offer s n bytes (offer s.size n s.window s.window.base)
again_window ob due held n d r shown s bytes view sound low is less full =
    ap (λ (x : WindowState). record x { shown = None }) view
    ∙ sym (ap (λ o. after_offer s n bytes o) (answered ob due held n d r shown s view sound low is less ∙ ap (λ (b : Bool). if b then Again else Kept) full))

-- a datagram that is held from now on
pub kept_answer : (ob : Option ℕ) (due held n d : ℕ) (r : Slots) (shown : Bool) (s : WindowState) → state_of ob due r shown ≡ s → IsSound ob due held r.slots → n < 2 ^ 24 → d ≡ ahead (unwrap_or ob n) n → d < length r.slots → is_filled d r.slots ≡ false
    → offers.Kept ≡ offer_answer (offer s.size n s.window s.window.base)
kept_answer ob due held n d r shown s view sound low is less free =
    sym (ap offer_answer (answered ob due held n d r shown s view sound low is less ∙ ap (λ (b : Bool). if b then Again else Kept) free))

pub kept_window : (ob : Option ℕ) (due held n d base : ℕ) (r t : Slots) (shown : Bool) (s : WindowState) (bytes : List ℕ) → state_of ob due r shown ≡ s → IsSound ob due held r.slots → n < 2 ^ 24 → base ≡ unwrap_or ob n → d ≡ ahead base n → d < length r.slots → is_filled d r.slots ≡ false
    → t.slots ≡ set r.slots d (Some bytes)
    → state_of (Some base) due t false ≡ after_offer s n bytes (offer s.size n s.window s.window.base)
kept_window ob due held n d base r t shown s bytes view sound low b_is is less free put =
    let b : base ≡ base_with n ob = b_is ∙ base_is ob n in
    let b_low : base < 2 ^ 24 = omega (arith, b, base_low ob due n r.slots sound.base_is low) in
    let size : length t.slots ≡ length r.slots = ap length put ∙ length-set r.slots d (Some bytes) in
    let k : number base (0 + d) ≡ n = ap (λ j. number base (0 + j)) is ∙ place_number base n b_low low in
    let held_now : entries base 0 t.slots ≡ insert (base_with n ob) (record { number = n; item = bytes }) (held_of ob r.slots) =
    ap (entries base 0) put
    ∙ (entries-set base 0 d bytes r.slots b_low less (omega (arith, sound.few)) free
    ∙ (ap (λ j. insert base (record { number = j; item = bytes }) (entries base 0 r.slots)) k
    ∙ (ap (λ j. insert j (record { number = n; item = bytes }) (entries j 0 r.slots)) b
    ∙ sym (ap (insert (base_with n ob) (record { number = n; item = bytes })) (held_is ob due n r.slots sound.base_is))))) in
    let rest : record { size = length t.slots; window = record { base = Some base; due = due; held = entries base 0 t.slots }; shown = None } ≡ record (state_of ob due r shown) { window = hold (state_of ob due r shown).window n bytes; shown = None } =
    ap (λ j. record { size = j; window = record { base = Some base; due = due; held = entries base 0 t.slots }; shown = None }) size
    ∙ (ap (λ j. record { size = length r.slots; window = record { base = Some j; due = due; held = entries base 0 t.slots }; shown = None }) b
    ∙ ap (λ l. record { size = length r.slots; window = record { base = Some (base_with n ob); due = due; held = l }; shown = None }) held_now) in
    rest
    ∙ (ap (λ (x : WindowState). record x { window = hold x.window n bytes; shown = None }) view
    ∙ sym (ap (λ o. after_offer s n bytes o) (answered ob due held n d r shown s view sound low (is ∙ ap (λ j. ahead j n) b_is) less ∙ ap (λ (c : Bool). if c then Again else Kept) free)))

pub kept_sound : (ob : Option ℕ) (due held n d base : ℕ) (r t : Slots) (bytes : List ℕ) → IsSound ob due held r.slots → n < 2 ^ 24 → base ≡ unwrap_or ob n → d < length r.slots → is_filled d r.slots ≡ false → t.slots ≡ set r.slots d (Some bytes)
    → IsSound (Some base) due (held + 1) t.slots
kept_sound ob due held n d base r t bytes sound low b_is less free put =
    let b : base ≡ base_with n ob = b_is ∙ base_is ob n in
    let b_low : base < 2 ^ 24 = omega (arith, b, base_low ob due n r.slots sound.base_is low) in
    let size : length t.slots ≡ length r.slots = ap length put ∙ length-set r.slots d (Some bytes) in
    let count : filled_count t.slots ≡ filled_count r.slots + 1 = ap filled_count put ∙ filled_count-set r.slots d bytes less free in
    record {
      count = omega (arith, count, sound.count);
      few_due = sound.few_due;
      few = omega (arith, size, sound.few);
      some = omega (arith, size, sound.some);
      base_is = b_low;
    }
