-- Datagrams that are recorded as they come.
use Rattle.std.proofs.Common.{◌≡◌, ◌≤◌, ◌<◌, ◌+◌, ◌-◌, ◌^◌, ℕ, zero, suc, Bool, true, false, List, [], ◌∷◌, ◌++◌, Option, Some, None, length, map, min, drop, nat_le, refl, sym, ◌∙◌, ap, subst, arith, length-append}
use Rattle.std.specs.Prelude.{option_map, flat_map, if◌then◌else◌, slice_get, get_or}
use Rattle.std.proofs.Common.{Vec, Global}
use Rattle.std.proofs.lemmas.List.{map-append, length-map, append-nil}
use Rattle.std.proofs.lemmas.Option.{slice_get_read}
use Rattle.std.proofs.lemmas.List.Concat.{flat_map-append}
use Rattle.std.proofs.lemmas.Bool.Decides.{nat_tests}
use Rattle.wire_model.specs.Receptions.{Reception, Arrived, NotReady, Closed, Failed}
use Rattle.scl_outside.specs.Events.{datagram_in}
use Rattle.scl_outside.specs.Record.{told_of, room_of, with_room}
use Rattle.scl_outside.specs.Inbound.{IsCount, first_of, reception_of, bytes_of, recorded, received_in}
use Rattle.scl_outside.specs.declared.inbox.Inbound.{Inbound}
use Rattle.scl_outside.specs.declared.inbox.Inbound.TheVariants as planned
use Rattle.scl_outside.specs.declared.inbox.Answer.{Answer}
use Rattle.scl_outside.specs.declared.inbox.Answer.TheVariants as recording
use Rattle.scl_outside.specs.declared.record.Record.{Record}

-- what is left at an index begins with the entry there
pub entry_there : (entries : List Inbound) (i : ℕ) (e : Inbound) → slice_get entries i ≡ Some e → drop i entries ≡ e ∷ drop (suc i) entries
entry_there [] i e there = absurd (cc)
entry_there (x ∷ entries) zero e there = let same : x ≡ e = cc in ap (λ (y : Inbound). y ∷ entries) same
entry_there (x ∷ entries) (suc i) e there = entry_there entries i e there

pub first_there : (never_fails : Bool) (entries : List Inbound) (i : ℕ) (e : Inbound) → slice_get entries i ≡ Some e → reception_of never_fails e ≡ first_of never_fails (drop i entries)
first_there never_fails entries i e there = rw (entry_there entries i e there) refl

-- the receptions of a record with one more answer
pub map_room : {A B : Type 0} (f : A → B) (room : ℕ) (was : Option (List A)) (one : A) → option_map (map f) (with_room room was (one ∷ [])) ≡ with_room room (option_map (map f) was) (f one ∷ [])
map_room f room None one = refl
map_room {A} {B} f room (Some was) one = rw length-map (by_fit (nat_le (length was + 1) room)) where
  by_fit : (b : Bool) → option_map (map f) (if b then Some (was ++ one ∷ []) else None) ≡ (if b then Some (map f was ++ f one ∷ []) else None)
  by_fit true = ap (λ (l : List B). Some l) (map-append f was (one ∷ []))
  by_fit false = refl

fits_of : (a b : ℕ) → nat_le a b ≡ true → a ≤ b
fits_of a b e = grind (arith, nat_tests)

datagrams_few : (rs : List Reception) → length (flat_map datagram_in rs) ≤ length rs
datagrams_few [] = omega arith
datagrams_few (r ∷ rs) = one r (datagrams_few rs) where
  one : (r : Reception) → length (flat_map datagram_in rs) ≤ length rs → length (datagram_in r ++ flat_map datagram_in rs) ≤ suc (length rs)
  one (Arrived d) few = omega arith
  one NotReady few = omega arith
  one Closed few = omega arith
  one Failed few = omega arith

datagrams-snoc : (was : List Reception) (r : Reception) → length (flat_map datagram_in (was ++ r ∷ [])) ≡ length (flat_map datagram_in was) + length (datagram_in r)
datagrams-snoc was r = ap (λ (l : List (List ℕ)). length l) (flat_map-append datagram_in was (r ∷ [])) ∙ length-append (flat_map datagram_in was) (datagram_in r ++ []) ∙ ap (λ (l : List (List ℕ)). length (flat_map datagram_in was) + length l) (append-nil (datagram_in r))

-- the count of datagrams after one more, where the record has room
pub counted_one : (room : ℕ) (was : Option (List Reception)) (d : List ℕ) (arrived : ℕ) → room < 2 ^ 63 → IsCount arrived was → IsCount (min (arrived + 1) (2 ^ 64 - 1)) (with_room room was (Arrived d ∷ []))
counted_one room None d arrived small is = tt
counted_one room (Some was) d arrived small is = by_fit (nat_le (length was + 1) room) refl where
  by_fit : (b : Bool) → nat_le (length was + 1) room ≡ b → IsCount (min (arrived + 1) (2 ^ 64 - 1)) (if b then Some (was ++ Arrived d ∷ []) else None)
  by_fit false e = tt
  by_fit true e = let fits : length was + 1 ≤ room = fits_of (length was + 1) room e in let few = datagrams_few was in let more = datagrams-snoc was (Arrived d) in omega arith

-- and after an answer that is none
pub counted_other : (room : ℕ) (was : Option (List Reception)) (r : Reception) (arrived : ℕ) → datagram_in r ≡ [] → IsCount arrived was → IsCount arrived (with_room room was (r ∷ []))
counted_other room None r arrived none is = tt
counted_other room (Some was) r arrived none is = by_fit (nat_le (length was + 1) room) where
  by_fit : (b : Bool) → IsCount arrived (if b then Some (was ++ r ∷ []) else None)
  by_fit false = tt
  by_fit true = let more = datagrams-snoc was r in let none_more = ap (λ (l : List (List ℕ)). length l) none in omega (arith, none_more)

-- the record of answers of an inbox, in the words of its receptions
pub counted_now : (entries : List Inbound) (old now : Record Answer) (answer : Answer) (arrived : ℕ) → told_of now ≡ with_room (room_of old) (told_of old) (answer ∷ [])
    → IsCount arrived (with_room (room_of old) (received_in entries old) (recorded entries answer ∷ [])) → IsCount arrived (received_in entries now)
counted_now entries old now answer arrived told is =
    let e : received_in entries now ≡ with_room (room_of old) (received_in entries old) (recorded entries answer ∷ []) =
    ap (λ (o : Option (List Answer)). option_map (map (recorded entries)) o) told ∙ map_room (recorded entries) (room_of old) (told_of old) answer in
    let P : Option (List Reception) → Type 0 = λ o. IsCount arrived o in
    subst P (sym e) is

-- the same where the answer is a datagram, which is counted
pub counted_arrived : (entries : List Inbound) (old now : Record Answer) (answer : Answer) (index arrived more : ℕ) → answer ≡ recording.Arrived index → more ≡ min (arrived + 1) (2 ^ 64 - 1) → room_of old < 2 ^ 63
    → told_of now ≡ with_room (room_of old) (told_of old) (answer ∷ []) → IsCount arrived (received_in entries old) → IsCount more (received_in entries now)
counted_arrived entries old now answer index arrived more is e small told counted =
    let h = counted_one (room_of old) (received_in entries old) (bytes_of (slice_get entries index)) arrived small counted in
    let P : ℕ → Type 0 = λ n. IsCount n (received_in entries now) in
    let Q : Answer → Type 0 = λ a. IsCount (min (arrived + 1) (2 ^ 64 - 1)) (with_room (room_of old) (received_in entries old) (recorded entries a ∷ [])) in
    subst P (sym e) (counted_now entries old now answer (min (arrived + 1) (2 ^ 64 - 1)) told (subst Q (sym is) h))

-- the answer for an entry that is a datagram
pub datagram_there : (never_fails : Bool) (entries : List Inbound) (i : ℕ) (e : Inbound) (d : Vec ℕ Global) → i < length entries → e ≡ get_or entries i e → e ≡ planned.Datagram d
    → Arrived (bytes_of (slice_get entries i)) ≡ first_of never_fails (drop i entries)
datagram_there never_fails entries i e d below there is =
    let found : slice_get entries i ≡ Some (planned.Datagram d) = slice_get_read entries (length entries) i e refl below there ∙ ap (λ (x : Inbound). Some x) is in
    ap (λ (o : Option Inbound). Arrived (bytes_of o)) found ∙ first_there never_fails entries i (planned.Datagram d) found
