-- Texts that are cut out of bytes, and more bytes.
use Rattle.std.proofs.Common.{◌≡◌, ◌≤◌, ◌<◌, ◌+◌, ◌-◌, ◌++◌, ◌&&◌, ℕ, zero, suc, Bool, true, false, List, [], ◌∷◌, Some, None, length, take, drop, get_or, nat_le, refl, sym, ◌∙◌, ap, arith, length-append}
use Rattle.std.specs.Prelude.{slice_get, Result, Ok, Err, IsOk, is_ok, if◌then◌else◌}
use Rattle.std.proofs.lemmas.List.{drop_at, append-nil}
use Rattle.std.proofs.lemmas.List.Concat.{flat_map-append}
use Rattle.std.proofs.lemmas.Bool.Decides.{nat_tests}
use Rattle.std.proofs.lemmas.Option.{slice_get_read}
use Rattle.std.proofs.lemmas.Grind.{common_steps}
use Rattle.scl_outside.specs.Meaning.{Parcel}
use Rattle.scl_outside.specs.WireAnswers.{parcel}
use Rattle.scl_outside.specs.Places.{is_within, are_within, text_at, texts_at, joined}
use Rattle.scl_outside.specs.Texts.{with_text}
use Rattle.scl_outside.specs.declared.texts.Place.{Place}

both : (a b : Bool) → (a && b) ≡ true → (a ≡ true) × (b ≡ true)
both true b e = (refl, e)
both false b e = absurd (cc)

is_le : (a b : ℕ) → nat_le a b ≡ true → a ≤ b
is_le a b e = grind (arith, nat_tests)

le_is : (a b : ℕ) → a ≤ b → nat_le a b ≡ true
le_is a b h = grind (arith, nat_tests)

gt_is : (a b : ℕ) → b < a → nat_le a b ≡ false
gt_is a b h = grind (arith, nat_tests)

and-false : (b : Bool) → (b && false) ≡ false
and-false true = refl
and-false false = refl

-- a place within bytes is a range of them
place_is : (len : ℕ) (p : Place) → is_within len p ≡ true → (p.start ≤ p.end) × (p.end ≤ len)
place_is len p e = let b = both (nat_le p.start p.end) (nat_le p.end len) e in (is_le _ _ b.0, is_le _ _ b.1)

is_place : (len : ℕ) (p : Place) → p.start ≤ p.end → p.end ≤ len → is_within len p ≡ true
is_place len p h k = rw (le_is p.start p.end h) (le_is p.end len k)

-- and so is the one at an index
pub place_at : (len : ℕ) (places : List Place) (i : ℕ) (p : Place) → are_within len places ≡ true → slice_get places i ≡ Some p → (p.start ≤ p.end) × (p.end ≤ len)
place_at len [] i p e there = absurd (cc)
place_at len (q ∷ places) zero p e there = let b = both (is_within len q) (are_within len places) e in let same : q ≡ p = cc in rw (sym same) (place_is len q b.0)
place_at len (q ∷ places) (suc i) p e there = place_at len places i p (both (is_within len q) (are_within len places) e).1 there

-- as many texts as places
pub length-texts : (bytes : List ℕ) (places : List Place) → length (texts_at bytes places) ≡ length places
length-texts bytes [] = refl
length-texts bytes (p ∷ places) = ap (λ n. suc n) (length-texts bytes places)

-- the text at an index is at the place there
pub text_there : (bytes : List ℕ) (places : List Place) (i : ℕ) (p : Place) → slice_get places i ≡ Some p → slice_get (texts_at bytes places) i ≡ Some (text_at bytes p)
text_there bytes [] i p there = absurd (cc)
text_there bytes (q ∷ places) zero p there = let same : q ≡ p = cc in rw same refl
text_there bytes (q ∷ places) (suc i) p there = text_there bytes places i p there

cut_same : (bytes more : List ℕ) (from to : ℕ) → to ≤ length bytes → take (to - from) (drop from (bytes ++ more)) ≡ take (to - from) (drop from bytes)
cut_same bytes more from to h = grind (arith, common_steps)

texts_more : (bytes more : List ℕ) (places : List Place) → are_within (length bytes) places ≡ true → texts_at (bytes ++ more) places ≡ texts_at bytes places
texts_more bytes more [] e = refl
texts_more bytes more (p ∷ places) e =
    let b = both (is_within (length bytes) p) (are_within (length bytes) places) e in
    ap (λ (l : List ℕ). parcel p.owner l ∷ texts_at (bytes ++ more) places) (cut_same bytes more p.start p.end (place_is _ p b.0).1)
    ∙ ap (λ (l : List Parcel). text_at bytes p ∷ l) (texts_more bytes more places b.1)

texts-snoc : (bytes : List ℕ) (places : List Place) (p : Place) → texts_at bytes (places ++ p ∷ []) ≡ texts_at bytes places ++ text_at bytes p ∷ []
texts-snoc bytes [] p = refl
texts-snoc bytes (q ∷ places) p = ap (λ (l : List Parcel). text_at bytes q ∷ l) (texts-snoc bytes places p)

within_more : (m n : ℕ) (places : List Place) (p : Place) → m ≤ n → are_within m places ≡ true → p.start ≤ p.end → p.end ≤ n → are_within n (places ++ p ∷ []) ≡ true
within_more m n [] p h e j k = rw (is_place n p j k) refl
within_more m n (q ∷ places) p h e j k =
    let b = both (is_within m q) (are_within m places) e in
    let w = place_is m q b.0 in
    rw (is_place n q w.0 (omega arith)) (within_more m n places p h b.1 j k)

-- the place of a text that is put after the bytes
abbrev pub place_after : ℕ → List ℕ → List ℕ → Place
place_after owner bytes text = record { owner = owner; start = length bytes; end = length (bytes ++ text) }

-- one more text is after those that were there
pub one_more : (owner : ℕ) (bytes text : List ℕ) (places : List Place) → are_within (length bytes) places ≡ true
    → texts_at (bytes ++ text) (places ++ place_after owner bytes text ∷ []) ≡ texts_at bytes places ++ parcel owner text ∷ []
one_more owner bytes text places e =
    texts-snoc (bytes ++ text) places _
    ∙ ap (λ (l : List Parcel). l ++ text_at (bytes ++ text) (place_after owner bytes text) ∷ []) (texts_more bytes text places e)
    ∙ ap (λ (l : List ℕ). texts_at bytes places ++ parcel owner l ∷ []) last where
      last : take (length (bytes ++ text) - length bytes) (drop (length bytes) (bytes ++ text)) ≡ text
      last = rw (drop_at bytes text (length bytes) refl, length-append) (grind (arith, common_steps))

-- its place is within the bytes
pub one_within : (owner : ℕ) (bytes text : List ℕ) (places : List Place) → are_within (length bytes) places ≡ true → are_within (length (bytes ++ text)) (places ++ place_after owner bytes text ∷ []) ≡ true
one_within owner bytes text places e =
    let len : length (bytes ++ text) ≡ length bytes + length text = length-append bytes text in
    within_more (length bytes) (length (bytes ++ text)) places (place_after owner bytes text) (omega arith) e (omega arith) (omega arith)

-- and all texts are still all bytes
pub one_whole : (owner : ℕ) (bytes text : List ℕ) (places : List Place) → are_within (length bytes) places ≡ true → joined (texts_at bytes places) ≡ bytes
    → joined (texts_at (bytes ++ text) (places ++ place_after owner bytes text ∷ [])) ≡ bytes ++ text
one_whole owner bytes text places e whole =
    ap joined (one_more owner bytes text places e)
    ∙ flat_map-append (λ (t : Parcel). t.bytes) (texts_at bytes places) (parcel owner text ∷ [])
    ∙ ap (λ (l : List ℕ). l ++ (text ++ [])) whole
    ∙ ap (λ (l : List ℕ). bytes ++ l) (append-nil text)

found : (bytes : List ℕ) (places : List Place) (i : ℕ) (p : Place) → i < length (texts_at bytes places) → p ≡ get_or places i p → slice_get places i ≡ Some p
found bytes places i p below is = let l = length-texts bytes places in slice_get_read places (length places) i p refl (omega arith) is

-- of a text at an index below the number of texts: its place is a range of the bytes
pub place_known : (bytes : List ℕ) (places : List Place) (i : ℕ) (p : Place) → are_within (length bytes) places ≡ true → i < length (texts_at bytes places) → p ≡ get_or places i p
    → (p.start ≤ p.end) × (p.end ≤ length bytes)
place_known bytes places i p e below is = place_at (length bytes) places i p e (found bytes places i p below is)

-- and it is what is cut out there
pub text_known : (bytes : List ℕ) (places : List Place) (i : ℕ) (p : Place) → i < length (texts_at bytes places) → p ≡ get_or places i p → slice_get (texts_at bytes places) i ≡ Some (text_at bytes p)
text_known bytes places i p below is = text_there bytes places i p (found bytes places i p below is)

-- what a vector has after it took more items
items_ok : {A T E : Type 0} (r : Result T E) (was now more : List A) → IsOk r → now ≡ (if is_ok r then was ++ more else was) → now ≡ was ++ more
items_ok (Ok x) was now more ok e = e
items_ok (Err x) was now more ok e = absurd (cc)

-- the bytes and the places after a text was put after them
pub pushed : {T E F : Type 0} (r : Result T E) (q : Result T F) (owner start end : ℕ) (bytes text now : List ℕ) (was places : List Place) → IsOk r → IsOk q
    → now ≡ (if is_ok r then bytes ++ text else bytes) → start ≡ length bytes → end ≡ length now
    → places ≡ (if is_ok q then was ++ record { owner = owner; start = start; end = end } ∷ [] else was)
    → (now ≡ bytes ++ text) × (places ≡ was ++ place_after owner bytes text ∷ [])
pushed r q owner start end bytes text now was places ok done n s e p =
    let m = items_ok r bytes now text ok n in
    (m, items_ok q was places (record { owner = owner; start = start; end = end } ∷ []) done p ∙ ap (λ (x : Place). was ++ x ∷ []) (rw (s, e, m) refl))

pub inside_after : (owner : ℕ) (bytes text now : List ℕ) (was places : List Place) → (now ≡ bytes ++ text) × (places ≡ was ++ place_after owner bytes text ∷ [])
    → are_within (length bytes) was ≡ true → are_within (length now) places ≡ true
inside_after owner bytes text now was places p e = rw (p.0, p.1) (one_within owner bytes text was e)

pub whole_after : (owner : ℕ) (bytes text now : List ℕ) (was places : List Place) → (now ≡ bytes ++ text) × (places ≡ was ++ place_after owner bytes text ∷ [])
    → are_within (length bytes) was ≡ true → joined (texts_at bytes was) ≡ bytes → joined (texts_at now places) ≡ now
whole_after owner bytes text now was places p e whole = rw (p.0, p.1) (one_whole owner bytes text was e whole)

pub texts_after : (owner : ℕ) (bytes text now : List ℕ) (was places : List Place) → (now ≡ bytes ++ text) × (places ≡ was ++ place_after owner bytes text ∷ [])
    → are_within (length bytes) was ≡ true → texts_at now places ≡ texts_at bytes was ++ parcel owner text ∷ []
texts_after owner bytes text now was places p e = rw (p.0, p.1) (one_more owner bytes text was e)

-- one more text is told where it fits
pub told_more : (told : Bool) (room : ℕ) (was now : List Parcel) (one : Parcel) → told ≡ true → now ≡ was ++ one ∷ [] → length was + 1 ≤ room → length (joined was) + length one.bytes ≤ room
    → (if told then Some now else None) ≡ with_text (λ t. t.bytes) room (if told then Some was else None) one
told_more true room was now one t n few fits = rw (le_is _ _ few, le_is _ _ fits) (ap (λ (l : List Parcel). Some l) n)
told_more false room was now one t n few fits = absurd (cc)

-- and nothing is told where there are too many texts, or too many bytes
pub too_many : (told : Bool) (room : ℕ) (was : List Parcel) (one : Parcel) → room < length was + 1 → None ≡ with_text (λ t. t.bytes) room (if told then Some was else None) one
too_many true room was one many = rw (gt_is _ _ many) refl
too_many false room was one many = refl

pub too_long : (told : Bool) (room : ℕ) (was : List Parcel) (one : Parcel) → room < length (joined was) + length one.bytes → None ≡ with_text (λ t. t.bytes) room (if told then Some was else None) one
too_long true room was one long = rw (gt_is _ _ long, and-false (nat_le (length was + 1) room)) refl
too_long false room was one long = refl

pub stays_untold : (told : Bool) (room : ℕ) (was : List Parcel) (one : Parcel) → told ≡ false → None ≡ with_text (λ t. t.bytes) room (if told then Some was else None) one
stays_untold true room was one e = absurd (cc)
stays_untold false room was one e = refl
