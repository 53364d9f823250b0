-- Words of positions: where a word of an item, or of several, is divided.
use Rattle.std.proofs.Common.{◌⊎◌, inl, inr, IfSome, ◌≡◌, ◌≢◌, ◌≤◌, ◌<◌, ◌+◌, ◌^◌, ◌++◌, ℕ, zero, suc, Bool, List, [], ◌∷◌, Option, Some, None, length, take, drop, refl, sym, ◌∙◌, ap, subst, arith, append_assoc, length-append}
use Rattle.std.specs.Prelude.{decimal}
use Rattle.std.specs.Int.{IsInRange}
use Rattle.std.specs.List.{AllByRecursion}
use Rattle.std.specs.Option.{MatchOption}
use Rattle.std.specs.Str.Parse.{digits_value}
use Rattle.std.proofs.lemmas.Fmt.{digits_decimal}
use Rattle.std.proofs.lemmas.Str.Parse.{numerals_by_value, tells_by_index, not_in_digits, IsNumeralModel}
use Rattle.std.proofs.lemmas.Str.Pattern.{IsSplitOnceResult, split_after, split_parts}
use denote.Ref.{Bor}
use Rattle.std.proofs.lemmas.Bool.{cases_lt}
use lib.ListN.{get_or}
use Rattle.deliver_job.specs.declared.items.Item.{Item}
use Rattle.deliver_job.specs.declared.items.Item.TheVariants.{One, Span}
use Rattle.deliver_job.specs.Positions.{IsItem, IsList, item_word, items_word, list_word}
use Rattle.deliver_job.specs.Reading.{comma_words, SpellsItems}

-- A list has no such byte.
abbrev pub Lacks : ℕ → List ℕ → Type 0
Lacks c [] = Unit {0}
Lacks c (b ∷ bs) = (b ≢ c) × Lacks c bs

pub lacks_at : (c : ℕ) (bs : List ℕ) → Lacks c bs → (i : ℕ) → i < length bs → get_or bs i 0 ≢ c
lacks_at c [] h i low = absurd (omega (arith, low))
lacks_at c (b ∷ bs) h zero low = h.0
lacks_at c (b ∷ bs) h (suc i) low = lacks_at c bs h.1 i (omega (arith, low))

pub at_lacks : (c : ℕ) (bs : List ℕ) → ((i : ℕ) → i < length bs → get_or bs i 0 ≢ c) → Lacks c bs
at_lacks c [] h = tt
at_lacks c (b ∷ bs) h = (h 0 (omega arith), at_lacks c bs (λ i low. h (suc i) (omega (arith, low))))

pub lacks_append : (c : ℕ) (xs ys : List ℕ) → Lacks c xs → Lacks c ys → Lacks c (xs ++ ys)
lacks_append c [] ys h k = k
lacks_append c (x ∷ xs) ys h k = (h.0, lacks_append c xs ys h.1 k)

-- A list with a byte in its middle doesn't lack it.
pub lacks_middle : (c : ℕ) (xs ys : List ℕ) → Lacks c (xs ++ c ∷ ys) → ⊥
lacks_middle c [] ys h = h.0 refl
lacks_middle c (x ∷ xs) ys h = lacks_middle c xs ys h.1

decimals : IsNumeralModel (λ ds. (i : ℕ) → i < length ds → IsInRange 48 57 (get_or ds i 0)) (digits_value 10)
decimals = numerals_by_value _ tells_by_index

pub digits_lack : (c n : ℕ) → n < 2 ^ 32 → ((IsInRange 48 57 c) → ⊥) → Lacks c (decimal n)
digits_lack c n small out = at_lacks c (decimal n) (not_in_digits decimals (decimal n) c (digits_decimal decimals n (omega (arith, small))) out)

-- A hyphen is no digit, and a comma is none.
pub no_hyphen : (n : ℕ) → n < 2 ^ 32 → Lacks 45 (decimal n)
no_hyphen n small = digits_lack 45 n small (λ r. omega (arith, r.0, r.1))

no_comma_digit : (n : ℕ) → n < 2 ^ 32 → Lacks 44 (decimal n)
no_comma_digit n small = digits_lack 44 n small (λ r. omega (arith, r.0, r.1))

-- A hyphen is no comma.
other_than_comma : ◌≢◌ {A = ℕ} 45 44
other_than_comma e = omega (arith, e)

-- The word of an item has no comma.
pub no_comma : (item : Item) → IsItem item → Lacks 44 (item_word item)
no_comma (One n) small = no_comma_digit n small
no_comma (Span first last) (up, small) =
    lacks_append 44 (decimal first) (45 ∷ decimal last) (no_comma_digit first (omega (arith, up, small)))
    (other_than_comma, no_comma_digit last small)

-- Where the word of an item is split at a hyphen.
pub split_span : (first last : ℕ) (word : List ℕ) (r : Option (Bor (List ℕ) × Bor (List ℕ)))
    → IsSplitOnceResult 45 word r → first < 2 ^ 32 → word ≡ item_word (Span first last)
    → MatchOption r ⊥ (λ x. (x.0.now ≡ decimal first) × (x.1.now ≡ decimal last))
split_span first last word r split small is =
    split_after 45 word (decimal first) (decimal last) r split (omega arith) is
    (lacks_at 45 (decimal first) (no_hyphen first small))

pub split_one : (n : ℕ) (word : List ℕ) (r : Option (Bor (List ℕ) × Bor (List ℕ)))
    → IsSplitOnceResult 45 word r → n < 2 ^ 32 → word ≡ item_word (One n) → MatchOption r (Unit {0}) (λ x. ⊥)
split_one n word None split small is = tt
split_one n word (Some x) split small is =
    let parts = split_parts 45 word (Some x) split (omega arith) in
    let P : List ℕ → Type 0 = λ bs. Lacks 45 bs in
    let none = subst P (sym is ∙ parts.0) (no_hyphen n small) in
    absurd (lacks_middle 45 x.0.now x.1.now none)

-- A position that is found is the one that a word spells.
abbrev pub Finds : List ℕ → Option ℕ → Type 0
Finds word found = (n : ℕ) → n < 2 ^ 32 → word ≡ decimal n → found ≡ Some n

-- What is split at a hyphen spells several positions, of which these are the first and the last.
pub split_is_span : (word : List ℕ) (first last : Bor (List ℕ)) (item : Item)
    → IsSplitOnceResult 45 word (Some (first, last)) → IsItem item → word ≡ item_word item
    → (a : ℕ) × (b : ℕ) × (item ≡ Span a b) × (first.now ≡ decimal a) × (last.now ≡ decimal b)
split_is_span word first last (One n) split small is = absurd (split_one n word (Some (first, last)) split small is)
split_is_span word first last (Span a b) split (up, small) is =
    let parts = split_span a b word (Some (first, last)) split (omega (arith, up, small)) is in
    (a, b, refl, parts.0, parts.1)

-- What isn't split spells one position.
pub unsplit_is_one : (word : List ℕ) (item : Item) → IsSplitOnceResult 45 word None → IsItem item → word ≡ item_word item
    → (n : ℕ) × (item ≡ One n) × (n < 2 ^ 32) × (word ≡ decimal n)
unsplit_is_one word (One n) split small is = (n, refl, small, is)
unsplit_is_one word (Span a b) split (up, small) is = absurd (split_span a b word None split (omega (arith, up, small)) is)

pub wrong_first : (word : List ℕ) (first last : Bor (List ℕ)) (found : Option ℕ)
    → IsSplitOnceResult 45 word (Some (first, last)) → Finds first.now found → found ≡ None
    → (item : Item) → IsItem item → word ≡ item_word item → ⊥
wrong_first word first last found split finds none (One n) small is = split_one n word (Some (first, last)) split small is
wrong_first word first last found split finds none (Span a b) (up, small) is =
    let parts = split_span a b word (Some (first, last)) split (omega (arith, up, small)) is in
    let e : None ≡ Some a = sym none ∙ finds a (omega (arith, up, small)) parts.0 in cc

pub wrong_last : (word : List ℕ) (first last : Bor (List ℕ)) (found : Option ℕ)
    → IsSplitOnceResult 45 word (Some (first, last)) → Finds last.now found → found ≡ None
    → (item : Item) → IsItem item → word ≡ item_word item → ⊥
wrong_last word first last found split finds none (One n) small is = split_one n word (Some (first, last)) split small is
wrong_last word first last found split finds none (Span a b) (up, small) is =
    let parts = split_span a b word (Some (first, last)) split (omega (arith, up, small)) is in
    let e : None ≡ Some b = sym none ∙ finds b small parts.1 in cc

pub wrong_one : (word : List ℕ) (found : Option ℕ) → IsSplitOnceResult 45 word None → Finds word found → found ≡ None
    → (item : Item) → IsItem item → word ≡ item_word item → ⊥
wrong_one word found split finds none (One n) small is = let e : None ≡ Some n = sym none ∙ finds n small is in cc
wrong_one word found split finds none (Span a b) (up, small) is = split_span a b word None split (omega (arith, up, small)) is

pub one_found : (word : List ℕ) (found : Option ℕ) (m : ℕ) → IsSplitOnceResult 45 word None → Finds word found → found ≡ Some m
    → (item : Item) → IsItem item → word ≡ item_word item → One m ≡ item
one_found word found m split finds is-m (One n) small is = let e : Some m ≡ Some n = sym is-m ∙ finds n small is in cc
one_found word found m split finds is-m (Span a b) (up, small) is = absurd (split_span a b word None split (omega (arith, up, small)) is)

pub span_found : (word : List ℕ) (first last : Bor (List ℕ)) (low high : Option ℕ) (m n : ℕ) (r : Option Item)
    → IsSplitOnceResult 45 word (Some (first, last)) → Finds first.now low → low ≡ Some m → Finds last.now high → high ≡ Some n
    → (m ≤ n → r ≡ Some (Span m n))
    → (item : Item) → IsItem item → word ≡ item_word item → r ≡ Some item
span_found word first last low high m n r split finds is-m found is-n up-r (One k) small is =
    absurd (split_one k word (Some (first, last)) split small is)
span_found word first last low high m n r split finds is-m found is-n up-r (Span a b) (up, small) is =
    let parts = split_span a b word (Some (first, last)) split (omega (arith, up, small)) is in
    let e : Some m ≡ Some a = sym is-m ∙ finds a (omega (arith, up, small)) parts.0 in
    let f : Some n ≡ Some b = sym is-n ∙ found b small parts.1 in
    let g : m ≡ a = cc in
    let h : n ≡ b = cc in
    up-r (omega (arith, g, h, up)) ∙ (let k : Span m n ≡ Span a b = cc in ap (λ (x : Item). Some x) k)

-- Two positions with a hyphen between them spell several, where the first isn't greater.
pub span_spelt : (word : List ℕ) (first last : Bor (List ℕ)) (m n : ℕ) (r : Option Item)
    → IsSplitOnceResult 45 word (Some (first, last)) → first.now ≡ decimal m → last.now ≡ decimal n → n < 2 ^ 32
    → (m ≤ n → r ≡ Some (Span m n)) → (n < m → r ≡ None)
    → IfSome r (λ item. IsItem item × (word ≡ item_word item))
span_spelt word first last m n r split a b small up down =
    let P : Option Item → Type 0 = λ x. IfSome x (λ item. IsItem item × (word ≡ item_word item)) in
    let spelt : word ≡ item_word (Span m n) = (split_parts 45 word (Some (first, last)) split (omega arith)).0 ∙ rw (a, b) refl in
    elim (cases_lt n m) [
      | inl low ↦ subst P (sym (down low)) tt
      | inr high ↦ subst P (sym (up high)) ((high, small), spelt)
    ]
