-- A list of positions, item by item: what its word is divided into.
use Rattle.std.proofs.Common.{◌≡◌, ◌≤◌, ◌<◌, ◌+◌, ◌^◌, ◌++◌, ℕ, zero, suc, List, [], ◌∷◌, Option, Some, None, IfSome, length, refl, sym, ◌∙◌, ap, subst, arith, append_assoc, length-append}
use Rattle.std.specs.Prelude.{decimal}
use Rattle.std.specs.List.{AllByRecursion}
use Rattle.std.proofs.lemmas.List.{append-nil}
use Rattle.std.proofs.lemmas.Fmt.{decimal_nonempty}
use Rattle.std.specs.Option.{MatchOption}
use Rattle.std.proofs.lemmas.Str.Pattern.{IsSplitOnceResult, split_after, split_parts}
use Rattle.std.proofs.lemmas.Str.{IsUtf8-drop}
use Rattle.std.specs.Str.{IsUtf8, IsCharBoundary}
use denote.Ref.{Bor}
use Rattle.deliver_job.specs.declared.items.Item.{Item}
use Rattle.deliver_job.specs.declared.items.Item.TheVariants.{One, Span}
use Rattle.deliver_job.specs.Positions.{IsItem, IsList, item_word, items_word, list_word}
use Rattle.deliver_job.specs.Reading.{comma_words, SpellsItems}
use Rattle.deliver_job.proofs.Spelling.{Lacks, lacks_at, lacks_middle, digits_lack, no_comma}

-- What follows a comma is a text.
after_is_text : (rest : List ℕ) (part after : Bor (List ℕ)) → IsSplitOnceResult 44 rest (Some (part, after)) → IsUtf8 rest → IsUtf8 after.now
after_is_text rest part after split text =
    let P : ℕ → Type 0 = λ n. IsCharBoundary rest n in
    let ends : IsCharBoundary rest split.1 = subst P (sym split.2.1.ends) split.2.1.after in
    subst IsUtf8 (sym split.4) (IsUtf8-drop rest split.1 text ends)

-- The items that a word is still to spell, of which the first is there.
pub record Remain (list targets : List Item) (rest : List ℕ) : Type 0 where
  pub next : Item
  pub more : List Item
  pub are : targets ≡ list ++ next ∷ more
  pub each : AllByRecursion IsItem (next ∷ more)
  pub spelt : rest ≡ items_word next more

-- A word begins with these items, each with a comma after it; whatever items it spells, these are the first of them.
pub record SpellsTo (word : List ℕ) (list : List Item) (rest : List ℕ) : Type 0 where
  pub each : AllByRecursion IsItem list
  pub few : length list ≤ 4095
  pub text : IsUtf8 rest
  pub parts : word ≡ comma_words list ++ rest
  pub all : (targets : List Item) → SpellsItems word targets → Remain list targets rest

pub at_first : (word : List ℕ) → IsUtf8 word → SpellsTo word [] word
at_first word text = record {
  text = text;
  each = tt;
  few = omega arith;
  parts = refl;
  all = λ targets h. record {
    next = h.spelt.0;
    more = h.spelt.1;
    are = h.spelt.2;
    each = (let P : List Item → Type 0 = λ l. AllByRecursion IsItem l in subst P h.spelt.2 h.each);
    spelt = h.spelt.3;
  };
}

each_append : (xs : List Item) (item : Item) → AllByRecursion IsItem xs → IsItem item → AllByRecursion IsItem (xs ++ item ∷ [])
each_append [] item h k = (k, tt)
each_append (x ∷ xs) item h k = (h.0, each_append xs item h.1 k)

comma_words-append : (xs : List Item) (item : Item) (rest : List ℕ) → comma_words (xs ++ item ∷ []) ++ rest ≡ comma_words xs ++ (item_word item ++ 44 ∷ rest)
comma_words-append [] item rest = append_assoc (item_word item) (44 ∷ []) rest
comma_words-append (x ∷ xs) item rest =
    append_assoc (item_word x) (44 ∷ comma_words (xs ++ item ∷ [])) rest
    ∙ ap (λ (bs : List ℕ). item_word x ++ 44 ∷ bs) (comma_words-append xs item rest)
    ∙ sym (append_assoc (item_word x) (44 ∷ comma_words xs) (item_word item ++ 44 ∷ rest))

-- The words of items, the last of which has no comma after it.
last_word : (xs : List Item) (item : Item) → (first : Item) × (more : List Item) × (xs ++ item ∷ [] ≡ first ∷ more) × (comma_words xs ++ item_word item ≡ items_word first more)
last_word [] item = (item, [], refl, refl)
last_word (x ∷ xs) item =
    let l = last_word xs item in (
      x,
      xs ++ item ∷ [],
      refl,
      append_assoc (item_word x) (44 ∷ comma_words xs) (item_word item) ∙ ap (λ (bs : List ℕ). item_word x ++ 44 ∷ bs) l.3
          ∙ ap (λ (list : List Item). items_word x list) (sym l.2),
    )

-- Where the words of items are divided at the first comma.
pub divided : (first : Item) (more : List Item) (rest : List ℕ) (part after : Bor (List ℕ))
    → IsSplitOnceResult 44 rest (Some (part, after)) → AllByRecursion IsItem (first ∷ more) → rest ≡ items_word first more
    → (next : Item) × (others : List Item) × (more ≡ next ∷ others) × (part.now ≡ item_word first) × (after.now ≡ items_word next others)
divided first [] rest part after split each is =
    let parts = split_parts 44 rest (Some (part, after)) split (omega arith) in
    let P : List ℕ → Type 0 = λ bs. Lacks 44 bs in
    absurd (lacks_middle 44 part.now after.now (subst P (sym is ∙ parts.0) (no_comma first each.0)))
divided first (next ∷ others) rest part after split each is =
    let parts = split_after 44 rest (item_word first) (items_word next others) (Some (part, after)) split (omega arith) is (lacks_at 44 (item_word first) (no_comma first each.0)) in
    (next, others, refl, parts.0, parts.1)

-- Where they aren't divided there is one item.
pub undivided : (first : Item) (more : List Item) (rest : List ℕ)
    → IsSplitOnceResult 44 rest None → AllByRecursion IsItem (first ∷ more) → rest ≡ items_word first more
    → (more ≡ []) × (rest ≡ item_word first)
undivided first [] rest split each is = (refl, is)
undivided first (next ∷ others) rest split each is =
    absurd (split_after 44 rest (item_word first) (items_word next others) None split (omega arith) is (lacks_at 44 (item_word first) (no_comma first each.0)))

-- An item that is found is the one that a word spells.
abbrev pub FindsItem : List ℕ → Option Item → Type 0
FindsItem word found = (item : Item) → IsItem item → word ≡ item_word item → found ≡ Some item

same_item : (word : List ℕ) (found : Option Item) (item other : Item) → FindsItem word found → found ≡ Some item → IsItem other → word ≡ item_word other → item ≡ other
same_item word found item other finds is good spelt = let e : Some item ≡ Some other = sym is ∙ finds other good spelt in cc

remain_more : (word : List ℕ) (list : List Item) (rest : List ℕ) (part after : Bor (List ℕ)) (found : Option Item) (item : Item) (targets : List Item)
    → Remain list targets rest → IsSplitOnceResult 44 rest (Some (part, after)) → FindsItem part.now found → found ≡ Some item
    → Remain (list ++ item ∷ []) targets after.now
remain_more word list rest part after found item targets r split finds is =
    let d = divided r.next r.more rest part after split r.each r.spelt in
    let same : item ≡ r.next = same_item part.now found item r.next finds is r.each.0 d.3 in
    let P : List Item → Type 0 = λ l. AllByRecursion IsItem l in
    record {
      next = d.0;
      more = d.1;
      are = r.are ∙ ap (λ (l : List Item). list ++ r.next ∷ l) d.2 ∙ ap (λ (x : Item). list ++ x ∷ d.0 ∷ d.1) (sym same) ∙ sym (append_assoc list (item ∷ []) (d.0 ∷ d.1));
      each = subst P d.2 r.each.1;
      spelt = d.4;
    }

-- One more item, with a comma after it.
pub one_more : (word : List ℕ) (list : List Item) (rest : List ℕ) (part after : Bor (List ℕ)) (found : Option Item) (item : Item)
    → SpellsTo word list rest → length list < 4095 → IsSplitOnceResult 44 rest (Some (part, after))
    → FindsItem part.now found → found ≡ Some item → IsItem item → part.now ≡ item_word item
    → SpellsTo word (list ++ item ∷ []) after.now
one_more word list rest part after found item h room split finds is good spelt = record {
  each = each_append list item h.each good;
  few = (let n = length-append list (item ∷ []) in omega (arith, room, n));
  text = after_is_text rest part after split h.text;
  parts = h.parts ∙ ap (λ (bs : List ℕ). comma_words list ++ bs) ((split_parts 44 rest (Some (part, after)) split (omega arith)).0 ∙ ap (λ (bs : List ℕ). bs ++ 44 ∷ after.now) spelt)
      ∙ sym (comma_words-append list item after.now);
  all = λ targets k. remain_more word list rest part after found item targets (h.all targets k) split finds is;
}

-- No item is found where one should be.
pub none_next : (word : List ℕ) (list : List Item) (rest : List ℕ) (part after : Bor (List ℕ)) (found : Option Item) (targets : List Item)
    → SpellsTo word list rest → IsSplitOnceResult 44 rest (Some (part, after)) → FindsItem part.now found → found ≡ None
    → SpellsItems word targets → ⊥
none_next word list rest part after found targets h split finds none k =
    let r = h.all targets k in
    let d = divided r.next r.more rest part after split r.each r.spelt in
    let e : None ≡ Some r.next = sym none ∙ finds r.next r.each.0 d.3 in cc

pub none_last : (word : List ℕ) (list : List Item) (rest : List ℕ) (found : Option Item) (targets : List Item)
    → SpellsTo word list rest → IsSplitOnceResult 44 rest None → FindsItem rest found → found ≡ None
    → SpellsItems word targets → ⊥
none_last word list rest found targets h split finds none k =
    let r = h.all targets k in
    let u = undivided r.next r.more rest split r.each r.spelt in
    let e : None ≡ Some r.next = sym none ∙ finds r.next r.each.0 u.1 in cc

-- There are more items than a list may have.
pub too_many : (word : List ℕ) (list : List Item) (rest : List ℕ) (part after : Bor (List ℕ)) (targets : List Item)
    → SpellsTo word list rest → IsSplitOnceResult 44 rest (Some (part, after)) → length list ≡ 4095
    → SpellsItems word targets → ⊥
too_many word list rest part after targets h split full k =
    let r = h.all targets k in
    let d = divided r.next r.more rest part after split r.each r.spelt in
    let few : length targets ≤ 4096 = k.few in
    let a : length targets ≡ length (list ++ r.next ∷ r.more) = ap (λ (l : List Item). length l) r.are in
    let b : length (list ++ r.next ∷ r.more) ≡ length list + suc (length r.more) = length-append list (r.next ∷ r.more) in
    let c : length r.more ≡ suc (length d.1) = ap (λ (l : List Item). length l) d.2 in
    omega (arith, few, a, b, c, full)

-- All items of a word.
pub all_spelt : (word : List ℕ) (list : List Item) (rest : List ℕ) (item : Item)
    → SpellsTo word list rest → IsItem item → rest ≡ item_word item → SpellsItems word (list ++ item ∷ [])
all_spelt word list rest item h good spelt =
    let l = last_word list item in
    record {
      each = each_append list item h.each good;
      few = (let n = length-append list (item ∷ []) in let m = h.few in omega (arith, n, m));
      spelt = (l.0, l.1, l.2, h.parts ∙ ap (λ (bs : List ℕ). comma_words list ++ bs) spelt ∙ l.3);
    }

pub all_found : (word : List ℕ) (list : List Item) (rest : List ℕ) (found : Option Item) (item : Item) (targets : List Item)
    → SpellsTo word list rest → IsSplitOnceResult 44 rest None → FindsItem rest found → found ≡ Some item
    → SpellsItems word targets → list ++ item ∷ [] ≡ targets
all_found word list rest found item targets h split finds is k =
    let r = h.all targets k in
    let u = undivided r.next r.more rest split r.each r.spelt in
    let same : item ≡ r.next = same_item rest found item r.next finds is r.each.0 u.1 in
    ap (λ (x : Item). list ++ x ∷ []) same ∙ ap (λ (l : List Item). list ++ r.next ∷ l) (sym u.0) ∙ sym r.are

-- The word of a list with an item begins with a digit.
starts : (item : Item) (more : List Item) → IsItem item → (n : ℕ) × (rest : List ℕ) × (n < 2 ^ 32) × (items_word item more ≡ decimal n ++ rest)
starts (One n) [] small = (n, [], small, sym (append-nil (decimal n)))
starts (One n) (next ∷ others) small = (n, 44 ∷ items_word next others, small, refl)
starts (Span a b) [] (up, small) = (a, 45 ∷ decimal b, omega (arith, up, small), refl)
starts (Span a b) (next ∷ others) (up, small) =
    (a, (45 ∷ decimal b) ++ 44 ∷ items_word next others, omega (arith, up, small), append_assoc (decimal a) (45 ∷ decimal b) (44 ∷ items_word next others))

no_letter : (c : ℕ) (ds rest more : List ℕ) → 0 < length ds → Lacks c ds → ds ++ rest ≡ c ∷ more → ⊥
no_letter c [] rest more some h is = omega (arith, some)
no_letter c (d ∷ ds) rest more some h is = let e : d ≡ c = cc in h.0 e

-- `none` is the word of the list without an item alone.
pub none_alone : (word : List ℕ) (list : List Item) → word ≡ 110 ∷ 111 ∷ 110 ∷ 101 ∷ [] → IsList list → word ≡ list_word list → [] ≡ list
none_alone word [] none h is = refl
none_alone word (item ∷ more) none h is =
    let s = starts item more h.each.0 in
    let some = decimal_nonempty s.0 (omega (arith, s.2)) in
    absurd (no_letter 110 (decimal s.0) s.1 (111 ∷ 110 ∷ 101 ∷ []) some
    (digits_lack 110 s.0 s.2 (λ r. omega (arith, r.0, r.1))) (sym s.3 ∙ sym is ∙ none))
