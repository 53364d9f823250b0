-- The words of a relay, receiver by receiver.
use Rattle.std.proofs.Common.{◌≡◌, ◌≤◌, ◌<◌, ◌+◌, ◌++◌, ℕ, zero, suc, Bool, true, false, List, [], ◌∷◌, Some, None, length, drop, refl, sym, ◌∙◌, ap, subst, arith, append_assoc, length-append}
use Rattle.std.specs.Prelude.{slice_get, decimal}
use Rattle.std.specs.List.{AllByRecursion}
use Rattle.std.proofs.lemmas.List.{append-nil}
use Rattle.std.proofs.lemmas.Fmt.{decimal_injective}
use Rattle.relay_job.specs.Settings.{Target, Settings, IsAddress, IsTarget}
use Rattle.scl_cli.specs.declared.command.Command.{Command}
use Rattle.scl_cli.specs.declared.command.Command.TheVariants.{Relay}
use Rattle.scl_cli.specs.declared.command.Verb.TheVariants as verbs
use Rattle.scl_cli.specs.Commands.{Spells, Begins, verb_of, verb_word, target_words}
use Rattle.scl_cli.specs.RelayWords.{AddsSpelt, AddsAll, SpeltTargets, FindsTargets}

-- the words from a place on
pub get_drop : (words : List (List ℕ)) (at : ℕ) (w : List ℕ) → slice_get words at ≡ Some w → drop at words ≡ w ∷ drop (at + 1) words
get_drop [] at w h = absurd (cc)
get_drop (x ∷ words) zero w h = let e : x ≡ w = cc in ap (λ (y : List ℕ). y ∷ words) e
get_drop (x ∷ words) (suc at) w h = let e : suc at + 1 ≡ suc (at + 1) = omega arith in get_drop words at w h ∙ ap (λ (n : ℕ). w ∷ drop n (x ∷ words)) (sym e)

first_is : (words more : List (List ℕ)) (at : ℕ) (w x : List ℕ) → slice_get words at ≡ Some w → drop at words ≡ x ∷ more → (w ≡ x) × (drop (at + 1) words ≡ more)
first_is words more at w x h e = let f : w ∷ drop (at + 1) words ≡ x ∷ more = sym (get_drop words at w h) ∙ e in (cc, cc)

pub second_is : (words more : List (List ℕ)) (at : ℕ) (v w x y : List ℕ) → slice_get words at ≡ Some v → slice_get words (at + 1) ≡ Some w → drop at words ≡ x ∷ y ∷ more → w ≡ y
second_is words more at v w x y h k e = (first_is words more (at + 1) w y k (first_is words (y ∷ more) at v x h e).1).0

pub third_is : (words more : List (List ℕ)) (at : ℕ) (u v w x y z : List ℕ) → slice_get words at ≡ Some u → slice_get words (at + 1) ≡ Some v → slice_get words (at + 2) ≡ Some w → drop at words ≡ x ∷ y ∷ z ∷ more → w ≡ z
third_is words more at u v w x y z h k l e =
    let next : at + 2 ≡ at + 1 + 1 = omega arith in
    let P : ℕ → Type 0 = λ n. slice_get words n ≡ Some w in
    second_is words more (at + 1) v w y z k (subst P next l) (first_is words (y ∷ z ∷ more) at u x h e).1

pub address_is : (words more : List (List ℕ)) (at : ℕ) (w x : List ℕ) → slice_get words at ≡ Some w → drop at words ≡ x ∷ more → w ≡ x
address_is words more at w x h e = (first_is words more at w x h e).0

-- three words from a place on
pub three_at : (words : List (List ℕ)) (at : ℕ) (u v w : List ℕ) → slice_get words at ≡ Some u → slice_get words (at + 1) ≡ Some v → slice_get words (at + 2) ≡ Some w → drop at words ≡ u ∷ v ∷ w ∷ drop 3 (drop at words)
three_at words at u v w h k l =
    let next : at + 2 ≡ at + 1 + 1 = omega arith in
    let P : ℕ → Type 0 = λ n. slice_get words n ≡ Some w in
    let more = drop (at + 1 + 1 + 1) words in
    let all : drop at words ≡ u ∷ v ∷ w ∷ more = get_drop words at u h ∙ ap (λ (l : List (List ℕ)). u ∷ l) (get_drop words (at + 1) v k ∙ ap (λ (l : List (List ℕ)). v ∷ l) (get_drop words (at + 1 + 1) w (subst P next l))) in
    let rest : drop 3 (drop at words) ≡ more = ap (λ (l : List (List ℕ)). drop 3 l) all in
    all ∙ ap (λ (l : List (List ℕ)). u ∷ v ∷ w ∷ l) (sym rest)

pub adds : (words : List (List ℕ)) (at limit depth : ℕ) (s t : Settings) (u v w : List ℕ) → IsAddress u → limit ≤ 7 → 1 ≤ depth → depth ≤ 4096 → slice_get words at ≡ Some u → slice_get words (at + 1) ≡ Some v → slice_get words (at + 2) ≡ Some w → v ≡ decimal limit → w ≡ decimal depth
    → t ≡ record s { targets = s.targets ++ record { address = u; limit = limit; depth = depth } ∷ [] } → AddsSpelt (drop at words) s t
adds words at limit depth s t u v w address few some most h k l e f is = (
  record { address = u; limit = limit; depth = depth },
  record { address = address; limit = few; some = some; most = most },
  three_at words at u v w h k l ∙ rw (e, f) refl,
  is,
)

-- the first targets of these words
same_number : (a b : ℕ) → a ≤ 4096 → b ≤ 4096 → decimal a ≡ decimal b → a ≡ b
same_number a b h k e = decimal_injective a b (omega (arith, h)) (omega (arith, k)) e

same_target : (r q : Target) → r.address ≡ q.address → r.limit ≡ q.limit → r.depth ≡ q.depth → r ≡ q
same_target r q e f g = ap (λ (a : List ℕ). record { address = a; limit = r.limit; depth = r.depth }) e ∙ ap (λ (n : ℕ). record { address = q.address; limit = n; depth = r.depth }) f ∙ ap (λ (n : ℕ). record { address = q.address; limit = q.limit; depth = n }) g

pub front_of : (now targets : List Target) (rest : List (List ℕ)) → AllByRecursion IsTarget now → AllByRecursion IsTarget targets → target_words now ++ rest ≡ target_words targets → (more : List Target) × (targets ≡ now ++ more) × (rest ≡ target_words more) × AllByRecursion IsTarget more
front_of [] targets rest all each e = (targets, refl, e, each)
front_of (r ∷ now) [] rest all each e = absurd (cc)
front_of (r ∷ now) (q ∷ targets) rest all each e =
    let a : r.address ≡ q.address = cc in
    let l : decimal r.limit ≡ decimal q.limit = cc in
    let d : decimal r.depth ≡ decimal q.depth = cc in
    let more : target_words now ++ rest ≡ target_words targets = cc in
    let small : r.limit ≤ 4096 = (let k = all.0.limit in omega (arith, k)) in
    let low : q.limit ≤ 4096 = (let k = each.0.limit in omega (arith, k)) in
    let same : r ≡ q = same_target r q a (same_number r.limit q.limit small low l) (same_number r.depth q.depth all.0.most each.0.most d) in
    let f = front_of now targets rest all.1 each.1 more in
    (f.0, ap (λ (x : Target). x ∷ targets) (sym same) ∙ ap (λ (l : List Target). r ∷ l) f.1, f.2, f.3)

-- the first words are those of the targets so far
pub record SpeltTo (at : ℕ) (words : List (List ℕ)) (s t : Settings) : Type 0 where
  pub within : at ≤ length words
  pub all : target_words t.targets ++ drop at words ≡ drop 4 words
  pub each : AllByRecursion IsTarget t.targets
  pub few : length t.targets ≤ 64
  pub kept : t ≡ record s { targets = t.targets }

pub spelt_none : (words : List (List ℕ)) (s : Settings) → 4 ≤ length words → s.targets ≡ [] → SpeltTo 4 words s s
spelt_none words s some none = record {
  within = some;
  all = ap (λ (l : List Target). target_words l ++ drop 4 words) none;
  each = (let P : List Target → Type 0 = λ l. AllByRecursion IsTarget l in subst P (sym none) tt);
  few = (let e : length s.targets ≡ 0 = ap (λ (l : List Target). length l) none in omega (arith, e));
  kept = refl;
}

drop_none : (n : ℕ) → [] ≡ drop {A = List ℕ} n []
drop_none zero = refl
drop_none (suc n) = refl

drop_three : (words : List (List ℕ)) (at : ℕ) → drop 3 (drop at words) ≡ drop (at + 3) words
drop_three [] zero = refl
drop_three [] (suc at) = drop_none (suc at + 3)
drop_three (x ∷ words) zero = refl
drop_three (x ∷ words) (suc at) = let e : suc at + 3 ≡ suc (at + 3) = omega arith in drop_three words at ∙ ap (λ (n : ℕ). drop n (x ∷ words)) (sym e)

words-append : (xs ys : List Target) → target_words (xs ++ ys) ≡ target_words xs ++ target_words ys
words-append [] ys = refl
words-append (r ∷ xs) ys = ap (λ (l : List (List ℕ)). r.address ∷ decimal r.limit ∷ decimal r.depth ∷ l) (words-append xs ys)

each-append : (xs ys : List Target) → AllByRecursion IsTarget xs → AllByRecursion IsTarget ys → AllByRecursion IsTarget (xs ++ ys)
each-append [] ys a b = b
each-append (r ∷ xs) ys (one, a) b = (one, each-append xs ys a b)

pub spelt_more : (at : ℕ) (words : List (List ℕ)) (s t u : Settings) → at + 3 ≤ length words → length t.targets < 64 → SpeltTo at words s t → AddsSpelt (drop at words) t u → SpeltTo (at + 3) words s u
spelt_more at words s t u within room h (r, is, parts, new) =
    let P : Settings → Type 0 = λ x. SpeltTo (at + 3) words s x in
    subst P (sym new) (record {
      within = within;
      all =
          ap (λ (l : List (List ℕ)). l ++ drop (at + 3) words) (words-append t.targets (r ∷ [])) ∙ append_assoc (target_words t.targets) (target_words (r ∷ [])) (drop (at + 3) words)
          ∙ ap (λ (l : List (List ℕ)). target_words t.targets ++ r.address ∷ decimal r.limit ∷ decimal r.depth ∷ l) (sym (drop_three words at)) ∙ ap (λ (l : List (List ℕ)). target_words t.targets ++ l) (sym parts) ∙ h.all;
      each = each-append t.targets (r ∷ []) h.each (is, tt);
      few = (let n = length-append t.targets (r ∷ []) in omega (arith, room, n));
      kept = ap (λ (x : Settings). record x { targets = t.targets ++ r ∷ [] }) h.kept;
    })

drop_end : (words : List (List ℕ)) (at : ℕ) → length words ≤ at → drop at words ≡ []
drop_end [] zero h = refl
drop_end [] (suc at) h = refl
drop_end (x ∷ words) zero h = absurd (omega arith)
drop_end (x ∷ words) (suc at) h = drop_end words at (omega arith)

pub spelt_all : (at : ℕ) (words : List (List ℕ)) (s t : Settings) → length words ≤ at → SpeltTo at words s t → SpeltTargets (drop 4 words) s t
spelt_all at words s t over h = record {
  words_are = sym h.all ∙ ap (λ (l : List (List ℕ)). target_words t.targets ++ l) (drop_end words at over) ∙ append-nil (target_words t.targets);
  each = h.each;
  few = h.few;
  kept = h.kept;
}

none_left : (more : List Target) → [] ≡ target_words more → more ≡ []
none_left [] e = refl
none_left (r ∷ more) e = absurd (cc)

pub finds_all : (at : ℕ) (words : List (List ℕ)) (s t : Settings) → length words ≤ at → SpeltTo at words s t → FindsTargets (drop 4 words) true t
finds_all at words s t over h targets each few is =
    let f = front_of t.targets targets (drop at words) h.each each (h.all ∙ is) in
    let none : f.0 ≡ [] = none_left f.0 (sym (drop_end words at over) ∙ f.2) in
    (refl, sym (f.1 ∙ ap (λ (l : List Target). t.targets ++ l) none ∙ append-nil t.targets))

-- where the next words are no receiver's, the words are none
length-drop_at : (words : List (List ℕ)) (at : ℕ) → at ≤ length words → length (drop at words) + at ≡ length words
length-drop_at words zero h = omega arith
length-drop_at [] (suc at) h = absurd (omega arith)
length-drop_at (x ∷ words) (suc at) h = let e = length-drop_at words at (omega arith) in omega (arith, e)

next_target : (at : ℕ) (words : List (List ℕ)) (s t : Settings) (targets : List Target) → at < length words → SpeltTo at words s t → AllByRecursion IsTarget targets → drop 4 words ≡ target_words targets
    → (r : Target) × (more : List Target) × IsTarget r × (targets ≡ t.targets ++ r ∷ more) × (drop at words ≡ r.address ∷ decimal r.limit ∷ decimal r.depth ∷ target_words more)
next_target at words s t targets low h each is =
    let f = front_of t.targets targets (drop at words) h.each each (h.all ∙ is) in
    by f.0 f.1 f.2 f.3 where
      by : (more : List Target) → targets ≡ t.targets ++ more → drop at words ≡ target_words more → AllByRecursion IsTarget more
          → (r : Target) × (rest : List Target) × IsTarget r × (targets ≡ t.targets ++ r ∷ rest) × (drop at words ≡ r.address ∷ decimal r.limit ∷ decimal r.depth ∷ target_words rest)
      by [] e w all = absurd (let n = length-drop_at words at (omega (arith, low)) in let z : length (drop at words) ≡ 0 = ap (λ (l : List (List ℕ)). length l) w in omega (arith, n, z, low))
      by (r ∷ rest) e w all = (r, rest, all.0, e, w)

pub not_next : (at : ℕ) (words : List (List ℕ)) (s t u : Settings) (result : Bool) → at < length words → result ≡ false → SpeltTo at words s t → AddsAll (drop at words) t result u → FindsTargets (drop 4 words) false u
not_next at words s t u result low no_ h all targets each few is =
    let f = next_target at words s t targets low h each is in
    absurd (let e : result ≡ true = all f.0 (target_words f.1) f.2 f.4 in let g : true ≡ false = sym e ∙ no_ in cc)

pub too_many : (at : ℕ) (words : List (List ℕ)) (s t u : Settings) → at < length words → (length t.targets ≡ 64) → SpeltTo at words s t → FindsTargets (drop 4 words) false u
too_many at words s t u low full h targets each few is =
    let f = next_target at words s t targets low h each is in
    absurd (let n : length targets ≡ length (t.targets ++ f.0 ∷ f.1) = ap (λ (l : List Target). length l) f.3 in let m = length-append t.targets (f.0 ∷ f.1) in omega (arith, n, m, few, full))

pub too_short : (at : ℕ) (words : List (List ℕ)) (s t u : Settings) → at < length words → length words < at + 3 → SpeltTo at words s t → FindsTargets (drop 4 words) false u
too_short at words s t u low short h targets each few is =
    let f = next_target at words s t targets low h each is in
    absurd (let n : length (drop at words) ≡ length (target_words f.1) + 3 = ap (λ (l : List (List ℕ)). length l) f.4 ∙ (let k : length (f.0.address ∷ decimal f.0.limit ∷ decimal f.0.depth ∷ target_words f.1) ≡ length (target_words f.1) + 3 = omega arith in k) in let m = length-drop_at words at (omega (arith, low)) in omega (arith, n, m, short, low))

-- the words of a relay are these
four_first : (words : List (List ℕ)) (a b l : List ℕ) → Begins verbs.Relay words → slice_get words 1 ≡ Some a → slice_get words 2 ≡ Some b → slice_get words 3 ≡ Some l → words ≡ verb_word verbs.Relay ∷ a ∷ b ∷ l ∷ drop 4 words
four_first words a b l (more, is) h k m =
    let rest : drop 1 words ≡ more = ap (λ (x : List (List ℕ)). drop 1 x) is in
    let tail : drop 1 words ≡ a ∷ b ∷ l ∷ drop 4 words = get_drop words 1 a h ∙ ap (λ (x : List (List ℕ)). a ∷ x) (get_drop words 2 b k ∙ ap (λ (x : List (List ℕ)). b ∷ x) (get_drop words 3 l m)) in
    is ∙ ap (λ (x : List (List ℕ)). verb_word verbs.Relay ∷ x) (sym rest ∙ tail)

some_target : (targets : List Target) (words : List (List ℕ)) → 7 ≤ length words → drop 4 words ≡ target_words targets → 1 ≤ length targets
some_target [] words many e = absurd (let n = length-drop_at words 4 (omega arith) in let z : length (drop 4 words) ≡ 0 = ap (λ (l : List (List ℕ)). length l) e in omega (arith, n, z, many))
some_target (r ∷ targets) words many e = omega arith

pub settings_spelt : (words : List (List ℕ)) (max idle : ℕ) (s t : Settings) (a b l : List ℕ) → Begins verbs.Relay words → 7 ≤ length words → slice_get words 1 ≡ Some a → slice_get words 2 ≡ Some b → slice_get words 3 ≡ Some l
    → a ≡ decimal max → b ≡ decimal idle → IsAddress l → 1 ≤ max → max ≤ 8388607 → 1 ≤ idle → idle ≤ 4294967295 → s ≡ record { max = max; idle = idle; local = l; targets = [] } → SpeltTargets (drop 4 words) s t → Spells (Relay t) words
settings_spelt words max idle s t a b l begins many h k m ea eb local some most idles small new spelt =
    let now : t ≡ record { max = max; idle = idle; local = l; targets = t.targets } = spelt.kept ∙ ap (λ (x : Settings). record x { targets = t.targets }) new in
    let P : Settings → Type 0 = λ x. Spells (Relay x) words in
    subst P (sym now) (
      record {
        some = some;
        most = most;
        idles = idles;
        idle = omega (arith, small);
        local = local;
        each = spelt.each;
        any = some_target t.targets words many spelt.words_are;
        few = spelt.few;
      },
      four_first words a b l begins h k m ∙ rw (ea, eb, spelt.words_are) refl,
    )

-- the words of a relay's settings
pub long_enough : (command : Command) (words : List (List ℕ)) → verb_of command ≡ verbs.Relay → Spells command words → 7 ≤ length words
long_enough (Relay s) words verb (range, is) = by s.targets range.any (ap (λ (l : List (List ℕ)). length l) is) where
  by : (targets : List Target) → 1 ≤ length targets → length words ≡ length (verb_word verbs.Relay ∷ decimal s.max ∷ decimal s.idle ∷ s.local ∷ target_words targets) → 7 ≤ length words
  by [] any n = absurd (omega (arith, any))
  by (r ∷ targets) any n = omega (arith, n)
long_enough command words verb spells = absurd (cc)

pub fourth_is_address : (command : Command) (words : List (List ℕ)) (w : List ℕ) → verb_of command ≡ verbs.Relay → Spells command words → slice_get words 3 ≡ Some w → IsAddress w
fourth_is_address (Relay s) words w verb (range, is) at =
    let e : slice_get (verb_word verbs.Relay ∷ decimal s.max ∷ decimal s.idle ∷ s.local ∷ target_words s.targets) 3 ≡ Some w = rw is at at in
    let f : s.local ≡ w = cc in
    subst IsAddress f range.local
fourth_is_address command words w verb spells at = absurd (cc)

-- settings that the same words spell
pub same_settings : (command : Command) (words : List (List ℕ)) (max idle : ℕ) (s t : Settings) (a b l : List ℕ) (result : Bool) → verb_of command ≡ verbs.Relay → Spells command words → slice_get words 1 ≡ Some a → slice_get words 2 ≡ Some b → slice_get words 3 ≡ Some l
    → a ≡ decimal max → b ≡ decimal idle → max ≤ 8388607 → idle ≤ 4294967295 → s ≡ record { max = max; idle = idle; local = l; targets = [] } → SpeltTargets (drop 4 words) s t → FindsTargets (drop 4 words) result t → Some (Relay t) ≡ Some command
same_settings (Relay q) words max idle s t a b l result verb (range, is) h k m ea eb most small new spelt finds =
    let all = verb_word verbs.Relay ∷ decimal q.max ∷ decimal q.idle ∷ q.local ∷ target_words q.targets in
    let fa : slice_get all 1 ≡ Some a = rw is at h in
    let fb : slice_get all 2 ≡ Some b = rw is at k in
    let fl : slice_get all 3 ≡ Some l = rw is at m in
    let ga : decimal q.max ≡ a = cc in
    let gb : decimal q.idle ≡ b = cc in
    let gl : q.local ≡ l = cc in
    let em : max ≡ q.max = decimal_injective max q.max (omega (arith, most)) (let x = range.most in omega (arith, x)) (sym ea ∙ sym ga) in
    let ei : idle ≡ q.idle = decimal_injective idle q.idle (omega (arith, small)) (let x = range.idle in omega (arith, x)) (sym eb ∙ sym gb) in
    let et : t.targets ≡ q.targets = (finds q.targets range.each range.few (ap (λ (x : List (List ℕ)). drop 4 x) is)).1 in
    let now : t ≡ record { max = max; idle = idle; local = l; targets = t.targets } = spelt.kept ∙ ap (λ (x : Settings). record x { targets = t.targets }) new in
    ap (λ (x : Settings). Some (Relay x)) (now ∙ rw (em, ei, sym gl, et) refl)
same_settings command words max idle s t a b l result verb spells h k m ea eb most small new spelt finds = absurd (cc)

-- words whose receivers weren't found spell nothing
pub not_found : (command : Command) (words : List (List ℕ)) (result : Bool) (t : Settings) → result ≡ false → verb_of command ≡ verbs.Relay → Spells command words → FindsTargets (drop 4 words) result t → None ≡ Some command
not_found (Relay q) words result t no_ verb (range, is) finds = absurd (let e : result ≡ true = (finds q.targets range.each range.few (ap (λ (x : List (List ℕ)). drop 4 x) is)).0 in let g : true ≡ false = sym e ∙ no_ in cc)
not_found command words result t no_ verb spells finds = absurd (cc)
