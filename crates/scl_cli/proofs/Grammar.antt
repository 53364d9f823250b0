-- The words of a command, one by one.
use Rattle.std.proofs.Common.{suc, zero, ◌≡◌, ◌≤◌, ◌<◌, ℕ, drop, List, [], ◌∷◌, Some, length, refl, sym, ap, ◌∙◌, arith}
use Rattle.std.specs.Prelude.{slice_get}
use Rattle.scl_cli.specs.declared.command.Command.{Command}
use Rattle.scl_cli.specs.declared.command.Verb.{Verb}
use Rattle.scl_cli.specs.Commands.{Spells, Begins, verb_word, verb_of, form}

-- a first word
pub begins : (words : List (List ℕ)) (word : List ℕ) (v : Verb) → slice_get words 0 ≡ Some word → word ≡ verb_word v → Begins v words
begins [] word v at is = absurd (cc)
begins (w ∷ more) word v at is = let e : w ≡ word = cc in (more, ap (λ (x : List ℕ). x ∷ more) (e ∙ is))

-- that of a command's words
pub first_word : (words : List (List ℕ)) (word : List ℕ) (command : Command) → slice_get words 0 ≡ Some word → Spells command words → word ≡ verb_word (verb_of command)
first_word words word command at (range, is) = let e : slice_get (verb_word (verb_of command) ∷ (form command).values) 0 ≡ Some word = rw is at at in cc

-- a command whose words begin so
pub same_verb : (words : List (List ℕ)) (word : List ℕ) (command : Command) (v : Verb) → slice_get words 0 ≡ Some word → ((w : Verb) → word ≡ verb_word w → Some v ≡ Some w) → Spells command words → verb_of command ≡ v
same_verb words word command v at all spells = let e : Some v ≡ Some (verb_of command) = all (verb_of command) (first_word words word command at spells) in cc

-- words that begin so, by how many they are
pub alone : (words : List (List ℕ)) (v : Verb) → Begins v words → length words ≡ 1 → words ≡ verb_word v ∷ []
alone words v ([], is) n = is
alone words v (w ∷ more, is) n = absurd (let e : suc (suc (length more)) ≡ 1 = sym (ap length is) ∙ n in omega arith)

pub with_one : (words : List (List ℕ)) (v : Verb) (word : List ℕ) → Begins v words → length words ≡ 2 → slice_get words 1 ≡ Some word → words ≡ verb_word v ∷ word ∷ []
with_one words v word ([], is) n at = absurd (let e : suc zero ≡ 2 = sym (ap length is) ∙ n in omega arith)
with_one words v word (w ∷ [], is) n at =
    let e : slice_get (verb_word v ∷ w ∷ []) 1 ≡ Some word = rw is at at in
    let f : w ≡ word = cc in
    is ∙ ap (λ (x : List ℕ). verb_word v ∷ x ∷ []) f
with_one words v word (w ∷ x ∷ more, is) n at = absurd (let e : suc (suc (suc (length more))) ≡ 2 = sym (ap length is) ∙ n in omega arith)

pub with_two : (words : List (List ℕ)) (v : Verb) (first second : List ℕ) → Begins v words → length words ≡ 3 → slice_get words 1 ≡ Some first → slice_get words 2 ≡ Some second
    → words ≡ verb_word v ∷ first ∷ second ∷ []
with_two words v first second ([], is) n a b = absurd (let e : suc zero ≡ 3 = sym (ap length is) ∙ n in omega arith)
with_two words v first second (w ∷ [], is) n a b = absurd (let e : suc (suc zero) ≡ 3 = sym (ap length is) ∙ n in omega arith)
with_two words v first second (w ∷ x ∷ [], is) n a b =
    let e : slice_get (verb_word v ∷ w ∷ x ∷ []) 1 ≡ Some first = rw is at a in
    let f : slice_get (verb_word v ∷ w ∷ x ∷ []) 2 ≡ Some second = rw is at b in
    let ew : w ≡ first = cc in
    let ex : x ≡ second = cc in
    is ∙ rw (ew, ex) refl
with_two words v first second (w ∷ x ∷ y ∷ more, is) n a b = absurd (let e : suc (suc (suc (suc (length more)))) ≡ 3 = sym (ap length is) ∙ n in omega arith)

pub with_three : (words : List (List ℕ)) (v : Verb) (first second third : List ℕ) → Begins v words → length words ≡ 4 → slice_get words 1 ≡ Some first → slice_get words 2 ≡ Some second → slice_get words 3 ≡ Some third
    → words ≡ verb_word v ∷ first ∷ second ∷ third ∷ []
with_three words v first second third ([], is) n a b c = absurd (let e : suc zero ≡ 4 = sym (ap length is) ∙ n in omega arith)
with_three words v first second third (w ∷ [], is) n a b c = absurd (let e : suc (suc zero) ≡ 4 = sym (ap length is) ∙ n in omega arith)
with_three words v first second third (w ∷ x ∷ [], is) n a b c = absurd (let e : suc (suc (suc zero)) ≡ 4 = sym (ap length is) ∙ n in omega arith)
with_three words v first second third (w ∷ x ∷ y ∷ [], is) n a b c =
    let e : slice_get (verb_word v ∷ w ∷ x ∷ y ∷ []) 1 ≡ Some first = rw is at a in
    let f : slice_get (verb_word v ∷ w ∷ x ∷ y ∷ []) 2 ≡ Some second = rw is at b in
    let g : slice_get (verb_word v ∷ w ∷ x ∷ y ∷ []) 3 ≡ Some third = rw is at c in
    let ew : w ≡ first = cc in
    let ex : x ≡ second = cc in
    let ey : y ≡ third = cc in
    is ∙ rw (ew, ex, ey) refl
with_three words v first second third (w ∷ x ∷ y ∷ z ∷ more, is) n a b c = absurd (let e : suc (suc (suc (suc (suc (length more))))) ≡ 4 = sym (ap length is) ∙ n in omega arith)

-- Two lists of words are one where they have the same words at each index.
pub same_words : (words values : List (List ℕ)) → length words ≡ length values → ((i : ℕ) → i < length values → slice_get words i ≡ slice_get values i) → words ≡ values
same_words [] [] n h = refl
same_words [] (v ∷ values) n h = absurd (omega (arith, n))
same_words (w ∷ words) [] n h = absurd (omega (arith, n))
same_words (w ∷ words) (v ∷ values) n h =
    let first : Some w ≡ Some v = h 0 (omega arith) in
    let same : w ≡ v = cc in
    ap (λ (x : List ℕ). x ∷ words) same ∙ ap (λ (l : List (List ℕ)). v ∷ l) (same_words words values (omega (arith, n)) (λ i low. h (suc i) (omega (arith, low))))

-- The words at eight indices.
record EightWords (words : List (List ℕ)) (t a b c d e f g : List ℕ) : Type 0 where
  pub zeroth : slice_get words 0 ≡ Some t
  pub first : slice_get words 1 ≡ Some a
  pub second : slice_get words 2 ≡ Some b
  pub third : slice_get words 3 ≡ Some c
  pub fourth : slice_get words 4 ≡ Some d
  pub fifth : slice_get words 5 ≡ Some e
  pub sixth : slice_get words 6 ≡ Some f
  pub seventh : slice_get words 7 ≡ Some g

at_eight : (words : List (List ℕ)) (t a b c d e f g : List ℕ) → EightWords words t a b c d e f g → (i : ℕ) → i < 8 → slice_get words i ≡ slice_get (t ∷ a ∷ b ∷ c ∷ d ∷ e ∷ f ∷ g ∷ []) i
at_eight words t a b c d e f g h zero low = h.zeroth
at_eight words t a b c d e f g h (suc zero) low = h.first
at_eight words t a b c d e f g h (suc (suc zero)) low = h.second
at_eight words t a b c d e f g h (suc (suc (suc zero))) low = h.third
at_eight words t a b c d e f g h (suc (suc (suc (suc zero)))) low = h.fourth
at_eight words t a b c d e f g h (suc (suc (suc (suc (suc zero))))) low = h.fifth
at_eight words t a b c d e f g h (suc (suc (suc (suc (suc (suc zero)))))) low = h.sixth
at_eight words t a b c d e f g h (suc (suc (suc (suc (suc (suc (suc zero))))))) low = h.seventh
at_eight words t a b c d e f g h (suc (suc (suc (suc (suc (suc (suc (suc i)))))))) low = absurd (omega (arith, low))

pub with_seven : (words : List (List ℕ)) (v : Verb) (a b c d e f g : List ℕ) → Begins v words → length words ≡ 8 → slice_get words 1 ≡ Some a → slice_get words 2 ≡ Some b → slice_get words 3 ≡ Some c
    → slice_get words 4 ≡ Some d → slice_get words 5 ≡ Some e → slice_get words 6 ≡ Some f → slice_get words 7 ≡ Some g → words ≡ verb_word v ∷ a ∷ b ∷ c ∷ d ∷ e ∷ f ∷ g ∷ []
with_seven words v a b c d e f g (more, is) n first second third fourth fifth sixth seventh =
    let zeroth : slice_get words 0 ≡ Some (verb_word v) = ap (λ (l : List (List ℕ)). slice_get l 0) is in
    same_words words (verb_word v ∷ a ∷ b ∷ c ∷ d ∷ e ∷ f ∷ g ∷ []) n
    (at_eight words (verb_word v) a b c d e f g (record { zeroth = zeroth; first = first; second = second; third = third; fourth = fourth; fifth = fifth; sixth = sixth; seventh = seventh }))

-- Words of which there are six.
pub with_five : (words : List (List ℕ)) (v : Verb) (a b c d e : List ℕ) → Begins v words → length words ≡ 6 → slice_get words 1 ≡ Some a → slice_get words 2 ≡ Some b → slice_get words 3 ≡ Some c
    → slice_get words 4 ≡ Some d → slice_get words 5 ≡ Some e → words ≡ verb_word v ∷ a ∷ b ∷ c ∷ d ∷ e ∷ []
with_five [] v a b c d e begin n first second third fourth fifth = absurd (omega (arith, n))
with_five (t ∷ []) v a b c d e begin n first second third fourth fifth = absurd (omega (arith, n))
with_five (t ∷ q ∷ []) v a b c d e begin n first second third fourth fifth = absurd (omega (arith, n))
with_five (t ∷ q ∷ r ∷ []) v a b c d e begin n first second third fourth fifth = absurd (omega (arith, n))
with_five (t ∷ q ∷ r ∷ s ∷ []) v a b c d e begin n first second third fourth fifth = absurd (omega (arith, n))
with_five (t ∷ q ∷ r ∷ s ∷ w ∷ []) v a b c d e begin n first second third fourth fifth = absurd (omega (arith, n))
with_five (t ∷ q ∷ r ∷ s ∷ w ∷ x ∷ y ∷ more) v a b c d e begin n first second third fourth fifth = absurd (omega (arith, n))
with_five (t ∷ q ∷ r ∷ s ∷ w ∷ x ∷ []) v a b c d e (rest, is) n first second third fourth fifth =
    let zeroth : t ≡ verb_word v = cc in
    let one : q ≡ a = cc in
    let two : r ≡ b = cc in
    let three : s ≡ c = cc in
    let four : w ≡ d = cc in
    let five : x ≡ e = cc in
    rw (zeroth, one, two, three, four, five) refl

-- Words of which there are seven or more, by the first seven.
pub with_six : (words : List (List ℕ)) (v : Verb) (a b c d e f : List ℕ) → Begins v words → 7 ≤ length words → slice_get words 1 ≡ Some a → slice_get words 2 ≡ Some b → slice_get words 3 ≡ Some c
    → slice_get words 4 ≡ Some d → slice_get words 5 ≡ Some e → slice_get words 6 ≡ Some f → words ≡ verb_word v ∷ a ∷ b ∷ c ∷ d ∷ e ∷ f ∷ drop 7 words
with_six [] v a b c d e f begin n first second third fourth fifth sixth = absurd (omega (arith, n))
with_six (t ∷ []) v a b c d e f begin n first second third fourth fifth sixth = absurd (omega (arith, n))
with_six (t ∷ q ∷ []) v a b c d e f begin n first second third fourth fifth sixth = absurd (omega (arith, n))
with_six (t ∷ q ∷ r ∷ []) v a b c d e f begin n first second third fourth fifth sixth = absurd (omega (arith, n))
with_six (t ∷ q ∷ r ∷ s ∷ []) v a b c d e f begin n first second third fourth fifth sixth = absurd (omega (arith, n))
with_six (t ∷ q ∷ r ∷ s ∷ w ∷ []) v a b c d e f begin n first second third fourth fifth sixth = absurd (omega (arith, n))
with_six (t ∷ q ∷ r ∷ s ∷ w ∷ x ∷ []) v a b c d e f begin n first second third fourth fifth sixth = absurd (omega (arith, n))
with_six (t ∷ q ∷ r ∷ s ∷ w ∷ x ∷ y ∷ more) v a b c d e f (rest, is) n first second third fourth fifth sixth =
    let zeroth : t ≡ verb_word v = cc in
    let one : q ≡ a = cc in
    let two : r ≡ b = cc in
    let three : s ≡ c = cc in
    let four : w ≡ d = cc in
    let five : x ≡ e = cc in
    let six : y ≡ f = cc in
    rw (zeroth, one, two, three, four, five, six) refl
