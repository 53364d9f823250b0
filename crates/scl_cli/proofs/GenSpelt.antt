-- The words of `gen`.
use Rattle.std.proofs.Common.{◌≡◌, ◌≤◌, ◌⊎◌, ℕ, Bool, true, false, List, [], ◌∷◌, Option, Some, None, length, drop, refl, sym, ◌∙◌, ap, subst, inl, inr, arith}
use Rattle.std.specs.Prelude.{slice_get, codes, IfSome}
use Rattle.std.proofs.lemmas.List.{drop_all, length-drop}
use Rattle.codestream_make.specs.Generating.{chroma_of}
use Rattle.codestream_make.specs.declared.shape.Sub.{Sub}
use Rattle.codestream_make.specs.declared.shape.Sub.TheVariants.{S444, S422, S420}
use Rattle.gen_job.specs.declared.generation.Generation.{Generation}
use Rattle.scl_cli.specs.declared.command.Command.{Command}
use Rattle.scl_cli.specs.declared.command.Command.TheVariants.{Gen}
use Rattle.scl_cli.specs.declared.command.Verb.TheVariants as verbs
use Rattle.scl_cli.proofs.RelaySpelt.{get_drop}
use Rattle.scl_cli.specs.Commands.{Spells, AreOptions, IsGeneration, option_words, words_of, verb_of}

-- One option.
pub rpcl_alone : (word : List ℕ) → word ≡ codes "rpcl" → AreOptions (word ∷ []) 2 false
rpcl_alone word is = record { known = inl refl; are = ap (λ (w : List ℕ). w ∷ []) is }

pub eph_alone : (word : List ℕ) → word ≡ codes "eph" → AreOptions (word ∷ []) 3 true
eph_alone word is = record { known = inr refl; are = ap (λ (w : List ℕ). w ∷ []) is }

-- An option is one of two, for one order and EPH or none.
abbrev pub OneOf : List ℕ → ℕ → Bool → Type 0
OneOf word order eph = ((word ≡ codes "rpcl") × (order ≡ 2) × (eph ≡ false)) ⊎ ((word ≡ codes "eph") × (order ≡ 3) × (eph ≡ true))

first_known : (word : List ℕ) (eph : Bool) → word ∷ [] ≡ option_words 2 eph → OneOf word 2 eph
first_known word true is = let e : word ∷ [] ≡ codes "rpcl" ∷ codes "eph" ∷ [] = is in absurd (let n : 1 ≡ 2 = ap (λ (l : List (List ℕ)). length l) e in omega (arith, n))
first_known word false is = let e : word ∷ [] ≡ codes "rpcl" ∷ [] = is in inl (cc, refl, refl)

second_known : (word : List ℕ) (eph : Bool) → word ∷ [] ≡ option_words 3 eph → OneOf word 3 eph
second_known word true is = let e : word ∷ [] ≡ codes "eph" ∷ [] = is in inr (cc, refl, refl)
second_known word false is = let e : word ∷ [] ≡ [] = is in absurd (let n : 1 ≡ 0 = ap (λ (l : List (List ℕ)). length l) e in omega (arith, n))

pub one_of : (word : List ℕ) (order : ℕ) (eph : Bool) → AreOptions (word ∷ []) order eph → OneOf word order eph
one_of word order eph h = by h.known where
  by : (order ≡ 2) ⊎ (order ≡ 3) → OneOf word order eph
  by (inl e) = let P : ℕ → Type 0 = λ n. word ∷ [] ≡ option_words n eph in let Q : ℕ → Type 0 = λ n. OneOf word n eph in subst Q (sym e) (first_known word eph (subst P e h.are))
  by (inr e) = let P : ℕ → Type 0 = λ n. word ∷ [] ≡ option_words n eph in let Q : ℕ → Type 0 = λ n. OneOf word n eph in subst Q (sym e) (second_known word eph (subst P e h.are))

-- Two options.
pub both_options : (first second : List ℕ) → first ≡ codes "rpcl" → second ≡ codes "eph" → AreOptions (first ∷ second ∷ []) 2 true
both_options first second a b = record { known = inl refl; are = rw (a, b) refl }

abbrev pub Both : List ℕ → List ℕ → ℕ → Bool → Type 0
Both first second order eph = (first ≡ codes "rpcl") × (second ≡ codes "eph") × (order ≡ 2) × (eph ≡ true)

both_known : (first second : List ℕ) (eph : Bool) → first ∷ second ∷ [] ≡ option_words 2 eph → Both first second 2 eph
both_known first second true is = let e : first ∷ second ∷ [] ≡ codes "rpcl" ∷ codes "eph" ∷ [] = is in (cc, cc, refl, refl)
both_known first second false is = let e : first ∷ second ∷ [] ≡ codes "rpcl" ∷ [] = is in absurd (let n : 2 ≡ 1 = ap (λ (l : List (List ℕ)). length l) e in omega (arith, n))

not_both : (first second : List ℕ) (eph : Bool) → first ∷ second ∷ [] ≡ option_words 3 eph → ⊥
not_both first second true is = let e : first ∷ second ∷ [] ≡ codes "eph" ∷ [] = is in let n : 2 ≡ 1 = ap (λ (l : List (List ℕ)). length l) e in omega (arith, n)
not_both first second false is = let e : first ∷ second ∷ [] ≡ [] = is in let n : 2 ≡ 0 = ap (λ (l : List (List ℕ)). length l) e in omega (arith, n)

pub both_of : (first second : List ℕ) (order : ℕ) (eph : Bool) → AreOptions (first ∷ second ∷ []) order eph → Both first second order eph
both_of first second order eph h = by h.known where
  by : (order ≡ 2) ⊎ (order ≡ 3) → Both first second order eph
  by (inl e) = let P : ℕ → Type 0 = λ n. first ∷ second ∷ [] ≡ option_words n eph in let Q : ℕ → Type 0 = λ n. Both first second n eph in subst Q (sym e) (both_known first second eph (subst P e h.are))
  by (inr e) = let P : ℕ → Type 0 = λ n. first ∷ second ∷ [] ≡ option_words n eph in absurd (not_both first second eph (subst P e h.are))

-- What is found: an order, and EPH markers or none.
abbrev pub found : ℕ → Bool → Option (ℕ × Bool)
found order eph = Some (order, eph)

-- No option.
pub no_options : (words : List (List ℕ)) → words ≡ [] → AreOptions words 3 false
no_options words is = record { known = inr refl; are = is }

none_known : (order : ℕ) (eph : Bool) → (order ≡ 2) ⊎ (order ≡ 3) → [] ≡ option_words order eph → found 3 false ≡ found order eph
none_known order eph (inl e) is = let P : ℕ → Type 0 = λ n. [] ≡ option_words n eph in by eph (subst P e is) where
  by : (f : Bool) → [] ≡ option_words 2 f → found 3 false ≡ found order f
  by true h = let f : [] ≡ codes "rpcl" ∷ codes "eph" ∷ [] = h in absurd (let n : 0 ≡ 2 = ap (λ (l : List (List ℕ)). length l) f in omega (arith, n))
  by false h = let f : [] ≡ codes "rpcl" ∷ [] = h in absurd (let n : 0 ≡ 1 = ap (λ (l : List (List ℕ)). length l) f in omega (arith, n))
none_known order eph (inr e) is = let P : ℕ → Type 0 = λ n. [] ≡ option_words n eph in by eph (subst P e is) where
  by : (f : Bool) → [] ≡ option_words 3 f → found 3 false ≡ found order f
  by true h = let f : [] ≡ codes "eph" ∷ [] = h in absurd (let n : 0 ≡ 1 = ap (λ (l : List (List ℕ)). length l) f in omega (arith, n))
  by false h = ap (λ (n : ℕ). found n false) (sym e)

pub none_found : (words : List (List ℕ)) (order : ℕ) (eph : Bool) → words ≡ [] → AreOptions words order eph → found 3 false ≡ found order eph
none_found words order eph none h = none_known order eph h.known (sym none ∙ h.are)

-- There are two options at most.
most_two : (order : ℕ) (eph : Bool) → (order ≡ 2) ⊎ (order ≡ 3) → length (option_words order eph) ≤ 2
most_two order eph (inl e) = let P : ℕ → Type 0 = λ n. length (option_words n eph) ≤ 2 in subst P (sym e) (by eph) where
  by : (f : Bool) → length (option_words 2 f) ≤ 2
  by true = let n : length (option_words 2 true) ≡ 2 = refl in omega (arith, n)
  by false = let n : length (option_words 2 false) ≡ 1 = refl in omega (arith, n)
most_two order eph (inr e) = let P : ℕ → Type 0 = λ n. length (option_words n eph) ≤ 2 in subst P (sym e) (by eph) where
  by : (f : Bool) → length (option_words 3 f) ≤ 2
  by true = let n : length (option_words 3 true) ≡ 1 = refl in omega (arith, n)
  by false = let n : length (option_words 3 false) ≡ 0 = refl in omega (arith, n)

-- The words after the first seven.
pub none_after : (words : List (List ℕ)) → length words ≡ 7 → drop 7 words ≡ []
none_after words n = drop_all 7 words (omega (arith, n))

pub one_after : (words : List (List ℕ)) (a : List ℕ) → length words ≡ 8 → slice_get words 7 ≡ Some a → drop 7 words ≡ a ∷ []
one_after words a n at = get_drop words 7 a at ∙ ap (λ (l : List (List ℕ)). a ∷ l) (drop_all 8 words (omega (arith, n)))

pub two_after : (words : List (List ℕ)) (a b : List ℕ) → length words ≡ 9 → slice_get words 7 ≡ Some a → slice_get words 8 ≡ Some b → drop 7 words ≡ a ∷ b ∷ []
two_after words a b n at next =
    get_drop words 7 a at ∙ ap (λ (l : List (List ℕ)). a ∷ l) (get_drop words 8 b next ∙ ap (λ (l : List (List ℕ)). b ∷ l) (drop_all 9 words (omega (arith, n))))

-- More words are no options.
pub too_many : (words : List (List ℕ)) (order : ℕ) (eph : Bool) → 10 ≤ length words → AreOptions (drop 7 words) order eph → None ≡ found order eph
too_many words order eph many h = absurd (let n = length-drop 7 words in let m : length (drop 7 words) ≡ length (option_words order eph) = ap (λ (l : List (List ℕ)). length l) h.are in let most = most_two order eph h.known in omega (arith, n, m, most, many))

-- What is found of the words after the first seven.
pub spelt_after : (words more : List (List ℕ)) (result : Option (ℕ × Bool)) → drop 7 words ≡ more → IfSome result (λ o. AreOptions more o.0 o.1) → IfSome result (λ o. AreOptions (drop 7 words) o.0 o.1)
spelt_after words more result is h = let P : List (List ℕ) → Type 0 = λ l. IfSome result (λ o. AreOptions l o.0 o.1) in subst P (sym is) h

pub all_after : (words more : List (List ℕ)) (result : Option (ℕ × Bool)) → drop 7 words ≡ more → ((order : ℕ) (eph : Bool) → AreOptions more order eph → result ≡ found order eph) → (order : ℕ) (eph : Bool) → AreOptions (drop 7 words) order eph → result ≡ found order eph
all_after words more result is all order eph h = let P : List (List ℕ) → Type 0 = λ l. AreOptions l order eph in all order eph (subst P is h)

-- The steps of a chroma subsampling are 1 or 2.
pub chroma_x : (sub : Sub) → (1 ≤ (chroma_of sub).x) × ((chroma_of sub).x ≤ 2)
chroma_x S444 = (omega arith, omega arith)
chroma_x S422 = (omega arith, omega arith)
chroma_x S420 = (omega arith, omega arith)

pub chroma_y : (sub : Sub) → (1 ≤ (chroma_of sub).y) × ((chroma_of sub).y ≤ 2)
chroma_y S444 = (omega arith, omega arith)
chroma_y S422 = (omega arith, omega arith)
chroma_y S420 = (omega arith, omega arith)

-- A command of `gen`, by what is asked for.
pub gen_parts : (command : Command) (words : List (List ℕ)) → verb_of command ≡ verbs.Gen → Spells command words → (g : Generation) × (command ≡ Gen g) × IsGeneration g × (words ≡ words_of (Gen g))
gen_parts (Gen g) words verb (range, is) = (g, refl, range, is)
gen_parts command words verb spells = absurd (cc)

-- A command of `gen` has seven words at least.
pub enough_words : (command : Command) (words : List (List ℕ)) → verb_of command ≡ verbs.Gen → Spells command words → 7 ≤ length words
enough_words command words verb spells =
    let parts = gen_parts command words verb spells in
    let n : length words ≡ length (words_of (Gen parts.0)) = ap (λ (l : List (List ℕ)). length l) parts.3 in
    omega (arith, n)
