-- The precincts that the loops have put together so far.
use Rattle.std.proofs.Common.{◌≡◌, ◌+◌, ℕ, suc, zero, List, [], ◌∷◌, ◌++◌, map, refl, sym, ap, ◌∙◌, append_assoc, arith}
use Rattle.std.specs.List.{flat_map, range_with_len}
use Rattle.std.proofs.lemmas.List.{map-append}
use Rattle.std.proofs.lemmas.List.Concat.{flat_map-append}
use Rattle.std.proofs.lemmas.List.FromFn.{map-range_with_len_more}

-- a range with one number more
range_more : (a n : ℕ) → range_with_len a (suc n) ≡ range_with_len a n ++ (a + n) ∷ []
range_more a zero = let e : a + 0 ≡ a = omega arith in rw e refl
range_more a (suc n) =
    let e : a + 1 + n ≡ a + suc n = omega arith in
    ap (λ (xs : List ℕ). a ∷ xs) (range_more (a + 1) n ∙ ap (λ (m : ℕ). range_with_len (a + 1) n ++ m ∷ []) e)

nothing_more : {X : Type 0} (xs : List X) → xs ++ [] ≡ xs
nothing_more [] = refl
nothing_more {X} (x ∷ xs) = ap (λ (t : List X). x ∷ t) (nothing_more xs)

-- the parts that a function gives of it
parts_more : {X : Type 0} (f : ℕ → List X) (n : ℕ) → flat_map f (range_with_len 0 (n + 1)) ≡ flat_map f (range_with_len 0 n) ++ f n
parts_more {X} f n =
    let next : n + 1 ≡ suc n = omega arith in
    let at : 0 + n ≡ n = omega arith in
    ap (λ (m : ℕ). flat_map f (range_with_len 0 m)) next
    ∙ (ap (λ (xs : List ℕ). flat_map f xs) (range_more 0 n)
    ∙ (flat_map-append f (range_with_len 0 n) ((0 + n) ∷ [])
    ∙ ap (λ (t : List X). flat_map f (range_with_len 0 n) ++ t) (nothing_more (f (0 + n)) ∙ ap f at)))

-- a list with one part more, each element with what a function gives of it
pub mapped_more : {X Y : Type 0} (g : X → Y) (f : ℕ → List X) (n : ℕ) (old now next : List Y)
    → now ≡ old ++ map g (flat_map f (range_with_len 0 n))
    → next ≡ now ++ map g (f n)
    → next ≡ old ++ map g (flat_map f (range_with_len 0 (n + 1)))
mapped_more {X} {Y} g f n old now next a b =
    let parts : List X = flat_map f (range_with_len 0 n) in
    let whole : map g (flat_map f (range_with_len 0 (n + 1))) ≡ map g parts ++ map g (f n) = ap (λ (t : List X). map g t) (parts_more f n) ∙ map-append g parts (f n) in
    b ∙ (ap (λ (t : List Y). t ++ map g (f n)) a ∙ (append_assoc old (map g parts) (map g (f n)) ∙ sym (ap (λ (t : List Y). old ++ t) whole)))

-- and where nothing was before
pub mapped_all : {X Y : Type 0} (g : X → Y) (f : ℕ → List X) (n : ℕ) (now next : List Y)
    → now ≡ map g (flat_map f (range_with_len 0 n))
    → next ≡ now ++ map g (f n)
    → next ≡ map g (flat_map f (range_with_len 0 (n + 1)))
mapped_all g f n now next a b = mapped_more g f n [] now next a b

-- a list with one element more
pub one_more : {X Y : Type 0} (g : X → Y) (f : ℕ → X) (n : ℕ) (old now next : List Y) (v : Y)
    → now ≡ old ++ map g (map f (range_with_len 0 n))
    → next ≡ now ++ v ∷ []
    → v ≡ g (f n)
    → next ≡ old ++ map g (map f (range_with_len 0 (n + 1)))
one_more {X} {Y} g f n old now next v a b e =
    let parts : List X = map f (range_with_len 0 n) in
    let whole : map g (map f (range_with_len 0 (n + 1))) ≡ map g parts ++ g (f n) ∷ [] = ap (λ (t : List X). map g t) (map-range_with_len_more f 0 n n (omega arith)) ∙ map-append g parts (f n ∷ []) in
    b ∙ (ap (λ (t : List Y). t ++ v ∷ []) a ∙ (append_assoc old (map g parts) (v ∷ []) ∙ (ap (λ (w : Y). old ++ (map g parts ++ w ∷ [])) e ∙ sym (ap (λ (t : List Y). old ++ t) whole))))
