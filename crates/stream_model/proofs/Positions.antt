-- A list whose items are numbered and placed by the sums before them, one item after another.
use Rattle.std.proofs.Common.{◌≡◌, ◌+◌, ℕ, List, [], ◌∷◌, ◌++◌, map, length, take, refl, sym, ap, ◌∙◌, append_assoc}
use Rattle.std.specs.List.{sum_by, enumerate_from}
use Rattle.std.proofs.Math.Seq.{take-append_seam}
use Rattle.std.proofs.lemmas.List.{length-append}
use Rattle.std.proofs.lemmas.List.Sums.{sum_by_push}

-- what is made of each item, of its number and of the sum before it
abbrev pub placed : {A B : Type 0} → (A → ℕ) → (ℕ → ℕ → A → B) → ℕ → ℕ → List A → List B
placed f g i at [] = []
placed f g i at (x ∷ xs) = g i at x ∷ placed f g (i + 1) (at + f x) xs

pub placed_from : {A B : Type 0} (f : A → ℕ) (g : ℕ → ℕ → A → B) (front rest : List A) → map (λ x. g x.0 (sum_by f (take x.0 (front ++ rest))) x.1) (enumerate_from (length front) rest) ≡ placed f g (length front) (sum_by f front) rest
placed_from f g front [] = refl
placed_from {A} {B} f g front (x ∷ rest) =
    let next : List A = front ++ x ∷ [] in
    let whole : front ++ x ∷ rest ≡ next ++ rest = sym (append_assoc front (x ∷ []) rest) in
    let more : length front + 1 ≡ length next = sym (length-append front (x ∷ [])) in
    let sums : sum_by f next ≡ sum_by f front + f x = sum_by_push f front x in
    let head : g (length front) (sum_by f (take (length front) (front ++ x ∷ rest))) x ≡ g (length front) (sum_by f front) x = ap (λ ys. g (length front) (sum_by f ys) x) (take-append_seam front (x ∷ rest)) in
    let one : map (λ y. g y.0 (sum_by f (take y.0 (front ++ x ∷ rest))) y.1) (enumerate_from (length front + 1) rest) ≡ map (λ y. g y.0 (sum_by f (take y.0 (next ++ rest))) y.1) (enumerate_from (length front + 1) rest) =
    ap (λ ys. map (λ y. g y.0 (sum_by f (take y.0 ys)) y.1) (enumerate_from (length front + 1) rest)) whole in
    let two : map (λ y. g y.0 (sum_by f (take y.0 (next ++ rest))) y.1) (enumerate_from (length front + 1) rest) ≡ map (λ y. g y.0 (sum_by f (take y.0 (next ++ rest))) y.1) (enumerate_from (length next) rest) =
    ap (λ n. map (λ y. g y.0 (sum_by f (take y.0 (next ++ rest))) y.1) (enumerate_from n rest)) more in
    let three : placed f g (length next) (sum_by f next) rest ≡ placed f g (length front + 1) (sum_by f front + f x) rest =
    ap (λ n. placed f g n (sum_by f next) rest) (sym more) ∙ ap (λ n. placed f g (length front + 1) n rest) sums in
    ap (λ y. y ∷ map (λ y. g y.0 (sum_by f (take y.0 (front ++ x ∷ rest))) y.1) (enumerate_from (length front + 1) rest)) head
    ∙ ap (λ ys. g (length front) (sum_by f front) x ∷ ys) (one ∙ (two ∙ (placed_from f g next rest ∙ three)))

pub are_placed : {A B : Type 0} (f : A → ℕ) (g : ℕ → ℕ → A → B) (xs : List A) → map (λ x. g x.0 (sum_by f (take x.0 xs)) x.1) (enumerate_from 0 xs) ≡ placed f g 0 0 xs
are_placed f g xs = placed_from f g [] xs
