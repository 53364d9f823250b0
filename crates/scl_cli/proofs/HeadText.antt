-- The lines of a main header, put one after another.
use Rattle.std.proofs.Common.{◌≡◌, ◌+◌, ℕ, List, [], ◌∷◌, ◌++◌, zero, suc, refl, sym, ap, ◌∙◌, arith, append_assoc}
use Rattle.std.specs.List.{flat_map, range_with_len}
use Rattle.std.proofs.lemmas.Grind.{flat_map-append}
use Rattle.std.proofs.lemmas.List.{append-nil}
use Rattle.std.specs.Prelude.{codes, decimal}
use Rattle.codestream_model.specs.Values.{Head}
use Rattle.scl_cli.specs.HeadLines.{line, area_line}

-- pieces that are put one after another
joined : (o a b c d e f g h i : List ℕ) → ((((((((o ++ a) ++ b) ++ c) ++ d) ++ e) ++ f) ++ g) ++ h) ++ i ≡ o ++ ((((((((a ++ b) ++ c) ++ d) ++ e) ++ f) ++ g) ++ h) ++ i)
joined o a b c d e f g h i = simp append_assoc refl

-- the line of the area
pub area : (o o1 o2 o3 o4 o5 : List ℕ) (h : Head) (x0 y0 x1 y1 : ℕ)
    → x0 ≡ h.x0
    → y0 ≡ h.y0
    → x1 ≡ h.x1
    → y1 ≡ h.y1
    → o1 ≡ o ++ codes "AREA x0=" ++ decimal x0
    → o2 ≡ o1 ++ codes " y0=" ++ decimal y0
    → o3 ≡ o2 ++ codes " x1=" ++ decimal x1
    → o4 ≡ o3 ++ codes " y1=" ++ decimal y1
    → o5 ≡ o4 ++ 10 ∷ []
    → o5 ≡ o ++ area_line h
area o o1 o2 o3 o4 o5 h x0 y0 x1 y1 a b c d e1 e2 e3 e4 e5 =
    rw (e5, e4, e3, e2, e1, a, b, c, d) (joined o (codes "AREA x0=") (decimal h.x0) (codes " y0=") (decimal h.y0) (codes " x1=") (decimal h.x1) (codes " y1=") (decimal h.y1) (10 ∷ []))

-- numbers, and then one more
range_more : (a n : ℕ) → range_with_len a (suc n) ≡ range_with_len a n ++ (a + n) ∷ []
range_more a zero = let e : a ≡ a + 0 = omega arith in ap (λ (k : ℕ). k ∷ []) e
range_more a (suc n) =
    let e : a + 1 + n ≡ a + suc n = omega arith in
    ap (λ (l : List ℕ). a ∷ l) (range_more (a + 1) n ∙ ap (λ (k : ℕ). range_with_len (a + 1) n ++ k ∷ []) e)

-- the lines of the numbers that are after, and that of one more
pub one_more_line : (f : ℕ → List ℕ) (o now new added : List ℕ) (n : ℕ)
    → now ≡ o ++ flat_map f (range_with_len 0 n)
    → added ≡ f n
    → new ≡ now ++ added
    → new ≡ o ++ flat_map f (range_with_len 0 (n + 1))
one_more_line f o now new added n so_far line more =
    let next : n + 1 ≡ suc n = omega arith in
    let last : 0 + n ≡ n = omega arith in
    let F : List ℕ = flat_map f (range_with_len 0 n) in
    let grown : flat_map f (range_with_len 0 (n + 1)) ≡ F ++ f n =
    ap (λ (k : ℕ). flat_map f (range_with_len 0 k)) next
    ∙ (ap (λ (l : List ℕ). flat_map f l) (range_more 0 n)
    ∙ (flat_map-append f (range_with_len 0 n) ((0 + n) ∷ [])
    ∙ ap (λ (l : List ℕ). F ++ l) (append-nil (f (0 + n)) ∙ ap f last))) in
    more ∙ (ap (λ (l : List ℕ). l ++ added) so_far ∙ (ap (λ (l : List ℕ). (o ++ F) ++ l) line ∙ (append_assoc o F (f n) ∙ ap (λ (l : List ℕ). o ++ l) (sym grown))))

-- lines with the same three numbers
pub three : (word : List ℕ) (a b c d e f : ℕ) → a ≡ d → b ≡ e → c ≡ f → line word (a ∷ b ∷ c ∷ []) ≡ line word (d ∷ e ∷ f ∷ [])
three word a b c d e f p q r = let g : a ∷ b ∷ c ∷ [] ≡ d ∷ e ∷ f ∷ [] = cc in ap (line word) g
