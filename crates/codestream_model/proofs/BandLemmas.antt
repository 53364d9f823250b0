-- The code-blocks of grids of different bands.
use Rattle.std.proofs.Common.{◌≡◌, ◌≢◌, ◌==◌, Bool, List, [], ◌∷◌, ◌++◌, map, refl, sym, ◌∙◌, ap, inl, inr}
use Rattle.std.specs.List.{AllByRecursion, filter, flat_map}
use Rattle.std.proofs.lemmas.Bool.Decides.{eqb_tells}
use Rattle.std.proofs.lemmas.List.Elements.{filter-append}
use Rattle.codestream_model.specs.Values.{Grid, Block}
use Rattle.codestream_model.specs.TagTrees.{Seat, IsSeat, seats, seat_of}
use Rattle.codestream_model.proofs.SeatLemmas.{all-append, all-map, seats_are_seats}

-- a list that becomes two parts has two parts that become these
pub map_split : {X Y : Type 0} (f : X → Y) (xs : List X) (ys zs : List Y) → map f xs ≡ ys ++ zs → (front : List X) × (back : List X) × (xs ≡ front ++ back) × (map f front ≡ ys) × (map f back ≡ zs)
map_split f xs [] zs e = ([], xs, refl, refl, e)
map_split f [] (y ∷ ys) zs e = absurd (cc)
map_split f (x ∷ xs) (y ∷ ys) zs e =
    let head : f x ≡ y = cc in
    let tail : map f xs ≡ ys ++ zs = cc in
    let r = map_split f xs ys zs tail in
    (x ∷ r.0, r.1, ap (λ l. x ∷ l) r.2, rw (head, r.3) refl, r.4)

-- the positions of a grid are of its band
pub band_of_seats : (g : Grid) → AllByRecursion (λ (s : Seat). s.band ≡ g.band) (seats g)
band_of_seats g = all-map (IsSeat g) (λ (s : Seat). s.band ≡ g.band) (seats g) (λ s i. i.band) (seats_are_seats g)

-- those of grids of other bands aren't
pub other_bands : (g : Grid) (gs : List Grid) → AllByRecursion (λ (other : Grid). other.band ≢ g.band) gs → AllByRecursion (λ (s : Seat). s.band ≢ g.band) (flat_map seats gs)
other_bands g [] a = tt
other_bands g (o ∷ gs) a =
    all-append (λ (s : Seat). s.band ≢ g.band) (seats o) (flat_map seats gs)
    (all-map (λ (s : Seat). s.band ≡ o.band) (λ (s : Seat). s.band ≢ g.band) (seats o) (λ s e f. a.0 (sym e ∙ f)) (band_of_seats o))
    (other_bands g gs a.1)

-- a code-block of a grid's band
abbrev pub of_band : Grid → Block → Bool
of_band g b = b.band == g.band

-- code-blocks that are all of a band,
pub all_of_band : (g : Grid) (blocks : List Block) → AllByRecursion (λ (s : Seat). s.band ≡ g.band) (map seat_of blocks) → filter (of_band g) blocks ≡ blocks
all_of_band g [] a = refl
all_of_band g (b ∷ blocks) a = elim (eqb_tells b.band g.band) [
  | inl t ↦ rw t.0 (ap (λ (l : List Block). b ∷ l) (all_of_band g blocks a.1))
  | inr t ↦ absurd (t.1 a.0)
]

-- and none
pub none_of_band : (g : Grid) (blocks : List Block) → AllByRecursion (λ (s : Seat). s.band ≢ g.band) (map seat_of blocks) → filter (of_band g) blocks ≡ []
none_of_band g [] a = refl
none_of_band g (b ∷ blocks) a = elim (eqb_tells b.band g.band) [
  | inl t ↦ absurd (a.0 t.1)
  | inr t ↦ rw t.0 (none_of_band g blocks a.1)
]

-- code-blocks of one band leave those of the others as they are
pub still_own : (g : Grid) (blocks own others : List Block) (gs : List Grid) → AllByRecursion (λ (s : Seat). s.band ≡ g.band) (map seat_of own)
    → AllByRecursion (λ (other : Grid). other.band ≢ g.band) gs
    → AllByRecursion (λ (other : Grid). filter (of_band other) blocks ≡ filter (of_band other) (own ++ others)) gs
    → AllByRecursion (λ (other : Grid). filter (of_band other) blocks ≡ filter (of_band other) others) gs
still_own g blocks own others [] a d f = tt
still_own g blocks own others (o ∷ gs) a d f =
    let none : filter (of_band o) own ≡ [] = none_of_band o own (all-map (λ (s : Seat). s.band ≡ g.band) (λ (s : Seat). s.band ≢ o.band) (map seat_of own) (λ s e t. d.0 (sym t ∙ e)) a) in
    (f.0 ∙ (filter-append (of_band o) own others ∙ ap (λ (l : List Block). l ++ filter (of_band o) others) none), still_own g blocks own others gs a d.1 f.1)

-- code-blocks of a band are those of the same code-blocks
pub same_own : (blocks : List Block) (gs : List Grid) → AllByRecursion (λ (g : Grid). filter (of_band g) blocks ≡ filter (of_band g) blocks) gs
same_own blocks [] = tt
same_own blocks (g ∷ gs) = (refl, same_own blocks gs)
