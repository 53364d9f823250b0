-- The code-blocks of a packet, as each of its grids sees them.
use Rattle.std.proofs.Common.{◌≡◌, ◌≢◌, ◌==◌, ◌++◌, Bool, true, false, List, [], ◌∷◌, map, refl, sym, ◌∙◌, ap, subst, inl, inr}
use Rattle.std.specs.List.{AllByRecursion, filter, flat_map}
use Rattle.std.proofs.lemmas.Bool.Decides.{eqb_tells}
use Rattle.std.proofs.lemmas.List.{append-nil}
use Rattle.std.proofs.lemmas.List.Elements.{filter-append}
use Rattle.codestream_model.specs.Values as values
use Rattle.codestream_model.specs.TagTrees.{Seat, IsSeat, seats, seat_of}
use Rattle.codestream_model.specs.PacketHeader.{HaveOwnBands, is_included, AreBlocks}
use Rattle.codestream_model.proofs.TreeLemmas.{either}
use Rattle.codestream_model.proofs.SeatLemmas.{all-map, all-filter, seats_are_seats}
use Rattle.codestream_model.proofs.BandLemmas.{band_of_seats, other_bands}
use Rattle.codestream_model.proofs.WrittenLemmas.{AreApart, grids_apart, apart-filter, stand_alone}
use Rattle.packet_header.specs.PositionsWritten.{AreOnGrid}

-- a position of a grid's band
abbrev of_band : values.Grid → Seat → Bool
of_band g s = s.band == g.band

-- positions of a band, and of other bands
all_chosen : (g : values.Grid) (ss : List Seat) → AllByRecursion (λ (s : Seat). s.band ≡ g.band) ss → filter (of_band g) ss ≡ ss
all_chosen g [] a = refl
all_chosen g (s ∷ ss) a = elim (eqb_tells s.band g.band) [
  | inl t ↦ rw t.0 (ap (λ (l : List Seat). s ∷ l) (all_chosen g ss a.1))
  | inr t ↦ absurd (t.1 a.0)
]

none_chosen : (g : values.Grid) (ss : List Seat) → AllByRecursion (λ (s : Seat). s.band ≢ g.band) ss → filter (of_band g) ss ≡ []
none_chosen g [] a = refl
none_chosen g (s ∷ ss) a = elim (eqb_tells s.band g.band) [
  | inl t ↦ absurd (a.0 t.1)
  | inr t ↦ rw t.0 (none_chosen g ss a.1)
]

-- a test before another, and one after it
chosen_twice : {X : Type 0} (p q : X → Bool) (xs : List X) → filter p (filter q xs) ≡ filter q (filter p xs)
chosen_twice {X} p q [] = refl
chosen_twice {X} p q (x ∷ xs) = elim (either (p x)) [
  | inl t ↦ elim (either (q x)) [
    | inl u ↦ rw (t, u, t) (ap (λ (l : List X). x ∷ l) (chosen_twice p q xs))
    | inr u ↦ rw (t, u) (chosen_twice p q xs)
  ]
  | inr t ↦ elim (either (q x)) [
    | inl u ↦ rw (t, u, t) (chosen_twice p q xs)
    | inr u ↦ rw (t, u) (chosen_twice p q xs)
  ]
]

-- the positions of code-blocks of a band
own_seats : (g : values.Grid) (blocks : List values.Block) → map seat_of (filter (λ x. x.band == g.band) blocks) ≡ filter (of_band g) (map seat_of blocks)
own_seats g [] = refl
own_seats g (b ∷ blocks) = elim (either (b.band == g.band)) [
  | inl t ↦ rw t (ap (λ (l : List Seat). seat_of b ∷ l) (own_seats g blocks))
  | inr t ↦ rw t (own_seats g blocks)
]

-- of the positions of all grids those of a grid's band are its own
first_grid : (g : values.Grid) (gs : List values.Grid) → AllByRecursion (λ (o : values.Grid). o.band ≢ g.band) gs → filter (of_band g) (flat_map seats (g ∷ gs)) ≡ seats g
first_grid g gs a =
    filter-append (of_band g) (seats g) (flat_map seats gs)
    ∙ (ap (λ (l : List Seat). l ++ filter (of_band g) (flat_map seats gs)) (all_chosen g (seats g) (band_of_seats g))
    ∙ (ap (λ (l : List Seat). seats g ++ l) (none_chosen g (flat_map seats gs) (other_bands g gs a)) ∙ append-nil (seats g)))

later_grid : (g : values.Grid) (xs : List values.Grid) (gs : List values.Grid) → AllByRecursion (λ (o : values.Grid). o.band ≢ g.band) gs
    → AllByRecursion (λ (o : values.Grid). filter (of_band o) (flat_map seats xs) ≡ seats o) gs → AllByRecursion (λ (o : values.Grid). filter (of_band o) (flat_map seats (g ∷ xs)) ≡ seats o) gs
later_grid g xs [] a f = tt
later_grid g xs (o ∷ gs) a f = (
  filter-append (of_band o) (seats g) (flat_map seats xs)
      ∙ (ap (λ (l : List Seat). l ++ filter (of_band o) (flat_map seats xs)) (none_chosen o (seats g) (all-map (λ (s : Seat). s.band ≡ g.band) (λ (s : Seat). s.band ≢ o.band) (seats g) (λ s e t. a.0 (sym t ∙ e)) (band_of_seats g)))
      ∙ f.0),
  later_grid g xs gs a.1 f.1,
)

own_grids : (gs : List values.Grid) → HaveOwnBands gs → AllByRecursion (λ (g : values.Grid). filter (of_band g) (flat_map seats gs) ≡ seats g) gs
own_grids [] h = tt
own_grids (g ∷ gs) h = (first_grid g gs h.0, later_grid g gs gs h.0 (own_grids gs h.1))

-- a fact of the positions of those that pass a test
of_chosen : {X Y : Type 0} (P : Y → Type 0) (f : X → Y) (p : X → Bool) (xs : List X) → AllByRecursion P (map f (filter p xs)) → AllByRecursion (λ x. p x ≡ true → P (f x)) xs
of_chosen P f p [] a = tt
of_chosen P f p (x ∷ xs) a = elim (either (p x)) [
  | inl t ↦ let b : P (f x) × AllByRecursion P (map f (filter p xs)) = rw t at a in ((λ e. b.0), of_chosen P f p xs b.1)
  | inr t ↦ let b : AllByRecursion P (map f (filter p xs)) = rw t at a in ((λ e. let no : true ≡ false = sym e ∙ t in absurd (cc)), of_chosen P f p xs b)
]

-- what a grid sees
is_on_grid : (g : values.Grid) (gs : List values.Grid) (blocks : List values.Block) → HaveOwnBands gs → AreBlocks gs blocks → filter (of_band g) (flat_map seats gs) ≡ seats g → AreOnGrid g blocks
is_on_grid g gs blocks bands are own =
    let mine : map seat_of (filter (λ x. x.band == g.band) blocks) ≡ filter (is_included blocks) (seats g) =
    own_seats g blocks ∙ (ap (filter (of_band g)) are.seated ∙ (chosen_twice (of_band g) (is_included blocks) (flat_map seats gs) ∙ ap (filter (is_included blocks)) own)) in
    let P : List Seat → Type 0 = λ l. AllByRecursion (IsSeat g) l in
    let A : List Seat → Type 0 = λ l. AreApart l in
    record {
      own_seats = mine;
      own_band = all-map (λ b. (b.band == g.band) ≡ true → IsSeat g (seat_of b)) (λ b. b.band ≡ g.band → IsSeat g (seat_of b)) blocks
          (λ b f e. f (elim (eqb_tells b.band g.band) [ inl t ↦ t.0 | inr t ↦ absurd (t.1 e) ]))
          (of_chosen (IsSeat g) seat_of (λ x. x.band == g.band) blocks (subst P (sym mine) (all-filter (IsSeat g) (is_included blocks) (seats g) (seats_are_seats g))));
      alone = stand_alone blocks (subst A (sym are.seated) (apart-filter (is_included blocks) (flat_map seats gs) (grids_apart gs bands)));
      limits = are.limits;
    }

-- what all grids see
pub all_on_grid : (gs : List values.Grid) (blocks : List values.Block) → HaveOwnBands gs → AreBlocks gs blocks → AllByRecursion (λ (g : values.Grid). AreOnGrid g blocks) gs
all_on_grid gs blocks bands are =
    all-map (λ (g : values.Grid). filter (of_band g) (flat_map seats gs) ≡ seats g) (λ (g : values.Grid). AreOnGrid g blocks) gs (λ g own. is_on_grid g gs blocks bands are own) (own_grids gs bands)
