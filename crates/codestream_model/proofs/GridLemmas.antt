-- What is needed of a grid to go through its positions, and what is known after some of them.
use Rattle.std.proofs.Common.{◌≡◌, ◌≤◌, ◌==◌, ◌&&◌, ℕ, suc, Bool, true, not, List, [], ◌∷◌, ◌++◌, map, refl, ◌∙◌, ap, inl, inr, arith}
use Rattle.std.specs.List.{filter, list_any}
use Rattle.std.proofs.lemmas.Bool.{and_parts}
use Rattle.std.proofs.lemmas.Bool.Decides.{eqb_tells}
use Rattle.codestream_model.specs.Values.{Grid, Block}
use Rattle.codestream_model.specs.TagTrees.{Seat, Labels, NeverFalls, seats, seat_of, parent_label, root_level, shares, is_first}
use Rattle.codestream_model.specs.HeaderPieces.{Choices, stands_at}
use Rattle.codestream_model.specs.PacketHeader.{is_included, LabelsInclusion}
use Rattle.codestream_model.specs.PacketHeaderReading.{Node, known_label}
use Rattle.codestream_model.proofs.TreeLemmas.{AreDistinct, expected, KnowsTree, first_is}
use Rattle.codestream_model.proofs.SeatLemmas.{distinct-filter, seats_distinct, filter_within, one_stands}

-- what is known of a tree of this height after some leaves
abbrev pub KnowsBehind : ℕ → (ℕ → Seat → Bool) → Labels → List Seat → List Node → Type 0
KnowsBehind height gives labels among nodes = (l : ℕ) (t : Seat) → l ≤ height → known_label l t nodes ≡ expected gives labels among l t

-- it is what is known before the next leaf is read,
pub next_leaf : (height : ℕ) (gives : ℕ → Seat → Bool) (labels : Labels) (among : List Seat) (s : Seat) (nodes : List Node) → KnowsBehind height gives labels among nodes → KnowsTree height gives labels among s (suc height) nodes
next_leaf height gives labels among s nodes k = record {
  upper = λ l t low high. absurd (omega arith);
  lower = λ l t low high. k l t high;
}

-- and when it is read
pub leaf_known : (height : ℕ) (gives : ℕ → Seat → Bool) (labels : Labels) (among : List Seat) (s : Seat) (nodes : List Node) → KnowsTree height gives labels among s 0 nodes → KnowsBehind height gives labels (among ++ s ∷ []) nodes
leaf_known height gives labels among s nodes k = λ l t h. k.upper l t (omega arith) h

-- the root's parent has label 0
pub root_parent : (g : Grid) (labels : Labels) (s : Seat) → parent_label g labels (root_level g) s ≡ 0
root_parent g labels s = elim (eqb_tells (root_level g) (root_level g)) [
  | inl t ↦ rw t.0 refl
  | inr t ↦ absurd (t.1 refl)
]

-- what is needed of a grid
pub record IsGrid (g : Grid) (choices : Choices) (blocks own : List Block) : Type 0 where
  pub inclusion : LabelsInclusion blocks (choices.inclusion g.band) g
  pub planes : NeverFalls g (choices.planes g.band)
  pub own_blocks : filter (λ x. x.band == g.band) blocks ≡ own
  pub own_seats : map seat_of own ≡ filter (is_included blocks) (seats g)

-- the nodes that a position of the grid is the first to meet
pub first_here : (g : Grid) (earlier more : List Seat) (s : Seat) → seats g ≡ earlier ++ s ∷ more → (l : ℕ) → is_first l s (seats g) ≡ not (list_any (shares l s) earlier)
first_here g earlier more s e l =
    let d : AreDistinct (earlier ++ s ∷ more) = rw e at (seats_distinct g) in
    rw e (first_is l s earlier more d)

-- a code-block that is at a position of the grid is there alone
pub alone : (g : Grid) (choices : Choices) (blocks own done left : List Block) (b : Block) → IsGrid g choices blocks own → own ≡ done ++ b ∷ left → b.band ≡ g.band → filter (stands_at (seat_of b)) blocks ≡ b ∷ []
alone g choices blocks own done left b is o band =
    let d : AreDistinct (map seat_of own) = rw is.own_seats (distinct-filter (is_included blocks) (seats g) (seats_distinct g)) in
    let d' : AreDistinct (map seat_of (done ++ b ∷ left)) = rw o at d in
    let weaker = λ (x : Block) (t : stands_at (seat_of b) x ≡ true). let p = and_parts (x.band == b.band) ((x.col == b.col) && (x.row == b.row)) t in let q : (x.band == g.band) ≡ true = rw band at p.0 in q in
    filter_within (stands_at (seat_of b)) (λ x. x.band == g.band) blocks weaker
    ∙ (ap (filter (stands_at (seat_of b))) (is.own_blocks ∙ o) ∙ one_stands b done left d')
