-- The pieces that labels give a leaf of a tag tree are a run.
use Rattle.std.proofs.Common.{◌≡◌, ◌≢◌, ◌≤◌, ◌==◌, ◌&&◌, ℕ, zero, suc, Bool, true, false, not, List, [], ◌∷◌, map, Some, None, refl, sym, ◌∙◌, ap, subst, inl, inr, arith, if◌then◌else◌}
use Rattle.std.specs.List.{filter, flat_map, list_any}
use Rattle.std.proofs.lemmas.Bool.Decides.{eqb_tells}
use Rattle.codestream_model.specs.Values.{Grid}
use Rattle.codestream_model.specs.TagTrees.{Seat, IsSeat, Labels, NeverFalls, label, parent_label, root_level, shares, levels_from}
use Rattle.codestream_model.specs.HeaderPieces.{Piece, InclusionPiece, PlanesPiece}
use Rattle.codestream_model.specs.PacketHeaderReading.{Node, node_of, known_label, Walked}
use Rattle.codestream_model.proofs.TreeLemmas.{either, shared_parent, KnowsTree, keep_node, add_node, and_false}
use Rattle.codestream_model.proofs.WalkLemmas.{label-le, parent-le, parent_below, always, below_zero}
use Rattle.codestream_model.proofs.PieceRuns.{PlanesRun, bit_label, InclusionRun}

-- the pieces of a leaf of the value tree, down these levels, of which these are met first
abbrev pub planes_pieces : Grid → Labels → Seat → (ℕ → Bool) → List ℕ → List Piece
planes_pieces g labels s first levels = map PlanesPiece (map (λ level. record { from = parent_label g labels level s; to = label labels level s }) (filter first levels))

-- one node of a leaf of the value tree
planes_step : (g : Grid) (labels : Labels) (among : List Seat) (s : Seat) (first : ℕ → Bool) (level : ℕ) (more : List ℕ) (nodes : List Node)
    → NeverFalls g labels → IsSeat g s → level ≤ root_level g
    → first level ≡ not (list_any (shares level s) among)
    → KnowsTree (root_level g) always labels among s (suc level) nodes
    → (after : List Node) × KnowsTree (root_level g) always labels among s level after
    × ((w : Walked) → PlanesRun more s (label labels level s) after (planes_pieces g labels s first more) w
    → PlanesRun (level ∷ more) s (parent_label g labels level s) nodes (planes_pieces g labels s first (level ∷ more)) w)
planes_step g labels among s first level more nodes never i h p k =
    let from = parent_label g labels level s in
    let to = label labels level s in
    let W = λ (ps : List Piece) (w : Walked). PlanesRun (level ∷ more) s from nodes ps w in
    elim (either (list_any (shares level s) among)) [
      | inl met ↦
          let known : known_label level s nodes ≡ Some to = k.lower level s (omega arith) h ∙ ap (λ (b : Bool). if b && true then Some to else None) met in
          let old : first level ≡ false = p ∙ ap not met in
          let same : planes_pieces g labels s first (level ∷ more) ≡ planes_pieces g labels s first more = rw old refl in (
            nodes,
            keep_node (root_level g) always labels among s level nodes (λ t e. refl) k (inl met),
            λ w run. let P : List Piece → Type 0 = λ ps. W ps w in subst P (sym same) (inl (to, known, run)),
          )
      | inr met ↦
          let known : known_label level s nodes ≡ None = k.lower level s (omega arith) h ∙ ap (λ (b : Bool). if b && true then Some to else None) met in
          let new : first level ≡ true = p ∙ ap not met in
          let same : planes_pieces g labels s first (level ∷ more) ≡ PlanesPiece (record { from = from; to = to }) ∷ planes_pieces g labels s first more = rw new refl in
          let up : from ≤ to = parent-le g labels s never i level h in (
            node_of level s to ∷ nodes,
            add_node (root_level g) always labels among s level nodes (λ t e. refl) k refl,
            λ w run. let P : List Piece → Type 0 = λ ps. W ps w in subst P (sym same) (inr (to, planes_pieces g labels s first more, known, up, refl, run)),
          )
    ]

-- a leaf of the value tree, from a level down
pub planes_run : (g : Grid) (labels : Labels) (among : List Seat) (s : Seat) (first : ℕ → Bool) (level : ℕ) (nodes : List Node)
    → NeverFalls g labels → IsSeat g s → level ≤ root_level g
    → ((l : ℕ) → first l ≡ not (list_any (shares l s) among))
    → KnowsTree (root_level g) always labels among s (suc level) nodes
    → (after : List Node) × KnowsTree (root_level g) always labels among s 0 after
    × PlanesRun (levels_from level) s (parent_label g labels level s) nodes (planes_pieces g labels s first (levels_from level)) (record { label = label labels 0 s; nodes = after })
unfolding levels_from
planes_run g labels among s first zero nodes never i h p k =
    let step = planes_step g labels among s first 0 [] nodes never i h (p 0) k in
    (step.0, step.1, step.2 (record { label = label labels 0 s; nodes = step.0 }) (refl, refl))
planes_run g labels among s first (suc level) nodes never i h p k =
    let step = planes_step g labels among s first (suc level) (levels_from level) nodes never i h (p (suc level)) k in
    let more = planes_run g labels among s first level step.0 never i (omega arith) p step.1 in
    let w : Walked = record { label = label labels 0 s; nodes = more.0 } in
    let e : parent_label g labels level s ≡ label labels (suc level) s = parent_below g labels s level h in
    let P : ℕ → Type 0 = λ n. PlanesRun (levels_from level) s n step.0 (planes_pieces g labels s first (levels_from level)) w in
    (more.0, more.1, step.2 w (subst P e more.2))

-- the pieces of a leaf of the inclusion tree, down these levels, of which these are met first
abbrev pub inclusion_pieces : Grid → Labels → Seat → (ℕ → Bool) → List ℕ → List Piece
inclusion_pieces g labels s first levels =
    map InclusionPiece (flat_map (λ level. if parent_label g labels level s == 0 then (label labels level s == 0) ∷ [] else []) (filter first levels))

-- a label that is 0 or 1 is what its bit says
label_of_bit : (n : ℕ) → n ≤ 1 → bit_label (n == 0) ≡ n
label_of_bit n h = elim (eqb_tells n 0) [
  | inl t ↦ rw t.0 (sym t.1)
  | inr t ↦ let ne : n ≢ 0 = t.1 in rw t.0 (omega arith)
]

-- one node of a leaf of the inclusion tree
inclusion_step : (g : Grid) (labels : Labels) (among : List Seat) (s : Seat) (first : ℕ → Bool) (level : ℕ) (more : List ℕ) (nodes : List Node)
    → NeverFalls g labels → IsSeat g s → label labels 0 s ≤ 1 → level ≤ root_level g
    → first level ≡ not (list_any (shares level s) among)
    → KnowsTree (root_level g) (below_zero g labels) labels among s (suc level) nodes
    → (after : List Node) × KnowsTree (root_level g) (below_zero g labels) labels among s level after
    × ((w : Walked) → InclusionRun more s (label labels level s) after (inclusion_pieces g labels s first more) w
    → InclusionRun (level ∷ more) s (parent_label g labels level s) nodes (inclusion_pieces g labels s first (level ∷ more)) w)
inclusion_step g labels among s first level more nodes never i small h p k =
    let from = parent_label g labels level s in
    let to = label labels level s in
    let up : from ≤ to = parent-le g labels s never i level h in
    let top : to ≤ 1 = omega (arith, label-le g labels s never i level h) in
    let before = k.lower level s (omega arith) h in
    let same = λ (t : Seat) (e : shares level t s ≡ true). ap (λ (n : ℕ). n == 0) (shared_parent g labels level t s e) in
    let rest = inclusion_pieces g labels s first more in
    let W = λ (ps : List Piece) (w : Walked). InclusionRun (level ∷ more) s from nodes ps w in
    elim (eqb_tells from 0) [
      | inr t ↦
          let ne : from ≢ 0 = t.1 in
          let known : known_label level s nodes ≡ None = before ∙ ap (λ (b : Bool). if b then Some to else None) (ap (λ (b : Bool). list_any (shares level s) among && b) t.0 ∙ and_false (list_any (shares level s) among)) in
          let pieces : inclusion_pieces g labels s first (level ∷ more) ≡ rest = elim (either (first level)) [
            | inl f ↦ rw (f, t.0) refl
            | inr f ↦ rw f refl
          ] in
          let equal : to ≡ from = omega arith in (
            nodes,
            keep_node (root_level g) (below_zero g labels) labels among s level nodes same k (inr t.0),
            λ w run.
                let P : List Piece → Type 0 = λ ps. W ps w in
                let Q : ℕ → Type 0 = λ n. InclusionRun more s n nodes rest w in
                subst P (sym pieces) (inr (inl (known, t.0, subst Q equal run))),
          )
      | inl t ↦ elim (either (list_any (shares level s) among)) [
        | inl met ↦
            let known : known_label level s nodes ≡ Some to = before ∙ (ap (λ (b : Bool). if b && (from == 0) then Some to else None) met ∙ ap (λ (b : Bool). if b then Some to else None) t.0) in
            let old : first level ≡ false = p ∙ ap not met in
            let pieces : inclusion_pieces g labels s first (level ∷ more) ≡ rest = rw old refl in (
              nodes,
              keep_node (root_level g) (below_zero g labels) labels among s level nodes same k (inl met),
              λ w run. let P : List Piece → Type 0 = λ ps. W ps w in subst P (sym pieces) (inl (to, known, run)),
            )
        | inr met ↦
            let known : known_label level s nodes ≡ None = before ∙ ap (λ (b : Bool). if b && (from == 0) then Some to else None) met in
            let new : first level ≡ true = p ∙ ap not met in
            let pieces : inclusion_pieces g labels s first (level ∷ more) ≡ InclusionPiece (to == 0) ∷ rest = rw (new, t.0) refl in
            let value : bit_label (to == 0) ≡ to = label_of_bit to top in (
              node_of level s to ∷ nodes,
              add_node (root_level g) (below_zero g labels) labels among s level nodes same k t.0,
              λ w run.
                  let P : List Piece → Type 0 = λ ps. W ps w in
                  let Q : ℕ → Type 0 = λ n. InclusionRun more s n (node_of level s n ∷ nodes) rest w in
                  subst P (sym pieces) (inr (inr (to == 0, rest, known, t.0, refl, subst Q (sym value) run))),
            )
      ]
    ]

-- a leaf of the inclusion tree, from a level down
pub inclusion_run : (g : Grid) (labels : Labels) (among : List Seat) (s : Seat) (first : ℕ → Bool) (level : ℕ) (nodes : List Node)
    → NeverFalls g labels → IsSeat g s → label labels 0 s ≤ 1 → level ≤ root_level g
    → ((l : ℕ) → first l ≡ not (list_any (shares l s) among))
    → KnowsTree (root_level g) (below_zero g labels) labels among s (suc level) nodes
    → (after : List Node) × KnowsTree (root_level g) (below_zero g labels) labels among s 0 after
    × InclusionRun (levels_from level) s (parent_label g labels level s) nodes (inclusion_pieces g labels s first (levels_from level)) (record { label = label labels 0 s; nodes = after })
unfolding levels_from
inclusion_run g labels among s first zero nodes never i small h p k =
    let step = inclusion_step g labels among s first 0 [] nodes never i small h (p 0) k in
    (step.0, step.1, step.2 (record { label = label labels 0 s; nodes = step.0 }) (refl, refl))
inclusion_run g labels among s first (suc level) nodes never i small h p k =
    let step = inclusion_step g labels among s first (suc level) (levels_from level) nodes never i small h (p (suc level)) k in
    let more = inclusion_run g labels among s first level step.0 never i small (omega arith) p step.1 in
    let w : Walked = record { label = label labels 0 s; nodes = more.0 } in
    let e : parent_label g labels level s ≡ label labels (suc level) s = parent_below g labels s level h in
    let P : ℕ → Type 0 = λ n. InclusionRun (levels_from level) s n step.0 (inclusion_pieces g labels s first (levels_from level)) w in
    (more.0, more.1, step.2 w (subst P e more.2))
