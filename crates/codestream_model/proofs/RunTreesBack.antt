-- A run of a leaf of a tag tree are the pieces that labels give it, whatever labels agree with the nodes that are then known.
use Rattle.std.proofs.Common.{◌≡◌, ◌≢◌, ◌≤◌, ◌⊎◌, ◌+◌, ◌==◌, ◌&&◌, ℕ, zero, suc, Bool, true, false, not, List, [], ◌∷◌, Some, None, refl, sym, ◌∙◌, ap, subst, inl, inr, arith, if◌then◌else◌}
use Rattle.std.specs.List.{AllByRecursion, list_any}
use Rattle.std.proofs.lemmas.Bool.Decides.{eqb_tells}
use Rattle.codestream_model.specs.Values.{Grid}
use Rattle.codestream_model.specs.TagTrees.{Seat, IsSeat, Labels, NeverFalls, label, parent_label, root_level, shares, levels_from}
use Rattle.codestream_model.specs.HeaderPieces.{Piece, InclusionPiece, PlanesPiece}
use Rattle.codestream_model.specs.PacketHeaderReading.{Node, node_of, known_label, Walked}
use Rattle.codestream_model.proofs.TreeLemmas.{either, shared_parent, KnowsTree, keep_node, add_node}
use Rattle.codestream_model.proofs.WalkLemmas.{label-le, parent-le, parent_below, always, below_zero}
use Rattle.codestream_model.proofs.NodeLemmas.{Extends, AreNodes, IsAbove, node_own, add_extends, add_node_sound}
use Rattle.codestream_model.proofs.PieceRuns.{PlanesRun, bit_label, InclusionRun}
use Rattle.codestream_model.proofs.RunTrees.{planes_pieces, inclusion_pieces}

-- labels agree with all nodes that are known
abbrev pub Agrees : Labels → List Node → Type 0
Agrees labels nodes = (l : ℕ) (t : Seat) (v : ℕ) → known_label l t nodes ≡ Some v → label labels l t ≡ v

-- a label isn't below its parent's
abbrev pub IsUp : ℕ → ℕ → Type 0
IsUp u v = u ≤ v

-- a node below a label 0 has any
abbrev pub IsBelowZero : ℕ → ℕ → Type 0
IsBelowZero u v = u ≡ 0

-- the levels below this one, down to the leaves'
abbrev pub down : ℕ → List ℕ
down zero = []
down (suc n) = n ∷ down n

-- the levels from one down are those below the next
pub levels_down : (level : ℕ) → levels_from level ≡ down (suc level)
unfolding levels_from
levels_down zero = refl
levels_down (suc level) = ap (λ (l : List ℕ). suc level ∷ l) (levels_down level)

-- the label with which a walk comes to the levels below this one
abbrev pub entry : Grid → Labels → ℕ → Seat → ℕ
entry g labels zero s = label labels 0 s
entry g labels (suc n) s = parent_label g labels n s

-- a walk comes with the label of the node above, or with the leaf's
entry_is : (g : Grid) (labels : Labels) (n : ℕ) (s : Seat) → n ≤ root_level g → entry g labels n s ≡ label labels n s
entry_is g labels zero s h = refl
entry_is g labels (suc n) s h = parent_below g labels s n h

-- the label with which a walk comes is known, or it comes from above the root
abbrev pub IsEntry : ℕ → ℕ → Seat → ℕ → List Node → Type 0
IsEntry height n s from nodes = ((n ≡ suc height) × (from ≡ 0)) ⊎ (known_label n s nodes ≡ Some from)

-- a walk that comes to a level comes from above it
entry_above : (height n : ℕ) (s : Seat) (from : ℕ) (nodes : List Node) → IsEntry height (suc n) s from nodes → IsAbove height n s from nodes
entry_above height n s from nodes (inl t) = inl (omega (arith, t.0), t.1)
entry_above height n s from nodes (inr e) =
    let next : suc n ≡ n + 1 = omega arith in
    let P : ℕ → Type 0 = λ k. known_label k s nodes ≡ Some from in
    inr (subst P next e)

-- the nodes of a value tree never fall, whatever bounds their labels
abbrev pub AreBelow : ℕ → List Node → Type 0
AreBelow limit nodes = AllByRecursion (λ (n : Node). n.label ≤ limit) nodes

-- nodes of which none is below its parent
abbrev pub NodesRise : ℕ → List Node → Type 0
NodesRise height nodes = (limit : ℕ) → AreBelow limit nodes → AreNodes height limit IsUp nodes

-- what a run of a leaf of the value tree is
pub record PlanesBack (g : Grid) (s : Seat) (n from : ℕ) (nodes : List Node) (ps : List Piece) (w : Walked) : Type 0 where
  pub extends : Extends nodes w.nodes
  pub leaf : known_label 0 s w.nodes ≡ Some w.label
  pub rise : NodesRise (root_level g) w.nodes
  pub given : (labels : Labels) (among : List Seat) (first : ℕ → Bool) → Agrees labels w.nodes → from ≡ entry g labels n s → ((l : ℕ) → first l ≡ not (list_any (shares l s) among))
      → KnowsTree (root_level g) always labels among s n nodes
      → (ps ≡ planes_pieces g labels s first (down n)) × KnowsTree (root_level g) always labels among s 0 w.nodes

-- a run of a leaf of the value tree
pub planes_back : (g : Grid) (s : Seat) (n from : ℕ) (nodes : List Node) (ps : List Piece) (w : Walked) → n ≤ suc (root_level g) → NodesRise (root_level g) nodes → IsEntry (root_level g) n s from nodes
    → PlanesRun (down n) s from nodes ps w → PlanesBack g s n from nodes ps w
planes_back g s zero from nodes ps w h rise is (none, e) =
    let P : Walked → Type 0 = λ x. PlanesBack g s 0 from nodes ps x in
    let known : known_label 0 s nodes ≡ Some from = elim is [ inl t ↦ absurd (omega (arith, t.0)) | inr t ↦ t ] in
    subst P (sym e) (record { extends = λ l t v f. f; leaf = known; rise = rise; given = λ labels among first agrees up p tree. (none, tree) })
planes_back g s (suc n) from nodes ps w h rise is (inl (value, e, run)) =
    let r = planes_back g s n value nodes ps w (omega arith) rise (inr e) run in
    record {
      extends = r.extends;
      leaf = r.leaf;
      rise = r.rise;
      given = λ labels among first agrees up p tree.
          let before = tree.lower n s (omega arith) (omega arith) in
          let met : list_any (shares n s) among ≡ true = elim (either (list_any (shares n s) among)) [
            | inl t ↦ t
            | inr t ↦ let c : Some value ≡ None = sym e ∙ (before ∙ ap (λ (b : Bool). if b && true then Some (label labels n s) else None) t) in absurd (cc)
          ] in
          let old : first n ≡ false = p n ∙ ap not met in
          let here : value ≡ entry g labels n s = sym (entry_is g labels n s (omega arith) ∙ agrees n s value (r.extends n s value e)) in
          let next = r.given labels among first agrees here p (keep_node (root_level g) always labels among s n nodes (λ t f. refl) tree (inl met)) in
          let same : planes_pieces g labels s first (n ∷ down n) ≡ planes_pieces g labels s first (down n) = rw old refl in
          (next.0 ∙ sym same, next.1);
    }
planes_back g s (suc n) from nodes ps w h rise is (inr (value, more, e, up, whole, run)) =
    let after = node_of n s value ∷ nodes in
    let rise' : NodesRise (root_level g) after = λ limit low. add_node_sound (root_level g) limit IsUp n value from s nodes e (rise limit low.1) (entry_above (root_level g) n s from nodes is) low.0 up in
    let known : known_label n s after ≡ Some value = node_own n value s nodes in
    let r = planes_back g s n value after more w (omega arith) rise' (inr known) run in
    record {
      extends = λ l t v f. r.extends l t v (add_extends n value s nodes e l t v f);
      leaf = r.leaf;
      rise = r.rise;
      given = λ labels among first agrees come p tree.
          let before = tree.lower n s (omega arith) (omega arith) in
          let met : list_any (shares n s) among ≡ false = elim (either (list_any (shares n s) among)) [
            | inr u ↦ u
            | inl u ↦ let c : None ≡ Some (label labels n s) = sym e ∙ (before ∙ ap (λ (b : Bool). if b && true then Some (label labels n s) else None) u) in absurd (cc)
          ] in
          let new : first n ≡ true = p n ∙ ap not met in
          let is_label : label labels n s ≡ value = agrees n s value (r.extends n s value known) in
          let here : value ≡ entry g labels n s = sym (entry_is g labels n s (omega arith) ∙ is_label) in
          let N : ℕ → Type 0 = λ k. KnowsTree (root_level g) always labels among s n (node_of n s k ∷ nodes) in
          let next = r.given labels among first agrees here p (subst N is_label (add_node (root_level g) always labels among s n nodes (λ x f. refl) tree refl)) in
          let same : planes_pieces g labels s first (n ∷ down n) ≡ PlanesPiece (record { from = from; to = value }) ∷ planes_pieces g labels s first (down n) = rw (new, ← come, is_label) refl in
          (whole ∙ (ap (λ (l : List Piece). PlanesPiece (record { from = from; to = value }) ∷ l) next.0 ∙ sym same), next.1);
    }

-- the label of a bit
label_is : (b : Bool) → (bit_label b ≤ 1) × ((bit_label b == 0) ≡ b)
label_is true = (omega arith, refl)
label_is false = (omega arith, refl)

-- what a run of a leaf of the inclusion tree is
pub record InclusionBack (g : Grid) (s : Seat) (n from : ℕ) (nodes : List Node) (ps : List Piece) (w : Walked) : Type 0 where
  pub extends : Extends nodes w.nodes
  pub sound : AreNodes (root_level g) 1 IsBelowZero w.nodes
  pub small : w.label ≤ 1
  pub given : (labels : Labels) (among : List Seat) (first : ℕ → Bool) → NeverFalls g labels → IsSeat g s → label labels 0 s ≤ 1
      → Agrees labels w.nodes → from ≡ entry g labels n s → ((l : ℕ) → first l ≡ not (list_any (shares l s) among))
      → KnowsTree (root_level g) (below_zero g labels) labels among s n nodes
      → (ps ≡ inclusion_pieces g labels s first (down n)) × KnowsTree (root_level g) (below_zero g labels) labels among s 0 w.nodes
  pub same : (labels : Labels) → NeverFalls g labels → IsSeat g s → label labels 0 s ≤ 1 → Agrees labels w.nodes → from ≡ entry g labels n s → w.label ≡ label labels 0 s

-- a run of a leaf of the inclusion tree
pub inclusion_back : (g : Grid) (s : Seat) (n from : ℕ) (nodes : List Node) (ps : List Piece) (w : Walked) → n ≤ suc (root_level g)
    → AreNodes (root_level g) 1 IsBelowZero nodes → (from ≡ 0 → IsEntry (root_level g) n s from nodes) → from ≤ 1 → InclusionRun (down n) s from nodes ps w
    → InclusionBack g s n from nodes ps w
inclusion_back g s zero from nodes ps w h are is small (none, e) =
    let P : Walked → Type 0 = λ x. InclusionBack g s 0 from nodes ps x in
    subst P (sym e) (record {
      extends = λ l t v f. f;
      sound = are;
      small = small;
      given = λ labels among first never i low agrees up p tree. (none, tree);
      same = λ labels never i low agrees up. up;
    })
inclusion_back g s (suc n) from nodes ps w h are is small (inl (value, e, run)) =
    let r = inclusion_back g s n value nodes ps w (omega arith) are (λ z. inr e) (are n s value e).0 run in
    let here = λ (labels : Labels) (agrees : Agrees labels w.nodes). let k : value ≡ entry g labels n s = sym (entry_is g labels n s (omega arith) ∙ agrees n s value (r.extends n s value e)) in k in
    record {
      extends = r.extends;
      sound = r.sound;
      small = r.small;
      given = λ labels among first never i low agrees up p tree.
          let before = tree.lower n s (omega arith) (omega arith) in
          let met : list_any (shares n s) among ≡ true = elim (either (list_any (shares n s) among)) [
            | inl t ↦ t
            | inr t ↦ let c : Some value ≡ None = sym e ∙ (before ∙ ap (λ (b : Bool). if b && (parent_label g labels n s == 0) then Some (label labels n s) else None) t) in absurd (cc)
          ] in
          let old : first n ≡ false = p n ∙ ap not met in
          let even = λ (t : Seat) (f : shares n t s ≡ true). ap (λ (k : ℕ). k == 0) (shared_parent g labels n t s f) in
          let next = r.given labels among first never i low agrees (here labels agrees) p (keep_node (root_level g) (below_zero g labels) labels among s n nodes even tree (inl met)) in
          let fewer : inclusion_pieces g labels s first (n ∷ down n) ≡ inclusion_pieces g labels s first (down n) = rw old refl in
          (next.0 ∙ sym fewer, next.1);
      same = λ labels never i low agrees up. r.same labels never i low agrees (here labels agrees);
    }
inclusion_back g s (suc n) from nodes ps w h are is small (inr (inl (e, z, run))) =
    let ne : from ≢ 0 = λ f. let c : false ≡ true = sym z ∙ ap (λ (k : ℕ). k == 0) f in cc in
    let r = inclusion_back g s n from nodes ps w (omega arith) are (λ f. absurd (ne f)) small run in
    let here = λ (labels : Labels) (never : NeverFalls g labels) (i : IsSeat g s) (low : label labels 0 s ≤ 1) (up : from ≡ parent_label g labels n s).
    let most : label labels n s ≤ 1 = omega (arith, label-le g labels s never i n (omega arith)) in
    let least : parent_label g labels n s ≤ label labels n s = parent-le g labels s never i n (omega arith) in
    let equal : from ≡ label labels n s = omega arith in
    let k : from ≡ entry g labels n s = equal ∙ sym (entry_is g labels n s (omega arith)) in
    k in
    record {
      extends = r.extends;
      sound = r.sound;
      small = r.small;
      given = λ labels among first never i low agrees up p tree.
          let above_no : (parent_label g labels n s == 0) ≡ false = ap (λ (k : ℕ). k == 0) (sym up) ∙ z in
          let even = λ (t : Seat) (f : shares n t s ≡ true). ap (λ (k : ℕ). k == 0) (shared_parent g labels n t s f) in
          let next = r.given labels among first never i low agrees (here labels never i low up) p (keep_node (root_level g) (below_zero g labels) labels among s n nodes even tree (inr above_no)) in
          let fewer : inclusion_pieces g labels s first (n ∷ down n) ≡ inclusion_pieces g labels s first (down n) = elim (either (first n)) [ inl f ↦ rw (f, above_no) refl | inr f ↦ rw f refl ] in
          (next.0 ∙ sym fewer, next.1);
      same = λ labels never i low agrees up. r.same labels never i low agrees (here labels never i low up);
    }
inclusion_back g s (suc n) from nodes ps w h are is small (inr (inr (b, more, e, z, whole, run))) =
    let value = bit_label b in
    let bl = label_is b in
    let after = node_of n s value ∷ nodes in
    let from_zero : from ≡ 0 = elim (eqb_tells from 0) [ inl t ↦ t.1 | inr t ↦ let c : true ≡ false = sym z ∙ t.0 in absurd (cc) ] in
    let are' : AreNodes (root_level g) 1 IsBelowZero after = add_node_sound (root_level g) 1 IsBelowZero n value from s nodes e are (entry_above (root_level g) n s from nodes (is from_zero)) bl.0 from_zero in
    let known : known_label n s after ≡ Some value = node_own n value s nodes in
    let r = inclusion_back g s n value after more w (omega arith) are' (λ f. inr known) bl.0 run in
    let is_label = λ (labels : Labels) (agrees : Agrees labels w.nodes). let k : label labels n s ≡ value = agrees n s value (r.extends n s value known) in k in
    let here = λ (labels : Labels) (agrees : Agrees labels w.nodes). let k : value ≡ entry g labels n s = sym (entry_is g labels n s (omega arith) ∙ is_label labels agrees) in k in
    record {
      extends = λ l t v f. r.extends l t v (add_extends n value s nodes e l t v f);
      sound = r.sound;
      small = r.small;
      given = λ labels among first never i low agrees up p tree.
          let before = tree.lower n s (omega arith) (omega arith) in
          let above_yes : (parent_label g labels n s == 0) ≡ true = ap (λ (k : ℕ). k == 0) (sym up) ∙ z in
          let met : list_any (shares n s) among ≡ false = elim (either (list_any (shares n s) among)) [
            | inr u ↦ u
            | inl u ↦
                let c : None ≡ Some (label labels n s) = sym e ∙ (before ∙ (ap (λ (x : Bool). if x && (parent_label g labels n s == 0) then Some (label labels n s) else None) u
                ∙ ap (λ (x : Bool). if x then Some (label labels n s) else None) above_yes)) in
                absurd (cc)
          ] in
          let new : first n ≡ true = p n ∙ ap not met in
          let even = λ (x : Seat) (f : shares n x s ≡ true). ap (λ (k : ℕ). k == 0) (shared_parent g labels n x s f) in
          let bit_is : (label labels n s == 0) ≡ b = ap (λ (k : ℕ). k == 0) (is_label labels agrees) ∙ bl.1 in
          let N : ℕ → Type 0 = λ k. KnowsTree (root_level g) (below_zero g labels) labels among s n (node_of n s k ∷ nodes) in
          let tree' = subst N (is_label labels agrees) (add_node (root_level g) (below_zero g labels) labels among s n nodes even tree above_yes) in
          let next = r.given labels among first never i low agrees (here labels agrees) p tree' in
          let all : inclusion_pieces g labels s first (n ∷ down n) ≡ InclusionPiece b ∷ inclusion_pieces g labels s first (down n) = rw (new, above_yes, bit_is) refl in
          (whole ∙ (ap (λ (l : List Piece). InclusionPiece b ∷ l) next.0 ∙ sym all), next.1);
      same = λ labels never i low agrees up. r.same labels never i low agrees (here labels agrees);
    }
