-- Nothing is known of a tree whose nodes were all cleared.
use Rattle.std.proofs.Common.{◌≡◌, ◌<◌, ◌≤◌, ◌*◌, ◌++◌, ℕ, max, Bool, true, false, List, take, drop, replicate, slice_index_or, inl, inr, sym, ◌∙◌, ap, subst, append_assoc, arith}
use Rattle.std.proofs.lemmas.Grind.{common_steps}
use Rattle.codestream_model.specs.TagTrees.{exponent}
use Rattle.tag_tree.specs.TreeState.{TreeState, nodes_of}
use Rattle.tag_tree.proofs.PlaceLemmas.{place_in_list}
use Rattle.tag_tree.proofs.KnowLemmas.{knows_nothing, cleared}
use Rattle.tag_tree.proofs.tree.Tree.reset.Goals as goal
use Rattle.tag_tree.proofs.tree.Tree.reset.Goals.{then-rows-eq0, else-rows-eq0}

-- the nodes of the grid were cleared
front : (c : goal.After-self-5-1) (len place : ℕ) (rest : List Bool) → place < nodes_of (c.args.cols * c.args.rows) → slice_index_or (take len (c.clear.new.met ++ rest)) place false ≡ false
front c len place rest h =
    let n = c.most_nodes-nodes.result in
    let bits_after = drop n c.deref_mut.result.now in
    let P : List Bool → Type 0 = λ l. slice_index_or (take len l) place false ≡ false in
    let joined : c.clear.new.met ++ rest ≡ replicate n false ++ (bits_after ++ rest) = ap (λ (l : List Bool). l ++ rest) c.clear.ensures ∙ append_assoc (replicate n false) bits_after rest in
    subst P (sym joined) (cleared n len place (bits_after ++ rest) (omega (arith, h, c.most_nodes-nodes.ensures)))

-- no root is above level 16
low_root : (c : goal.After-self-5-1) → c.if-rows-eq0.self ≤ 16
low_root c = elim c.if-rows-eq0.branch [
  | then-rows-eq0 w ↦ omega (arith, w.self-is)
  | else-rows-eq0 w ↦ omega (arith, w.self-is, w.exponent_of-self-inside.ensures.low)
]

pub returns-clause-empty : goal.returns-clause-empty
returns-clause-empty c = knows_nothing _ (λ level s h u low. front c _ _ _ (place_in_list c.args.cols c.args.rows level s.col s.row (c.args.cols * c.args.rows) h u (omega (arith, low, low_root c)) (omega arith)))

-- the root's level
root_is : (c : goal.After-self-5-1) → 0 < c.args.cols → 0 < c.args.rows → c.if-rows-eq0.self ≡ exponent (max c.args.cols c.args.rows)
root_is c some more = elim c.if-rows-eq0.branch [
  | then-rows-eq0 w ↦ absurd (elim w.if-rows-eq0.either [ inl e ↦ omega (arith, e, some) | inr e ↦ omega (arith, e, more) ])
  | else-rows-eq0 w ↦ w.self-is ∙ (w.exponent_of-self-inside.ensures.least ∙ ap exponent w.max.ensures)
]

pub invariant_of-self : goal.invariant_of-self
invariant_of-self c = (
  c.self.invariant.0,
  omega (arith, c.requires, ap (λ (t : TreeState). t.leaves) c.self.view_is),
  c.self.invariant.2,
  grind (arith, common_steps),
  low_root c,
  root_is c,
  c.bases-self-inside.ensures,
  λ level col row h u low met. absurd (
      let n = front c _ _ _ (place_in_list c.args.cols c.args.rows level col row (c.args.cols * c.args.rows) h u (omega (arith, low, low_root c)) (omega arith)) in
      let e : false ≡ true = sym n ∙ met in cc),
)
