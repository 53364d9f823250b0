-- The nodes of a tag tree that are known: what is added to them, and what labels they leave.
use Rattle.std.proofs.Common.{◌≡◌, ◌<◌, ◌≤◌, ◌⊎◌, ◌+◌, ◌/◌, ◌^◌, ◌==◌, ◌&&◌, ℕ, true, false, List, [], ◌∷◌, Option, Some, None, refl, sym, ◌∙◌, ap, subst, inl, inr, arith, if◌then◌else◌}
use Rattle.std.proofs.lemmas.Bool.Decides.{eqb_tells}
use Rattle.codestream_model.specs.Values.{Grid}
use Rattle.codestream_model.specs.TagTrees.{Seat, Labels, NeverFalls, label, root_level, shares}
use Rattle.codestream_model.specs.PacketHeaderReading.{Node, node_of, known_label}
use Rattle.codestream_model.proofs.TreeLemmas.{either, same_number, shared, above}

-- what is known of a shared node
known_same : (level : ℕ) (t s : Seat) (nodes : List Node) → (t.col / 2 ^ level ≡ s.col / 2 ^ level) × (t.row / 2 ^ level ≡ s.row / 2 ^ level) → known_label level t nodes ≡ known_label level s nodes
unfolding known_label
known_same level t s [] p = refl
known_same level t s (n ∷ nodes) p = rw (p.0, p.1, known_same level t s nodes p) refl

-- what is known after a node that is added
node_hit : (level v : ℕ) (s t : Seat) (nodes : List Node) → shares level t s ≡ true → known_label level t (node_of level s v ∷ nodes) ≡ Some v
unfolding known_label
node_hit level v s t nodes e = rw (same_number level, e) refl

node_missed : (level v : ℕ) (s t : Seat) (nodes : List Node) → shares level t s ≡ false → known_label level t (node_of level s v ∷ nodes) ≡ known_label level t nodes
unfolding known_label
node_missed level v s t nodes e = rw (same_number level, e) refl

node_other : (level v l : ℕ) (s t : Seat) (nodes : List Node) → (l == level) ≡ false → known_label l t (node_of level s v ∷ nodes) ≡ known_label l t nodes
unfolding known_label
node_other level v l s t nodes e = rw e refl

-- a leaf shares its own nodes
pub node_own : (level v : ℕ) (s : Seat) (nodes : List Node) → known_label level s (node_of level s v ∷ nodes) ≡ Some v
unfolding known_label
node_own level v s nodes = rw (same_number level, same_number (s.col / 2 ^ level), same_number (s.row / 2 ^ level)) refl

-- what is known stays known
abbrev pub Extends : List Node → List Node → Type 0
Extends nodes after = (l : ℕ) (t : Seat) (v : ℕ) → known_label l t nodes ≡ Some v → known_label l t after ≡ Some v

-- a node that is added beside those that are known, of which it isn't one
pub add_extends : (level v : ℕ) (s : Seat) (nodes : List Node) → known_label level s nodes ≡ None → Extends nodes (node_of level s v ∷ nodes)
add_extends level v s nodes none l t u e = elim (eqb_tells l level) [
  | inr n ↦ node_other level v l s t nodes n.0 ∙ e
  | inl n ↦
      let P : ℕ → Type 0 = λ k. known_label k t nodes ≡ Some u in
      let here : known_label level t nodes ≡ Some u = subst P n.1 e in
      let Q : ℕ → Type 0 = λ k. known_label k t (node_of level s v ∷ nodes) ≡ Some u in
      subst Q (sym n.1) (elim (either (shares level t s)) [
        | inl h ↦ let c : None ≡ Some u = sym none ∙ (sym (known_same level t s nodes (shared level t s h)) ∙ here) in absurd (cc)
        | inr h ↦ node_missed level v s t nodes h ∙ here
      ])
]

-- each label that is known is within a limit, and is in this relation to its parent's, which is known as well
abbrev pub AreNodes : ℕ → ℕ → (ℕ → ℕ → Type 0) → List Node → Type 0
AreNodes height limit R nodes = (l : ℕ) (t : Seat) (v : ℕ) → known_label l t nodes ≡ Some v → (v ≤ limit) × (l < height → (u : ℕ) × (known_label (l + 1) t nodes ≡ Some u) × R u v)

-- the label above a node of this level on a leaf's path
abbrev pub IsAbove : ℕ → ℕ → Seat → ℕ → List Node → Type 0
IsAbove height level s from nodes = ((level ≡ height) × (from ≡ 0)) ⊎ (known_label (level + 1) s nodes ≡ Some from)

-- what is said of a known label still holds where more is known
still_sound : (height limit : ℕ) (R : ℕ → ℕ → Type 0) (nodes after : List Node) → AreNodes height limit R nodes → Extends nodes after → (l : ℕ) (t : Seat) (v : ℕ) → known_label l t nodes ≡ Some v
    → (v ≤ limit) × (l < height → (u : ℕ) × (known_label (l + 1) t after ≡ Some u) × R u v)
still_sound height limit R nodes after are more l t v e =
    let a = are l t v e in
    (a.0, λ h. let p = a.1 h in (p.0, more (l + 1) t p.0 p.1, p.2))

-- one known label
some_same : (u v : ℕ) → Some u ≡ Some v → u ≡ v
some_same u v e = cc

-- a node that is added below its parent
pub add_node_sound : (height limit : ℕ) (R : ℕ → ℕ → Type 0) (level v from : ℕ) (s : Seat) (nodes : List Node) → known_label level s nodes ≡ None
    → AreNodes height limit R nodes → IsAbove height level s from nodes → v ≤ limit → R from v → AreNodes height limit R (node_of level s v ∷ nodes)
add_node_sound height limit R level v from s nodes none are is small rel l t u e =
    let more = add_extends level v s nodes none in
    elim (eqb_tells l level) [
      | inr n ↦ still_sound height limit R nodes (node_of level s v ∷ nodes) are more l t u (sym (node_other level v l s t nodes n.0) ∙ e)
      | inl n ↦
          let P : ℕ → Type 0 = λ k. known_label k t (node_of level s v ∷ nodes) ≡ Some u in
          let here : known_label level t (node_of level s v ∷ nodes) ≡ Some u = subst P n.1 e in
          let Q : ℕ → Type 0 = λ k. (u ≤ limit) × (k < height → (x : ℕ) × (known_label (k + 1) t (node_of level s v ∷ nodes) ≡ Some x) × R x u) in
          subst Q (sym n.1) (elim (either (shares level t s)) [
            | inr h ↦ still_sound height limit R nodes (node_of level s v ∷ nodes) are more level t u (sym (node_missed level v s t nodes h) ∙ here)
            | inl h ↦
                let same : v ≡ u = some_same v u (sym (node_hit level v s t nodes h) ∙ here) in
                let W : ℕ → Type 0 = λ k. (k ≤ limit) × (level < height → (x : ℕ) × (known_label (level + 1) t (node_of level s v ∷ nodes) ≡ Some x) × R x k) in
                subst W same (
                  small,
                  λ low. elim is [
                    | inl top ↦ absurd (omega (arith, top.0))
                    | inr up ↦
                        let p = shared level t s h in
                        let parent : known_label (level + 1) t nodes ≡ Some from = known_same (level + 1) t s nodes (above t.col s.col level p.0, above t.row s.row level p.1) ∙ up in
                        (from, more (level + 1) t from parent, rel)
                  ],
                )
          ])
    ]

-- labels that agree with what is known, and are this one elsewhere
unfoldable pub label_in : ℕ → List Node → Labels
label_in default [] level col row = default
label_in default (n ∷ nodes) level col row = if (level == n.level) && ((col == n.col) && (row == n.row)) then n.label else label_in default nodes level col row

-- they are what is known
label_or : Option ℕ → ℕ → ℕ
label_or (Some v) default = v
label_or None default = default

label_is : (default level : ℕ) (s : Seat) (nodes : List Node) → label (label_in default nodes) level s ≡ label_or (known_label level s nodes) default
unfolding label_in label_or known_label
label_is default level s [] = refl
label_is default level s (n ∷ nodes) = elim (either ((level == n.level) && ((s.col / 2 ^ level == n.col) && (s.row / 2 ^ level == n.row)))) [
  | inl t ↦ rw t refl
  | inr t ↦ rw t (label_is default level s nodes)
]

pub label_known : (default level v : ℕ) (s : Seat) (nodes : List Node) → known_label level s nodes ≡ Some v → label (label_in default nodes) level s ≡ v
unfolding label_or
label_known default level v s nodes e = label_is default level s nodes ∙ ap (λ (o : Option ℕ). label_or o default) e

pub label_unknown : (default level : ℕ) (s : Seat) (nodes : List Node) → known_label level s nodes ≡ None → label (label_in default nodes) level s ≡ default
unfolding label_or
label_unknown default level s nodes e = label_is default level s nodes ∙ ap (λ (o : Option ℕ). label_or o default) e

-- a label is known or not
pub known_or : (o : Option ℕ) → ((v : ℕ) × (o ≡ Some v)) ⊎ (o ≡ None)
known_or (Some v) = inl (v, refl)
known_or None = inr refl

-- they are within the limit
pub label_small : (height limit : ℕ) (R : ℕ → ℕ → Type 0) (nodes : List Node) → AreNodes height limit R nodes → (level : ℕ) (s : Seat) → label (label_in limit nodes) level s ≤ limit
label_small height limit R nodes are level s = elim (known_or (known_label level s nodes)) [
  | inl k ↦ omega (arith, label_known limit level k.0 s nodes k.1, (are level s k.0 k.1).0)
  | inr k ↦ omega (arith, label_unknown limit level s nodes k)
]

-- and never fall
pub labels_never_fall : (g : Grid) (limit : ℕ) (R : ℕ → ℕ → Type 0) (nodes : List Node) → ((u v : ℕ) → R u v → u ≤ v) → AreNodes (root_level g) limit R nodes → NeverFalls g (label_in limit nodes)
labels_never_fall g limit R nodes up are s level i h = elim (known_or (known_label level s nodes)) [
  | inr k ↦ omega (arith, label_unknown limit level s nodes k, label_small (root_level g) limit R nodes are (level + 1) s)
  | inl k ↦
      let p = (are level s k.0 k.1).1 h in
      omega (arith, label_known limit level k.0 s nodes k.1, label_known limit (level + 1) p.0 s nodes p.1, up p.0 k.0 p.2)
]
