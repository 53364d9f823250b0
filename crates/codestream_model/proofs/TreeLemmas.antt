-- Tag trees: what is known of a tree after some leaves, and the next leaf that is read.
use Rattle.std.proofs.Common.{◌≡◌, ◌≢◌, ◌<◌, ◌≤◌, ◌⊎◌, ◌+◌, ◌/◌, ◌^◌, ◌==◌, ◌&&◌, ◌||◌, ℕ, suc, Bool, true, false, not, List, [], ◌∷◌, ◌++◌, Option, Some, None, refl, sym, ◌∙◌, ap, inl, inr, arith, if◌then◌else◌}
use Rattle.std.specs.List.{AllByRecursion, list_any}
use Rattle.std.proofs.lemmas.Bool.{and_parts}
use Rattle.std.proofs.lemmas.Bool.Decides.{eqb_tells}
use Rattle.std.proofs.lemmas.List.Folds.{list_any-append}
use Rattle.std.proofs.lemmas.Nat.{shr-shr}
use Rattle.codestream_model.specs.Values.{Grid}
use Rattle.codestream_model.specs.TagTrees.{Seat, Labels, label, parent_label, shares, is_first}
use Rattle.codestream_model.specs.PacketHeaderReading.{Node, node_of, known_label}

-- a test holds or doesn't
pub either : (b : Bool) → (b ≡ true) ⊎ (b ≡ false)
either true = inl refl
either false = inr refl

-- a number is itself
pub same_number : (n : ℕ) → (n == n) ≡ true
same_number n = elim (eqb_tells n n) [ inl t ↦ t.0 | inr t ↦ absurd (t.1 refl) ]

-- a leaf shares its own nodes
shares_self : (level : ℕ) (s : Seat) → shares level s s ≡ true
shares_self level s = rw (same_number (s.col / 2 ^ level), same_number (s.row / 2 ^ level)) refl

-- a node that two leaves share has one column and one row
pub equal_number : (a b : ℕ) → (a == b) ≡ true → a ≡ b
equal_number a b e = elim (eqb_tells a b) [ inl t ↦ t.1 | inr t ↦ absurd (cc) ]

pub shared : (level : ℕ) (s t : Seat) → shares level s t ≡ true → (s.col / 2 ^ level ≡ t.col / 2 ^ level) × (s.row / 2 ^ level ≡ t.row / 2 ^ level)
shared level s t e =
    let p = and_parts (s.col / 2 ^ level == t.col / 2 ^ level) (s.row / 2 ^ level == t.row / 2 ^ level) e in
    (equal_number (s.col / 2 ^ level) (t.col / 2 ^ level) p.0, equal_number (s.row / 2 ^ level) (t.row / 2 ^ level) p.1)

-- one level above a node that two leaves share they share one as well
pub above : (a b level : ℕ) → a / 2 ^ level ≡ b / 2 ^ level → a / 2 ^ (level + 1) ≡ b / 2 ^ (level + 1)
above a b level e = sym (shr-shr a level 1) ∙ (ap (λ (n : ℕ). n / 2 ^ 1) e ∙ shr-shr b level 1)

-- the label of a shared node, and of its parent
shared_label : (labels : Labels) (level : ℕ) (s t : Seat) → shares level s t ≡ true → label labels level s ≡ label labels level t
shared_label labels level s t e =
    let p = shared level s t e in
    rw (p.0, p.1) refl

pub shared_parent : (g : Grid) (labels : Labels) (level : ℕ) (s t : Seat) → shares level s t ≡ true → parent_label g labels level s ≡ parent_label g labels level t
shared_parent g labels level s t e =
    let p = shared level s t e in
    let a = above s.col t.col level p.0 in
    let b = above s.row t.row level p.1 in
    rw (a, b) refl

-- leaves that share a node share it with the same others
shared_any : (level : ℕ) (s t : Seat) (among : List Seat) → shares level s t ≡ true → list_any (shares level s) among ≡ list_any (shares level t) among
shared_any level s t among e =
    let p = shared level s t e in
    ap (λ (a : ℕ). list_any (λ (x : Seat). (a == x.col / 2 ^ level) && (s.row / 2 ^ level == x.row / 2 ^ level)) among) p.0
    ∙ ap (λ (b : ℕ). list_any (λ (x : Seat). (t.col / 2 ^ level == x.col / 2 ^ level) && (b == x.row / 2 ^ level)) among) p.1

-- no two of these leaves are at one place
abbrev pub AreDistinct : List Seat → Type 0
AreDistinct [] = Unit {0}
AreDistinct (s ∷ more) = AllByRecursion (λ t. ((t.col == s.col) && (t.row == s.row)) ≡ false) more × AreDistinct more

-- a fact of all items, of one of them
pub among_all : {X : Type 0} (P : X → Type 0) (xs : List X) (x : X) (ys : List X) → AllByRecursion P (xs ++ x ∷ ys) → P x
among_all P [] x ys a = a.0
among_all P (y ∷ xs) x ys a = among_all P xs x ys a.1

-- a leaf is the first to meet a node exactly where none before it shares the node
pub first_is : (level : ℕ) (s : Seat) (xs ys : List Seat) → AreDistinct (xs ++ s ∷ ys) → is_first level s (xs ++ s ∷ ys) ≡ not (list_any (shares level s) xs)
first_is level s [] ys d = rw (shares_self level s, same_number s.col, same_number s.row) refl
first_is level s (x ∷ xs) ys d = elim (either (shares level s x)) [
  | inl t ↦
      let other : ((s.col == x.col) && (s.row == x.row)) ≡ false = among_all (λ (t : Seat). ((t.col == x.col) && (t.row == x.row)) ≡ false) xs s ys d.0 in
      rw (t, other) refl
  | inr t ↦ rw t (first_is level s xs ys d.1)
]

-- what is known of a node after these leaves, where this is the test under which one of them gives it
abbrev pub expected : (ℕ → Seat → Bool) → Labels → List Seat → ℕ → Seat → Option ℕ
expected gives labels among level t = if list_any (shares level t) among && gives level t then Some (label labels level t) else None

-- what is known of a tree of this height after some leaves, and of the next one down to above this level
pub record KnowsTree (height : ℕ) (gives : ℕ → Seat → Bool) (labels : Labels) (among : List Seat) (s : Seat) (level : ℕ) (nodes : List Node) : Type 0 where
  pub upper : (l : ℕ) (t : Seat) → level ≤ l → l ≤ height → known_label l t nodes ≡ expected gives labels (among ++ s ∷ []) l t
  pub lower : (l : ℕ) (t : Seat) → l < level → l ≤ height → known_label l t nodes ≡ expected gives labels among l t

-- what tests joined are where one is known
pub or_false : (b : Bool) → (b || false) ≡ b
or_false true = refl
or_false false = refl

or_true : (b : Bool) → (b || true) ≡ true
or_true true = refl
or_true false = refl

pub and_false : (b : Bool) → (b && false) ≡ false
and_false true = refl
and_false false = refl

-- one more leaf shares a node or doesn't
any_more : (level : ℕ) (t s : Seat) (among : List Seat) → list_any (shares level t) (among ++ s ∷ []) ≡ (list_any (shares level t) among || shares level t s)
any_more level t s among =
    list_any-append (shares level t) among (s ∷ []) ∙ ap (λ (b : Bool). list_any (shares level t) among || b) (or_false (shares level t s))

-- the expected is as it was where no leaf of the node is added
unshared : (gives : ℕ → Seat → Bool) (labels : Labels) (among : List Seat) (s : Seat) (level : ℕ) (t : Seat) → shares level t s ≡ false
    → expected gives labels (among ++ s ∷ []) level t ≡ expected gives labels among level t
unshared gives labels among s level t e =
    let f : list_any (shares level t) (among ++ s ∷ []) ≡ list_any (shares level t) among =
    any_more level t s among ∙ (ap (λ (b : Bool). list_any (shares level t) among || b) e ∙ or_false (list_any (shares level t) among)) in
    ap (λ (b : Bool). if b && gives level t then Some (label labels level t) else None) f

-- where a leaf of the node is added, it is known if it is given
shared_now : (gives : ℕ → Seat → Bool) (labels : Labels) (among : List Seat) (s : Seat) (level : ℕ) (t : Seat) → shares level t s ≡ true
    → expected gives labels (among ++ s ∷ []) level t ≡ (if gives level t then Some (label labels level t) else None)
shared_now gives labels among s level t e =
    let f : list_any (shares level t) (among ++ s ∷ []) ≡ true =
    any_more level t s among ∙ (ap (λ (b : Bool). list_any (shares level t) among || b) e ∙ or_true (list_any (shares level t) among)) in
    ap (λ (b : Bool). if b && gives level t then Some (label labels level t) else None) f

-- a node that was known or isn't given is expected as before
expected_same : (gives : ℕ → Seat → Bool) (labels : Labels) (among : List Seat) (s : Seat) (level : ℕ) (t : Seat)
    → ((x : Seat) → shares level x s ≡ true → gives level x ≡ gives level s)
    → ((list_any (shares level s) among ≡ true) ⊎ (gives level s ≡ false))
    → expected gives labels (among ++ s ∷ []) level t ≡ expected gives labels among level t
expected_same gives labels among s level t same old = elim (either (shares level t s)) [
  | inr e ↦ unshared gives labels among s level t e
  | inl e ↦ shared_now gives labels among s level t e ∙ elim old [
    | inl o ↦
        let f : list_any (shares level t) among ≡ true = shared_any level t s among e ∙ o in
        ap (λ (b : Bool). if b && gives level t then Some (label labels level t) else None) (sym f)
    | inr o ↦
        let f : gives level t ≡ false = same t e ∙ o in
        let none : (if false then Some (label labels level t) else None) ≡ (if list_any (shares level t) among && false then Some (label labels level t) else None) =
        ap (λ (b : Bool). if b then Some (label labels level t) else None) (sym (and_false (list_any (shares level t) among))) in
        rw f none
  ]
]

-- a node that stays as it was known
pub keep_node : (height : ℕ) (gives : ℕ → Seat → Bool) (labels : Labels) (among : List Seat) (s : Seat) (level : ℕ) (nodes : List Node)
    → ((t : Seat) → shares level t s ≡ true → gives level t ≡ gives level s)
    → KnowsTree height gives labels among s (suc level) nodes
    → ((list_any (shares level s) among ≡ true) ⊎ (gives level s ≡ false))
    → KnowsTree height gives labels among s level nodes
keep_node height gives labels among s level nodes same k old = record {
  upper = λ l t low high. elim (eqb_tells l level) [
    | inl e ↦
        let h : level ≤ height = omega (arith, e.1) in
        let here : known_label level t nodes ≡ expected gives labels (among ++ s ∷ []) level t = k.lower level t (omega arith) h ∙ sym (expected_same gives labels among s level t same old) in
        rw e.1 here
    | inr e ↦ let ne : l ≢ level = e.1 in k.upper l t (omega arith) high
  ];
  lower = λ l t low high. k.lower l t (omega arith) high;
}

-- what is known of a node after one that is given
node_here : (labels : Labels) (level : ℕ) (s t : Seat) (nodes : List Node) → shares level t s ≡ true → known_label level t (node_of level s (label labels level s) ∷ nodes) ≡ Some (label labels level t)
unfolding known_label
node_here labels level s t nodes e = rw (same_number level, e, shared_label labels level t s e) refl

node_beside : (labels : Labels) (level : ℕ) (s t : Seat) (nodes : List Node) → shares level t s ≡ false → known_label level t (node_of level s (label labels level s) ∷ nodes) ≡ known_label level t nodes
unfolding known_label
node_beside labels level s t nodes e = rw (same_number level, e) refl

node_elsewhere : (labels : Labels) (level l : ℕ) (s t : Seat) (nodes : List Node) → (l == level) ≡ false → known_label l t (node_of level s (label labels level s) ∷ nodes) ≡ known_label l t nodes
unfolding known_label
node_elsewhere labels level l s t nodes e = rw e refl

-- a node that is given
pub add_node : (height : ℕ) (gives : ℕ → Seat → Bool) (labels : Labels) (among : List Seat) (s : Seat) (level : ℕ) (nodes : List Node)
    → ((t : Seat) → shares level t s ≡ true → gives level t ≡ gives level s)
    → KnowsTree height gives labels among s (suc level) nodes
    → gives level s ≡ true
    → KnowsTree height gives labels among s level (node_of level s (label labels level s) ∷ nodes)
add_node height gives labels among s level nodes same k new = record {
  upper = λ l t low high. elim (eqb_tells l level) [
    | inl e ↦
        let h : level ≤ height = omega (arith, e.1) in
        let here : known_label level t (node_of level s (label labels level s) ∷ nodes) ≡ expected gives labels (among ++ s ∷ []) level t = elim (either (shares level t s)) [
          | inl there ↦
              let given : gives level t ≡ true = same t there ∙ new in
              node_here labels level s t nodes there ∙ sym (shared_now gives labels among s level t there ∙ ap (λ (b : Bool). if b then Some (label labels level t) else None) given)
          | inr there ↦ node_beside labels level s t nodes there ∙ (k.lower level t (omega arith) h ∙ sym (unshared gives labels among s level t there))
        ] in
        rw e.1 here
    | inr e ↦ let ne : l ≢ level = e.1 in node_elsewhere labels level l s t nodes e.0 ∙ k.upper l t (omega arith) high
  ];
  lower = λ l t low high. elim (eqb_tells l level) [
    | inl e ↦ absurd (omega (arith, e.1))
    | inr e ↦ node_elsewhere labels level l s t nodes e.0 ∙ k.lower l t (omega arith) high
  ];
}
