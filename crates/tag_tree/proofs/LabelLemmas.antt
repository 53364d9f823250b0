-- The least labels below each node are those that the model takes for a packet's code-blocks.
use Rattle.std.proofs.Common.{◌≡◌, ◌≤◌, ◌/◌, ◌^◌, ◌==◌, ◌&&◌, ◌||◌, ℕ, Bool, true, false, List, [], ◌∷◌, map, refl, sym, ◌∙◌, ap, subst, inl, inr, arith, if◌then◌else◌}
use Rattle.std.specs.List.{AllByRecursion, filter, list_any}
use Rattle.std.proofs.lemmas.Bool.{and_parts}
use Rattle.codestream_model.specs.Values.{Block}
use Rattle.codestream_model.specs.TagTrees.{Seat, shares, seat_of, is_below, least, least_inclusion, least_planes}
use Rattle.codestream_model.specs.HeaderPieces.{stands_at}
use Rattle.codestream_model.specs.PacketHeader.{is_included}
use Rattle.codestream_model.proofs.TreeLemmas.{either, same_number, equal_number, shared}
use Rattle.tag_tree.specs.TreeState.{TreeState}
use Rattle.tag_tree.specs.LeafWriting.{IsOn, Holds, HoldsLeast, held, leaf_at}

-- The leaves of a band's tree: those of its code-blocks have this value, and the others that one.
pub record AreLeaves (t : TreeState) (leaves : List ℕ) (blocks : List Block) (band : ℕ) (value : Block → ℕ) (other : ℕ) : Type 0 where
  pub on : AllByRecursion (λ b. b.band ≡ band → IsOn t (seat_of b)) blocks
  pub included : AllByRecursion (λ b. b.band ≡ band → leaf_at t leaves (seat_of b) ≡ value b) blocks
  pub others : (s : Seat) → IsOn t s → s.band ≡ band → is_included blocks s ≡ false → leaf_at t leaves s ≡ other

-- facts of each item
pub each_both : {X : Type 0} (P Q R : X → Type 0) (xs : List X) → ((x : X) → P x → Q x → R x) → AllByRecursion P xs → AllByRecursion Q xs → AllByRecursion R xs
each_both P Q R [] f p q = tt
each_both P Q R (x ∷ xs) f p q = (f x p.0 q.0, each_both P Q R xs f p.1 q.1)

-- what follows of each item that passes a test follows where one does
follows_of_any : {X : Type 0} (p : X → Bool) (C : Type 0) (xs : List X) → list_any p xs ≡ true → AllByRecursion (λ x. p x ≡ true → C) xs → C
follows_of_any p C [] e a = absurd (cc)
follows_of_any p C (x ∷ xs) e a = elim (either (p x)) [
  | inl t ↦ a.0 t
  | inr f ↦ follows_of_any p C xs (sym (ap (λ (b : Bool). b || list_any p xs) f) ∙ e) a.1
]

-- where each item that passes one test passes another, one that passes the first passes the second
any_of_any : {X : Type 0} (p q : X → Bool) (xs : List X) → ((x : X) → p x ≡ true → q x ≡ true) → list_any p xs ≡ true → list_any q xs ≡ true
any_of_any p q [] f e = e
any_of_any p q (x ∷ xs) f e = elim (either (p x)) [
  | inl t ↦ ap (λ (b : Bool). b || list_any q xs) (f x t)
  | inr t ↦ elim (either (q x)) [
    | inl u ↦ ap (λ (b : Bool). b || list_any q xs) u
    | inr u ↦ ap (λ (b : Bool). b || list_any q xs) u ∙ any_of_any p q xs f (sym (ap (λ (b : Bool). b || list_any p xs) t) ∙ e)
  ]
]

-- a code-block below a node on a leaf's path shares that node with it
below_shares : (band level : ℕ) (s : Seat) (b : Block) → is_below band level (s.col / 2 ^ level) (s.row / 2 ^ level) b ≡ true → (b.band ≡ band) × (shares level s (seat_of b) ≡ true)
below_shares band level s b e =
    let p = and_parts (b.band == band) ((b.col / 2 ^ level == s.col / 2 ^ level) && (b.row / 2 ^ level == s.row / 2 ^ level)) e in
    let q = and_parts (b.col / 2 ^ level == s.col / 2 ^ level) (b.row / 2 ^ level == s.row / 2 ^ level) p.1 in
    let c : b.col / 2 ^ level ≡ s.col / 2 ^ level = equal_number (b.col / 2 ^ level) (s.col / 2 ^ level) q.0 in
    let r : b.row / 2 ^ level ≡ s.row / 2 ^ level = equal_number (b.row / 2 ^ level) (s.row / 2 ^ level) q.1 in
    (equal_number b.band band p.0, rw (c, r, same_number (s.col / 2 ^ level), same_number (s.row / 2 ^ level)) refl)

-- a code-block at a leaf that shares a node is below it, and has the leaf's column and row
record IsThere (own : ℕ) (u : Seat) (b : Block) : Type 0 where
  pub band : b.band ≡ own
  pub col : b.col ≡ u.col
  pub row : b.row ≡ u.row

stands_there : (u : Seat) (b : Block) → stands_at u b ≡ true → IsThere u.band u b
stands_there u b e =
    let p = and_parts (b.band == u.band) ((b.col == u.col) && (b.row == u.row)) e in
    let q = and_parts (b.col == u.col) (b.row == u.row) p.1 in
    record { band = equal_number b.band u.band p.0; col = equal_number b.col u.col q.0; row = equal_number b.row u.row q.1 }

there_below : (band level : ℕ) (s u : Seat) (b : Block) → shares level s u ≡ true → IsThere band u b → is_below band level (s.col / 2 ^ level) (s.row / 2 ^ level) b ≡ true
there_below band level s u b e t =
    let p = shared level s u e in
    let c : b.col / 2 ^ level ≡ s.col / 2 ^ level = ap (λ (n : ℕ). n / 2 ^ level) t.col ∙ sym p.0 in
    let r : b.row / 2 ^ level ≡ s.row / 2 ^ level = ap (λ (n : ℕ). n / 2 ^ level) t.row ∙ sym p.1 in
    rw (t.band, c, r, same_number band, same_number (s.col / 2 ^ level), same_number (s.row / 2 ^ level)) refl

-- a position in its band
abbrev in_band : ℕ → Seat → Seat
in_band band u = record { band = band; col = u.col; row = u.row }

-- the inclusion tree's labels
pub holds_inclusion : (t : TreeState) (leaves : List ℕ) (blocks : List Block) (band : ℕ) → AreLeaves t leaves blocks band (λ b. 0) 1 → HoldsLeast t leaves → Holds t (least_inclusion blocks band)
holds_inclusion t leaves blocks band are h = record {
  each = λ level s on top.
      let col = s.col / 2 ^ level in
      let row = s.row / 2 ^ level in
      let goal : Bool → Type 0 = λ b. held t level s ≡ (if b then 0 else 1) in
      elim (either (list_any (is_below band level col row) blocks)) [
        | inl some ↦
            let none : held t level s ≡ 0 = follows_of_any (is_below band level col row) (held t level s ≡ 0) blocks some
            (each_both (λ b. b.band ≡ band → IsOn t (seat_of b)) (λ b. b.band ≡ band → leaf_at t leaves (seat_of b) ≡ 0) (λ b. is_below band level col row b ≡ true → held t level s ≡ 0) blocks
            (λ b here leaf below.
            let p = below_shares band level s b below in
            let least_there : held t level s ≤ leaf_at t leaves (seat_of b) = h.low level s (seat_of b) on (here p.0) top p.1 in
            let zero_there : leaf_at t leaves (seat_of b) ≡ 0 = leaf p.0 in
            omega arith)
            are.on are.included) in
            subst goal (sym some) none
        | inr none ↦
            let l = h.reached level s on top in
            let u = in_band band l.0 in
            let on_u : IsOn t u = record { col = l.1.col; row = l.1.row } in
            let one : held t level s ≡ 1 = elim (either (is_included blocks u)) [
              | inr out ↦ l.3 ∙ are.others u on_u refl out
              | inl in_it ↦
                  let some : list_any (is_below band level col row) blocks ≡ true = any_of_any (stands_at u) (is_below band level col row) blocks (λ b st. there_below band level s l.0 b l.2 (let q = stands_there u b st in record { band = q.band; col = q.col; row = q.row })) in_it in
                  let no : true ≡ false = sym some ∙ none in
                  absurd (cc)
            ] in
            subst goal (sym none) one
      ];
}

-- the least of numbers is no more than 74, nor than one of them
least_small : (ns : List ℕ) → least ns ≤ 74
least_small [] = omega arith
least_small (n ∷ ns) = omega (arith, least_small ns)

least_at_most : (p q : Block → Bool) (n : ℕ) (blocks : List Block) → list_any p blocks ≡ true → AllByRecursion (λ b. p b ≡ true → (q b ≡ true) × (b.planes ≡ n)) blocks → least (map (λ b. b.planes) (filter q blocks)) ≤ n
least_at_most p q n [] e a = absurd (cc)
least_at_most p q n (b ∷ blocks) e a = elim (either (p b)) [
  | inl t ↦
      let here = a.0 t in
      let same : b.planes ≡ n = here.1 in
      rw here.0 (omega arith)
  | inr t ↦
      let rest : least (map (λ x. x.planes) (filter q blocks)) ≤ n = least_at_most p q n blocks (sym (ap (λ (x : Bool). x || list_any p blocks) t) ∙ e) a.1 in
      elim (either (q b)) [
        | inl u ↦ rw u (omega (arith, rest))
        | inr u ↦ rw u rest
      ]
]

-- and no less than what is no more than each of them
least_at_least : (q : Block → Bool) (n : ℕ) (blocks : List Block) → n ≤ 74 → AllByRecursion (λ b. q b ≡ true → n ≤ b.planes) blocks → n ≤ least (map (λ b. b.planes) (filter q blocks))
least_at_least q n [] h a = h
least_at_least q n (b ∷ blocks) h a = elim (either (q b)) [
  | inl u ↦
      let here : n ≤ b.planes = a.0 u in
      rw u (omega (arith, here, least_at_least q n blocks h a.1))
  | inr u ↦ rw u (least_at_least q n blocks h a.1)
]

-- a label is no more than 74 where the leaves are
held_small : (t : TreeState) (leaves : List ℕ) (blocks : List Block) (band : ℕ) → AreLeaves t leaves blocks band (λ b. b.planes) 74 → AllByRecursion (λ b. b.planes ≤ 74) blocks → HoldsLeast t leaves
    → (level : ℕ) (s : Seat) → IsOn t s → level ≤ t.root → held t level s ≤ 74
held_small t leaves blocks band are small h level s on top =
    let u = in_band band s in
    let on_u : IsOn t u = record { col = on.col; row = on.row } in
    let self : shares level s u ≡ true = rw (same_number (s.col / 2 ^ level), same_number (s.row / 2 ^ level)) refl in
    let own : held t level s ≤ leaf_at t leaves u = h.low level s u on on_u top self in
    let leaf : leaf_at t leaves u ≤ 74 = elim (either (is_included blocks u)) [
      | inr out ↦ let other : leaf_at t leaves u ≡ 74 = are.others u on_u refl out in omega arith
      | inl in_it ↦ follows_of_any (stands_at u) (leaf_at t leaves u ≤ 74) blocks in_it
          (each_both (λ b. b.band ≡ band → leaf_at t leaves (seat_of b) ≡ b.planes) (λ b. b.planes ≤ 74) (λ b. stands_at u b ≡ true → leaf_at t leaves u ≤ 74) blocks
          (λ b is few st.
          let q = stands_there u b st in
          let same : leaf_at t leaves (seat_of b) ≡ leaf_at t leaves u = rw (q.col, q.row) refl in
          let planes : leaf_at t leaves (seat_of b) ≡ b.planes = is q.band in
          omega (arith, same, planes, few))
          are.included small)
    ] in
    omega arith

-- the value tree's labels
pub holds_planes : (t : TreeState) (leaves : List ℕ) (blocks : List Block) (band : ℕ) → AreLeaves t leaves blocks band (λ b. b.planes) 74 → AllByRecursion (λ b. b.planes ≤ 74) blocks → HoldsLeast t leaves → Holds t (least_planes blocks band)
holds_planes t leaves blocks band are small h = record {
  each = λ level s on top.
      let below : Block → Bool = is_below band level (s.col / 2 ^ level) (s.row / 2 ^ level) in
      let low : held t level s ≤ least (map (λ b. b.planes) (filter below blocks)) =
      least_at_least below (held t level s) blocks (held_small t leaves blocks band are small h level s on top)
      (each_both (λ b. b.band ≡ band → IsOn t (seat_of b)) (λ b. b.band ≡ band → leaf_at t leaves (seat_of b) ≡ b.planes) (λ b. below b ≡ true → held t level s ≤ b.planes) blocks
      (λ b here leaf is.
      let p = below_shares band level s b is in
      let there : held t level s ≤ leaf_at t leaves (seat_of b) = h.low level s (seat_of b) on (here p.0) top p.1 in
      let own : leaf_at t leaves (seat_of b) ≡ b.planes = leaf p.0 in
      omega arith)
      are.on are.included) in
      let l = h.reached level s on top in
      let u = in_band band l.0 in
      let on_u : IsOn t u = record { col = l.1.col; row = l.1.row } in
      let leaf : held t level s ≡ leaf_at t leaves u = l.3 in
      let high : least (map (λ b. b.planes) (filter below blocks)) ≤ held t level s = elim (either (is_included blocks u)) [
        | inr out ↦
            let other : leaf_at t leaves u ≡ 74 = are.others u on_u refl out in
            omega (arith, other, leaf, least_small (map (λ b. b.planes) (filter below blocks)))
        | inl in_it ↦
            rw leaf (least_at_most (stands_at u) below (leaf_at t leaves u) blocks in_it
            (each_both (λ b. b.band ≡ band → leaf_at t leaves (seat_of b) ≡ b.planes) (λ b. b.planes ≤ 74) (λ b. stands_at u b ≡ true → (below b ≡ true) × (b.planes ≡ leaf_at t leaves u)) blocks
            (λ b own few st.
            let q = stands_there u b st in
            let same : leaf_at t leaves (seat_of b) ≡ leaf_at t leaves u = rw (q.col, q.row) refl in
            (there_below band level s l.0 b l.2 (record { band = q.band; col = q.col; row = q.row }), sym (own q.band) ∙ same))
            are.included small))
      ] in
      omega (arith, low, high);
}
