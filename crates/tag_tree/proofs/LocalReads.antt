-- A reading takes the first bits, and gets the same of them whatever bits follow.
use Rattle.std.proofs.Common.{◌≡◌, ◌==◌, ◌++◌, ℕ, suc, Bool, true, false, List, [], ◌∷◌, nat_le, refl, sym, ◌∙◌, ap, subst, inl, inr, append_assoc, if◌then◌else◌}
use Rattle.std.proofs.lemmas.Bool.Decides.{eqb_tells}
use Rattle.codestream_model.specs.TagTrees.{Seat}
use Rattle.codestream_model.specs.HeaderPieces.{HeaderRefusal, ZeroPlanes}
use Rattle.codestream_model.specs.PacketHeaderReading.{Node, Walked, Read, Got, AtEnd, Refused, and_then, unless, read_bit, node_of, known_label, read_label, read_inclusion, read_planes}
use Rattle.tag_tree.specs.Kinds.{levels_reading}
use Rattle.tag_tree.specs.declared.kind.Kind.{Kind}
use Rattle.tag_tree.specs.declared.kind.Kind.TheVariants.{Inclusion, Value}
use Rattle.tag_tree.proofs.AnswerLemmas.{known_or_not, when_known, when_below, when_met, at_leaf, planes_known, planes_met, planes_at_leaf}

-- of the bits the first were taken, and this value is got of them whatever bits follow
pub record Local {A : Type 0} (reading : List Bool → Read A) (bits : List Bool) (x : A) (rest : List Bool) : Type 0 where
  pub more : List Bool
  pub front : bits ≡ more ++ rest
  pub any : (further : List Bool) → reading (more ++ further) ≡ Got x further

-- so it is with each value that a reading gets
abbrev pub IsLocal : {A : Type 0} → (List Bool → Read A) → Type 0
IsLocal {A} reading = (bits : List Bool) (x : A) (rest : List Bool) → reading bits ≡ Got x rest → Local reading bits x rest

-- a value at once
pub local_at_once : {A : Type 0} (v : A) → IsLocal (λ l. Got v l)
local_at_once v bits x rest e =
    let same : v ≡ x = cc in
    let all : bits ≡ rest = cc in
    record { more = []; front = all; any = λ further. ap (λ y. Got y further) same }

-- readings that are one
pub local_same : {A : Type 0} (reading other : List Bool → Read A) → ((l : List Bool) → reading l ≡ other l) → IsLocal other → IsLocal reading
local_same reading other same h bits x rest e =
    let a : Local other bits x rest = h bits x rest (sym (same bits) ∙ e) in
    record { more = a.more; front = a.front; any = λ further. same (a.more ++ further) ∙ a.any further }

-- a reading, and then the next
then_by : {A B : Type 0} (r : List Bool → Read A) (next : A → List Bool → Read B) → IsLocal r → ((x : A) → IsLocal (next x)) → (bits : List Bool) (y : B) (rest : List Bool) (first : Read A) → r bits ≡ first → and_then first next ≡ Got y rest
    → Local (λ l. and_then (r l) next) bits y rest
then_by r next h k bits y rest (Got x mid) f e =
    let a : Local r bits x mid = h bits x mid f in
    let b : Local (next x) mid y rest = k x mid y rest e in
    record {
      more = a.more ++ b.more;
      front = a.front ∙ (ap (λ (l : List Bool). a.more ++ l) b.front ∙ sym (append_assoc a.more b.more rest));
      any = λ further. ap (λ (l : List Bool). and_then (r l) next) (append_assoc a.more b.more further) ∙ (ap (λ first. and_then first next) (a.any (b.more ++ further)) ∙ b.any further);
    }
then_by r next h k bits y rest AtEnd f e = absurd (cc)
then_by r next h k bits y rest (Refused why) f e = absurd (cc)

pub local_then : {A B : Type 0} (r : List Bool → Read A) (next : A → List Bool → Read B) → IsLocal r → ((x : A) → IsLocal (next x)) → IsLocal (λ l. and_then (r l) next)
local_then r next h k bits y rest e = then_by r next h k bits y rest (r bits) refl e

-- a bit
pub local_bit : IsLocal read_bit
local_bit [] x rest e = absurd (cc)
local_bit (b ∷ bits) x rest e =
    let same : b ≡ x = cc in
    let all : bits ≡ rest = cc in
    record { more = b ∷ []; front = ap (λ (l : List Bool). b ∷ l) all; any = λ further. ap (λ (c : Bool). Got c further) same }

-- what is got where it may be refused
pub unless_got : {A : Type 0} (t : Bool) (why : HeaderRefusal) (r : Read A) (x : A) (rest : List Bool) → unless t why r ≡ Got x rest → (t ≡ false) × (r ≡ Got x rest)
unless_got true why r x rest e = absurd (cc)
unless_got false why r x rest e = (refl, e)

-- a label
pub local_label : (least : ℕ) → IsLocal (read_label least)
unfolding read_label
local_label least [] x rest e = absurd (cc)
local_label least (true ∷ bits) x rest e =
    let same : least ≡ x = cc in
    let all : bits ≡ rest = cc in
    record { more = true ∷ []; front = ap (λ (l : List Bool). true ∷ l) all; any = λ further. ap (λ (n : ℕ). Got n further) same }
local_label least (false ∷ bits) x rest e =
    let t = unless_got (nat_le 74 least) ZeroPlanes (read_label (suc least) bits) x rest e in
    let a : Local (read_label (suc least)) bits x rest = local_label (suc least) bits x rest t.1 in
    let test : nat_le 74 least ≡ false = t.0 in
    record { more = false ∷ a.more; front = ap (λ (l : List Bool). false ∷ l) a.front; any = λ further. let P : Bool → Type 0 = λ u. unless u ZeroPlanes (read_label (suc least) (a.more ++ further)) ≡ Got x further in subst P (sym test) (a.any further) }

-- a path of the inclusion tree
pub local_inclusion : (levels : List ℕ) (s : Seat) (above : ℕ) (nodes : List Node) → IsLocal (read_inclusion levels s above nodes)
local_inclusion [] s above nodes = local_same (read_inclusion [] s above nodes) (λ l. Got (record { label = above; nodes = nodes }) l) (at_leaf s above nodes) (local_at_once (record { label = above; nodes = nodes }))
local_inclusion (level ∷ levels) s above nodes = elim (known_or_not (known_label level s nodes)) [
  | inr k ↦ local_same (read_inclusion (level ∷ levels) s above nodes) (read_inclusion levels s k.0 nodes) (λ l. when_known level levels s above k.0 nodes l k.1) (local_inclusion levels s k.0 nodes)
  | inl k ↦ elim (eqb_tells above 0) [
    | inr z ↦ local_same (read_inclusion (level ∷ levels) s above nodes) (read_inclusion levels s above nodes) (λ l. when_below level levels s above nodes l k z.0) (local_inclusion levels s above nodes)
    | inl z ↦
        let next : Bool → List Bool → Read Walked = λ b more. read_inclusion levels s (if b then 0 else 1) (node_of level s (if b then 0 else 1) ∷ nodes) more in
        local_same (read_inclusion (level ∷ levels) s above nodes) (λ l. and_then (read_bit l) next) (λ l. when_met level levels s above nodes l k z.0)
        (local_then read_bit next local_bit (λ b. local_inclusion levels s (if b then 0 else 1) (node_of level s (if b then 0 else 1) ∷ nodes)))
  ]
]

-- and one of the value tree
pub local_planes : (levels : List ℕ) (s : Seat) (above : ℕ) (nodes : List Node) → IsLocal (read_planes levels s above nodes)
local_planes [] s above nodes = local_same (read_planes [] s above nodes) (λ l. Got (record { label = above; nodes = nodes }) l) (planes_at_leaf s above nodes) (local_at_once (record { label = above; nodes = nodes }))
local_planes (level ∷ levels) s above nodes = elim (known_or_not (known_label level s nodes)) [
  | inr k ↦ local_same (read_planes (level ∷ levels) s above nodes) (read_planes levels s k.0 nodes) (λ l. planes_known level levels s above k.0 nodes l k.1) (local_planes levels s k.0 nodes)
  | inl k ↦
      let next : ℕ → List Bool → Read Walked = λ value more. read_planes levels s value (node_of level s value ∷ nodes) more in
      local_same (read_planes (level ∷ levels) s above nodes) (λ l. and_then (read_label above l) next) (λ l. planes_met level levels s above nodes l k)
      (local_then (read_label above) next (local_label above) (λ value. local_planes levels s value (node_of level s value ∷ nodes)))
]

-- and so a path of a tree of either kind
pub local_levels : (kind : Kind) (levels : List ℕ) (s : Seat) (above : ℕ) (nodes : List Node) → IsLocal (levels_reading kind levels above s nodes)
local_levels Inclusion levels s above nodes = local_inclusion levels s above nodes
local_levels Value levels s above nodes = local_planes levels s above nodes
