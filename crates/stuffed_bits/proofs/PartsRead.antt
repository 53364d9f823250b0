-- Bits that were read and those that were given.
use Rattle.std.proofs.Common.{◌≡◌, ◌<◌, ◌+◌, ◌-◌, ℕ, Bool, List, ◌++◌, length, drop, replicate, Option, refl, sym, ◌∙◌, ap, subst, arith, append_assoc}
use Rattle.std.proofs.lemmas.List.{append-nil, replicate-append-replicate}
use Rattle.std.specs.List.{slice_range}
use Rattle.codestream_model.specs.StuffedBits.{number_bits, packed_bits}
use Rattle.stuffed_bits.specs.Carried.{Carries, before_next}
use Rattle.stuffed_bits.specs.BitInState.{BitInState, part_bits}
use Rattle.stuffed_bits.specs.RunsRead.{run_bits}
use Rattle.stuffed_bits.specs.BitsRead.{HasDrawn, HasRead}
use Rattle.stuffed_bits.specs.declared.part.Part.{Part}
use Rattle.stuffed_bits.specs.declared.part.Part.TheVariants.{Nothing}
use Rattle.stuffed_bits.proofs.ReadLemmas.{range_none, front_behind}
use Rattle.stuffed_bits.proofs.RunAnswers.{whole_run}

-- where nothing was read of a value, the bits that were given are all that were read
pub drawn_free : (bits : List Bool) (bytes : List ℕ) (h : BitInState) → h.part ≡ Nothing → HasRead bits bytes h → HasDrawn bits bytes h
drawn_free bits bytes h e r =
    let P : List Bool → Type 0 = λ l. HasDrawn l bytes h in
    let none : bits ++ part_bits h.part ≡ bits = ap (λ (p : Part). bits ++ part_bits p) e ∙ append-nil bits in
    subst P none r.drawn

pub read_free : (bits : List Bool) (bytes : List ℕ) (h : BitInState) → h.part ≡ Nothing → HasDrawn bits bytes h → HasRead bits bytes h
read_free bits bytes h e r =
    let P : List Bool → Type 0 = λ l. HasDrawn l bytes h in
    let none : bits ++ part_bits h.part ≡ bits = ap (λ (p : Part). bits ++ part_bits p) e ∙ append-nil bits in
    record { drawn = subst P (sym none) r }

-- what was read depends on the byte in hand alone
pub same_state : (bits : List Bool) (bytes : List ℕ) (h k : BitInState) → k.last ≡ h.last → k.left ≡ h.left → HasDrawn bits bytes h → HasDrawn bits bytes k
same_state bits bytes h k e f r =
    let P : Option ℕ → Type 0 = λ o. Carries bits (number_bits h.left (before_next o)) bytes in
    let Q : ℕ → Type 0 = λ n. Carries bits (number_bits n (before_next k.last)) bytes in
    record { last = e ∙ r.last; holds = subst Q (sym f) (subst P (sym e) r.holds) }

-- before a further byte is taken the bits that were read of a value are after those that were given
pub drawn_before : (bits part : List Bool) (bytes piece : List ℕ) (at : ℕ) (h k : BitInState) → part_bits h.part ≡ part → k.last ≡ h.last → k.left ≡ h.left → HasRead bits bytes h
    → HasDrawn (bits ++ part) (bytes ++ slice_range piece at at) k
drawn_before bits part bytes piece at h k e f g r =
    let none : bytes ++ slice_range piece at at ≡ bytes = ap (λ (l : List ℕ). bytes ++ l) (range_none piece at) ∙ append-nil bytes in
    let P : List ℕ → Type 0 = λ l. HasDrawn (bits ++ part) l k in
    let Q : List Bool → Type 0 = λ l. HasDrawn (bits ++ l) bytes k in
    subst P (sym none) (subst Q e (same_state (bits ++ part_bits h.part) bytes h k f g r.drawn))

-- bits that were read of a value are kept
pub read_part : (bits part : List Bool) (bytes : List ℕ) (h k : BitInState) → part_bits k.part ≡ part → k.last ≡ h.last → k.left ≡ h.left → HasDrawn (bits ++ part) bytes h → HasRead bits bytes k
read_part bits part bytes h k e f g r =
    let Q : List Bool → Type 0 = λ l. HasDrawn (bits ++ l) bytes k in
    record { drawn = subst Q (sym e) (same_state (bits ++ part) bytes h k f g r) }

-- a run in two parts
pub run_in_parts : (of : Bool) (most count : ℕ) → most < count → replicate count of ≡ replicate most of ++ replicate (count - most) of
run_in_parts of most count h = let e : count ≡ most + (count - most) = omega arith in ap (λ (n : ℕ). replicate n of) e ∙ sym (replicate-append-replicate most (count - most) of)

-- where a run of the most bits was read before, and maybe further ones, it is given
pub run_kept : (of : Bool) (most before : ℕ) (bits : List Bool) (bytes piece : List ℕ) (at : ℕ) (h k : BitInState) → before ≡ most → part_bits h.part ≡ replicate before of ++ part_bits k.part → k.last ≡ h.last → k.left ≡ h.left
    → HasRead bits bytes h → HasRead (bits ++ run_bits of most most) (bytes ++ slice_range piece at at) k
run_kept of most before bits bytes piece at h k b e f g r =
    let taken = bytes ++ slice_range piece at at in
    let P : List Bool → Type 0 = λ l. HasDrawn l taken k in
    let all : replicate before of ≡ run_bits of most most = ap (λ (n : ℕ). replicate n of) b ∙ whole_run of most most refl in
    let whole : bits ++ (replicate before of ++ part_bits k.part) ≡ (bits ++ run_bits of most most) ++ part_bits k.part =
    sym (append_assoc bits (replicate before of) (part_bits k.part)) ∙ ap (λ (l : List Bool). (bits ++ l) ++ part_bits k.part) all in
    record { drawn = subst P whole (drawn_before bits (replicate before of ++ part_bits k.part) bytes piece at h k e f g r) }

pub run_before : (of : Bool) (most before : ℕ) (left bits : List Bool) (bytes piece : List ℕ) (at : ℕ) (h k : BitInState) → before ≡ most → part_bits h.part ≡ replicate before of ++ left → k.last ≡ h.last → k.left ≡ h.left
    → HasRead bits bytes h → (rest : List Bool) × (drop (length bits) (packed_bits (bytes ++ drop at piece)).bits ≡ run_bits of most most ++ rest)
run_before of most before left bits bytes piece at h k b e f g r =
    let t = front_behind bits (replicate before of ++ left) bytes piece at at k (omega arith) (drawn_before bits (replicate before of ++ left) bytes piece at h k e f g r) in
    let all : replicate before of ≡ run_bits of most most = ap (λ (n : ℕ). replicate n of) b ∙ whole_run of most most refl in
    (left ++ t.0, t.1 ∙ (append_assoc (replicate before of) left t.0 ∙ ap (λ (l : List Bool). l ++ (left ++ t.0)) all))
