-- Bits that calls write, one call after another.
use Rattle.std.proofs.Common.{◌≡◌, ◌≢◌, ◌<◌, ◌≤◌, ◌+◌, ◌-◌, ◌==◌, ◌↔◌, ℕ, suc, Bool, true, false, List, [], ◌∷◌, ◌++◌, length, drop, Result, Ok, Err, IfOk, IsErr, refl, sym, ◌∙◌, ap, subst, inl, inr, arith, append_assoc}
use Rattle.std.proofs.lemmas.List.{append-nil, drop-drop}
use Rattle.std.proofs.lemmas.Bool.Decides.{eqb_tells}
use Rattle.stuffed_bits.specs.BitWriterState.{BitWriterState}
use Rattle.stuffed_bits.specs.BitsWritten.{HasWritten, reach}
use Rattle.stuffed_bits.specs.declared.bit_writer.Full.{Full}
use Rattle.tag_tree.specs.LeafWriting.{Writes, inclusion_step, value_step}
use Rattle.tag_tree.proofs.ReachLemmas.{past_with_more, written_within}

-- no bits are written without a call
pub writes_none : (A : Type 0) (bits : List Bool) (w : BitWriterState) (buf : List ℕ) (x : A) → bits ≡ [] → Writes {A = A} bits w w buf buf (Ok x)
writes_none A bits w buf x none =
    let all : (done : List Bool) → HasWritten done buf w → HasWritten (done ++ bits) buf w =
    λ done r. (let P : List Bool → Type 0 = λ l. HasWritten l buf w in subst P (sym (ap (λ (l : List Bool). done ++ l) none ∙ append-nil done)) r) in
    record {
      full = λ done r. ((λ f. absurd (cc)), (λ h. absurd (omega (arith, written_within (done ++ bits) buf w (all done r)))));
      holds = all;
    }

-- bits after those that a call wrote
full_behind : {B : Type 0} (bits more done : List Bool) (before between : List ℕ) (out : Result B Full) → length between ≡ length before
    → (IsErr out ↔ (length between < reach ((done ++ bits) ++ more))) → IsErr out ↔ (length before < reach (done ++ (bits ++ more)))
full_behind bits more done before between out same here =
    let P : List Bool → Type 0 = λ l. IsErr out ↔ (length before < reach l) in
    let Q : ℕ → Type 0 = λ n. IsErr out ↔ (n < reach ((done ++ bits) ++ more)) in
    subst P (append_assoc done bits more) (subst Q same here)

stands_behind : {B : Type 0} (bits more : List Bool) (old mid new : BitWriterState) (before between after : List ℕ) (out : Result B Full)
    → ((done : List Bool) → HasWritten done before old → HasWritten (done ++ bits) between mid)
    → IfOk out (λ _. (done : List Bool) → HasWritten done between mid → HasWritten (done ++ more) after new)
    → IfOk out (λ _. (done : List Bool) → HasWritten done before old → HasWritten (done ++ (bits ++ more)) after new)
stands_behind bits more old mid new before between after (Err why) one two = tt
stands_behind bits more old mid new before between after (Ok x) one two = λ done r.
    let P : List Bool → Type 0 = λ l. HasWritten l after new in
    subst P (append_assoc done bits more) (two (done ++ bits) (one done r))

pub writes_behind : (A B : Type 0) (bits more : List Bool) (old mid new : BitWriterState) (before between after : List ℕ) (x : A) (out : Result B Full) → length between ≡ length before
    → Writes {A = A} bits old mid before between (Ok x) → Writes {A = B} more mid new between after out → Writes {A = B} (bits ++ more) old new before after out
writes_behind A B bits more old mid new before between after x out same one two = record {
  full = λ done r. full_behind bits more done before between out same (two.full (done ++ bits) (one.holds done r));
  holds = stands_behind bits more old mid new before between after out one.holds two.holds;
}

-- bits after those for which a call had no room
pub writes_no_more : (A B : Type 0) (bits more : List Bool) (old new : BitWriterState) (before after : List ℕ) (why : Full) (out : Result B Full) → IsErr out → Writes {A = A} bits old new before after (Err why) → Writes {A = B} (bits ++ more) old new before after out
writes_no_more A B bits more old new before after why (Ok x) is one = absurd (cc)
writes_no_more A B bits more old new before after why (Err other) is one = record {
  full = λ done r. ((λ f. past_with_more done bits more (length before) ((one.full done r).0 refl)), (λ h. refl));
  holds = tt;
}

-- bytes after those of a second call, which are after those of the first
pub behind_both : (before between after : List ℕ) (mid new : ℕ) → mid ≤ new → drop mid between ≡ drop mid before → drop new after ≡ drop new between → drop new after ≡ drop new before
behind_both before between after mid new h e f =
    let i : mid + (new - mid) ≡ new = omega arith in
    let further : (l : List ℕ) → drop new l ≡ drop (new - mid) (drop mid l) = λ (l : List ℕ). sym (drop-drop (new - mid) mid l ∙ ap (λ (n : ℕ). drop n l) i) in
    f ∙ (further between ∙ (ap (drop (new - mid)) e ∙ sym (further before)))

-- the bits of a label of the value tree, by whether it is above another
pub no_zeros : (above label : ℕ) → label ≤ above → value_step above label ≡ true ∷ []
no_zeros above label h = let e : label - above ≡ 0 = omega arith in rw e refl

pub one_zero : (above label : ℕ) → above < label → value_step above label ≡ (false ∷ []) ++ value_step (above + 1) label
one_zero above label h =
    let e : label - above ≡ suc (label - (above + 1)) = omega arith in
    rw e refl

-- the bits of a node of the inclusion tree, by whether the label above it is 0
pub step_under_more : (above label : ℕ) → above ≢ 0 → inclusion_step above label ≡ []
step_under_more above label h = elim (eqb_tells above 0) [ inl t ↦ absurd (h t.1) | inr t ↦ rw t.0 refl ]

pub step_under_none : (above label : ℕ) → above ≡ 0 → inclusion_step above label ≡ (label == 0) ∷ []
step_under_none above label h = rw h refl

-- a call that writes what another wrote
pub writes_same : (A B : Type 0) (bits more : List Bool) (old new : BitWriterState) (before after : List ℕ) (x : A) (y : B) → bits ≡ more → Writes {A = A} bits old new before after (Ok x) → Writes {A = B} more old new before after (Ok y)
writes_same A B bits more old new before after x y e one =
    let P : List Bool → Type 0 = λ l. Writes {A = B} l old new before after (Ok y) in
    subst P e (record { full = one.full; holds = one.holds })
