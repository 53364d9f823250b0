-- What calls put, one call after another.
use Rattle.std.proofs.Common.{◌≡◌, ◌≢◌, ◌≤◌, ◌-◌, ◌/◌, ◌%◌, ◌^◌, ◌==◌, ◌++◌, ℕ, zero, suc, Bool, true, false, List, [], ◌∷◌, length, Result, Ok, Err, IsErr, refl, subst, inl, inr, arith}
use Rattle.codestream_model.specs.StuffedBits.{number_bits}
use Rattle.codestream_model.specs.HeaderPieces.{run_of, passes_code, refine_width}
use Rattle.std.proofs.lemmas.Bool.Decides.{eqb_tells}
use Rattle.stuffed_bits.specs.BitWriterState.{BitWriterState}
use Rattle.stuffed_bits.specs.declared.bit_writer.Full.{Full}
use Rattle.tag_tree.proofs.WriteLemmas.{writes_none, writes_behind, writes_no_more, behind_both}
use Rattle.packet_header.specs.Puts.{Onward, Puts, refine_tail}

-- a writer that stays, and one that goes on twice
pub goes_none : (w : BitWriterState) (buf : List ℕ) → w.len ≤ length buf → Onward w w buf buf
goes_none w buf h = record { onward = omega arith; within = h; beyond = refl }

pub goes_both : (old mid new : BitWriterState) (before between after : List ℕ) → Onward old mid before between → Onward mid new between after → Onward old new before after
goes_both old mid new before between after a b = record {
  onward = omega (arith, a.onward, b.onward);
  within = b.within;
  beyond = behind_both before between after mid.len new.len b.onward a.beyond b.beyond;
}

-- nothing is put
pub puts_none : (A : Type 0) (w : BitWriterState) (buf : List ℕ) (x : A) → w.len ≤ length buf → Puts {A = A} [] w w buf buf (Ok x)
puts_none A w buf x h = record { writes = writes_none A [] w buf x refl; goes = goes_none w buf h }

-- a call after another
pub puts_behind : (A B : Type 0) (bits more : List Bool) (old mid new : BitWriterState) (before between after : List ℕ) (x : A) (out : Result B Full) → length between ≡ length before
    → Puts {A = A} bits old mid before between (Ok x) → Puts {A = B} more mid new between after out → Puts {A = B} (bits ++ more) old new before after out
puts_behind A B bits more old mid new before between after x out same one two = record {
  writes = writes_behind A B bits more old mid new before between after x out same one.writes two.writes;
  goes = goes_both old mid new before between after one.goes two.goes;
}

-- what is after bits for which there was no room isn't put
pub puts_no_more : (A B : Type 0) (bits more : List Bool) (old new : BitWriterState) (before after : List ℕ) (why : Full) (out : Result B Full) → IsErr out → Puts {A = A} bits old new before after (Err why) → Puts {A = B} (bits ++ more) old new before after out
puts_no_more A B bits more old new before after why out is one = record { writes = writes_no_more A B bits more old new before after why out is one.writes; goes = one.goes }

-- other words for the same bits
pub puts_same : (A : Type 0) (bits more : List Bool) (old new : BitWriterState) (before after : List ℕ) (out : Result A Full) → bits ≡ more → Puts {A = A} bits old new before after out → Puts {A = A} more old new before after out
puts_same A bits more old new before after out e one = let P : List Bool → Type 0 = λ l. Puts {A = A} l old new before after out in subst P e one

-- bits of a number: none, or the greatest and those of the rest
pub no_number : (width v : ℕ) → width ≡ 0 → number_bits width v ≡ []
unfolding number_bits
no_number width v e = rw e refl

pub number_by_bit : (width v : ℕ) → width ≢ 0 → number_bits width v ≡ (v / 2 ^ (width - 1) % 2 == 1) ∷ number_bits (width - 1) v
unfolding number_bits
number_by_bit zero v e = absurd (e refl)
number_by_bit (suc width) v e =
    let i : suc width - 1 ≡ width = omega arith in
    rw i refl

-- some ones and a zero: a one and the rest
pub one_more : (ones : ℕ) → ones ≢ 0 → run_of true ones false ≡ (true ∷ []) ++ run_of true (ones - 1) false
one_more zero e = absurd (e refl)
one_more (suc ones) e =
    let i : suc ones - 1 ≡ ones = omega arith in
    rw i refl

-- the codes of the numbers of coding passes, as numbers of n bits
pub one_pass : number_bits 1 0 ≡ passes_code 1
unfolding number_bits
one_pass = refl

pub two_passes : number_bits 2 2 ≡ passes_code 2
unfolding number_bits
two_passes = refl

pub three_passes : number_bits 4 12 ≡ passes_code 3
unfolding number_bits
three_passes = refl

-- with one pass there is no refinement length
pub no_refine : (passes lblock n : ℕ) → passes ≡ 1 → [] ≡ refine_tail passes lblock n
no_refine passes lblock n e = rw e refl

pub some_refine : (passes lblock n : ℕ) → passes ≢ 1 → number_bits (refine_width passes lblock) n ≡ refine_tail passes lblock n
some_refine passes lblock n ne = elim (eqb_tells passes 1) [ inl t ↦ absurd (ne t.1) | inr t ↦ rw t.0 refl ]
