-- An input has a main header at its front or is refused once, and either stays.
use Rattle.std.proofs.Common.{◌≡◌, ℕ, List, [], ◌++◌, refl, sym, ◌∙◌, ap, subst, append_assoc}
use Rattle.std.proofs.lemmas.List.{append-nil}
use Rattle.codestream_model.specs.HeadRefusals.{HeadRefusal, Cut as WantsBytes}
use Rattle.codestream_model.specs.RefusedHeader.{RefusesHead}
use Rattle.codestream_model.proofs.HeaderJudged.{refusal_is_one, header_is_not_refused}
use Rattle.codestream_model.proofs.Standing.{refusal_stands}
use Rattle.j2k_markers.specs.declared.head.HeadWhy.{HeadWhy}
use Rattle.j2k_markers.specs.declared.head.HeadWhy.TheVariants.{Cut}
use Rattle.j2k_markers.specs.Refusals.{refusal_of, why_of}
use Rattle.scl_run.specs.declared.ending.Reason.TheVariants.{Header}
use Rattle.scl_run.specs.declared.ending.Refusal.{Refusal}
use Rattle.scl_run.specs.InputClass.{IsLawful}
use Rattle.scl_run.specs.HeaderInput.{BeginsWithHead, LacksHeader, WantsHeaderBytes, header_input}
use Rattle.scl_run.proofs.InputClassLaws.{same_refusal}

-- the program's reasons are as many as the definitions'
why_back : (w : HeadWhy) → why_of (refusal_of w) ≡ w
why_back Cut = refl
why_back w = refl

same_why : (w v : HeadWhy) → refusal_of w ≡ refusal_of v → w ≡ v
same_why w v e = sym (why_back w) ∙ (ap why_of e ∙ why_back v)

not_refused : (input : List ℕ) (at : ℕ) (why : HeadRefusal) → BeginsWithHead input → RefusesHead input at why → ⊥
not_refused input at why a h = let R : List ℕ → Type 0 = λ l. RefusesHead l at why in header_is_not_refused a.head a.header a.more at why a.spelt (subst R a.whole h)

one : (input : List ℕ) (r : Refusal) → BeginsWithHead input → LacksHeader input r → ⊥
one input r a (why, is, h) = not_refused input r.at (refusal_of why) a h

one_refusal : (input : List ℕ) (r q : Refusal) → LacksHeader input r → LacksHeader input q → r ≡ q
one_refusal input r q (why, is, h) (other, also, k) =
    let same = refusal_is_one input r.at q.at (refusal_of why) (refusal_of other) h k in
    same_refusal r q same.0 (is ∙ (ap (λ (w : HeadWhy). Header w) (same_why why other same.1) ∙ sym also))

accepted : (read rest : List ℕ) → BeginsWithHead read → BeginsWithHead (read ++ rest)
accepted read rest a = record {
  head = a.head;
  header = a.header;
  more = a.more ++ rest;
  spelt = a.spelt;
  whole = ap (λ (l : List ℕ). l ++ rest) a.whole ∙ append_assoc a.header a.more rest;
}

stands : (read rest : List ℕ) (at : ℕ) (why : HeadWhy) → (why ≡ Cut → rest ≡ []) → RefusesHead read at (refusal_of why) → RefusesHead (read ++ rest) at (refusal_of why)
stands read rest at Cut end h = let R : List ℕ → Type 0 = λ l. RefusesHead l at WantsBytes in subst R (sym (ap (λ (l : List ℕ). read ++ l) (end refl) ∙ append-nil read)) h
stands read rest at why end h = refusal_stands read rest at (refusal_of why) (λ e. absurd (cc)) h

refused : (read rest : List ℕ) (r : Refusal) → LacksHeader read r → (r.reason ≡ Header Cut → rest ≡ []) → LacksHeader (read ++ rest) r
refused read rest r (why, is, h) end = (why, is, stands read rest r.at why (λ e. end (is ∙ ap (λ (w : HeadWhy). Header w) e)) h)

waits_to_refuse : (read : List ℕ) (r : Refusal) → WantsHeaderBytes read → LacksHeader read r → r.reason ≡ Header Cut
waits_to_refuse read r (at, wants) (why, is, h) =
    let same = refusal_is_one read at r.at WantsBytes (refusal_of why) wants h in
    is ∙ ap (λ (w : HeadWhy). Header w) (same_why why Cut (sym same.1))

pub header_input_is_lawful : IsLawful header_input
header_input_is_lawful = record {
  one = one;
  one_refusal = one_refusal;
  accepted = λ read rest a end. accepted read rest a;
  refused = refused;
  waits_to_accept = λ read wants a. not_refused read wants.0 WantsBytes a wants.1;
  waits_to_refuse = waits_to_refuse;
}
