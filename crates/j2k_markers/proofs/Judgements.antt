-- What the answer of the reader says, by the laws of the model.
use Rattle.std.proofs.Common.{◌≡◌, ◌++◌, ℕ, List, take, refl, sym, ◌∙◌, ap, subst}
use Rattle.std.specs.Prelude.{Result, Ok, Err, MatchResult, IfOk}
use Rattle.codestream_model.specs.Values.{Head}
use Rattle.codestream_model.specs.Bytes.{IsBytes}
use Rattle.codestream_model.specs.HeadRefusals.{HeadRefusal, Cut}
use Rattle.codestream_model.specs.MainHeader.{SpellsHead}
use Rattle.codestream_model.specs.MainHeaderReading.{Refused, head_of}
use Rattle.codestream_model.specs.RefusedHeader.{RefusesHead}
use Rattle.codestream_model.proofs.HeaderJudged.{headers_are_judged}
use Rattle.codestream_model.proofs.HeaderReads.{header_is_read_one_way, refusal_is_read_one_way}
use Rattle.j2k_markers.specs.declared.head.HeadWhy.{HeadWhy}
use Rattle.j2k_markers.specs.declared.head.HeadWhy.TheVariants as why
use Rattle.j2k_markers.specs.declared.head.HeadFault.{HeadFault}
use Rattle.j2k_markers.specs.Refusals.{why_of, refusal_of, read_as}

-- a reason of the program by way of the definitions
why_back : (w : HeadWhy) → why_of (refusal_of w) ≡ w
why_back why.Cut = refl
why_back w = refl

-- and one of the definitions by way of the program
refusal_back : (r : HeadRefusal) → refusal_of (why_of r) ≡ r
refusal_back Cut = refl
refusal_back r = refl

-- an answer of the model that is Ok
ok_spelt : (b : List ℕ) (x : Result Head Refused) → MatchResult x (λ h. SpellsHead h (take h.length b)) (λ r. RefusesHead b r.at r.why) → IfOk (read_as x) (λ h. SpellsHead h (take h.length b))
ok_spelt b (Ok h) j = j
ok_spelt b (Err r) j = tt

-- so is one of the reader
pub found : (b : List ℕ) (x : Result Head HeadFault) → x ≡ read_as (head_of b) → IsBytes b → IfOk x (λ h. SpellsHead h (take h.length b))
found b x e fits =
    let P : Result Head HeadFault → Type 0 = λ y. IfOk y (λ h. SpellsHead h (take h.length b)) in
    subst P (sym e) (ok_spelt b (head_of b) (headers_are_judged b fits))

-- a header in front is found
pub only : (b : List ℕ) (x : Result Head HeadFault) → x ≡ read_as (head_of b) → (h : Head) (front more : List ℕ) → SpellsHead h front → b ≡ front ++ more → x ≡ Ok h
only b x e h front more s whole = e ∙ ap read_as (ap head_of whole ∙ header_is_read_one_way h front more s)

-- an answer of the model that is a refusal
err_refused : (b : List ℕ) (x : Result Head Refused) (at : ℕ) (w : HeadWhy) → MatchResult x (λ h. SpellsHead h (take h.length b)) (λ r. RefusesHead b r.at r.why) → read_as x ≡ Err (record { at = at; why = w }) → RefusesHead b at (refusal_of w)
err_refused b (Ok h) at w j e = absurd (cc)
err_refused b (Err r) at w j e =
    let fault : record { at = r.at; why = why_of r.why } ≡ record { at = at; why = w } = cc in
    let place : r.at ≡ at = ap (λ (f : HeadFault). f.at) fault in
    let reason : why_of r.why ≡ w = ap (λ (f : HeadFault). f.why) fault in
    let same : r.why ≡ refusal_of w = sym (refusal_back r.why) ∙ ap refusal_of reason in
    let P : ℕ → Type 0 = λ n. RefusesHead b n r.why in
    let Q : HeadRefusal → Type 0 = λ s. RefusesHead b at s in
    subst Q same (subst P place j)

-- so is one of the reader
pub refused_there : (b : List ℕ) (x : Result Head HeadFault) → x ≡ read_as (head_of b) → IsBytes b → (at : ℕ) (w : HeadWhy) → x ≡ Err (record { at = at; why = w }) → RefusesHead b at (refusal_of w)
refused_there b x e fits at w f = err_refused b (head_of b) at w (headers_are_judged b fits) (sym e ∙ f)

-- and each refusal is answered
pub refused_so : (b : List ℕ) (x : Result Head HeadFault) → x ≡ read_as (head_of b) → (at : ℕ) (w : HeadWhy) → RefusesHead b at (refusal_of w) → x ≡ Err (record { at = at; why = w })
refused_so b x e at w r = e ∙ (ap read_as (refusal_is_read_one_way b at (refusal_of w) r) ∙ ap (λ (v : HeadWhy). Err (record { at = at; why = v })) (why_back w))
