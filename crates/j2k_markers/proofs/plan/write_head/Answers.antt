use Rattle.std.proofs.Common.{◌≡◌, List, ℕ, sym, ◌∙◌, refl, take, subst}
use Rattle.codestream_model.specs.MainHeader.{SpellsHead}
use Rattle.codestream_model.specs.RefusedHeader.{RefusesHead}
use Rattle.j2k_markers.specs.declared.head.HeadWhy.{HeadWhy}
use Rattle.j2k_markers.specs.Layout.{plan_bytes}
use Rattle.j2k_markers.specs.Refusals.{refusal_of}
use Rattle.j2k_markers.proofs.Wholes.{whole_plan}
use Rattle.j2k_markers.proofs.plan.write_head.Goals as goal

pub returns-in-Err-clause-refused : goal.returns-in-Err-clause-refused
returns-in-Err-clause-refused c = λ why e.
    let fault = c.in-Err.fault in
    let same : fault.why ≡ why = cc in
    let there = (c.in-Err.ensures.refused fault.at fault.why).0 refl in
    let bytes : c.deref.result.now ≡ plan_bytes c.args.plan.now = c.deref.ensures.value ∙ c.in_ok-bytes.ensures in
    let P : List ℕ → Type 0 = λ b. RefusesHead b fault.at (refusal_of fault.why) in
    let Q : HeadWhy → Type 0 = λ w. RefusesHead (plan_bytes c.args.plan.now) fault.at (refusal_of w) in
    (fault.at, subst Q same (subst P bytes there))

pub returns-in-Ok-clause-accepted : goal.returns-in-Ok-clause-accepted
returns-in-Ok-clause-accepted c =
    let h = c.in-Ok.field-0 in
    let plan = c.args.plan.now in
    let bytes : c.deref.result.now ≡ plan_bytes plan = c.deref.ensures.value ∙ c.in_ok-bytes.ensures in
    let P : List ℕ → Type 0 = λ b. SpellsHead h (take h.length b) in
    let Q : List ℕ → Type 0 = λ b. SpellsHead h b in
    (h, subst Q (sym c.in_ok-bytes.ensures) (whole_plan plan h c.requires.extra (subst P bytes c.in-Ok.ensures.found)))
