use Rattle.std.proofs.Common.{◌≡◌, List, ℕ, sym, ◌∙◌, ap, subst}
use Rattle.std.specs.Prelude.{Some, None}
use Rattle.std.proofs.lemmas.Bool.{eq-eqb, ne_eqb}
use Rattle.codestream_model.specs.Segments.{SOT}
use Rattle.codestream_model.specs.HeadRefusals.{HeadRefusal, first_refusal}
use Rattle.codestream_model.specs.RefusedHeader.{refusal_next}
use Rattle.j2k_markers.specs.Before.{kept_tests}
use Rattle.j2k_markers.specs.Walking.{ReadsMain, ReadsTile}
use Rattle.j2k_markers.specs.Refusals.{read_as}
use Rattle.j2k_markers.proofs.Judges.{judged_err, judged_ok}
use Rattle.j2k_markers.proofs.Keeping.{next_is_kept}
use Rattle.codestream_model.proofs.CutHeads.{cut_next}
use Rattle.j2k_markers.proofs.Refusing.{answer_refused, main_refuses, why_cut}
use Rattle.j2k_markers.proofs.Starting.{begins}
use Rattle.j2k_markers.proofs.Stepping.{Adds, main_goes, main_ends}
use Rattle.j2k_markers.proofs.walk.walk_main.Goals as goal

pub segments-init : goal.segments-init
segments-init c = begins c.args.bytes.now c.new-before.result c.behind_soc-rest.result.now c.requires c.new-before.ensures.kept c.new-before.ensures.sound c.new-before.ensures.qcd_at c.behind_soc-rest.ensures

pub fault-requires-clause-cut : goal.fault-requires-clause-cut
fault-requires-clause-cut c = λ e.
    let b = c.args.bytes.now in
    let rest = c.segments.rest.now in
    let r = c.segments.invariant in
    let p = judged_err (first_refusal (kept_tests b c.segments.before rest)) c.in-Err.why (sym c.in-Err.ensures.judged) in
    cut_next b r.before rest (sym (next_is_kept b c.segments.before r.before rest r.kept) ∙ (p.1 ∙ ap (λ (r : HeadRefusal). Some r) (why_cut p.0 (p.2 ∙ e))))

pub returns-in-Err : goal.returns-in-Err
returns-in-Err c =
    let b = c.args.bytes.now in
    let rest = c.segments.rest.now in
    let r = c.segments.invariant in
    let p = judged_err (first_refusal (kept_tests b c.segments.before rest)) c.in-Err.why (sym c.in-Err.ensures.judged) in
    let first : refusal_next b r.before rest ≡ Some p.0 = sym (next_is_kept b c.segments.before r.before rest r.kept) ∙ p.1 in
    answer_refused b c.segments.before r.before p.0 c.fault.result c.in-Err.why r.kept c.fault.ensures.at c.fault.ensures.why p.2
    ∙ ap read_as (sym (r.read ∙ main_refuses r.left b r.before rest p.0 r.room first))

pub walk_tile-requires : goal.walk_tile-requires
walk_tile-requires c =
    let b = c.args.bytes.now in
    let rest = c.segments.rest.now in
    let r = c.segments.invariant in
    let w = c.segments.before in
    let v = c.with-before.result in
    let s = c.in-Ok.segment in
    let none : refusal_next b r.before rest ≡ None = sym (next_is_kept b w r.before rest r.kept) ∙ judged_ok (first_refusal (kept_tests b w rest)) tt (sym c.in-Ok.ensures.judged) in
    let e = c.with-before.ensures in
    let adds : Adds w v s = record { at = e.at; siz = e.siz; cap = e.cap; cod = e.cod; qcd = e.qcd; qcd_at = e.qcd_at } in
    let P : List ℕ → Type 0 = λ l. ReadsTile b v s.content.now w.at l in
    subst P (sym c.rest_behind-rest.ensures.behind) (main_ends b w v rest s r none c.in-Ok.ensures.front adds (eq-eqb s.marker SOT c.if-segment.true) (c.in-Ok.ensures.eight c.if-segment.true) (c.in-Ok.ensures.siz c.if-segment.true) (c.in-Ok.ensures.cod c.if-segment.true))

pub segments-preserved : goal.segments-preserved
segments-preserved c =
    let b = c.args.bytes.now in
    let rest = c.segments.rest.now in
    let r = c.segments.invariant in
    let w = c.segments.before in
    let v = c.with-before.result in
    let s = c.in-Ok.segment in
    let none : refusal_next b r.before rest ≡ None = sym (next_is_kept b w r.before rest r.kept) ∙ judged_ok (first_refusal (kept_tests b w rest)) tt (sym c.in-Ok.ensures.judged) in
    let e = c.with-before.ensures in
    let adds : Adds w v s = record { at = e.at; siz = e.siz; cap = e.cap; cod = e.cod; qcd = e.qcd; qcd_at = e.qcd_at } in
    let P : List ℕ → Type 0 = λ l. ReadsMain b v l in
    subst P (sym c.rest_behind-rest.ensures.behind) (main_goes b w v rest s r none c.in-Ok.ensures.front adds (ne_eqb s.marker SOT c.if-segment.false))
