use Rattle.std.proofs.Common.{◌++◌, ◌∷◌, List, ℕ, sym, ◌∙◌, ap, subst}
use Rattle.std.specs.Prelude.{Some}
use Rattle.codestream_model.specs.HeadRefusals.{HeadRefusal}
use Rattle.codestream_model.specs.RefusedHeader.{refusal_behind}
use Rattle.j2k_markers.specs.Walking.{ReadsTile}
use Rattle.j2k_markers.specs.Refusals.{read_as}
use Rattle.j2k_markers.proofs.Judges.{judged_err, judged_ok}
use Rattle.codestream_model.proofs.CutHeads.{cut_behind}
use Rattle.j2k_markers.proofs.Refusing.{answer_refused, tile_refuses, why_cut}
use Rattle.j2k_markers.proofs.Stepping.{Adds, tile_goes, tile_whole}
use Rattle.j2k_markers.proofs.walk.walk_tile.Goals as goal

pub fault-requires-clause-cut : goal.fault-requires-clause-cut
fault-requires-clause-cut c = λ e.
    let b = c.args.bytes.now in
    let rest = c.segments.rest.now in
    let p = judged_err (refusal_behind b rest) c.in-Err.why (sym c.in-Err.ensures.judged) in
    cut_behind b rest (p.1 ∙ ap (λ (r : HeadRefusal). Some r) (why_cut p.0 (p.2 ∙ e)))

pub returns-in-Err : goal.returns-in-Err
returns-in-Err c =
    let b = c.args.bytes.now in
    let rest = c.segments.rest.now in
    let r = c.segments.invariant in
    let p = judged_err (refusal_behind b rest) c.in-Err.why (sym c.in-Err.ensures.judged) in
    answer_refused b c.segments.before (r.main ++ r.first ∷ r.skipped) p.0 c.fault.result c.in-Err.why r.kept c.fault.ensures.at c.fault.ensures.why p.2
    ∙ ap read_as (sym (r.read ∙ tile_refuses r.left b r.main r.first r.skipped rest p.0 r.room p.1))

pub whole_head-requires-clause-read : goal.whole_head-requires-clause-read
whole_head-requires-clause-read c =
    let b = c.args.bytes.now in
    let rest = c.segments.rest.now in
    let none = judged_ok (refusal_behind b rest) tt (sym c.in-Ok-End.ensures.judged) in
    tile_whole b c.segments.before c.args.tile.now c.args.sot rest c.segments.invariant none (rw c.in-Ok-End.field-0-is at c.in-Ok-End.ensures.turn)

pub segments-preserved : goal.segments-preserved
segments-preserved c =
    let b = c.args.bytes.now in
    let rest = c.segments.rest.now in
    let none = judged_ok (refusal_behind b rest) tt (sym c.in-Ok-Passed.ensures.judged) in
    let turn = rw c.in-Ok-Passed.field-0-is at c.in-Ok-Passed.ensures.turn in
    let w = c.segments.before in
    let v = c.with-before.result in
    let s = c.in-Ok-Passed.segment in
    let e = c.with-before.ensures in
    let adds : Adds w v s = record { at = e.at; siz = e.siz; cap = e.cap; cod = e.cod; qcd = e.qcd; qcd_at = e.qcd_at } in
    let P : List ℕ → Type 0 = λ l. ReadsTile b v c.args.tile.now c.args.sot l in
    subst P (sym c.rest_behind-rest.ensures.behind) (tile_goes b w v c.args.tile.now c.args.sot rest s c.segments.invariant none turn.0 turn.1 adds)
