use Rattle.std.proofs.Common.{◌≡◌, ◌++◌, drop, sym, ◌∙◌, ap, append_assoc}
use Rattle.std.proofs.lemmas.List.{take-append-drop}
use Rattle.stream_model.specs.Report.{hex}
use Rattle.precinct_report.proofs.Written.{hex-append}
use Rattle.precinct_report.proofs.Gathered.{gathers_same, gathers_done, gathers_failed, gathers_front}
use Rattle.precinct_report.proofs.writing.gather_hex.Goals as goal

pub returns-in-WriteFault : goal.returns-in-WriteFault
returns-in-WriteFault g c =
    let so = c.loop-rest.invariant in
    let own = c.split_at.result.0.now in
    let behind = c.split_at.result.1.now in
    let rest = c.loop-rest.rest.now in
    let n = c.min.result in
    let cut : rest ≡ own ++ behind = sym (take-append-drop n rest) ∙ (ap (λ l. l ++ drop n rest) (sym c.split_at.ensures.front) ∙ ap (λ l. own ++ l) (sym c.split_at.ensures.back)) in
    let same : hex so.0 ++ (hex own ++ hex behind) ≡ hex c.args.bytes.now = ap (λ l. hex so.0 ++ l) (sym (hex-append own behind)) ∙ (sym (hex-append so.0 (own ++ behind)) ∙ ap hex (sym (so.1 ∙ ap (λ l. so.0 ++ l) cut))) in
    (so.2.0 ++ c.in-WriteFault.ensures.0, gathers_same _ _ _ _ _ _ _ _ same (gathers_failed (hex so.0) (hex own ++ hex behind) _ _ _ _ _ _ _ _ so.2.1 (gathers_front (hex own) (hex behind) _ _ _ _ _ c.in-WriteFault.ensures.1)))

pub loop-rest-preserved : goal.loop-rest-preserved
loop-rest-preserved g c =
    let so = c.loop-rest.invariant in
    let own = c.split_at.result.0.now in
    let behind = c.split_at.result.1.now in
    let rest = c.loop-rest.rest.now in
    let n = c.min.result in
    let cut : rest ≡ own ++ behind = sym (take-append-drop n rest) ∙ (ap (λ l. l ++ drop n rest) (sym c.split_at.ensures.front) ∙ ap (λ l. own ++ l) (sym c.split_at.ensures.back)) in
    (so.0 ++ own, so.1 ∙ (ap (λ l. so.0 ++ l) cut ∙ sym (append_assoc so.0 own behind)), (so.2.0 ++ c.in-Done.ensures.0, gathers_same _ _ _ _ _ _ _ _ (sym (hex-append so.0 own)) (gathers_done (hex so.0) (hex own) _ _ _ _ _ _ _ _ so.2.1 c.in-Done.ensures.1)))
