-- The headline.
use Rattle.std.proofs.Common.{◌≡◌, ◌≤◌, ◌^◌, ◌++◌, ℕ, Bool, true, false, List, [], length, take, Option, Some, None, refl, sym, ◌∙◌, ap, subst, arith, length-take}
use Rattle.std.proofs.lemmas.List.{append-nil, take_all}
use Rattle.std.specs.Prelude.{IfSome, MatchBool}
use Rattle.std.specs.List.{flat_map, range_with_len}
use Rattle.stream_model.specs.EndCounts.{end_counts}
use Rattle.stream_model.specs.Reached.{StreamPrecinct}
use Rattle.stream_model.specs.Report.{lines, end_line}
use Rattle.stream_model.specs.StreamLaws.{said_by}
use Rattle.stream_model.proofs.StreamShapes.{whole_stream_is_due}
use Rattle.stream_model.proofs.ThinnedReports.{reached_has_left, thinned_is_reported}
use Rattle.wire_model.specs.Causes.{Grew, Fell}
use Rattle.wire_model.specs.Framing.{Splits, framing}
use Rattle.wire_model.specs.Thinning.{kept}
use Rattle.stream_model.specs.ThinnedLaws.{cut_of}
use Rattle.stream_model.specs.Receiver.{Pick}
use Rattle.stream_model.specs.Commands.{counted, reported, report_lines}
use Rattle.stream_model.proofs.ReportWritten.{report_writes_what_is_due, arrive_front}
use Rattle.scl_outside.specs.Meaning.{Meaning}
use Rattle.scl_outside.specs.Effects.{Effects, effects}
use Rattle.scl_run.specs.declared.ending.Ending.TheVariants.{Done, ReadFault, WriteFault, WireFault, Refused, NoMemory}
use Rattle.receiving_job.proofs.Finished.{all_read, is_over, frames_read}
use Rattle.report_job.specs.Headlines.{HeadlineFollows, HeadlineSoFar, HeadlineAtFault, WholeStreamIsReported, ThinnedFollows, IsDueSoFar}

pub headline_follows : HeadlineFollows
headline_follows pick s t some run sent codestreams datagrams frames events input rest c arrive splits sl tl =
    let f = effects run.events in
    let accepted = run.ends.cause.0 in
    let over = is_over f.ended t (accepted.1 tt) run.affects.over in
    let few : length f.read ≤ 2 ^ 40 = accepted.0.0 in
    let e : input ≡ f.read = all_read s.left t.left f.read input rest run.affects.left over sl tl in
    let S : List ℕ → Type 0 = λ l. Splits l frames [] in
    let law = report_writes_what_is_due sent codestreams datagrams frames events pick f.read [] c some (subst S e splits) few arrive in
    let G : List ℕ → Type 0 = λ l. Grew s.written t.written l in
    subst G (run.ends.output ∙ law.1) run.affects.written

pub thinned_follows : ThinnedFollows
thinned_follows pick s t run p parts codestreams limit input rest can picks is sl tl =
    let frames = kept limit (cut_of p parts) in
    let read = frames_read reported pick s t frames input rest run (is ∙ sym (append-nil (framing frames))) sl tl in
    let law = thinned_is_reported p parts codestreams limit pick (effects run.events).read can picks read in
    let G : List ℕ → Type 0 = λ l. Grew s.written t.written l in
    record {
      written = subst G (run.ends.output ∙ law) run.affects.written;
      left = λ codestream sent x at among low. reached_has_left p parts codestreams limit pick.window codestream sent x can picks.window at among low;
    }

pub whole_stream_is_reported : WholeStreamIsReported
whole_stream_is_reported pick s t some run sent codestreams datagrams frames input rest c arrive splits sl tl =
    let events = range_with_len 0 (length datagrams) in
    let all = (whole_stream_is_due sent codestreams datagrams pick.window c some).1 in
    let G : List StreamPrecinct → Type 0 = λ l. Grew s.written t.written (lines (flat_map (said_by sent) l) ++ end_line (end_counts frames events pick.window)) in
    subst G all (headline_follows pick s t some run sent codestreams datagrams frames events input rest c arrive splits sl tl)

-- what is made of the bytes that count
counted_once : (pick : Pick) (read : List ℕ) → report_lines pick (counted read) false ≡ report_lines pick read false
counted_once pick read =
    let few : length (take 1099511627776 read) ≤ 1099511627776 = omega (arith, length-take 1099511627776 read) in
    let same : counted (counted read) ≡ counted read = take_all 1099511627776 (counted read) few in
    rw same refl

due_so_far : (pick : Pick) (f : Effects) → 1 ≤ pick.window → f.written ≡ report_lines pick f.read false → IsDueSoFar pick f
due_so_far pick f some written sent codestreams datagrams front back events rest c arrive splits =
    let few : length (counted f.read) ≤ 2 ^ 40 = omega (arith, length-take 1099511627776 f.read) in
    let (early, late, split, so) = arrive_front datagrams front back events pick arrive in
    let law = report_writes_what_is_due sent codestreams datagrams front early pick (counted f.read) rest c some splits few so in
    (early, late, split, written ∙ (sym (counted_once pick f.read) ∙ law.0))

pub headline_so_far : HeadlineSoFar
headline_so_far pick f some so = due_so_far pick f some so.made

pub headline_at_fault : HeadlineAtFault
headline_at_fault pick Done f some early ends = absurd early
headline_at_fault pick ReadFault f some early ends = due_so_far pick f some ends.output
headline_at_fault pick WriteFault f some early ends = absurd early
headline_at_fault pick WireFault f some early ends = absurd early
headline_at_fault pick (Refused r) f some early ends = due_so_far pick f some ends.output
headline_at_fault pick NoMemory f some early ends = absurd early
