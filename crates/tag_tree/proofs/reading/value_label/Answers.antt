-- A label is read of a run of zeros.
use Rattle.std.proofs.Common.{◌≡◌, ◌+◌, ◌-◌, ◌++◌, Ok, Err, drop, refl, sym, ◌∙◌, ap, arith}
use Rattle.std.proofs.lemmas.Result.{err_from_is_err_and}
use Rattle.std.specs.List.{slice_range}
use Rattle.codestream_model.specs.StuffedBits.{packed_bits}
use Rattle.stuffed_bits.specs.declared.stop.Stop.{Stop}
use Rattle.stuffed_bits.specs.declared.stop.Stop.TheVariants as bits
use Rattle.tag_tree.specs.LabelStops.{label_stop}
use Rattle.tag_tree.specs.LeafGoing.{NeedsMore}
use Rattle.tag_tree.specs.declared.stop.LabelStop.TheVariants.{Need}
use Rattle.tag_tree.proofs.ZeroRuns.{label_short, label_found, label_too_great, run_of_err, run_of_ok, need_of}
use Rattle.tag_tree.proofs.reading.value_label.Goals as goal

pub returns-in_err-zeros-clause-read : goal.returns-in_err-zeros-clause-read
returns-in_err-zeros-clause-read c = λ done bytes r.
    let p = err_from_is_err_and c.from_residual.result c.from_residual.ensures.1 in
    let s = c.args.source.now in
    let all = bytes ++ drop s.at s.piece.now in
    let most : c.saturating_sub-most.result + 1 ≡ 74 - c.args.least + 1 = omega (arith, c.saturating_sub-most.ensures) in
    let short = run_of_err _ _ _ _ c.run.result c.in_err-zeros.field-0.0 c.in_err-zeros.was (c.run.ensures.exact done bytes r) in
    rw (p.1, p.2) (label_short c.args.least (c.saturating_sub-most.result + 1) done all (bytes ++ slice_range s.piece.now s.at c.run.new.at) c.run.new.self c.in_err-zeros.field-0.0 most short.0 short.1)

pub returns-clause-read : goal.returns-clause-read
returns-clause-read c = λ done bytes r.
    let s = c.args.source.now in
    let all = bytes ++ drop s.at s.piece.now in
    let most : c.saturating_sub-most.result + 1 ≡ 74 - c.args.least + 1 = omega (arith, c.saturating_sub-most.ensures) in
    let got = run_of_ok _ _ _ _ c.run.result c.in_ok-zeros.zeros c.in_ok-zeros.was (c.run.ensures.exact done bytes r) in
    label_found c.args.least (c.saturating_sub-most.result + 1) c.in_ok-zeros.zeros done got.1.0 all (bytes ++ slice_range s.piece.now s.at c.run.new.at) c.run.new.self most c.if-zeros-most.false got.1.1
    (c.run.ensures.gives c.in_ok-zeros.zeros c.in_ok-zeros.was done bytes r)

pub returns-then-zeros-most-clause-read : goal.returns-then-zeros-most-clause-read
returns-then-zeros-most-clause-read c = λ done bytes r.
    let s = c.args.source.now in
    let all = bytes ++ drop s.at s.piece.now in
    let most : c.saturating_sub-most.result + 1 ≡ 74 - c.args.least + 1 = omega (arith, c.saturating_sub-most.ensures) in
    let got = run_of_ok _ _ _ _ c.run.result c.in_ok-zeros.zeros c.in_ok-zeros.was (c.run.ensures.exact done bytes r) in
    let whole : c.in_ok-zeros.zeros ≡ c.saturating_sub-most.result + 1 = omega (arith, got.0, c.if-zeros-most.true) in
    label_too_great c.args.least (c.saturating_sub-most.result + 1) c.in_ok-zeros.zeros done got.1.0 all (bytes ++ slice_range s.piece.now s.at c.run.new.at) c.run.new.self most whole got.1.1

-- the run needs a further piece where the label does
needs : (c : goal.After-from_residual) → NeedsMore c.from_residual.result → c.run.result ≡ Err bits.Need
needs c e =
    let p = err_from_is_err_and c.from_residual.result c.from_residual.ensures.1 in
    let one : c.from_residual.result ≡ Err p.0 = p.1 in
    let two : p.0 ≡ label_stop c.in_err-zeros.field-0.0 = p.2 in
    let three : p.0 ≡ Need = cc in
    c.in_err-zeros.was ∙ ap (λ (x : Stop). Err x) (need_of c.in_err-zeros.field-0.0 (sym two ∙ three))

pub returns-in_err-zeros-clause-waits : goal.returns-in_err-zeros-clause-waits
returns-in_err-zeros-clause-waits c = λ e. c.run.ensures.waits (needs c e)

pub returns-in_err-zeros-clause-goes : goal.returns-in_err-zeros-clause-goes
returns-in_err-zeros-clause-goes c = record {
  piece = refl;
  onward = c.run.ensures.onward;
  within = c.run.ensures.within;
  whole = λ e. c.run.ensures.whole (needs c e);
  own = λ e. c.run.ensures.own (needs c e);
  inclusion = λ e. absurd (cc);
}
