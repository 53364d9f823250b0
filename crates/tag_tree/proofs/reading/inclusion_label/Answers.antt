-- A label is read of a bit.
use Rattle.std.proofs.Common.{◌≡◌, ◌++◌, Bool, true, false, Ok, Err, Result, drop, refl, sym, ◌∙◌, ap, subst}
use Rattle.std.proofs.lemmas.Result.{err_from_is_err_and}
use Rattle.std.specs.List.{slice_range}
use Rattle.stuffed_bits.specs.declared.stop.Stop.{Stop}
use Rattle.stuffed_bits.specs.declared.stop.Stop.TheVariants as bits
use Rattle.tag_tree.specs.LabelStops.{label_stop}
use Rattle.tag_tree.specs.LeafGoing.{NeedsMore}
use Rattle.tag_tree.specs.declared.stop.LabelStop.TheVariants.{Need, TooGreat}
use Rattle.tag_tree.proofs.ZeroRuns.{need_of, never_great}
use Rattle.tag_tree.proofs.AnswerLemmas.{bit_label, bit_stopped}
use Rattle.tag_tree.proofs.reading.inclusion_label.Goals as goal

pub returns-in_err-included-clause-read : goal.returns-in_err-included-clause-read
returns-in_err-included-clause-read c = λ done bytes r.
    let p = err_from_is_err_and c.from_residual.result c.from_residual.ensures.1 in
    let s = c.args.source.now in
    rw (p.1, p.2) (bit_stopped c.in_err-included.field-0.0 done (bytes ++ drop s.at s.piece.now) (bytes ++ slice_range s.piece.now s.at c.bit.new.at) c.bit.new.self (sym c.in_err-included.was ∙ c.bit.ensures.exact done bytes r))

pub returns-then-included-clause-read : goal.returns-then-included-clause-read
returns-then-included-clause-read c = λ done bytes r.
    let s = c.args.source.now in
    let e = c.in_ok-included.was ∙ ap Ok c.if-included.true in
    bit_label true 0 done (bytes ++ drop s.at s.piece.now) (bytes ++ slice_range s.piece.now s.at c.bit.new.at) c.bit.new.self c.bit.result refl e (c.bit.ensures.exact done bytes r) (c.bit.ensures.gives done bytes r)

pub returns-else-included-clause-read : goal.returns-else-included-clause-read
returns-else-included-clause-read c = λ done bytes r.
    let s = c.args.source.now in
    let e = c.in_ok-included.was ∙ ap Ok c.if-included.false in
    bit_label false 1 done (bytes ++ drop s.at s.piece.now) (bytes ++ slice_range s.piece.now s.at c.bit.new.at) c.bit.new.self c.bit.result refl e (c.bit.ensures.exact done bytes r) (c.bit.ensures.gives done bytes r)

-- the bit needs a further piece where the label does
needs : (c : goal.After-from_residual) → NeedsMore c.from_residual.result → c.bit.result ≡ Err bits.Need
needs c e =
    let p = err_from_is_err_and c.from_residual.result c.from_residual.ensures.1 in
    let one : c.from_residual.result ≡ Err p.0 = p.1 in
    let two : p.0 ≡ label_stop c.in_err-included.field-0.0 = p.2 in
    let three : p.0 ≡ Need = cc in
    c.in_err-included.was ∙ ap (λ (x : Stop). Err x) (need_of c.in_err-included.field-0.0 (sym two ∙ three))

pub returns-in_err-included-clause-goes : goal.returns-in_err-included-clause-goes
returns-in_err-included-clause-goes c = record {
  piece = refl;
  onward = c.bit.ensures.onward;
  within = c.bit.ensures.within;
  whole = λ e. c.bit.ensures.whole (needs c e);
  own = λ e. c.bit.ensures.kept;
  inclusion = λ e. c.bit.ensures.kept;
}

pub returns-in_err-included-clause-never : goal.returns-in_err-included-clause-never
returns-in_err-included-clause-never c = λ e.
    let p = err_from_is_err_and c.from_residual.result c.from_residual.ensures.1 in
    let one : c.from_residual.result ≡ Err p.0 = p.1 in
    let two : p.0 ≡ label_stop c.in_err-included.field-0.0 = p.2 in
    let three : p.0 ≡ TooGreat = cc in
    never_great c.in_err-included.field-0.0 (sym two ∙ three)
