use Rattle.std.proofs.Common.{◌≡◌, ◌+◌, ◌++◌, ◌∷◌, List, ℕ, false, sym, ◌∙◌, ap}
use Rattle.std.specs.Prelude.{length, nat_lt}
use Rattle.std.proofs.lemmas.Bool.{le-ltb}
use Rattle.std.proofs.lemmas.Result.{err_from_is_err_and}
use Rattle.codestream_model.specs.Bytes.{two_at}
use Rattle.codestream_model.specs.Segments.{segment_at}
use Rattle.codestream_model.specs.HeadRefusals.{Test, refuses, first_refusal}
use Rattle.codestream_model.specs.RefusedHeader.{wanting}
use Rattle.j2k_markers.specs.Before.{marker_tests, length_tests, kept_content_tests}
use Rattle.j2k_markers.specs.Refusals.{judged}
use Rattle.j2k_markers.proofs.Judges.{behind, stops, goes_on}
use Rattle.j2k_markers.proofs.segments.next_segment.Goals as goal

pub returns-in_err-judge_marker-clause-judged : goal.returns-in_err-judge_marker-clause-judged
returns-in_err-judge_marker-clause-judged c =
    let p = err_from_is_err_and c.from_residual.result c.from_residual.ensures.1 in
    let rest = c.args.rest.now in
    let w = c.args.before.now in
    let m = two_at rest 0 in
    let want = wanting c.args.bytes.now in
    let last : List Test = refuses want (nat_lt (length rest) (2 + two_at rest 2)) ∷ kept_content_tests w m (segment_at rest).content in
    let others : List Test = refuses want (nat_lt (length rest) 4) ∷ (length_tests m (two_at rest 2) ++ last) in
    let there : nat_lt (length rest) 2 ≡ false = le-ltb (length rest) 2 c.if-rest-lt2.false in
    let answer : c.judge_marker.result ≡ judged (first_refusal (marker_tests w m)) = c.judge_marker.ensures.judged ∙ ap (λ (k : ℕ). judged (first_refusal (marker_tests w k))) c.number_16-marker.ensures in
    rw (p.1, p.2) (stops (marker_tests w m) others c.judge_marker.result c.in_err-judge_marker.field-0.0 answer c.in_err-judge_marker.was ∙ sym (behind (refuses want (nat_lt (length rest) 2)) (marker_tests w m ++ others) there))

pub returns-in_err-judge_length-clause-judged : goal.returns-in_err-judge_length-clause-judged
returns-in_err-judge_length-clause-judged c =
    let p = err_from_is_err_and c.from_residual-in_err-judge_length.result c.from_residual-in_err-judge_length.ensures.1 in
    let rest = c.args.rest.now in
    let w = c.args.before.now in
    let m = two_at rest 0 in
    let n = two_at rest 2 in
    let want = wanting c.args.bytes.now in
    let last : List Test = refuses want (nat_lt (length rest) (2 + n)) ∷ kept_content_tests w m (segment_at rest).content in
    let others : List Test = refuses want (nat_lt (length rest) 4) ∷ (length_tests m n ++ last) in
    let there : nat_lt (length rest) 2 ≡ false = le-ltb (length rest) 2 c.if-rest-lt2.false in
    let four : nat_lt (length rest) 4 ≡ false = le-ltb (length rest) 4 c.if-rest-lt4.false in
    let passed : c.judge_marker.result ≡ judged (first_refusal (marker_tests w m)) = c.judge_marker.ensures.judged ∙ ap (λ (k : ℕ). judged (first_refusal (marker_tests w k))) c.number_16-marker.ensures in
    let answer : c.judge_length.result ≡ judged (first_refusal (length_tests m n)) =
    c.judge_length.ensures.judged
    ∙ (ap (λ (k : ℕ). judged (first_refusal (length_tests k c.number_16-stated.result))) c.number_16-marker.ensures ∙ ap (λ (k : ℕ). judged (first_refusal (length_tests m k))) c.number_16-stated.ensures) in
    rw (p.1, p.2)
    (stops (length_tests m n) last c.judge_length.result c.in_err-judge_length.field-0.0 answer c.in_err-judge_length.was
    ∙ sym (behind (refuses want (nat_lt (length rest) 2)) (marker_tests w m ++ others) there
    ∙ (goes_on (marker_tests w m) others c.judge_marker.result c.in_ok-judge_marker.field-0 passed c.in_ok-judge_marker.was
    ∙ behind (refuses want (nat_lt (length rest) 4)) (length_tests m n ++ last) four)))
