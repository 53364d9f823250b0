-- The codestreams of a trial, one after another.
use Rattle.std.proofs.Common.{◌≡◌, ◌+◌, ◌%◌, ◌^◌, ◌++◌, ℕ, List, [], ◌∷◌, map, sym, ◌∙◌, ap, arith}
use Rattle.std.specs.List.{range_with_len}
use Rattle.std.proofs.lemmas.List.{append-nil}
use Rattle.std.proofs.lemmas.List.FromFn.{map-range_with_len_more}
use Rattle.codestream_model.specs.Codestream.{joined}
use Rattle.stream_model.proofs.CutPayloads.{joined-append}
use Rattle.trial_model.specs.Generator.{generated}
use Rattle.trial_model.specs.Trial.{trial_shape}
use Rattle.trial_model.specs.TrialLaws.{trial_codestreams}

-- One codestream more.
pub one_made : (seed n : ℕ) (bytes more : List ℕ) → bytes ≡ joined (trial_codestreams seed n) → more ≡ generated trial_shape ((seed + n) % 2 ^ 64) → bytes ++ more ≡ joined (trial_codestreams seed (n + 1))
one_made seed n bytes more so is =
    let f : ℕ → List ℕ = λ i. generated trial_shape ((seed + i) % 2 ^ 64) in
    let before = map f (range_with_len 0 n) in
    ap (λ l. l ++ more) so
    ∙ (ap (λ l. joined before ++ l) (is ∙ sym (append-nil (f n)))
    ∙ (sym (joined-append before (f n ∷ [])) ∙ ap joined (sym (map-range_with_len_more f 0 n n (omega arith)))))
