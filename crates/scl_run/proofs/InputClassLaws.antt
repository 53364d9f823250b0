-- No input, and refusals that are the same.
use Rattle.std.proofs.Common.{◌≡◌, ℕ, ◌∙◌, ap}
use Rattle.scl_run.specs.declared.ending.Reason.{Reason}
use Rattle.scl_run.specs.declared.ending.Refusal.{Refusal}
use Rattle.scl_run.specs.InputClass.{IsLawful, no_input}

-- a refusal is its place and its reason
pub same_refusal : (r q : Refusal) → r.at ≡ q.at → r.reason ≡ q.reason → r ≡ q
same_refusal r q e f =
    let P : ℕ → Refusal = λ n. record { at = n; reason = r.reason } in
    let Q : Reason → Refusal = λ s. record { at = q.at; reason = s } in
    ap P e ∙ ap Q f

pub no_input_is_lawful : IsLawful no_input
no_input_is_lawful = record {
  one = λ input r a h. h;
  one_refusal = λ input r q h k. absurd h;
  accepted = λ read rest a end. tt;
  refused = λ read rest r h end. h;
  waits_to_accept = λ read wants a. absurd wants;
  waits_to_refuse = λ read r wants h. absurd wants;
}
