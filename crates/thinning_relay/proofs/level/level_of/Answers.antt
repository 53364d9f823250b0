use Rattle.std.proofs.Common.{◌∙◌, ◌≡◌, sym, false, ◌≤◌, ◌==◌, ℕ, Bool, arith}
use Rattle.std.proofs.lemmas.Bool.Decides.{nat_tests}
use Rattle.scl_payload.proofs.Keeping.{kept_by, not_payload}
use Rattle.wire_model.proofs.DatagramLaws.{bytes-range}
use Rattle.thinning_relay.proofs.level.level_of.Goals as goal

some : (n : ℕ) (b : Bool) → b ≡ (n == 0) → b ≡ false → 1 ≤ n
some n b e f = let g : (n == 0) ≡ false = sym e ∙ f in grind (arith, nat_tests)

pub returns-in-Ok-read_payload-clause-level : goal.returns-in-Ok-read_payload-clause-level
returns-in-Ok-read_payload-clause-level c = λ limit. (sym (kept_by limit c.args.datagram.now _ _ _ _ _ (some _ _ c.is_empty.ensures c.if-is_empty.false) (omega arith) c.in-Ok.ensures.found c.in-Ok-read_payload.ensures.found) ∙ c.least_limit.ensures limit)

pub returns-in-Err-clause-level : goal.returns-in-Err-clause-level
returns-in-Err-clause-level c = λ limit. sym (
    not_payload limit _ _ _ _ c.in-Ok.ensures.found (λ p codestream laid_out. let f = c.in-Err.ensures.only p codestream laid_out in absurd (cc))
    (bytes-range c.args.datagram.now _ _ (λ i. omega (arith, c.type_inv.datagram i))))
