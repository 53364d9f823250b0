use Rattle.std.proofs.Common.{◌∙◌, arith}
use Rattle.scl_payload.proofs.Keeping.{kept_by, not_payload}
use Rattle.wire_model.proofs.DatagramLaws.{bytes-range}
use Rattle.scl_cli.proofs.thin.keeps.Goals as goal

pub returns-in-Ok-read_payload : goal.returns-in-Ok-read_payload
returns-in-Ok-read_payload c = c.serves.ensures ∙ kept_by _ _ _ _ _ _ _ (omega arith) (omega arith) c.in-Ok.ensures.found c.in-Ok-read_payload.ensures.found

pub returns-in-Err : goal.returns-in-Err
returns-in-Err c =
    not_payload _ _ _ _ _ c.in-Ok.ensures.found (λ p codestream laid_out. let f = c.in-Err.ensures.only p codestream laid_out in absurd (cc))
    (bytes-range c.args.datagram.now _ _ (λ i. omega (arith, c.type_inv.datagram i)))
