use Rattle.std.proofs.Common.{ℕ, List, ◌∙◌, ◌≡◌, sym, arith, drop, Result, Ok, Err, IfOk}
use Rattle.wire_model.specs.Bytes.{IsBytes}
use Rattle.scl_payload.specs.Heads.{IsReadAs}
use Rattle.scl_payload.specs.Judged.{judged}
use Rattle.scl_payload.specs.declared.head.Payload.{Payload}
use Rattle.scl_payload.specs.declared.head.PayloadFault.{PayloadFault}
use Rattle.scl_payload.proofs.Layouts.{found, only}
use Rattle.scl_payload.proofs.reading.read_payload.Goals as goal

-- what is read is laid out so, at either answer
by_answer : (r : Result (Payload × ℕ) PayloadFault) (b : List ℕ) → IsBytes b → r ≡ judged b → IfOk r (λ x. IsReadAs x.0 (drop x.1 b) b)
by_answer (Ok x) b fits e = found b x fits (sym e)
by_answer (Err f) b fits e = tt

pub returns-clause-found : goal.returns-clause-found
returns-clause-found c = by_answer c.judge.result c.args.bytes.now (λ i. omega (arith, c.type_inv.bytes i)) c.judge.ensures

pub returns-clause-only : goal.returns-clause-only
returns-clause-only c = λ h codestream is. c.judge.ensures ∙ only c.args.bytes.now h codestream is
