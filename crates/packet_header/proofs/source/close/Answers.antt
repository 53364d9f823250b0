-- The bits are closed, or a byte is needed, or one breaks the stuffing.
use Rattle.std.proofs.lemmas.Result.{err_from_is_err_and}
use Rattle.packet_header.proofs.Closings.{closed_ok, closed_err}
use Rattle.packet_header.proofs.source.close.Goals as goal

pub returns-in_err-close-clause-closes : goal.returns-in_err-close-clause-closes
returns-in_err-close-clause-closes c = λ before done h some.
    let p = err_from_is_err_and c.from_residual.result c.from_residual.ensures.1 in
    rw (p.1, p.2) (closed_err before done c.args.source.now c.close.result c.in_err-close.field-0.0 c.requires.free h some c.close.ensures.exact c.in_err-close.was)

pub returns-clause-closes : goal.returns-clause-closes
returns-clause-closes c = λ before done h some.
    closed_ok before done c.args.source.now c.close.result c.close.new.at c.requires.within c.requires.free h some c.close.ensures.exact c.in_ok-close.was c.in_ok-close.ensures.past
