-- What follows the header and its EPH is as it was.
use Rattle.std.proofs.Common.{ℕ, drop, sym, ◌∙◌, ap}
use Rattle.packet_header.proofs.Markers.{two_more}
use Rattle.packet_header.proofs.writing.write_header.Goals as goal

pub returns-in-Some-clause-beyond : goal.returns-in-Some-clause-beyond
returns-in-Some-clause-beyond c =
    let w = c.in-Some.ensures.written in
    w.3
    ∙ (ap (λ (n : ℕ). drop n c.write_plain.new.buf) w.0
    ∙ (two_more c.in_ok-used.used c.write_plain.new.buf c.args.buf.now c.in_ok-used.ensures.beyond ∙ sym (ap (λ (n : ℕ). drop n c.args.buf.now) w.0)))
