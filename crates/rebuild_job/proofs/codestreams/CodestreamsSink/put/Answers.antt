use Rattle.std.proofs.Common.{None, Option, sym, ap, ◌∙◌, subst}
use Rattle.scl_outside.specs.Writing.{Puts}
use Rattle.rebuild_model.specs.Rebuilding.{Open, added, open_after, open_at_end}
use Rattle.resync_decoder.specs.States.{precinct_of, header_in}
use Rattle.rebuild_job.specs.Growing.{one_is_added, open_after_one}
use Rattle.rebuild_job.proofs.Fits.{next_fits, lent_is}
use Rattle.rebuild_job.proofs.codestreams.CodestreamsSink.put.Goals as goal

pub put-requires : goal.put-requires
put-requires g c =
    let (xs, x, put, given, next) = c.requires in
    let lent = lent_is c.args.receiver.now.given x c.heads.result (header_in c.args.receiver.now.rules.decoder.current) c.in-Some.head.now c.raw.result.now (precinct_of c.released.result)
    given (c.heads.ensures.given x given) c.in-Some.ensures.head (c.in-Some.ensures.given x given) c.released.ensures c.raw.ensures in
    next_fits xs x c.args.self.now.rebuild c.heads.result c.in-Some.head.now (precinct_of c.released.result).place next.0 put lent.heads lent.header lent.place

pub returns-clause-puts : goal.returns-clause-puts
returns-clause-puts g c = λ xs x put given.
    let lent = lent_is c.args.receiver.now.given x c.heads.result (header_in c.args.receiver.now.rules.decoder.current) c.in-Some.head.now c.raw.result.now (precinct_of c.released.result)
    given (c.heads.ensures.given x given) c.in-Some.ensures.head (c.in-Some.ensures.given x given) c.released.ensures c.raw.ensures in
    let w = c.put.ensures.writes x lent in
    let P : Option Open → Type 0 = λ o. Puts (added o x) (g.D.Duct.meaning c.args.out.now) (g.D.Duct.meaning c.put.new.duct) c.put.result w.0 in
    (w.0, record { text = added (open_at_end None xs) x; adds = one_is_added xs x; puts = subst P put w.1 })

pub returns-clause-put : goal.returns-clause-put
returns-clause-put g c = λ xs x put given done.
    let lent = lent_is c.args.receiver.now.given x c.heads.result (header_in c.args.receiver.now.rules.decoder.current) c.in-Some.head.now c.raw.result.now (precinct_of c.released.result)
    given (c.heads.ensures.given x given) c.in-Some.ensures.head (c.in-Some.ensures.given x given) c.released.ensures c.raw.ensures in
    c.put.ensures.opens x lent done ∙ (ap (λ o. open_after o x) put ∙ sym (open_after_one xs x))
