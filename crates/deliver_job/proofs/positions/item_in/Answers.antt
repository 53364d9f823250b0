use Rattle.std.proofs.Common.{◌≡◌, ◌∙◌, refl, sym, arith}
use Rattle.deliver_job.proofs.Spelling.{wrong_first, wrong_last, wrong_one, one_found, span_found, span_spelt}
use Rattle.deliver_job.proofs.positions.item_in.Goals as goal

pub returns-in_err-position_in-in-Some-clause-all : goal.returns-in_err-position_in-in-Some-clause-all
returns-in_err-position_in-in-Some-clause-all c = λ item good is.
    absurd (wrong_first c.args.word.now c.in-Some.first c.in-Some.last c.position_in.result c.in-Some.ensures.cases c.position_in.ensures.all c.in_err-position_in-in-Some.was item good is)

pub returns-in_err-position_in-in-Some-2-clause-all : goal.returns-in_err-position_in-in-Some-2-clause-all
returns-in_err-position_in-in-Some-2-clause-all c = λ item good is.
    absurd (wrong_last c.args.word.now c.in-Some.first c.in-Some.last c.position_in-in-Some.result c.in-Some.ensures.cases c.position_in-in-Some.ensures.all c.in_err-position_in-in-Some-2.was item good is)

pub returns-in_err-position_in-in-None-clause-all : goal.returns-in_err-position_in-in-None-clause-all
returns-in_err-position_in-in-None-clause-all c = λ item good is.
    absurd (wrong_one c.args.word.now c.position_in-in-None.result c.in-None.ensures.cases c.position_in-in-None.ensures.all c.in_err-position_in-in-None.was item good is)

pub returns-in_ok-position_in-in-Some-2-clause-spelt : goal.returns-in_ok-position_in-in-Some-2-clause-spelt
returns-in_ok-position_in-in-Some-2-clause-spelt c =
    span_spelt c.args.word.now c.in-Some.first c.in-Some.last c.in_ok-position_in-in-Some.field-0 c.in_ok-position_in-in-Some-2.field-0 c.span_of.result c.in-Some.ensures.cases
    c.in_ok-position_in-in-Some.ensures.spelt c.in_ok-position_in-in-Some-2.ensures.spelt c.in_ok-position_in-in-Some-2.ensures.fits c.span_of.ensures.up c.span_of.ensures.down

pub returns-in_ok-position_in-in-Some-2-clause-all : goal.returns-in_ok-position_in-in-Some-2-clause-all
returns-in_ok-position_in-in-Some-2-clause-all c =
    span_found c.args.word.now c.in-Some.first c.in-Some.last c.position_in.result c.position_in-in-Some.result c.in_ok-position_in-in-Some.field-0 c.in_ok-position_in-in-Some-2.field-0 c.span_of.result
    c.in-Some.ensures.cases c.position_in.ensures.all c.in_ok-position_in-in-Some.was c.position_in-in-Some.ensures.all c.in_ok-position_in-in-Some-2.was c.span_of.ensures.up

pub returns-in_ok-position_in-in-None-clause-all : goal.returns-in_ok-position_in-in-None-clause-all
returns-in_ok-position_in-in-None-clause-all c = λ item good is.
    let e = one_found c.args.word.now c.position_in-in-None.result c.in_ok-position_in-in-None.field-0 c.in-None.ensures.cases c.position_in-in-None.ensures.all c.in_ok-position_in-in-None.was item good is in cc
