use Rattle.std.proofs.Common.{arith}
use Rattle.scl_cli.proofs.GenSpelt.{none_after, one_after, two_after, no_options, none_found, spelt_after, all_after, too_many}
use Rattle.scl_cli.proofs.generation.options_in.Goals as goal

pub returns-then-len-eq7-clause-spelt : goal.returns-then-len-eq7-clause-spelt
returns-then-len-eq7-clause-spelt c = no_options _ (none_after c.args.words.now (omega (arith, c.len.ensures, c.if-len-eq7.true)))

pub returns-then-len-eq7-clause-all : goal.returns-then-len-eq7-clause-all
returns-then-len-eq7-clause-all c = λ order eph h. none_found _ order eph (none_after c.args.words.now (omega (arith, c.len.ensures, c.if-len-eq7.true))) h

pub returns-then-len-eq8-clause-spelt : goal.returns-then-len-eq8-clause-spelt
returns-then-len-eq8-clause-spelt c = spelt_after c.args.words.now _ _ (one_after c.args.words.now _ (omega (arith, c.len-2.ensures, c.if-len-eq8.true)) c.get.ensures) c.one_option.ensures.spelt

pub returns-then-len-eq8-clause-all : goal.returns-then-len-eq8-clause-all
returns-then-len-eq8-clause-all c = all_after c.args.words.now _ _ (one_after c.args.words.now _ (omega (arith, c.len-2.ensures, c.if-len-eq8.true)) c.get.ensures) c.one_option.ensures.all

pub returns-then-len-eq9-clause-spelt : goal.returns-then-len-eq9-clause-spelt
returns-then-len-eq9-clause-spelt c = spelt_after c.args.words.now _ _ (two_after c.args.words.now _ _ (omega (arith, c.len-3.ensures, c.if-len-eq9.true)) c.get-then-len-eq9.ensures c.get-then-len-eq9-2.ensures) c.two_options.ensures.spelt

pub returns-then-len-eq9-clause-all : goal.returns-then-len-eq9-clause-all
returns-then-len-eq9-clause-all c = all_after c.args.words.now _ _ (two_after c.args.words.now _ _ (omega (arith, c.len-3.ensures, c.if-len-eq9.true)) c.get-then-len-eq9.ensures c.get-then-len-eq9-2.ensures) c.two_options.ensures.all

pub returns-clause-all : goal.returns-clause-all
returns-clause-all c = λ order eph h. too_many c.args.words.now order eph (omega (arith, c.requires, c.len.ensures, c.len-2.ensures, c.len-3.ensures, c.if-len-eq7.false, c.if-len-eq8.false, c.if-len-eq9.false)) h
