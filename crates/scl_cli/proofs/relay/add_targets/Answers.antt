use Rattle.std.proofs.Common.{◌<◌, ◌≤◌, ◌+◌, ◌≡◌, length, arith}
use Rattle.scl_cli.proofs.RelaySpelt.{spelt_more, finds_all, not_next, too_many, too_short}
use Rattle.scl_cli.proofs.relay.add_targets.Goals as goal

pub returns-then-count-eq64-clause-all : goal.returns-then-count-eq64-clause-all
returns-then-count-eq64-clause-all c =
    let low : c.loop-at.at < length c.args.words.now = omega (arith, c.len.ensures, c.loop-at-test.true) in
    let full : length c.loop-at.settings.targets ≡ 64 = omega (arith, c.count.ensures, c.if-count-eq64.true) in
    too_many c.loop-at.at c.args.words.now c.args.settings.now c.loop-at.settings c.loop-at.settings low full c.loop-at.invariant

pub returns-then-len-at-lt3-clause-all : goal.returns-then-len-at-lt3-clause-all
returns-then-len-at-lt3-clause-all c =
    let low : c.loop-at.at < length c.args.words.now = omega (arith, c.len.ensures, c.loop-at-test.true) in
    let short : length c.args.words.now < c.loop-at.at + 3 = omega (arith, c.len-in-loop-at.ensures, c.if-len-at-lt3.true) in
    too_short c.loop-at.at c.args.words.now c.args.settings.now c.loop-at.settings c.loop-at.settings low short c.loop-at.invariant

pub loop-at-preserved : goal.loop-at-preserved
loop-at-preserved c =
    let within : c.loop-at.at + 3 ≤ length c.args.words.now = omega (arith, c.len-in-loop-at.ensures, c.if-len-at-lt3.false, c.loop-at.invariant.within) in
    let room : length c.loop-at.settings.targets < 64 = omega (arith, c.count.ensures, c.if-count-eq64.false, c.loop-at.invariant.few) in
    spelt_more c.loop-at.at c.args.words.now c.args.settings.now c.loop-at.settings c.add_target-added.new.settings within room c.loop-at.invariant (c.add_target-added.ensures.spelt c.if-added.true)

pub returns-else-added-clause-all : goal.returns-else-added-clause-all
returns-else-added-clause-all c =
    let low : c.loop-at.at < length c.args.words.now = omega (arith, c.len.ensures, c.loop-at-test.true) in
    not_next c.loop-at.at c.args.words.now c.args.settings.now c.loop-at.settings c.add_target-added.new.settings c.add_target-added.result low c.if-added.false c.loop-at.invariant c.add_target-added.ensures.all

pub returns-clause-all : goal.returns-clause-all
returns-clause-all c = finds_all c.loop-at.at c.args.words.now c.args.settings.now c.loop-at.settings (omega (arith, c.len.ensures, c.loop-at-test.false)) c.loop-at.invariant
