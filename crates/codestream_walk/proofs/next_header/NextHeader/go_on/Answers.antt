use Rattle.std.proofs.Common.{◌+◌, refl, ◌∙◌, ap}
use Rattle.packet_header.specs.declared.refusal.HeaderOut.TheVariants.{Bad}
use Rattle.packet_header.specs.declared.refusal.HeaderWhy.{HeaderWhy}
use Rattle.codestream_walk.specs.Faults.{header_refusal}
use Rattle.codestream_walk.proofs.Packets.{why_back, short_header, begins, too_long}
use Rattle.codestream_walk.proofs.NextHeaders.{tells_of_all, rest_is, found_size, all_read, refuses_of, needs_of}
use Rattle.codestream_walk.proofs.next_header.NextHeader.go_on.Goals as goal

pub body_length-requires : goal.body_length-requires
body_length-requires c =
    let t = tells_of_all c.args.self.now.reader c.feed.new.self c.args.fed c.args.bytes.now _ c.feed.result (rest_is c.args.fed c.args.bytes.now) c.requires.within c.requires.fed c.feed.ensures.answers c.feed.ensures.inside c.feed.ensures.fed in
    let s = t.found c.in-Done.used c.in-Done.is in
    short_header _ _ _ (c.args.fed + c.in-Done.used) c.args.bytes.now s.1 (found_size c.args.fed c.in-Done.used c.args.bytes.now s.0)

pub returns-in-Some-clause-judged : goal.returns-in-Some-clause-judged
returns-in-Some-clause-judged c = λ h p few part.
    let t = tells_of_all c.args.self.now.reader c.feed.new.self c.args.fed c.args.bytes.now _ c.feed.result (rest_is c.args.fed c.args.bytes.now) c.requires.within c.requires.fed c.feed.ensures.answers c.feed.ensures.inside c.feed.ensures.fed in
    let s = t.found c.in-Done.used c.in-Done.is in
    let held = c.blocks-in-Done.ensures in
    let sizes = c.in-Some.ensures.some in
    let is = rw held at sizes.0 in
    (begins _ _ h p _ (c.args.fed + c.in-Done.used) c.args.bytes.now part.grids part.eph few s.1, s.0, is, sizes.1)

pub returns-in-None-clause-judged : goal.returns-in-None-clause-judged
returns-in-None-clause-judged c = λ h p few part.
    let t = tells_of_all c.args.self.now.reader c.feed.new.self c.args.fed c.args.bytes.now _ c.feed.result (rest_is c.args.fed c.args.bytes.now) c.requires.within c.requires.fed c.feed.ensures.answers c.feed.ensures.inside c.feed.ensures.fed in
    let s = t.found c.in-Done.used c.in-Done.is in
    let held = c.blocks-in-Done.ensures in
    let long = rw held at (c.in-None.ensures.none refl) in
    too_long h p _ (c.args.fed + c.in-Done.used) c.args.bytes.now (begins _ _ h p _ (c.args.fed + c.in-Done.used) c.args.bytes.now part.grids part.eph few s.1) (found_size c.args.fed c.in-Done.used c.args.bytes.now s.0) long

pub returns-in-Need-clause-judged : goal.returns-in-Need-clause-judged
returns-in-Need-clause-judged c = λ h p few part.
    let t = tells_of_all c.args.self.now.reader c.feed.new.self c.args.fed c.args.bytes.now _ c.feed.result (rest_is c.args.fed c.args.bytes.now) c.requires.within c.requires.fed c.feed.ensures.answers c.feed.ensures.inside c.feed.ensures.fed in
    (few, needs_of _ _ h p c.args.bytes.now part.grids part.eph (t.needs c.in-Need.is))

pub returns-in-Need-clause-keeps : goal.returns-in-Need-clause-keeps
returns-in-Need-clause-keeps c = λ h p few part.
    let t = tells_of_all c.args.self.now.reader c.feed.new.self c.args.fed c.args.bytes.now _ c.feed.result (rest_is c.args.fed c.args.bytes.now) c.requires.within c.requires.fed c.feed.ensures.answers c.feed.ensures.inside c.feed.ensures.fed in
    (refl, few, all_read c.args.self.now.reader c.feed.new.self h p c.args.fed c.args.bytes.now part c.feed.ensures.same (t.fed c.in-Need.is))

pub returns-in-Bad-clause-judged : goal.returns-in-Bad-clause-judged
returns-in-Bad-clause-judged c = λ h p few part.
    let t = tells_of_all c.args.self.now.reader c.feed.new.self c.args.fed c.args.bytes.now _ c.feed.result (rest_is c.args.fed c.args.bytes.now) c.requires.within c.requires.fed c.feed.ensures.answers c.feed.ensures.inside c.feed.ensures.fed in
    let same = c.in-Bad.is ∙ ap (λ (w : HeaderWhy). Bad w) (why_back c.in-Bad.why) in
    (few, refuses_of _ _ h p c.args.bytes.now (header_refusal c.in-Bad.why) part.grids part.eph (t.refused (header_refusal c.in-Bad.why) same))
