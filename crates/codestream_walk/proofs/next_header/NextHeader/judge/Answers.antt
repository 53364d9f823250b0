use Rattle.precinct_geometry.specs.Spans.{place_of}
use Rattle.codestream_walk.proofs.NextHeaders.{so_far_of}
use Rattle.codestream_walk.proofs.next_header.NextHeader.judge.Goals as goal

pub go_on-requires-clause-within : goal.go_on-requires-clause-within
go_on-requires-clause-within c =
    let k = so_far_of c.args.self.now.fed c.in-Some.fed c.args.self.now.reader c.args.geometry.now (place_of c.args.place) c.args.bytes.now c.in-Some.is c.requires.so_far in
    k.1.within

pub go_on-requires-clause-fed : goal.go_on-requires-clause-fed
go_on-requires-clause-fed c =
    let k = so_far_of c.args.self.now.fed c.in-Some.fed c.args.self.now.reader c.args.geometry.now (place_of c.args.place) c.args.bytes.now c.in-Some.is c.requires.so_far in
    k.1.fed

pub returns-in-Some-clause-judged : goal.returns-in-Some-clause-judged
returns-in-Some-clause-judged c =
    let k = so_far_of c.args.self.now.fed c.in-Some.fed c.args.self.now.reader c.args.geometry.now (place_of c.args.place) c.args.bytes.now c.in-Some.is c.requires.so_far in
    c.go_on.ensures.judged c.args.geometry.now (place_of c.args.place) k.0 k.1

pub returns-in-Some-clause-keeps : goal.returns-in-Some-clause-keeps
returns-in-Some-clause-keeps c =
    let k = so_far_of c.args.self.now.fed c.in-Some.fed c.args.self.now.reader c.args.geometry.now (place_of c.args.place) c.args.bytes.now c.in-Some.is c.requires.so_far in
    c.go_on.ensures.keeps c.args.geometry.now (place_of c.args.place) k.0 k.1
