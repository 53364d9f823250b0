use Rattle.std.proofs.Common.{arith}
use Rattle.precinct_geometry.proofs.Courses.{first_from_later}
use Rattle.precinct_geometry.proofs.course.Course.first_from.Goals as goal

pub returns : goal.returns
returns c i =
    let law = first_from_later c.args.self.start c.args.self.first c.args.self.width c.args.place c.requires.course.some (omega arith) i in
    rw (c.saturating_sub.ensures, c.ceil_div.ensures.value) law
