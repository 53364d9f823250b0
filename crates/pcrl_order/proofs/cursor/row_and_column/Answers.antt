use Rattle.std.proofs.Common.{◌≤◌, arith}
use Rattle.precinct_geometry.specs.Courses.{corner_of}
use Rattle.pcrl_order.proofs.Leasts.{chosen_there, chosen_below}
use Rattle.pcrl_order.proofs.cursor.row_and_column.Goals as goal

pub returns-then-right-from-clause-choice : goal.returns-then-right-from-clause-choice
returns-then-right-from-clause-choice c =
    let here : corner_of c.args.rows c.first_from-there.result ≤ c.args.y = omega (arith, c.anchor.ensures, c.if-y-anchor.false) in
    chosen_there c.args.rows c.args.columns c.args.y c.args.x c.first_from-there.result c.first_from-right.result c.first_from-there.ensures here c.first_from-right.ensures

pub returns-clause-choice : goal.returns-clause-choice
returns-clause-choice c =
    chosen_below c.args.rows c.args.columns c.args.y c.args.x c.first_from.result c.first_from-right.result c.first_from.ensures c.first_from-right.ensures (omega (arith, c.if-right-from.false, c.from-2.ensures))
