use Rattle.std.proofs.Common.{arith, subst}
use Rattle.codestream_model.specs.HeadLimits.{IsWithinLimits}
use Rattle.pcrl_order.proofs.Resolutions.{AreOf, least_is, none_is, none_without, small_number}
use Rattle.pcrl_order.proofs.cursor.least_in.Goals as goal
use Rattle.pcrl_order.proofs.cursor.least_in.Goals.{then-from-row-via-then-from-row, then-from-row-via-else-from-row+then-columns-eq0}

pub returns-then-from-row-clause-none : goal.returns-then-from-row-clause-none
returns-then-from-row-clause-none c =
    let rows = c.rows-rows.ensures in
    let columns = c.columns-columns.ensures in
    let of : AreOf c.args.geometry.now c.args.c c.args.r c.rows-rows.result c.columns-columns.result = record { y_start = rows.start; y_first = rows.first; y_width = rows.width; y_count = rows.count; x_start = columns.start; x_first = columns.first; x_width = columns.width; x_count = columns.count } in
    λ said.
    elim c.then-from-row.branch [
      | then-from-row-via-then-from-row w ↦ none_is c.args.geometry.now c.args.c c.args.r c.args.y c.args.x c.rows-rows.result c.columns-columns.result _ _ of c.row_and_column-row.ensures.choice (omega (arith, w.if-from-row.true, c.from.ensures))
      | then-from-row-via-else-from-row+then-columns-eq0 w ↦ none_without c.args.geometry.now c.args.c c.args.r c.args.y c.args.x c.rows-rows.result c.columns-columns.result of w.if-columns-eq0.true
    ]

pub overflow_mul-result : goal.overflow_mul-result
overflow_mul-result c =
    let rows = c.rows-rows.ensures in
    let columns = c.columns-columns.ensures in
    let of : AreOf c.args.geometry.now c.args.c c.args.r c.rows-rows.result c.columns-columns.result = record { y_start = rows.start; y_first = rows.first; y_width = rows.width; y_count = rows.count; x_start = columns.start; x_first = columns.first; x_width = columns.width; x_count = columns.count } in
    let limits = subst IsWithinLimits c.head.ensures c.is_within_limits.ensures in
    let small = small_number c.args.geometry.now c.args.c c.args.r c.rows-rows.result c.columns-columns.result c.row_and_column-row.result.0 c.row_and_column-row.result.1 limits c.requires.component c.requires.resolution of (omega (arith, c.if-from-row.false, c.from.ensures)) (c.row_and_column-row.ensures.column (omega (arith, c.if-columns-eq0.false))) in
    omega (arith, small)

pub overflow_add-result : goal.overflow_add-result
overflow_add-result c =
    let rows = c.rows-rows.ensures in
    let columns = c.columns-columns.ensures in
    let of : AreOf c.args.geometry.now c.args.c c.args.r c.rows-rows.result c.columns-columns.result = record { y_start = rows.start; y_first = rows.first; y_width = rows.width; y_count = rows.count; x_start = columns.start; x_first = columns.first; x_width = columns.width; x_count = columns.count } in
    let limits = subst IsWithinLimits c.head.ensures c.is_within_limits.ensures in
    let small = small_number c.args.geometry.now c.args.c c.args.r c.rows-rows.result c.columns-columns.result c.row_and_column-row.result.0 c.row_and_column-row.result.1 limits c.requires.component c.requires.resolution of (omega (arith, c.if-from-row.false, c.from.ensures)) (c.row_and_column-row.ensures.column (omega (arith, c.if-columns-eq0.false))) in
    omega (arith, small)

pub returns-clause-some : goal.returns-clause-some
returns-clause-some c =
    let rows = c.rows-rows.ensures in
    let columns = c.columns-columns.ensures in
    let of : AreOf c.args.geometry.now c.args.c c.args.r c.rows-rows.result c.columns-columns.result = record { y_start = rows.start; y_first = rows.first; y_width = rows.width; y_count = rows.count; x_start = columns.start; x_first = columns.first; x_width = columns.width; x_count = columns.count } in
    let least = least_is c.args.geometry.now c.args.c c.args.r c.args.y c.args.x c.rows-rows.result c.columns-columns.result c.row_and_column-row.result.0 c.row_and_column-row.result.1 of c.row_and_column-row.ensures.choice (omega (arith, c.if-from-row.false, c.from.ensures)) (c.row_and_column-row.ensures.column (omega (arith, c.if-columns-eq0.false))) in
    rw (c.rank.ensures, c.anchor.ensures, c.anchor-2.ensures) least
