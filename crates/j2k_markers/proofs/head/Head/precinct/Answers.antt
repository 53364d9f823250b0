use Rattle.std.proofs.Common.{◌≡◌, ◌≤◌, ◌+◌, length, map, sym, subst, arith}
use Rattle.codestream_model.specs.Values.{Pair, Head}
use Rattle.j2k_markers.specs.Fields.{pair}
use Rattle.j2k_markers.proofs.Pairs.{pair_at, later_pair_at}
use Rattle.j2k_markers.proofs.head.Head.precinct.Goals as goal

pub returns-clause-most_x : goal.returns-clause-most_x
returns-clause-most_x c =
    let P : Head → Type 0 = λ h. c.args.r ≤ h.levels in
    let few : c.args.r ≤ c.self.inside.fields.levels = subst P (sym c.self.view_is) c.requires in
    let count : length (map pair c.self.inside.fields.precincts.items) ≡ c.self.inside.fields.levels + 1 = c.self.invariant.each_resolution in
    let e = pair_at (λ (e : Pair). (e.x ≤ 15) × (e.y ≤ 15)) c.self.inside.fields.precincts.items c.args.r c.self.invariant.most_precinct (omega arith) in
    rw (c.deref.ensures.0, c.from.ensures) e.0

pub returns-clause-most_y : goal.returns-clause-most_y
returns-clause-most_y c =
    let P : Head → Type 0 = λ h. c.args.r ≤ h.levels in
    let few : c.args.r ≤ c.self.inside.fields.levels = subst P (sym c.self.view_is) c.requires in
    let count : length (map pair c.self.inside.fields.precincts.items) ≡ c.self.inside.fields.levels + 1 = c.self.invariant.each_resolution in
    let e = pair_at (λ (e : Pair). (e.x ≤ 15) × (e.y ≤ 15)) c.self.inside.fields.precincts.items c.args.r c.self.invariant.most_precinct (omega arith) in
    rw (c.deref.ensures.0, c.from.ensures) e.1

pub returns-clause-least_x : goal.returns-clause-least_x
returns-clause-least_x c = λ some.
    let P : Head → Type 0 = λ h. c.args.r ≤ h.levels in
    let few : c.args.r ≤ c.self.inside.fields.levels = subst P (sym c.self.view_is) c.requires in
    let count : length (map pair c.self.inside.fields.precincts.items) ≡ c.self.inside.fields.levels + 1 = c.self.invariant.each_resolution in
    let e = later_pair_at (λ (e : Pair). (1 ≤ e.x) × (1 ≤ e.y)) c.self.inside.fields.precincts.items c.args.r c.self.invariant.least_precinct some (omega arith) in
    rw (c.deref.ensures.0, c.from.ensures) e.0

pub returns-clause-least_y : goal.returns-clause-least_y
returns-clause-least_y c = λ some.
    let P : Head → Type 0 = λ h. c.args.r ≤ h.levels in
    let few : c.args.r ≤ c.self.inside.fields.levels = subst P (sym c.self.view_is) c.requires in
    let count : length (map pair c.self.inside.fields.precincts.items) ≡ c.self.inside.fields.levels + 1 = c.self.invariant.each_resolution in
    let e = later_pair_at (λ (e : Pair). (1 ≤ e.x) × (1 ≤ e.y)) c.self.inside.fields.precincts.items c.args.r c.self.invariant.least_precinct some (omega arith) in
    rw (c.deref.ensures.0, c.from.ensures) e.1
