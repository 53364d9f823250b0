use Rattle.std.proofs.Common.{◌≤◌, ◌+◌, ◌*◌, ◌∙◌, ℕ, List, [], ◌∷◌, Some, None, length, sym, ap, subst, arith}
use Rattle.std.proofs.lemmas.List.{length-append}
use Rattle.arrayvec.specs.ArrayVec.{ArrayVec}
use Rattle.codestream_model.specs.Values.{Head}
use Rattle.pcrl_order.specs.declared.anchored.Anchored.{Anchored}
use Rattle.pcrl_order.specs.Ahead.{IsAheadIn, least_numbers}
use Rattle.pcrl_order.specs.Least.{IsInResolution, IsLeastOf, IsOfEarlier}
use Rattle.pcrl_order.proofs.Candidates.{ahead_added, ahead_no_more, ahead_among}
use Rattle.pcrl_order.proofs.Leasts.{component_behind}
use Rattle.pcrl_order.proofs.walk.add_component.Goals as goal
use Rattle.pcrl_order.proofs.walk.add_component.Goals.{in-Some, in_default}

pub loop-r-preserved : goal.loop-r-preserved
loop-r-preserved c =
    let h = c.args.geometry.now in
    let P : List Anchored → Type 0 = λ nexts. (length nexts ≤ 16 * c.args.c + (c.loop-r.r + 1)) × IsAheadIn h (IsOfEarlier c.args.c (c.loop-r.r + 1)) least_numbers nexts in
    let before = c.loop-r.invariant in
    elim c.match-least_in_resolution.branch [
      | in-Some w ↦
          let Q : List ℕ → Type 0 = λ from. IsLeastOf h from (IsInResolution c.args.c c.loop-r.r) (Some w.in-Some.first) in
          let items = ap (λ (v : ArrayVec Anchored). v.items) w.nexts-is ∙ w.push.ensures.items in
          subst P (sym items) (
            omega (arith, before.0, length-append c.loop-r.nexts.items (w.in-Some.first ∷ [])),
            ahead_added h least_numbers c.args.c c.loop-r.r c.loop-r.nexts.items w.in-Some.first before.1 (subst Q c.least.ensures w.in-Some.ensures.least) w.in-Some.ensures.there w.in-Some.ensures.near,
          )
      | in_default w ↦
          let Q : List ℕ → Type 0 = λ from. IsLeastOf h from (IsInResolution c.args.c c.loop-r.r) None in
          let items = ap (λ (v : ArrayVec Anchored). v.items) w.nexts-is in
          subst P (sym items) (
            omega (arith, before.0),
            ahead_no_more h least_numbers c.args.c c.loop-r.r c.loop-r.nexts.items before.1 (subst Q c.least.ensures (rw w.in_default.is at c.least_in_resolution.ensures.least)),
          )
    ]

pub returns-clause-ahead : goal.returns-clause-ahead
returns-clause-ahead c =
    let levels = c.levels-r-end.ensures.levels ∙ ap (λ (h : Head). h.levels) c.head-2.ensures in
    ahead_among c.args.geometry.now least_numbers (IsOfEarlier c.args.c c.loop-r.r) (IsOfEarlier (c.args.c + 1) 0) c.loop-r.nexts.items (component_behind c.args.geometry.now c.args.c c.loop-r.r (omega arith)) c.loop-r.invariant.1
