use Rattle.std.proofs.Common.{◌≡◌, ◌-◌, ℕ, List, Err, length, vec_len, sym, subst, ◌∙◌, ap, arith}
use Rattle.std.proofs.lemmas.Grind.{common_steps}
use Rattle.j2k_markers.specs.Layout.{plan_bytes}
use Rattle.codestream_make.specs.Making.{Makes}
use Rattle.codestream_make.proofs.Psot.{length-plan}
use Rattle.codestream_make.proofs.Accepted.{makes, is_too_long, head_cause, sizes, of_plan_gathers}
use Rattle.codestream_make.proofs.codestream.make.Goals as goal

pub returns-in_err-header-clause-head : goal.returns-in_err-header-clause-head
returns-in_err-header-clause-head c = λ why is.
    let given = rw is at c.from_residual.ensures.1 in
    c.in_err-header.ensures.refused why (ap (λ e. Err e) (head_cause why c.in_err-header.field-0.0 given))

pub overflow_sub-tile : goal.overflow_sub-tile
overflow_sub-tile c =
    let long : vec_len c.in_ok-header.header ≡ length c.in_ok-header.header.items = grind (arith, common_steps) in
    let n = ap (λ (b : List ℕ). length b) c.in_ok-header.ensures.layout ∙ length-plan c.args.plan.now.head in
    omega (arith, c.len-tile.ensures, long, n)

pub returns-then-gathered-clause-too_long : goal.returns-then-gathered-clause-too_long
returns-then-gathered-clause-too_long c = λ is.
    let g = of_plan_gathers c.args.plan.now _ _ c.in_ok-gathered.gathered c.in_ok-header.ensures.layout c.deref.ensures.value c.in_ok-gathered.ensures.gathers in
    is_too_long c.args.plan.now c.in_ok-gathered.gathered g c.if-gathered.true

pub overflow_sub-psot-2 : goal.overflow_sub-psot-2
overflow_sub-psot-2 c =
    let g = of_plan_gathers c.args.plan.now _ _ c.in_ok-gathered.gathered c.in_ok-header.ensures.layout c.deref.ensures.value c.in_ok-gathered.ensures.gathers in
    let long : vec_len c.in_ok-gathered.gathered.bytes ≡ length c.in_ok-gathered.gathered.bytes.items = grind (arith, common_steps) in
    let head : vec_len c.in_ok-header.header ≡ length c.in_ok-header.header.items = grind (arith, common_steps) in
    let n = sizes c.args.plan.now c.in_ok-gathered.gathered g c.if-gathered.false in
    let m = ap (λ (b : List ℕ). length b) c.in_ok-header.ensures.layout in
    omega (arith, c.len-tile.ensures, c.len.ensures, long, head, n, m)

pub with_psot-requires : goal.with_psot-requires
with_psot-requires c =
    let g = of_plan_gathers c.args.plan.now _ _ c.in_ok-gathered.gathered c.in_ok-header.ensures.layout c.deref.ensures.value c.in_ok-gathered.ensures.gathers in
    let head : vec_len c.in_ok-header.header ≡ length c.in_ok-header.header.items = grind (arith, common_steps) in
    let n = sizes c.args.plan.now c.in_ok-gathered.gathered g c.if-gathered.false in
    let m = ap (λ (b : List ℕ). length b) c.in_ok-header.ensures.layout in
    let k = length-plan c.args.plan.now.head in
    omega (arith, c.len-tile.ensures, head, n, m, k)

pub returns-clause-made : goal.returns-clause-made
returns-clause-made c =
    let g = of_plan_gathers c.args.plan.now _ _ c.in_ok-gathered.gathered c.in_ok-header.ensures.layout c.deref.ensures.value c.in_ok-gathered.ensures.gathers in
    let long : vec_len c.in_ok-gathered.gathered.bytes ≡ length c.in_ok-gathered.gathered.bytes.items = grind (arith, common_steps) in
    let head : vec_len c.in_ok-header.header ≡ length c.in_ok-header.header.items = grind (arith, common_steps) in
    let m = ap (λ (b : List ℕ). length b) c.in_ok-header.ensures.layout in
    let at : c.len-tile.result - 14 ≡ length (plan_bytes c.args.plan.now.head) - 14 = omega (arith, c.len-tile.ensures, head, m) in
    let size : c.len.result - 2 - (c.len-tile.result - 14) ≡ length c.in_ok-gathered.gathered.bytes.items - 2 - (c.len-tile.result - 14) = omega (arith, c.len.ensures, long) in
    let P : List ℕ → Type 0 = λ b. Makes c.args.plan.now b in
    subst P (sym c.with_psot.ensures)
    (makes c.args.plan.now c.in_ok-gathered.gathered (c.len-tile.result - 14) (c.len.result - 2 - (c.len-tile.result - 14)) c.requires.extra g c.if-gathered.false c.in_ok-gathered.gathered.fits at size)
