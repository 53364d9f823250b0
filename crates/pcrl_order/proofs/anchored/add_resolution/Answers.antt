use Rattle.std.proofs.Common.{◌≡◌, ◌++◌, ℕ, map, subst, arith}
use Rattle.std.specs.List.{range_with_len}
use Rattle.codestream_model.specs.Precincts.{precinct_count}
use Rattle.pcrl_order.specs.Anchors.{anchored_of}
use Rattle.pcrl_order.proofs.Parts.{one_more}
use Rattle.pcrl_order.proofs.anchored.add_resolution.Goals as goal

pub loop-k-preserved : goal.loop-k-preserved
loop-k-preserved c =
    one_more (anchored_of c.args.geometry.now) (λ k. record { c = c.args.c; r = c.args.r; k = k }) c.loop-k.k _ _ _ _ c.loop-k.invariant c.in_ok-push.ensures.items c.with_anchor.ensures

pub returns : goal.returns
returns c =
    let all : c.loop-k.k ≡ precinct_count c.args.geometry.now c.args.c c.args.r = omega arith in
    let P : ℕ → Type 0 = λ n. c.loop-k.found.items ≡ c.args.found.now.items ++ map (anchored_of c.args.geometry.now) (map (λ k. record { c = c.args.c; r = c.args.r; k = k }) (range_with_len 0 n)) in
    subst P all c.loop-k.invariant
