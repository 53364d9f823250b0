use Rattle.std.proofs.Common.{rules, ◌≡◌, ◌+◌, ℕ, List, length, sym, ◌∙◌, ap, subst, arith}
use Rattle.std.proofs.lemmas.List.{length-take}
use Rattle.codestream_rebuild.proofs.Strips.{IsLeft, two_there, left_first, rest_of, next_of, segment_here, left_next, all_stripped}
use Rattle.codestream_rebuild.proofs.stripping.stripped.Goals as goal

pub loop-rest-init : goal.loop-rest-init
loop-rest-init c =
    let b = c.args.bytes.now in
    let out = c.append-end.new.out in
    let there = two_there c.requires.0 b c.requires.1 in
    let end : c.append-end.result ≡ 2 = c.append-end.ensures.size ∙ omega (arith, there, length-take 2 b) in
    let size : length out ≡ 8192 = search rules in
    let P : List ℕ → Type 0 = λ l. IsLeft b l out c.append-end.result in
    subst P (sym (rest_of 2 b)) (left_first c.requires.0 b out c.append-end.result c.requires.1 end size c.append-end.ensures.bytes)

pub number_16-requires-in-loop-rest : goal.number_16-requires-in-loop-rest
number_16-requires-in-loop-rest c = (next_of _ _ _ _ _ c.loop-rest.invariant c.number_16.ensures c.loop-rest-test.true).length_there

pub split_at-requires : goal.split_at-requires
split_at-requires c =
    let stated = c.number_16-in-loop-rest.ensures in
    let fits = (next_of _ _ _ _ _ c.loop-rest.invariant c.number_16.ensures c.loop-rest-test.true).fits in
    omega (arith, stated, c.from.ensures, fits)

pub append_kept-end-requires-clause-whole : goal.append_kept-end-requires-clause-whole
append_kept-end-requires-clause-whole c =
    let k = ap (λ n. 2 + n) (c.from.ensures ∙ c.number_16-in-loop-rest.ensures) in
    segment_here _ _ _ _ _ _ _ c.loop-rest.invariant c.number_16.ensures c.loop-rest-test.true k c.split_at.ensures.front

pub loop-rest-preserved : goal.loop-rest-preserved
loop-rest-preserved c =
    let k = ap (λ n. 2 + n) (c.from.ensures ∙ c.number_16-in-loop-rest.ensures) in
    let e = c.append_kept-end.ensures in
    left_next _ _ _ _ _ _ _ _ _ _ c.loop-rest.invariant c.number_16.ensures c.loop-rest-test.true k c.split_at.ensures.front c.split_at.ensures.back e.same e.size e.kept

pub returns-clause-stripped : goal.returns-clause-stripped
returns-clause-stripped c = c.append.ensures.bytes ∙ all_stripped _ _ _ _ _ c.loop-rest.invariant c.number_16.ensures c.loop-rest-test.false
