use Rattle.std.proofs.Common.{◌≡◌, ◌<◌, ◌≤◌, ◌+◌, ◌-◌, ◌^◌, ◌||◌, ℕ, Bool, false, length, ◌∙◌, ap, arith}
use Rattle.std.specs.Prelude.{nat_lt}
use Rattle.std.specs.List.{list_any, range_with_len}
use Rattle.std.proofs.lemmas.Bool.{le-ltb}
use Rattle.codestream_model.specs.SegmentTests.{pids_end}
use Rattle.j2k_markers.specs.Fields.{fields_head}
use Rattle.j2k_markers.proofs.Sums.{any_next}
use Rattle.j2k_markers.proofs.identifiers.has_great_pid.Goals as goal

pub loop-c-preserved : goal.loop-c-preserved
loop-c-preserved c =
    let h = fields_head c.args.fields.now 0 0 0 in
    let at = c.loop-c.c in
    let left = length c.args.fields.now.steps.items - at in
    let test : ℕ → Bool = λ k. nat_lt (2 ^ 20) (pids_end h k) in
    let some : 0 < left = omega (arith, c.len-c-end.ensures.value, c.loop-c-test.true) in
    let small : pids_end h at ≤ 2 ^ 20 = omega (arith, c.end_of.ensures) in
    let fails : test at ≡ false = le-ltb (2 ^ 20) (pids_end h at) small in
    let one_less : left - 1 ≡ length c.args.fields.now.steps.items - (at + 1) = omega arith in
    c.loop-c.invariant
    ∙ (any_next test at left some
    ∙ (ap (λ (b : Bool). b || list_any test (range_with_len (at + 1) (left - 1))) fails
    ∙ ap (λ (n : ℕ). list_any test (range_with_len (at + 1) n)) one_less))
