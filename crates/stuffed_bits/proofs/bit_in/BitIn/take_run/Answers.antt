-- A run that is longer than it may be is taken in two parts.
use Rattle.std.proofs.Common.{◌≡◌, Bool, replicate, sym, ◌∙◌, ap, subst}
use Rattle.stuffed_bits.specs.BitInState.{BitInState, part_bits, IsOfRun}
use Rattle.stuffed_bits.specs.declared.part.Part.{Part}
use Rattle.stuffed_bits.specs.declared.part.Part.TheVariants.{Run}
use Rattle.stuffed_bits.proofs.PartsRead.{run_in_parts}
use Rattle.stuffed_bits.proofs.bit_in.BitIn.take_run.Goals as goal

pub returns-then-count-most-clause-bits : goal.returns-then-count-most-clause-bits
returns-then-count-most-clause-bits c =
    let e : c.args.self.now.part ≡ Run c.in-Run.field-0 c.in-Run.count = sym (ap (λ (h : BitInState). h.part) c.self.view_is) ∙ c.in-Run.is in
    let P : Part → Type 0 = λ p. IsOfRun c.args.of p in
    let kind : c.in-Run.field-0 ≡ c.args.of = subst P e c.requires in
    ap part_bits e ∙ (ap (λ (b : Bool). replicate c.in-Run.count b) kind ∙ run_in_parts c.args.of c.args.most c.in-Run.count c.if-count-most.true)
