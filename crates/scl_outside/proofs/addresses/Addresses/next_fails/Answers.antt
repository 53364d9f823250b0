use Rattle.std.proofs.Common.{◌∙◌}
use Rattle.std.proofs.Common.{eqb}
use Rattle.std.proofs.lemmas.List.{get_or_default}
use Rattle.std.proofs.lemmas.List.Elements.{contains_decides}
use Rattle.std.proofs.lemmas.Bool.Decides.{Decides-eqb}
use Rattle.scl_outside.proofs.addresses.Addresses.next_fails.Goals as goal

pub returns-clause-fails : goal.returns-clause-fails
returns-clause-fails c =
    let bad = c.args.self.now.bad.items in
    let number = c.args.self.now.calls in
    let h = contains_decides eqb Decides-eqb bad number c.contains.result (rw c.deref.ensures.value at c.contains.ensures.cases) in
    (λ e. (let w = h.0 e in (w.0, w.1, w.2 number)), λ there. h.1 (there.0, there.1, λ d. get_or_default bad there.0 d number there.1 ∙ there.2))
