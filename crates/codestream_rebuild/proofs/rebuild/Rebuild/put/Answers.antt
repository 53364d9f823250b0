use Rattle.std.proofs.Common.{◌++◌, ℕ, List, refl, sym, ◌∙◌, ap, subst}
use Rattle.std.specs.Prelude.{Option}
use Rattle.rebuild_model.specs.Rebuilding.{Open}
use Rattle.precinct_geometry.specs.Spans.{place_of}
use Rattle.codestream_rebuild.specs.Opening.{IsUnder, open_for, opening, open_past, up_to}
use Rattle.scl_outside.proofs.Putting.{puts_same, puts_then, puts_front}
use Rattle.codestream_rebuild.proofs.Opens.{added_is, after_is, under_is}
use Rattle.codestream_rebuild.proofs.rebuild.Rebuild.put.Goals as goal

pub returns-in-Done-clause-writes : goal.returns-in-Done-clause-writes
returns-in-Done-clause-writes g c = λ x is.
    let was = c.args.self.now in
    let p = place_of c.args.place in
    let r = c.requires in
    let first = opening was c.args.heads c.args.head.now p in
    let mid = c.in-Done.ensures.opens r.head r.spelt refl in
    let all = ap (λ o. first ++ up_to o p c.args.raw.now) mid ∙ added_is was x c.args.heads c.args.head.now c.args.raw.now p r.head is r.spelt in
    let out = c.in-Done.ensures.writes in
    let rest = c.join.ensures.writes in
    (out.0 ++ rest.0, puts_same _ _ _ _ _ _ all (puts_then first _ _ _ _ _ _ _ out.1 rest.1))

pub returns-in-Done-clause-opens : goal.returns-in-Done-clause-opens
returns-in-Done-clause-opens g c = λ x is done.
    let p = place_of c.args.place in
    let r = c.requires in
    c.join.ensures.opens done ∙ (ap (λ o. open_past o p) (c.in-Done.ensures.opens r.head r.spelt refl) ∙ after_is c.args.self.now x c.args.heads c.args.head.now c.args.raw.now p r.head is r.spelt)

pub returns-in-WriteFault-clause-writes : goal.returns-in-WriteFault-clause-writes
returns-in-WriteFault-clause-writes g c = λ x is.
    let was = c.args.self.now in
    let p = place_of c.args.place in
    let r = c.requires in
    let first = opening was c.args.heads c.args.head.now p in
    let all = added_is was x c.args.heads c.args.head.now c.args.raw.now p r.head is r.spelt in
    let out = c.in-WriteFault.ensures.writes in
    (out.0, puts_same _ _ _ _ _ _ all (puts_front first (up_to (open_for was c.args.heads r.head p) p c.args.raw.now) _ _ _ out.1))

pub returns-in-Done-clause-under : goal.returns-in-Done-clause-under
returns-in-Done-clause-under g c = λ done.
    let p = place_of c.args.place in
    let r = c.requires in
    let is = c.join.ensures.opens done ∙ ap (λ o. open_past o p) (c.in-Done.ensures.opens r.head r.spelt refl) in
    let P : Option Open → Type 0 = λ o. IsUnder o c.args.heads c.args.head.now in
    subst P (sym is) (under_is c.args.self.now c.args.heads c.args.head.now p r.head r.same r.spelt)
