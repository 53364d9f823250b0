use Rattle.std.proofs.Common.{[], sym, ◌∙◌, ap}
use Rattle.std.specs.Prelude.{Some}
use Rattle.std.proofs.lemmas.List.{append-nil}
use Rattle.codestream_rebuild.specs.Opening.{opened}
use Rattle.codestream_rebuild.proofs.Opens.{ok_one}
use Rattle.codestream_rebuild.proofs.rebuild.Rebuild.begin.Goals as goal

pub unreachable-requires : goal.unreachable-requires
unreachable-requires g c = c.in_default.not-Ok c.requires.0 (c.read_head.ensures.only c.requires.0 c.args.head.now [] c.requires.1 (sym (append-nil c.args.head.now)))

pub returns-clause-opens : goal.returns-clause-opens
returns-clause-opens g c = λ h spelt.
    let read = c.read_head.ensures.only h c.args.head.now [] spelt (sym (append-nil c.args.head.now)) in
    let same = ok_one c.read_head.result c.in-Ok.values h c.in-Ok.is read in
    ap (λ o. Some o) (c.new.ensures ∙ ap (λ v. opened c.args.heads v) same)
