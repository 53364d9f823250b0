use Rattle.std.proofs.Common.{◌≡◌, Some, None}
use Rattle.scl_cli.specs.declared.command.Command.TheVariants.{Pack, Report, Rebuild, Recv, Send}
use Rattle.scl_cli.proofs.Runs.{spells_nothing, ran, decided, wanted}
use Rattle.scl_cli.proofs.Reported.{reported}
use Rattle.scl_cli.proofs.Packed.{packed}
use Rattle.scl_cli.proofs.Rebuilt.{rebuilt}
use Rattle.scl_cli.proofs.Receiving.{receives}
use Rattle.scl_cli.proofs.Sending.{sends}
use Rattle.scl_cli.proofs.top_call.run.Goals as goal

pub returns-clause-ran : goal.returns-clause-ran
returns-clause-ran g c = ran _ _ _ _ _ _ _ _ c.in-Some.ensures.spelt c.finish.ensures.status c.perform-ending.ensures.1 c.finish.ensures.note

pub returns-clause-decided : goal.returns-clause-decided
returns-clause-decided g c = λ command spells. decided _ command _ _ _ _ _ _ spells.0 (c.in-Some.ensures.all command spells) c.finish.ensures.status c.perform-ending.ensures.1 c.finish.ensures.note

pub returns-clause-memory : goal.returns-clause-memory
returns-clause-memory g c = λ seven. wanted _ _ _ _ _ _ _ _ c.in-Some.ensures.spelt c.finish.ensures.status c.perform-ending.ensures.1 c.finish.ensures.note seven

pub returns-in_default-clause-ran : goal.returns-in_default-clause-ran
returns-in_default-clause-ran g c = spells_nothing _ _ _ c.in_default.ensures.all c.note.ensures.step

pub returns-clause-report : goal.returns-clause-report
returns-clause-report g c = λ pick spells. reported _ pick _ _ _ _ _ _ (c.in-Some.ensures.all _ spells) spells.0 c.finish.ensures.status c.perform-ending.ensures.1 c.finish.ensures.note

pub returns-in_default-clause-report : goal.returns-in_default-clause-report
returns-in_default-clause-report g c = λ pick spells. let e : None ≡ Some (Report pick) = c.in_default.ensures.all (Report pick) spells in absurd (cc)

pub returns-clause-pack : goal.returns-clause-pack
returns-clause-pack g c = λ plan spells. packed _ plan _ _ _ _ _ _ (c.in-Some.ensures.all _ spells) spells.0 c.finish.ensures.status c.perform-ending.ensures.1 c.finish.ensures.note

pub returns-in_default-clause-pack : goal.returns-in_default-clause-pack
returns-in_default-clause-pack g c = λ plan spells. let e : None ≡ Some (Pack plan) = c.in_default.ensures.all (Pack plan) spells in absurd (cc)

pub returns-clause-rebuild : goal.returns-clause-rebuild
returns-clause-rebuild g c = λ pick spells. rebuilt _ pick _ _ _ _ _ _ (c.in-Some.ensures.all _ spells) spells.0 c.finish.ensures.status c.perform-ending.ensures.1 c.finish.ensures.note

pub returns-in_default-clause-rebuild : goal.returns-in_default-clause-rebuild
returns-in_default-clause-rebuild g c = λ pick spells. let e : None ≡ Some (Rebuild pick) = c.in_default.ensures.all (Rebuild pick) spells in absurd (cc)

pub returns-clause-recv : goal.returns-clause-recv
returns-clause-recv g c = λ settings spells. receives _ settings _ _ _ _ _ _ (c.in-Some.ensures.all _ spells) spells.0 c.finish.ensures.status c.perform-ending.ensures.1 c.finish.ensures.note

pub returns-in_default-clause-recv : goal.returns-in_default-clause-recv
returns-in_default-clause-recv g c = λ settings spells. let e : None ≡ Some (Recv settings) = c.in_default.ensures.all (Recv settings) spells in absurd (cc)

pub returns-clause-send : goal.returns-clause-send
returns-clause-send g c = λ settings spells. sends _ settings _ _ _ _ _ _ (c.in-Some.ensures.all _ spells) spells.0 c.finish.ensures.status c.perform-ending.ensures.1 c.finish.ensures.note

pub returns-in_default-clause-send : goal.returns-in_default-clause-send
returns-in_default-clause-send g c = λ settings spells. let e : None ≡ Some (Send settings) = c.in_default.ensures.all (Send settings) spells in absurd (cc)
