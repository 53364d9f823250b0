use Rattle.std.proofs.Common.{arith}
use Rattle.scl_cli.proofs.RelaySpelt.{long_enough}
use Rattle.scl_cli.proofs.relay.relay_of.Goals as goal

pub returns-then-len-lt7-clause-all : goal.returns-then-len-lt7-clause-all
returns-then-len-lt7-clause-all c = λ command verb spells. absurd (let many = long_enough command c.args.words.now verb spells in omega (arith, many, c.len.ensures, c.if-len-lt7.true))
