use Rattle.std.proofs.Common.{◌≡◌, true, ℕ, nat_le, arith}
use Rattle.std.proofs.lemmas.Bool.Decides.{nat_tests}
use Rattle.thinning_relay.proofs.level.least_limit.Goals as goal

least : (limit : ℕ) → true ≡ nat_le 0 limit
least limit = grind (arith, nat_tests)

pub returns-in-Main : goal.returns-in-Main
returns-in-Main c = λ limit. rw c.in-Main.is (least limit)
