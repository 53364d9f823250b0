use Rattle.std.proofs.Common.{◌≡◌, ◌∙◌, ◌∷◌, [], List, Some, sym, ap}
use lib.Pointwise.{bytes_decides}
use Rattle.deliver_job.specs.declared.items.Item.{Item}
use Rattle.deliver_job.proofs.ListWords.{none_alone}
use Rattle.deliver_job.proofs.positions.positions_in.Goals as goal

pub returns-then-eq-clause-all : goal.returns-then-eq-clause-all
returns-then-eq-clause-all c = λ list good is.
    ap (λ (items : List Item). Some items) (c.new.ensures ∙ none_alone c.args.word.now list ((bytes_decides c.args.word.now (110 ∷ 111 ∷ 110 ∷ 101 ∷ [])).0 (sym c.eq.ensures ∙ c.if-eq.true)) good is)
