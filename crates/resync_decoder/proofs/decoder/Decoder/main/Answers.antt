use Rattle.std.proofs.Common.{sym, ◌∙◌}
use Rattle.resync_decoder.proofs.Fields.{dropped_sound, main_sound, main_state, head_read, head_taken}
use Rattle.resync_decoder.proofs.decoder.Decoder.main.Goals as goal

pub invariant_of-self-2 : goal.invariant_of-self-2
invariant_of-self-2 c = main_sound c.self.inside (record c.self.inside { header = c.keep.new.header }) c.args.self.now.rules c.new-current.result c.first.result _ (c.self.view_is ∙ c.clear.ensures) c.self.invariant c.keep.ensures.room c.first.ensures.precinct

pub returns-clause-answer : goal.returns-clause-answer
returns-clause-answer c = head_taken c.args.bytes.now c.in-Ok.head (head_read c.args.bytes.now c.in-Ok.head c.in-Ok.ensures.judged) (sym c.length.ensures.length ∙ c.if-length-bytes.false)

pub returns-clause-state : goal.returns-clause-state
returns-clause-state c =
    main_state c.self.inside (record c.self.inside { header = c.keep.new.header }) c.args.self.now.rules c.args.stamp c.in-Ok.head c.new-current.result c.first.result _ c.args.bytes.now (c.self.view_is ∙ c.clear.ensures) c.self.invariant
    (head_read c.args.bytes.now c.in-Ok.head c.in-Ok.ensures.judged) (sym c.length.ensures.length ∙ c.if-length-bytes.false) c.keep.ensures.bytes c.saturating_add-self-inside-2.ensures c.new-current.ensures c.first.ensures.order

pub invariant_of-self-then-length-bytes : goal.invariant_of-self-then-length-bytes
invariant_of-self-then-length-bytes c = dropped_sound c.self.inside c.args.self.now.rules _ (c.self.view_is ∙ c.clear.ensures) c.self.invariant
