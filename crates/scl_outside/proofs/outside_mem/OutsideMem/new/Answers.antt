use Rattle.scl_outside.proofs.outside_mem.OutsideMem.new.Goals as goal

pub returns-clause-rooms : goal.returns-clause-rooms
returns-clause-rooms c = c.plan.ensures.room c.args.room c.in_ok-wire.ensures.room
