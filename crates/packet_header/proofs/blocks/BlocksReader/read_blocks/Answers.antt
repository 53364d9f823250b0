-- The first bit, and then the grids.
use Rattle.std.proofs.Common.{Result, subst}
use Rattle.packet_header.specs.Blocks.{TookPart}
use Rattle.packet_header.specs.declared.refusal.HeaderStop.{HeaderStop}
use Rattle.packet_header.proofs.Feeds.{took_from}
use Rattle.packet_header.proofs.blocks.BlocksReader.read_blocks.Goals as goal

pub returns-clause-read : goal.returns-clause-read
returns-clause-read c = λ first before t.
    let R : Result (Unit {0}) HeaderStop → Type 0 = λ x. TookPart first c.read_first.new.self before c.args.source.now c.read_first.new.source x in
    let q = subst R c.in_ok-read_first.was (c.read_first.ensures.read first before t) in
    took_from first c.read_grids-2.new.self before c.args.source.now c.read_first.new.source c.read_grids-2.new.source c.read_grids-2.result c.read_first.ensures.piece (c.read_grids-2.ensures.read first before q)
