-- None is left where all were taken.
use Rattle.std.proofs.Common.{length}
use Rattle.std.proofs.lemmas.Bool.{leb-true, le-leb}
use Rattle.packet_header.specs.Answers.{block_of}
use Rattle.packet_header.proofs.PositionWalks.{none_left, all_left}
use Rattle.packet_header.proofs.queue.Queue.is_done.Goals as goal

pub returns : goal.returns
returns c =
    let q = c.args.self.now in
    (λ t. all_left block_of q.blocks.now q.at (leb-true (length q.blocks.now) q.at t), λ e. le-leb (length q.blocks.now) q.at (none_left block_of q.blocks.now q.at e))
