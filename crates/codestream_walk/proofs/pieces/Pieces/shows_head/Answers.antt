use Rattle.std.proofs.Common.{subst}
use Rattle.codestream_walk.specs.Walking.{ShowsHead}
use Rattle.codestream_walk.proofs.Stages.{shows_of}
use Rattle.codestream_walk.proofs.pieces.Pieces.shows_head.Goals as goal

pub returns : goal.returns
returns c = let i = c.self.inside in subst ShowsHead c.self.view_is (shows_of i.state i.begun _ _ i.size i.left)
