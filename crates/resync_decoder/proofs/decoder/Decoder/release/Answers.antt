use Rattle.resync_decoder.proofs.Fields.{released_sound}
use Rattle.resync_decoder.proofs.decoder.Decoder.release.Goals as goal

pub invariant_of-self : goal.invariant_of-self
invariant_of-self c =
    released_sound c.self.inside c.args.self.now c.in-Some-Some.current c.after-self-inside.result c.args.size c.self.view_is c.self.invariant c.in-Some-Some.is-0
    c.after-self-inside.ensures.precinct c.requires.within c.requires.before_mark
