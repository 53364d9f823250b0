use Rattle.std.proofs.Common.{◌∙◌, ap, drop, take, List, ℕ}
use Rattle.j2k_markers.proofs.Starting.{reach_is, behind_two}
use Rattle.j2k_markers.proofs.walk.behind_soc.Goals as goal

pub returns : goal.returns
returns c =
    let b = c.args.bytes.now in
    behind_two (take c.min.result b) ∙ ap (λ (l : List ℕ). drop 2 l) (ap (λ (n : ℕ). take n b) c.min.ensures ∙ reach_is 8192 b)
