use Rattle.std.proofs.Common.{rules, ◌≡◌, ◌<◌, ◌+◌, length, refl, sym, subst, ◌∙◌, ap, arith}
use Rattle.std.specs.Prelude.{Err}
use Rattle.codestream_model.specs.HeadRefusals.{Cut as HeadCut}
use Rattle.codestream_model.specs.RefusedHeader.{RefusesHead}
use Rattle.codestream_model.specs.Codestream.{HeadRefused}
use Rattle.j2k_markers.specs.Refusals.{refusal_of}
use Rattle.j2k_markers.specs.declared.head.HeadWhy.{HeadWhy}
use Rattle.j2k_markers.specs.declared.head.HeadWhy.TheVariants.{Cut}
use Rattle.codestream_walk.specs.declared.fault.WalkWhy.TheVariants.{Head as BadHead}
use Rattle.codestream_walk.specs.Walking.{Seen, Wants, Refuses}
use Rattle.codestream_walk.proofs.Stages.{sound_start, wants_head, refuses_head, refused_answer, not_cut}
use Rattle.codestream_walk.proofs.pieces.Pieces.judge_start.Goals as goal

pub returns-in-Err : goal.returns-in-Err
returns-in-Err c =
    let i = c.self.inside in
    let start = ap (λ (v : Seen). v.walk.stage) c.self.view_is ∙ c.requires in
    let most = sound_start _ i.codestreams i.input.offset start c.self.invariant.1 in
    let few : i.codestreams < 65536 = omega arith in
    let cut : c.in-Err.fault.why ≡ Cut = search rules in
    let refused : RefusesHead c.bytes.result.now c.in-Err.fault.at (refusal_of c.in-Err.fault.why) = (c.in-Err.ensures.refused _ _).0 refl in
    let is : RefusesHead i.input.bytes c.in-Err.fault.at HeadCut = rw (sym c.bytes.ensures) (rw cut at refused) in
    let P : Seen → Type 0 = λ u. Wants u.walk in
    let short : length c.bytes.result.now < 8192 = c.in-Err.ensures.wants c.in-Err.fault.at (ap (λ (w : HeadWhy). Err (record { at = c.in-Err.fault.at; why = w })) cut) in
    let hand = ap (λ (v : Seen). length v.walk.hand) c.self.view_is in
    record { walk = refl; shown = refl; wants = subst P c.self.view_is (wants_head _ i.codestreams c.in-Err.fault.at i.input.bytes start few is); short = omega (arith, short, hand, ap length c.bytes.ensures) }

pub returns-in-Err-2 : goal.returns-in-Err-2
returns-in-Err-2 c =
    let i = c.self.inside in
    let start = ap (λ (v : Seen). v.walk.stage) c.self.view_is ∙ c.requires in
    let most = sound_start _ i.codestreams i.input.offset start c.self.invariant.1 in
    let few : i.codestreams < 65536 = omega arith in
    let other : c.in-Err.fault.why ≡ Cut → ⊥ = search rules in
    let refused : RefusesHead c.bytes.result.now c.in-Err.fault.at (refusal_of c.in-Err.fault.why) = (c.in-Err.ensures.refused _ _).0 refl in
    let is : RefusesHead i.input.bytes c.in-Err.fault.at (refusal_of c.in-Err.fault.why) = rw (sym c.bytes.ensures) refused in
    let P : Seen → Type 0 = λ u. Refuses u.walk (c.offset-at.result + c.from.result) (HeadRefused (refusal_of c.in-Err.fault.why)) in
    refused_answer c.refuse-in-Err-2.result (c.offset-at.result + c.from.result) (BadHead c.in-Err.fault.why) c.args.self.now c.refuse-in-Err-2.new.self c.refuse-in-Err-2.ensures.result
    (subst P c.self.view_is (refuses_head _ i.codestreams i.input.offset c.in-Err.fault.at (c.offset-at.result + c.from.result) i.input.bytes (refusal_of c.in-Err.fault.why) start (omega (arith, c.len.ensures)) few is (not_cut c.in-Err.fault.why other) (omega (arith, c.offset-at.ensures.offset, c.from.ensures))))
    c.refuse-in-Err-2.ensures.done
