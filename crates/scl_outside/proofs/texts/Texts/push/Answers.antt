use Rattle.std.proofs.Common.{◌∙◌, ap, arith, length}
use Rattle.scl_outside.proofs.TextsCut.{pushed, inside_after, whole_after, texts_after, told_more, too_many, too_long, stays_untold, length-texts}
use Rattle.scl_outside.proofs.texts.Texts.push.Goals as goal
use Rattle.scl_outside.proofs.texts.Texts.push.Goals.{else-self-via-then-self+then-len-self+else-text-self, else-self-via-then-self+else-len-self, else-self-via-else-self}

pub invariant_of-self-clause-inside : goal.invariant_of-self-clause-inside
invariant_of-self-clause-inside c =
    let s = c.args.self.now in
    let p = pushed c.extend_from_slice.result c.push.result c.args.owner c.len-start.result c.len-end.result s.bytes.items c.args.text.now
    c.extend_from_slice.new.self.items s.places.items c.push.new.self.items
    (c.extend_from_slice.ensures.succeeds (omega arith)) (c.push.ensures.succeeds (omega arith))
    c.extend_from_slice.ensures.items (c.len-start.ensures ∙ s.bytes.ok.0) (c.len-end.ensures ∙ c.extend_from_slice.new.self.ok.0) c.push.ensures.items in
    inside_after c.args.owner s.bytes.items c.args.text.now _ s.places.items _ p s.inside

pub invariant_of-self-clause-whole : goal.invariant_of-self-clause-whole
invariant_of-self-clause-whole c =
    let s = c.args.self.now in
    let p = pushed c.extend_from_slice.result c.push.result c.args.owner c.len-start.result c.len-end.result s.bytes.items c.args.text.now
    c.extend_from_slice.new.self.items s.places.items c.push.new.self.items
    (c.extend_from_slice.ensures.succeeds (omega arith)) (c.push.ensures.succeeds (omega arith))
    c.extend_from_slice.ensures.items (c.len-start.ensures ∙ s.bytes.ok.0) (c.len-end.ensures ∙ c.extend_from_slice.new.self.ok.0) c.push.ensures.items in
    whole_after c.args.owner s.bytes.items c.args.text.now _ s.places.items _ p s.inside s.whole

pub returns-then-text-self-clause-told : goal.returns-then-text-self-clause-told
returns-then-text-self-clause-told c =
    let s = c.args.self.now in
    let l = length-texts s.bytes.items s.places.items in
    let e = ap length s.whole in
    let p = pushed c.extend_from_slice.result c.push.result c.args.owner c.len-start.result c.len-end.result s.bytes.items c.args.text.now
    c.extend_from_slice.new.self.items s.places.items c.push.new.self.items
    (c.extend_from_slice.ensures.succeeds (omega arith)) (c.push.ensures.succeeds (omega arith))
    c.extend_from_slice.ensures.items (c.len-start.ensures ∙ s.bytes.ok.0) (c.len-end.ensures ∙ c.extend_from_slice.new.self.ok.0) c.push.ensures.items in
    let t = texts_after c.args.owner s.bytes.items c.args.text.now _ s.places.items _ p s.inside in
    told_more s.told s.room _ _ _ c.if-self.true t (omega (arith, s.places.ok.0)) (omega (arith, s.bytes.ok.0))

pub returns-else-self-clause-told : goal.returns-else-self-clause-told
returns-else-self-clause-told c =
    let s = c.args.self.now in
    let l = length-texts s.bytes.items s.places.items in
    let e = ap length s.whole in
    elim c.else-self.branch [
      | else-self-via-then-self+then-len-self+else-text-self w ↦ too_long s.told s.room _ _ (omega (arith, s.bytes.ok.0, e, w.if-text-self.false))
      | else-self-via-then-self+else-len-self w ↦ too_many s.told s.room _ _ (omega (arith, s.places.ok.0))
      | else-self-via-else-self w ↦ stays_untold s.told s.room _ _ w.if-self.false
    ]
