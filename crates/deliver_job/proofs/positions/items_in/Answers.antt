use Rattle.std.proofs.Common.{◌≡◌, ◌<◌, ◌++◌, ◌∷◌, [], ◌∙◌, List, Some, None, length, refl, sym, subst, ap, arith}
use Rattle.deliver_job.specs.declared.items.Item.{Item}
use Rattle.deliver_job.specs.Reading.{SpellsItems}
use Rattle.deliver_job.proofs.ListWords.{SpellsTo, at_first, one_more, none_next, none_last, too_many, all_spelt, all_found}
use Rattle.deliver_job.proofs.positions.items_in.Goals as goal

pub loop-part-init : goal.loop-part-init
loop-part-init c =
    let P : List Item → Type 0 = λ list. SpellsTo c.args.word.now list c.args.word.now in
    subst P (sym c.new-list.ensures) (at_first c.args.word.now c.utf8.word)

pub split_once-requires-text-self : goal.split_once-requires-text-self
split_once-requires-text-self c = λ κs. c.loop-part.invariant.text

pub returns-then-items-clause-all : goal.returns-then-items-clause-all
returns-then-items-clause-all c = λ targets k.
    let n = ap (λ (list : List Item). length list) c.items.ensures in
    let full : length c.loop-part.list ≡ 4095 = omega (arith, n, c.if-items.true) in
    absurd (too_many c.args.word.now c.loop-part.list c.loop-part.rest.now c.in-Some.part c.in-Some.more targets c.loop-part.invariant c.in-Some.ensures.cases full k)

pub returns-in_err-item_in-clause-all : goal.returns-in_err-item_in-clause-all
returns-in_err-item_in-clause-all c = λ targets k.
    absurd (none_next c.args.word.now c.loop-part.list c.loop-part.rest.now c.in-Some.part c.in-Some.more c.item_in.result targets c.loop-part.invariant c.in-Some.ensures.cases c.item_in.ensures.all c.in_err-item_in.was k)

pub loop-part-preserved : goal.loop-part-preserved
loop-part-preserved c =
    let P : List Item → Type 0 = λ list. SpellsTo c.args.word.now list c.in-Some.more.now in
    let few = c.loop-part.invariant.few in
    let n = ap (λ (list : List Item). length list) c.items.ensures in
    let room : length c.loop-part.list < 4095 = omega (arith, n, few, c.if-items.false) in
    subst P (sym c.add.ensures)
    (one_more c.args.word.now c.loop-part.list c.loop-part.rest.now c.in-Some.part c.in-Some.more c.item_in.result c.in_ok-item_in.field-0
    c.loop-part.invariant room c.in-Some.ensures.cases c.item_in.ensures.all c.in_ok-item_in.was c.in_ok-item_in.ensures.spelt.0 c.in_ok-item_in.ensures.spelt.1)

pub item_in-requires-2-text-word : goal.item_in-requires-2-text-word
item_in-requires-2-text-word c = λ κs. c.loop-part.invariant.text

pub returns-in_err-item_in-2-clause-all : goal.returns-in_err-item_in-2-clause-all
returns-in_err-item_in-2-clause-all c = λ targets k.
    absurd (none_last c.args.word.now c.loop-part.list c.loop-part.rest.now c.item_in-2.result targets c.loop-part.invariant c.in_default.ensures.cases c.item_in-2.ensures.all c.in_err-item_in-2.was k)

pub returns-clause-spelt : goal.returns-clause-spelt
returns-clause-spelt c =
    let P : List Item → Type 0 = λ list. SpellsItems c.args.word.now list in
    subst P (sym c.add-2.ensures)
    (all_spelt c.args.word.now c.loop-part.list c.loop-part.rest.now c.in_ok-item_in-2.field-0 c.loop-part.invariant c.in_ok-item_in-2.ensures.spelt.0 c.in_ok-item_in-2.ensures.spelt.1)

pub returns-clause-all : goal.returns-clause-all
returns-clause-all c = λ targets k.
    ap (λ (list : List Item). Some list) (c.add-2.ensures ∙ all_found c.args.word.now c.loop-part.list c.loop-part.rest.now c.item_in-2.result c.in_ok-item_in-2.field-0 targets c.loop-part.invariant c.in_default.ensures.cases c.item_in-2.ensures.all c.in_ok-item_in-2.was k)
