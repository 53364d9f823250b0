-- The codestream of a drawn plan is the generated one.
use Rattle.std.proofs.Common.{◌≡◌, ◌++◌, ℕ, List, [], ◌∷◌, length, refl, sym, ◌∙◌, ap, subst, arith, length-append}
use Rattle.std.proofs.lemmas.List.{append-nil}
use Rattle.codestream_model.specs.Values.{Head, Place}
use Rattle.codestream_model.specs.HeadRefusals.{HeadRefusal}
use Rattle.codestream_model.specs.MainHeader.{SpellsHead}
use Rattle.codestream_model.specs.RefusedHeader.{RefusesHead}
use Rattle.codestream_model.specs.PacketOrder.{packet_order}
use Rattle.codestream_model.specs.Packet.{Content}
use Rattle.codestream_model.specs.Codestream.{IsCodestream, joined}
use Rattle.codestream_model.proofs.HeaderJudged.{header_is_not_refused, header_is_one}
use Rattle.trial_model.specs.Generator.{Shape, shape_head, shape_header, packets_of, psot_of, generated}
use Rattle.trial_model.specs.GeneratorLaws.{IsShape, AllArePackets, drawn_contents}
use Rattle.trial_model.proofs.ShapeHeads.{header_length}
use Rattle.trial_model.proofs.MadePackets.{drawn_contents_make_packets}
use Rattle.j2k_markers.specs.declared.plan.HeadPlan.{HeadPlan}
use Rattle.j2k_markers.specs.Layout.{plan_bytes}
use Rattle.codestream_make.specs.declared.plan.CodePlan.{CodePlan}
use Rattle.codestream_make.specs.Making.{AllFit, contents_of, made, Makes, HasOtherContent, IsTooLong}
use Rattle.codestream_make.specs.Generating.{IsPlanOf, IsDrawnPlan}
use Rattle.codestream_make.proofs.PlanLayout.{with_psot_is_plan, plan_is_accepted}

-- The header of a drawn plan has one reading.
one_head : (shape : Shape) (seed : ℕ) (plan : CodePlan) (h : Head) → IsShape shape → IsDrawnPlan shape seed plan → SpellsHead h (plan_bytes plan.head) → h ≡ shape_head shape 0
one_head shape seed plan h is drawn spelt =
    (header_is_one h (shape_head shape 0) (plan_bytes plan.head) (plan_bytes plan.head) [] [] spelt (plan_is_accepted shape plan.head is drawn.head) refl).0

-- What is drawn fits.
fits : (h : Head) (places : List Place) (contents : List Content) → AllArePackets h places contents → AllFit h places contents
fits h [] [] all = tt
fits h [] (x ∷ contents) all = absurd all
fits h (p ∷ places) [] all = absurd all
fits h (p ∷ places) (x ∷ contents) all = (all.0, fits h places contents all.1)

pub not_other : (shape : Shape) (seed : ℕ) (plan : CodePlan) → IsShape shape → IsDrawnPlan shape seed plan → HasOtherContent plan → ⊥
not_other shape seed plan is drawn o =
    let P : Head → Type 0 = λ h. AllFit h (packet_order h) (contents_of plan) → ⊥ in
    let Q : List Content → Type 0 = λ l. AllFit (shape_head shape 0) (packet_order (shape_head shape 0)) l in
    subst P (one_head shape seed plan o.head is drawn o.is_head) o.other
    (subst Q (sym drawn.contents) (fits (shape_head shape 0) (packet_order (shape_head shape 0)) (drawn_contents shape seed) (drawn_contents_make_packets shape seed is).packets))

pub plan_not_refused : (shape : Shape) (plan : HeadPlan) (at : ℕ) (why : HeadRefusal) → IsShape shape → IsPlanOf shape plan → RefusesHead (plan_bytes plan) at why → ⊥
plan_not_refused shape plan at why is p refused =
    let P : List ℕ → Type 0 = λ b. RefusesHead b at why in
    header_is_not_refused (shape_head shape 0) (plan_bytes plan) [] at why (plan_is_accepted shape plan is p) (subst P (sym (append-nil (plan_bytes plan))) refused)

-- What is made of it is the generated codestream.
made_is : (shape : Shape) (seed : ℕ) (plan : CodePlan) (h : Head) → IsShape shape → IsDrawnPlan shape seed plan → h ≡ shape_head shape 0 → made plan.head h (contents_of plan) ≡ generated shape seed
made_is shape seed plan h is drawn same =
    let first = shape_head shape 0 in
    let packets = packets_of first (packet_order first) (drawn_contents shape seed) in
    ap (λ (g : Head). made plan.head g (contents_of plan)) same
    ∙ ap (λ (l : List Content). made plan.head first l) drawn.contents
    ∙ ap (λ (b : List ℕ). b ++ (joined packets ++ 255 ∷ 217 ∷ [])) (with_psot_is_plan shape plan.head (psot_of packets) is drawn.head)

pub generates : (shape : Shape) (seed : ℕ) (plan : CodePlan) (bytes : List ℕ) → IsShape shape → IsDrawnPlan shape seed plan → Makes plan bytes → bytes ≡ generated shape seed
generates shape seed plan bytes is drawn m = m.whole ∙ made_is shape seed plan m.head is drawn (one_head shape seed plan m.head is drawn m.is_head)

pub is_accepted : (plan : CodePlan) (bytes : List ℕ) → Makes plan bytes → IsCodestream bytes
is_accepted plan bytes m = (m.codestream.0, contents_of plan, m.codestream.1)

-- It isn't too long.
pub not_too_long : (shape : Shape) (seed : ℕ) (plan : CodePlan) → IsShape shape → IsDrawnPlan shape seed plan → IsTooLong plan → ⊥
not_too_long shape seed plan is drawn t =
    let first = shape_head shape 0 in
    let packets = packets_of first (packet_order first) (drawn_contents shape seed) in
    let size = ap (λ (b : List ℕ). length b) (made_is shape seed plan t.head is drawn (one_head shape seed plan t.head is drawn t.is_head)) in
    omega (
      arith,
      size,
      t.long,
      length-append (shape_header shape (psot_of packets)) (joined packets ++ 255 ∷ 217 ∷ []),
      length-append (joined packets) (255 ∷ 217 ∷ []),
      header_length shape (psot_of packets) is,
      (drawn_contents_make_packets shape seed is).short,
    )
