-- What was gathered of a main header and its contents.
use Rattle.std.proofs.Common.{◌≡◌, ◌<◌, ◌++◌, ◌∷◌, [], ℕ, List, sym, subst, append_assoc}
use Rattle.codestream_model.specs.Values.{Head}
use Rattle.codestream_model.specs.MainHeader.{SpellsHead}
use Rattle.codestream_model.specs.HeadLimits.{IsStep, IsWithinLimits}
use Rattle.codestream_model.proofs.Orders.{packet_order_is_computed}
use Rattle.std.proofs.lemmas.List.Elements.{All-weaker}
use Rattle.codestream_model.specs.PacketOrder.{packet_order, IsPacketOrder}
use Rattle.codestream_model.specs.Packet.{Content}
use Rattle.codestream_model.specs.Codestream.{joined}
use Rattle.codestream_make.specs.declared.gathered.Gathered.{Gathered}
use Rattle.codestream_make.specs.Gathering.{HasGathered, Gathers, HasOther}
use Rattle.codestream_make.specs.Making.{AllFit, made_packets}

in_order : (h : Head) → IsWithinLimits h → IsPacketOrder h (packet_order h)
in_order h limits = packet_order_is_computed h (All-weaker IsStep (λ step. (0 < step.x) × (0 < step.y)) (λ step is. (is.some_x, is.some_y)) h.steps limits.each_step)

pub gathers : (header : List ℕ) (contents : List Content) (h start : Head) (first mid new : Gathered)
    → SpellsHead h header → IsWithinLimits h → start ≡ h → HasGathered first header → AllFit start (packet_order start) contents
    → ((all : List ℕ) → HasGathered first all → HasGathered mid (all ++ joined (made_packets start contents)))
    → ((all : List ℕ) → HasGathered mid all → HasGathered new (all ++ 255 ∷ 217 ∷ []))
    → Gathers header contents new
gathers header contents h start first mid new is_head limits same has fit puts ends =
    let packets = joined (made_packets start contents) in
    let P : List ℕ → Type 0 = λ l. HasGathered new l in
    record {
      head = start;
      is_head = (let Q : Head → Type 0 = λ g. SpellsHead g header in subst Q (sym same) is_head);
      order = (let Q : Head → Type 0 = λ g. IsPacketOrder g (packet_order g) in subst Q (sym same) (in_order h limits));
      fit = fit;
      gathered = subst P (append_assoc header packets (255 ∷ 217 ∷ [])) (ends (header ++ packets) (puts header has));
    }

pub has_other : (header : List ℕ) (contents : List Content) (h start : Head) → SpellsHead h header → start ≡ h → (AllFit start (packet_order start) contents → ⊥) → HasOther header contents
has_other header contents h start is_head same other = record {
  head = start;
  is_head = (let Q : Head → Type 0 = λ g. SpellsHead g header in subst Q (sym same) is_head);
  other = other;
}
