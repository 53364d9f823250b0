-- The codestream that is made of a plan is accepted.
use Rattle.std.proofs.Common.{◌≡◌, ◌≤◌, ◌+◌, ◌-◌, ◌/◌, ◌%◌, ◌++◌, ℕ, suc, true, false, List, [], ◌∷◌, length, map, slice_set, refl, sym, subst, ◌∙◌, ap, arith, length-append, inr}
use Rattle.codestream_model.specs.Values.{Head, Place}
use Rattle.codestream_model.specs.PacketOrder.{packet_order, IsPacketOrder}
use Rattle.codestream_model.specs.Packet.{Content}
use Rattle.codestream_model.specs.Codestream.{SpellsPackets, joined}
use Rattle.trial_model.specs.Generator.{packet_of, packets_of, psot_of}
use Rattle.j2k_markers.specs.declared.head.HeadWhy.{HeadWhy}
use Rattle.j2k_markers.specs.declared.plan.PlanFault.{PlanFault}
use Rattle.j2k_markers.specs.declared.plan.PlanFault.TheVariants as plan
use Rattle.codestream_make.specs.declared.fault.MakeFault.TheVariants as fault
use Rattle.codestream_make.specs.Faults.{of_plan}
use Rattle.j2k_markers.specs.Layout.{sot_content, plan_bytes, AreSegments}
use Rattle.codestream_make.specs.declared.plan.CodePlan.{CodePlan}
use Rattle.codestream_make.specs.declared.plan.PrecinctPlan.{PrecinctPlan}
use Rattle.codestream_make.specs.declared.gathered.Gathered.{Gathered}
use Rattle.codestream_make.specs.Making.{AllFit, content_of, contents_of, with_psot, made_packets, made, Makes, IsTooLong, HasOtherContent}
use Rattle.codestream_make.specs.Gathering.{Gathers, HasOther, set_four}
use Rattle.codestream_make.proofs.Psot.{has_parts, front, tile_bytes, plan_split, same_front, length-tile, length-plan, other_psot, sot_is}

-- Four bytes set in a list that begins with others.
set_after : (x : ℕ) (b : List ℕ) (k n : ℕ) → set_four (x ∷ b) (suc k) n ≡ x ∷ set_four b k n
set_after x b k n =
    let one : suc k + 1 ≡ suc (k + 1) = omega arith in
    let two : suc k + 2 ≡ suc (k + 2) = omega arith in
    let three : suc k + 3 ≡ suc (k + 3) = omega arith in
    let first = slice_set (x ∷ b) (suc k) (n / 0x100_0000) in
    ap (λ (i : ℕ). slice_set (slice_set (slice_set first i (n / 0x1_0000 % 256)) (suc k + 2) (n / 256 % 256)) (suc k + 3) (n % 256)) one
    ∙ ap (λ (i : ℕ). slice_set (slice_set (slice_set first (suc (k + 1)) (n / 0x1_0000 % 256)) i (n / 256 % 256)) (suc k + 3) (n % 256)) two
    ∙ ap (λ (i : ℕ). slice_set (slice_set (slice_set first (suc (k + 1)) (n / 0x1_0000 % 256)) (suc (k + 2)) (n / 256 % 256)) i (n % 256)) three

-- Psot set in a main header that other bytes follow.
psot_set : (before rest : List ℕ) (old n : ℕ) → set_four ((before ++ tile_bytes old) ++ rest) (length before + 6) n ≡ (before ++ tile_bytes n) ++ rest
unfolding sot_content
psot_set [] rest old n = refl
psot_set (x ∷ before) rest old n =
    let at : length (x ∷ before) + 6 ≡ suc (length before + 6) = omega arith in
    ap (λ (k : ℕ). set_four (x ∷ ((before ++ tile_bytes old) ++ rest)) k n) at
    ∙ set_after x ((before ++ tile_bytes old) ++ rest) (length before + 6) n
    ∙ ap (λ (b : List ℕ). x ∷ b) (psot_set before rest old n)

-- The packets that were made, under a main header with another Psot.
packets_spelled : (h : Head) (psot : ℕ) (places : List Place) (contents : List Content) → AllFit h places contents
    → SpellsPackets (record h { psot = psot }) places contents (joined (packets_of h places contents))
packets_spelled h psot [] [] fit = refl
packets_spelled h psot [] (x ∷ contents) fit = absurd fit
packets_spelled h psot (p ∷ places) [] fit = absurd fit
packets_spelled h psot (p ∷ places) (x ∷ contents) (f, fit) = (
  packet_of h p x,
  joined (packets_of h places contents),
  record { header = f.header; few_blocks = f.few_blocks; is_header = f.is_header; segments = f.segments; whole = f.whole; short = f.short },
  packets_spelled h psot places contents fit,
  refl,
)

same_order : (h : Head) (psot : ℕ) (places : List Place) → IsPacketOrder h places → IsPacketOrder (record h { psot = psot }) places
same_order h psot places o = record {
  each = λ p. (
    (λ there. let is = (o.each p).0 there in record { component = is.component; resolution = is.resolution; number = is.number }),
    (λ is. (o.each p).1 (record { component = is.component; resolution = is.resolution; number = is.number })),
  );
  ascending = o.ascending;
}

-- What was gathered, with the right Psot, is the codestream of the plan.
pub makes : (plan : CodePlan) (g : Gathered) (at psot : ℕ) → AreSegments plan.head.extra.items → Gathers (plan_bytes plan.head) (contents_of plan) g → g.is_too_long ≡ false
    → length g.bytes.items ≤ 268435456 → at ≡ length (plan_bytes plan.head) - 14 → psot ≡ length g.bytes.items - 2 - at
    → Makes plan (set_four g.bytes.items (at + 6) psot)
makes plan g at psot extra s fits short at_is psot_is =
    let h = s.head in
    let contents = contents_of plan in
    let packets = joined (made_packets h contents) in
    let rest = packets ++ 255 ∷ 217 ∷ [] in
    let parts = has_parts plan.head h extra s.is_head in
    let before = front plan.head in
    let right = psot_of (made_packets h contents) in
    let all : g.bytes.items ≡ (before ++ tile_bytes plan.head.psot) ++ rest = s.gathered.fits fits ∙ ap (λ (b : List ℕ). b ++ rest) (plan_split plan.head) in
    let size = ap (λ (b : List ℕ). length b) all ∙ length-append (before ++ tile_bytes plan.head.psot) rest in
    let first = length-append before (tile_bytes plan.head.psot) in
    let tile = length-tile plan.head.psot in
    let last = length-append packets (255 ∷ 217 ∷ []) in
    let header = length-plan plan.head in
    let at_front : at ≡ length before = omega (arith, at_is, header) in
    let right_is : right ≡ 14 + length packets = refl in
    let same : psot ≡ right = omega (arith, psot_is, at_front, size, first, tile, last, right_is) in
    let set : set_four g.bytes.items (at + 6) psot ≡ (before ++ tile_bytes right) ++ rest =
    ap (λ (b : List ℕ). set_four b (at + 6) psot) all
    ∙ ap (λ (k : ℕ). set_four ((before ++ tile_bytes plan.head.psot) ++ rest) (k + 6) psot) at_front
    ∙ ap (λ (n : ℕ). set_four ((before ++ tile_bytes plan.head.psot) ++ rest) (length before + 6) n) same
    ∙ psot_set before rest plan.head.psot right in
    let other = with_psot plan.head right in
    let header_is : plan_bytes other ≡ before ++ tile_bytes right = plan_split other ∙ ap (λ (b : List ℕ). b ++ tile_bytes right) (same_front plan.head right) in
    let whole : set_four g.bytes.items (at + 6) psot ≡ made plan.head h contents = set ∙ ap (λ (b : List ℕ). b ++ rest) (sym header_is) in
    let sizes = ap (λ (b : List ℕ). length b) set ∙ length-append (before ++ tile_bytes right) rest in
    let firsts = length-append before (tile_bytes right) in
    let tiles = length-tile right in
    let headers = length-plan other in
    let fronts = ap (λ (b : List ℕ). length b) (same_front plan.head right) in
    let sot = sot_is plan.head h parts in
    record {
      head = h;
      is_head = s.is_head;
      fit = s.fit;
      whole = whole;
      short = omega (arith, short, size, first, tile, sizes, firsts, tiles);
      codestream = (
        record h { psot = right },
        record {
          head = plan_bytes other;
          places = packet_order h;
          packets = packets;
          is_head = other_psot plan.head h right (omega (arith, right_is, short, size, first, tile, last)) parts;
          order = same_order h right (packet_order h) s.order;
          are_packets = packets_spelled h right (packet_order h) contents s.fit;
          psot = inr (omega (arith, sot, headers, fronts, right_is));
          whole = whole;
        },
      );
    }

-- What would be gathered is too long.
pub is_too_long : (plan : CodePlan) (g : Gathered) → Gathers (plan_bytes plan.head) (contents_of plan) g → g.is_too_long ≡ true → IsTooLong plan
is_too_long plan g s long =
    let contents = contents_of plan in
    let rest = joined (made_packets s.head contents) ++ 255 ∷ 217 ∷ [] in
    let other = with_psot plan.head (psot_of (made_packets s.head contents)) in
    let n = length-append (plan_bytes plan.head) rest in
    let m = length-append (plan_bytes other) rest in
    let a = length-plan plan.head in
    let b = length-plan other in
    let same = ap (λ (l : List ℕ). length l) (same_front plan.head (psot_of (made_packets s.head contents))) in
    let k = s.gathered.long long in
    record { head = s.head; is_head = s.is_head; fit = s.fit; long = omega (arith, k, n, m, a, b, same) }

pub has_other_content : (plan : CodePlan) → HasOther (plan_bytes plan.head) (contents_of plan) → HasOtherContent plan
has_other_content plan o = record { head = o.head; is_head = o.is_head; other = o.other }

-- The reason of a header that isn't written.
pub head_cause : (why : HeadWhy) (e : PlanFault) → fault.Head why ≡ of_plan e → e ≡ plan.Head why
head_cause why (plan.Head other) is = cc
head_cause why plan.NoMemory is = absurd (cc)

-- The sizes of what was gathered.
pub sizes : (plan : CodePlan) (g : Gathered) → Gathers (plan_bytes plan.head) (contents_of plan) g → g.is_too_long ≡ false
    → length (plan_bytes plan.head) + 2 ≤ length g.bytes.items
sizes plan g s fits =
    let packets = joined (made_packets s.head (contents_of plan)) in
    let a = ap (λ (b : List ℕ). length b) (s.gathered.fits fits) ∙ length-append (plan_bytes plan.head) (packets ++ 255 ∷ 217 ∷ []) in
    let b = length-append packets (255 ∷ 217 ∷ []) in
    omega (arith, a, b)

-- What was gathered of a plan's header and its contents, where they are had under other names.
pub of_plan_gathers : (plan : CodePlan) (header : List ℕ) (contents : List PrecinctPlan) (g : Gathered) → header ≡ plan_bytes plan.head → contents ≡ plan.content.items
    → Gathers header (map content_of contents) g → Gathers (plan_bytes plan.head) (contents_of plan) g
of_plan_gathers plan header contents g e f s =
    let P : List ℕ → Type 0 = λ b. Gathers b (map content_of contents) g in
    let Q : List PrecinctPlan → Type 0 = λ l. Gathers (plan_bytes plan.head) (map content_of l) g in
    subst Q f (subst P e s)

pub of_plan_other : (plan : CodePlan) (header : List ℕ) (contents : List PrecinctPlan) → header ≡ plan_bytes plan.head → contents ≡ plan.content.items
    → HasOther header (map content_of contents) → HasOther (plan_bytes plan.head) (contents_of plan)
of_plan_other plan header contents e f s =
    let P : List ℕ → Type 0 = λ b. HasOther b (map content_of contents) in
    let Q : List PrecinctPlan → Type 0 = λ l. HasOther (plan_bytes plan.head) (map content_of l) in
    subst Q f (subst P e s)
