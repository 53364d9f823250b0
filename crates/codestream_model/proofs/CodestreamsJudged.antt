-- Of all bytes one thing holds: they begin with a codestream, or are refused where one should begin, or end inside one.
use Rattle.std.proofs.Common.{◌≡◌, ◌⊎◌, ◌<◌, ◌+◌, ◌==◌, ◌&&◌, ℕ, Bool, true, false, List, [], ◌∷◌, ◌++◌, length, take, drop, Result, Ok, Err, subst, refl, sym, ◌∙◌, ap, inl, inr, arith, append_assoc}
use Rattle.std.specs.Prelude.{MatchResult}
use Rattle.std.proofs.lemmas.Bool.{and_parts}
use Rattle.std.proofs.lemmas.List.{append-nil, length-append, take-append-drop, drop_at}
use Rattle.std.proofs.lemmas.List.Elements.{All-weaker}
use Rattle.codestream_model.specs.Values.{Head, Place}
use Rattle.codestream_model.specs.Bytes.{IsBytes}
use Rattle.codestream_model.specs.HeadLimits.{IsStep}
use Rattle.codestream_model.specs.HeadRefusals.{HeadRefusal, Cut as HeadCut}
use Rattle.codestream_model.specs.MainHeader.{SpellsHead}
use Rattle.codestream_model.specs.MainHeaderReading.{Refused, head_of}
use Rattle.codestream_model.specs.RefusedHeader.{RefusesHead}
use Rattle.codestream_model.specs.PacketOrder.{IsPacketOrder, packet_order}
use Rattle.codestream_model.specs.Packet.{Content, SpellsPacket}
use Rattle.codestream_model.specs.Codestream.{SpellsPackets, IsPsotRight, WalkRefusal, HeadRefused, TooManyBlocks, HeaderRefused, PacketTooLong, Psot, NoEoc, BeginsCodestream, RefusesCodestream, NeedsCodestreamBytes}
use Rattle.codestream_model.specs.CodestreamLaws.{BeginWithCodestream, CodestreamsAreReadOneWay, CodestreamsAreJudged, CodestreamsHaveOneVerdict}
use Rattle.codestream_model.proofs.TreeLemmas.{either, equal_number}
use Rattle.codestream_model.proofs.SegmentBytes.{bytes-take, bytes-drop}
use Rattle.codestream_model.proofs.HeaderJudged.{headers_are_judged, header_is_one}
use Rattle.codestream_model.proofs.HeaderLimits.{header_is_within_limits}
use Rattle.codestream_model.proofs.Orders.{packet_order_is_computed, packet_order_is_one}
use Rattle.codestream_model.proofs.OneWayLemmas.{same_front}
use Rattle.codestream_model.proofs.PacketsOneWay.{one_run}
use Rattle.codestream_model.proofs.PacketVerdicts.{IsThere, HasMany, IsRefused, IsLong, IsShort, what_stands}
use Rattle.codestream_model.proofs.CodestreamVerdicts.{Whole, Refuses, Wants, is_psot, psot_right, psot_tested, HasVerdict, verdict_is_one, whole_verdict, refused_verdict, unfinished_verdict}

-- what may be said of bytes
abbrev AreJudged : List ℕ → Type 0
AreJudged bytes = BeginWithCodestream bytes ⊎ (((at : ℕ) × (why : WalkRefusal) × RefusesCodestream bytes at why) ⊎ NeedsCodestreamBytes bytes)

-- bytes after others
pub bytes_back : (xs ys : List ℕ) → IsBytes (xs ++ ys) → IsBytes ys
bytes_back xs ys fits =
    let P : List ℕ → Type 0 = λ l. IsBytes l in
    subst P (drop_at xs ys (length xs) refl) (bytes-drop (length xs) (xs ++ ys) fits)

-- one more packet
packets_push : (h : Head) (places : List Place) (content : List Content) (packets : List ℕ) (p : Place) (x : Content) (packet : List ℕ) → SpellsPackets h places content packets → SpellsPacket h p x packet
    → SpellsPackets h (places ++ p ∷ []) (content ++ x ∷ []) (packets ++ packet)
packets_push h [] [] packets p x packet s t = (packet, [], t, refl, ap (λ (l : List ℕ). l ++ packet) s ∙ sym (append-nil packet))
packets_push h [] (y ∷ content) packets p x packet s t = absurd s
packets_push h (q ∷ places) [] packets p x packet s t = absurd s
packets_push h (q ∷ places) (y ∷ content) packets p x packet (front, back, first, more, e) t =
    (front, back ++ packet, first, packets_push h places content back p x packet more t, ap (λ (l : List ℕ). l ++ packet) e ∙ append_assoc front back packet)

-- after a packet
begun_further : (h : Head) (p : Place) (later : List Place) (at : ℕ) (rest bytes : List ℕ) (x : Content) (packet more : List ℕ)
    → BeginsCodestream h (p ∷ later) at rest bytes → SpellsPacket h p x packet → rest ≡ packet ++ more → BeginsCodestream h later (at + length packet) more bytes
begun_further h p later at rest bytes x packet more b s e =
    let P : List Place → Type 0 = λ l. IsPacketOrder h l in
    record {
      head = b.head;
      before = b.before ++ p ∷ [];
      content = b.content ++ x ∷ [];
      packets = b.packets ++ packet;
      is_head = b.is_head;
      order = subst P (sym (append_assoc b.before (p ∷ []) later)) b.order;
      are_packets = packets_push h b.before b.content b.packets p x packet b.are_packets s;
      place = omega (arith, b.place, length-append b.packets packet);
      whole = b.whole ∙ ap (λ (l : List ℕ). b.head ++ l) (ap (λ (l : List ℕ). b.packets ++ l) e ∙ sym (append_assoc b.packets packet more));
    }

-- where EOC is, a codestream ends
ended : (h : Head) (at : ℕ) (rest bytes more : List ℕ) → BeginsCodestream h [] at rest bytes → IsPsotRight h at → rest ≡ 255 ∷ 217 ∷ more → BeginWithCodestream bytes
ended h at rest bytes more b psot e =
    let P : List Place → Type 0 = λ l. IsPacketOrder h l in
    let Q : ℕ → Type 0 = λ n. IsPsotRight h n in
    let codestream = b.head ++ (b.packets ++ 255 ∷ 217 ∷ []) in
    let split : bytes ≡ codestream ++ more =
    b.whole ∙ (ap (λ (l : List ℕ). b.head ++ (b.packets ++ l)) e
    ∙ sym (append_assoc b.head (b.packets ++ 255 ∷ 217 ∷ []) more ∙ ap (λ (l : List ℕ). b.head ++ l) (append_assoc b.packets (255 ∷ 217 ∷ []) more))) in (
      codestream,
      more,
      (h, b.content, record { head = b.head; places = b.before; packets = b.packets; is_head = b.is_head; order = subst P (append-nil b.before) b.order; are_packets = b.are_packets; psot = subst Q b.place psot; whole = refl }),
      split,
    )

-- where EOC should be, with Psot right
at_end_judged : (h : Head) (at : ℕ) (rest bytes : List ℕ) → BeginsCodestream h [] at rest bytes → IsPsotRight h at → AreJudged bytes
at_end_judged h at [] bytes b psot = inr (inr (at, inr (inr (h, [], b, (psot, omega arith)))))
at_end_judged h at (x ∷ []) bytes b psot = inr (inr (at, inr (inr (h, x ∷ [], b, (psot, omega arith)))))
at_end_judged h at (x ∷ y ∷ more) bytes b psot = elim (either ((x == 255) && (y == 217))) [
  | inl t ↦
      let p = and_parts (x == 255) (y == 217) t in
      let e : x ≡ 255 = equal_number x 255 p.0 in
      let f : y ≡ 217 = equal_number y 217 p.1 in
      inl (ended h at (x ∷ y ∷ more) bytes more b psot (rw (e, f) refl))
  | inr t ↦
      let differ : (x ≡ 255) × (y ≡ 217) → ⊥ = λ e. (let first : (x == 255) ≡ true = rw e.0 refl in let second : (y == 217) ≡ true = rw e.1 refl in let c : true ≡ false = rw (first, second) at t in absurd (cc)) in
      inr (inl (at, NoEoc, (h, x ∷ y ∷ more, b, (psot, (x, y, more, refl, differ)))))
]

-- where EOC should be
eoc_judged : (h : Head) (at : ℕ) (rest bytes : List ℕ) → BeginsCodestream h [] at rest bytes → AreJudged bytes
eoc_judged h at rest bytes b = elim (either (is_psot h at)) [
  | inl t ↦ at_end_judged h at rest bytes b (psot_right h at t)
  | inr t ↦ inr (inl (at, Psot, (h, rest, b, λ right. let c : true ≡ false = sym (psot_tested h at right) ∙ t in absurd (cc))))
]

-- where the packets of these precincts should
behind_judged : (h : Head) (later : List Place) (at : ℕ) (rest bytes : List ℕ) → IsBytes rest → BeginsCodestream h later at rest bytes → AreJudged bytes
behind_judged h [] at rest bytes fits b = eoc_judged h at rest bytes b
behind_judged h (p ∷ later) at rest bytes fits b = elim (what_stands h p rest fits) [
  | IsThere x packet more s e ↦
      let P : List ℕ → Type 0 = λ l. IsBytes l in
      behind_judged h later (at + length packet) more bytes (bytes_back packet more (subst P e fits)) (begun_further h p later at rest bytes x packet more b s e)
  | HasMany many ↦ inr (inl (at, TooManyBlocks, (h, p, later, rest, b, many)))
  | IsRefused why few r ↦ inr (inl (at, HeaderRefused why, (h, p, later, rest, b, (few, r))))
  | IsLong long ↦ inr (inl (at, PacketTooLong, (h, p, later, rest, b, long)))
  | IsShort n ↦ inr (inr (at, inr (inl (h, p, later, rest, b, n))))
]

-- a refusal for missing bytes
abbrev is_cut : HeadRefusal → Bool
is_cut HeadCut = true
is_cut why = false

-- is known by its test
cut_is : (why : HeadRefusal) → is_cut why ≡ true → why ≡ HeadCut
cut_is HeadCut e = refl
cut_is why e = absurd (cc)

-- by the answer to the main header
head_judged : (bytes : List ℕ) (r : Result Head Refused) → IsBytes bytes → MatchResult r (λ h. SpellsHead h (take h.length bytes)) (λ t. RefusesHead bytes t.at t.why) → AreJudged bytes
head_judged bytes (Err t) fits r = elim (either (is_cut t.why)) [
  | inl c ↦ let P : HeadRefusal → Type 0 = λ why. RefusesHead bytes t.at why in inr (inr (t.at, inl (subst P (cut_is t.why c) r)))
  | inr c ↦ inr (inl (t.at, HeadRefused t.why, (r, λ e. let d : true ≡ false = sym (ap is_cut e) ∙ c in absurd (cc))))
]
head_judged bytes (Ok h) fits s =
    let limits = header_is_within_limits h (take h.length bytes) (bytes-take h.length bytes fits) s in
    let steps = All-weaker IsStep (λ step. (0 < step.x) × (0 < step.y)) (λ step is. (is.some_x, is.some_y)) h.steps limits.each_step in
    let at = length (take h.length bytes) in
    let b : BeginsCodestream h (packet_order h) (at + 0) (drop h.length bytes) bytes = record {
      head = take h.length bytes;
      before = [];
      content = [];
      packets = [];
      is_head = s;
      order = packet_order_is_computed h steps;
      are_packets = refl;
      place = refl;
      whole = sym (take-append-drop h.length bytes);
    } in
    behind_judged h (packet_order h) (at + 0) (drop h.length bytes) bytes (bytes-drop h.length bytes fits) b

-- one thing holds of all bytes,
pub codestreams_judged : CodestreamsAreJudged
codestreams_judged bytes fits = head_judged bytes (head_of bytes) fits (headers_are_judged bytes fits)

-- what verdicts tell
refuses_parts : (at place : ℕ) (why reason : WalkRefusal) → Refuses at why ≡ Refuses place reason → (at ≡ place) × (why ≡ reason)
refuses_parts at place why reason e = (cc, cc)

-- a codestream is no refusal
whole_refuses : (n at : ℕ) (why : WalkRefusal) → Whole n ≡ Refuses at why → ⊥
whole_refuses n at why e = cc

-- nor missing bytes
whole_wants : (n : ℕ) → Whole n ≡ Wants → ⊥
whole_wants n e = cc

-- and a refusal is no missing bytes
refuses_wants : (at : ℕ) (why : WalkRefusal) → Refuses at why ≡ Wants → ⊥
refuses_wants at why e = cc

-- the verdict on bytes that begin with a codestream
begin_verdict : (bytes : List ℕ) (b : BeginWithCodestream bytes) → HasVerdict bytes (Whole (length b.0))
begin_verdict bytes (codestream, more, (h, content, s), e) =
    let P : List ℕ → Type 0 = λ l. HasVerdict l (Whole (length codestream)) in
    subst P (sym e) (whole_verdict h content codestream more s)

-- and no two
pub codestream_verdict : CodestreamsHaveOneVerdict
codestream_verdict bytes = record {
  one_refusal = λ at place why reason a b. refuses_parts at place why reason (verdict_is_one bytes (Refuses at why) (Refuses place reason) (refused_verdict bytes at why a) (refused_verdict bytes place reason b));
  not_refused = λ a at why b. whole_refuses (length a.0) at why (verdict_is_one bytes (Whole (length a.0)) (Refuses at why) (begin_verdict bytes a) (refused_verdict bytes at why b));
  not_unfinished = λ a b. whole_wants (length a.0) (verdict_is_one bytes (Whole (length a.0)) Wants (begin_verdict bytes a) (unfinished_verdict bytes b));
  not_both = λ at why a b. refuses_wants at why (verdict_is_one bytes (Refuses at why) Wants (refused_verdict bytes at why a) (unfinished_verdict bytes b));
}

-- so codestreams are as long as their verdict says
whole_parts : (m n : ℕ) → Whole m ≡ Whole n → m ≡ n
whole_parts m n e = cc

-- codestreams
pub one_codestream : CodestreamsAreReadOneWay
one_codestream h g content others codestream other more rest s t e =
    let P : List ℕ → Type 0 = λ l. HasVerdict l (Whole (length other)) in
    let size = whole_parts (length codestream) (length other) (verdict_is_one (codestream ++ more) (Whole (length codestream)) (Whole (length other)) (whole_verdict h content codestream more s) (subst P (sym e) (whole_verdict g others other rest t))) in
    let same = (same_front codestream other more rest size e).0 in
    let tail = s.packets ++ 255 ∷ 217 ∷ [] in
    let other_tail = t.packets ++ 255 ∷ 217 ∷ [] in
    let split : s.head ++ tail ≡ t.head ++ other_tail = sym s.whole ∙ (same ∙ t.whole) in
    let heads = header_is_one h g s.head t.head tail other_tail s.is_head t.is_head split in
    let behind = (same_front s.head t.head tail other_tail (ap length heads.1) split).1 in
    let O : Head → Type 0 = λ k. IsPacketOrder k t.places in
    let places : t.places ≡ s.places = sym (packet_order_is_one h s.places t.places s.order (subst O (sym heads.0) t.order)) in
    let H : Head → Type 0 = λ k. SpellsPackets k t.places others t.packets in
    let Q : List Place → Type 0 = λ ps. SpellsPackets h ps others t.packets in
    let run = one_run h s.places content others s.packets t.packets (255 ∷ 217 ∷ []) (255 ∷ 217 ∷ []) s.are_packets (subst Q places (subst H (sym heads.0) t.are_packets)) behind in
    (same, heads.0, run.1)
