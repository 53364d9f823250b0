-- The verdict on bytes where a codestream should begin, computed after its main header; each thing that may be said of the bytes
-- has one.
use Rattle.std.proofs.Common.{◌≡◌, ◌≢◌, ◌⊎◌, ◌<◌, ◌+◌, ◌-◌, ◌==◌, ◌&&◌, ◌||◌, ℕ, Bool, true, false, List, [], ◌∷◌, ◌++◌, length, drop, subst, refl, sym, ◌∙◌, ap, inl, inr, arith, append_assoc, if◌then◌else◌}
use Rattle.std.proofs.lemmas.Bool.{and_parts}
use Rattle.std.proofs.lemmas.Bool.Decides.{eqb_tells}
use Rattle.std.proofs.lemmas.List.{append-nil, length-append, drop_at}
use Rattle.codestream_model.specs.Values.{Head, Place}
use Rattle.codestream_model.specs.HeadRefusals.{HeadRefusal, Cut as HeadCut}
use Rattle.codestream_model.specs.MainHeader.{SpellsHead}
use Rattle.codestream_model.specs.RefusedHeader.{RefusesHead}
use Rattle.codestream_model.specs.PacketOrder.{IsPacketOrder}
use Rattle.codestream_model.specs.Packet.{Content}
use Rattle.codestream_model.specs.Codestream.{SpellsPackets, SpellsCodestream, IsPsotRight, WalkRefusal, HeadRefused, Cut, TooManyBlocks, HeaderRefused, PacketTooLong, Psot, NoEoc, InputTooLong, TooManyFrames, BeginsCodestream, RefusesCodestream, NeedsCodestreamBytes}
use Rattle.codestream_model.proofs.TreeLemmas.{either, equal_number}
use Rattle.codestream_model.proofs.HeaderJudged.{header_is_one, refusal_is_one, header_is_not_refused}
use Rattle.codestream_model.proofs.Orders.{packet_order_is_one}
use Rattle.codestream_model.proofs.OneWayLemmas.{same_front}
use Rattle.codestream_model.proofs.PacketVerdicts.{Fits, Faulty, Short, packet_step, step_fits, step_many, step_refused, step_long, step_short}

-- a codestream of n bytes is there, or it is refused at a place, or more bytes are needed
pub data Verdict : Type 0 where
  Whole : ℕ → Verdict
  Refuses : ℕ → WalkRefusal → Verdict
  Wants : Verdict

-- whether Psot is right
abbrev pub is_psot : Head → ℕ → Bool
is_psot h at = (h.psot == 0) || (h.psot == at - h.sot)

-- where EOC should be
abbrev pub at_eoc : Bool → ℕ → List ℕ → Verdict
at_eoc false at rest = Refuses at Psot
at_eoc true at [] = Wants
at_eoc true at (a ∷ []) = Wants
at_eoc true at (a ∷ b ∷ more) = if (a == 255) && (b == 217) then Whole (at + 2) else Refuses at NoEoc

-- where the packets of these precincts should
unfoldable pub behind : Head → List Place → ℕ → List ℕ → Verdict
behind h [] at rest = at_eoc (is_psot h at) at rest
behind h (p ∷ later) at rest = elim (packet_step h p rest) [
  | Fits n ↦ behind h later (at + n) (drop n rest)
  | Faulty why ↦ Refuses at why
  | Short ↦ Wants
]

-- after a packet
behind_fits : (h : Head) (p : Place) (later : List Place) (at n : ℕ) (rest : List ℕ) → packet_step h p rest ≡ Fits n → behind h (p ∷ later) at rest ≡ behind h later (at + n) (drop n rest)
unfolding behind
behind_fits h p later at n rest e = rw (e, behind) refl

-- where one is refused
behind_faulty : (h : Head) (p : Place) (later : List Place) (at : ℕ) (rest : List ℕ) (why : WalkRefusal) → packet_step h p rest ≡ Faulty why → behind h (p ∷ later) at rest ≡ Refuses at why
unfolding behind
behind_faulty h p later at rest why e = rw (e, behind) refl

-- where the bytes end in one
behind_short : (h : Head) (p : Place) (later : List Place) (at : ℕ) (rest : List ℕ) → packet_step h p rest ≡ Short → behind h (p ∷ later) at rest ≡ Wants
unfolding behind
behind_short h p later at rest e = rw (e, behind) refl

-- where EOC should be
behind_all : (h : Head) (at : ℕ) (rest : List ℕ) (b : Bool) → is_psot h at ≡ b → behind h [] at rest ≡ at_eoc b at rest
unfolding behind
behind_all h at rest b e = ap (λ (c : Bool). at_eoc c at rest) e

-- packets, one after another
behind_packets : (h : Head) (places later : List Place) (content : List Content) (packets rest : List ℕ) (at : ℕ) → SpellsPackets h places content packets
    → behind h (places ++ later) at (packets ++ rest) ≡ behind h later (at + length packets) rest
behind_packets h [] later [] packets rest at s =
    let e : at ≡ at + length packets = omega (arith, ap length s) in
    ap (λ (l : List ℕ). behind h later at (l ++ rest)) s ∙ ap (λ (n : ℕ). behind h later n rest) e
behind_packets h [] later (x ∷ content) packets rest at s = absurd s
behind_packets h (p ∷ places) later [] packets rest at s = absurd s
behind_packets h (p ∷ places) later (x ∷ content) packets rest at (front, back, first, more, e) =
    let split : packets ++ rest ≡ front ++ (back ++ rest) = ap (λ (l : List ℕ). l ++ rest) e ∙ append_assoc front back rest in
    let size : (at + length front) + length back ≡ at + length packets = omega (arith, ap length e, length-append front back) in
    ap (behind h (p ∷ (places ++ later)) at) split
    ∙ (behind_fits h p (places ++ later) at (length front) (front ++ (back ++ rest)) (step_fits h p x front (back ++ rest) first)
    ∙ (ap (behind h (places ++ later) (at + length front)) (drop_at front (back ++ rest) (length front) refl)
    ∙ (behind_packets h places later content back rest (at + length front) more
    ∙ ap (λ (n : ℕ). behind h later n rest) size)))

-- after a main header this is the verdict
pub record IsVerdict (bytes : List ℕ) (v : Verdict) : Type 0 where
  pub h : Head
  pub head : List ℕ
  pub places : List Place
  pub tail : List ℕ
  pub is_head : SpellsHead h head
  pub order : IsPacketOrder h places
  pub whole : bytes ≡ head ++ tail
  pub verdict : behind h places (length head) tail ≡ v

-- where there is no main header, by its refusal
abbrev pub IsHeadVerdict : List ℕ → Verdict → Type 0
IsHeadVerdict bytes v =
    (at : ℕ) × (why : HeadRefusal) × RefusesHead bytes at why
    × (((why ≡ HeadCut) × (v ≡ Wants)) ⊎ ((why ≢ HeadCut) × (v ≡ Refuses at (HeadRefused why))))

-- the verdict on bytes
abbrev pub HasVerdict : List ℕ → Verdict → Type 0
HasVerdict bytes v = IsVerdict bytes v ⊎ IsHeadVerdict bytes v

-- equal parts have one verdict
same_behind : (h g : Head) (ps qs : List Place) (m n : ℕ) (xs ys : List ℕ) → h ≡ g → ps ≡ qs → m ≡ n → xs ≡ ys → behind h ps m xs ≡ behind g qs n ys
same_behind h g ps qs m n xs ys a b c d = cc

-- a header and a refusal of it
never_both : (bytes : List ℕ) (v w : Verdict) → IsVerdict bytes v → IsHeadVerdict bytes w → ⊥
never_both bytes v w a (at, why, r, e) =
    let P : List ℕ → Type 0 = λ l. RefusesHead l at why in
    header_is_not_refused a.h a.head a.tail at why a.is_head (subst P a.whole r)

-- two refusals of a header
same_head_verdict : (at place : ℕ) (why reason : HeadRefusal) (v w : Verdict) → at ≡ place → why ≡ reason
    → ((why ≡ HeadCut) × (v ≡ Wants)) ⊎ ((why ≢ HeadCut) × (v ≡ Refuses at (HeadRefused why)))
    → ((reason ≡ HeadCut) × (w ≡ Wants)) ⊎ ((reason ≢ HeadCut) × (w ≡ Refuses place (HeadRefused reason))) → v ≡ w
same_head_verdict at place why reason v w e f (inl a) (inl b) = a.1 ∙ sym b.1
same_head_verdict at place why reason v w e f (inl a) (inr b) = absurd (b.0 (sym f ∙ a.0))
same_head_verdict at place why reason v w e f (inr a) (inl b) = absurd (a.0 (f ∙ b.0))
same_head_verdict at place why reason v w e f (inr a) (inr b) = a.1 ∙ (rw (e, f) refl ∙ sym b.1)

-- bytes have one verdict
pub verdict_is_one : (bytes : List ℕ) (v w : Verdict) → HasVerdict bytes v → HasVerdict bytes w → v ≡ w
verdict_is_one bytes v w (inl a) (inl b) =
    let same : a.head ++ a.tail ≡ b.head ++ b.tail = sym a.whole ∙ b.whole in
    let one = header_is_one a.h b.h a.head b.head a.tail b.tail a.is_head b.is_head same in
    let tails = (same_front a.head b.head a.tail b.tail (ap length one.1) same).1 in
    let P : Head → Type 0 = λ g. IsPacketOrder g b.places in
    let places = packet_order_is_one a.h a.places b.places a.order (subst P (sym one.0) b.order) in
    sym a.verdict ∙ (same_behind a.h b.h a.places b.places (length a.head) (length b.head) a.tail b.tail one.0 places (ap length one.1) tails ∙ b.verdict)
verdict_is_one bytes v w (inl a) (inr b) = absurd (never_both bytes v w a b)
verdict_is_one bytes v w (inr a) (inl b) = absurd (never_both bytes w v b a)
verdict_is_one bytes v w (inr a) (inr b) =
    let one = refusal_is_one bytes a.0 b.0 a.1 b.1 a.2 b.2 in
    same_head_verdict a.0 b.0 a.1 b.1 v w one.0 one.1 a.3 b.3

-- bytes that begin with packets have the verdict of what follows these
pub begun_verdict : (h : Head) (later : List Place) (at : ℕ) (rest bytes : List ℕ) (v : Verdict) → BeginsCodestream h later at rest bytes → behind h later at rest ≡ v → HasVerdict bytes v
begun_verdict h later at rest bytes v b e = inl (record {
  h = h;
  head = b.head;
  places = b.before ++ later;
  tail = b.packets ++ rest;
  is_head = b.is_head;
  order = b.order;
  whole = b.whole;
  verdict = behind_packets h b.before later b.content b.packets rest (length b.head) b.are_packets ∙ (ap (λ (n : ℕ). behind h later n rest) (sym b.place) ∙ e);
})

-- Psot by its test
pub psot_tested : (h : Head) (at : ℕ) → IsPsotRight h at → is_psot h at ≡ true
psot_tested h at (inl e) = elim (eqb_tells h.psot 0) [ inl t ↦ rw t.0 refl | inr t ↦ absurd (t.1 e) ]
psot_tested h at (inr e) = elim (either (h.psot == 0)) [
  | inl t ↦ rw t refl
  | inr t ↦ elim (eqb_tells h.psot (at - h.sot)) [ inl u ↦ rw (t, u.0) refl | inr u ↦ absurd (u.1 e) ]
]

-- and the test by Psot
pub psot_right : (h : Head) (at : ℕ) → is_psot h at ≡ true → IsPsotRight h at
psot_right h at e = elim (eqb_tells h.psot 0) [
  | inl t ↦ inl t.1
  | inr t ↦ elim (eqb_tells h.psot (at - h.sot)) [
    | inl u ↦ inr u.1
    | inr u ↦ let c : false ≡ true = rw (t.0, u.0) at e in absurd (cc)
  ]
]

-- a wrong Psot fails it
pub psot_failed : (h : Head) (at : ℕ) → (IsPsotRight h at → ⊥) → is_psot h at ≡ false
psot_failed h at wrong = elim (either (is_psot h at)) [ inl t ↦ absurd (wrong (psot_right h at t)) | inr t ↦ t ]

-- two bytes that aren't EOC
pub other_eoc : (at a b : ℕ) (more : List ℕ) → ((a ≡ 255) × (b ≡ 217) → ⊥) → at_eoc true at (a ∷ b ∷ more) ≡ Refuses at NoEoc
other_eoc at a b more differ = elim (either ((a == 255) && (b == 217))) [
  | inl t ↦ let p = and_parts (a == 255) (b == 217) t in absurd (differ (equal_number a 255 p.0, equal_number b 217 p.1))
  | inr t ↦ ap (λ (c : Bool). if c then Whole (at + 2) else Refuses at NoEoc) t
]

-- fewer than two bytes
pub short_eoc : (at : ℕ) (rest : List ℕ) → length rest < 2 → at_eoc true at rest ≡ Wants
short_eoc at [] less = refl
short_eoc at (a ∷ []) less = refl
short_eoc at (a ∷ b ∷ more) less = absurd (omega arith)

-- a codestream's verdict
pub whole_verdict : (h : Head) (content : List Content) (codestream more : List ℕ) → SpellsCodestream h content codestream → HasVerdict (codestream ++ more) (Whole (length codestream))
whole_verdict h content codestream more s =
    let at = length s.head + length s.packets in
    let tail = 255 ∷ 217 ∷ more in
    let whole : codestream ++ more ≡ s.head ++ (s.packets ++ tail) =
    ap (λ (l : List ℕ). l ++ more) s.whole ∙ (append_assoc s.head (s.packets ++ 255 ∷ 217 ∷ []) more ∙ ap (λ (l : List ℕ). s.head ++ l) (append_assoc s.packets (255 ∷ 217 ∷ []) more)) in
    let P : List Place → Type 0 = λ l. IsPacketOrder h l in
    let b : BeginsCodestream h [] at tail (codestream ++ more) = record {
      head = s.head;
      before = s.places;
      content = content;
      packets = s.packets;
      is_head = s.is_head;
      order = subst P (sym (append-nil s.places)) s.order;
      are_packets = s.are_packets;
      place = refl;
      whole = whole;
    } in
    let size : at + 2 ≡ length codestream = omega (arith, ap length s.whole, length-append s.head (s.packets ++ 255 ∷ 217 ∷ []), length-append s.packets (255 ∷ 217 ∷ [])) in
    begun_verdict h [] at tail (codestream ++ more) (Whole (length codestream)) b (behind_all h at tail true (psot_tested h at s.psot) ∙ ap Whole size)

-- a refusal's verdict
pub refused_verdict : (bytes : List ℕ) (at : ℕ) (why : WalkRefusal) → RefusesCodestream bytes at why → HasVerdict bytes (Refuses at why)
refused_verdict bytes at (HeadRefused why) (r, other) = inr (at, why, r, inr (other, refl))
refused_verdict bytes at TooManyBlocks (h, p, later, rest, b, many) =
    begun_verdict h (p ∷ later) at rest bytes (Refuses at TooManyBlocks) b (behind_faulty h p later at rest TooManyBlocks (step_many h p rest many))
refused_verdict bytes at (HeaderRefused why) (h, p, later, rest, b, r) =
    begun_verdict h (p ∷ later) at rest bytes (Refuses at (HeaderRefused why)) b (behind_faulty h p later at rest (HeaderRefused why) (step_refused h p rest why r.0 r.1))
refused_verdict bytes at PacketTooLong (h, p, later, rest, b, long) =
    begun_verdict h (p ∷ later) at rest bytes (Refuses at PacketTooLong) b (behind_faulty h p later at rest PacketTooLong (step_long h p rest long))
refused_verdict bytes at Psot (h, rest, b, wrong) = begun_verdict h [] at rest bytes (Refuses at Psot) b (behind_all h at rest false (psot_failed h at wrong))
refused_verdict bytes at NoEoc (h, rest, b, (psot, (a, c, more, e, differ))) =
    begun_verdict h [] at rest bytes (Refuses at NoEoc) b (behind_all h at rest true (psot_tested h at psot) ∙ (ap (at_eoc true at) e ∙ other_eoc at a c more differ))
refused_verdict bytes at Cut r = absurd r
refused_verdict bytes at InputTooLong r = absurd r
refused_verdict bytes at TooManyFrames r = absurd r

-- that of bytes that end inside a codestream
pub unfinished_verdict : (bytes : List ℕ) → NeedsCodestreamBytes bytes → HasVerdict bytes Wants
unfinished_verdict bytes (at, inl r) = inr (at, HeadCut, r, inl (refl, refl))
unfinished_verdict bytes (at, inr (inl (h, p, later, rest, b, n))) =
    begun_verdict h (p ∷ later) at rest bytes Wants b (behind_short h p later at rest (step_short h p rest n))
unfinished_verdict bytes (at, inr (inr (h, rest, b, (psot, less)))) =
    begun_verdict h [] at rest bytes Wants b (behind_all h at rest true (psot_tested h at psot) ∙ short_eoc at rest less)
