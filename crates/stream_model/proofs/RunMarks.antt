-- What the decoder's rules make of a mark: a run goes on past it, and without a run one begins there.
use Rattle.std.proofs.Common.{◌≡◌, ◌<◌, ◌≤◌, ◌+◌, ◌-◌, ◌==◌, ◌&&◌, ℕ, zero, suc, Bool, true, false, List, [], ◌∷◌, ◌++◌, length, take, drop, nat_le, get_or, Option, Some, None, subst, refl, sym, ◌∙◌, ap, inl, inr, arith, append_assoc, if◌then◌else◌}
use Rattle.std.proofs.lemmas.Bool.{le-leb, and_parts}
use Rattle.std.proofs.lemmas.Bool.Decides.{eqb_tells}
use Rattle.std.proofs.lemmas.List.{append-nil, length-append, get_or_append_left}
use Rattle.std.proofs.Math.Seq.{get_or-append_seam, take-append_seam}
use Rattle.codestream_model.specs.Values.{Head, Place}
use Rattle.codestream_model.specs.PacketOrder.{key, IsBefore, IsPacketOrder}
use Rattle.codestream_model.specs.Packet.{Content, SpellsPacket}
use Rattle.codestream_model.specs.Codestream.{joined}
use Rattle.codestream_model.proofs.TreeLemmas.{either, same_number, equal_number}
use Rattle.codestream_model.proofs.Orders.{before_one_way}
use Rattle.codestream_model.proofs.OneWayLemmas.{fronts, same_front}
use Rattle.stream_model.specs.Stream.{ArePackets}
use Rattle.stream_model.specs.Decoder.{Current, Mark, Decoder, found_packet, Releases, Changes, run_of, from_place, release, rule_before_mark, begin_instead, is_place, rule_at_mark, rule, Settled, settle}
use Rattle.stream_model.specs.RunLaws.{release_of}
use Rattle.stream_model.proofs.Found.{packet_has_bytes}
use Rattle.stream_model.proofs.PacketsFound.{packet_found, segments_taken}
use Rattle.stream_model.proofs.RunRules.{state, release_from, Went, went_more, settle_releases, settle_changes, goes_on}

-- a precinct is itself
same_place : (p : Place) → is_place p p ≡ true
same_place p = let a = same_number p.c in let b = same_number p.r in let c = same_number p.k in rw (a, b, c) refl

-- the mark is before its packet
abbrev pub mark_at : ℕ → Place → Option Mark
mark_at at p = Some (record { at = at; place = p })

-- where the run has come to the mark it goes on
at_mark : (d : Decoder) (c : Current) (p : Place) (ps : List Place) (got : List ℕ) → rule (state d c (Some (p ∷ ps)) got (mark_at 0 p)) (Some c) ≡ Changes (state d c (Some (p ∷ ps)) got None)
at_mark d c p ps got = let e = same_place p in rw e refl

-- a whole packet before the mark is given
before_mark : (d : Decoder) (c : Current) (q : Place) (ps : List Place) (x : Content) (b got : List ℕ) (at : ℕ) (p : Place) → SpellsPacket c.head q x b → length b ≤ at
    → rule (state d c (Some (q ∷ ps)) (b ++ got) (mark_at at p)) (Some c) ≡ Releases (release_of c d.heads q x b) (state d c (run_of ps) got (mark_at (at - length b) p))
before_mark d c q ps x b got at p s low =
    let t = segments_taken c.head q x b got s in
    let was = state d c (Some (q ∷ ps)) (b ++ got) (mark_at at p) in
    let some : (at == 0) ≡ false = elim (eqb_tells at 0) [ inl e ↦ absurd (omega (arith, e.1, low, packet_has_bytes c.head q x b s)) | inr e ↦ e.0 ] in
    let fits : nat_le (length b) at ≡ true = le-leb (length b) at low in
    ap (λ (z : Bool). if z then rule_at_mark was c (record { at = at; place = p }) q else rule_before_mark was c (record { at = at; place = p }) q ps (found_packet c.head q (b ++ got))) some
    ∙ (ap (rule_before_mark was c (record { at = at; place = p }) q ps) (packet_found c.head q x b got s)
    ∙ (ap (λ (z : Bool). if z then release was c q ps x.blocks (length s.header) (length b) else Changes (begin_instead was c (record { at = at; place = p }))) fits
    ∙ (ap (λ (l : List ℕ). Releases (release_from c d.heads q x l (take (length b) (b ++ got))) (state d c (run_of ps) (drop (length b) (b ++ got)) (mark_at (at - length b) p))) t.0
    ∙ (ap (λ (l : List ℕ). Releases (release_from c d.heads q x x.bytes l) (state d c (run_of ps) (drop (length b) (b ++ got)) (mark_at (at - length b) p))) (take-append_seam b got)
    ∙ ap (λ (l : List ℕ). Releases (release_of c d.heads q x b) (state d c (run_of ps) l (mark_at (at - length b) p))) t.1))))

-- a front that is as long
no_more : (b got more : List ℕ) → b ≡ got ++ more → length b ≤ length got → got ++ [] ≡ b
no_more b got [] g there = sym g
no_more b got (x ∷ more) g there = absurd (omega (arith, there, ap length g, length-append got (x ∷ more)))

-- what the rules give where a mark is before a packet whose first byte is there
pub goes_past : (n : ℕ) (d : Decoder) (c : Current) (ahead : List Place) (p : Place) (after : List Place) (xs : List Content) (bs : List (List ℕ)) (got todo tail : List ℕ) (at : ℕ)
    → ArePackets c.head (ahead ++ p ∷ after) xs bs → joined bs ++ tail ≡ got ++ todo → at ≡ length (joined (take (length ahead) bs)) → at ≤ length got → length got + 3 ≤ n
    → Went d c (ahead ++ p ∷ after) xs bs got (settle n (state d c (run_of (ahead ++ p ∷ after)) got (mark_at at p)))
goes_past zero d c ahead p after xs bs got todo tail at a e m within enough = absurd (omega arith)
goes_past (suc n) d c [] p after xs bs got todo tail at a e m within enough =
    let z : at ≡ 0 = m in
    let W : Settled → Type 0 = λ s. Went d c (p ∷ after) xs bs got s in
    let w = goes_on n d c (p ∷ after) xs bs got todo tail a e (omega arith) in
    let A : ℕ → Type 0 = λ k. Went d c (p ∷ after) xs bs got (settle (suc n) (state d c (Some (p ∷ after)) got (mark_at k p))) in
    subst A (sym z) (subst W (sym (settle_changes n (state d c (Some (p ∷ after)) got (mark_at 0 p)) (state d c (Some (p ∷ after)) got None) (at_mark d c p after got))) w)
goes_past (suc n) d c (q ∷ ahead) p after (x ∷ xs) (b ∷ bs) got todo tail at a e m within enough =
    let sum : at ≡ length b + length (joined (take (length ahead) bs)) = m ∙ length-append b (joined (take (length ahead) bs)) in
    let some = packet_has_bytes c.head q x b a.0 in
    let f = fronts b got (joined bs ++ tail) todo (sym (append_assoc b (joined bs) tail) ∙ e) in
    let releases = λ (more : List ℕ) (g : got ≡ b ++ more).
    (let split : b ++ (joined bs ++ tail) ≡ b ++ (more ++ todo) = sym (append_assoc b (joined bs) tail) ∙ (e ∙ (ap (λ (l : List ℕ). l ++ todo) g ∙ append_assoc b more todo)) in
    let behind = (same_front b b (joined bs ++ tail) (more ++ todo) refl split).1 in
    let next = settle n (state d c (run_of (ahead ++ p ∷ after)) more (mark_at (at - length b) p)) in
    let w = went_more d c q (ahead ++ p ∷ after) x xs b bs more next a.0
    (goes_past n d c ahead p after xs bs more todo tail (at - length b) a.1 behind (omega (arith, sum)) (omega (arith, sum, within, ap length g, length-append b more)) (omega (arith, enough, some, ap length g, length-append b more))) in
    let W : Settled → Type 0 = λ s. Went d c (q ∷ (ahead ++ p ∷ after)) (x ∷ xs) (b ∷ bs) (b ++ more) s in
    let r = subst W (sym (settle_releases n (state d c (Some (q ∷ (ahead ++ p ∷ after))) (b ++ more) (mark_at at p)) (state d c (run_of (ahead ++ p ∷ after)) more (mark_at (at - length b) p)) (release_of c d.heads q x b)
    (before_mark d c q (ahead ++ p ∷ after) x b more at p a.0 (omega (arith, sum))))) w in
    let V : List ℕ → Type 0 = λ l. Went d c (q ∷ (ahead ++ p ∷ after)) (x ∷ xs) (b ∷ bs) l (settle (suc n) (state d c (Some (q ∷ (ahead ++ p ∷ after))) l (mark_at at p))) in
    subst V (sym g) r) in
    elim f.1 [
      | inl g ↦ releases f.0 g
      | inr g ↦ releases [] (sym (append-nil got) ∙ (no_more b got f.0 g (omega (arith, sum, within)) ∙ sym (append-nil b)))
    ]
goes_past (suc n) d c (q ∷ ahead) p after [] bs got todo tail at a e m within enough = absurd a
goes_past (suc n) d c (q ∷ ahead) p after (x ∷ xs) [] got todo tail at a e m within enough = absurd a

-- the run that begins at a precinct
different : (p q : Place) → (p ≡ q → ⊥) → ((p.c == q.c) && (p.r == q.r) && (p.k == q.k)) ≡ false
different p q unlike = elim (either ((p.c == q.c) && (p.r == q.r) && (p.k == q.k))) [
  | inr t ↦ t
  | inl t ↦
      let a = and_parts ((p.c == q.c) && (p.r == q.r)) (p.k == q.k) t in
      let b = and_parts (p.c == q.c) (p.r == q.r) a.0 in
      let e : p.c ≡ q.c = equal_number p.c q.c b.0 in
      let f : p.r ≡ q.r = equal_number p.r q.r b.1 in
      let g : p.k ≡ q.k = equal_number p.k q.k a.1 in
      let same : record { c = p.c; r = p.r; k = p.k } ≡ record { c = q.c; r = q.r; k = q.k } = rw (e, f, g) refl in
      absurd (unlike same)
]

-- has the precincts of the order from there on
pub run_from : (p : Place) (before after : List Place) → ((i : ℕ) → i < length before → p ≡ get_or before i p → ⊥) → from_place p (before ++ p ∷ after) ≡ p ∷ after
unfolding from_place
run_from p [] after apart = let e = same_place p in rw e refl
run_from p (q ∷ before) after apart =
    let e = different p q (λ s. apart 0 (omega arith) s) in
    rw e (run_from p before after (λ i h s. apart (suc i) (omega arith) s))

-- no precinct is there twice in the order
pub stands_once : (h : Head) (p : Place) (before after : List Place) → IsPacketOrder h (before ++ p ∷ after) → (i : ℕ) → i < length before → p ≡ get_or before i p → ⊥
stands_once h p before after order i low same =
    let pair = order.ascending i (length before) p low (omega (arith, length-append before (p ∷ after))) in
    let first : get_or (before ++ p ∷ after) i p ≡ p = get_or_append_left before (p ∷ after) p i low ∙ sym same in
    let last : get_or (before ++ p ∷ after) (length before) p ≡ p = get_or-append_seam before p after p in
    let P : Place → Type 0 = λ q. IsBefore (key h q) (key h (get_or (before ++ p ∷ after) (length before) p)) in
    let Q : Place → Type 0 = λ q. IsBefore (key h p) (key h q) in
    let twice = subst Q last (subst P first pair) in
    before_one_way (key h p) (key h p) twice twice
