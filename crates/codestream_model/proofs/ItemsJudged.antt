-- Of all bytes where a packet or EOC should begin one thing holds, and a refusal stays.
use Rattle.std.proofs.Common.{◌≡◌, ◌<◌, ◌≤◌, ◌⊎◌, ◌+◌, ◌==◌, ◌&&◌, ℕ, Bool, true, false, List, [], ◌∷◌, ◌++◌, length, subst, refl, sym, ◌∙◌, ap, inl, inr, arith, append_assoc}
use Rattle.std.proofs.lemmas.Bool.{and_parts}
use Rattle.std.proofs.lemmas.List.{length-append}
use Rattle.codestream_model.specs.Values.{Head, Place}
use Rattle.codestream_model.specs.Precincts.{grids}
use Rattle.codestream_model.specs.MarkedHeader.{IsPartOfEph}
use Rattle.codestream_model.specs.Codestream.{IsPsotRight, WalkRefusal, HeadRefused, Cut, TooManyBlocks, HeaderRefused, PacketTooLong, Psot, NoEoc, InputTooLong, TooManyFrames, RefusesPacket, RefusesEoc, NeedsEocBytes}
use Rattle.codestream_model.specs.ItemLaws.{BeginsWithPacket, BeginsWithEoc, PacketsAreJudged, PacketsHaveOneVerdict, PacketRefusalsStay, UnfinishedHeadersAreShort, EocIsJudged, EocHasOneVerdict, EocRefusalsStay}
use Rattle.codestream_model.proofs.TreeLemmas.{either, equal_number}
use Rattle.codestream_model.proofs.Marked.{marked_refusal_stays}
use Rattle.codestream_model.proofs.PacketVerdicts.{Fits, Faulty, Short, packet_step, step_fits, step_many, step_refused, step_long, step_short, IsThere, HasMany, IsRefused, IsLong, IsShort, what_stands}
use Rattle.codestream_model.proofs.CodestreamVerdicts.{Verdict, Whole, Refuses, Wants, is_psot, at_eoc, psot_right, psot_tested, psot_failed, other_eoc, short_eoc}

-- one thing holds of all bytes where a packet should begin
pub packets_judged : PacketsAreJudged
packets_judged h p bytes fits = elim (what_stands h p bytes fits) [
  | IsThere x packet more s e ↦ inl (x, packet, more, s, e)
  | HasMany many ↦ inr (inl (TooManyBlocks, many))
  | IsRefused why few r ↦ inr (inl (HeaderRefused why, (few, r)))
  | IsLong long ↦ inr (inl (PacketTooLong, long))
  | IsShort n ↦ inr (inr n)
]

-- what is refused is computed so
refused_step : (h : Head) (p : Place) (bytes : List ℕ) (why : WalkRefusal) → RefusesPacket h p bytes why → packet_step h p bytes ≡ Faulty why
refused_step h p bytes TooManyBlocks r = step_many h p bytes r
refused_step h p bytes (HeaderRefused why) r = step_refused h p bytes why r.0 r.1
refused_step h p bytes PacketTooLong r = step_long h p bytes r
refused_step h p bytes (HeadRefused why) r = absurd r
refused_step h p bytes Cut r = absurd r
refused_step h p bytes Psot r = absurd r
refused_step h p bytes NoEoc r = absurd r
refused_step h p bytes InputTooLong r = absurd r
refused_step h p bytes TooManyFrames r = absurd r

-- and so is a packet
there_step : (h : Head) (p : Place) (bytes : List ℕ) → (b : BeginsWithPacket h p bytes) → packet_step h p bytes ≡ Fits (length b.1)
there_step h p bytes (x, packet, more, s, e) = ap (packet_step h p) e ∙ step_fits h p x packet more s

-- what steps tell
faulty_parts : (why other : WalkRefusal) → Faulty why ≡ Faulty other → why ≡ other
faulty_parts why other e = cc

fits_faulty : (n : ℕ) (why : WalkRefusal) → Fits n ≡ Faulty why → ⊥
fits_faulty n why e = cc

fits_short : (n : ℕ) → Fits n ≡ Short → ⊥
fits_short n e = cc

faulty_short : (why : WalkRefusal) → Faulty why ≡ Short → ⊥
faulty_short why e = cc

-- never two
pub packet_verdict : PacketsHaveOneVerdict
packet_verdict h p bytes = record {
  one_reason = λ why other a b. faulty_parts why other (sym (refused_step h p bytes why a) ∙ refused_step h p bytes other b);
  not_refused = λ a why b. fits_faulty (length a.1) why (sym (there_step h p bytes a) ∙ refused_step h p bytes why b);
  not_unfinished = λ a b. fits_short (length a.1) (sym (there_step h p bytes a) ∙ step_short h p bytes b);
  not_both = λ why a b. faulty_short why (sym (refused_step h p bytes why a) ∙ step_short h p bytes b);
}

-- a refusal of a packet stays
pub packet_refusal_stays : PacketRefusalsStay
packet_refusal_stays h p bytes more TooManyBlocks r = r
packet_refusal_stays h p bytes more (HeaderRefused why) r = (r.0, marked_refusal_stays (grids h p) h.eph bytes more why r.1)
packet_refusal_stays h p bytes more PacketTooLong r =
    record { blocks = r.blocks; header = r.header; rest = r.rest ++ more; begins = record { few_blocks = r.begins.few_blocks; is_header = r.begins.is_header; whole = ap (λ (l : List ℕ). l ++ more) r.begins.whole ∙ append_assoc r.header r.rest more }; long = r.long }
packet_refusal_stays h p bytes more (HeadRefused why) r = absurd r
packet_refusal_stays h p bytes more Cut r = absurd r
packet_refusal_stays h p bytes more Psot r = absurd r
packet_refusal_stays h p bytes more NoEoc r = absurd r
packet_refusal_stays h p bytes more InputTooLong r = absurd r
packet_refusal_stays h p bytes more TooManyFrames r = absurd r

-- a part of EPH has one byte at most
part_size : (rest : List ℕ) → IsPartOfEph rest → length rest ≤ 1
part_size rest (inl e) = omega (arith, ap length e)
part_size rest (inr e) = omega (arith, ap length e)

-- bytes that end inside a packet header or its EPH are few
pub unfinished_short : UnfinishedHeadersAreShort
unfinished_short h p bytes (inl n) = omega (arith, n.short)
unfinished_short h p bytes (inr l) = omega (arith, l.begins.is_header.short, ap length l.begins.whole, length-append l.begins.header l.rest, part_size l.rest l.part)

-- with Psot right
end_judged : (h : Head) (at : ℕ) (bytes : List ℕ) → IsPsotRight h at → BeginsWithEoc h at bytes ⊎ (((why : WalkRefusal) × RefusesEoc h at bytes why) ⊎ NeedsEocBytes h at bytes)
end_judged h at [] psot = inr (inr (psot, omega arith))
end_judged h at (x ∷ []) psot = inr (inr (psot, omega arith))
end_judged h at (x ∷ y ∷ more) psot = elim (either ((x == 255) && (y == 217))) [
  | inl t ↦
      let p = and_parts (x == 255) (y == 217) t in
      let e : x ≡ 255 = equal_number x 255 p.0 in
      let f : y ≡ 217 = equal_number y 217 p.1 in
      inl (psot, (more, rw (e, f) refl))
  | inr t ↦
      let differ : (x ≡ 255) × (y ≡ 217) → ⊥ = λ e. (let first : (x == 255) ≡ true = rw e.0 refl in let second : (y == 217) ≡ true = rw e.1 refl in let c : true ≡ false = rw (first, second) at t in absurd (cc)) in
      inr (inl (NoEoc, (psot, (x, y, more, refl, differ))))
]

-- One of the three holds of any bytes where EOC should be.
pub eoc_judged : EocIsJudged
eoc_judged h at bytes = elim (either (is_psot h at)) [
  | inl t ↦ end_judged h at bytes (psot_right h at t)
  | inr t ↦ inr (inl (Psot, λ right. let c : true ≡ false = sym (psot_tested h at right) ∙ t in absurd (cc)))
]

-- The verdict on bytes where EOC should be.
abbrev eoc_step : Head → ℕ → List ℕ → Verdict
eoc_step h at bytes = at_eoc (is_psot h at) at bytes

-- by the test of Psot
by_psot : (h : Head) (at : ℕ) (bytes : List ℕ) (b : Bool) → is_psot h at ≡ b → eoc_step h at bytes ≡ at_eoc b at bytes
by_psot h at bytes b e = ap (λ (c : Bool). at_eoc c at bytes) e

-- what is refused is computed so,
refused_eoc : (h : Head) (at : ℕ) (bytes : List ℕ) (why : WalkRefusal) → RefusesEoc h at bytes why → eoc_step h at bytes ≡ Refuses at why
refused_eoc h at bytes Psot wrong = by_psot h at bytes false (psot_failed h at wrong)
refused_eoc h at bytes NoEoc (psot, (a, c, more, e, differ)) = by_psot h at bytes true (psot_tested h at psot) ∙ (ap (at_eoc true at) e ∙ other_eoc at a c more differ)
refused_eoc h at bytes TooManyBlocks r = absurd r
refused_eoc h at bytes (HeaderRefused why) r = absurd r
refused_eoc h at bytes PacketTooLong r = absurd r
refused_eoc h at bytes (HeadRefused why) r = absurd r
refused_eoc h at bytes Cut r = absurd r
refused_eoc h at bytes InputTooLong r = absurd r
refused_eoc h at bytes TooManyFrames r = absurd r

-- and so are EOC
there_eoc : (h : Head) (at : ℕ) (bytes : List ℕ) → BeginsWithEoc h at bytes → eoc_step h at bytes ≡ Whole (at + 2)
there_eoc h at bytes (psot, (more, e)) = by_psot h at bytes true (psot_tested h at psot) ∙ ap (at_eoc true at) e

-- And that they end too early.
needs_eoc : (h : Head) (at : ℕ) (bytes : List ℕ) → NeedsEocBytes h at bytes → eoc_step h at bytes ≡ Wants
needs_eoc h at bytes (psot, less) = by_psot h at bytes true (psot_tested h at psot) ∙ short_eoc at bytes less

-- what verdicts tell
refuses_parts : (at : ℕ) (why other : WalkRefusal) → Refuses at why ≡ Refuses at other → why ≡ other
refuses_parts at why other e = cc

whole_refuses : (n at : ℕ) (why : WalkRefusal) → Whole n ≡ Refuses at why → ⊥
whole_refuses n at why e = cc

whole_wants : (n : ℕ) → Whole n ≡ Wants → ⊥
whole_wants n e = cc

refuses_wants : (at : ℕ) (why : WalkRefusal) → Refuses at why ≡ Wants → ⊥
refuses_wants at why e = cc

-- never two
pub eoc_verdict : EocHasOneVerdict
eoc_verdict h at bytes = record {
  one_reason = λ why other a b. refuses_parts at why other (sym (refused_eoc h at bytes why a) ∙ refused_eoc h at bytes other b);
  not_refused = λ a why b. whole_refuses (at + 2) at why (sym (there_eoc h at bytes a) ∙ refused_eoc h at bytes why b);
  not_unfinished = λ a b. whole_wants (at + 2) (sym (there_eoc h at bytes a) ∙ needs_eoc h at bytes b);
  not_both = λ why a b. refuses_wants at why (sym (refused_eoc h at bytes why a) ∙ needs_eoc h at bytes b);
}

-- a refusal of EOC stays
pub eoc_refusal_stays : EocRefusalsStay
eoc_refusal_stays h at bytes more Psot r = r
eoc_refusal_stays h at bytes more NoEoc (psot, (a, b, rest, e, differ)) = (psot, (a, b, rest ++ more, ap (λ (l : List ℕ). l ++ more) e, differ))
eoc_refusal_stays h at bytes more TooManyBlocks r = absurd r
eoc_refusal_stays h at bytes more (HeaderRefused why) r = absurd r
eoc_refusal_stays h at bytes more PacketTooLong r = absurd r
eoc_refusal_stays h at bytes more (HeadRefused why) r = absurd r
eoc_refusal_stays h at bytes more Cut r = absurd r
eoc_refusal_stays h at bytes more InputTooLong r = absurd r
eoc_refusal_stays h at bytes more TooManyFrames r = absurd r
