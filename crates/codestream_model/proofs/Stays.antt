-- A refusal of a codestream stays, whatever follows.
use Rattle.std.proofs.Common.{◌≡◌, ℕ, List, [], ◌∷◌, ◌++◌, length, sym, ◌∙◌, ap, inl, inr, arith, append_assoc}
use Rattle.std.proofs.lemmas.List.{append-nil, length-append}
use Rattle.codestream_model.specs.Values.{Head, Place}
use Rattle.codestream_model.specs.Precincts.{grids}
use Rattle.codestream_model.specs.Codestream.{HeadRefused, Cut, TooManyBlocks, HeaderRefused, PacketTooLong, Psot, NoEoc, InputTooLong, TooManyFrames, BeginsCodestream}
use Rattle.codestream_model.specs.CodestreamLaws.{CodestreamRefusalsStay, CodestreamFrontsNeedBytes}
use Rattle.codestream_model.proofs.CodestreamsJudged.{codestreams_judged, codestream_verdict, one_codestream}
use Rattle.codestream_model.proofs.Standing.{refusal_stands}
use Rattle.codestream_model.proofs.Marked.{marked_refusal_stays}

further : (h : Head) (later : List Place) (at : ℕ) (rest bytes more : List ℕ) → BeginsCodestream h later at rest bytes → BeginsCodestream h later at (rest ++ more) (bytes ++ more)
further h later at rest bytes more b = record {
  head = b.head;
  before = b.before;
  content = b.content;
  packets = b.packets;
  is_head = b.is_head;
  order = b.order;
  are_packets = b.are_packets;
  place = b.place;
  whole = ap (λ (l : List ℕ). l ++ more) b.whole ∙ (append_assoc b.head (b.packets ++ rest) more ∙ ap (λ (l : List ℕ). b.head ++ l) (append_assoc b.packets rest more));
}

pub codestream_refusals_stay : CodestreamRefusalsStay
codestream_refusals_stay bytes more at (HeadRefused why) (r, other) = (refusal_stands bytes more at why other r, other)
codestream_refusals_stay bytes more at TooManyBlocks (h, p, later, rest, b, r) = (h, p, later, rest ++ more, further h (p ∷ later) at rest bytes more b, r)
codestream_refusals_stay bytes more at (HeaderRefused why) (h, p, later, rest, b, r) = (h, p, later, rest ++ more, further h (p ∷ later) at rest bytes more b, (r.0, marked_refusal_stays (grids h p) h.eph rest more why r.1))
codestream_refusals_stay bytes more at PacketTooLong (h, p, later, rest, b, r) =
    (h, p, later, rest ++ more, further h (p ∷ later) at rest bytes more b, record { blocks = r.blocks; header = r.header; rest = r.rest ++ more; begins = record { few_blocks = r.begins.few_blocks; is_header = r.begins.is_header; whole = ap (λ (l : List ℕ). l ++ more) r.begins.whole ∙ append_assoc r.header r.rest more }; long = r.long })
codestream_refusals_stay bytes more at Psot (h, rest, b, r) = (h, rest ++ more, further h [] at rest bytes more b, r)
codestream_refusals_stay bytes more at NoEoc (h, rest, b, r) = (h, rest ++ more, further h [] at rest bytes more b, (r.0, (r.1.0, r.1.1, r.1.2 ++ more, ap (λ (l : List ℕ). l ++ more) r.1.3, r.1.4)))
codestream_refusals_stay bytes more at Cut r = absurd r
codestream_refusals_stay bytes more at InputTooLong r = absurd r
codestream_refusals_stay bytes more at TooManyFrames r = absurd r

pub codestream_fronts_need_bytes : CodestreamFrontsNeedBytes
codestream_fronts_need_bytes front rest fits (h, content, s) some = elim (codestreams_judged front fits) [
  | inl (codestream, more, (g, others, t), e) ↦
      let split : codestream ++ (more ++ rest) ≡ (front ++ rest) ++ [] = sym (append_assoc codestream more rest) ∙ (ap (λ (l : List ℕ). l ++ rest) (sym e) ∙ sym (append-nil (front ++ rest))) in
      let one = one_codestream g h others content codestream (front ++ rest) (more ++ rest) [] t s split in
      absurd (omega (arith, some, ap length one.0, ap length e, length-append codestream more, length-append front rest))
  | inr (inl (at, why, r)) ↦ absurd ((codestream_verdict (front ++ rest)).not_refused (front ++ rest, [], (h, content, s), sym (append-nil (front ++ rest))) at why (codestream_refusals_stay front rest at why r))
  | inr (inr n) ↦ n
]
