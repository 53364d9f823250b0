-- Of all bytes one thing holds: they begin with a header, or are refused for one reason, or end before a header does.
use Rattle.std.proofs.Common.{◌≡◌, ◌⊎◌, ℕ, List, [], ◌∷◌, ◌++◌, length, drop, take, refl, sym, ◌∙◌, ap, inl, inr, arith, append_assoc}
use Rattle.std.proofs.lemmas.List.{append-nil, length-append, take-append-drop}
use Rattle.codestream_model.specs.Values.{Grid}
use Rattle.codestream_model.specs.Bytes.{IsBytes}
use Rattle.codestream_model.specs.HeaderPieces.{HeaderRefusal, Stuffed, ZeroPlanes, Passes, LengthBits, CleanupShort, CleanupLong, RefineLong, TooLong, NoEph}
use Rattle.codestream_model.specs.PacketHeader.{HaveOwnBands, IsRefusedPiece, RefusesHeader, NeedsHeaderBytes}
use Rattle.codestream_model.specs.PacketHeaderReading.{HeaderReading, Done, Need, Bad, header_of}
use Rattle.codestream_model.specs.PacketLaws.{BeginWithHeader, PacketHeadersAreJudged, PacketHeadersHaveOneVerdict, RefusalsStay, HeaderFrontsNeedBytes}
use Rattle.codestream_model.proofs.BytesLemmas.{bytes_front}
use Rattle.codestream_model.proofs.HeaderLemmas.{header_read}
use Rattle.codestream_model.proofs.OneWayLemmas.{one_header}
use Rattle.codestream_model.proofs.SoundLemmas.{header_sound}
use Rattle.codestream_model.proofs.BytesJudged.{refusal_read, needs_read}
use Rattle.codestream_model.proofs.BytesBack.{done_bad, done_need, bad_need, one_reason, refusal_sound, needs_sound}

-- by the answer
judged_by : (gs : List Grid) (bytes : List ℕ) (r : HeaderReading) → IsBytes bytes → HaveOwnBands gs → header_of gs bytes ≡ r
    → BeginWithHeader gs bytes ⊎ (((why : HeaderRefusal) × RefusesHeader gs bytes why) ⊎ NeedsHeaderBytes gs bytes)
judged_by gs bytes (Done used blocks) fits bands e = inl (blocks, take used bytes, drop used bytes, header_sound gs bytes used blocks fits bands e, sym (take-append-drop used bytes))
judged_by gs bytes Need fits bands e = inr (inr (needs_sound gs bytes fits bands e))
judged_by gs bytes (Bad why) fits bands e = inr (inl (why, refusal_sound gs bytes why fits bands e))

-- one of the three holds,
pub headers_judged : PacketHeadersAreJudged
headers_judged gs bytes fits bands = judged_by gs bytes (header_of gs bytes) fits bands refl

-- bytes that begin with a header are read so
begin_read : (gs : List Grid) (bytes : List ℕ) → HaveOwnBands gs → (b : BeginWithHeader gs bytes) → header_of gs bytes ≡ Done (length b.1) b.0
begin_read gs bytes bands (blocks, header, more, h, e) = ap (header_of gs) e ∙ header_read gs blocks header more bands h

-- and no two
pub one_verdict : PacketHeadersHaveOneVerdict
one_verdict gs bytes bands = record {
  one_reason = λ why other a b. one_reason why other (sym (refusal_read gs bytes why bands a) ∙ refusal_read gs bytes other bands b);
  not_refused = λ a why b. done_bad (length a.1) a.0 why (sym (begin_read gs bytes bands a) ∙ refusal_read gs bytes why bands b);
  not_unfinished = λ a b. done_need (length a.1) a.0 (sym (begin_read gs bytes bands a) ∙ needs_read gs bytes bands b);
  not_both = λ why a b. bad_need why (sym (refusal_read gs bytes why bands a) ∙ needs_read gs bytes bands b);
}

-- a refused piece stays
piece_stays : (gs : List Grid) (bytes more : List ℕ) (why : HeaderRefusal) → IsRefusedPiece gs bytes why → IsRefusedPiece gs (bytes ++ more) why
piece_stays gs bytes more why t = record {
  front = t.front;
  back = t.back ++ more;
  whole = ap (λ (l : List ℕ). l ++ more) t.whole ∙ append_assoc t.front t.back more;
  short = t.short;
  each = t.each;
  stuffed = t.stuffed;
  fault = t.fault;
}

-- and so does each refusal
pub refusal_stays : RefusalsStay
refusal_stays gs bytes more Stuffed t = record {
  front = t.front;
  byte = t.byte;
  back = t.back ++ more;
  whole = ap (λ (l : List ℕ). l ++ more) t.whole ∙ append_assoc t.front (255 ∷ t.byte ∷ t.back) more;
  high = t.high;
  short = t.short;
  wants = t.wants;
}
refusal_stays gs bytes more TooLong t = record {
  front = t.front;
  back = t.back ++ more;
  whole = ap (λ (l : List ℕ). l ++ more) t.whole ∙ append_assoc t.front t.back more;
  long = t.long;
  wants = t.wants;
}
refusal_stays gs bytes more ZeroPlanes t = piece_stays gs bytes more ZeroPlanes t
refusal_stays gs bytes more Passes t = piece_stays gs bytes more Passes t
refusal_stays gs bytes more LengthBits t = piece_stays gs bytes more LengthBits t
refusal_stays gs bytes more CleanupShort t = piece_stays gs bytes more CleanupShort t
refusal_stays gs bytes more CleanupLong t = piece_stays gs bytes more CleanupLong t
refusal_stays gs bytes more RefineLong t = piece_stays gs bytes more RefineLong t
refusal_stays gs bytes more NoEph t = absurd t

-- a header without its last bytes is unfinished
pub front_needs : HeaderFrontsNeedBytes
front_needs gs blocks front rest bands h some =
    let fits : IsBytes front = bytes_front front rest h.packs.each in
    elim (headers_judged gs front fits bands) [
      | inl b ↦
          let same : b.1 ++ (b.2 ++ rest) ≡ (front ++ rest) ++ [] = sym (append_assoc b.1 b.2 rest) ∙ (ap (λ (l : List ℕ). l ++ rest) (sym b.4) ∙ sym (append-nil (front ++ rest))) in
          let one = one_header gs b.0 blocks b.1 (front ++ rest) (b.2 ++ rest) [] bands b.3 h same in
          absurd (omega (arith, ap length b.4, ap length one.0, length-append b.1 b.2, length-append front rest))
      | inr (inl r) ↦
          let stays = refusal_stays gs front rest r.0 r.1 in
          absurd ((one_verdict gs (front ++ rest) bands).not_refused (blocks, front ++ rest, [], h, sym (append-nil (front ++ rest))) r.0 stays)
      | inr (inr n) ↦ n
    ]
