-- Bytes where a packet header should begin have one verdict.
use Rattle.std.proofs.Common.{◌≡◌, ◌≤◌, ◌⊎◌, ℕ, Bool, true, false, List, [], ◌∷◌, ◌++◌, length, take, drop, subst, refl, sym, ◌∙◌, ap, inl, inr, arith, append_assoc}
use Rattle.std.proofs.lemmas.List.{append-nil, length-append, take-append-drop}
use Rattle.codestream_model.specs.Values.{Grid, Block}
use Rattle.codestream_model.specs.Bytes.{IsBytes}
use Rattle.codestream_model.specs.HeaderPieces.{HeaderRefusal}
use Rattle.codestream_model.specs.PacketHeader.{HaveOwnBands}
use Rattle.codestream_model.specs.PacketHeaderReading.{HeaderReading, Done, Need, Bad}
use Rattle.codestream_model.specs.MarkedHeader.{end_marker, SpellsMarkedHeader, RefusesMarkedHeader, NeedsMarkedHeaderBytes, marked_header_of}
use Rattle.codestream_model.specs.MarkedLaws.{BeginWithMarkedHeader, MarkedHeadersAreJudged, MarkedHeadersHaveOneVerdict, MarkedFrontsNeedBytes}
use Rattle.codestream_model.proofs.BytesLemmas.{bytes_join, bytes_front}
use Rattle.codestream_model.proofs.PackingLemmas.{bytes-cons, bytes-nil}
use Rattle.codestream_model.proofs.PacketsOneWay.{one_marked}
use Rattle.codestream_model.proofs.Marked.{marked_refusal_stays, marked_read, marked_sound, marked_refusal_read, marked_refusal_sound, marked_needs_read, marked_needs_sound}

-- what may be said of bytes
abbrev IsJudged : List Grid → Bool → List ℕ → Type 0
IsJudged gs eph bytes = BeginWithMarkedHeader gs eph bytes ⊎ (((why : HeaderRefusal) × RefusesMarkedHeader gs eph bytes why) ⊎ NeedsMarkedHeaderBytes gs eph bytes)

-- by what is read
judged_by : (gs : List Grid) (eph : Bool) (bytes : List ℕ) (r : HeaderReading) → IsBytes bytes → HaveOwnBands gs → marked_header_of gs eph bytes ≡ r → IsJudged gs eph bytes
judged_by gs eph bytes (Done used blocks) fits bands e = inl (blocks, take used bytes, drop used bytes, marked_sound gs eph bytes used blocks fits bands e, sym (take-append-drop used bytes))
judged_by gs eph bytes Need fits bands e = inr (inr (marked_needs_sound gs eph bytes fits bands e))
judged_by gs eph bytes (Bad why) fits bands e = inr (inl (why, marked_refusal_sound gs eph bytes why fits bands e))

-- bytes are judged,
pub marked_judged : MarkedHeadersAreJudged
marked_judged gs eph bytes fits bands = judged_by gs eph bytes (marked_header_of gs eph bytes) fits bands refl

-- two answers differ
done_bad : (n : ℕ) (blocks : List Block) (why : HeaderRefusal) → Done n blocks ≡ Bad why → ⊥
done_bad n blocks why e = cc

-- in their kinds
done_need : (n : ℕ) (blocks : List Block) → Done n blocks ≡ Need → ⊥
done_need n blocks e = cc

-- all three
bad_need : (why : HeaderRefusal) → Bad why ≡ Need → ⊥
bad_need why e = cc

-- one reason
same_reason : (why other : HeaderRefusal) → Bad why ≡ Bad other → why ≡ other
same_reason why other e = cc

-- once
pub one_marked_verdict : MarkedHeadersHaveOneVerdict
one_marked_verdict gs eph bytes bands =
    let bad = marked_refusal_read gs eph bytes in
    let need = marked_needs_read gs eph bytes bands in
    let done = λ (b : BeginWithMarkedHeader gs eph bytes). ap (marked_header_of gs eph) b.4 ∙ marked_read gs eph b.0 b.1 b.2 bands b.3 in
    record {
      one_reason = λ why other r s. same_reason why other (sym (bad why bands r) ∙ bad other bands s);
      not_refused = λ b why r. done_bad _ b.0 why (sym (done b) ∙ bad why bands r);
      not_unfinished = λ b n. done_need _ b.0 (sym (done b) ∙ need n);
      not_both = λ why r n. bad_need why (sym (bad why bands r) ∙ need n);
    }

-- the marker's bytes
marker_bytes : (eph : Bool) → IsBytes (end_marker eph)
marker_bytes false = bytes-nil
marker_bytes true = bytes-cons 255 (146 ∷ []) (omega arith) (bytes-cons 146 [] (omega arith) bytes-nil)

-- a header and its marker are bytes
marked_bytes : (gs : List Grid) (eph : Bool) (blocks : List Block) (bytes : List ℕ) → SpellsMarkedHeader gs eph blocks bytes → IsBytes bytes
marked_bytes gs eph blocks bytes s =
    let P : List ℕ → Type 0 = λ l. IsBytes l in
    subst P (sym s.whole) (bytes_join s.header (end_marker eph) s.is_header.packs.each (marker_bytes eph))

-- a header with its marker that lacks its last bytes is unfinished
pub marked_front_needs : MarkedFrontsNeedBytes
marked_front_needs gs eph blocks front rest bands h some =
    let all : front ++ rest ≡ (front ++ rest) ++ [] = sym (append-nil (front ++ rest)) in
    elim (marked_judged gs eph front (bytes_front front rest (marked_bytes gs eph blocks (front ++ rest) h)) bands) [
      | inl b ↦
          let same : b.1 ++ (b.2 ++ rest) ≡ (front ++ rest) ++ [] = sym (append_assoc b.1 b.2 rest) ∙ (ap (λ (l : List ℕ). l ++ rest) (sym b.4) ∙ all) in
          let one = one_marked gs eph b.0 blocks b.1 (front ++ rest) (b.2 ++ rest) [] bands b.3 h same in
          absurd (omega (arith, some, ap length b.4, ap length one.0, length-append b.1 b.2, length-append front rest))
      | inr (inl r) ↦ absurd ((one_marked_verdict gs eph (front ++ rest) bands).not_refused (blocks, front ++ rest, [], h, all) r.0 (marked_refusal_stays gs eph front rest r.0 r.1))
      | inr (inr n) ↦ n
    ]
