-- What is read of bytes is a header at their front.
use Rattle.std.proofs.Common.{◌≡◌, ◌≤◌, ◌-◌, ℕ, Bool, true, false, List, [], ◌∷◌, ◌++◌, length, take, refl, sym, ◌∙◌, ap, inl, inr, arith}
use Rattle.std.proofs.lemmas.List.{length-append}
use Rattle.codestream_model.specs.Values.{Grid, Block}
use Rattle.codestream_model.specs.Bytes.{IsBytes}
use Rattle.codestream_model.specs.StuffedBits.{packed_bits, bytes_of_bits}
use Rattle.codestream_model.specs.PacketHeader.{HaveOwnBands, HeaderBits, SpellsHeader}
use Rattle.codestream_model.specs.PacketHeaderReading.{Done, Read, Got, AtEnd, Refused, read_bits, readable_bits, closed_by, answer_of, header_of}
use Rattle.codestream_model.specs.PacketLaws.{HeadersAreSound}
use Rattle.codestream_model.proofs.BytesLemmas.{never_done, bytes_sound}
use Rattle.codestream_model.proofs.InverseLemmas.{got_parts}
use Rattle.codestream_model.proofs.GridsBack.{grids_say}

-- bits that are read begin with a header's
pub record BitsSay (gs : List Grid) (bits : List Bool) (out : List Block) (rest : List Bool) : Type 0 where
  pub front : List Bool
  pub whole : bits ≡ front ++ rest
  pub some : 1 ≤ length front
  pub is_header : HeaderBits gs out front

pub bits_say : (gs : List Grid) (bits : List Bool) (out : List Block) (rest : List Bool) → HaveOwnBands gs → read_bits gs bits ≡ Got out rest → BitsSay gs bits out rest
unfolding read_bits
bits_say gs [] out rest bands e = absurd (cc)
bits_say gs (false ∷ bits) out rest bands e =
    let p = got_parts [] out bits rest e in
    record { front = false ∷ []; whole = ap (λ (l : List Bool). false ∷ l) p.1; some = omega arith; is_header = inl (refl, sym p.0) }
bits_say gs (true ∷ bits) out rest bands e =
    let r = grids_say gs bits out rest bands e in
    record { front = r.0; whole = r.1; some = omega (arith, ap length r.2.whole); is_header = inr r.2 }

-- an answer, by what is read of the bits
answer_sound : (gs : List Grid) (bytes : List ℕ) (used : ℕ) (out : List Block) → IsBytes bytes → HaveOwnBands gs → (r : Read (List Block)) → read_bits gs (readable_bits bytes) ≡ r → answer_of bytes r ≡ Done used out
    → SpellsHeader gs out (take used bytes)
answer_sound gs bytes used out fits bands (Got blocks rest) r done =
    let b = bits_say gs (readable_bits bytes) blocks rest bands r in
    let n : length (readable_bits bytes) - length rest ≡ length b.front = omega (arith, ap length b.whole, length-append b.front rest) in
    bytes_sound gs blocks b.front rest bytes used out fits b.whole b.some b.is_header (ap (λ (k : ℕ). closed_by bytes (bytes_of_bits 0 k bytes) blocks) (sym n) ∙ done)
answer_sound gs bytes used out fits bands AtEnd r done = absurd (never_done (packed_bits (take 65536 bytes)).broken_at (length bytes) used out done)
answer_sound gs bytes used out fits bands (Refused why) r done = absurd (cc)

-- what is read of bytes is a header
pub header_sound : HeadersAreSound
unfolding header_of
header_sound gs bytes used out fits bands done = answer_sound gs bytes used out fits bands (read_bits gs (readable_bits bytes)) refl done
