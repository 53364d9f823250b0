-- A header, read at the front of bytes.
use Rattle.std.proofs.Common.{◌≡◌, ◌≤◌, ◌<◌, ◌-◌, ℕ, suc, min, Bool, true, false, List, [], ◌∷◌, ◌++◌, map, length, take, drop, slice_index, Option, Some, None, Result, refl, sym, ◌∙◌, ap, subst, inl, inr, arith}
use Rattle.std.proofs.lemmas.Bool.{le-ltb, lt-ltb}
use Rattle.std.proofs.lemmas.Bool.Decides.{leb_tells, eqb_tells}
use Rattle.std.proofs.lemmas.List.{length-append, length-take, take-append-drop, take_all}
use Rattle.codestream_model.specs.Values as values
use Rattle.codestream_model.specs.StuffedBits.{number_bits, width_after, carried_after, carried, sound_after, packed_bits, bytes_of_bits}
use Rattle.codestream_model.specs.HeaderPieces.{HeaderRefusal, Stuffed, ZeroPlanes, Passes, LengthBits, CleanupShort, CleanupLong, RefineLong, TooLong, NoEph}
use Rattle.codestream_model.specs.PacketHeader.{HaveOwnBands}
use Rattle.codestream_model.specs.PacketHeaderReading.{HeaderReading, Done, Need, Bad, Read, Got, AtEnd, Refused, read_bits, end_by, closed_by, answer_of, header_of}
use Rattle.codestream_model.proofs.BitLemmas.{number_bits-length}
use Rattle.codestream_model.proofs.PackingLemmas.{last_after, carried-append}
use Rattle.codestream_model.proofs.BytesLemmas.{sound_split}
use Rattle.codestream_model.proofs.InverseLemmas.{got_parts}
use Rattle.codestream_model.proofs.GridsBack.{grids_say}
use Rattle.packet_header.specs.Answers.{why_of, stop_at, block_of, out_at, Tells}
use Rattle.packet_header.specs.Closing.{closed_after}
use Rattle.packet_header.specs.Headers.{ReadsHeader, out_of}
use Rattle.packet_header.specs.declared.block.Block.{Block}
use Rattle.packet_header.specs.declared.refusal.HeaderWhy.{HeaderWhy}
use Rattle.packet_header.specs.declared.refusal.HeaderWhy.TheVariants as reason
use Rattle.packet_header.specs.declared.refusal.HeaderOut.{HeaderOut}
use Rattle.packet_header.specs.declared.refusal.HeaderOut.TheVariants as out
use Rattle.packet_header.specs.declared.refusal.HeaderStop.{HeaderStop}
use Rattle.packet_header.proofs.Closings.{item_of_front}

-- what is read of a header takes a bit
pub shorter : (gs : List values.Grid) (bits : List Bool) (out : List values.Block) (rest : List Bool) → HaveOwnBands gs → read_bits gs bits ≡ Got out rest → length rest < length bits
unfolding read_bits
shorter gs [] out rest bands e = absurd (cc)
shorter gs (false ∷ bits) out rest bands e = omega (arith, ap (λ (l : List Bool). length l) ((got_parts [] out bits rest e).1))
shorter gs (true ∷ bits) out rest bands e =
    let r = grids_say gs bits out rest bands e in
    omega (arith, ap (λ (l : List Bool). length l) r.1, length-append r.0 rest, ap (λ (l : List Bool). length l) r.2.whole)

-- bits reach into as many bytes of a front that carries them
reach_in_front : (before n : ℕ) (front more : List ℕ) → 1 ≤ n → n ≤ length (carried_after before front) → bytes_of_bits before n (front ++ more) ≡ bytes_of_bits before n front
unfolding carried_after bytes_of_bits
reach_in_front before n [] more some fits = absurd (omega arith)
reach_in_front before n (b ∷ front) more some fits = elim (leb_tells n (width_after before)) [
  | inl t ↦ rw t.0 refl
  | inr t ↦ rw t.0 (ap suc (reach_in_front b (n - width_after before) front more (omega (arith, t.1)) (omega (arith, t.1, length-append (number_bits (width_after before) b) (carried_after b front), number_bits-length (width_after before) b))))
]

-- and into no more than there are
reach_within : (before n : ℕ) (bytes : List ℕ) → bytes_of_bits before n bytes ≤ length bytes
unfolding bytes_of_bits
reach_within before n [] = omega arith
reach_within before n (b ∷ bytes) = elim (leb_tells n (width_after before)) [
  | inl t ↦ rw t.0 (omega arith)
  | inr t ↦ rw t.0 (omega (arith, reach_within b (n - width_after before) bytes))
]

-- the answer where a byte is wanted after what is read
end_tells : (o : Option ℕ) (size : ℕ) (now : List Block) → Tells (end_by o size) (out_at size (stop_at o)) now
end_tells (Some place) size now = refl
end_tells None size now = elim (leb_tells 65536 size) [
  | inl t ↦ rw (t.0, le-ltb size 65536 t.1) refl
  | inr t ↦ rw (t.0, lt-ltb size 65536 t.1) refl
]

-- the answer where all bits of a header are read
closed_tells : (bytes : List ℕ) (used : ℕ) (blocks : List values.Block) (now : List Block) → used ≤ 65536 → map block_of now ≡ blocks
    → Tells (closed_by bytes used blocks) (out_of (length bytes) (closed_after (take 65536 bytes) used)) now
closed_tells bytes used blocks now low same =
    let front = take 65536 bytes in
    let last : slice_index front (used - 1) ≡ slice_index bytes (used - 1) = item_of_front bytes 65536 (used - 1) (omega arith) in
    let end = end_tells (packed_bits front).broken_at (length bytes) now in
    elim (eqb_tells (slice_index bytes (used - 1)) 255) [
      | inr t ↦ rw (last, t.0) (refl, same)
      | inl t ↦ elim (leb_tells (suc used) (length front)) [
        | inr u ↦ rw (last, t.0, u.0) end
        | inl u ↦
            let there : used < 65536 = omega (arith, u.1, length-take 65536 bytes) in
            let next : slice_index front used ≡ slice_index bytes used = item_of_front bytes 65536 used there in
            elim (leb_tells (suc (slice_index bytes used)) 128) [
              | inl v ↦ rw (last, next, t.0, u.0, v.0) (refl, same)
              | inr v ↦ rw (last, next, t.0, u.0, v.0) end
            ]
      ]
    ]

-- the number of bits that were read, where the reading takes a bit
read_count : (gs : List values.Grid) (front : List ℕ) (blocks : List values.Block) (rest : List Bool) → HaveOwnBands gs → read_bits gs (packed_bits front).bits ≡ Got blocks rest
    → (1 ≤ length (packed_bits front).bits - length rest) × (length (packed_bits front).bits - length rest ≤ length (carried front))
read_count gs front blocks rest bands e =
    let less = shorter gs (packed_bits front).bits blocks rest bands e in
    let s = sound_split 0 front in
    let size : length (carried (sound_after 0 front)) ≤ length (carried front) =
    omega (arith, ap (λ (l : List ℕ). length (carried l)) s.1, ap (λ (l : List Bool). length l) (carried-append 0 (sound_after 0 front) s.0), length-append (carried (sound_after 0 front)) (carried_after (last_after 0 (sound_after 0 front)) s.0)) in
    (omega (arith, less), omega (arith, less, size))

-- the answer for all of the bytes, by what is read of their first 65,536
tells_by : (r : Read (List values.Block)) (gs : List values.Grid) (bytes : List ℕ) (now : List Block) (got : Result ℕ HeaderStop) → HaveOwnBands gs → read_bits gs (packed_bits (take 65536 bytes)).bits ≡ r
    → ReadsHeader r (take 65536 bytes) [] now got → Tells (answer_of bytes r) (out_of (length bytes) got) now
tells_by (Got blocks rest) gs bytes now got bands e a =
    let front = take 65536 bytes in
    let n = length (packed_bits front).bits - length rest in
    let count = read_count gs front blocks rest bands e in
    let reach : bytes_of_bits 0 n bytes ≡ bytes_of_bits 0 n front = ap (bytes_of_bits 0 n) (sym (take-append-drop 65536 bytes)) ∙ reach_in_front 0 n front (drop 65536 bytes) count.0 count.1 in
    let low : bytes_of_bits 0 n front ≤ 65536 = omega (arith, reach_within 0 n front, length-take 65536 bytes) in
    let same : map block_of now ≡ blocks = ap (map block_of) a.1 ∙ a.2 in
    rw (reach, a.3) (closed_tells bytes (bytes_of_bits 0 n front) blocks now low same)
tells_by AtEnd gs bytes now got bands e a = rw a (end_tells (packed_bits (take 65536 bytes)).broken_at (length bytes) now)
tells_by (Refused why) gs bytes now got bands e a = rw a refl

pub tells : (gs : List values.Grid) (bytes : List ℕ) (now : List Block) (got : Result ℕ HeaderStop) → HaveOwnBands gs → ReadsHeader (read_bits gs (packed_bits (take 65536 bytes)).bits) (take 65536 bytes) [] now got
    → Tells (header_of gs bytes) (out_of (length bytes) got) now
unfolding header_of
tells gs bytes now got bands a = tells_by (read_bits gs (packed_bits (take 65536 bytes)).bits) gs bytes now got bands refl a

-- the first bytes, at most n
pub first_bytes : (bytes : List ℕ) (n m : ℕ) → m ≡ min (length bytes) n → take m bytes ≡ take n bytes
first_bytes bytes n m e = elim (leb_tells (length bytes) n) [
  | inl t ↦ let f : m ≡ length bytes = omega (arith, t.1) in ap (λ (k : ℕ). take k bytes) f ∙ (take_all (length bytes) bytes (omega arith) ∙ sym (take_all n bytes t.1))
  | inr t ↦ let f : m ≡ n = omega (arith, t.1) in ap (λ (k : ℕ). take k bytes) f
]

-- a header that was told is spelled at the front
pub told_header : (r : HeaderReading) (answer : HeaderOut) (now : List Block) (used : ℕ) → Tells r answer now → answer ≡ out.Done used → r ≡ Done used (map block_of now)
told_header (Done n blocks) answer now used a e = let f : out.Done n ≡ out.Done used = sym a.0 ∙ e in let g : n ≡ used = cc in ap (λ (k : ℕ). Done k blocks) g ∙ ap (Done used) (sym a.1)
told_header Need answer now used a e = absurd (let f : out.Need ≡ out.Done used = sym a ∙ e in cc)
told_header (Bad why) answer now used a e = absurd (let f : out.Bad (why_of why) ≡ out.Done used = sym a ∙ e in cc)

-- and one that is read is told
pub header_told : (r : HeaderReading) (answer : HeaderOut) (now : List Block) (used : ℕ) (blocks : List values.Block) → Tells r answer now → r ≡ Done used blocks → (answer ≡ out.Done used) × (map block_of now ≡ blocks)
header_told r answer now used blocks a e = let P : HeaderReading → Type 0 = λ x. Tells x answer now in subst P e a

-- the reason that an answer gives
abbrev refusal_of : HeaderWhy → HeaderRefusal
refusal_of reason.Stuffed = Stuffed
refusal_of reason.ZeroPlanes = ZeroPlanes
refusal_of reason.Passes = Passes
refusal_of reason.LengthBits = LengthBits
refusal_of reason.CleanupShort = CleanupShort
refusal_of reason.CleanupLong = CleanupLong
refusal_of reason.RefineLong = RefineLong
refusal_of reason.TooLong = TooLong
refusal_of reason.NoEph = NoEph

reason_back : (why : HeaderRefusal) → refusal_of (why_of why) ≡ why
reason_back Stuffed = refl
reason_back ZeroPlanes = refl
reason_back Passes = refl
reason_back LengthBits = refl
reason_back CleanupShort = refl
reason_back CleanupLong = refl
reason_back RefineLong = refl
reason_back TooLong = refl
reason_back NoEph = refl

same_reason : (x y : HeaderWhy) → out.Bad x ≡ out.Bad y → x ≡ y
same_reason x y e = cc

-- a refusal that was told is one that is read, and the other way round
pub told_refusal : (r : HeaderReading) (answer : HeaderOut) (now : List Block) (why : HeaderRefusal) → Tells r answer now → answer ≡ out.Bad (why_of why) → r ≡ Bad why
told_refusal (Done n blocks) answer now why a e = absurd (let f : out.Done n ≡ out.Bad (why_of why) = sym a.0 ∙ e in cc)
told_refusal Need answer now why a e = absurd (let f : out.Need ≡ out.Bad (why_of why) = sym a ∙ e in cc)
told_refusal (Bad other) answer now why a e =
    let f : why_of other ≡ why_of why = same_reason (why_of other) (why_of why) (sym a ∙ e) in
    ap Bad (sym (reason_back other) ∙ (ap refusal_of f ∙ reason_back why))

pub refusal_told : (r : HeaderReading) (answer : HeaderOut) (now : List Block) (why : HeaderRefusal) → Tells r answer now → r ≡ Bad why → answer ≡ out.Bad (why_of why)
refusal_told r answer now why a e = let P : HeaderReading → Type 0 = λ x. Tells x answer now in subst P e a

-- and so it is with missing bytes
pub told_need : (r : HeaderReading) (answer : HeaderOut) (now : List Block) → Tells r answer now → answer ≡ out.Need → r ≡ Need
told_need (Done n blocks) answer now a e = absurd (let f : out.Done n ≡ out.Need = sym a.0 ∙ e in cc)
told_need Need answer now a e = refl
told_need (Bad why) answer now a e = absurd (let f : out.Bad (why_of why) ≡ out.Need = sym a ∙ e in cc)

pub need_told : (r : HeaderReading) (answer : HeaderOut) (now : List Block) → Tells r answer now → r ≡ Need → answer ≡ out.Need
need_told r answer now a e = let P : HeaderReading → Type 0 = λ x. Tells x answer now in subst P e a
