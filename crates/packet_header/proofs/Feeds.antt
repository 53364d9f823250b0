-- What a reader of packet headers answers for all bytes that it was fed.
use Rattle.std.proofs.Common.{◌≡◌, ◌≢◌, ◌<◌, ◌≤◌, ◌+◌, ◌-◌, ◌==◌, ◌++◌, ℕ, suc, min, Bool, true, false, List, [], ◌∷◌, map, length, take, drop, get_or, drop-cons, Result, Ok, Err, refl, sym, ◌∙◌, ap, subst, inl, inr, arith, append_assoc}
use Rattle.std.proofs.lemmas.Bool.{le-ltb, lt-ltb}
use Rattle.std.proofs.lemmas.Bool.Decides.{leb_tells, eqb_tells}
use Rattle.std.proofs.lemmas.List.{append-nil, length-append, take-append-drop, take_all}
use Rattle.codestream_model.specs.Values as values
use Rattle.codestream_model.specs.Bytes.{IsBytes}
use Rattle.codestream_model.specs.StuffedBits.{packed_bits, bytes_of_bits}
use Rattle.codestream_model.specs.HeaderPieces.{HeaderRefusal}
use Rattle.codestream_model.specs.PacketHeader.{HaveOwnBands, SpellsHeader}
use Rattle.codestream_model.specs.PacketHeaderReading.{HeaderReading, Done, Need, Bad, Read, Got, AtEnd, Refused, read_bits, header_of}
use Rattle.codestream_model.specs.MarkedHeader.{after_header, marked_answer, marked_header_of}
use Rattle.codestream_model.proofs.BytesLemmas.{bytes_join, bytes_front}
use Rattle.codestream_model.proofs.Marked.{marked_read, marked_sound, marked_refusal_read, marked_refusal_sound, marked_needs_read, marked_needs_sound}
use Rattle.codestream_model.proofs.HeaderLemmas.{header_read}
use Rattle.codestream_model.proofs.SoundLemmas.{header_sound}
use Rattle.stuffed_bits.specs.BitInState.{BitInState, IsFree}
use Rattle.packet_header.specs.Answers.{block_of, why_of, out_at, Tells}
use Rattle.packet_header.specs.Moves.{taken_of, all_of, bits_after, IsStop}
use Rattle.packet_header.specs.Steps.{Fits}
use Rattle.packet_header.specs.Positions.{ahead}
use Rattle.packet_header.specs.Closing.{closed_after, counted, Closes}
use Rattle.packet_header.specs.Blocks.{grids_left, grids_rest, header_rest, left_of, IsAmong, HasTaken, Took}
use Rattle.packet_header.specs.Headers.{ReaderState, grids_of, IsSameHeader, IsFed, IsFedAt, IsRead, ReadsHeader, ReadsOn, AnswersFor, out_of, counted_out}
use Rattle.packet_header.specs.Marked.{end_out, IsRest}
use Rattle.packet_header.specs.declared.block.Block.{Block}
use Rattle.packet_header.specs.declared.blocks.BlocksReader.{BlocksReader}
use Rattle.stuffed_bits.specs.declared.source.Source.{Source}
use Rattle.packet_header.specs.declared.step.Step.{Step}
use Rattle.packet_header.specs.declared.step.Step.TheVariants.{Inclusion}
use Rattle.packet_header.specs.declared.reader.Stage.{Stage}
use Rattle.packet_header.specs.declared.reader.Stage.TheVariants.{Header, Eph, EphEnd}
use Rattle.packet_header.specs.declared.refusal.HeaderOut.{HeaderOut}
use Rattle.packet_header.specs.declared.refusal.HeaderOut.TheVariants as out
use Rattle.packet_header.specs.declared.refusal.HeaderWhy.TheVariants as why
use Rattle.packet_header.specs.declared.refusal.HeaderStop.{HeaderStop}
use Rattle.packet_header.specs.declared.refusal.HeaderStop.TheVariants as stop
use Rattle.packet_header.proofs.GridMoves.{first_of_all}
use Rattle.packet_header.proofs.HeaderRuns.{shorter, tells, first_bytes, told_header, header_told, told_refusal, refusal_told, told_need, need_told}

-- past the last grid nothing is left to be read
pub all_read : (first : List Bool → Read (List values.Block)) (r : BlocksReader) (bytes : List ℕ) (h : BitInState) (t : HasTaken first r bytes h) → grids_left r ≡ [] → r.begun ≡ true
    → (further : List Bool) → first (t.done ++ further) ≡ Got (map block_of r.blocks.items) further
all_read first r bytes h t e b further =
    let found = map block_of r.blocks.items in
    let rest = grids_rest (grids_left r) r.row r.col r.step t.nodes t.others in
    let left : left_of r t.nodes t.others further ≡ Got [] further =
    ap (λ (x : Bool). header_rest x rest further) b ∙ ap (λ (gs : List values.Grid). grids_rest gs r.row r.col r.step t.nodes t.others further) e in
    t.goes_on further ∙ (ap (ahead found) left ∙ ap (λ (xs : List values.Block). Got xs further) (append-nil found))

-- and no bit of a value is kept
pub free_at_end : (first : List Bool → Read (List values.Block)) (r : BlocksReader) (bytes : List ℕ) (h : BitInState) → HasTaken first r bytes h → grids_left r ≡ [] → IsFree h
free_at_end first r bytes h t e =
    let P : List values.Grid → Type 0 = λ gs. IsAmong gs r in
    let s : r.step ≡ Inclusion = subst P e t.among in
    let Q : Step → Type 0 = λ x. Fits x h.part in
    subst Q s t.fits

-- a header has a bit
pub some_given : (gs : List values.Grid) (r : BlocksReader) (bytes : List ℕ) (h : BitInState) (t : HasTaken (read_bits gs) r bytes h) → HaveOwnBands gs → grids_left r ≡ [] → r.begun ≡ true → 0 < length t.done
some_given gs r bytes h t bands e b =
    let less = shorter gs (t.done ++ []) (map block_of r.blocks.items) [] bands (all_read (read_bits gs) r bytes h t e b []) in
    omega (arith, less, length-append t.done [])

-- the header is answered where its bits are closed
pub header_closed : (gs : List values.Grid) (r : BlocksReader) (before : List ℕ) (s : Source) (got : Result ℕ HeaderStop) (t : HasTaken (read_bits gs) r (taken_of before s) s.bits) → grids_left r ≡ [] → r.begun ≡ true
    → Closes before t.done s got → ReadsHeader (read_bits gs (packed_bits (all_of before s)).bits) (all_of before s) [] r.blocks.items (counted (length before) got)
header_closed gs r before s got t e b close =
    let all = all_of before s in
    let rest = bits_after t.done all in
    let bits : (packed_bits all).bits ≡ t.done ++ rest = first_of_all before t.done s (record { read = t.read }) in
    let read : read_bits gs (packed_bits all).bits ≡ Got (map block_of r.blocks.items) rest = ap (read_bits gs) bits ∙ all_read (read_bits gs) r (taken_of before s) s.bits t e b rest in
    let count : length t.done ≡ length (packed_bits all).bits - length rest = omega (arith, ap (λ (l : List Bool). length l) bits, length-append t.done rest) in
    let close' : counted (length before) got ≡ closed_after all (bytes_of_bits 0 (length (packed_bits all).bits - length rest) all) = close ∙ ap (λ (n : ℕ). closed_after all (bytes_of_bits 0 n all)) count in
    let P : Read (List values.Block) → Type 0 = λ x. ReadsHeader x all [] r.blocks.items (counted (length before) got) in
    subst P (sym read) (r.blocks.items, refl, refl, close')

-- or by what stops its reading
stopped_by : (r : Read (List values.Block)) (bytes : List ℕ) (now : List Block) (stopped : HeaderStop) → IsStop r (packed_bits bytes).broken_at stopped → ReadsHeader r bytes [] now (Err stopped)
stopped_by (Got blocks rest) bytes now stopped a = absurd a
stopped_by AtEnd bytes now stopped a = ap Err a
stopped_by (Refused reason) bytes now stopped a = ap Err a

pub header_stopped : (gs : List values.Grid) (bytes : List ℕ) (now : List Block) (stopped : HeaderStop) → IsStop (read_bits gs (packed_bits bytes).bits) (packed_bits bytes).broken_at stopped → ReadsHeader (read_bits gs (packed_bits bytes).bits) bytes [] now (Err stopped)
header_stopped gs bytes now stopped a = stopped_by (read_bits gs (packed_bits bytes).bits) bytes now stopped a

-- bytes and the first of a piece
take_past : (xs ys : List ℕ) (k : ℕ) → take (length xs + k) (xs ++ ys) ≡ xs ++ take k ys
take_past [] ys k = let e : 0 + k ≡ k = omega arith in ap (λ (n : ℕ). take n ys) e
take_past (x ∷ xs) ys k = let e : length (x ∷ xs) + k ≡ suc (length xs + k) = omega arith in ap (λ (n : ℕ). take n (x ∷ (xs ++ ys))) e ∙ ap (λ (l : List ℕ). x ∷ l) (take_past xs ys k)

-- bytes, and those of a piece from an index on
pub drop_past : (xs ys : List ℕ) (k : ℕ) → drop (length xs + k) (xs ++ ys) ≡ drop k ys
drop_past [] ys k = let e : 0 + k ≡ k = omega arith in ap (λ (n : ℕ). drop n ys) e
drop_past (x ∷ xs) ys k = let e : length (x ∷ xs) + k ≡ suc (length xs + k) = omega arith in ap (λ (n : ℕ). drop n (x ∷ (xs ++ ys))) e ∙ drop_past xs ys k

-- the bytes of a header are the first 65,536 of all
pub front_is : (bytes piece : List ℕ) (fed n : ℕ) → fed ≡ length bytes → fed ≤ 65536 → n ≡ min (length piece) (65536 - fed) → bytes ++ take n piece ≡ take 65536 (bytes ++ piece)
front_is bytes piece fed n e low m =
    let k = 65536 - fed in
    let c : length bytes + k ≡ 65536 = omega (arith, e, low) in
    ap (λ (l : List ℕ). bytes ++ l) (first_bytes piece k n m) ∙ (sym (take_past bytes piece k) ∙ ap (λ (i : ℕ). take i (bytes ++ piece)) c)

-- the answer where a byte is wanted, by the bytes of the header or by all bytes
same_end : (size fed : ℕ) (stopped : HeaderStop) → (size < 65536 → fed ≡ size) → (65536 ≤ size → 65536 ≤ fed) → out_at size stopped ≡ out_at fed stopped
same_end size fed (stop.Bad reason) short long = refl
same_end size fed stop.Need short long = elim (leb_tells 65536 size) [
  | inl t ↦ rw (le-ltb size 65536 t.1, le-ltb fed 65536 (long t.1)) refl
  | inr t ↦ let e : fed ≡ size = short (omega (arith, t.1)) in rw e refl
]

-- what a reader of a header answers for all bytes, where its reading of the first 65,536 ends
pub fed_tells : (gs : List values.Grid) (bytes piece : List ℕ) (now : List Block) (fed n : ℕ) (got : Result ℕ HeaderStop) → HaveOwnBands gs → fed ≡ length bytes → fed ≤ 65536 → n ≡ min (length piece) (65536 - fed)
    → ReadsHeader (read_bits gs (packed_bits (bytes ++ take n piece)).bits) (bytes ++ take n piece) [] now got → Tells (header_of gs (bytes ++ piece)) (out_of (length (bytes ++ piece)) got) now
fed_tells gs bytes piece now fed n got bands e low m a =
    let P : List ℕ → Type 0 = λ l. ReadsHeader (read_bits gs (packed_bits l).bits) l [] now got in
    tells gs (bytes ++ piece) now got bands (subst P (front_is bytes piece fed n e low m) a)

-- a header that was read is read so with more bytes
pub stays_read : (gs : List values.Grid) (bytes more : List ℕ) (blocks : List Block) → IsBytes bytes → HaveOwnBands gs → IsRead gs bytes blocks → header_of gs (bytes ++ more) ≡ Done (length bytes) (map block_of blocks)
stays_read gs bytes more blocks each bands e =
    let s = header_sound gs bytes (length bytes) (map block_of blocks) each bands e in
    let whole : take (length bytes) bytes ≡ bytes = take_all (length bytes) bytes (omega arith) in
    let P : List ℕ → Type 0 = λ l. SpellsHeader gs (map block_of blocks) l in
    header_read gs (map block_of blocks) bytes more bands (subst P whole s)

-- the parts of an answer
same_size : (m n : ℕ) (xs ys : List values.Block) → Done m xs ≡ Done n ys → m ≡ n
same_size m n xs ys e = cc

-- and of its own bytes alone
pub read_alone : (gs : List values.Grid) (all : List ℕ) (n : ℕ) (blocks : List Block) → IsBytes all → HaveOwnBands gs → header_of gs all ≡ Done n (map block_of blocks)
    → (n ≡ length (take n all)) × IsRead gs (take n all) blocks
read_alone gs all n blocks each bands e =
    let s = header_sound gs all n (map block_of blocks) each bands e in
    let again : header_of gs all ≡ Done (length (take n all)) (map block_of blocks) = ap (header_of gs) (sym (take-append-drop n all)) ∙ header_read gs (map block_of blocks) (take n all) (drop n all) bands s in
    let alone : header_of gs (take n all ++ []) ≡ Done (length (take n all)) (map block_of blocks) = header_read gs (map block_of blocks) (take n all) [] bands s in
    (same_size n (length (take n all)) (map block_of blocks) (map block_of blocks) (sym e ∙ again), ap (header_of gs) (sym (append-nil (take n all))) ∙ alone)

-- what stops a reader tells no header
no_header : (n : ℕ) (stopped : HeaderStop) (used : ℕ) → out_at n stopped ≡ out.Done used → ⊥
no_header n (stop.Bad reason) used e = cc
no_header n stop.Need used e = elim (leb_tells 65536 n) [
  | inl t ↦ let f : out.Bad why.TooLong ≡ out.Done used = rw (le-ltb n 65536 t.1) at e in cc
  | inr t ↦ let f : out.Need ≡ out.Done used = rw (lt-ltb n 65536 t.1) at e in cc
]

-- and so its answer is that for the header, whether EPH is asked for or not
stopped_answer : (eph : Bool) (bytes : List ℕ) (r : HeaderReading) (n : ℕ) (stopped : HeaderStop) (now : List Block) → Tells r (out_at n stopped) now → Tells (marked_answer eph bytes r) (out_at n stopped) now
stopped_answer eph bytes (Done used blocks) n stopped now t = absurd (no_header n stopped used t.0)
stopped_answer eph bytes Need n stopped now t = t
stopped_answer eph bytes (Bad reason) n stopped now t = t

pub stopped_tells : (gs : List values.Grid) (eph : Bool) (bytes : List ℕ) (n : ℕ) (stopped : HeaderStop) (now : List Block) → Tells (header_of gs bytes) (out_at n stopped) now → Tells (marked_header_of gs eph bytes) (out_at n stopped) now
stopped_tells gs eph bytes n stopped now t = stopped_answer eph bytes (header_of gs bytes) n stopped now t

-- it is counted as one for all bytes
counted_stop : (earlier n : ℕ) (stopped : HeaderStop) → counted_out earlier (out_at n stopped) ≡ out_at n stopped
counted_stop earlier n (stop.Bad reason) = refl
counted_stop earlier n stop.Need = elim (leb_tells 65536 n) [
  | inl t ↦ rw (le-ltb n 65536 t.1) refl
  | inr t ↦ rw (lt-ltb n 65536 t.1) refl
]

-- where a further byte is wanted, fewer than 65,536 came
pub needs_more : (n : ℕ) (stopped : HeaderStop) → out_at n stopped ≡ out.Need → (stopped ≡ stop.Need) × (n < 65536)
needs_more n (stop.Bad reason) e = absurd (cc)
needs_more n stop.Need e = elim (leb_tells 65536 n) [
  | inl t ↦ absurd (let f : out.Bad why.TooLong ≡ out.Need = rw (le-ltb n 65536 t.1) at e in cc)
  | inr t ↦ (refl, t.1)
]

-- a reading of a header that stops, and what is answered for the header and its EPH
pub stopped_fed : (gs : List values.Grid) (eph : Bool) (bytes piece : List ℕ) (now : List Block) (fed n : ℕ) (stopped : HeaderStop) → HaveOwnBands gs → fed ≡ length bytes → fed ≤ 65536 → n ≡ min (length piece) (65536 - fed)
    → ReadsHeader (read_bits gs (packed_bits (bytes ++ take n piece)).bits) (bytes ++ take n piece) [] now (Err stopped)
    → Tells (marked_header_of gs eph (bytes ++ piece)) (counted_out (length bytes) (out_at (fed + n) stopped)) now
stopped_fed gs eph bytes piece now fed n stopped bands e low m a =
    let size = length (bytes ++ piece) in
    let all : size ≡ length bytes + length piece = length-append bytes piece in
    let k : n ≤ length piece = omega (arith, m) in
    let same : out_at size stopped ≡ out_at (fed + n) stopped = same_end size (fed + n) stopped (λ h. omega (arith, h, all, e, m)) (λ h. omega (arith, h, all, e, m, low)) in
    let t : Tells (marked_header_of gs eph (bytes ++ piece)) (out_at size stopped) now = stopped_tells gs eph (bytes ++ piece) size stopped now (fed_tells gs bytes piece now fed n (Err stopped) bands e low m a) in
    let P : HeaderOut → Type 0 = λ o. Tells (marked_header_of gs eph (bytes ++ piece)) o now in
    subst P (same ∙ sym (counted_stop (length bytes) (fed + n) stopped)) t

-- a reading of a header that ends
pub done_fed : (gs : List values.Grid) (bytes piece : List ℕ) (now : List Block) (fed n used : ℕ) → HaveOwnBands gs → fed ≡ length bytes → fed ≤ 65536 → n ≡ min (length piece) (65536 - fed)
    → ReadsHeader (read_bits gs (packed_bits (bytes ++ take n piece)).bits) (bytes ++ take n piece) [] now (Ok (length bytes + used))
    → header_of gs (bytes ++ piece) ≡ Done (length bytes + used) (map block_of now)
done_fed gs bytes piece now fed n used bands e low m a =
    told_header (header_of gs (bytes ++ piece)) (out.Done (length bytes + used)) now (length bytes + used) (fed_tells gs bytes piece now fed n (Ok (length bytes + used)) bands e low m a) refl

-- the answer for a header, and for it where EPH isn't asked for
pub done_tells : (gs : List values.Grid) (bytes : List ℕ) (n : ℕ) (now : List Block) → header_of gs bytes ≡ Done n (map block_of now) → Tells (marked_header_of gs false bytes) (out.Done n) now
done_tells gs bytes n now e =
    let P : HeaderReading → Type 0 = λ r. Tells (marked_answer false bytes r) (out.Done n) now in
    subst P (sym e) (refl, refl)

-- the answer by the bytes that follow a header
pub eph_tells : (gs : List values.Grid) (bytes rest : List ℕ) (n : ℕ) (answer : HeaderOut) (now : List Block) → header_of gs bytes ≡ Done n (map block_of now) → drop n bytes ≡ rest
    → Tells (after_header true rest n (map block_of now)) answer now → Tells (marked_header_of gs true bytes) answer now
eph_tells gs bytes rest n answer now e d t =
    let P : HeaderReading → Type 0 = λ r. Tells (marked_answer true bytes r) answer now in
    let Q : List ℕ → Type 0 = λ l. Tells (after_header true l n (map block_of now)) answer now in
    subst P (sym e) (subst Q (sym d) t)

-- the first byte isn't EPH's
first_by : (b : ℕ) (more : List ℕ) (n : ℕ) (now : List Block) → (b == 255) ≡ false → Tells (after_header true (b ∷ more) n (map block_of now)) (out.Bad why.NoEph) now
first_by b [] n now e = rw e refl
first_by b (c ∷ more) n now e = rw e refl

pub other_first : (b : ℕ) (more : List ℕ) (n : ℕ) (now : List Block) → b ≢ 255 → Tells (after_header true (b ∷ more) n (map block_of now)) (out.Bad why.NoEph) now
other_first b more n now ne = elim (eqb_tells b 255) [ inl t ↦ absurd (ne t.1) | inr t ↦ first_by b more n now t.0 ]

-- the second byte of EPH comes, or another one, or none
pub second_tells : (rest : List ℕ) (n earlier at : ℕ) (now : List Block) → earlier + at ≡ n + 1 → Tells (after_header true (255 ∷ rest) n (map block_of now)) (counted_out earlier (end_out at rest)) now
second_tells [] n earlier at now e = refl
second_tells (b ∷ more) n earlier at now e = elim (eqb_tells b 146) [
  | inl t ↦ let f : earlier + (at + 1) ≡ n + 2 = omega (arith, e) in rw (t.0, f) (refl, refl)
  | inr t ↦ rw t.0 refl
]

-- where a further byte is wanted none came
pub end_needs : (at : ℕ) (rest : List ℕ) → end_out at rest ≡ out.Need → rest ≡ []
end_needs at [] e = refl
end_needs at (b ∷ more) e = elim (eqb_tells b 146) [
  | inl t ↦ absurd (let f : out.Done (at + 1) ≡ out.Need = rw t.0 at e in cc)
  | inr t ↦ absurd (let f : out.Bad why.NoEph ≡ out.Need = rw t.0 at e in cc)
]

-- an answer, and the same counted over all bytes
pub counted_done : (earlier used : ℕ) (o : HeaderOut) → o ≡ out.Done used → counted_out earlier o ≡ out.Done (earlier + used)
counted_done earlier used o e = ap (counted_out earlier) e

pub counted_bad : (earlier : ℕ) (reason : HeaderRefusal) (o : HeaderOut) → counted_out earlier o ≡ out.Bad (why_of reason) → o ≡ out.Bad (why_of reason)
counted_bad earlier reason (out.Done used) e = absurd (cc)
counted_bad earlier reason out.Need e = absurd (cc)
counted_bad earlier reason (out.Bad other) e = e

pub counted_need : (earlier : ℕ) (o : HeaderOut) → counted_out earlier o ≡ out.Need → o ≡ out.Need
counted_need earlier (out.Done used) e = absurd (cc)
counted_need earlier out.Need e = refl
counted_need earlier (out.Bad other) e = absurd (cc)

pub counted_none : (o : HeaderOut) → counted_out 0 o ≡ o
counted_none (out.Done used) = let e : 0 + used ≡ used = omega arith in ap out.Done e
counted_none out.Need = refl
counted_none (out.Bad other) = refl

-- the bytes that follow a header
rest_is : (bytes piece : List ℕ) (from b : ℕ) → from < length piece → get_or piece from 0 ≡ b → drop (length bytes + from) (bytes ++ piece) ≡ b ∷ drop (from + 1) piece
rest_is bytes piece from b h e =
    let s : suc from ≡ from + 1 = omega arith in
    drop_past bytes piece from ∙ (drop-cons piece from 0 h ∙ (ap (λ (x : ℕ). x ∷ drop (suc from) piece) e ∙ ap (λ (n : ℕ). b ∷ drop n piece) s))

-- the first of them isn't EPH's
pub eph_other : (r : ReaderState) (bytes piece : List ℕ) (from : ℕ) → from < length piece → get_or piece from 0 ≢ 255 → IsRest r bytes from piece → Tells (marked_header_of (grids_of r) true (bytes ++ piece)) (out.Bad why.NoEph) r.blocks
eph_other r bytes piece from h ne rest =
    let n = length bytes + from in
    let b = get_or piece from 0 in
    eph_tells (grids_of r) (bytes ++ piece) (b ∷ drop (from + 1) piece) n (out.Bad why.NoEph) r.blocks rest.read (rest_is bytes piece from b h refl) (other_first b (drop (from + 1) piece) n r.blocks ne)

-- the first is, and the second comes, or another one, or none
pub eph_ends : (r : ReaderState) (bytes piece : List ℕ) (from : ℕ) (answer : HeaderOut) → from < length piece → get_or piece from 0 ≡ 255 → answer ≡ end_out (from + 1) (drop (from + 1) piece) → IsRest r bytes from piece
    → Tells (marked_header_of (grids_of r) true (bytes ++ piece)) (counted_out (length bytes) answer) r.blocks
eph_ends r bytes piece from answer h e a rest =
    let n = length bytes + from in
    let more = drop (from + 1) piece in
    let P : HeaderOut → Type 0 = λ o. Tells (marked_header_of (grids_of r) true (bytes ++ piece)) (counted_out (length bytes) o) r.blocks in
    subst P (sym a) (eph_tells (grids_of r) (bytes ++ piece) (255 ∷ more) n (counted_out (length bytes) (end_out (from + 1) more)) r.blocks rest.read (rest_is bytes piece from 255 h e) (second_tells more n (length bytes) (from + 1) r.blocks (omega arith)))

-- where none comes the reader waits for it
pub eph_waits : (r : ReaderState) (bytes piece : List ℕ) (from : ℕ) (answer : HeaderOut) → HaveOwnBands (grids_of r) → r.eph ≡ true → from < length piece → get_or piece from 0 ≡ 255 → answer ≡ end_out (from + 1) (drop (from + 1) piece) → answer ≡ out.Need
    → IsRest r bytes from piece → IsFed (record r { stage = EphEnd }) (bytes ++ piece)
eph_waits r bytes piece from answer bands eph h e a need rest =
    let all = bytes ++ piece in
    let n = length bytes + from in
    let header = take n all in
    let none : drop (from + 1) piece ≡ [] = end_needs (from + 1) (drop (from + 1) piece) (sym a ∙ need) in
    let last : drop n all ≡ 255 ∷ [] = rest_is bytes piece from 255 h e ∙ ap (λ (l : List ℕ). 255 ∷ l) none in
    let whole : all ≡ header ++ 255 ∷ [] = sym (take-append-drop n all) ∙ ap (λ (l : List ℕ). header ++ l) last in
    record {
      own_bands = bands;
      each = rest.each;
      by_stage = (eph, (header, whole, (read_alone (grids_of r) all n r.blocks rest.each bands rest.read).1));
    }

-- a reader at its header
pub at_header : (r : ReaderState) (bytes : List ℕ) → IsFed r bytes → r.stage ≡ Header → (r.fed ≡ length bytes) × (length bytes < 65536) × HasTaken (read_bits (grids_of r)) r.progress bytes r.bits
at_header r bytes f s = let P : Stage → Type 0 = λ x. IsFedAt x r bytes in subst P s f.by_stage

-- the answer where the reading of the header stops
pub header_stops : (r now : ReaderState) (bytes piece : List ℕ) (n : ℕ) (stopped : HeaderStop) → IsFed r bytes → r.stage ≡ Header → r.fed ≤ 65536 → n ≡ min (length piece) (65536 - r.fed) → ReadsOn r now (take n piece) (Err stopped)
    → Tells (marked_header_of (grids_of r) r.eph (bytes ++ piece)) (counted_out (length bytes) (out_at (r.fed + n) stopped)) now.blocks
header_stops r now bytes piece n stopped f s low m read =
    let h = at_header r bytes f s in
    stopped_fed (grids_of r) r.eph bytes piece now.blocks r.fed n stopped f.own_bands h.0 low m (read bytes h.2)

-- where a further piece is wanted, the reader goes on in it
pub header_waits : (r now : ReaderState) (bytes piece : List ℕ) (n : ℕ) (stopped : HeaderStop) → IsFed r bytes → r.stage ≡ Header → IsBytes piece → r.fed ≤ 65536 → n ≡ min (length piece) (65536 - r.fed) → out_at (r.fed + n) stopped ≡ out.Need
    → now.stage ≡ r.stage → IsSameHeader r now
    → (stopped ≡ stop.Need → HasTaken (read_bits (grids_of r)) r.progress bytes r.bits → HasTaken (read_bits (grids_of r)) now.progress (bytes ++ take n piece) now.bits) → IsFed (record now { fed = r.fed + n }) (bytes ++ piece)
header_waits r now bytes piece n stopped f s each low m need stage same rests =
    let h = at_header r bytes f s in
    let w = needs_more (r.fed + n) stopped need in
    let all : n ≡ length piece = omega (arith, w.1, m) in
    let whole : take n piece ≡ piece = take_all n piece (omega (arith, all)) in
    let later : ReaderState = record now { fed = r.fed + n } in
    let taken = rests w.0 h.2 in
    let B : List ℕ → Type 0 = λ l. HasTaken (read_bits (grids_of r)) now.progress (bytes ++ l) now.bits in
    let G : List values.Grid → Type 0 = λ gs. HasTaken (read_bits gs) now.progress (bytes ++ piece) now.bits in
    let O : List values.Grid → Type 0 = λ gs. HaveOwnBands gs in
    let S : Stage → Type 0 = λ x. IsFedAt x later (bytes ++ piece) in
    let size : length (bytes ++ piece) ≡ length bytes + length piece = length-append bytes piece in
    let count : r.fed + n ≡ length (bytes ++ piece) = omega (arith, h.0, all, size) in
    let few : length (bytes ++ piece) < 65536 = omega (arith, w.1, count) in
    record {
      own_bands = subst O (sym same.grids) f.own_bands;
      each = bytes_join bytes piece f.each each;
      by_stage = subst S (sym (stage ∙ s)) (count, few, subst G (sym same.grids) (subst B whole taken));
    }

-- the header was read
pub header_ends : (r now : ReaderState) (bytes piece : List ℕ) (n used : ℕ) → IsFed r bytes → r.stage ≡ Header → IsBytes piece → r.fed ≤ 65536 → n ≡ min (length piece) (65536 - r.fed) → IsSameHeader r now → ReadsOn r now (take n piece) (Ok used) → IsRest now bytes used piece
header_ends r now bytes piece n used f s each low m same read =
    let h = at_header r bytes f s in
    let done = done_fed (grids_of r) bytes piece now.blocks r.fed n used f.own_bands h.0 low m (read bytes h.2) in
    record { each = bytes_join bytes piece f.each each; read = ap (λ (gs : List values.Grid). header_of gs (bytes ++ piece)) same.grids ∙ done }

-- the answer for it where EPH isn't asked for
pub rest_tells : (r now : ReaderState) (bytes piece : List ℕ) (used : ℕ) → IsSameHeader r now → now.eph ≡ false → IsRest now bytes used piece → Tells (marked_header_of (grids_of r) r.eph (bytes ++ piece)) (out.Done (length bytes + used)) now.blocks
rest_tells r now bytes piece used same e rest =
    let P : List values.Grid → Bool → Type 0 = λ gs eph. Tells (marked_header_of gs eph (bytes ++ piece)) (out.Done (length bytes + used)) now.blocks in
    let a : P (grids_of now) false = done_tells (grids_of now) (bytes ++ piece) (length bytes + used) now.blocks rest.read in
    let Q : List values.Grid → Type 0 = λ gs. P gs false in
    let R : Bool → Type 0 = λ eph. P (grids_of r) eph in
    subst R (sym e ∙ same.eph) (subst Q same.grids a)

-- a reader after its header
pub at_eph : (r : ReaderState) (bytes piece : List ℕ) → IsFed r bytes → r.stage ≡ Eph → IsBytes piece → (r.eph ≡ true) × IsRest r bytes 0 piece
at_eph r bytes piece f s each =
    let P : Stage → Type 0 = λ x. IsFedAt x r bytes in
    let h = subst P s f.by_stage in
    let none : length bytes ≡ length bytes + 0 = omega arith in
    (h.0, record { each = bytes_join bytes piece f.each each; read = stays_read (grids_of r) bytes piece r.blocks f.each f.own_bands h.1 ∙ ap (λ (n : ℕ). Done n (map block_of r.blocks)) none })

-- a reader after the first byte of EPH
abbrev pub HasFirstByte : ReaderState → List ℕ → Type 0
HasFirstByte r bytes = (r.eph ≡ true) × ((header : List ℕ) × (bytes ≡ header ++ 255 ∷ []) × IsRead (grids_of r) header r.blocks)

pub at_end : (r : ReaderState) (bytes : List ℕ) → IsFed r bytes → r.stage ≡ EphEnd → HasFirstByte r bytes
at_end r bytes f s = let P : Stage → Type 0 = λ x. IsFedAt x r bytes in subst P s f.by_stage

pub end_tells : (r : ReaderState) (bytes piece : List ℕ) (answer : HeaderOut) → IsFed r bytes → r.stage ≡ EphEnd → answer ≡ end_out 0 (drop 0 piece) → Tells (marked_header_of (grids_of r) r.eph (bytes ++ piece)) (counted_out (length bytes) answer) r.blocks
end_tells r bytes piece answer f s a =
    let h = at_end r bytes f s in
    let gs = grids_of r in
    let header = h.1.0 in
    let n = length header in
    let split : bytes ++ piece ≡ header ++ 255 ∷ piece = ap (λ (l : List ℕ). l ++ piece) h.1.1 ∙ append_assoc header (255 ∷ []) piece in
    let F : List ℕ → Type 0 = λ l. IsBytes l in
    let own : IsBytes header = bytes_front header (255 ∷ []) (subst F h.1.1 f.each) in
    let read : header_of gs (header ++ 255 ∷ piece) ≡ Done n (map block_of r.blocks) = stays_read gs header (255 ∷ piece) r.blocks own f.own_bands h.1.2 in
    let zero_more : n ≡ n + 0 = omega arith in
    let rest : drop n (header ++ 255 ∷ piece) ≡ 255 ∷ piece = ap (λ (k : ℕ). drop k (header ++ 255 ∷ piece)) zero_more ∙ drop_past header (255 ∷ piece) 0 in
    let size : length bytes ≡ n + 1 = ap length h.1.1 ∙ length-append header (255 ∷ []) in
    let count : length bytes + 0 ≡ n + 1 = omega (arith, size) in
    let t : Tells (marked_header_of gs true (header ++ 255 ∷ piece)) (counted_out (length bytes) (end_out 0 piece)) r.blocks =
    eph_tells gs (header ++ 255 ∷ piece) (255 ∷ piece) n (counted_out (length bytes) (end_out 0 piece)) r.blocks read rest (second_tells piece n (length bytes) 0 r.blocks count) in
    let P : List ℕ → Type 0 = λ l. Tells (marked_header_of gs true l) (counted_out (length bytes) (end_out 0 piece)) r.blocks in
    let Q : Bool → Type 0 = λ eph. Tells (marked_header_of gs eph (bytes ++ piece)) (counted_out (length bytes) (end_out 0 piece)) r.blocks in
    let R : HeaderOut → Type 0 = λ o. Tells (marked_header_of gs r.eph (bytes ++ piece)) (counted_out (length bytes) o) r.blocks in
    subst R (sym a) (subst Q (sym h.0) (subst P (sym split) t))

pub end_waits : (r : ReaderState) (bytes piece : List ℕ) (answer : HeaderOut) → IsFed r bytes → answer ≡ end_out 0 (drop 0 piece) → answer ≡ out.Need → IsFed r (bytes ++ piece)
end_waits r bytes piece answer f a need =
    let none : piece ≡ [] = end_needs 0 piece (sym a ∙ need) in
    let P : List ℕ → Type 0 = λ l. IsFed r l in
    subst P (sym (ap (λ (l : List ℕ). bytes ++ l) none ∙ append-nil bytes)) f

-- what a reader answers for all bytes that it was fed, in the words of the relations
pub feeds : (gs : List values.Grid) (eph : Bool) (bytes piece : List ℕ) (answer : HeaderOut) (blocks : List Block) → HaveOwnBands gs → IsBytes (bytes ++ piece) → Tells (marked_header_of gs eph (bytes ++ piece)) (counted_out (length bytes) answer) blocks
    → AnswersFor gs eph bytes piece answer blocks
feeds gs eph bytes piece answer blocks bands each t =
    let all = bytes ++ piece in
    let n = length bytes in
    let counted = counted_out n answer in
    let r = marked_header_of gs eph all in
    record {
      judged = t;
      found = λ used e. marked_sound gs eph all (n + used) (map block_of blocks) each bands (told_header r counted blocks (n + used) t (counted_done n used answer e));
      only = λ own header more s e. header_told r counted blocks (length header) own t (ap (marked_header_of gs eph) e ∙ marked_read gs eph own header more bands s);
      refused = λ reason. (
        λ e. marked_refusal_sound gs eph all reason each bands (told_refusal r counted blocks reason t (ap (counted_out n) e)),
        λ h. counted_bad n reason answer (refusal_told r counted blocks reason t (marked_refusal_read gs eph all reason bands h)),
      );
      needs = (
        λ e. marked_needs_sound gs eph all each bands (told_need r counted blocks t (ap (counted_out n) e)),
        λ h. counted_need n answer (need_told r counted blocks t (marked_needs_read gs eph all bands h)),
      );
    }

-- a call that goes on from another in the same piece
pub took_from : (first : List Bool → Read (List values.Block)) (r : BlocksReader) (before : List ℕ) (old mid new : Source) (out : Result (Unit {0}) HeaderStop) → mid.piece.now ≡ old.piece.now → Took first r before mid new out → Took first r before old new out
took_from first r before old mid new (Ok x) e a = a
took_from first r before old mid new (Err stopped) e a =
    let P : List ℕ → Type 0 = λ l. IsStop (first (packed_bits (before ++ l)).bits) (packed_bits (before ++ l)).broken_at stopped in
    (subst P e a.0, a.1)
