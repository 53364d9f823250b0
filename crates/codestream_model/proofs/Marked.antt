-- Packet headers with their EPH are read, refused and unfinished in one way.
use Rattle.std.proofs.Common.{◌≡◌, ◌+◌, ◌==◌, ◌&&◌, ℕ, Bool, true, false, List, [], ◌∷◌, ◌++◌, length, take, drop, subst, refl, sym, ◌∙◌, ap, inl, inr, arith, append_assoc}
use Rattle.std.proofs.lemmas.Bool.{and_parts}
use Rattle.std.proofs.lemmas.List.{append-nil, length-append, take-append-drop, drop_at}
use Rattle.std.proofs.Math.Seq.{take-add}
use Rattle.codestream_model.specs.Values.{Grid, Block}
use Rattle.codestream_model.specs.Bytes.{IsBytes}
use Rattle.codestream_model.specs.HeaderPieces.{HeaderRefusal, Stuffed, ZeroPlanes, Passes, LengthBits, CleanupShort, CleanupLong, RefineLong, TooLong, NoEph}
use Rattle.codestream_model.specs.PacketHeader.{HaveOwnBands, SpellsHeader, RefusesHeader}
use Rattle.codestream_model.specs.PacketHeaderReading.{HeaderReading, Done, Need, Bad, header_of}
use Rattle.codestream_model.specs.MarkedHeader.{end_marker, SpellsMarkedHeader, BeginsHeader, IsNoEph, IsPartOfEph, RefusesEph, LacksEph, RefusesMarkedHeader, NeedsMarkedHeaderBytes, after_header, marked_answer, marked_header_of}
use Rattle.codestream_model.specs.MarkedLaws.{MarkedHeadersAreRead, MarkedHeadersAreSound, MarkedRefusalsAreRead, MarkedRefusalsAreSound, MarkedNeedsAreRead, MarkedNeedsAreSound, MarkedRefusalsStay}
use Rattle.codestream_model.proofs.TreeLemmas.{either, equal_number}
use Rattle.codestream_model.proofs.HeaderLemmas.{header_read}
use Rattle.codestream_model.proofs.SoundLemmas.{header_sound}
use Rattle.codestream_model.proofs.BytesJudged.{refusal_read, needs_read}
use Rattle.codestream_model.proofs.BytesBack.{refusal_sound, needs_sound}
use Rattle.codestream_model.proofs.OneWayLemmas.{done_parts}
use Rattle.codestream_model.proofs.VerdictLemmas.{refusal_stays}

-- after the end marker nothing is looked at
marker_read : (eph : Bool) (more : List ℕ) (used : ℕ) (blocks : List Block) → after_header eph (end_marker eph ++ more) used blocks ≡ Done (used + length (end_marker eph)) blocks
marker_read false more used blocks = let e : used ≡ used + 0 = omega arith in ap (λ (n : ℕ). Done n blocks) e
marker_read true more used blocks = refl

-- a header with its marker is read
pub marked_read : MarkedHeadersAreRead
marked_read gs eph blocks header more bands s =
    let split : header ++ more ≡ s.header ++ (end_marker eph ++ more) = ap (λ (l : List ℕ). l ++ more) s.whole ∙ append_assoc s.header (end_marker eph) more in
    let read : header_of gs (header ++ more) ≡ Done (length s.header) blocks = ap (header_of gs) split ∙ header_read gs blocks s.header (end_marker eph ++ more) bands s.is_header in
    let rest : drop (length s.header) (header ++ more) ≡ end_marker eph ++ more = ap (drop (length s.header)) split ∙ drop_at s.header (end_marker eph ++ more) (length s.header) refl in
    let size : length s.header + length (end_marker eph) ≡ length header = omega (arith, ap length s.whole, length-append s.header (end_marker eph)) in
    ap (marked_answer eph (header ++ more)) read
    ∙ (ap (λ (l : List ℕ). after_header eph l (length s.header) blocks) rest
    ∙ (marker_read eph more (length s.header) blocks ∙ ap (λ (n : ℕ). Done n blocks) size))

-- a header without a marker
unmarked : (gs : List Grid) (blocks : List Block) (bytes : List ℕ) → SpellsHeader gs blocks bytes → SpellsMarkedHeader gs false blocks bytes
unmarked gs blocks bytes s = record { header = bytes; is_header = s; whole = sym (append-nil bytes) }

-- a header and its EPH
with_eph : (gs : List Grid) (blocks : List Block) (bytes more : List ℕ) (n : ℕ) → SpellsHeader gs blocks (take n bytes) → drop n bytes ≡ 255 ∷ 146 ∷ more → SpellsMarkedHeader gs true blocks (take (n + 2) bytes)
with_eph gs blocks bytes more n s e = record {
  header = take n bytes;
  is_header = s;
  whole = take-add n 2 bytes ∙ ap (λ (l : List ℕ). take n bytes ++ take 2 l) e;
}

-- two bytes that are EPH
eph_tested : (a b : ℕ) (more : List ℕ) → ((a == 255) && (b == 146)) ≡ true → a ∷ b ∷ more ≡ 255 ∷ 146 ∷ more
eph_tested a b more t =
    let p = and_parts (a == 255) (b == 146) t in
    let e : a ≡ 255 = equal_number a 255 p.0 in
    let f : b ≡ 146 = equal_number b 146 p.1 in
    rw (e, f) refl

-- what is read after a header is a header with its marker
after_sound : (gs : List Grid) (eph : Bool) (bytes rest : List ℕ) (n used : ℕ) (own blocks : List Block) → drop n bytes ≡ rest → SpellsHeader gs own (take n bytes)
    → after_header eph rest n own ≡ Done used blocks → SpellsMarkedHeader gs eph blocks (take used bytes)
after_sound gs false bytes rest n used own blocks d s f =
    let parts = done_parts n used own blocks f in
    let P : ℕ → Type 0 = λ m. SpellsHeader gs own (take m bytes) in
    let Q : List Block → Type 0 = λ l. SpellsHeader gs l (take used bytes) in
    unmarked gs blocks (take used bytes) (subst Q parts.1 (subst P parts.0 s))
after_sound gs true bytes [] n used own blocks d s f = absurd (cc)
after_sound gs true bytes (a ∷ []) n used own blocks d s f = elim (either (a == 255)) [
  | inl t ↦ let g : Need ≡ Done used blocks = rw t at f in absurd (cc)
  | inr t ↦ let g : Bad NoEph ≡ Done used blocks = rw t at f in absurd (cc)
]
after_sound gs true bytes (a ∷ b ∷ more) n used own blocks d s f = elim (either ((a == 255) && (b == 146))) [
  | inl t ↦
      let g : Done (n + 2) own ≡ Done used blocks = rw t at f in
      let parts = done_parts (n + 2) used own blocks g in
      let P : ℕ → Type 0 = λ m. SpellsMarkedHeader gs true own (take m bytes) in
      let Q : List Block → Type 0 = λ l. SpellsMarkedHeader gs true l (take used bytes) in
      subst Q parts.1 (subst P parts.0 (with_eph gs own bytes more n s (d ∙ eph_tested a b more t)))
  | inr t ↦ let g : Bad NoEph ≡ Done used blocks = rw t at f in absurd (cc)
]

-- by what is read of the header
sound_by : (gs : List Grid) (eph : Bool) (bytes : List ℕ) (used : ℕ) (blocks : List Block) (r : HeaderReading) → IsBytes bytes → HaveOwnBands gs → header_of gs bytes ≡ r
    → marked_answer eph bytes r ≡ Done used blocks → SpellsMarkedHeader gs eph blocks (take used bytes)
sound_by gs eph bytes used blocks (Done n own) fits bands e f = after_sound gs eph bytes (drop n bytes) n used own blocks refl (header_sound gs bytes n own fits bands e) f
sound_by gs eph bytes used blocks Need fits bands e f = absurd (cc)
sound_by gs eph bytes used blocks (Bad why) fits bands e f = absurd (cc)

-- what is read is a header with its marker
pub marked_sound : MarkedHeadersAreSound
marked_sound gs eph bytes used blocks fits bands e = sound_by gs eph bytes used blocks (header_of gs bytes) fits bands refl e

-- a refused header
plain_refused : (gs : List Grid) (eph : Bool) (bytes : List ℕ) (why : HeaderRefusal) → HaveOwnBands gs → RefusesHeader gs bytes why → marked_header_of gs eph bytes ≡ Bad why
plain_refused gs eph bytes why bands r = ap (marked_answer eph bytes) (refusal_read gs bytes why bands r)

-- other bytes where EPH should begin
other_read : (rest : List ℕ) (used : ℕ) (blocks : List Block) → IsNoEph rest → after_header true rest used blocks ≡ Bad NoEph
other_read [] used blocks n = absurd n
other_read (a ∷ []) used blocks n = elim (either (a == 255)) [
  | inl t ↦ absurd (n (equal_number a 255 t))
  | inr t ↦ rw t refl
]
other_read (a ∷ b ∷ more) used blocks n = elim (either ((a == 255) && (b == 146))) [
  | inl t ↦ let p = and_parts (a == 255) (b == 146) t in absurd (n (equal_number a 255 p.0, equal_number b 146 p.1))
  | inr t ↦ rw t refl
]

-- bytes that begin with a header
begun_read : (gs : List Grid) (bytes rest : List ℕ) → HaveOwnBands gs → (b : BeginsHeader gs bytes rest) → marked_header_of gs true bytes ≡ after_header true rest (length b.header) b.blocks
begun_read gs bytes rest bands b =
    let read : header_of gs bytes ≡ Done (length b.header) b.blocks = ap (header_of gs) b.whole ∙ header_read gs b.blocks b.header rest bands b.is_header in
    let behind : drop (length b.header) bytes ≡ rest = ap (drop (length b.header)) b.whole ∙ drop_at b.header rest (length b.header) refl in
    ap (marked_answer true bytes) read ∙ ap (λ (l : List ℕ). after_header true l (length b.header) b.blocks) behind

-- a missing EPH
eph_refused : (gs : List Grid) (eph : Bool) (bytes : List ℕ) → HaveOwnBands gs → RefusesEph gs eph bytes → marked_header_of gs eph bytes ≡ Bad NoEph
eph_refused gs eph bytes bands r =
    ap (λ (b : Bool). marked_header_of gs b bytes) r.asked ∙ (begun_read gs bytes r.rest bands r.begins ∙ other_read r.rest (length r.begins.header) r.begins.blocks r.other)

-- what is refused is read so
pub marked_refusal_read : MarkedRefusalsAreRead
marked_refusal_read gs eph bytes Stuffed bands r = plain_refused gs eph bytes Stuffed bands r
marked_refusal_read gs eph bytes ZeroPlanes bands r = plain_refused gs eph bytes ZeroPlanes bands r
marked_refusal_read gs eph bytes Passes bands r = plain_refused gs eph bytes Passes bands r
marked_refusal_read gs eph bytes LengthBits bands r = plain_refused gs eph bytes LengthBits bands r
marked_refusal_read gs eph bytes CleanupShort bands r = plain_refused gs eph bytes CleanupShort bands r
marked_refusal_read gs eph bytes CleanupLong bands r = plain_refused gs eph bytes CleanupLong bands r
marked_refusal_read gs eph bytes RefineLong bands r = plain_refused gs eph bytes RefineLong bands r
marked_refusal_read gs eph bytes TooLong bands r = plain_refused gs eph bytes TooLong bands r
marked_refusal_read gs eph bytes NoEph bands r = eph_refused gs eph bytes bands r

-- a refusal of a header is one of the header with its marker
refuses_too : (gs : List Grid) (eph : Bool) (bytes : List ℕ) (why : HeaderRefusal) → RefusesHeader gs bytes why → RefusesMarkedHeader gs eph bytes why
refuses_too gs eph bytes Stuffed r = r
refuses_too gs eph bytes ZeroPlanes r = r
refuses_too gs eph bytes Passes r = r
refuses_too gs eph bytes LengthBits r = r
refuses_too gs eph bytes CleanupShort r = r
refuses_too gs eph bytes CleanupLong r = r
refuses_too gs eph bytes RefineLong r = r
refuses_too gs eph bytes TooLong r = r
refuses_too gs eph bytes NoEph r = absurd r

-- what is read after a header, where it is no header with its marker
abbrev IsAfter : List Grid → Bool → List ℕ → HeaderReading → Type 0
IsAfter gs eph bytes (Done used blocks) = Unit {0}
IsAfter gs eph bytes Need = LacksEph gs eph bytes
IsAfter gs eph bytes (Bad why) = RefusesEph gs eph bytes × (why ≡ NoEph)

-- one byte that isn't FF
not_ff : (a : ℕ) → (a == 255) ≡ false → IsNoEph (a ∷ [])
not_ff a t e = let c : true ≡ false = rw e at t in absurd (cc)

-- two bytes that aren't EPH
not_eph : (a b : ℕ) (more : List ℕ) → ((a == 255) && (b == 146)) ≡ false → IsNoEph (a ∷ b ∷ more)
not_eph a b more t = λ e. (let c : true ≡ false = rw (e.0, e.1) at t in absurd (cc))

-- by the bytes after it
after_is : (gs : List Grid) (eph : Bool) (bytes rest : List ℕ) (n : ℕ) (own : List Block) → BeginsHeader gs bytes rest → IsAfter gs eph bytes (after_header eph rest n own)
after_is gs false bytes rest n own b = tt
after_is gs true bytes [] n own b = record { asked = refl; rest = []; begins = b; part = inl refl }
after_is gs true bytes (x ∷ []) n own b = elim (either (x == 255)) [
  | inl t ↦
      let e : x ≡ 255 = equal_number x 255 t in
      let l : LacksEph gs true bytes = record { asked = refl; rest = x ∷ []; begins = b; part = inr (rw e refl) } in
      rw t l
  | inr t ↦ let r : RefusesEph gs true bytes = record { asked = refl; rest = x ∷ []; begins = b; other = not_ff x t } in rw t (r, refl)
]
after_is gs true bytes (x ∷ y ∷ more) n own b = elim (either ((x == 255) && (y == 146))) [
  | inl t ↦ rw t tt
  | inr t ↦ let r : RefusesEph gs true bytes = record { asked = refl; rest = x ∷ y ∷ more; begins = b; other = not_eph x y more t } in rw t (r, refl)
]

-- a header that is read is at the start of the bytes
begins_read : (gs : List Grid) (bytes : List ℕ) (n : ℕ) (own : List Block) → IsBytes bytes → HaveOwnBands gs → header_of gs bytes ≡ Done n own → BeginsHeader gs bytes (drop n bytes)
begins_read gs bytes n own fits bands e = record { blocks = own; header = take n bytes; is_header = header_sound gs bytes n own fits bands e; whole = sym (take-append-drop n bytes) }

-- by what is read of the header
refusal_by : (gs : List Grid) (eph : Bool) (bytes : List ℕ) (why : HeaderRefusal) (r : HeaderReading) → IsBytes bytes → HaveOwnBands gs → header_of gs bytes ≡ r
    → marked_answer eph bytes r ≡ Bad why → RefusesMarkedHeader gs eph bytes why
refusal_by gs eph bytes why Need fits bands e f = absurd (cc)
refusal_by gs eph bytes why (Bad other) fits bands e f =
    let same : other ≡ why = cc in
    let P : HeaderRefusal → Type 0 = λ w. RefusesMarkedHeader gs eph bytes w in
    subst P same (refuses_too gs eph bytes other (refusal_sound gs bytes other fits bands e))
refusal_by gs eph bytes why (Done n own) fits bands e f =
    let P : HeaderReading → Type 0 = λ r. IsAfter gs eph bytes r in
    let found : IsAfter gs eph bytes (Bad why) = subst P f (after_is gs eph bytes (drop n bytes) n own (begins_read gs bytes n own fits bands e)) in
    let Q : HeaderRefusal → Type 0 = λ w. RefusesMarkedHeader gs eph bytes w in
    subst Q (sym found.1) found.0

-- what is read as refused is refused
pub marked_refusal_sound : MarkedRefusalsAreSound
marked_refusal_sound gs eph bytes why fits bands e = refusal_by gs eph bytes why (header_of gs bytes) fits bands refl e

-- a part of EPH
part_read : (rest : List ℕ) (used : ℕ) (blocks : List Block) → IsPartOfEph rest → after_header true rest used blocks ≡ Need
part_read rest used blocks (inl e) = ap (λ (l : List ℕ). after_header true l used blocks) e
part_read rest used blocks (inr e) = ap (λ (l : List ℕ). after_header true l used blocks) e

-- what is unfinished is read so
pub marked_needs_read : MarkedNeedsAreRead
marked_needs_read gs eph bytes bands (inl n) = ap (marked_answer eph bytes) (needs_read gs bytes bands n)
marked_needs_read gs eph bytes bands (inr l) =
    ap (λ (b : Bool). marked_header_of gs b bytes) l.asked ∙ (begun_read gs bytes l.rest bands l.begins ∙ part_read l.rest (length l.begins.header) l.begins.blocks l.part)

-- by what is read of the header
needs_by : (gs : List Grid) (eph : Bool) (bytes : List ℕ) (r : HeaderReading) → IsBytes bytes → HaveOwnBands gs → header_of gs bytes ≡ r → marked_answer eph bytes r ≡ Need → NeedsMarkedHeaderBytes gs eph bytes
needs_by gs eph bytes Need fits bands e f = inl (needs_sound gs bytes fits bands e)
needs_by gs eph bytes (Bad why) fits bands e f = absurd (cc)
needs_by gs eph bytes (Done n own) fits bands e f =
    let P : HeaderReading → Type 0 = λ r. IsAfter gs eph bytes r in
    inr (subst P f (after_is gs eph bytes (drop n bytes) n own (begins_read gs bytes n own fits bands e)))

-- what is read so is unfinished
pub marked_needs_sound : MarkedNeedsAreSound
marked_needs_sound gs eph bytes fits bands e = needs_by gs eph bytes (header_of gs bytes) fits bands refl e

-- other bytes than EPH stay so
other_stays : (rest more : List ℕ) → IsNoEph rest → IsNoEph (rest ++ more)
other_stays [] more n = absurd n
other_stays (a ∷ []) [] n = n
other_stays (a ∷ []) (b ∷ more) n = λ e. n e.0
other_stays (a ∷ b ∷ rest) more n = n

-- a refusal stays
pub marked_refusal_stays : MarkedRefusalsStay
marked_refusal_stays gs eph bytes more Stuffed r = refusal_stays gs bytes more Stuffed r
marked_refusal_stays gs eph bytes more ZeroPlanes r = refusal_stays gs bytes more ZeroPlanes r
marked_refusal_stays gs eph bytes more Passes r = refusal_stays gs bytes more Passes r
marked_refusal_stays gs eph bytes more LengthBits r = refusal_stays gs bytes more LengthBits r
marked_refusal_stays gs eph bytes more CleanupShort r = refusal_stays gs bytes more CleanupShort r
marked_refusal_stays gs eph bytes more CleanupLong r = refusal_stays gs bytes more CleanupLong r
marked_refusal_stays gs eph bytes more RefineLong r = refusal_stays gs bytes more RefineLong r
marked_refusal_stays gs eph bytes more TooLong r = refusal_stays gs bytes more TooLong r
marked_refusal_stays gs eph bytes more NoEph r = record {
  asked = r.asked;
  rest = r.rest ++ more;
  begins = record {
    blocks = r.begins.blocks;
    header = r.begins.header;
    is_header = r.begins.is_header;
    whole = ap (λ (l : List ℕ). l ++ more) r.begins.whole ∙ append_assoc r.begins.header r.rest more;
  };
  other = other_stays r.rest more r.other;
}
