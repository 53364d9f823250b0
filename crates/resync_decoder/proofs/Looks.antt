-- What is found at the front of bytes.
use Rattle.std.proofs.Common.{◌≡◌, ◌≤◌, ◌<◌, ◌+◌, ◌-◌, ◌==◌, ◌≢◌, ℕ, true, false, inl, inr, List, [], ◌∷◌, ◌++◌, map, length, take, drop, Bool, Option, Some, None, nat_lt, nat_le, refl, sym, ◌∙◌, ap, subst, arith, length-append, if◌then◌else◌}
use Rattle.std.proofs.lemmas.Bool.{lt-ltb, le-ltb}
use Rattle.std.proofs.lemmas.List.{take-append-drop, take-append-le, length-take-le, length-drop}
use Rattle.std.proofs.Math.Seq.{take-length}
use Rattle.std.proofs.lemmas.Bool.Decides.{eqb_tells}
use Rattle.codestream_model.specs.Values.{Head, Place, Grid}
use Rattle.codestream_model.specs.Values as values
use Rattle.codestream_model.specs.Precincts.{grids}
use Rattle.codestream_model.specs.Packet.{block_count, segment_bytes}
use Rattle.codestream_model.specs.PacketHeaderReading.{HeaderReading, Done, Need, Bad}
use Rattle.codestream_model.specs.MarkedHeader.{marked_header_of}
use Rattle.codestream_model.proofs.ItemsJudged.{unfinished_short}
use Rattle.stream_model.specs.Decoder.{Found, Whole, Part, Other, found_packet, found_header, found_segments}
use Rattle.stream_model.proofs.PacketsFound.{found_some}
use Rattle.packet_header.specs.Answers.{block_of, why_of, Tells}
use Rattle.packet_header.specs.declared.block.Block.{Block}
use Rattle.packet_header.specs.declared.refusal.HeaderWhy.{HeaderWhy}
use Rattle.packet_header.specs.declared.refusal.HeaderOut.{HeaderOut}
use Rattle.packet_header.specs.declared.refusal.HeaderOut.TheVariants as out
use Rattle.resync_decoder.specs.declared.found.Found as code
use Rattle.resync_decoder.specs.declared.found.Found.TheVariants as found
use Rattle.codestream_model.specs.Bytes.{IsBytes}
use Rattle.stream_model.proofs.PacketsFound.{found_is}
use Rattle.stream_model.proofs.Settles.{whole_size}
use Rattle.codestream_model.specs.MarkedHeader.{SpellsMarkedHeader}
use Rattle.codestream_model.proofs.Marked.{marked_read}
use Rattle.codestream_model.proofs.OwnBands.{own_bands}
use Rattle.packet_header.specs.Headers.{ReaderState, grids_of, counted_out, IsSameHeader, IsFed, AnswersFor, EndsIn}
use Rattle.precinct_geometry.specs.Spans.{place_of}
use Rattle.precinct_geometry.specs.declared.place.Place as code_place
use Rattle.resync_decoder.specs.declared.found.Progress.{Progress}
use Rattle.resync_decoder.specs.declared.found.Progress.TheVariants.{Unread, Begun, Read}
use Rattle.resync_decoder.specs.declared.found.Finder.{Finder}
use Rattle.resync_decoder.specs.InForce.{InForce}
use Rattle.resync_decoder.specs.Views.{IsReadSoFar}
use Rattle.resync_decoder.specs.Finding.{Finds, IsFound, found_by, IsBegun, IsPartRead, IsHeaderRead, IsReadUpTo, Answers}

-- without bytes
pub finds_none : (h : Head) (p : Place) (bytes : List ℕ) (held : List Block) → length bytes ≡ 0 → Finds (found_packet h p bytes) found.Part held
unfolding found_packet
finds_none h p [] held e = refl
finds_none h p (b ∷ bytes) held e = absurd (omega arith)

-- with too many code-blocks
pub finds_many : (h : Head) (p : Place) (bytes : List ℕ) (held : List Block) → 1 ≤ length bytes → 65536 < block_count (grids h p) → Finds (found_packet h p bytes) found.Other held
finds_many h p bytes held some many =
    let t : nat_lt 65536 (block_count (grids h p)) ≡ true = lt-ltb 65536 (block_count (grids h p)) many in
    let e : found_packet h p bytes ≡ Other = found_some h p bytes some ∙ ap (λ (b : Bool). if b then Other else found_header bytes (marked_header_of (grids h p) h.eph bytes)) t in
    let F : Found → Type 0 = λ f. Finds f found.Other held in
    subst F (sym e) refl

-- what the header says
few_found : (h : Head) (p : Place) (bytes : List ℕ) → 1 ≤ length bytes → block_count (grids h p) ≤ 65536 → found_packet h p bytes ≡ found_header bytes (marked_header_of (grids h p) h.eph bytes)
few_found h p bytes some few =
    let t : nat_lt 65536 (block_count (grids h p)) ≡ false = le-ltb 65536 (block_count (grids h p)) few in
    found_some h p bytes some ∙ ap (λ (b : Bool). if b then Other else found_header bytes (marked_header_of (grids h p) h.eph bytes)) t

sized : (bytes : List ℕ) (blocks : List values.Block) (header size : ℕ) (held : List Block) → map block_of held ≡ blocks → Finds (found_segments bytes blocks header size) (found_by size header (length bytes)) held
sized bytes blocks header size held e = elim (nat_lt 16777216 size) as (λ b. Finds (if b then Other else if nat_le size (length bytes) then Whole blocks header size else Part) (if b then found.Other else if nat_le size (length bytes) then found.Whole header size else found.Part) held) [
  | true ↦ refl
  | false ↦ elim (nat_le size (length bytes)) as (λ b. Finds (if b then Whole blocks header size else Part) (if b then found.Whole header size else found.Part) held) [ true ↦ (refl, e) | false ↦ refl ]
]

done_same : (a b : ℕ) → out.Done a ≡ out.Done b → a ≡ b
done_same a b e = cc

-- the answer of the reader decides
answered : (bytes : List ℕ) (r : HeaderReading) (answer : HeaderOut) (held : List Block) → Tells r answer held
    → ((used : ℕ) → answer ≡ out.Done used → Finds (found_header bytes r) (found_by (used + segment_bytes (map block_of held)) used (length bytes)) held)
    × (answer ≡ out.Need → Finds (found_header bytes r) found.Part held)
    × ((why : HeaderWhy) → answer ≡ out.Bad why → Finds (found_header bytes r) found.Other held)
answered bytes (Done used blocks) answer held (e, same) = (
  λ u f. (let n : used ≡ u = done_same used u (sym e ∙ f) in
      let F : ℕ → Type 0 = λ k. Finds (found_segments bytes blocks used (used + segment_bytes blocks)) (found_by (k + segment_bytes (map block_of held)) k (length bytes)) held in
      let G : List values.Block → Type 0 = λ l. Finds (found_segments bytes blocks used (used + segment_bytes blocks)) (found_by (used + segment_bytes l) used (length bytes)) held in
      subst F n (subst G (sym same) (sized bytes blocks used (used + segment_bytes blocks) held same))),
  λ f. (let g : out.Done used ≡ out.Need = sym e ∙ f in absurd (cc)),
  λ why f. (let g : out.Done used ≡ out.Bad why = sym e ∙ f in absurd (cc)),
)
answered bytes Need answer held e = (
  λ u f. (let g : out.Need ≡ out.Done u = sym e ∙ f in absurd (cc)),
  λ f. refl,
  λ why f. (let g : out.Need ≡ out.Bad why = sym e ∙ f in absurd (cc)),
)
answered bytes (Bad w) answer held e = (
  λ u f. (let g : out.Bad (why_of w) ≡ out.Done u = sym e ∙ f in absurd (cc)),
  λ f. (let g : out.Bad (why_of w) ≡ out.Need = sym e ∙ f in absurd (cc)),
  λ why f. refl,
)

pub finds_by : (h : Head) (p : Place) (bytes : List ℕ) (gs : List Grid) (eph : Bool) (answer : HeaderOut) (held : List Block) → 1 ≤ length bytes → block_count (grids h p) ≤ 65536 → gs ≡ grids h p → eph ≡ h.eph → Tells (marked_header_of gs eph bytes) answer held
    → ((used : ℕ) → answer ≡ out.Done used → Finds (found_packet h p bytes) (found_by (used + segment_bytes (map block_of held)) used (length bytes)) held)
    × (answer ≡ out.Need → Finds (found_packet h p bytes) found.Part held)
    × ((why : HeaderWhy) → answer ≡ out.Bad why → Finds (found_packet h p bytes) found.Other held)
finds_by h p bytes gs eph answer held some few same asked tells =
    let e : found_packet h p bytes ≡ found_header bytes (marked_header_of gs eph bytes) =
    few_found h p bytes some few ∙ sym (ap (λ g. found_header bytes (marked_header_of g eph bytes)) same ∙ ap (λ b. found_header bytes (marked_header_of (grids h p) b bytes)) asked) in
    let a = answered bytes (marked_header_of gs eph bytes) answer held tells in
    let F : code.Found → Found → Type 0 = λ x f. Finds f x held in (
      λ u f. subst (F (found_by (u + segment_bytes (map block_of held)) u (length bytes))) (sym e) (a.0 u f),
      λ f. subst (F found.Part) (sym e) (a.1 f),
      λ why f. subst (F found.Other) (sym e) (a.2 why f),
    )

-- there is a byte
pub some_bytes : (bytes : List ℕ) → (length bytes == 0) ≡ false → 1 ≤ length bytes
some_bytes bytes e = elim (eqb_tells (length bytes) 0) [ inl u ↦ (let f : true ≡ false = sym u.0 ∙ e in absurd (cc)) | inr u ↦ (let n : length bytes ≢ 0 = u.1 in omega arith) ]

-- what is found is within the bytes
found_within : (h : Head) (p : Place) (bytes : List ℕ) (f : Found) (r : code.Found) (held : List Block) → IsBytes bytes → found_packet h p bytes ≡ f → Finds f r held → IsFound r (length bytes)
found_within h p bytes (Whole blocks header size) r held b e (is, same) =
    let w = whole_size h p bytes blocks header size b e in
    let P : code.Found → Type 0 = λ x. IsFound x (length bytes) in
    subst P (sym is) (w.2, w.1)
found_within h p bytes Part r held b e is =
    let P : code.Found → Type 0 = λ x. IsFound x (length bytes) in
    subst P (sym is) (elim ((found_is h p bytes Part b).0 e) [
      | inl none ↦ (let z = ap (λ (l : List ℕ). length l) none in omega (arith, z))
      | inr needs ↦ elim needs.unfinished [
        | inl header ↦ omega (arith, unfinished_short h p bytes header)
        | inr segments ↦ (let w = ap (λ (l : List ℕ). length l) segments.begins.whole in let n = length-append segments.header segments.rest in omega (arith, w, n, segments.fits, segments.lacks))
      ]
    ])
found_within h p bytes Other r held b e is =
    let P : code.Found → Type 0 = λ x. IsFound x (length bytes) in
    subst P (sym is) tt

pub within : (h : Head) (p : Place) (bytes : List ℕ) (r : code.Found) (held : List Block) → IsBytes bytes → Finds (found_packet h p bytes) r held → IsFound r (length bytes)
within h p bytes r held b f = found_within h p bytes (found_packet h p bytes) r held b refl f

-- nothing of bytes
take_none : (bytes : List ℕ) → take 0 bytes ≡ []
take_none [] = refl
take_none (b ∷ bytes) = refl

-- A header was begun, and nothing was read of it.
pub part_begun : (h : Head) (p : Place) (r : ReaderState) (bytes : List ℕ) → 1 ≤ length bytes → block_count (grids h p) ≤ 65536 → grids_of r ≡ grids h p → r.eph ≡ h.eph → IsFed r [] → IsPartRead r h p 0 bytes
part_begun h p r bytes some few same eph fed =
    let B : List ℕ → Type 0 = λ l. IsFed r l in
    record { begun = record { some = some; few = few }; within = omega arith; grids = same; eph = eph; fed = subst B (sym (take_none bytes)) fed }

-- What the answer of the reader means for the packet.
answered_by : (h : Head) (p : Place) (bytes : List ℕ) (r : ReaderState) (n : ℕ) (o : HeaderOut) (result : code.Found) (progress : Progress) → IsBegun h p bytes
    → Tells (marked_header_of (grids h p) h.eph bytes) (counted_out n o) r.blocks
    → ((used : ℕ) → o ≡ out.Done used → (n + used ≤ length bytes) × SpellsMarkedHeader (grids h p) h.eph (map block_of r.blocks) (take (n + used) bytes))
    → (o ≡ out.Need → (grids_of r ≡ grids h p) × (r.eph ≡ h.eph) × IsFed r bytes)
    → Answers n (length bytes) r.blocks o result progress → Finds (found_packet h p bytes) result r.blocks × IsReadUpTo progress r h p bytes
answered_by h p bytes r n (out.Done used) result progress begun tells spells fed (is, now) =
    let F : code.Found → Type 0 = λ x. Finds (found_packet h p bytes) x r.blocks in
    let Q : Progress → Type 0 = λ q. IsReadUpTo q r h p bytes in
    let found = (finds_by h p bytes (grids h p) h.eph (out.Done (n + used)) r.blocks begun.some begun.few refl refl tells).0 (n + used) refl in
    let s = spells used refl in
    (subst F (sym is) found, subst Q (sym now) (record { begun = begun; within = s.0; header = s.1 }))
answered_by h p bytes r n out.Need result progress begun tells spells fed (is, now) =
    let F : code.Found → Type 0 = λ x. Finds (found_packet h p bytes) x r.blocks in
    let Q : Progress → Type 0 = λ q. IsReadUpTo q r h p bytes in
    let B : List ℕ → Type 0 = λ l. IsFed r l in
    let found = (finds_by h p bytes (grids h p) h.eph out.Need r.blocks begun.some begun.few refl refl tells).1 refl in
    let f = fed refl in
    (subst F (sym is) found, subst Q (sym now) (record { begun = begun; within = omega arith; grids = f.0; eph = f.1; fed = subst B (sym (take-length bytes)) f.2 }))
answered_by h p bytes r n (out.Bad why) result progress begun tells spells fed (is, now) =
    let F : code.Found → Type 0 = λ x. Finds (found_packet h p bytes) x r.blocks in
    let Q : Progress → Type 0 = λ q. IsReadUpTo q r h p bytes in
    let found = (finds_by h p bytes (grids h p) h.eph (out.Bad why) r.blocks begun.some begun.few refl refl tells).2 why refl in
    (subst F (sym is) found, subst Q (sym now) tt)

-- the bytes from a place to their end
pub rest_is : (n : ℕ) (bytes : List ℕ) → take (length bytes - n) (drop n bytes) ≡ drop n bytes
rest_is n bytes = ap (λ k. take k (drop n bytes)) (sym (length-drop n bytes)) ∙ take-length (drop n bytes)

-- A reader was fed a further piece, and answered so.
pub record IsFedOn (old new : ReaderState) (n : ℕ) (bytes piece : List ℕ) (o : HeaderOut) : Type 0 where
  pub piece_is : piece ≡ drop n bytes
  pub answers : (before : List ℕ) → IsFed old before → AnswersFor (grids_of old) old.eph before piece o new.blocks
  pub inside : EndsIn piece o
  pub fed : o ≡ out.Need → (before : List ℕ) → IsFed old before → IsFed new (before ++ piece)
  pub same : IsSameHeader old new

-- The header ends within the bytes.
pub used_within : (n used : ℕ) (bytes piece : List ℕ) (o : HeaderOut) → piece ≡ drop n bytes → n ≤ length bytes → EndsIn piece o → o ≡ out.Done used → n + used ≤ length bytes
used_within n used bytes piece o is low inside e =
    let a = ap (λ (l : List ℕ). length l) is in
    let b = length-drop n bytes in
    let c = inside used e in
    omega (arith, a, b, c, low)

-- So the packet was looked for on.
pub fed_on : (h : Head) (p : Place) (old new : ReaderState) (n : ℕ) (bytes piece : List ℕ) (o : HeaderOut) (result : code.Found) (progress : Progress) → IsPartRead old h p n bytes → IsFedOn old new n bytes piece o
    → Answers n (length bytes) new.blocks o result progress → Finds (found_packet h p bytes) result new.blocks × IsReadUpTo progress new h p bytes
fed_on h p old new n bytes piece o result progress part f answer =
    let front = take n bytes in
    let whole : front ++ piece ≡ bytes = ap (λ l. front ++ l) f.piece_is ∙ take-append-drop n bytes in
    let size : length front ≡ n = length-take-le n bytes part.within in
    let a = f.answers front part.fed in
    let G : List Grid → Type 0 = λ g. Tells (marked_header_of g old.eph (front ++ piece)) (counted_out (length front) o) new.blocks in
    let E : Bool → Type 0 = λ e. Tells (marked_header_of (grids h p) e (front ++ piece)) (counted_out (length front) o) new.blocks in
    let L : List ℕ → Type 0 = λ l. Tells (marked_header_of (grids h p) h.eph l) (counted_out (length front) o) new.blocks in
    let N : ℕ → Type 0 = λ k. Tells (marked_header_of (grids h p) h.eph bytes) (counted_out k o) new.blocks in
    let tells = subst N size (subst L whole (subst E part.eph (subst G part.grids a.judged))) in
    let spells = λ (used : ℕ) (e : o ≡ out.Done used).
    (let S : List Grid → Type 0 = λ g. SpellsMarkedHeader g old.eph (map block_of new.blocks) (take (length front + used) (front ++ piece)) in
    let T : Bool → Type 0 = λ b. SpellsMarkedHeader (grids h p) b (map block_of new.blocks) (take (length front + used) (front ++ piece)) in
    let U : List ℕ → Type 0 = λ l. SpellsMarkedHeader (grids h p) h.eph (map block_of new.blocks) (take (length front + used) l) in
    let V : ℕ → Type 0 = λ k. SpellsMarkedHeader (grids h p) h.eph (map block_of new.blocks) (take (k + used) bytes) in
    let w = used_within n used bytes piece o f.piece_is part.within f.inside e in
    let s = subst V size (subst U whole (subst T part.eph (subst S part.grids (a.found used e)))) in
    let both : (n + used ≤ length bytes) × SpellsMarkedHeader (grids h p) h.eph (map block_of new.blocks) (take (n + used) bytes) = (w, s) in both) in
    let B : List ℕ → Type 0 = λ l. IsFed new l in
    let fed = λ (e : o ≡ out.Need).
    (let all : (grids_of new ≡ grids h p) × (new.eph ≡ h.eph) × IsFed new bytes = (f.same.grids ∙ part.grids, f.same.eph ∙ part.eph, subst B whole (f.fed e front part.fed)) in all) in
    answered_by h p bytes new n o result progress part.begun tells spells fed answer

-- A header that was read is found, however many bytes follow.
pub header_found : (h : Head) (p : Place) (r : ReaderState) (n : ℕ) (bytes : List ℕ) → IsHeaderRead r h p n bytes → Finds (found_packet h p bytes) (found_by (n + segment_bytes (map block_of r.blocks)) n (length bytes)) r.blocks
header_found h p r n bytes k =
    let gs = grids h p in
    let blocks = map block_of r.blocks in
    let size : length (take n bytes) ≡ n = length-take-le n bytes k.within in
    let read : marked_header_of gs h.eph bytes ≡ Done n blocks =
    ap (marked_header_of gs h.eph) (sym (take-append-drop n bytes)) ∙ (marked_read gs h.eph blocks (take n bytes) (drop n bytes) (own_bands h p) k.header ∙ ap (λ m. Done m blocks) size) in
    let e : found_packet h p bytes ≡ found_segments bytes blocks n (n + segment_bytes blocks) = few_found h p bytes k.begun.some k.begun.few ∙ ap (found_header bytes) read in
    let F : Found → Type 0 = λ f. Finds f (found_by (n + segment_bytes blocks) n (length bytes)) r.blocks in
    subst F (sym e) (sized bytes blocks n (n + segment_bytes blocks) r.blocks refl)

-- What was read stays read where bytes are appended.
begun_grows : (h : Head) (p : Place) (bytes more : List ℕ) → IsBegun h p bytes → IsBegun h p (bytes ++ more)
begun_grows h p bytes more b = let n = length-append bytes more in record { some = omega (arith, b.some, n); few = b.few }

read_grows : (q : Progress) (r : ReaderState) (h : Head) (p : Place) (bytes more : List ℕ) → IsReadUpTo q r h p bytes → IsReadUpTo q r h p (bytes ++ more)
read_grows Unread r h p bytes more k = tt
read_grows (Begun n) r h p bytes more k =
    let size = length-append bytes more in
    let B : List ℕ → Type 0 = λ l. IsFed r l in
    record { begun = begun_grows h p bytes more k.begun; within = omega (arith, k.within, size); grids = k.grids; eph = k.eph; fed = subst B (sym (take-append-le n bytes more k.within)) k.fed }
read_grows (Read n) r h p bytes more k =
    let size = length-append bytes more in
    let S : List ℕ → Type 0 = λ l. SpellsMarkedHeader (grids h p) h.eph (map block_of r.blocks) l in
    record { begun = begun_grows h p bytes more k.begun; within = omega (arith, k.within, size); header = subst S (sym (take-append-le n bytes more k.within)) k.header }

-- So it is of the run's next precinct.
pub so_far_grows : (f : Finder) (o : Option code_place.Place) (c : Option InForce) (bytes more all : List ℕ) → all ≡ bytes ++ more → IsReadSoFar f o c bytes → IsReadSoFar f o c all
so_far_grows f None c bytes more all e k = tt
so_far_grows f (Some p) None bytes more all e k = tt
so_far_grows f (Some p) (Some c) bytes more all e k =
    let P : List ℕ → Type 0 = λ l. IsReadUpTo f.progress f.reader c.head (place_of p) l in
    subst P (sym e) (read_grows f.progress f.reader c.head (place_of p) bytes more k)

-- Nothing of the next packet was read yet.
pub so_far_unread : (f : Finder) (o : Option code_place.Place) (c : Option InForce) (bytes : List ℕ) → f.progress ≡ Unread → IsReadSoFar f o c bytes
so_far_unread f None c bytes e = tt
so_far_unread f (Some p) None bytes e = tt
so_far_unread f (Some p) (Some c) bytes e = let P : Progress → Type 0 = λ q. IsReadUpTo q f.reader c.head (place_of p) bytes in subst P (sym e) tt

-- The same of a run and a main header that are there.
pub so_far_of : (f : Finder) (o : Option code_place.Place) (i : Option InForce) (p : code_place.Place) (c : InForce) (bytes : List ℕ) → o ≡ Some p → i ≡ Some c → IsReadSoFar f o i bytes → IsReadUpTo f.progress f.reader c.head (place_of p) bytes
so_far_of f o i p c bytes e g k =
    let P : Option code_place.Place → Type 0 = λ x. IsReadSoFar f x i bytes in
    let Q : Option InForce → Type 0 = λ x. IsReadSoFar f (Some p) x bytes in
    subst Q g (subst P e k)

pub so_far_is : (f : Finder) (o : Option code_place.Place) (i : Option InForce) (p : code_place.Place) (c : InForce) (bytes : List ℕ) → o ≡ Some p → i ≡ Some c → IsReadUpTo f.progress f.reader c.head (place_of p) bytes → IsReadSoFar f o i bytes
so_far_is f o i p c bytes e g k =
    let P : Option code_place.Place → Type 0 = λ x. IsReadSoFar f x i bytes in
    let Q : Option InForce → Type 0 = λ x. IsReadSoFar f (Some p) x bytes in
    subst P (sym e) (subst Q (sym g) k)

-- A progress that is known.
pub progress_is : (q t : Progress) (r : ReaderState) (h : Head) (p : Place) (bytes : List ℕ) → q ≡ t → IsReadUpTo q r h p bytes → IsReadUpTo t r h p bytes
progress_is q t r h p bytes e k = let P : Progress → Type 0 = λ x. IsReadUpTo x r h p bytes in subst P e k
