-- One step of the walk: what was read of all the bytes is read of those after one segment more.
use Rattle.std.proofs.Common.{◌≡◌, ◌<◌, ◌≤◌, ◌+◌, ◌-◌, ◌&&◌, ◌||◌, ℕ, zero, suc, min, Bool, true, false, not, List, [], ◌∷◌, ◌++◌, length, refl, sym, ◌∙◌, ap, inl, inr, subst, arith, append_assoc}
use Rattle.std.specs.Prelude.{◌==◌, None, Ok, if◌then◌else◌}
use Rattle.std.proofs.lemmas.Bool.{cases_Bool, eqb-true, eq-eqb, ltb-false, ne_eqb, and_left, or_parts, or_cases}
use Rattle.std.proofs.lemmas.List.{length-append, length-drop}
use Rattle.codestream_model.specs.Bytes.{two_at}
use Rattle.codestream_model.specs.Segments.{CAP, SIZ, COD, QCD, SOT, SOD, PLT, COM, Segment, segments_bytes, stands, content_of, segment_at, behind_segment}
use Rattle.codestream_model.specs.SegmentTests.{siz_tests, cod_tests, tile_tests, sot_psot}
use Rattle.codestream_model.specs.MainHeader.{stands_once, is_tile_marker, least_length, content_tests, Passes}
use Rattle.codestream_model.specs.MainHeaderReading.{head_of, read_main, read_tile}
use Rattle.codestream_model.specs.RefusedHeader.{refusal_next, refusal_behind}
use Rattle.codestream_model.proofs.TestLists.{MainFacts, main_facts, tile_facts}
use Rattle.codestream_model.proofs.HeaderSteps.{main_step, main_turns, tile_step, tile_ends, tile_not_sod}
use Rattle.j2k_markers.specs.declared.segments.Before.{Before}
use Rattle.j2k_markers.specs.declared.segments.Segment.{Segment as Piece}
use Rattle.j2k_markers.specs.Before.{IsKept, IsFront, IsSoundBefore}
use Rattle.j2k_markers.specs.Fields.{head_from}
use Rattle.j2k_markers.specs.Sound.{IsSoundSiz, IsSoundCod}
use Rattle.j2k_markers.specs.Walking.{ReadsMain, ReadsTile}
use Rattle.j2k_markers.proofs.Additions.{kept_with}
use Rattle.j2k_markers.proofs.SoundSegments.{sound_siz, sound_cod}

-- what is kept with one segment more
pub record Adds (w v : Before) (s : Piece) : Type 0 where
  pub at : v.at ≡ w.at + 4 + length s.content.now
  pub siz : v.siz.now ≡ (if s.marker == SIZ then s.content.now else w.siz.now)
  pub cap : v.cap.now ≡ (if s.marker == CAP then s.content.now else w.cap.now)
  pub cod : v.cod.now ≡ (if s.marker == COD then s.content.now else w.cod.now)
  pub qcd : v.qcd.now ≡ (if s.marker == QCD then s.content.now else w.qcd.now)
  pub qcd_at : v.qcd_at ≡ (if s.marker == QCD then w.at else w.qcd_at)

-- the segment in front as the definitions have it
piece_is : (s : Piece) (rest : List ℕ) → IsFront s rest → record { marker = s.marker; content = s.content.now } ≡ segment_at rest
piece_is s rest f =
    let m : s.marker ≡ two_at rest 0 = f.marker in
    let c : s.content.now ≡ (segment_at rest).content = f.content in
    let e : record { marker = s.marker; content = s.content.now } ≡ record { marker = two_at rest 0; content = (segment_at rest).content } = cc in
    e

-- a segment that is allowed once states at least four
least_four : (m : ℕ) → stands_once m ≡ true → 4 ≤ least_length m
least_four m once = elim (cases_Bool (m == SIZ)) [
  | inl siz ↦ rw siz (omega arith)
  | inr no_siz ↦ elim (cases_Bool (m == CAP)) [
    | inl cap ↦ rw (no_siz, cap) (omega arith)
    | inr no_cap ↦ elim (cases_Bool (m == COD)) [
      | inl cod ↦ rw (no_siz, no_cap, cod) (omega arith)
      | inr no_cod ↦ elim (cases_Bool (m == QCD)) [
        | inl qcd ↦ rw (no_siz, no_cap, no_cod, qcd) (omega arith)
        | inr no_qcd ↦ let other : stands_once m ≡ false = rw (no_siz, no_cap, no_cod, no_qcd) refl in absurd (cc)
      ]
    ]
  ]
]

-- the facts of a segment none of whose conditions is met
facts_of : (b : List ℕ) (before : List Segment) (rest : List ℕ) → refusal_next b before rest ≡ None → MainFacts before (two_at rest 0) (two_at rest 2) (length rest) (segment_at rest).content
facts_of b before rest none = main_facts b before (two_at rest 0) (two_at rest 2) (length rest) (segment_at rest).content none

-- it is kept
next_kept : (b : List ℕ) (w v : Before) (before : List Segment) (rest : List ℕ) (s : Piece) → IsKept w before → refusal_next b before rest ≡ None → IsFront s rest → Adds w v s → IsKept v (before ++ segment_at rest ∷ [])
next_kept b w v before rest s k none f a =
    let facts = facts_of b before rest none in
    let marker : two_at rest 0 ≡ s.marker = sym f.marker in
    let first : (length before == 0 && not (s.marker == SIZ)) ≡ false = ap (λ (m : ℕ). length before == 0 && not (m == SIZ)) (sym marker) ∙ facts.siz_first in
    let once : (stands_once s.marker && stands s.marker before) ≡ false = ap (λ (m : ℕ). stands_once m && stands m before) (sym marker) ∙ facts.once in
    let least : least_length (two_at rest 0) ≤ two_at rest 2 = ltb-false (two_at rest 2) (least_length (two_at rest 0)) facts.least in
    let stated : 2 + length s.content.now ≡ two_at rest 2 = f.stated in
    let kept = kept_with w v before (record { marker = s.marker; content = s.content.now }) k a.at a.siz a.cap a.cod a.qcd a.qcd_at first once (λ bound. let four : 4 ≤ least_length (two_at rest 0) = least_four (two_at rest 0) (ap stands_once marker ∙ bound) in omega arith) in
    let P : Segment → Type 0 = λ t. IsKept v (before ++ t ∷ []) in
    subst P (piece_is s rest f) kept

-- SIZ is sound with it
siz_sound : (b : List ℕ) (w v : Before) (before : List Segment) (rest : List ℕ) (s : Piece) → IsSoundBefore w → refusal_next b before rest ≡ None → IsFront s rest → Adds w v s → 0 < length v.siz.now → IsSoundSiz v.siz.now
siz_sound b w v before rest s sound none f a some = elim (cases_Bool (s.marker == SIZ)) [
  | inl here ↦
      let facts = facts_of b before rest none in
      let marker : two_at rest 0 ≡ SIZ = sym f.marker ∙ eqb-true s.marker SIZ here in
      let is : v.siz.now ≡ (segment_at rest).content = a.siz ∙ (rw here f.content) in
      let Q : ℕ → Type 0 = λ m. Passes (if m == SOT then tile_tests before (segment_at rest).content else content_tests m (segment_at rest).content) in
      let passes : Passes (siz_tests (segment_at rest).content) = subst Q marker facts.content in
      let least : least_length (two_at rest 0) ≤ two_at rest 2 = ltb-false (two_at rest 2) (least_length (two_at rest 0)) facts.least in
      let forty : least_length (two_at rest 0) ≡ 41 = ap least_length marker in
      let long : 39 ≤ length (segment_at rest).content = omega (arith, f.stated, ap length f.content) in
      let P : List ℕ → Type 0 = λ c. IsSoundSiz c in
      subst P (sym is) (sound_siz (segment_at rest).content long passes)
  | inr other ↦
      let is : v.siz.now ≡ w.siz.now = a.siz ∙ rw other refl in
      let P : List ℕ → Type 0 = λ c. IsSoundSiz c in
      subst P (sym is) (sound.siz (omega (arith, ap length is)))
]

-- and COD
cod_sound : (b : List ℕ) (w v : Before) (before : List Segment) (rest : List ℕ) (s : Piece) → IsSoundBefore w → refusal_next b before rest ≡ None → IsFront s rest → Adds w v s → 0 < length v.cod.now → IsSoundCod v.cod.now
cod_sound b w v before rest s sound none f a some = elim (cases_Bool (s.marker == COD)) [
  | inl here ↦
      let facts = facts_of b before rest none in
      let marker : two_at rest 0 ≡ COD = sym f.marker ∙ eqb-true s.marker COD here in
      let is : v.cod.now ≡ (segment_at rest).content = a.cod ∙ (rw here f.content) in
      let Q : ℕ → Type 0 = λ m. Passes (if m == SOT then tile_tests before (segment_at rest).content else content_tests m (segment_at rest).content) in
      let passes : Passes (cod_tests (segment_at rest).content) = subst Q marker facts.content in
      let least : least_length (two_at rest 0) ≤ two_at rest 2 = ltb-false (two_at rest 2) (least_length (two_at rest 0)) facts.least in
      let twelve : least_length (two_at rest 0) ≡ 12 = ap least_length marker in
      let long : 10 ≤ length (segment_at rest).content = omega (arith, f.stated, ap length f.content) in
      let P : List ℕ → Type 0 = λ c. IsSoundCod c in
      subst P (sym is) (sound_cod (segment_at rest).content long passes)
  | inr other ↦
      let is : v.cod.now ≡ w.cod.now = a.cod ∙ rw other refl in
      let P : List ℕ → Type 0 = λ c. IsSoundCod c in
      subst P (sym is) (sound.cod (omega (arith, ap length is)))
]

-- the place of QCD is within reach
qcd_within : (t : Bool) (q at place : ℕ) → q ≡ (if t then at else place) → at ≤ 8192 → place ≤ 8192 → q ≤ 8192
qcd_within true q at place e a p = omega arith
qcd_within false q at place e a p = omega arith

-- the numbers of what is left
record Left (b : List ℕ) (v : Before) (rest : List ℕ) (left : ℕ) : Type 0 where
  room : length rest ≤ left
  place : v.at + length rest ≡ min 8192 (length b)
  qcd_at : v.qcd_at ≤ 8192

-- with one segment more
left_next : (b : List ℕ) (w v : Before) (rest : List ℕ) (s : Piece) (left : ℕ) → IsFront s rest → Adds w v s → length rest ≤ suc left → w.at + length rest ≡ min 8192 (length b) → w.qcd_at ≤ 8192 → Left b v (behind_segment rest) left
left_next b w v rest s left f a room place qcd_at =
    let behind : length (behind_segment rest) ≡ length rest - (2 + two_at rest 2) = length-drop (2 + two_at rest 2) rest in
    let stated : 2 + length s.content.now ≡ two_at rest 2 = f.stated in
    let whole : 4 + length s.content.now ≤ length rest = f.whole in
    let at : v.at ≡ w.at + 4 + length s.content.now = a.at in
    record {
      room = omega arith;
      place = omega arith;
      qcd_at = qcd_within (s.marker == QCD) v.qcd_at w.at w.qcd_at a.qcd_at (omega arith) qcd_at;
    }

-- some segment is left to be read
more_left : (n : ℕ) → 0 < n → (k : ℕ) × (n ≡ suc k)
more_left zero some = absurd (omega arith)
more_left (suc k) some = (k, refl)

-- the walk up to SOT goes on
pub main_goes : (b : List ℕ) (w v : Before) (rest : List ℕ) (s : Piece) (r : ReadsMain b w rest) → refusal_next b r.before rest ≡ None → IsFront s rest → Adds w v s → (s.marker == SOT) ≡ false → ReadsMain b v (behind_segment rest)
main_goes b w v rest s r none f a no_sot =
    let more = more_left r.left (omega (arith, r.room, f.whole)) in
    let room : length rest ≤ suc more.0 = omega (arith, r.room, more.1) in
    let left = left_next b w v rest s more.0 f a room r.place r.qcd_at in
    let marker : (two_at rest 0 == SOT) ≡ false = ap (λ (m : ℕ). m == SOT) (sym f.marker) ∙ no_sot in
    record {
      before = r.before ++ segment_at rest ∷ [];
      left = more.0;
      kept = next_kept b w v r.before rest s r.kept none f a;
      sound = record { siz = siz_sound b w v r.before rest s r.sound none f a; cod = cod_sound b w v r.before rest s r.sound none f a };
      read = r.read ∙ (ap (λ (n : ℕ). read_main n b r.before rest) more.1 ∙ main_step more.0 b r.before rest none marker);
      room = left.room;
      place = left.place;
      qcd_at = left.qcd_at;
    }

-- a content that is not changed by another segment
not_changed : (m : ℕ) (s : Piece) (x y z : List ℕ) → (s.marker == m) ≡ false → y ≡ (if s.marker == m then s.content.now else x) → x ≡ z → y ≡ z
not_changed m s x y z other e f = e ∙ rw other f

-- or it comes to SOT
pub main_ends : (b : List ℕ) (w v : Before) (rest : List ℕ) (s : Piece) (r : ReadsMain b w rest) → refusal_next b r.before rest ≡ None → IsFront s rest → Adds w v s → (s.marker == SOT) ≡ true → length s.content.now ≡ 8 → IsSoundSiz w.siz.now → IsSoundCod w.cod.now → ReadsTile b v s.content.now w.at (behind_segment rest)
main_ends b w v rest s r none f a sot eight siz cod =
    let more = more_left r.left (omega (arith, r.room, f.whole)) in
    let room : length rest ≤ suc more.0 = omega (arith, r.room, more.1) in
    let left = left_next b w v rest s more.0 f a room r.place r.qcd_at in
    let is_sot : s.marker ≡ SOT = eqb-true s.marker SOT sot in
    let marker : (two_at rest 0 == SOT) ≡ true = ap (λ (m : ℕ). m == SOT) (sym f.marker) ∙ sot in
    let same_siz : v.siz.now ≡ w.siz.now = not_changed SIZ s w.siz.now v.siz.now w.siz.now (ap (λ (m : ℕ). m == SIZ) is_sot) a.siz refl in
    let same_cod : v.cod.now ≡ w.cod.now = not_changed COD s w.cod.now v.cod.now w.cod.now (ap (λ (m : ℕ). m == COD) is_sot) a.cod refl in
    let P : List ℕ → Type 0 = λ c. IsSoundSiz c in
    let Q : List ℕ → Type 0 = λ c. IsSoundCod c in
    record {
      main = r.before;
      first = segment_at rest;
      skipped = [];
      left = more.0;
      kept = next_kept b w v r.before rest s r.kept none f a;
      siz = same_siz ∙ r.kept.siz;
      cod = same_cod ∙ r.kept.cod;
      tile_is = f.content;
      sot_is = r.kept.place;
      eight = eight;
      sot_fits = omega (arith, r.place);
      sound_siz = subst P (sym same_siz) siz;
      sound_cod = subst Q (sym same_cod) cod;
      read = r.read ∙ (ap (λ (n : ℕ). read_main n b r.before rest) more.1 ∙ main_turns more.0 b r.before rest none marker);
      room = left.room;
      place = left.place;
      qcd_at = left.qcd_at;
    }

-- no segment that is allowed after SOT is one that is allowed once
tile_not_once : (m : ℕ) → is_tile_marker m ≡ true → stands_once m ≡ false
tile_not_once m known = elim (or_cases (m == PLT) (m == COM) known) [
  | inl lengths ↦ ap stands_once (eqb-true m PLT lengths)
  | inr comment ↦ ap stands_once (eqb-true m COM comment)
]

-- a marker that is none of the four
none_of_four : (m : ℕ) → stands_once m ≡ false → ((m == SIZ) ≡ false) × ((m == COD) ≡ false)
none_of_four m e =
    let p = or_parts (m == SIZ || m == CAP || m == COD) (m == QCD) e in
    let q = or_parts (m == SIZ || m == CAP) (m == COD) p.0 in
    ((or_parts (m == SIZ) (m == CAP) q.0).0, q.1)

-- a segment after SOT is kept too
behind_kept : (w v : Before) (before : List Segment) (rest : List ℕ) (s : Piece) → IsKept w before → 0 < length before → IsFront s rest → is_tile_marker s.marker ≡ true → Adds w v s → IsKept v (before ++ segment_at rest ∷ [])
behind_kept w v before rest s k long f known a =
    let free : stands_once s.marker ≡ false = tile_not_once s.marker known in
    let kept = kept_with w v before (record { marker = s.marker; content = s.content.now }) k a.at a.siz a.cap a.cod a.qcd a.qcd_at
    (and_left (length before == 0) (not (s.marker == SIZ)) (ne_eqb (length before) 0 (λ e. omega arith)))
    (and_left (stands_once s.marker) (stands s.marker before) free)
    (λ bound. absurd (cc)) in
    let P : Segment → Type 0 = λ t. IsKept v (before ++ t ∷ []) in
    subst P (piece_is s rest f) kept

-- the walk after SOT goes on
pub tile_goes : (b : List ℕ) (w v : Before) (tile : List ℕ) (sot : ℕ) (rest : List ℕ) (s : Piece) → ReadsTile b w tile sot rest → refusal_behind b rest ≡ None → IsFront s rest → is_tile_marker s.marker ≡ true → Adds w v s → ReadsTile b v tile sot (behind_segment rest)
tile_goes b w v tile sot rest s r none f known a =
    let more = more_left r.left (omega (arith, r.room, f.whole)) in
    let room : length rest ≤ suc more.0 = omega (arith, r.room, more.1) in
    let left = left_next b w v rest s more.0 f a room r.place r.qcd_at in
    let parts = none_of_four s.marker (tile_not_once s.marker known) in
    let same_siz : v.siz.now ≡ w.siz.now = not_changed SIZ s w.siz.now v.siz.now w.siz.now parts.0 a.siz refl in
    let same_cod : v.cod.now ≡ w.cod.now = not_changed COD s w.cod.now v.cod.now w.cod.now parts.1 a.cod refl in
    let no_sod : (two_at rest 0 == SOD) ≡ false = ap (λ (m : ℕ). m == SOD) (sym f.marker) ∙ tile_not_sod s.marker known in
    let joined : (r.main ++ r.first ∷ r.skipped) ++ segment_at rest ∷ [] ≡ r.main ++ r.first ∷ (r.skipped ++ segment_at rest ∷ []) = append_assoc r.main (r.first ∷ r.skipped) (segment_at rest ∷ []) in
    let kept = behind_kept w v (r.main ++ r.first ∷ r.skipped) rest s r.kept (omega (arith, length-append r.main (r.first ∷ r.skipped))) f known a in
    let K : List Segment → Type 0 = λ l. IsKept v l in
    let P : List ℕ → Type 0 = λ c. IsSoundSiz c in
    let Q : List ℕ → Type 0 = λ c. IsSoundCod c in
    record {
      main = r.main;
      first = r.first;
      skipped = r.skipped ++ segment_at rest ∷ [];
      left = more.0;
      kept = subst K joined kept;
      siz = same_siz ∙ r.siz;
      cod = same_cod ∙ r.cod;
      tile_is = r.tile_is;
      sot_is = r.sot_is;
      eight = r.eight;
      sot_fits = r.sot_fits;
      sound_siz = subst P (sym same_siz) r.sound_siz;
      sound_cod = subst Q (sym same_cod) r.sound_cod;
      read = r.read ∙ (ap (λ (n : ℕ). read_tile n b r.main r.first r.skipped rest) more.1 ∙ tile_step more.0 b r.main r.first r.skipped rest none no_sod);
      room = left.room;
      place = left.place;
      qcd_at = left.qcd_at;
    }

-- two bytes are there
pub two_there : (b rest : List ℕ) → refusal_behind b rest ≡ None → 2 ≤ length rest
two_there b rest none = ltb-false (length rest) 2 (tile_facts b (two_at rest 0) (two_at rest 2) (length rest) none).marker_there

-- or it ends with SOD
pub tile_whole : (b : List ℕ) (w : Before) (tile : List ℕ) (sot : ℕ) (rest : List ℕ) → ReadsTile b w tile sot rest → refusal_behind b rest ≡ None → two_at rest 0 ≡ SOD → head_of b ≡ Ok (head_from w.siz.now w.cod.now (sot_psot tile) sot (w.at + 2))
tile_whole b w tile sot rest r none sod =
    let more = more_left r.left (omega (arith, r.room, two_there b rest none)) in
    let place : w.at ≡ 2 + length (segments_bytes (r.main ++ r.first ∷ r.skipped)) = r.kept.place in
    r.read
    ∙ (ap (λ (n : ℕ). read_tile n b r.main r.first r.skipped rest) more.1
    ∙ (tile_ends more.0 b r.main r.first r.skipped rest none (eq-eqb (two_at rest 0) SOD sod)
    ∙ (ap (λ (n : ℕ). Ok (head_from (content_of SIZ r.main) (content_of COD r.main) (sot_psot r.first.content) (2 + length (segments_bytes r.main)) (n + 2))) (sym place)
    ∙ (ap (λ (n : ℕ). Ok (head_from (content_of SIZ r.main) (content_of COD r.main) (sot_psot r.first.content) n (w.at + 2))) (sym r.sot_is)
    ∙ (ap (λ (c : List ℕ). Ok (head_from (content_of SIZ r.main) (content_of COD r.main) (sot_psot c) sot (w.at + 2))) (sym r.tile_is)
    ∙ (ap (λ (c : List ℕ). Ok (head_from c (content_of COD r.main) (sot_psot tile) sot (w.at + 2))) (sym r.siz)
    ∙ ap (λ (c : List ℕ). Ok (head_from w.siz.now c (sot_psot tile) sot (w.at + 2))) (sym r.cod)))))))
