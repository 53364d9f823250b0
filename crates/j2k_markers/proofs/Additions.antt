-- One segment more is kept as the walk keeps it.
use Rattle.std.proofs.Common.{◌≡◌, ◌<◌, ◌+◌, ◌&&◌, ℕ, true, false, not, List, [], ◌∷◌, ◌++◌, length, refl, sym, ◌∙◌, ap, inl, inr, arith}
use Rattle.std.specs.Prelude.{◌==◌, nat_lt, if◌then◌else◌}
use Rattle.std.proofs.lemmas.Bool.{cases_Bool, eqb-true, and_cases, lt-ltb, ne_eqb}
use Rattle.std.proofs.lemmas.List.{length-append}
use Rattle.codestream_model.specs.Segments.{CAP, SIZ, COD, QCD, Segment, segments_bytes, stands, content_of, offset_of}
use Rattle.codestream_model.specs.MainHeader.{stands_once}
use Rattle.j2k_markers.specs.declared.segments.Before.{Before}
use Rattle.j2k_markers.specs.Before.{place_of_qcd, IsKept}
use Rattle.j2k_markers.proofs.Contents.{content_here, content_other, content_with, offset_none, offset_some, offset_here, stands_here, stands_other, length_with}

-- a segment that is allowed once was not there before
not_yet : (before : List Segment) (s : Segment) → (stands_once s.marker && stands s.marker before) ≡ false → (m : ℕ) → stands_once m ≡ true → (s.marker == m) ≡ true → stands m before ≡ false
not_yet before s once m bound here =
    let same : s.marker ≡ m = eqb-true s.marker m here in
    let e : (stands_once m && stands m before) ≡ false = ap (λ (k : ℕ). stands_once k && stands k before) (sym same) ∙ once in
    elim (and_cases (stands_once m) (stands m before) e) [ inl free ↦ absurd (cc) | inr none ↦ none ]

-- the content that is kept of one that is allowed once
content_added : (m : ℕ) (x y : List ℕ) (before : List Segment) (s : Segment) → (stands_once s.marker && stands s.marker before) ≡ false → stands_once m ≡ true → x ≡ content_of m before → y ≡ (if s.marker == m then s.content else x) → y ≡ content_of m (before ++ s ∷ [])
content_added m x y before s once bound kept e =
    e ∙ (ap (λ (z : List ℕ). if s.marker == m then s.content else z) kept ∙ sym (content_with m before s (not_yet before s once m bound)))

-- one that is allowed once is there where its content is not empty
stood_added : (before : List Segment) (s : Segment) → (stands_once s.marker && stands s.marker before) ≡ false → (stands_once s.marker ≡ true → 0 < length s.content) → ((m : ℕ) → stands_once m ≡ true → stands m before ≡ nat_lt 0 (length (content_of m before))) → (m : ℕ) → stands_once m ≡ true → stands m (before ++ s ∷ []) ≡ nat_lt 0 (length (content_of m (before ++ s ∷ [])))
stood_added before s once some stood m bound = elim (cases_Bool (s.marker == m)) [
  | inl here ↦
      let same : s.marker ≡ m = eqb-true s.marker m here in
      let long : 0 < length s.content = some (ap stands_once same ∙ bound) in
      stands_here m before s here ∙ sym (ap (λ (c : List ℕ). nat_lt 0 (length c)) (content_here m before s (not_yet before s once m bound here) here) ∙ lt-ltb 0 (length s.content) long)
  | inr other ↦ stands_other m before s other ∙ (stood m bound ∙ ap (λ (c : List ℕ). nat_lt 0 (length c)) (sym (content_other m before s other)))
]

-- there is a segment, and so is SIZ
siz_added : (before : List Segment) (s : Segment) (x y : List ℕ) → (length before == 0 && not (s.marker == SIZ)) ≡ false → (stands_once s.marker ≡ true → 0 < length s.content) → (length before == 0) ≡ (length x == 0) → y ≡ (if s.marker == SIZ then s.content else x) → (length y == 0) ≡ false
siz_added before s x y first some none e = elim (cases_Bool (s.marker == SIZ)) [
  | inl here ↦
      let same : s.marker ≡ SIZ = eqb-true s.marker SIZ here in
      let long : 0 < length s.content = some (ap stands_once same) in
      let is : y ≡ s.content = e ∙ rw here refl in
      ap (λ (c : List ℕ). length c == 0) is ∙ ne_eqb (length s.content) 0 (λ z. omega arith)
  | inr other ↦
      let is : y ≡ x = e ∙ rw other refl in
      let before_some : (length before == 0) ≡ false = elim (and_cases (length before == 0) (not (s.marker == SIZ)) first) [
        | inl f ↦ f
        | inr f ↦ let t : not (s.marker == SIZ) ≡ true = rw other refl in absurd (cc)
      ] in
      ap (λ (c : List ℕ). length c == 0) is ∙ (sym none ∙ before_some)
]

-- the place of QCD with it
qcd_added : (w v : Before) (before : List Segment) (s : Segment) → IsKept w before → v.at ≡ 2 + length (segments_bytes (before ++ s ∷ [])) → v.qcd.now ≡ (if s.marker == QCD then s.content else w.qcd.now) → v.qcd_at ≡ (if s.marker == QCD then w.at else w.qcd_at) → (stands_once s.marker && stands s.marker before) ≡ false → (stands_once s.marker ≡ true → 0 < length s.content) → place_of_qcd v ≡ offset_of QCD (before ++ s ∷ [])
qcd_added w v before s k at e f once some = elim (cases_Bool (s.marker == QCD)) [
  | inl here ↦
      let same : s.marker ≡ QCD = eqb-true s.marker QCD here in
      let long : 0 < length s.content = some (ap stands_once same) in
      let is : v.qcd.now ≡ s.content = e ∙ rw here refl in
      let there : nat_lt 0 (length v.qcd.now) ≡ true = ap (λ (c : List ℕ). nat_lt 0 (length c)) is ∙ lt-ltb 0 (length s.content) long in
      let place : v.qcd_at ≡ w.at = f ∙ rw here refl in
      rw there (place ∙ (k.place ∙ sym (offset_here QCD before s (not_yet before s once QCD refl here) here)))
  | inr other ↦
      let is : v.qcd.now ≡ w.qcd.now = e ∙ rw other refl in
      let place : v.qcd_at ≡ w.qcd_at = f ∙ rw other refl in
      let stands_w : stands QCD before ≡ nat_lt 0 (length w.qcd.now) = k.stood QCD refl ∙ ap (λ (c : List ℕ). nat_lt 0 (length c)) (sym k.qcd) in
      let same : nat_lt 0 (length v.qcd.now) ≡ nat_lt 0 (length w.qcd.now) = ap (λ (c : List ℕ). nat_lt 0 (length c)) is in
      elim (cases_Bool (nat_lt 0 (length w.qcd.now))) [
        | inl there ↦
            let kept : w.qcd_at ≡ offset_of QCD before = (rw there at k.quant) in
            rw (same, there) (place ∙ (kept ∙ sym (offset_some QCD before (s ∷ []) (stands_w ∙ there))))
        | inr none ↦ rw (same, none) (at ∙ sym (offset_none QCD (before ++ s ∷ []) (stands_other QCD before s other ∙ (stands_w ∙ none))))
      ]
]

-- all of it
pub kept_with : (w v : Before) (before : List Segment) (s : Segment) → IsKept w before → v.at ≡ w.at + 4 + length s.content → v.siz.now ≡ (if s.marker == SIZ then s.content else w.siz.now) → v.cap.now ≡ (if s.marker == CAP then s.content else w.cap.now) → v.cod.now ≡ (if s.marker == COD then s.content else w.cod.now) → v.qcd.now ≡ (if s.marker == QCD then s.content else w.qcd.now) → v.qcd_at ≡ (if s.marker == QCD then w.at else w.qcd_at) → (length before == 0 && not (s.marker == SIZ)) ≡ false → (stands_once s.marker && stands s.marker before) ≡ false → (stands_once s.marker ≡ true → 0 < length s.content) → IsKept v (before ++ s ∷ [])
kept_with w v before s k at siz cap cod qcd qcd_at first once some =
    let place : v.at ≡ 2 + length (segments_bytes (before ++ s ∷ [])) = omega (arith, at, k.place, length_with before s) in
    record {
      place = place;
      siz = content_added SIZ w.siz.now v.siz.now before s once refl k.siz siz;
      cap = content_added CAP w.cap.now v.cap.now before s once refl k.cap cap;
      cod = content_added COD w.cod.now v.cod.now before s once refl k.cod cod;
      qcd = content_added QCD w.qcd.now v.qcd.now before s once refl k.qcd qcd;
      stood = stood_added before s once some k.stood;
      none = ne_eqb (length (before ++ s ∷ [])) 0 (λ e. omega (arith, length-append before (s ∷ []))) ∙ sym (siz_added before s w.siz.now v.siz.now first some k.none siz);
      quant = qcd_added w v before s k place qcd qcd_at once some;
    }
