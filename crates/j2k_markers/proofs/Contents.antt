-- What one segment more changes: which segments there are, their contents and their places.
use Rattle.std.proofs.Common.{◌≡◌, ◌+◌, ◌||◌, ℕ, Bool, true, false, List, [], ◌∷◌, ◌++◌, length, refl, sym, ◌∙◌, ap, inl, inr, arith}
use Rattle.std.specs.Prelude.{◌==◌, if◌then◌else◌}
use Rattle.std.proofs.lemmas.Bool.{cases_Bool, or_parts, or_left, or_right}
use Rattle.std.proofs.lemmas.List.{length-append}
use Rattle.std.proofs.lemmas.List.Folds.{list_any-append}
use Rattle.codestream_model.specs.Segments.{Segment, segment_bytes, segments_bytes, stands, content_of, offset_of}
use Rattle.codestream_model.proofs.SegmentBytes.{segments-push, length-segment}

-- a segment that is not there has no content,
pub content_none : (m : ℕ) (xs : List Segment) → stands m xs ≡ false → content_of m xs ≡ []
content_none m [] e = refl
content_none m (x ∷ xs) e = let p = or_parts (x.marker == m) (stands m xs) e in rw p.0 (content_none m xs p.1)

-- and would be after all
pub offset_none : (m : ℕ) (xs : List Segment) → stands m xs ≡ false → offset_of m xs ≡ 2 + length (segments_bytes xs)
offset_none m [] e = refl
offset_none m (x ∷ xs) e =
    let p = or_parts (x.marker == m) (stands m xs) e in
    rw p.0 (omega (arith, offset_none m xs p.1, length-append (segment_bytes x) (segments_bytes xs)))

-- one that is there keeps its content and its place
pub content_some : (m : ℕ) (xs ys : List Segment) → stands m xs ≡ true → content_of m (xs ++ ys) ≡ content_of m xs
content_some m [] ys e = absurd (cc)
content_some m (x ∷ xs) ys e = elim (cases_Bool (x.marker == m)) [
  | inl here ↦ rw here refl
  | inr not_here ↦ let there : stands m xs ≡ true = ap (λ (t : Bool). t || stands m xs) (sym not_here) ∙ e in rw not_here (content_some m xs ys there)
]

-- the place
pub offset_some : (m : ℕ) (xs ys : List Segment) → stands m xs ≡ true → offset_of m (xs ++ ys) ≡ offset_of m xs
offset_some m [] ys e = absurd (cc)
offset_some m (x ∷ xs) ys e = elim (cases_Bool (x.marker == m)) [
  | inl here ↦ rw here refl
  | inr not_here ↦ let there : stands m xs ≡ true = ap (λ (t : Bool). t || stands m xs) (sym not_here) ∙ e in rw not_here (ap (λ (n : ℕ). length (segment_bytes x) + n) (offset_some m xs ys there))
]

-- one that comes has its content
pub content_here : (m : ℕ) (xs : List Segment) (s : Segment) → stands m xs ≡ false → (s.marker == m) ≡ true → content_of m (xs ++ s ∷ []) ≡ s.content
content_here m [] s e f = rw f refl
content_here m (x ∷ xs) s e f = let p = or_parts (x.marker == m) (stands m xs) e in rw p.0 (content_here m xs s p.1 f)

-- and its place after all others
pub offset_here : (m : ℕ) (xs : List Segment) (s : Segment) → stands m xs ≡ false → (s.marker == m) ≡ true → offset_of m (xs ++ s ∷ []) ≡ 2 + length (segments_bytes xs)
offset_here m [] s e f = rw f refl
offset_here m (x ∷ xs) s e f =
    let p = or_parts (x.marker == m) (stands m xs) e in
    rw p.0 (omega (arith, offset_here m xs s p.1 f, length-append (segment_bytes x) (segments_bytes xs)))

-- another one changes no content
pub content_other : (m : ℕ) (xs : List Segment) (s : Segment) → (s.marker == m) ≡ false → content_of m (xs ++ s ∷ []) ≡ content_of m xs
content_other m [] s f = rw f refl
content_other m (x ∷ xs) s f = elim (cases_Bool (x.marker == m)) [
  | inl here ↦ rw here refl
  | inr not_here ↦ rw not_here (content_other m xs s f)
]

-- a segment is there where it was or comes
pub stands_with : (m : ℕ) (xs : List Segment) (s : Segment) → stands m (xs ++ s ∷ []) ≡ (stands m xs || (s.marker == m || false))
stands_with m xs s = list_any-append (λ (t : Segment). t.marker == m) xs (s ∷ [])

-- it comes
pub stands_here : (m : ℕ) (xs : List Segment) (s : Segment) → (s.marker == m) ≡ true → stands m (xs ++ s ∷ []) ≡ true
stands_here m xs s f = stands_with m xs s ∙ or_right (stands m xs) (s.marker == m || false) (or_left (s.marker == m) false f)

-- or another one comes
pub stands_other : (m : ℕ) (xs : List Segment) (s : Segment) → (s.marker == m) ≡ false → stands m (xs ++ s ∷ []) ≡ stands m xs
stands_other m [] s f = rw f refl
stands_other m (x ∷ xs) s f = ap (λ (t : Bool). x.marker == m || t) (stands_other m xs s f)

-- how long the segments are with it
pub length_with : (xs : List Segment) (s : Segment) → length (segments_bytes (xs ++ s ∷ [])) ≡ length (segments_bytes xs) + 4 + length s.content
length_with xs s = ap length (segments-push xs s) ∙ (length-append (segments_bytes xs) (segment_bytes s) ∙ omega (arith, length-segment s))

-- the content with it
pub content_with : (m : ℕ) (xs : List Segment) (s : Segment) → ((s.marker == m) ≡ true → stands m xs ≡ false) → content_of m (xs ++ s ∷ []) ≡ (if s.marker == m then s.content else content_of m xs)
content_with m xs s new = elim (cases_Bool (s.marker == m)) [
  | inl here ↦ content_here m xs s (new here) here ∙ rw here refl
  | inr not_here ↦ content_other m xs s not_here ∙ rw not_here refl
]
