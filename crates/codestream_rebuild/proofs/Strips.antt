-- What is left to strip of a main header.
use Rattle.std.proofs.Common.{◌≡◌, ◌<◌, ◌≤◌, ◌+◌, ◌==◌, ℕ, zero, suc, true, false, List, [], ◌∷◌, ◌++◌, length, take, drop, refl, sym, ◌∙◌, ap, subst, inl, inr, arith, append_assoc, ◌-◌}
use Rattle.std.specs.List.{AllByRecursion, flat_map}
use Rattle.std.proofs.lemmas.Bool.{cases_Bool, eqb-true, eq-eqb}
use Rattle.std.proofs.lemmas.List.{length-append, length-take, length-drop, take_at, take_all}
use Rattle.codestream_model.specs.Values.{Head}
use Rattle.codestream_model.specs.Bytes.{two_bytes, two_at}
use Rattle.codestream_model.specs.Segments.{SOC, SOT, SOD, Segment, segment_bytes, segments_bytes, segment_at, behind_segment}
use Rattle.codestream_model.specs.MainHeader.{is_tile_marker, IsMainSegment, IsTileSegment, SpellsHead}
use Rattle.codestream_model.proofs.SegmentBytes.{length_there, segment_there, rest_there, few_segments, segments-append, length-segment}
use Rattle.codestream_model.proofs.HeaderSteps.{main_not_sot, each_append}
use Rattle.rebuild_model.specs.Stripping.{kept_segment, segments_of, stripped}
use Rattle.codestream_rebuild.specs.Segments.{HasPsot}

-- the bytes that a stripped header has of what is left
abbrev pub kept_of : ℕ → List ℕ → List ℕ
kept_of n rest = segments_bytes (flat_map kept_segment (segments_of n rest)) ++ two_bytes SOD

-- these bytes are left, and what is kept of those before them is at the front of the output
pub record IsLeft (bytes rest out : List ℕ) (end : ℕ) : Type 0 where
  pub later : List Segment
  pub n : ℕ
  pub few : length later < n
  pub whole : rest ≡ segments_bytes later ++ two_bytes SOD
  pub each : AllByRecursion HasPsot later
  pub so_far : take end out ++ kept_of n rest ≡ stripped bytes
  pub room : end + length rest ≤ length bytes
  pub short : length bytes ≤ 8192
  pub size : length out ≡ 8192

-- the segment at the front of what is left
pub record Next (bytes rest out : List ℕ) (end : ℕ) : Type 0 where
  pub segment : Segment
  pub psot : HasPsot segment
  pub length_there : 4 ≤ length rest
  pub fits : 2 + two_at rest 2 ≤ length rest
  pub here : take (2 + two_at rest 2) rest ≡ segment_bytes segment
  pub after : (next : List ℕ) (to : ℕ) → length next ≡ length out → to ≤ end + (2 + two_at rest 2)
      → take to next ≡ take end out ++ segments_bytes (kept_segment segment) → IsLeft bytes (drop (2 + two_at rest 2) rest) next to

-- one segment that isn't SOD is read
segment_read : (n : ℕ) (b : List ℕ) → (two_at b 0 == SOD) ≡ false → segments_of (suc n) b ≡ segment_at b ∷ segments_of n (behind_segment b)
unfolding segments_of
segment_read n b e = rw e refl

-- at SOD nothing more is kept
end_read : (n : ℕ) (b : List ℕ) → (two_at b 0 == SOD) ≡ true → segments_of (suc n) b ≡ []
unfolding segments_of
end_read n b e = rw e refl

-- what is kept of one segment and of those after it
kept_more : (n : ℕ) (s : Segment) (rest tail : List ℕ) → (two_at rest 0 == SOD) ≡ false → rest ≡ segment_bytes s ++ tail → kept_of (suc n) rest ≡ segments_bytes (kept_segment s) ++ kept_of n tail
kept_more n s rest tail other split =
    let same : segment_at rest ≡ s = ap segment_at split ∙ segment_there s tail in
    let after : behind_segment rest ≡ tail = ap behind_segment split ∙ rest_there s tail in
    let read : segments_of (suc n) rest ≡ s ∷ segments_of n tail = segment_read n rest other ∙ (ap (λ x. x ∷ segments_of n (behind_segment rest)) same ∙ ap (λ l. s ∷ segments_of n l) after) in
    let more = flat_map kept_segment (segments_of n tail) in
    ap (λ l. segments_bytes (flat_map kept_segment l) ++ two_bytes SOD) read
    ∙ (ap (λ l. l ++ two_bytes SOD) (segments-append (kept_segment s) more)
    ∙ append_assoc (segments_bytes (kept_segment s)) (segments_bytes more) (two_bytes SOD))

next_in : (bytes rest out : List ℕ) (end n : ℕ) (later : List Segment) → (two_at rest 0 == SOD) ≡ false → length later < n → rest ≡ segments_bytes later ++ two_bytes SOD
    → AllByRecursion HasPsot later → take end out ++ kept_of n rest ≡ stripped bytes → end + length rest ≤ length bytes → length bytes ≤ 8192 → length out ≡ 8192 → Next bytes rest out end
next_in bytes rest out end n [] other few whole each so_far room short size =
    let there : (two_at rest 0 == SOD) ≡ true = ap (λ (l : List ℕ). two_at l 0 == SOD) whole in
    absurd (cc)
next_in bytes rest out end zero (s ∷ more) other few whole each so_far room short size = absurd (omega arith)
next_in bytes rest out end (suc n) (s ∷ more) other few whole each so_far room short size =
    let tail = segments_bytes more ++ two_bytes SOD in
    let split : rest ≡ segment_bytes s ++ tail = whole ∙ append_assoc (segment_bytes s) (segments_bytes more) (two_bytes SOD) in
    let stated : 2 + two_at rest 2 ≡ length (segment_bytes s) = ap (λ (l : List ℕ). 2 + two_at l 2) split ∙ (ap (λ m. 2 + m) (length_there s tail) ∙ sym (length-segment s)) in
    let after : drop (2 + two_at rest 2) rest ≡ tail = ap behind_segment split ∙ rest_there s tail in
    let long : length rest ≡ length (segment_bytes s) + length tail = ap length split ∙ length-append (segment_bytes s) tail in
    record {
      segment = s;
      psot = each.0;
      length_there = omega (arith, long, length-segment s);
      fits = omega (arith, long, stated);
      here = ap (λ (l : List ℕ). take (2 + two_at rest 2) l) split ∙ take_at (segment_bytes s) tail (2 + two_at rest 2) (sym stated);
      after = λ next to same most is. record {
        later = more;
        n = n;
        few = omega (arith, few);
        whole = after;
        each = each.1;
        so_far =
            ap (λ l. l ++ kept_of n (drop (2 + two_at rest 2) rest)) is
            ∙ (append_assoc (take end out) (segments_bytes (kept_segment s)) (kept_of n (drop (2 + two_at rest 2) rest))
            ∙ (ap (λ l. take end out ++ (segments_bytes (kept_segment s) ++ kept_of n l)) after
            ∙ (ap (λ l. take end out ++ l) (sym (kept_more n s rest tail other split))
            ∙ so_far)));
        room = omega (arith, room, most, stated, long, ap length after);
        short = short;
        size = same ∙ size;
      };
    }

-- where what is left doesn't begin with SOD, a segment is next
pub next_of : (bytes rest out : List ℕ) (end m : ℕ) → IsLeft bytes rest out end → m ≡ two_at rest 0 → (m ≡ SOD → ⊥) → Next bytes rest out end
next_of bytes rest out end m left is other = elim (cases_Bool (two_at rest 0 == SOD)) [
  | inl same ↦ absurd (other (is ∙ eqb-true (two_at rest 0) SOD same))
  | inr apart ↦ next_in bytes rest out end left.n left.later apart left.few left.whole left.each left.so_far left.room left.short left.size
]

-- two bytes are left at least
pub two_left : (bytes rest out : List ℕ) (end : ℕ) → IsLeft bytes rest out end → 2 ≤ length rest
two_left bytes rest out end left = omega (arith, ap length left.whole, length-append (segments_bytes left.later) (two_bytes SOD))

-- at SOD, SOD alone is missing
end_in : (n : ℕ) (rest : List ℕ) → 0 < n → (two_at rest 0 == SOD) ≡ true → kept_of n rest ≡ two_bytes SOD
end_in zero rest some e = absurd (omega arith)
end_in (suc n) rest some e = ap (λ l. segments_bytes (flat_map kept_segment l) ++ two_bytes SOD) (end_read n rest e)

pub all_stripped : (bytes rest out : List ℕ) (end m : ℕ) → IsLeft bytes rest out end → m ≡ two_at rest 0 → m ≡ SOD → take end out ++ two_bytes SOD ≡ stripped bytes
all_stripped bytes rest out end m left is same =
    let there : (two_at rest 0 == SOD) ≡ true = eq-eqb (two_at rest 0) SOD (sym is ∙ same) in
    ap (λ l. take end out ++ l) (sym (end_in left.n rest (omega (arith, left.few)) there)) ∙ left.so_far

-- SOT alone has Psot, and there are eight bytes of content
main_has_psot : (segments : List Segment) → AllByRecursion IsMainSegment segments → AllByRecursion HasPsot segments
main_has_psot [] each = tt
main_has_psot (s ∷ more) each =
    let other : (s.marker == SOT) ≡ false = main_not_sot s.marker each.0.known in
    (λ same. let is : (s.marker == SOT) ≡ true = eq-eqb s.marker SOT same in absurd (cc), main_has_psot more each.1)

skipped_have_psot : (segments : List Segment) → AllByRecursion IsTileSegment segments → AllByRecursion HasPsot segments
skipped_have_psot [] each = tt
skipped_have_psot (s ∷ more) each =
    let known : is_tile_marker s.marker ≡ true = each.0.known in
    (λ same. let other : is_tile_marker s.marker ≡ false = ap is_tile_marker same in absurd (cc), skipped_have_psot more each.1)

-- a header has more than two bytes
pub two_there : (h : Head) (bytes : List ℕ) → SpellsHead h bytes → 2 ≤ length bytes
two_there h bytes s = omega (arith, ap length s.whole)

-- after SOC all segments are left
pub left_first : (h : Head) (bytes out : List ℕ) (end : ℕ) → SpellsHead h bytes → end ≡ 2 → length out ≡ 8192 → take end out ≡ take 2 bytes → IsLeft bytes (drop 2 bytes) out end
left_first h bytes out end s two size soc =
    let later = s.main ++ s.tile ∷ s.skipped in
    let rest : drop 2 bytes ≡ segments_bytes later ++ two_bytes SOD = ap (drop 2) s.whole in
    let front : take 2 bytes ≡ two_bytes SOC = ap (take 2) s.whole in
    let long : length bytes ≡ 2 + (length (segments_bytes later) + 2) = ap length s.whole ∙ omega (arith, length-append (segments_bytes later) (two_bytes SOD)) in
    let psot : HasPsot s.tile = λ same. omega (arith, s.is_tile.ten) in
    record {
      later = later;
      n = length bytes;
      few = omega (arith, long, few_segments later);
      whole = rest;
      each = each_append HasPsot s.main (s.tile ∷ s.skipped) (main_has_psot s.main s.is_main.each) (psot, skipped_have_psot s.skipped s.is_skipped);
      so_far = ap (λ l. l ++ kept_of (length bytes) (drop 2 bytes)) (soc ∙ front);
      room = omega (arith, two, long, ap length rest, length-append (segments_bytes later) (two_bytes SOD));
      short = s.short;
      size = size;
    }

-- its bytes are there
pub segment_here : (bytes rest out own : List ℕ) (end m k : ℕ) → IsLeft bytes rest out end → m ≡ two_at rest 0 → (m ≡ SOD → ⊥) → k ≡ 2 + two_at rest 2 → own ≡ take k rest → (s : Segment) × (own ≡ segment_bytes s) × HasPsot s
segment_here bytes rest out own end m k left is other size front =
    let x = next_of bytes rest out end m left is other in
    (x.segment, front ∙ (ap (λ n. take n rest) size ∙ x.here), x.psot)

-- after it the others are left
pub left_next : (bytes rest out own after next : List ℕ) (end to m k : ℕ) → IsLeft bytes rest out end → m ≡ two_at rest 0 → (m ≡ SOD → ⊥) → k ≡ 2 + two_at rest 2 → own ≡ take k rest → after ≡ drop k rest
    → length next ≡ length out → to ≤ end + length own → ((s : Segment) → own ≡ segment_bytes s → take to next ≡ take end out ++ segments_bytes (kept_segment s)) → IsLeft bytes after next to
left_next bytes rest out own after next end to m k left is other size front back same most kept =
    let x = next_of bytes rest out end m left is other in
    let own_is : own ≡ segment_bytes x.segment = front ∙ (ap (λ n. take n rest) size ∙ x.here) in
    let after_is : after ≡ drop (2 + two_at rest 2) rest = back ∙ ap (λ n. drop n rest) size in
    let short : length own ≤ 2 + two_at rest 2 = omega (arith, size, ap length front, length-take k rest) in
    let P : List ℕ → Type 0 = λ l. IsLeft bytes l next to in
    subst P (sym after_is) (x.after next to same (omega (arith, most, short)) (kept x.segment own_is))

-- all bytes after the first ones
pub rest_of : (n : ℕ) (bytes : List ℕ) → take (length bytes - n) (drop n bytes) ≡ drop n bytes
rest_of n bytes = take_all (length bytes - n) (drop n bytes) (omega (arith, length-drop n bytes))
