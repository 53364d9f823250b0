-- Segments and their bytes: what is read at the front of a segment's bytes is that segment, and bytes are those of what is read.
use Rattle.std.proofs.Common.{◌≡◌, ◌<◌, ◌≤◌, ◌+◌, ◌-◌, ◌*◌, ◌/◌, ◌%◌, ℕ, suc, List, [], ◌∷◌, ◌++◌, length, take, drop, refl, ◌∙◌, ap, inl, inr, arith}
use Rattle.std.proofs.lemmas.List.{append-nil, length-append, length-drop, length-take, length-take-le, take-append-drop, take_at, drop_at, get_or-drop, get_or-take, get_or_past}
use Rattle.std.proofs.lemmas.List.Concat.{flat_map-append}
use Rattle.std.proofs.lemmas.Bool.{cases_lt}
use Rattle.codestream_model.specs.Bytes.{two_bytes, two_at}
use Rattle.codestream_model.specs.Segments.{Segment, stated_length, segment_bytes, segments_bytes, segment_at, behind_segment}
use Rattle.codestream_model.specs.Bytes.{IsBytes}
use Rattle.std.specs.Prelude.{slice_range}

-- a number in two bytes is the number that they spell
two_there : (m : ℕ) (rest : List ℕ) → two_at (two_bytes m ++ rest) 0 ≡ m
two_there m rest = omega arith

-- the marker of a segment in front
pub marker_there : (s : Segment) (rest : List ℕ) → two_at (segment_bytes s ++ rest) 0 ≡ s.marker
marker_there s rest = omega arith

-- its length
pub length_there : (s : Segment) (rest : List ℕ) → two_at (segment_bytes s ++ rest) 2 ≡ stated_length s.content
length_there s rest = omega arith

-- how long a segment is, and how long segments are
pub length-segment : (s : Segment) → length (segment_bytes s) ≡ 2 + stated_length s.content
length-segment s = omega arith

-- how long a segment and what follows it are
pub length-front : (s : Segment) (rest : List ℕ) → length (segment_bytes s ++ rest) ≡ 2 + stated_length s.content + length rest
length-front s rest = length-append (segment_bytes s) rest ∙ omega arith

-- the content of a segment in front
range_there : (s : Segment) (rest : List ℕ) (n : ℕ) → n ≡ stated_length s.content → slice_range (segment_bytes s ++ rest) 4 (2 + n) ≡ s.content
range_there s rest n e =
    let size : 2 + n - 4 ≡ length s.content = omega arith in
    rw size (take_at s.content rest (length s.content) refl)

-- the segment in front
pub segment_there : (s : Segment) (rest : List ℕ) → segment_at (segment_bytes s ++ rest) ≡ s
segment_there s rest =
    let m : two_at (segment_bytes s ++ rest) 0 ≡ s.marker = marker_there s rest in
    let c : slice_range (segment_bytes s ++ rest) 4 (2 + two_at (segment_bytes s ++ rest) 2) ≡ s.content = range_there s rest (two_at (segment_bytes s ++ rest) 2) (length_there s rest) in
    let e : record { marker = two_at (segment_bytes s ++ rest) 0; content = slice_range (segment_bytes s ++ rest) 4 (2 + two_at (segment_bytes s ++ rest) 2) } ≡ record { marker = s.marker; content = s.content } = cc in
    e

-- what is after a segment of a length
behind_there : (s : Segment) (rest : List ℕ) (n : ℕ) → n ≡ stated_length s.content → drop (2 + n) (segment_bytes s ++ rest) ≡ rest
behind_there s rest n e = drop_at (segment_bytes s) rest (2 + n) (length-segment s ∙ omega arith)

-- what is after it
pub rest_there : (s : Segment) (rest : List ℕ) → behind_segment (segment_bytes s ++ rest) ≡ rest
rest_there s rest = behind_there s rest (two_at (segment_bytes s ++ rest) 2) (length_there s rest)

-- segments one after another
pub segments-append : (xs ys : List Segment) → segments_bytes (xs ++ ys) ≡ segments_bytes xs ++ segments_bytes ys
segments-append xs ys = flat_map-append segment_bytes xs ys

-- one segment more
pub segments-push : (xs : List Segment) (s : Segment) → segments_bytes (xs ++ s ∷ []) ≡ segments_bytes xs ++ segment_bytes s
segments-push xs s = segments-append xs (s ∷ []) ∙ ap (λ (b : List ℕ). segments_bytes xs ++ b) (append-nil (segment_bytes s))

-- each takes four bytes or more
pub few_segments : (xs : List Segment) → length xs * 4 ≤ length (segments_bytes xs)
few_segments [] = omega arith
few_segments (s ∷ xs) = omega (arith, few_segments xs, length-append (segment_bytes s) (segments_bytes xs), length-segment s)

-- bytes after bytes are bytes
pub bytes-drop : (n : ℕ) (b : List ℕ) → IsBytes b → IsBytes (drop n b)
bytes-drop n b fits i = rw (get_or-drop n b i 0) (fits (n + i))

-- and bytes in front of bytes are
pub bytes-take : (n : ℕ) (b : List ℕ) → IsBytes b → IsBytes (take n b)
bytes-take n b fits i = elim (cases_lt i n) [
  | inl h ↦ rw (get_or-take n b i 0 h) (fits i)
  | inr h ↦ rw (get_or_past (take n b) i 0 (omega (arith, length-take n b))) (let e : 0 < 256 = omega arith in e)
]

-- two bytes that are there are those of the number that they spell
pub two_front : (b : List ℕ) → IsBytes b → 2 ≤ length b → b ≡ two_bytes (two_at b 0) ++ drop 2 b
two_front [] fits some = absurd (omega arith)
two_front (x ∷ []) fits some = absurd (omega arith)
two_front (x ∷ y ∷ b) fits some =
    let high : (x * 256 + y) / 256 ≡ x = omega (arith, fits 1) in
    let low : (x * 256 + y) % 256 ≡ y = omega (arith, fits 1) in
    cc

-- the content that a segment states, where it is all there
content_length : (b : List ℕ) (n : ℕ) → 2 ≤ n → 2 + n ≤ length b → stated_length (slice_range b 4 (2 + n)) ≡ n
content_length b n two whole =
    let behind : length (drop 4 b) ≡ length b - 4 = length-drop 4 b in
    let size : length (take (2 + n - 4) (drop 4 b)) ≡ 2 + n - 4 = length-take-le (2 + n - 4) (drop 4 b) (omega arith) in
    omega arith

-- the length that the segment in front states
pub segment_length : (b : List ℕ) → 2 ≤ two_at b 2 → 2 + two_at b 2 ≤ length b → stated_length (segment_at b).content ≡ two_at b 2
segment_length b two whole = content_length b (two_at b 2) two whole

-- the content and what is after it are the rest
joined : (x y z w : ℕ) (b : List ℕ) (n : ℕ) → 2 ≤ n → slice_range (x ∷ y ∷ z ∷ w ∷ b) 4 (2 + n) ++ drop (2 + n) (x ∷ y ∷ z ∷ w ∷ b) ≡ b
joined x y z w b n two =
    let size : 2 + n - 4 ≡ n - 2 = omega arith in
    let far : 2 + n ≡ suc (suc (suc (suc (n - 2)))) = omega arith in
    ap (λ (k : ℕ). take k b ++ drop (2 + n) (x ∷ y ∷ z ∷ w ∷ b)) size ∙ (ap (λ (k : ℕ). take (n - 2) b ++ drop k (x ∷ y ∷ z ∷ w ∷ b)) far ∙ take-append-drop (n - 2) b)

-- four bytes and a content are a segment
front_of : (x y z w : ℕ) (b : List ℕ) (m : ℕ) (c r : List ℕ) → m / 256 ≡ x → m % 256 ≡ y → stated_length c / 256 ≡ z → stated_length c % 256 ≡ w → c ++ r ≡ b → x ∷ y ∷ z ∷ w ∷ b ≡ segment_bytes (record { marker = m; content = c }) ++ r
front_of x y z w b m c r e f g h i = cc

-- a segment that is there is the one that is read
pub segment_front : (b : List ℕ) → IsBytes b → 4 ≤ length b → 2 ≤ two_at b 2 → 2 + two_at b 2 ≤ length b → b ≡ segment_bytes (segment_at b) ++ behind_segment b
segment_front [] fits some two whole = absurd (omega arith)
segment_front (x ∷ []) fits some two whole = absurd (omega arith)
segment_front (x ∷ y ∷ []) fits some two whole = absurd (omega arith)
segment_front (x ∷ y ∷ z ∷ []) fits some two whole = absurd (omega arith)
segment_front (x ∷ y ∷ z ∷ w ∷ b) fits some two whole =
    let stated : stated_length (segment_at (x ∷ y ∷ z ∷ w ∷ b)).content ≡ z * 256 + w = content_length (x ∷ y ∷ z ∷ w ∷ b) (z * 256 + w) two whole in
    front_of x y z w b (x * 256 + y) (segment_at (x ∷ y ∷ z ∷ w ∷ b)).content (behind_segment (x ∷ y ∷ z ∷ w ∷ b))
    (omega (arith, fits 1))
    (omega (arith, fits 1))
    (omega (arith, stated, fits 3))
    (omega (arith, stated, fits 3))
    (joined x y z w b (z * 256 + w) two)
