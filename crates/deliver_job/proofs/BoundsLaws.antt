-- The bounds of the frames of a capture.
use Rattle.std.proofs.Common.{◌≡◌, ◌<◌, ◌≤◌, ◌+◌, ◌-◌, ◌*◌, ◌/◌, ◌%◌, ℕ, zero, suc, List, [], ◌∷◌, ◌++◌, length, take, drop, get_or, slice_range, refl, sym, ◌∙◌, ap, subst, arith, append_assoc}
use Rattle.std.specs.List.{AllByRecursion}
use Rattle.std.proofs.lemmas.List.{append-nil, length-append, length-drop, length-take-le, take_at, take_all, drop_at, take-append-drop, take_rest, take_more, drop_more}
use Rattle.wire_model.specs.Bytes.{IsBytes}
use Rattle.wire_model.specs.Framing.{frame, framing, IsFramed, IsPartial, Splits, whole_frames}
use Rattle.wire_model.proofs.FramingLaws.{framing-append, framed-append, frames_are_computed, bytes_split}
use Rattle.deliver_job.specs.Bounds.{bounds_from, frame_bounds, BeginsWithFrame}

-- one frame more
bounds-push : (at : ℕ) (frames : List (List ℕ)) (d : List ℕ) → bounds_from at (frames ++ d ∷ []) ≡ bounds_from at frames ++ (at + length (framing frames) + length (frame d)) ∷ []
bounds-push at [] d = let e : at + length (frame d) ≡ at + 0 + length (frame d) = omega arith in ap (λ (n : ℕ). at ∷ n ∷ []) e
bounds-push at (x ∷ frames) d =
    let e : at + length (frame x) + length (framing frames) + length (frame d) ≡ at + length (framing (x ∷ frames)) + length (frame d) = omega (arith, length-append (frame x) (framing frames)) in
    ap (λ (l : List ℕ). at ∷ l) (bounds-push (at + length (frame x)) frames d ∙ ap (λ (n : ℕ). bounds_from (at + length (frame x)) frames ++ n ∷ []) e)

pub length_bounds : (at : ℕ) (frames : List (List ℕ)) → length (bounds_from at frames) ≡ length frames + 1
length_bounds at [] = refl
length_bounds at (d ∷ frames) = omega (arith, length_bounds (at + length (frame d)) frames)

-- a bound is the number of bytes of the frames before it
bound_is : (at i : ℕ) (frames : List (List ℕ)) (d : ℕ) → i ≤ length frames → get_or (bounds_from at frames) i d ≡ at + length (framing (take i frames))
bound_is at zero [] d within = omega arith
bound_is at zero (x ∷ frames) d within = omega arith
bound_is at (suc i) [] d within = absurd (omega arith)
bound_is at (suc i) (x ∷ frames) d within = omega (arith, bound_is (at + length (frame x)) i frames d (omega arith), length-append (frame x) (framing (take i frames)))

-- the frames before a position, the one there, and those after it
around : (frames : List (List ℕ)) (i : ℕ) → i < length frames → framing frames ≡ framing (take i frames) ++ (frame (get_or frames i []) ++ framing (drop (i + 1) frames))
around frames i low =
    ap framing (sym (take-append-drop i frames) ∙ ap (λ (l : List (List ℕ)). take i frames ++ l) (drop_more frames i [] low))
    ∙ framing-append (take i frames) (get_or frames i [] ∷ drop (i + 1) frames)

-- the bounds of the frame at a position are within a capture, and the frame is between them
pub record Between (capture : List ℕ) (from to : ℕ) (d : List ℕ) : Type 0 where
  pub order : from ≤ to
  pub within : to ≤ length capture
  pub bytes : slice_range capture from to ≡ frame d

between : (front d back : List ℕ) (from to : ℕ) → from ≡ length front → to ≡ length front + length (frame d) → Between (front ++ (frame d ++ back)) from to d
between front d back from to f t = record {
  order = omega (arith, f, t);
  within = omega (arith, t, length-append front (frame d ++ back), length-append (frame d) back);
  bytes =
      let e : to - from ≡ length (frame d) = omega (arith, f, t) in
      ap (λ (l : List ℕ). take (to - from) l) (drop_at front (frame d ++ back) from (sym f))
      ∙ take_at (frame d) back (to - from) (sym e);
}

-- a capture is its whole frames, and less than one
whole_is : (capture : List ℕ) → IsBytes capture → capture ≡ framing (whole_frames capture) ++ drop (length (framing (whole_frames capture))) capture
whole_is capture fits = (bytes_split capture fits).whole

pub bounds_there : (capture : List ℕ) (i from to d e : ℕ) → IsBytes capture → i < length (whole_frames capture) → from ≡ get_or (frame_bounds (whole_frames capture)) i d → to ≡ get_or (frame_bounds (whole_frames capture)) (i + 1) e
    → Between capture from to (get_or (whole_frames capture) i [])
bounds_there capture i from to d e fits low f t =
    let frames = whole_frames capture in
    let x = get_or frames i [] in
    let rest = drop (length (framing frames)) capture in
    let front = framing (take i frames) in
    let back = framing (drop (i + 1) frames) in
    let whole : front ++ (frame x ++ (back ++ rest)) ≡ capture =
    sym (whole_is capture fits ∙ (ap (λ (l : List ℕ). l ++ rest) (around frames i low) ∙ (append_assoc front (frame x ++ back) rest ∙ ap (λ (l : List ℕ). front ++ l) (append_assoc (frame x) back rest)))) in
    let later : framing (take (i + 1) frames) ≡ front ++ frame x =
    ap framing (take_more frames i [] low) ∙ (framing-append (take i frames) (x ∷ []) ∙ ap (λ (l : List ℕ). front ++ l) (append-nil (frame x))) in
    let P : List ℕ → Type 0 = λ l. Between l from to x in
    subst P whole (between front x (back ++ rest) from to (omega (arith, f, bound_is 0 i frames d (omega arith)))
    (omega (arith, t, bound_is 0 (i + 1) frames e (omega arith), ap length later, length-append front (frame x))))

-- the last bound is the number of bytes of all whole frames
pub last_bound : (capture : List ℕ) (n end d : ℕ) → n ≡ length (whole_frames capture) → end ≡ get_or (frame_bounds (whole_frames capture)) n d → end ≡ length (framing (whole_frames capture))
last_bound capture n end d is e =
    let frames = whole_frames capture in
    let all : take n frames ≡ frames = take_all n frames (omega (arith, is)) in
    omega (arith, e, bound_is 0 n frames d (omega arith), ap (λ (l : List (List ℕ)). length (framing l)) all)

-- the frames that end by an offset of a capture, and the bounds before it
pub record BoundsSoFar (capture : List ℕ) (at : ℕ) (starts : List ℕ) : Type 0 where
  pub frames : List (List ℕ)
  pub each : AllByRecursion IsFramed frames
  pub whole : capture ≡ framing frames ++ drop at capture
  pub place : at ≡ length (framing frames)
  pub bounds : starts ++ at ∷ [] ≡ frame_bounds frames

pub no_bounds : (capture : List ℕ) → BoundsSoFar capture 0 []
no_bounds capture = record { frames = []; each = tt; whole = refl; place = refl; bounds = refl }

-- one whole frame more
pub bounds_more : (capture : List ℕ) (at len : ℕ) (starts : List ℕ) → BoundsSoFar capture at starts → BeginsWithFrame (drop at capture) len → BoundsSoFar capture (at + len) (starts ++ at ∷ [])
bounds_more capture at len starts b (d, more, framed, is, size) =
    let frames = b.frames in
    let joined : framing (frames ++ d ∷ []) ≡ framing frames ++ frame d = framing-append frames (d ∷ []) ∙ ap (λ (l : List ℕ). framing frames ++ l) (append-nil (frame d)) in
    let split : capture ≡ framing (frames ++ d ∷ []) ++ more = b.whole ∙ (ap (λ (l : List ℕ). framing frames ++ l) is ∙ (sym (append_assoc (framing frames) (frame d) more) ∙ ap (λ (l : List ℕ). l ++ more) (sym joined))) in
    let place : at + len ≡ length (framing (frames ++ d ∷ [])) = omega (arith, b.place, size, ap length joined, length-append (framing frames) (frame d)) in
    let rest : drop (at + len) capture ≡ more = ap (λ (l : List ℕ). drop (at + len) l) split ∙ drop_at (framing (frames ++ d ∷ [])) more (at + len) (sym place) in
    let sum : at + len ≡ 0 + length (framing frames) + length (frame d) = omega (arith, b.place, size) in
    record {
      frames = frames ++ d ∷ [];
      each = framed-append frames (d ∷ []) b.each (framed, tt);
      whole = split ∙ ap (λ (l : List ℕ). framing (frames ++ d ∷ []) ++ l) (sym rest);
      place = place;
      bounds = ap (λ (l : List ℕ). l ++ (at + len) ∷ []) b.bounds ∙ (ap (λ (n : ℕ). frame_bounds frames ++ n ∷ []) sum ∙ sym (bounds-push 0 frames d));
    }

-- a frame within a capture has at least two bytes and ends within it
pub frame_fits : (capture : List ℕ) (at len : ℕ) → at ≤ length capture → BeginsWithFrame (drop at capture) len → (2 ≤ len) × (at + len ≤ length capture)
frame_fits capture at len within (d, more, framed, is, size) =
    let left = length-drop at capture in
    (omega (arith, size), omega (arith, size, ap length is, length-append (frame d) more, left, within))

-- where no whole frame follows, these are all
pub bounds_all : (capture : List ℕ) (at : ℕ) (starts : List ℕ) → BoundsSoFar capture at starts → IsPartial (drop at capture) → starts ++ at ∷ [] ≡ frame_bounds (whole_frames capture)
bounds_all capture at starts b partial =
    let s : Splits capture b.frames (drop at capture) = record { whole = b.whole; each = b.each; partial = partial } in
    b.bounds ∙ ap frame_bounds (frames_are_computed capture b.frames (drop at capture) s).0

-- bytes that begin with a length and at least as many more
with_length : (high low n : ℕ) (more : List ℕ) → high < 256 → low < 256 → n ≡ high * 256 + low → n ≤ length more → BeginsWithFrame (high ∷ low ∷ more) (2 + n)
with_length high low n more h l is within =
    let size : length (take n more) ≡ n = length-take-le n more within in
    let a : length (take n more) / 256 ≡ high = omega (arith, size, h, l, is) in
    let b : length (take n more) % 256 ≡ low = omega (arith, size, h, l, is) in
    let join : take n more ++ drop n more ≡ more = take-append-drop n more in
    (take n more, drop n more, omega (arith, size, h, l, is), cc, omega (arith, size))

pub begins : (bytes : List ℕ) (len d e : ℕ) → IsBytes bytes → 2 ≤ length bytes → len ≡ 2 + get_or bytes 0 d * 256 + get_or bytes 1 e → len ≤ length bytes → BeginsWithFrame bytes len
begins [] len d e fits two is within = absurd (omega arith)
begins (high ∷ []) len d e fits two is within = absurd (omega arith)
begins (high ∷ low ∷ more) len d e fits two is within =
    let P : ℕ → Type 0 = λ n. BeginsWithFrame (high ∷ low ∷ more) n in
    let same : 2 + (high * 256 + low) ≡ len = omega (arith, is) in
    subst P same (with_length high low (high * 256 + low) more (fits 0) (fits 1) refl (omega (arith, is, within)))

-- the number of bounds
pub count_bounds : (capture starts : List ℕ) → starts ≡ frame_bounds (whole_frames capture) → length starts ≡ length (whole_frames capture) + 1
count_bounds capture starts is = ap length is ∙ length_bounds 0 (whole_frames capture)

-- the frame between two bounds of a list that has them
pub frame_between : (capture starts : List ℕ) (i d e : ℕ) → IsBytes capture → starts ≡ frame_bounds (whole_frames capture) → i + 1 < length starts → Between capture (get_or starts i d) (get_or starts (i + 1) e) (get_or (whole_frames capture) i [])
frame_between capture starts i d e fits is there =
    bounds_there capture i (get_or starts i d) (get_or starts (i + 1) e) d e fits (omega (arith, there, count_bounds capture starts is)) (ap (λ (l : List ℕ). get_or l i d) is) (ap (λ (l : List ℕ). get_or l (i + 1) e) is)

-- what follows an offset, as a slice
pub rest_begins : (capture : List ℕ) (at len : ℕ) → BeginsWithFrame (take (length capture - at) (drop at capture)) len → BeginsWithFrame (drop at capture) len
rest_begins capture at len b = let P : List ℕ → Type 0 = λ l. BeginsWithFrame l len in subst P (take_rest capture at) b

pub rest_is_partial : (capture : List ℕ) (at : ℕ) → IsPartial (take (length capture - at) (drop at capture)) → IsPartial (drop at capture)
rest_is_partial capture at p = let P : List ℕ → Type 0 = λ l. IsPartial l in subst P (take_rest capture at) p
