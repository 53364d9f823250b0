-- Frames: bytes split into them in one way, and this is how it is computed.
use Rattle.std.proofs.Common.{◌≡◌, ◌<◌, ◌≤◌, ◌+◌, ◌*◌, ◌/◌, ◌%◌, ℕ, zero, suc, true, false, List, [], ◌∷◌, ◌++◌, length, take, drop, nat_le, refl, sym, ◌∙◌, ap, inl, inr, arith, append_assoc}
use Rattle.std.proofs.lemmas.Bool.{le-leb, lt-leb}
use Rattle.std.proofs.lemmas.Bool.Decides.{leb_tells}
use Rattle.std.proofs.lemmas.List.{append-nil, length-append, length-drop, length-take-le, take-append-drop, take_at, drop_at, get_or-drop}
use Rattle.std.proofs.lemmas.List.Concat.{flat_map-append}
use Rattle.std.specs.List.{AllByRecursion}
use Rattle.wire_model.specs.Bytes.{IsBytes}
use Rattle.wire_model.specs.Framing.{frame, framing, IsFramed, IsPartial, Splits, first_frames, whole_frames}
use Rattle.wire_model.specs.Laws.{FramesAreComputed, BytesSplit}

-- a capture of two runs of datagrams is their captures, one after the other
pub framing-append : (xs ys : List (List ℕ)) → framing (xs ++ ys) ≡ framing xs ++ framing ys
framing-append xs ys = flat_map-append frame xs ys

-- two runs of datagrams whose lengths can be said are one such run
pub framed-append : (xs ys : List (List ℕ)) → AllByRecursion IsFramed xs → AllByRecursion IsFramed ys → AllByRecursion IsFramed (xs ++ ys)
framed-append [] ys fx fy = fy
framed-append (x ∷ xs) ys fx fy = (fx.0, framed-append xs ys fx.1 fy)

-- a frame whose bytes are all there is the first one
frame_there : (n high low : ℕ) (bytes : List ℕ) → nat_le (high * 256 + low) (length bytes) ≡ true → first_frames (suc n) (high ∷ low ∷ bytes) ≡ take (high * 256 + low) bytes ∷ first_frames n (drop (high * 256 + low) bytes)
unfolding first_frames
frame_there n high low bytes t = rw t refl

-- and one whose bytes aren't all there is none
frame_cut : (n high low : ℕ) (bytes : List ℕ) → nat_le (high * 256 + low) (length bytes) ≡ false → first_frames (suc n) (high ∷ low ∷ bytes) ≡ []
unfolding first_frames
frame_cut n high low bytes t = rw t refl

-- less than a whole frame has no frames
pub no_frames : (n : ℕ) (rest : List ℕ) → IsPartial rest → first_frames n rest ≡ []
unfolding first_frames
no_frames zero rest p = refl
no_frames (suc n) [] p = refl
no_frames (suc n) (high ∷ []) p = refl
no_frames (suc n) (high ∷ low ∷ bytes) p = frame_cut n high low bytes (lt-leb (high * 256 + low) (length bytes) p)

-- a frame at the front is the first one
pub frame_first : (n : ℕ) (d more : List ℕ) → first_frames (suc n) (frame d ++ more) ≡ d ∷ first_frames n more
frame_first n d more =
    let size : length d / 256 * 256 + length d % 256 ≡ length d = omega arith in
    let long : length (d ++ more) ≡ length d + length more = length-append d more in
    let there : nat_le (length d / 256 * 256 + length d % 256) (length (d ++ more)) ≡ true = le-leb (length d / 256 * 256 + length d % 256) (length (d ++ more)) (omega arith) in
    frame_there n (length d / 256) (length d % 256) (d ++ more) there ∙ rw (size, take_at d more (length d) refl, drop_at d more (length d) refl) refl

-- the frames before less than a whole one, with room to read them all
first_of_framing : (n : ℕ) (frames : List (List ℕ)) (rest : List ℕ) → length (framing frames ++ rest) ≤ n → IsPartial rest → first_frames n (framing frames ++ rest) ≡ frames
first_of_framing n [] rest room p = no_frames n rest p
first_of_framing zero (d ∷ ds) rest room p = absurd (omega arith)
first_of_framing (suc n) (d ∷ ds) rest room p =
    let split : (frame d ++ framing ds) ++ rest ≡ frame d ++ (framing ds ++ rest) = append_assoc (frame d) (framing ds) rest in
    let whole : length ((frame d ++ framing ds) ++ rest) ≡ length (frame d) + length (framing ds ++ rest) = ap length split ∙ length-append (frame d) (framing ds ++ rest) in
    let head : length (frame d) ≡ suc (suc (length d)) = refl in
    ap (λ (b : List ℕ). first_frames (suc n) b) split ∙ (frame_first n d (framing ds ++ rest) ∙ ap (λ (fs : List (List ℕ)). d ∷ fs) (first_of_framing n ds rest (omega arith) p))

-- the whole frames of a capture and of less than a whole frame after it are those of the capture
pub whole_frames_of_framing : (frames : List (List ℕ)) (rest : List ℕ) → IsPartial rest → whole_frames (framing frames ++ rest) ≡ frames
whole_frames_of_framing frames rest p = first_of_framing (length (framing frames ++ rest)) frames rest (omega arith) p

-- the frames and the rest of a split are the ones that are computed
pub frames_are_computed : FramesAreComputed
frames_are_computed bytes frames rest s =
    let frames_are : whole_frames bytes ≡ frames = ap whole_frames s.whole ∙ whole_frames_of_framing frames rest s.partial in
    let rest_is : drop (length (framing frames)) bytes ≡ rest = ap (λ (b : List ℕ). drop (length (framing frames)) b) s.whole ∙ drop_at (framing frames) rest (length (framing frames)) refl in
    (sym frames_are, sym (ap (λ (fs : List (List ℕ)). drop (length (framing fs)) bytes) frames_are ∙ rest_is))

-- two splits of the same bytes are one
pub splits_one_way : (bytes : List ℕ) (xs ys : List (List ℕ)) (r q : List ℕ) → Splits bytes xs r → Splits bytes ys q → (xs ≡ ys) × (r ≡ q)
splits_one_way bytes xs ys r q a b =
    let one = frames_are_computed bytes xs r a in
    let other = frames_are_computed bytes ys q b in
    (one.0 ∙ sym other.0, one.1 ∙ sym other.1)

-- one more frame after whole ones
pub splits_more : (bytes : List ℕ) (frames : List (List ℕ)) (d : List ℕ) → Splits bytes frames [] → IsFramed d → Splits (bytes ++ frame d) (frames ++ d ∷ []) []
splits_more bytes frames d s f = record {
  whole =
      let before : bytes ≡ framing frames = s.whole ∙ append-nil (framing frames) in
      let last : framing (d ∷ []) ≡ frame d = append-nil (frame d) in
      ap (λ (b : List ℕ). b ++ frame d) before ∙ (ap (λ (b : List ℕ). framing frames ++ b) (sym last) ∙ (sym (framing-append frames (d ∷ [])) ∙ sym (append-nil (framing (frames ++ d ∷ [])))));
  each = framed-append frames (d ∷ []) s.each (f, tt);
  partial = tt;
}

-- the bytes past a front are bytes
pub bytes-drop : (n : ℕ) (b : List ℕ) → IsBytes b → IsBytes (drop n b)
bytes-drop n b fits i = rw (get_or-drop n b i 0) (fits (n + i))

-- bytes that are less than a whole frame split into no frames
split_none : (bytes : List ℕ) → IsPartial bytes → Splits bytes [] bytes
split_none bytes p = record { whole = refl; each = tt; partial = p }

-- bytes that begin with a frame split if what follows it does
split_first : (high low : ℕ) (bytes : List ℕ) (frames : List (List ℕ)) (rest : List ℕ) → high < 256 → low < 256 → high * 256 + low ≤ length bytes → Splits (drop (high * 256 + low) bytes) frames rest
    → Splits (high ∷ low ∷ bytes) (take (high * 256 + low) bytes ∷ frames) rest
split_first high low bytes frames rest h l there s =
    let size : length (take (high * 256 + low) bytes) ≡ high * 256 + low = length-take-le (high * 256 + low) bytes there in
    let a : length (take (high * 256 + low) bytes) / 256 ≡ high = omega arith in
    let b : length (take (high * 256 + low) bytes) % 256 ≡ low = omega arith in
    let join : (take (high * 256 + low) bytes ++ framing frames) ++ rest ≡ bytes = append_assoc (take (high * 256 + low) bytes) (framing frames) rest ∙ (ap (λ (t : List ℕ). take (high * 256 + low) bytes ++ t) (sym s.whole) ∙ take-append-drop (high * 256 + low) bytes) in
    record { whole = cc; each = (omega arith, s.each); partial = s.partial }

-- the split by the frames that are computed, with room to read them all
split_by : (n : ℕ) (bytes : List ℕ) → length bytes ≤ n → IsBytes bytes → (rest : List ℕ) × Splits bytes (first_frames n bytes) rest
unfolding first_frames
split_by zero [] room fits = ([], split_none [] tt)
split_by zero (high ∷ bytes) room fits = absurd (omega arith)
split_by (suc n) [] room fits = ([], split_none [] tt)
split_by (suc n) (high ∷ []) room fits = (high ∷ [], split_none (high ∷ []) tt)
split_by (suc n) (high ∷ low ∷ bytes) room fits = elim (leb_tells (high * 256 + low) (length bytes)) [
  | inl t ↦
      let more = split_by n (drop (high * 256 + low) bytes) (omega (arith, length-drop (high * 256 + low) bytes)) (bytes-drop (high * 256 + low) bytes (λ i. fits (suc (suc i)))) in
      let there = frame_there n high low bytes t.0 in
      (more.0, rw there (split_first high low bytes (first_frames n (drop (high * 256 + low) bytes)) more.0 (fits 0) (fits 1) t.1 more.1))
  | inr t ↦ (high ∷ low ∷ bytes, rw (frame_cut n high low bytes t.0) (split_none (high ∷ low ∷ bytes) t.1))
]

-- bytes split by the frames that are computed
pub bytes_split : BytesSplit
bytes_split bytes fits =
    let there = split_by (length bytes) bytes (omega arith) fits in
    let rest_is = (frames_are_computed bytes (whole_frames bytes) there.0 there.1).1 in
    rw (← rest_is) there.1
