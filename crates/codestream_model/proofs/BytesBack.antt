-- What is read of bytes as refused is refused, and what is read as unfinished wants another byte.
use Rattle.std.proofs.Common.{◌≡◌, ◌≢◌, ◌<◌, ◌≤◌, ◌+◌, ◌-◌, ◌==◌, ◌&&◌, ℕ, suc, Bool, true, false, List, [], ◌∷◌, ◌++◌, length, take, drop, nat_le, nat_lt, slice_index, Some, None, refl, sym, ◌∙◌, ap, subst, inl, inr, arith, append_assoc, if◌then◌else◌}
use Rattle.std.proofs.lemmas.Bool.{and_parts, le-leb, leb-true, leb-false}
use Rattle.std.proofs.lemmas.Bool.Decides.{eqb_tells}
use Rattle.std.proofs.lemmas.List.{append-nil, length-append, length-take, take_all, take-append-drop}
use Rattle.codestream_model.specs.Values.{Grid, Block}
use Rattle.codestream_model.specs.Bytes.{IsBytes}
use Rattle.codestream_model.specs.StuffedBits.{IsStuffed, width_after, number_bits, carried_after, carried, sound_after, bytes_of_bits}
use Rattle.codestream_model.specs.HeaderPieces.{HeaderRefusal, Stuffed, ZeroPlanes, Passes, LengthBits, CleanupShort, CleanupLong, RefineLong, TooLong, NoEph, Piece, InclusionPiece, PlanesPiece, PassesPiece, LblockPiece, CleanupPiece, RefinePiece, fault_of}
use Rattle.codestream_model.specs.PacketHeader.{HaveOwnBands, WantsMore, IsTooLong, IsBrokenStuffing, IsRefusedPiece, RefusesHeader, NeedsHeaderBytes}
use Rattle.codestream_model.specs.PacketHeaderReading.{Done, Need, Bad, Read, Got, AtEnd, Refused, read_bits, end_by, at_end, closed_by, readable_bits, header_of}
use Rattle.codestream_model.specs.PacketLaws.{RefusalsAreSound, NeedsAreSound}
use Rattle.codestream_model.proofs.BitLemmas.{number_bits-length}
use Rattle.codestream_model.proofs.PackingLemmas.{last_after, width-ge}
use Rattle.codestream_model.proofs.TreeLemmas.{either, equal_number}
use Rattle.codestream_model.proofs.HeaderLemmas.{bytes_reached, byte_behind, second_behind}
use Rattle.codestream_model.proofs.BytesLemmas.{sound_split, split_bits, bytes_front}
use Rattle.codestream_model.proofs.SoundLemmas.{bits_say}
use Rattle.codestream_model.proofs.BitsJudged.{refused_back, at_end_back}
use Rattle.codestream_model.proofs.BytesJudged.{answer_by, end_is}

-- bytes that carry no bit are none
no_bits : (before : ℕ) (bytes : List ℕ) → carried_after before bytes ≡ [] → bytes ≡ []
unfolding carried_after
no_bits before [] e = refl
no_bits before (b ∷ bytes) e =
    absurd (omega (arith, ap length e, length-append (number_bits (width_after before) b) (carried_after b bytes), number_bits-length (width_after before) b, width-ge before))

-- the byte that breaks the stuffing
broken_split : (before : ℕ) (bytes : List ℕ) → length (sound_after before bytes) < length bytes
    → (byte : ℕ) × (back : List ℕ) × (bytes ≡ sound_after before bytes ++ byte ∷ back) × (128 ≤ byte) × (last_after before (sound_after before bytes) ≡ 255)
unfolding sound_after last_after
broken_split before [] h = absurd (omega arith)
broken_split before (b ∷ bytes) h = elim (either ((before == 255) && nat_le 128 b)) [
  | inl t ↦
      let p = and_parts (before == 255) (nat_le 128 b) t in
      rw t (b, bytes, refl, leb-true 128 b p.1, equal_number before 255 p.0)
  | inr t ↦
      let h' : suc (length (sound_after b bytes)) < suc (length bytes) = rw t at h in
      let r = broken_split b bytes (omega arith) in
      rw t (r.0, r.1, ap (λ (l : List ℕ). b ∷ l) r.2, r.3, r.4)
]

-- bytes of which the last is this
last_split : (before y : ℕ) (xs : List ℕ) (last : ℕ) → last_after before (y ∷ xs) ≡ last → (front : List ℕ) × (y ∷ xs ≡ front ++ last ∷ [])
unfolding last_after
last_split before y [] last e = ([], ap (λ (n : ℕ). n ∷ []) e)
last_split before y (z ∷ xs) last e = let r = last_split y z xs last e in (y ∷ r.0, ap (λ (l : List ℕ). y ∷ l) r.1)

-- bytes of which the last is FF
ends_in_ff : (xs : List ℕ) → last_after 0 xs ≡ 255 → (front : List ℕ) × (xs ≡ front ++ 255 ∷ [])
unfolding last_after
ends_in_ff [] e = absurd (omega arith)
ends_in_ff (x ∷ xs) e = last_split 0 x xs 255 e

-- no piece is refused for what bytes have
not_of_bytes : (p : Piece) (why : HeaderRefusal) → fault_of p ≡ Some why → (why ≢ Stuffed) × (why ≢ TooLong) × (why ≢ NoEph)
not_of_bytes (InclusionPiece b) why e = absurd (cc)
not_of_bytes (PlanesPiece s) why e = elim (either (nat_le s.to 74)) [
  | inl t ↦ let f : None ≡ Some why = rw t at e in absurd (cc)
  | inr t ↦ let f : Some ZeroPlanes ≡ Some why = rw t at e in (λ h. cc, λ h. cc, λ h. cc)
]
not_of_bytes (PassesPiece n) why e = elim (either (nat_le n 3)) [
  | inl t ↦ let f : None ≡ Some why = rw t at e in absurd (cc)
  | inr t ↦ let f : Some Passes ≡ Some why = rw t at e in (λ h. cc, λ h. cc, λ h. cc)
]
not_of_bytes (LblockPiece n) why e = elim (either (nat_le n 24)) [
  | inl t ↦ let f : None ≡ Some why = rw t at e in absurd (cc)
  | inr t ↦ let f : Some LengthBits ≡ Some why = rw t at e in (λ h. cc, λ h. cc, λ h. cc)
]
not_of_bytes (CleanupPiece width n) why e = elim (either (nat_lt n 2)) [
  | inl t ↦ let f : Some CleanupShort ≡ Some why = rw t at e in (λ h. cc, λ h. cc, λ h. cc)
  | inr t ↦ elim (either (nat_le 65535 n)) [
    | inl u ↦ let f : Some CleanupLong ≡ Some why = rw (t, u) at e in (λ h. cc, λ h. cc, λ h. cc)
    | inr u ↦ let f : None ≡ Some why = rw (t, u) at e in absurd (cc)
  ]
]
not_of_bytes (RefinePiece width n) why e = elim (either (nat_le 2047 n)) [
  | inl t ↦ let f : Some RefineLong ≡ Some why = rw t at e in (λ h. cc, λ h. cc, λ h. cc)
  | inr t ↦ let f : None ≡ Some why = rw t at e in absurd (cc)
]

-- a refused piece refuses the bytes
piece_refuses : (gs : List Grid) (bytes : List ℕ) (why : HeaderRefusal) → IsRefusedPiece gs bytes why → RefusesHeader gs bytes why
piece_refuses gs bytes Stuffed t = absurd ((not_of_bytes t.fault.piece Stuffed t.fault.fault).0 refl)
piece_refuses gs bytes TooLong t = absurd ((not_of_bytes t.fault.piece TooLong t.fault.fault).1 refl)
piece_refuses gs bytes ZeroPlanes t = t
piece_refuses gs bytes Passes t = t
piece_refuses gs bytes LengthBits t = t
piece_refuses gs bytes CleanupShort t = t
piece_refuses gs bytes CleanupLong t = t
piece_refuses gs bytes RefineLong t = t
piece_refuses gs bytes NoEph t = absurd ((not_of_bytes t.fault.piece NoEph t.fault.fault).2 refl)

-- the sound front of the bytes that are read
abbrev front_of : List ℕ → List ℕ
front_of bytes = sound_after 0 (take 65536 bytes)

-- it is a prefix of them, and what is after it
record Fronts (bytes : List ℕ) : Type 0 where
  more : List ℕ
  seen : take 65536 bytes ≡ front_of bytes ++ more
  whole : bytes ≡ front_of bytes ++ (more ++ drop 65536 bytes)
  stuffed : IsStuffed (front_of bytes)
  short : length (front_of bytes) ≤ 65536

-- each of them has such a front
fronts_of : (bytes : List ℕ) → Fronts bytes
fronts_of bytes =
    let s = sound_split 0 (take 65536 bytes) in
    record {
      more = s.0;
      seen = s.1;
      whole = sym (take-append-drop 65536 bytes) ∙ (ap (λ (l : List ℕ). l ++ drop 65536 bytes) s.1 ∙ append_assoc (front_of bytes) s.0 (drop 65536 bytes));
      stuffed = s.2;
      short = omega (arith, ap length s.1, length-append (front_of bytes) s.0, length-take 65536 bytes);
    }

-- which has bytes
fronts_are_bytes : (bytes : List ℕ) → IsBytes bytes → (f : Fronts bytes) → IsBytes (front_of bytes)
fronts_are_bytes bytes fits f =
    let P : List ℕ → Type 0 = λ l. IsBytes l in
    bytes_front (front_of bytes) (f.more ++ drop 65536 bytes) (subst P f.whole fits)

-- what is read of bytes is a header, or a refused piece, or the sound front wants another byte
data HeaderTold (gs : List Grid) (bytes : List ℕ) : Type 0 where
  TellsDone : (used : ℕ) → (blocks : List Block) → header_of gs bytes ≡ Done used blocks → HeaderTold gs bytes
  TellsFault : (why : HeaderRefusal) → header_of gs bytes ≡ Bad why → IsRefusedPiece gs bytes why → HeaderTold gs bytes
  TellsEnd : header_of gs bytes ≡ at_end bytes → WantsMore gs (front_of bytes) → HeaderTold gs bytes

-- a refused piece
tell_fault : (gs : List Grid) (bytes : List ℕ) (why : HeaderRefusal) → IsBytes bytes → HaveOwnBands gs → read_bits gs (readable_bits bytes) ≡ Refused why → HeaderTold gs bytes
tell_fault gs bytes why fits bands e =
    let f = fronts_of bytes in
    TellsFault why (answer_by gs bytes (Refused why) e)
    (record { front = front_of bytes; back = f.more ++ drop 65536 bytes; whole = f.whole; short = f.short; each = fronts_are_bytes bytes fits f; stuffed = f.stuffed; fault = refused_back gs (readable_bits bytes) why bands e })

-- the end of the bits
tell_end : (gs : List Grid) (bytes : List ℕ) → IsBytes bytes → HaveOwnBands gs → read_bits gs (readable_bits bytes) ≡ AtEnd → HeaderTold gs bytes
tell_end gs bytes fits bands e =
    let f = fronts_of bytes in
    TellsEnd (answer_by gs bytes AtEnd e)
    (record {
      each = fronts_are_bytes bytes fits f;
      stuffed = f.stuffed;
      unfinished = elim (at_end_back gs (readable_bits bytes) bands e) [ inl t ↦ inl (no_bits 0 (front_of bytes) t) | inr t ↦ inr (inl t) ];
    })

-- bytes after a last byte that are stuffed, and that a test doesn't find, aren't there
none_behind : (bytes front : List ℕ) (last : ℕ) (tail more : List ℕ) → last ≡ 255 → IsStuffed (front ++ last ∷ tail) → bytes ≡ front ++ last ∷ (tail ++ more) → suc (length front + length tail) ≤ length (take 65536 bytes)
    → (nat_lt (suc (length front)) (length (take 65536 bytes)) && nat_lt (slice_index bytes (suc (length front))) 128) ≡ false → tail ≡ []
none_behind bytes front last [] more ff stuffed whole long e = refl
none_behind bytes front last (c ∷ tail) more ff stuffed whole long e =
    let next : length front + 1 ≡ suc (length front) = omega arith in
    let low : slice_index (front ++ last ∷ c ∷ tail) (length front + 1) < 128 = stuffed (length front) (byte_behind front last (c ∷ tail) ∙ ff) in
    let c_low : c < 128 = rw (next, second_behind front last c tail) at low in
    let is : slice_index bytes (suc (length front)) ≡ c = ap (λ (l : List ℕ). slice_index l (suc (length front))) whole ∙ second_behind front last c (tail ++ more) in
    let a : nat_lt (suc (length front)) (length (take 65536 bytes)) ≡ true = le-leb (suc (suc (length front))) (length (take 65536 bytes)) (omega arith) in
    let b : nat_lt (slice_index bytes (suc (length front))) 128 ≡ true = ap (λ (n : ℕ). nat_lt n 128) is ∙ le-leb (suc c) 128 c_low in
    let both : true ≡ false = sym (ap (λ (x : Bool). x && nat_lt (slice_index bytes (suc (length front))) 128) a ∙ b) ∙ e in
    absurd (cc)

-- how a header is closed, by the tests
closed_if : (bytes : List ℕ) (n : ℕ) (blocks : List Block) (a b : Bool) → (slice_index bytes (n - 1) == 255) ≡ a → (nat_lt n (length (take 65536 bytes)) && nat_lt (slice_index bytes n) 128) ≡ b
    → closed_by bytes n blocks ≡ (if a then (if b then Done (n + 1) blocks else at_end bytes) else Done n blocks)
closed_if bytes n blocks a b e f = rw (e, f) refl

-- all bits of a header
tell_got : (gs : List Grid) (bytes : List ℕ) (blocks : List Block) (rest : List Bool) → IsBytes bytes → HaveOwnBands gs → read_bits gs (readable_bits bytes) ≡ Got blocks rest → HeaderTold gs bytes
tell_got gs bytes blocks rest fits bands e =
    let f = fronts_of bytes in
    let b = bits_say gs (readable_bits bytes) blocks rest bands e in
    let left : length (readable_bits bytes) - length rest ≡ length b.front = omega (arith, ap length b.whole, length-append b.front rest) in
    let more : length b.front ≤ length (carried (front_of bytes)) = omega (arith, ap length b.whole, length-append b.front rest) in
    let sb = split_bits 0 (front_of bytes) (length b.front) b.some more in
    let front = sb.0 in
    let last = sb.1 in
    let tail = sb.2 in
    let behind = f.more ++ drop 65536 bytes in
    let n = suc (length front) in
    let all : bytes ≡ front ++ last ∷ (tail ++ behind) = f.whole ∙ (ap (λ (l : List ℕ). l ++ behind) sb.3 ∙ append_assoc front (last ∷ tail) behind) in
    let used : bytes_of_bits 0 (length b.front) bytes ≡ n = ap (bytes_of_bits 0 (length b.front)) all ∙ bytes_reached 0 front last (tail ++ behind) (length b.front) sb.4 sb.5 in
    let answer : header_of gs bytes ≡ closed_by bytes n blocks =
    answer_by gs bytes (Got blocks rest) e ∙ (ap (λ (k : ℕ). closed_by bytes (bytes_of_bits 0 k bytes) blocks) left ∙ ap (λ (k : ℕ). closed_by bytes k blocks) used) in
    let at : n - 1 ≡ length front = omega arith in
    let is : slice_index bytes (n - 1) ≡ last = ap (λ (k : ℕ). slice_index bytes k) at ∙ (ap (λ (l : List ℕ). slice_index l (length front)) all ∙ byte_behind front last (tail ++ behind)) in
    let test = nat_lt n (length (take 65536 bytes)) && nat_lt (slice_index bytes n) 128 in
    elim (eqb_tells last 255) [
      | inr t ↦ TellsDone n blocks (answer ∙ closed_if bytes n blocks false test (ap (λ (k : ℕ). k == 255) is ∙ t.0) refl)
      | inl t ↦
          let ff : (slice_index bytes (n - 1) == 255) ≡ true = ap (λ (k : ℕ). k == 255) is ∙ t.0 in
          elim (either test) [
            | inl u ↦ TellsDone (n + 1) blocks (answer ∙ closed_if bytes n blocks true true ff u)
            | inr u ↦
                let P : List ℕ → Type 0 = λ l. IsStuffed l in
                let long : suc (length front + length tail) ≤ length (take 65536 bytes) = omega (arith, ap length f.seen, length-append (front_of bytes) f.more, ap length sb.3, length-append front (last ∷ tail)) in
                let none : tail ≡ [] = none_behind bytes front last tail behind t.1 (subst P sb.3 f.stuffed) all long u in
                let whole : front_of bytes ≡ front ++ 255 ∷ [] = sb.3 ∙ (ap (λ (k : ℕ). front ++ k ∷ tail) t.1 ∙ ap (λ (l : List ℕ). front ++ 255 ∷ l) none) in
                TellsEnd (answer ∙ closed_if bytes n blocks true false ff u)
                (record {
                  each = fronts_are_bytes bytes fits f;
                  stuffed = f.stuffed;
                  unfinished = inr (inr (record { blocks = blocks; bits = b.front; is_header = b.is_header; front = front; pad = rest; whole = whole; filled = b.whole; needed = sb.4 }));
                })
          ]
    ]

-- by what is read of the bits
tell_by : (gs : List Grid) (bytes : List ℕ) (r : Read (List Block)) → IsBytes bytes → HaveOwnBands gs → read_bits gs (readable_bits bytes) ≡ r → HeaderTold gs bytes
tell_by gs bytes (Got blocks rest) fits bands e = tell_got gs bytes blocks rest fits bands e
tell_by gs bytes AtEnd fits bands e = tell_end gs bytes fits bands e
tell_by gs bytes (Refused why) fits bands e = tell_fault gs bytes why fits bands e

-- all bytes are told
header_told : (gs : List Grid) (bytes : List ℕ) → IsBytes bytes → HaveOwnBands gs → HeaderTold gs bytes
header_told gs bytes fits bands = tell_by gs bytes (read_bits gs (readable_bits bytes)) fits bands refl

-- after a front that is as long nothing follows
nothing_more : (all front more : List ℕ) → all ≡ front ++ more → length all ≤ length front → all ≡ front
nothing_more all front [] e h = e ∙ append-nil front
nothing_more all front (c ∷ more) e h = absurd (omega (arith, ap length e, length-append front (c ∷ more)))

-- where the sound front is all that is read
all_sound : (bytes : List ℕ) (f : Fronts bytes) → length (take 65536 bytes) ≤ length (front_of bytes) → take 65536 bytes ≡ front_of bytes
all_sound bytes f h = nothing_more (take 65536 bytes) (front_of bytes) f.more f.seen h

-- how bytes are at their end
data EndTold (gs : List Grid) (bytes : List ℕ) : Type 0 where
  EndsBroken : at_end bytes ≡ Bad Stuffed → IsBrokenStuffing gs bytes → EndTold gs bytes
  EndsLong : at_end bytes ≡ Bad TooLong → IsTooLong gs bytes → EndTold gs bytes
  EndsShort : at_end bytes ≡ Need → NeedsHeaderBytes gs bytes → EndTold gs bytes

-- at a byte that breaks the stuffing,
end_broken : (gs : List Grid) (bytes : List ℕ) (f : Fronts bytes) → WantsMore gs (front_of bytes) → length (front_of bytes) < length (take 65536 bytes) → IsBrokenStuffing gs bytes
end_broken gs bytes f w h =
    let b = broken_split 0 (take 65536 bytes) h in
    let e = ends_in_ff (front_of bytes) b.4 in
    let P : List ℕ → Type 0 = λ l. WantsMore gs l in
    record {
      front = e.0;
      byte = b.0;
      back = b.1 ++ drop 65536 bytes;
      whole = sym (take-append-drop 65536 bytes) ∙ (ap (λ (l : List ℕ). l ++ drop 65536 bytes) (b.2 ∙ ap (λ (l : List ℕ). l ++ b.0 ∷ b.1) e.1)
          ∙ (append_assoc (e.0 ++ 255 ∷ []) (b.0 ∷ b.1) (drop 65536 bytes) ∙ append_assoc e.0 (255 ∷ []) (b.0 ∷ (b.1 ++ drop 65536 bytes))));
      high = b.3;
      short = omega (arith, h, ap length e.1, length-append e.0 (255 ∷ []), length-take 65536 bytes);
      wants = subst P e.1 w;
    }

-- after 65,536 bytes, or before
end_told : (gs : List Grid) (bytes : List ℕ) → WantsMore gs (front_of bytes) → EndTold gs bytes
end_told gs bytes w =
    let f = fronts_of bytes in
    let is = end_is bytes (front_of bytes) refl in
    let size = length-take 65536 bytes in
    elim (either (nat_lt (length (front_of bytes)) (length (take 65536 bytes)))) [
      | inl t ↦ EndsBroken (is ∙ ap (λ (b : Bool). end_by (if b then Some (length (front_of bytes)) else None) (length bytes)) t) (end_broken gs bytes f w (leb-true (suc (length (front_of bytes))) (length (take 65536 bytes)) t))
      | inr t ↦
          let all : take 65536 bytes ≡ front_of bytes = all_sound bytes f (omega (arith, leb-false (suc (length (front_of bytes))) (length (take 65536 bytes)) t)) in
          let P : List ℕ → Type 0 = λ l. WantsMore gs l in
          let none : at_end bytes ≡ end_by None (length bytes) = is ∙ ap (λ (b : Bool). end_by (if b then Some (length (front_of bytes)) else None) (length bytes)) t in
          elim (either (nat_le 65536 (length bytes))) [
            | inl u ↦
                let many : 65536 ≤ length bytes = leb-true 65536 (length bytes) u in
                EndsLong (none ∙ ap (λ (b : Bool). if b then Bad TooLong else Need) u)
                (record { front = take 65536 bytes; back = drop 65536 bytes; whole = sym (take-append-drop 65536 bytes); long = omega (arith, size); wants = subst P (sym all) w })
            | inr u ↦
                let few : length bytes < 65536 = leb-false 65536 (length bytes) u in
                let same : front_of bytes ≡ bytes = sym all ∙ take_all 65536 bytes (omega arith) in
                EndsShort (none ∙ ap (λ (b : Bool). if b then Bad TooLong else Need) u) (record { wants = subst P same w; short = few })
          ]
    ]

-- two answers that differ
pub done_bad : (used : ℕ) (blocks : List Block) (why : HeaderRefusal) → Done used blocks ≡ Bad why → ⊥
done_bad used blocks why e = cc

-- a header isn't unfinished,
pub done_need : (used : ℕ) (blocks : List Block) → Done used blocks ≡ Need → ⊥
done_need used blocks e = cc

-- nor is a refusal,
pub bad_need : (why : HeaderRefusal) → Bad why ≡ Need → ⊥
bad_need why e = cc

-- and a refusal has one reason
pub one_reason : (why other : HeaderRefusal) → Bad why ≡ Bad other → why ≡ other
one_reason why other e = cc

-- what is read as refused is refused
pub refusal_sound : RefusalsAreSound
refusal_sound gs bytes why fits bands e =
    let P : HeaderRefusal → Type 0 = λ w. RefusesHeader gs bytes w in
    elim (header_told gs bytes fits bands) [
      | TellsDone used blocks d ↦ absurd (done_bad used blocks why (sym d ∙ e))
      | TellsFault other d t ↦ subst P (one_reason other why (sym d ∙ e)) (piece_refuses gs bytes other t)
      | TellsEnd d w ↦ elim (end_told gs bytes w) [
        | EndsBroken at t ↦ subst P (one_reason Stuffed why (sym (d ∙ at) ∙ e)) t
        | EndsLong at t ↦ subst P (one_reason TooLong why (sym (d ∙ at) ∙ e)) t
        | EndsShort at t ↦ absurd (bad_need why (sym e ∙ (d ∙ at)))
      ]
    ]

-- and what is read as unfinished is
pub needs_sound : NeedsAreSound
needs_sound gs bytes fits bands e = elim (header_told gs bytes fits bands) [
  | TellsDone used blocks d ↦ absurd (done_need used blocks (sym d ∙ e))
  | TellsFault why d t ↦ absurd (bad_need why (sym d ∙ e))
  | TellsEnd d w ↦ elim (end_told gs bytes w) [
    | EndsBroken at t ↦ absurd (bad_need Stuffed (sym (d ∙ at) ∙ e))
    | EndsLong at t ↦ absurd (bad_need TooLong (sym (d ∙ at) ∙ e))
    | EndsShort at t ↦ t
  ]
]
