-- What a reader of bits has read after each of its answers, and that the answers are the bits of the bytes.
use Rattle.std.proofs.Common.{◌≡◌, ◌≢◌, ◌<◌, ◌≤◌, ◌+◌, ◌-◌, ◌/◌, ◌%◌, ◌^◌, ◌==◌, ◌&&◌, ℕ, zero, suc, Bool, true, false, List, [], ◌∷◌, ◌++◌, length, take, drop, slice_index, nat_le, nat_lt, Option, Some, IsSome, Result, Ok, Err, refl, sym, ◌∙◌, ap, subst, inl, inr, arith, append_assoc, if◌then◌else◌}
use Rattle.std.specs.List.{slice_range}
use Rattle.std.proofs.lemmas.Bool.{leb-false, le-leb, lt-leb}
use Rattle.std.proofs.lemmas.Bool.Decides.{eqb_tells}
use Rattle.std.proofs.lemmas.List.{append-nil, length-append, drop_at, get_or-drop, nil_from_length}
use Rattle.codestream_model.specs.Bytes.{IsBytes}
use Rattle.codestream_model.specs.StuffedBits.{IsStuffed, number_bits, width_after, carried_after, carried, sound_after, packed_bits, closing_after, Packs, bytes_of_bits}
use Rattle.codestream_model.proofs.PackingLemmas.{last_after, carried-append}
use Rattle.codestream_model.proofs.HeaderLemmas.{stuffed_tail, bytes_reached}
use Rattle.codestream_model.proofs.OneWayLemmas.{same_front}
use Rattle.stuffed_bits.specs.Carried.{last_from, last_of, before_next}
use Rattle.stuffed_bits.specs.BitInState.{BitInState}
use Rattle.stuffed_bits.specs.BitsRead.{HasDrawn, answer_after, next_of, IsEndBy}
use Rattle.stuffed_bits.specs.declared.stop.Stop.{Stop}
use Rattle.stuffed_bits.specs.declared.stop.Stop.TheVariants.{Need, Stuffed}
use Rattle.stuffed_bits.proofs.CarriedLemmas.{same_last, before_last, last-push, bytes-push, stuffed-push, stuffed_less}
use Rattle.stuffed_bits.proofs.RangeLemmas.{range_and_rest}
use Rattle.stuffed_bits.proofs.PackedLemmas.{packs_where_closed, reach_of}

-- the first of the bits of a number
pub first_bit : (n v : ℕ) → 0 < n → number_bits n v ≡ (v / 2 ^ (n - 1) % 2 == 1) ∷ number_bits (n - 1) v
unfolding number_bits
first_bit zero v h = absurd (omega arith)
first_bit (suc n) v h = let e : suc n - 1 ≡ n = omega arith in rw e refl

-- what is in hand after a byte that was just taken
abbrev pub took : BitInState → ℕ → BitInState
took h b = record h { last = Some b; left = width_after (before_next h.last) }

-- stuffed bytes are sound, whatever follows them
sound_of_front : (before : ℕ) (bytes more : List ℕ) → (before ≡ 255 → slice_index bytes 0 < 128) → IsStuffed bytes → sound_after before (bytes ++ more) ≡ bytes ++ sound_after (last_from before bytes) more
unfolding sound_after last_from
sound_of_front before [] more first stuffed = refl
sound_of_front before (b ∷ bytes) more first stuffed =
    let sound : ((before == 255) && nat_le 128 b) ≡ false = elim (eqb_tells before 255) [
      | inl t ↦ let low : b < 128 = first t.1 in rw (t.0, lt-leb 128 b low) refl
      | inr t ↦ rw t.0 refl
    ] in
    rw sound (ap (λ (l : List ℕ). b ∷ l) (sound_of_front b bytes more (stuffed 0) (stuffed_tail b bytes stuffed)))

-- what is sound of the bytes that were taken and of those that follow
pub sound_of_all : (bits : List Bool) (bytes more : List ℕ) (h : BitInState) → HasDrawn bits bytes h → sound_after 0 (bytes ++ more) ≡ bytes ++ sound_after (before_next h.last) more
sound_of_all bits bytes more h r =
    let same : before_next h.last ≡ last_from 0 bytes = ap before_next r.last ∙ before_last bytes in
    rw same (sound_of_front 0 bytes more (λ e. absurd (omega arith)) r.holds.stuffed)

-- the bits that bytes carry are those that were given, those in hand, and those of the bytes that follow
pub bits_of_all : (bits : List Bool) (bytes more : List ℕ) (h : BitInState) → HasDrawn bits bytes h
    → (packed_bits (bytes ++ more)).bits ≡ bits ++ (number_bits h.left (before_next h.last) ++ carried_after (before_next h.last) (sound_after (before_next h.last) more))
bits_of_all bits bytes more h r =
    let last = before_next h.last in
    let same : last_after 0 bytes ≡ last = same_last 0 bytes ∙ sym (ap before_next r.last ∙ before_last bytes) in
    let bits_after = carried_after last (sound_after last more) in
    ap carried (sound_of_all bits bytes more h r)
    ∙ (carried-append 0 bytes (sound_after last more)
    ∙ (ap (λ (k : ℕ). carried bytes ++ carried_after k (sound_after last more)) same
    ∙ (ap (λ (l : List Bool). l ++ bits_after) r.holds.filled ∙ append_assoc bits (number_bits h.left last) bits_after)))

-- the bits that follow those that were given
pub bits_following : (bits : List Bool) (bytes more : List ℕ) (h : BitInState) → HasDrawn bits bytes h
    → drop (length bits) (packed_bits (bytes ++ more)).bits ≡ number_bits h.left (before_next h.last) ++ carried_after (before_next h.last) (sound_after (before_next h.last) more)
bits_following bits bytes more h r =
    let last = before_next h.last in
    let bits_after = number_bits h.left last ++ carried_after last (sound_after last more) in
    ap (drop (length bits)) (bits_of_all bits bytes more h r) ∙ drop_at bits bits_after (length bits) refl

-- the bits that bytes and a piece carry, where n of them were read
pub bits_through : (bits front : List Bool) (bytes piece : List ℕ) (at end : ℕ) (h : BitInState) → at ≤ end → HasDrawn (bits ++ front) (bytes ++ slice_range piece at end) h
    → (rest : List Bool) × ((packed_bits (bytes ++ drop at piece)).bits ≡ bits ++ (front ++ rest))
bits_through bits front bytes piece at end h onward r =
    let last = before_next h.last in
    let rest = number_bits h.left last ++ carried_after last (sound_after last (drop end piece)) in (
      rest,
      ap (λ (l : List ℕ). (packed_bits l).bits) (sym (range_and_rest bytes piece at end onward))
          ∙ (bits_of_all (bits ++ front) (bytes ++ slice_range piece at end) (drop end piece) h r ∙ append_assoc bits front rest),
    )

-- those after the ones that were read before
pub front_behind : (bits front : List Bool) (bytes piece : List ℕ) (at end : ℕ) (h : BitInState) → at ≤ end → HasDrawn (bits ++ front) (bytes ++ slice_range piece at end) h
    → (rest : List Bool) × (drop (length bits) (packed_bits (bytes ++ drop at piece)).bits ≡ front ++ rest)
front_behind bits front bytes piece at end h onward r =
    let t = bits_through bits front bytes piece at end h onward r in
    (t.0, ap (drop (length bits)) t.1 ∙ drop_at bits (front ++ t.0) (length bits) refl)

-- and no others, where none is left
pub no_more_behind : (bits front : List Bool) (bytes piece : List ℕ) (at end : ℕ) (h : BitInState) → at ≤ end → HasDrawn (bits ++ front) (bytes ++ slice_range piece at end) h
    → drop (length (bits ++ front)) (packed_bits (bytes ++ drop at piece)).bits ≡ [] → drop (length bits) (packed_bits (bytes ++ drop at piece)).bits ≡ front
no_more_behind bits front bytes piece at end h onward r none =
    let t = bits_through bits front bytes piece at end h onward r in
    let whole : (packed_bits (bytes ++ drop at piece)).bits ≡ (bits ++ front) ++ t.0 = t.1 ∙ sym (append_assoc bits front t.0) in
    let rest : t.0 ≡ [] = sym (ap (drop (length (bits ++ front))) whole ∙ drop_at (bits ++ front) t.0 (length (bits ++ front)) refl) ∙ none in
    ap (drop (length bits)) t.1 ∙ (drop_at bits (front ++ t.0) (length bits) refl ∙ (ap (λ (l : List Bool). front ++ l) rest ∙ append-nil front))

-- a bit that was read is the answer
pub bit_is : (b : Bool) (bits : List Bool) (bytes piece : List ℕ) (at end : ℕ) (h : BitInState) → at ≤ end → HasDrawn (bits ++ b ∷ []) (bytes ++ slice_range piece at end) h
    → Ok b ≡ answer_after bits (packed_bits (bytes ++ drop at piece))
bit_is b bits bytes piece at end h onward r =
    let t = front_behind bits (b ∷ []) bytes piece at end h onward r in
    let bits_after : drop (length bits) (packed_bits (bytes ++ drop at piece)).bits ≡ b ∷ t.0 = t.1 in
    rw bits_after refl

-- a choice of a byte, by its test
no_choice : (t : Bool) (b : ℕ) → (if t then Err Stuffed else Ok b) ≡ Err Need → ⊥
no_choice true b e = cc
no_choice false b e = cc

broken_choice : (t : Bool) (b : ℕ) → (if t then Err Stuffed else Ok b) ≡ Err Stuffed → t ≡ true
broken_choice true b e = refl
broken_choice false b e = absurd (cc)

byte_choice : (t : Bool) (b c : ℕ) → (if t then Err Stuffed else Ok b) ≡ Ok c → (t ≡ false) × (b ≡ c)
byte_choice true b c e = absurd (cc)
byte_choice false b c e = (refl, cc)

-- what the next byte is, by what is said of it
pub none_next : (before : ℕ) (more : List ℕ) → next_of before more ≡ Err Need → more ≡ []
none_next before [] e = refl
none_next before (b ∷ more) e = absurd (no_choice ((before == 255) && nat_le 128 b) b e)

pub broken_next : (before : ℕ) (more : List ℕ) → next_of before more ≡ Err Stuffed → (sound_after before more ≡ []) × (0 < length more)
unfolding sound_after
broken_next before [] e = absurd (cc)
broken_next before (b ∷ more) e = (let t : ((before == 255) && nat_le 128 b) ≡ true = broken_choice ((before == 255) && nat_le 128 b) b e in rw t refl, omega arith)

pub byte_next : (before : ℕ) (more : List ℕ) (c : ℕ) → next_of before more ≡ Ok c → (rest : List ℕ) × (more ≡ c ∷ rest) × (sound_after before more ≡ c ∷ sound_after c rest) × (before ≡ 255 → c < 128)
unfolding sound_after
byte_next before [] c e = absurd (cc)
byte_next before (b ∷ more) c e =
    let t = byte_choice ((before == 255) && nat_le 128 b) b c e in
    let test : ((before == 255) && nat_le 128 b) ≡ false = t.0 in
    let same : b ≡ c = t.1 in (
      more,
      ap (λ (k : ℕ). k ∷ more) same,
      rw test (ap (λ (k : ℕ). k ∷ sound_after k more) same),
      λ f. let g : (before == 255) ≡ true = ap (λ (k : ℕ). k == 255) f in let u : nat_le 128 b ≡ false = rw g at test in omega (arith, leb-false 128 b u),
    )

-- the answer where no byte follows
pub answer_at_end : (bits : List Bool) (bytes more : List ℕ) (h : BitInState) → h.left ≡ 0 → next_of (before_next h.last) more ≡ Err Need → HasDrawn bits bytes h
    → Err Need ≡ answer_after bits (packed_bits (bytes ++ more))
unfolding number_bits carried_after sound_after
answer_at_end bits bytes more h none e r =
    let all : more ≡ [] = none_next (before_next h.last) more e in
    let bits_after : drop (length bits) (packed_bits (bytes ++ more)).bits ≡ [] = bits_following bits bytes more h r ∙ rw (none, all) refl in
    let sound : sound_after 0 (bytes ++ more) ≡ bytes ++ more = sound_of_all bits bytes more h r ∙ rw all refl in
    let whole : nat_lt (length (sound_after 0 (bytes ++ more))) (length (bytes ++ more)) ≡ false = rw sound (lt-leb (suc (length (bytes ++ more))) (length (bytes ++ more)) (omega arith)) in
    rw (bits_after, whole) refl

-- where a byte follows that breaks the stuffing
pub answer_broken : (bits : List Bool) (bytes more : List ℕ) (h : BitInState) → h.left ≡ 0 → next_of (before_next h.last) more ≡ Err Stuffed → HasDrawn bits bytes h
    → Err Stuffed ≡ answer_after bits (packed_bits (bytes ++ more))
unfolding number_bits carried_after
answer_broken bits bytes more h none e r =
    let next = broken_next (before_next h.last) more e in
    let none_sound : sound_after (before_next h.last) more ≡ [] = next.0 in
    let bits_after : drop (length bits) (packed_bits (bytes ++ more)).bits ≡ [] = bits_following bits bytes more h r ∙ rw (none, none_sound) refl in
    let sound : sound_after 0 (bytes ++ more) ≡ bytes = sound_of_all bits bytes more h r ∙ rw none_sound (append-nil bytes) in
    let part : nat_lt (length (sound_after 0 (bytes ++ more))) (length (bytes ++ more)) ≡ true = rw sound (le-leb (suc (length bytes)) (length (bytes ++ more)) (omega (arith, next.1, length-append bytes more))) in
    rw (bits_after, part) refl

-- where no byte can be taken, for either reason
pub answer_stops : (bits : List Bool) (bytes more : List ℕ) (h : BitInState) (stopped : Stop) → h.left ≡ 0 → next_of (before_next h.last) more ≡ Err stopped → HasDrawn bits bytes h
    → answer_after bits (packed_bits (bytes ++ more)) ≡ Err stopped
answer_stops bits bytes more h Need none e r = sym (answer_at_end bits bytes more h none e r)
answer_stops bits bytes more h Stuffed none e r = sym (answer_broken bits bytes more h none e r)

-- the answer to a bit where no byte can be taken
pub same_end : (answer : Result Bool Stop) (out : Result (Unit {0}) Stop) (stopped : Stop) → out ≡ Err stopped → IsEndBy answer out → answer ≡ Err stopped
same_end answer out stopped e h = let P : Result (Unit {0}) Stop → Type 0 = λ o. IsEndBy answer o in subst P e h

-- no byte of a piece, and one
pub range_none : (xs : List ℕ) (i : ℕ) → slice_range xs i i ≡ []
range_none xs i = let e : i - i ≡ 0 = omega arith in rw e refl

pub range_one : (xs rest : List ℕ) (i b : ℕ) → drop i xs ≡ b ∷ rest → slice_range xs i (i + 1) ≡ b ∷ []
range_one xs rest i b e = let f : i + 1 - i ≡ 1 = omega arith in rw (f, e) refl

-- a reader with a byte in hand has taken one
some_bytes : (bytes : List ℕ) → IsSome (last_of bytes) → 0 < length bytes
some_bytes [] h = absurd (cc)
some_bytes (b ∷ bytes) h = omega arith

pub took_some : (bits : List Bool) (bytes : List ℕ) (h : BitInState) → IsSome h.last → HasDrawn bits bytes h → 0 < length bytes
took_some bits bytes h some r = let P : Option ℕ → Type 0 = λ o. IsSome o in some_bytes bytes (subst P r.last some)

-- bits whose last byte isn't FF are closed by none
pub closed_by_none : (bits : List Bool) (bytes piece : List ℕ) (at : ℕ) (h : BitInState) → IsSome h.last → before_next h.last ≢ 255 → HasDrawn bits bytes h → Packs bits (bytes ++ slice_range piece at at)
closed_by_none bits bytes piece at h some other r =
    let same : before_next h.last ≡ last_from 0 bytes = ap before_next r.last ∙ before_last bytes in
    let v = before_next h.last in
    let size : 0 ≡ closing_after (last_from 0 bytes) = elim (eqb_tells (last_from 0 bytes) 255) [ inl t ↦ absurd (other (same ∙ t.1)) | inr t ↦ rw t.0 refl ] in
    let none : bytes ++ slice_range piece at at ≡ bytes = ap (λ (l : List ℕ). bytes ++ l) (range_none piece at) ∙ append-nil bytes in
    let P : List ℕ → Type 0 = λ l. IsBytes l in
    let Q : List ℕ → Type 0 = λ l. IsStuffed l in
    let R : List ℕ → Type 0 = λ l. Packs bits l in
    let e : bytes ≡ bytes ++ [] = sym (append-nil bytes) in
    subst R (sym (none ∙ e)) (packs_where_closed bits (number_bits h.left v) bytes [] r.holds (took_some bits bytes h some r) size (subst P e r.holds.each) (subst Q e r.holds.stuffed))

-- and those whose last byte is FF by one whose top bit is 0
pub closed_by_one : (bits : List Bool) (bytes piece : List ℕ) (at b : ℕ) (h : BitInState) → IsSome h.last → before_next h.last ≡ 255 → b < 256 → next_of (before_next h.last) (drop at piece) ≡ Ok b
    → HasDrawn bits bytes h → Packs bits (bytes ++ slice_range piece at (at + 1))
closed_by_one bits bytes piece at b h some ff small e r =
    let same : before_next h.last ≡ last_from 0 bytes = ap before_next r.last ∙ before_last bytes in
    let next = byte_next (before_next h.last) (drop at piece) b e in
    let low : b < 128 = next.3 ff in
    let size : 1 ≡ closing_after (last_from 0 bytes) = let f : last_from 0 bytes ≡ 255 = sym same ∙ ff in rw f refl in
    let one : slice_range piece at (at + 1) ≡ b ∷ [] = range_one piece next.0 at b next.1 in
    rw one (packs_where_closed bits (number_bits h.left (before_next h.last)) bytes (b ∷ []) r.holds (took_some bits bytes h some r) size
    (bytes-push bytes b r.holds.each small) (stuffed-push bytes b r.holds.stuffed (λ f. low)))

-- an item of a piece is a byte
pub byte_of_piece : (piece rest : List ℕ) (at b : ℕ) → drop at piece ≡ b ∷ rest → IsBytes piece → b < 256
byte_of_piece piece rest at b e h = omega (arith, h (at + 0), get_or-drop at piece 0 0, ap (λ (l : List ℕ). slice_index l 0) e)

-- one item of a list is its first
first_of_one : (n : ℕ) (rest : List ℕ) → length (take n rest) ≡ 1 → (b : ℕ) × (more : List ℕ) × (rest ≡ b ∷ more) × (take n rest ≡ b ∷ [])
first_of_one zero rest e = absurd (omega arith)
first_of_one (suc n) [] e = absurd (omega arith)
first_of_one (suc n) (b ∷ more) e = (b, more, refl, ap (λ (l : List ℕ). b ∷ l) (nil_from_length (take n more) (omega arith)))

-- where a prefix of the bytes that follow closes bits whose last byte is FF, it is one byte whose top bit is 0
pub closed_by_front : (bits : List Bool) (bytes rest : List ℕ) (n : ℕ) (h : BitInState) → IsSome h.last → before_next h.last ≡ 255 → HasDrawn bits bytes h → Packs bits (bytes ++ take n rest)
    → (b : ℕ) × (more : List ℕ) × (rest ≡ b ∷ more) × (b < 128)
closed_by_front bits bytes rest n h some ff r p =
    let same : before_next h.last ≡ last_from 0 bytes = ap before_next r.last ∙ before_last bytes in
    let begun : 0 < length bytes = took_some bits bytes h some r in
    let high : length bits ≤ length (carried (p.front ++ p.last ∷ [])) = omega (arith, ap length p.filled, length-append bits p.pad) in
    let reached : length bytes ≡ suc (length p.front) =
    sym (reach_of bits (number_bits h.left (before_next h.last)) bytes (take n rest) r.holds begun)
    ∙ (ap (bytes_of_bits 0 (length bits)) p.whole ∙ bytes_reached 0 p.front p.last p.closing (length bits) p.needed high) in
    let parts = same_front bytes (p.front ++ p.last ∷ []) (take n rest) p.closing (omega (arith, length-append p.front (p.last ∷ []))) (p.whole ∙ sym (append_assoc p.front (p.last ∷ []) p.closing)) in
    let last : p.last ≡ 255 = sym (last-push 0 p.front p.last) ∙ (ap (last_from 0) (sym parts.0) ∙ (sym same ∙ ff)) in
    let one : length (take n rest) ≡ 1 = ap length parts.1 ∙ (p.closed ∙ rw last refl) in
    let first = first_of_one n rest one in
    let P : List ℕ → Type 0 = λ l. IsStuffed (bytes ++ l) in
    (first.0, first.1, first.2, (stuffed_less bytes first.0 (subst P first.3 p.stuffed)).1 (sym same ∙ ff))

-- so nothing closes them where no byte follows, or one that breaks the stuffing
pub none_closes : (bits : List Bool) (bytes rest : List ℕ) (n : ℕ) (h : BitInState) → IsSome h.last → before_next h.last ≡ 255 → next_of (before_next h.last) rest ≡ Err Need → HasDrawn bits bytes h → Packs bits (bytes ++ take n rest) → ⊥
none_closes bits bytes rest n h some ff e r p =
    let c = closed_by_front bits bytes rest n h some ff r p in
    let none : rest ≡ [] = none_next (before_next h.last) rest e in
    omega (arith, ap length (sym none ∙ c.2))

pub broken_closes_nothing : (bits : List Bool) (bytes rest : List ℕ) (n : ℕ) (h : BitInState) → IsSome h.last → before_next h.last ≡ 255 → next_of (before_next h.last) rest ≡ Err Stuffed → HasDrawn bits bytes h
    → Packs bits (bytes ++ take n rest) → ⊥
broken_closes_nothing bits bytes rest n h some ff e r p =
    let c = closed_by_front bits bytes rest n h some ff r p in
    let low : nat_le 128 c.0 ≡ false = lt-leb 128 c.0 c.3 in
    let found : next_of (before_next h.last) (c.0 ∷ c.1) ≡ Err Stuffed = ap (next_of (before_next h.last)) (sym c.2) ∙ e in
    let not : next_of 255 (c.0 ∷ c.1) ≡ Ok c.0 = rw low refl in
    let other : next_of (before_next h.last) (c.0 ∷ c.1) ≡ Ok c.0 = ap (λ (k : ℕ). next_of k (c.0 ∷ c.1)) ff ∙ not in
    let clash : Err Stuffed ≡ Ok c.0 = sym found ∙ other in
    cc

-- so where no byte can be taken nothing closes them
pub nothing_closes : (bits : List Bool) (bytes rest : List ℕ) (n : ℕ) (h : BitInState) (stopped : Stop) → IsSome h.last → before_next h.last ≡ 255 → next_of (before_next h.last) rest ≡ Err stopped → HasDrawn bits bytes h
    → Packs bits (bytes ++ take n rest) → ⊥
nothing_closes bits bytes rest n h Need some ff e r p = none_closes bits bytes rest n h some ff e r p
nothing_closes bits bytes rest n h Stuffed some ff e r p = broken_closes_nothing bits bytes rest n h some ff e r p
