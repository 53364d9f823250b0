-- Bytes whose first bits are a header's, and which end as an answer says, are a header.
use Rattle.std.proofs.Common.{zero, suc, ◌≡◌, ◌<◌, ◌≤◌, ◌+◌, ◌-◌, ◌==◌, ◌&&◌, ℕ, Bool, true, false, List, [], ◌∷◌, ◌++◌, length, take, drop, nat_le, nat_lt, slice_index, Option, Some, None, refl, sym, ◌∙◌, ap, subst, inl, inr, arith, append_assoc, if◌then◌else◌}
use Rattle.std.proofs.lemmas.Bool.{and_parts, leb-true, leb-false, cases_lt}
use Rattle.std.proofs.lemmas.Bool.Decides.{eqb_tells, leb_tells}
use Rattle.std.proofs.lemmas.List.{length-append, length-take, take-append-drop, take_at, get_or_append_left, get_or_past, take-append-le}
use Rattle.codestream_model.specs.Values.{Grid, Block}
use Rattle.codestream_model.specs.Bytes.{IsBytes}
use Rattle.codestream_model.specs.StuffedBits.{IsStuffed, width_after, number_bits, carried_after, carried, closing_after, sound_after, packed_bits, bytes_of_bits}
use Rattle.codestream_model.specs.HeaderPieces.{TooLong}
use Rattle.codestream_model.specs.PacketHeader.{HeaderBits, SpellsHeader}
use Rattle.codestream_model.specs.PacketHeaderReading.{Done, Need, Bad, readable_bits, end_by, at_end, closed_by}
use Rattle.codestream_model.proofs.BitLemmas.{number_bits-length}
use Rattle.codestream_model.proofs.PackingLemmas.{carried-push, stuffed-cons, stuffed-nil}
use Rattle.codestream_model.proofs.TreeLemmas.{either}
use Rattle.codestream_model.proofs.HeaderLemmas.{stuffed_tail, bytes_reached, byte_behind, second_behind}

-- the sound front of bytes is stuffed, and a prefix of them
pub sound_split : (before : ℕ) (bytes : List ℕ) → (more : List ℕ) × (bytes ≡ sound_after before bytes ++ more) × IsStuffed (sound_after before bytes) × (before ≡ 255 → slice_index (sound_after before bytes) 0 < 128)
unfolding sound_after
sound_split before [] = ([], refl, stuffed-nil, λ e. omega arith)
sound_split before (b ∷ bytes) = elim (either ((before == 255) && nat_le 128 b)) [
  | inl t ↦ rw t (b ∷ bytes, refl, stuffed-nil, λ e. omega arith)
  | inr t ↦
      let r = sound_split b bytes in
      rw t (r.0, ap (λ (l : List ℕ). b ∷ l) r.1, stuffed-cons b (sound_after b bytes) r.3 r.2, λ e. let f : (before == 255) ≡ true = ap (λ (n : ℕ). n == 255) e in let u : nat_le 128 b ≡ false = rw f at t in leb-false 128 b u)
]

-- the bytes that carry n bits
pub split_bits : (before : ℕ) (bytes : List ℕ) (n : ℕ) → 1 ≤ n → n ≤ length (carried_after before bytes)
    → (front : List ℕ) × (last : ℕ) × (tail : List ℕ) × (bytes ≡ front ++ last ∷ tail) × (length (carried_after before front) < n) × (n ≤ length (carried_after before (front ++ last ∷ [])))
unfolding carried_after
split_bits before [] n some high = absurd (omega arith)
split_bits before (b ∷ bytes) n some high = elim (leb_tells n (width_after before)) [
  | inl t ↦ let fits : n ≤ width_after before = t.1 in ([], b, bytes, refl, omega arith, omega (arith, length-append (number_bits (width_after before) b) [], number_bits-length (width_after before) b))
  | inr t ↦
      let over : width_after before < n = t.1 in
      let a = length-append (number_bits (width_after before) b) (carried_after b bytes) in
      let c = number_bits-length (width_after before) b in
      let r = split_bits b bytes (n - width_after before) (omega arith) (omega (arith, a, c)) in (
        b ∷ r.0,
        r.1,
        r.2,
        ap (λ (l : List ℕ). b ∷ l) r.3,
        omega (arith, r.4, c, length-append (number_bits (width_after before) b) (carried_after b r.0)),
        omega (arith, r.5, c, length-append (number_bits (width_after before) b) (carried_after b (r.0 ++ r.1 ∷ []))),
      )
]

-- a prefix of stuffed bytes is stuffed
pub stuffed_front : (xs ys : List ℕ) → IsStuffed (xs ++ ys) → IsStuffed xs
stuffed_front xs ys t i e = elim (cases_lt (i + 1) (length xs)) [
  | inl h ↦
      let low : i < length xs = omega arith in
      let here : slice_index (xs ++ ys) i ≡ 255 = get_or_append_left xs ys 0 i low ∙ e in
      let next : slice_index (xs ++ ys) (i + 1) < 128 = t i here in
      rw (get_or_append_left xs ys 0 (i + 1) h) at next
  | inr h ↦ rw (get_or_past xs (i + 1) 0 h) (let z : 0 < 128 = omega arith in z)
]

-- the first of bytes with another one
first_more : (front : List ℕ) (last c : ℕ) → slice_index (front ++ last ∷ []) 0 < 128 → slice_index (front ++ last ∷ c ∷ []) 0 < 128
first_more [] last c h = h
first_more (x ∷ front) last c h = h

-- bytes with another one that isn't after FF, or is below 128
stuffed_more : (front : List ℕ) (last c : ℕ) → IsStuffed (front ++ last ∷ []) → c < 128 → IsStuffed (front ++ last ∷ c ∷ [])
stuffed_more [] last c t low = stuffed-cons last (c ∷ []) (λ e. low) (stuffed-cons c [] (λ e. omega arith) stuffed-nil)
stuffed_more (x ∷ front) last c t low =
    stuffed-cons x (front ++ last ∷ c ∷ []) (λ e. first_more front last c (t 0 e))
    (stuffed_more front last c (stuffed_tail x (front ++ last ∷ []) t) low)

-- the end of the bytes is never the end of a header
pub never_done : (o : Option ℕ) (size used : ℕ) (out : List Block) → end_by o size ≡ Done used out → ⊥
never_done (Some place) size used out e = cc
never_done None size used out e = elim (either (nat_le 65536 size)) [
  | inl t ↦ let f : Bad TooLong ≡ Done used out = rw t at e in cc
  | inr t ↦ let f : Need ≡ Done used out = rw t at e in cc
]

-- what closes a header that is read
record Closed (front : List ℕ) (last : ℕ) (rest : List ℕ) (blocks : List Block) (used : ℕ) (out : List Block) : Type 0 where
  closing : List ℕ
  behind : List ℕ
  whole : rest ≡ closing ++ behind
  closes : length closing ≡ closing_after last
  size : used ≡ suc (length front) + length closing
  short : 1 ≤ length closing → used ≤ 65536
  low : IsStuffed (front ++ last ∷ []) → IsStuffed (front ++ last ∷ closing)
  same : blocks ≡ out

done_parts : (m n : ℕ) (xs ys : List Block) → Done m xs ≡ Done n ys → (m ≡ n) × (xs ≡ ys)
done_parts m n xs ys e = (cc, cc)

-- after FF it is one byte
closed_ff : (front : List ℕ) (last : ℕ) (rest : List ℕ) (blocks : List Block) (used : ℕ) (out : List Block) → last ≡ 255
    → suc (length front) < length (take 65536 (front ++ last ∷ rest)) → slice_index (front ++ last ∷ rest) (suc (length front)) < 128
    → (suc (length front) + 1 ≡ used) × (blocks ≡ out) → Closed front last rest blocks used out
closed_ff front last [] blocks used out ff within low parts = absurd (omega (arith, length-take 65536 (front ++ last ∷ []), length-append front (last ∷ [])))
closed_ff front last (c ∷ rest) blocks used out ff within low parts =
    let c_low : c < 128 = rw (second_behind front last c rest) at low in
    record {
      closing = c ∷ [];
      behind = rest;
      whole = refl;
      closes = sym (ap closing_after ff);
      size = sym parts.0;
      short = λ h. omega (arith, parts.0, length-take 65536 (front ++ last ∷ c ∷ rest));
      low = λ t. stuffed_more front last c t c_low;
      same = parts.1;
    }

closed_cases : (front : List ℕ) (last : ℕ) (rest : List ℕ) (blocks : List Block) (used : ℕ) (out : List Block) → closed_by (front ++ last ∷ rest) (suc (length front)) blocks ≡ Done used out → Closed front last rest blocks used out
closed_cases front last rest blocks used out e =
    let at : suc (length front) - 1 ≡ length front = omega arith in
    let n = suc (length front) in
    let bs = front ++ last ∷ rest in
    let open_form : (if last == 255 then (if nat_lt n (length (take 65536 bs)) && nat_lt (slice_index bs n) 128 then Done (n + 1) blocks else at_end bs) else Done n blocks) ≡ Done used out = rw (at, byte_behind front last rest) at e in
    elim (eqb_tells last 255) [
      | inr t ↦
          let f : Done n blocks ≡ Done used out = rw t.0 at open_form in
          let parts = done_parts n used blocks out f in
          record {
            closing = [];
            behind = rest;
            whole = refl;
            closes = sym (ap (λ (b : Bool). if b then 1 else 0) t.0);
            size = omega (arith, parts.0);
            short = λ h. absurd (omega arith);
            low = λ u. u;
            same = parts.1;
          }
      | inl t ↦
          let f : (if nat_lt n (length (take 65536 bs)) && nat_lt (slice_index bs n) 128 then Done (n + 1) blocks else at_end bs) ≡ Done used out = rw t.0 at open_form in
          elim (either (nat_lt n (length (take 65536 bs)) && nat_lt (slice_index bs n) 128)) [
            | inl u ↦
                let tests = and_parts (nat_lt n (length (take 65536 bs))) (nat_lt (slice_index bs n) 128) u in
                let g : Done (n + 1) blocks ≡ Done used out = rw u at f in
                closed_ff front last rest blocks used out t.1 (leb-true (suc n) (length (take 65536 bs)) tests.0) (leb-true (suc (slice_index bs n)) 128 tests.1) (done_parts (n + 1) used blocks out g)
            | inr u ↦
                let g : at_end bs ≡ Done used out = rw u at f in
                absurd (never_done (packed_bits (take 65536 bs)).broken_at (length bs) used out g)
          ]
    ]

-- bits that bytes carry first, of which the first are these
front_of : (xs ys us vs : List Bool) → xs ++ us ≡ ys ++ vs → length ys ≤ length xs → xs ≡ ys ++ drop (length ys) xs
front_of xs ys us vs e h =
    let t : take (length ys) xs ≡ ys = sym (take-append-le (length ys) xs us h) ∙ (ap (take (length ys)) e ∙ take_at ys vs (length ys) refl) in
    sym (take-append-drop (length ys) xs) ∙ ap (λ (l : List Bool). l ++ drop (length ys) xs) t

-- bytes after bytes are bytes
pub bytes_join : (xs ys : List ℕ) → IsBytes xs → IsBytes ys → IsBytes (xs ++ ys)
bytes_join [] ys a b i = b i
bytes_join (x ∷ xs) ys a b zero = a zero
bytes_join (x ∷ xs) ys a b (suc i) = bytes_join xs ys (λ j. a (suc j)) b i

-- the front of bytes are bytes
pub bytes_front : (xs ys : List ℕ) → IsBytes (xs ++ ys) → IsBytes xs
bytes_front xs ys t i = elim (cases_lt i (length xs)) [
  | inl h ↦ let f : slice_index (xs ++ ys) i < 256 = t i in rw (get_or_append_left xs ys 0 i h) at f
  | inr h ↦ rw (get_or_past xs i 0 h) (let z : 0 < 256 = omega arith in z)
]

-- a header whose bits fill these bytes, with what closes it
pack_closed : (gs : List Grid) (blocks : List Block) (bits x : List Bool) (bytes : List ℕ) (used : ℕ) (out : List Block) (front : List ℕ) (last : ℕ) (rest tail s : List ℕ)
    → IsBytes bytes → HeaderBits gs blocks bits → bytes ≡ front ++ last ∷ rest → Closed front last rest blocks used out
    → s ≡ front ++ last ∷ tail → IsStuffed s → length s ≤ 65536 → carried s ≡ bits ++ x → length (carried front) < length bits → length bits ≤ length (carried (front ++ last ∷ []))
    → SpellsHeader gs out (take used bytes)
pack_closed gs blocks bits x bytes used out front last rest tail s fits is_header all c split stuffed short run low high =
    let b = front ++ last ∷ c.closing in
    let whole : bytes ≡ b ++ c.behind = all ∙ (ap (λ (l : List ℕ). front ++ last ∷ l) c.whole ∙ sym (append_assoc front (last ∷ c.closing) c.behind)) in
    let size : length b ≡ used = omega (arith, c.size, length-append front (last ∷ c.closing)) in
    let is : take used bytes ≡ b = ap (take used) whole ∙ take_at b c.behind used size in
    let fits' : IsBytes (b ++ c.behind) = let P : List ℕ → Type 0 = λ l. IsBytes l in subst P whole fits in
    let joined : s ≡ (front ++ last ∷ []) ++ tail = split ∙ sym (append_assoc front (last ∷ []) tail) in
    let sound : IsStuffed ((front ++ last ∷ []) ++ tail) = let P : List ℕ → Type 0 = λ l. IsStuffed l in subst P joined stuffed in
    let run' : carried (front ++ last ∷ []) ++ carried_after last tail ≡ bits ++ x = sym (carried-push 0 front last tail) ∙ (ap carried (sym split) ∙ run) in
    let within : length b ≤ 65536 = elim (cases_lt 0 (length c.closing)) [
      | inl h ↦ omega (arith, size, c.short h)
      | inr h ↦ omega (arith, length-append front (last ∷ c.closing), ap length split, length-append front (last ∷ tail))
    ] in
    let h : SpellsHeader gs blocks b = record {
      bits = bits;
      is_header = is_header;
      packs = record {
        front = front;
        last = last;
        pad = drop (length bits) (carried (front ++ last ∷ []));
        closing = c.closing;
        whole = refl;
        each = bytes_front b c.behind fits';
        stuffed = c.low (stuffed_front (front ++ last ∷ []) tail sound);
        filled = front_of (carried (front ++ last ∷ [])) bits (carried_after last tail) x run' high;
        needed = low;
        closed = c.closes;
      };
      short = within;
    } in
    let P : List ℕ → Type 0 = λ l. SpellsHeader gs out l in
    let Q : List Block → Type 0 = λ l. SpellsHeader gs l b in
    subst P (sym is) (subst Q c.same h)

-- bytes whose first bits are a header's, and which an answer closes, begin with this header
pub bytes_sound : (gs : List Grid) (blocks : List Block) (bits x : List Bool) (bytes : List ℕ) (used : ℕ) (out : List Block) → IsBytes bytes
    → readable_bits bytes ≡ bits ++ x → 1 ≤ length bits → HeaderBits gs blocks bits → closed_by bytes (bytes_of_bits 0 (length bits) bytes) blocks ≡ Done used out
    → SpellsHeader gs out (take used bytes)
bytes_sound gs blocks bits x bytes used out fits run some is_header closed =
    let window = take 65536 bytes in
    let sp = sound_split 0 window in
    let s = sound_after 0 window in
    let more : length bits ≤ length (carried_after 0 s) = omega (arith, ap length run, length-append bits x) in
    let sb = split_bits 0 s (length bits) some more in
    let short : length s ≤ 65536 = omega (arith, ap length sp.1, length-append s sp.0, length-take 65536 bytes) in
    let front = sb.0 in
    let last = sb.1 in
    let rest = sb.2 ++ (sp.0 ++ drop 65536 bytes) in
    let all : bytes ≡ front ++ last ∷ rest =
    sym (take-append-drop 65536 bytes) ∙ (ap (λ (l : List ℕ). l ++ drop 65536 bytes) (sp.1 ∙ ap (λ (l : List ℕ). l ++ sp.0) sb.3)
    ∙ (append_assoc (front ++ last ∷ sb.2) sp.0 (drop 65536 bytes) ∙ append_assoc front (last ∷ sb.2) (sp.0 ++ drop 65536 bytes))) in
    let reached : bytes_of_bits 0 (length bits) bytes ≡ suc (length front) = ap (bytes_of_bits 0 (length bits)) all ∙ bytes_reached 0 front last rest (length bits) sb.4 sb.5 in
    let e : closed_by (front ++ last ∷ rest) (suc (length front)) blocks ≡ Done used out =
    ap (λ (l : List ℕ). closed_by l (suc (length front)) blocks) (sym all) ∙ (ap (λ (k : ℕ). closed_by bytes k blocks) (sym reached) ∙ closed) in
    pack_closed gs blocks bits x bytes used out front last rest sb.2 s fits is_header all (closed_cases front last rest blocks used out e) sb.3 sp.2 short run sb.4 sb.5
