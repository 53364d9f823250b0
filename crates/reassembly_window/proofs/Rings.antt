-- What the calls of a ring do to the slots that it holds.
use Rattle.std.proofs.Common.{◌≡◌, ◌<◌, ◌≤◌, ℕ, zero, suc, Bool, true, false, List, [], ◌∷◌, ◌++◌, map, length, drop, take, get_or, set, Option, Some, None, refl, sym, ◌∙◌, ap, ap₂, inl, inr, arith, length-set, if◌then◌else◌}
use Rattle.std.specs.Prelude.{slice_get}
use Rattle.std.proofs.lemmas.List.{map-set, get_or-map, drop-map, take-map, map-append, length-map}
use Rattle.reassembly_window.specs.declared.cell.Cell.{Cell}
use Rattle.reassembly_window.specs.Slots.{Slots, rotated, wrapped, is_filled, is_full, front}
use Rattle.reassembly_window.specs.Cells.{slot_of, bytes_of, before, slots_of}
use Rattle.reassembly_window.proofs.Rotations.{wraps, get_or-rotated, rotated-set, rotated-rotated, rotated-front, length-rotated, is_filled-get, front-get}

-- a place that is filled
slot_full : (x : Cell) → is_full (slot_of x) ≡ x.filled
slot_full x = elim x.filled as (λ b. is_full (if b then Some x.bytes.items else None) ≡ b) [ true ↦ refl | false ↦ refl ]

-- what is in a place
slot_at : (h d n : ℕ) (cells : List Cell) (x : Cell) → h < n → d < n → length cells ≡ n → x ≡ get_or cells (wrapped h d n) x → get_or (map slot_of (rotated h cells)) d (slot_of x) ≡ slot_of x
slot_at h d n cells x low in_range len is =
    get_or-map slot_of (rotated h cells) d x (slot_of x) (omega (arith, length-rotated h cells, len))
    ∙ ap slot_of (get_or-rotated h d n cells x low in_range len ∙ sym is)

many : (h n : ℕ) (cells : List Cell) → length cells ≡ n → length (map slot_of (rotated h cells)) ≡ n
many h n cells len = length-map (rotated h cells) slot_of ∙ (length-rotated h cells ∙ len)

-- what a clause sees of a ring
pub seen : (h : ℕ) (cells : List Cell) (s : Slots) → slots_of h cells ≡ s → (map slot_of (rotated h cells) ≡ s.slots) × (length s.slots ≡ length cells)
seen h cells s e =
    let f : map slot_of (rotated h cells) ≡ s.slots = ap (λ (x : Slots). x.slots) e in
    (f, ap length (sym f) ∙ many h (length cells) cells refl)

pub filled_is : (h d n : ℕ) (cells : List Cell) (x : Cell) → h < n → d < n → length cells ≡ n → x ≡ get_or cells (wrapped h d n) x → x.filled ≡ is_filled d (map slot_of (rotated h cells))
filled_is h d n cells x low in_range len is =
    let m = many h n cells len in
    sym (slot_full x) ∙ (ap is_full (sym (slot_at h d n cells x low in_range len is)) ∙ sym (is_filled-get d (map slot_of (rotated h cells)) (slot_of x) (omega (arith, m))))

-- a datagram that is put into a place
pub put_is : (h d n : ℕ) (cells : List Cell) (x : Cell) (bytes : List ℕ) → h < n → d < n → length cells ≡ n → x.filled ≡ true → x.bytes.items ≡ bytes
    → map slot_of (rotated h (set cells (wrapped h d n) x)) ≡ set (map slot_of (rotated h cells)) d (Some bytes)
put_is h d n cells x bytes low in_range len full is =
    let s : slot_of x ≡ Some bytes = ap (λ (b : Bool). if b then Some x.bytes.items else None) full ∙ ap (λ l. Some l) is in
    ap (map slot_of) (rotated-set h d n cells x low in_range len) ∙ (map-set slot_of (rotated h cells) d x ∙ ap (set (map slot_of (rotated h cells)) d) s)

-- places that are passed
map-rotated : (k : ℕ) (cells : List Cell) → map slot_of (rotated k cells) ≡ rotated k (map slot_of cells)
map-rotated k cells = map-append slot_of (drop k cells) (take k cells) ∙ ap₂ ◌++◌ (sym (drop-map slot_of k cells)) (sym (take-map slot_of k cells))

pub pass_is : (h d n : ℕ) (cells : List Cell) → h < n → d ≤ n → length cells ≡ n → map slot_of (rotated (wrapped h d n) cells) ≡ rotated d (map slot_of (rotated h cells))
pass_is h d n cells low most len = ap (map slot_of) (rotated-rotated h d n cells low most len) ∙ map-rotated d (rotated h cells)

-- the first place is emptied and passed
pub front_slots : (h n : ℕ) (cells : List Cell) (y : Cell) → h < n → length cells ≡ n → y.filled ≡ false → map slot_of (rotated (wrapped h 1 n) (set cells h y)) ≡ drop 1 (map slot_of (rotated h cells)) ++ None ∷ []
front_slots h n cells y low len empty =
    let s : slot_of y ≡ None = ap (λ (b : Bool). if b then Some y.bytes.items else None) empty in
    ap (map slot_of) (rotated-front h n cells y low len)
    ∙ (map-append slot_of (drop 1 (rotated h cells)) (y ∷ [])
    ∙ (ap (λ l. l ++ slot_of y ∷ []) (sym (drop-map slot_of 1 (rotated h cells)))
    ∙ ap (λ z. drop 1 (map slot_of (rotated h cells)) ++ z ∷ []) s))

-- the place before the one after it
before_next : (h n : ℕ) → h < n → before n (wrapped h 1 n) ≡ h
before_next h n low = elim (wraps h 1 n low (omega arith)) [
  | inl (inside, e) ↦ let f : wrapped h 1 n ≡ suc h = e ∙ omega arith in ap (before n) f
  | inr (past, e) ↦ let f : wrapped h 1 n ≡ 0 = e ∙ omega arith in ap (before n) f ∙ omega arith
]

get_set : (cells : List Cell) (h : ℕ) (y : Cell) → h < length cells → slice_get (set cells h y) h ≡ Some y
get_set [] h y less = absurd (omega arith)
get_set (c ∷ cells) zero y less = refl
get_set (c ∷ cells) (suc h) y less = get_set cells h y (omega arith)

full_is : (x : Cell) → is_full (slot_of x) ≡ true → slot_of x ≡ Some x.bytes.items
full_is x e = ap (λ (b : Bool). if b then Some x.bytes.items else None) (sym (slot_full x) ∙ e)

pub front_passed : (h n : ℕ) (cells : List Cell) (x y : Cell) → h < n → length cells ≡ n → x ≡ get_or cells h x → y.bytes.items ≡ x.bytes.items → is_filled 0 (map slot_of (rotated h cells)) ≡ true
    → front (map slot_of (rotated h cells)) ≡ Some (bytes_of (slice_get (set cells h y) (before (length (set cells h y)) (wrapped h 1 n))))
front_passed h n cells x y low len is same full =
    let m = many h n cells len in
    let here : wrapped h 0 n ≡ h = elim (wraps h 0 n low (omega arith)) [ inl (a, e) ↦ e ∙ omega arith | inr (a, e) ↦ absurd (omega arith) ] in
    let at = slot_at h 0 n cells x low (omega arith) len (is ∙ ap (λ k. get_or cells k x) (sym here)) in
    let some : 0 < length (map slot_of (rotated h cells)) = omega (arith, m) in
    let filled : is_full (slot_of x) ≡ true = sym (ap is_full at) ∙ (sym (is_filled-get 0 (map slot_of (rotated h cells)) (slot_of x) some) ∙ full) in
    let size : length (set cells h y) ≡ n = length-set cells h y ∙ len in
    let last : slice_get (set cells h y) (before (length (set cells h y)) (wrapped h 1 n)) ≡ Some y =
    ap (λ k. slice_get (set cells h y) (before k (wrapped h 1 n))) size ∙ (ap (slice_get (set cells h y)) (before_next h n low) ∙ get_set cells h y (omega (arith, len))) in
    front-get (map slot_of (rotated h cells)) (slot_of x) some ∙ (at ∙ (full_is x filled ∙ (ap (λ l. Some l) (sym same) ∙ sym (ap (λ o. Some (bytes_of o)) last))))

-- the same at the place that was found, of the slots that a clause sees
pub put_at : (h d n at : ℕ) (cells : List Cell) (x : Cell) (bytes : List ℕ) (s : List (Option (List ℕ))) → at ≡ wrapped h d n → map slot_of (rotated h cells) ≡ s → h < n → d < n → length cells ≡ n → x.filled ≡ true → x.bytes.items ≡ bytes
    → map slot_of (rotated h (set cells at x)) ≡ set s d (Some bytes)
put_at h d n at cells x bytes s e f low in_range len full is =
    ap (λ k. map slot_of (rotated h (set cells k x))) e ∙ (put_is h d n cells x bytes low in_range len full is ∙ ap (λ l. set l d (Some bytes)) f)

pub pass_at : (h d n at : ℕ) (cells : List Cell) (s : List (Option (List ℕ))) → at ≡ wrapped h d n → map slot_of (rotated h cells) ≡ s → h < n → d ≤ n → length cells ≡ n → map slot_of (rotated at cells) ≡ rotated d s
pass_at h d n at cells s e f low most len = ap (λ k. map slot_of (rotated k cells)) e ∙ (pass_is h d n cells low most len ∙ ap (rotated d) f)

pub front_slots_at : (h n at : ℕ) (cells : List Cell) (y : Cell) (s : List (Option (List ℕ))) → at ≡ wrapped h 1 n → map slot_of (rotated h cells) ≡ s → h < n → length cells ≡ n → y.filled ≡ false
    → map slot_of (rotated at (set cells h y)) ≡ drop 1 s ++ None ∷ []
front_slots_at h n at cells y s e f low len empty =
    ap (λ k. map slot_of (rotated k (set cells h y))) e ∙ (front_slots h n cells y low len empty ∙ ap (λ l. drop 1 l ++ None ∷ []) f)

pub front_passed_at : (h n at : ℕ) (cells : List Cell) (x y : Cell) (s : List (Option (List ℕ))) → at ≡ wrapped h 1 n → map slot_of (rotated h cells) ≡ s → h < n → length cells ≡ n → x ≡ get_or cells h x → y.bytes.items ≡ x.bytes.items → is_filled 0 s ≡ true
    → front s ≡ Some (bytes_of (slice_get (set cells h y) (before (length (set cells h y)) at)))
front_passed_at h n at cells x y s e f low len is same full =
    sym (ap front f)
    ∙ (front_passed h n cells x y low len is same (ap (is_filled 0) f ∙ full)
    ∙ sym (ap (λ k. Some (bytes_of (slice_get (set cells h y) (before (length (set cells h y)) k)))) e))
