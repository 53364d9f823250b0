-- The payloads of the cut, joined, are the bytes after SOD, and each has as many bytes as a datagram has room for, or fewer.
use Rattle.std.proofs.Common.{◌≡◌, ◌<◌, ◌≤◌, ◌+◌, ◌-◌, ◌*◌, ◌/◌, ◌%◌, ℕ, zero, suc, Bool, true, false, not, List, [], ◌∷◌, ◌++◌, map, length, drop, refl, sym, ap, ◌∙◌, arith, append_assoc}
use Rattle.std.specs.Prelude.{◌==◌, ◌&&◌, slice_range, if◌then◌else◌}
use Rattle.std.specs.List.{AllByRecursion, flat_map, range_with_len}
use Rattle.std.proofs.Math.ListN.{drop_of_length-le}
use Rattle.std.proofs.Math.Nat.{mul-le-mul_right}
use Rattle.std.proofs.lemmas.Grind.{flat_map-append}
use Rattle.std.proofs.lemmas.List.{append-nil, length-take, length-drop}
use Rattle.std.proofs.lemmas.List.Folds.{drop_split}
use Rattle.codestream_model.specs.Values.{Place}
use Rattle.codestream_model.specs.Codestream.{joined}
use Rattle.stream_model.specs.Stream.{Parts, bytes_after_sod}
use Rattle.stream_model.specs.Cut.{Plan, Piece, room, pieces_of, known_of, onto_first, stretches, with_eoc, chunks, payloads}

-- the lists of two lists, joined
pub joined-append : (xs ys : List (List ℕ)) → joined (xs ++ ys) ≡ joined xs ++ joined ys
joined-append xs ys = flat_map-append (λ b. b) xs ys

-- a chunk of bytes
abbrev pub chunk : ℕ → List ℕ → ℕ → List ℕ
chunk room bytes i = slice_range bytes (i * room) (i * room + room)

next_place : (room i : ℕ) → i * room + room ≡ (i + 1) * room
next_place room i = omega arith

-- chunks one after another are what there is between their places
chunk_run : (room : ℕ) (bytes : List ℕ) (a m : ℕ) → joined (map (chunk room bytes) (range_with_len a m)) ++ drop ((a + m) * room) bytes ≡ drop (a * room) bytes
chunk_run room bytes a zero = ap (λ n. drop n bytes) (let e : (a + 0) * room ≡ a * room = omega arith in e)
chunk_run room bytes a (suc m) =
    let J : List ℕ = joined (map (chunk room bytes) (range_with_len (a + 1) m)) in
    let same : (a + suc m) * room ≡ ((a + 1) + m) * room = omega arith in
    let ih : J ++ drop (((a + 1) + m) * room) bytes ≡ drop ((a + 1) * room) bytes = chunk_run room bytes (a + 1) m in
    let step : drop (a * room) bytes ≡ chunk room bytes a ++ drop (a * room + room) bytes = drop_split bytes (a * room) (a * room + room) (omega arith) in
    append_assoc (chunk room bytes a) J (drop ((a + suc m) * room) bytes)
    ∙ (ap (λ n. chunk room bytes a ++ (J ++ drop n bytes)) same
    ∙ (ap (λ ys. chunk room bytes a ++ ys) ih
    ∙ (ap (λ n. chunk room bytes a ++ drop n bytes) (sym (next_place room a)) ∙ sym step)))

-- there are enough of them, and none too many
enough : (room n : ℕ) → 1 ≤ room → n ≤ (n + room - 1) / room * room
enough room n some =
    let d : room * ((n + room - 1) / room) + (n + room - 1) % room ≡ n + room - 1 = omega arith in
    let r : (n + room - 1) % room < room = omega arith in
    let c : (n + room - 1) / room * room ≡ room * ((n + room - 1) / room) = omega arith in
    omega arith

pub not_more : (room n i : ℕ) → 1 ≤ room → i < (n + room - 1) / room → i * room < n
not_more room n i some h =
    let d : room * ((n + room - 1) / room) + (n + room - 1) % room ≡ n + room - 1 = omega arith in
    let m : (i + 1) * room ≤ (n + room - 1) / room * room = mul-le-mul_right room (let k : i + 1 ≤ (n + room - 1) / room = omega arith in k) in
    let e : i * room + room ≡ (i + 1) * room = omega arith in
    let c : (n + room - 1) / room * room ≡ room * ((n + room - 1) / room) = omega arith in
    omega arith

pub chunks_join : (room : ℕ) (bytes : List ℕ) → 1 ≤ room → joined (chunks room bytes) ≡ bytes
chunks_join room bytes some =
    let n : ℕ = (length bytes + room - 1) / room in
    let long : length bytes ≤ n * room = enough room (length bytes) some in
    let none : drop ((0 + n) * room) bytes ≡ [] = drop_of_length-le bytes (let e : length bytes ≤ (0 + n) * room = omega arith in e) in
    let all : joined (chunks room bytes) ++ drop ((0 + n) * room) bytes ≡ drop (0 * room) bytes = chunk_run room bytes 0 n in
    let front : drop (0 * room) bytes ≡ bytes = ap (λ k. drop k bytes) (let e : 0 * room ≡ 0 = omega arith in e) in
    sym (append-nil (joined (chunks room bytes))) ∙ (ap (λ ys. joined (chunks room bytes) ++ ys) (sym none) ∙ (all ∙ front))

-- a payload that a datagram has room for
abbrev pub HasRoom : ℕ → List ℕ → Type 0
HasRoom room payload = (1 ≤ length payload) × (length payload ≤ room)

chunk_has_room : (room : ℕ) (bytes : List ℕ) (i : ℕ) → 1 ≤ room → i * room < length bytes → HasRoom room (chunk room bytes i)
chunk_has_room room bytes i some h =
    let t = length-take (i * room + room - i * room) (drop (i * room) bytes) in
    let d = length-drop (i * room) bytes in
    (omega (arith, t, d), omega (arith, t, d))

run_has_room : (room : ℕ) (bytes : List ℕ) (a m : ℕ) → 1 ≤ room → a + m ≤ (length bytes + room - 1) / room → AllByRecursion (HasRoom room) (map (chunk room bytes) (range_with_len a m))
run_has_room room bytes a zero some h = tt
run_has_room room bytes a (suc m) some h = (chunk_has_room room bytes a some (not_more room (length bytes) a some (omega arith)), run_has_room room bytes (a + 1) m some (omega arith))

pub chunks_have_room : (room : ℕ) (bytes : List ℕ) → 1 ≤ room → AllByRecursion (HasRoom room) (chunks room bytes)
chunks_have_room room bytes some = run_has_room room bytes 0 ((length bytes + room - 1) / room) some (omega arith)

-- the same of many stretches
pub all-append : {A : Type 0} (P : A → Type 0) (xs ys : List A) → AllByRecursion P xs → AllByRecursion P ys → AllByRecursion P (xs ++ ys)
all-append P [] ys h k = k
all-append P (x ∷ xs) ys h k = (h.0, all-append P xs ys h.1 k)

pub all_chunks_join : (room : ℕ) (parts : List (List ℕ)) → 1 ≤ room → joined (flat_map (chunks room) parts) ≡ joined parts
all_chunks_join room [] some = refl
all_chunks_join room (s ∷ more) some =
    joined-append (chunks room s) (flat_map (chunks room) more)
    ∙ (ap (λ ys. ys ++ joined (flat_map (chunks room) more)) (chunks_join room s some) ∙ ap (λ ys. s ++ ys) (all_chunks_join room more some))

pub all_chunks_have_room : (room : ℕ) (parts : List (List ℕ)) → 1 ≤ room → AllByRecursion (HasRoom room) (flat_map (chunks room) parts)
all_chunks_have_room room [] some = tt
all_chunks_have_room room (s ∷ more) some = all-append (HasRoom room) (chunks room s) (flat_map (chunks room) more) (chunks_have_room room s some) (all_chunks_have_room room more some)

-- stretches joined are the packets joined
onto_first_join : (bytes : List ℕ) (parts : List (List ℕ)) → joined (onto_first bytes parts) ≡ bytes ++ joined parts
onto_first_join bytes [] = refl
onto_first_join bytes (s ∷ more) = append_assoc bytes s (joined more)

choice_joins : (b : Bool) (bytes : List ℕ) (parts : List (List ℕ)) → joined (if b then bytes ∷ parts else onto_first bytes parts) ≡ bytes ++ joined parts
choice_joins true bytes parts = refl
choice_joins false bytes parts = onto_first_join bytes parts

pub stretches_join : (split : Bool) (pieces : List Piece) → joined (stretches split pieces) ≡ joined (map (λ x. x.bytes) pieces)
stretches_join split [] = refl
stretches_join split (x ∷ []) = refl
stretches_join split (x ∷ y ∷ more) =
    choice_joins (split && not (x.place.r == y.place.r)) x.bytes (stretches split (y ∷ more))
    ∙ ap (λ ys. x.bytes ++ ys) (stretches_join split (y ∷ more))

pub with_eoc_joins : (parts : List (List ℕ)) → joined (with_eoc parts) ≡ joined parts ++ 255 ∷ 217 ∷ []
with_eoc_joins [] = refl
with_eoc_joins (s ∷ []) = append-nil (s ++ 255 ∷ 217 ∷ []) ∙ ap (λ ys. ys ++ 255 ∷ 217 ∷ []) (sym (append-nil s))
with_eoc_joins (s ∷ t ∷ more) = ap (λ ys. s ++ ys) (with_eoc_joins (t ∷ more)) ∙ sym (append_assoc s (joined (t ∷ more)) (255 ∷ 217 ∷ []))

-- and the packets of pieces are the packets
pub bytes_of_pieces : (places : List Place) (packets : List (List ℕ)) → length places ≡ length packets → map (λ x. x.bytes) (pieces_of places packets) ≡ packets
bytes_of_pieces [] [] h = refl
bytes_of_pieces [] (b ∷ packets) h = absurd (omega arith)
bytes_of_pieces (p ∷ places) [] h = absurd (omega arith)
bytes_of_pieces (p ∷ places) (b ∷ packets) h = ap (λ ys. b ∷ ys) (bytes_of_pieces places packets (omega arith))

-- so the payloads, joined, are the bytes after SOD
pub payloads_join : (p : Plan) (c : Parts) → 1 ≤ room p → length c.places ≡ length c.packets → joined (payloads p (known_of c)) ≡ bytes_after_sod c
payloads_join p c some same =
    all_chunks_join (room p) (with_eoc (stretches p.split (pieces_of c.places c.packets))) some
    ∙ (with_eoc_joins (stretches p.split (pieces_of c.places c.packets))
    ∙ (ap (λ ys. ys ++ 255 ∷ 217 ∷ []) (stretches_join p.split (pieces_of c.places c.packets))
    ∙ ap (λ ys. joined ys ++ 255 ∷ 217 ∷ []) (bytes_of_pieces c.places c.packets same)))

pub payloads_are_whole : (p : Plan) (c : Parts) → 1 ≤ room p → length c.places ≡ length c.packets → (joined (payloads p (known_of c)) ≡ bytes_after_sod c) × AllByRecursion (λ payload. (1 ≤ length payload) × (length payload ≤ room p)) (payloads p (known_of c))
payloads_are_whole p c some same = (payloads_join p c some same, all_chunks_have_room (room p) (with_eoc (stretches p.split (pieces_of c.places c.packets))) some)
