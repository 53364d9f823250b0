-- The codestream bytes of the datagrams of codestreams, whole ones and one of which a part is there.
use Rattle.std.proofs.Common.{inl, inr, ◌≡◌, ◌<◌, ◌≤◌, ◌+◌, ◌-◌, ℕ, suc, false, cond, List, [], ◌∷◌, map, length, get_or, refl, sym, ap, ◌∙◌, arith}
use Rattle.std.specs.Prelude.{◌==◌, ◌&&◌, ◌≢◌}
use Rattle.std.specs.List.{AllByRecursion, AllZip, filter, sum_by, enumerate_from}
use Rattle.std.proofs.lemmas.Bool.{cases_lt, eq-eqb}
use Rattle.std.proofs.lemmas.Bool.Decides.{eqb_tells}
use Rattle.std.proofs.lemmas.List.{append-nil, length-append}
use Rattle.std.proofs.lemmas.List.Concat.{length-flat_map}
use Rattle.std.proofs.lemmas.List.Sums.{sum_by-cons, sum_by-append}
use Rattle.wire_model.specs.Payload.{PayloadFields, Main, Body}
use Rattle.wire_model.specs.Datagram.{Datagram}
use Rattle.codestream_model.specs.Codestream.{joined}
use Rattle.stream_model.specs.Stream.{Parts, ArePartsOf, bytes_after_sod}
use Rattle.stream_model.specs.Cut.{Plan, Piece, Known, room, known_of, stretches, chunks, closed_payloads, payloads, payload_place, main_at, body_at, bodies_at, stamp_at, payload_header, datagram_bytes}
use Rattle.stream_model.proofs.CutBodies.{as_many}
use Rattle.stream_model.proofs.CutPayloads.{HasRoom, chunks_join, chunks_have_room, stretches_join, payloads_join}
use Rattle.stream_model.proofs.CutRuns.{chunks_are_full}
use Rattle.stream_model.proofs.GrownBodies.{total}
use Rattle.stream_model.proofs.GrownDatagrams.{all_of}
use Rattle.sender_model.specs.Lead.{carried_bytes}

-- the bytes of lists
bytes_are : (bs : List (List ℕ)) → sum_by (λ b. length b) bs ≡ length (joined bs)
bytes_are bs = sym (length-flat_map (λ (b : List ℕ). b) bs)

-- a datagram has 20 bytes before its codestream bytes
header_size : (h : PayloadFields) → length (payload_header h) ≡ 8
header_size (Main h) = refl
header_size (Body h) = refl

datagram_size : (x : Datagram) → length (datagram_bytes x) - 20 ≡ length x.codestream
datagram_size x = omega (arith, length-append (payload_header x.payload) x.codestream, header_size x.payload)

-- so datagrams carry their codestream bytes
pub carried_are : (xs : List Datagram) → carried_bytes (map datagram_bytes xs) ≡ sum_by (λ x. length x.codestream) xs
carried_are [] = refl
carried_are (x ∷ xs) =
    sum_by-cons (λ (d : List ℕ). length d - 20) (datagram_bytes x) (map datagram_bytes xs)
    ∙ (omega (arith, datagram_size x, carried_are xs) ∙ sym (sum_by-cons (λ (y : Datagram). length y.codestream) x xs))

-- those of Bodies are the payloads
bodies_carry : (g : ℕ × List ℕ → Datagram) → ((y : ℕ × List ℕ) → (g y).codestream ≡ y.1) → (k : ℕ) (bs : List (List ℕ)) → sum_by (λ x. length x.codestream) (map g (enumerate_from k bs)) ≡ sum_by (λ b. length b) bs
bodies_carry g e k [] = refl
bodies_carry g e k (b ∷ bs) =
    sum_by-cons (λ (x : Datagram). length x.codestream) (g (k, b)) (map g (enumerate_from (k + 1) bs))
    ∙ (omega (arith, ap length (e (k, b)), bodies_carry g e (k + 1) bs) ∙ sym (sum_by-cons (λ (x : List ℕ). length x) b bs))

-- what the datagrams of a codestream carry
abbrev pub carried_of : Plan → Known → ℕ
carried_of p c = length c.header + sum_by (λ b. length b) (payloads p c)

-- and those of codestreams
pub all_carry : (p : Plan) (i at : ℕ) (known : List Known) → sum_by (λ x. length x.codestream) (all_of p i at known) ≡ sum_by (carried_of p) known
all_carry p i at [] = refl
all_carry p i at (c ∷ known) =
    let bodies = bodies_at p (stamp_at p i) at c in
    let main = main_at p (stamp_at p i) at c in
    let later = all_of p (i + 1) (at + (1 + length (payloads p c))) known in
    sum_by-append (λ (x : Datagram). length x.codestream) (main ∷ bodies) later
    ∙ (omega (arith, sum_by-cons (λ (x : Datagram). length x.codestream) main bodies, bodies_carry (λ x. body_at p (stamp_at p i) (at + 1 + x.0) c (c.ended && (x.0 + 1 == length (payloads p c))) (payload_place (payloads p c) x.0) x.1) (λ y. refl) 0 (payloads p c), all_carry p (i + 1) (at + (1 + length (payloads p c))) known)
    ∙ sym (sum_by-cons (carried_of p) c known))

-- a whole codestream is carried whole,
whole_carried : (p : Plan) (c : Parts) (codestream : List ℕ) → 1 ≤ room p → ArePartsOf c codestream → carried_of p (known_of c) ≡ length codestream
whole_carried p c codestream some a =
    let same = as_many c.head c.places c.content c.packets a.are_packets in
    omega (arith, bytes_are (payloads p (known_of c)), ap length (payloads_join p c some same), ap length a.whole, length-append c.header (bytes_after_sod c))

-- and so are many
pub wholes_carried : (p : Plan) (parts : List Parts) (codestreams : List (List ℕ)) → 1 ≤ room p → AllZip (λ c b. ArePartsOf c b) parts codestreams → sum_by (carried_of p) (map known_of parts) ≡ length (joined codestreams)
wholes_carried p [] [] some a = refl
wholes_carried p [] (b ∷ codestreams) some a = absurd a
wholes_carried p (c ∷ parts) [] some a = absurd a
wholes_carried p (c ∷ parts) (b ∷ codestreams) some a =
    sum_by-cons (carried_of p) (known_of c) (map known_of parts)
    ∙ omega (arith, whole_carried p c b some a.0, wholes_carried p parts codestreams some a.1, length-append b (joined codestreams))

-- each but the last is full
abbrev AllButLast : ℕ → List (List ℕ) → Type 0
AllButLast room xs = (i : ℕ) → i + 1 < length xs → length (get_or xs i []) ≡ room

-- a payload that isn't full
one_short : (room : ℕ) (x : List ℕ) → HasRoom room x → length x ≢ room → sum_by (λ b. length b) (x ∷ []) < sum_by (λ b. length b) (filter (λ payload. length payload == room) (x ∷ [])) + room
one_short room x fit n =
    let less : length x < room = elim (cases_lt (length x) room) [ inl l ↦ l | inr m ↦ absurd (n (omega (arith, m, fit.1))) ] in
    omega (arith, less, sum_by-cons (λ (b : List ℕ). length b) x [])

-- of payloads of which each but the last is full those that aren't full have few bytes
full_ones : (room : ℕ) (xs : List (List ℕ)) → 1 ≤ room → AllByRecursion (HasRoom room) xs → AllButLast room xs → sum_by (λ b. length b) xs < sum_by (λ b. length b) (filter (λ payload. length payload == room) xs) + room
full_ones room [] some fit h = omega (arith, some)
full_ones room (x ∷ []) some fit h = elim (eqb_tells (length x) room) [
  | inl t ↦
      let kept : filter (λ (payload : List ℕ). length payload == room) (x ∷ []) ≡ x ∷ [] = ap (λ b. cond b (x ∷ []) []) t.0 in
      omega (arith, some, ap (λ (l : List (List ℕ)). sum_by (λ b. length b) l) kept)
  | inr t ↦ one_short room x fit.0 t.1
]
full_ones room (x ∷ y ∷ more) some fit h =
    let full : length x ≡ room = h 0 (omega arith) in
    let kept : filter (λ (payload : List ℕ). length payload == room) (x ∷ y ∷ more) ≡ x ∷ filter (λ payload. length payload == room) (y ∷ more) =
    ap (λ b. cond b (x ∷ filter (λ (payload : List ℕ). length payload == room) (y ∷ more)) (filter (λ payload. length payload == room) (y ∷ more))) (eq-eqb (length x) room full) in
    let ih = full_ones room (y ∷ more) some fit.1 (λ i low. h (suc i) (omega (arith, low))) in
    omega (arith, ih, ap (λ (l : List (List ℕ)). sum_by (λ b. length b) l) kept, sum_by-cons (λ (b : List ℕ). length b) x (y ∷ more), sum_by-cons (λ (b : List ℕ). length b) x (filter (λ payload. length payload == room) (y ∷ more)))

-- so few bytes of stretches are in no closed payload
closed_most : (room : ℕ) (ss : List (List ℕ)) → 1 ≤ room → length (joined ss) < sum_by (λ b. length b) (closed_payloads room ss) + room
closed_most room [] some = omega (arith, some)
closed_most room (s ∷ []) some =
    omega (arith, full_ones room (chunks room s) some (chunks_have_room room s some) (chunks_are_full room s some).1, bytes_are (chunks room s), ap length (chunks_join room s some), ap length (append-nil s))
closed_most room (s ∷ t ∷ more) some =
    omega (arith, closed_most room (t ∷ more) some, sum_by-append (λ (b : List ℕ). length b) (chunks room s) (closed_payloads room (t ∷ more)), bytes_are (chunks room s), ap length (chunks_join room s some), length-append s (joined (t ∷ more)))

-- the bytes of pieces
pub total_is : (pieces : List Piece) → length (joined (map (λ x. x.bytes) pieces)) ≡ total pieces
total_is [] = refl
total_is (x ∷ pieces) = omega (arith, length-append x.bytes (joined (map (λ y. y.bytes) pieces)), total_is pieces, sum_by-cons (λ (y : Piece). length y.bytes) x pieces)

-- and few bytes of a codestream
pub part_carried : (p : Plan) (c : Known) → 1 ≤ room p → c.ended ≡ false → length c.header + total c.pieces < carried_of p c + room p
part_carried p c some e =
    let is : payloads p c ≡ closed_payloads (room p) (stretches p.split c.pieces) = rw e refl in
    omega (arith, closed_most (room p) (stretches p.split c.pieces) some, ap (λ (l : List (List ℕ)). sum_by (λ b. length b) l) is, ap length (stretches_join p.split c.pieces), total_is c.pieces)
