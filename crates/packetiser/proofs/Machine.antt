-- The datagrams of the cut, as bytes are put in: the number of those given is the position of the next.
use Rattle.std.proofs.Common.{◌≡◌, ◌⊎◌, ◌<◌, ◌≤◌, ◌+◌, ℕ, Bool, true, false, List, Option, [], ◌∷◌, ◌++◌, length, refl, sym, ap, ◌∙◌, arith, append_assoc}
use Rattle.std.proofs.lemmas.List.{append-nil, length-append}
use Rattle.wire_model.specs.Datagram.{Datagram}
use Rattle.codestream_model.specs.Values.{Head, Place}
use Rattle.stream_model.specs.Cut.{Plan, Piece, Known, room, payloads, main_at, bodies_at, stamp_at, datagrams_by, ordh_of}
use Rattle.stream_model.proofs.GrownDatagrams.{those_of}
use Rattle.packetiser.specs.Filling.{Filling, empty, put_eoc, body_of}
use Rattle.packetiser.specs.Filled.{part, whole, longer, unbegun, Fills, IsFresh}
use Rattle.packetiser.proofs.Chunks.{parts}
use Rattle.packetiser.proofs.Bodies.{put_piece, first_opens, first_bodies, put_stays, put_fills, next_stays, next_parts, ends_in_one, ends_in_two}
use Rattle.packetiser.proofs.Lists.{bodies_count, datagrams_push}

-- the datagrams with those of a codestream that was begun
abbrev pub with_part : Plan → List Known → Head → List ℕ → List Piece → List Datagram
with_part p ks h header pieces = datagrams_by p (ks ++ part h header pieces ∷ [])

abbrev pub with_whole : Plan → List Known → Head → List ℕ → List Piece → List Datagram
with_whole p ks h header pieces = datagrams_by p (ks ++ whole h header pieces ∷ [])

-- Bodies that follow are datagrams that follow
follow : (p : Plan) (ks : List Known) (c d : Known) (more : List Datagram) → c.head ≡ d.head → c.header ≡ d.header → bodies_at p (stamp_at p (length ks)) (length (datagrams_by p ks)) d ≡ bodies_at p (stamp_at p (length ks)) (length (datagrams_by p ks)) c ++ more
    → datagrams_by p (ks ++ d ∷ []) ≡ datagrams_by p (ks ++ c ∷ []) ++ more
follow p ks c d more k h e =
    let stamp = stamp_at p (length ks) in
    let at = length (datagrams_by p ks) in
    let main : main_at p stamp at d ≡ main_at p stamp at c = (let o : ordh_of c.head ≡ ordh_of d.head = ap ordh_of k in rw (o, h) refl) in
    let all : those_of p (length ks) at d ≡ those_of p (length ks) at c ++ more = ap (λ x. x ∷ bodies_at p stamp at d) main ∙ ap (λ l. main_at p stamp at c ∷ l) e in
    datagrams_push p ks d ∙ (ap (λ l. datagrams_by p ks ++ l) all ∙ (sym (append_assoc (datagrams_by p ks) (those_of p (length ks) at c) more) ∙ ap (λ l. l ++ more) (sym (datagrams_push p ks c))))

-- the position of the next datagram
pub position_is : (p : Plan) (ks : List Known) (c : Known) → length (datagrams_by p (ks ++ c ∷ [])) ≡ length (datagrams_by p ks) + 1 + length (payloads p c)
position_is p ks c =
    let stamp = stamp_at p (length ks) in
    let at = length (datagrams_by p ks) in
    omega (arith, ap length (datagrams_push p ks c), length-append (datagrams_by p ks) (those_of p (length ks) at c), bodies_count p stamp at c)

at_position : (p : Plan) (ks : List Known) (c : Known) (levels : ℕ) (marker : Bool) (f : Filling) (n : ℕ) → n ≡ length (datagrams_by p ks) + 1 + length (payloads p c) → body_of p levels (stamp_at p (length ks)) n marker f ≡ body_of p levels (stamp_at p (length ks)) (length (datagrams_by p (ks ++ c ∷ []))) marker f
at_position p ks c levels marker f n e = ap (λ k. body_of p levels (stamp_at p (length ks)) k marker f) (e ∙ sym (position_is p ks c))

-- a main header: the Main is made, at the next position
pub main_made : (p : Plan) (ks : List Known) (h : Head) (header : List ℕ) → with_part p ks h header [] ≡ datagrams_by p ks ++ main_at p (stamp_at p (length ks)) (length (datagrams_by p ks)) (part h header []) ∷ []
main_made p ks h header = datagrams_push p ks (part h header [])

-- the first packet begins
pub first_begins : (p : Plan) (ks : List Known) (h : Head) (header : List ℕ) (q : Place) → 1 ≤ room p → Fills p h header [] (unbegun q) empty × (with_part p ks h header (unbegun q ∷ []) ≡ with_part p ks h header [])
first_begins p ks h header q some = (
  first_opens p h header q some,
  follow p ks (part h header []) (part h header (unbegun q ∷ [])) [] refl refl (first_bodies p (stamp_at p (length ks)) (length (datagrams_by p ks)) h header q some) ∙ append-nil (with_part p ks h header []),
)

-- bytes of a packet are put in, and the payload stays open or is closed
pub put_open : (p : Plan) (ks : List Known) (h : Head) (header : List ℕ) (front : List Piece) (x : Piece) (f : Filling) (begins : Option ℕ) (bytes : List ℕ) → 1 ≤ room p → Fills p h header front x f → IsFresh begins h x → 1 ≤ length bytes → length f.payload + length bytes < room p
    → Fills p h header front (longer x bytes) (put_piece x begins bytes f) × (with_part p ks h header (front ++ longer x bytes ∷ []) ≡ with_part p ks h header (front ++ x ∷ []))
put_open p ks h header front x f begins bytes some w is_fresh more few =
    let r = put_stays p (stamp_at p (length ks)) (length (datagrams_by p ks)) h header front x f begins bytes some w is_fresh more few in
    let c = part h header (front ++ x ∷ []) in
    (r.0, follow p ks c (part h header (front ++ longer x bytes ∷ [])) [] refl refl (r.1 ∙ sym (append-nil (bodies_at p (stamp_at p (length ks)) (length (datagrams_by p ks)) c))) ∙ append-nil (datagrams_by p (ks ++ c ∷ [])))

pub put_full : (p : Plan) (ks : List Known) (h : Head) (header : List ℕ) (front : List Piece) (x : Piece) (f : Filling) (begins : Option ℕ) (bytes : List ℕ) → 1 ≤ room p → Fills p h header front x f → IsFresh begins h x → 1 ≤ length bytes → length f.payload + length bytes ≡ room p
    → Fills p h header front (longer x bytes) empty
    × (with_part p ks h header (front ++ longer x bytes ∷ []) ≡ with_part p ks h header (front ++ x ∷ []) ++ body_of p h.levels (stamp_at p (length ks)) (length (with_part p ks h header (front ++ x ∷ []))) false (put_piece x begins bytes f) ∷ [])
put_full p ks h header front x f begins bytes some w is_fresh more all =
    let at = length (datagrams_by p ks) in
    let c = part h header (front ++ x ∷ []) in
    let r = put_fills p (stamp_at p (length ks)) at h header front x f begins bytes some w is_fresh more all in
    (r.0, follow p ks c (part h header (front ++ longer x bytes ∷ [])) _ refl refl r.1 ∙ ap (λ d. datagrams_by p (ks ++ c ∷ []) ++ d ∷ []) (at_position p ks c h.levels false (put_piece x begins bytes f) (at + 1 + length (payloads p c)) refl))

-- the next packet begins, and the payload stays as it is or is closed
pub next_open : (p : Plan) (ks : List Known) (h : Head) (header : List ℕ) (front : List Piece) (x : Piece) (f : Filling) (q : Place) → 1 ≤ room p → Fills p h header front x f → 1 ≤ length x.bytes → (parts p.split x (unbegun q) ≡ false) ⊎ (f.payload ≡ [])
    → Fills p h header (front ++ x ∷ []) (unbegun q) f × (with_part p ks h header ((front ++ x ∷ []) ++ unbegun q ∷ []) ≡ with_part p ks h header (front ++ x ∷ []))
next_open p ks h header front x f q some w has which =
    let r = next_stays p (stamp_at p (length ks)) (length (datagrams_by p ks)) h header front x f q some w has which in
    let c = part h header (front ++ x ∷ []) in
    (r.0, follow p ks c (part h header ((front ++ x ∷ []) ++ unbegun q ∷ [])) [] refl refl (r.1 ∙ sym (append-nil (bodies_at p (stamp_at p (length ks)) (length (datagrams_by p ks)) c))) ∙ append-nil (datagrams_by p (ks ++ c ∷ [])))

pub next_closed : (p : Plan) (ks : List Known) (h : Head) (header : List ℕ) (front : List Piece) (x : Piece) (f : Filling) (q : Place) → 1 ≤ room p → Fills p h header front x f → 1 ≤ length x.bytes → parts p.split x (unbegun q) ≡ true → 1 ≤ length f.payload
    → Fills p h header (front ++ x ∷ []) (unbegun q) empty
    × (with_part p ks h header ((front ++ x ∷ []) ++ unbegun q ∷ []) ≡ with_part p ks h header (front ++ x ∷ []) ++ body_of p h.levels (stamp_at p (length ks)) (length (with_part p ks h header (front ++ x ∷ []))) false f ∷ [])
next_closed p ks h header front x f q some w has e more =
    let at = length (datagrams_by p ks) in
    let c = part h header (front ++ x ∷ []) in
    let r = next_parts p (stamp_at p (length ks)) at h header front x f q some w has e more in
    (r.0, follow p ks c (part h header ((front ++ x ∷ []) ++ unbegun q ∷ [])) _ refl refl r.1 ∙ ap (λ d. datagrams_by p (ks ++ c ∷ []) ++ d ∷ []) (at_position p ks c h.levels false f (at + 1 + length (payloads p c)) refl))

-- EOC is put in whole, or in two datagrams
pub end_one : (p : Plan) (ks : List Known) (h : Head) (header : List ℕ) (front : List Piece) (x : Piece) (f : Filling) → 1 ≤ room p → Fills p h header front x f → 1 ≤ length x.bytes → length f.payload + 2 ≤ room p
    → with_whole p ks h header (front ++ x ∷ []) ≡ with_part p ks h header (front ++ x ∷ []) ++ body_of p h.levels (stamp_at p (length ks)) (length (with_part p ks h header (front ++ x ∷ []))) true (put_eoc (255 ∷ 217 ∷ []) f) ∷ []
end_one p ks h header front x f some w has few =
    let at = length (datagrams_by p ks) in
    let c = part h header (front ++ x ∷ []) in
    let r = ends_in_one p (stamp_at p (length ks)) at h header front x f some w has few in
    follow p ks c (whole h header (front ++ x ∷ [])) _ refl refl r.0 ∙ ap (λ d. datagrams_by p (ks ++ c ∷ []) ++ d ∷ []) (at_position p ks c h.levels true (put_eoc (255 ∷ 217 ∷ []) f) (at + 1 + length (payloads p c)) refl)

pub end_two : (p : Plan) (ks : List Known) (h : Head) (header : List ℕ) (front : List Piece) (x : Piece) (f : Filling) → 1 ≤ room p → Fills p h header front x f → 1 ≤ length x.bytes → length f.payload + 1 ≡ room p
    → with_whole p ks h header (front ++ x ∷ []) ≡ with_part p ks h header (front ++ x ∷ []) ++ body_of p h.levels (stamp_at p (length ks)) (length (with_part p ks h header (front ++ x ∷ []))) false (put_eoc (255 ∷ []) f)
    ∷ body_of p h.levels (stamp_at p (length ks)) (length (with_part p ks h header (front ++ x ∷ [])) + 1) true (put_eoc (217 ∷ []) empty) ∷ []
end_two p ks h header front x f some w has few =
    let at = length (datagrams_by p ks) in
    let stamp = stamp_at p (length ks) in
    let c = part h header (front ++ x ∷ []) in
    let k = length (payloads p c) in
    let second : at + 1 + (k + 1) ≡ length (datagrams_by p (ks ++ c ∷ [])) + 1 = omega (arith, position_is p ks c) in
    let r = ends_in_two p stamp at h header front x f some w has few in
    follow p ks c (whole h header (front ++ x ∷ [])) _ refl refl r.0
    ∙ (ap (λ d. datagrams_by p (ks ++ c ∷ []) ++ d ∷ body_of p h.levels stamp (at + 1 + (k + 1)) true (put_eoc (217 ∷ []) empty) ∷ []) (at_position p ks c h.levels false (put_eoc (255 ∷ []) f) (at + 1 + k) refl)
    ∙ ap (λ n. datagrams_by p (ks ++ c ∷ []) ++ body_of p h.levels stamp (length (datagrams_by p (ks ++ c ∷ []))) false (put_eoc (255 ∷ []) f) ∷ body_of p h.levels stamp n true (put_eoc (217 ∷ []) empty) ∷ []) second)
