-- Bytes of a packet or of EOC are put in: the payload stays open, or its Body is the next datagram.
use Rattle.std.proofs.Common.{◌≡◌, ◌<◌, ◌≤◌, ◌+◌, ◌%◌, ◌^◌, ℕ, Bool, true, false, List, [], ◌∷◌, ◌++◌, map, length, take, drop, refl, sym, subst, ap, ◌∙◌, inr, arith, append_assoc}
use Rattle.std.specs.Prelude.{◌&&◌}
use Rattle.std.proofs.lemmas.List.{length-append, length-take, length-map, map-append, take-append-drop}
use Rattle.wire_model.specs.Datagram.{Datagram}
use Rattle.stream_model.specs.Stream.{Parts}
use Rattle.stream_model.specs.Cut.{Plan, Piece, Known, room, known_of, stamp_at, datagrams_by}
use Rattle.stream_model.proofs.ParsedPackets.{next_stamp}
use Rattle.packetiser.specs.Filling.{Filling, empty, put, put_eoc, body_of}
use Rattle.packetiser.specs.Filled.{part, whole, longer, Fills}
use Rattle.packetiser.specs.Packing.{Packing, putting, after_closing, closing_body}
use Rattle.packetiser.specs.Sending.{IsBetween, IsInPackets, IsAtEoc}
use Rattle.packetiser.proofs.Bodies.{put_piece}
use Rattle.packetiser.proofs.Machine.{with_part, put_open, put_full, end_one, end_two}

-- equal Bodies
pub body_alike : (p : Plan) (l m s t n k : ℕ) (marker : Bool) (f g : Filling) → l ≡ m → s ≡ t → n ≡ k → f ≡ g → body_of p l s n marker f ≡ body_of p m t k marker g
body_alike p l m s t n k marker f g a b c d =
    ap (λ x. body_of p x s n marker f) a ∙ (ap (λ x. body_of p m x n marker f) b ∙ (ap (λ x. body_of p m t x marker f) c ∙ ap (body_of p m t k marker) d))

-- the stamp of the codestream that is sent
pub stamp_is : (p : Plan) (parts : List Parts) (stamp : ℕ) → stamp ≡ stamp_at p (length parts) → stamp_at p (length (map known_of parts)) ≡ stamp
stamp_is p parts stamp e = ap (stamp_at p) (length-map parts known_of) ∙ sym e

-- a packet with the bytes that are put in, and with those that are left
whole_last : (x : Piece) (rest : List ℕ) (n : ℕ) → (x.bytes ++ take n rest) ++ drop n rest ≡ x.bytes ++ rest
whole_last x rest n = append_assoc x.bytes (take n rest) (drop n rest) ∙ ap (λ (k : List ℕ). x.bytes ++ k) (take-append-drop n rest)

-- what is put in of a packet
filled_packet : (u : Packing) (parts : List Parts) (known : List Known) (sent : List Datagram) (b : IsInPackets u parts known sent) (bytes : List ℕ) → put_piece b.last u.begins bytes u.filling ≡ put u.resolution u.begins bytes u.filling
filled_packet u parts known sent b bytes = ap (λ (r : ℕ). put r u.begins bytes u.filling) (sym b.resolution)

-- bytes of a packet that leave the payload open
pub packet_open : (u : Packing) (parts : List Parts) (known : List Known) (sent : List Datagram) (n : ℕ) → (b : IsInPackets u parts known sent) → 1 ≤ n → n ≤ length u.rest → length u.filling.payload + n < room u.plan
    → IsInPackets (putting false n u) parts known sent
packet_open u parts known sent n b more within few =
    let bytes : List ℕ = take n u.rest in
    let l : length bytes ≡ n = omega (arith, length-take n u.rest, within) in
    let ks = map known_of parts in
    let r = put_open u.plan ks b.head b.header b.front b.last u.filling u.begins bytes (omega (arith, few)) b.fills b.fresh (omega (arith, l, more)) (omega (arith, l, few)) in
    let F : Filling → Type 0 = λ f. Fills u.plan b.head b.header b.front (longer b.last bytes) f in
    record {
      head = b.head;
      header = b.header;
      front = b.front;
      last = longer b.last bytes;
      known_is = b.known_is ∙ ap (λ (k : List ℕ). part b.head b.header (b.front ++ record { place = b.last.place; bytes = k } ∷ []) ∷ []) (sym (whole_last b.last u.rest n));
      shown = b.shown;
      levels = b.levels;
      fills = subst F (filled_packet u parts known sent b bytes) r.0;
      fresh = omega (arith, l, more, length-append b.last.bytes bytes);
      some = omega (arith, l, more, length-append b.last.bytes bytes);
      resolution = b.resolution;
      not_eoc = b.not_eoc;
      stamp = b.stamp;
      sent_is = b.sent_is ∙ sym r.1;
    }

-- and bytes that fill it
pub packet_full : (u : Packing) (parts : List Parts) (known : List Known) (sent : List Datagram) (n : ℕ) → (b : IsInPackets u parts known sent) → 1 ≤ n → n ≤ length u.rest → length u.filling.payload + n ≡ room u.plan → u.given ≡ length sent
    → IsInPackets (after_closing false (putting false n u)) parts known (sent ++ closing_body false (putting false n u) ∷ [])
packet_full u parts known sent n b more within all position =
    let bytes : List ℕ = take n u.rest in
    let l : length bytes ≡ n = omega (arith, length-take n u.rest, within) in
    let ks = map known_of parts in
    let r = put_full u.plan ks b.head b.header b.front b.last u.filling u.begins bytes (omega (arith, all, more)) b.fills b.fresh (omega (arith, l, more)) (omega (arith, l, all)) in
    let before = with_part u.plan ks b.head b.header (b.front ++ b.last ∷ []) in
    let same = body_alike u.plan b.head.levels u.levels (stamp_at u.plan (length ks)) u.stamp (length before) u.given false (put_piece b.last u.begins bytes u.filling) (put u.resolution u.begins bytes u.filling) (sym b.levels) (stamp_is u.plan parts u.stamp b.stamp) (sym (position ∙ ap length b.sent_is)) (filled_packet u parts known sent b bytes) in
    let d : Datagram = closing_body false (putting false n u) in
    record {
      head = b.head;
      header = b.header;
      front = b.front;
      last = longer b.last bytes;
      known_is = b.known_is ∙ ap (λ (k : List ℕ). part b.head b.header (b.front ++ record { place = b.last.place; bytes = k } ∷ []) ∷ []) (sym (whole_last b.last u.rest n));
      shown = b.shown;
      levels = b.levels;
      fills = r.0;
      fresh = omega (arith, l, more, length-append b.last.bytes bytes);
      some = omega (arith, l, more, length-append b.last.bytes bytes);
      resolution = b.resolution;
      not_eoc = ap (λ (t : Bool). t && true) b.not_eoc;
      stamp = b.stamp;
      sent_is = ap (λ k. k ++ d ∷ []) b.sent_is ∙ (ap (λ x. before ++ x ∷ []) (sym same) ∙ sym r.1);
    }

-- the stamp of the next codestream
next_stamp_is : (p : Plan) (before parts : List Parts) (now : Parts) (stamp : ℕ) → parts ≡ before ++ now ∷ [] → stamp ≡ stamp_at p (length before) → (stamp + p.step) % 2 ^ 32 ≡ stamp_at p (length parts)
next_stamp_is p before parts now stamp e s =
    ap (λ (n : ℕ). (n + p.step) % 2 ^ 32) s ∙ (next_stamp p.stamp p.step (length before) ∙ ap (stamp_at p) (sym (ap length e ∙ length-append before (now ∷ []))))

and_false : (b : Bool) → (b && false) ≡ false
and_false true = refl
and_false false = refl

-- whole codestreams and one more
known_push : (before parts : List Parts) (now : Parts) (k : Known) → parts ≡ before ++ now ∷ [] → known_of now ≡ k → map known_of before ++ k ∷ [] ≡ map known_of parts
known_push before parts now k e f = ap (λ x. map known_of before ++ x ∷ []) (sym f) ∙ (sym (map-append known_of before (now ∷ [])) ∙ ap (map known_of) (sym e))

-- all of EOC, which ends the last payload
pub eoc_whole : (u : Packing) (parts : List Parts) (known : List Known) (sent : List Datagram) (n : ℕ) (b : IsAtEoc u parts known sent) → take n u.rest ≡ 255 ∷ 217 ∷ [] → drop n u.rest ≡ [] → u.filling ≡ b.filling → length b.filling.payload + 2 ≤ room u.plan
    → sent ≡ datagrams_by u.plan (map known_of b.before ++ part b.head b.header (b.front ++ b.last ∷ []) ∷ []) → u.given ≡ length sent
    → IsBetween (after_closing true (putting true n u)) parts known (sent ++ closing_body true (putting true n u) ∷ [])
eoc_whole u parts known sent n b bytes left same_filling fits sent_is position =
    let ks = map known_of b.before in
    let before = with_part u.plan ks b.head b.header (b.front ++ b.last ∷ []) in
    let eoc : List ℕ = 255 ∷ 217 ∷ [] in
    let r = end_one u.plan ks b.head b.header b.front b.last b.filling (omega (arith, fits)) b.fills b.some fits in
    let d : Datagram = closing_body true (putting true n u) in
    let filling : put_eoc eoc b.filling ≡ put_eoc (take n u.rest) u.filling = ap (put_eoc eoc) (sym same_filling) ∙ ap (λ (l : List ℕ). put_eoc l u.filling) (sym bytes) in
    let same = body_alike u.plan b.head.levels u.levels (stamp_at u.plan (length ks)) u.stamp (length before) u.given true (put_eoc eoc b.filling) (put_eoc (take n u.rest) u.filling) (sym b.levels) (stamp_is u.plan b.before u.stamp b.stamp) (sym (position ∙ ap length sent_is)) filling in
    record {
      none = b.none;
      nothing_left = left;
      is_empty = refl;
      not_eoc = and_false u.eoc;
      stamp = next_stamp_is u.plan b.before parts b.now u.stamp b.parts_are b.stamp;
      sent_is =
          ap (λ k. k ++ d ∷ []) sent_is ∙ (ap (λ x. before ++ x ∷ []) (sym same)
          ∙ (sym r ∙ ap (datagrams_by u.plan) (known_push b.before parts b.now (whole b.head b.header (b.front ++ b.last ∷ [])) b.parts_are b.now_is)));
    }

-- the first byte of EOC, which fills a payload
pub eoc_first : (u : Packing) (parts : List Parts) (known : List Known) (sent : List Datagram) (n : ℕ) (b : IsAtEoc u parts known sent) → take n u.rest ≡ 255 ∷ [] → drop n u.rest ≡ 217 ∷ [] → u.filling ≡ b.filling → length b.filling.payload + 1 ≡ room u.plan
    → sent ≡ datagrams_by u.plan (map known_of b.before ++ part b.head b.header (b.front ++ b.last ∷ []) ∷ []) → u.given ≡ length sent
    → IsAtEoc (after_closing false (putting true n u)) parts known (sent ++ closing_body false (putting true n u) ∷ [])
eoc_first u parts known sent n b bytes left same_filling fits sent_is position =
    let ks = map known_of b.before in
    let before = with_part u.plan ks b.head b.header (b.front ++ b.last ∷ []) in
    let d : Datagram = closing_body false (putting true n u) in
    let filling : put_eoc (take n u.rest) u.filling ≡ put_eoc (255 ∷ []) b.filling = ap (λ (l : List ℕ). put_eoc l u.filling) bytes ∙ ap (put_eoc (255 ∷ [])) same_filling in
    let same = body_alike u.plan u.levels u.levels u.stamp u.stamp u.given (length before) false (put_eoc (take n u.rest) u.filling) (put_eoc (255 ∷ []) b.filling) refl refl (position ∙ ap length sent_is) filling in
    record {
      before = b.before;
      now = b.now;
      head = b.head;
      header = b.header;
      front = b.front;
      last = b.last;
      filling = b.filling;
      parts_are = b.parts_are;
      none = b.none;
      now_is = b.now_is;
      levels = b.levels;
      fills = b.fills;
      some = b.some;
      is_eoc = ap (λ (t : Bool). t && true) b.is_eoc;
      stamp = b.stamp;
      which = inr (left, refl, fits, ap (λ k. k ++ d ∷ []) sent_is ∙ ap (λ x. before ++ x ∷ []) same);
    }

-- the second byte of EOC, alone in the last payload
pub eoc_second : (u : Packing) (parts : List Parts) (known : List Known) (sent : List Datagram) (n : ℕ) (b : IsAtEoc u parts known sent) → take n u.rest ≡ 217 ∷ [] → drop n u.rest ≡ [] → u.filling ≡ empty → length b.filling.payload + 1 ≡ room u.plan
    → sent ≡ datagrams_by u.plan (map known_of b.before ++ part b.head b.header (b.front ++ b.last ∷ []) ∷ []) ++ body_of u.plan u.levels u.stamp (length (datagrams_by u.plan (map known_of b.before ++ part b.head b.header (b.front ++ b.last ∷ []) ∷ []))) false (put_eoc (255 ∷ []) b.filling) ∷ []
    → u.given ≡ length sent
    → IsBetween (after_closing true (putting true n u)) parts known (sent ++ closing_body true (putting true n u) ∷ [])
eoc_second u parts known sent n b bytes left same_filling fits sent_is position =
    let ks = map known_of b.before in
    let before = with_part u.plan ks b.head b.header (b.front ++ b.last ∷ []) in
    let d : Datagram = closing_body true (putting true n u) in
    let first : Datagram = body_of u.plan u.levels u.stamp (length before) false (put_eoc (255 ∷ []) b.filling) in
    let r = end_two u.plan ks b.head b.header b.front b.last b.filling (omega (arith, fits)) b.fills b.some fits in
    let stamp = stamp_is u.plan b.before u.stamp b.stamp in
    let count : length before + 1 ≡ u.given = sym (position ∙ (ap length sent_is ∙ length-append before (first ∷ []))) in
    let filling : put_eoc (217 ∷ []) empty ≡ put_eoc (take n u.rest) u.filling = ap (put_eoc (217 ∷ [])) (sym same_filling) ∙ ap (λ (l : List ℕ). put_eoc l u.filling) (sym bytes) in
    let same_first = body_alike u.plan b.head.levels u.levels (stamp_at u.plan (length ks)) u.stamp (length before) (length before) false (put_eoc (255 ∷ []) b.filling) (put_eoc (255 ∷ []) b.filling) (sym b.levels) stamp refl refl in
    let same = body_alike u.plan b.head.levels u.levels (stamp_at u.plan (length ks)) u.stamp (length before + 1) u.given true (put_eoc (217 ∷ []) empty) (put_eoc (take n u.rest) u.filling) (sym b.levels) stamp count filling in
    record {
      none = b.none;
      nothing_left = left;
      is_empty = refl;
      not_eoc = and_false u.eoc;
      stamp = next_stamp_is u.plan b.before parts b.now u.stamp b.parts_are b.stamp;
      sent_is =
          ap (λ k. k ++ d ∷ []) sent_is
          ∙ (append_assoc before (first ∷ []) (d ∷ [])
          ∙ (ap (λ x. before ++ first ∷ x ∷ []) (sym same) ∙ (ap (λ x. before ++ x ∷ body_of u.plan b.head.levels (stamp_at u.plan (length ks)) (length before + 1) true (put_eoc (217 ∷ []) empty) ∷ []) (sym same_first)
          ∙ (sym r ∙ ap (datagrams_by u.plan) (known_push b.before parts b.now (whole b.head b.header (b.front ++ b.last ∷ [])) b.parts_are b.now_is)))));
    }
