-- The next datagram of a sender: it is given, or it is one too many.
use Rattle.std.proofs.Common.{◌≡◌, ◌<◌, ◌≤◌, ◌+◌, ℕ, true, false, List, [], ◌∷◌, ◌++◌, map, length, take, refl, sym, subst, ap, ◌∙◌, inl, inr, arith, append_assoc}
use Rattle.std.specs.List.{AllByRecursion, sum_by}
use Rattle.std.proofs.lemmas.List.{append-nil, length-append, length-map, map-append, take_at}
use Rattle.std.proofs.lemmas.List.Sums.{sum_by_push}
use Rattle.wire_model.specs.Datagram.{Datagram}
use Rattle.codestream_model.specs.Bytes.{IsBytes}
use Rattle.stream_model.specs.Stream.{Parts}
use Rattle.stream_model.specs.Commands.{counted}
use Rattle.stream_model.specs.Cut.{Plan, Piece, Known, room, known_of, stamp_at, datagrams_by, datagram_bytes, sendable}
use Rattle.stream_model.specs.Laws.{HasGrown}
use Rattle.stream_model.proofs.GrownDatagrams.{Begins, all_of, datagrams_placed, Follows, known_front}
use Rattle.sender_model.specs.Closing.{due_by, closed}
use Rattle.sender_model.specs.Refusals.{HasManyDatagrams, TooManyDatagrams}
use Rattle.sender_model.proofs.Refused.{FitsKnown, all_sent, all_counted}
use Rattle.codestream_walk.specs.Walking.{Walking}
use Rattle.packetiser.specs.Filling.{empty, put_eoc, body_of}
use Rattle.packetiser.specs.Filled.{part, longer, whole}
use Rattle.packetiser.specs.Packing.{Packing}
use Rattle.packetiser.specs.declared.packetiser.PackOut.TheVariants as out
use Rattle.packetiser.specs.Sending.{IsAtEoc, IsPutIn, HasRead, RefusesAs, Answers}
use Rattle.packetiser.proofs.Closing.{there_so_far}
use Rattle.packetiser.proofs.Due.{due_begins, first_closed}
use Rattle.packetiser.proofs.Machine.{with_part, end_two}
use Rattle.packetiser.proofs.Puts.{body_alike, stamp_is}
use Rattle.packetiser.proofs.Settled.{some_room}

-- pieces of which the last has more bytes
grown_last : (front : List Piece) (x : Piece) (bytes : List ℕ) → HasGrown (front ++ x ∷ []) (front ++ longer x bytes ∷ [])
grown_last front x bytes = inr (front, x, bytes, [], refl, refl)

-- what fits is sent
sent_all : (p : Plan) (ks : List Known) → AllByRecursion (FitsKnown p) ks → datagrams_by p (sendable p ks) ≡ datagrams_by p ks
sent_all p ks fit = ap (datagrams_by p) (all_sent p ks fit)

fit_alike : (p : Plan) (ks : List Known) (c d : Known) → c.header ≡ d.header → AllByRecursion (FitsKnown p) (ks ++ c ∷ []) → AllByRecursion (FitsKnown p) (ks ++ d ∷ [])
fit_alike p [] c d e a = (omega (arith, ap length e, a.0), tt)
fit_alike p (k ∷ ks) c d e a = (a.0, fit_alike p ks c d e a.1)

-- the datagrams of a codestream of which more is there
grown_front : (p : Plan) (ks : List Known) (c d : Known) → 1 ≤ room p → c.ended ≡ false → c.head ≡ d.head → c.header ≡ d.header → HasGrown c.pieces d.pieces → AllByRecursion (FitsKnown p) (ks ++ d ∷ []) → Begins (datagrams_by p (ks ++ c ∷ [])) (datagrams_by p (ks ++ d ∷ []))
grown_front p ks c d some unended head header grown fit =
    let follows : Follows (c ∷ []) (d ∷ []) = inr (c, d, [], refl, refl, unended, head, header, grown) in
    let k = known_front p 0 0 ks (c ∷ []) (d ∷ []) some follows in
    let was : datagrams_by p (ks ++ c ∷ []) ≡ all_of p 0 0 (sendable p (ks ++ c ∷ [])) = sym (sent_all p (ks ++ c ∷ []) (fit_alike p ks d c (sym header) fit)) ∙ datagrams_placed p (sendable p (ks ++ c ∷ [])) in
    let is : datagrams_by p (ks ++ d ∷ []) ≡ all_of p 0 0 (sendable p (ks ++ d ∷ [])) = sym (sent_all p (ks ++ d ∷ []) fit) ∙ datagrams_placed p (sendable p (ks ++ d ∷ [])) in
    (k.0, is ∙ (k.1 ∙ ap (λ l. l ++ k.0) (sym was)))

none_more : (xs ys : List Datagram) → xs ≡ ys → Begins xs ys
none_more xs ys e = ([], sym e ∙ sym (append-nil xs))

begins_by : (xs ys zs : List Datagram) → xs ≡ ys → Begins ys zs → Begins xs zs
begins_by xs ys zs e b = (b.0, b.1 ∙ ap (λ l. l ++ b.0) (sym e))

-- the last codestream of those that are whole
known_last : (before : List Parts) (now : Parts) (parts : List Parts) (k : Known) → parts ≡ before ++ now ∷ [] → known_of now ≡ k → map known_of before ++ k ∷ [] ≡ map known_of parts ++ []
known_last before now parts k e f = ap (λ x. map known_of before ++ x ∷ []) (sym f) ∙ (sym (map-append known_of before (now ∷ [])) ∙ (ap (map known_of) (sym e) ∙ sym (append-nil (map known_of parts))))

-- the first byte of EOC was sent, and the second follows
eoc_begun : (v : Packing) (parts : List Parts) (known : List Known) (sent : List Datagram) → 1 ≤ room v.plan → (b : IsAtEoc v parts known sent) → length b.filling.payload + 1 ≡ room v.plan
    → sent ≡ datagrams_by v.plan (map known_of b.before ++ part b.head b.header (b.front ++ b.last ∷ []) ∷ []) ++ body_of v.plan v.levels v.stamp (length (datagrams_by v.plan (map known_of b.before ++ part b.head b.header (b.front ++ b.last ∷ []) ∷ []))) false (put_eoc (255 ∷ []) b.filling) ∷ []
    → Begins sent (datagrams_by v.plan (map known_of b.before ++ whole b.head b.header (b.front ++ b.last ∷ []) ∷ []))
eoc_begun v parts known sent some b fills sent_is =
    let ks = map known_of b.before in
    let before = with_part v.plan ks b.head b.header (b.front ++ b.last ∷ []) in
    let stamp = stamp_at v.plan (length ks) in
    let first : Datagram = body_of v.plan b.head.levels stamp (length before) false (put_eoc (255 ∷ []) b.filling) in
    let last : Datagram = body_of v.plan b.head.levels stamp (length before + 1) true (put_eoc (217 ∷ []) empty) in
    let r = end_two v.plan ks b.head b.header b.front b.last b.filling some b.fills b.some fills in
    let same = body_alike v.plan v.levels b.head.levels v.stamp stamp (length before) (length before) false (put_eoc (255 ∷ []) b.filling) (put_eoc (255 ∷ []) b.filling) b.levels (sym (stamp_is v.plan b.before v.stamp b.stamp)) refl refl in (
      last ∷ [],
      r ∙ (sym (append_assoc before (first ∷ []) (last ∷ [])) ∙ ap (λ l. l ++ last ∷ []) (sym (sent_is ∙ ap (λ x. before ++ x ∷ []) same))),
    )

-- what was sent are the first datagrams of what is known
pub sent_first : (v : Packing) (parts : List Parts) (known : List Known) (sent : List Datagram) → 1 ≤ room v.plan → IsPutIn v parts known sent → AllByRecursion (FitsKnown v.plan) (map known_of parts ++ known) → Begins sent (datagrams_by v.plan (map known_of parts ++ known))
sent_first v parts known sent some (inl b) fit = none_more sent (datagrams_by v.plan (map known_of parts ++ known)) (b.sent_is ∙ ap (datagrams_by v.plan) (sym (ap (λ l. map known_of parts ++ l) b.none ∙ append-nil (map known_of parts))))
sent_first v parts known sent some (inr (inl b)) fit = none_more sent (datagrams_by v.plan (map known_of parts ++ known)) b.sent_is
sent_first v parts known sent some (inr (inr (inl b))) fit =
    let ks = map known_of parts in
    let c = part b.head b.header (b.front ++ b.last ∷ []) in
    let d = part b.head b.header (b.front ++ longer b.last v.rest ∷ []) in
    let F : List Known → Type 0 = λ l. AllByRecursion (FitsKnown v.plan) (ks ++ l) in
    let Z : List Known → Type 0 = λ l. Begins sent (datagrams_by v.plan (ks ++ l)) in
    subst Z (sym b.known_is) (begins_by sent (datagrams_by v.plan (ks ++ c ∷ [])) (datagrams_by v.plan (ks ++ d ∷ [])) b.sent_is (grown_front v.plan ks c d some refl refl refl (grown_last b.front b.last v.rest) (subst F b.known_is fit)))
sent_first v parts known sent some (inr (inr (inr b))) fit = elim b.which [
  | inl w ↦
      let ks = map known_of b.before in
      let c = part b.head b.header (b.front ++ b.last ∷ []) in
      let d = whole b.head b.header (b.front ++ b.last ∷ []) in
      let all : ks ++ d ∷ [] ≡ map known_of parts ++ known = known_last b.before b.now parts d b.parts_are b.now_is ∙ ap (λ l. map known_of parts ++ l) (sym b.none) in
      let F : List Known → Type 0 = λ l. AllByRecursion (FitsKnown v.plan) l in
      let Z : List Known → Type 0 = λ l. Begins sent (datagrams_by v.plan l) in
      let grown : HasGrown (b.front ++ b.last ∷ []) (b.front ++ b.last ∷ []) = inr (b.front, b.last, [], [], refl, ap (λ (l : List ℕ). b.front ++ record { place = b.last.place; bytes = l } ∷ []) (sym (append-nil b.last.bytes))) in
      subst Z all (begins_by sent (datagrams_by v.plan (ks ++ c ∷ [])) (datagrams_by v.plan (ks ++ d ∷ [])) w.2 (grown_front v.plan ks c d some refl refl refl grown (subst F (sym all) fit)))
  | inr w ↦
      let ks = map known_of b.before in
      let d = whole b.head b.header (b.front ++ b.last ∷ []) in
      let all : ks ++ d ∷ [] ≡ map known_of parts ++ known = known_last b.before b.now parts d b.parts_are b.now_is ∙ ap (λ l. map known_of parts ++ l) (sym b.none) in
      let Z : List Known → Type 0 = λ l. Begins sent (datagrams_by v.plan l) in
      subst Z all (eoc_begun v parts known sent some b w.2 w.3)
]

-- A datagram is next, and a sender would be so after it.
pub record IsDue (p : Plan) (read : List ℕ) (given : List (List ℕ)) (v : Packing) (d : Datagram) : Type 0 where
  pub consumed : List ℕ
  pub parts : List Parts
  pub known : List Known
  pub sent : List Datagram
  pub plan : v.plan ≡ p
  pub has_read : HasRead p read v.seen.walk consumed parts known
  pub live : v.live ≡ true
  pub put_in : IsPutIn v parts known (sent ++ d ∷ [])
  pub carried : sum_by (λ x. length x.codestream) sent + length d.codestream + (length v.filling.payload + length v.rest) ≡ length consumed
  pub shown : v.shown ≡ datagram_bytes d
  pub given_is : given ≡ map datagram_bytes sent
  pub count : v.given ≡ length given + 1
  pub few : length given ≤ 8388607

-- it is one of those that the bytes fix
due_first : (p : Plan) (read : List ℕ) (given : List (List ℕ)) (v : Packing) (d : Datagram) (e : IsDue p read given v d) → Begins (e.sent ++ d ∷ []) (due_by p read)
due_first p read given v d e =
    let r = e.has_read in
    let ks = map known_of e.parts ++ e.known in
    let some = some_room p r.is_plan in
    let I : Plan → Type 0 = λ q. (1 ≤ room q) × AllByRecursion (FitsKnown q) ks in
    let i = subst I (sym e.plan) (some, r.fit) in
    let first = sent_first v e.parts e.known (e.sent ++ d ∷ []) i.0 e.put_in i.1 in
    let B : List ℕ → Type 0 = λ l. Begins (datagrams_by p (sendable p ks)) (due_by p l) in
    let R : List ℕ → Type 0 = λ l. IsBytes l in
    let due = subst B (sym r.whole) (due_begins p e.consumed v.seen.walk.hand e.parts e.known some (subst R r.whole r.are_bytes) (there_so_far e.consumed v.seen.walk e.parts e.known r.knows)) in
    let same : datagrams_by v.plan ks ≡ datagrams_by p (sendable p ks) = ap (λ q. datagrams_by q ks) e.plan ∙ sym (sent_all p ks r.fit) in (
      first.0 ++ due.0,
      due.1 ∙ (ap (λ l. l ++ due.0) (sym same ∙ first.1) ∙ append_assoc (e.sent ++ d ∷ []) first.0 due.0),
    )

-- all bytes that were read count
reads_all : (p : Plan) (read : List ℕ) (w : Walking) (consumed : List ℕ) (parts : List Parts) (known : List Known) → HasRead p read w consumed parts known → counted read ≡ read
reads_all p read w consumed parts known r = all_counted read (omega (arith, r.within, r.knows.offset, ap length r.whole, length-append consumed w.hand))

-- where there may be more datagrams it is given
pub due_given : (p : Plan) (read : List ℕ) (given : List (List ℕ)) (v : Packing) (d : Datagram) → IsDue p read given v d → length given < 8388607 → Answers p out.Datagram read given v
due_given p read given v d e few =
    let all = reads_all p read v.seen.walk e.consumed e.parts e.known e.has_read in
    let sent = e.sent ++ d ∷ [] in
    let given_is : given ++ v.shown ∷ [] ≡ map datagram_bytes sent = ap (λ x. given ++ x ∷ []) e.shown ∙ (ap (λ l. l ++ datagram_bytes d ∷ []) e.given_is ∙ sym (map-append datagram_bytes e.sent (d ∷ []))) in
    let count : length sent ≡ length given + 1 = omega (arith, length-append e.sent (d ∷ []), ap length e.given_is, length-map e.sent datagram_bytes) in
    let f = first_closed p read sent (due_first p read given v d e) (omega (arith, count, few)) in (
      record {
        consumed = e.consumed;
        parts = e.parts;
        known = e.known;
        sent = sent;
        plan = e.plan;
        has_read = e.has_read;
        live = e.live;
        put_in = e.put_in;
        carried = omega (arith, e.carried, sum_by_push (λ (x : Datagram). length x.codestream) e.sent d);
        given_is = given_is;
        count = omega (arith, e.count, length-append given (v.shown ∷ []));
        few = omega (arith, few, length-append given (v.shown ∷ []));
      },
      (f.0, ap (closed p) all ∙ (f.1 ∙ ap (λ l. l ++ f.0) (sym given_is))),
    )

-- and else it is one too many
pub due_refused : (p : Plan) (read : List ℕ) (given : List (List ℕ)) (v : Packing) (d : Datagram) (at : ℕ) → (e : IsDue p read given v d) → length given ≡ 8388607 → at + (length d.codestream + (length v.filling.payload + length v.rest)) ≡ length e.consumed
    → RefusesAs p read given at TooManyDatagrams
due_refused p read given v d at e full place =
    let all = reads_all p read v.seen.walk e.consumed e.parts e.known e.has_read in
    let b = due_first p read given v d e in
    let size : length e.sent ≡ 8388607 = omega (arith, full, ap length e.given_is, length-map e.sent datagram_bytes) in
    let due : due_by p read ≡ e.sent ++ (d ∷ b.0) = b.1 ∙ append_assoc e.sent (d ∷ []) b.0 in
    let front : take 8388607 (due_by p read) ≡ e.sent = ap (take 8388607) due ∙ take_at e.sent (d ∷ b.0) 8388607 size in
    let M : List ℕ → Type 0 = λ l. HasManyDatagrams p l at in (
      subst M (sym all) (record {
        many = omega (arith, size, ap length due, length-append e.sent (d ∷ b.0));
        place = (let sum : at ≡ sum_by (λ (x : Datagram). length x.codestream) e.sent = omega (arith, place, e.carried) in sum ∙ ap (sum_by (λ (x : Datagram). length x.codestream)) (sym front));
      }),
      e.given_is ∙ (ap (map datagram_bytes) (sym front) ∙ ap (closed p) (sym all)),
    )
