-- Where bytes leave the input open, few of them are in no datagram.
use Rattle.std.proofs.Common.{◌≡◌, ◌⊎◌, ◌<◌, ◌≤◌, ◌+◌, ℕ, List, [], ◌∷◌, ◌++◌, map, length, subst, refl, sym, ◌∙◌, ap, inl, inr, arith, append_assoc}
use Rattle.std.specs.List.{AllByRecursion, sum_by}
use Rattle.std.proofs.lemmas.Bool.{cases_lt}
use Rattle.std.proofs.lemmas.List.{append-nil, length-append, take_all}
use Rattle.std.proofs.lemmas.List.Sums.{sum_by-append, sum_by-cons}
use Rattle.codestream_model.specs.Values.{Head, Place}
use Rattle.codestream_model.specs.Bytes.{IsBytes}
use Rattle.codestream_model.specs.PacketOrder.{IsPacketOrder}
use Rattle.codestream_model.specs.Packet.{Content}
use Rattle.codestream_model.specs.Codestream.{WalkRefusal, HeadRefused, Cut, TooManyBlocks, HeaderRefused, PacketTooLong, Psot, NoEoc, InputTooLong, TooManyFrames, IsCodestream, SpellsCodestream, BeginsCodestream, IsPsotRight, RefusesPacket, RefusesEoc, RefusesCodestream, NeedsCodestreamBytes, Faults, IsInput, joined}
use Rattle.codestream_model.proofs.ItemsJudged.{packets_judged, unfinished_short, eoc_judged}
use Rattle.codestream_model.proofs.CutHeads.{cut_head_is_short}
use Rattle.codestream_model.proofs.CodestreamsJudged.{bytes_back, codestream_verdict}
use Rattle.codestream_model.proofs.Inputs.{lists_agree}
use Rattle.codestream_model.proofs.TreeLemmas.{among_all}
use Rattle.stream_model.specs.Stream.{ArePackets}
use Rattle.stream_model.specs.Commands.{counted}
use Rattle.stream_model.specs.Cut.{Plan, Piece, Known, room, pieces_of, known_of, sendable, datagrams_by, datagram_bytes, IsOpened, Begins, HasNoCodestream, HasNoHead}
use Rattle.stream_model.proofs.CodestreamParts.{packets_join}
use Rattle.stream_model.proofs.CutBodies.{as_many}
use Rattle.stream_model.proofs.CutPayloads.{all-append, bytes_of_pieces}
use Rattle.stream_model.proofs.ClosedGrown.{each_is}
use Rattle.stream_model.proofs.GrownBodies.{total}
use Rattle.stream_model.proofs.GrownDatagrams.{all_of, datagrams_placed}
use Rattle.sender_model.specs.Closing.{due_by, closed}
use Rattle.sender_model.specs.Refusals.{HasNoLongHeader, HasFewDatagrams}
use Rattle.sender_model.specs.Lead.{carried_bytes, ReadsLittleAhead}
use Rattle.sender_model.proofs.ClosedComputed.{Computed, computed}
use Rattle.sender_model.proofs.CarriedBytes.{carried_are, carried_of, all_carry, wholes_carried, total_is, part_carried}
use Rattle.sender_model.proofs.Refused.{FitsKnown, parts_fit, all_sent, next_is_long, behind_front, all_counted, input_is_computed, all_fit}

-- a refused packet refuses its codestream
packet_refuses : (h : Head) (p : Place) (later : List Place) (at : ℕ) (rest bytes : List ℕ) (why : WalkRefusal) → BeginsCodestream h (p ∷ later) at rest bytes → RefusesPacket h p rest why → RefusesCodestream bytes at why
packet_refuses h p later at rest bytes TooManyBlocks b r = (h, p, later, rest, b, r)
packet_refuses h p later at rest bytes (HeaderRefused why) b r = (h, p, later, rest, b, r)
packet_refuses h p later at rest bytes PacketTooLong b r = (h, p, later, rest, b, r)
packet_refuses h p later at rest bytes (HeadRefused why) b r = absurd r
packet_refuses h p later at rest bytes Cut b r = absurd r
packet_refuses h p later at rest bytes Psot b r = absurd r
packet_refuses h p later at rest bytes NoEoc b r = absurd r
packet_refuses h p later at rest bytes InputTooLong b r = absurd r
packet_refuses h p later at rest bytes TooManyFrames b r = absurd r

-- and so does a refused EOC
eoc_refuses : (h : Head) (at : ℕ) (rest bytes : List ℕ) (why : WalkRefusal) → BeginsCodestream h [] at rest bytes → RefusesEoc h at rest why → RefusesCodestream bytes at why
eoc_refuses h at rest bytes Psot b r = (h, rest, b, r)
eoc_refuses h at rest bytes NoEoc b r = (h, rest, b, r)
eoc_refuses h at rest bytes (HeadRefused why) b r = absurd r
eoc_refuses h at rest bytes Cut b r = absurd r
eoc_refuses h at rest bytes TooManyBlocks b r = absurd r
eoc_refuses h at rest bytes (HeaderRefused why) b r = absurd r
eoc_refuses h at rest bytes PacketTooLong b r = absurd r
eoc_refuses h at rest bytes InputTooLong b r = absurd r
eoc_refuses h at rest bytes TooManyFrames b r = absurd r

-- what is there of a codestream as a beginning of it
as_begun : (c : Known) (bytes : List ℕ) (b : Begins c bytes) → BeginsCodestream c.head b.later (length c.header + length (joined b.packets)) b.rest bytes
as_begun c bytes b = record {
  head = c.header;
  before = b.before;
  content = b.content;
  packets = joined b.packets;
  is_head = b.is_head;
  order = b.order;
  are_packets = packets_join c.head b.before b.content b.packets b.are_packets;
  place = refl;
  whole = b.whole;
}

-- Where a packet is next, few bytes are not of its piece.
packet_open : (h : Head) (p : Place) (later : List Place) (at : ℕ) (rest bytes : List ℕ) (opened : List Piece) → IsBytes rest → BeginsCodestream h (p ∷ later) at rest bytes → NeedsCodestreamBytes bytes → IsOpened h (p ∷ later) rest opened
    → length rest < total opened + 65538
packet_open h p later at rest bytes opened fits b n (inl (lacks, e)) = omega (arith, ap total e)
packet_open h p later at rest bytes opened fits b n (inr (none, whole, e)) = elim (packets_judged h p rest fits) [
  | inl (x, packet, more, s, f) ↦ absurd (whole x packet more s f)
  | inr (inl (why, r)) ↦ absurd ((codestream_verdict bytes).not_both at why (packet_refuses h p later at rest bytes why b r) n)
  | inr (inr t) ↦ elim t.unfinished [
    | inl u ↦ omega (arith, unfinished_short h p rest u)
    | inr u ↦ absurd (none u)
  ]
]

-- where EOC follows all packets the codestream is whole
eoc_there : (h : Head) (at : ℕ) (rest bytes : List ℕ) → (b : BeginsCodestream h [] at rest bytes) → HasNoCodestream bytes → IsPsotRight h at → (more : List ℕ) → rest ≡ 255 ∷ 217 ∷ more → ⊥
eoc_there h at rest bytes b none psot more e =
    let O : List Place → Type 0 = λ l. IsPacketOrder h l in
    let P : ℕ → Type 0 = λ n. IsPsotRight h n in
    let codestream = b.head ++ (b.packets ++ 255 ∷ 217 ∷ []) in
    let s : SpellsCodestream h b.content codestream = record {
      head = b.head;
      places = b.before;
      packets = b.packets;
      is_head = b.is_head;
      order = subst O (append-nil b.before) b.order;
      are_packets = b.are_packets;
      psot = subst P b.place psot;
      whole = refl;
    } in
    none codestream more (h, b.content, s)
    (b.whole ∙ (ap (λ (l : List ℕ). b.head ++ (b.packets ++ l)) e ∙ sym (append_assoc b.head (b.packets ++ 255 ∷ 217 ∷ []) more ∙ ap (λ (l : List ℕ). b.head ++ l) (append_assoc b.packets (255 ∷ 217 ∷ []) more))))

-- Where EOC is next, fewer than two bytes are there.
eoc_open : (h : Head) (at : ℕ) (rest bytes : List ℕ) → (b : BeginsCodestream h [] at rest bytes) → NeedsCodestreamBytes bytes → HasNoCodestream bytes → length rest < 65538
eoc_open h at rest bytes b n none = elim (eoc_judged h at rest) [
  | inl t ↦ absurd (eoc_there h at rest bytes b none t.0 t.1.0 t.1.1)
  | inr (inl (why, r)) ↦ absurd ((codestream_verdict bytes).not_both at why (eoc_refuses h at rest bytes why b r) n)
  | inr (inr t) ↦ omega (arith, t.1)
]

-- So few bytes of a codestream are not of its pieces,
rest_open : (h : Head) (later : List Place) (at : ℕ) (rest bytes : List ℕ) (opened : List Piece) → IsBytes rest → BeginsCodestream h later at rest bytes → NeedsCodestreamBytes bytes → HasNoCodestream bytes → IsOpened h later rest opened
    → length rest < total opened + 65538
rest_open h [] at rest bytes opened fits b n none o = omega (arith, eoc_open h at rest bytes b n none)
rest_open h (p ∷ later) at rest bytes opened fits b n none o = packet_open h p later at rest bytes opened fits b n o

-- its pieces have the bytes of its packets and what is opened,
pieces_total : (h : Head) (places : List Place) (content : List Content) (packets : List (List ℕ)) (opened : List Piece) → ArePackets h places content packets → total (pieces_of places packets ++ opened) ≡ length (joined packets) + total opened
pieces_total h places content packets opened a =
    let same = as_many h places content packets a in
    sum_by-append (λ (x : Piece). length x.bytes) (pieces_of places packets) opened
    ∙ omega (arith, total_is (pieces_of places packets), ap (λ (l : List (List ℕ)). length (joined l)) (bytes_of_pieces places packets same))

-- and few bytes of it are in no datagram.
begun_open : (p : Plan) (c : Known) (bytes : List ℕ) → 1 ≤ room p → IsBytes bytes → Begins c bytes → NeedsCodestreamBytes bytes → HasNoCodestream bytes → length bytes < carried_of p c + room p + 65537
begun_open p c bytes some fits b n none =
    let B : List ℕ → Type 0 = λ l. IsBytes l in
    let left = bytes_back (joined b.packets) b.rest (bytes_back c.header (joined b.packets ++ b.rest) (subst B b.whole fits)) in
    let ahead = rest_open c.head b.later (length c.header + length (joined b.packets)) b.rest bytes b.opened left (as_begun c bytes b) n none b.is_opened in
    let pieces : total c.pieces ≡ length (joined b.packets) + total b.opened = ap total b.pieces ∙ pieces_total c.head b.before b.content b.packets b.opened b.are_packets in
    omega (arith, ahead, pieces, part_carried p c some b.unended, ap length b.whole, length-append c.header (joined b.packets ++ b.rest), length-append (joined b.packets) b.rest)

-- Where no main header is there, few bytes are.
headless : (bytes : List ℕ) → NeedsCodestreamBytes bytes → HasNoHead bytes → length bytes < 8192
headless bytes (at, inl r) none = cut_head_is_short bytes at r
headless bytes (at, inr (inl (h, p, later, rest, b, t))) none = absurd (none h b.head (b.packets ++ rest) b.is_head b.whole)
headless bytes (at, inr (inr (h, rest, b, t))) none = absurd (none h b.head (b.packets ++ rest) b.is_head b.whole)

-- What follows the whole codestreams: nothing, or bytes that end inside a codestream.
abbrev EndsOpen : (bytes : List ℕ) → Computed 65536 bytes → Type 0
EndsOpen bytes r = (r.rest ≡ []) ⊎ ((length r.codestreams < 65536) × NeedsCodestreamBytes r.rest)

-- where a fault is that bytes are missing
cut_within : (bytes : List ℕ) (r : Computed 65536 bytes) (codestreams extra : List (List ℕ)) (rest : List ℕ) → bytes ≡ joined codestreams ++ rest → AllByRecursion IsCodestream codestreams → length codestreams < 65536 → NeedsCodestreamBytes rest
    → codestreams ≡ r.codestreams ++ extra → EndsOpen bytes r
cut_within bytes r codestreams [] rest whole each few n e =
    let N : List ℕ → Type 0 = λ l. NeedsCodestreamBytes l in
    let behind : r.rest ≡ rest = behind_front r.codestreams [] bytes r.rest rest r.whole (whole ∙ ap (λ xs. joined xs ++ rest) e) in
    inr (omega (arith, few, ap length e, length-append r.codestreams []), subst N (sym behind) n)
cut_within bytes r codestreams (x ∷ extra) rest whole each few n e =
    let P : List (List ℕ) → Type 0 = λ xs. AllByRecursion IsCodestream xs in
    let is : IsCodestream x = among_all IsCodestream r.codestreams x extra (subst P e each) in
    let behind : r.rest ≡ (x ++ joined extra) ++ rest = behind_front r.codestreams (x ∷ extra) bytes r.rest rest r.whole (whole ∙ ap (λ xs. joined xs ++ rest) e) in
    elim r.is_next [
      | inl t ↦ absurd (omega (arith, t.0, few, ap length e, length-append r.codestreams (x ∷ extra)))
      | inr t ↦ absurd (t.1 x (joined extra ++ rest) is (behind ∙ append_assoc x (joined extra) rest))
    ]

cut_past : (bytes : List ℕ) (r : Computed 65536 bytes) (codestreams extra : List (List ℕ)) (rest : List ℕ) → bytes ≡ joined codestreams ++ rest → AllByRecursion IsCodestream codestreams → length codestreams < 65536 → NeedsCodestreamBytes rest
    → r.codestreams ≡ codestreams ++ extra → EndsOpen bytes r
cut_past bytes r codestreams [] rest whole each few n e = cut_within bytes r codestreams [] rest whole each few n (sym (append-nil r.codestreams ∙ (e ∙ append-nil codestreams)))
cut_past bytes r codestreams (x ∷ extra) rest whole each few n e =
    let P : List (List ℕ) → Type 0 = λ xs. AllByRecursion IsCodestream xs in
    let is : IsCodestream x = among_all IsCodestream codestreams x extra (subst P e (each_is r.parts r.codestreams r.are)) in
    let behind : rest ≡ (x ++ joined extra) ++ r.rest = behind_front codestreams (x ∷ extra) bytes rest r.rest whole (r.whole ∙ ap (λ xs. joined xs ++ r.rest) e) in
    absurd ((codestream_verdict rest).not_unfinished (x, joined extra ++ r.rest, is, behind ∙ append_assoc x (joined extra) r.rest) n)

ends_open : (bytes : List ℕ) (r : Computed 65536 bytes) → ((codestreams : List (List ℕ)) × IsInput bytes codestreams) ⊎ Faults bytes (length bytes) Cut → EndsOpen bytes r
ends_open bytes r (inl (codestreams, is)) =
    let same = (input_is_computed bytes r codestreams is).same in
    inl (behind_front r.codestreams [] bytes r.rest [] r.whole (is.whole ∙ (ap joined (sym same ∙ sym (append-nil r.codestreams)) ∙ sym (append-nil (joined (r.codestreams ++ []))))))
ends_open bytes r (inr f) = elim f.fault [
  | inl (all, why, at) ↦ absurd (cc)
  | inr (few, (n, short, at)) ↦
      let k = lists_agree r.codestreams f.codestreams r.rest f.rest (each_is r.parts r.codestreams r.are) f.each (sym r.whole ∙ f.whole) in
      elim k.1 [
        | inl e ↦ cut_within bytes r f.codestreams k.0 f.rest f.whole f.each few n e
        | inr e ↦ cut_past bytes r f.codestreams k.0 f.rest f.whole f.each few n e
      ]
]

-- So few of the bytes after the whole codestreams are in no datagram.
next_open : (p : Plan) (bytes : List ℕ) (r : Computed 65536 bytes) → 1 ≤ room p → IsBytes bytes → EndsOpen bytes r → length r.rest < sum_by (carried_of p) r.next + room p + 65537
next_open p bytes r some fits (inl e) = omega (arith, some, ap length e)
next_open p bytes r some fits (inr (few, n)) =
    let B : List ℕ → Type 0 = λ l. IsBytes l in
    let left = bytes_back (joined r.codestreams) r.rest (subst B r.whole fits) in
    elim r.is_next [
      | inl t ↦ absurd (omega (arith, t.0, few))
      | inr t ↦ elim t.2 [
        | inr u ↦ omega (arith, headless r.rest n u.0)
        | inl u ↦ omega (arith, begun_open p u.0 r.rest some left u.1 n t.1, ap (sum_by (carried_of p)) u.2, sum_by-cons (carried_of p) u.0 [])
      ]
    ]

-- the main header of the next codestream fits a datagram
next_fits : (p : Plan) (bytes : List ℕ) (r : Computed 65536 bytes) → HasNoLongHeader p bytes → AllByRecursion (FitsKnown p) r.next
next_fits p bytes r none =
    let P : List Known → Type 0 = λ l. AllByRecursion (FitsKnown p) l in
    elim r.is_next [
      | inl t ↦ subst P (sym t.1) tt
      | inr t ↦ elim t.2 [
        | inr u ↦ subst P (sym u.1) tt
        | inl u ↦ elim (cases_lt (room p) (length u.0.header)) [
          | inl long ↦ let l = next_is_long p bytes r (all_fit p bytes r none) t.0 u.0 u.1 long in absurd (none l.0 l.1)
          | inr short ↦ subst P (sym u.2) (short, tt)
        ]
      ]
    ]

-- the bytes that are in datagrams
in_datagrams : (p : Plan) (bytes : List ℕ) (r : Computed 65536 bytes) → 1 ≤ room p → HasNoLongHeader p bytes → HasFewDatagrams p bytes → carried_bytes (closed p bytes) ≡ length (joined r.codestreams) + sum_by (carried_of p) r.next
in_datagrams p bytes r some none few =
    let all = map known_of r.parts ++ r.next in
    let due : due_by p bytes ≡ all_of p 0 0 all =
    ap (λ l. datagrams_by p (sendable p l)) r.is_known ∙ (ap (datagrams_by p) (all_sent p all (all-append (FitsKnown p) (map known_of r.parts) r.next (parts_fit p r.parts (all_fit p bytes r none)) (next_fits p bytes r none))) ∙ datagrams_placed p all) in
    let given : closed p bytes ≡ map datagram_bytes (all_of p 0 0 all) = ap (map datagram_bytes) (take_all 8388607 (due_by p bytes) few ∙ due) in
    ap carried_bytes given
    ∙ (carried_are (all_of p 0 0 all)
    ∙ (all_carry p 0 0 all
    ∙ (sum_by-append (carried_of p) (map known_of r.parts) r.next ∙ ap (λ (n : ℕ). n + sum_by (carried_of p) r.next) (wholes_carried p r.parts r.codestreams some r.are))))

-- what leaves the input open isn't too long
within_limit : (read : List ℕ) → ((codestreams : List (List ℕ)) × IsInput read codestreams) ⊎ Faults read (length read) Cut → length read ≤ 1099511627776
within_limit read (inl (codestreams, is)) = is.within
within_limit read (inr f) = elim f.fault [
  | inl (all, why, at) ↦ absurd (cc)
  | inr (few, (n, short, at)) ↦ omega (arith, short, ap length f.whole, length-append (joined f.codestreams) f.rest)
]

adds_up : (read whole next rest space given : ℕ) → read ≡ whole + rest → rest < next + space + 65537 → given ≡ whole + next → read < given + space + 65537
adds_up read whole next rest space given e f g = omega (arith, e, f, g)

pub reads_little_ahead : ReadsLittleAhead
reads_little_ahead p read plan fits o =
    let some : 1 ≤ room p = omega (arith, plan.least_mtu) in
    let all : counted read ≡ read = all_counted read (within_limit read o.unfinished) in
    let F : List ℕ → Type 0 = λ l. HasNoLongHeader p l in
    let D : List ℕ → Type 0 = λ l. HasFewDatagrams p l in
    let r = computed 65536 read fits in
    let given = in_datagrams p read r some (subst F all o.fit) (subst D all o.few) in
    adds_up (length read) (length (joined r.codestreams)) (sum_by (carried_of p) r.next) (length r.rest) (room p) (carried_bytes (closed p (counted read)))
    (ap length r.whole ∙ length-append (joined r.codestreams) r.rest)
    (next_open p read r some fits (ends_open read r o.unfinished))
    (ap (λ (l : List ℕ). carried_bytes (closed p l)) all ∙ given)
