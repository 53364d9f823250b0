-- All bytes fix a list of datagrams: those of the whole codestreams at their front, and of what is there of the next.
use Rattle.std.proofs.Common.{◌≡◌, ◌⊎◌, ◌<◌, ◌≤◌, ℕ, zero, suc, false, List, [], ◌∷◌, ◌++◌, map, length, take, drop, Result, Ok, Err, subst, refl, sym, ◌∙◌, ap, inl, inr, arith, append_assoc}
use Rattle.std.specs.Prelude.{MatchResult}
use Rattle.std.specs.List.{AllZip}
use Rattle.std.proofs.lemmas.Bool.{cases_lt}
use Rattle.std.proofs.lemmas.List.{append-nil, length-append, take-append-drop}
use Rattle.codestream_model.specs.MarkedHeader.{marked_header_of, NeedsMarkedHeaderBytes}
use Rattle.codestream_model.proofs.Marked.{marked_read, marked_needs_read}
use Rattle.codestream_model.specs.Values.{Head, Place}
use Rattle.codestream_model.specs.Bytes.{IsBytes}
use Rattle.codestream_model.specs.MainHeader.{SpellsHead}
use Rattle.codestream_model.specs.MainHeaderReading.{Refused, head_of}
use Rattle.codestream_model.specs.RefusedHeader.{RefusesHead}
use Rattle.codestream_model.specs.Precincts.{grids}
use Rattle.codestream_model.specs.PacketOrder.{packet_order, IsPacketOrder}
use Rattle.codestream_model.specs.PacketHeader.{NeedsHeaderBytes}
use Rattle.codestream_model.specs.Packet.{Content}
use Rattle.codestream_model.specs.Codestream.{WalkRefusal, TooManyBlocks, HeaderRefused, PacketTooLong, joined}
use Rattle.codestream_model.proofs.SegmentBytes.{bytes-drop}
use Rattle.codestream_model.proofs.HeaderJudged.{headers_are_judged, header_is_not_refused}
use Rattle.codestream_model.proofs.HeaderLimits.{header_has_components}
use Rattle.codestream_model.proofs.BytesBack.{done_need}
use Rattle.codestream_model.proofs.Orders.{packet_order_is_computed}
use Rattle.codestream_model.proofs.OwnBands.{own_bands}
use Rattle.codestream_model.proofs.PacketVerdicts.{Fits, Faulty, Short, packet_step, step_fits, step_many, step_refused, step_long, step_short, IsThere, HasMany, IsRefused, IsLong, IsShort, what_stands}
use Rattle.codestream_model.proofs.CodestreamsJudged.{bytes_back, codestreams_judged, codestream_verdict}
use Rattle.codestream_model.proofs.Inputs.{codestream_long}
use Rattle.stream_model.specs.Stream.{Parts, ArePackets, ArePartsOf}
use Rattle.stream_model.specs.Cut.{Plan, Piece, Known, known_of, pieces_of, datagrams_by, datagram_bytes, IsOpened, Begins, HasNoCodestream, HasNoHead, IsNext, sendable, Closed}
use Rattle.stream_model.specs.CutLaws.{BytesFixDatagrams}
use Rattle.stream_model.proofs.CodestreamParts.{spelled_has_parts}
use Rattle.stream_model.proofs.CutPayloads.{joined-append}

-- where a packet is refused nothing of it is there
pub refused_opens : (h : Head) (p : Place) (later : List Place) (rest : List ℕ) (why : WalkRefusal) → packet_step h p rest ≡ Faulty why → IsOpened h (p ∷ later) rest []
refused_opens h p later rest why e = inr (
  λ t. (let s : packet_step h p rest ≡ Short = step_short h p rest (record { few_blocks = t.begins.few_blocks; unfinished = inr t }) in let c : Faulty why ≡ Short = sym e ∙ s in absurd (cc)),
  λ x packet more s f. (let c : Faulty why ≡ Fits (length packet) = sym e ∙ (ap (packet_step h p) f ∙ step_fits h p x packet more s) in absurd (cc)),
  refl,
)

-- nor where its header isn't whole
pub unfinished_opens : (h : Head) (p : Place) (later : List Place) (rest : List ℕ) → NeedsMarkedHeaderBytes (grids h p) h.eph rest → packet_step h p rest ≡ Short → IsOpened h (p ∷ later) rest []
unfinished_opens h p later rest n e = inr (
  λ t. done_need (length t.header) t.blocks (sym (ap (marked_header_of (grids h p) h.eph) t.begins.whole ∙ marked_read (grids h p) h.eph t.blocks t.header t.rest (own_bands h p) t.begins.is_header) ∙ marked_needs_read (grids h p) h.eph rest (own_bands h p) n),
  λ x packet more s f. (let c : Short ≡ Fits (length packet) = sym e ∙ (ap (packet_step h p) f ∙ step_fits h p x packet more s) in absurd (cc)),
  refl,
)

-- the packets at the front of bytes, and what is there of the next
record Opens (h : Head) (places : List Place) (bytes : List ℕ) : Type 0 where
  before : List Place
  later : List Place
  content : List Content
  packets : List (List ℕ)
  rest : List ℕ
  opened : List Piece
  order : places ≡ before ++ later
  are : ArePackets h before content packets
  whole : bytes ≡ joined packets ++ rest
  is_opened : IsOpened h later rest opened

-- where no packet more is whole
stops_at : (h : Head) (places : List Place) (bytes : List ℕ) (opened : List Piece) → IsOpened h places bytes opened → Opens h places bytes
stops_at h places bytes opened o = record { before = []; later = places; content = []; packets = []; rest = bytes; opened = opened; order = refl; are = tt; whole = refl; is_opened = o }

-- the packets of these precincts
opens : (h : Head) (places : List Place) (bytes : List ℕ) → IsBytes bytes → Opens h places bytes
opens h [] bytes fits = stops_at h [] bytes [] refl
opens h (p ∷ places) bytes fits = elim (what_stands h p bytes fits) [
  | IsThere x packet more s e ↦
      let P : List ℕ → Type 0 = λ l. IsBytes l in
      let r = opens h places more (bytes_back packet more (subst P e fits)) in
      record {
        before = p ∷ r.before;
        later = r.later;
        content = x ∷ r.content;
        packets = packet ∷ r.packets;
        rest = r.rest;
        opened = r.opened;
        order = ap (λ l. p ∷ l) r.order;
        are = (s, r.are);
        whole = e ∙ (ap (λ (l : List ℕ). packet ++ l) r.whole ∙ sym (append_assoc packet (joined r.packets) r.rest));
        is_opened = r.is_opened;
      }
  | HasMany many ↦ stops_at h (p ∷ places) bytes [] (refused_opens h p places bytes TooManyBlocks (step_many h p bytes many))
  | IsRefused why few t ↦ stops_at h (p ∷ places) bytes [] (refused_opens h p places bytes (HeaderRefused why) (step_refused h p bytes why few t))
  | IsLong t ↦ stops_at h (p ∷ places) bytes [] (refused_opens h p places bytes PacketTooLong (step_long h p bytes t))
  | IsShort n ↦ elim n.unfinished [
    | inl t ↦ stops_at h (p ∷ places) bytes [] (unfinished_opens h p places bytes t (step_short h p bytes n))
    | inr t ↦ stops_at h (p ∷ places) bytes (record { place = p; bytes = bytes } ∷ []) (inl (t, refl))
  ]
]

-- what is there of a codestream whose main header is there
begins_with : (h : Head) (rest : List ℕ) → SpellsHead h (take h.length rest) → IsBytes rest → (c : Known) × Begins c rest
begins_with h rest s fits =
    let o = opens h (packet_order h) (drop h.length rest) (bytes-drop h.length rest fits) in
    let O : List Place → Type 0 = λ l. IsPacketOrder h l in
    let c : Known = record { head = h; header = take h.length rest; pieces = pieces_of o.before o.packets ++ o.opened; ended = false } in (
      c,
      record {
        before = o.before;
        later = o.later;
        content = o.content;
        packets = o.packets;
        rest = o.rest;
        opened = o.opened;
        is_head = s;
        order = subst O o.order (packet_order_is_computed h (header_has_components h (take h.length rest) s).steps);
        are_packets = o.are;
        whole = sym (take-append-drop h.length rest) ∙ ap (λ (l : List ℕ). take h.length rest ++ l) o.whole;
        is_opened = o.is_opened;
        pieces = refl;
        unended = refl;
      },
    )

-- or of one whose main header isn't
next_by : (rest : List ℕ) (r : Result Head Refused) → IsBytes rest → MatchResult r (λ h. SpellsHead h (take h.length rest)) (λ t. RefusesHead rest t.at t.why) → (next : List Known) × (((c : Known) × Begins c rest × (next ≡ c ∷ [])) ⊎ (HasNoHead rest × (next ≡ [])))
next_by rest (Ok h) fits s = let b = begins_with h rest s fits in (b.0 ∷ [], inl (b.0, b.1, refl))
next_by rest (Err t) fits s =
    let P : List ℕ → Type 0 = λ l. RefusesHead l t.at t.why in
    ([], inr (λ h header more is e. header_is_not_refused h header more t.at t.why is (subst P e s), refl))

-- what is there after n whole codestreams, where no other is whole
next_of : (n : ℕ) (rest : List ℕ) → n < 65536 → IsBytes rest → HasNoCodestream rest → (next : List Known) × IsNext n rest next
next_of n rest few fits none = let b = next_by rest (head_of rest) fits (headers_are_judged rest fits) in (b.0, inr (few, none, b.1))

-- whole codestreams at the front of bytes, and what is there of the next
record Split (bytes : List ℕ) (before : List (List ℕ)) (parts : List Parts) (rest : List ℕ) : Type 0 where
  whole : bytes ≡ joined before ++ rest
  are : AllZip (λ c codestream. ArePartsOf c codestream) parts before
  few : length before ≤ 65536

-- one more of each
pub zip_push : (parts : List Parts) (before : List (List ℕ)) (c : Parts) (codestream : List ℕ) → AllZip (λ c codestream. ArePartsOf c codestream) parts before → ArePartsOf c codestream → AllZip (λ c codestream. ArePartsOf c codestream) (parts ++ c ∷ []) (before ++ codestream ∷ [])
zip_push [] [] c codestream a b = (b, tt)
zip_push [] (x ∷ before) c codestream a b = absurd a
zip_push (p ∷ parts) [] c codestream a b = absurd a
zip_push (p ∷ parts) (x ∷ before) c codestream a b = (a.0, zip_push parts before c codestream a.1 b)

-- the list that is fixed
closed_by : (p : Plan) (bytes : List ℕ) (before : List (List ℕ)) (parts : List Parts) (rest : List ℕ) → Split bytes before parts rest → ((next : List Known) × IsNext (length before) rest next) → (closed : List (List ℕ)) × Closed p bytes closed
closed_by p bytes before parts rest s n =
    (map datagram_bytes (take 8388607 (datagrams_by p (sendable p (map known_of parts ++ n.0)))), record { codestreams = before; parts = parts; rest = rest; next = n.0; whole = s.whole; are_parts = s.are; few = s.few; is_next = n.1; fixed = refl })

-- by the codestreams that follow, in at most n bytes
closed_behind : (n : ℕ) (p : Plan) (bytes : List ℕ) (before : List (List ℕ)) (parts : List Parts) (rest : List ℕ) → length rest < n → IsBytes rest → Split bytes before parts rest → (closed : List (List ℕ)) × Closed p bytes closed
closed_behind zero p bytes before parts rest most fits s = absurd (omega arith)
closed_behind (suc n) p bytes before parts rest most fits s = elim (cases_lt (length before) 65536) [
  | inr all ↦ closed_by p bytes before parts rest s ([], inl (omega (arith, s.few), refl))
  | inl few ↦ elim (codestreams_judged rest fits) [
    | inl (codestream, more, (h, content, is), e) ↦
        let P : List ℕ → Type 0 = λ l. IsBytes l in
        let a = spelled_has_parts h content codestream is in
        let all : joined (before ++ codestream ∷ []) ≡ joined before ++ codestream = joined-append before (codestream ∷ []) ∙ ap (λ (l : List ℕ). joined before ++ l) (append-nil codestream) in
        closed_behind n p bytes (before ++ codestream ∷ []) (parts ++ a.0 ∷ []) more
        (omega (arith, most, codestream_long codestream (h, content, is), ap length e, length-append codestream more)) (bytes_back codestream more (subst P e fits))
        (record {
          whole = s.whole ∙ (ap (λ (l : List ℕ). joined before ++ l) e ∙ (sym (append_assoc (joined before) codestream more) ∙ ap (λ (l : List ℕ). l ++ more) (sym all)));
          are = zip_push parts before a.0 codestream s.are a.1;
          few = omega (arith, few, length-append before (codestream ∷ []));
        })
    | inr (inl t) ↦ closed_by p bytes before parts rest s (next_of (length before) rest few fits (λ codestream more c e. (codestream_verdict rest).not_refused (codestream, more, c, e) t.0 t.1 t.2))
    | inr (inr t) ↦ closed_by p bytes before parts rest s (next_of (length before) rest few fits (λ codestream more c e. (codestream_verdict rest).not_unfinished (codestream, more, c, e) t))
  ]
]

-- all bytes fix one
pub bytes_fix : BytesFixDatagrams
bytes_fix p bytes fits = closed_behind (suc (length bytes)) p bytes [] [] bytes (omega arith) fits (record { whole = refl; are = tt; few = omega arith })
