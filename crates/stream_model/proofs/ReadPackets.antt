-- All bytes are whole codestreams, and after them whole packets up to the first that isn't there.
use Rattle.std.proofs.Common.{◌≡◌, ◌<◌, ◌⊎◌, ◌+◌, ℕ, zero, suc, true, false, List, [], ◌∷◌, ◌++◌, length, take, drop, Result, Ok, Err, refl, sym, ◌∙◌, ap, subst, inl, inr, arith, append_assoc}
use Rattle.std.proofs.lemmas.List.{append-nil, take-append-drop}
use Rattle.std.proofs.lemmas.List.Elements.{All-weaker}
use Rattle.std.proofs.lemmas.Result.{MatchResult-at_ok}
use Rattle.codestream_model.specs.Values.{Head, Place}
use Rattle.codestream_model.specs.Bytes.{IsBytes}
use Rattle.codestream_model.specs.HeadLimits.{IsStep}
use Rattle.codestream_model.specs.MainHeader.{SpellsHead}
use Rattle.codestream_model.specs.MainHeaderReading.{head_of, Refused}
use Rattle.codestream_model.specs.RefusedHeader.{RefusesHead}
use Rattle.codestream_model.specs.PacketOrder.{IsPacketOrder, packet_order}
use Rattle.codestream_model.specs.Packet.{Content}
use Rattle.codestream_model.specs.Codestream.{SpellsPackets, SpellsCodestream, BeginsCodestream, joined}
use Rattle.codestream_model.proofs.TreeLemmas.{either}
use Rattle.codestream_model.proofs.HeaderReads.{header_is_read_one_way}
use Rattle.codestream_model.proofs.HeaderJudged.{headers_are_judged}
use Rattle.codestream_model.proofs.HeaderLimits.{header_is_within_limits}
use Rattle.codestream_model.proofs.Orders.{packet_order_is_computed}
use Rattle.codestream_model.proofs.SegmentBytes.{bytes-take}
use Rattle.stream_model.specs.Report.{Precinct}
use Rattle.stream_model.specs.Decoder.{Found, Whole, Part, Other, found_packet}
use Rattle.stream_model.specs.Commands.{counted, is_end}
use Rattle.stream_model.specs.CommandLaws.{precincts_of, stamp_of, Said, AreCodestreams, LacksNext, ArePrecinctsOf, ArePrecinctsBehind, ReadsHaveWholePackets}
use Rattle.codestream_model.specs.ItemLaws.{BeginsWithPacket, BeginsWithEoc}
use Rattle.stream_model.proofs.PacketsFound.{packet_found, found_sound}
use Rattle.stream_model.proofs.ParsedPackets.{end_there, end_tested, bytes_behind}

-- bytes begin with a packet or they don't
packet_or_none : (h : Head) (p : Place) (bytes : List ℕ) (f : Found) → IsBytes bytes → found_packet h p bytes ≡ f → BeginsWithPacket h p bytes ⊎ (BeginsWithPacket h p bytes → ⊥)
packet_or_none h p bytes (Whole blocks header size) fits e = inl (found_sound h p bytes blocks header size fits e)
packet_or_none h p bytes Part fits e = inr (λ b. let c : Part ≡ Whole b.0.blocks (length b.3.header) (length b.1) = sym e ∙ (ap (found_packet h p) b.4 ∙ packet_found h p b.0 b.1 b.2 b.3) in cc)
packet_or_none h p bytes Other fits e = inr (λ b. let c : Other ≡ Whole b.0.blocks (length b.3.header) (length b.1) = sym e ∙ (ap (found_packet h p) b.4 ∙ packet_found h p b.0 b.1 b.2 b.3) in cc)

-- EOC is there or it doesn't
eoc_or_none : (h : Head) (at : ℕ) (bytes : List ℕ) → BeginsWithEoc h at bytes ⊎ (BeginsWithEoc h at bytes → ⊥)
eoc_or_none h at bytes = elim (either (is_end h at bytes)) [
  | inl t ↦ inl (end_there h at bytes t)
  | inr t ↦ inr (λ e. let c : true ≡ false = sym (ap (is_end h at) e.1.1 ∙ end_tested h at e.1.0 e.0) ∙ t in cc)
]

-- the packets of the first of these precincts, up to one that isn't there
record FirstPackets (h : Head) (places : List Place) (bytes : List ℕ) : Type 0 where
  before : List Place
  later : List Place
  content : List Content
  packets : List ℕ
  rest : List ℕ
  order : before ++ later ≡ places
  are : SpellsPackets h before content packets
  whole : bytes ≡ packets ++ rest
  lacks : (later ≡ []) ⊎ ((p : Place) × (more : List Place) × (later ≡ p ∷ more) × (BeginsWithPacket h p rest → ⊥))

-- all bytes have such packets
first_packets : (h : Head) (places : List Place) (bytes : List ℕ) → IsBytes bytes → FirstPackets h places bytes
first_packets h [] bytes fits = record { before = []; later = []; content = []; packets = []; rest = bytes; order = refl; are = refl; whole = refl; lacks = inl refl }
first_packets h (p ∷ places) bytes fits = elim (packet_or_none h p bytes (found_packet h p bytes) fits refl) [
  | inr none ↦ record { before = []; later = p ∷ places; content = []; packets = []; rest = bytes; order = refl; are = refl; whole = refl; lacks = inr (p, places, refl, none) }
  | inl b ↦
      let P : List ℕ → Type 0 = λ l. IsBytes l in
      let n = first_packets h places b.2 (bytes_behind b.1 b.2 (subst P b.4 fits)) in
      record {
        before = p ∷ n.before;
        later = n.later;
        content = b.0 ∷ n.content;
        packets = b.1 ++ n.packets;
        rest = n.rest;
        order = ap (λ (l : List Place). p ∷ l) n.order;
        are = (b.1, n.packets, b.3, n.are, refl);
        whole = b.4 ∙ (ap (λ (l : List ℕ). b.1 ++ l) n.whole ∙ sym (append_assoc b.1 n.packets n.rest));
        lacks = n.lacks;
      }
]

-- the bytes begin with a codestream
abbrev BeginsWithCodestream : List ℕ → Type 0
BeginsWithCodestream bytes = (h : Head) × (content : List Content) × (codestream : List ℕ) × (more : List ℕ) × SpellsCodestream h content codestream × (bytes ≡ codestream ++ more)

-- after a main header the packets follow, and then EOC or something else
behind_packets : (h : Head) (stamp : ℕ) (head bytes body : List ℕ) → SpellsHead h head → IsPacketOrder h (packet_order h) → bytes ≡ head ++ body → FirstPackets h (packet_order h) body
    → BeginsWithCodestream bytes ⊎ ((xs : List Precinct) × ArePrecinctsOf stamp bytes xs)
behind_packets h stamp head bytes body s order whole f =
    let at = length head + length f.packets in
    let all : bytes ≡ head ++ (f.packets ++ f.rest) = whole ∙ ap (λ (l : List ℕ). head ++ l) f.whole in
    let Q : List Place → Type 0 = λ l. IsPacketOrder h l in
    let b : BeginsCodestream h f.later at f.rest bytes = record {
      head = head;
      before = f.before;
      content = f.content;
      packets = f.packets;
      is_head = s;
      order = subst Q (sym f.order) order;
      are_packets = f.are;
      place = refl;
      whole = all;
    } in
    let stops = λ (lacks : LacksNext h f.later at f.rest). let r : (xs : List Precinct) × ArePrecinctsOf stamp bytes xs = (precincts_of h stamp f.before f.content, inr (h, f.later, at, f.rest, b, lacks, refl)) in r in
    let L : List Place → Type 0 = λ l. LacksNext h l at f.rest in
    elim f.lacks [
      | inr n ↦ inr (stops (subst L (sym n.2) n.3))
      | inl none ↦ elim (eoc_or_none h at f.rest) [
        | inr n ↦ inr (stops (subst L (sym none) n))
        | inl e ↦
            let tail = 255 ∷ 217 ∷ e.1.0 in
            let places : packet_order h ≡ f.before = sym f.order ∙ (ap (λ (l : List Place). f.before ++ l) none ∙ append-nil f.before) in
            let codestream = head ++ (f.packets ++ 255 ∷ 217 ∷ []) in
            let split : bytes ≡ codestream ++ e.1.0 =
            all ∙ (ap (λ (l : List ℕ). head ++ (f.packets ++ l)) e.1.1
            ∙ sym (append_assoc head (f.packets ++ 255 ∷ 217 ∷ []) e.1.0 ∙ ap (λ (l : List ℕ). head ++ l) (append_assoc f.packets (255 ∷ 217 ∷ []) e.1.0))) in
            inl (h, f.content, codestream, e.1.0, record { head = head; places = f.before; packets = f.packets; is_head = s; order = subst Q places order; are_packets = f.are; psot = e.0; whole = refl }, split)
      ]
    ]

-- bytes begin with a codestream, or with whole packets up to the first that isn't there
behind_head : (stamp : ℕ) (bytes : List ℕ) (r : Result Head Refused) → IsBytes bytes → head_of bytes ≡ r → BeginsWithCodestream bytes ⊎ ((xs : List Precinct) × ArePrecinctsOf stamp bytes xs)
behind_head stamp bytes (Err why) fits e = inr ([], inl (λ b. let c : Err why ≡ Ok b.0 = sym e ∙ (ap head_of b.4 ∙ header_is_read_one_way b.0 b.1 b.2 b.3) in cc, refl))
behind_head stamp bytes (Ok h) fits e =
    let s = MatchResult-at_ok (λ (g : Head). SpellsHead g (take g.length bytes)) (λ (why : Refused). RefusesHead bytes why.at why.why) h e (headers_are_judged bytes fits) in
    let limits = header_is_within_limits h (take h.length bytes) (bytes-take h.length bytes fits) s in
    let steps = All-weaker IsStep (λ step. (0 < step.x) × (0 < step.y)) (λ step is. (is.some_x, is.some_y)) h.steps limits.each_step in
    let whole = sym (take-append-drop h.length bytes) in
    let P : List ℕ → Type 0 = λ l. IsBytes l in
    let body = drop h.length bytes in
    behind_packets h stamp (take h.length bytes) bytes body s (packet_order_is_computed h steps) whole (first_packets h (packet_order h) body (bytes_behind (take h.length bytes) body (subst P whole fits)))

-- of at most n codestreams the first, and what is after them
record ReadIs (n stamp step i : ℕ) (bytes : List ℕ) : Type 0 where
  said : List Said
  codestreams : List (List ℕ)
  rest : List ℕ
  xs : List Precinct
  whole : bytes ≡ joined codestreams ++ rest
  are : AreCodestreams said codestreams
  behind : ((length codestreams ≡ n) × (xs ≡ [])) ⊎ ((length codestreams < n) × ArePrecinctsOf (stamp_of stamp step (i + length codestreams)) rest xs)

-- all bytes are so
read_is : (n stamp step i : ℕ) (bytes : List ℕ) → IsBytes bytes → ReadIs n stamp step i bytes
read_is zero stamp step i bytes fits = record { said = []; codestreams = []; rest = bytes; xs = []; whole = refl; are = tt; behind = inl (refl, refl) }
read_is (suc n) stamp step i bytes fits = elim (behind_head (stamp_of stamp step i) bytes (head_of bytes) fits refl) [
  | inr t ↦
      let here : i ≡ i + 0 = omega arith in
      let P : ℕ → Type 0 = λ k. ArePrecinctsOf (stamp_of stamp step k) bytes t.0 in
      record { said = []; codestreams = []; rest = bytes; xs = t.0; whole = refl; are = tt; behind = inr (omega arith, subst P here t.1) }
  | inl b ↦
      let F : List ℕ → Type 0 = λ l. IsBytes l in
      let r = read_is n stamp step (i + 1) b.3 (bytes_behind b.2 b.3 (subst F b.5 fits)) in
      let last : (i + 1) + length r.codestreams ≡ i + suc (length r.codestreams) = omega arith in
      let P : ℕ → Type 0 = λ k. ArePrecinctsOf (stamp_of stamp step k) r.rest r.xs in
      record {
        said = record { head = b.0; content = b.1 } ∷ r.said;
        codestreams = b.2 ∷ r.codestreams;
        rest = r.rest;
        xs = r.xs;
        whole = b.5 ∙ (ap (λ (l : List ℕ). b.2 ++ l) r.whole ∙ sym (append_assoc b.2 (joined r.codestreams) r.rest));
        are = (b.4, r.are);
        behind = elim r.behind [
          | inl t ↦ inl (ap suc t.0, t.1)
          | inr t ↦ inr (omega (arith, t.0), subst P last t.1)
        ];
      }
]

-- all bytes that may be read
pub reads_have : ReadsHaveWholePackets
reads_have stamp step read fits =
    let r = read_is 65536 stamp step 0 (counted read) (bytes-take 1099511627776 read fits) in
    let e : 0 + length r.codestreams ≡ length r.codestreams = omega arith in
    let P : ℕ → Type 0 = λ k. ArePrecinctsOf (stamp_of stamp step k) r.rest r.xs in
    let behind : ArePrecinctsBehind stamp step (length r.codestreams) r.rest r.xs = elim r.behind [ inl t ↦ inl t | inr t ↦ inr (t.0, subst P e t.1) ] in
    (r.said, r.codestreams, r.rest, r.xs, r.whole, r.are, behind)
