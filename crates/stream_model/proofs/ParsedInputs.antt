-- What `parse` writes of whole inputs, and of inputs with a fault.
use Rattle.std.proofs.Common.{◌≡◌, ◌<◌, ◌≤◌, ◌+◌, ◌-◌, ◌*◌, ◌%◌, ◌^◌, ℕ, zero, suc, List, [], ◌∷◌, ◌++◌, length, take, min, refl, sym, ◌∙◌, ap, subst, inl, inr, arith, append_assoc}
use Rattle.std.specs.List.{AllByRecursion}
use Rattle.std.proofs.lemmas.Bool.{cases_lt}
use Rattle.std.proofs.lemmas.List.{append-nil, length-append, length-take, take_all}
use Rattle.std.proofs.Math.Nat.{mod-eq_of_lt}
use Rattle.std.proofs.Math.Seq.{take-append-add}
use Rattle.codestream_model.specs.MarkedHeader.{RefusesMarkedHeader}
use Rattle.codestream_model.specs.MarkedLaws.{BeginWithMarkedHeader}
use Rattle.codestream_model.proofs.MarkedVerdicts.{one_marked_verdict}
use Rattle.codestream_model.proofs.PacketsOneWay.{one_marked}
use Rattle.codestream_model.specs.Values.{Head, Place}
use Rattle.codestream_model.specs.Bytes.{IsBytes}
use Rattle.codestream_model.specs.HeadRefusals.{HeadRefusal, Cut as HeadCut}
use Rattle.codestream_model.specs.RefusedHeader.{RefusesHead}
use Rattle.codestream_model.specs.Precincts.{grids}
use Rattle.codestream_model.specs.Packet.{HasFewBlocks, block_count, segment_bytes, IsPacketTooLong, LacksSegments, NeedsPacketBytes}
use Rattle.codestream_model.specs.Codestream.{IsPsotRight, IsCodestream, joined, WalkRefusal, HeadRefused, Cut, TooManyBlocks, HeaderRefused, PacketTooLong, Psot, NoEoc, InputTooLong, TooManyFrames, HoldsAtPacket, HoldsAtEoc, IsOther, RefusesCodestream, NeedsCodestreamBytes, readable, RefusesRest}
use Rattle.codestream_model.proofs.HeaderJudged.{header_is_not_refused}
use Rattle.codestream_model.proofs.SegmentBytes.{bytes-take}
use Rattle.codestream_model.proofs.OwnBands.{own_bands}
use Rattle.stream_model.specs.Report.{Precinct, lines}
use Rattle.stream_model.specs.Commands.{counted, parsed}
use Rattle.stream_model.specs.CommandLaws.{precincts_of, stamp_of, Said, AreCodestreams, precincts_from, BeginsWithHead, ArePrecinctsOf, ArePrecinctsBehind, ParseWritesWholePackets, ParseWritesInputs, ParseWritesUpToFault}
use Rattle.codestream_model.specs.ItemLaws.{BeginsWithPacket, BeginsWithEoc}
use Rattle.stream_model.proofs.ParsedPackets.{bytes_behind, codestream_long, head_long, parsed_codestreams, parsed_rest}

-- codestreams are shorter in number than in bytes
pub many_bytes : (said : List Said) (codestreams : List (List ℕ)) → AreCodestreams said codestreams → 2 * length codestreams ≤ length (joined codestreams)
many_bytes [] [] a = omega arith
many_bytes [] (c ∷ codestreams) a = absurd a
many_bytes (x ∷ said) [] a = absurd a
many_bytes (x ∷ said) (c ∷ codestreams) a =
    omega (arith, codestream_long x.head x.content c a.0, many_bytes said codestreams a.1, length-append c (joined codestreams))

-- no bytes begin with no main header
empty_begins : BeginsWithHead [] → ⊥
empty_begins (h, head, more, s, e) = absurd (omega (arith, ap length e, length-append head more, head_long h head s))

-- of no bytes nothing is written
none_of_none : (stamp : ℕ) (bytes : List ℕ) (xs : List Precinct) → length bytes ≡ 0 → ArePrecinctsOf stamp bytes xs → xs ≡ []
none_of_none stamp bytes xs z (inl (none, e)) = e
none_of_none stamp bytes xs z (inr (h, later, at, rest, b, lacks, e)) =
    absurd (omega (arith, ap length b.whole, length-append b.head (b.packets ++ rest), head_long h b.head b.is_head))

-- what is parsed after whole codestreams
parsed_behind : (m stamp step n : ℕ) (rest : List ℕ) (xs : List Precinct) → IsBytes rest → ArePrecinctsBehind stamp step n rest xs → ((n ≡ 65536) → m ≡ 0) → ((n < 65536) → m ≡ 0 → length rest ≡ 0)
    → parsed m (stamp_of stamp step n) step rest ≡ xs
unfolding parsed
parsed_behind zero stamp step n rest xs fits (inl (all, none)) full last = sym none
parsed_behind (suc m) stamp step n rest xs fits (inl (all, none)) full last = let z : suc m ≡ 0 = full all in absurd (omega arith)
parsed_behind zero stamp step n rest xs fits (inr (few, are)) full last = sym (none_of_none (stamp_of stamp step n) rest xs (last few refl) are)
parsed_behind (suc m) stamp step n rest xs fits (inr (few, are)) full last = parsed_rest m (stamp_of stamp step n) step rest xs fits are

-- no more codestreams than count
few_or_all : (n : ℕ) (rest : List ℕ) (stamp step : ℕ) (xs : List Precinct) → ArePrecinctsBehind stamp step n rest xs → n ≤ 65536
few_or_all n rest stamp step xs (inl t) = omega (arith, t.0)
few_or_all n rest stamp step xs (inr t) = omega (arith, t.0)

-- the lines of whole packets
pub whole_packets : ParseWritesWholePackets
whole_packets stamp step read ended said codestreams rest xs low fits whole are behind =
    let k = length codestreams in
    let n = min 65536 (length read) in
    let m = n - k in
    let P : List ℕ → Type 0 = λ l. IsBytes l in
    let fits' : IsBytes (joined codestreams ++ rest) = subst P whole (bytes-take 1099511627776 read fits) in
    let many = many_bytes said codestreams are in
    let size : length (joined codestreams) + length rest ≡ length (counted read) = sym (ap length whole ∙ length-append (joined codestreams) rest) in
    let seen : length (counted read) ≤ length read = omega (arith, length-take 1099511627776 read) in
    let at_most = few_or_all k rest stamp step xs behind in
    let sum : n ≡ k + m = omega arith in
    let first : stamp_of stamp step 0 ≡ stamp = ap (λ (s : ℕ). s % 2 ^ 32) (let z : stamp + 0 * step ≡ stamp = omega arith in z) ∙ mod-eq_of_lt low in
    let all : parsed n stamp step (counted read) ≡ precincts_from stamp step 0 said ++ xs =
    ap (parsed n stamp step) whole
    ∙ (ap (λ (s : ℕ). parsed n s step (joined codestreams ++ rest)) (sym first)
    ∙ (ap (λ (j : ℕ). parsed j (stamp_of stamp step 0) step (joined codestreams ++ rest)) sum
    ∙ (parsed_codestreams m stamp step 0 said codestreams rest are fits'
    ∙ (ap (λ (j : ℕ). precincts_from stamp step 0 said ++ parsed m (stamp_of stamp step j) step rest) (let z : 0 + k ≡ k = omega arith in z)
    ∙ ap (λ (l : List Precinct). precincts_from stamp step 0 said ++ l)
    (parsed_behind m stamp step k rest xs (bytes_behind (joined codestreams) rest fits') behind (λ e. omega arith) (λ f z. omega arith)))))) in
    ap lines all

-- what codestreams say
they_say : (codestreams : List (List ℕ)) → AllByRecursion IsCodestream codestreams → (said : List Said) × AreCodestreams said codestreams
they_say [] a = ([], tt)
they_say (c ∷ codestreams) a =
    let r = they_say codestreams a.1 in
    (record { head = a.0.0; content = a.0.1 } ∷ r.0, (a.0.2, r.1))

-- after the last codestream nothing follows
none_follow : (stamp step n : ℕ) → n ≤ 65536 → ArePrecinctsBehind stamp step n [] []
none_follow stamp step n h = elim (cases_lt n 65536) [
  | inl t ↦ inr (t, inl (empty_begins, refl))
  | inr t ↦ inl (omega arith, refl)
]

-- of whole codestreams
pub whole_inputs : ParseWritesInputs
whole_inputs stamp step input ended said codestreams low fits is are =
    let all : counted input ≡ joined codestreams ++ [] = take_all 1099511627776 input (omega (arith, is.within)) ∙ (is.whole ∙ sym (append-nil (joined codestreams))) in
    whole_packets stamp step input ended said codestreams [] [] low fits all are (none_follow stamp step (length codestreams) is.few) ∙ ap lines (append-nil (precincts_from stamp step 0 said))

-- a refused main header isn't there
pub head_lacks : (bytes : List ℕ) (at : ℕ) (why : HeadRefusal) → RefusesHead bytes at why → BeginsWithHead bytes → ⊥
head_lacks bytes at why r (h, head, more, s, e) =
    let P : List ℕ → Type 0 = λ l. RefusesHead l at why in
    header_is_not_refused h head more at why s (subst P e r)

-- a packet begins with its header
pub packet_header : (h : Head) (p : Place) (bytes : List ℕ) → BeginsWithPacket h p bytes → BeginWithMarkedHeader (grids h p) h.eph bytes
packet_header h p bytes (x, packet, more, s, e) =
    (x.blocks, s.header, x.bytes ++ more, s.is_header, e ∙ (ap (λ (l : List ℕ). l ++ more) s.whole ∙ append_assoc s.header x.bytes more))

-- a packet that would be too long isn't there,
pub long_lacks : (h : Head) (p : Place) (bytes : List ℕ) → IsPacketTooLong h p bytes → BeginsWithPacket h p bytes → ⊥
unfolding packet_header
long_lacks h p bytes t (x, packet, more, s, e) =
    let b = packet_header h p bytes (x, packet, more, s, e) in
    let one = one_marked (grids h p) h.eph t.blocks x.blocks t.header s.header t.rest (x.bytes ++ more) (own_bands h p) t.begins.is_header s.is_header (sym t.begins.whole ∙ b.4) in
    let size : length packet ≡ length s.header + length x.bytes = ap length s.whole ∙ length-append s.header x.bytes in
    let same : segment_bytes t.blocks ≡ segment_bytes x.blocks = ap segment_bytes one.1 in
    absurd (omega (arith, t.long, s.short, s.segments, ap length one.0))

-- nor one of which bytes lack
short_lacks : (h : Head) (p : Place) (bytes : List ℕ) → LacksSegments h p bytes → BeginsWithPacket h p bytes → ⊥
unfolding packet_header
short_lacks h p bytes t (x, packet, more, s, e) =
    let b = packet_header h p bytes (x, packet, more, s, e) in
    let whole : t.header ++ t.rest ≡ s.header ++ (x.bytes ++ more) = sym t.begins.whole ∙ b.4 in
    let one = one_marked (grids h p) h.eph t.blocks x.blocks t.header s.header t.rest (x.bytes ++ more) (own_bands h p) t.begins.is_header s.is_header whole in
    let same : segment_bytes t.blocks ≡ segment_bytes x.blocks = ap segment_bytes one.1 in
    absurd (omega (arith, t.lacks, s.segments, ap length one.0, ap length whole, length-append t.header t.rest, length-append s.header (x.bytes ++ more), length-append x.bytes more))

-- so one that isn't whole isn't there
pub needs_lacks : (h : Head) (p : Place) (bytes : List ℕ) → NeedsPacketBytes h p bytes → BeginsWithPacket h p bytes → ⊥
needs_lacks h p bytes t b = elim t.unfinished [
  | inl n ↦ (one_marked_verdict (grids h p) h.eph bytes (own_bands h p)).not_unfinished (packet_header h p bytes b) n
  | inr n ↦ short_lacks h p bytes n b
]

-- the precincts before something that isn't there
abbrev PrecinctsAre : ℕ → List ℕ → Type 0
PrecinctsAre stamp bytes = (xs : List Precinct) × ArePrecinctsOf stamp bytes xs

-- before a packet,
before_packet : (stamp : ℕ) (bytes : List ℕ) (at : ℕ) (Holds : Head → Place → List ℕ → Type 0) → ((h : Head) (p : Place) (rest : List ℕ) → Holds h p rest → BeginsWithPacket h p rest → ⊥) → HoldsAtPacket bytes at Holds → PrecinctsAre stamp bytes
before_packet stamp bytes at Holds lacks (h, p, later, rest, b, holds) = (precincts_of h stamp b.before b.content, inr (h, p ∷ later, at, rest, b, lacks h p rest holds, refl))

-- and before EOC
before_eoc : (stamp : ℕ) (bytes : List ℕ) (at : ℕ) (Holds : Head → List ℕ → Type 0) → ((h : Head) (rest : List ℕ) → Holds h rest → BeginsWithEoc h at rest → ⊥) → HoldsAtEoc bytes at Holds → PrecinctsAre stamp bytes
before_eoc stamp bytes at Holds lacks (h, rest, b, holds) = (precincts_of h stamp b.before b.content, inr (h, [], at, rest, b, lacks h rest holds, refl))

-- other bytes aren't EOC
pub other_lacks : (bytes : List ℕ) → IsOther bytes → (more : List ℕ) → bytes ≡ 255 ∷ 217 ∷ more → ⊥
other_lacks bytes (a, b, rest, e, differs) more f =
    let g : a ∷ b ∷ rest ≡ 255 ∷ 217 ∷ more = sym e ∙ f in
    let p : a ≡ 255 = cc in
    let q : b ≡ 217 = cc in
    differs (p, q)

-- nor is one byte
pub few_lacks : (bytes more : List ℕ) → length bytes < 2 → bytes ≡ 255 ∷ 217 ∷ more → ⊥
few_lacks bytes more h e = absurd (omega (arith, ap length e))

-- before a refusal,
before_refusal : (stamp : ℕ) (bytes : List ℕ) (at : ℕ) (why : WalkRefusal) → RefusesCodestream bytes at why → PrecinctsAre stamp bytes
before_refusal stamp bytes at (HeadRefused why) r = ([], inl (head_lacks bytes at why r.0, refl))
before_refusal stamp bytes at TooManyBlocks r =
    before_packet stamp bytes at (λ h p rest. 65536 < block_count (grids h p)) (λ h p rest many b. let few : block_count (grids h p) ≤ 65536 = b.3.few_blocks in absurd (omega arith)) r
before_refusal stamp bytes at (HeaderRefused why) r =
    before_packet stamp bytes at (λ h p rest. HasFewBlocks h p × RefusesMarkedHeader (grids h p) h.eph rest why)
    (λ h p rest t b. (one_marked_verdict (grids h p) h.eph rest (own_bands h p)).not_refused (packet_header h p rest b) why t.1) r
before_refusal stamp bytes at PacketTooLong r = before_packet stamp bytes at (λ h p rest. IsPacketTooLong h p rest) (λ h p rest t b. long_lacks h p rest t b) r
before_refusal stamp bytes at Psot r = before_eoc stamp bytes at (λ h rest. IsPsotRight h at → ⊥) (λ h rest no e. no e.0) r
before_refusal stamp bytes at NoEoc r = before_eoc stamp bytes at (λ h rest. IsPsotRight h at × IsOther rest) (λ h rest t e. other_lacks rest t.1 e.1.0 e.1.1) r
before_refusal stamp bytes at Cut r = absurd r
before_refusal stamp bytes at InputTooLong r = absurd r
before_refusal stamp bytes at TooManyFrames r = absurd r

-- and before the end of bytes
before_end : (stamp : ℕ) (bytes : List ℕ) → NeedsCodestreamBytes bytes → PrecinctsAre stamp bytes
before_end stamp bytes (at, inl r) = ([], inl (head_lacks bytes at HeadCut r, refl))
before_end stamp bytes (at, inr (inl r)) = before_packet stamp bytes at (λ h p rest. NeedsPacketBytes h p rest) (λ h p rest t b. needs_lacks h p rest t b) r
before_end stamp bytes (at, inr (inr r)) = before_eoc stamp bytes at (λ h rest. IsPsotRight h at × (length rest < 2)) (λ h rest t e. few_lacks rest e.1.0 t.1 e.1.1) r

-- what is refused of the rest of an input
before_rest : (stamp done : ℕ) (rest : List ℕ) (at : ℕ) (why : WalkRefusal) → RefusesRest done rest at why → PrecinctsAre stamp (readable done rest)
before_rest stamp done rest at Cut r =
    let all : readable done rest ≡ rest = take_all (2 ^ 40 - done) rest (omega (arith, r.1)) in
    let P : List ℕ → Type 0 = λ l. PrecinctsAre stamp l in
    subst P (sym all) (before_end stamp rest r.0)
before_rest stamp done rest at InputTooLong r = before_end stamp (readable done rest) r.0
before_rest stamp done rest at (HeadRefused why) r = before_refusal stamp (readable done rest) r.0 (HeadRefused why) r.1
before_rest stamp done rest at TooManyBlocks r = before_refusal stamp (readable done rest) r.0 TooManyBlocks r.1
before_rest stamp done rest at (HeaderRefused why) r = before_refusal stamp (readable done rest) r.0 (HeaderRefused why) r.1
before_rest stamp done rest at PacketTooLong r = before_refusal stamp (readable done rest) r.0 PacketTooLong r.1
before_rest stamp done rest at Psot r = before_refusal stamp (readable done rest) r.0 Psot r.1
before_rest stamp done rest at NoEoc r = before_refusal stamp (readable done rest) r.0 NoEoc r.1
before_rest stamp done rest at TooManyFrames r = before_refusal stamp (readable done rest) r.0 TooManyFrames r.1

-- of an input with a fault
pub up_to_fault : ParseWritesUpToFault
up_to_fault stamp step input ended at why f low fits =
    let done = length (joined f.codestreams) in
    let rest = readable done f.rest in
    let s = they_say f.codestreams f.each in
    let room : 1099511627776 ≡ done + (2 ^ 40 - done) = omega (arith, f.within) in
    let all : counted input ≡ joined f.codestreams ++ rest =
    ap counted f.whole ∙ (ap (λ (n : ℕ). take n (joined f.codestreams ++ f.rest)) room ∙ take-append-add (joined f.codestreams) f.rest (2 ^ 40 - done)) in
    let behind : (xs : List Precinct) × ArePrecinctsBehind stamp step (length f.codestreams) rest xs = elim f.fault [
      | inl t ↦ ([], inl (t.0, refl))
      | inr t ↦ let b = before_rest (stamp_of stamp step (length f.codestreams)) done f.rest at why t.1 in (b.0, inr (t.0, b.1))
    ] in
    (s.0, rest, behind.0, s.1, all, behind.1, whole_packets stamp step input ended s.0 f.codestreams rest behind.0 low fits all s.1 behind.1)
