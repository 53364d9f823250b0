-- What `parse` writes: the lines of whole packets, up to the first that isn't there.
use Rattle.std.proofs.Common.{◌≡◌, ◌≢◌, ◌<◌, ◌≤◌, ◌+◌, ◌-◌, ◌*◌, ◌/◌, ◌%◌, ◌^◌, ◌==◌, ◌&&◌, ◌||◌, ℕ, suc, Bool, true, false, List, [], ◌∷◌, ◌++◌, length, take, drop, nat_le, slice_index, Result, Ok, Err, refl, sym, ◌∙◌, ap, subst, inl, inr, arith, append_assoc, if◌then◌else◌}
use Rattle.std.proofs.lemmas.Bool.{and_parts, le-leb, leb-true}
use Rattle.std.proofs.lemmas.Bool.Decides.{eqb_tells}
use Rattle.std.proofs.lemmas.List.{append-nil, length-append, take-append-drop, drop_at}
use Rattle.std.proofs.lemmas.Result.{MatchResult-at_ok}
use Rattle.std.proofs.Math.Nat.{div-add-mod, add-mul-mod_self_left}
use Rattle.std.proofs.lemmas.List.Elements.{All-weaker}
use Rattle.codestream_model.specs.Values.{Head, Place, Block}
use Rattle.codestream_model.specs.Bytes.{IsBytes}
use Rattle.codestream_model.specs.HeadLimits.{IsStep}
use Rattle.codestream_model.specs.MainHeader.{SpellsHead}
use Rattle.codestream_model.specs.MainHeaderReading.{head_of, Refused}
use Rattle.codestream_model.specs.RefusedHeader.{RefusesHead}
use Rattle.codestream_model.specs.PacketOrder.{pid, IsPacketOrder, packet_order}
use Rattle.codestream_model.specs.Packet.{Content, SpellsPacket}
use Rattle.codestream_model.specs.Codestream.{SpellsPackets, SpellsCodestream, IsPsotRight, BeginsCodestream, joined}
use Rattle.codestream_model.proofs.TreeLemmas.{either, equal_number}
use Rattle.codestream_model.proofs.HeaderReads.{header_is_read_one_way}
use Rattle.codestream_model.proofs.HeaderJudged.{headers_are_judged}
use Rattle.codestream_model.proofs.HeaderLimits.{header_is_within_limits}
use Rattle.codestream_model.proofs.Orders.{packet_order_is_computed, packet_order_is_one}
use Rattle.codestream_model.proofs.BytesLemmas.{bytes_front}
use Rattle.stream_model.specs.Report.{Precinct}
use Rattle.stream_model.specs.Decoder.{Found, Whole, Part, Other, found_packet}
use Rattle.stream_model.specs.Commands.{Walked, stopped, is_end, with_precinct, walk, walk_behind, parsed}
use Rattle.stream_model.specs.CommandLaws.{precincts_of, stamp_of, Said, AreCodestreams, precincts_from, BeginsWithHead, LacksNext, ArePrecinctsOf}
use Rattle.codestream_model.specs.ItemLaws.{BeginsWithEoc}
use Rattle.stream_model.proofs.PacketsFound.{packet_found, segments_taken, found_sound}

-- a walk that has found these precincts before
abbrev pub found_before : List Precinct → Walked → Walked
found_before xs w = record w { precincts = xs ++ w.precincts }

-- a whole packet is passed
walk_whole : (h : Head) (stamp at : ℕ) (p : Place) (places : List Place) (bytes : List ℕ) (blocks : List Block) (header size : ℕ) → found_packet h p bytes ≡ Whole blocks header size
    → walk h stamp at (p ∷ places) bytes ≡ with_precinct (record { stamp = stamp; pid = pid h p; place = p; blocks = blocks; bytes = take (size - header) (drop header bytes) }) (walk h stamp (at + size) places (drop size bytes))
unfolding walk
walk_whole h stamp at p places bytes blocks header size e = rw (e, walk) refl

-- and the walk stops where there is none
walk_none : (h : Head) (stamp at : ℕ) (p : Place) (places : List Place) (bytes : List ℕ) (f : Found) → found_packet h p bytes ≡ f → ((blocks : List Block) (header size : ℕ) → f ≢ Whole blocks header size)
    → walk h stamp at (p ∷ places) bytes ≡ stopped bytes
unfolding walk
walk_none h stamp at p places bytes (Whole blocks header size) e n = absurd (n blocks header size refl)
walk_none h stamp at p places bytes Part e n = rw (e, walk) refl
walk_none h stamp at p places bytes Other e n = rw (e, walk) refl

-- one packet
walk_packet : (h : Head) (stamp at : ℕ) (p : Place) (places : List Place) (x : Content) (packet rest : List ℕ) → SpellsPacket h p x packet
    → walk h stamp at (p ∷ places) (packet ++ rest)
    ≡ with_precinct (record { stamp = stamp; pid = pid h p; place = p; blocks = x.blocks; bytes = x.bytes }) (walk h stamp (at + length packet) places rest)
walk_packet h stamp at p places x packet rest s =
    let t = segments_taken h p x packet rest s in
    walk_whole h stamp at p places (packet ++ rest) x.blocks (length s.header) (length packet) (packet_found h p x packet rest s)
    ∙ (ap (λ (l : List ℕ). with_precinct (record { stamp = stamp; pid = pid h p; place = p; blocks = x.blocks; bytes = l }) (walk h stamp (at + length packet) places (drop (length packet) (packet ++ rest)))) t.0
    ∙ ap (λ (l : List ℕ). with_precinct (record { stamp = stamp; pid = pid h p; place = p; blocks = x.blocks; bytes = x.bytes }) (walk h stamp (at + length packet) places l)) t.1)

-- packets, one after another
walk_packets : (h : Head) (stamp at : ℕ) (places later : List Place) (content : List Content) (packets rest : List ℕ) → SpellsPackets h places content packets
    → walk h stamp at (places ++ later) (packets ++ rest) ≡ found_before (precincts_of h stamp places content) (walk h stamp (at + length packets) later rest)
walk_packets h stamp at [] later [] packets rest s =
    let e : at ≡ at + length packets = omega (arith, ap length s) in
    ap (λ (l : List ℕ). walk h stamp at later (l ++ rest)) s ∙ ap (λ (n : ℕ). walk h stamp n later rest) e
walk_packets h stamp at [] later (x ∷ content) packets rest s = absurd s
walk_packets h stamp at (p ∷ places) later [] packets rest s = absurd s
walk_packets h stamp at (p ∷ places) later (x ∷ content) packets rest (front, back, first, more, e) =
    let precinct : Precinct = record { stamp = stamp; pid = pid h p; place = p; blocks = x.blocks; bytes = x.bytes } in
    let split : packets ++ rest ≡ front ++ (back ++ rest) = ap (λ (l : List ℕ). l ++ rest) e ∙ append_assoc front back rest in
    let size : (at + length front) + length back ≡ at + length packets = omega (arith, ap length e, length-append front back) in
    ap (walk h stamp at (p ∷ (places ++ later))) split
    ∙ (walk_packet h stamp at p (places ++ later) x front (back ++ rest) first
    ∙ (ap (with_precinct precinct) (walk_packets h stamp (at + length front) places later content back rest more)
    ∙ ap (λ (n : ℕ). found_before (precinct ∷ precincts_of h stamp places content) (walk h stamp n later rest)) size))

-- bytes of which the first two are these
pub first_two : (bytes : List ℕ) (a b : ℕ) → 2 ≤ length bytes → slice_index bytes 0 ≡ a → slice_index bytes 1 ≡ b → (more : List ℕ) × (bytes ≡ a ∷ b ∷ more)
first_two [] a b h e f = absurd (omega arith)
first_two (x ∷ []) a b h e f = absurd (omega arith)
first_two (x ∷ y ∷ more) a b h e f =
    let p : x ≡ a = e in
    let q : y ≡ b = f in
    (more, rw (p, q) refl)

-- a test that holds
any_true : (b : Bool) → (b || true) ≡ true
any_true true = refl
any_true false = refl

-- Psot is right where its test says so,
psot_right : (h : Head) (at : ℕ) → ((h.psot == 0) || (h.psot == at - h.sot)) ≡ true → IsPsotRight h at
psot_right h at e = elim (eqb_tells h.psot 0) [
  | inl t ↦ inl t.1
  | inr t ↦ elim (eqb_tells h.psot (at - h.sot)) [
    | inl u ↦ inr u.1
    | inr u ↦ let c : false ≡ true = rw (t.0, u.0) at e in absurd (cc)
  ]
]

-- and the test holds where it is right
pub right_psot : (h : Head) (at : ℕ) → IsPsotRight h at → ((h.psot == 0) || (h.psot == at - h.sot)) ≡ true
right_psot h at (inl e) = elim (eqb_tells h.psot 0) [ inl t ↦ rw t.0 refl | inr t ↦ absurd (t.1 e) ]
right_psot h at (inr e) = elim (eqb_tells h.psot (at - h.sot)) [ inl t ↦ rw t.0 (any_true (h.psot == 0)) | inr t ↦ absurd (t.1 e) ]

-- EOC is there where the test says so,
pub end_there : (h : Head) (at : ℕ) (bytes : List ℕ) → is_end h at bytes ≡ true → BeginsWithEoc h at bytes
end_there h at bytes e =
    let psot = (h.psot == 0) || (h.psot == at - h.sot) in
    let long = nat_le 2 (length bytes) in
    let ff = slice_index bytes 0 == 255 in
    let d9 = slice_index bytes 1 == 217 in
    let p = and_parts ((psot && long) && ff) d9 e in
    let q = and_parts (psot && long) ff p.0 in
    let r = and_parts psot long q.0 in
    (psot_right h at r.0, first_two bytes 255 217 (leb-true 2 (length bytes) r.1) (equal_number (slice_index bytes 0) 255 q.1) (equal_number (slice_index bytes 1) 217 p.1))

-- and the test says so where it is
pub end_tested : (h : Head) (at : ℕ) (more : List ℕ) → IsPsotRight h at → is_end h at (255 ∷ 217 ∷ more) ≡ true
end_tested h at more e =
    let long : nat_le 2 (length (255 ∷ 217 ∷ more)) ≡ true = le-leb 2 (length (255 ∷ 217 ∷ more)) (omega arith) in
    rw (right_psot h at e, long) refl

-- the walk of a codestream ends with it
walk_end : (h : Head) (stamp at : ℕ) (more : List ℕ) → IsPsotRight h at → walk h stamp at [] (255 ∷ 217 ∷ more) ≡ record { precincts = []; whole = true; rest = more }
unfolding walk
walk_end h stamp at more e = ap (λ (b : Bool). if b then record { precincts = []; whole = true; rest = drop 2 (255 ∷ 217 ∷ more) } else stopped (255 ∷ 217 ∷ more)) (end_tested h at more e)

-- where what should follow isn't there the walk stops
walk_lacks : (h : Head) (stamp at : ℕ) (later : List Place) (rest : List ℕ) → IsBytes rest → LacksNext h later at rest → walk h stamp at later rest ≡ stopped rest
unfolding walk
walk_lacks h stamp at [] rest fits lacks = elim (either (is_end h at rest)) [
  | inl t ↦ absurd (lacks (end_there h at rest t))
  | inr t ↦ ap (λ (b : Bool). if b then record { precincts = []; whole = true; rest = drop 2 rest } else stopped rest) t
]
walk_lacks h stamp at (p ∷ later) rest fits lacks =
    walk_none h stamp at p later rest (found_packet h p rest) refl (λ blocks header size e. lacks (found_sound h p rest blocks header size fits e))

-- the packet order of a main header
pub order_is : (h : Head) (head : List ℕ) (places : List Place) → SpellsHead h head → IsBytes head → IsPacketOrder h places → packet_order h ≡ places
order_is h head places s fits order =
    let limits = header_is_within_limits h head fits s in
    let steps = All-weaker IsStep (λ step. (0 < step.x) × (0 < step.y)) (λ step is. (is.some_x, is.some_y)) h.steps limits.each_step in
    packet_order_is_one h (packet_order h) places (packet_order_is_computed h steps) order

-- a walk after a main header, and packets
pub walk_begun : (h : Head) (stamp at : ℕ) (later : List Place) (rest bytes : List ℕ) (b : BeginsCodestream h later at rest bytes) → IsBytes bytes
    → walk_behind (head_of bytes) stamp bytes ≡ found_before (precincts_of h stamp b.before b.content) (walk h stamp at later rest)
walk_begun h stamp at later rest bytes b fits =
    let read : head_of bytes ≡ Ok h = ap head_of b.whole ∙ header_is_read_one_way h b.head (b.packets ++ rest) b.is_head in
    let size : h.length ≡ length b.head = ap (λ (x : Head). x.length) b.is_head.values in
    let P : List ℕ → Type 0 = λ l. IsBytes l in
    let order = order_is h b.head (b.before ++ later) b.is_head (bytes_front b.head (b.packets ++ rest) (subst P b.whole fits)) b.order in
    let behind : drop h.length bytes ≡ b.packets ++ rest = ap (drop h.length) b.whole ∙ drop_at b.head (b.packets ++ rest) h.length (sym size) in
    let place : h.length + length b.packets ≡ at = omega (arith, size, b.place) in
    ap (λ (r : Result Head Refused). walk_behind r stamp bytes) read
    ∙ (ap (λ (ps : List Place). walk h stamp h.length ps (drop h.length bytes)) order
    ∙ (ap (walk h stamp h.length (b.before ++ later)) behind
    ∙ (walk_packets h stamp h.length b.before later b.content b.packets rest b.are_packets
    ∙ ap (λ (n : ℕ). found_before (precincts_of h stamp b.before b.content) (walk h stamp n later rest)) place)))

-- a whole codestream, whatever follows it
walk_codestream : (h : Head) (stamp : ℕ) (content : List Content) (codestream more : List ℕ) → SpellsCodestream h content codestream → IsBytes (codestream ++ more)
    → walk_behind (head_of (codestream ++ more)) stamp (codestream ++ more) ≡ record { precincts = precincts_of h stamp (packet_order h) content; whole = true; rest = more }
walk_codestream h stamp content codestream more s fits =
    let at = length s.head + length s.packets in
    let tail = 255 ∷ 217 ∷ more in
    let whole : codestream ++ more ≡ s.head ++ (s.packets ++ tail) =
    ap (λ (l : List ℕ). l ++ more) s.whole ∙ (append_assoc s.head (s.packets ++ 255 ∷ 217 ∷ []) more ∙ ap (λ (l : List ℕ). s.head ++ l) (append_assoc s.packets (255 ∷ 217 ∷ []) more)) in
    let Q : List Place → Type 0 = λ l. IsPacketOrder h l in
    let b : BeginsCodestream h [] at tail (codestream ++ more) = record {
      head = s.head;
      before = s.places;
      content = content;
      packets = s.packets;
      is_head = s.is_head;
      order = subst Q (sym (append-nil s.places)) s.order;
      are_packets = s.are_packets;
      place = refl;
      whole = whole;
    } in
    let P : List ℕ → Type 0 = λ l. IsBytes l in
    let order = order_is h s.head s.places s.is_head (bytes_front s.head (s.packets ++ tail) (subst P whole fits)) s.order in
    walk_begun h stamp at [] tail (codestream ++ more) b fits
    ∙ (ap (found_before (precincts_of h stamp s.places content)) (walk_end h stamp at more s.psot)
    ∙ (ap (λ (l : List Precinct). record { precincts = l; whole = true; rest = more }) (append-nil (precincts_of h stamp s.places content))
    ∙ ap (λ (ps : List Place). record { precincts = precincts_of h stamp ps content; whole = true; rest = more }) (sym order)))

-- what is parsed of some bytes
parsed_some : (n stamp step : ℕ) (bytes : List ℕ) → 1 ≤ length bytes
    → parsed (suc n) stamp step bytes
    ≡ (walk_behind (head_of bytes) stamp bytes).precincts
    ++ (if (walk_behind (head_of bytes) stamp bytes).whole then parsed n ((stamp + step) % 2 ^ 32) step (walk_behind (head_of bytes) stamp bytes).rest else [])
unfolding parsed
parsed_some n stamp step [] some = absurd (omega arith)
parsed_some n stamp step (b ∷ bytes) some = refl

-- what is parsed where the walk is this
pub parsed_by : (n stamp step : ℕ) (bytes : List ℕ) (w : Walked) → 1 ≤ length bytes → walk_behind (head_of bytes) stamp bytes ≡ w
    → parsed (suc n) stamp step bytes ≡ w.precincts ++ (if w.whole then parsed n ((stamp + step) % 2 ^ 32) step w.rest else [])
parsed_by n stamp step bytes w some e =
    parsed_some n stamp step bytes some ∙ ap (λ (x : Walked). x.precincts ++ (if x.whole then parsed n ((stamp + step) % 2 ^ 32) step x.rest else [])) e

-- the stamp of the next codestream
mod_then : (a b m : ℕ) → (a % m + b) % m ≡ (a + b) % m
mod_then a b m =
    let whole : m * (a / m) + a % m ≡ a = div-add-mod a m in
    let e : a + b ≡ (a % m + b) + m * (a / m) = omega arith in
    sym (ap (λ (n : ℕ). n % m) e ∙ add-mul-mod_self_left (a % m + b) m (a / m))

-- is the stamp of the next place
pub next_stamp : (stamp step i : ℕ) → (stamp_of stamp step i + step) % 2 ^ 32 ≡ stamp_of stamp step (i + 1)
next_stamp stamp step i =
    let e : (stamp + i * step) + step ≡ stamp + (i + 1) * step = grind arith in
    mod_then (stamp + i * step) step (2 ^ 32) ∙ ap (λ (n : ℕ). n % 2 ^ 32) e

-- a codestream has bytes
pub codestream_long : (h : Head) (content : List Content) (codestream : List ℕ) → SpellsCodestream h content codestream → 2 ≤ length codestream
codestream_long h content codestream s =
    omega (arith, ap length s.whole, length-append s.head (s.packets ++ 255 ∷ 217 ∷ []), length-append s.packets (255 ∷ 217 ∷ []))

-- bytes after others are bytes
pub bytes_behind : (xs ys : List ℕ) → IsBytes (xs ++ ys) → IsBytes ys
bytes_behind [] ys t = t
bytes_behind (x ∷ xs) ys t = bytes_behind xs ys (λ i. t (suc i))

-- whole codestreams are parsed, and then what follows them
pub parsed_codestreams : (n stamp step i : ℕ) (said : List Said) (codestreams : List (List ℕ)) (rest : List ℕ) → AreCodestreams said codestreams → IsBytes (joined codestreams ++ rest)
    → parsed (length codestreams + n) (stamp_of stamp step i) step (joined codestreams ++ rest)
    ≡ precincts_from stamp step i said ++ parsed n (stamp_of stamp step (i + length codestreams)) step rest
parsed_codestreams n stamp step i [] [] rest a fits =
    let e : 0 + n ≡ n = omega arith in
    let f : i ≡ i + 0 = omega arith in
    ap (λ (k : ℕ). parsed k (stamp_of stamp step i) step rest) e ∙ ap (λ (k : ℕ). parsed n (stamp_of stamp step k) step rest) f
parsed_codestreams n stamp step i [] (c ∷ codestreams) rest a fits = absurd a
parsed_codestreams n stamp step i (x ∷ said) [] rest a fits = absurd a
parsed_codestreams n stamp step i (x ∷ said) (c ∷ codestreams) rest a fits =
    let more = joined codestreams ++ rest in
    let split : joined (c ∷ codestreams) ++ rest ≡ c ++ more = append_assoc c (joined codestreams) rest in
    let P : List ℕ → Type 0 = λ l. IsBytes l in
    let fits' = subst P split fits in
    let some : 1 ≤ length (c ++ more) = omega (arith, length-append c more, codestream_long x.head x.content c a.0) in
    let here = precincts_of x.head (stamp_of stamp step i) (packet_order x.head) x.content in
    let k : suc (length codestreams) + n ≡ suc (length codestreams + n) = omega arith in
    let last : (i + 1) + length codestreams ≡ i + suc (length codestreams) = omega arith in
    ap (λ (m : ℕ). parsed m (stamp_of stamp step i) step (joined (c ∷ codestreams) ++ rest)) k
    ∙ (ap (parsed (suc (length codestreams + n)) (stamp_of stamp step i) step) split
    ∙ (parsed_by (length codestreams + n) (stamp_of stamp step i) step (c ++ more) (record { precincts = here; whole = true; rest = more }) some (walk_codestream x.head (stamp_of stamp step i) x.content c more a.0 fits')
    ∙ (ap (λ (s : ℕ). here ++ parsed (length codestreams + n) s step more) (next_stamp stamp step i)
    ∙ (ap (λ (l : List Precinct). here ++ l) (parsed_codestreams n stamp step (i + 1) said codestreams rest a.1 (bytes_behind c more fits'))
    ∙ (ap (λ (m : ℕ). here ++ (precincts_from stamp step (i + 1) said ++ parsed n (stamp_of stamp step m) step rest)) last
    ∙ sym (append_assoc here (precincts_from stamp step (i + 1) said) (parsed n (stamp_of stamp step (i + suc (length codestreams))) step rest)))))))

-- a main header has bytes
pub head_long : (h : Head) (head : List ℕ) → SpellsHead h head → 1 ≤ length head
head_long h head s = omega (arith, ap length s.whole)

-- what is refused as a main header gives nothing
none_behind : (stamp : ℕ) (bytes : List ℕ) (r : Result Head Refused) → IsBytes bytes → head_of bytes ≡ r → (BeginsWithHead bytes → ⊥) → walk_behind r stamp bytes ≡ stopped bytes
none_behind stamp bytes (Err why) fits e none = refl
none_behind stamp bytes (Ok h) fits e none =
    let s = MatchResult-at_ok (λ (g : Head). SpellsHead g (take g.length bytes)) (λ (why : Refused). RefusesHead bytes why.at why.why) h e (headers_are_judged bytes fits) in
    absurd (none (h, take h.length bytes, drop h.length bytes, s, sym (take-append-drop h.length bytes)))

-- what follows no whole codestream any more
pub parsed_rest : (n stamp step : ℕ) (bytes : List ℕ) (xs : List Precinct) → IsBytes bytes → ArePrecinctsOf stamp bytes xs → parsed (suc n) stamp step bytes ≡ xs
unfolding parsed
parsed_rest n stamp step [] xs fits (inl (none, e)) = sym e
parsed_rest n stamp step [] xs fits (inr (h, later, at, rest, b, lacks, e)) =
    absurd (omega (arith, ap length b.whole, length-append b.head (b.packets ++ rest), head_long h b.head b.is_head))
parsed_rest n stamp step (c ∷ bytes) xs fits (inl (none, e)) =
    parsed_by n stamp step (c ∷ bytes) (stopped (c ∷ bytes)) (omega arith) (none_behind stamp (c ∷ bytes) (head_of (c ∷ bytes)) fits refl none) ∙ sym e
parsed_rest n stamp step (c ∷ bytes) xs fits (inr (h, later, at, rest, b, lacks, e)) =
    let all = precincts_of h stamp b.before b.content in
    let P : List ℕ → Type 0 = λ l. IsBytes l in
    let fits' = bytes_behind b.packets rest (bytes_behind b.head (b.packets ++ rest) (subst P b.whole fits)) in
    let w : walk_behind (head_of (c ∷ bytes)) stamp (c ∷ bytes) ≡ found_before all (stopped rest) = walk_begun h stamp at later rest (c ∷ bytes) b fits ∙ ap (found_before all) (walk_lacks h stamp at later rest fits' lacks) in
    parsed_by n stamp step (c ∷ bytes) (found_before all (stopped rest)) (omega arith) w ∙ (append-nil (all ++ []) ∙ (append-nil all ∙ sym e))
