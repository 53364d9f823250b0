-- Each byte of the code-blocks of a reading is a byte of one of the frames.
use Rattle.std.proofs.Common.{◌≡◌, ◌+◌, ◌*◌, ◌/◌, ◌%◌, ◌++◌, ℕ, List, [], ◌∷◌, sym, subst, arith, ⊎_elim}
use Rattle.std.specs.Prelude.{Contains}
use Rattle.std.specs.List.{AllByRecursion, flat_map}
use Rattle.std.proofs.lemmas.List.Elements.{Contains-append_left, Contains-append_right, Contains-append_cases}
use Rattle.codestream_model.specs.Values.{Head, Place}
use Rattle.codestream_model.specs.Packet.{Content, SpellsPacket}
use Rattle.codestream_model.specs.Codestream.{SpellsPackets}
use Rattle.wire_model.specs.Bytes.{bit}
use Rattle.wire_model.specs.Payload.{PayloadFields, Main, Body, IsPayload}
use Rattle.wire_model.specs.Datagram.{Datagram, IsDatagram}
use Rattle.stream_model.specs.Reading.{IsAmong, IsReading}

-- a byte among others is one of more
within : (xs ys : List ℕ) (b : ℕ) → ys ≡ xs → Contains xs b → Contains ys b
within xs ys b e has = let P : List ℕ → Type 0 = λ l. Contains l b in subst P (sym e) has

-- a byte that a packet says is one of it
in_packet : (h : Head) (p : Place) (x : Content) (packet : List ℕ) (b : ℕ) → SpellsPacket h p x packet → Contains x.bytes b → Contains packet b
in_packet h p x packet b s has = within (s.header ++ x.bytes) packet b s.whole (Contains-append_right s.header x.bytes b has)

-- and of these packets, where it is the last of them
in_packets : (h : Head) (places : List Place) (p : Place) (said : List Content) (x : Content) (packets : List ℕ) (b : ℕ) → SpellsPackets h (places ++ p ∷ []) (said ++ x ∷ []) packets → Contains x.bytes b → Contains packets b
in_packets h [] p [] x packets b (front, back, s, rest, e) has = within (front ++ back) packets b e (Contains-append_left front back b (in_packet h p x front b s has))
in_packets h [] p (y ∷ []) x packets b (front, back, s, rest, e) has = absurd rest
in_packets h [] p (y ∷ z ∷ said) x packets b (front, back, s, rest, e) has = absurd rest
in_packets h (q ∷ []) p [] x packets b (front, back, s, rest, e) has = absurd rest
in_packets h (q ∷ r ∷ places) p [] x packets b (front, back, s, rest, e) has = absurd rest
in_packets h (q ∷ places) p (y ∷ said) x packets b (front, back, s, rest, e) has = within (front ++ back) packets b e (Contains-append_right front back b (in_packets h places p said x back b rest has))

-- a byte of a payload's codestream bytes is one of it
in_payload : (h : PayloadFields) (codestream payload : List ℕ) (b : ℕ) → IsPayload h codestream payload → Contains codestream b → Contains payload b
in_payload (Main h) codestream payload b is has =
    let fixed : List ℕ = (is.mh * 64 + is.tp * 8 + h.ordh) ∷ (is.p * 128 + h.xtrac * 16 + is.ptstamp / 256) ∷ (is.ptstamp % 256) ∷ h.eseq ∷ [] in
    within (fixed ++ (is.colour ++ (is.extra ++ codestream))) payload b is.whole
    (Contains-append_right fixed (is.colour ++ (is.extra ++ codestream)) b (Contains-append_right is.colour (is.extra ++ codestream) b (Contains-append_right is.extra codestream b has)))
in_payload (Body h) codestream payload b is has =
    let fixed : List ℕ = (is.tp * 8 + h.res) ∷ (bit h.ordb * 128 + is.qual * 16 + is.ptstamp / 256) ∷ (is.ptstamp % 256) ∷ h.eseq ∷ (h.pos / 16) ∷ (h.pos % 16 * 16 + h.pid / 65536) ∷ (h.pid / 256 % 256) ∷ (h.pid % 256) ∷ [] in
    within (fixed ++ codestream) payload b is.whole (Contains-append_right fixed codestream b has)

in_datagram : (x : Datagram) (bytes : List ℕ) (b : ℕ) → IsDatagram x bytes → Contains x.codestream b → Contains bytes b
in_datagram x bytes b is has =
    let r = is.is_rtp in
    let inside = in_payload x.payload x.codestream is.body b is.is_payload has in
    within (is.header ++ (is.body ++ r.padding)) bytes b r.whole (Contains-append_right is.header (is.body ++ r.padding) b (Contains-append_left is.body r.padding b inside))

-- a byte of a frame
abbrev pub IsByteOf : List (List ℕ) → ℕ → Type 0
IsByteOf frames b = (f : List ℕ) × Contains frames f × Contains f b

-- a byte of the joined codestream bytes of datagrams that came
in_joined : (frames : List (List ℕ)) (xs : List Datagram) (b : ℕ) → AllByRecursion (IsAmong frames) xs → Contains (flat_map (λ x. x.codestream) xs) b → IsByteOf frames b
in_joined frames [] b came (i, lt, e) = absurd (omega (arith, lt))
in_joined frames (x ∷ xs) b (among, came) has =
    ⊎_elim (λ here. (among.0, among.1, in_datagram x among.0 b among.2 here)) (λ later. in_joined frames xs b came later)
    (Contains-append_cases x.codestream (flat_map (λ (y : Datagram). y.codestream) xs) b has)

-- of what a reading says
pub said_bytes_came : (frames : List (List ℕ)) (stamp : ℕ) (p : Place) (x : Content) (b : ℕ) → IsReading frames stamp p x → Contains x.bytes b → IsByteOf frames b
said_bytes_came frames stamp p x b r has =
    let inside = in_packets r.head r.places p r.said x r.packets b r.are_packets has in
    let all = Contains-append_right r.skipped (r.packets ++ r.rest) b (Contains-append_left r.packets r.rest b inside) in
    in_joined frames (r.first ∷ r.others) b r.each_came (within (r.skipped ++ (r.packets ++ r.rest)) (flat_map (λ (y : Datagram). y.codestream) (r.first ∷ r.others)) b r.joined all)
