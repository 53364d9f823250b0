-- Datagrams: what is computed of bytes is the datagram that they are, and what thinning keeps is what serves the receiver.
use Rattle.std.proofs.Common.{◌≡◌, ◌<◌, ◌-◌, ◌&&◌, ℕ, Bool, true, List, length, take, drop, nat_le, slice_range, refl, sym, ◌∙◌, ap, inl, inr, arith}
use Rattle.std.proofs.lemmas.Bool.{le-leb, leb-true, and_from, and_parts, cases_lt}
use Rattle.std.proofs.lemmas.List.{get_or-take, get_or_past, length-take}
use Rattle.wire_model.specs.Bytes.{IsBytes}
use Rattle.wire_model.specs.Rtp.{RtpFields, header_length}
use Rattle.wire_model.specs.RtpReading.{is_rtp, rtp_fields, payload_end}
use Rattle.wire_model.specs.Payload.{PayloadFields, Main, Body}
use Rattle.wire_model.specs.PayloadReading.{is_payload, payload_fields, codestream_start}
use Rattle.wire_model.specs.Datagram.{Datagram, rtp_payload, is_well_formed, datagram_of}
use Rattle.wire_model.specs.Thinning.{IsWithin, is_within}
use Rattle.wire_model.specs.Laws.{RtpIsReadOneWay, RtpReadsAsLaidOut, PayloadIsReadOneWay, PayloadReadsAsLaidOut, DatagramIsComputed, WellFormedIsDatagram, KeptIsWithin}
use Rattle.wire_model.proofs.FramingLaws.{bytes-drop}

-- the first n of bytes are bytes
pub bytes-take : (n : ℕ) (b : List ℕ) → IsBytes b → IsBytes (take n b)
bytes-take n b fits i = elim (cases_lt i n) [
  | inl h ↦ rw (get_or-take n b i 0 h) (fits i)
  | inr h ↦ rw (get_or_past (take n b) i 0 (omega (arith, length-take n b))) (let e : 0 < 256 = omega arith in e)
]

-- a range of bytes has bytes
pub bytes-range : (b : List ℕ) (from to : ℕ) → IsBytes b → IsBytes (slice_range b from to)
bytes-range b from to fits = bytes-take (to - from) (drop from b) (bytes-drop from b fits)

-- the four tests of a well-formed datagram, joined
all_four : (p q r s : Bool) → p ≡ true → q ≡ true → r ≡ true → s ≡ true → (p && q && r && s) ≡ true
all_four p q r s a b c d = rw (a, b, c, d) refl

-- and apart
each_of_four : (p q r s : Bool) → (p && q && r && s) ≡ true → (p ≡ true) × (q ≡ true) × (r ≡ true) × (s ≡ true)
each_of_four true true true true e = (refl, refl, refl, refl)
each_of_four p q r s e = absurd (cc)

-- a datagram with these three parts is this one
same_datagram : (x : Datagram) (rtp : RtpFields) (payload : PayloadFields) (codestream : List ℕ) → x.rtp ≡ rtp → x.payload ≡ payload → x.codestream ≡ codestream → x ≡ record { rtp = rtp; payload = payload; codestream = codestream }
same_datagram x rtp payload codestream a b c = rw (← a, ← b, ← c) refl

-- bytes that are a datagram are well-formed, and are the one that is computed
pub datagram_is_computed : RtpIsReadOneWay → PayloadIsReadOneWay → DatagramIsComputed
datagram_is_computed rtp payload x b d =
    let outer = rtp x.rtp d.header d.body b d.is_rtp in
    let body_is : d.body ≡ rtp_payload b = outer.3 in
    let inner = payload x.payload x.codestream d.body d.is_payload in
    let is_inner : is_payload (rtp_payload b) ≡ true = ap is_payload (sym body_is) ∙ inner.0 in
    let payload_is : x.payload ≡ payload_fields (rtp_payload b) = inner.1 ∙ ap payload_fields body_is in
    let codestream_is : x.codestream ≡ drop (codestream_start (rtp_payload b)) (rtp_payload b) = inner.2 ∙ ap (λ (l : List ℕ). drop (codestream_start l) l) body_is in
    let rtp_is : x.rtp ≡ rtp_fields b = outer.1 in
    (all_four (nat_le 1 (length b)) (nat_le (length b) 9000) (is_rtp b) (is_payload (rtp_payload b)) (le-leb 1 (length b) d.some) (le-leb (length b) 9000 d.short) outer.0 is_inner, same_datagram x (rtp_fields b) (payload_fields (rtp_payload b)) (drop (codestream_start (rtp_payload b)) (rtp_payload b)) rtp_is payload_is codestream_is)

-- well-formed bytes are the datagram that is computed
pub well_formed_is_datagram : RtpReadsAsLaidOut → PayloadReadsAsLaidOut → WellFormedIsDatagram
well_formed_is_datagram rtp payload b fits e =
    let tests = each_of_four (nat_le 1 (length b)) (nat_le (length b) 9000) (is_rtp b) (is_payload (rtp_payload b)) e in
    record {
      header = take (header_length b) b;
      body = rtp_payload b;
      some = leb-true 1 (length b) tests.0;
      short = leb-true (length b) 9000 tests.1;
      is_rtp = rtp b fits tests.2;
      is_payload = payload (rtp_payload b) (bytes-range b (header_length b) (payload_end b) fits) tests.3;
    }

-- what is computed to serve the receiver serves it
within_if_computed : (limit : ℕ) (h : PayloadFields) → is_within limit h ≡ true → IsWithin limit h
within_if_computed limit (Main h) e = tt
within_if_computed limit (Body h) e = leb-true h.res limit e

-- and what serves it is computed so
computed_if_within : (limit : ℕ) (h : PayloadFields) → IsWithin limit h → is_within limit h ≡ true
computed_if_within limit (Main h) w = refl
computed_if_within limit (Body h) w = le-leb h.res limit w

-- what is computed to be kept is a well-formed datagram that serves the receiver, and no other is
pub kept_is_within : RtpIsReadOneWay → PayloadIsReadOneWay → RtpReadsAsLaidOut → PayloadReadsAsLaidOut → KeptIsWithin
kept_is_within rtp_one payload_one rtp_reads payload_reads limit b fits = (
  λ e.
      let parts = and_parts (is_well_formed b) (is_within limit (datagram_of b).payload) e in
      (datagram_of b, well_formed_is_datagram rtp_reads payload_reads b fits parts.0, within_if_computed limit (datagram_of b).payload parts.1),
  λ (x, d, w).
      let computed = datagram_is_computed rtp_one payload_one x b d in
      let payload_is : x.payload ≡ (datagram_of b).payload = ap (λ (y : Datagram). y.payload) computed.1 in
      and_from (is_well_formed b) (is_within limit (datagram_of b).payload) computed.0 (ap (λ (h : PayloadFields). is_within limit h) (sym payload_is) ∙ computed_if_within limit x.payload w),
)
