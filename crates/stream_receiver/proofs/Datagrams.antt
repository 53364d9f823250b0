-- What is read of a datagram is what it is.
use Rattle.std.proofs.Common.{◌≡◌, ◌≢◌, ◌<◌, ◌≤◌, ◌+◌, ◌*◌, ◌^◌, ◌==◌, ◌&&◌, ℕ, Bool, true, false, List, length, drop, nat_le, refl, sym, ◌∙◌, ap, subst, inl, inr, arith}
use Rattle.std.proofs.lemmas.Bool.{le-leb, leb-true, eq-eqb}
use Rattle.std.proofs.lemmas.Bool.Decides.{eqb_tells}
use Rattle.wire_model.specs.Bytes.{IsBytes}
use Rattle.wire_model.specs.Rtp.{RtpFields, IsRtp, version, header_length}
use Rattle.wire_model.specs.RtpReading.{is_rtp, rtp_fields, is_padding_sound}
use Rattle.wire_model.specs.Payload.{PayloadFields, Main, Body, IsPayload}
use Rattle.wire_model.specs.PayloadReading.{is_payload, payload_fields, codestream_start}
use Rattle.wire_model.specs.Datagram.{Datagram, IsDatagram, rtp_payload, is_well_formed, datagram_of}
use Rattle.wire_model.proofs.RtpLaws.{rtp_is_read_one_way}
use Rattle.wire_model.proofs.RtpFound.{rtp_reads_as_laid_out}
use Rattle.wire_model.proofs.PayloadLaws.{payload_is_read_one_way}
use Rattle.wire_model.proofs.PayloadFound.{payload_reads_as_laid_out}
use Rattle.wire_model.proofs.DatagramLaws.{datagram_is_computed, bytes-range}
use Rattle.stream_model.specs.Stream.{eseq_of, extended_number}
use Rattle.stream_model.specs.Arrivals.{is_of_kind}
use Rattle.scl_payload.specs.Heads.{fields_of, head_of, IsReadAs}
use Rattle.scl_payload.specs.declared.head.Payload.{Payload}
use Rattle.stream_receiver.specs.declared.datagram.Read.{Read}
use Rattle.std.specs.Prelude.{◌↔◌, Result, Ok, Err}
use Rattle.wire_model.specs.Payload.{IsShortOfPayload, IsPastExtension, IsPastPos}
use Rattle.scl_payload.specs.declared.head.PayloadFault.{PayloadFault}
use Rattle.scl_payload.specs.declared.head.PayloadFault.TheVariants.{Short, Extension, Pos}
use Rattle.stream_receiver.specs.Datagrams.{IsMarked, IsRead, PayloadFaults}

first_of_four : (a b c d : Bool) → (((a && b) && c) && d) ≡ true → a ≡ true
first_of_four true b c d e = refl
first_of_four false b c d e = absurd (cc)

-- an RTP datagram has twelve bytes
pub twelve : (b : List ℕ) (h : RtpFields) (header body : List ℕ) → IsRtp h header body b → 12 ≤ length b
twelve b h header body rtp = leb-true 12 (length b) (first_of_four (nat_le 12 (length b)) (version b == 2) (nat_le (header_length b) (length b)) (is_padding_sound b) (rtp_is_read_one_way h header body b rtp).0)

-- ESEQ fits
eseq_fits : (p : PayloadFields) (codestream body : List ℕ) → IsPayload p codestream body → eseq_of p < 2 ^ 8
eseq_fits (Main h) codestream body is = is.eseq_fits
eseq_fits (Body h) codestream body is = is.eseq_fits

marked_is : (p : PayloadFields) (codestream body : List ℕ) → IsPayload p codestream body → IsMarked p codestream
marked_is (Main h) codestream body is = tt
marked_is (Body h) codestream body is = is.marked

-- ORDH has no part in the extended number,
eseq_same : (p : PayloadFields) → eseq_of (fields_of (head_of p)) ≡ eseq_of p
eseq_same (Main h) = refl
eseq_same (Body h) = refl

-- nor in the mark
marked_same : (p : PayloadFields) (codestream : List ℕ) → IsMarked p codestream → IsMarked (fields_of (head_of p)) codestream
marked_same (Main h) codestream is = tt
marked_same (Body h) codestream is = is

both_true : (a b : Bool) → a ≡ true → b ≡ true → (a && b) ≡ true
both_true a b e f = rw (e, f) refl

-- what was read of all its parts
pub read_is : (kind : ℕ) (b : List ℕ) (h : RtpFields) (header body codestream : List ℕ) (d : Read) → length b ≤ 9000 → IsRtp h header body b → IsReadAs d.payload codestream body → h.kind ≡ kind
    → d.stamp ≡ h.stamp → d.source ≡ h.source → d.number ≡ eseq_of (fields_of d.payload) * 65536 + h.number → d.codestream.now ≡ codestream → length codestream ≤ 9000 → IsRead kind b d
read_is kind b h header body codestream d short rtp (p, head, payload) k stamp source number code few =
    let x : Datagram = record { rtp = h; payload = p; codestream = codestream } in
    let eseq : eseq_of (fields_of d.payload) ≡ eseq_of p = ap (λ y. eseq_of (fields_of y)) head ∙ eseq_same p in
    let twelve_bytes = twelve b h header body rtp in
    let is : IsDatagram x b = record { header = header; body = body; some = omega (arith, twelve_bytes); short = short; is_rtp = rtp; is_payload = payload } in
    let (formed, same) = datagram_is_computed rtp_is_read_one_way payload_is_read_one_way x b is in
    let kind_is : ((datagram_of b).rtp.kind == kind) ≡ true = eq-eqb (datagram_of b).rtp.kind kind (ap (λ (y : Datagram). y.rtp.kind) (sym same) ∙ k) in
    let e = eseq_fits p codestream body payload in
    record {
      is = both_true (is_well_formed b) ((datagram_of b).rtp.kind == kind) formed kind_is;
      stamp = ap (λ (y : Datagram). y.rtp.stamp) (sym same) ∙ sym stamp;
      source = ap (λ (y : Datagram). y.rtp.source) (sym same) ∙ sym source;
      number = ap extended_number (sym same) ∙ sym (number ∙ ap (λ (n : ℕ). n * 65536 + h.number) eseq);
      payload = head ∙ ap (λ (y : Datagram). head_of y.payload) same;
      codestream = ap (λ (y : Datagram). y.codestream) (sym same) ∙ sym code;
      low = (let n = rtp.fit.number in omega (arith, number, eseq, e, n));
      fits = short;
      few = (let P : List ℕ → Type 0 = λ l. length l ≤ 9000 in subst P (sym code) few);
      marked = (let P : List ℕ → Type 0 = λ l. IsMarked (fields_of d.payload) l in subst P (sym code) (let Q : Payload → Type 0 = λ y. IsMarked (fields_of y) codestream in subst Q (sym head) (marked_same p codestream (marked_is p codestream body payload))));
    }

off_kind : (a b : Bool) → b ≡ false → (a && b) ≡ false
off_kind true b e = e
off_kind false b e = refl

-- a datagram of another payload type
pub other_kind : (kind : ℕ) (b : List ℕ) (h : RtpFields) (header body : List ℕ) → IsRtp h header body b → h.kind ≢ kind → is_of_kind kind b ≡ false
other_kind kind b h header body rtp k =
    let same : h.kind ≡ (datagram_of b).rtp.kind = ap (λ (f : RtpFields). f.kind) (rtp_is_read_one_way h header body b rtp).1 in
    elim (eqb_tells (datagram_of b).rtp.kind kind) [
      | inl t ↦ absurd (k (same ∙ t.1))
      | inr t ↦ off_kind (is_well_formed b) ((datagram_of b).rtp.kind == kind) t.0
    ]

-- one whose payload has no layout
pub not_payload : (kind : ℕ) (b : List ℕ) (h : RtpFields) (header body : List ℕ) → IsRtp h header body b → ((p : PayloadFields) (codestream : List ℕ) → IsPayload p codestream body → ⊥) → IsBytes body → is_of_kind kind b ≡ false
not_payload kind b h header body rtp none bytes = go (is_payload body) refl where
  go : (t : Bool) → is_payload body ≡ t → is_of_kind kind b ≡ false
  go true e = absurd (none _ _ (payload_reads_as_laid_out body bytes e))
  go false e =
      let same : body ≡ rtp_payload b = (rtp_is_read_one_way h header body b rtp).3 in
      let t4 : is_payload (rtp_payload b) ≡ false = rw same at e in
      rw t4 (off (nat_le 1 (length b)) (nat_le (length b) 9000) (is_rtp b) ((datagram_of b).rtp.kind == kind)) where
        off : (x y z w : Bool) → ((((x && y) && z) && false) && w) ≡ false
        off true true true w = refl
        off true true false w = refl
        off true false z w = refl
        off false y z w = refl

-- why
pub payload_fault : {A : Type 0} (b : List ℕ) (r : Result A PayloadFault) (why : PayloadFault) → r ≡ Err why → (r ≡ Err Short) ↔ IsShortOfPayload b → (r ≡ Err Extension) ↔ IsPastExtension b → (r ≡ Err Pos) ↔ IsPastPos b → PayloadFaults why b
payload_fault b r Short e short extension pos = short.0 e
payload_fault b r Extension e short extension pos = extension.0 e
payload_fault b r Pos e short extension pos = pos.0 e
