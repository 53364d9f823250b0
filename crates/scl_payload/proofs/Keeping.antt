-- A datagram that is read is kept by what was read.
use Rattle.std.proofs.Common.{◌≡◌, ◌≤◌, ℕ, Bool, true, false, ◌&&◌, List, length, refl, ap, ◌∙◌, arith, nat_le}
use Rattle.std.proofs.lemmas.Bool.Decides.{nat_tests}
use Rattle.scl_payload.specs.Heads.{fields_of, head_of, IsReadAs}
use Rattle.scl_payload.specs.declared.head.Payload.{Payload}
use Rattle.wire_model.specs.Bytes.{IsBytes}
use Rattle.wire_model.specs.Rtp.{RtpFields, IsRtp}
use Rattle.wire_model.specs.RtpReading.{is_rtp}
use Rattle.wire_model.specs.Payload.{PayloadFields, Main as MainValues, Body as BodyValues, IsPayload}
use Rattle.wire_model.specs.PayloadReading.{is_payload, payload_fields}
use Rattle.wire_model.specs.Datagram.{rtp_payload}
use Rattle.wire_model.specs.Thinning.{is_kept, is_within}
use Rattle.wire_model.proofs.RtpLaws.{rtp_is_read_one_way}
use Rattle.wire_model.proofs.RtpFound.{rtp_reads_as_laid_out}
use Rattle.wire_model.proofs.PayloadLaws.{payload_is_read_one_way}
use Rattle.wire_model.proofs.PayloadFound.{payload_reads_as_laid_out}

-- ORDH has no part in it
within_same : (limit : ℕ) (p : PayloadFields) → is_within limit (fields_of (head_of p)) ≡ is_within limit p
within_same limit (MainValues h) = refl
within_same limit (BodyValues h) = refl

-- a datagram with all its parts is kept by its payload's values
pub kept_by : (limit : ℕ) (b : List ℕ) (h : RtpFields) (header body : List ℕ) (r : Payload) (codestream : List ℕ) → 1 ≤ length b → length b ≤ 9000
    → IsRtp h header body b → IsReadAs r codestream body → is_within limit (fields_of r) ≡ is_kept limit b
kept_by limit b h header body head codestream some short rtp (p, is, payload) =
    let r = rtp_is_read_one_way h header body b rtp in
    let q = payload_is_read_one_way p codestream body payload in
    let t1 : nat_le 1 (length b) ≡ true = grind (arith, nat_tests) in
    let t2 : nat_le (length b) 9000 ≡ true = grind (arith, nat_tests) in
    let same : body ≡ rtp_payload b = r.3 in
    let t4 : is_payload (rtp_payload b) ≡ true = rw same at q.0 in
    let fields : p ≡ payload_fields (rtp_payload b) = rw same at q.1 in
    let kept : is_within limit p ≡ is_kept limit b = rw (t1, t2, r.0, t4) (ap (λ (x : PayloadFields). is_within limit x) fields) in
    ap (λ (x : Payload). is_within limit (fields_of x)) is ∙ (within_same limit p ∙ kept)

-- one without RTP's layout isn't
pub not_rtp : (limit : ℕ) (b : List ℕ) → ((h : RtpFields) (header payload : List ℕ) → IsRtp h header payload b → ⊥) → IsBytes b → false ≡ is_kept limit b
not_rtp limit b none bytes = go (is_rtp b) refl where
  go : (t : Bool) → is_rtp b ≡ t → false ≡ is_kept limit b
  go true e = absurd (none _ _ _ (rtp_reads_as_laid_out b bytes e))
  go false e = rw e (off (nat_le 1 (length b)) (nat_le (length b) 9000) (is_payload (rtp_payload b)) (is_within limit (payload_fields (rtp_payload b)))) where
    off : (x y z w : Bool) → false ≡ ((((x && y) && false) && z) && w)
    off true true z w = refl
    off true false z w = refl
    off false y z w = refl

-- nor is one whose payload has no layout
pub not_payload : (limit : ℕ) (b : List ℕ) (h : RtpFields) (header body : List ℕ) → IsRtp h header body b → ((p : PayloadFields) (codestream : List ℕ) → IsPayload p codestream body → ⊥) → IsBytes body → false ≡ is_kept limit b
not_payload limit b h header body rtp none bytes = go (is_payload body) refl where
  go : (t : Bool) → is_payload body ≡ t → false ≡ is_kept limit b
  go true e = absurd (none _ _ (payload_reads_as_laid_out body bytes e))
  go false e =
      let r = rtp_is_read_one_way h header body b rtp in
      let same : body ≡ rtp_payload b = r.3 in
      let t4 : is_payload (rtp_payload b) ≡ false = rw same at e in
      rw t4 (off (nat_le 1 (length b)) (nat_le (length b) 9000) (is_rtp b) (is_within limit (payload_fields (rtp_payload b)))) where
        off : (x y z w : Bool) → false ≡ ((((x && y) && z) && false) && w)
        off true true true w = refl
        off true true false w = refl
        off true false z w = refl
        off false y z w = refl
