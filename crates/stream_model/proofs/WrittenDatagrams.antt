-- What our sender writes is a datagram with these values.
use Rattle.std.proofs.Common.{◌≡◌, ◌<◌, ◌≤◌, ◌+◌, ◌*◌, ◌/◌, ◌%◌, ◌^◌, ℕ, false, List, [], ◌∷◌, ◌++◌, length, refl, sym, ap, arith}
use Rattle.std.proofs.lemmas.List.{append-nil}
use Rattle.wire_model.specs.Bytes.{bit}
use Rattle.wire_model.specs.Rtp.{RtpFields, FitRtp, IsRtp, fixed_header}
use Rattle.wire_model.specs.Payload.{MainFields, BodyFields, PayloadFields, Main, Body, IsPayload, IsMain, IsBody}
use Rattle.wire_model.specs.Datagram.{Datagram, IsDatagram}
use Rattle.stream_model.specs.Cut.{payload_header, datagram_bytes}
use Rattle.stream_model.specs.Laws.{FitBody, FitPayload}

-- the RTP header without optional parts
written_rtp : (h : RtpFields) (payload : List ℕ) → FitRtp h → IsRtp h (fixed_header h false false 0) payload (fixed_header h false false 0 ++ payload)
written_rtp h payload fit = record {
  padded = false;
  extended = false;
  sources = 0;
  csrc = [];
  extension = [];
  padding = [];
  fit = fit;
  few_sources = omega arith;
  is_csrc = refl;
  is_extension = refl;
  is_padding = refl;
  is_header = refl;
  whole = ap (λ xs. fixed_header h false false 0 ++ xs) (sym (append-nil payload));
}

-- a Main
written_main : (h : MainFields) (codestream : List ℕ) → h.xtrac ≡ 0 → h.eseq < 2 ^ 8 → h.ordh < 2 ^ 3 → IsMain h codestream ((192 + h.ordh) ∷ 0 ∷ 0 ∷ h.eseq ∷ 0 ∷ 0 ∷ 0 ∷ 0 ∷ codestream)
written_main h codestream none eseq ordh = record {
  mh = 3;
  tp = 0;
  p = 0;
  ptstamp = 0;
  colour = 0 ∷ 0 ∷ 0 ∷ 0 ∷ [];
  extra = [];
  is_main = omega arith;
  mh_fits = omega arith;
  tp_fits = omega arith;
  ordh_fits = ordh;
  p_fits = omega arith;
  xtrac_fits = omega arith;
  ptstamp_fits = omega arith;
  eseq_fits = eseq;
  is_colour = refl;
  is_extra = omega arith;
  whole = ap (λ n. (192 + h.ordh) ∷ n ∷ 0 ∷ h.eseq ∷ 0 ∷ 0 ∷ 0 ∷ 0 ∷ codestream) (let e : 0 ≡ 0 * 128 + h.xtrac * 16 + 0 / 256 = omega arith in e);
}

-- a Body
head_is : (h : BodyFields) (codestream : List ℕ) (a b c d : ℕ) → a ≡ b → c ≡ d
    → a ∷ c ∷ 0 ∷ h.eseq ∷ (h.pos / 16) ∷ (h.pos % 16 * 16 + h.pid / 65536) ∷ (h.pid / 256 % 256) ∷ (h.pid % 256) ∷ codestream
    ≡ b ∷ d ∷ 0 ∷ h.eseq ∷ (h.pos / 16) ∷ (h.pos % 16 * 16 + h.pid / 65536) ∷ (h.pid / 256 % 256) ∷ (h.pid % 256) ∷ codestream
head_is h codestream a b c d e f = rw (e, f) refl

written_body : (h : BodyFields) (codestream : List ℕ) → FitBody h codestream → IsBody h codestream (h.res ∷ (bit h.ordb * 128) ∷ 0 ∷ h.eseq ∷ (h.pos / 16) ∷ (h.pos % 16 * 16 + h.pid / 65536) ∷ (h.pid / 256 % 256) ∷ (h.pid % 256) ∷ codestream)
written_body h codestream fit =
    let e : h.res ≡ 0 * 8 + h.res = omega arith in
    let f : bit h.ordb * 128 ≡ bit h.ordb * 128 + 0 * 16 + 0 / 256 = omega arith in
    record {
      tp = 0;
      qual = 0;
      ptstamp = 0;
      tp_fits = omega arith;
      qual_fits = omega arith;
      ptstamp_fits = omega arith;
      res_fits = fit.res;
      eseq_fits = fit.eseq;
      pos_fits = fit.pos;
      pid_fits = fit.pid;
      whole = head_is h codestream (h.res) (0 * 8 + h.res) (bit h.ordb * 128) (bit h.ordb * 128 + 0 * 16 + 0 / 256) e f;
      marked = fit.marked;
    }

-- a payload of either kind
written_payload : (h : PayloadFields) (codestream : List ℕ) → FitPayload h codestream → IsPayload h codestream (payload_header h ++ codestream)
written_payload (Main h) codestream fit = written_main h codestream fit.0 fit.1 fit.2
written_payload (Body h) codestream fit = written_body h codestream fit

-- the length of a payload header
header_length : (h : PayloadFields) (codestream : List ℕ) → length (payload_header h ++ codestream) ≡ 8 + length codestream
header_length (Main h) codestream = omega arith
header_length (Body h) codestream = omega arith

pub written_is_datagram : (x : Datagram) → FitRtp x.rtp → FitPayload x.payload x.codestream → length x.codestream ≤ 8980 → IsDatagram x (datagram_bytes x)
written_is_datagram x rtp payload short =
    let n : length (payload_header x.payload ++ x.codestream) ≡ 8 + length x.codestream = header_length x.payload x.codestream in
    record {
      header = fixed_header x.rtp false false 0;
      body = payload_header x.payload ++ x.codestream;
      some = omega arith;
      short = omega arith;
      is_rtp = written_rtp x.rtp (payload_header x.payload ++ x.codestream) rtp;
      is_payload = written_payload x.payload x.codestream payload;
    }
