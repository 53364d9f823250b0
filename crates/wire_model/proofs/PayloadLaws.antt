-- A payload that is laid out as a Main or a Body is read so.
use Rattle.std.proofs.Common.{◌≡◌, ◌<◌, ◌≤◌, ◌+◌, ◌-◌, ◌*◌, ◌/◌, ◌%◌, ℕ, suc, Bool, true, false, List, ◌∷◌, ◌++◌, length, drop, refl, sym, ap, ◌∙◌, arith, append_assoc, nat_le, nat_lt}
use Rattle.std.specs.Prelude.{slice_index}
use Rattle.std.proofs.lemmas.Bool.Decides.{nat_tests}
use Rattle.std.proofs.lemmas.List.{drop_at, length-append}
use Rattle.wire_model.specs.Bytes.{bit}
use Rattle.wire_model.specs.Payload.{MainFields, BodyFields, Main, Body, IsMain, IsBody, xtrac_at, pos_at}
use Rattle.wire_model.specs.PayloadReading.{is_payload, payload_fields, codestream_start, body_fields, is_mark_within}
use Rattle.wire_model.specs.Laws.{PayloadIsReadOneWay}

-- the values of a Main, from its tests and places
main_read : (h : MainFields) (b codestream : List ℕ) → nat_le 8 (length b) ≡ true → nat_le 64 (slice_index b 0) ≡ true → nat_le (8 + 4 * xtrac_at b) (length b) ≡ true
    → slice_index b 0 % 8 ≡ h.ordh → slice_index b 3 ≡ h.eseq → xtrac_at b ≡ h.xtrac → drop (8 + 4 * xtrac_at b) b ≡ codestream
    → (is_payload b ≡ true) × (Main h ≡ payload_fields b) × (codestream ≡ drop (codestream_start b) b)
main_read h b codestream long main within o e x d = (
  rw (long, main, within) refl,
  sym (rw (main, o, e, x) refl),
  sym (rw main d),
)

-- a laid out Main is read
main_law : (h : MainFields) (codestream b : List ℕ) → IsMain h codestream b → (is_payload b ≡ true) × (Main h ≡ payload_fields b) × (codestream ≡ drop (codestream_start b) b)
main_law h codestream b r =
    let main = r.is_main in let mf = r.mh_fits in let tpf = r.tp_fits in let of = r.ordh_fits in let pf = r.p_fits in let xf = r.xtrac_fits in let tf = r.ptstamp_fits in
    let colour = r.is_colour in let extra = r.is_extra in
    let front : List ℕ = (r.mh * 64 + r.tp * 8 + h.ordh) ∷ (r.p * 128 + h.xtrac * 16 + r.ptstamp / 256) ∷ (r.ptstamp % 256) ∷ h.eseq ∷ r.colour in
    let whole : b ≡ (front ++ r.extra) ++ codestream = r.whole ∙ sym (append_assoc front r.extra codestream) in
    let e0 : slice_index b 0 ≡ r.mh * 64 + r.tp * 8 + h.ordh = rw r.whole refl in
    let o : slice_index b 0 % 8 ≡ h.ordh = omega arith in
    let e1 : slice_index b 1 ≡ r.p * 128 + h.xtrac * 16 + r.ptstamp / 256 = rw r.whole refl in
    let e3 : slice_index b 3 ≡ h.eseq = rw r.whole refl in
    let x : xtrac_at b ≡ h.xtrac = rw e1 (let y : (r.p * 128 + h.xtrac * 16 + r.ptstamp / 256) / 16 % 8 ≡ h.xtrac = omega arith in y) in
    let four : length front ≡ 8 = (let y : suc (suc (suc (suc (length r.colour)))) ≡ 8 = omega arith in y) in
    let size : length (front ++ r.extra) ≡ 8 + 4 * xtrac_at b = omega (arith, length-append front r.extra) in
    let total : length b ≡ length (front ++ r.extra) + length codestream = ap length whole ∙ length-append (front ++ r.extra) codestream in
    let t0 : nat_le 8 (length b) ≡ true = grind (arith, nat_tests) in
    let t1 : nat_le 64 (slice_index b 0) ≡ true = grind (arith, nat_tests) in
    let t2 : nat_le (8 + 4 * xtrac_at b) (length b) ≡ true = grind (arith, nat_tests) in
    main_read h b codestream t0 t1 t2 o e3 x (ap (drop (8 + 4 * xtrac_at b)) whole ∙ drop_at (front ++ r.extra) codestream (8 + 4 * xtrac_at b) size)

-- the values of a Body, from its tests and places
body_read : (h : BodyFields) (b codestream : List ℕ) → nat_le 8 (length b) ≡ true → nat_le 64 (slice_index b 0) ≡ false → is_mark_within b ≡ true → body_fields b ≡ h → drop 8 b ≡ codestream
    → (is_payload b ≡ true) × (Body h ≡ payload_fields b) × (codestream ≡ drop (codestream_start b) b)
body_read h b codestream long body within e d = (
  rw (long, body) within,
  sym (rw (body, e) refl),
  sym (rw body d),
)

-- ORDB is the top bit of its byte
ordb_top : (flag : Bool) (n low : ℕ) → low < 128 → n ≡ bit flag * 128 + low → nat_le 128 n ≡ flag
ordb_top true n low small e = let h : 128 ≤ n = omega arith in grind (arith, nat_tests)
ordb_top false n low small e = let h : n < 128 = omega arith in grind (arith, nat_tests)

-- a marked place is within the codestream bytes
mark_law : (flag : Bool) (n pos : ℕ) (b : List ℕ) → nat_le 128 (slice_index b 1) ≡ flag → pos_at b ≡ pos → length b ≡ 8 + n → (flag ≡ true → pos < n) → is_mark_within b ≡ true
mark_law true n pos b e p size marked =
    let below : pos < n = marked refl in
    let t : nat_lt (pos_at b) (length b - 8) ≡ true = grind (arith, nat_tests) in
    rw (e, t) refl
mark_law false n pos b e p size marked = rw e refl

-- a laid out Body is read
body_law : (h : BodyFields) (codestream b : List ℕ) → IsBody h codestream b → (is_payload b ≡ true) × (Body h ≡ payload_fields b) × (codestream ≡ drop (codestream_start b) b)
body_law h codestream b r =
    let tf = r.tp_fits in let qf = r.qual_fits in let sf = r.ptstamp_fits in let rf = r.res_fits in let of = r.pos_fits in let df = r.pid_fits in
    let e0 : slice_index b 0 ≡ r.tp * 8 + h.res = rw r.whole refl in
    let e1 : slice_index b 1 ≡ bit h.ordb * 128 + r.qual * 16 + r.ptstamp / 256 = rw r.whole refl in
    let e3 : slice_index b 3 ≡ h.eseq = rw r.whole refl in
    let e4 : slice_index b 4 ≡ h.pos / 16 = rw r.whole refl in
    let e5 : slice_index b 5 ≡ h.pos % 16 * 16 + h.pid / 65536 = rw r.whole refl in
    let e6 : slice_index b 6 ≡ h.pid / 256 % 256 = rw r.whole refl in
    let e7 : slice_index b 7 ≡ h.pid % 256 = rw r.whole refl in
    let size : length b ≡ 8 + length codestream = ap length r.whole ∙ (let y : suc (suc (suc (suc (suc (suc (suc (suc (length codestream)))))))) ≡ 8 + length codestream = omega arith in y) in
    let res : slice_index b 0 % 8 ≡ h.res = omega arith in
    let ordb : nat_le 128 (slice_index b 1) ≡ h.ordb = ordb_top h.ordb (slice_index b 1) (r.qual * 16 + r.ptstamp / 256) (omega arith) (omega arith) in
    let pos : pos_at b ≡ h.pos = omega arith in
    let pid : slice_index b 5 % 16 * 65536 + slice_index b 6 * 256 + slice_index b 7 ≡ h.pid = omega arith in
    let t0 : nat_le 8 (length b) ≡ true = grind (arith, nat_tests) in
    let t1 : nat_le 64 (slice_index b 0) ≡ false = grind (arith, nat_tests) in
    body_read h b codestream t0 t1 (mark_law h.ordb (length codestream) h.pos b ordb pos size r.marked) (rw (res, e3, ordb, pos, pid) refl) (rw r.whole refl)

pub payload_is_read_one_way : PayloadIsReadOneWay
payload_is_read_one_way (Main h) codestream b r = main_law h codestream b r
payload_is_read_one_way (Body h) codestream b r = body_law h codestream b r
