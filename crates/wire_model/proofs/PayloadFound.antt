-- Bytes that are read as a payload are laid out so.
use Rattle.std.proofs.Common.{◌≡◌, ◌<◌, ◌≤◌, ◌+◌, ◌-◌, ◌*◌, ◌/◌, ◌%◌, ℕ, suc, Bool, true, false, ◌&&◌, List, [], ◌∷◌, ◌++◌, length, take, drop, refl, ap, arith, nat_le, nat_lt, length-take-le}
use Rattle.std.specs.Prelude.{slice_index, if◌then◌else◌}
use Rattle.std.proofs.lemmas.Bool.Decides.{nat_tests}
use Rattle.std.proofs.lemmas.List.{take-append-drop}
use Rattle.wire_model.specs.Bytes.{bit, IsBytes}
use Rattle.wire_model.specs.Payload.{Main, Body, IsMain, IsBody, IsPayload, xtrac_at, pos_at}
use Rattle.wire_model.specs.PayloadReading.{main_fields, body_fields, is_mark_within}
use Rattle.wire_model.specs.Laws.{PayloadReadsAsLaidOut}

-- both tests held
both : (s t : Bool) → (s && t) ≡ true → (s ≡ true) × (t ≡ true)
both true t e = (refl, e)
both false t e = absurd (cc)

-- a byte from its top bit and the others
top : (b : ℕ) (t : Bool) → nat_le 128 b ≡ t → b < 256 → bit t * 128 + (b % 128) ≡ b
top b true e f = let h : 128 ≤ b = grind (arith, nat_tests) in omega arith
top b false e f = let h : b < 128 = grind (arith, nat_tests) in omega arith

-- a Main of eight bytes and more
main_laid_out : (a b c d e f g h : ℕ) (rest : List ℕ) → a < 256 → b < 256 → c < 256 → d < 256 → 64 ≤ a → 4 * (b / 16 % 8) ≤ length rest
    → IsMain (record { ordh = a % 8; eseq = d; xtrac = b / 16 % 8 }) (drop (4 * (b / 16 % 8)) rest) (a ∷ b ∷ c ∷ d ∷ e ∷ f ∷ g ∷ h ∷ rest)
main_laid_out a b c d e f g h rest ra rb rc rd main within = record {
  mh = a / 64;
  tp = a / 8 % 8;
  p = b / 128;
  ptstamp = b % 16 * 256 + c;
  colour = e ∷ f ∷ g ∷ h ∷ [];
  extra = take (4 * (b / 16 % 8)) rest;
  is_main = omega arith;
  mh_fits = omega arith;
  tp_fits = omega arith;
  ordh_fits = omega arith;
  p_fits = omega arith;
  xtrac_fits = omega arith;
  ptstamp_fits = omega arith;
  eseq_fits = omega arith;
  is_colour = refl;
  is_extra = length-take-le (4 * (b / 16 % 8)) rest within;
  whole =
      let e0 : a / 64 * 64 + a / 8 % 8 * 8 + a % 8 ≡ a = omega arith in
      let e1 : b / 128 * 128 + b / 16 % 8 * 16 + (b % 16 * 256 + c) / 256 ≡ b = omega arith in
      let e2 : (b % 16 * 256 + c) % 256 ≡ c = omega arith in
      let e8 : take (4 * (b / 16 % 8)) rest ++ drop (4 * (b / 16 % 8)) rest ≡ rest = take-append-drop (4 * (b / 16 % 8)) rest in
      cc;
}

-- eight items less
drop_eight : (n a b c d e f g h : ℕ) (rest : List ℕ) → drop (8 + n) (a ∷ b ∷ c ∷ d ∷ e ∷ f ∷ g ∷ h ∷ rest) ≡ drop n rest
drop_eight n a b c d e f g h rest = ap (λ k. drop k (a ∷ b ∷ c ∷ d ∷ e ∷ f ∷ g ∷ h ∷ rest)) (let y : 8 + n ≡ suc (suc (suc (suc (suc (suc (suc (suc n))))))) = omega arith in y)

main_found : (b : List ℕ) → IsBytes b → 8 ≤ length b → 64 ≤ slice_index b 0 → 8 + 4 * xtrac_at b ≤ length b → IsMain (main_fields b) (drop (8 + 4 * xtrac_at b) b) b
main_found (a ∷ b ∷ c ∷ d ∷ e ∷ f ∷ g ∷ h ∷ rest) fits long main within =
    rw (drop_eight (4 * (b / 16 % 8)) a b c d e f g h rest) (main_laid_out a b c d e f g h rest (fits 0) (fits 1) (fits 2) (fits 3) main (omega arith))
main_found b fits long main within = absurd (omega arith)

-- a Body of eight bytes and more
body_laid_out : (a b c d e f g h : ℕ) (rest : List ℕ) → a < 64 → b < 256 → c < 256 → d < 256 → e < 256 → f < 256 → g < 256 → h < 256
    → (nat_le 128 b ≡ true → e * 16 + f / 16 < length rest)
    → IsBody (body_fields (a ∷ b ∷ c ∷ d ∷ e ∷ f ∷ g ∷ h ∷ rest)) rest (a ∷ b ∷ c ∷ d ∷ e ∷ f ∷ g ∷ h ∷ rest)
body_laid_out a b c d e f g h rest ra rb rc rd re rf rg rh marked = record {
  tp = a / 8;
  qual = b % 128 / 16;
  ptstamp = b % 16 * 256 + c;
  tp_fits = omega arith;
  qual_fits = omega arith;
  ptstamp_fits = omega arith;
  res_fits = omega arith;
  eseq_fits = omega arith;
  pos_fits = omega arith;
  pid_fits = omega arith;
  whole =
      let e0 : a / 8 * 8 + a % 8 ≡ a = omega arith in
      let e1 : bit (nat_le 128 b) * 128 + b % 128 / 16 * 16 + (b % 16 * 256 + c) / 256 ≡ b = (let t = top b (nat_le 128 b) refl rb in omega arith) in
      let e2 : (b % 16 * 256 + c) % 256 ≡ c = omega arith in
      let e4 : (e * 16 + f / 16) / 16 ≡ e = omega arith in
      let e5 : (e * 16 + f / 16) % 16 * 16 + (f % 16 * 65536 + g * 256 + h) / 65536 ≡ f = omega arith in
      let e6 : (f % 16 * 65536 + g * 256 + h) / 256 % 256 ≡ g = omega arith in
      let e7 : (f % 16 * 65536 + g * 256 + h) % 256 ≡ h = omega arith in
      cc;
  marked = marked;
}

body_found : (b : List ℕ) → IsBytes b → 8 ≤ length b → slice_index b 0 < 64 → (nat_le 128 (slice_index b 1) ≡ true → pos_at b < length b - 8) → IsBody (body_fields b) (drop 8 b) b
body_found (a ∷ b ∷ c ∷ d ∷ e ∷ f ∷ g ∷ h ∷ rest) fits long body marked =
    body_laid_out a b c d e f g h rest body (fits 1) (fits 2) (fits 3) (fits 4) (fits 5) (fits 6) (fits 7) (λ t. let m = marked t in omega arith)
body_found b fits long body marked = absurd (omega arith)

-- where ORDB is 1, POS is below the number of codestream bytes
marked_of : (flag : Bool) (n m : ℕ) → (if flag then nat_lt n m else true) ≡ true → flag ≡ true → n < m
marked_of true n m e f = grind (arith, nat_tests)
marked_of false n m e f = absurd (cc)

-- by MH, either kind
by_kind : (main : Bool) (b : List ℕ) → IsBytes b → 8 ≤ length b → nat_le 64 (slice_index b 0) ≡ main → (if main then nat_le (8 + 4 * xtrac_at b) (length b) else is_mark_within b) ≡ true
    → IsPayload (if main then Main (main_fields b) else Body (body_fields b)) (drop (if main then 8 + 4 * xtrac_at b else 8) b) b
by_kind true b fits long e within =
    let main : 64 ≤ slice_index b 0 = grind (arith, nat_tests) in
    let room : 8 + 4 * xtrac_at b ≤ length b = grind (arith, nat_tests) in
    main_found b fits long main room
by_kind false b fits long e within =
    let body : slice_index b 0 < 64 = grind (arith, nat_tests) in
    body_found b fits long body (marked_of (nat_le 128 (slice_index b 1)) (pos_at b) (length b - 8) within)

pub payload_reads_as_laid_out : PayloadReadsAsLaidOut
payload_reads_as_laid_out b fits e =
    let tests = both (nat_le 8 (length b)) _ e in
    let first : nat_le 8 (length b) ≡ true = tests.0 in
    let long : 8 ≤ length b = grind (arith, nat_tests) in
    by_kind (nat_le 64 (slice_index b 0)) b fits long refl tests.1
