-- Of any bytes just one verdict is true, as RTP and as a payload.
use Rattle.std.proofs.Common.{◌≡◌, ◌≢◌, ◌<◌, ◌≤◌, ◌+◌, ◌-◌, ◌*◌, ◌/◌, ◌%◌, ◌⊎◌, ℕ, zero, suc, Bool, true, false, ◌&&◌, List, length, take, drop, refl, ap, sym, ◌∙◌, arith, inl, inr, nat_le, nat_lt}
use Rattle.std.specs.Prelude.{slice_index, slice_range, ◌==◌, if◌then◌else◌}
use Rattle.std.proofs.lemmas.Bool.{cases_lt, le-leb, lt-leb, lt-ltb, ltb-true, leb-true, and_parts}
use Rattle.std.proofs.lemmas.Bool.Decides.{nat_tests, eqb_tells, leb_tells}
use Rattle.wire_model.specs.Bytes.{IsBytes}
use Rattle.wire_model.specs.Rtp.{version, header_length, last_byte}
use Rattle.wire_model.specs.RtpReading.{is_rtp, is_padding_sound, rtp_fields, payload_end}
use Rattle.wire_model.specs.Payload.{xtrac_at, pos_at}
use Rattle.wire_model.specs.PayloadReading.{is_payload, is_main, is_mark_within, payload_fields, codestream_start}
use Rattle.wire_model.specs.Verdicts.{RtpVerdict, IsRtpVerdict, PayloadVerdict, IsPayloadVerdict, SoundRtp, ShortRtp, OtherVersion, BadPadding, SoundPayload, ShortPayload, PastExtension, PastPos, RtpHasOneVerdict, PayloadHasOneVerdict}
use Rattle.wire_model.proofs.Lists.{all_held}
use Rattle.wire_model.proofs.RtpLaws.{rtp_is_read_one_way}
use Rattle.wire_model.proofs.RtpFound.{rtp_reads_as_laid_out}
use Rattle.wire_model.proofs.PayloadLaws.{payload_is_read_one_way}
use Rattle.wire_model.proofs.PayloadFound.{payload_reads_as_laid_out}

-- the facts of a sound datagram
record RtpFacts (b : List ℕ) : Type 0 where
  long : 12 ≤ length b
  two : version b ≡ 2
  within : header_length b ≤ length b
  padding : slice_index b 0 / 32 % 2 ≡ 1 → (1 ≤ last_byte b) × (last_byte b ≤ length b - header_length b)

-- the padding's test, over plain numbers
padding_facts : (p l room : ℕ) → (if p == 1 then nat_le 1 l && nat_le l room else true) ≡ true → p ≡ 1 → (1 ≤ l) × (l ≤ room)
padding_facts p l room e one = (grind (arith, nat_tests), grind (arith, nat_tests))

padding_test : (p l room : ℕ) → (p ≡ 1 → (1 ≤ l) × (l ≤ room)) → (if p == 1 then nat_le 1 l && nat_le l room else true) ≡ true
padding_test p l room f = elim (eqb_tells p 1) [
  | inl t ↦ let g = f t.1 in rw (t.0, le-leb 1 l g.0, le-leb l room g.1) refl
  | inr t ↦ rw t.0 refl
]

facts_of : (b : List ℕ) → is_rtp b ≡ true → RtpFacts b
facts_of b e =
    let tests = all_held (nat_le 12 (length b)) (version b == 2) (nat_le (header_length b) (length b)) (is_padding_sound b) e in
    record {
      long = (let t = tests.0 in grind (arith, nat_tests));
      two = (let t = tests.1 in grind (arith, nat_tests));
      within = (let t = tests.2 in grind (arith, nat_tests));
      padding = padding_facts (slice_index b 0 / 32 % 2) (last_byte b) (length b - header_length b) tests.3;
    }

-- four tests that hold
all_hold : (a b c d : Bool) → a ≡ true → b ≡ true → c ≡ true → d ≡ true → (a && b && c && d) ≡ true
all_hold a b c d ea eb ec ed = rw (ea, eb, ec, ed) refl

same_test : (v : ℕ) → v ≡ 2 → (v == 2) ≡ true
same_test v e = rw e refl

test_of : (b : List ℕ) → RtpFacts b → is_rtp b ≡ true
test_of b f =
    all_hold (nat_le 12 (length b)) (version b == 2) (nat_le (header_length b) (length b)) (is_padding_sound b)
    (le-leb 12 (length b) f.long) (same_test (version b) f.two) (le-leb (header_length b) (length b) f.within)
    (padding_test (slice_index b 0 / 32 % 2) (last_byte b) (length b - header_length b) f.padding)

-- one verdict alone, from its four cases
only_rtp : (b : List ℕ) (v : RtpVerdict) → (IsRtpVerdict b SoundRtp → SoundRtp ≡ v) → (IsRtpVerdict b ShortRtp → ShortRtp ≡ v) → (IsRtpVerdict b OtherVersion → OtherVersion ≡ v) → (IsRtpVerdict b BadPadding → BadPadding ≡ v)
    → (w : RtpVerdict) → IsRtpVerdict b w → w ≡ v
only_rtp b v f g h k SoundRtp s = f s
only_rtp b v f g h k ShortRtp s = g s
only_rtp b v f g h k OtherVersion s = h s
only_rtp b v f g h k BadPadding s = k s

only_payload : (b : List ℕ) (v : PayloadVerdict) → (IsPayloadVerdict b SoundPayload → SoundPayload ≡ v) → (IsPayloadVerdict b ShortPayload → ShortPayload ≡ v) → (IsPayloadVerdict b PastExtension → PastExtension ≡ v) → (IsPayloadVerdict b PastPos → PastPos ≡ v)
    → (w : PayloadVerdict) → IsPayloadVerdict b w → w ≡ v
only_payload b v f g h k SoundPayload s = f s
only_payload b v f g h k ShortPayload s = g s
only_payload b v f g h k PastExtension s = h s
only_payload b v f g h k PastPos s = k s

-- plain numbers
too_short : (n m : ℕ) → m ≤ n → n < m → ⊥
too_short n m a b = omega arith

not_zero : (n : ℕ) → n ≢ 0 → 1 ≤ n
not_zero zero f = absurd (f refl)
not_zero (suc n) f = omega arith

not_both : (l room : ℕ) → (1 ≤ l) × (l ≤ room) → (l ≡ 0) ⊎ (room < l) → ⊥
not_both l room f s = elim s [ inl t ↦ omega (arith, f.0) | inr t ↦ omega (arith, f.1) ]

-- the padding is there, or it isn't
padding_verdict : (b : List ℕ) → (slice_index b 0 / 32 % 2 ≡ 1 → (1 ≤ last_byte b) × (last_byte b ≤ length b - header_length b)) ⊎ ((slice_index b 0 / 32 % 2 ≡ 1) × ((last_byte b ≡ 0) ⊎ (length b - header_length b < last_byte b)))
padding_verdict b = elim (eqb_tells (slice_index b 0 / 32 % 2) 1) [
  | inr none ↦ inl (λ e. absurd (none.1 e))
  | inl some ↦ elim (cases_lt (length b - header_length b) (last_byte b)) [
    | inl past ↦ inr (some.1, inr past)
    | inr room ↦ elim (eqb_tells (last_byte b) 0) [
      | inl none ↦ inr (some.1, inl none.1)
      | inr more ↦ inl (λ e. (not_zero (last_byte b) more.1, room))
    ]
  ]
]

-- where the whole header is there, the padding decides
by_padding : (b : List ℕ) → IsBytes b → 12 ≤ length b → version b ≡ 2 → header_length b ≤ length b → (v : RtpVerdict) × IsRtpVerdict b v × ((w : RtpVerdict) → IsRtpVerdict b w → w ≡ v)
by_padding b fits long two within = elim (padding_verdict b) [
  | inl sound ↦
      let e : is_rtp b ≡ true = test_of b (record { long = long; two = two; within = within; padding = sound }) in (
        SoundRtp,
        (rtp_fields b, take (header_length b) b, slice_range b (header_length b) (payload_end b), rtp_reads_as_laid_out b fits e),
        only_rtp b SoundRtp
            (λ s. refl)
            (λ s. elim s [ inl t ↦ absurd (too_short (length b) 12 long t) | inr t ↦ absurd (too_short (length b) (header_length b) within t.2) ])
            (λ s. absurd (s.1 two))
            (λ s. absurd (not_both (last_byte b) (length b - header_length b) (sound s.3) s.4)),
      )
  | inr bad ↦ (
    BadPadding,
    (long, two, within, bad.0, bad.1),
    only_rtp b BadPadding
        (λ s. absurd (not_both (last_byte b) (length b - header_length b) ((facts_of b (rtp_is_read_one_way s.0 s.1 s.2 b s.3).0).padding bad.0) bad.1))
        (λ s. elim s [ inl t ↦ absurd (too_short (length b) 12 long t) | inr t ↦ absurd (too_short (length b) (header_length b) within t.2) ])
        (λ s. absurd (s.1 two))
        (λ s. refl),
  )
]

pub rtp_has_one_verdict : RtpHasOneVerdict
rtp_has_one_verdict b fits = elim (cases_lt (length b) 12) [
  | inl short ↦ (
    ShortRtp,
    inl short,
    only_rtp b ShortRtp
        (λ s. absurd (too_short (length b) 12 (facts_of b (rtp_is_read_one_way s.0 s.1 s.2 b s.3).0).long short))
        (λ s. refl)
        (λ s. absurd (too_short (length b) 12 s.0 short))
        (λ s. absurd (too_short (length b) 12 s.0 short)),
  )
  | inr long ↦ elim (eqb_tells (version b) 2) [
    | inr other ↦ (
      OtherVersion,
      (long, other.1),
      only_rtp b OtherVersion
          (λ s. absurd (other.1 (facts_of b (rtp_is_read_one_way s.0 s.1 s.2 b s.3).0).two))
          (λ s. elim s [ inl t ↦ absurd (too_short (length b) 12 long t) | inr t ↦ absurd (other.1 t.1) ])
          (λ s. refl)
          (λ s. absurd (other.1 s.1)),
    )
    | inl two ↦ elim (cases_lt (length b) (header_length b)) [
      | inl short ↦ (
        ShortRtp,
        inr (long, two.1, short),
        only_rtp b ShortRtp
            (λ s. absurd (too_short (length b) (header_length b) (facts_of b (rtp_is_read_one_way s.0 s.1 s.2 b s.3).0).within short))
            (λ s. refl)
            (λ s. absurd (s.1 two.1))
            (λ s. absurd (too_short (length b) (header_length b) s.2 short)),
      )
      | inr within ↦ by_padding b fits long two.1 within
    ]
  ]
]

-- the tests of a payload, over plain numbers
if_true : (c x y : Bool) → c ≡ true → (if c then x else y) ≡ x
if_true c x y e = rw e refl

if_false : (c x y : Bool) → c ≡ false → (if c then x else y) ≡ y
if_false c x y e = rw e refl

plain_eight : (n : ℕ) (t : Bool) → (nat_le 8 n && t) ≡ true → (8 ≤ n) × (t ≡ true)
plain_eight n t e = let p = and_parts (nat_le 8 n) t e in (leb-true 8 n p.0, p.1)

eight_of : (b : List ℕ) → is_payload b ≡ true → 8 ≤ length b
eight_of b e = (plain_eight (length b) (if is_main b then nat_le (8 + 4 * xtrac_at b) (length b) else is_mark_within b) e).0

main_facts : (b : List ℕ) → is_payload b ≡ true → 64 ≤ slice_index b 0 → 8 + 4 * xtrac_at b ≤ length b
main_facts b e main =
    let t : (if is_main b then nat_le (8 + 4 * xtrac_at b) (length b) else is_mark_within b) ≡ true = (plain_eight (length b) (if is_main b then nat_le (8 + 4 * xtrac_at b) (length b) else is_mark_within b) e).1 in
    leb-true (8 + 4 * xtrac_at b) (length b) (sym (if_true (is_main b) (nat_le (8 + 4 * xtrac_at b) (length b)) (is_mark_within b) (le-leb 64 (slice_index b 0) main)) ∙ t)

body_facts : (b : List ℕ) → is_payload b ≡ true → slice_index b 0 < 64 → 128 ≤ slice_index b 1 → pos_at b < length b - 8
body_facts b e body high =
    let t : (if is_main b then nat_le (8 + 4 * xtrac_at b) (length b) else is_mark_within b) ≡ true = (plain_eight (length b) (if is_main b then nat_le (8 + 4 * xtrac_at b) (length b) else is_mark_within b) e).1 in
    let m : is_mark_within b ≡ true = sym (if_false (is_main b) (nat_le (8 + 4 * xtrac_at b) (length b)) (is_mark_within b) (lt-leb 64 (slice_index b 0) body)) ∙ t in
    ltb-true (pos_at b) (length b - 8) (sym (if_true (nat_le 128 (slice_index b 1)) (nat_lt (pos_at b) (length b - 8)) true (le-leb 128 (slice_index b 1) high)) ∙ m)

both_hold : (a c : Bool) → a ≡ true → c ≡ true → (a && c) ≡ true
both_hold a c ea ec = rw (ea, ec) refl

main_test : (b : List ℕ) → 8 ≤ length b → 64 ≤ slice_index b 0 → 8 + 4 * xtrac_at b ≤ length b → is_payload b ≡ true
main_test b long main within =
    both_hold (nat_le 8 (length b)) (if is_main b then nat_le (8 + 4 * xtrac_at b) (length b) else is_mark_within b) (le-leb 8 (length b) long)
    (if_true (is_main b) (nat_le (8 + 4 * xtrac_at b) (length b)) (is_mark_within b) (le-leb 64 (slice_index b 0) main) ∙ le-leb (8 + 4 * xtrac_at b) (length b) within)

mark_test : (o p n : ℕ) → (128 ≤ o → p < n) → (if nat_le 128 o then nat_lt p n else true) ≡ true
mark_test o p n f = elim (leb_tells 128 o) [ inl t ↦ rw (t.0, lt-ltb p n (f t.1)) refl | inr t ↦ rw t.0 refl ]

body_test : (b : List ℕ) → 8 ≤ length b → slice_index b 0 < 64 → (128 ≤ slice_index b 1 → pos_at b < length b - 8) → is_payload b ≡ true
body_test b long body within =
    both_hold (nat_le 8 (length b)) (if is_main b then nat_le (8 + 4 * xtrac_at b) (length b) else is_mark_within b) (le-leb 8 (length b) long)
    (if_false (is_main b) (nat_le (8 + 4 * xtrac_at b) (length b)) (is_mark_within b) (lt-leb 64 (slice_index b 0) body) ∙ mark_test (slice_index b 1) (pos_at b) (length b - 8) within)

-- POS is within the codestream bytes, or past them
mark_verdict : (b : List ℕ) → (128 ≤ slice_index b 1 → pos_at b < length b - 8) ⊎ ((128 ≤ slice_index b 1) × (length b - 8 ≤ pos_at b))
mark_verdict b = elim (cases_lt (slice_index b 1) 128) [
  | inl low ↦ inl (λ h. absurd (too_short (slice_index b 1) 128 h low))
  | inr high ↦ elim (cases_lt (pos_at b) (length b - 8)) [ inl in_ ↦ inl (λ h. in_) | inr past ↦ inr (high, past) ]
]

-- a payload of at least eight bytes, by its kind
main_verdict : (b : List ℕ) → IsBytes b → 8 ≤ length b → 64 ≤ slice_index b 0 → (v : PayloadVerdict) × IsPayloadVerdict b v × ((w : PayloadVerdict) → IsPayloadVerdict b w → w ≡ v)
main_verdict b fits long main = elim (cases_lt (length b) (8 + 4 * xtrac_at b)) [
  | inl past ↦ (
    PastExtension,
    (long, main, past),
    only_payload b PastExtension
        (λ s. absurd (too_short (length b) (8 + 4 * xtrac_at b) (main_facts b (payload_is_read_one_way s.0 s.1 b s.2).0 main) past))
        (λ s. absurd (too_short (length b) 8 long s))
        (λ s. refl)
        (λ s. absurd (too_short (slice_index b 0) 64 main s.1)),
  )
  | inr within ↦
      let e : is_payload b ≡ true = main_test b long main within in (
        SoundPayload,
        (payload_fields b, drop (codestream_start b) b, payload_reads_as_laid_out b fits e),
        only_payload b SoundPayload
            (λ s. refl)
            (λ s. absurd (too_short (length b) 8 long s))
            (λ s. absurd (too_short (length b) (8 + 4 * xtrac_at b) within s.2))
            (λ s. absurd (too_short (slice_index b 0) 64 main s.1)),
      )
]

body_verdict : (b : List ℕ) → IsBytes b → 8 ≤ length b → slice_index b 0 < 64 → (v : PayloadVerdict) × IsPayloadVerdict b v × ((w : PayloadVerdict) → IsPayloadVerdict b w → w ≡ v)
body_verdict b fits long body = elim (mark_verdict b) [
  | inr past ↦ (
    PastPos,
    (long, body, past.0, past.1),
    only_payload b PastPos
        (λ s. absurd (too_short (pos_at b) (length b - 8) past.1 (body_facts b (payload_is_read_one_way s.0 s.1 b s.2).0 body past.0)))
        (λ s. absurd (too_short (length b) 8 long s))
        (λ s. absurd (too_short (slice_index b 0) 64 s.1 body))
        (λ s. refl),
  )
  | inl within ↦
      let e : is_payload b ≡ true = body_test b long body within in (
        SoundPayload,
        (payload_fields b, drop (codestream_start b) b, payload_reads_as_laid_out b fits e),
        only_payload b SoundPayload
            (λ s. refl)
            (λ s. absurd (too_short (length b) 8 long s))
            (λ s. absurd (too_short (slice_index b 0) 64 s.1 body))
            (λ s. absurd (too_short (pos_at b) (length b - 8) s.3 (within s.2))),
      )
]

pub payload_has_one_verdict : PayloadHasOneVerdict
payload_has_one_verdict b fits = elim (cases_lt (length b) 8) [
  | inl short ↦ (
    ShortPayload,
    short,
    only_payload b ShortPayload
        (λ s. absurd (too_short (length b) 8 (eight_of b (payload_is_read_one_way s.0 s.1 b s.2).0) short))
        (λ s. refl)
        (λ s. absurd (too_short (length b) 8 s.0 short))
        (λ s. absurd (too_short (length b) 8 s.0 short)),
  )
  | inr long ↦ elim (cases_lt (slice_index b 0) 64) [ inl body ↦ body_verdict b fits long body | inr main ↦ main_verdict b fits long main ]
]
