-- The answer to a datagram is its layout.
use Rattle.std.proofs.Common.{◌≡◌, ◌+◌, ℕ, true, false, List, length, take, refl, sym, ◌∙◌, arith, inl, inr, ap, Result, Ok, Err, IfOk, nat_lt, nat_le}
use Rattle.std.specs.Prelude.{slice_range, ◌==◌}
use Rattle.std.proofs.lemmas.Bool.Decides.{nat_tests}
use Rattle.wire_model.specs.Bytes.{IsBytes}
use Rattle.wire_model.specs.Rtp.{RtpFields, IsRtp, version, header_length}
use Rattle.wire_model.specs.RtpReading.{is_rtp, rtp_fields, is_padding_sound, payload_end}
use Rattle.wire_model.proofs.Lists.{chosen, all_held}
use Rattle.wire_model.proofs.RtpLaws.{rtp_is_read_one_way}
use Rattle.wire_model.proofs.RtpFound.{rtp_reads_as_laid_out}
use Rattle.rtp_header.specs.Reading.{fields_of, read_as, judged}
use Rattle.rtp_header.specs.declared.header.Rtp.{Rtp}
use Rattle.rtp_header.specs.declared.header.RtpFault.{RtpFault}
use Rattle.rtp_header.specs.declared.header.RtpFault.TheVariants.{Short, Version, Padding}

-- where the tests hold, the answer is what is read
judged_ok : (b : List ℕ) → nat_lt (length b) 12 ≡ false → (version b == 2) ≡ true → nat_le (header_length b) (length b) ≡ true → is_padding_sound b ≡ true → judged b ≡ Ok (read_as (rtp_fields b) (header_length b) (payload_end b))
judged_ok b t1 t2 t3 t4 = rw (t1, t2, t3, t4) refl

-- and where there is an answer, the tests held
ok_judged : (b : List ℕ) (r : Rtp) → judged b ≡ Ok r → (is_rtp b ≡ true) × (read_as (rtp_fields b) (header_length b) (payload_end b) ≡ r)
ok_judged b r e = elim (chosen (nat_lt (length b) 12) _ _ _ e) [
  | inl p ↦ absurd (let q : Err Short ≡ Ok r = p.1 in cc)
  | inr p ↦ elim (chosen (version b == 2) _ _ _ p.1) [
    | inr q ↦ absurd (let s : Err Version ≡ Ok r = q.1 in cc)
    | inl q ↦ elim (chosen (nat_le (header_length b) (length b)) _ _ _ q.1) [
      | inr s ↦ absurd (let t : Err Short ≡ Ok r = s.1 in cc)
      | inl s ↦ elim (chosen (is_padding_sound b) _ _ _ s.1) [
        | inr t ↦ absurd (let u : Err Padding ≡ Ok r = t.1 in cc)
        | inl t ↦
            let few : nat_lt (length b) 12 ≡ false = p.0 in
            let twelve : nat_le 12 (length b) ≡ true = grind (arith, nat_tests) in
            let same : read_as (rtp_fields b) (header_length b) (payload_end b) ≡ r = (let u : Ok (read_as (rtp_fields b) (header_length b) (payload_end b)) ≡ Ok r = t.1 in cc) in
            (rw (twelve, q.0, s.0, t.0) refl, same)
      ]
    ]
  ]
]

pub found : (b : List ℕ) (r : Result Rtp RtpFault) → IsBytes b → r ≡ judged b → IfOk r (λ r. IsRtp (fields_of r) (take r.body_from b) (slice_range b r.body_from r.body_to) b)
found b (Ok r) fits e =
    let ok = ok_judged b r (sym e) in
    rw (sym ok.1) (rtp_reads_as_laid_out b fits ok.0)
found b (Err f) fits e = tt

-- the answer by its parts
same_answer : (h g : RtpFields) (i j m n : ℕ) → h ≡ g → i ≡ j → m ≡ n → read_as h i m ≡ read_as g j n
same_answer h g i j m n eh ei em = ap (λ (x : RtpFields). read_as x i m) eh ∙ (ap (λ x. read_as g x m) ei ∙ ap (λ x. read_as g j x) em)

pub only : (h : RtpFields) (header payload b : List ℕ) → IsRtp h header payload b → judged b ≡ Ok (read_as h (length header) (length header + length payload))
only h header payload b r =
    let read = rtp_is_read_one_way h header payload b r in
    let tests = all_held (nat_le 12 (length b)) (version b == 2) (nat_le (header_length b) (length b)) (is_padding_sound b) read.0 in
    let twelve : nat_le 12 (length b) ≡ true = tests.0 in
    let few : nat_lt (length b) 12 ≡ false = grind (arith, nat_tests) in
    judged_ok b few tests.1 tests.2 tests.3 ∙ ap (λ (x : Rtp). Ok x) (sym (same_answer h (rtp_fields b) (length header) (header_length b) (length header + length payload) (payload_end b) read.1 (sym read.5) read.4))
