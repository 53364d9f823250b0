-- What is read as an RTP datagram is laid out so.
use Rattle.std.proofs.Common.{◌≡◌, ◌<◌, ◌≤◌, ◌+◌, ◌-◌, ◌*◌, ◌/◌, ◌%◌, ◌^◌, ℕ, Bool, true, false, ◌&&◌, List, [], ◌∷◌, ◌++◌, length, take, drop, get_or, refl, sym, ap, ◌∙◌, arith, append_assoc, nat_le, length-take-le}
use Rattle.std.specs.Prelude.{slice_index, slice_range, ◌==◌}
use Rattle.std.proofs.lemmas.Bool.Decides.{nat_tests}
use Rattle.std.proofs.lemmas.List.{length-append, length-drop, get_or-drop, take-append-drop, take_more, drop_all}
use Rattle.std.proofs.lemmas.List.Folds.{drop_split}
use Rattle.std.proofs.Math.Seq.{take-length}
use Rattle.wire_model.specs.Bytes.{IsBytes, bit}
use Rattle.wire_model.specs.Rtp.{FitRtp, IsRtp, IsExtension, IsPadding, fixed_header, version, csrc_end, header_length, last_byte}
use Rattle.wire_model.specs.RtpReading.{rtp_fields, is_padded, is_padding_sound, payload_end}
use Rattle.wire_model.specs.Laws.{RtpReadsAsLaidOut}
use Rattle.wire_model.proofs.Lists.{long_range, take_four, front_of, all_held}
use Rattle.wire_model.proofs.RtpLaws.{length_plain}

-- the extension, as X says
found_extension : (b : List ℕ) (x : Bool) → (slice_index b 0 / 16 % 2 == 1) ≡ x → header_length b ≤ length b → IsExtension x (slice_range b (csrc_end b) (header_length b)) × (csrc_end b ≤ header_length b)
found_extension b false e within =
    let z : slice_index b 0 / 16 % 2 ≡ 0 = grind (arith, nat_tests) in
    let he : header_length b ≡ csrc_end b = length_plain b (slice_index b 0) refl z in
    (rw he (let none : csrc_end b - csrc_end b ≡ 0 = omega arith in rw none refl), omega arith)
found_extension b true e within =
    let one : slice_index b 0 / 16 % 2 ≡ 1 = grind (arith, nat_tests) in
    let size = 4 * (slice_index b (csrc_end b + 2) * 256 + slice_index b (csrc_end b + 3)) in
    let he : header_length b ≡ csrc_end b + 4 + size = rw one (let at : csrc_end b + 2 + 1 ≡ csrc_end b + 3 = omega arith in rw at refl) in
    let d : header_length b - csrc_end b ≡ 4 + size = omega arith in
    let room : 4 + size ≤ length (drop (csrc_end b) b) = omega (arith, length-drop (csrc_end b) b) in
    let rest : 4 ≤ length (drop (csrc_end b) b) = omega arith in (
      (
        get_or (drop (csrc_end b) b) 0 0 ∷ get_or (drop (csrc_end b) b) 1 0 ∷ [],
        slice_index b (csrc_end b + 2),
        slice_index b (csrc_end b + 3),
        take size (drop 4 (drop (csrc_end b) b)),
        refl,
        length-take-le size (drop 4 (drop (csrc_end b) b)) (omega (arith, length-drop 4 (drop (csrc_end b) b))),
        (rw d (take_four (drop (csrc_end b) b) size room ∙ rw (get_or-drop (csrc_end b) b 2 0, get_or-drop (csrc_end b) b 3 0) refl)),
      ),
      omega arith,
    )

-- no padding,
no_padding : (b : List ℕ) → IsPadding false (drop (length b) b)
no_padding b = drop_all (length b) b (let e : length b ≤ length b = omega arith in e)

-- and padding of n bytes
found_padding : (b : List ℕ) (n : ℕ) → 0 < n → n ≤ length b → last_byte b ≡ n → IsPadding true (drop (length b - n) b)
found_padding b n some few last =
    let size : length (drop (length b - n) b) ≡ n = omega (arith, length-drop (length b - n) b) in
    let all : take n (drop (length b - n) b) ≡ drop (length b - n) b = ap (λ k. take k (drop (length b - n) b)) (sym size) ∙ take-length (drop (length b - n) b) in
    let more : take ((n - 1) + 1) (drop (length b - n) b) ≡ take (n - 1) (drop (length b - n) b) ++ get_or (drop (length b - n) b) (n - 1) 0 ∷ [] = take_more (drop (length b - n) b) (n - 1) 0 (omega arith) in
    let back : n - 1 + 1 ≡ n = omega arith in
    let item : get_or (drop (length b - n) b) (n - 1) 0 ≡ n = get_or-drop (length b - n) b (n - 1) 0 ∙ (ap (λ k. get_or b k 0) (let e : length b - n + (n - 1) ≡ length b - 1 = omega arith in e) ∙ last) in
    let front : length (take (n - 1) (drop (length b - n) b)) + 1 ≡ n = omega (arith, length-take-le (n - 1) (drop (length b - n) b) (omega arith)) in
    (take (n - 1) (drop (length b - n) b), sym all ∙ (ap (λ k. take k (drop (length b - n) b)) (sym back) ∙ (more ∙ rw (item, front) refl)))

-- the first twelve bytes
first_twelve : (b : List ℕ) → 12 ≤ length b
    → take 12 b ≡ slice_index b 0 ∷ slice_index b 1 ∷ slice_index b 2 ∷ slice_index b 3 ∷ slice_index b 4 ∷ slice_index b 5 ∷ slice_index b 6 ∷ slice_index b 7 ∷ slice_index b 8 ∷ slice_index b 9 ∷ slice_index b 10 ∷ slice_index b 11 ∷ []
first_twelve (a0 ∷ a1 ∷ a2 ∷ a3 ∷ a4 ∷ a5 ∷ a6 ∷ a7 ∷ a8 ∷ a9 ∷ a10 ∷ a11 ∷ b) h = refl
first_twelve b h = absurd (omega arith)

-- a byte with its flags
whole_first : (f : ℕ) (p x : Bool) → f < 256 → f / 64 ≡ 2 → (f / 32 % 2 == 1) ≡ p → (f / 16 % 2 == 1) ≡ x → f ≡ 128 + bit p * 32 + bit x * 16 + f % 16
whole_first f true true h v p x = let a : f / 32 % 2 ≡ 1 = grind (arith, nat_tests) in let c : f / 16 % 2 ≡ 1 = grind (arith, nat_tests) in omega arith
whole_first f true false h v p x = let a : f / 32 % 2 ≡ 1 = grind (arith, nat_tests) in let c : f / 16 % 2 ≡ 0 = grind (arith, nat_tests) in omega arith
whole_first f false true h v p x = let a : f / 32 % 2 ≡ 0 = grind (arith, nat_tests) in let c : f / 16 % 2 ≡ 1 = grind (arith, nat_tests) in omega arith
whole_first f false false h v p x = let a : f / 32 % 2 ≡ 0 = grind (arith, nat_tests) in let c : f / 16 % 2 ≡ 0 = grind (arith, nat_tests) in omega arith

whole_second : (f : ℕ) (m : Bool) → f < 256 → nat_le 128 f ≡ m → f ≡ bit m * 128 + f % 128
whole_second f true h m = let a : 128 ≤ f = grind (arith, nat_tests) in omega arith
whole_second f false h m = let a : f < 128 = grind (arith, nat_tests) in omega arith

-- two bytes and four are those of the number that they spell
two_back : (x y : ℕ) → x < 256 → y < 256 → (x ≡ (x * 256 + y) / 256) × (y ≡ (x * 256 + y) % 256) × (x * 256 + y < 2 ^ 16)
two_back x y fx fy = (omega arith, omega arith, omega arith)

four_back : (x y z w : ℕ) → x < 256 → y < 256 → z < 256 → w < 256
    → (x ≡ ((x * 256 + y) * 65536 + (z * 256 + w)) / 16777216) × (y ≡ ((x * 256 + y) * 65536 + (z * 256 + w)) / 65536 % 256) × (z ≡ ((x * 256 + y) * 65536 + (z * 256 + w)) / 256 % 256) × (w ≡ ((x * 256 + y) * 65536 + (z * 256 + w)) % 256) × ((x * 256 + y) * 65536 + (z * 256 + w) < 2 ^ 32)
four_back x y z w fx fy fz fw = (omega arith, omega arith, omega arith, omega arith, omega arith)

found_fixed : (b : List ℕ) (p x : Bool) → IsBytes b → 12 ≤ length b → version b ≡ 2 → is_padded b ≡ p → (slice_index b 0 / 16 % 2 == 1) ≡ x → (take 12 b ≡ fixed_header (rtp_fields b) p x (slice_index b 0 % 16)) × FitRtp (rtp_fields b)
found_fixed b p x fits twelve v ep ex =
    let first = whole_first (slice_index b 0) p x (fits 0) v ep ex in
    let second = whole_second (slice_index b 1) (nat_le 128 (slice_index b 1)) (fits 1) refl in
    let n = two_back (slice_index b 2) (slice_index b 3) (fits 2) (fits 3) in
    let t = four_back (slice_index b 4) (slice_index b 5) (slice_index b 6) (slice_index b 7) (fits 4) (fits 5) (fits 6) (fits 7) in
    let s = four_back (slice_index b 8) (slice_index b 9) (slice_index b 10) (slice_index b 11) (fits 8) (fits 9) (fits 10) (fits 11) in (
      first_twelve b twelve ∙ (
          let e0 = first in let e1 = second in let e2 = n.0 in let e3 = n.1 in
          let e4 = t.0 in let e5 = t.1 in let e6 = t.2 in let e7 = t.3 in
          let e8 = s.0 in let e9 = s.1 in let e10 = s.2 in let e11 = s.3 in cc),
      record { kind = omega arith; number = n.2; stamp = t.4; source = s.4 },
    )

-- the parts of a datagram that is read
found_parts : (b : List ℕ) (p : Bool) → IsBytes b → 12 ≤ length b → version b ≡ 2 → is_padded b ≡ p → header_length b ≤ payload_end b → payload_end b ≤ length b → IsPadding p (drop (payload_end b) b)
    → IsRtp (rtp_fields b) (take (header_length b) b) (slice_range b (header_length b) (payload_end b)) b
found_parts b p fits twelve v ep from within ip =
    let ext = found_extension b (slice_index b 0 / 16 % 2 == 1) refl (omega arith) in
    let after : csrc_end b ≤ header_length b = ext.1 in
    let fixed = found_fixed b p (slice_index b 0 / 16 % 2 == 1) fits twelve v ep refl in
    let few : slice_index b 0 % 16 < 16 = omega arith in
    let front : length (take 12 b) ≡ 12 = length-take-le 12 b twelve in
    let list : length (slice_range b 12 (csrc_end b)) ≡ csrc_end b - 12 = long_range b 12 (csrc_end b) (omega arith) (omega arith) in
    let more : length (slice_range b (csrc_end b) (header_length b)) ≡ header_length b - csrc_end b = long_range b (csrc_end b) (header_length b) after (omega arith) in
    let split : b ≡ (take 12 b ++ (slice_range b 12 (csrc_end b) ++ slice_range b (csrc_end b) (header_length b))) ++ drop (header_length b) b =
    sym (take-append-drop 12 b) ∙ (ap (λ (l : List ℕ). take 12 b ++ l) (drop_split b 12 (csrc_end b) (omega arith) ∙ (ap (λ (l : List ℕ). slice_range b 12 (csrc_end b) ++ l) (drop_split b (csrc_end b) (header_length b) after)
    ∙ sym (append_assoc (slice_range b 12 (csrc_end b)) (slice_range b (csrc_end b) (header_length b)) (drop (header_length b) b))))
    ∙ sym (append_assoc (take 12 b) (slice_range b 12 (csrc_end b) ++ slice_range b (csrc_end b) (header_length b)) (drop (header_length b) b))) in
    let size : length (take 12 b ++ (slice_range b 12 (csrc_end b) ++ slice_range b (csrc_end b) (header_length b))) ≡ header_length b =
    omega (arith, length-append (take 12 b) (slice_range b 12 (csrc_end b) ++ slice_range b (csrc_end b) (header_length b)), length-append (slice_range b 12 (csrc_end b)) (slice_range b (csrc_end b) (header_length b))) in
    record {
      padded = p;
      extended = slice_index b 0 / 16 % 2 == 1;
      sources = slice_index b 0 % 16;
      csrc = slice_range b 12 (csrc_end b);
      extension = slice_range b (csrc_end b) (header_length b);
      padding = drop (payload_end b) b;
      fit = fixed.1;
      few_sources = few;
      is_csrc = list ∙ (let e : csrc_end b - 12 ≡ 4 * (slice_index b 0 % 16) = omega arith in e);
      is_extension = ext.0;
      is_padding = ip;
      is_header =
          front_of (take 12 b ++ (slice_range b 12 (csrc_end b) ++ slice_range b (csrc_end b) (header_length b))) (drop (header_length b) b) b (header_length b) split size
          ∙ ap (λ (l : List ℕ). l ++ (slice_range b 12 (csrc_end b) ++ slice_range b (csrc_end b) (header_length b))) fixed.0;
      whole = sym (take-append-drop (header_length b) b) ∙ ap (λ (l : List ℕ). take (header_length b) b ++ l) (drop_split b (header_length b) (payload_end b) from);
    }

-- the padding is there, and so is all before it
found_end : (b : List ℕ) (p : Bool) → is_padded b ≡ p → header_length b ≤ length b → is_padding_sound b ≡ true → (header_length b ≤ payload_end b) × (payload_end b ≤ length b) × IsPadding p (drop (payload_end b) b)
found_end b false ep within sound =
    let end : payload_end b ≡ length b = rw ep refl in
    (omega arith, omega arith, rw end (no_padding b))
found_end b true ep within sound =
    let end : payload_end b ≡ length b - last_byte b = rw ep refl in
    let tests : (nat_le 1 (last_byte b) && nat_le (last_byte b) (length b - header_length b)) ≡ true = rw ep at sound in
    let both = all_held (nat_le 1 (last_byte b)) (nat_le (last_byte b) (length b - header_length b)) true true (rw tests refl) in
    let t0 : nat_le 1 (last_byte b) ≡ true = both.0 in
    let t1 : nat_le (last_byte b) (length b - header_length b) ≡ true = both.1 in
    let some : 0 < last_byte b = grind (arith, nat_tests) in
    let few : last_byte b ≤ length b - header_length b = grind (arith, nat_tests) in
    (omega arith, omega arith, rw end (found_padding b (last_byte b) some (omega arith) refl))

pub rtp_reads_as_laid_out : RtpReadsAsLaidOut
rtp_reads_as_laid_out b fits e =
    let tests = all_held (nat_le 12 (length b)) (version b == 2) (nat_le (header_length b) (length b)) (is_padding_sound b) e in
    let twelve : 12 ≤ length b = (let t = tests.0 in grind (arith, nat_tests)) in
    let two : version b ≡ 2 = (let t = tests.1 in grind (arith, nat_tests)) in
    let within : header_length b ≤ length b = (let t = tests.2 in grind (arith, nat_tests)) in
    let end = found_end b (is_padded b) refl within tests.3 in
    found_parts b (is_padded b) fits twelve two refl end.0 end.1 end.2
