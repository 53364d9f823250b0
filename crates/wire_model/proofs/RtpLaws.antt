-- An RTP datagram that is laid out so is read so.
use Rattle.std.proofs.Common.{◌≡◌, ◌<◌, ◌≤◌, ◌+◌, ◌-◌, ◌*◌, ◌/◌, ◌%◌, ◌^◌, ℕ, suc, Bool, true, false, List, [], ◌∷◌, ◌++◌, length, get_or, refl, sym, ap, ◌∙◌, arith, append_assoc, nat_le}
use Rattle.std.specs.Prelude.{slice_index, ◌==◌}
use Rattle.std.proofs.lemmas.Bool.Decides.{nat_tests}
use Rattle.std.proofs.lemmas.List.{length-append}
use Rattle.wire_model.specs.Bytes.{bit, two_at, four_at}
use Rattle.wire_model.specs.Rtp.{RtpFields, FitRtp, IsRtp, IsExtension, IsPadding, fixed_header, version, header_length, last_byte}
use Rattle.wire_model.specs.RtpReading.{is_rtp, rtp_fields, is_padded, is_padding_sound, payload_end}
use Rattle.wire_model.specs.Laws.{RtpIsReadOneWay}
use Rattle.wire_model.proofs.Lists.{behind, last_behind, front_of, range_behind}

-- the header's length without an extension,
pub length_plain : (b : List ℕ) (f : ℕ) → slice_index b 0 ≡ f → f / 16 % 2 ≡ 0 → header_length b ≡ 12 + 4 * (f % 16)
length_plain b f e z = rw (e, z) refl

-- and with one
pub length_extended : (b : List ℕ) (f k high low : ℕ) → slice_index b 0 ≡ f → f / 16 % 2 ≡ 1 → k ≡ 12 + 4 * (f % 16) → slice_index b (k + 2) ≡ high → slice_index b (k + 3) ≡ low → header_length b ≡ k + 4 + 4 * (high * 256 + low)
length_extended b f k high low e z ke hi lo = rw (e, z, ← ke) (let at : k + 2 + 1 ≡ k + 3 = omega arith in rw (at, hi, lo) refl)

-- what follows the profile's own two bytes
after_profile : (profile tail : List ℕ) (k : ℕ) → length profile ≡ 2 → get_or (profile ++ tail) (2 + k) 0 ≡ get_or tail k 0
after_profile profile tail k two = ap (λ n. get_or (profile ++ tail) n 0) (let e : 2 + k ≡ length profile + k = omega arith in e) ∙ behind profile tail k

-- where the parts are, the reader finds them
reads_length : (x : Bool) (s f : ℕ) (b front csrc extension rest : List ℕ) → f / 16 % 2 ≡ bit x → f % 16 ≡ s → slice_index b 0 ≡ f → length front ≡ 12 → length csrc ≡ 4 * s → IsExtension x extension → b ≡ (front ++ csrc) ++ (extension ++ rest)
    → header_length b ≡ 12 + length csrc + length extension
reads_length false s f b front csrc extension rest fe fs e lf lc ie w = length_plain b f e fe ∙ (let z : length extension ≡ 0 = ap length ie in omega arith)
reads_length true s f b front csrc extension rest fe fs e lf lc (profile, high, low, words, two, lw, ie) w =
    let k : length (front ++ csrc) ≡ 12 + 4 * (f % 16) = omega (arith, length-append front csrc) in
    let parts : extension ++ rest ≡ profile ++ ((high ∷ low ∷ words) ++ rest) = ap (λ (l : List ℕ). l ++ rest) ie ∙ append_assoc profile (high ∷ low ∷ words) rest in
    let at : slice_index b (length (front ++ csrc) + 2) ≡ high = rw w (behind (front ++ csrc) (extension ++ rest) 2 ∙ rw parts (after_profile profile ((high ∷ low ∷ words) ++ rest) 0 two)) in
    let next : slice_index b (length (front ++ csrc) + 3) ≡ low = rw w (behind (front ++ csrc) (extension ++ rest) 3 ∙ rw parts (after_profile profile ((high ∷ low ∷ words) ++ rest) 1 two)) in
    let size : length extension ≡ 4 + length words = ap length ie ∙ (length-append profile (high ∷ low ∷ words) ∙ (let y : length profile + suc (suc (length words)) ≡ 4 + length words = omega arith in y)) in
    length_extended b f (length (front ++ csrc)) high low e fe k at next ∙ omega arith

-- the marker's bit
marked : (m : Bool) (k : ℕ) → k < 2 ^ 7 → nat_le 128 (bit m * 128 + k) ≡ m
marked true k h = grind (arith, nat_tests)
marked false k h = grind (arith, nat_tests)

type_below : (m : Bool) (k : ℕ) → k < 2 ^ 7 → (bit m * 128 + k) % 128 ≡ k
type_below true k h = omega arith
type_below false k h = omega arith

-- what the first byte's parts are
first_byte : (p x : Bool) (s : ℕ) → s < 16 → ((128 + bit p * 32 + bit x * 16 + s) / 64 ≡ 2) × ((128 + bit p * 32 + bit x * 16 + s) / 32 % 2 ≡ bit p) × ((128 + bit p * 32 + bit x * 16 + s) / 16 % 2 ≡ bit x) × ((128 + bit p * 32 + bit x * 16 + s) % 16 ≡ s)
first_byte true true s h = (omega arith, omega arith, omega arith, omega arith)
first_byte true false s h = (omega arith, omega arith, omega arith, omega arith)
first_byte false true s h = (omega arith, omega arith, omega arith, omega arith)
first_byte false false s h = (omega arith, omega arith, omega arith, omega arith)

-- the values, each where it is read
same_fields : (b : List ℕ) (h : RtpFields) → nat_le 128 (slice_index b 1) ≡ h.marker → slice_index b 1 % 128 ≡ h.kind → two_at b 2 ≡ h.number → four_at b 4 ≡ h.stamp → four_at b 8 ≡ h.source → h ≡ rtp_fields b
same_fields b h m k n t s = rw (m, k, n, t, s) refl

four_back : (n : ℕ) → (n / 16777216 * 256 + n / 65536 % 256) * 65536 + (n / 256 % 256 * 256 + n % 256) ≡ n
four_back n = omega arith

-- the values that a datagram starts with
reads_fields : (h : RtpFields) (p x : Bool) (s : ℕ) (rest b : List ℕ) → FitRtp h → b ≡ fixed_header h p x s ++ rest → h ≡ rtp_fields b
reads_fields h p x s rest b fit w = same_fields b h
    (rw w (marked h.marker h.kind fit.kind))
    (rw w (type_below h.marker h.kind fit.kind))
    (rw w (let e : h.number / 256 * 256 + h.number % 256 ≡ h.number = omega arith in e))
    (rw w (four_back h.stamp))
    (rw w (four_back h.source))

-- what the layout says of the header's bytes
record Seen (h : RtpFields) (b header payload padding : List ℕ) (padded : Bool) : Type 0 where
  first : version b ≡ 2
  flagged : slice_index b 0 / 32 % 2 ≡ bit padded
  fields : h ≡ rtp_fields b
  end : header_length b ≡ length header
  twelve : 12 ≤ length header
  whole : b ≡ (header ++ payload) ++ padding

seen : (h : RtpFields) (b header payload : List ℕ) (r : IsRtp h header payload b) → Seen h b header payload r.padding r.padded
seen h b header payload r =
    let front = fixed_header h r.padded r.extended r.sources in
    let all : b ≡ front ++ ((r.csrc ++ r.extension) ++ (payload ++ r.padding)) = r.whole ∙ (ap (λ (l : List ℕ). l ++ (payload ++ r.padding)) r.is_header ∙ append_assoc front (r.csrc ++ r.extension) (payload ++ r.padding)) in
    let e0 : slice_index b 0 ≡ 128 + bit r.padded * 32 + bit r.extended * 16 + r.sources = rw all refl in
    let bits = first_byte r.padded r.extended r.sources r.few_sources in
    let lf : length (fixed_header h r.padded r.extended r.sources) ≡ 12 = refl in
    let split : b ≡ (front ++ r.csrc) ++ (r.extension ++ (payload ++ r.padding)) =
    all ∙ (ap (λ (l : List ℕ). front ++ l) (append_assoc r.csrc r.extension (payload ++ r.padding)) ∙ sym (append_assoc front r.csrc (r.extension ++ (payload ++ r.padding)))) in
    let end : header_length b ≡ 12 + length r.csrc + length r.extension = reads_length r.extended r.sources _ b front r.csrc r.extension (payload ++ r.padding) bits.2 bits.3 e0 lf r.is_csrc r.is_extension split in
    let size : length header ≡ 12 + (length r.csrc + length r.extension) = ap length r.is_header ∙ (length-append front (r.csrc ++ r.extension) ∙ ap (λ n. 12 + n) (length-append r.csrc r.extension)) in
    record {
      first = rw e0 bits.0;
      flagged = rw e0 bits.1;
      fields = reads_fields h r.padded r.extended r.sources ((r.csrc ++ r.extension) ++ (payload ++ r.padding)) b r.fit all;
      end = omega arith;
      twelve = omega arith;
      whole = r.whole ∙ sym (append_assoc header payload r.padding);
    }

-- the tests of a reader, all together
sound_plain : (b : List ℕ) → is_padded b ≡ false → (is_padding_sound b ≡ true) × (payload_end b ≡ length b)
sound_plain b p = (rw p refl, rw p refl)

sound_padded : (b : List ℕ) → is_padded b ≡ true → nat_le 1 (last_byte b) ≡ true → nat_le (last_byte b) (length b - header_length b) ≡ true → (is_padding_sound b ≡ true) × (payload_end b ≡ length b - last_byte b)
sound_padded b p one few = (rw (p, one, few) refl, rw p refl)

all_tests : (b : List ℕ) → nat_le 12 (length b) ≡ true → (version b == 2) ≡ true → nat_le (header_length b) (length b) ≡ true → is_padding_sound b ≡ true → is_rtp b ≡ true
all_tests b t1 t2 t3 t4 = rw (t1, t2, t3, t4) refl

-- the padding, as it is laid out, is read so
reads_padding : (h : RtpFields) (b header payload padding : List ℕ) (p : Bool) → IsPadding p padding → Seen h b header payload padding p → (is_padding_sound b ≡ true) × (length header + length payload ≡ payload_end b)
reads_padding h b header payload padding false ip v =
    let flagged = v.flagged in
    let none : length padding ≡ 0 = ap length ip in
    let total : length b ≡ length (header ++ payload) + length padding = ap length v.whole ∙ length-append (header ++ payload) padding in
    let t : is_padded b ≡ false = grind (arith, nat_tests) in
    let s = sound_plain b t in
    (s.0, (let e : length header + length payload ≡ length b = omega (arith, length-append header payload) in e) ∙ sym s.1)
reads_padding h b header payload padding true (front, ip) v =
    let flagged = v.flagged in let end = v.end in
    let some : length padding ≡ length front + 1 = ap length ip ∙ length-append front ((length front + 1) ∷ []) in
    let total : length b ≡ length (header ++ payload) + length padding = ap length v.whole ∙ length-append (header ++ payload) padding in
    let both : length (header ++ payload) ≡ length header + length payload = length-append header payload in
    let last : last_byte b ≡ length front + 1 = rw (v.whole, ip, ← append_assoc) (last_behind ((header ++ payload) ++ front) (length front + 1)) in
    let t : is_padded b ≡ true = grind (arith, nat_tests) in
    let t1 : nat_le 1 (last_byte b) ≡ true = grind (arith, nat_tests) in
    let t2 : nat_le (last_byte b) (length b - header_length b) ≡ true = grind (arith, nat_tests) in
    let s = sound_padded b t t1 t2 in
    (s.0, (let e : length header + length payload ≡ length b - last_byte b = omega arith in e) ∙ sym s.1)

pub rtp_is_read_one_way : RtpIsReadOneWay
rtp_is_read_one_way h header payload b r =
    let v = seen h b header payload r in
    let first = v.first in let end = v.end in let twelve = v.twelve in
    let padding = reads_padding h b header payload r.padding r.padded r.is_padding v in
    let total : length b ≡ length (header ++ payload) + length r.padding = ap length v.whole ∙ length-append (header ++ payload) r.padding in
    let both : length (header ++ payload) ≡ length header + length payload = length-append header payload in
    let t1 : nat_le 12 (length b) ≡ true = grind (arith, nat_tests) in
    let t2 : (version b == 2) ≡ true = grind (arith, nat_tests) in
    let t3 : nat_le (header_length b) (length b) ≡ true = grind (arith, nat_tests) in (
      all_tests b t1 t2 t3 padding.0,
      v.fields,
      sym (front_of header (payload ++ r.padding) b (header_length b) r.whole (sym end)),
      range_behind header payload r.padding b (header_length b) (payload_end b) end (sym padding.1) v.whole,
      padding.1,
      end,
    )
