-- A capture is delivered or refused, and in one way.
use Rattle.std.proofs.Common.{◌≡◌, ◌⊎◌, ◌<◌, ◌≤◌, ◌+◌, ◌-◌, ℕ, zero, suc, max, Bool, List, [], ◌∷◌, length, drop, nat_le, Option, Some, None, refl, sym, ◌∙◌, ap, inl, inr, arith, if◌then◌else◌}
use Rattle.std.specs.List.{AllByRecursion, find, range_with_len}
use Rattle.std.proofs.lemmas.Bool.{cases_lt, le-leb, lt-leb}
use Rattle.std.proofs.lemmas.List.{append-nil}
use Rattle.wire_model.specs.Framing.{framing, whole_frames, Splits}
use Rattle.wire_model.proofs.FramingLaws.{frames_are_computed, bytes_split}
use Rattle.delivery_model.specs.Delivering.{Range, positions_of, frames_at, first_missing, DeliverRefusal, CaptureTooLong, CutFrame, NoSuchDatagram, EndsInFrame, LacksPosition, DeliverRefuses, Delivers}
use Rattle.delivery_model.specs.DeliveringLaws.{CapturesAreDeliveredOrRefused, DeliverHasOneAnswer, DeliveredAreListed, MissingIsGreater}

-- what is done with a capture
Answered : List Range → List ℕ → Type 0
Answered list input = ((frames : List (List ℕ)) × Delivers list input frames) ⊎ ((at : ℕ) × (why : DeliverRefusal) × DeliverRefuses list input at why)

-- by the first missing position
by_missing : (list : List Range) (input : List ℕ) (frames : List (List ℕ)) (o : Option ℕ) → length input ≤ 268435456 → Splits input frames [] → first_missing list (length frames) ≡ o → Answered list input
unfolding Answered
by_missing list input frames None short s e = inl (frames, record { splits = s; short = short; has_all = e })
by_missing list input frames (Some at) short s e = inr (at, NoSuchDatagram, (short, record { frames = frames; splits = s; missing = e }))

-- by what is left after the whole frames
by_rest : (list : List Range) (input : List ℕ) (frames : List (List ℕ)) (rest : List ℕ) → length input ≤ 268435456 → Splits input frames rest → Answered list input
unfolding Answered
by_rest list input frames [] short s = by_missing list input frames (first_missing list (length frames)) short s refl
by_rest list input frames (b ∷ rest) short s =
    inr (length (framing frames), CutFrame, (short, record { frames = frames; rest = b ∷ rest; splits = s; some = omega arith; place = refl }))

pub captures_are_delivered_or_refused : CapturesAreDeliveredOrRefused
unfolding Answered
captures_are_delivered_or_refused list input fits = elim (cases_lt 268435456 (length input)) [
  | inl long ↦ inr (268435456, CaptureTooLong, (long, refl))
  | inr short ↦ by_rest list input (whole_frames input) (drop (length (framing (whole_frames input))) input) short (bytes_split input fits)
]

-- bytes split in one way
one_frames : (input : List ℕ) (frames others : List (List ℕ)) (rest more : List ℕ) → Splits input frames rest → Splits input others more → (frames ≡ others) × (rest ≡ more)
one_frames input frames others rest more s t =
    let a = frames_are_computed input frames rest s in
    let b = frames_are_computed input others more t in
    (a.0 ∙ sym b.0, a.1 ∙ sym b.1)

-- a missing position is one
one_missing : (list : List Range) (input : List ℕ) (at place : ℕ) → LacksPosition list input at → LacksPosition list input place → at ≡ place
one_missing list input at place a b =
    let e : Some at ≡ Some place = sym a.missing ∙ (ap (λ (fs : List (List ℕ)). first_missing list (length fs)) (one_frames input a.frames b.frames [] [] a.splits b.splits).0 ∙ b.missing) in
    cc

-- where a frame is cut no position is asked for
not_both_cut : (list : List Range) (input : List ℕ) (at : ℕ) (frames : List (List ℕ)) → EndsInFrame input at → Splits input frames [] → ⊥
not_both_cut list input at frames a s = omega (arith, a.some, ap length (one_frames input a.frames frames a.rest [] a.splits s).1)

one_refusal : (list : List Range) (input : List ℕ) (at place : ℕ) (why reason : DeliverRefusal) → DeliverRefuses list input at why → DeliverRefuses list input place reason → (at ≡ place) × (why ≡ reason)
one_refusal list input at place CaptureTooLong CaptureTooLong a b = (a.1 ∙ sym b.1, refl)
one_refusal list input at place CaptureTooLong CutFrame a b = absurd (omega (arith, a.0, b.0))
one_refusal list input at place CaptureTooLong NoSuchDatagram a b = absurd (omega (arith, a.0, b.0))
one_refusal list input at place CutFrame CaptureTooLong a b = absurd (omega (arith, a.0, b.0))
one_refusal list input at place CutFrame CutFrame a b = (a.1.place ∙ (ap (λ (fs : List (List ℕ)). length (framing fs)) (one_frames input a.1.frames b.1.frames a.1.rest b.1.rest a.1.splits b.1.splits).0 ∙ sym b.1.place), refl)
one_refusal list input at place CutFrame NoSuchDatagram a b = absurd (not_both_cut list input at b.1.frames a.1 b.1.splits)
one_refusal list input at place NoSuchDatagram CaptureTooLong a b = absurd (omega (arith, a.0, b.0))
one_refusal list input at place NoSuchDatagram CutFrame a b = absurd (not_both_cut list input place a.1.frames b.1 a.1.splits)
one_refusal list input at place NoSuchDatagram NoSuchDatagram a b = (one_missing list input at place a.1 b.1, refl)

not_both : (list : List Range) (input : List ℕ) (frames : List (List ℕ)) (at : ℕ) (why : DeliverRefusal) → Delivers list input frames → DeliverRefuses list input at why → ⊥
not_both list input frames at CaptureTooLong d r = omega (arith, d.short, r.0)
not_both list input frames at CutFrame d r = not_both_cut list input at frames r.1 d.splits
not_both list input frames at NoSuchDatagram d r =
    let e : None ≡ Some at = sym d.has_all ∙ (ap (λ (fs : List (List ℕ)). first_missing list (length fs)) (one_frames input frames r.1.frames [] [] d.splits r.1.splits).0 ∙ r.1.missing) in
    absurd (cc)

pub deliver_has_one_answer : DeliverHasOneAnswer
deliver_has_one_answer = record { one_refusal = one_refusal; not_both = not_both }

-- where none is missing each is there
each_there : (frames : ℕ) (positions : List ℕ) → find (λ i. nat_le frames i) positions ≡ None → AllByRecursion (λ i. i < frames) positions
each_there frames [] e = tt
each_there frames (i ∷ positions) e = elim (cases_lt i frames) [
  | inl less ↦ (less, each_there frames positions (sym (ap (λ (b : Bool). if b then Some i else find (λ j. nat_le frames j) positions) (lt-leb frames i less)) ∙ e))
  | inr most ↦ let c : Some i ≡ None = sym (ap (λ (b : Bool). if b then Some i else find (λ j. nat_le frames j) positions) (le-leb frames i most)) ∙ e in absurd (cc)
]

pub delivered_are_listed : DeliveredAreListed
delivered_are_listed list input frames d = (
  ap (λ (fs : List (List ℕ)). framing (frames_at (positions_of list) fs)) (sym (frames_are_computed input frames [] d.splits).0),
  each_there (length frames) (positions_of list) d.has_all,
)

-- the first of consecutive numbers that isn't below one
missing_from : (n a frames : ℕ) → frames < a + n → 1 ≤ n → find (λ i. nat_le frames i) (range_with_len a n) ≡ Some (max a frames)
missing_from zero a frames less some = absurd (omega arith)
missing_from (suc n) a frames less some = elim (cases_lt a frames) [
  | inl low ↦
      ap (λ (b : Bool). if b then Some a else find (λ i. nat_le frames i) (range_with_len (a + 1) n)) (lt-leb frames a low)
      ∙ (missing_from n (a + 1) frames (omega arith) (omega arith) ∙ ap Some (let e : max (a + 1) frames ≡ max a frames = omega arith in e))
  | inr high ↦
      ap (λ (b : Bool). if b then Some a else find (λ i. nat_le frames i) (range_with_len (a + 1) n)) (le-leb frames a high)
      ∙ ap Some (let e : a ≡ max a frames = omega arith in e)
]

pub missing_is_greater : MissingIsGreater
missing_is_greater r frames up past =
    ap (find (λ i. nat_le frames i)) (append-nil (range_with_len r.first (r.last + 1 - r.first)))
    ∙ missing_from (r.last + 1 - r.first) r.first frames (omega arith) (omega arith)
