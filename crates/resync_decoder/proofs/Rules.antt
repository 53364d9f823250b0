-- The rule that applies, and what carrying it out is.
use Rattle.std.proofs.Common.{◌≡◌, ◌≢◌, ◌≤◌, ◌<◌, ◌==◌, ℕ, Bool, true, false, List, ◌∷◌, Option, Some, refl, sym, ◌∙◌, ap, ap₂, subst, inl, inr, if◌then◌else◌}
use Rattle.std.proofs.lemmas.Bool.{le-leb, lt-leb}
use Rattle.std.proofs.lemmas.Bool.Decides.{eqb_tells}
use Rattle.codestream_model.specs.Values as values
use Rattle.stream_model.specs.Decoder as rules
use Rattle.stream_model.specs.Decoder.{Current, Ruling, Releases, Changes, Waits, Whole, Part, Other, found_packet, begin_instead, release, drop_run, is_place, rule_without_run, rule_of_packet, rule_before_mark, rule_at_mark, rule_in_run, rule_of_run}
use Rattle.resync_decoder.specs.declared.decoder.Rule.{Rule}
use Rattle.resync_decoder.specs.declared.found.Found.{Found}
use Rattle.resync_decoder.specs.declared.found.Found.TheVariants as found
use Rattle.resync_decoder.specs.States.{DecoderState, IsFollowed, past, past_in, BeginsWith, GoesOn, given_of, IsSought, IsSoughtIn, Seeks}

-- a decoder with a main header and a run
pub record InRun (d : rules.Decoder) : Type 0 where
  pub current : Current
  pub place : values.Place
  pub later : List values.Place
  pub is : d.current ≡ Some current
  pub runs : d.run ≡ Some (place ∷ later)

-- what is carried out of the same ruling
pub same_ruling : (r s : Ruling) (answer : Rule) (t : DecoderState) → r ≡ s → IsFollowed s answer t → IsFollowed r answer t
same_ruling r s answer t e f = let P : Ruling → Type 0 = λ x. IsFollowed x answer t in subst P (sym e) f

-- the rule in a run
in_run : (d : rules.Decoder) (i : InRun d) → rules.rule d d.current ≡ rule_in_run d i.current i.place i.later d.mark
in_run d i = ap (rules.rule d) i.is ∙ ap (rule_of_run d i.current) i.runs

at_mark : (d : rules.Decoder) (i : InRun d) (m : rules.Mark) → d.mark ≡ Some m → m.at ≡ 0 → rules.rule d d.current ≡ rule_at_mark d i.current m i.place
at_mark d i m is zero =
    let t : (m.at == 0) ≡ true = elim (eqb_tells m.at 0) [ inl u ↦ u.0 | inr u ↦ absurd (u.1 zero) ] in
    in_run d i ∙ (ap (rule_in_run d i.current i.place i.later) is
    ∙ ap (λ (b : Bool). if b then rule_at_mark d i.current m i.place else rule_before_mark d i.current m i.place i.later (found_packet i.current.head i.place d.bytes)) t)

before_mark : (d : rules.Decoder) (i : InRun d) (m : rules.Mark) → d.mark ≡ Some m → m.at ≢ 0
    → rules.rule d d.current ≡ rule_before_mark d i.current m i.place i.later (found_packet i.current.head i.place d.bytes)
before_mark d i m is some =
    let t : (m.at == 0) ≡ false = elim (eqb_tells m.at 0) [ inr u ↦ u.0 | inl u ↦ absurd (some u.1) ] in
    in_run d i ∙ (ap (rule_in_run d i.current i.place i.later) is
    ∙ ap (λ (b : Bool). if b then rule_at_mark d i.current m i.place else rule_before_mark d i.current m i.place i.later (found_packet i.current.head i.place d.bytes)) t)

-- what was looked for in a run
sought_in : (d : rules.Decoder) (i : InRun d) (answer : Found) (s : DecoderState) → Seeks d answer s → IsSought d i.current i.place (found_packet i.current.head i.place d.bytes) answer s.given
sought_in d i answer s seeks =
    let P : Option Current → Type 0 = λ o. IsSoughtIn d o d.run answer s.given in
    let Q : Option (List values.Place) → Type 0 = λ o. IsSoughtIn d (Some i.current) o answer s.given in
    subst Q i.runs (subst P i.is seeks.sought)

whole_by : (d : rules.Decoder) (c : Current) (p : values.Place) (f : rules.Found) (header size : ℕ) (g : Option rules.Release) → IsSought d c p f (found.Whole header size) g
    → (blocks : List values.Block) × (f ≡ Whole blocks header size) × (g ≡ Some (given_of d c p blocks header size))
whole_by d c p (Whole blocks h n) header size g (is, given) =
    let a : h ≡ header = cc in
    let b : n ≡ size = cc in
    (blocks, ap₂ (λ x y. Whole blocks x y) a b, given ∙ ap₂ (λ x y. Some (given_of d c p blocks x y)) a b)
whole_by d c p Part header size g is = absurd (cc)
whole_by d c p Other header size g is = absurd (cc)

part_by : (d : rules.Decoder) (c : Current) (p : values.Place) (f : rules.Found) (g : Option rules.Release) → IsSought d c p f found.Part g → f ≡ Part
part_by d c p (Whole blocks h n) g (is, given) = absurd (cc)
part_by d c p Part g is = refl
part_by d c p Other g is = absurd (cc)

other_by : (d : rules.Decoder) (c : Current) (p : values.Place) (f : rules.Found) (g : Option rules.Release) → IsSought d c p f found.Other g → f ≡ Other
other_by d c p (Whole blocks h n) g (is, given) = absurd (cc)
other_by d c p Part g is = absurd (cc)
other_by d c p Other g is = refl

-- a packet that is given
goes_on : (d : rules.Decoder) (i : InRun d) (s t : DecoderState) (answer : Rule) (blocks : List values.Block) (header size : ℕ) → s.rules ≡ d → s.given ≡ Some (given_of d i.current i.place blocks header size) → GoesOn s size answer t
    → IsFollowed (release d i.current i.place i.later blocks header size) answer t
goes_on d i s t answer blocks header size same given (is, now) =
    let rest : past s.rules size ≡ past_in d size (Some (i.place ∷ i.later)) = ap (λ x. past x size) same ∙ ap (past_in d size) i.runs in (
      is,
      now ∙ (ap (λ r. record { rules = r; given = s.given; waits = false }) rest
          ∙ ap (λ g. record { rules = past_in d size (Some (i.place ∷ i.later)); given = g; waits = false }) given),
    )

-- with a mark after the packet's start
pub released_before : (d : rules.Decoder) (i : InRun d) (m : rules.Mark) (s t : DecoderState) (answer : Rule) (header size : ℕ) → d.mark ≡ Some m → m.at ≢ 0 → size ≤ m.at
    → Seeks d (found.Whole header size) s → GoesOn s size answer t → IsFollowed (rules.rule d d.current) answer t
released_before d i m s t answer header size is some low seeks goes =
    let w = whole_by d i.current i.place _ header size s.given (sought_in d i (found.Whole header size) s seeks) in
    let r : rule_before_mark d i.current m i.place i.later (Whole w.0 header size) ≡ release d i.current i.place i.later w.0 header size =
    ap (λ (b : Bool). if b then release d i.current i.place i.later w.0 header size else Changes (begin_instead d i.current m)) (le-leb size m.at low) in
    same_ruling _ _ answer t (before_mark d i m is some ∙ (ap (rule_before_mark d i.current m i.place i.later) w.1 ∙ r)) (goes_on d i s t answer w.0 header size seeks.same w.2 goes)

-- the run begins anew
abbrev pub BeginsInstead : rules.Decoder → Rule → DecoderState → Type 0
BeginsInstead d answer t = (c : Current) (m : rules.Mark) → d.current ≡ Some c → d.mark ≡ Some m → IsFollowed (Changes (begin_instead d c m)) answer t

begins : (d : rules.Decoder) (i : InRun d) (m : rules.Mark) (s t : DecoderState) (answer : Rule) → d.mark ≡ Some m → s.rules ≡ d → BeginsInstead s.rules answer t → IsFollowed (Changes (begin_instead d i.current m)) answer t
begins d i m s t answer is same f = let P : rules.Decoder → Type 0 = λ x. BeginsInstead x answer t in (subst P same f) i.current m i.is is

pub instead_of_long : (d : rules.Decoder) (i : InRun d) (m : rules.Mark) (s t : DecoderState) (answer : Rule) (header size : ℕ) → d.mark ≡ Some m → m.at ≢ 0 → m.at < size
    → Seeks d (found.Whole header size) s → BeginsInstead s.rules answer t → IsFollowed (rules.rule d d.current) answer t
instead_of_long d i m s t answer header size is some long seeks f =
    let w = whole_by d i.current i.place _ header size s.given (sought_in d i (found.Whole header size) s seeks) in
    let r : rule_before_mark d i.current m i.place i.later (Whole w.0 header size) ≡ Changes (begin_instead d i.current m) =
    ap (λ (b : Bool). if b then release d i.current i.place i.later w.0 header size else Changes (begin_instead d i.current m)) (lt-leb size m.at long) in
    same_ruling _ _ answer t (before_mark d i m is some ∙ (ap (rule_before_mark d i.current m i.place i.later) w.1 ∙ r)) (begins d i m s t answer is seeks.same f)

pub instead_of_part : (d : rules.Decoder) (i : InRun d) (m : rules.Mark) (s t : DecoderState) (answer : Rule) → d.mark ≡ Some m → m.at ≢ 0
    → Seeks d found.Part s → BeginsInstead s.rules answer t → IsFollowed (rules.rule d d.current) answer t
instead_of_part d i m s t answer is some seeks f =
    let p = part_by d i.current i.place _ s.given (sought_in d i found.Part s seeks) in
    same_ruling _ _ answer t (before_mark d i m is some ∙ ap (rule_before_mark d i.current m i.place i.later) p) (begins d i m s t answer is seeks.same f)

pub dropped_before : (d : rules.Decoder) (i : InRun d) (m : rules.Mark) (s t : DecoderState) (answer : Rule) → d.mark ≡ Some m → m.at ≢ 0
    → Seeks d found.Other s → IsFollowed (Changes (drop_run s.rules)) answer t → IsFollowed (rules.rule d d.current) answer t
dropped_before d i m s t answer is some seeks f =
    let o = other_by d i.current i.place _ s.given (sought_in d i found.Other s seeks) in
    same_ruling _ _ answer t (before_mark d i m is some ∙ (ap (rule_before_mark d i.current m i.place i.later) o ∙ ap (λ x. Changes (drop_run x)) (sym seeks.same))) f

-- at the mark
pub meets : (d : rules.Decoder) (i : InRun d) (m : rules.Mark) (answer : Rule) (t : DecoderState) → d.mark ≡ Some m → m.at ≡ 0
    → ((c : Current) (m : rules.Mark) (p : values.Place) → d.current ≡ Some c → d.mark ≡ Some m → BeginsWith p d.run → IsFollowed (rule_at_mark d c m p) answer t)
    → IsFollowed (rules.rule d d.current) answer t
meets d i m answer t is zero f =
    let P : Option (List values.Place) → Type 0 = λ o. BeginsWith i.place o in
    same_ruling _ _ answer t (at_mark d i m is zero) (f i.current m i.place i.is is (subst P (sym i.runs) refl))
