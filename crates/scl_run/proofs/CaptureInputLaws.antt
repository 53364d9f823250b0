-- A capture has one verdict, which stays.
use Rattle.std.proofs.Common.{◌≡◌, ◌<◌, ◌+◌, ℕ, List, [], ◌++◌, length, sym, ◌∙◌, ap, subst, arith, inl, inr}
use Rattle.std.proofs.lemmas.List.{append-nil, length-append}
use Rattle.wire_model.specs.Framing.{framing}
use Rattle.wire_model.proofs.FramingLaws.{splits_one_way}
use Rattle.capture_frames.specs.Reading.{input_limit}
use Rattle.scl_run.specs.declared.ending.Reason.TheVariants.{CutFrame}
use Rattle.scl_run.specs.declared.ending.Refusal.{Refusal}
use Rattle.scl_run.specs.InputClass.{IsLawful}
use Rattle.scl_run.specs.CaptureInput.{IsCapture, IsCutAt, RefusesCapture, capture_input}
use Rattle.scl_run.proofs.InputClassLaws.{same_refusal}

one : (input : List ℕ) (r : Refusal) → IsCapture input → RefusesCapture input r → ⊥
one input r a (inl (is, cut)) = cut.some (splits_one_way input cut.frames a.1.0 cut.rest [] cut.splits a.1.1).1
one input r a (inr (is, long, at)) = let few = a.0 in omega arith

-- a capture is cut at one place
cut_once : (input : List ℕ) (at place : ℕ) → IsCutAt input at → IsCutAt input place → at ≡ place
cut_once input at place c d = c.place ∙ (ap (λ (l : List (List ℕ)). length (framing l)) (splits_one_way input c.frames d.frames c.rest d.rest c.splits d.splits).0 ∙ sym d.place)

one_refusal : (input : List ℕ) (r q : Refusal) → RefusesCapture input r → RefusesCapture input q → r ≡ q
one_refusal input r q (inl (is, c)) (inl (also, d)) = same_refusal r q (cut_once input r.at q.at c d) (is ∙ sym also)
one_refusal input r q (inl (is, c)) (inr (also, long, at)) = absurd (let few = c.short in omega arith)
one_refusal input r q (inr (is, long, at)) (inl (also, d)) = absurd (let few = d.short in omega arith)
one_refusal input r q (inr (is, long, at)) (inr (also, more, place)) = same_refusal r q (at ∙ sym place) (is ∙ sym also)

-- what was read to its end is the input
to_end : (read rest : List ℕ) → rest ≡ [] → read ≡ read ++ rest
to_end read rest e = sym (ap (λ (l : List ℕ). read ++ l) e ∙ append-nil read)

accepted : (read rest : List ℕ) → IsCapture read → (Unit {0} → rest ≡ []) → IsCapture (read ++ rest)
accepted read rest a end = subst IsCapture (to_end read rest (end tt)) a

refused : (read rest : List ℕ) (r : Refusal) → RefusesCapture read r → (r.reason ≡ CutFrame → rest ≡ []) → RefusesCapture (read ++ rest) r
refused read rest r (inl (is, cut)) end = let P : List ℕ → Type 0 = λ l. RefusesCapture l r in subst P (to_end read rest (end is)) (inl (is, cut))
refused read rest r (inr (is, long, at)) end = inr (is, omega (arith, length-append read rest), at)

waits_to_refuse : (read : List ℕ) (r : Refusal) → length read < input_limit + 1 → RefusesCapture read r → r.reason ≡ CutFrame
waits_to_refuse read r few (inl (is, cut)) = is
waits_to_refuse read r few (inr (is, long, at)) = absurd (omega arith)

pub capture_input_is_lawful : IsLawful capture_input
capture_input_is_lawful = record {
  one = one;
  one_refusal = one_refusal;
  accepted = accepted;
  refused = refused;
  waits_to_accept = λ read wants a. tt;
  waits_to_refuse = λ read r wants h. waits_to_refuse read r (omega arith) h;
}
