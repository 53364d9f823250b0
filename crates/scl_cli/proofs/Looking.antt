-- A main header that is looked for in what was read so far.
use Rattle.std.proofs.Common.{◌≡◌, ◌≢◌, ◌≤◌, ◌+◌, ℕ, Bool, true, false, List, [], ◌∷◌, ◌++◌, length, take, refl, sym, subst, ◌∙◌, ap, arith, length-take-le}
use Rattle.std.specs.Prelude.{Result, Ok, Err}
use Rattle.std.proofs.lemmas.List.{append-nil, length-append}
use Rattle.std.proofs.Math.Seq.{take-append-add}
use Rattle.codestream_model.specs.Values.{Head}
use Rattle.codestream_model.specs.MainHeader.{SpellsHead}
use Rattle.codestream_model.specs.RefusedHeader.{RefusesHead}
use Rattle.codestream_model.specs.MainHeaderReading.{Refused as NoHeader, head_of}
use Rattle.j2k_markers.specs.declared.head.HeadWhy.{HeadWhy}
use Rattle.j2k_markers.specs.declared.head.HeadWhy.TheVariants.{Cut}
use Rattle.j2k_markers.specs.declared.head.HeadFault.{HeadFault}
use Rattle.j2k_markers.specs.Refusals.{refusal_of, read_as}
use Rattle.scl_outside.specs.Meaning.{Meaning}
use Rattle.scl_outside.specs.Events.{Event, Took, Ended, ReadFailed}
use Rattle.scl_outside.specs.Steps.{Step}
use Rattle.scl_outside.specs.Effects.{Effects, nothing, only_read, read_to_end, read_until_failed, effects}
use Rattle.scl_outside.specs.Traces.{Trace, AtReads}
use Rattle.scl_outside.proofs.Traces.{trace_join, trace_one, effects_more, at_reads_join}
use Rattle.scl_run.specs.declared.ending.Reason.TheVariants.{Header}
use Rattle.scl_run.specs.declared.ending.Ending.TheVariants.{ReadFault, Refused}
use Rattle.capture_frames.proofs.ReadEffects.{reads_passed}
use Rattle.scl_cli.specs.Finding.{HasNoHead, ReadsFor, IsLooking, FindGives, Finds}
use Rattle.scl_run.specs.declared.ending.Refusal.{Refusal}
use Rattle.scl_run.specs.HeaderInput.{LacksHeader}

-- so far these many bytes of a buffer came
pub record Looking (s t : Meaning) (len : ℕ) (buf : List ℕ) (es : List Event) : Type 0 where
  pub trace : Trace s es t
  pub within : AtReads IsLooking nothing es
  pub bytes : effects es ≡ only_read (take len buf)
  pub size : length buf ≡ 8192
  pub fits : len ≤ 8192

pub at_start : (s : Meaning) (buf : List ℕ) → length buf ≡ 8192 → Looking s s 0 buf []
at_start s buf size = record { trace = refl; within = tt; bytes = refl; size = size; fits = omega arith }

-- a fault of the reader is a refusal,
refused_by : (x : Result Head NoHeader) (fault : HeadFault) → Err fault ≡ read_as x → (r : NoHeader) × (x ≡ Err r)
refused_by (Ok h) fault e = absurd (cc)
refused_by (Err r) fault e = (r, refl)

-- and a header of the reader is a header
read_by : (x : Result Head NoHeader) (h : Head) → Ok h ≡ read_as x → x ≡ Ok h
read_by (Ok g) h e = let same : h ≡ g = cc in ap (λ (k : Head). Ok k) (sym same)
read_by (Err r) h e = absurd (cc)

-- the reader wants bytes
abbrev pub Wanting : ℕ → List ℕ → HeadFault → Type 0
Wanting len buf fault = (Err fault ≡ read_as (head_of (take len buf))) × RefusesHead (take len buf) fault.at (refusal_of fault.why) × (fault.why ≡ Cut)

-- what holds by then
looking_still : (s t : Meaning) (len : ℕ) (buf : List ℕ) (es : List Event) (fault : HeadFault) → Looking s t len buf es → Wanting len buf fault → IsLooking (effects es)
looking_still s t len buf es fault l (e, refusal, cut) =
    let P : Effects → Type 0 = λ f. IsLooking f in
    let R : HeadWhy → Type 0 = λ w. RefusesHead (take len buf) fault.at (refusal_of w) in
    subst P (sym l.bytes) (refl, refused_by (head_of (take len buf)) fault e, (fault.at, subst R cut refusal))

take_on : (at n : ℕ) (buf part : List ℕ) → at ≤ length buf → take (at + n) (take at buf ++ part) ≡ take at buf ++ take n part
take_on at n buf part fits =
    let size : length (take at buf) ≡ at = length-take-le at buf fits in
    let e : take (length (take at buf) + n) (take at buf ++ part) ≡ take at buf ++ take n part = take-append-add (take at buf) part n in
    rw size at e

-- after one more read
pub looked_more : (s t u : Meaning) (len n : ℕ) (buf part : List ℕ) (es : List Event) (fault : HeadFault) → Looking s t len buf es → Wanting len buf fault
    → n ≤ length part → len + length part ≡ length buf → Step t (Took (take n part)) u → Looking s u (len + n) (take len buf ++ part) (es ++ Took (take n part) ∷ [])
looked_more s t u len n buf part es fault l e few room step =
    let size = l.size in
    let fits = l.fits in
    record {
      trace = trace_join s t u es (Took (take n part) ∷ []) l.trace (trace_one t u (Took (take n part)) step);
      within = at_reads_join IsLooking nothing es (Took (take n part) ∷ []) l.within (looking_still s t len buf es fault l e, reads_passed (effects es) (take len buf) l.bytes, tt);
      bytes = effects_more es (Took (take n part)) (only_read (take len buf)) l.bytes ∙ ap (λ (x : List ℕ). only_read x) (sym (take_on len n buf part (omega arith)));
      size = omega (arith, length-append (take len buf) part, length-take-le len buf (omega arith));
      fits = omega arith;
    }

-- the bytes read are no more than the buffer has
few_read : (s t : Meaning) (len : ℕ) (buf : List ℕ) (es : List Event) (read : List ℕ) → Looking s t len buf es → read ≡ take len buf → length read ≤ 8192
few_read s t len buf es read l e = let size = l.size in let fits = l.fits in omega (arith, ap (λ (x : List ℕ). length x) e, length-take-le len buf (omega arith))

-- a header that is whole
pub found : (s t : Meaning) (len : ℕ) (buf : List ℕ) (es : List Event) (h : Head) → Looking s t len buf es → Ok h ≡ read_as (head_of (take len buf)) → SpellsHead h (take h.length (take len buf)) → Finds s t (Ok h) es
found s t len buf es h l e whole =
    let P : Effects → Type 0 = λ f. FindGives (Ok h) f in
    record {
      trace = l.trace;
      within = l.within;
      gives = subst P (sym l.bytes) (refl, read_by (head_of (take len buf)) h e, whole);
      enough = few_read s t len buf es (effects es).read l (ap (λ (f : Effects). f.read) l.bytes);
    }

-- a refusal
refuses : (s t u : Meaning) (len : ℕ) (buf : List ℕ) (es fs : List Event) (fault : HeadFault) (ended : Bool) → Looking s t len buf es → Err fault ≡ read_as (head_of (take len buf))
    → RefusesHead (take len buf) fault.at (refusal_of fault.why) → effects fs ≡ record (only_read (take len buf)) { ended = ended } → Trace s fs u → AtReads IsLooking nothing fs → (Header fault.why ≡ Header Cut → ended ≡ true)
    → Finds s u (Err (Refused (record { at = fault.at; reason = Header fault.why }))) fs
refuses s t u len buf es fs fault ended l e refusal is trace within end =
    let r : Refusal = record { at = fault.at; reason = Header fault.why } in
    let P : Effects → Type 0 = λ f. ReadsFor r f × HasNoHead f.read × LacksHeader f.read r in
    record {
      trace = trace;
      within = within;
      gives = subst P (sym is) ((ended, refl, end), refused_by (head_of (take len buf)) fault e, (fault.why, refl, refusal));
      enough = few_read s t len buf es (effects fs).read l (ap (λ (f : Effects). f.read) is);
    }

-- for another reason than missing bytes,
pub refused_so : (s t : Meaning) (len : ℕ) (buf : List ℕ) (es : List Event) (fault : HeadFault) → Looking s t len buf es → Err fault ≡ read_as (head_of (take len buf))
    → RefusesHead (take len buf) fault.at (refusal_of fault.why) → fault.why ≢ Cut → Finds s t (Err (Refused (record { at = fault.at; reason = Header fault.why }))) es
refused_so s t len buf es fault l e refusal other = refuses s t t len buf es es fault false l e refusal l.bytes l.trace l.within (λ h. absurd (other (cc)))

-- and for missing bytes, at the input's end
pub refused_short : (s t u : Meaning) (len : ℕ) (buf : List ℕ) (es : List Event) (fault : HeadFault) → Looking s t len buf es → Wanting len buf fault → Step t Ended u
    → Finds s u (Err (Refused (record { at = fault.at; reason = Header fault.why }))) (es ++ Ended ∷ [])
refused_short s t u len buf es fault l w step =
    refuses s t u len buf es (es ++ Ended ∷ []) fault true l w.0 w.1 (effects_more es Ended (only_read (take len buf)) l.bytes ∙ ap (λ (r : List ℕ). read_to_end r) (append-nil (take len buf)))
    (trace_join s t u es (Ended ∷ []) l.trace (trace_one t u Ended step))
    (at_reads_join IsLooking nothing es (Ended ∷ []) l.within (looking_still s t len buf es fault l w, reads_passed (effects es) (take len buf) l.bytes, tt))
    (λ h. refl)

-- a read that failed
pub read_failed : (s t u : Meaning) (len : ℕ) (buf : List ℕ) (es : List Event) (fault : HeadFault) → Looking s t len buf es → Wanting len buf fault → Step t ReadFailed u → Finds s u (Err ReadFault) (es ++ ReadFailed ∷ [])
read_failed s t u len buf es fault l w step =
    let is : effects (es ++ ReadFailed ∷ []) ≡ read_until_failed (take len buf) = effects_more es ReadFailed (only_read (take len buf)) l.bytes ∙ ap (λ (r : List ℕ). read_until_failed r) (append-nil (take len buf)) in
    let P : Effects → Type 0 = λ f. (f ≡ read_until_failed f.read) × HasNoHead f.read in
    record {
      trace = trace_join s t u es (ReadFailed ∷ []) l.trace (trace_one t u ReadFailed step);
      within = at_reads_join IsLooking nothing es (ReadFailed ∷ []) l.within (looking_still s t len buf es fault l w, reads_passed (effects es) (take len buf) l.bytes, tt);
      gives = subst P (sym is) (refl, refused_by (head_of (take len buf)) fault w.0);
      enough = few_read s t len buf es (effects (es ++ ReadFailed ∷ [])).read l (ap (λ (f : Effects). f.read) is);
    }
