-- A step so far, and its answers.
use Rattle.std.proofs.Common.{◌≡◌, ◌<◌, ◌≤◌, ℕ, true, List, [], ◌∷◌, ◌++◌, length, Option, refl, sym, subst, ◌∙◌, ap, inl, inr, append_assoc}
use Rattle.std.proofs.lemmas.List.{append-nil}
use Rattle.codestream_model.specs.Values.{Head}
use Rattle.scl_outside.specs.Meaning.{Meaning}
use Rattle.scl_outside.specs.Events.{Event, Took, Ended, ReadFailed}
use Rattle.scl_outside.specs.Steps.{Step}
use Rattle.scl_outside.specs.Effects.{Effects, HasPassed, nothing, only_read, read_to_end, read_until_failed, effects}
use Rattle.scl_outside.specs.Traces.{Trace, AtReads}
use Rattle.scl_outside.proofs.Traces.{trace_join, trace_one, effects_more, at_reads_join, has_passed}
use Rattle.codestream_walk.specs.InHand.{InHand, with_more, input_limit}
use Rattle.codestream_walk.specs.Walking.{Stage, AtEnd, ShowsHeadAt, ShowsHead, Walking, Seen, fed, reach, Wants, is_live, IsDone}
use Rattle.codestream_walk.specs.Reading.{Gives, Ends, Passes, Waits, StepGives, Steps}
use Rattle.codestream_model.specs.Bytes.{IsBytes}
use Rattle.codestream_walk.proofs.Stages.{walk_of}
use Rattle.codestream_walk.proofs.Bytes.{bytes_join, no_bytes}
use Rattle.codestream_walk.specs.declared.fault.WalkFault.{WalkFault}
use Rattle.codestream_walk.specs.declared.fault.PieceOut.{PieceOut}
use Rattle.codestream_walk.specs.declared.fault.PieceOut.TheVariants as out

-- So far only reads were made, each where the bytes in hand fixed no answer, and a reader is as far as it was, with the bytes that
-- were read.
pub record Stepping (s t : Meaning) (u v : Seen) (es : List Event) : Type 0 where
  pub trace : Trace s es t
  pub within : AtReads (Waits u.walk) nothing es
  pub bytes : List ℕ
  pub reads : effects es ≡ only_read bytes
  pub are_bytes : IsBytes bytes
  pub now : v.walk ≡ fed u.walk bytes
  pub shown : v.head ≡ u.head
  pub live : is_live u.walk.stage ≡ true

pub stepping_none : (s : Meaning) (u : Seen) → is_live u.walk.stage ≡ true → Stepping s s u u []
stepping_none s u live = record { trace = refl; within = tt; bytes = []; reads = refl; are_bytes = no_bytes; now = ap (λ (l : List ℕ). record u.walk { hand = l }) (sym (append-nil u.walk.hand)); shown = refl; live = live }

-- a reader is still live
pub still_live : (s t : Meaning) (u v : Seen) (es : List Event) → Stepping s t u v es → is_live v.walk.stage ≡ true
still_live s t u v es p = ap (λ (w : Walking). is_live w.stage) p.now ∙ p.live

-- what holds of a reader that waits for more bytes
pub record IsOpen (v : Seen) : Type 0 where
  pub wants : Wants v.walk
  pub short : length v.walk.hand < 65538
  pub within : reach v.walk ≤ input_limit

-- what holds before a further read
waits : (s t : Meaning) (u v : Seen) (es : List Event) → Stepping s t u v es → IsOpen v → Waits u.walk (effects es)
waits s t u v es p o =
    let P : Walking → Type 0 = λ w. Wants w × (length w.hand < 65538) × (reach w ≤ input_limit) in
    let Q : Effects → Type 0 = λ f. Waits u.walk f in
    let k = subst P p.now (o.wants, o.short, o.within) in
    subst Q (sym p.reads) (record { reads = refl; are_bytes = p.are_bytes; wants = k.0; short = k.1; within = k.2 })

-- at the end of all no main header need be shown
pub shows_none : (v : Seen) → v.walk.stage ≡ AtEnd → ShowsHead v
shows_none v e = let P : Stage → Type 0 = λ s. ShowsHeadAt s v.head in subst P (sym e) tt

-- no call failed so far
passed : (s t : Meaning) (u v : Seen) (es : List Event) → Stepping s t u v es → HasPassed (effects es)
passed s t u v es p = has_passed (effects es) (only_read p.bytes) p.reads (record { reads = refl; writes = refl; on_wire = refl })

-- after a read that brought bytes
pub stepping_more : (s t r : Meaning) (u v x : Seen) (es : List Event) (bytes : List ℕ) → Stepping s t u v es → IsOpen v → IsBytes bytes → Step t (Took bytes) r → x.walk ≡ fed v.walk bytes → x.head ≡ v.head
    → Stepping s r u x (es ++ Took bytes ∷ [])
stepping_more s t r u v x es bytes p o are step now shown = record {
  trace = trace_join s t r es (Took bytes ∷ []) p.trace (trace_one t r (Took bytes) step);
  within = at_reads_join (Waits u.walk) nothing es (Took bytes ∷ []) p.within (waits s t u v es p o, passed s t u v es p, tt);
  bytes = p.bytes ++ bytes;
  reads = effects_more es (Took bytes) (only_read p.bytes) p.reads;
  are_bytes = bytes_join p.bytes bytes p.are_bytes are;
  now = now ∙ (ap (λ (w : Walking). fed w bytes) p.now ∙ ap (λ (l : List ℕ). record u.walk { hand = l }) (append_assoc u.walk.hand p.bytes bytes));
  shown = shown ∙ p.shown;
  live = p.live;
}

-- a reader with more bytes in hand
pub fed_view : (i j : InHand) (codestreams : ℕ) (stage : Stage) (bytes : List ℕ) (w : Walking) → j ≡ with_more i bytes → walk_of i codestreams stage ≡ w → walk_of j codestreams stage ≡ fed w bytes
fed_view i j codestreams stage bytes w is same = ap (λ (k : InHand). walk_of k codestreams stage) is ∙ ap (λ (x : Walking). fed x bytes) same

pub fed_none : (w : Walking) → fed w [] ≡ w
fed_none w = ap (λ (l : List ℕ). record w { hand = l }) (append-nil w.hand)

-- the input is over
end_gives : (answer : PieceOut) (u y : Seen) (f : Effects) → f ≡ read_to_end f.read → Ends answer (fed u.walk f.read) → Waits u.walk (only_read f.read) → IsDone u.head y → StepGives answer u y f
end_gives out.End u y f reads ends w done = record { reads = reads; waits = w; ends = ends; done = done }
end_gives (out.Refused fault) u y f reads ends w done = inr (inl (record { reads = reads; waits = w; ends = ends; done = done }))
end_gives out.Head u y f reads ends w done = absurd ends
end_gives out.Start u y f reads ends w done = absurd ends
end_gives out.More u y f reads ends w done = absurd ends
end_gives out.FrameEnd u y f reads ends w done = absurd ends
end_gives out.ReadFault u y f reads ends w done = absurd ends

pub stepped_end : (s t r : Meaning) (u v y : Seen) (x : Walking) (before : Option Head) (es : List Event) (answer : PieceOut) → Stepping s t u v es → IsOpen v → Step t Ended r → x ≡ v.walk → before ≡ v.head → Ends answer x → IsDone before y
    → Steps u s r answer y (es ++ Ended ∷ [])
stepped_end s t r u v y x before es answer p o step same shown ends done =
    let is : effects (es ++ Ended ∷ []) ≡ read_to_end p.bytes = effects_more es Ended (only_read p.bytes) p.reads ∙ ap (λ (l : List ℕ). read_to_end l) (append-nil p.bytes) in
    let P : Walking → Type 0 = λ w. Ends answer w in
    let Q : Option Head → Type 0 = λ h. IsDone h y in
    let R : Effects → Type 0 = λ f. Waits u.walk f in
    let S : Effects → Type 0 = λ f. StepGives answer u y f in
    record {
      trace = trace_join s t r es (Ended ∷ []) p.trace (trace_one t r Ended step);
      within = at_reads_join (Waits u.walk) nothing es (Ended ∷ []) p.within (waits s t u v es p o, passed s t u v es p, tt);
      gives = subst S (sym is) (end_gives answer u y (read_to_end p.bytes) refl (subst P (same ∙ p.now) ends) (subst R p.reads (waits s t u v es p o)) (subst Q (shown ∙ p.shown) done));
    }

-- a byte past the last that may be read is there
pub stepped_limit : (s t r : Meaning) (u v y : Seen) (x : Walking) (before : Option Head) (es : List Event) (fault : WalkFault) (more : List ℕ) → Stepping s t u v es → IsOpen v → reach v.walk ≡ input_limit → length more ≡ 1 → IsBytes more → Step t (Took more) r → x ≡ v.walk → before ≡ v.head
    → (reach x ≡ input_limit → Wants x → Passes fault x) → IsDone before y → Steps u s r (out.Refused fault) y (es ++ Took more ∷ [])
stepped_limit s t r u v y x before es fault more p o full one are step same shown passes done =
    let P : Walking → Type 0 = λ w. Passes fault w in
    let Q : Option Head → Type 0 = λ h. IsDone h y in
    let R : Effects → Type 0 = λ f. Waits u.walk f in
    let W : Walking → Type 0 = λ w. Wants w in
    record {
      trace = trace_join s t r es (Took more ∷ []) p.trace (trace_one t r (Took more) step);
      within = at_reads_join (Waits u.walk) nothing es (Took more ∷ []) p.within (waits s t u v es p o, passed s t u v es p, tt);
      gives = inr (inr (record {
        bytes = p.bytes;
        more = more;
        one = one;
        are_bytes = are;
        reads = effects_more es (Took more) (only_read p.bytes) p.reads;
        waits = subst R p.reads (waits s t u v es p o);
        full = ap reach (sym p.now) ∙ full;
        passes = subst P (same ∙ p.now) (passes (ap reach same ∙ full) (subst W (sym same) o.wants));
        done = subst Q (shown ∙ p.shown) done;
      }));
    }

-- a read failed
pub stepped_fault : (s t r : Meaning) (u v y : Seen) (es : List Event) → Stepping s t u v es → IsOpen v → Step t ReadFailed r → IsDone v.head y → Steps u s r out.ReadFault y (es ++ ReadFailed ∷ [])
stepped_fault s t r u v y es p o step done =
    let is : effects (es ++ ReadFailed ∷ []) ≡ read_until_failed p.bytes = effects_more es ReadFailed (only_read p.bytes) p.reads ∙ ap (λ (l : List ℕ). read_until_failed l) (append-nil p.bytes) in
    let Q : Option Head → Type 0 = λ h. IsDone h y in
    let R : Effects → Type 0 = λ f. Waits u.walk f in
    let S : Effects → Type 0 = λ f. StepGives out.ReadFault u y f in
    record {
      trace = trace_join s t r es (ReadFailed ∷ []) p.trace (trace_one t r ReadFailed step);
      within = at_reads_join (Waits u.walk) nothing es (ReadFailed ∷ []) p.within (waits s t u v es p o, passed s t u v es p, tt);
      gives = subst S (sym is) (record { reads = refl; waits = subst R p.reads (waits s t u v es p o); done = subst Q p.shown done });
    }

-- the bytes in hand fix an answer
fix_gives : (answer : PieceOut) (u y : Seen) (f : Effects) → f ≡ only_read f.read → IsBytes f.read → reach (fed u.walk f.read) ≤ input_limit → Gives answer (fed u.walk f.read) u.head y → StepGives answer u y f
fix_gives out.Head u y f reads are few g = record { reads = reads; are_bytes = are; within = few; gives = g }
fix_gives out.Start u y f reads are few g = record { reads = reads; are_bytes = are; within = few; gives = g }
fix_gives out.More u y f reads are few g = record { reads = reads; are_bytes = are; within = few; gives = g }
fix_gives out.FrameEnd u y f reads are few g = record { reads = reads; are_bytes = are; within = few; gives = g }
fix_gives (out.Refused fault) u y f reads are few g = inl (record { reads = reads; are_bytes = are; within = few; gives = g })
fix_gives out.End u y f reads are few g = absurd g
fix_gives out.ReadFault u y f reads are few g = absurd g

pub stepped_fix : (s t : Meaning) (u v y : Seen) (es : List Event) (answer : PieceOut) → Stepping s t u v es → reach v.walk ≤ input_limit → Gives answer v.walk v.head y → Steps u s t answer y es
stepped_fix s t u v y es answer p few g =
    let P : Walking → Type 0 = λ w. (reach w ≤ input_limit) × Gives answer w v.head y in
    let Q : Option Head → Type 0 = λ h. Gives answer (fed u.walk p.bytes) h y in
    let k = subst P p.now (few, g) in
    let S : Effects → Type 0 = λ f. StepGives answer u y f in
    record { trace = p.trace; within = p.within; gives = subst S (sym p.reads) (fix_gives answer u y (only_read p.bytes) refl p.are_bytes k.0 (subst Q p.shown k.1)) }
