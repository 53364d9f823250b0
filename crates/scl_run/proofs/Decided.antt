-- What the input of a run decides.
use Rattle.std.proofs.Common.{◌≡◌, ℕ, Bool, true, false, List, [], ◌++◌, Option, Some, None, IfSome, sym, subst, ◌∙◌, ap, inl, inr}
use Rattle.std.specs.Prelude.{MatchBool}
use Rattle.wire_model.specs.Causes.{Grew, Fell}
use Rattle.scl_outside.specs.Meaning.{Meaning}
use Rattle.scl_outside.specs.Effects.{effects}
use Rattle.scl_run.specs.declared.ending.Refusal.{Refusal}
use Rattle.scl_run.specs.declared.ending.Ending.{Ending}
use Rattle.scl_run.specs.declared.ending.Ending.TheVariants.{Done, ReadFault, WriteFault, WireFault, Refused, NoMemory}
use Rattle.scl_run.specs.Endings.{status_of, refusal_line}
use Rattle.scl_run.specs.InputClass.{InputClass, IsLawful}
use Rattle.scl_run.specs.Job.{Memory, Never, BeforeInput, BeforeOutput, Job}
use Rattle.scl_run.specs.Performing.{IsAccepted, ReadAtWant, WrittenAtWant}
use Rattle.scl_run.specs.Runs.{RunsAs, WritesNothing, WantsMemory, IsDone, IsRefused, EndsRefused, Decides}

-- what was read, and what is left, is the input
whole_input : (before now : Option (List ℕ)) (input rest read : List ℕ) → Fell before now read → before ≡ Some input → now ≡ Some rest → input ≡ read ++ rest
whole_input before None input rest read f b n = absurd (cc)
whole_input None (Some now) input rest read f b n = absurd f
whole_input (Some was) (Some now) input rest read f b n = let e : was ≡ input = cc in let g : now ≡ rest = cc in sym e ∙ (f ∙ ap (λ (l : List ℕ). read ++ l) g)

over_rest : (now : Option (List ℕ)) (rest : List ℕ) → IfSome now (λ left. left ≡ []) → now ≡ Some rest → rest ≡ []
over_rest None rest f n = absurd (cc)
over_rest (Some now) rest f n = let e : now ≡ rest = cc in sym e ∙ f

-- after the input's end nothing is left
end_met : (ended : Bool) (now : Option (List ℕ)) (rest : List ℕ) → ended ≡ true → MatchBool ended (IfSome now (λ left. left ≡ [])) (Unit {0}) → now ≡ Some rest → rest ≡ []
end_met true now rest e over n = over_rest now rest over n
end_met false now rest e over n = absurd (cc)

-- the verdict on what was read is that on the input
takes : (inputs : InputClass) (ended : Bool) (now : Option (List ℕ)) (input rest read : List ℕ) → IsLawful inputs → MatchBool ended (IfSome now (λ left. left ≡ [])) (Unit {0}) → now ≡ Some rest → input ≡ read ++ rest
    → IsAccepted inputs read ended → inputs.Accepts input
takes inputs ended now input rest read law over n whole (a, end) = subst inputs.Accepts (sym whole) (law.accepted read rest a (λ h. end_met ended now rest (end h) over n))

refuses : (inputs : InputClass) (ended : Bool) (now : Option (List ℕ)) (input rest read : List ℕ) (r : Refusal) → IsLawful inputs → MatchBool ended (IfSome now (λ left. left ≡ [])) (Unit {0}) → now ≡ Some rest → input ≡ read ++ rest
    → inputs.Refuses read r × (inputs.RefusesAtEnd r.reason → ended ≡ true) → inputs.Refuses input r
refuses inputs ended now input rest read r law over n whole (h, end) =
    let P : List ℕ → Type 0 = λ l. inputs.Refuses l r in
    subst P (sym whole) (law.refused read rest r h (λ e. end_met ended now rest (end e) over n))

done_by_0 : (memory : Memory) (status : ℕ) → status ≡ 0 → IsDone memory status
done_by_0 Never status is = is
done_by_0 memory status is = inl is

refused_by_6 : (memory : Memory) (r : Refusal) (s t : Meaning) (status : ℕ) → IsRefused r s t status → EndsRefused memory r s t status
refused_by_6 Never r s t status is = is
refused_by_6 memory r s t status is = inl is

-- where memory was wanted, that is what may be
done_by_7 : (memory : Memory) (made written : List ℕ) (status : ℕ) → WrittenAtWant memory made written → status ≡ 7 → IsDone memory status
done_by_7 Never made written status h is = absurd h
done_by_7 memory made written status h is = inr is

pub decides : (job : Job) (s t : Meaning) (ending : Ending) (status : ℕ) → IsLawful job.inputs → status ≡ status_of ending → RunsAs job s t ending → Decides job s t status
decides job s t Done status law is h = λ input rest sl tl read write wire.
    let whole = whole_input s.left t.left input rest (effects h.events).read h.affects.left sl tl in
    let a = takes job.inputs (effects h.events).ended t.left input rest (effects h.events).read law h.affects.over tl whole h.ends.cause.0 in
    ((λ accepted. done_by_0 job.memory status is), (λ r refused. absurd (law.one input r a refused)))
decides job s t ReadFault status law is h = λ input rest sl tl read write wire. absurd (read h.rose)
decides job s t WriteFault status law is h = λ input rest sl tl read write wire. absurd (write h.rose)
decides job s t WireFault status law is h = λ input rest sl tl read write wire. absurd (wire h.rose)
decides job s t (Refused r) status law is h = λ input rest sl tl read write wire.
    let whole = whole_input s.left t.left input rest (effects h.events).read h.affects.left sl tl in
    let k = refuses job.inputs (effects h.events).ended t.left input rest (effects h.events).read r law h.affects.over tl whole h.ends.cause in
    let P : List ℕ → Type 0 = λ l. Grew s.noted t.noted l in
    let noted : Grew s.noted t.noted (refusal_line r) = subst P h.noted h.affects.noted in
    let Q : Refusal → Type 0 = λ q. EndsRefused job.memory q s t status in
    ((λ accepted. absurd (law.one input r accepted k)), (λ q refused. subst Q (law.one_refusal input r q k refused) (refused_by_6 job.memory r s t status (is, noted))))
decides job s t NoMemory status law is h = λ input rest sl tl read write wire.
    let whole = whole_input s.left t.left input rest (effects h.events).read h.affects.left sl tl in (
      (λ accepted. done_by_7 job.memory _ _ status h.ends.output is),
      (λ r refused. wanted job.memory r h.ends.cause (λ a. law.one input r (takes job.inputs (effects h.events).ended t.left input rest (effects h.events).read law h.affects.over tl whole a) refused)),
    )
  where
    wanted : (memory : Memory) (r : Refusal) → ReadAtWant memory job.inputs (effects h.events).read (effects h.events).ended (effects h.events).wire → (IsAccepted job.inputs (effects h.events).read (effects h.events).ended → ⊥) → EndsRefused memory r s t status
    wanted Never r c other = absurd c
    wanted memory r c other = inr is

-- what is known where memory was wanted
pub wants : (job : Job) (s t : Meaning) (ending : Ending) → status_of ending ≡ 7 → RunsAs job s t ending → WantsMemory job.memory s t
wants job s t Done is h = absurd (cc)
wants job s t ReadFault is h = absurd (cc)
wants job s t WriteFault is h = absurd (cc)
wants job s t WireFault is h = absurd (cc)
wants job s t (Refused r) is h = absurd (cc)
wants job s t NoMemory is h = by_memory job.memory _ h.ends.output h.ends.cause where
  nothing_written : (effects h.events).written ≡ [] → WritesNothing s t
  nothing_written e = let P : List ℕ → Type 0 = λ l. Grew s.written t.written l in subst P e h.affects.written

  by_memory : (memory : Memory) (made : List ℕ) → WrittenAtWant memory made (effects h.events).written → ReadAtWant memory job.inputs (effects h.events).read (effects h.events).ended (effects h.events).wire → WantsMemory memory s t
  by_memory Never made w c = absurd w
  by_memory BeforeInput made w c = ((let P : List ℕ → Type 0 = λ l. Grew s.read t.read l in subst P c.0 h.affects.read), nothing_written w)
  by_memory BeforeOutput made w c = nothing_written w
