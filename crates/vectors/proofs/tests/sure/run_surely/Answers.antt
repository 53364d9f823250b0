use Rattle.std.proofs.Common.{◌≡◌, ◌⊎◌, ℕ, List, refl, inl, inr, arith}
use Rattle.scl_outside.specs.Meaning.{Meaning}
use Rattle.scl_run.specs.declared.ending.Ending.{Ending}
use Rattle.scl_run.specs.declared.ending.Ending.TheVariants.{Done, ReadFault, WriteFault, WireFault, Refused, NoMemory}
use Rattle.scl_run.specs.Endings.{status_of}
use Rattle.scl_run.specs.Runs.{RunsAs}
use Rattle.scl_cli.specs.Jobs.{job}
use Rattle.scl_cli.specs.Runs.{Ran}
use Rattle.vectors.proofs.tests.sure.run_surely.Goals as goal

-- a run over counts that stay 0 answers no fault
no_fault : (words : List (List ℕ)) (s t : Meaning) (status : ℕ) → t.read_faults ≡ 0 → t.write_faults ≡ 0 → t.wire.faults ≡ 0 → Ran words s t status → (status ≡ 0) ⊎ ((status ≡ 2) ⊎ ((status ≡ 6) ⊎ (status ≡ 7)))
no_fault words s t status r w v (inl wrong) = inr (inl wrong.1)
no_fault words s t status r w v (inr (command, ending, spells, is, h)) = by_ending ending is h where
  by_ending : (ending : Ending) → status ≡ status_of ending → RunsAs (job command) s t ending → (status ≡ 0) ⊎ ((status ≡ 2) ⊎ ((status ≡ 6) ⊎ (status ≡ 7)))
  by_ending Done is h = inl is
  by_ending ReadFault is h = absurd (let rose = h.rose in omega arith)
  by_ending WriteFault is h = absurd (let rose = h.rose in omega arith)
  by_ending WireFault is h = absurd (let rose = h.rose in omega arith)
  by_ending (Refused refusal) is h = inr (inr (inl is))
  by_ending NoMemory is h = inr (inr (inr is))

pub returns-clause-no_fault : goal.returns-clause-no_fault
returns-clause-no_fault c = no_fault _ _ _ _ refl refl refl c.run.ensures.ran

pub returns-clause-decided : goal.returns-clause-decided
returns-clause-decided c = λ command input spells left. c.run.ensures.decided command spells input _ left refl (λ rose. omega arith) (λ rose. omega arith) (λ rose. omega arith)
