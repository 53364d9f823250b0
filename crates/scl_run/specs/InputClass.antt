-- Classes of input: what a job needs to know of the bytes that it reads.
use Rattle.std.specs.Prelude.{◌≡◌, ℕ, List, [], ◌++◌}
use Rattle.scl_run.specs.declared.ending.Reason.{Reason}
use Rattle.scl_run.specs.declared.ending.Refusal.{Refusal}

-- A class of inputs: which are accepted and which refused, and how far they are read.
pub record InputClass : Type 1 where
  -- The job can be done on this input.
  pub Accepts : List ℕ → Type 0
  -- The input is refused, at this place for this reason.
  pub Refuses : List ℕ → Refusal → Type 0
  -- Whether it is accepted can be seen only at its end.
  pub AcceptsAtEnd : Type 0
  -- Whether it is refused for this reason can be seen only at its end.
  pub RefusesAtEnd : Reason → Type 0
  -- Once these bytes were read, and not the end, a further byte may be asked for.
  pub Wants : List ℕ → Type 0
  -- At most this is read.
  pub Fits : List ℕ → Type 0

-- An input of the class has one verdict. Once the bytes so far fix it, it stays whatever follows, and no further byte is asked for.
pub record IsLawful (inputs : InputClass) : Type 0 where
  pub one : (input : List ℕ) (r : Refusal) → inputs.Accepts input → inputs.Refuses input r → ⊥
  pub one_refusal : (input : List ℕ) (r q : Refusal) → inputs.Refuses input r → inputs.Refuses input q → r ≡ q
  pub accepted : (read rest : List ℕ) → inputs.Accepts read → (inputs.AcceptsAtEnd → rest ≡ []) → inputs.Accepts (read ++ rest)
  pub refused : (read rest : List ℕ) (r : Refusal) → inputs.Refuses read r → (inputs.RefusesAtEnd r.reason → rest ≡ []) → inputs.Refuses (read ++ rest) r
  pub waits_to_accept : (read : List ℕ) → inputs.Wants read → inputs.Accepts read → inputs.AcceptsAtEnd
  pub waits_to_refuse : (read : List ℕ) (r : Refusal) → inputs.Wants read → inputs.Refuses read r → inputs.RefusesAtEnd r.reason

-- The class of jobs that read nothing: every input is accepted, and none of it is read.
abbrev pub no_input : InputClass
no_input = record {
  Accepts = λ input. Unit {0};
  Refuses = λ input r. ⊥;
  AcceptsAtEnd = ⊥;
  RefusesAtEnd = λ reason. ⊥;
  Wants = λ read. ⊥;
  Fits = λ read. read ≡ [];
}
