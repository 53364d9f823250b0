-- What is promised of codestreams, and of inputs of codestreams: each has one verdict.
use Rattle.std.specs.Prelude.{◌≡◌, ◌⊎◌, ◌≤◌, ◌++◌, ℕ, List, length}
use Rattle.codestream_model.specs.Values.{Head}
use Rattle.codestream_model.specs.Bytes.{IsBytes}
use Rattle.codestream_model.specs.Packet.{Content}
use Rattle.codestream_model.specs.Codestream.{SpellsCodestream, IsCodestream, WalkRefusal, RefusesCodestream, NeedsCodestreamBytes, Faults, IsInput}

-- Bytes begin with at most one codestream, and it says one thing; so no codestream is a prefix of another.
abbrev pub CodestreamsAreReadOneWay : Type 0
CodestreamsAreReadOneWay =
    (h g : Head) (content others : List Content) (codestream other more rest : List ℕ) → SpellsCodestream h content codestream → SpellsCodestream g others other
    → codestream ++ more ≡ other ++ rest → (codestream ≡ other) × (h ≡ g) × (content ≡ others)

-- The bytes begin with an accepted codestream.
abbrev pub BeginWithCodestream : List ℕ → Type 0
BeginWithCodestream bytes = (codestream : List ℕ) × (more : List ℕ) × IsCodestream codestream × (bytes ≡ codestream ++ more)

-- Bytes begin with a codestream, or are refused where one should begin, or end inside one.
abbrev pub CodestreamsAreJudged : Type 0
CodestreamsAreJudged =
    (bytes : List ℕ) → IsBytes bytes
    → BeginWithCodestream bytes ⊎ (((at : ℕ) × (why : WalkRefusal) × RefusesCodestream bytes at why) ⊎ NeedsCodestreamBytes bytes)

-- Only one of these three holds of the bytes, and a refusal has one offset and one reason.
pub record IsJudgedOnce (bytes : List ℕ) : Type 0 where
  pub one_refusal : (at place : ℕ) (why reason : WalkRefusal) → RefusesCodestream bytes at why → RefusesCodestream bytes place reason → (at ≡ place) × (why ≡ reason)
  pub not_refused : BeginWithCodestream bytes → (at : ℕ) (why : WalkRefusal) → RefusesCodestream bytes at why → ⊥
  pub not_unfinished : BeginWithCodestream bytes → NeedsCodestreamBytes bytes → ⊥
  pub not_both : (at : ℕ) (why : WalkRefusal) → RefusesCodestream bytes at why → NeedsCodestreamBytes bytes → ⊥

-- Any bytes have one verdict as codestreams.
abbrev pub CodestreamsHaveOneVerdict : Type 0
CodestreamsHaveOneVerdict = (bytes : List ℕ) → IsJudgedOnce bytes

-- An input is whole codestreams to its end, or has a fault.
abbrev pub InputsAreJudged : Type 0
InputsAreJudged = (input : List ℕ) → IsBytes input → ((codestreams : List (List ℕ)) × IsInput input codestreams) ⊎ ((at : ℕ) × (why : WalkRefusal) × Faults input at why)

-- An input that is whole codestreams to its end has no fault.
abbrev pub InputIsNotRefused : Type 0
InputIsNotRefused = (input : List ℕ) (codestreams : List (List ℕ)) (at : ℕ) (why : WalkRefusal) → IsInput input codestreams → Faults input at why → ⊥

-- An input is whole codestreams in at most one way.
abbrev pub InputIsOne : Type 0
InputIsOne = (input : List ℕ) (codestreams others : List (List ℕ)) → IsInput input codestreams → IsInput input others → codestreams ≡ others

-- An input has at most one fault: one offset and one reason, after the same codestreams.
abbrev pub FaultIsOne : Type 0
FaultIsOne =
    (input : List ℕ) (at place : ℕ) (why reason : WalkRefusal) → (f : Faults input at why) → (g : Faults input place reason)
    → (at ≡ place) × (why ≡ reason) × (f.codestreams ≡ g.codestreams)

-- A refusal of a codestream stays, whatever follows.
abbrev pub CodestreamRefusalsStay : Type 0
CodestreamRefusalsStay = (bytes more : List ℕ) (at : ℕ) (why : WalkRefusal) → RefusesCodestream bytes at why → RefusesCodestream (bytes ++ more) at why

-- A codestream without its last bytes is unfinished.
abbrev pub CodestreamFrontsNeedBytes : Type 0
CodestreamFrontsNeedBytes = (front rest : List ℕ) → IsBytes front → IsCodestream (front ++ rest) → 1 ≤ length rest → NeedsCodestreamBytes front
