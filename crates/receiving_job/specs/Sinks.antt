-- What is put out of packets that a receiver releases, one after another.
use Rattle.std.specs.Prelude.{◌≡◌, ◌<◌, ◌-◌, ◌^◌, ◌++◌, ℕ, Bool, true, List, [], ◌∷◌, length}
use Rattle.std.specs.List.{AllByRecursion}
use Rattle.wire_model.specs.Bytes.{IsBytes}
use Rattle.stream_model.specs.Decoder.{Release}
use Rattle.stream_model.specs.Receiver as rules
use Rattle.stream_model.specs.Receiver.{received, flushed}
use Rattle.stream_model.specs.DrainLaws.{IsWhole}
use Rattle.scl_outside.specs.Meaning.{Meaning}
use Rattle.scl_outside.specs.Events.{Event}
use Rattle.scl_outside.specs.declared.duct.PutOut.{PutOut}
use Rattle.scl_outside.specs.Writing.{Puts}

-- The second list is the first and something more.
abbrev pub Extends : List ℕ → List ℕ → Type 0
Extends front all = (more : List ℕ) × (all ≡ front ++ more)

-- These are the first packets that are released of some frames of bytes, fewer than 2^64 - 1.
pub record AreFirst (xs : List Release) : Type 0 where
  pub pick : rules.Pick
  pub frames : List (List ℕ)
  pub are_bytes : AllByRecursion IsBytes frames
  pub few : length frames < 2 ^ 64 - 1
  pub more : List Release
  pub whole : (flushed (received pick frames)).releases ≡ xs ++ more

-- After these packets this one is released, with as many bytes as its code-blocks have.
abbrev pub IsNext : List Release → Release → Type 0
IsNext xs x = AreFirst (xs ++ x ∷ []) × IsWhole x

-- After the packets `xs` the packets `ys` were put out: what they add was written.
pub record PutsMore
    (so_far : List Release → List ℕ) (xs ys : List Release) (m n : Meaning) (result : PutOut) (es : List Event)
    : Type 0 where
  pub text : List ℕ
  pub adds : so_far (xs ++ ys) ≡ so_far xs ++ text
  pub puts : Puts text m n result es

-- After all packets of a receiver what is put out at its end was written.
pub record PutsEnd
    (so_far : List Release → List ℕ) (made : rules.Receiver → Bool → List ℕ) (r : rules.Receiver)
    (m n : Meaning) (result : PutOut) (es : List Event)
    : Type 0 where
  pub text : List ℕ
  pub adds : made r true ≡ so_far (flushed r).releases ++ text
  pub puts : Puts text m n result es
