-- What reads took are bytes.
use Rattle.std.proofs.Common.{ℕ, zero, suc, Bool, true, false, List, [], ◌∷◌, ◌++◌, take, sym, subst, arith}
use Rattle.std.specs.Prelude.{MatchBool}
use Rattle.std.proofs.lemmas.List.{append-nil}
use Rattle.wire_model.specs.Bytes.{IsBytes}
use Rattle.scl_outside.specs.Meaning.{Meaning}
use Rattle.scl_outside.specs.Events.{Event, Took, Ended, ReadFailed, Wrote, WriteFailed, Noted, OnWire, IsCall, asks}
use Rattle.scl_outside.specs.Effects.{Effects, nothing, effect_of, and_then, effects}
use Rattle.scl_outside.specs.Traces.{Trace, AtReads}
use Rattle.scl_outside.specs.ReadBytes.{ReadsAreBytes}

-- no byte is one
pub no_bytes : IsBytes []
no_bytes i = omega arith

-- bytes at the front of others
pub bytes_front : (n : ℕ) (b : List ℕ) → IsBytes b → IsBytes (take n b)
bytes_front zero b are i = omega arith
bytes_front (suc n) [] are i = omega arith
bytes_front (suc n) (x ∷ b) are zero = are zero
bytes_front (suc n) (x ∷ b) are (suc i) = bytes_front n b (λ j. are (suc j)) i

-- bytes and more of them
pub bytes_join : (xs ys : List ℕ) → IsBytes xs → IsBytes ys → IsBytes (xs ++ ys)
bytes_join [] ys a b i = b i
bytes_join (x ∷ xs) ys a b zero = a zero
bytes_join (x ∷ xs) ys a b (suc i) = bytes_join xs ys (λ j. a (suc j)) b i

-- one call
call_bytes : (e : Event) → IsCall e → IsBytes (effect_of e).read
call_bytes (Took bytes) is = is.1
call_bytes Ended is = no_bytes
call_bytes ReadFailed is = no_bytes
call_bytes (Wrote bytes) is = no_bytes
call_bytes (WriteFailed bytes) is = no_bytes
call_bytes (Noted line) is = no_bytes
call_bytes (OnWire w) is = no_bytes

-- the first calls of a list
pub reads_are_bytes : ReadsAreBytes
reads_are_bytes s t [] after trace = no_bytes
reads_are_bytes s t (e ∷ before) after (m, step, rest) = bytes_join (effect_of e).read (effects before).read (call_bytes e step.some) (reads_are_bytes m t before after rest)

-- all calls of a list
pub all_bytes : (s t : Meaning) (es : List Event) → Trace s es t → IsBytes (effects es).read
all_bytes s t es trace = let P : List Event → Type 0 = λ l. Trace s l t in reads_are_bytes s t es [] (subst P (sym (append-nil es)) trace)

at_ask : (b : Bool) (P Q : Type 0) → Q → MatchBool b P (Unit {0}) → MatchBool b (P × Q) (Unit {0})
at_ask true P Q q p = (p, q)
at_ask false P Q q p = tt

-- before each call that asks for input
bytes_from : (P : Effects → Type 0) (done : Effects) (s t : Meaning) (es : List Event) → IsBytes done.read → Trace s es t → AtReads P done es → AtReads (λ f. P f × IsBytes f.read) done es
bytes_from P done s t [] are trace p = tt
bytes_from P done s t (e ∷ es) are (m, step, rest) p = (
  at_ask (asks e) (P done) (IsBytes done.read) are p.0,
  p.1,
  bytes_from P (and_then done (effect_of e)) m t es (bytes_join done.read (effect_of e).read are (call_bytes e step.some)) rest p.2,
)

pub bytes_at_reads : (P : Effects → Type 0) (s t : Meaning) (es : List Event) → Trace s es t → AtReads P nothing es → AtReads (λ f. P f × IsBytes f.read) nothing es
bytes_at_reads P s t es trace p = bytes_from P nothing s t es no_bytes trace p
