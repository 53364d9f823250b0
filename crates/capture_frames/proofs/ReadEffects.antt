-- Calls that only read, joined.
use Rattle.std.proofs.Common.{◌≡◌, ℕ, List, [], ◌++◌, refl, sym, ◌∙◌, ap}
use Rattle.std.proofs.lemmas.List.{append-nil}
use Rattle.scl_outside.specs.Effects.{Effects, HasPassed, only_read, read_to_end, read_until_failed, and_then}
use Rattle.scl_outside.proofs.Traces.{has_passed}

-- reads of bytes and then one that met the input's end
pub read_end : (bytes : List ℕ) → and_then (only_read bytes) (read_to_end []) ≡ read_to_end bytes
read_end bytes = ap (λ (l : List ℕ). read_to_end l) (append-nil bytes)

-- reads of bytes and then a read that failed
pub read_failed : (bytes : List ℕ) → and_then (only_read bytes) (read_until_failed []) ≡ read_until_failed bytes
read_failed bytes = ap (λ (l : List ℕ). read_until_failed l) (append-nil bytes)

-- effects that are reads of some bytes are reads of their own
pub own_read : (f : Effects) (bytes : List ℕ) → f ≡ only_read bytes → f ≡ only_read f.read
own_read f bytes e = e ∙ ap (λ (x : Effects). only_read x.read) (sym e)

-- reads after reads are reads
pub reads_after : (a : List ℕ) (f g : Effects) → f ≡ only_read a → g ≡ only_read g.read → and_then f g ≡ only_read (a ++ g.read)
reads_after a f g e h = ap (λ (x : Effects). and_then x g) e ∙ ap (λ (x : Effects). and_then (only_read a) x) h

-- calls that only read have passed
pub reads_passed : (f : Effects) (bytes : List ℕ) → f ≡ only_read bytes → HasPassed f
reads_passed f bytes e = has_passed f (only_read bytes) e (record { reads = refl; writes = refl; on_wire = refl })
