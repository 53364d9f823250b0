-- Bytes taken from a duct of which only some are left to be read.
use Rattle.std.proofs.Common.{◌≡◌, ◌<◌, ◌≤◌, ◌+◌, ℕ, List, ◌++◌, length, take, min, sym, ◌∙◌, arith, length-take-le}
use Rattle.std.proofs.lemmas.List.{take_at}
use Rattle.scl_outside.specs.Meaning.{Meaning}
use Rattle.scl_outside.specs.Events.{Event}
use Rattle.scl_outside.specs.Effects.{nothing}
use Rattle.scl_outside.specs.Traces.{AtReads}
use Rattle.scl_outside.proofs.Traces.{at_reads_map}
use Rattle.capture_frames.specs.Reading.{Below, Wishes, Fills, Skips, Takes, Fetches}
use Rattle.capture_frames.specs.declared.filling.Filled.{Filled}
use Rattle.capture_frames.specs.declared.filling.Filled.TheVariants.{All, Short, Failed}
use Rattle.capture_frames.specs.declared.filling.Fetched.TheVariants.{All as Whole_part, Short as Short_part, Past, Failed as Failed_part}

-- bytes that fit, at the buffer's front
pub filled : (s t : Meaning) (r : Filled) (len : ℕ) (part rest : List ℕ) (es : List Event) → length part ≡ len → Fills s t r part es → Takes s t r len (part ++ rest) es
filled s t All len part rest es size f = record { trace = f.trace; within = rw (sym size) f.within; gives = (part, size, (λ h. sym (take_at part rest len size)), f.gives) }
filled s t (Short n) len part rest es size f =
    record { trace = f.trace; within = rw (sym size) f.within; gives = (take n part, length-take-le n part (let h = f.gives.0 in omega arith), (let h = f.gives.0 in omega arith), f.gives.1) }
filled s t Failed len part rest es size f = record { trace = f.trace; within = rw (sym size) f.within; gives = (f.gives.0, (let h = f.gives.1 in omega arith), f.gives.2) }

-- bytes that don't fit
pub skipped : (s t : Meaning) (r : Filled) (len : ℕ) (buf : List ℕ) (es : List Event) → length buf < len → Skips s t r len es → Takes s t r len buf es
skipped s t All len buf es more k = record { trace = k.trace; within = k.within; gives = (k.gives.0, k.gives.1, (λ h. absurd (omega arith)), k.gives.2) }
skipped s t (Short n) len buf es more k = record { trace = k.trace; within = k.within; gives = (k.gives.0, k.gives.1, k.gives.2, k.gives.3) }
skipped s t Failed len buf es more k = record { trace = k.trace; within = k.within; gives = (k.gives.0, k.gives.1, k.gives.2) }

-- before each read of a wish
wishing : (len left need : ℕ) (es : List Event) → need ≡ min len (left + 1) → AtReads (Below need) nothing es → AtReads (Wishes len left) nothing es
wishing len left need es e h = at_reads_map (Below need) (Wishes len left) nothing es (λ f b. (b.0, (let n = b.1 in omega arith), (let n = b.1 in omega arith))) h

pub fetched_all : (s t : Meaning) (len left need : ℕ) (buf : List ℕ) (es : List Event) → need ≡ min len (left + 1) → need ≤ left → Takes s t All need buf es → Fetches s t Whole_part len left buf es
fetched_all s t len left need buf es e within k =
    let same : need ≡ len = omega arith in
    record { trace = k.trace; within = wishing len left need es e k.within; gives = (k.gives.0, k.gives.1 ∙ same, omega arith, (λ h. rw (sym same) (k.gives.2 (omega arith))), k.gives.3) }

pub fetched_past : (s t : Meaning) (len left need : ℕ) (buf : List ℕ) (es : List Event) → need ≡ min len (left + 1) → left < need → Takes s t All need buf es → Fetches s t Past len left buf es
fetched_past s t len left need buf es e past k =
    record { trace = k.trace; within = wishing len left need es e k.within; gives = (k.gives.0, k.gives.1 ∙ omega arith, omega arith, k.gives.3) }

pub fetched_short : (s t : Meaning) (len left need n : ℕ) (buf : List ℕ) (es : List Event) → need ≡ min len (left + 1) → Takes s t (Short n) need buf es → Fetches s t (Short_part n) len left buf es
fetched_short s t len left need n buf es e k =
    let few : n < need = k.gives.2 in
    record { trace = k.trace; within = wishing len left need es e k.within; gives = (k.gives.0, k.gives.1, omega arith, omega arith, k.gives.3) }

pub fetched_failed : (s t : Meaning) (len left need : ℕ) (buf : List ℕ) (es : List Event) → need ≡ min len (left + 1) → Takes s t Failed need buf es → Fetches s t Failed_part len left buf es
fetched_failed s t len left need buf es e k =
    let few : length k.gives.0 < need = k.gives.1 in
    record { trace = k.trace; within = wishing len left need es e k.within; gives = (k.gives.0, omega arith, omega arith, k.gives.2) }
