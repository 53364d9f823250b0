-- A buffer that is filled from a duct, and bytes that are passed over.
use Rattle.std.proofs.Common.{◌≡◌, ◌<◌, ◌≤◌, ◌+◌, ◌-◌, ℕ, List, [], ◌∷◌, ◌++◌, length, take, drop, refl, sym, ◌∙◌, ap, arith, length-take-le}
use Rattle.std.proofs.lemmas.List.{append-nil, take_at, length-append, length-drop, drop_all}
use Rattle.std.proofs.Math.Seq.{take-append-add}
use borrow.Rule.Slice.PartMut.{put_mid}
use Rattle.scl_outside.specs.Meaning.{Meaning}
use Rattle.scl_outside.specs.Events.{Event, Took, Ended, ReadFailed}
use Rattle.scl_outside.specs.Steps.{Step}
use Rattle.scl_outside.specs.Effects.{Effects, nothing, only_read, read_to_end, and_then, effects}
use Rattle.scl_outside.specs.Traces.{Trace, AtReads}
use Rattle.scl_outside.proofs.Traces.{effects_then, effects_more, trace_join, trace_one, at_reads_join, at_reads_then}
use Rattle.capture_frames.specs.Reading.{Below, Fills, Skips}
use Rattle.capture_frames.specs.declared.filling.Filled.TheVariants.{All, Short, Failed}
use Rattle.capture_frames.proofs.ReadEffects.{read_end, read_failed, own_read, reads_after, reads_passed}

-- so far these many bytes of a buffer came
pub record Filling (s t : Meaning) (at : ℕ) (buf : List ℕ) (es : List Event) : Type 0 where
  pub trace : Trace s es t
  pub within : AtReads (Below (length buf)) nothing es
  pub bytes : effects es ≡ only_read (take at buf)
  pub fits : at ≤ length buf

take_on : (at n : ℕ) (buf part : List ℕ) → at ≤ length buf → take (at + n) (take at buf ++ part) ≡ take at buf ++ take n part
take_on at n buf part fits =
    let size : length (take at buf) ≡ at = length-take-le at buf fits in
    let e : take (length (take at buf) + n) (take at buf ++ part) ≡ take at buf ++ take n part = take-append-add (take at buf) part n in
    rw size at e

-- a write to the rest of a buffer
pub put_rest : (at : ℕ) (buf part : List ℕ) → at ≤ length buf → put_mid at (length buf - at) buf part ≡ take at buf ++ part
put_rest at buf part fits = let e : drop (length buf - at) (drop at buf) ≡ [] = drop_all (length buf - at) (drop at buf) (omega (arith, length-drop at buf)) in rw (e, append-nil) refl

size_of : (at : ℕ) (buf part : List ℕ) → at ≤ length buf → at + length part ≡ length buf → length (take at buf ++ part) ≡ length buf
size_of at buf part fits room = omega (arith, length-append (take at buf) part, length-take-le at buf fits)

-- a further read before the buffer is full
below : (s t : Meaning) (at : ℕ) (buf : List ℕ) (es : List Event) → Filling s t at buf es → at < length buf → Below (length buf) (effects es)
below s t at buf es f more = (own_read (effects es) (take at buf) f.bytes, (let n : length (effects es).read ≡ at = ap (λ (x : Effects). length x.read) f.bytes ∙ length-take-le at buf f.fits in omega arith))

-- after one more read
pub filled_more : (s t u : Meaning) (at n : ℕ) (buf part : List ℕ) (es : List Event) → Filling s t at buf es → n ≤ length part → at + length part ≡ length buf → at < length buf → Step t (Took (take n part)) u
    → Filling s u (at + n) (take at buf ++ part) (es ++ Took (take n part) ∷ [])
filled_more s t u at n buf part es f few room more step =
    let size = size_of at buf part f.fits room in
    record {
      trace = trace_join s t u es (Took (take n part) ∷ []) f.trace (trace_one t u (Took (take n part)) step);
      within = rw size (at_reads_join (Below (length buf)) nothing es (Took (take n part) ∷ []) f.within (below s t at buf es f more, reads_passed (effects es) (take at buf) f.bytes, tt));
      bytes = effects_more es (Took (take n part)) (only_read (take at buf)) f.bytes ∙ ap (λ (l : List ℕ). only_read l) (sym (take_on at n buf part f.fits));
      fits = omega (arith, size);
    }

-- the answer at the input's end, whatever the read left in the buffer
pub short : (s t u : Meaning) (at : ℕ) (buf part : List ℕ) (es : List Event) → Filling s t at buf es → at < length buf → at + length part ≡ length buf → Step t Ended u
    → Fills s u (Short at) (take at buf ++ part) (es ++ Ended ∷ [])
short s t u at buf part es f more room step =
    let size = size_of at buf part f.fits room in
    record {
      trace = trace_join s t u es (Ended ∷ []) f.trace (trace_one t u Ended step);
      within = rw size (at_reads_join (Below (length buf)) nothing es (Ended ∷ []) f.within (below s t at buf es f more, reads_passed (effects es) (take at buf) f.bytes, tt));
      gives = (rw size more, effects_more es Ended (only_read (take at buf)) f.bytes ∙ (read_end (take at buf) ∙ ap (λ (l : List ℕ). read_to_end l) (sym (take_at (take at buf) part at (length-take-le at buf f.fits)))));
    }

-- the answer after a read that failed
pub failed : (s t u : Meaning) (at : ℕ) (buf part : List ℕ) (es : List Event) → Filling s t at buf es → at < length buf → at + length part ≡ length buf → Step t ReadFailed u
    → Fills s u Failed (take at buf ++ part) (es ++ ReadFailed ∷ [])
failed s t u at buf part es f more room step =
    let size = size_of at buf part f.fits room in
    record {
      trace = trace_join s t u es (ReadFailed ∷ []) f.trace (trace_one t u ReadFailed step);
      within = rw size (at_reads_join (Below (length buf)) nothing es (ReadFailed ∷ []) f.within (below s t at buf es f more, reads_passed (effects es) (take at buf) f.bytes, tt));
      gives = (take at buf, rw (size, length-take-le at buf f.fits) more, effects_more es ReadFailed (only_read (take at buf)) f.bytes ∙ read_failed (take at buf));
    }

-- the answer of a full buffer
pub full : (s t : Meaning) (at : ℕ) (buf : List ℕ) (es : List Event) → Filling s t at buf es → take at buf ≡ buf → Fills s t All buf es
full s t at buf es f all = record { trace = f.trace; within = f.within; gives = f.bytes ∙ ap (λ (l : List ℕ). only_read l) all }

-- so far these many bytes were passed over
pub record Skipping (s t : Meaning) (done len : ℕ) (es : List Event) : Type 0 where
  pub trace : Trace s es t
  pub within : AtReads (Below len) nothing es
  pub bytes : effects es ≡ only_read (effects es).read
  pub many : length (effects es).read ≡ done
  pub fits : done ≤ len

-- reads of fewer than n bytes after others are of fewer than more
later_below : (n len : ℕ) (es : List Event) → effects es ≡ only_read (effects es).read → length (effects es).read + n ≤ len → (f : Effects) → Below n f → Below len (and_then (effects es) f)
later_below n len es is room f b =
    (reads_after (effects es).read (effects es) f is b.0, omega (arith, length-append (effects es).read f.read, b.1))

-- after one more part
pub skipped_more : (s t u : Meaning) (done len part : ℕ) (buf : List ℕ) (es fs : List Event) → Skipping s t done len es → done + part ≤ len → length buf ≡ part → Fills t u All buf fs → Skipping s u (done + part) len (es ++ fs)
skipped_more s t u done len part buf es fs k room size f =
    let bytes : effects (es ++ fs) ≡ only_read ((effects es).read ++ buf) = effects_then es fs _ _ k.bytes f.gives in
    record {
      trace = trace_join s t u es fs k.trace f.trace;
      within = at_reads_then (Below part) (Below len) es fs k.within (reads_passed (effects es) (effects es).read k.bytes) (later_below part len es k.bytes (let m = k.many in omega arith)) (rw (sym size) f.within);
      bytes = own_read (effects (es ++ fs)) _ bytes;
      many = ap (λ (x : Effects). length x.read) bytes ∙ (let m = k.many in omega (arith, length-append (effects es).read buf));
      fits = room;
    }

pub skipped_short : (s t u : Meaning) (done len part n : ℕ) (buf : List ℕ) (es fs : List Event) → Skipping s t done len es → done + part ≤ len → length buf ≡ part → Fills t u (Short n) buf fs → Skips s u (Short (done + n)) len (es ++ fs)
skipped_short s t u done len part n buf es fs k room size f =
    let m = k.many in
    let few : n < length buf = f.gives.0 in
    record {
      trace = trace_join s t u es fs k.trace f.trace;
      within = at_reads_then (Below part) (Below len) es fs k.within (reads_passed (effects es) (effects es).read k.bytes) (later_below part len es k.bytes (omega arith)) (rw (sym size) f.within);
      gives = ((effects es).read ++ take n buf, omega (arith, length-append (effects es).read (take n buf), length-take-le n buf (omega arith)), omega arith, effects_then es fs _ _ k.bytes f.gives.1);
    }

pub skipped_failed : (s t u : Meaning) (done len part : ℕ) (buf : List ℕ) (es fs : List Event) → Skipping s t done len es → done + part ≤ len → length buf ≡ part → Fills t u Failed buf fs → Skips s u Failed len (es ++ fs)
skipped_failed s t u done len part buf es fs k room size f =
    let m = k.many in
    let few : length f.gives.0 < length buf = f.gives.1 in
    record {
      trace = trace_join s t u es fs k.trace f.trace;
      within = at_reads_then (Below part) (Below len) es fs k.within (reads_passed (effects es) (effects es).read k.bytes) (later_below part len es k.bytes (omega arith)) (rw (sym size) f.within);
      gives = ((effects es).read ++ f.gives.0, omega (arith, length-append (effects es).read f.gives.0), effects_then es fs _ _ k.bytes f.gives.2);
    }

-- the answer once all were passed over
pub skipped_all : (s t : Meaning) (done len : ℕ) (es : List Event) → Skipping s t done len es → done ≡ len → Skips s t All len es
skipped_all s t done len es k e = record { trace = k.trace; within = k.within; gives = ((effects es).read, k.many ∙ e, k.bytes) }
