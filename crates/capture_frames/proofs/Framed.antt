-- A frame out of the reads of its length and its bytes.
use Rattle.std.proofs.Common.{suc, zero, Bool, nat_le, ◌==◌, if◌then◌else◌, ◌≡◌, ◌<◌, ◌≤◌, ◌+◌, ◌-◌, ◌^◌, ℕ, List, [], ◌∷◌, ◌++◌, length, take, get_or, refl, sym, ◌∙◌, ap, arith, length-take-le, true, false}
use Rattle.std.proofs.lemmas.List.{append-nil, length-append, take_at}
use Rattle.std.proofs.Math.Seq.{take-append-add}
use Rattle.std.proofs.lemmas.Nat.{div-mul-add, mod-mul-add}
use Rattle.std.proofs.lemmas.Bool.Decides.{nat_tests}
use Rattle.wire_model.specs.Framing.{frame, IsPartial}
use Rattle.scl_outside.specs.Meaning.{Meaning}
use Rattle.scl_outside.specs.Events.{Event}
use Rattle.scl_outside.specs.Effects.{Effects, nothing, only_read, read_to_end, and_then, effects}
use Rattle.scl_outside.specs.Traces.{AtReads}
use Rattle.scl_outside.proofs.Traces.{effects_then, trace_join, at_reads_then, at_reads_map}
use Rattle.capture_frames.specs.Reading.{Wishes, InsideFrame, Fetches, ReadsFrame, FrameGives, answer_for, body_length, left_at}
use Rattle.capture_frames.specs.declared.filling.Fetched.TheVariants.{All, Short, Past, Failed}
use Rattle.capture_frames.specs.declared.reader.FrameOut.TheVariants.{Whole, Empty, Oversize, End, Cut, TooLong, ReadFault}
use Rattle.capture_frames.proofs.ReadEffects.{own_read, reads_after, reads_passed}

take_all : (xs : List ℕ) (n : ℕ) → length xs ≡ n → take n xs ≡ xs
take_all xs n e = ap (λ (l : List ℕ). take n l) (sym (append-nil xs)) ∙ take_at xs [] n e

take_behind : (left : ℕ) (head xs : List ℕ) → length head ≡ 2 → 2 ≤ left → take left (head ++ xs) ≡ head ++ take (left - 2) xs
take_behind left head xs two room =
    let e : take (length head + (left - 2)) (head ++ xs) ≡ head ++ take (left - 2) xs = take-append-add head xs (left - 2) in
    let n : length head + (left - 2) ≡ left = omega arith in
    rw n at e

-- fewer than two bytes are no frame
less_than_two : (xs : List ℕ) → length xs < 2 → IsPartial xs
less_than_two [] h = tt
less_than_two (a ∷ []) h = tt
less_than_two (a ∷ b ∷ xs) h = absurd (let more : suc (suc (length xs)) < 2 = h in omega arith)

-- nor are a length and fewer bytes than it says
two_and_fewer : (head xs : List ℕ) → length head ≡ 2 → length xs < body_length head → IsPartial (head ++ xs)
two_and_fewer [] xs two few = absurd (omega arith)
two_and_fewer (a ∷ []) xs two few = absurd (let e : suc zero ≡ 2 = two in omega arith)
two_and_fewer (a ∷ b ∷ []) xs two few = few
two_and_fewer (a ∷ b ∷ c ∷ more) xs two few = absurd (let e : suc (suc (suc (length more))) ≡ 2 = two in omega arith)

-- a length and as many bytes as it says are a frame
two_and_all : (head d : List ℕ) → length head ≡ 2 → get_or head 1 0 < 256 → length d ≡ body_length head → head ++ d ≡ frame d
two_and_all [] d two low all = absurd (omega arith)
two_and_all (a ∷ []) d two low all = absurd (let e : suc zero ≡ 2 = two in omega arith)
two_and_all (a ∷ b ∷ []) d two low all = rw (all, div-mul-add a 256 b low, mod-mul-add a 256 b low) refl
two_and_all (a ∷ b ∷ c ∷ more) d two low all = absurd (let e : suc (suc (suc (length more))) ≡ 2 = two in omega arith)

-- before each read of the length less than a frame was read
head_inside : (left : ℕ) (es : List Event) → AtReads (Wishes 2 left) nothing es → AtReads (InsideFrame left) nothing es
head_inside left es h = at_reads_map (Wishes 2 left) (InsideFrame left) nothing es (λ f b. (b.0, less_than_two f.read b.1, b.2)) h

-- and before each read of its bytes
both_inside : (left : ℕ) (head : List ℕ) (es fs : List Event) → length head ≡ 2 → 2 ≤ left → effects es ≡ only_read head → AtReads (Wishes 2 left) nothing es → AtReads (Wishes (body_length head) (left - 2)) nothing fs → AtReads (InsideFrame left) nothing (es ++ fs)
both_inside left head es fs two room is h b = at_reads_then (Wishes (body_length head) (left - 2)) (InsideFrame left) es fs (head_inside left es h) (reads_passed (effects es) head is) inside b where
  inside : (f : Effects) → Wishes (body_length head) (left - 2) f → InsideFrame left (and_then (effects es) f)
  inside f w =
      let both : and_then (effects es) f ≡ only_read (head ++ f.read) = reads_after head (effects es) f is w.0 in
      let few : length f.read ≤ left - 2 = w.2 in
      let all : (and_then (effects es) f).read ≡ head ++ f.read = ap (λ (x : Effects). x.read) both in
      (own_read (and_then (effects es) f) (head ++ f.read) both, rw all (two_and_fewer head f.read two w.1), rw all (omega (arith, length-append head f.read)))

-- the input's end at a frame's start
pub frame_end : (offset : ℕ) (s t : Meaning) (head buf : List ℕ) (es : List Event) → Fetches s t (Short 0) 2 (left_at offset) head es → ReadsFrame offset s t End buf es
frame_end offset s t head buf es f =
    record { trace = f.trace; within = head_inside (left_at offset) es f.within; gives = f.gives.4 ∙ ap (λ (l : List ℕ). read_to_end l) (empty f.gives.0 f.gives.1) } where
      empty : (xs : List ℕ) → length xs ≡ 0 → xs ≡ []
      empty [] e = refl
      empty (x ∷ xs) e = absurd (let g : suc (length xs) ≡ 0 = e in omega arith)

-- .. inside its length
pub frame_cut : (offset : ℕ) (s t : Meaning) (head buf : List ℕ) (n : ℕ) (es : List Event) → 0 < n → Fetches s t (Short n) 2 (left_at offset) head es → ReadsFrame offset s t (Cut offset) buf es
frame_cut offset s t head buf n es some f =
    let size : length f.gives.0 ≡ n = f.gives.1 in
    let few : n < 2 = f.gives.2 in
    let room : n ≤ left_at offset = f.gives.3 in
    record {
      trace = f.trace;
      within = head_inside (left_at offset) es f.within;
      gives = (f.gives.0, refl, (λ e. let z : length f.gives.0 ≡ 0 = ap length e in omega arith), less_than_two f.gives.0 (omega arith), rw size room, f.gives.4);
    }

pub frame_failed : (offset : ℕ) (s t : Meaning) (head buf : List ℕ) (es : List Event) → Fetches s t Failed 2 (left_at offset) head es → ReadsFrame offset s t ReadFault buf es
frame_failed offset s t head buf es f =
    record { trace = f.trace; within = head_inside (left_at offset) es f.within; gives = (f.gives.0, less_than_two f.gives.0 f.gives.1, f.gives.2, f.gives.3) }

-- one byte past the limit, inside the length
pub frame_past : (offset : ℕ) (s t : Meaning) (head buf : List ℕ) (es : List Event) → Fetches s t Past 2 (left_at offset) head es → ReadsFrame offset s t TooLong buf es
frame_past offset s t head buf es f =
    let size : length f.gives.0 ≡ left_at offset + 1 = f.gives.1 in
    let few : left_at offset < 2 = f.gives.2 in
    record {
      trace = f.trace;
      within = head_inside (left_at offset) es f.within;
      gives = (f.gives.0, size, less_than_two (take (left_at offset) f.gives.0) (let n : length (take (left_at offset) f.gives.0) ≡ left_at offset = length-take-le (left_at offset) f.gives.0 (rw size (omega arith)) in rw n few), f.gives.3);
    }

-- the two bytes of a length that came
whole_head : {s t : Meaning} {left : ℕ} {es : List Event} (head : List ℕ) → Fetches s t All 2 left head es → length head ≡ 2 → effects es ≡ only_read head
whole_head head f two = f.gives.4 ∙ ap (λ (l : List ℕ). only_read l) (f.gives.3 (omega arith) ∙ take_all head 2 two)

-- what a whole frame is, by its length
gives_long : (offset len : ℕ) (buf d : List ℕ) (f : Effects) → f ≡ only_read (frame d) → length d ≡ len → len < 2 ^ 16 → 2 + len ≤ left_at offset → 0 < len → (len ≤ 9000 → d ≡ take len buf)
    → (b : Bool) → nat_le len 9000 ≡ b → FrameGives (if b then Whole len else Oversize len) offset buf f
gives_long offset len buf d f is size fits room some kept true e = let short : len ≤ 9000 = grind (arith, nat_tests) in (some, short, room, is ∙ ap (λ (l : List ℕ). only_read (frame l)) (kept short))
gives_long offset len buf d f is size fits room some kept false e = (d, size, (let long : 9000 < len = grind (arith, nat_tests) in long), fits, room, is)

gives_any : (offset len : ℕ) (buf d : List ℕ) (f : Effects) → f ≡ only_read (frame d) → length d ≡ len → len < 2 ^ 16 → 2 + len ≤ left_at offset → (len ≤ 9000 → d ≡ take len buf)
    → (b : Bool) → (len == 0) ≡ b → FrameGives (if b then Empty else (if nat_le len 9000 then Whole len else Oversize len)) offset buf f
gives_any offset len buf [] f is size fits room kept true e = ((let r : 2 + len ≤ left_at offset = room in omega arith), is)
gives_any offset len buf (x ∷ d) f is size fits room kept true e = absurd (let z : len ≡ 0 = grind (arith, nat_tests) in let y : suc (length d) ≡ len = size in omega arith)
gives_any offset len buf d f is size fits room kept false e = gives_long offset len buf d f is size fits room (let some : 0 < len = grind (arith, nat_tests) in some) kept (nat_le len 9000) refl

-- a length, and all the bytes that it says
pub frame_whole : (offset : ℕ) (s t u : Meaning) (head buf : List ℕ) (len : ℕ) (es fs : List Event) → length head ≡ 2 → get_or head 1 0 < 256 → len < 2 ^ 16 → len ≡ body_length head → length buf ≡ 9000
    → Fetches s t All 2 (left_at offset) head es → Fetches t u All len (left_at offset - 2) buf fs → ReadsFrame offset s u (answer_for len) buf (es ++ fs)
frame_whole offset s t u head buf len es fs two low fits is big f b =
    let first : effects es ≡ only_read head = whole_head head f two in
    let room : 2 ≤ left_at offset = f.gives.2 in
    let more : len ≤ left_at offset - 2 = b.gives.2 in
    let all : effects (es ++ fs) ≡ only_read (frame b.gives.0) = effects_then es fs _ _ first b.gives.4 ∙ ap (λ (l : List ℕ). only_read l) (two_and_all head b.gives.0 two low (b.gives.1 ∙ is)) in
    record {
      trace = trace_join s t u es fs f.trace b.trace;
      within = both_inside (left_at offset) head es fs two room first f.within (rw is at b.within);
      gives = gives_any offset len buf b.gives.0 (effects (es ++ fs)) all b.gives.1 fits (omega arith) (λ h. b.gives.3 (omega arith)) (len == 0) refl;
    }

pub frame_short : (offset : ℕ) (s t u : Meaning) (head buf : List ℕ) (len n : ℕ) (es fs : List Event) → length head ≡ 2 → len ≡ body_length head
    → Fetches s t All 2 (left_at offset) head es → Fetches t u (Short n) len (left_at offset - 2) buf fs → ReadsFrame offset s u (Cut offset) buf (es ++ fs)
frame_short offset s t u head buf len n es fs two is f b =
    let first : effects es ≡ only_read head = whole_head head f two in
    let room : 2 ≤ left_at offset = f.gives.2 in
    let size : length b.gives.0 ≡ n = b.gives.1 in
    let few : n < len = b.gives.2 in
    let more : n ≤ left_at offset - 2 = b.gives.3 in
    record {
      trace = trace_join s t u es fs f.trace b.trace;
      within = both_inside (left_at offset) head es fs two room first f.within (rw is at b.within);
      gives = (
        head ++ b.gives.0,
        refl,
        (λ e. let z : length (head ++ b.gives.0) ≡ 0 = ap length e in omega (arith, length-append head b.gives.0)),
        two_and_fewer head b.gives.0 two (omega arith),
        omega (arith, length-append head b.gives.0),
        effects_then es fs _ _ first b.gives.4,
      );
    }

pub frame_beyond : (offset : ℕ) (s t u : Meaning) (head buf : List ℕ) (len : ℕ) (es fs : List Event) → length head ≡ 2 → len ≡ body_length head
    → Fetches s t All 2 (left_at offset) head es → Fetches t u Past len (left_at offset - 2) buf fs → ReadsFrame offset s u TooLong buf (es ++ fs)
frame_beyond offset s t u head buf len es fs two is f b =
    let first : effects es ≡ only_read head = whole_head head f two in
    let room : 2 ≤ left_at offset = f.gives.2 in
    let size : length b.gives.0 ≡ left_at offset - 2 + 1 = b.gives.1 in
    let few : left_at offset - 2 < len = b.gives.2 in
    let cut : take (left_at offset) (head ++ b.gives.0) ≡ head ++ take (left_at offset - 2) b.gives.0 = take_behind (left_at offset) head b.gives.0 two room in
    record {
      trace = trace_join s t u es fs f.trace b.trace;
      within = both_inside (left_at offset) head es fs two room first f.within (rw is at b.within);
      gives = (
        head ++ b.gives.0,
        omega (arith, length-append head b.gives.0),
        rw cut (two_and_fewer head (take (left_at offset - 2) b.gives.0) two (omega (arith, length-take-le (left_at offset - 2) b.gives.0 (omega arith)))),
        effects_then es fs _ _ first b.gives.3,
      );
    }

pub frame_broken : (offset : ℕ) (s t u : Meaning) (head buf : List ℕ) (len : ℕ) (es fs : List Event) → length head ≡ 2 → len ≡ body_length head
    → Fetches s t All 2 (left_at offset) head es → Fetches t u Failed len (left_at offset - 2) buf fs → ReadsFrame offset s u ReadFault buf (es ++ fs)
frame_broken offset s t u head buf len es fs two is f b =
    let first : effects es ≡ only_read head = whole_head head f two in
    let room : 2 ≤ left_at offset = f.gives.2 in
    let few : length b.gives.0 < len = b.gives.1 in
    let more : length b.gives.0 ≤ left_at offset - 2 = b.gives.2 in
    record {
      trace = trace_join s t u es fs f.trace b.trace;
      within = both_inside (left_at offset) head es fs two room first f.within (rw is at b.within);
      gives = (head ++ b.gives.0, two_and_fewer head b.gives.0 two (omega arith), omega (arith, length-append head b.gives.0), effects_then es fs _ _ first b.gives.3);
    }
