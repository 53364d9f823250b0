-- The packets that were written so far, and how that ends.
use Rattle.std.proofs.Common.{◌≡◌, ◌<◌, ◌≤◌, ◌⊎◌, ◌+◌, ◌-◌, ◌*◌, ◌%◌, ◌^◌, ℕ, true, false, List, [], ◌∷◌, ◌++◌, length, Some, refl, sym, subst, ◌∙◌, ap, inl, inr, arith, append_assoc}
use Rattle.std.proofs.Math.Nat.{mod-eq_of_lt}
use Rattle.std.proofs.lemmas.List.{append-nil, length-append, take_at}
use Rattle.codestream_model.specs.Values.{Head, Place}
use Rattle.codestream_model.specs.Bytes.{IsBytes}
use Rattle.codestream_model.specs.PacketOrder.{pid}
use Rattle.codestream_model.specs.Codestream.{WalkRefusal, HeadRefused, Cut, TooManyBlocks, HeaderRefused, PacketTooLong, Psot, NoEoc, InputTooLong, TooManyFrames, Faults, RefusesNext}
use Rattle.codestream_model.specs.HeaderPieces as header
use Rattle.codestream_model.specs.HeaderPieces.{HeaderRefusal}
use Rattle.stream_model.specs.Report.{Precinct, lines}
use Rattle.stream_model.specs.Commands.{counted, parse_lines}
use Rattle.stream_model.specs.CommandLaws.{stamp_of}
use Rattle.stream_model.proofs.ParsedPackets.{next_stamp}
use Rattle.stream_model.proofs.Found.{packet_has_bytes}
use Rattle.scl_outside.specs.Meaning.{Meaning}
use Rattle.scl_outside.specs.Events.{Event}
use Rattle.scl_outside.specs.Effects.{Effects, HasPassed, nothing, and_then, effects}
use Rattle.scl_outside.specs.Traces.{Trace, AtReads}
use Rattle.scl_outside.proofs.Traces.{trace_join, effects_then, at_reads_then, has_passed}
use Rattle.scl_outside.specs.declared.duct.PutOut.TheVariants.{Done as Put, WriteFault as NotPut}
use Rattle.scl_outside.specs.Writing.{Never}
use Rattle.codestream_walk.specs.InHand.{input_limit}
use Rattle.codestream_walk.specs.Faults.{walk_refusal}
use Rattle.codestream_walk.specs.Walking.{AtStart, Walking, fed, reach, is_live, IsStart}
use Rattle.codestream_walk.specs.Walks.{Walked, NeedsItem, RefusesItem}
use Rattle.codestream_walk.specs.WalkSteps.{WaitsItem, FixesItem, MeetsItemEnd, MeetsItemLimit, Walks}
use Rattle.codestream_walk.specs.Reading.{IsFull}
use Rattle.codestream_walk.specs.declared.fault.WalkFault.{WalkFault}
use Rattle.codestream_walk.specs.declared.fault.WalkWhy.TheVariants as walk_why
use Rattle.codestream_walk.specs.declared.walk.WalkOut.{WalkOut}
use Rattle.codestream_walk.specs.declared.walk.WalkOut.TheVariants as out
use Rattle.codestream_walk.proofs.Bytes.{bytes_join, no_bytes}
use Rattle.scl_run.specs.declared.ending.Reason.TheVariants as reason
use Rattle.scl_run.specs.declared.ending.Refusal.{Refusal}
use Rattle.scl_run.specs.declared.ending.Ending.{Ending}
use Rattle.scl_run.specs.declared.ending.Ending.TheVariants.{Done, ReadFault, WriteFault, Refused}
use Rattle.scl_run.specs.Performing.{Performs, EndsAs, IsSoFar, passed}
use Rattle.scl_run.proofs.Performed.{performs}
use Rattle.parse_job.specs.Inputs.{reason_for, header_reason}
use Rattle.parse_job.specs.ParseJob.{parse_job}
use Rattle.parse_job.specs.Writing.{precinct_shown, WritesPacket}
use Rattle.parse_job.proofs.Telling.{Tells, packets_tell, ends_tell}
use Rattle.parse_job.proofs.Prompt.{needed_made, refused_made, made_begins, lines_more, all_count}
use Rattle.parse_job.proofs.Open.{EndsInside, needs_open, wanting, whole_input, cut_input, refusal_is_fault, limit_is_fault, limit_is_full}

-- so far these packets were read and written
pub record SoFar (stamp step : ℕ) (s t : Meaning) (w : Walking) (now : ℕ) (es : List Event) : Type 0 where
  pub trace : Trace s es t
  pub so_far : AtReads (IsSoFar (parse_job stamp step)) nothing es
  pub consumed : List ℕ
  pub xs : List Precinct
  pub done : effects es ≡ passed (consumed ++ w.hand) (lines xs)
  pub are_bytes : IsBytes (consumed ++ w.hand)
  pub tells : Tells stamp step consumed w xs
  pub within : reach w ≤ input_limit
  pub stamped : now ≡ stamp_of stamp step w.codestreams

first_stamp : (stamp step : ℕ) → stamp < 2 ^ 32 → stamp ≡ stamp_of stamp step 0
first_stamp stamp step low = sym (ap (λ (s : ℕ). s % 2 ^ 32) (let z : stamp + 0 * step ≡ stamp = omega arith in z) ∙ mod-eq_of_lt low)

-- the start
pub none_yet : (stamp step : ℕ) (s : Meaning) (w : Walking) → stamp < 2 ^ 32 → IsStart w → SoFar stamp step s s w stamp []
none_yet stamp step s w low start =
    let P : Walking → Type 0 = λ x. SoFar stamp step s s x stamp [] in
    let w0 : Walking = record { hand = []; offset = 0; codestreams = 0; stage = AtStart } in
    subst P (sym start) (record {
      trace = refl;
      so_far = tt;
      consumed = [];
      xs = [];
      done = refl;
      are_bytes = no_bytes;
      tells = record { said = []; codestreams = []; front = []; last = []; whole = refl; are = tt; count = refl; few = omega arith; room = inl refl; offset = refl; given = (refl, refl); all = refl };
      within = omega arith;
      stamped = first_stamp stamp step low;
    })

-- more bytes in hand change nothing
fed_tells : (stamp step : ℕ) (consumed : List ℕ) (w : Walking) (xs : List Precinct) (bytes : List ℕ) → Tells stamp step consumed w xs → Tells stamp step consumed (fed w bytes) xs
fed_tells stamp step consumed w xs bytes t = record { said = t.said; codestreams = t.codestreams; front = t.front; last = t.last; whole = t.whole; are = t.are; count = t.count; few = t.few; room = t.room; offset = t.offset; given = t.given; all = t.all }

-- no call failed so far
so_passed : (stamp step : ℕ) (s t : Meaning) (w : Walking) (now : ℕ) (es : List Event) → SoFar stamp step s t w now es → HasPassed (effects es)
so_passed stamp step s t w now es so = has_passed (effects es) (passed (so.consumed ++ w.hand) (lines so.xs)) so.done (record { reads = refl; writes = refl; on_wire = refl })

-- what was read with more bytes, and that all of it counts
all_bytes : (stamp step : ℕ) (s t : Meaning) (w : Walking) (now : ℕ) (es : List Event) (so : SoFar stamp step s t w now es) (more : List ℕ) → (so.consumed ++ w.hand) ++ more ≡ so.consumed ++ (w.hand ++ more)
all_bytes stamp step s t w now es so more = append_assoc so.consumed w.hand more

counts : (stamp step : ℕ) (s t : Meaning) (w : Walking) (now : ℕ) (es : List Event) (so : SoFar stamp step s t w now es) (more : List ℕ) → reach (fed w more) ≤ input_limit → counted ((so.consumed ++ w.hand) ++ more) ≡ so.consumed ++ (w.hand ++ more)
counts stamp step s t w now es so more few =
    let o = so.tells.offset in
    all_count ((so.consumed ++ w.hand) ++ more) (omega (arith, few, o, length-append (so.consumed ++ w.hand) more, length-append so.consumed w.hand, length-append w.hand more)) ∙ append_assoc so.consumed w.hand more

-- before each further read
waiting : (stamp step : ℕ) (s t : Meaning) (w : Walking) (now : ℕ) (es : List Event) → stamp < 2 ^ 32 → SoFar stamp step s t w now es → (f : Effects) → WaitsItem w f → IsSoFar (parse_job stamp step) (and_then (effects es) f)
waiting stamp step s t w now es low so f k =
    let read = (so.consumed ++ w.hand) ++ f.read in
    let out : List ℕ = lines so.xs in
    let tells = fed_tells stamp step so.consumed w so.xs f.read so.tells in
    let all : and_then (effects es) f ≡ passed read (out ++ []) =
    ap (λ (x : Effects). and_then x f) so.done ∙ ap (λ (x : Effects). and_then (passed (so.consumed ++ w.hand) out) x) k.reads in
    let P : Effects → Type 0 = λ x. IsSoFar (parse_job stamp step) x in
    let Q : List ℕ → Type 0 = λ l. (parse_job stamp step).inputs.Wants l in
    subst P (sym all) (record {
      made = append-nil out ∙ sym (needed_made stamp step so.consumed read (fed w f.read) so.xs false low (bytes_join (so.consumed ++ w.hand) f.read so.are_bytes k.are_bytes) (counts stamp step s t w now es so f.read k.within) tells k.needs);
      sent = refl;
      goes_on = refl;
      asks = subst Q (sym (all_bytes stamp step s t w now es so f.read)) (needs_open stamp step so.consumed (fed w f.read) so.xs tells k.within k.needs);
    })

-- what was done after a step of the walk
pub record Stepped (stamp step : ℕ) (s u : Meaning) (es : List Event) : Type 0 where
  pub trace : Trace s es u
  pub so_far : AtReads (IsSoFar (parse_job stamp step)) nothing es

stepped : (stamp step : ℕ) (s t u : Meaning) (w : Walking) (now : ℕ) (answer : WalkOut) (v : Walked) (es fs : List Event) → stamp < 2 ^ 32 → SoFar stamp step s t w now es → Walks w t u answer v fs → Stepped stamp step s u (es ++ fs)
stepped stamp step s t u w now answer v es fs low so k = record {
  trace = trace_join s t u es fs so.trace k.trace;
  so_far = at_reads_then (WaitsItem w) (IsSoFar (parse_job stamp step)) es fs so.so_far (so_passed stamp step s t w now es so) (waiting stamp step s t w now es low so) k.within;
}

-- a packet was read
pub record Read (stamp step : ℕ) (s u : Meaning) (v : Walked) (now : ℕ) (es : List Event) : Type 0 where
  pub stepped : Stepped stamp step s u es
  pub head : Head
  pub shown : v.head ≡ Some head
  pub consumed : List ℕ
  pub xs : List Precinct
  pub done : effects es ≡ passed (consumed ++ v.walk.hand) (lines xs)
  pub are_bytes : IsBytes (consumed ++ v.walk.hand)
  pub tells : Tells stamp step consumed v.walk (xs ++ precinct_shown head now v ∷ [])
  pub within : reach v.walk ≤ input_limit
  pub stamped : now ≡ stamp_of stamp step v.walk.codestreams
  pub live : is_live v.walk.stage ≡ true

-- the bytes of an item are given, and those after it are in hand
given_parts : (consumed hand read item rest : List ℕ) → hand ++ read ≡ item ++ rest → (consumed ++ hand) ++ read ≡ (consumed ++ item) ++ rest
given_parts consumed hand read item rest e = append_assoc consumed hand read ∙ (ap (λ (l : List ℕ). consumed ++ l) e ∙ sym (append_assoc consumed item rest))

pub packet_read : (stamp step : ℕ) (s t u : Meaning) (w : Walking) (now : ℕ) (v : Walked) (es fs : List Event) → stamp < 2 ^ 32 → SoFar stamp step s t w now es → Walks w t u out.Packet v fs → Read stamp step s u v now (es ++ fs)
packet_read stamp step s t u w now v es fs low so k =
    let f = k.gives in
    let g = f.gives in
    let read = (effects fs).read in
    let item = g.header ++ g.packet in
    let hand : v.walk.hand ≡ g.rest = ap (λ (x : Walking). x.hand) g.now in
    let whole : w.hand ++ read ≡ item ++ g.rest = g.whole ∙ sym (append_assoc g.header g.packet g.rest) in
    let all : (so.consumed ++ w.hand) ++ read ≡ (so.consumed ++ item) ++ v.walk.hand = given_parts so.consumed w.hand read item g.rest whole ∙ ap (λ (l : List ℕ). (so.consumed ++ item) ++ l) (sym hand) in
    let P : List ℕ → Type 0 = λ l. IsBytes l in
    let x : Precinct = record { stamp = stamp_of stamp step w.codestreams; pid = pid g.head v.place; place = v.place; blocks = v.content.blocks; bytes = v.content.bytes } in
    let same : x ≡ precinct_shown g.head now v = ap (λ (n : ℕ). precinct_shown g.head n v) (sym so.stamped) in
    let Q : Precinct → Type 0 = λ y. Tells stamp step (so.consumed ++ item) v.walk (so.xs ++ y ∷ []) in
    let offset : v.walk.offset ≡ w.offset + length item = ap (λ (y : Walking). y.offset) g.now in
    let count : v.walk.codestreams ≡ w.codestreams = ap (λ (y : Walking). y.codestreams) g.now in
    record {
      stepped = stepped stamp step s t u w now out.Packet v es fs low so k;
      head = g.head;
      shown = g.shown_head;
      consumed = so.consumed ++ item;
      xs = so.xs;
      done = effects_then es fs _ _ so.done f.reads ∙ (ap (λ (l : List ℕ). passed ((so.consumed ++ w.hand) ++ read) l) (append-nil (lines so.xs)) ∙ ap (λ (l : List ℕ). passed l (lines so.xs)) all);
      are_bytes = subst P all (bytes_join (so.consumed ++ w.hand) read so.are_bytes f.are_bytes);
      tells = subst Q same (packets_tell stamp step so.consumed (fed w read) v so.xs (fed_tells stamp step so.consumed w so.xs read so.tells) g);
      within = omega (arith, f.within, offset, ap length hand, ap length whole, length-append item g.rest);
      stamped = so.stamped ∙ ap (λ (n : ℕ). stamp_of stamp step n) (sym count);
      live = ap (λ (y : Walking). is_live y.stage) g.now;
    }

-- and it is written
written_passed : (stamp step : ℕ) (s u : Meaning) (v : Walked) (now : ℕ) (es : List Event) → Read stamp step s u v now es → HasPassed (effects es)
written_passed stamp step s u v now es r = has_passed (effects es) (passed (r.consumed ++ v.walk.hand) (lines r.xs)) r.done (record { reads = refl; writes = refl; on_wire = refl })

pub packet_written : (stamp step : ℕ) (s u z : Meaning) (v : Walked) (now : ℕ) (es ps : List Event) → Read stamp step s u v now es → WritesPacket v now u z Put ps → SoFar stamp step s z v.walk now (es ++ ps)
packet_written stamp step s u z v now es ps r writes =
    let p = writes r.head r.shown in
    let x = precinct_shown r.head now v in
    let read = r.consumed ++ v.walk.hand in
    record {
      trace = trace_join s u z es ps r.stepped.trace p.trace;
      so_far = at_reads_then Never (IsSoFar (parse_job stamp step)) es ps r.stepped.so_far (written_passed stamp step s u v now es r) (λ f i. absurd i) p.within;
      consumed = r.consumed;
      xs = r.xs ++ x ∷ [];
      done = effects_then es ps _ _ r.done p.gives ∙ (ap (λ (l : List ℕ). passed l (lines r.xs ++ lines (x ∷ []))) (append-nil read) ∙ ap (λ (l : List ℕ). passed read l) (sym (lines_more r.xs (x ∷ []))));
      are_bytes = r.are_bytes;
      tells = r.tells;
      within = r.within;
      stamped = r.stamped;
    }

-- or a write fails
pub packet_broken : (stamp step : ℕ) (s u z : Meaning) (v : Walked) (now : ℕ) (es ps : List Event) → stamp < 2 ^ 32 → Read stamp step s u v now es → WritesPacket v now u z NotPut ps → Performs (parse_job stamp step) s z WriteFault (es ++ ps)
packet_broken stamp step s u z v now es ps low r writes =
    let p = writes r.head r.shown in
    let front = p.gives.0 in
    let x = precinct_shown r.head now v in
    let read = r.consumed ++ v.walk.hand in
    let b = made_begins stamp step r.consumed v.walk (r.xs ++ x ∷ []) false low r.are_bytes r.within r.tells in
    let size : length read ≤ input_limit = omega (arith, r.within, r.tells.offset, length-append r.consumed v.walk.hand) in
    let all : parse_lines stamp step read ≡ (lines r.xs ++ front) ++ (p.gives.1 ++ b.0) =
    b.1 ∙ (ap (λ (l : List ℕ). l ++ b.0) (lines_more r.xs (x ∷ []) ∙ (ap (λ (l : List ℕ). lines r.xs ++ l) p.gives.2 ∙ sym (append_assoc (lines r.xs) front p.gives.1))) ∙ append_assoc (lines r.xs ++ front) p.gives.1 b.0) in
    let done : effects (es ++ ps) ≡ record (passed read (lines r.xs ++ front)) { write_failed = true } =
    effects_then es ps _ _ r.done p.gives.3 ∙ ap (λ (l : List ℕ). record (passed l (lines r.xs ++ front)) { write_failed = true }) (append-nil read) in
    performs (parse_job stamp step) s z WriteFault (es ++ ps) (record (passed read (lines r.xs ++ front)) { write_failed = true })
    (trace_join s u z es ps r.stepped.trace p.trace)
    (at_reads_then Never (IsSoFar (parse_job stamp step)) es ps r.stepped.so_far (written_passed stamp step s u v now es r) (λ f i. absurd i) p.within)
    done refl (record {
      output = inl (p.gives.1 ++ b.0, all);
      sent = refl;
      cause = tt;
      fails = record { read_failed = refl; write_failed = refl; on_wire = refl };
      fits = omega (arith, size);
      wires = refl;
    })

-- EOC was read
pub eoc_read : (stamp step : ℕ) (s t u : Meaning) (w : Walking) (now next : ℕ) (v : Walked) (es fs : List Event) → stamp < 2 ^ 32 → SoFar stamp step s t w now es → Walks w t u out.FrameEnd v fs → next ≡ (now + step) % 2 ^ 32
    → SoFar stamp step s u v.walk next (es ++ fs) × (is_live v.walk.stage ≡ true) × (input_limit - v.walk.offset < input_limit - w.offset)
eoc_read stamp step s t u w now next v es fs low so k after =
    let f = k.gives in
    let g = f.gives in
    let read = (effects fs).read in
    let eoc : List ℕ = 255 ∷ 217 ∷ [] in
    let item = g.header ++ eoc in
    let hand : v.walk.hand ≡ g.rest = ap (λ (x : Walking). x.hand) g.now in
    let whole : w.hand ++ read ≡ item ++ g.rest = g.whole ∙ sym (append_assoc g.header eoc g.rest) in
    let all : (so.consumed ++ w.hand) ++ read ≡ (so.consumed ++ item) ++ v.walk.hand = given_parts so.consumed w.hand read item g.rest whole ∙ ap (λ (l : List ℕ). (so.consumed ++ item) ++ l) (sym hand) in
    let P : List ℕ → Type 0 = λ l. IsBytes l in
    let offset : v.walk.offset ≡ w.offset + length item = ap (λ (y : Walking). y.offset) g.now in
    let count : v.walk.codestreams ≡ w.codestreams + 1 = ap (λ (y : Walking). y.codestreams) g.now in
    let joined_bytes = bytes_join (so.consumed ++ w.hand) read so.are_bytes f.are_bytes in
    let within : reach v.walk ≤ input_limit = omega (arith, f.within, offset, ap length hand, ap length whole, length-append item g.rest) in
    let k_step = stepped stamp step s t u w now out.FrameEnd v es fs low so k in (
      record {
        trace = k_step.trace;
        so_far = k_step.so_far;
        consumed = so.consumed ++ item;
        xs = so.xs;
        done = effects_then es fs _ _ so.done f.reads ∙ (ap (λ (l : List ℕ). passed ((so.consumed ++ w.hand) ++ read) l) (append-nil (lines so.xs)) ∙ ap (λ (l : List ℕ). passed l (lines so.xs)) all);
        are_bytes = subst P all joined_bytes;
        tells = ends_tell stamp step so.consumed (fed w read) v so.xs (fed_tells stamp step so.consumed w so.xs read so.tells) (subst P (append_assoc so.consumed w.hand read) joined_bytes) g;
        within = within;
        stamped = after ∙ (ap (λ (n : ℕ). (n + step) % 2 ^ 32) so.stamped ∙ (next_stamp stamp step w.codestreams ∙ ap (λ (n : ℕ). stamp_of stamp step n) (sym count)));
      },
      ap (λ (y : Walking). is_live y.stage) g.now,
      omega (arith, within, offset, length-append g.header eoc),
    )

-- the walk goes on
pub packet_further : (s t : Meaning) (w : Walking) (v : Walked) (fs : List Event) → reach v.walk ≤ input_limit → Walks w s t out.Packet v fs → input_limit - v.walk.offset < input_limit - w.offset
packet_further s t w v fs few k =
    let g = k.gives.gives in
    let offset : v.walk.offset ≡ w.offset + length (g.header ++ g.packet) = ap (λ (y : Walking). y.offset) g.now in
    omega (arith, few, offset, packet_has_bytes g.head g.place g.content g.packet g.is_packet, length-append g.header g.packet)

-- the bytes that were read by an ending, and what is made of them
ended : (stamp step : ℕ) (s t u : Meaning) (w : Walking) (now : ℕ) (answer : WalkOut) (v : Walked) (es fs : List Event) (ending : Ending) (f g : Effects) → stamp < 2 ^ 32 → (so : SoFar stamp step s t w now es) → Walks w t u answer v fs
    → effects fs ≡ f → and_then (passed (so.consumed ++ w.hand) (lines so.xs)) f ≡ g → g.noted ≡ [] → EndsAs (parse_job stamp step) ending g → Performs (parse_job stamp step) s u ending (es ++ fs)
ended stamp step s t u w now answer v es fs ending f g low so k is all quiet ends =
    let p = stepped stamp step s t u w now answer v es fs low so k in
    performs (parse_job stamp step) s u ending (es ++ fs) g p.trace p.so_far (effects_then es fs _ _ so.done is ∙ all) quiet ends

-- the size of what was read
size_of : (stamp step : ℕ) (s t : Meaning) (w : Walking) (now : ℕ) (es : List Event) (so : SoFar stamp step s t w now es) (more : List ℕ) → length ((so.consumed ++ w.hand) ++ more) ≡ reach (fed w more)
size_of stamp step s t w now es so more = let o = so.tells.offset in omega (arith, o, length-append (so.consumed ++ w.hand) more, length-append so.consumed w.hand, length-append w.hand more)

-- the input is over, and is whole codestreams
pub end_met : (stamp step : ℕ) (s t u : Meaning) (w : Walking) (now : ℕ) (v : Walked) (es fs : List Event) → stamp < 2 ^ 32 → SoFar stamp step s t w now es → Walks w t u out.End v fs → Performs (parse_job stamp step) s u Done (es ++ fs)
end_met stamp step s t u w now v es fs low so k =
    let m = k.gives.0 in
    let more = (effects fs).read in
    let read = (so.consumed ++ w.hand) ++ more in
    let tells = fed_tells stamp step so.consumed w so.xs more so.tells in
    let made_all = needed_made stamp step so.consumed read (fed w more) so.xs true low (bytes_join (so.consumed ++ w.hand) more so.are_bytes m.waits.are_bytes) (counts stamp step s t w now es so more m.waits.within) tells m.waits.needs in
    let A : List ℕ → Type 0 = λ l. (parse_job stamp step).inputs.Accepts l in
    ended stamp step s t u w now out.End v es fs Done (effects fs) (record (passed read (lines so.xs ++ [])) { ended = true }) low so k refl (ap (λ (x : Effects). and_then (passed (so.consumed ++ w.hand) (lines so.xs)) x) m.reads) refl (record {
      output = append-nil (lines so.xs) ∙ sym made_all;
      sent = refl;
      cause = ((subst A (sym (all_bytes stamp step s t w now es so more)) (tells.codestreams, whole_input stamp step so.consumed (fed w more) so.xs tells m.waits.within m.ends), (λ i. refl)), tt);
      fails = record { read_failed = refl; write_failed = refl; on_wire = refl };
      fits = omega (arith, size_of stamp step s t w now es so more, m.waits.within);
      wires = refl;
    })

-- a read failed
pub read_failed : (stamp step : ℕ) (s t u : Meaning) (w : Walking) (now : ℕ) (v : Walked) (es fs : List Event) → stamp < 2 ^ 32 → SoFar stamp step s t w now es → Walks w t u out.ReadFault v fs → Performs (parse_job stamp step) s u ReadFault (es ++ fs)
read_failed stamp step s t u w now v es fs low so k =
    let waits = k.gives.1 in
    let more = (effects fs).read in
    let read = (so.consumed ++ w.hand) ++ more in
    let tells = fed_tells stamp step so.consumed w so.xs more so.tells in
    let made_all = needed_made stamp step so.consumed read (fed w more) so.xs false low (bytes_join (so.consumed ++ w.hand) more so.are_bytes waits.are_bytes) (counts stamp step s t w now es so more waits.within) tells waits.needs in
    ended stamp step s t u w now out.ReadFault v es fs ReadFault (effects fs) (record (passed read (lines so.xs ++ [])) { read_failed = true }) low so k refl (ap (λ (x : Effects). and_then (passed (so.consumed ++ w.hand) (lines so.xs)) x) k.gives.0) refl (record {
      output = append-nil (lines so.xs) ∙ sym made_all;
      sent = refl;
      cause = tt;
      fails = record { read_failed = refl; write_failed = refl; on_wire = refl };
      fits = omega (arith, size_of stamp step s t w now es so more, waits.within);
      wires = refl;
    })

-- the input's end alone is noted so
not_header : (why : HeaderRefusal) → header_reason why ≡ reason.Cut → ⊥
not_header header.Stuffed e = cc
not_header header.ZeroPlanes e = cc
not_header header.Passes e = cc
not_header header.LengthBits e = cc
not_header header.CleanupShort e = cc
not_header header.CleanupLong e = cc
not_header header.RefineLong e = cc
not_header header.TooLong e = cc
not_header header.NoEph e = cc

is_cut : (why : WalkRefusal) → reason_for why ≡ reason.Cut → why ≡ Cut
is_cut Cut e = refl
is_cut (HeadRefused why) e = absurd (cc)
is_cut TooManyBlocks e = absurd (cc)
is_cut (HeaderRefused why) e = absurd (not_header why e)
is_cut PacketTooLong e = absurd (cc)
is_cut Psot e = absurd (cc)
is_cut NoEoc e = absurd (cc)
is_cut InputTooLong e = absurd (cc)
is_cut TooManyFrames e = absurd (cc)

next_not_cut : (h : Head) (later : List Place) (size : ℕ) (rest : List ℕ) → RefusesNext h later size rest Cut → ⊥
next_not_cut h [] size rest r = r
next_not_cut h (p ∷ later) size rest r = r

no_end : (w : Walking) (at : ℕ) → RefusesItem w at Cut → ⊥
no_end w at (inl r) = let e = r.is in absurd (cc)
no_end w at (inr (inl r)) = r.refused
no_end w at (inr (inr r)) = next_not_cut r.head r.later r.size r.rest r.refused

never_cut : (w : Walking) (at : ℕ) (why : WalkRefusal) → RefusesItem w at why → reason_for why ≡ reason.Cut → ⊥
never_cut w at why r e = let P : WalkRefusal → Type 0 = λ y. RefusesItem w at y in no_end w at (subst P (is_cut why e) r)

-- the bytes in hand are refused,
refused_fixed : (stamp step : ℕ) (s t u : Meaning) (w : Walking) (now : ℕ) (v : Walked) (es fs : List Event) (fault : WalkFault) (r : Refusal) → stamp < 2 ^ 32 → SoFar stamp step s t w now es → Walks w t u (out.Refused fault) v fs → r.at ≡ fault.at → r.reason ≡ reason_for (walk_refusal fault.why)
    → FixesItem (λ x. RefusesItem x fault.at (walk_refusal fault.why)) w (effects fs) → Performs (parse_job stamp step) s u (Refused r) (es ++ fs)
refused_fixed stamp step s t u w now v es fs fault r low so k at_is why_is f =
    let why = walk_refusal fault.why in
    let more = (effects fs).read in
    let read = (so.consumed ++ w.hand) ++ more in
    let tells = fed_tells stamp step so.consumed w so.xs more so.tells in
    let made_all = refused_made stamp step so.consumed read (fed w more) so.xs false fault.at why low (bytes_join (so.consumed ++ w.hand) more so.are_bytes f.are_bytes) (counts stamp step s t w now es so more f.within) tells f.gives in
    let F : List ℕ → Type 0 = λ l. Faults l fault.at why in
    let A : ℕ → Type 0 = λ n. Faults read n why in
    let fault_is = subst A (sym at_is) (subst F (sym (all_bytes stamp step s t w now es so more)) (refusal_is_fault stamp step so.consumed (fed w more) so.xs fault.at why tells f.within f.gives)) in
    ended stamp step s t u w now (out.Refused fault) v es fs (Refused r) (effects fs) (passed read (lines so.xs ++ [])) low so k refl (ap (λ (x : Effects). and_then (passed (so.consumed ++ w.hand) (lines so.xs)) x) f.reads) refl (record {
      output = append-nil (lines so.xs) ∙ sym made_all;
      sent = refl;
      cause = ((why, why_is, fault_is), (λ e. absurd (never_cut (fed w more) fault.at why f.gives (sym why_is ∙ e))));
      fails = record { read_failed = refl; write_failed = refl; on_wire = refl };
      fits = omega (arith, size_of stamp step s t w now es so more, f.within);
      wires = refl;
    })

-- or the input is over inside a codestream,
refused_cut : (stamp step : ℕ) (s t u : Meaning) (w : Walking) (now : ℕ) (v : Walked) (es fs : List Event) (fault : WalkFault) (r : Refusal) → stamp < 2 ^ 32 → SoFar stamp step s t w now es → Walks w t u (out.Refused fault) v fs → r.at ≡ fault.at → r.reason ≡ reason_for (walk_refusal fault.why)
    → MeetsItemEnd (out.Refused fault) w (effects fs) → Performs (parse_job stamp step) s u (Refused r) (es ++ fs)
refused_cut stamp step s t u w now v es fs fault r low so k at_is why_is m =
    let more = (effects fs).read in
    let read = (so.consumed ++ w.hand) ++ more in
    let tells = fed_tells stamp step so.consumed w so.xs more so.tells in
    let made_all = needed_made stamp step so.consumed read (fed w more) so.xs false low (bytes_join (so.consumed ++ w.hand) more so.are_bytes m.waits.are_bytes) (counts stamp step s t w now es so more m.waits.within) tells m.waits.needs in
    let inside : EndsInside w.codestreams (tells.front ++ (w.hand ++ more)) = elim (wanting (stamp_of stamp step (length tells.codestreams)) (fed w more) tells.front tells.last tells.room tells.given m.waits.needs) [ inl between ↦ absurd (m.ends.0 between) | inr e ↦ e ] in
    let F : List ℕ → Type 0 = λ l. Faults l (reach (fed w more)) Cut in
    let A : ℕ → Type 0 = λ n. Faults read n Cut in
    let fault_is = subst A (sym (at_is ∙ m.ends.2)) (subst F (sym (all_bytes stamp step s t w now es so more)) (cut_input stamp step so.consumed (fed w more) so.xs tells m.waits.within inside)) in
    ended stamp step s t u w now (out.Refused fault) v es fs (Refused r) (effects fs) (record (passed read (lines so.xs ++ [])) { ended = true }) low so k refl (ap (λ (x : Effects). and_then (passed (so.consumed ++ w.hand) (lines so.xs)) x) m.reads) refl (record {
      output = append-nil (lines so.xs) ∙ sym made_all;
      sent = refl;
      cause = ((Cut, why_is ∙ ap (λ y. reason_for (walk_refusal y)) m.ends.1, fault_is), (λ e. refl));
      fails = record { read_failed = refl; write_failed = refl; on_wire = refl };
      fits = omega (arith, size_of stamp step s t w now es so more, m.waits.within);
      wires = refl;
    })

-- or it goes on past the limit
limit_cause : (stamp step : ℕ) (consumed more : List ℕ) (w : Walking) (xs : List Precinct) (fault : WalkFault) → Tells stamp step consumed w xs → reach w ≡ input_limit → NeedsItem w → 1 ≤ length more
    → ((IsFull w × (fault.why ≡ walk_why.TooManyFrames)) ⊎ ((IsFull w → ⊥) × (fault.why ≡ walk_why.InputTooLong)))
    → Faults (consumed ++ (w.hand ++ more)) input_limit (walk_refusal fault.why) × (walk_refusal fault.why ≡ Cut → ⊥)
limit_cause stamp step consumed more w xs fault t full n some (inl (all, is)) =
    let same : walk_refusal fault.why ≡ TooManyFrames = ap walk_refusal is in
    let P : WalkRefusal → Type 0 = λ y. Faults (consumed ++ (w.hand ++ more)) input_limit y in
    (subst P (sym same) (limit_is_full stamp step consumed more w xs t full n some all), λ e. let f : TooManyFrames ≡ Cut = sym same ∙ e in cc)
limit_cause stamp step consumed more w xs fault t full n some (inr (free, is)) =
    let same : walk_refusal fault.why ≡ InputTooLong = ap walk_refusal is in
    let P : WalkRefusal → Type 0 = λ y. Faults (consumed ++ (w.hand ++ more)) input_limit y in
    (subst P (sym same) (limit_is_fault stamp step consumed more w xs t full n some free), λ e. let f : InputTooLong ≡ Cut = sym same ∙ e in cc)

refused_limit : (stamp step : ℕ) (s t u : Meaning) (w : Walking) (now : ℕ) (v : Walked) (es fs : List Event) (fault : WalkFault) (r : Refusal) → stamp < 2 ^ 32 → SoFar stamp step s t w now es → Walks w t u (out.Refused fault) v fs → r.at ≡ fault.at → r.reason ≡ reason_for (walk_refusal fault.why)
    → MeetsItemLimit fault w (effects fs) → Performs (parse_job stamp step) s u (Refused r) (es ++ fs)
refused_limit stamp step s t u w now v es fs fault r low so k at_is why_is m =
    let why = walk_refusal fault.why in
    let read = (so.consumed ++ w.hand) ++ (m.bytes ++ m.more) in
    let tells = fed_tells stamp step so.consumed w so.xs m.bytes so.tells in
    let split : read ≡ (so.consumed ++ (w.hand ++ m.bytes)) ++ m.more = sym (append_assoc (so.consumed ++ w.hand) m.bytes m.more) ∙ ap (λ (l : List ℕ). l ++ m.more) (append_assoc so.consumed w.hand m.bytes) in
    let size : length (so.consumed ++ (w.hand ++ m.bytes)) ≡ 1099511627776 = omega (arith, m.full, tells.offset, length-append so.consumed (w.hand ++ m.bytes)) in
    let count : counted read ≡ so.consumed ++ (w.hand ++ m.bytes) = ap counted split ∙ take_at (so.consumed ++ (w.hand ++ m.bytes)) m.more 1099511627776 size in
    let fits = bytes_join (so.consumed ++ w.hand) (m.bytes ++ m.more) so.are_bytes (bytes_join m.bytes m.more m.waits.are_bytes m.are_bytes) in
    let made_all = needed_made stamp step so.consumed read (fed w m.bytes) so.xs false low fits count tells m.waits.needs in
    let c = limit_cause stamp step so.consumed m.more (fed w m.bytes) so.xs fault tells m.full m.waits.needs (omega (arith, m.one)) m.passes.1 in
    let F : List ℕ → Type 0 = λ l. Faults l input_limit why in
    let A : ℕ → Type 0 = λ n. Faults read n why in
    let fault_is = subst A (sym (at_is ∙ m.passes.0)) (subst F (sym (split ∙ append_assoc so.consumed (w.hand ++ m.bytes) m.more)) c.0) in
    ended stamp step s t u w now (out.Refused fault) v es fs (Refused r) (effects fs) (passed read (lines so.xs ++ [])) low so k refl (ap (λ (x : Effects). and_then (passed (so.consumed ++ w.hand) (lines so.xs)) x) m.reads) refl (record {
      output = append-nil (lines so.xs) ∙ sym made_all;
      sent = refl;
      cause = ((why, why_is, fault_is), (λ e. absurd (c.1 (is_cut why (sym why_is ∙ e)))));
      fails = record { read_failed = refl; write_failed = refl; on_wire = refl };
      fits = omega (arith, size, m.one, ap length split, length-append (so.consumed ++ (w.hand ++ m.bytes)) m.more);
      wires = refl;
    })

pub refused_met : (stamp step : ℕ) (s t u : Meaning) (w : Walking) (now : ℕ) (v : Walked) (es fs : List Event) (fault : WalkFault) (r : Refusal) → stamp < 2 ^ 32 → SoFar stamp step s t w now es → Walks w t u (out.Refused fault) v fs → r.at ≡ fault.at → r.reason ≡ reason_for (walk_refusal fault.why)
    → Performs (parse_job stamp step) s u (Refused r) (es ++ fs)
refused_met stamp step s t u w now v es fs fault r low so k at_is why_is = elim k.gives.0 [
  | inl f ↦ refused_fixed stamp step s t u w now v es fs fault r low so k at_is why_is f
  | inr (inl m) ↦ refused_cut stamp step s t u w now v es fs fault r low so k at_is why_is m
  | inr (inr m) ↦ refused_limit stamp step s t u w now v es fs fault r low so k at_is why_is m
]
