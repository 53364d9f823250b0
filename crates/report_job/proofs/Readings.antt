-- What `report` writes are readings of the frames that are kept.
use Rattle.std.proofs.Common.{◌≡◌, ◌≢◌, ◌+◌, ◌*◌, ◌++◌, ℕ, zero, suc, true, false, List, [], ◌∷◌, length, take, drop, nat_le, refl, ◌∙◌, ap, subst, inl, inr, append_assoc, if◌then◌else◌}
use Rattle.std.specs.List.{AllByRecursion}
use Rattle.std.proofs.lemmas.List.{map-append}
use Rattle.codestream_model.proofs.SegmentBytes.{bytes-take, bytes-drop}
use Rattle.wire_model.specs.Bytes.{IsBytes}
use Rattle.wire_model.specs.Framing.{first_frames, whole_frames}
use Rattle.stream_model.specs.Decoder.{Release, precincts_released}
use Rattle.stream_model.specs.Report.{Precinct, lines}
use Rattle.stream_model.specs.ReadingLaws.{IsRead}
use Rattle.stream_model.specs.Receiver.{Pick, received, flushed}
use Rattle.stream_model.specs.Commands.{counted, report_lines}
use Rattle.stream_model.proofs.FrameReceivers.{given_stays}
use Rattle.stream_model.proofs.FrameKept.{each_precinct_is_kept}
use Rattle.scl_outside.specs.Effects.{Effects}
use Rattle.scl_run.specs.declared.ending.Ending.TheVariants.{Done, ReadFault, WriteFault, WireFault, Refused, NoMemory}
use Rattle.scl_run.specs.Performing.{HasPrefix}
use Rattle.receiving_job.proofs.FramesRead.{frames_are_bytes}
use Rattle.report_job.specs.Readings.{kept_frames, AreReadings, counts_line, WritesReadings, EndsWithReadings, ReadingsSoFar, ReadingsAtEnd}

-- what holds of each of a list holds of its front
all_front : (P : Precinct → Type 0) (xs ys : List Precinct) → AllByRecursion P (xs ++ ys) → AllByRecursion P xs
all_front P [] ys all = tt
all_front P (x ∷ xs) ys all = (all.0, all_front P xs ys all.1)

-- what the rules give of bytes, at their end
given_at_end : (pick : Pick) (read : List ℕ) → IsBytes read → AreReadings pick read (precincts_released (flushed (received pick (whole_frames (counted read)))).releases)
given_at_end pick read are =
    each_precinct_is_kept pick (whole_frames (counted read)) (frames_are_bytes read are)

-- and before it
given_so_far : (pick : Pick) (read : List ℕ) → IsBytes read → AreReadings pick read (precincts_released (received pick (whole_frames (counted read))).releases)
given_so_far pick read are =
    let r = received pick (whole_frames (counted read)) in
    let P : List Precinct → Type 0 = λ l. AreReadings pick read l in
    let stays = given_stays pick (whole_frames (counted read)) in
    let all = ap precincts_released stays.1 ∙ map-append (λ (x : Release). x.precinct) r.releases stays.0 in
    all_front (IsRead (kept_frames pick read)) (precincts_released r.releases) (precincts_released stays.0) (subst P all (given_at_end pick read are))

-- what was written before the end
lines_so_far : (pick : Pick) (f : Effects) → IsBytes f.read → f.written ≡ report_lines pick f.read false → WritesReadings pick f
lines_so_far pick f are written = (precincts_released (received pick (whole_frames (counted f.read))).releases, given_so_far pick f.read are, written)

pub readings_so_far : ReadingsSoFar
readings_so_far pick f are so = lines_so_far pick f are so.made

-- an ending before the capture's end that isn't a write that failed
stopped_with : (pick : Pick) (status : ℕ) (f : Effects) → status ≢ 0 → status ≢ 4 → WritesReadings pick f → EndsWithReadings pick status f
stopped_with pick status f some other (precincts, are_readings, written) = record {
  precincts = precincts;
  are_readings = are_readings;
  finished = λ is. absurd (some is);
  broken_off = λ is. absurd (other is);
  stopped = λ a b. written;
}

-- a prefix of lines is a prefix of more
longer : (text more written : List ℕ) → HasPrefix text written → HasPrefix (text ++ more) written
longer text more written (rest, is) = (rest ++ more, ap (λ (l : List ℕ). l ++ more) is ∙ append_assoc written rest more)

-- a write that failed
broken_with : (pick : Pick) (f : Effects) (precincts : List Precinct) → AreReadings pick f.read precincts → HasPrefix (lines precincts ++ counts_line pick f.read) f.written → EndsWithReadings pick 4 f
broken_with pick f precincts are_readings prefix = record {
  precincts = precincts;
  are_readings = are_readings;
  finished = λ is. absurd (cc);
  broken_off = λ is. prefix;
  stopped = λ a b. absurd (b refl);
}

pub readings_at_end : ReadingsAtEnd
readings_at_end pick Done f are ends = record {
  precincts = precincts_released (flushed (received pick (whole_frames (counted f.read)))).releases;
  are_readings = given_at_end pick f.read are;
  finished = λ is. ends.output;
  broken_off = λ is. absurd (cc);
  stopped = λ a b. absurd (a refl);
}
readings_at_end pick ReadFault f are ends = stopped_with pick 3 f (λ e. absurd (cc)) (λ e. absurd (cc)) (lines_so_far pick f are ends.output)
readings_at_end pick WriteFault f are ends = elim ends.output [
  | inl part ↦
      let r = received pick (whole_frames (counted f.read)) in
      broken_with pick f (precincts_released r.releases) (given_so_far pick f.read are) (longer (lines (precincts_released r.releases)) (counts_line pick f.read) f.written part)
  | inr part ↦ broken_with pick f (precincts_released (flushed (received pick (whole_frames (counted f.read)))).releases) (given_at_end pick f.read are) part.1
]
readings_at_end pick WireFault f are ends = stopped_with pick 5 f (λ e. absurd (cc)) (λ e. absurd (cc)) (lines_so_far pick f are ends.output)
readings_at_end pick (Refused r) f are ends = stopped_with pick 6 f (λ e. absurd (cc)) (λ e. absurd (cc)) (lines_so_far pick f are ends.output)
readings_at_end pick NoMemory f are ends = stopped_with pick 7 f (λ e. absurd (cc)) (λ e. absurd (cc)) ([], tt, ends.output)
