-- What each call does to what an object in memory tells.
use Rattle.std.proofs.Common.{◌≡◌, ◌≤◌, ℕ, Bool, true, List, [], ◌∷◌, Option, length, length-take-le, refl, sym, ◌∙◌, ap, subst, arith}
use Rattle.wire_model.specs.Receptions.{Reception, Arrived}
use Rattle.wire_model.specs.LinkAnswers.{LinkAnswer}
use Rattle.wire_model.specs.Receptions as receptions
use Rattle.wire_model.specs.Bytes.{IsBytes}
use Rattle.scl_outside.specs.Meaning.{Meaning, Wire}
use Rattle.scl_outside.specs.Events.{OnWire, Received, IsCall, asks, taken_by, written_by, noted_by, wire_by, read_fails, write_fails}
use Rattle.scl_outside.specs.Steps.{Step, WireStep, WireTrace, IsMarkOf, Marks, Moves, Loses, Counts}
use Rattle.scl_outside.specs.Answers.{FitsBuffer, read_event}
use Rattle.scl_outside.specs.Record.{told_of, with_room}
use Rattle.scl_outside.specs.Inbox.{IsReception}
use Rattle.scl_outside.specs.WireAnswers.{Receives}
use Rattle.scl_outside.specs.WireMemory.{wire_of}
use Rattle.scl_outside.specs.Memory.{meaning_of, outside_meaning, room_for_marks, TakesInMemory, MarksOutside}
use Rattle.scl_outside.specs.declared.duct.Mark.{Mark}
use Rattle.scl_outside.specs.declared.duct.ReadOut.{ReadOut}
use Rattle.scl_outside.specs.declared.duct.ReadOut.TheVariants.{Got, End, Failed}
use Rattle.scl_outside.specs.declared.memory.DuctMem.{DuctMem}
use Rattle.scl_outside.specs.declared.outside_mem.OutsideMem.{OutsideMem}
use Rattle.scl_outside.specs.declared.wire_mem.WireMem.{WireMem}
use Rattle.scl_outside.specs.declared.outside.RecvOut.{RecvOut}
use Rattle.scl_outside.specs.declared.outside.RecvOut.TheVariants as got
use Rattle.scl_outside.proofs.ReadBytes.{bytes_front}
use Rattle.scl_outside.proofs.InMemory.{marked}
use Rattle.scl_outside.proofs.Affects.{keeps_same}

-- a read that got bytes got some
pub is_call : (r : ReadOut) (buf : List ℕ) (room : ℕ) → length buf ≡ room → FitsBuffer r room → IsBytes buf → IsCall (read_event r buf)
is_call (Got n) buf room e fits are = (omega (arith, length-take-le n buf (omega (arith, e, fits.1)), fits.0), bytes_front n buf are)
is_call End buf room e fits are = tt
is_call Failed buf room e fits are = tt

wire_stays : (r : ReadOut) (buf : List ℕ) (w : Wire) → WireTrace w (wire_by (read_event r buf)) w
wire_stays (Got n) buf w = keeps_same w
wire_stays End buf w = keeps_same w
wire_stays Failed buf w = keeps_same w

asks_for : (r : ReadOut) (buf : List ℕ) → asks (read_event r buf) ≡ true
asks_for (Got n) buf = refl
asks_for End buf = refl
asks_for Failed buf = refl

none_written : (r : ReadOut) (buf : List ℕ) (a b : Option (List ℕ)) → b ≡ a → Moves a b (written_by (read_event r buf))
none_written (Got n) buf a b e = e
none_written End buf a b e = e
none_written Failed buf a b e = e

none_noted : (r : ReadOut) (buf : List ℕ) (a b : Option (List ℕ)) → b ≡ a → Moves a b (noted_by (read_event r buf))
none_noted (Got n) buf a b e = e
none_noted End buf a b e = e
none_noted Failed buf a b e = e

no_write : (r : ReadOut) (buf : List ℕ) (a b : ℕ) → b ≡ a → Counts (write_fails (read_event r buf)) a b
no_write (Got n) buf a b e = omega arith
no_write End buf a b e = omega arith
no_write Failed buf a b e = omega arith

-- a read after its mark
pub took : (d e f : DuctMem) (w : Wire) (r : ReadOut) (buf : List ℕ) (mark : Mark) → IsCall (read_event r buf) → IsMarkOf (record (meaning_of d) { wire = w }) mark
    → told_of e.marks ≡ with_room (room_for_marks d) (told_of d.marks) (mark ∷ []) → meaning_of e ≡ record (meaning_of d) { marks = told_of e.marks } → TakesInMemory e r buf f
    → Step (record (meaning_of d) { wire = w }) (read_event r buf) (record (meaning_of f) { wire = w })
took d e f w r buf mark some is marks same h =
    let P : Option (List ℕ) → Type 0 = λ o. Moves o (meaning_of f).read (taken_by (read_event r buf)) in
    let Q : Option (List ℕ) → Type 0 = λ o. Loses o (meaning_of f).left (taken_by (read_event r buf)) in
    let R : Bool → Type 0 = λ b. Marks b (record (meaning_of d) { wire = w }) (told_of f.marks) in
    let N : ℕ → Type 0 = λ n. Counts (read_fails (read_event r buf)) n f.read_faults in
    record {
      some = some;
      read = subst P (ap (λ (m : Meaning). m.read) same) h.read;
      left = subst Q (ap (λ (m : Meaning). m.left) same) h.left;
      over = h.over;
      written = none_written r buf _ _ (h.written ∙ ap (λ (m : Meaning). m.written) same);
      noted = none_noted r buf _ _ (h.noted ∙ ap (λ (m : Meaning). m.noted) same);
      marks = subst R (sym (asks_for r buf)) (marked (record (meaning_of d) { wire = w }) mark (room_for_marks d) is (told_of f.marks) (h.marks ∙ marks));
      wire = wire_stays r buf w;
      read_faults = subst N (ap (λ (m : Meaning). m.read_faults) same) h.read_faults;
      write_faults = no_write r buf _ _ (h.write_faults ∙ ap (λ (m : Meaning). m.write_faults) same);
    }

no_less : (a b : ℕ) → b ≡ a → a ≤ b
no_less a b e = omega arith

-- a call for a datagram after its mark
received : (o p : OutsideMem) (q : WireMem) (r : Reception) → MarksOutside o p → WireStep (wire_of o.wire) (Received r) (wire_of q)
    → Step (outside_meaning o) (OnWire (Received r)) (record (meaning_of p.duct) { wire = wire_of q })
received o p q r h step =
    let s = h.same in
    record {
      some = tt;
      read = ap (λ (m : Meaning). m.read) s;
      left = ap (λ (m : Meaning). m.left) s;
      over = tt;
      written = ap (λ (m : Meaning). m.written) s;
      noted = ap (λ (m : Meaning). m.noted) s;
      marks = marked (outside_meaning o) h.mark (room_for_marks o.duct) h.is (told_of p.duct.marks) h.marks;
      wire = (wire_of q, step, keeps_same (wire_of q));
      read_faults = no_less _ _ (ap (λ (m : Meaning). m.read_faults) s);
      write_faults = no_less _ _ (ap (λ (m : Meaning). m.write_faults) s);
    }

pub receives : (o p : OutsideMem) (q : WireMem) (result : RecvOut) (buf : List ℕ) (r : Reception) → MarksOutside o p → IsReception result buf r → WireStep (wire_of o.wire) (Received r) (wire_of q)
    → Receives (outside_meaning o) result buf (record (meaning_of p.duct) { wire = wire_of q })
receives o p q (got.Got n) buf (receptions.Arrived d) h is step = (d, is, received o p q (receptions.Arrived d) h step)
receives o p q (got.Got n) buf receptions.NotReady h is step = absurd is
receives o p q (got.Got n) buf receptions.Closed h is step = absurd is
receives o p q (got.Got n) buf receptions.Failed h is step = absurd is
receives o p q got.NotReady buf receptions.NotReady h is step = received o p q receptions.NotReady h step
receives o p q got.NotReady buf (receptions.Arrived d) h is step = absurd is
receives o p q got.NotReady buf receptions.Closed h is step = absurd is
receives o p q got.NotReady buf receptions.Failed h is step = absurd is
receives o p q got.Closed buf receptions.Closed h is step = received o p q receptions.Closed h step
receives o p q got.Closed buf (receptions.Arrived d) h is step = absurd is
receives o p q got.Closed buf receptions.NotReady h is step = absurd is
receives o p q got.Closed buf receptions.Failed h is step = absurd is
receives o p q got.Failed buf receptions.Failed h is step = received o p q receptions.Failed h step
receives o p q got.Failed buf (receptions.Arrived d) h is step = absurd is
receives o p q got.Failed buf receptions.NotReady h is step = absurd is
receives o p q got.Failed buf receptions.Closed h is step = absurd is
