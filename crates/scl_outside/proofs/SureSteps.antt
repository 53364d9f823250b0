-- Over an object of which no call fails, counts of faults that stay 0 say as much as the real ones.
use Rattle.std.proofs.Common.{◌≡◌, ◌≤◌, ℕ, Bool, true, false, List, [], ◌∷◌, Option, Some, None, length, refl, sym, subst, arith}
use Rattle.std.specs.Prelude.{Contains}
use Rattle.std.proofs.lemmas.Grind.{common_steps}
use Rattle.wire_model.specs.Receptions.{Reception}
use Rattle.wire_model.specs.Receptions as receptions
use Rattle.scl_outside.specs.Meaning.{Meaning, Wire, Parcel}
use Rattle.scl_outside.specs.Events.{Event, WireEvent, OnWire, Received, Bound, Joined, Offered, asks, wire_by, read_fails, write_fails, wire_fails, peer_fails}
use Rattle.scl_outside.specs.Steps.{Step, WireTrace, KeepsWire, Marks, Counts}
use Rattle.scl_outside.specs.Memory.{without_faults}
use Rattle.scl_outside.specs.Answers.{read_event}
use Rattle.scl_outside.specs.Inbound.{first_of}
use Rattle.scl_outside.specs.Inbox.{IsReception}
use Rattle.scl_outside.specs.LinkPlans.{read_as}
use Rattle.scl_outside.specs.WireAnswers.{Receives, is_bound, answer_of}
use Rattle.scl_outside.specs.declared.duct.Mark.{Mark}
use Rattle.scl_outside.specs.declared.duct.ReadOut.{ReadOut}
use Rattle.scl_outside.specs.declared.duct.ReadOut.TheVariants as reading
use Rattle.scl_outside.specs.declared.inbox.Inbound.{Inbound}
use Rattle.scl_outside.specs.declared.inbox.Inbound.TheVariants as planned
use Rattle.scl_outside.specs.declared.outside.BindOut.{BindOut}
use Rattle.scl_outside.specs.declared.outside.BindOut.TheVariants as naming
use Rattle.scl_outside.specs.declared.outside.RecvOut.{RecvOut}
use Rattle.scl_outside.specs.declared.outside.RecvOut.TheVariants as got
use Rattle.scl_outside.specs.declared.outside.SendOut.{SendOut}
use Rattle.scl_outside.specs.declared.outside.SendOut.TheVariants as sending

-- the same wire with counts that are 0
abbrev sure : Wire → Wire
sure w = record w { faults = 0; peer_faults = λ peer. 0 }

-- calls of the wire that didn't fail
abbrev pub WiresPass : List WireEvent → Type 0
WiresPass [] = Unit {0}
WiresPass (w ∷ ws) = (wire_fails w ≡ false) × ((peer : ℕ) → peer_fails peer w ≡ false) × WiresPass ws

-- a call that didn't fail
abbrev pub Passes : Event → Type 0
Passes e = (read_fails e ≡ false) × (write_fails e ≡ false) × WiresPass (wire_by e)

zero_counts : (b : Bool) → b ≡ false → Counts b 0 0
zero_counts b e = let P : Bool → Type 0 = λ x. Counts x 0 0 in let h : 0 ≤ 0 = omega arith in subst P (sym e) h

sure_keeps : (a b : Wire) → KeepsWire a b → KeepsWire (sure a) (sure b)
sure_keeps a b k = record {
  inbound = k.inbound;
  received = k.received;
  sent = k.sent;
  replies = k.replies;
  bound = k.bound;
  joined = k.joined;
  peers = k.peers;
  faults = omega arith;
  peer_faults = λ peer. omega arith;
}

sure_wire : (a b : Wire) (ws : List WireEvent) → WiresPass ws → WireTrace a ws b → WireTrace (sure a) ws (sure b)
sure_wire a b [] p k = sure_keeps a b k
sure_wire a b (w ∷ ws) (passes, peers, later) (m, h, rest) = (
  sure m,
  record {
    inbound = h.inbound;
    received = h.received;
    sent = h.sent;
    replies = h.replies;
    bound = h.bound;
    joined = h.joined;
    peers = h.peers;
    faults = zero_counts _ passes;
    peer_faults = λ peer. zero_counts _ (peers peer);
  },
  sure_wire m b ws later rest,
)

sure_marks : (b : Bool) (s : Meaning) (now : Option (List Mark)) → Marks b s now → Marks b (without_faults s) now
sure_marks false s now h = h
sure_marks true s None h = tt
sure_marks true s (Some now) (m, is, grew) = (m, record { read = is.read; received = is.received; written = is.written; sent = is.sent }, grew)

-- a call that didn't fail, with counts that are 0
pub sure_step : (s t : Meaning) (e : Event) → Passes e → Step s e t → Step (without_faults s) e (without_faults t)
sure_step s t e p h = record {
  some = h.some;
  read = h.read;
  left = h.left;
  over = h.over;
  written = h.written;
  noted = h.noted;
  marks = sure_marks (asks e) s t.marks h.marks;
  wire = sure_wire s.wire t.wire (wire_by e) p.2 h.wire;
  read_faults = zero_counts _ p.0;
  write_faults = zero_counts _ p.1;
}

pub none_listed : (numbers : List ℕ) (n : ℕ) → length numbers ≡ 0 → Contains numbers n → ⊥
none_listed numbers n none there = grind (arith, common_steps)

pub read_passes : (r : ReadOut) (buf : List ℕ) → (r ≡ reading.Failed → ⊥) → Passes (read_event r buf)
read_passes (reading.Got n) buf h = (refl, refl, tt)
read_passes reading.End buf h = (refl, refl, tt)
read_passes reading.Failed buf h = absurd (h refl)

pub bind_passes : (r : BindOut) (text : List ℕ) → (r ≡ naming.Failed → ⊥) → Passes (OnWire (Bound text (is_bound r)))
bind_passes naming.Bound text h = (refl, refl, (refl, λ peer. refl, tt))
bind_passes naming.Failed text h = absurd (h refl)

pub join_passes : (r : BindOut) (text : List ℕ) → (r ≡ naming.Failed → ⊥) → Passes (OnWire (Joined text (is_bound r)))
join_passes naming.Bound text h = (refl, refl, (refl, λ peer. refl, tt))
join_passes naming.Failed text h = absurd (h refl)

-- an answer that is read so isn't a failure
pub send_passes : (r planned : SendOut) (never_fails : Bool) (one : Parcel) → never_fails ≡ true → r ≡ read_as never_fails planned → Passes (OnWire (Offered one (answer_of r)))
send_passes sending.Sent planned never_fails one e is = (refl, refl, (refl, λ peer. refl, tt))
send_passes sending.NotReady planned never_fails one e is = (refl, refl, (refl, λ peer. refl, tt))
send_passes sending.Failed planned false one e is = absurd (cc)
send_passes sending.Failed sending.Sent true one e is = absurd (cc)
send_passes sending.Failed sending.NotReady true one e is = absurd (cc)
send_passes sending.Failed sending.Failed true one e is = absurd (cc)

-- a planned failure is read as not ready
first_passes : (never_fails : Bool) (entries : List Inbound) → never_fails ≡ true → first_of never_fails entries ≡ receptions.Failed → ⊥
first_passes false entries e is = absurd (cc)
first_passes true [] e is = absurd (cc)
first_passes true (planned.Datagram d ∷ rest) e is = absurd (cc)
first_passes true (planned.NotReady ∷ rest) e is = absurd (cc)
first_passes true (planned.Closed ∷ rest) e is = absurd (cc)
first_passes true (planned.Failed ∷ rest) e is = absurd (cc)

failed_is : (buf : List ℕ) (r : Reception) → IsReception got.Failed buf r → r ≡ receptions.Failed
failed_is buf (receptions.Arrived d) h = absurd h
failed_is buf receptions.NotReady h = absurd h
failed_is buf receptions.Closed h = absurd h
failed_is buf receptions.Failed h = refl

pub sure_recv : (s t : Meaning) (r : RecvOut) (buf : List ℕ) (never_fails : Bool) (entries : List Inbound) → never_fails ≡ true → IsReception r buf (first_of never_fails entries) → Receives s r buf t → Receives (without_faults s) r buf (without_faults t)
sure_recv s t (got.Got n) buf never_fails entries e is (d, front, step) = (d, front, sure_step s t (OnWire (Received (receptions.Arrived d))) (refl, refl, (refl, λ peer. refl, tt)) step)
sure_recv s t got.NotReady buf never_fails entries e is step = sure_step s t (OnWire (Received receptions.NotReady)) (refl, refl, (refl, λ peer. refl, tt)) step
sure_recv s t got.Closed buf never_fails entries e is step = sure_step s t (OnWire (Received receptions.Closed)) (refl, refl, (refl, λ peer. refl, tt)) step
sure_recv s t got.Failed buf never_fails entries e is step = absurd (first_passes never_fails entries e (failed_is buf (first_of never_fails entries) is))
