-- The datagrams that were written so far, and how that ends.
use Rattle.std.proofs.Common.{◌≡◌, ◌<◌, ◌≤◌, ◌+◌, ◌-◌, ℕ, true, List, [], ◌∷◌, ◌++◌, map, length, refl, sym, subst, ◌∙◌, ap, inl, inr, arith, append_assoc}
use Rattle.std.proofs.lemmas.List.{append-nil, length-append}
use Rattle.codestream_model.specs.Bytes.{IsBytes}
use Rattle.wire_model.specs.Datagram.{Datagram}
use Rattle.wire_model.specs.Payload.{PayloadFields, Main, Body}
use Rattle.wire_model.specs.Framing.{frame, framing}
use Rattle.wire_model.proofs.FramingLaws.{framing-append}
use Rattle.stream_model.specs.Commands.{counted}
use Rattle.stream_model.specs.Cut.{Plan, datagram_bytes, payload_header}
use Rattle.sender_model.specs.Closing.{closed}
use Rattle.sender_model.specs.Refusals.{SenderRefusal, InputRefused, HeaderTooLong, TooManyDatagrams, SenderRefuses, SenderAccepts}
use Rattle.sender_model.specs.Outputs.{pack_output}
use Rattle.sender_model.specs.Lead.{LeavesOpen}
use Rattle.scl_outside.specs.Meaning.{Meaning}
use Rattle.scl_outside.specs.Events.{Event}
use Rattle.scl_outside.specs.Effects.{Effects, HasPassed, nothing, only_read, read_to_end, and_then, effects}
use Rattle.scl_outside.specs.Traces.{Trace, AtReads}
use Rattle.scl_outside.specs.Writing.{Never, Puts}
use Rattle.scl_outside.specs.declared.duct.PutOut.TheVariants.{Done as Put, WriteFault as NotPut}
use Rattle.scl_outside.proofs.Traces.{trace_join, effects_then, at_reads_then, has_passed}
use Rattle.scl_outside.proofs.ReadBytes.{reads_are_bytes}
use Rattle.codestream_walk.specs.InHand.{input_limit}
use Rattle.codestream_walk.specs.Faults.{walk_refusal, header_refusal}
use Rattle.codestream_walk.specs.declared.fault.WalkFault.{WalkFault}
use Rattle.codestream_walk.specs.declared.fault.WalkWhy.TheVariants as walk_why
use Rattle.packetiser.specs.Packing.{Packing}
use Rattle.packetiser.specs.declared.packetiser.PackOut.{PackOut}
use Rattle.packetiser.specs.declared.packetiser.PackOut.TheVariants as out
use Rattle.packetiser.specs.Sending.{Sender, IsSender, AreAll, Asks, RefusesAs, Answers, Sends}
use Rattle.codestream_model.specs.HeaderPieces as header
use Rattle.codestream_model.specs.HeaderPieces.{HeaderRefusal}
use Rattle.codestream_walk.proofs.Bytes.{bytes_join}
use Rattle.codestream_walk.specs.declared.fault.WalkWhy.{WalkWhy}
use Rattle.parse_job.specs.Inputs.{reason_for, header_reason}
use Rattle.scl_run.specs.declared.ending.Reason.TheVariants as reason
use Rattle.scl_run.specs.declared.ending.Refusal.{Refusal}
use Rattle.scl_run.specs.declared.ending.Ending.{Ending}
use Rattle.scl_run.specs.declared.ending.Ending.TheVariants.{Done, ReadFault, WriteFault, Refused}
use Rattle.scl_run.specs.Performing.{Performs, EndsAs, IsSoFar, passed}
use Rattle.scl_run.proofs.Performed.{performs}
use Rattle.pack_job.specs.SentInput.{sender_reason, RefusesToSend}
use Rattle.pack_job.specs.PackJob.{pack_job}
use Rattle.pack_job.proofs.Octets.{octets_are}

-- So far these bytes were read, and the frames of these datagrams were written.
pub record SoFar (p : Plan) (s t : Meaning) (v : Packing) (es : List Event) : Type 0 where
  pub trace : Trace s es t
  pub so_far : AtReads (IsSoFar (pack_job p)) nothing es
  pub read : List ℕ
  pub given : List (List ℕ)
  pub done : effects es ≡ passed read (framing given)
  pub plan : v.plan ≡ p
  pub sender : Sender p read given v

-- the start
pub none_yet : (p : Plan) (s : Meaning) (v : Packing) → v.plan ≡ p → Sender v.plan [] [] v → SoFar p s s v []
none_yet p s v e is = record { trace = refl; so_far = tt; read = []; given = []; done = refl; plan = e; sender = (let P : Plan → Type 0 = λ q. Sender q [] [] v in subst P e is) }

-- a sender of a plan
pub is_sender : (p : Plan) (s t : Meaning) (v : Packing) (es : List Event) → SoFar p s t v es → IsSender v
is_sender p s t v es so = (so.read, so.given, (let P : Plan → Type 0 = λ q. Sender q so.read so.given v in subst P (sym so.plan) so.sender))

-- no call failed so far
so_passed : (p : Plan) (s t : Meaning) (v : Packing) (es : List Event) → SoFar p s t v es → HasPassed (effects es)
so_passed p s t v es so = has_passed (effects es) (passed so.read (framing so.given)) so.done (record { reads = refl; writes = refl; on_wire = refl })

-- before each further read
waiting : (p : Plan) (s t : Meaning) (v : Packing) (es : List Event) → (so : SoFar p s t v es) → (f : Effects) → Asks p so.read so.given f → IsSoFar (pack_job p) (and_then (effects es) f)
waiting p s t v es so f k =
    let read = so.read ++ f.read in
    let made : List ℕ = framing so.given in
    let all : and_then (effects es) f ≡ passed read (made ++ []) =
    ap (λ (x : Effects). and_then x f) so.done ∙ ap (λ (x : Effects). and_then (passed so.read made) x) k.reads in
    let P : Effects → Type 0 = λ x. IsSoFar (pack_job p) x in
    let L : List ℕ → Type 0 = λ l. LeavesOpen p l in
    subst P (sym all) (record {
      made = append-nil made ∙ ap framing k.all;
      sent = refl;
      goes_on = refl;
      asks = subst L (sym (octets_are read k.are_bytes)) k.leaves_open;
    })

-- What a step of the sender did after that.
pub record Stepped (p : Plan) (s u : Meaning) (es : List Event) : Type 0 where
  pub trace : Trace s es u
  pub so_far : AtReads (IsSoFar (pack_job p)) nothing es

-- the sender of a step is that of the plan
pub sends_by : (p : Plan) (v w : Packing) (t u : Meaning) (a : PackOut) (fs : List Event) (read : List ℕ) (given : List (List ℕ)) → v.plan ≡ p → Sender p read given v → Sends v t u a w fs → AtReads (Asks p read given) nothing fs × Answers p a (read ++ (effects fs).read) given w
sends_by p v w t u a fs read given e is k =
    let S : Plan → Type 0 = λ q. Sender q read given v in
    let A : Plan → Type 0 = λ q. AtReads (Asks q read given) nothing fs × Answers q a (read ++ (effects fs).read) given w in
    let mine = subst S (sym e) is in
    subst A e (k.asks read given mine, k.answers read given mine)

stepped : (p : Plan) (s t u : Meaning) (v w : Packing) (a : PackOut) (es fs : List Event) → SoFar p s t v es → Sends v t u a w fs → Stepped p s u (es ++ fs)
stepped p s t u v w a es fs so k = record {
  trace = trace_join s t u es fs so.trace k.trace;
  so_far = at_reads_then (Asks p so.read so.given) (IsSoFar (pack_job p)) es fs so.so_far (so_passed p s t v es so) (waiting p s t v es so) (sends_by p v w t u a fs so.read so.given so.plan so.sender k).0;
}

-- A datagram was given.
pub record Given (p : Plan) (s u : Meaning) (v : Packing) (es : List Event) : Type 0 where
  pub stepped : Stepped p s u es
  pub read : List ℕ
  pub given : List (List ℕ)
  pub done : effects es ≡ passed read (framing given)
  pub plan : v.plan ≡ p
  pub sender : Sender p read (given ++ v.shown ∷ []) v
  pub more : List (List ℕ)
  pub first : closed p (counted read) ≡ (given ++ v.shown ∷ []) ++ more

pub datagram_given : (p : Plan) (s t u : Meaning) (v w : Packing) (es fs : List Event) → SoFar p s t v es → Sends v t u out.Datagram w fs → Given p s u w (es ++ fs)
datagram_given p s t u v w es fs so k =
    let a = (sends_by p v w t u out.Datagram fs so.read so.given so.plan so.sender k).1 in
    record {
      stepped = stepped p s t u v w out.Datagram es fs so k;
      read = so.read ++ (effects fs).read;
      given = so.given;
      done = effects_then es fs _ _ so.done k.only ∙ ap (λ (l : List ℕ). passed (so.read ++ (effects fs).read) l) (append-nil (framing so.given));
      plan = k.plan ∙ so.plan;
      sender = a.0;
      more = a.1.0;
      first = a.1.1;
    }

-- it is no empty frame
header_size : (h : PayloadFields) → length (payload_header h) ≡ 8
header_size (Main h) = refl
header_size (Body h) = refl

datagram_size : (x : Datagram) → 8 ≤ length (datagram_bytes x)
datagram_size x = omega (arith, length-append (payload_header x.payload) x.codestream, header_size x.payload)

last_is : (given : List (List ℕ)) (d : List ℕ) (sent : List Datagram) → given ++ d ∷ [] ≡ map datagram_bytes sent → 8 ≤ length d
last_is [] d [] e = absurd (omega (arith, ap length e))
last_is [] d (x ∷ []) e = (let f : d ≡ datagram_bytes x = cc in omega (arith, ap length f, datagram_size x))
last_is [] d (x ∷ y ∷ sent) e = absurd (omega (arith, ap length e))
last_is (g ∷ given) d [] e = absurd (omega (arith, ap length e))
last_is (g ∷ given) d (x ∷ sent) e = (let f : given ++ d ∷ [] ≡ map datagram_bytes sent = cc in last_is given d sent f)

pub frame_some : (p : Plan) (s u : Meaning) (v : Packing) (es : List Event) → Given p s u v es → 1 ≤ length v.shown
frame_some p s u v es g = omega (arith, last_is g.given v.shown g.sender.sent g.sender.given_is)

given_passed : (p : Plan) (s u : Meaning) (v : Packing) (es : List Event) → Given p s u v es → HasPassed (effects es)
given_passed p s u v es g = has_passed (effects es) (passed g.read (framing g.given)) g.done (record { reads = refl; writes = refl; on_wire = refl })

-- one more frame
framing_push : (given : List (List ℕ)) (d : List ℕ) → framing given ++ frame d ≡ framing (given ++ d ∷ [])
framing_push given d = ap (λ (l : List ℕ). framing given ++ l) (sym (append-nil (frame d))) ∙ sym (framing-append given (d ∷ []))

-- and it is written
pub datagram_written : (p : Plan) (s u z : Meaning) (v : Packing) (es ps : List Event) → Given p s u v es → Puts (frame v.shown) u z Put ps → SoFar p s z v (es ++ ps)
datagram_written p s u z v es ps g puts = record {
  trace = trace_join s u z es ps g.stepped.trace puts.trace;
  so_far = at_reads_then Never (IsSoFar (pack_job p)) es ps g.stepped.so_far (given_passed p s u v es g) (λ f i. absurd i) puts.within;
  read = g.read;
  given = g.given ++ v.shown ∷ [];
  done = effects_then es ps _ _ g.done puts.gives ∙ (ap (λ (l : List ℕ). passed l (framing g.given ++ frame v.shown)) (append-nil g.read) ∙ ap (passed g.read) (framing_push g.given v.shown));
  plan = g.plan;
  sender = g.sender;
}

-- the limit of what is read
few_read : (p : Plan) (read : List ℕ) (given : List (List ℕ)) (v : Packing) → Sender p read given v → length read ≤ input_limit
few_read p read given v s = omega (arith, s.has_read.within, s.has_read.knows.offset, ap length s.has_read.whole, length-append s.consumed v.seen.walk.hand)

-- or a write fails
pub datagram_broken : (p : Plan) (s u z : Meaning) (v : Packing) (es ps : List Event) → Given p s u v es → Puts (frame v.shown) u z NotPut ps → Performs (pack_job p) s z WriteFault (es ++ ps)
datagram_broken p s u z v es ps g puts =
    let front = puts.gives.0 in
    let rest = puts.gives.1 ++ framing g.more in
    let all : pack_output p g.read ≡ (framing g.given ++ front) ++ rest =
    ap framing g.first ∙ (framing-append (g.given ++ v.shown ∷ []) g.more ∙ (ap (λ (l : List ℕ). l ++ framing g.more) (sym (framing_push g.given v.shown) ∙ (ap (λ (l : List ℕ). framing g.given ++ l) puts.gives.2 ∙ sym (append_assoc (framing g.given) front puts.gives.1))) ∙ append_assoc (framing g.given ++ front) puts.gives.1 (framing g.more))) in
    let done : effects (es ++ ps) ≡ record (passed g.read (framing g.given ++ front)) { write_failed = true } =
    effects_then es ps _ _ g.done puts.gives.3 ∙ ap (λ (l : List ℕ). record (passed l (framing g.given ++ front)) { write_failed = true }) (append-nil g.read) in
    performs (pack_job p) s z WriteFault (es ++ ps) (record (passed g.read (framing g.given ++ front)) { write_failed = true })
    (trace_join s u z es ps g.stepped.trace puts.trace)
    (at_reads_then Never (IsSoFar (pack_job p)) es ps g.stepped.so_far (given_passed p s u v es g) (λ f i. absurd i) puts.within)
    done refl (record {
      output = inl (rest, all);
      sent = refl;
      cause = tt;
      fails = record { read_failed = refl; write_failed = refl; on_wire = refl };
      fits = omega (arith, few_read p g.read (g.given ++ v.shown ∷ []) v g.sender);
      wires = refl;
    })

-- what was read by an end are bytes
read_bytes : (p : Plan) (s t u : Meaning) (v w : Packing) (a : PackOut) (es fs : List Event) → (so : SoFar p s t v es) → Sends v t u a w fs → IsBytes (so.read ++ (effects fs).read)
read_bytes p s t u v w a es fs so k =
    let F : List Event → Type 0 = λ l. Trace t l u in
    bytes_join so.read (effects fs).read so.sender.has_read.are_bytes (reads_are_bytes t u fs [] (subst F (sym (append-nil fs)) k.trace))

-- how a job ends by a step of the sender
ended : (p : Plan) (s t u : Meaning) (v w : Packing) (a : PackOut) (es fs : List Event) (ending : Ending) (g : Effects) → (so : SoFar p s t v es) → Sends v t u a w fs → and_then (passed so.read (framing so.given)) (effects fs) ≡ g → g.noted ≡ [] → EndsAs (pack_job p) ending g → Performs (pack_job p) s u ending (es ++ fs)
ended p s t u v w a es fs ending g so k all quiet ends =
    let q = stepped p s t u v w a es fs so k in
    performs (pack_job p) s u ending (es ++ fs) g q.trace q.so_far (effects_then es fs _ _ so.done refl ∙ all) quiet ends

-- the datagrams given are all that is written
written_all : (p : Plan) (read : List ℕ) (given : List (List ℕ)) → AreAll p read given → framing given ++ [] ≡ pack_output p read
written_all p read given e = append-nil (framing given) ∙ ap framing e

-- the limit of what was read
fits_read : (p : Plan) (s t u : Meaning) (v w : Packing) (a : PackOut) (es fs : List Event) → (so : SoFar p s t v es) → Sends v t u a w fs → length (so.read ++ (effects fs).read) ≤ input_limit + 1
fits_read p s t u v w a es fs so k = let S : Plan → Type 0 = λ q. Sender q so.read so.given v in k.within so.read so.given (subst S (sym so.plan) so.sender)

-- the input is over
pub end_met : (p : Plan) (s t u : Meaning) (v w : Packing) (es fs : List Event) → SoFar p s t v es → Sends v t u out.End w fs → Performs (pack_job p) s u Done (es ++ fs)
end_met p s t u v w es fs so k =
    let read = so.read ++ (effects fs).read in
    let a = (sends_by p v w t u out.End fs so.read so.given so.plan so.sender k).1 in
    let A : List ℕ → Type 0 = λ l. (codestreams : List (List ℕ)) × SenderAccepts p l codestreams in
    let bytes = read_bytes p s t u v w out.End es fs so k in
    ended p s t u v w out.End es fs Done (record (passed read (framing so.given ++ [])) { ended = true }) so k (ap (λ (x : Effects). and_then (passed so.read (framing so.given)) x) k.only) refl (record {
      output = written_all p read so.given a.1;
      sent = refl;
      cause = ((subst A (sym (octets_are read bytes)) a.0, (λ i. refl)), tt);
      fails = record { read_failed = refl; write_failed = refl; on_wire = refl };
      fits = fits_read p s t u v w out.End es fs so k;
      wires = refl;
    })

-- a read failed
pub read_failed : (p : Plan) (s t u : Meaning) (v w : Packing) (es fs : List Event) → SoFar p s t v es → Sends v t u out.ReadFault w fs → Performs (pack_job p) s u ReadFault (es ++ fs)
read_failed p s t u v w es fs so k =
    let read = so.read ++ (effects fs).read in
    let a = (sends_by p v w t u out.ReadFault fs so.read so.given so.plan so.sender k).1 in
    ended p s t u v w out.ReadFault es fs ReadFault (record (passed read (framing so.given ++ [])) { read_failed = true }) so k (ap (λ (x : Effects). and_then (passed so.read (framing so.given)) x) k.only) refl (record {
      output = written_all p read so.given a;
      sent = refl;
      cause = tt;
      fails = record { read_failed = refl; write_failed = refl; on_wire = refl };
      fits = fits_read p s t u v w out.ReadFault es fs so k;
      wires = refl;
    })

-- what a refusal is, in the words of the job
pub refuses_by : (p : Plan) (read : List ℕ) (given : List (List ℕ)) (r : Refusal) (why : SenderRefusal) (at : ℕ) → IsBytes read → r.at ≡ at → r.reason ≡ sender_reason why → RefusesAs p read given at why → RefusesToSend p read r
refuses_by p read given r why at bytes place is a =
    let R : List ℕ → Type 0 = λ l. SenderRefuses p l r.at why in
    let N : ℕ → Type 0 = λ n. SenderRefuses p read n why in
    (why, is, subst R (sym (octets_are read bytes)) (subst N (sym place) a.0))

-- refused without the input's end
refused_open : (p : Plan) (s t u : Meaning) (v w : Packing) (a : PackOut) (es fs : List Event) (r : Refusal) → (so : SoFar p s t v es) → Sends v t u a w fs → effects fs ≡ only_read (effects fs).read → (r.reason ≡ reason.Cut → ⊥) → RefusesToSend p (so.read ++ (effects fs).read) r → AreAll p (so.read ++ (effects fs).read) so.given
    → Performs (pack_job p) s u (Refused r) (es ++ fs)
refused_open p s t u v w a es fs r so k reads not_cut refuses all =
    let read = so.read ++ (effects fs).read in
    ended p s t u v w a es fs (Refused r) (passed read (framing so.given ++ [])) so k (ap (λ (x : Effects). and_then (passed so.read (framing so.given)) x) reads) refl (record {
      output = written_all p read so.given all;
      sent = refl;
      cause = (refuses, λ e. absurd (not_cut e));
      fails = record { read_failed = refl; write_failed = refl; on_wire = refl };
      fits = fits_read p s t u v w a es fs so k;
      wires = refl;
    })

-- or at its end
refused_over : (p : Plan) (s t u : Meaning) (v w : Packing) (a : PackOut) (es fs : List Event) (r : Refusal) → (so : SoFar p s t v es) → Sends v t u a w fs → effects fs ≡ read_to_end (effects fs).read → RefusesToSend p (so.read ++ (effects fs).read) r → AreAll p (so.read ++ (effects fs).read) so.given
    → Performs (pack_job p) s u (Refused r) (es ++ fs)
refused_over p s t u v w a es fs r so k reads refuses all =
    let read = so.read ++ (effects fs).read in
    ended p s t u v w a es fs (Refused r) (record (passed read (framing so.given ++ [])) { ended = true }) so k (ap (λ (x : Effects). and_then (passed so.read (framing so.given)) x) reads) refl (record {
      output = written_all p read so.given all;
      sent = refl;
      cause = (refuses, λ e. refl);
      fails = record { read_failed = refl; write_failed = refl; on_wire = refl };
      fits = fits_read p s t u v w a es fs so k;
      wires = refl;
    })

-- only the input's end is noted as a cut
pub why_cut : (why : WalkWhy) → reason_for (walk_refusal why) ≡ reason.Cut → why ≡ walk_why.Cut
why_cut walk_why.Cut e = refl
why_cut (walk_why.Head w) e = absurd (cc)
why_cut walk_why.TooManyBlocks e = absurd (cc)
why_cut (walk_why.Header w) e = absurd (not_header (header_refusal w) e)
  where
    not_header : (h : HeaderRefusal) → header_reason h ≡ reason.Cut → ⊥
    not_header header.Stuffed e = cc
    not_header header.ZeroPlanes e = cc
    not_header header.Passes e = cc
    not_header header.LengthBits e = cc
    not_header header.CleanupShort e = cc
    not_header header.CleanupLong e = cc
    not_header header.RefineLong e = cc
    not_header header.TooLong e = cc
    not_header header.NoEph e = cc
why_cut walk_why.PacketTooLong e = absurd (cc)
why_cut walk_why.Psot e = absurd (cc)
why_cut walk_why.NoEoc e = absurd (cc)
why_cut walk_why.InputTooLong e = absurd (cc)
why_cut walk_why.TooManyFrames e = absurd (cc)

-- the input is refused
pub refused_met : (p : Plan) (s t u : Meaning) (v w : Packing) (es fs : List Event) (fault : WalkFault) (r : Refusal) → SoFar p s t v es → Sends v t u (out.Refused fault) w fs → r.at ≡ fault.at → r.reason ≡ reason_for (walk_refusal fault.why) → Performs (pack_job p) s u (Refused r) (es ++ fs)
refused_met p s t u v w es fs fault r so k place is =
    let a = (sends_by p v w t u (out.Refused fault) fs so.read so.given so.plan so.sender k).1 in
    let refuses = refuses_by p (so.read ++ (effects fs).read) so.given r (InputRefused (walk_refusal fault.why)) fault.at (read_bytes p s t u v w (out.Refused fault) es fs so k) place is a in
    elim k.only [
      | inl t1 ↦ refused_over p s t u v w (out.Refused fault) es fs r so k t1.1 refuses a.1
      | inr t2 ↦ refused_open p s t u v w (out.Refused fault) es fs r so k t2.1 (λ e. t2.0 (why_cut fault.why (sym is ∙ e))) refuses a.1
    ]

-- a main header has no room
pub header_met : (p : Plan) (s t u : Meaning) (v w : Packing) (es fs : List Event) (at : ℕ) (r : Refusal) → SoFar p s t v es → Sends v t u (out.HeaderTooLong at) w fs → r ≡ record { at = at; reason = reason.HeaderTooLong } → Performs (pack_job p) s u (Refused r) (es ++ fs)
header_met p s t u v w es fs at r so k is =
    let a = (sends_by p v w t u (out.HeaderTooLong at) fs so.read so.given so.plan so.sender k).1 in
    let why : r.reason ≡ reason.HeaderTooLong = ap (λ (x : Refusal). x.reason) is in
    refused_open p s t u v w (out.HeaderTooLong at) es fs r so k k.only (λ e. let c : reason.HeaderTooLong ≡ reason.Cut = sym why ∙ e in cc)
    (refuses_by p (so.read ++ (effects fs).read) so.given r HeaderTooLong at (read_bytes p s t u v w (out.HeaderTooLong at) es fs so k) (ap (λ (x : Refusal). x.at) is) why a) a.1

-- a datagram is one too many
pub many_met : (p : Plan) (s t u : Meaning) (v w : Packing) (es fs : List Event) (at : ℕ) (r : Refusal) → SoFar p s t v es → Sends v t u (out.TooManyDatagrams at) w fs → r ≡ record { at = at; reason = reason.TooManyDatagrams } → Performs (pack_job p) s u (Refused r) (es ++ fs)
many_met p s t u v w es fs at r so k is =
    let a = (sends_by p v w t u (out.TooManyDatagrams at) fs so.read so.given so.plan so.sender k).1 in
    let why : r.reason ≡ reason.TooManyDatagrams = ap (λ (x : Refusal). x.reason) is in
    refused_open p s t u v w (out.TooManyDatagrams at) es fs r so k k.only (λ e. let c : reason.TooManyDatagrams ≡ reason.Cut = sym why ∙ e in cc)
    (refuses_by p (so.read ++ (effects fs).read) so.given r TooManyDatagrams at (read_bytes p s t u v w (out.TooManyDatagrams at) es fs so k) (ap (λ (x : Refusal). x.at) is) why a) a.1

-- each datagram is one more of at most 8,388,607
pub further : (p : Plan) (s t u : Meaning) (v w : Packing) (es fs : List Event) → SoFar p s t v es → Sends v t u out.Datagram w fs → 8388607 - w.given < 8388607 - v.given
further p s t u v w es fs so k =
    let a = (sends_by p v w t u out.Datagram fs so.read so.given so.plan so.sender k).1.0 in
    omega (arith, a.count, a.few, so.sender.count, length-append so.given (w.shown ∷ []))
