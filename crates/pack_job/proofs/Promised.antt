-- What `pack` writes are streams, and what it has written so far is fixed by what it has read.
use Rattle.std.proofs.Common.{◌≡◌, ◌≢◌, ◌⊎◌, ◌<◌, ◌≤◌, ◌+◌, ◌-◌, ◌==◌, ℕ, zero, suc, Bool, true, false, List, [], ◌∷◌, ◌++◌, map, length, take, Option, Some, None, refl, sym, subst, ◌∙◌, ap, inl, inr, arith}
use Rattle.std.specs.Prelude.{◌&&◌, slice_index, IfSome, MatchBool}
use Rattle.std.specs.List.{AllByRecursion, AllZip, filter, flat_map}
use Rattle.std.proofs.lemmas.Bool.{eq-eqb}
use Rattle.std.proofs.lemmas.List.{append-nil}
use Rattle.wire_model.specs.Bytes.{IsBytes}
use Rattle.wire_model.specs.Causes.{Grew, Fell}
use Rattle.wire_model.specs.Datagram.{Datagram, IsDatagram, datagram_of, is_well_formed}
use Rattle.wire_model.specs.Framing.{framing, IsFramed}
use Rattle.wire_model.proofs.DatagramLaws.{datagram_is_computed}
use Rattle.wire_model.proofs.RtpLaws.{rtp_is_read_one_way}
use Rattle.wire_model.proofs.PayloadLaws.{payload_is_read_one_way}
use Rattle.codestream_model.specs.Codestream.{IsInput}
use Rattle.codestream_model.proofs.SegmentBytes.{bytes-take}
use Rattle.stream_model.specs.Arrivals.{Arrive, datagram_at, is_of_kind, source_of, picked_source, picked}
use Rattle.stream_model.specs.Commands.{counted}
use Rattle.stream_model.specs.Cut.{Plan, room, Known, Closed, sent_by, datagrams_by, datagram_bytes, sendable}
use Rattle.stream_model.specs.Receiver.{Pick}
use Rattle.stream_model.specs.Stream.{Parts, Sent, datagrams_of}
use Rattle.stream_model.specs.ThinnedLaws.{CanBeSent, cut_of, Picks}
use Rattle.stream_model.proofs.CutStreams.{sent_placed, all_one}
use Rattle.stream_model.proofs.ThinnedCuts.{cut_carries}
use Rattle.sender_model.specs.Closing.{closed}
use Rattle.sender_model.specs.Lead.{LeavesOpen, carried_bytes}
use Rattle.sender_model.specs.Outputs.{pack_output}
use Rattle.sender_model.specs.Refusals.{SenderAccepts}
use Rattle.sender_model.proofs.Ahead.{reads_little_ahead}
use Rattle.sender_model.proofs.ClosedComputed.{closed_is_computed, none_known}
use Rattle.sender_model.proofs.Refused.{accepted_is_cut, all_counted}
use Rattle.scl_outside.specs.Meaning.{Meaning}
use Rattle.scl_outside.specs.Steps.{IsOver}
use Rattle.scl_outside.specs.Effects.{Effects, effects}
use Rattle.scl_outside.proofs.ReadBytes.{all_bytes}
use Rattle.scl_run.specs.declared.ending.Ending.TheVariants.{Done, ReadFault, WriteFault, WireFault, Refused, NoMemory}
use Rattle.scl_run.specs.Performing.{HasPrefix}
use Rattle.pack_job.specs.PackedStreams.{IsStreamCapture, StreamIsPacked, PackedSoFar, EndsPacked, PackedAtEnd}
use Rattle.pack_job.proofs.Octets.{octets_are}

-- a frame of this payload type and this source
abbrev IsFrameOf : ℕ → ℕ → List ℕ → Type 0
IsFrameOf kind source b = (is_of_kind kind b ≡ true) × (source_of b ≡ source)

filter_all : {A : Type 0} (t : A → Bool) (xs : List A) → AllByRecursion (λ x. t x ≡ true) xs → filter t xs ≡ xs
filter_all t [] h = refl
filter_all t (x ∷ xs) h = let e = h.0 in rw e (ap (λ l. x ∷ l) (filter_all t xs h.1))

all_say : {A : Type 0} (P Q : A → Type 0) (xs : List A) → ((x : A) → P x → Q x) → AllByRecursion P xs → AllByRecursion Q xs
all_say P Q [] h k = tt
all_say P Q (x ∷ xs) h k = (h x k.0, all_say P Q xs h k.1)

-- of such frames that source is picked, where it or any is asked for
source_picked : (kind source : ℕ) (o : Option ℕ) (b : List ℕ) (frames : List (List ℕ)) → AllByRecursion (IsFrameOf kind source) (b ∷ frames) → (o ≡ None) ⊎ (o ≡ Some source) → picked_source kind o (b ∷ frames) ≡ source
source_picked kind source o b frames h (inl e) =
    let all : filter (is_of_kind kind) (b ∷ frames) ≡ b ∷ frames = filter_all (is_of_kind kind) (b ∷ frames) (all_say (IsFrameOf kind source) (λ x. is_of_kind kind x ≡ true) (b ∷ frames) (λ x k. k.0) h) in
    ap (λ l. picked_source kind l (b ∷ frames)) e ∙ (ap (λ l. slice_index (map source_of l) 0) all ∙ h.0.1)
source_picked kind source o b frames h (inr e) = ap (λ l. picked_source kind l (b ∷ frames)) e

-- and all of them
all_picked : (kind source : ℕ) (o : Option ℕ) (frames : List (List ℕ)) → AllByRecursion (IsFrameOf kind source) frames → (o ≡ None) ⊎ (o ≡ Some source) → picked kind o frames ≡ frames
all_picked kind source o [] h is = refl
all_picked kind source o (b ∷ frames) h is =
    let n = picked_source kind o (b ∷ frames) in
    let from : n ≡ source = source_picked kind source o b frames h is in
    let passes : (x : List ℕ) → IsFrameOf kind source x → (is_of_kind kind x && (source_of x == n)) ≡ true = λ x k. (let one = k.0 in let two : (source_of x == n) ≡ true = eq-eqb (source_of x) n (k.1 ∙ sym from) in rw (one, two) refl) in
    filter_all (λ frame. is_of_kind kind frame && (source_of frame == n)) (b ∷ frames) (all_say (IsFrameOf kind source) (λ frame. (is_of_kind kind frame && (source_of frame == n)) ≡ true) (b ∷ frames) passes h)

-- a datagram is a frame of its payload type and its source
one_frame : (kind source : ℕ) (x : Datagram) (b : List ℕ) → IsDatagram x b → (x.rtp.source ≡ source) × (x.rtp.kind ≡ kind) → IsFrameOf kind source b
one_frame kind source x b d is =
    let computed = datagram_is_computed rtp_is_read_one_way payload_is_read_one_way x b d in
    let well : is_well_formed b ≡ true = computed.0 in
    let of : ((datagram_of b).rtp.kind == kind) ≡ true = eq-eqb (datagram_of b).rtp.kind kind (ap (λ (y : Datagram). y.rtp.kind) (sym computed.1) ∙ is.1) in
    (rw (well, of) refl, ap (λ (y : Datagram). y.rtp.source) (sym computed.1) ∙ is.0)

all_frames : (kind source : ℕ) (xs : List Datagram) (frames : List (List ℕ)) → AllZip IsDatagram xs frames → AllByRecursion (λ x. (x.rtp.source ≡ source) × (x.rtp.kind ≡ kind)) xs → AllByRecursion (IsFrameOf kind source) frames
all_frames kind source [] [] a h = tt
all_frames kind source [] (b ∷ frames) a h = absurd a
all_frames kind source (x ∷ xs) [] a h = absurd a
all_frames kind source (x ∷ xs) (b ∷ frames) a h = (one_frame kind source x b a.0 h.0, all_frames kind source xs frames a.1 h.1)

-- so are those of a cut
cut_frames : (p : Plan) (parts : List Parts) (codestreams : List (List ℕ)) → CanBeSent p parts codestreams → AllByRecursion (IsFrameOf p.kind p.source) (cut_of p parts)
cut_frames p parts codestreams can =
    let P : List Sent → Type 0 = λ l. AllByRecursion (λ x. (x.rtp.source ≡ p.source) × (x.rtp.kind ≡ p.kind)) (flat_map datagrams_of l) in
    all_frames p.kind p.source (flat_map datagrams_of (sent_by p parts)) (cut_of p parts) (cut_carries p parts codestreams can).are_datagrams (subst P (sym (sent_placed p parts)) (all_one p 0 0 parts))

-- and those of them that come
frame_at : (P : List ℕ → Type 0) (datagrams : List (List ℕ)) (i : ℕ) → AllByRecursion P datagrams → i < length datagrams → P (datagram_at datagrams i)
frame_at P [] i h less = absurd (omega arith)
frame_at P (d ∷ datagrams) zero h less = h.0
frame_at P (d ∷ datagrams) (suc i) h less = frame_at P datagrams i h.1 (omega (arith, less))

frames_at : (P : List ℕ → Type 0) (datagrams : List (List ℕ)) (events : List ℕ) → AllByRecursion P datagrams → AllByRecursion (λ i. i < length datagrams) events → AllByRecursion P (map (datagram_at datagrams) events)
frames_at P datagrams [] h below = tt
frames_at P datagrams (i ∷ events) h below = (frame_at P datagrams i h below.0, frames_at P datagrams events h below.1)

cut_arrives : (p : Plan) (parts : List Parts) (codestreams : List (List ℕ)) → CanBeSent p parts codestreams → (pick : Pick) (events : List ℕ) → Picks p pick → AllByRecursion (λ i. i < length (cut_of p parts)) events
    → Arrive (cut_of p parts) (picked pick.kind pick.source (map (datagram_at (cut_of p parts)) events)) events
cut_arrives p parts codestreams can pick events picks below =
    let frames = map (datagram_at (cut_of p parts)) events in
    let are : AllByRecursion (IsFrameOf p.kind p.source) frames = frames_at (IsFrameOf p.kind p.source) (cut_of p parts) events (cut_frames p parts codestreams can) below in
    record {
      within = below;
      each = ap (λ k. picked k pick.source frames) picks.kind ∙ all_picked p.kind p.source pick.source frames are picks.source;
    }

-- a datagram is a frame
are_framed : (xs : List Datagram) (frames : List (List ℕ)) → AllZip IsDatagram xs frames → AllByRecursion IsFramed frames
are_framed [] [] a = tt
are_framed [] (b ∷ frames) a = absurd a
are_framed (x ∷ xs) [] a = absurd a
are_framed (x ∷ xs) (b ∷ frames) a = (omega (arith, a.0.short), are_framed xs frames a.1)

-- the framing of a cut is the capture of a stream
capture_of_cut : (p : Plan) (parts : List Parts) (codestreams : List (List ℕ)) → CanBeSent p parts codestreams → IsStreamCapture p codestreams (framing (cut_of p parts))
capture_of_cut p parts codestreams can =
    let carries = cut_carries p parts codestreams can in
    record {
      datagrams = cut_of p parts;
      sent = sent_by p parts;
      splits = record {
        whole = sym (append-nil (framing (cut_of p parts)));
        each = are_framed (flat_map datagrams_of (sent_by p parts)) (cut_of p parts) carries.are_datagrams;
        partial = tt;
      };
      is_cut = (parts, can.are_parts, refl);
      carries = carries;
      arrives = cut_arrives p parts codestreams can;
    }

-- all of the input was read
all_read : (before now : Option (List ℕ)) (read input rest : List ℕ) → Fell before now read → IfSome now (λ r. r ≡ []) → before ≡ Some input → now ≡ Some rest → read ≡ input
all_read before None read input rest f o b n = absurd (cc)
all_read None (Some now) read input rest f o b n = absurd f
all_read (Some was) (Some now) read input rest f o b n = let e : was ≡ input = cc in sym (sym e ∙ (f ∙ (ap (λ l. read ++ l) o ∙ append-nil read)))

-- the input is over where its end was met
is_over : (b : Bool) (t : Meaning) → b ≡ true → MatchBool b (IsOver t) (Unit {0}) → IsOver t
is_over true t e h = h
is_over false t e h = absurd (cc)

pub stream_is_packed : StreamIsPacked
stream_is_packed p s t plan run =
    let f = effects run.events in
    let are : IsBytes f.read = all_bytes s t run.events run.trace in
    let finished = run.ends.cause.0 in
    let codestreams = finished.0.0 in
    let over = is_over f.ended t (finished.1 tt) run.affects.over in
    let A : List ℕ → Type 0 = λ l. SenderAccepts p l codestreams in
    let a : SenderAccepts p f.read codestreams = subst A (octets_are f.read are) finished.0.1 in
    let cut = accepted_is_cut p f.read codestreams plan are a in
    let counts : counted f.read ≡ f.read = all_counted f.read a.is_input.within in
    let I : List ℕ → Type 0 = λ l. IsInput l codestreams in
    record {
      codestreams = codestreams;
      capture = framing (cut_of p cut.0);
      read = (let G : List ℕ → Type 0 = λ l. Grew s.read t.read l in subst G a.is_input.whole run.affects.read);
      whole = λ input rest sl tl. subst I (all_read s.left t.left f.read input rest run.affects.left over sl tl) a.is_input;
      written = (let G : List ℕ → Type 0 = λ l. Grew s.written t.written l in
          subst G (run.ends.output ∙ (ap (λ l. framing (closed p l)) counts ∙ ap framing cut.2)) run.affects.written);
      is_capture = capture_of_cut p cut.0 codestreams cut.1;
    }

-- the datagrams that the bytes read fix
pub fixed_by : (p : Plan) (read : List ℕ) → IsBytes read → Closed p (counted read) (closed p (counted read))
fixed_by p read are = closed_is_computed p (counted read) (bytes-take 1099511627776 read are)

-- the lead of a payload and a packet header
pub within_lead : (read carried room mtu : ℕ) → read < carried + room + 65537 → room ≡ mtu - 20 → mtu ≤ 4116 → read ≤ carried + 90000
within_lead read carried room mtu ahead is few = omega (arith, ahead, is, few)

pub packed_so_far : PackedSoFar
packed_so_far p f plan are so =
    let L : List ℕ → Type 0 = λ l. LeavesOpen p l in
    let open_yet : LeavesOpen p f.read = subst L (octets_are f.read are) so.asks in
    let ahead : length f.read < carried_bytes (closed p (counted f.read)) + room p + 65537 = reads_little_ahead p f.read plan are open_yet in
    record {
      datagrams = closed p (counted f.read);
      fixed = fixed_by p f.read are;
      written = so.made;
      lead = within_lead (length f.read) (carried_bytes (closed p (counted f.read))) (room p) p.mtu ahead refl plan.greatest_mtu;
    }

-- an ending other than by a write that failed
unbroken : (p : Plan) (status : ℕ) (f : Effects) → status ≢ 4 → IsBytes f.read → f.written ≡ pack_output p f.read → EndsPacked p status f
unbroken p status f other are written = record {
  datagrams = closed p (counted f.read);
  fixed = fixed_by p f.read are;
  written = λ is. written;
  broken_off = λ is. absurd (other is);
}

-- a write that failed
broken : (p : Plan) (f : Effects) → IsBytes f.read → HasPrefix (pack_output p f.read) f.written → EndsPacked p 4 f
broken p f are prefix = record {
  datagrams = closed p (counted f.read);
  fixed = fixed_by p f.read are;
  written = λ is. absurd (is refl);
  broken_off = λ is. prefix;
}

-- no byte fixes a datagram
nothing_packed : (p : Plan) (read : List ℕ) → read ≡ [] → pack_output p read ≡ []
nothing_packed p read e =
    ap (pack_output p) e ∙ ap (λ (l : List Known). framing (map datagram_bytes (take 8388607 (datagrams_by p (sendable p l))))) (none_known 65536)

pub packed_at_end : PackedAtEnd
packed_at_end p Done f plan are ends = unbroken p 0 f (λ e. absurd (cc)) are ends.output
packed_at_end p ReadFault f plan are ends = unbroken p 3 f (λ e. absurd (cc)) are ends.output
packed_at_end p WriteFault f plan are ends = elim ends.output [
  | inl part ↦ broken p f are part
  | inr part ↦ broken p f are part.1
]
packed_at_end p WireFault f plan are ends = unbroken p 5 f (λ e. absurd (cc)) are ends.output
packed_at_end p (Refused r) f plan are ends = unbroken p 6 f (λ e. absurd (cc)) are ends.output
packed_at_end p NoMemory f plan are ends = unbroken p 7 f (λ e. absurd (cc)) are (ends.output ∙ sym (nothing_packed p f.read ends.cause.0))
