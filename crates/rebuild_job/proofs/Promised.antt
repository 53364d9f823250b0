-- What `rebuild` has written of a stream, and of any capture.
use Rattle.std.proofs.Common.{◌≡◌, ◌+◌, ◌++◌, ℕ, Bool, true, false, List, [], ◌∷◌, None, sym, ◌∙◌, ap, subst, append_assoc, inl, inr}
use Rattle.std.specs.List.{AllByRecursion, AllZip, enumerate_from}
use Rattle.std.proofs.lemmas.List.{append-nil}
use Rattle.wire_model.specs.Causes.{Grew}
use Rattle.wire_model.specs.Framing.{whole_frames}
use Rattle.stream_model.specs.Stream.{Sent, ArePartsOf}
use Rattle.stream_model.specs.Commands.{counted}
use Rattle.stream_model.specs.Receiver.{Receiver, received, flushed}
use Rattle.stream_model.specs.ReceiverJoins.{forgetful, having_given}
use Rattle.stream_model.specs.Window.{make_all_due}
use Rattle.stream_model.proofs.ReceiverJoins.{drain_join}
use Rattle.rebuild_model.specs.Rebuilding.{closing, open_at_end, rebuilt, rebuilt_by}
use Rattle.rebuild_model.proofs.EmptyPackets.{some_packets_are_accepted}
use Rattle.rebuild_model.proofs.RebuiltStreams.{rebuilt_is_what_is_reached}
use Rattle.rebuild_model.proofs.BuiltCodestreams.{each_is_built}
use Rattle.rebuild_model.proofs.BuiltAccepted.{built_is_accepted}
use Rattle.scl_run.specs.declared.ending.Ending.{Ending}
use Rattle.scl_run.specs.declared.ending.Ending.TheVariants.{Done, ReadFault, WriteFault, WireFault, Refused, NoMemory}
use Rattle.scl_run.specs.Endings.{status_of}
use Rattle.scl_run.specs.Performing.{HasPrefix, EndsAs}
use Rattle.receiving_job.proofs.FramesRead.{frames_are_bytes, frames_are_few}
use Rattle.receiving_job.proofs.Finished.{finished}
use Rattle.rebuild_job.specs.Job.{rebuild_job}
use Rattle.rebuild_job.specs.Growing.{rebuilt_grows, rebuilt_closes}
use Rattle.rebuild_job.specs.Promises.{reached_of, SaysWhatPasses, frames_kept, IsAcceptedIfFew, StreamIsRebuilt, RebuiltAtEnd}

-- each codestream says what is reached
all_say : (all : List Sent) (events : List ℕ) (window i : ℕ) (sent : List Sent) (codestreams : List (List ℕ)) → AllZip (λ s codestream. ArePartsOf s.parts codestream) sent codestreams
    → AllByRecursion (λ x. SaysWhatPasses (reached_of all events window x) x.1.parts) (enumerate_from i sent)
all_say all events window i [] codestreams are = tt
all_say all events window i (s ∷ sent) [] are = absurd are
all_say all events window i (s ∷ sent) (codestream ∷ codestreams) are =
    let law = some_packets_are_accepted s.parts codestream (reached_of all events window (i, s)) are.0 in
    (record { sot = law.0; says = law.1 }, all_say all events window (i + 1) sent codestreams are.1)

pub stream_is_rebuilt : StreamIsRebuilt
stream_is_rebuilt pick s t some run sent codestreams datagrams frames events input rest c arrive splits sl tl =
    let G : List ℕ → Type 0 = λ l. Grew s.written t.written l in
    let law = rebuilt_is_what_is_reached sent codestreams datagrams frames events pick c some arrive in
    record {
      written = subst G law (finished rebuilt_by pick s t frames input rest run splits.whole sl tl);
      each = all_say sent events pick.window 0 sent codestreams c.are_parts;
    }

-- each is accepted
all_accepted : (frames codestreams : List (List ℕ)) → AllByRecursion (IsAcceptedIfFew frames) codestreams
all_accepted frames [] = tt
all_accepted frames (c ∷ codestreams) = (λ b few. built_is_accepted frames c b few, all_accepted frames codestreams)

-- what was built before the end is a prefix of what is built at it
prefix_of : (r : Receiver) → HasPrefix (rebuilt_by r true) (rebuilt_by r false)
prefix_of r =
    let later = (flushed (forgetful r)).releases in
    let e : r ≡ having_given r.releases (forgetful r) = sym (ap (λ l. record r { releases = l }) (append-nil r.releases)) in
    let joins : (flushed r).releases ≡ r.releases ++ later =
    ap (λ (x : Receiver). x.releases) (ap flushed e ∙ drain_join r.releases (record (forgetful r) { window = make_all_due r.window r.window.base })) in
    let more = rebuilt_grows r.releases later in
    let closed = closing (open_at_end None (r.releases ++ later)) in
    let all = rebuilt_closes (r.releases ++ later) ∙ (ap (λ (l : List ℕ). l ++ closed) more.1 ∙ append_assoc (rebuilt false None r.releases) more.0 closed) in
    (more.0 ++ closed, ap (rebuilt true None) joins ∙ all)

-- a prefix of a prefix
prefix_more : (a b c : List ℕ) → HasPrefix a b → HasPrefix b c → HasPrefix a c
prefix_more a b c (x, f) (y, g) = (y ++ x, f ∙ (ap (λ (l : List ℕ). l ++ x) g ∙ append_assoc c y x))

-- what was written is a prefix
written_is : (made : Bool → List ℕ) (written : List ℕ) → HasPrefix (made true) (made false) → written ≡ made false → HasPrefix (made true) written
written_is made written (x, e) is = (x, e ∙ ap (λ (l : List ℕ). l ++ x) (sym is))

pub rebuilt_at_end : RebuiltAtEnd
rebuilt_at_end pick ending f are ends =
    let frames = whole_frames (counted f.read) in
    let b = each_is_built pick frames (frames_are_bytes f.read are) (frames_are_few f.read) in
    let kept = frames_kept pick f.read in
    let P : List ℕ → Type 0 = λ l. HasPrefix l f.written in
    record {
      codestreams = b.0;
      built = b.1;
      accepted = all_accepted kept b.0;
      written = subst P b.2 (prefix ending ends);
      finished = λ done. whole ending ends done ∙ b.2;
    }
  where
    r : Receiver
    r = received pick (whole_frames (counted f.read))

    made : Bool → List ℕ
    made ended = rebuilt_by r ended

    prefix : (ending : Ending) → EndsAs (rebuild_job pick) ending f → HasPrefix (made true) f.written
    prefix Done ends = ([], sym ends.output ∙ sym (append-nil f.written))
    prefix ReadFault ends = written_is made f.written (prefix_of r) ends.output
    prefix WriteFault ends = elim ends.output [ inl p ↦ prefix_more (made true) (made false) f.written (prefix_of r) p | inr p ↦ p.1 ]
    prefix WireFault ends = written_is made f.written (prefix_of r) ends.output
    prefix (Refused x) ends = written_is made f.written (prefix_of r) ends.output
    prefix NoMemory ends = (made true, ap (λ (l : List ℕ). l ++ made true) (sym ends.output))

    whole : (ending : Ending) → EndsAs (rebuild_job pick) ending f → status_of ending ≡ 0 → f.written ≡ made true
    whole Done ends done = ends.output
    whole ReadFault ends done = absurd (cc)
    whole WriteFault ends done = absurd (cc)
    whole WireFault ends done = absurd (cc)
    whole (Refused x) ends done = absurd (cc)
    whole NoMemory ends done = absurd (cc)
