-- A frame taken, and the end.
use Rattle.std.proofs.Common.{◌≡◌, ◌<◌, ◌^◌, ◌++◌, ℕ, Bool, true, false, List, [], ◌∷◌, refl, sym, ◌∙◌, ap, subst, append_assoc, arith, inl, inr}
use Rattle.std.specs.List.{AllByRecursion}
use Rattle.std.proofs.lemmas.List.{append-nil, length-append}
use Rattle.wire_model.specs.Bytes.{IsBytes}
use Rattle.stream_model.specs.Decoder.{Release}
use Rattle.stream_model.specs.Receiver as rules
use Rattle.stream_model.specs.Receiver.{received, take_frame, flushed, counts_of}
use Rattle.stream_model.specs.ReceiverJoins.{having_given, forgetful}
use Rattle.stream_model.specs.Window.{make_all_due}
use Rattle.stream_model.proofs.ReceiverJoins.{drain_join, frame_join, precincts_join}
use Rattle.stream_model.proofs.CountedFrames.{counted-frame}
use Rattle.stream_model.proofs.ReportWritten.{received_grows}
use Rattle.scl_outside.specs.Meaning.{Meaning}
use Rattle.scl_outside.specs.Events.{Event}
use Rattle.scl_outside.specs.declared.duct.PutOut.{PutOut}
use Rattle.scl_outside.specs.declared.duct.PutOut.TheVariants.{Done, WriteFault}
use Rattle.scl_outside.proofs.Putting.{puts_then, puts_front}
use Rattle.stream_receiver.specs.States.{ReceiverState, counted, followed_by, rest, IsKept, Answers, after_offer, Offers}
use Rattle.stream_receiver.specs.declared.datagram.DatagramFault.{DatagramFault}
use Rattle.stream_receiver.specs.declared.receiver.Taken.{Taken}
use Rattle.stream_receiver.specs.declared.receiver.Taken.TheVariants as taken
use Rattle.receiving_job.specs.Sinks.{Extends, AreFirst, PutsEnd}
use Rattle.receiving_job.specs.Giving.{IsReady, HasGiven, IsLeft, ArePut, Gives, Ends}
use Rattle.receiving_job.proofs.Gives.{first_front, first_same, puts_none, puts_more, puts_list, puts_some}

-- a receiver that is ready has followed the decoder's rules
followed_is : (b : Bool) (r : rules.Receiver) → b ≡ true → followed_by b r ≡ r
followed_is true r e = refl
followed_is false r e = absurd (cc)

-- bytes of one more frame
pub all_bytes : (frames : List (List ℕ)) (d : List ℕ) → AllByRecursion IsBytes frames → IsBytes d → AllByRecursion IsBytes (frames ++ d ∷ [])
all_bytes [] d all is = (is, tt)
all_bytes (f ∷ frames) d all is = (all.0, all_bytes frames d all.1 is)

-- what was received after one more frame
pub grown : (s : ReceiverState) (xs : List Release) (h : HasGiven s xs) (d : List ℕ) → received s.pick (h.frames ++ d ∷ []) ≡ having_given xs (take_frame s.pick s.rules d)
grown s xs h d = (received_grows s.pick h.frames d).0 ∙ (ap (λ r. take_frame s.pick r d) h.is ∙ frame_join s.pick xs s.rules d)

-- the first packets up to those of one more frame
pub first_of_frame : (s : ReceiverState) (xs : List Release) (d : List ℕ) → HasGiven s xs → IsBytes d → counted s.rules < 2 ^ 63 → AreFirst (xs ++ (take_frame s.pick s.rules d).releases)
first_of_frame s xs d h is few =
    let r = received s.pick (h.frames ++ d ∷ []) in
    let f = flushed (forgetful r) in
    let size = length-append h.frames (d ∷ []) in
    let count = h.count in
    let released : r.releases ≡ xs ++ (take_frame s.pick s.rules d).releases = ap (λ (x : rules.Receiver). x.releases) (grown s xs h d) in
    record {
      pick = s.pick;
      frames = h.frames ++ d ∷ [];
      are_bytes = all_bytes h.frames d h.are_bytes is;
      few = omega (arith, size, count, few);
      more = f.releases;
      whole = ap (λ (x : rules.Receiver). x.releases) (precincts_join s.pick r).1 ∙ ap (λ l. l ++ f.releases) released;
    }

-- a flush gives the same packets after others
end_joins : (xs : List Release) (r : rules.Receiver) → flushed (having_given xs r) ≡ having_given xs (flushed r)
end_joins xs r = drain_join xs (record r { window = make_all_due r.window r.window.base })

pub first_at_end : (s : ReceiverState) (xs : List Release) → HasGiven s xs → counted s.rules < 2 ^ 63 → AreFirst (xs ++ (flushed s.rules).releases)
first_at_end s xs h few =
    let count = h.count in
    record {
      pick = s.pick;
      frames = h.frames;
      are_bytes = h.are_bytes;
      few = omega (arith, count, few);
      more = [];
      whole = ap (λ (x : rules.Receiver). x.releases) (ap flushed h.is ∙ end_joins xs s.rules) ∙ sym (append-nil (xs ++ (flushed s.rules).releases));
    }

-- the packets given and the frames taken after one more frame, or one that makes the same of the receiver
pub given_more : (s t : ReceiverState) (xs : List Release) (d like : List ℕ) → HasGiven s xs → IsBytes like → take_frame s.pick s.rules like ≡ take_frame s.pick s.rules d
    → t.pick ≡ s.pick → t.rules ≡ forgetful (take_frame s.pick s.rules d) → HasGiven t (xs ++ (take_frame s.pick s.rules d).releases)
given_more s t xs d like h is same pick left =
    let y = take_frame s.pick s.rules d in
    let size = length-append h.frames (like ∷ []) in
    let count = h.count in
    let more = counted-frame s.pick s.rules d in
    let now : counted t.rules ≡ counted y = ap counted left in
    let joins : having_given xs y ≡ having_given (xs ++ y.releases) (forgetful y) = ap (λ l. record y { releases = l }) (sym (append-nil (xs ++ y.releases))) in
    record {
      frames = h.frames ++ like ∷ [];
      are_bytes = all_bytes h.frames like h.are_bytes is;
      count = omega (arith, size, count, more, now);
      is = ap (λ p. received p (h.frames ++ like ∷ [])) pick ∙ (grown s xs h like ∙ (ap (having_given xs) same ∙ (joins ∙ ap (having_given (xs ++ y.releases)) (sym left))));
    }

-- a frame that changes the tally alone
takes_none : (so_far : List Release → List ℕ) (HasPut : List Release → Type 0) (xs : List Release) (s t : ReceiverState) (frame : List ℕ) (m : Meaning) → HasPut xs → t.rules ≡ take_frame s.pick s.rules frame → IsReady t
    → Gives so_far HasPut xs (take_frame s.pick s.rules frame) Done t m m []
takes_none so_far HasPut xs s t frame m put e ready =
    let none : (take_frame s.pick s.rules frame).releases ≡ [] = ap (λ (r : rules.Receiver). r.releases) (sym e) ∙ ready.fresh in
    let left : t.rules ≡ forgetful (take_frame s.pick s.rules frame) = ap (λ l. record t.rules { releases = l }) ready.fresh ∙ ap forgetful e in
    let P : List Release → Type 0 = λ l. HasPut (xs ++ l) in
    record {
      puts = puts_list so_far xs [] _ m m Done [] (sym none) (puts_none so_far xs m);
      put = subst P (sym none) (subst HasPut (sym (append-nil xs)) put);
      left = (left, ready);
    }

pub takes_old : (so_far : List Release → List ℕ) (HasPut : List Release → Type 0) (xs : List Release) (s t : ReceiverState) (frame : List ℕ) (m : Meaning) → HasPut xs → IsReady s → t ≡ after_offer s frame taken.Old
    → t.rules ≡ take_frame s.pick s.rules frame → Gives so_far HasPut xs (take_frame s.pick s.rules frame) Done t m m []
takes_old so_far HasPut xs s t frame m put ready is e =
    let P : ReceiverState → Type 0 = λ x. IsReady x in
    takes_none so_far HasPut xs s t frame m put e (subst P (sym is) (record { settled = ready.settled; undue = ready.undue; fresh = ready.fresh }))

pub takes_refused : (so_far : List Release → List ℕ) (HasPut : List Release → Type 0) (xs : List Release) (s t : ReceiverState) (frame : List ℕ) (why : DatagramFault) (m : Meaning) → HasPut xs → IsReady s
    → t ≡ after_offer s frame (taken.Refused why) → t.rules ≡ take_frame s.pick s.rules frame → Gives so_far HasPut xs (take_frame s.pick s.rules frame) Done t m m []
takes_refused so_far HasPut xs s t frame why m put ready is e =
    let P : ReceiverState → Type 0 = λ x. IsReady x in
    takes_none so_far HasPut xs s t frame m put e (subst P (sym is) (record { settled = ready.settled; undue = ready.undue; fresh = ready.fresh }))

-- the same by rules that are the same
pub gives_same : (so_far : List Release → List ℕ) (HasPut : List Release → Type 0) (xs : List Release) (r q : rules.Receiver) (result : PutOut) (t : ReceiverState) (m n : Meaning) (es : List Event) → r ≡ q
    → Gives so_far HasPut xs r result t m n es → Gives so_far HasPut xs q result t m n es
gives_same so_far HasPut xs r q result t m n es e g = let P : rules.Receiver → Type 0 = λ x. Gives so_far HasPut xs x result t m n es in subst P e g

-- a kept frame
pub kept_is : (s t : ReceiverState) (frame : List ℕ) → IsReady s → rest t ≡ take_frame s.pick (followed_by s.settled s.rules) frame → rest t ≡ take_frame s.pick s.rules frame
kept_is s t frame ready e = e ∙ ap (λ r. take_frame s.pick r frame) (followed_is s.settled s.rules ready.settled)

-- one that is taken by what the drained receiver left
join_left : (pick : rules.Pick) (r : rules.Receiver) (frame : List ℕ) → take_frame pick r frame ≡ having_given r.releases (take_frame pick (forgetful r) frame)
join_left pick r frame = (precincts_join pick r).0 frame

-- where it was drained for a frame
record Drained (s t : ReceiverState) (frame : List ℕ) : Type 0 where
  pub same : take_frame s.pick (rest t) frame ≡ take_frame s.pick s.rules frame
  pub releases : (take_frame s.pick s.rules frame).releases ≡ (rest t).releases ++ (take_frame s.pick (forgetful (rest t)) frame).releases

drained : (s t : ReceiverState) (frame : List ℕ) → IsReady s → take_frame s.pick (rest t) frame ≡ take_frame s.pick (followed_by s.settled s.rules) frame → Drained s t frame
drained s t frame ready e =
    let same : take_frame s.pick (rest t) frame ≡ take_frame s.pick s.rules frame = e ∙ ap (λ r. take_frame s.pick r frame) (followed_is s.settled s.rules ready.settled) in
    record { same = same; releases = ap (λ (r : rules.Receiver). r.releases) (sym same ∙ join_left s.pick (rest t) frame) }

-- what is given first is the first of what the frame gives
pub first_drained : (s t : ReceiverState) (xs : List Release) (frame : List ℕ) → IsReady s → take_frame s.pick (rest t) frame ≡ take_frame s.pick (followed_by s.settled s.rules) frame
    → AreFirst (xs ++ (take_frame s.pick s.rules frame).releases) → AreFirst (xs ++ (rest t).releases)
first_drained s t xs frame ready e a =
    let d = drained s t frame ready e in
    let same = ap (λ l. xs ++ l) d.releases ∙ sym (append_assoc xs (rest t).releases (take_frame s.pick (forgetful (rest t)) frame).releases) in
    first_front (xs ++ (rest t).releases) _ (first_same _ _ same a)

pub drain_failed : (so_far : List Release → List ℕ) (HasPut Other : List Release → Type 0) (xs : List Release) (s t u : ReceiverState) (frame : List ℕ) (m n : Meaning) (es : List Event)
    → ((us vs : List Release) → Extends (so_far us) (so_far (us ++ vs))) → IsReady s → take_frame s.pick (rest t) frame ≡ take_frame s.pick (followed_by s.settled s.rules) frame
    → Gives so_far HasPut xs (rest t) WriteFault u m n es → Gives so_far Other xs (take_frame s.pick s.rules frame) WriteFault u m n es
drain_failed so_far HasPut Other xs s t u frame m n es grows ready e g =
    let d = drained s t frame ready e in
    record {
      puts = puts_list so_far xs _ _ m n WriteFault es (sym d.releases) (puts_some so_far xs (rest t).releases (take_frame s.pick (forgetful (rest t)) frame).releases m n es grows g.puts);
      put = tt;
      left = tt;
    }

-- the second offer
second : (s t : ReceiverState) (frame : List ℕ) (result : Taken) → IsKept s.pick s.rules frame → Answers s.pick s.rules frame result → Offers s frame result t → rest t ≡ take_frame s.pick (followed_by s.settled s.rules) frame
second s t frame taken.Kept k a o = o
second s t frame taken.Old k a o = elim a.1 [ inl e ↦ (let f = k.1 in absurd (cc)) | inr e ↦ (let f = k.1 in absurd (cc)) ]
second s t frame taken.Drain k a o = (let f = k.1 in let e = a.2 in absurd (cc))
second s t frame (taken.Refused why) k a o = (let f = k.0 in let e = a.0 in absurd (cc))

-- what the drained receiver `u` gives of the frame when it was offered again
pub again_is : (s t u v : ReceiverState) (frame : List ℕ) (answer : Taken) → IsKept s.pick (rest t) frame → u.rules ≡ forgetful (rest t) → IsReady u → u.pick ≡ s.pick → Answers u.pick u.rules frame answer → Offers u frame answer v
    → rest v ≡ take_frame s.pick (forgetful (rest t)) frame
again_is s t u v frame answer kept left ready pick answers offers =
    let K : rules.Receiver → Type 0 = λ r. IsKept s.pick r frame in
    let Q : rules.Pick → Type 0 = λ p. IsKept p u.rules frame in
    let kept_now : IsKept u.pick u.rules frame = subst Q (sym pick) (subst K (sym left) kept) in
    second u v frame answer kept_now answers offers
    ∙ (ap (λ r. take_frame u.pick r frame) (followed_is u.settled u.rules ready.settled)
    ∙ (ap (λ p. take_frame p u.rules frame) pick ∙ ap (λ r. take_frame s.pick r frame) left))

-- which follows what was given
pub first_again : (s t v : ReceiverState) (xs : List Release) (frame : List ℕ) → IsReady s → take_frame s.pick (rest t) frame ≡ take_frame s.pick (followed_by s.settled s.rules) frame
    → rest v ≡ take_frame s.pick (forgetful (rest t)) frame → AreFirst (xs ++ (take_frame s.pick s.rules frame).releases) → AreFirst ((xs ++ (rest t).releases) ++ (rest v).releases)
first_again s t v xs frame ready e now a =
    let d = drained s t frame ready e in
    let same = ap (λ l. xs ++ l) d.releases ∙ (sym (append_assoc xs (rest t).releases (take_frame s.pick (forgetful (rest t)) frame).releases) ∙ ap (λ (r : rules.Receiver). (xs ++ (rest t).releases) ++ r.releases) (sym now)) in
    first_same _ _ same a

pub drain_done : (so_far : List Release → List ℕ) (HasPut Now : List Release → Type 0) (xs : List Release) (s t u v w : ReceiverState) (frame : List ℕ) (result : PutOut) (m n o : Meaning) (es fs : List Event) → IsReady s
    → take_frame s.pick (rest t) frame ≡ take_frame s.pick (followed_by s.settled s.rules) frame → rest v ≡ take_frame s.pick (forgetful (rest t)) frame
    → Gives so_far HasPut xs (rest t) Done u m n es → Gives so_far Now (xs ++ (rest t).releases) (rest v) result w n o fs
    → Gives so_far Now xs (take_frame s.pick s.rules frame) result w m o (es ++ fs)
drain_done so_far HasPut Now xs s t u v w frame result m n o es fs ready e now g h =
    let d = drained s t frame ready e in
    let all : (rest t).releases ++ (rest v).releases ≡ (take_frame s.pick s.rules frame).releases = ap (λ (r : rules.Receiver). (rest t).releases ++ r.releases) now ∙ sym d.releases in
    let same : forgetful (rest v) ≡ forgetful (take_frame s.pick s.rules frame) = ap forgetful now ∙ (sym (ap forgetful (join_left s.pick (rest t) frame)) ∙ ap forgetful d.same) in
    let put : (xs ++ (rest t).releases) ++ (rest v).releases ≡ xs ++ (take_frame s.pick s.rules frame).releases = append_assoc xs (rest t).releases (rest v).releases ∙ ap (λ l. xs ++ l) all in
    let A : List Release → Type 0 = λ l. ArePut result Now l in
    record {
      puts = puts_list so_far xs _ _ m o result (es ++ fs) all (puts_more so_far xs (rest t).releases (rest v).releases m n o result es fs g.puts h.puts);
      put = subst A put h.put;
      left = left_of result h.left same;
    }
  where
    left_of : (result : PutOut) → IsLeft result (rest v) w → forgetful (rest v) ≡ forgetful (take_frame s.pick s.rules frame) → IsLeft result (take_frame s.pick s.rules frame) w
    left_of Done l f = (l.0 ∙ f, l.1)
    left_of WriteFault l f = tt

-- the frames counted are as many
pub counts_drained : (s t u : ReceiverState) (frame : List ℕ) → IsReady s → take_frame s.pick (rest t) frame ≡ take_frame s.pick (followed_by s.settled s.rules) frame → u.rules ≡ forgetful (rest t) → counted u.rules ≡ counted s.rules
counts_drained s t u frame ready e is =
    let same = (drained s t frame ready e).same in
    let a = counted-frame s.pick (rest t) frame in
    let b = counted-frame s.pick s.rules frame in
    let c : counted (take_frame s.pick (rest t) frame) ≡ counted (take_frame s.pick s.rules frame) = ap counted same in
    let d : counted u.rules ≡ counted (rest t) = ap counted is in
    omega (arith, a, b, c, d)

-- at the end
pub flushed_is : (s t : ReceiverState) → IsReady s → rest t ≡ flushed (followed_by s.settled s.rules) → rest t ≡ flushed s.rules
flushed_is s t ready e = e ∙ ap flushed (followed_is s.settled s.rules ready.settled)

pub first_flushed : (s t : ReceiverState) (xs : List Release) → IsReady s → HasGiven s xs → counted s.rules < 2 ^ 63 → rest t ≡ flushed (followed_by s.settled s.rules) → AreFirst (xs ++ (rest t).releases)
first_flushed s t xs ready h few e = first_same _ _ (ap (λ (r : rules.Receiver). xs ++ r.releases) (sym (flushed_is s t ready e))) (first_at_end s xs h few)

-- all packets were put once those that were held are
pub end_put : (s : ReceiverState) (xs : List Release) → (flushed (having_given xs s.rules)).releases ≡ xs ++ (flushed s.rules).releases
end_put s xs = ap (λ (r : rules.Receiver). r.releases) (end_joins xs s.rules)

pub end_failed : (so_far : List Release → List ℕ) (made : rules.Receiver → Bool → List ℕ) (HasPut : List Release → Type 0) (xs : List Release) (s u : ReceiverState) (m n : Meaning) (es : List Event)
    → ((r : rules.Receiver) → Extends (so_far (flushed r).releases) (made r true)) → Gives so_far HasPut xs (flushed s.rules) WriteFault u m n es
    → Ends so_far made xs s.rules m n WriteFault es
end_failed so_far made HasPut xs s u m n es at_end g =
    let (more, is) = at_end (having_given xs s.rules) in
    record {
      text = g.puts.text ++ more;
      adds = is ∙ (ap (λ l. so_far l ++ more) (end_put s xs) ∙ (ap (λ l. l ++ more) g.puts.adds ∙ append_assoc (so_far xs) g.puts.text more));
      puts = puts_front g.puts.text more _ _ _ g.puts.puts;
    }

pub end_counts : (s u : ReceiverState) (xs : List Release) → u.rules ≡ forgetful (flushed s.rules) → counts_of u.rules ≡ counts_of (flushed (having_given xs s.rules))
end_counts s u xs left = ap counts_of left ∙ ap counts_of (sym (end_joins xs s.rules))

pub end_done : (so_far : List Release → List ℕ) (made : rules.Receiver → Bool → List ℕ) (HasPut : List Release → Type 0) (xs : List Release) (s u : ReceiverState) (result : PutOut) (m n o : Meaning) (es fs : List Event)
    → Gives so_far HasPut xs (flushed s.rules) Done u m n es → PutsEnd so_far made (having_given xs s.rules) n o result fs → Ends so_far made xs s.rules m o result (es ++ fs)
end_done so_far made HasPut xs s u result m n o es fs g p = record {
  text = g.puts.text ++ p.text;
  adds = p.adds ∙ (ap (λ l. so_far l ++ p.text) (end_put s xs) ∙ (ap (λ l. l ++ p.text) g.puts.adds ∙ append_assoc (so_far xs) g.puts.text p.text));
  puts = puts_then _ _ _ _ _ _ _ _ g.puts.puts p.puts;
}
