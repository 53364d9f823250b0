-- One Body more that is there, with a mark, where there is no run: one begins at the mark.
use Rattle.std.proofs.Common.{◌≡◌, ◌⊎◌, ◌<◌, ◌≤◌, ◌+◌, ◌-◌, ℕ, suc, Bool, true, false, List, [], ◌∷◌, ◌++◌, length, take, drop, Some, None, subst, refl, sym, ◌∙◌, ap, inl, inr, arith, append_assoc}
use Rattle.std.specs.List.{AllByRecursion, flat_map}
use Rattle.std.proofs.lemmas.List.{append-nil, length-append, length-drop, length-take, take-append-drop}
use Rattle.std.proofs.Math.Seq.{take-append_seam}
use Rattle.wire_model.specs.Payload.{BodyFields, Body}
use Rattle.wire_model.specs.Datagram.{Datagram}
use Rattle.codestream_model.specs.Values.{Head, Place}
use Rattle.codestream_model.specs.PacketOrder.{IsPacketOrder}
use Rattle.codestream_model.specs.Packet.{Content}
use Rattle.codestream_model.specs.Codestream.{joined}
use Rattle.codestream_model.proofs.Members.{Has, has_left, has_right, has_map}
use Rattle.codestream_model.proofs.OneWayLemmas.{same_front}
use Rattle.stream_model.specs.Stream.{Parts, ArePackets, ArePartsOf, Sent, Mark, mark_of, marks, packet_start, precinct_at, carried_at}
use Rattle.stream_model.specs.Decoder.{Current, Decoder, Settled, from_place, settle, settled}
use Rattle.stream_model.specs.Receiver.{decoded}
use Rattle.stream_model.specs.RunLaws.{passing, current_of, releases_of}
use Rattle.stream_model.proofs.CutPayloads.{joined-append}
use Rattle.stream_model.proofs.Found.{packet_has_bytes}
use Rattle.stream_model.proofs.RunRules.{state, IsUnfinished, Went, settle_changes, goes_on}
use Rattle.stream_model.proofs.RunMarks.{mark_at, run_from, stands_once}
use Rattle.stream_model.proofs.RunPlaces.{as_many, Here, next_here, gone_between, start_among, starts_up, Ahead, mark_ahead}
use Rattle.stream_model.proofs.RunReach.{point, passing_all, passing_none, releases-length}
use Rattle.stream_model.proofs.RunStates.{marks_from, test, Dead, Alive, At, none_reached}
use Rattle.stream_model.proofs.RunHanded.{joined_marked, one_own, own_mark, own_right, reached_here, dead_on}
use Rattle.stream_model.proofs.RunSteps.{next_at, tail_of, split_passes, as_said, many_done, the_next}

-- packets before a precinct's, and from it on
record Parted (h : Head) (ahead after : List Place) (xs : List Content) (bs : List (List ℕ)) : Type 0 where
  said : List Content
  more : List Content
  whole : List (List ℕ)
  rest : List (List ℕ)
  content : xs ≡ said ++ more
  packets : bs ≡ whole ++ rest
  size : length ahead ≡ length whole
  sizes : length ahead ≡ length said
  are : ArePackets h after more rest

-- packets are parted so
part_packets : (h : Head) (ahead after : List Place) (xs : List Content) (bs : List (List ℕ)) → ArePackets h (ahead ++ after) xs bs → Parted h ahead after xs bs
part_packets h [] after xs bs a = record { said = []; more = xs; whole = []; rest = bs; content = refl; packets = refl; size = refl; sizes = refl; are = a }
part_packets h (p ∷ ahead) after [] bs a = absurd a
part_packets h (p ∷ ahead) after (x ∷ xs) [] a = absurd a
part_packets h (p ∷ ahead) after (x ∷ xs) (b ∷ bs) a =
    let r = part_packets h ahead after xs bs a.1 in
    record { said = x ∷ r.said; more = r.more; whole = b ∷ r.whole; rest = r.rest; content = ap (λ l. x ∷ l) r.content; packets = ap (λ l. b ∷ l) r.packets; size = ap suc r.size; sizes = ap suc r.sizes; are = r.are }

-- nothing of a packet is there yet
pub nothing_yet : (h : Head) (p : Place) (after : List Place) (xs : List Content) (bs : List (List ℕ)) → ArePackets h (p ∷ after) xs bs → IsUnfinished bs []
nothing_yet h p after [] bs a = absurd a
nothing_yet h p after (x ∷ xs) [] a = absurd a
nothing_yet h p after (x ∷ xs) (b ∷ bs) a = packet_has_bytes h p x b a.0

-- what is known at a mark
at_the_mark : (c : Parts) (at : ℕ) (ps : List Place) (xs : List Content) (bs : List (List ℕ)) (got payload todo : List ℕ) (h : Here c at ps xs bs got (payload ++ todo)) (cur : Current) (m : Mark) (pos : ℕ) (f : Ahead c (length h.done) ps bs got pos cur m) → pos ≤ length payload
    → (r : Parted c.head f.ahead (f.p ∷ f.after) xs bs) → (n : Here c (at + pos) (f.p ∷ f.after) r.more r.rest [] (drop pos payload ++ todo)) × (n.done ≡ h.done ++ r.whole) × (n.before ≡ h.before ++ f.ahead)
at_the_mark c at ps xs bs got payload todo h cur m pos f within r =
    let start : at ≡ length (joined h.done) + length got = elim h.start [ inl none ↦ absurd (omega (arith, ap length none, f.low)) | inr t ↦ t ] in
    let bytes : joined bs ++ 255 ∷ 217 ∷ [] ≡ got ++ (payload ++ todo) = elim h.bytes [ inl none ↦ absurd (omega (arith, ap length none, f.low)) | inr t ↦ t ] in
    let front : length (joined r.whole) ≡ length got + pos =
    sym (ap (λ (l : List (List ℕ)). length (joined l)) (ap (λ n. take n bs) r.size ∙ (ap (take (length r.whole)) r.packets ∙ take-append_seam r.whole r.rest))) ∙ f.start in
    let all = ap length (joined-append h.done r.whole) ∙ length-append (joined h.done) (joined r.whole) in
    let eoc = 255 ∷ 217 ∷ [] in
    let cut = take pos payload in
    let size : length cut ≡ pos = omega (arith, length-take pos payload, within) in
    let split : joined r.whole ++ (joined r.rest ++ eoc) ≡ (got ++ cut) ++ (drop pos payload ++ todo) =
    sym (ap (λ (l : List ℕ). l ++ eoc) (ap joined r.packets ∙ joined-append r.whole r.rest) ∙ append_assoc (joined r.whole) (joined r.rest) eoc)
    ∙ (bytes ∙ (ap (λ (l : List ℕ). got ++ (l ++ todo)) (sym (take-append-drop pos payload)) ∙ (ap (λ (l : List ℕ). got ++ l) (append_assoc cut (drop pos payload) todo) ∙ sym (append_assoc got cut (drop pos payload ++ todo))))) in
    let behind = (same_front (joined r.whole) (got ++ cut) (joined r.rest ++ eoc) (drop pos payload ++ todo) (omega (arith, front, size, length-append got cut)) split).1 in (
      record {
        before = h.before ++ f.ahead;
        said = h.said ++ r.said;
        done = h.done ++ r.whole;
        places = h.places ∙ (ap (λ l. h.before ++ l) f.places ∙ sym (append_assoc h.before f.ahead (f.p ∷ f.after)));
        content = h.content ∙ (ap (λ l. h.said ++ l) r.content ∙ sym (append_assoc h.said r.said r.more));
        packets = h.packets ∙ (ap (λ l. h.done ++ l) r.packets ∙ sym (append_assoc h.done r.whole r.rest));
        many = omega (arith, h.many, r.size, length-append h.before f.ahead, length-append h.done r.whole);
        are = r.are;
        ended = omega (arith, start, all, front);
        start = inr (omega (arith, start, all, front));
        unfinished = nothing_yet c.head f.p f.after r.more r.rest r.are;
        bytes = inr behind;
      },
      refl,
      refl,
    )

-- the packets that haven't ended end after the start of the Body
pub unfinished_start : (c : Parts) (at : ℕ) (ps : List Place) (xs : List Content) (bs : List (List ℕ)) (got todo : List ℕ) (h : Here c at ps xs bs got todo) → 1 ≤ length bs → (j : ℕ) → length h.done ≤ j → at < packet_start c (j + 1)
unfinished_start c at ps xs [] got todo h some j low = absurd (omega arith)
unfinished_start c at ps xs (b ∷ bs) got todo h some j low =
    let start : at ≡ length (joined h.done) + length got = elim h.start [ inl none ↦ absurd (omega (arith, ap length none)) | inr t ↦ t ] in
    let first = start_among c h.done (b ∷ bs) 1 h.packets in
    let one : length (joined (take 1 (b ∷ bs))) ≡ length b = ap length (append-nil b) in
    let up = starts_up (λ (x : List ℕ). length x) c.packets (length h.done + 1) (j + 1) (omega arith) in
    omega (arith, start, first, one, up, h.unfinished)

-- a run begins at the mark
settle_begins : (d0 : Decoder) (s : Sent) (p : Place) (after : List Place) (bytes : List ℕ) (pos n : ℕ) → from_place p s.parts.places ≡ p ∷ after
    → settle (suc n) (state d0 (current_of s) None bytes (mark_at (0 + pos) p)) ≡ settle n (state d0 (current_of s) (Some (p ∷ after)) (drop pos bytes) None)
settle_begins d0 s p after bytes pos n e =
    let z : 0 + pos ≡ pos = omega arith in
    settle_changes n (state d0 (current_of s) None bytes (mark_at (0 + pos) p)) (state d0 (current_of s) (Some (from_place p s.parts.places)) (drop (0 + pos) bytes) None) refl
    ∙ (ap (λ l. settle n (state d0 (current_of s) (Some l) (drop (0 + pos) bytes) None)) e ∙ ap (λ k. settle n (state d0 (current_of s) (Some (p ∷ after)) (drop k bytes) None)) z)

-- what is known at a place is known at the same place
moved_here : (c : Parts) (m n : ℕ) (ps : List Place) (xs : List Content) (bs : List (List ℕ)) (got todo : List ℕ) (count : ℕ) → m ≡ n → (h : Here c m ps xs bs got todo) → length h.done ≡ count → (k : Here c n ps xs bs got todo) × (length k.done ≡ count)
moved_here c m n ps xs bs got todo count e h f = let P : ℕ → Type 0 = λ i. (k : Here c i ps xs bs got todo) × (length k.done ≡ count) in subst P e (h, f)

-- the point of the Body's mark is one of the resync points
has_point : (main : ℕ) (s : Sent) (earlier mine later : List Mark) (m : Mark) → marks s.bodies ≡ earlier ++ (mine ++ later) → mine ≡ m ∷ [] → Has (carried_at main s).resyncs (point main s m)
has_point main s earlier mine later m e f =
    let P : List Mark → Type 0 = λ l. Has l m in
    let here : Has mine m = subst P (sym f) (inl refl) in
    let all : Has (marks s.bodies) m = subst P (sym e) (has_right earlier (mine ++ later) m (has_left mine later m here)) in
    inr (has_map (point main s) (marks s.bodies) m all)

-- without a run, and with a mark
pub step_begin : (d0 : Decoder) (s : Sent) (main : ℕ) (there : ℕ → Bool) (i at : ℕ) (x : Datagram) (rest : List Datagram) (ps : List Place) (xs : List Content) (bs : List (List ℕ)) (got : List ℕ) (d : Decoder) (a : At d0 s main there i at (x ∷ rest) ps xs bs got d)
    (codestream : List ℕ) (parts : ArePartsOf s.parts codestream) (g : BodyFields) → x.payload ≡ Body g → s.stamp ≡ x.rtp.stamp → g.ordb ≡ true → g.pos < length x.codestream → there main ≡ true → there (main + 1 + i) ≡ true
    → Dead there main s (main + 1 + i) a.earlier → d ≡ state d0 (current_of s) None [] None → the_next d0 s main there i at x rest ps xs bs got d (Some x) a
step_begin d0 s main there i at x rest ps xs bs got d a codestream parts g e stamp o marked main_there here dead is =
    let c = s.parts in
    let cur = current_of s in
    let todo = flat_map (λ (y : Datagram). y.codestream) rest in
    let k = length a.here.done in
    let later = marks_from (i + 1) (at + length x.codestream) rest in
    let mine = mark_of i at x.payload in
    let m = own_mark i at g in
    let own : mine ≡ m ∷ [] = one_own i at x.payload g e o in
    let f = mark_ahead c codestream parts at ps xs bs got (x.codestream ++ todo) a.here cur m g.pos refl refl (own_right c i at x.payload g later e o a.right) refl in
    let A : List Place → Type 0 = λ l. ArePackets c.head l xs bs in
    let r = part_packets c.head f.ahead (f.p ∷ f.after) xs bs (subst A f.places a.here.are) in
    let mid = at_the_mark c at ps xs bs got x.codestream todo a.here cur m g.pos f (omega arith) r in
    let O : List Place → Type 0 = λ l. IsPacketOrder c.head l in
    let begins : from_place f.p c.places ≡ f.p ∷ f.after = ap (from_place f.p) mid.0.places ∙ run_from f.p mid.0.before f.after (stands_once c.head f.p mid.0.before f.after (subst O mid.0.places parts.order)) in
    let n = length x.codestream + 4 in
    let bytes = drop g.pos x.codestream in
    let cut : length bytes ≡ length x.codestream - g.pos = length-drop g.pos x.codestream in
    let q = settled (decoded d x x.payload) in
    let all : q ≡ settle n (state d0 cur (Some (f.p ∷ f.after)) bytes None) =
    ap settled (ap (λ y. decoded y x x.payload) is ∙ (ap (decoded (state d0 cur None [] None) x) e ∙ joined_marked d0 s None [] x g f.p stamp o f.found))
    ∙ (ap (λ z. settle z (state d0 cur None x.codestream (mark_at (0 + g.pos) f.p))) (let z : length x.codestream + 5 ≡ suc n = omega arith in z) ∙ settle_begins d0 s f.p f.after x.codestream g.pos n begins) in
    let t = tail_of c (at + g.pos) (f.p ∷ f.after) r.more r.rest [] bytes todo mid.0 in
    let W : Settled → Type 0 = λ y. Went d0 cur (f.p ∷ f.after) r.more r.rest bytes y in
    let w = subst W (sym all) (goes_on n d0 cur (f.p ∷ f.after) r.more r.rest bytes todo t.0 mid.0.are t.1 (omega (arith, cut))) in
    let h = next_here c (at + g.pos) (f.p ∷ f.after) r.more r.rest [] bytes todo mid.0 d0 cur q refl w in
    let size = many_done c (at + g.pos) (f.p ∷ f.after) r.more r.rest [] bytes todo mid.0 d0 cur q refl w in
    let before : length mid.0.done ≡ k + length f.ahead = ap length mid.1 ∙ (length-append a.here.done r.whole ∙ ap (λ z. k + z) (sym r.size)) in
    let gone = length f.ahead + length w.gone in
    let moved = moved_here c ((at + g.pos) + length bytes) (at + length x.codestream) w.left w.more w.rest w.kept todo (k + gone) (omega (arith, cut, marked)) h.0 (omega (arith, size, before)) in
    let alive : (z : ℕ) → k + length f.ahead ≤ z → Alive there main s (main + 1 + (i + 1)) z = λ z most.
    (point main s m, has_point main s a.earlier mine later m a.marks_are own, omega (arith, f.number), λ y low high. let y_is : y ≡ main + 1 + i = omega arith in ap there y_is ∙ here) in
    let known = next_at d0 s main there i at x rest ps xs bs got d a w.left w.more w.rest w.kept moved.0 q.decoder (inl (alive (length moved.0.done) (omega (arith, moved.1)), ap (λ (y : Settled). y.decoder) w.is)) in
    let now = dead_on there main s i a.earlier dead in
    let packets : length c.packets ≡ k + length bs = ap length a.here.packets ∙ length-append a.here.done bs in
    let at_mark = start_among c a.here.done bs (length f.ahead) a.here.packets in
    let start : at ≡ length (joined a.here.done) + length got = elim a.here.start [ inl none ↦ absurd (omega (arith, ap length none, f.low)) | inr u ↦ u ] in
    let missed : (j : ℕ) → k ≤ j → j < k + length f.ahead → test there main s j ≡ false = λ j low high.
    (let up = starts_up (λ (y : List ℕ). length y) c.packets (j + 1) (k + length f.ahead) (omega arith) in
    let P : List Mark → Type 0 = λ l. AllByRecursion (λ m. (j < precinct_at c m.place) ⊎ (there (main + 1 + i) ≡ false)) l in
    none_reached d0 s main there i at x rest ps xs bs got d a codestream parts j now (omega (arith, packets, high, f.low)) (unfinished_start c at ps xs bs got (x.codestream ++ todo) a.here (omega (arith, f.low)) j low) (omega (arith, up, at_mark, f.start, start, marked))
    (subst P (sym own) (inl (omega (arith, f.number, high)), tt))) in
    let met : (j : ℕ) → k + length f.ahead ≤ j → j < k + length f.ahead + length w.gone → test there main s j ≡ true = λ j low high.
    (let b = gone_between c (at + g.pos) (f.p ∷ f.after) r.more r.rest [] bytes (bytes ++ todo) mid.0 d0 cur q refl w j (omega (arith, before, low)) (omega (arith, before, high)) in
    reached_here d0 s main there i at x rest ps xs bs got d a (k + length f.ahead) j main_there (alive (k + length f.ahead) (omega arith)) low (omega (arith, b.0)) (omega (arith, b.1, cut, marked))) in
    let same = as_said c.head w.gone w.said w.whole w.are_gone in
    let many = as_many c.head w.gone w.said w.whole w.are_gone in
    let T = test there main s in
    let first = split_passes T k cur d0.heads ps f.ahead (f.p ∷ f.after) xs r.said r.more bs r.whole r.rest f.places r.content r.packets r.sizes r.size in
    let second = split_passes T (k + length f.ahead) cur d0.heads (f.p ∷ f.after) w.gone w.left r.more w.said w.more r.rest w.whole w.rest w.places w.content w.packets same many in
    let none = passing_none T k (releases_of cur d0.heads f.ahead r.said r.whole) (λ j low high. missed j low (omega (arith, high, releases-length cur d0.heads f.ahead r.said r.whole r.sizes r.size))) in
    let every = passing_all T (k + length f.ahead) (releases_of cur d0.heads w.gone w.said w.whole) (λ j low high. met j low (omega (arith, high, releases-length cur d0.heads w.gone w.said w.whole same many))) in
    let sum : k + length f.ahead + length w.gone ≡ k + gone = omega arith in
    record {
      left = w.left;
      more = w.more;
      packets = w.rest;
      kept = w.kept;
      decoder = q.decoder;
      given = q.releases;
      gone = gone;
      known = known.0;
      count = ap length known.1 ∙ moved.1;
      passes = first ∙ (ap (λ l. l ++ passing T (k + length f.ahead) (releases_of cur d0.heads (f.p ∷ f.after) r.more r.rest)) none
          ∙ (second ∙ (ap (λ l. l ++ passing T (k + length f.ahead + length w.gone) (releases_of cur d0.heads w.left w.more w.rest)) (every ∙ sym (ap (λ (y : Settled). y.releases) w.is))
          ∙ ap (λ z. q.releases ++ passing T z (releases_of cur d0.heads w.left w.more w.rest)) sum)));
      feeds = λ items. refl;
    }
