-- The rules give exactly what is reached of a stream, whichever of its datagrams are there.
use Rattle.std.proofs.Common.{◌≡◌, ◌⊎◌, ◌+◌, ◌==◌, ℕ, Bool, true, false, List, [], ◌∷◌, ◌++◌, map, length, Option, Some, None, subst, refl, sym, ◌∙◌, ap, inl, inr, if◌then◌else◌}
use Rattle.std.specs.List.{AllByRecursion, AllZip, IsDistinct, flat_map, enumerate_from}
use Rattle.std.proofs.lemmas.Bool.{eq-eqb}
use Rattle.std.proofs.lemmas.List.{map-append}
use Rattle.std.proofs.lemmas.List.Folds.{flat_map-map}
use Rattle.wire_model.specs.Payload.{PayloadFields, Main, Body, IsPayload}
use Rattle.wire_model.specs.Datagram.{Datagram, IsDatagram}
use Rattle.codestream_model.proofs.TreeLemmas.{either}
use Rattle.stream_model.specs.Report.{Precinct}
use Rattle.codestream_model.specs.Values.{Place}
use Rattle.codestream_model.specs.Packet.{Content}
use Rattle.stream_model.specs.Stream.{ArePackets, ArePartsOf, Sent, Carry, datagrams_of, IsBodyPayload, Carries, packet_span, carried_at, main_position}
use Rattle.stream_model.specs.Decoder.{Current, Decoder, at_start, Release, precincts_released, Settled, take_gap}
use Rattle.stream_model.specs.CommandLaws.{precincts_of}
use Rattle.stream_model.specs.RunLaws.{fed, handed, given_before, passing, precincts_in, reached_in, current_of, release_of, releases_of, releases_in, heads_after, releases_reached, RunsGiveWhatIsReached, RunsReleaseWhatIsReached}
use Rattle.stream_model.proofs.Positions.{placed, are_placed}
use Rattle.stream_model.proofs.RunReach.{reach_lost, passing_none}
use Rattle.stream_model.proofs.RunStates.{test}
use Rattle.stream_model.proofs.RunStream.{IsBodyOf, fed-append, handed-append, IsWhole, with_main, IsOther, lost_bodies}

-- what is reached of codestreams whose first Main has this position
abbrev pub reached_from : (ℕ → Bool) → ℕ → List Sent → List Precinct
reached_from there main sent = flat_map (λ l. l) (placed (λ s. length (datagrams_of s)) (λ i at s. passing (test there at s) 0 (precincts_in s)) 0 main sent)

-- the number of a codestream doesn't matter
any_number : {A : Type 0} (f : Sent → ℕ) (g : ℕ → Sent → A) (i j at : ℕ) (sent : List Sent) → placed f (λ k at s. g at s) i at sent ≡ placed f (λ k at s. g at s) j at sent
any_number f g i j at [] = refl
any_number f g i j at (s ∷ sent) = ap (λ l. g at s ∷ l) (any_number f g (i + 1) (j + 1) (at + f s) sent)

-- the counts stay
abbrev KeepsCounts : Decoder → Decoder → Type 0
KeepsCounts d0 d = (d.unsupported ≡ d0.unsupported) × (d.disagreed ≡ d0.disagreed) × (d.broken ≡ d0.broken)

-- which main header is in force after a codestream: its own, the one before, or none
abbrev InForce : Decoder → Sent → Option Current → Type 0
InForce d s current = (current ≡ Some (current_of s)) ⊎ ((current ≡ d.current) ⊎ (current ≡ None))

-- what is known once a codestream was fed whose Main was there or not
record OneFed (d : Decoder) (s : Sent) (main : ℕ) (there : ℕ → Bool) (here : Bool) (y : Settled) : Type 0 where
  releases : y.releases ≡ passing (test there main s) 0 (releases_in (heads_after here d.heads) s)
  counts : KeepsCounts d y.decoder
  in_force : InForce d s y.decoder.current
  heads : y.decoder.heads ≡ heads_after here d.heads

-- one codestream, be its Main there or missing: what is released, and which main header is in force then
one_fed : (d : Decoder) (s : Sent) (main : ℕ) (there : ℕ → Bool) → IsWhole s → IsOther d.current s.stamp → OneFed d s main there (there main) (fed d (handed there main (datagrams_of s)))
one_fed d s main there w other =
    let items = handed there (main + 1) s.bodies in
    let P : Bool → Type 0 = λ b. OneFed d s main there b (fed d ((if b then Some s.main else None) ∷ items)) in
    elim (either (there main)) [
      | inl t ↦
          let r = with_main d s main there w t in
          subst P (sym t) (record { releases = r.0; counts = (r.1.unsupported, r.1.disagreed, r.1.broken); in_force = inl r.1.current_is; heads = r.1.heads })
      | inr t ↦
          let r = lost_bodies d d.current s there (main + 1) s.bodies w.bodies other in
          let none = passing_none (test there main s) 0 (releases_in d.heads s) (λ j low high. reach_lost there (carried_at main s) j (packet_span s main j) t) in
          let y = (fed (take_gap d) items).decoder in
          let counts : KeepsCounts d y = elim r.1 [
            | inl u ↦ (ap (λ (e : Decoder). e.unsupported) u, ap (λ (e : Decoder). e.disagreed) u, ap (λ (e : Decoder). e.broken) u)
            | inr u ↦ (ap (λ (e : Decoder). e.unsupported) u, ap (λ (e : Decoder). e.disagreed) u, ap (λ (e : Decoder). e.broken) u)
          ] in
          let current : InForce d s y.current = elim r.1 [
            | inl u ↦ inr (inl (ap (λ (e : Decoder). e.current) u))
            | inr u ↦ inr (inr (ap (λ (e : Decoder). e.current) u))
          ] in
          let heads : y.heads ≡ d.heads = elim r.1 [ inl u ↦ ap (λ (e : Decoder). e.heads) u | inr u ↦ ap (λ (e : Decoder). e.heads) u ] in
          subst P (sym t) (record { releases = r.0 ∙ sym none; counts = counts; in_force = current; heads = heads })
    ]

-- the codestreams that follow have other stamps
others_stay : (d : Decoder) (s : Sent) (current : Option Current) (sent : List Sent) → InForce d s current → AllByRecursion (λ t. (s.stamp == t) ≡ false) (map (λ t. t.stamp) sent)
    → AllByRecursion (λ t. IsOther d.current t.stamp) sent → AllByRecursion (λ t. IsOther current t.stamp) sent
others_stay d s current [] e apart other = tt
others_stay d s current (t ∷ sent) e apart other =
    let P : Option Current → Type 0 = λ o. IsOther o t.stamp in
    let here : IsOther current t.stamp = elim e [
      | inl u ↦ subst P (sym u) (λ same. let q : (s.stamp == t.stamp) ≡ true = eq-eqb s.stamp t.stamp same in let r : (s.stamp == t.stamp) ≡ false = apart.0 in absurd (cc))
      | inr (inl u) ↦ subst P (sym u) other.0
      | inr (inr u) ↦ subst P (sym u) tt
    ] in
    (here, others_stay d s current sent e apart.1 other.1)

-- the codestreams of a stream, one after another
all_fed : (d : Decoder) (main : ℕ) (there : ℕ → Bool) (sent : List Sent) → AllByRecursion IsWhole sent → IsDistinct (λ a b. a == b) (map (λ s. s.stamp) sent) → AllByRecursion (λ s. IsOther d.current s.stamp) sent
    → ((fed d (handed there main (flat_map datagrams_of sent))).releases ≡ releases_reached there main d.heads sent) × KeepsCounts d (fed d (handed there main (flat_map datagrams_of sent))).decoder
unfolding IsDistinct
all_fed d main there [] whole apart other = (refl, (refl, refl, refl))
all_fed d main there (s ∷ sent) whole apart other =
    let xs = datagrams_of s in
    let ys = flat_map datagrams_of sent in
    let one = one_fed d s main there whole.0 other.0 in
    let mid = (fed d (handed there main xs)).decoder in
    let next = all_fed mid (main + length xs) there sent whole.1 apart.1 (others_stay d s mid.current sent one.in_force apart.0 other.1) in
    let split : fed d (handed there main (xs ++ ys)) ≡ given_before (fed d (handed there main xs)).releases (fed mid (handed there (main + length xs) ys)) =
    ap (fed d) (handed-append there main xs ys) ∙ fed-append d (handed there main xs) (handed there (main + length xs) ys) in
    let heads = heads_after (there main) d.heads in
    let later = ap (λ n. releases_reached there (main + length xs) n sent) one.heads in (
      ap (λ (y : Settled). y.releases) split ∙ (ap (λ l. l ++ (fed mid (handed there (main + length xs) ys)).releases) one.releases ∙ ap (λ l. passing (test there main s) 0 (releases_in heads s) ++ l) (next.0 ∙ later)),
      (
        ap (λ (y : Settled). y.decoder.unsupported) split ∙ (next.1.0 ∙ one.counts.0),
        ap (λ (y : Settled). y.decoder.disagreed) split ∙ (next.1.1 ∙ one.counts.1),
        ap (λ (y : Settled). y.decoder.broken) split ∙ (next.1.2 ∙ one.counts.2),
      ),
    )

-- the precincts of packets that say this
released_say : (c : Current) (n : ℕ) (ps : List Place) (xs : List Content) (bs : List (List ℕ)) → ArePackets c.head ps xs bs → precincts_released (releases_of c n ps xs bs) ≡ precincts_of c.head c.stamp ps xs
released_say c n [] [] [] a = refl
released_say c n [] [] (b ∷ bs) a = absurd a
released_say c n [] (x ∷ xs) bs a = absurd a
released_say c n (p ∷ ps) [] bs a = absurd a
released_say c n (p ∷ ps) (x ∷ xs) [] a = absurd a
released_say c n (p ∷ ps) (x ∷ xs) (b ∷ bs) a = ap (λ l. (release_of c n p x b).precinct ∷ l) (released_say c n ps xs bs a.1)

-- what passes of some items passes of what is made of them
passing-map : {A B : Type 0} (f : A → B) (t : ℕ → Bool) (k : ℕ) (xs : List A) → map f (passing t k xs) ≡ passing t k (map f xs)
passing-map f t k [] = refl
passing-map f t k (x ∷ xs) = elim (t k) as (λ b. map f (if b then x ∷ passing t (k + 1) xs else passing t (k + 1) xs) ≡ (if b then f x ∷ passing t (k + 1) (map f xs) else passing t (k + 1) (map f xs))) [
  | true ↦ ap (λ l. f x ∷ l) (passing-map f t (k + 1) xs)
  | false ↦ passing-map f t (k + 1) xs
]

-- the precincts of what is released of a stream
released_from : (there : ℕ → Bool) (main heads : ℕ) (sent : List Sent) → AllByRecursion IsWhole sent → precincts_released (releases_reached there main heads sent) ≡ reached_from there main sent
released_from there main heads [] whole = refl
released_from there main heads (s ∷ sent) whole =
    let c = s.parts in
    let n = heads_after (there main) heads in
    let at = main + length (datagrams_of s) in
    let f : Release → Precinct = λ x. x.precinct in
    let first = passing (test there main s) 0 (releases_in n s) in
    let mine : precincts_released first ≡ passing (test there main s) 0 (precincts_in s) =
    passing-map f (test there main s) 0 (releases_in n s) ∙ ap (passing (test there main s) 0) (released_say (current_of s) n c.places c.content c.packets whole.0.parts.are_packets) in
    let g : ℕ → Sent → List Precinct = λ at t. passing (test there at t) 0 (precincts_in t) in
    let later : reached_from there at sent ≡ flat_map (λ l. l) (placed (λ t. length (datagrams_of t)) (λ i at t. g at t) 1 at sent) = ap (flat_map (λ l. l)) (any_number (λ t. length (datagrams_of t)) g 0 1 at sent) in
    map-append f first (releases_reached there at n sent)
    ∙ (ap (λ l. l ++ precincts_released (releases_reached there at n sent)) mine ∙ ap (λ l. passing (test there main s) 0 (precincts_in s) ++ l) (released_from there at n sent whole.1 ∙ later))

-- each is a datagram in some bytes
pub have_bytes : (xs : List Datagram) (datagrams : List (List ℕ)) → AllZip IsDatagram xs datagrams → AllByRecursion (λ x. (b : List ℕ) × IsDatagram x b) xs
have_bytes [] datagrams a = tt
have_bytes (x ∷ xs) [] a = absurd a
have_bytes (x ∷ xs) (b ∷ datagrams) a = ((b, a.0), have_bytes xs datagrams a.1)

-- what holds of the first items, and of those after them
all_front : {A : Type 0} (P : A → Type 0) (xs ys : List A) → AllByRecursion P (xs ++ ys) → AllByRecursion P xs
all_front P [] ys h = tt
all_front P (x ∷ xs) ys h = (h.0, all_front P xs ys h.1)

-- and of those after them
all_back : {A : Type 0} (P : A → Type 0) (xs ys : List A) → AllByRecursion P (xs ++ ys) → AllByRecursion P ys
all_back P [] ys h = h
all_back P (x ∷ xs) ys h = all_back P xs ys h.1

-- a Body of what is sent
body_by : (s : Sent) (x : Datagram) (h : PayloadFields) (bytes : List ℕ) → x.payload ≡ h → IsBodyPayload h → IsPayload h x.codestream bytes → s.stamp ≡ x.rtp.stamp → IsBodyOf s x
body_by s x (Main h) bytes e is p t = absurd is
body_by s x (Body h) bytes e is p t = record { fields = h; payload = e; stamp = t; marked = p.marked }

-- so with many
bodies_of : (s : Sent) (rest : List Datagram) → AllByRecursion (λ x. IsBodyPayload x.payload) rest → AllByRecursion (λ x. x.rtp.stamp ≡ s.stamp) rest → AllByRecursion (λ x. (b : List ℕ) × IsDatagram x b) rest → AllByRecursion (IsBodyOf s) rest
bodies_of s [] a b c = tt
bodies_of s (x ∷ rest) a b c = (body_by s x x.payload c.0.1.body refl a.0 c.0.1.is_payload (sym b.0), bodies_of s rest a.1 b.1 c.1)

-- the codestreams of a stream
pub are_whole : (sent : List Sent) (codestreams : List (List ℕ)) → AllZip (λ s codestream. ArePartsOf s.parts codestream) sent codestreams → AllByRecursion Carries sent
    → AllByRecursion (λ x. (b : List ℕ) × IsDatagram x b) (flat_map datagrams_of sent) → AllByRecursion IsWhole sent
are_whole [] codestreams a b d = tt
are_whole (s ∷ sent) [] a b d = absurd a
are_whole (s ∷ sent) (codestream ∷ codestreams) a b d =
    let mine = all_front (λ (x : Datagram). (b : List ℕ) × IsDatagram x b) (datagrams_of s) (flat_map datagrams_of sent) d in (
      record { codestream = codestream; parts = a.0; carries = b.0; bodies = bodies_of s s.bodies b.0.bodies b.0.stamps.1 mine.1 },
      are_whole sent codestreams a.1 b.1 (all_back (λ (x : Datagram). (b : List ℕ) × IsDatagram x b) (datagrams_of s) (flat_map datagrams_of sent) d),
    )

-- at the start no main header is in force
none_yet : (sent : List Sent) → AllByRecursion (λ s. IsOther None s.stamp) sent
none_yet [] = tt
none_yet (s ∷ sent) = (tt, none_yet sent)

-- what is reached, in both words
pub reached_placed : (there : ℕ → Bool) (sent : List Sent) → reached_in there sent ≡ reached_from there 0 sent
reached_placed there sent =
    sym (flat_map-map (λ (l : List Precinct). l) (λ (x : ℕ × Sent). passing (test there (main_position sent x.0) x.1) 0 (precincts_in x.1)) (enumerate_from 0 sent))
    ∙ ap (flat_map (λ (l : List Precinct). l)) (are_placed (λ s. length (datagrams_of s)) (λ i at s. passing (test there at s) 0 (precincts_in s)) sent)

-- the codestreams of a stream are whole
pub stream_whole : (sent : List Sent) (codestreams datagrams : List (List ℕ)) → Carry sent codestreams datagrams → AllByRecursion IsWhole sent
stream_whole sent codestreams datagrams r = are_whole sent codestreams r.are_parts r.each (have_bytes (flat_map datagrams_of sent) datagrams r.are_datagrams)

-- the precincts of what is released of a stream are what is reached
pub released_is_reached : (there : ℕ → Bool) (sent : List Sent) → AllByRecursion IsWhole sent → precincts_released (releases_reached there 0 0 sent) ≡ reached_in there sent
released_is_reached there sent whole = released_from there 0 0 sent whole ∙ sym (reached_placed there sent)

-- the rules release exactly what is reached
pub runs_release : RunsReleaseWhatIsReached
runs_release sent codestreams datagrams there r =
    (all_fed at_start 0 there sent (stream_whole sent codestreams datagrams r) r.apart (none_yet sent)).0

-- so they give exactly the precincts that are reached
pub runs_give : RunsGiveWhatIsReached
runs_give sent codestreams datagrams there r =
    let whole = stream_whole sent codestreams datagrams r in
    let f = all_fed at_start 0 there sent whole r.apart (none_yet sent) in
    (ap precincts_released f.0 ∙ released_is_reached there sent whole, record { unsupported = f.1.0; disagreed = f.1.1; broken = f.1.2 })
