-- Without loss and in order the rules of a receiver give everything.
use Rattle.std.proofs.Common.{◌≡◌, ◌⊎◌, ◌≤◌, ◌+◌, ◌%◌, ◌^◌, ◌==◌, ℕ, suc, Bool, true, false, not, List, [], ◌∷◌, ◌++◌, map, filter, length, nat_le, Option, Some, None, subst, refl, sym, ◌∙◌, ap, inl, inr, arith, append_assoc, if◌then◌else◌}
use Rattle.std.specs.Prelude.{find}
use Rattle.std.specs.List.{AllByRecursion, AllZip, flat_map, range_with_len}
use Rattle.std.proofs.lemmas.Bool.{lt-leb, eq-eqb}
use Rattle.std.proofs.lemmas.List.{append-nil}
use Rattle.wire_model.specs.Datagram.{Datagram, IsDatagram, datagram_of, is_well_formed}
use Rattle.wire_model.proofs.DatagramLaws.{datagram_is_computed}
use Rattle.wire_model.proofs.RtpLaws.{rtp_is_read_one_way}
use Rattle.wire_model.proofs.PayloadLaws.{payload_is_read_one_way}
use Rattle.codestream_model.proofs.TreeLemmas.{same_number}
use Rattle.stream_model.specs.Stream.{Sent, datagrams_of, extended_number, packet_span, carried_at}
use Rattle.stream_model.specs.Decoder.{Decoder, at_start, Release, precincts_released, settled}
use Rattle.stream_model.specs.Window.{Window, Held, Kept, ahead, offer_ahead, offer, hold, Hand, Nothing, next_at, next}
use Rattle.stream_model.specs.Receiver.{Pick, Receiver, decoded, followed, drained, drain, offered, is_source, take_datagram, take_frame, take_frames, received, flushed, counts_of}
use Rattle.stream_model.specs.RunLaws.{fed, handed, passing, precincts_in}
use Rattle.stream_model.specs.StreamLaws.{InOrderGivesAll}
use Rattle.stream_model.proofs.Positions.{placed}
use Rattle.stream_model.proofs.CutBodies.{all_imply}
use Rattle.stream_model.proofs.RunReach.{reach_true, passing_all}
use Rattle.stream_model.proofs.RunStates.{test}
use Rattle.stream_model.proofs.RunLaws.{reached_placed, runs_give}

-- a receiver that holds nothing, with the number that comes next
abbrev ready : Option ℕ → Option ℕ → Decoder → List Release → ℕ → Receiver
ready source base d xs kept = record { source = source; window = record { base = base; due = 0; held = [] }; decoder = d; releases = xs; kept = kept; old = 0; refused = 0 }

-- the datagram that is held is handed on, and then nothing is left
hands : (n : ℕ) (x : Datagram) → next (record { base = Some n; due = 0; held = record { number = n; item = x } ∷ [] }) (Some n) ≡ Hand x (record { base = Some ((n + 1) % 2 ^ 24); due = 0; held = [] })
hands n x =
    let h : Held Datagram = record { number = n; item = x } in
    let e = same_number n in
    let found : find (λ (y : Held Datagram). y.number == n) (h ∷ []) ≡ Some h = rw e refl in
    let left : filter (λ (y : Held Datagram). not (y.number == n)) (h ∷ []) ≡ [] = rw e refl in
    ap (next_at n (record { base = Some n; due = 0; held = h ∷ [] })) found ∙ ap (λ l. Hand x (record { base = Some ((n + 1) % 2 ^ 24); due = 0; held = l })) left

-- one that is handed on is decoded
drained_hand : (m : ℕ) (r : Receiver) (x : Datagram) (w : Window Datagram) → next r.window r.window.base ≡ Hand x w → drained (suc m) r ≡ drained m (followed (record r { window = w }) (decoded r.decoder x x.payload))
unfolding drained
drained_hand m r x w e = rw (e, drained) refl

-- and where nothing is handed on nothing changes
drained_none : (m : ℕ) (r : Receiver) → next r.window r.window.base ≡ Nothing → drained (suc m) r ≡ r
unfolding drained
drained_none m r e = rw (e, drained) refl

-- a datagram that is kept where nothing is held
kept_one : (source base : Option ℕ) (d : Decoder) (xs : List Release) (k n : ℕ) (x : Datagram)
    → drained 3 (record { source = source; window = record { base = Some n; due = 0; held = record { number = n; item = x } ∷ [] }; decoder = d; releases = xs; kept = k; old = 0; refused = 0 })
    ≡ ready source (Some ((n + 1) % 2 ^ 24)) (settled (decoded d x x.payload)).decoder (xs ++ (settled (decoded d x x.payload)).releases) k
kept_one source base d xs k n x =
    drained_hand 2 (record { source = source; window = record { base = Some n; due = 0; held = record { number = n; item = x } ∷ [] }; decoder = d; releases = xs; kept = k; old = 0; refused = 0 }) x (record { base = Some ((n + 1) % 2 ^ 24); due = 0; held = [] }) (hands n x)
    ∙ drained_none 1 (ready source (Some ((n + 1) % 2 ^ 24)) (settled (decoded d x x.payload)).decoder (xs ++ (settled (decoded d x x.payload)).releases) k) refl

-- the next datagram in order is kept
abbrev IsNext : Option ℕ → ℕ → Type 0
IsNext None n = Unit {0}
IsNext (Some base) n = base ≡ n

-- a number is not ahead of itself
ahead_none : (n : ℕ) → ahead n n ≡ 0
ahead_none n = omega arith

-- so the window keeps it
next_kept : (window : ℕ) (base : Option ℕ) (n : ℕ) → 1 ≤ window → IsNext base n → offer {T = Datagram} window n (record { base = base; due = 0; held = [] }) base ≡ Kept
next_kept window None n some is = refl
next_kept window (Some base) n some is =
    let z : ahead base n ≡ 0 = ap (λ b. ahead b n) is ∙ ahead_none n in
    let far : nat_le (2 ^ 23) 0 ≡ false = refl in
    let near : nat_le window 0 ≡ false = lt-leb window 0 (omega arith) in
    ap (λ a. offer_ahead {T = Datagram} window a n []) z ∙ rw near refl

-- and held at its own number
held_at : (base : Option ℕ) (n : ℕ) (x : Datagram) → IsNext base n → hold (record { base = base; due = 0; held = [] }) n x ≡ record { base = Some n; due = 0; held = record { number = n; item = x } ∷ [] }
held_at None n x is = refl
held_at (Some base) n x is = ap (λ b. record { base = Some b; due = 0; held = record { number = n; item = x } ∷ [] }) is

-- a frame of a stream in order
frame_taken : (pick : Pick) (source base : Option ℕ) (d : Decoder) (xs : List Release) (k : ℕ) (x : Datagram) (frame : List ℕ) → IsDatagram x frame → 1 ≤ pick.window → pick.kind ≡ x.rtp.kind → (source ≡ None) ⊎ (source ≡ Some x.rtp.source) → IsNext base (extended_number x)
    → take_frame pick (ready source base d xs k) frame
    ≡ ready (Some x.rtp.source) (Some ((extended_number x + 1) % 2 ^ 24)) (settled (decoded d x x.payload)).decoder (xs ++ (settled (decoded d x x.payload)).releases) (k + 1)
frame_taken pick source base d xs k x frame is some kind from order =
    let c = datagram_is_computed rtp_is_read_one_way payload_is_read_one_way x frame is in
    let same : datagram_of frame ≡ x = sym c.1 in
    let well : is_well_formed frame ≡ true = c.0 in
    let right : ((datagram_of frame).rtp.kind == pick.kind) ≡ true = eq-eqb (datagram_of frame).rtp.kind pick.kind (ap (λ (y : Datagram). y.rtp.kind) same ∙ sym kind) in
    let r = ready source base d xs k in
    let n = extended_number x in
    let taken : take_frame pick r frame ≡ take_datagram pick r x = rw (well, right) (ap (take_datagram pick r) same) in
    let picked : is_source source x.rtp.source ≡ true = elim from [ inl e ↦ ap (λ o. is_source o x.rtp.source) e | inr e ↦ ap (λ o. is_source o x.rtp.source) e ∙ same_number x.rtp.source ] in
    let with_source = ready (Some x.rtp.source) base d xs k in
    let passed : take_datagram pick r x ≡ offered with_source x (offer pick.window n with_source.window base) =
    ap (λ (b : Bool). if b then offered with_source x (offer pick.window n with_source.window base) else record r { refused = r.refused + 1 }) picked in
    taken ∙ (passed ∙ (ap (offered with_source x) (next_kept pick.window base n some order)
    ∙ (ap (λ w. drain (record with_source { window = w; kept = k + 1 })) (held_at base n x order) ∙ kept_one (Some x.rtp.source) base d xs (k + 1) n x)))

-- the datagrams have these numbers, one after another
abbrev CountUp : Option ℕ → List Datagram → Type 0
CountUp base [] = Unit {0}
CountUp base (x ∷ xs) = IsNext base (extended_number x) × CountUp (Some ((extended_number x + 1) % 2 ^ 24)) xs

-- frames of a stream in order
frames_taken : (pick : Pick) (source base : Option ℕ) (d : Decoder) (xs : List Release) (k from : ℕ) (datagrams : List Datagram) (frames : List (List ℕ)) → AllZip IsDatagram datagrams frames → 1 ≤ pick.window
    → AllByRecursion (λ x. (x.rtp.source ≡ from) × (x.rtp.kind ≡ pick.kind)) datagrams → (source ≡ None) ⊎ (source ≡ Some from) → CountUp base datagrams → (at : ℕ)
    → (last : Option ℕ) × (end : Option ℕ) × (take_frames pick (ready source base d xs k) frames ≡ ready last end (fed d (handed (λ i. true) at datagrams)).decoder (xs ++ (fed d (handed (λ i. true) at datagrams)).releases) (k + length frames))
unfolding take_frames
frames_taken pick source base d xs k from [] [] a some one is up at =
    let e : k ≡ k + 0 = omega arith in
    (source, base, ap (λ l. ready source base d l k) (sym (append-nil xs)) ∙ ap (ready source base d (xs ++ [])) e)
frames_taken pick source base d xs k from [] (f ∷ frames) a some one is up at = absurd a
frames_taken pick source base d xs k from (x ∷ datagrams) [] a some one is up at = absurd a
frames_taken pick source base d xs k from (x ∷ datagrams) (f ∷ frames) a some one is up at =
    let s = settled (decoded d x x.payload) in
    let mine : (source ≡ None) ⊎ (source ≡ Some x.rtp.source) = elim is [ inl e ↦ inl e | inr e ↦ inr (e ∙ ap Some (sym one.0.0)) ] in
    let first = frame_taken pick source base d xs k x f a.0 some (sym one.0.1) mine up.0 in
    let next = frames_taken pick (Some x.rtp.source) (Some ((extended_number x + 1) % 2 ^ 24)) s.decoder (xs ++ s.releases) (k + 1) from datagrams frames a.1 some one.1 (inr (ap Some one.0.0)) up.1 (at + 1) in
    let e : k + 1 + length frames ≡ k + suc (length frames) = omega arith in
    let more = fed s.decoder (handed (λ i. true) (at + 1) datagrams) in (
      next.0,
      next.1,
      ap (λ r. take_frames pick r frames) first
          ∙ (next.2 ∙ (ap (λ l. ready next.0 next.1 more.decoder l (k + 1 + length frames)) (append_assoc xs s.releases more.releases) ∙ ap (ready next.0 next.1 more.decoder (xs ++ (s.releases ++ more.releases))) e)),
    )

-- at the end nothing is left
flushed_ready : (source base : Option ℕ) (d : Decoder) (xs : List Release) (k : ℕ) → flushed (ready source base d xs k) ≡ ready source base d xs k
flushed_ready source None d xs k = drained_none 0 (ready source None d xs k) refl
flushed_ready source (Some base) d xs k = drained_none 0 (ready source (Some base) d xs k) refl

-- numbers that count up modulo 2^24
counted_up : (number i : ℕ) (datagrams : List Datagram) (base : Option ℕ) → map extended_number datagrams ≡ map (λ j. (number + j) % 2 ^ 24) (range_with_len i (length datagrams)) → IsNext base ((number + i) % 2 ^ 24) → CountUp base datagrams
counted_up number i [] base e is = tt
counted_up number i (x ∷ datagrams) base e is =
    let first : extended_number x ≡ (number + i) % 2 ^ 24 = cc in
    let behind : map extended_number datagrams ≡ map (λ j. (number + j) % 2 ^ 24) (range_with_len (i + 1) (length datagrams)) = cc in
    let P : ℕ → Type 0 = λ n. IsNext base n in
    let next : (extended_number x + 1) % 2 ^ 24 ≡ (number + (i + 1)) % 2 ^ 24 = ap (λ n. (n + 1) % 2 ^ 24) first ∙ (let m : ((number + i) % 16777216 + 1) % 16777216 ≡ (number + (i + 1)) % 16777216 = omega arith in m) in
    (subst P (sym first) is, counted_up number (i + 1) datagrams (Some ((extended_number x + 1) % 2 ^ 24)) behind next)

-- with everything there everything is reached
all_reached : (i main : ℕ) (sent : List Sent) → flat_map (λ l. l) (placed (λ s. length (datagrams_of s)) (λ i at s. passing (test (λ x. true) at s) 0 (precincts_in s)) i main sent) ≡ flat_map precincts_in sent
all_reached i main [] = refl
all_reached i main (s ∷ sent) =
    ap (λ l. l ++ flat_map (λ l. l) (placed (λ s. length (datagrams_of s)) (λ i at s. passing (test (λ x. true) at s) 0 (precincts_in s)) (i + 1) (main + length (datagrams_of s)) sent))
    (passing_all (test (λ x. true) main s) 0 (precincts_in s) (λ j low high. reach_true (λ x. true) (carried_at main s) j (packet_span s main j) (record { at = main; precinct = 0 }) refl (inl refl) (omega arith) (λ x l h. refl)))
    ∙ ap (λ l. precincts_in s ++ l) (all_reached (i + 1) (main + length (datagrams_of s)) sent)

-- as many datagrams as frames
pub zip_length : (xs : List Datagram) (frames : List (List ℕ)) → AllZip IsDatagram xs frames → length xs ≡ length frames
zip_length [] [] a = refl
zip_length [] (f ∷ frames) a = absurd a
zip_length (x ∷ xs) [] a = absurd a
zip_length (x ∷ xs) (f ∷ frames) a = ap suc (zip_length xs frames a.1)

-- so everything is given
pub in_order_gives_all : InOrderGivesAll
in_order_gives_all sent codestreams datagrams pick c some kind source =
    let all = flat_map datagrams_of sent in
    let same : length all ≡ length datagrams = zip_length all datagrams c.are_datagrams in
    let numbers : map extended_number all ≡ map (λ j. (c.number + j) % 2 ^ 24) (range_with_len 0 (length all)) = c.numbers ∙ ap (λ n. map (λ j. (c.number + j) % 2 ^ 24) (range_with_len 0 n)) (sym same) in
    let one = all_imply (λ (x : Datagram). (x.rtp.source ≡ c.source) × (x.rtp.kind ≡ c.kind)) (λ x. (x.rtp.source ≡ c.source) × (x.rtp.kind ≡ pick.kind)) all (λ x h. (h.0, h.1 ∙ sym kind)) c.one_source in
    let f = frames_taken pick pick.source None at_start [] 0 c.source all datagrams c.are_datagrams some one source (counted_up c.number 0 all None numbers tt) 0 in
    let rules = runs_give sent codestreams datagrams (λ i. true) c in
    let fed_all = fed at_start (handed (λ i. true) 0 all) in
    let every : precincts_released fed_all.releases ≡ flat_map precincts_in sent = rules.0 ∙ (reached_placed (λ i. true) sent ∙ all_reached 0 0 sent) in
    let got = received pick datagrams in
    let is : got ≡ ready f.0 f.1 fed_all.decoder fed_all.releases (0 + length datagrams) = f.2 in
    let at_end : flushed got ≡ ready f.0 f.1 fed_all.decoder fed_all.releases (0 + length datagrams) = ap flushed is ∙ flushed_ready f.0 f.1 fed_all.decoder fed_all.releases (0 + length datagrams) in
    let u : fed_all.decoder.unsupported ≡ 0 = rules.1.unsupported in
    let g : fed_all.decoder.disagreed ≡ 0 = rules.1.disagreed in
    let b : fed_all.decoder.broken ≡ 0 = rules.1.broken in
    let z : 0 + length datagrams ≡ length datagrams = omega arith in (
      ap (λ (r : Receiver). precincts_released r.releases) is ∙ every,
      ap (λ (r : Receiver). precincts_released r.releases) at_end ∙ every,
      ap counts_of at_end ∙ rw (u, g, b, z) refl,
    )
