-- What the rules give of a whole stream, some of whose datagrams are missing.
use Rattle.std.proofs.Common.{◌≡◌, ◌≢◌, ◌⊎◌, ◌<◌, ◌≤◌, ◌+◌, ◌==◌, ℕ, suc, Bool, true, false, List, [], ◌∷◌, ◌++◌, length, Option, Some, None, Ok, subst, refl, sym, ◌∙◌, ap, inl, inr, arith, append_assoc, if◌then◌else◌}
use Rattle.std.specs.List.{AllByRecursion, flat_map}
use Rattle.std.proofs.lemmas.Bool.{eq-eqb, eqb-true}
use Rattle.std.proofs.lemmas.List.{append-nil, length-append}
use Rattle.wire_model.specs.Payload.{PayloadFields, BodyFields, Main, Body}
use Rattle.wire_model.specs.Datagram.{Datagram}
use Rattle.codestream_model.specs.Values.{Head, Place}
use Rattle.codestream_model.specs.HeadLimits.{HasSamples}
use Rattle.codestream_model.specs.Areas.{step_of}
use Rattle.codestream_model.specs.MainHeader.{SpellsHead}
use Rattle.codestream_model.specs.MainHeaderReading.{head_of}
use Rattle.codestream_model.specs.PacketOrder.{packet_order, IsPacketOrder}
use Rattle.codestream_model.specs.Packet.{Content}
use Rattle.codestream_model.specs.Codestream.{joined}
use Rattle.codestream_model.proofs.TreeLemmas.{either}
use Rattle.codestream_model.proofs.HeaderReads.{header_is_read_one_way}
use Rattle.codestream_model.proofs.HeaderLimits.{header_has_components}
use Rattle.codestream_model.proofs.Orders.{packet_order_is_computed, packet_order_is_one}
use Rattle.codestream_model.proofs.StripLaws.{each_component_has_precincts}
use Rattle.stream_model.proofs.Bases.{not_true}
use Rattle.stream_model.specs.Stream.{Parts, ArePackets, ArePartsOf, Sent, IsMainPayload, Mark, IsResync, Carries}
use Rattle.stream_model.specs.Decoder.{Current, Decoder, run_of, found_packet, Settled, settle, settled, one_more, take_gap, take_header}
use Rattle.stream_model.specs.Receiver.{decoded}
use Rattle.stream_model.specs.RunLaws.{fed, handed, given_before, passing, current_of, releases_of, releases_in}
use Rattle.stream_model.proofs.CutStreams.{marks_placed}
use Rattle.stream_model.proofs.RunRules.{state, IsUnfinished, settle_waits}
use Rattle.stream_model.proofs.RunPlaces.{Here}
use Rattle.stream_model.proofs.RunStates.{test, At}
use Rattle.stream_model.proofs.RunSteps.{the_next, step_gap}
use Rattle.stream_model.proofs.RunHanded.{run_next, run_went, step_idle}
use Rattle.stream_model.proofs.RunBegun.{nothing_yet, step_begin}

-- a Body of what is sent
pub record IsBodyOf (s : Sent) (x : Datagram) : Type 0 where
  pub fields : BodyFields
  pub payload : x.payload ≡ Body fields
  pub stamp : s.stamp ≡ x.rtp.stamp
  pub marked : fields.ordb ≡ true → fields.pos < length x.codestream

-- one Body more, be it there or missing
step : (d0 : Decoder) (s : Sent) (main : ℕ) (there : ℕ → Bool) (i at : ℕ) (x : Datagram) (rest : List Datagram) (ps : List Place) (xs : List Content) (bs : List (List ℕ)) (got : List ℕ) (d : Decoder) (a : At d0 s main there i at (x ∷ rest) ps xs bs got d)
    (codestream : List ℕ) (parts : ArePartsOf s.parts codestream) → IsBodyOf s x → there main ≡ true → there (main + 1 + i) ≡ true → the_next d0 s main there i at x rest ps xs bs got d (Some x) a
step d0 s main there i at x rest ps xs bs got d a codestream parts b main_there here = elim a.run [
  | inl (alive, is) ↦ run_next d0 s main there i at x rest ps xs bs got d a main_there here alive (run_went d0 s main there i at x rest ps xs bs got d a codestream parts b.fields b.payload b.stamp b.marked is)
  | inr (dead, is) ↦ elim (either b.fields.ordb) [
    | inr o ↦ step_idle d0 s main there i at x rest ps xs bs got d a codestream parts b.fields b.payload b.stamp o dead is
    | inl o ↦ step_begin d0 s main there i at x rest ps xs bs got d a codestream parts b.fields b.payload b.stamp o (b.marked o) main_there here dead is
  ]
]

-- the decoder has this main header in force, and has counted what it had
pub record Holds (d0 : Decoder) (current : Option Current) (d : Decoder) : Type 0 where
  pub current_is : d.current ≡ current
  pub unsupported : d.unsupported ≡ d0.unsupported
  pub disagreed : d.disagreed ≡ d0.disagreed
  pub broken : d.broken ≡ d0.broken
  pub heads : d.heads ≡ d0.heads

-- so it is before each Body,
holds_at : (d0 : Decoder) (s : Sent) (main : ℕ) (there : ℕ → Bool) (i at : ℕ) (rest : List Datagram) (ps : List Place) (xs : List Content) (bs : List (List ℕ)) (got : List ℕ) (d : Decoder) → At d0 s main there i at rest ps xs bs got d → Holds d0 (Some (current_of s)) d
holds_at d0 s main there i at rest ps xs bs got d a =
    let P : Decoder → Type 0 = λ e. Holds d0 (Some (current_of s)) e in
    elim a.run [
      | inl t ↦ subst P (sym t.1) (record { current_is = refl; unsupported = refl; disagreed = refl; broken = refl; heads = refl })
      | inr t ↦ subst P (sym t.1) (record { current_is = refl; unsupported = refl; disagreed = refl; broken = refl; heads = refl })
    ]

-- and after the last Body nothing is left
nothing_left : (t : ℕ → Bool) (k : ℕ) (c : Parts) (at n : ℕ) (cur : Current) (ps : List Place) (xs : List Content) (bs : List (List ℕ)) (got : List ℕ) → Here c at ps xs bs got [] → [] ≡ passing t k (releases_of cur n ps xs bs)
nothing_left t k c at n cur [] xs bs got h = refl
nothing_left t k c at n cur (p ∷ ps) [] bs got h = refl
nothing_left t k c at n cur (p ∷ ps) (x ∷ xs) [] got h = absurd h.are
nothing_left t k c at n cur (p ∷ ps) (x ∷ xs) (b ∷ bs) got h = elim h.bytes [
  | inl none ↦ absurd (omega (arith, ap length none))
  | inr e ↦ absurd (omega (arith, h.unfinished, ap length e, length-append got [], length-append (b ++ joined bs) (255 ∷ 217 ∷ []), length-append b (joined bs)))
]

-- the Bodies of a codestream whose Main is there
pub bodies_fed : (d0 : Decoder) (s : Sent) (main : ℕ) (there : ℕ → Bool) (i at : ℕ) (rest : List Datagram) (ps : List Place) (xs : List Content) (bs : List (List ℕ)) (got : List ℕ) (d : Decoder) (a : At d0 s main there i at rest ps xs bs got d)
    (codestream : List ℕ) (parts : ArePartsOf s.parts codestream) → AllByRecursion (IsBodyOf s) rest → there main ≡ true
    → ((fed d (handed there (main + 1 + i) rest)).releases ≡ passing (test there main s) (length a.here.done) (releases_of (current_of s) d0.heads ps xs bs)) × Holds d0 (Some (current_of s)) (fed d (handed there (main + 1 + i) rest)).decoder
bodies_fed d0 s main there i at [] ps xs bs got d a codestream parts each main_there =
    (nothing_left (test there main s) (length a.here.done) s.parts at d0.heads (current_of s) ps xs bs got a.here, holds_at d0 s main there i at [] ps xs bs got d a)
bodies_fed d0 s main there i at (x ∷ rest) ps xs bs got d a codestream parts each main_there =
    let item : Option Datagram = if there (main + 1 + i) then Some x else None in
    let n : the_next d0 s main there i at x rest ps xs bs got d item a = elim (either (there (main + 1 + i))) [
      | inl t ↦
          let P : Bool → Type 0 = λ b. the_next d0 s main there i at x rest ps xs bs got d (if b then Some x else None) a in
          subst P (sym t) (step d0 s main there i at x rest ps xs bs got d a codestream parts each.0 main_there t)
      | inr t ↦
          let P : Bool → Type 0 = λ b. the_next d0 s main there i at x rest ps xs bs got d (if b then Some x else None) a in
          subst P (sym t) (step_gap d0 s main there i at x rest ps xs bs got d a codestream parts t)
    ] in
    let e : main + 1 + (i + 1) ≡ main + 1 + i + 1 = omega arith in
    let r = bodies_fed d0 s main there (i + 1) (at + length x.codestream) rest n.left n.more n.packets n.kept n.decoder n.known codestream parts each.1 main_there in
    let P : ℕ → Type 0 = λ m. ((fed n.decoder (handed there m rest)).releases ≡ passing (test there main s) (length n.known.here.done) (releases_of (current_of s) d0.heads n.left n.more n.packets)) × Holds d0 (Some (current_of s)) (fed n.decoder (handed there m rest)).decoder in
    let q = subst P e r in
    let f = n.feeds (handed there (main + 1 + i + 1) rest) in
    let H : Settled → Type 0 = λ y. Holds d0 (Some (current_of s)) y.decoder in (
      ap (λ (y : Settled). y.releases) f
          ∙ (ap (λ l. n.given ++ l) (q.0 ∙ ap (λ m. passing (test there main s) m (releases_of (current_of s) d0.heads n.left n.more n.packets)) n.count) ∙ sym n.passes),
      subst H (sym f) q.1,
    )

-- fed in two parts
pub fed-append : (d : Decoder) (xs ys : List (Option Datagram)) → fed d (xs ++ ys) ≡ given_before (fed d xs).releases (fed (fed d xs).decoder ys)
fed-append d [] ys = refl
fed-append d (Some x ∷ xs) ys =
    let r = settled (decoded d x x.payload) in
    ap (given_before r.releases) (fed-append r.decoder xs ys)
    ∙ ap (λ l. record { releases = l; decoder = (fed (fed r.decoder xs).decoder ys).decoder }) (sym (append_assoc r.releases (fed r.decoder xs).releases (fed (fed r.decoder xs).decoder ys).releases))
fed-append d (None ∷ xs) ys = fed-append (take_gap d) xs ys

-- handed on in two parts
pub handed-append : (there : ℕ → Bool) (at : ℕ) (xs ys : List Datagram) → handed there at (xs ++ ys) ≡ handed there at xs ++ handed there (at + length xs) ys
handed-append there at [] ys = ap (λ n. handed there n ys) (let e : at ≡ at + 0 = omega arith in e)
handed-append there at (x ∷ xs) ys =
    let e : at + 1 + length xs ≡ at + suc (length xs) = omega arith in
    ap (λ l. (if there at then Some x else None) ∷ l) (handed-append there (at + 1) xs ys ∙ ap (λ n. handed there (at + 1) xs ++ handed there n ys) e)

-- what is known of a codestream that is sent
pub record IsWhole (s : Sent) : Type 0 where
  pub codestream : List ℕ
  pub parts : ArePartsOf s.parts codestream
  pub carries : Carries s
  pub bodies : AllByRecursion (IsBodyOf s) s.bodies

-- it has a precinct
pub some_place : (h : Head) (head : List ℕ) (places : List Place) → SpellsHead h head → IsPacketOrder h places → 1 ≤ length places
some_place h head places is order =
    let c = header_has_components h head is in
    let some : 0 < length h.steps = omega (arith, c.some) in
    let samples : HasSamples h (step_of h 0) = c.samples 0 (record { x = 1; y = 1 }) some in
    let p : Place = record { c = 0; r = h.levels; k = 0 } in
    let there = (order.each p).1 (record { component = some; resolution = omega arith; number = each_component_has_precincts h 0 samples }) in
    omega (arith, there.1)

-- at the first packet nothing is there yet
first_waits : (n : ℕ) (d : Decoder) (c : Current) (ps : List Place) → 1 ≤ length ps → settle (suc n) (state d c (Some ps) [] None) ≡ record { releases = []; decoder = state d c (run_of ps) [] None }
unfolding found_packet
first_waits n d c [] some = absurd (omega arith)
first_waits n d c (p ∷ ps) some = settle_waits n (state d c (Some (p ∷ ps)) [] None) (state d c (Some (p ∷ ps)) [] None) refl

-- nothing of the first packet is there
none_yet : (h : Head) (ps : List Place) (xs : List Content) (bs : List (List ℕ)) → ArePackets h ps xs bs → IsUnfinished bs []
none_yet h [] [] [] a = refl
none_yet h [] [] (b ∷ bs) a = absurd a
none_yet h [] (x ∷ xs) bs a = absurd a
none_yet h (p ∷ ps) xs bs a = nothing_yet h p ps xs bs a

-- a Main is decoded by its header
main_by : (d : Decoder) (s : Sent) (h : PayloadFields) → IsMainPayload h → decoded d s.main h ≡ take_header d s.main.rtp.stamp s.main.codestream (head_of s.main.codestream)
main_by d s (Main h) is = refl
main_by d s (Body h) is = absurd is

-- a decoder that has taken one more main header
abbrev pub head_more : Decoder → Decoder
head_more d = record d { heads = one_more d.heads }

-- the Main begins the codestream
main_taken : (d : Decoder) (s : Sent) (w : IsWhole s) → settled (decoded d s.main s.main.payload) ≡ record { releases = []; decoder = state (head_more d) (current_of s) (run_of s.parts.places) [] None }
main_taken d s w =
    let c = s.parts in
    let order : packet_order c.head ≡ c.places = packet_order_is_one c.head (packet_order c.head) c.places (packet_order_is_computed c.head (header_has_components c.head c.header w.parts.is_head).steps) w.parts.order in
    let read : head_of s.main.codestream ≡ Ok c.head = ap head_of (w.carries.header ∙ sym (append-nil c.header)) ∙ header_is_read_one_way c.head c.header [] w.parts.is_head in
    let size : c.head.length ≡ length s.main.codestream = ap (λ (h : Head). h.length) w.parts.is_head.values ∙ sym (ap length w.carries.header) in
    let same : (c.head.length == length s.main.codestream) ≡ true = eq-eqb c.head.length (length s.main.codestream) size in
    let stamp : s.main.rtp.stamp ≡ s.stamp = w.carries.stamps.0 in
    let taken : decoded d s.main s.main.payload ≡ state (head_more d) (current_of s) (Some c.places) [] None =
    main_by d s s.main.payload w.carries.main ∙ (ap (take_header d s.main.rtp.stamp s.main.codestream) read ∙ (rw (same, order, stamp) refl ∙ ap (λ l. state (head_more d) (record (current_of s) { header = l }) (Some c.places) [] None) w.carries.header)) in
    ap settled taken ∙ first_waits 4 (head_more d) (current_of s) c.places (some_place c.head c.header c.places w.parts.is_head w.parts.order)

-- what is known before the first Body
first_at : (d : Decoder) (s : Sent) (main : ℕ) (there : ℕ → Bool) (w : IsWhole s) → there main ≡ true → (a : At d s main there 0 0 s.bodies s.parts.places s.parts.content s.parts.packets [] (state d (current_of s) (run_of s.parts.places) [] None)) × (length a.here.done ≡ 0)
first_at d s main there w main_there =
    let c = s.parts in
    let here : Here c 0 c.places c.content c.packets [] (flat_map (λ (x : Datagram). x.codestream) s.bodies) = record {
      before = [];
      said = [];
      done = [];
      places = refl;
      content = refl;
      packets = refl;
      many = refl;
      are = w.parts.are_packets;
      ended = omega arith;
      start = inr refl;
      unfinished = none_yet c.head c.places c.content c.packets w.parts.are_packets;
      bytes = inr (sym w.carries.bytes);
    } in
    let P : List Mark → Type 0 = λ l. AllByRecursion (IsResync c) l in (
      record {
        here = here;
        front = [];
        bodies = refl;
        count = refl;
        start = refl;
        earlier = [];
        low = tt;
        marks_are = marks_placed s.bodies;
        right = subst P (marks_placed s.bodies) w.carries.marks;
        run = inl ((record { at = main; precinct = 0 }, inl refl, omega arith, λ x low high. let e : x ≡ main = omega arith in ap there e ∙ main_there), refl);
      },
      refl,
    )

-- a codestream whose Main is there
pub with_main : (d : Decoder) (s : Sent) (main : ℕ) (there : ℕ → Bool) (w : IsWhole s) → there main ≡ true
    → ((fed d (Some s.main ∷ handed there (main + 1) s.bodies)).releases ≡ passing (test there main s) 0 (releases_in (one_more d.heads) s))
    × Holds (head_more d) (Some (current_of s)) (fed d (Some s.main ∷ handed there (main + 1) s.bodies)).decoder
with_main d s main there w main_there =
    let t = head_more d in
    let a = first_at t s main there w main_there in
    let e : main + 1 + 0 ≡ main + 1 = omega arith in
    let from = state t (current_of s) (run_of s.parts.places) [] None in
    let r = bodies_fed t s main there 0 0 s.bodies s.parts.places s.parts.content s.parts.packets [] from a.0 w.codestream w.parts w.bodies main_there in
    let P : ℕ → Type 0 = λ m. ((fed from (handed there m s.bodies)).releases ≡ passing (test there main s) (length a.0.here.done) (releases_in t.heads s)) × Holds t (Some (current_of s)) (fed from (handed there m s.bodies)).decoder in
    let q = subst P e r in
    let all : fed d (Some s.main ∷ handed there (main + 1) s.bodies) ≡ fed from (handed there (main + 1) s.bodies) = ap (λ (y : Settled). given_before y.releases (fed y.decoder (handed there (main + 1) s.bodies))) (main_taken d s w) in
    let H : Settled → Type 0 = λ y. Holds t (Some (current_of s)) y.decoder in
    (ap (λ (y : Settled). y.releases) all ∙ (q.0 ∙ ap (λ m. passing (test there main s) m (releases_in t.heads s)) a.1), subst H (sym all) q.1)

-- a decoder that waits without a run
abbrev pub idle : Decoder → Option Current → Decoder
idle d current = record d { current = current; run = None; bytes = []; mark = None }

-- another codestream's main header, or none
abbrev pub IsOther : Option Current → ℕ → Type 0
IsOther None stamp = Unit {0}
IsOther (Some c) stamp = c.stamp ≢ stamp

-- drops a Body
body_dropped : (d : Decoder) (current : Option Current) (s : Sent) (x : Datagram) → IsBodyOf s x → IsOther current s.stamp
    → (settled (decoded (idle d current) x x.payload) ≡ record { releases = []; decoder = idle d current }) ⊎ (settled (decoded (idle d current) x x.payload) ≡ record { releases = []; decoder = idle d None })
body_dropped d None s x b other = inl (ap (λ y. settled (decoded (idle d None) x y)) b.payload ∙ settle_waits 4 (idle d None) (idle d None) refl)
body_dropped d (Some c) s x b other =
    let no : (c.stamp == x.rtp.stamp) ≡ false = not_true (c.stamp == x.rtp.stamp) (λ t. other (eqb-true c.stamp x.rtp.stamp t ∙ sym b.stamp)) in
    let gone : decoded (idle d (Some c)) x (Body b.fields) ≡ idle d None = rw no refl in
    inr (ap (λ y. settled (decoded (idle d (Some c)) x y)) b.payload ∙ (ap settled gone ∙ settle_waits 4 (idle d None) (idle d None) refl))

-- so nothing is given of a codestream whose Main is missing
pub lost_bodies : (d : Decoder) (current : Option Current) (s : Sent) (there : ℕ → Bool) (at : ℕ) (rest : List Datagram) → AllByRecursion (IsBodyOf s) rest → IsOther current s.stamp
    → ((fed (idle d current) (handed there at rest)).releases ≡ []) × (((fed (idle d current) (handed there at rest)).decoder ≡ idle d current) ⊎ ((fed (idle d current) (handed there at rest)).decoder ≡ idle d None))
lost_bodies d current s there at [] each other = (refl, inl refl)
lost_bodies d current s there at (x ∷ rest) each other =
    let items = handed there (at + 1) rest in
    let R : Settled → Type 0 = λ y. (y.releases ≡ []) × ((y.decoder ≡ idle d current) ⊎ (y.decoder ≡ idle d None)) in
    let P : Bool → Type 0 = λ b. R (fed (idle d current) ((if b then Some x else None) ∷ items)) in
    elim (either (there at)) [
      | inr t ↦ subst P (sym t) (lost_bodies d current s there (at + 1) rest each.1 other)
      | inl t ↦ elim (body_dropped d current s x each.0 other) [
        | inl e ↦
            let f = ap (λ (y : Settled). given_before y.releases (fed y.decoder items)) e in
            subst P (sym t) (subst R (sym f) (lost_bodies d current s there (at + 1) rest each.1 other))
        | inr e ↦
            let f = ap (λ (y : Settled). given_before y.releases (fed y.decoder items)) e in
            let r = lost_bodies d None s there (at + 1) rest each.1 tt in
            let n : R (fed (idle d None) items) = (r.0, elim r.1 [ inl u ↦ inr u | inr u ↦ inr u ]) in
            subst P (sym t) (subst R (sym f) n)
      ]
    ]
