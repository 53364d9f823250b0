-- What the reader gives, as a move of a sender.
use Rattle.std.proofs.Common.{◌≡◌, ◌⊎◌, ◌≤◌, ◌+◌, ℕ, true, false, Bool, List, [], ◌∷◌, ◌++◌, length, Some, None, refl, sym, subst, ap, ◌∙◌, inl, inr, arith}
use Rattle.std.specs.Prelude.{◌&&◌, ◌==◌, not, nat_lt}
use Rattle.std.proofs.lemmas.Bool.Decides.{nat_tests}
use Rattle.std.proofs.lemmas.List.{length-append}
use Rattle.wire_model.specs.Datagram.{Datagram}
use Rattle.codestream_model.specs.Values.{Head, Place}
use Rattle.codestream_model.specs.Bytes.{IsBytes}
use Rattle.codestream_model.specs.Packet.{Content}
use Rattle.stream_model.specs.Stream.{Parts, ArePackets}
use Rattle.stream_model.specs.Cut.{Plan, Piece, Known, room, pieces_of}
use Rattle.stream_model.proofs.RunStream.{some_place}
use Rattle.scl_outside.specs.Effects.{Effects}
use Rattle.codestream_walk.specs.InHand.{input_limit}
use Rattle.codestream_walk.specs.Walking.{Stage, AtNext, Seen, fed, reach, GivesHead, GivesStart}
use Rattle.codestream_walk.specs.Reading.{Fixes}
use Rattle.codestream_walk.specs.declared.fault.PieceOut.TheVariants as piece
use Rattle.packetiser.specs.Filling.{Filling}
use Rattle.packetiser.specs.Filled.{part}
use Rattle.packetiser.specs.Knowing.{IsKnown, Knows}
use Rattle.packetiser.specs.Packing.{Packing, taken, begun, ends_before, after_closing, closing_body, after_main, main_of, Starts}
use Rattle.packetiser.specs.declared.packetiser.PackOut.{PackOut}
use Rattle.packetiser.specs.Sending.{IsBetween, IsBegun, IsInPackets, IsAtEoc, IsPutIn, HasRead, Sender}
use Rattle.packetiser.proofs.Growing.{knows_head, knows_start, knows_more, knows_eoc}
use Rattle.packetiser.proofs.Passing.{Passes, read_further, knows_fed, head_passes, start_passes, more_passes, eoc_passes}
use Rattle.packetiser.proofs.Takes.{Taken, more_taken, first_taken, next_taken, split_taken, eoc_taken, head_taken}
use Rattle.packetiser.proofs.Settled.{some_room}
use Rattle.packetiser.proofs.Given.{IsDue}
use Rattle.packetiser.proofs.Moves.{Moved, closes_due, position_is}

-- a plan of a sender has room
sender_room : (p : Plan) (read : List ℕ) (given : List (List ℕ)) (u : Packing) → Sender p read given u → 1 ≤ room u.plan
sender_room p read given u s = let R : Plan → Type 0 = λ q. 1 ≤ room q in subst R (sym s.plan) (some_room p s.has_read.is_plan)

-- what is known with the bytes that were read in this step
pub known_fed : (p : Plan) (read : List ℕ) (given : List (List ℕ)) (u : Packing) (s : Sender p read given u) (bytes : List ℕ) → Knows s.consumed (fed u.seen.walk bytes) s.parts s.known
known_fed p read given u s bytes = knows_fed s.consumed u.seen.walk s.parts s.known bytes s.has_read.knows

-- a sender goes on with what the reader gave
goes_with : (p : Plan) (read : List ℕ) (given : List (List ℕ)) (u : Packing) (s : Sender p read given u) (bytes : List ℕ) (v : Seen) (x : Packing) (IsSo : Packing → List Parts → List Known → List Datagram → Type 0) → u.rest ≡ [] → IsBytes bytes → reach (fed u.seen.walk bytes) ≤ input_limit → Passes (fed u.seen.walk bytes) v
    → x.seen ≡ v → x.plan ≡ u.plan → x.live ≡ u.live → x.filling ≡ u.filling → x.rest ≡ v.given → x.given ≡ u.given → (t : Taken p s.consumed x s.sent IsSo) → IsPutIn x t.parts t.known s.sent → Sender p (read ++ bytes) given x
goes_with p read given u s bytes v x IsSo none are within passes seen plan live filling rest count t b =
    let K : Seen → Type 0 = λ y. Knows (s.consumed ++ y.given) y.walk t.parts t.known in
    let H : Seen → Type 0 = λ y. HasRead p (read ++ bytes) y.walk (s.consumed ++ v.given) t.parts t.known in
    record {
      consumed = s.consumed ++ v.given;
      parts = t.parts;
      known = t.known;
      sent = s.sent;
      plan = plan ∙ s.plan;
      has_read = subst H (sym seen) (read_further p read u.seen.walk s.consumed s.parts t.parts s.known t.known bytes v s.has_read are within passes (subst K seen t.knows) t.fit);
      live = live ∙ s.live;
      put_in = b;
      carried = omega (arith, s.carried, ap length none, ap (λ (f : Filling). length f.payload) filling, ap length rest, length-append s.consumed v.given);
      given_is = s.given_is;
      count = count ∙ s.count;
      few = s.few;
    }

abbrev pieces_of_first : List Known → List Piece
pieces_of_first [] = []
pieces_of_first (c ∷ known) = c.pieces

-- more of a packet
pub more_moves : (p : Plan) (read : List ℕ) (given : List (List ℕ)) (u : Packing) (v : Seen) (f : Effects) → Sender p read given u → u.rest ≡ [] → Fixes piece.More u.seen v f → Sender p (read ++ f.read) given (taken v u)
more_moves p read given u v f s none k = by_put_in s.put_in
  where
    known_is : (header : List ℕ) × (earlier : List Piece) × (bytes : List ℕ) × (s.known ≡ part k.gives.head header (earlier ++ record { place = k.gives.place; bytes = bytes } ∷ []) ∷ [])
    known_is = let g = knows_more s.consumed (fed u.seen.walk f.read) u.seen.head v s.parts s.known (known_fed p read given u s f.read) k.gives in (g.0, g.1, g.2, g.3)

    by_put_in : IsPutIn u s.parts s.known s.sent → Sender p (read ++ f.read) given (taken v u)
    by_put_in (inl b) = absurd (omega (arith, ap length b.none, ap length known_is.3))
    by_put_in (inr (inl b)) =
        let same : part b.head b.header [] ∷ [] ≡ part k.gives.head known_is.0 (known_is.1 ++ record { place = k.gives.place; bytes = known_is.2 } ∷ []) ∷ [] = sym b.known_is ∙ known_is.3 in
        absurd (omega (arith, ap length (ap pieces_of_first same), length-append known_is.1 (record { place = k.gives.place; bytes = known_is.2 } ∷ [])))
    by_put_in (inr (inr (inl b))) =
        let t = more_taken p s.consumed (fed u.seen.walk f.read) u s.parts s.known s.sent v (known_fed p read given u s f.read) s.has_read.fit none b k.gives in
        goes_with p read given u s f.read v (taken v u) IsInPackets none k.are_bytes k.within (more_passes (fed u.seen.walk f.read) u.seen.head v k.gives) refl refl refl refl refl refl t (inr (inr (inl t.is_so)))
    by_put_in (inr (inr (inr b))) = absurd (omega (arith, ap length b.none, ap length known_is.3))

-- the codestream of a packet
pub start_known : (p : Plan) (read : List ℕ) (given : List (List ℕ)) (u : Packing) (s : Sender p read given u) (v : Seen) (bytes : List ℕ) → (g : GivesStart (fed u.seen.walk bytes) u.seen.head v) → 1 ≤ length s.known
start_known p read given u s v bytes g = let k = knows_start s.consumed (fed u.seen.walk bytes) u.seen.head v s.parts s.known (known_fed p read given u s bytes) g in omega (arith, ap length k.2)

-- Where a packet's header is given, a codestream was begun: it has no packet yet, or some.
abbrev pub InCodestream : (u : Packing) → List Parts → List Known → List Datagram → Type 0
InCodestream u parts known sent = IsBegun u parts known sent ⊎ IsInPackets u parts known sent

pub in_codestream : (p : Plan) (read : List ℕ) (given : List (List ℕ)) (u : Packing) (s : Sender p read given u) → 1 ≤ length s.known → InCodestream u s.parts s.known s.sent
in_codestream p read given u s some = by_put_in s.put_in
  where
    by_put_in : IsPutIn u s.parts s.known s.sent → InCodestream u s.parts s.known s.sent
    by_put_in (inl b) = absurd (omega (arith, some, ap length b.none))
    by_put_in (inr (inl b)) = inl b
    by_put_in (inr (inr (inl b))) = inr b
    by_put_in (inr (inr (inr b))) = absurd (omega (arith, some, ap length b.none))

-- its main header is shown
in_head : (u : Packing) (parts : List Parts) (known : List Known) (sent : List Datagram) → InCodestream u parts known sent → (h : Head) × (u.seen.head ≡ Some h) × (u.levels ≡ h.levels)
in_head u parts known sent (inl b) = (b.head, b.shown, b.levels)
in_head u parts known sent (inr b) = (b.head, b.shown, b.levels)

-- an empty payload is never ended
empty_stays : (split same : Bool) (n : ℕ) → n ≡ 0 → (split && nat_lt 0 n && not same) ≡ false
empty_stays true same n e = (let t : nat_lt 0 n ≡ false = grind (arith, nat_tests) in ap (λ (x : Bool). x && not same) t)
empty_stays false same n e = refl

-- a packet begins, and the payload stays open
pub start_stays : (p : Plan) (read : List ℕ) (given : List (List ℕ)) (u : Packing) (v : Seen) (f : Effects) (h : Head) (x : Packing) → Sender p read given u → u.rest ≡ [] → Fixes piece.Start u.seen v f → v.head ≡ Some h → Starts h (taken v u) None x → Sender p (read ++ f.read) given x
start_stays p read given u v f h x s none k shown (stays, is) =
    let room_some = sender_room p read given u s in
    let w = fed u.seen.walk f.read in
    let knows = known_fed p read given u s f.read in
    let passes = start_passes w u.seen.head v k.gives in
    let y = begun h (taken v u) in
    let S : Packing → Type 0 = λ z. Sender p (read ++ f.read) given z in
    subst S (sym is) (elim (in_codestream p read given u s (start_known p read given u s v f.read k.gives)) [
      | inl b ↦
          let t = first_taken p s.consumed w u s.parts s.known s.sent v h room_some knows s.has_read.fit b k.gives passes.some shown in
          goes_with p read given u s f.read v y IsInPackets none k.are_bytes k.within passes refl refl refl refl refl refl t (inr (inr (inl t.is_so)))
      | inr b ↦
          let t = next_taken p s.consumed w u s.parts s.known s.sent v h room_some knows s.has_read.fit none b k.gives passes.some shown stays in
          goes_with p read given u s f.read v y IsInPackets none k.are_bytes k.within passes refl refl refl refl refl refl t (inr (inr (inl t.is_so)))
    ])

-- or is closed before it
pub start_closes : (p : Plan) (read : List ℕ) (given : List (List ℕ)) (u : Packing) (v : Seen) (f : Effects) (h : Head) (answer : PackOut) (x : Packing) → Sender p read given u → u.rest ≡ [] → Fixes piece.Start u.seen v f → v.head ≡ Some h → Starts h (taken v u) (Some answer) x → Moved p (read ++ f.read) given answer x
start_closes p read given u v f h answer x s none k shown (ends, closes) = elim (in_codestream p read given u s (start_known p read given u s v f.read k.gives)) [
  | inl b ↦
      let stays : ends_before (taken v u) ≡ false = empty_stays u.plan.split (u.resolution == v.place.r) (length u.filling.payload) (ap (λ (y : Filling). length y.payload) b.is_empty) in
      let c : true ≡ false = sym ends ∙ stays in absurd (cc)
  | inr b ↦
      let w = fed u.seen.walk f.read in
      let y = begun h (taken v u) in
      let passes = start_passes w u.seen.head v k.gives in
      let t = split_taken p s.consumed w u s.parts s.known s.sent v h (sender_room p read given u s) (known_fed p read given u s f.read) s.has_read.fit none b k.gives passes.some shown ends (position_is p read given u s) in
      let e : IsDue p (read ++ f.read) given (after_closing false y) (closing_body false y) = record {
        consumed = s.consumed ++ v.given;
        parts = t.parts;
        known = t.known;
        sent = s.sent;
        plan = s.plan;
        has_read = read_further p read u.seen.walk s.consumed s.parts t.parts s.known t.known f.read v s.has_read k.are_bytes k.within passes t.knows t.fit;
        live = s.live;
        put_in = inr (inr (inl t.is_so));
        carried = omega (arith, s.carried, ap length none, length-append s.consumed v.given);
        shown = refl;
        given_is = s.given_is;
        count = ap (λ (n : ℕ). n + 1) s.count;
        few = s.few;
      } in
      closes_due p (read ++ f.read) given false y answer x e (omega (arith, s.carried, passes.offset, ap length none, s.has_read.knows.offset)) s.count closes
]

-- packets of no piece are none
no_pieces : (h : Head) (places : List Place) (content : List Content) (packets : List (List ℕ)) → ArePackets h places content packets → pieces_of places packets ≡ [] → length places ≡ 0
no_pieces h [] content packets a e = refl
no_pieces h (p ∷ places) (x ∷ content) (b ∷ packets) a e = absurd (omega (arith, ap length e))
no_pieces h (p ∷ places) [] packets a e = absurd a
no_pieces h (p ∷ places) (x ∷ content) [] a e = absurd a

-- EOC doesn't follow a main header: there is a packet
head_alone : (h : Head) (size : ℕ) (front : List ℕ) (known : List Known) (head : Head) (header : List ℕ) → IsKnown (AtNext h [] size) front known → known ≡ part head header [] ∷ [] → ⊥
head_alone h size front known head header (own, pieces, e, b, is) k =
    let same : part h own pieces ∷ [] ≡ part head header [] ∷ [] = sym is ∙ k in
    let none : pieces_of b.before b.packets ≡ [] = sym b.are_pieces ∙ ap pieces_of_first same in
    omega (arith, some_place h own (b.before ++ []) b.is_head b.order, length-append b.before [], no_pieces h b.before b.content b.packets b.are_packets none)

no_packets : (p : Plan) (read : List ℕ) (given : List (List ℕ)) (u : Packing) (s : Sender p read given u) → IsBegun u s.parts s.known s.sent → ((h : Head) × (size : ℕ) × (u.seen.walk.stage ≡ AtNext h [] size)) → ⊥
no_packets p read given u s b (h, size, e) =
    let k = s.has_read.knows in
    let P : Stage → Type 0 = λ x. IsKnown x k.front s.known in
    head_alone h size k.front s.known b.head b.header (subst P e k.is_known) b.known_is

-- EOC was read
pub eoc_moves : (p : Plan) (read : List ℕ) (given : List (List ℕ)) (u : Packing) (v : Seen) (f : Effects) → Sender p read given u → u.rest ≡ [] → Fixes piece.FrameEnd u.seen v f → Sender p (read ++ f.read) given (record (taken v u) { eoc = true })
eoc_moves p read given u v f s none k =
    let w = fed u.seen.walk f.read in
    let knows = known_fed p read given u s f.read in
    let g = knows_eoc s.consumed w u.seen.head v s.parts s.known knows k.gives in
    elim (in_codestream p read given u s (omega (arith, ap length g.3))) [
      | inl b ↦ absurd (no_packets p read given u s b (k.gives.head, k.gives.size, k.gives.stage))
      | inr b ↦
          let t = eoc_taken p s.consumed w u s.parts s.known s.sent v knows s.has_read.fit none b k.gives in
          goes_with p read given u s f.read v (record (taken v u) { eoc = true }) IsAtEoc none k.are_bytes k.within (eoc_passes w u.seen.head v k.gives) refl refl refl refl refl refl t (inr (inr (inr t.is_so)))
    ]

-- Where a main header is given, all that was read before it is sent.
between : (p : Plan) (read : List ℕ) (given : List (List ℕ)) (u : Packing) (s : Sender p read given u) → u.rest ≡ [] → s.known ≡ [] → IsBetween u s.parts s.known s.sent
between p read given u s none e = by_put_in s.put_in
  where
    by_put_in : IsPutIn u s.parts s.known s.sent → IsBetween u s.parts s.known s.sent
    by_put_in (inl b) = b
    by_put_in (inr (inl b)) = absurd (omega (arith, ap length e, ap length b.known_is))
    by_put_in (inr (inr (inl b))) = absurd (omega (arith, ap length e, ap length b.known_is))
    by_put_in (inr (inr (inr b))) = elim b.which [
      | inl w ↦ absurd (omega (arith, ap length none, ap length w.0))
      | inr w ↦ absurd (omega (arith, ap length none, ap length w.0))
    ]

pub head_between : (p : Plan) (read : List ℕ) (given : List (List ℕ)) (u : Packing) (s : Sender p read given u) (v : Seen) (bytes : List ℕ) → u.rest ≡ [] → GivesHead (fed u.seen.walk bytes) v → IsBetween u s.parts s.known s.sent
head_between p read given u s v bytes none g = between p read given u s none (knows_head s.consumed (fed u.seen.walk bytes) v s.parts s.known (known_fed p read given u s bytes) g).0

-- a main header that fits: its Main is due
pub main_due : (p : Plan) (read : List ℕ) (given : List (List ℕ)) (u : Packing) (v : Seen) (f : Effects) (h : Head) (s : Sender p read given u) → u.rest ≡ [] → Fixes piece.Head u.seen v f → v.head ≡ Some h → length v.given ≤ room u.plan
    → IsDue p (read ++ f.read) given (after_main h (taken v u)) (main_of h (taken v u))
main_due p read given u v f h s none k shown fits =
    let w = fed u.seen.walk f.read in
    let b = head_between p read given u s v f.read none k.gives in
    let R : Plan → Type 0 = λ q. length v.given ≤ room q in
    let t = head_taken p s.consumed w u s.parts s.known s.sent v h (known_fed p read given u s f.read) s.has_read.fit b k.gives shown (subst R s.plan fits) (position_is p read given u s) in
    record {
      consumed = s.consumed ++ v.given;
      parts = t.parts;
      known = t.known;
      sent = s.sent;
      plan = s.plan;
      has_read = read_further p read u.seen.walk s.consumed s.parts t.parts s.known t.known f.read v s.has_read k.are_bytes k.within (head_passes w v k.gives) t.knows t.fit;
      live = s.live;
      put_in = inr (inl t.is_so);
      carried = omega (arith, s.carried, ap length none, length-append s.consumed v.given);
      shown = refl;
      given_is = s.given_is;
      count = ap (λ (n : ℕ). n + 1) s.count;
      few = s.few;
    }
