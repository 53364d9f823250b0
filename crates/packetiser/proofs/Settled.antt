-- Where nothing is left to be put in and the bytes in hand fix no further item, a sender has given all that they fix.
use Rattle.std.proofs.Common.{◌≡◌, ◌⊎◌, ◌<◌, ◌≤◌, ◌+◌, ℕ, List, [], ◌∷◌, ◌++◌, map, length, refl, sym, subst, ap, ◌∙◌, inl, inr, arith, append_assoc}
use Rattle.std.specs.List.{AllByRecursion}
use Rattle.std.proofs.lemmas.List.{append-nil, length-append, length-map}
use Rattle.wire_model.specs.Datagram.{Datagram}
use Rattle.codestream_model.specs.Bytes.{IsBytes}
use Rattle.codestream_model.specs.Codestream.{Cut, Faults, IsInput}
use Rattle.stream_model.specs.Stream.{Parts}
use Rattle.stream_model.specs.Commands.{counted}
use Rattle.stream_model.specs.Cut.{Plan, IsPlan, Known, room, known_of, datagrams_by, datagram_bytes}
use Rattle.sender_model.specs.Closing.{due_by, closed}
use Rattle.sender_model.specs.Refusals.{HasNoLongHeader, HasFewDatagrams}
use Rattle.sender_model.specs.Lead.{carried_bytes, LeavesOpen}
use Rattle.sender_model.proofs.Refused.{Fits, FitsKnown, all_sent, all_counted, none_is_long, next_is_short}
use Rattle.sender_model.proofs.Ahead.{reads_little_ahead}
use Rattle.scl_outside.specs.Effects.{Effects}
use Rattle.codestream_walk.specs.InHand.{input_limit}
use Rattle.codestream_walk.specs.Walking.{Stage, AtStart, AtNext, InBody, AtEnd, Walking, fed, reach, Wants}
use Rattle.codestream_walk.specs.Reading.{Waits}
use Rattle.codestream_walk.specs.Inputs.{WereGiven}
use Rattle.codestream_walk.proofs.Bytes.{bytes_join}
use Rattle.codestream_walk.proofs.Refusals.{end_is_input, end_is_cut}
use Rattle.packetiser.specs.Filled.{part}
use Rattle.packetiser.specs.Packing.{Packing}
use Rattle.packetiser.specs.Sending.{IsPutIn, HasRead, Sender, AreAll, Asks}
use Rattle.packetiser.proofs.CodestreamsGrow.{AreThere}
use Rattle.packetiser.proofs.Closing.{IsStill, knows_given, there_in_hand}
use Rattle.packetiser.proofs.Due.{due_is, all_closed}
use Rattle.packetiser.proofs.Passing.{knows_fed}

-- all that is known is sent
pub all_known : (v : Packing) (parts : List Parts) (known : List Known) (sent : List Datagram) → IsPutIn v parts known sent → v.rest ≡ [] → sent ≡ datagrams_by v.plan (map known_of parts ++ known)
all_known v parts known sent (inl b) e = b.sent_is ∙ ap (datagrams_by v.plan) (sym (ap (λ l. map known_of parts ++ l) b.none ∙ append-nil (map known_of parts)))
all_known v parts known sent (inr (inl b)) e = b.sent_is
all_known v parts known sent (inr (inr (inl b))) e =
    let bytes : b.last.bytes ≡ b.last.bytes ++ v.rest = sym (ap (λ (l : List ℕ). b.last.bytes ++ l) e ∙ append-nil b.last.bytes) in
    b.sent_is ∙ ap (λ l. datagrams_by v.plan (map known_of parts ++ l)) (ap (λ (l : List ℕ). part b.head b.header (b.front ++ record { place = b.last.place; bytes = l } ∷ []) ∷ []) bytes ∙ sym b.known_is)
all_known v parts known sent (inr (inr (inr b))) e = elim b.which [
  | inl w ↦ absurd (omega (arith, ap length e, ap length w.0))
  | inr w ↦ absurd (omega (arith, ap length e, ap length w.0))
]

-- all bytes that were read count
pub all_read : (p : Plan) (read : List ℕ) (w : Walking) (consumed : List ℕ) (parts : List Parts) (known : List Known) (bytes : List ℕ) → HasRead p read w consumed parts known → reach (fed w bytes) ≤ input_limit → counted (read ++ bytes) ≡ read ++ bytes
all_read p read w consumed parts known bytes r within =
    all_counted (read ++ bytes) (omega (arith, within, r.knows.offset, ap length r.whole, length-append consumed w.hand, length-append read bytes, length-append w.hand bytes))

-- the bytes that were read
pub read_is : (p : Plan) (read : List ℕ) (w : Walking) (consumed : List ℕ) (parts : List Parts) (known : List Known) (bytes : List ℕ) → HasRead p read w consumed parts known → read ++ bytes ≡ consumed ++ (w.hand ++ bytes)
read_is p read w consumed parts known bytes r = ap (λ (l : List ℕ). l ++ bytes) r.whole ∙ append_assoc consumed w.hand bytes

-- main headers that fit
pub fit_parts : (p : Plan) (parts : List Parts) (known : List Known) → AllByRecursion (FitsKnown p) (map known_of parts ++ known) → AllByRecursion (Fits p) parts
fit_parts p [] known a = tt
fit_parts p (c ∷ parts) known a = (a.0, fit_parts p parts known a.1)

pub fit_known : (p : Plan) (parts : List Parts) (known : List Known) → AllByRecursion (FitsKnown p) (map known_of parts ++ known) → AllByRecursion (FitsKnown p) known
fit_known p [] known a = a
fit_known p (c ∷ parts) known a = fit_known p parts known a.1

-- so no main header of the bytes is too long
pub fits_next : (p : Plan) (bytes : List ℕ) (parts : List Parts) (known : List Known) (a : AreThere bytes parts known) → AllByRecursion (FitsKnown p) (map known_of parts ++ known) → HasNoLongHeader p bytes
fits_next p bytes parts known a fit =
    let K : List Known → Type 0 = λ l. AllByRecursion (FitsKnown p) l in
    none_is_long p bytes (record {
      parts = parts;
      codestreams = a.codestreams;
      rest = a.rest;
      whole = a.whole;
      are = a.are_parts;
      fit = fit_parts p parts known fit;
      closed = elim a.is_next [
        | inl t ↦ inl t.0
        | inr t ↦ elim t.2 [
          | inl u ↦ inr (t.1, next_is_short p a.rest u.0 u.1 (subst K u.2 (fit_known p parts known fit)).0)
          | inr u ↦ inr (t.1, λ h header more s long e. u.0 h header more s e)
        ]
      ];
    })

-- The datagrams given are all that bytes fix, and the sender refuses nothing of them.
pub record Settled (p : Plan) (bytes : List ℕ) (given : List (List ℕ)) : Type 0 where
  pub all : AreAll p bytes given
  pub few : HasFewDatagrams p (counted bytes)
  pub fit : HasNoLongHeader p (counted bytes)

-- a plan has room
pub some_room : (p : Plan) → IsPlan p → 1 ≤ room p
some_room p plan = omega (arith, plan.least_mtu)

pub settled : (p : Plan) (read bytes : List ℕ) (given : List (List ℕ)) (v : Packing) (s : Sender p read given v) → v.rest ≡ [] → IsBytes bytes → reach (fed v.seen.walk bytes) ≤ input_limit
    → IsStill v.seen.walk.stage v.seen.walk.codestreams (v.seen.walk.hand ++ bytes) → Settled p (read ++ bytes) given
settled p read bytes given v s none are within still =
    let r = s.has_read in
    let ks = map known_of s.parts ++ s.known in
    let whole = read_is p read v.seen.walk s.consumed s.parts s.known bytes r in
    let all = all_read p read v.seen.walk s.consumed s.parts s.known bytes r within in
    let A : List ℕ → Type 0 = λ l. AreThere l s.parts s.known in
    let there : AreThere (read ++ bytes) s.parts s.known = subst A (sym whole) (there_in_hand s.consumed v.seen.walk s.parts s.known (v.seen.walk.hand ++ bytes) r.knows still) in
    let sent : datagrams_by p ks ≡ s.sent = sym (all_known v s.parts s.known s.sent s.put_in none ∙ ap (λ q. datagrams_by q ks) s.plan) in
    let due : due_by p (read ++ bytes) ≡ s.sent = due_is p (read ++ bytes) s.parts s.known (some_room p r.is_plan) (bytes_join read bytes r.are_bytes are) there ∙ (ap (datagrams_by p) (all_sent p ks r.fit) ∙ sent) in
    let few : length s.sent ≤ 8388607 = omega (arith, s.few, ap length s.given_is, length-map s.sent datagram_bytes) in
    let F : List ℕ → Type 0 = λ l. HasFewDatagrams p l in
    let L : List ℕ → Type 0 = λ l. HasNoLongHeader p l in
    record {
      all = s.given_is ∙ (sym (all_closed p (read ++ bytes) s.sent due few) ∙ ap (closed p) (sym all));
      few = subst F (sym all) (let n : length (due_by p (read ++ bytes)) ≤ 8388607 = omega (arith, few, ap length due) in n);
      fit = subst L (sym all) (fits_next p (read ++ bytes) s.parts s.known there r.fit);
    }

-- whether a codestream may begin and nothing is in hand
between_or : (stage : Stage) (hand : List ℕ) → ((stage ≡ AtStart) × (hand ≡ [])) ⊎ ((stage ≡ AtStart) × (hand ≡ []) → ⊥)
between_or AtStart [] = inl (refl, refl)
between_or AtStart (b ∷ hand) = inr (λ t. let e = t.1 in let c : ⊥ = omega (arith, ap length e) in c)
between_or (AtNext h later size) hand = inr (λ t. let e = t.0 in let c : ⊥ = cc in c)
between_or (InBody h p blocks later size left) hand = inr (λ t. let e = t.0 in let c : ⊥ = cc in c)
between_or AtEnd hand = inr (λ t. let e = t.0 in let c : ⊥ = cc in c)

-- where more is wanted the input is left open
unfinished_by : (consumed : List ℕ) (w : Walking) → WereGiven consumed w → reach w ≤ input_limit → Wants w → ((codestreams : List (List ℕ)) × IsInput (consumed ++ w.hand) codestreams) ⊎ Faults (consumed ++ w.hand) (reach w) Cut
unfinished_by consumed w g within wants = elim (between_or w.stage w.hand) [
  | inl b ↦ inl (end_is_input consumed w g within b)
  | inr b ↦ inr (end_is_cut consumed w g within wants b)
]

-- the lead in numbers
lead_by : (read carried given space : ℕ) → read < carried + space + 65537 → carried ≡ given → space ≤ 4096 → read ≤ given + 90000
lead_by read carried given space a b c = omega (arith, a, b, c)

room_small : (p : Plan) → IsPlan p → room p ≤ 4096
room_small p plan = omega (arith, plan.greatest_mtu)

-- before each read
pub asks_here : (p : Plan) (read : List ℕ) (given : List (List ℕ)) (v : Packing) (s : Sender p read given v) → v.rest ≡ [] → (f : Effects) → Waits v.seen.walk f → Asks p read given f
asks_here p read given v s none f k =
    let r = s.has_read in
    let w = v.seen.walk in
    let bytes = f.read in
    let t = settled p read bytes given v s none k.are_bytes k.within (inl k.wants) in
    let whole = read_is p read w s.consumed s.parts s.known bytes r in
    let g = knows_given s.consumed (fed w bytes) s.parts s.known (knows_fed s.consumed w s.parts s.known bytes r.knows) in
    let U : List ℕ → Type 0 = λ l. ((codestreams : List (List ℕ)) × IsInput l codestreams) ⊎ Faults l (length l) Cut in
    let N : ℕ → Type 0 = λ n. ((codestreams : List (List ℕ)) × IsInput (s.consumed ++ (w.hand ++ bytes)) codestreams) ⊎ Faults (s.consumed ++ (w.hand ++ bytes)) n Cut in
    let size : reach (fed w bytes) ≡ length (s.consumed ++ (w.hand ++ bytes)) = omega (arith, r.knows.offset, length-append s.consumed (w.hand ++ bytes)) in
    let opens : LeavesOpen p (read ++ bytes) = record {
      unfinished = subst U (sym whole) (subst N size (unfinished_by s.consumed (fed w bytes) g k.within k.wants));
      fit = t.fit;
      few = t.few;
    } in
    let lead = reads_little_ahead p (read ++ bytes) r.is_plan (bytes_join read bytes r.are_bytes k.are_bytes) opens in
    record {
      reads = k.reads;
      are_bytes = bytes_join read bytes r.are_bytes k.are_bytes;
      all = t.all;
      leaves_open = opens;
      leads = lead_by (length (read ++ bytes)) (carried_bytes (closed p (counted (read ++ bytes)))) (carried_bytes given) (room p) lead (ap carried_bytes (sym t.all)) (room_small p r.is_plan);
    }
