-- What a step of a sender promises, in the words of the cut.
use Rattle.std.specs.Prelude.{◌≡◌, ◌⊎◌, ◌≤◌, ◌+◌, ◌++◌, ℕ, Bool, true, false, List, [], ◌∷◌, map, length, Some}
use Rattle.std.specs.List.{AllByRecursion, sum_by}
use Rattle.wire_model.specs.Datagram.{Datagram}
use Rattle.codestream_model.specs.Values.{Head}
use Rattle.codestream_model.specs.Bytes.{IsBytes}
use Rattle.stream_model.specs.Stream.{Parts}
use Rattle.stream_model.specs.Commands.{counted}
use Rattle.stream_model.specs.Cut.{Plan, IsPlan, Piece, Known, room, known_of, stamp_at, datagrams_by, datagram_bytes}
use Rattle.sender_model.specs.Closing.{closed}
use Rattle.sender_model.specs.Refusals.{SenderRefusal, InputRefused, SenderRefuses, SenderAccepts}
use Rattle.sender_model.specs.Refusals as refusal
use Rattle.sender_model.specs.Lead.{carried_bytes, LeavesOpen}
use Rattle.scl_outside.specs.Meaning.{Meaning}
use Rattle.scl_outside.specs.Events.{Event}
use Rattle.scl_outside.specs.Effects.{Effects, nothing, only_read, read_to_end, read_until_failed, effects}
use Rattle.scl_outside.specs.Traces.{Trace, AtReads}
use Rattle.codestream_walk.specs.InHand.{input_limit}
use Rattle.codestream_walk.specs.Faults.{walk_refusal}
use Rattle.codestream_walk.specs.Walking.{Walking, is_live, reach}
use Rattle.codestream_walk.specs.declared.fault.WalkWhy.TheVariants as reason
use Rattle.packetiser.specs.Filling.{Filling, empty, put_eoc, body_of}
use Rattle.packetiser.specs.Filled.{part, whole, longer, Fills, IsFresh}
use Rattle.packetiser.specs.Knowing.{Knows}
use Rattle.packetiser.specs.Packing.{Packing}
use Rattle.packetiser.specs.declared.packetiser.PackOut.{PackOut}
use Rattle.packetiser.specs.declared.packetiser.PackOut.TheVariants as out

-- A codestream may begin, and all that was read is sent.
pub record IsBetween (v : Packing) (parts : List Parts) (known : List Known) (sent : List Datagram) : Type 0 where
  pub none : known ≡ []
  pub nothing_left : v.rest ≡ []
  pub is_empty : v.filling ≡ empty
  pub not_eoc : v.eoc ≡ false
  pub stamp : v.stamp ≡ stamp_at v.plan (length parts)
  pub sent_is : sent ≡ datagrams_by v.plan (map known_of parts)

-- Of a codestream the Main is sent, and no packet was begun.
pub record IsBegun (v : Packing) (parts : List Parts) (known : List Known) (sent : List Datagram) : Type 0 where
  pub head : Head
  pub header : List ℕ
  pub known_is : known ≡ part head header [] ∷ []
  pub shown : v.seen.head ≡ Some head
  pub levels : v.levels ≡ head.levels
  pub nothing_left : v.rest ≡ []
  pub is_empty : v.filling ≡ empty
  pub not_eoc : v.eoc ≡ false
  pub stamp : v.stamp ≡ stamp_at v.plan (length parts)
  pub sent_is : sent ≡ datagrams_by v.plan (map known_of parts ++ known)

-- Of a codestream some packets were begun; `rest` are the last bytes read of the last one, which aren't put in.
pub record IsInPackets (v : Packing) (parts : List Parts) (known : List Known) (sent : List Datagram) : Type 0 where
  pub head : Head
  pub header : List ℕ
  pub front : List Piece
  pub last : Piece
  pub known_is : known ≡ part head header (front ++ longer last v.rest ∷ []) ∷ []
  pub shown : v.seen.head ≡ Some head
  pub levels : v.levels ≡ head.levels
  pub fills : Fills v.plan head header front last v.filling
  pub fresh : IsFresh v.begins head last
  pub some : 1 ≤ length last.bytes + length v.rest
  pub resolution : v.resolution ≡ last.place.r
  pub not_eoc : v.eoc ≡ false
  pub stamp : v.stamp ≡ stamp_at v.plan (length parts)
  pub sent_is :
      sent ≡ datagrams_by v.plan (map known_of parts ++ part head header (front ++ last ∷ []) ∷ [])

-- Of a codestream EOC was read, and none of it is put in; or its first byte filled a payload, and the second is left.
abbrev pub IsOfEoc : Packing → List Known → ℕ → Filling → List Datagram → Known → Type 0
IsOfEoc v before levels filling sent k =
    ((v.rest ≡ 255 ∷ 217 ∷ []) × (v.filling ≡ filling) × (sent ≡ datagrams_by v.plan (before ++ k ∷ [])))
    ⊎ ((v.rest ≡ 217 ∷ []) × (v.filling ≡ empty) × (length filling.payload + 1 ≡ room v.plan)
    × (sent
    ≡ datagrams_by v.plan (before ++ k ∷ [])
    ++ body_of v.plan levels v.stamp (length (datagrams_by v.plan (before ++ k ∷ []))) false (put_eoc (255 ∷ []) filling)
    ∷ []))

-- The last codestream of `parts` is whole, and its EOC isn't sent.
pub record IsAtEoc (v : Packing) (parts : List Parts) (known : List Known) (sent : List Datagram) : Type 0 where
  pub before : List Parts
  pub now : Parts
  pub head : Head
  pub header : List ℕ
  pub front : List Piece
  pub last : Piece
  pub filling : Filling
  pub parts_are : parts ≡ before ++ now ∷ []
  pub none : known ≡ []
  pub now_is : known_of now ≡ whole head header (front ++ last ∷ [])
  pub levels : v.levels ≡ head.levels
  pub fills : Fills v.plan head header front last filling
  pub some : 1 ≤ length last.bytes
  pub is_eoc : v.eoc ≡ true
  pub stamp : v.stamp ≡ stamp_at v.plan (length before)
  pub which : IsOfEoc v (map known_of before) v.levels filling sent (part head header (front ++ last ∷ []))

-- How far the bytes that were read are put in.
abbrev pub IsPutIn : Packing → List Parts → List Known → List Datagram → Type 0
IsPutIn v parts known sent =
    IsBetween v parts known sent
    ⊎ (IsBegun v parts known sent ⊎ (IsInPackets v parts known sent ⊎ IsAtEoc v parts known sent))

-- The reader of a sender has read these bytes, gave `consumed` of them, and this is known of their codestreams.
pub record HasRead
    (p : Plan) (read : List ℕ) (w : Walking) (consumed : List ℕ) (parts : List Parts) (known : List Known)
    : Type 0 where
  pub is_plan : IsPlan p
  pub whole : read ≡ consumed ++ w.hand
  pub are_bytes : IsBytes read
  pub within : reach w ≤ input_limit
  pub knows : Knows consumed w parts known
  pub live : is_live w.stage ≡ true
  pub fit : AllByRecursion (λ c. length c.header ≤ room p) (map known_of parts ++ known)

-- A sender has read these bytes and given these datagrams. Nothing rests on what this says: a new sender is so, each
-- datagram keeps it, and what the other answers promise doesn't speak of it.
pub record Sender (p : Plan) (read : List ℕ) (given : List (List ℕ)) (v : Packing) : Type 0 where
  pub consumed : List ℕ
  pub parts : List Parts
  pub known : List Known
  pub sent : List Datagram
  pub plan : v.plan ≡ p
  pub has_read : HasRead p read v.seen.walk consumed parts known
  pub live : v.live ≡ true
  pub put_in : IsPutIn v parts known sent
  pub carried :
      sum_by (λ x. length x.codestream) sent + (length v.filling.payload + length v.rest) ≡ length consumed
  pub given_is : given ≡ map datagram_bytes sent
  pub count : v.given ≡ length given
  pub few : length given ≤ 8388607

-- A sender with some history.
abbrev pub IsSender : Packing → Type 0
IsSender v = (read : List ℕ) × (given : List (List ℕ)) × Sender v.plan read given v

-- These datagrams are all that the bytes read fix.
abbrev pub AreAll : Plan → List ℕ → List (List ℕ) → Type 0
AreAll p read given = given ≡ closed p (counted read)

-- Before each read: only reads were made, the datagrams given are all that the bytes read fix, a further byte may be
-- asked for, and at most 90,000 bytes are in no datagram.
pub record Asks (p : Plan) (read : List ℕ) (given : List (List ℕ)) (f : Effects) : Type 0 where
  pub reads : f ≡ only_read f.read
  pub are_bytes : IsBytes (read ++ f.read)
  pub all : AreAll p (read ++ f.read) given
  pub leaves_open : LeavesOpen p (read ++ f.read)
  pub leads : length (read ++ f.read) ≤ carried_bytes given + 90000

-- The calls of a step did this, by its answer, and nothing else.
abbrev pub OnlyReads : PackOut → Effects → Type 0
OnlyReads out.ReadFault f = f ≡ read_until_failed f.read
OnlyReads out.End f = f ≡ read_to_end f.read
OnlyReads (out.Refused fault) f =
    ((fault.why ≡ reason.Cut) × (f ≡ read_to_end f.read))
    ⊎ ((fault.why ≡ reason.Cut → ⊥) × (f ≡ only_read f.read))
OnlyReads answer f = f ≡ only_read f.read

-- The answer is that the input is refused so.
abbrev pub RefusesAs : Plan → List ℕ → List (List ℕ) → ℕ → SenderRefusal → Type 0
RefusesAs p read given at why = SenderRefuses p read at why × AreAll p read given

-- What each answer says; `read` are all bytes that were read by its end, and `given` the datagrams given before it.
abbrev pub Answers : Plan → PackOut → List ℕ → List (List ℕ) → Packing → Type 0
Answers p out.Datagram read given v =
    Sender p read (given ++ v.shown ∷ []) v
    × ((more : List (List ℕ)) × (closed p (counted read) ≡ (given ++ v.shown ∷ []) ++ more))
Answers p out.End read given v =
    ((codestreams : List (List ℕ)) × SenderAccepts p read codestreams) × AreAll p read given
Answers p (out.Refused fault) read given v =
    RefusesAs p read given fault.at (InputRefused (walk_refusal fault.why))
Answers p (out.HeaderTooLong at) read given v = RefusesAs p read given at refusal.HeaderTooLong
Answers p (out.TooManyDatagrams at) read given v = RefusesAs p read given at refusal.TooManyDatagrams
Answers p out.ReadFault read given v = AreAll p read given

-- A step may be asked for after a datagram alone.
abbrev pub goes_on : PackOut → Bool
goes_on out.Datagram = true
goes_on answer = false

-- A step of a sender, whatever was read and given before it.
pub record Sends (u : Packing) (s t : Meaning) (answer : PackOut) (v : Packing) (es : List Event) : Type 0 where
  pub trace : Trace s es t
  pub only : OnlyReads answer (effects es)
  pub plan : v.plan ≡ u.plan
  pub live : v.live ≡ goes_on answer
  pub asks :
      (read : List ℕ) (given : List (List ℕ))
      → Sender u.plan read given u → AtReads (Asks u.plan read given) nothing es
  pub answers :
      (read : List ℕ) (given : List (List ℕ))
      → Sender u.plan read given u → Answers u.plan answer (read ++ (effects es).read) given v
  pub within :
      (read : List ℕ) (given : List (List ℕ))
      → Sender u.plan read given u → length (read ++ (effects es).read) ≤ input_limit + 1
