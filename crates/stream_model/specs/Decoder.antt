-- The rules of the decoder: how bytes that come in order become packets again, from a mark on. Codestreams that weren't
-- forged need none of these rules to be understood: they say what is made of forged ones too.
use Rattle.std.specs.Prelude.{◌+◌, ◌-◌, ◌^◌, ◌==◌, ◌&&◌, ◌++◌, ℕ, min, zero, suc, Bool, List, [], ◌∷◌, map, length, take, drop, nat_le, nat_lt, find, Option, Some, None, Result, Ok, Err, if◌then◌else◌}
use Rattle.codestream_model.specs.Values.{Head, Place, Block}
use Rattle.codestream_model.specs.MainHeaderReading.{head_of, Refused}
use Rattle.codestream_model.specs.Precincts.{grids}
use Rattle.codestream_model.specs.PacketOrder.{pid, packet_order}
use Rattle.codestream_model.specs.PacketHeaderReading.{HeaderReading, Done, Need, Bad}
use Rattle.codestream_model.specs.MarkedHeader.{marked_header_of}
use Rattle.codestream_model.specs.Packet.{block_count, segment_bytes}
use Rattle.wire_model.specs.Payload.{BodyFields}
use Rattle.stream_model.specs.Report.{Precinct}

-- The main header in force: the stamp of its picture, its values, its bytes, and its packet order.
pub record Current : Type 0 where
  pub stamp : ℕ
  pub head : Head
  pub header : List ℕ
  pub order : List Place

-- A mark: where in the bytes a packet starts, and of which precinct.
pub record Mark : Type 0 where
  pub at : ℕ
  pub place : Place

-- The state: the main header in force; whether there is a run, and then the precincts that are still to come in it; the bytes
-- from the place on where the run's next packet starts, or, with no run, the bytes of the last Body; a mark in these bytes;
-- the number of main headers that were taken; and what was counted.
pub record Decoder : Type 0 where
  pub current : Option Current
  pub run : Option (List Place)
  pub bytes : List ℕ
  pub mark : Option Mark
  pub heads : ℕ
  pub unsupported : ℕ
  pub disagreed : ℕ
  pub broken : ℕ

-- A count plus one; it stays at 2^64 - 1 once it is there.
abbrev pub one_more : ℕ → ℕ
one_more n = min (n + 1) (2 ^ 64 - 1)

-- The state before the first datagram.
abbrev pub at_start : Decoder
at_start = record { current = None; run = None; bytes = []; mark = None; heads = 0; unsupported = 0; disagreed = 0; broken = 0 }

-- No main header and no run.
abbrev pub without_head : Decoder → Decoder
without_head d = record d { current = None; run = None; bytes = []; mark = None }

-- A Main: bytes that are exactly one accepted main header become the one in force, and a run begins at its first precinct;
-- any others leave none.
abbrev pub take_header : Decoder → ℕ → List ℕ → Result Head Refused → Decoder
take_header d stamp bytes (Err why) = record (without_head d) { unsupported = one_more d.unsupported }
take_header d stamp bytes (Ok h) =
    if h.length == length bytes
    then record d {
      current = Some (record { stamp = stamp; head = h; header = bytes; order = packet_order h });
      run = Some (packet_order h);
      bytes = [];
      mark = None;
      heads = one_more d.heads;
    }
    else record (without_head d) { unsupported = one_more d.unsupported }

-- A Main: its main header comes into force where it is accepted, and a run begins after it.
abbrev pub take_main : Decoder → ℕ → List ℕ → Decoder
take_main d stamp bytes = take_header d stamp bytes (head_of bytes)

-- The mark of a Body whose bytes follow `before` others.
abbrev pub set_mark : Decoder → ℕ → ℕ → Option Place → Decoder
set_mark d before pos None = record d { disagreed = one_more d.disagreed }
set_mark d before pos (Some place) = record d { mark = Some (record { at = before + pos; place = place }) }

-- The bytes of a Body join the run; without a run they are alone.
abbrev pub join_bytes : Decoder → List ℕ → Decoder
join_bytes d bytes = record d { bytes = d.bytes ++ bytes }

-- The precinct with a number.
abbrev pub place_of : Current → ℕ → Option Place
place_of c number = find (λ p. pid c.head p == number) c.order

-- A Body: one of another stamp drops the main header and the run. Else its bytes join the run, and with ORDB = 1 there
-- is a mark at POS, for a PID that a precinct has.
abbrev pub take_body : Decoder → Option Current → ℕ → BodyFields → List ℕ → Decoder
take_body d None stamp h bytes = d
take_body d (Some c) stamp h bytes =
    if c.stamp == stamp
    then (if h.ordb then set_mark (join_bytes d bytes) (length d.bytes) h.pos (place_of c h.pid) else join_bytes d bytes)
    else without_head d

-- A gap drops the run.
abbrev pub take_gap : Decoder → Decoder
take_gap d = record d { run = None; bytes = []; mark = None }

-- What is at the start of bytes where a precinct's packet should be: a whole packet with its number of bytes, less than
-- one, or something else.
pub data Found : Type 0 where
  Whole : List Block → ℕ → ℕ → Found
  Part : Found
  Other : Found

-- What is found where a whole packet header is: a packet whose segments follow, or less than one.
abbrev pub found_segments : List ℕ → List Block → ℕ → ℕ → Found
found_segments bytes blocks header size =
    if nat_lt 16777216 size then Other else if nat_le size (length bytes) then Whole blocks header size else Part

-- What is found by the reading of a packet header.
abbrev pub found_header : List ℕ → HeaderReading → Found
found_header bytes (Done used blocks) = found_segments bytes blocks used (used + segment_bytes blocks)
found_header bytes Need = Part
found_header bytes (Bad why) = Other

-- What is found at the start of bytes where the packet of a precinct should be.
unfoldable pub found_packet : Head → Place → List ℕ → Found
found_packet h p [] = Part
found_packet h p (b ∷ bytes) = if nat_lt 65536 (block_count (grids h p)) then Other else found_header (b ∷ bytes) (marked_header_of (grids h p) h.eph (b ∷ bytes))

-- The precincts of the order from one on.
unfoldable pub from_place : Place → List Place → List Place
from_place p [] = []
from_place p (q ∷ more) = if (p.c == q.c) && (p.r == q.r) && (p.k == q.k) then q ∷ more else from_place p more

-- A packet that is released: its precinct; its bytes, those of its header and then of its segments; the bytes of the main header
-- in force; and the number of main headers taken so far.
pub record Release : Type 0 where
  pub precinct : Precinct
  pub raw : List ℕ
  pub header : List ℕ
  pub heads : ℕ

-- The precincts of packets that are released.
abbrev pub precincts_released : List Release → List Precinct
precincts_released xs = map (λ x. x.precinct) xs

-- What a rule does: it releases a packet, changes the state, or waits for more bytes.
pub data Ruling : Type 0 where
  Releases : Release → Decoder → Ruling
  Changes : Decoder → Ruling
  Waits : Decoder → Ruling

-- A run begins at the mark, which is then gone.
abbrev pub begin_at : Decoder → Current → Mark → Decoder
begin_at d c m = record d { run = Some (from_place m.place c.order); bytes = drop m.at d.bytes; mark = None }

-- A run begins at the mark because what is before it disagrees with it.
abbrev pub begin_instead : Decoder → Current → Mark → Decoder
begin_instead d c m = record (begin_at d c m) { disagreed = one_more d.disagreed }

-- The mark as it is when n bytes before it are gone.
abbrev pub mark_behind : ℕ → Option Mark → Option Mark
mark_behind size None = None
mark_behind size (Some m) = Some (record { at = m.at - size; place = m.place })

-- After the last precinct there is no run.
abbrev pub run_of : List Place → Option (List Place)
run_of [] = None
run_of (p ∷ places) = Some (p ∷ places)

-- A whole packet is given, and the run goes on after it.
abbrev pub release : Decoder → Current → Place → List Place → List Block → ℕ → ℕ → Ruling
release d c p later blocks header size = Releases
    (record {
      precinct = record { stamp = c.stamp; pid = pid c.head p; place = p; blocks = blocks; bytes = take (size - header) (drop header d.bytes) };
      raw = take size d.bytes;
      header = c.header;
      heads = d.heads;
    })
    (record d { run = run_of later; bytes = drop size d.bytes; mark = mark_behind size d.mark })

-- What is refused as a packet drops the run; a mark that is left begins a new one.
abbrev pub drop_run : Decoder → Decoder
drop_run d = record d { run = None; broken = one_more d.broken }

-- With no run, a mark begins one, and without a mark the bytes are dropped.
abbrev pub rule_without_run : Decoder → Current → Option Mark → Ruling
rule_without_run d c None = Waits (record d { bytes = [] })
rule_without_run d c (Some m) = Changes (begin_at d c m)

-- Without a mark before its end a whole packet is given, what isn't one yet waits, and what can't be one drops the run.
abbrev pub rule_of_packet : Decoder → Current → Place → List Place → Found → Ruling
rule_of_packet d c p later (Whole blocks header size) = release d c p later blocks header size
rule_of_packet d c p later Part = Waits d
rule_of_packet d c p later Other = Changes (drop_run d)

-- With a mark after the packet's start, a packet that ends past it, or isn't whole yet, disagrees with it.
abbrev pub rule_before_mark : Decoder → Current → Mark → Place → List Place → Found → Ruling
rule_before_mark d c m p later (Whole blocks header size) = if nat_le size m.at then release d c p later blocks header size else Changes (begin_instead d c m)
rule_before_mark d c m p later Part = Changes (begin_instead d c m)
rule_before_mark d c m p later Other = Changes (drop_run d)

-- Whether two precincts are the same.
abbrev pub is_place : Place → Place → Bool
is_place p q = (p.c == q.c) && (p.r == q.r) && (p.k == q.k)

-- Where the run has come to the mark, it goes on where the mark names its next precinct, and else begins anew.
abbrev pub rule_at_mark : Decoder → Current → Mark → Place → Ruling
rule_at_mark d c m p = if is_place m.place p then Changes (record d { mark = None }) else Changes (begin_instead d c m)

-- The rule that applies to a run at this precinct.
abbrev pub rule_in_run : Decoder → Current → Place → List Place → Option Mark → Ruling
rule_in_run d c p later None = rule_of_packet d c p later (found_packet c.head p d.bytes)
rule_in_run d c p later (Some m) = if m.at == 0 then rule_at_mark d c m p else rule_before_mark d c m p later (found_packet c.head p d.bytes)

-- The rule that applies with a main header in force, by the precincts that are still to come.
abbrev pub rule_of_run : Decoder → Current → Option (List Place) → Ruling
rule_of_run d c None = rule_without_run d c d.mark
rule_of_run d c (Some []) = rule_without_run d c d.mark
rule_of_run d c (Some (p ∷ later)) = rule_in_run d c p later d.mark

-- The rule that applies.
abbrev pub rule : Decoder → Option Current → Ruling
rule d None = Waits d
rule d (Some c) = rule_of_run d c d.run

-- The packets that the rules release, one after another, and the state that waits; in at most n rules.
pub record Settled : Type 0 where
  pub releases : List Release
  pub decoder : Decoder

-- A release put before those that are given later.
abbrev pub with_release : Release → Settled → Settled
with_release x s = record s { releases = x ∷ s.releases }

-- The packets that at most n rules release, one after another, and the state after them.
unfoldable pub settle : ℕ → Decoder → Settled
settle zero d = record { releases = []; decoder = d }
settle (suc n) d = elim (rule d d.current) [
  | Releases x next ↦ with_release x (settle n next)
  | Changes next ↦ settle n next
  | Waits next ↦ record { releases = []; decoder = next }
]

-- The rules are followed until they wait: every rule but three takes a byte or more, so that this number is enough.
abbrev pub settled : Decoder → Settled
settled d = settle (length d.bytes + 5) d
