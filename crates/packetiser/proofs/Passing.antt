-- What a reader gives passes from the bytes in hand to those that were given.
use Rattle.std.proofs.Common.{◌≡◌, ◌≤◌, ◌+◌, ◌-◌, ◌==◌, ℕ, Bool, true, false, List, ◌++◌, map, length, Option, refl, sym, ap, ◌∙◌, arith, append_assoc, if◌then◌else◌}
use Rattle.std.specs.List.{AllByRecursion}
use Rattle.std.proofs.lemmas.List.{length-append}
use Rattle.codestream_model.specs.Values.{Head, Place, Block}
use Rattle.codestream_model.specs.Bytes.{IsBytes}
use Rattle.codestream_model.specs.Packet.{segment_bytes}
use Rattle.stream_model.specs.Stream.{Parts}
use Rattle.stream_model.specs.Cut.{Plan, Known, room, known_of}
use Rattle.codestream_walk.specs.InHand.{input_limit}
use Rattle.codestream_walk.specs.Walking.{Stage, AtNext, InBody, Walking, Seen, fed, reach, is_live, stage_after, passing, GivesHead, GivesStart, GivesMore, GivesEoc}
use Rattle.codestream_walk.proofs.Bytes.{bytes_join}
use Rattle.packetiser.specs.Knowing.{Knows}
use Rattle.packetiser.specs.Sending.{HasRead}
use Rattle.packetiser.proofs.Closing.{header_has_bytes}

-- Some bytes in hand were given.
pub record Passes (w : Walking) (v : Seen) : Type 0 where
  pub whole : w.hand ≡ v.given ++ v.walk.hand
  pub offset : v.walk.offset ≡ w.offset + length v.given
  pub some : 1 ≤ length v.given
  pub live : is_live v.walk.stage ≡ true

live_after : (t : Bool) (h : Head) (p : Place) (blocks : List Block) (later : List Place) (size left : ℕ) → is_live (if t then AtNext h later size else InBody h p blocks later size left) ≡ true
live_after true h p blocks later size left = refl
live_after false h p blocks later size left = refl

-- the bytes of a walk that gave a front
passed : (w : Walking) (v : Seen) (front rest : List ℕ) (stage : Stage) → v.walk ≡ passing w front rest stage → v.given ≡ front → w.hand ≡ front ++ rest → 1 ≤ length front → is_live stage ≡ true → Passes w v
passed w v front rest stage now given whole some live = record {
  whole = whole ∙ (ap (λ (l : List ℕ). l ++ rest) (sym given) ∙ ap (λ (l : List ℕ). v.given ++ l) (sym (ap (λ (x : Walking). x.hand) now)));
  offset = ap (λ (x : Walking). x.offset) now ∙ ap (λ (l : List ℕ). w.offset + length l) (sym given);
  some = omega (arith, some, ap length given);
  live = ap (λ (x : Walking). is_live x.stage) now ∙ live;
}

pub head_passes : (w : Walking) (v : Seen) → GivesHead w v → Passes w v
head_passes w v g = passed w v g.front g.rest (AtNext g.head g.order (length g.front)) g.now g.given g.whole (omega (arith, ap length g.is_head.whole)) refl

pub start_passes : (w : Walking) (before : Option Head) (v : Seen) → GivesStart w before v → Passes w v
start_passes w before v g =
    passed w v g.front g.rest (stage_after g.head g.place g.blocks g.later (g.size + length g.front) (segment_bytes g.blocks)) g.now g.given g.begins.whole (header_has_bytes g.head g.place g.blocks g.front g.begins.is_header)
    (live_after (segment_bytes g.blocks == 0) g.head g.place g.blocks g.later (g.size + length g.front) (segment_bytes g.blocks))

pub more_passes : (w : Walking) (before : Option Head) (v : Seen) → GivesMore w before v → Passes w v
more_passes w before v g =
    passed w v g.front g.rest (stage_after g.head g.place g.blocks g.later (g.size + length g.front) (g.left - length g.front)) g.now g.given g.whole g.some
    (live_after (g.left - length g.front == 0) g.head g.place g.blocks g.later (g.size + length g.front) (g.left - length g.front))

pub eoc_passes : (w : Walking) (before : Option Head) (v : Seen) → GivesEoc w before v → Passes w v
eoc_passes w before v g = record {
  whole = g.whole ∙ (ap (λ (l : List ℕ). l ++ g.rest) (sym g.given) ∙ ap (λ (l : List ℕ). v.given ++ l) (sym (ap (λ (x : Walking). x.hand) g.now)));
  offset = ap (λ (x : Walking). x.offset) g.now ∙ ap (λ (l : List ℕ). w.offset + length l) (sym g.given);
  some = omega (arith, ap length g.given);
  live = ap (λ (x : Walking). is_live x.stage) g.now;
}

-- a sender has read what its reader has
pub read_further : (p : Plan) (read : List ℕ) (w : Walking) (consumed : List ℕ) (parts later : List Parts) (known now : List Known) (bytes : List ℕ) (v : Seen) → HasRead p read w consumed parts known → IsBytes bytes → reach (fed w bytes) ≤ input_limit → Passes (fed w bytes) v
    → Knows (consumed ++ v.given) v.walk later now → AllByRecursion (λ c. length c.header ≤ room p) (map known_of later ++ now) → HasRead p (read ++ bytes) v.walk (consumed ++ v.given) later now
read_further p read w consumed parts later known now bytes v r are within g knows fit = record {
  is_plan = r.is_plan;
  whole =
      ap (λ (l : List ℕ). l ++ bytes) r.whole ∙ (append_assoc consumed w.hand bytes
      ∙ (ap (λ (l : List ℕ). consumed ++ l) g.whole ∙ sym (append_assoc consumed v.given v.walk.hand)));
  are_bytes = bytes_join read bytes r.are_bytes are;
  within = omega (arith, within, g.offset, ap length g.whole, length-append v.given v.walk.hand);
  knows = knows;
  live = g.live;
  fit = fit;
}

-- with more bytes in hand
pub knows_fed : (consumed : List ℕ) (w : Walking) (parts : List Parts) (known : List Known) (bytes : List ℕ) → Knows consumed w parts known → Knows consumed (fed w bytes) parts known
knows_fed consumed w parts known bytes k = record { codestreams = k.codestreams; front = k.front; whole = k.whole; are_parts = k.are_parts; count = k.count; few = k.few; room = k.room; offset = k.offset; is_known = k.is_known }
