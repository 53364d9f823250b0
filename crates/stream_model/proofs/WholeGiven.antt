-- What is given are whole precincts.
use Rattle.std.proofs.Common.{◌≡◌, ◌≤◌, ◌+◌, ◌-◌, ◌==◌, ℕ, zero, suc, Bool, true, false, nat_lt, nat_le, List, [], ◌∷◌, length, drop, Option, Some, None, refl, arith, length-take, length-drop, if◌then◌else◌}
use Rattle.std.specs.List.{AllByRecursion}
use Rattle.std.proofs.lemmas.Bool.{leb-true}
use Rattle.codestream_model.specs.MarkedHeader.{marked_header_of}
use Rattle.codestream_model.specs.Values.{Head, Place, Block}
use Rattle.codestream_model.specs.Precincts.{grids}
use Rattle.codestream_model.specs.Packet.{block_count, segment_bytes}
use Rattle.codestream_model.specs.PacketHeaderReading.{HeaderReading, Done, Need, Bad, header_of}
use Rattle.stream_model.specs.Decoder.{Decoder, Current, Mark, Found, Whole, Part, Other, found_segments, found_header, found_packet, Ruling, Releases, Changes, Waits, release, begin_instead, is_place, rule_without_run, rule_of_packet, rule_before_mark, rule_at_mark, rule_in_run, rule_of_run, rule, Settled, with_release, settle, settled, take_gap}
use Rattle.stream_model.specs.Window.{Hand, Gap, Nothing, next}
use Rattle.stream_model.specs.Receiver.{Receiver, decoded, followed, drained}
use Rattle.stream_model.specs.DrainLaws.{IsWhole, GivenAreWhole}
use Rattle.stream_model.proofs.CutPayloads.{all-append}

-- a whole packet has n bytes
abbrev HasSize : List ℕ → Found → Type 0
HasSize bytes (Whole blocks header size) = (size ≡ header + segment_bytes blocks) × (size ≤ length bytes)
HasSize bytes Part = Unit {0}
HasSize bytes Other = Unit {0}

size_segments : (bytes : List ℕ) (blocks : List Block) (header size : ℕ) → size ≡ header + segment_bytes blocks → HasSize bytes (found_segments bytes blocks header size)
size_segments bytes blocks header size e = by (nat_lt 16777216 size) (nat_le size (length bytes)) refl where
  by : (a b : Bool) → nat_le size (length bytes) ≡ b → HasSize bytes (if a then Other else if b then Whole blocks header size else Part)
  by true b f = tt
  by false true f = (e, leb-true size (length bytes) f)
  by false false f = tt

size_header : (bytes : List ℕ) (r : HeaderReading) → HasSize bytes (found_header bytes r)
size_header bytes (Done used blocks) = size_segments bytes blocks used (used + segment_bytes blocks) refl
size_header bytes Need = tt
size_header bytes (Bad why) = tt

size_packet : (h : Head) (p : Place) (bytes : List ℕ) → HasSize bytes (found_packet h p bytes)
unfolding found_packet
size_packet h p [] = tt
size_packet h p (b ∷ bytes) = by (nat_lt 65536 (block_count (grids h p))) (size_header (b ∷ bytes) (marked_header_of (grids h p) h.eph (b ∷ bytes))) where
  by : (c : Bool) → HasSize (b ∷ bytes) (found_header (b ∷ bytes) (marked_header_of (grids h p) h.eph (b ∷ bytes))) → HasSize (b ∷ bytes) (if c then Other else found_header (b ∷ bytes) (marked_header_of (grids h p) h.eph (b ∷ bytes)))
  by true s = tt
  by false s = s

-- what a rule gives
abbrev GivesWhole : Ruling → Type 0
GivesWhole (Releases x next) = IsWhole x
GivesWhole (Changes next) = Unit {0}
GivesWhole (Waits next) = Unit {0}

released_whole : (d : Decoder) (c : Current) (p : Place) (later : List Place) (blocks : List Block) (header size : ℕ) → HasSize d.bytes (Whole blocks header size) → GivesWhole (release d c p later blocks header size)
released_whole d c p later blocks header size s =
    let a = length-take (size - header) (drop header d.bytes) in
    let b = length-drop header d.bytes in omega (arith, a, b, s.0, s.1)

packet_whole : (d : Decoder) (c : Current) (p : Place) (later : List Place) (f : Found) → HasSize d.bytes f → GivesWhole (rule_of_packet d c p later f)
packet_whole d c p later (Whole blocks header size) s = released_whole d c p later blocks header size s
packet_whole d c p later Part s = tt
packet_whole d c p later Other s = tt

before_whole : (d : Decoder) (c : Current) (m : Mark) (p : Place) (later : List Place) (f : Found) → HasSize d.bytes f → GivesWhole (rule_before_mark d c m p later f)
before_whole d c m p later (Whole blocks header size) s = by (nat_le size m.at) (released_whole d c p later blocks header size s) where
  by : (b : Bool) → GivesWhole (release d c p later blocks header size) → GivesWhole (if b then release d c p later blocks header size else Changes (begin_instead d c m))
  by true h = h
  by false h = tt
before_whole d c m p later Part s = tt
before_whole d c m p later Other s = tt

at_whole : (d : Decoder) (c : Current) (m : Mark) (p : Place) → GivesWhole (rule_at_mark d c m p)
at_whole d c m p = by (is_place m.place p) where
  by : (b : Bool) → GivesWhole (if b then Changes (record d { mark = None }) else Changes (begin_instead d c m))
  by true = tt
  by false = tt

in_run_whole : (d : Decoder) (c : Current) (p : Place) (later : List Place) (o : Option Mark) → GivesWhole (rule_in_run d c p later o)
in_run_whole d c p later None = packet_whole d c p later (found_packet c.head p d.bytes) (size_packet c.head p d.bytes)
in_run_whole d c p later (Some m) = by (m.at == 0) (at_whole d c m p) (before_whole d c m p later (found_packet c.head p d.bytes) (size_packet c.head p d.bytes)) where
  by : (b : Bool) → GivesWhole (rule_at_mark d c m p) → GivesWhole (rule_before_mark d c m p later (found_packet c.head p d.bytes)) → GivesWhole (if b then rule_at_mark d c m p else rule_before_mark d c m p later (found_packet c.head p d.bytes))
  by true g h = g
  by false g h = h

without_whole : (d : Decoder) (c : Current) (o : Option Mark) → GivesWhole (rule_without_run d c o)
without_whole d c None = tt
without_whole d c (Some m) = tt

run_whole : (d : Decoder) (c : Current) (o : Option (List Place)) → GivesWhole (rule_of_run d c o)
run_whole d c None = without_whole d c d.mark
run_whole d c (Some []) = without_whole d c d.mark
run_whole d c (Some (p ∷ later)) = in_run_whole d c p later d.mark

rule_whole : (d : Decoder) (o : Option Current) → GivesWhole (rule d o)
rule_whole d None = tt
rule_whole d (Some c) = run_whole d c d.run

abbrev AllWhole : Settled → Type 0
AllWhole s = AllByRecursion IsWhole s.releases

settle_whole : (n : ℕ) (d : Decoder) → AllWhole (settle n d)
unfolding settle
settle_whole zero d = tt
settle_whole (suc n) d = by (rule d d.current) (rule_whole d d.current) (λ x. settle_whole n x) where
  by : (r : Ruling) → GivesWhole r → ((x : Decoder) → AllWhole (settle n x)) → AllWhole (elim r [
    | Releases x d ↦ with_release x (settle n d)
    | Changes d ↦ settle n d
    | Waits d ↦ record { releases = []; decoder = d }
  ])
  by (Releases x d) h ih = (h, ih d)
  by (Changes d) h ih = ih d
  by (Waits d) h ih = tt

followed_whole : (r : Receiver) (d : Decoder) → AllByRecursion IsWhole r.releases → AllByRecursion IsWhole (followed r d).releases
followed_whole r d h = all-append IsWhole r.releases (settled d).releases h (settle_whole _ d)

abbrev AreWhole : Receiver → Type 0
AreWhole r = AllByRecursion IsWhole r.releases

drained_whole : (n : ℕ) (r : Receiver) → AreWhole r → AreWhole (drained n r)
unfolding drained
drained_whole zero r h = h
drained_whole (suc n) r h = elim (next r.window r.window.base) as (λ v. AreWhole (elim v [
  | Hand x w ↦ drained n (followed (record r { window = w }) (decoded r.decoder x x.payload))
  | Gap count w ↦ drained n (record r { window = w; decoder = take_gap r.decoder })
  | Nothing ↦ r
])) [
  | Hand x w ↦ drained_whole n (followed (record r { window = w }) (decoded r.decoder x x.payload)) (followed_whole (record r { window = w }) (decoded r.decoder x x.payload) h)
  | Gap count w ↦ drained_whole n (record r { window = w; decoder = take_gap r.decoder }) h
  | Nothing ↦ h
]

pub given_are_whole : GivenAreWhole
given_are_whole r h = (drained_whole _ r h, followed_whole r r.decoder h)
