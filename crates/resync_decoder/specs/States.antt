-- What a contract sees of a decoder, and what its calls and its rules do.
use Rattle.std.specs.Prelude.{◌≡◌, ◌-◌, ◌==◌, ℕ, Bool, true, false, List, [], ◌∷◌, map, length, take, drop, Option, Some, None, Result, Ok, Err, if◌then◌else◌}
use Rattle.codestream_model.specs.Values as values
use Rattle.codestream_model.specs.MainHeaderReading.{head_of, Refused}
use Rattle.codestream_model.specs.PacketOrder.{pid}
use Rattle.stream_model.specs.Decoder as rules
use Rattle.stream_model.specs.Decoder.{Current, Ruling, Releases, Changes, Waits, Whole, Part, Other, Release, found_packet, begin_at, run_of, mark_behind, settled, with_release}
use Rattle.stream_model.specs.Report as report
use Rattle.packet_header.specs.Answers.{block_of}
use Rattle.packet_header.specs.declared.block.Precinct.{Precinct}
use Rattle.precinct_geometry.specs.Spans.{place_of}
use Rattle.resync_decoder.specs.declared.decoder.Rule.{Rule}
use Rattle.resync_decoder.specs.declared.decoder.Rule.TheVariants as rule
use Rattle.resync_decoder.specs.declared.decoder.HeadTaken.{HeadTaken}
use Rattle.resync_decoder.specs.declared.decoder.HeadTaken.TheVariants.{Taken, Unsupported}
use Rattle.resync_decoder.specs.declared.found.Found.{Found}
use Rattle.resync_decoder.specs.Finding.{IsFound}
use Rattle.resync_decoder.specs.declared.found.Found.TheVariants as found

-- A decoder: its state by the rules, the packet that `released` and `raw` lend, and whether no rule
-- applies until more bytes come.
pub record DecoderState : Type 0 where
  pub rules : rules.Decoder
  pub given : Option Release
  pub waits : Bool

-- A decoder that waits for more bytes and lends no packet.
abbrev pub waiting : rules.Decoder → DecoderState
waiting d = record { rules = d; given = None; waits = true }

-- The answer to `size` bytes that are read so as a main header.
abbrev pub answer_of : ℕ → Result values.Head Refused → HeadTaken
answer_of size (Ok h) = if h.length == size then Taken else Unsupported
answer_of size (Err why) = Unsupported

-- The answer to the bytes of a Main: `Taken` exactly where they are one accepted main header.
abbrev pub head_answer : List ℕ → HeadTaken
head_answer bytes = answer_of (length bytes) (head_of bytes)

-- The values of a precinct that is lent.
abbrev pub precinct_of : Precinct → report.Precinct
precinct_of x = record {
  stamp = x.stamp;
  pid = x.pid;
  place = place_of x.place;
  blocks = map block_of x.blocks.now;
  bytes = x.bytes.now;
}

-- The timestamp of a main header.
abbrev pub stamp_of : Option Current → Option ℕ
stamp_of None = None
stamp_of (Some c) = Some c.stamp

-- The bytes of a main header.
abbrev pub header_in : Option Current → Option (List ℕ)
header_in None = None
header_in (Some c) = Some c.header

-- The first packet of what the bytes settle to was given, and the others are left.
abbrev pub Gives : rules.Decoder → Option Release → DecoderState → Type 0
Gives d None s = ⊥
Gives d (Some x) s = settled d ≡ with_release x (settled s.rules)

-- A step that answers true has given the first packet of what the bytes settle to; one that answers
-- false leaves none.
abbrev pub Steps : rules.Decoder → Bool → DecoderState → Type 0
Steps d true s = Gives d s.given s
Steps d false s = (settled d ≡ record { releases = []; decoder = s.rules }) × (s.waits ≡ true)

-- A ruling was carried out: its packet was given, its change was made, or the rules wait.
abbrev pub IsFollowed : Ruling → Rule → DecoderState → Type 0
IsFollowed (Releases x next) answer s = (answer ≡ rule.Released) × (s ≡ record { rules = next; given = Some x; waits = false })
IsFollowed (Changes next) answer s = (answer ≡ rule.Changed) × (s ≡ record { rules = next; given = None; waits = false })
IsFollowed (Waits next) answer s = (answer ≡ rule.Waits) × (s ≡ waiting next)

-- A decoder whose run begins at its mark.
abbrev pub begun : rules.Decoder → Option Current → Option rules.Mark → rules.Decoder
begun d None m = d
begun d (Some c) None = d
begun d (Some c) (Some m) = begin_at d c m

-- A run begins with this precinct.
abbrev pub BeginsWith : values.Place → Option (List values.Place) → Type 0
BeginsWith p None = ⊥
BeginsWith p (Some []) = ⊥
BeginsWith p (Some (q ∷ later)) = q ≡ p

-- A decoder whose run goes on after a packet of `size` bytes.
abbrev pub past_in : rules.Decoder → ℕ → Option (List values.Place) → rules.Decoder
past_in d size None = d
past_in d size (Some []) = d
past_in d size (Some (p ∷ later)) = record d { run = run_of later; bytes = drop size d.bytes; mark = mark_behind size d.mark }

-- A decoder after the packet of `size` bytes at the front of its run.
abbrev pub past : rules.Decoder → ℕ → rules.Decoder
past d size = past_in d size d.run

-- The packet that was found is given, and the run goes on after it.
abbrev pub GoesOn : DecoderState → ℕ → Rule → DecoderState → Type 0
GoesOn s size answer t = (answer ≡ rule.Released) × (t ≡ record { rules = past s.rules size; given = s.given; waits = false })

-- The release of a packet of `size` bytes, `header` of them in its header.
abbrev pub given_of : rules.Decoder → Current → values.Place → List values.Block → ℕ → ℕ → Release
given_of d c p blocks header size = record {
  precinct = record {
    stamp = c.stamp;
    pid = pid c.head p;
    place = p;
    blocks = blocks;
    bytes = take (size - header) (drop header d.bytes);
  };
  raw = take size d.bytes;
  header = c.header;
  heads = d.heads;
}

-- What is at the front of a run was found, and a whole packet is noted.
abbrev pub IsSought : rules.Decoder → Current → values.Place → rules.Found → Found → Option Release → Type 0
IsSought d c p (Whole blocks header size) answer given = (answer ≡ found.Whole header size) × (given ≡ Some (given_of d c p blocks header size))
IsSought d c p Part answer given = answer ≡ found.Part
IsSought d c p Other answer given = answer ≡ found.Other

-- The same in the run of a decoder with a main header.
abbrev pub IsSoughtIn : rules.Decoder → Option Current → Option (List values.Place) → Found → Option Release → Type 0
IsSoughtIn d (Some c) (Some (p ∷ later)) answer given = IsSought d c p (found_packet c.head p d.bytes) answer given
IsSoughtIn d current run answer given = ⊥

-- The packet of the run's next precinct was looked for; nothing but what is noted changed.
pub record Seeks (d : rules.Decoder) (answer : Found) (s : DecoderState) : Type 0 where
  pub same : s.rules ≡ d
  pub within : IsFound answer (length d.bytes)
  pub sought : IsSoughtIn d d.current d.run answer s.given
