-- The fields of a decoder as its state, and what holds of them.
use Rattle.std.specs.Prelude.{◌≡◌, ◌≤◌, ◌-◌, ℕ, true, List, ◌∷◌, length, take, drop, map, Option, Some, None}
use Rattle.std.specs.Vec.{vec_capacity}
use Rattle.codestream_model.specs.Values as values
use Rattle.codestream_model.specs.Precincts.{IsPrecinct}
use Rattle.stream_model.specs.Decoder as rules
use Rattle.packet_header.specs.Answers.{block_of}
use Rattle.packet_header.specs.declared.block.Block.{Block}
use Rattle.precinct_geometry.specs.Spans.{place_of}
use Rattle.precinct_geometry.specs.declared.place.Place.{Place}
use Rattle.resync_decoder.specs.declared.decoder.Mark.{Mark}
use Rattle.resync_decoder.specs.declared.decoder.Given.{Given}
use Rattle.resync_decoder.specs.declared.found.Finder.{Finder}
use Rattle.resync_decoder.specs.declared.decoder.Decoder.TheInside.{Inside}
use Rattle.resync_decoder.specs.Finding.{IsReadUpTo}
use Rattle.pcrl_order.specs.Later.{later}
use Rattle.resync_decoder.specs.InForce.{InForce, current_at}
use Rattle.resync_decoder.specs.States.{DecoderState}

-- The run that goes on with a precinct, under a main header.
abbrev pub run_at : Option Place → Option InForce → Option (List values.Place)
run_at None current = None
run_at (Some p) None = None
run_at (Some p) (Some c) = Some (place_of p ∷ later c.head (place_of p))

-- A mark, where the run's bytes begin at `front` in the buffer.
abbrev pub mark_at : ℕ → Option Mark → Option rules.Mark
mark_at front None = None
mark_at front (Some m) = Some (record { at = m.at - front; place = place_of m.place })

-- The packet that is noted, under a main header.
abbrev pub release_at : Given → rules.Current → ℕ → List Block → List ℕ → rules.Release
release_at g c heads blocks buffer = record {
  precinct = record {
    stamp = c.stamp;
    pid = g.pid;
    place = place_of g.place;
    blocks = map block_of blocks;
    bytes = take (g.to - g.from) (drop g.from buffer);
  };
  raw = take (g.to - g.at) (drop g.at buffer);
  header = c.header;
  heads = heads;
}

-- The packet that is noted, where there is one, with its code-blocks and its bytes in the buffer.
abbrev pub given_at : Option Given → Option rules.Current → ℕ → List Block → List ℕ → Option rules.Release
given_at None current heads blocks buffer = None
given_at (Some g) None heads blocks buffer = None
given_at (Some g) (Some c) heads blocks buffer = Some (release_at g c heads blocks buffer)

-- The state that these fields make.
abbrev pub state_of : Inside → DecoderState
state_of d = record {
  rules = record {
    current = current_at d.header.items d.current;
    run = run_at d.next d.current;
    bytes = drop d.front d.buffer.items;
    mark = mark_at d.front d.mark;
    heads = d.heads;
    unsupported = d.unsupported;
    disagreed = d.disagreed;
    broken = d.broken;
  };
  given = given_at d.given (current_at d.header.items d.current) d.heads d.finder.reader.blocks d.buffer.items;
  waits = d.waits;
}

-- The next precinct of a run is one of the image of the main header in force.
abbrev pub IsRun : Option Place → Option InForce → Type 0
IsRun None current = Unit {0}
IsRun (Some p) None = ⊥
IsRun (Some p) (Some c) = IsPrecinct c.head (place_of p)

-- A mark is in the run's bytes, and names a precinct of that image.
abbrev pub IsMark : Option Mark → Option InForce → ℕ → ℕ → Type 0
IsMark None current front len = Unit {0}
IsMark (Some m) None front len = ⊥
IsMark (Some m) (Some c) front len = (front ≤ m.at) × (m.at ≤ len) × IsPrecinct c.head (place_of m.place)

-- The packet that is noted is in the buffer, its segments after its header, under a main header.
abbrev pub IsGiven : Option Given → Option InForce → ℕ → Type 0
IsGiven None current len = Unit {0}
IsGiven (Some g) None len = ⊥
IsGiven (Some g) (Some c) len = (g.at ≤ g.from) × (g.from ≤ g.to) × (g.to ≤ len)

-- The header of the packet of the run's next precinct was read so far.
abbrev pub IsReadSoFar : Finder → Option Place → Option InForce → List ℕ → Type 0
IsReadSoFar f None current bytes = Unit {0}
IsReadSoFar f (Some p) None bytes = Unit {0}
IsReadSoFar f (Some p) (Some c) bytes = IsReadUpTo f.progress f.reader c.head (place_of p) bytes

-- What holds of every decoder. Where the rules wait there is no mark, and fewer bytes are kept than
-- a packet may have; without a main header the rules wait.
pub record IsSound (d : Inside) : Type 0 where
  pub blocks : d.finder.reader.room ≡ 65536
  pub room : 16786216 ≤ vec_capacity d.buffer
  pub header : 8192 ≤ vec_capacity d.header
  pub front : d.front ≤ length d.buffer.items
  pub few : length d.buffer.items ≤ 16786216
  pub run : IsRun d.next d.current
  pub mark : IsMark d.mark d.current d.front (length d.buffer.items)
  pub so_far : IsReadSoFar d.finder d.next d.current (drop d.front d.buffer.items)
  pub given : IsGiven d.given d.current (length d.buffer.items)
  pub waits : d.waits ≡ true → (d.mark ≡ None) × (length d.buffer.items - d.front ≤ 16777215)
  pub headless : d.current ≡ None → d.waits ≡ true
