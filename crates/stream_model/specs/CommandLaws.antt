-- What is promised of what commands write: `parse` writes the lines of whole packets, up to the first fault.
use Rattle.std.specs.Prelude.{◌≡◌, ◌<◌, ◌⊎◌, ◌+◌, ◌*◌, ◌%◌, ◌^◌, ◌++◌, ℕ, Bool, List, [], ◌∷◌, length}
use Rattle.std.specs.List.{AllZip}
use Rattle.codestream_model.specs.Values.{Head, Place}
use Rattle.codestream_model.specs.Bytes.{IsBytes}
use Rattle.codestream_model.specs.MainHeader.{SpellsHead}
use Rattle.codestream_model.specs.PacketOrder.{pid, packet_order}
use Rattle.codestream_model.specs.Packet.{Content}
use Rattle.codestream_model.specs.Codestream.{WalkRefusal, SpellsCodestream, BeginsCodestream, IsInput, Faults, joined}
use Rattle.codestream_model.specs.ItemLaws.{BeginsWithPacket, BeginsWithEoc}
use Rattle.stream_model.specs.Report.{Precinct, lines}
use Rattle.stream_model.specs.Commands.{counted, parse_lines}

-- The precincts of which packets say this, with the stamp of their codestream.
abbrev pub precincts_of : Head → ℕ → List Place → List Content → List Precinct
precincts_of h stamp [] content = []
precincts_of h stamp (p ∷ places) [] = []
precincts_of h stamp (p ∷ places) (x ∷ content) = record { stamp = stamp; pid = pid h p; place = p; blocks = x.blocks; bytes = x.bytes } ∷ precincts_of h stamp places content

-- The stamp of the i-th codestream, counted from 0.
abbrev pub stamp_of : ℕ → ℕ → ℕ → ℕ
stamp_of stamp step i = (stamp + i * step) % 2 ^ 32

-- What a codestream says: the values of its main header, and what each packet says.
pub record Said : Type 0 where
  pub head : Head
  pub content : List Content

-- These are codestreams that say this.
abbrev pub AreCodestreams : List Said → List (List ℕ) → Type 0
AreCodestreams said codestreams = AllZip (λ x codestream. SpellsCodestream x.head x.content codestream) said codestreams

-- The precincts of codestreams that say this, the first of which is the i-th of an input.
abbrev pub precincts_from : ℕ → ℕ → ℕ → List Said → List Precinct
precincts_from stamp step i [] = []
precincts_from stamp step i (x ∷ said) = precincts_of x.head (stamp_of stamp step i) (packet_order x.head) x.content ++ precincts_from stamp step (i + 1) said

-- The bytes begin with an accepted main header.
abbrev pub BeginsWithHead : List ℕ → Type 0
BeginsWithHead bytes = (h : Head) × (head : List ℕ) × (more : List ℕ) × SpellsHead h head × (bytes ≡ head ++ more)

-- What should follow the packets isn't there: the packet of the next precinct, or EOC.
abbrev pub LacksNext : Head → List Place → ℕ → List ℕ → Type 0
LacksNext h [] at rest = BeginsWithEoc h at rest → ⊥
LacksNext h (p ∷ later) at rest = BeginsWithPacket h p rest → ⊥

-- The precincts, with this stamp, of the whole packets of bytes that begin with no whole codestream: none where they
-- begin with no main header, and else those of the packets after it, up to the first that isn't there.
abbrev pub ArePrecinctsOf : ℕ → List ℕ → List Precinct → Type 0
ArePrecinctsOf stamp bytes xs =
    ((BeginsWithHead bytes → ⊥) × (xs ≡ []))
    ⊎ ((h : Head) × (later : List Place) × (at : ℕ) × (rest : List ℕ) × (b : BeginsCodestream h later at rest bytes) × LacksNext h later at rest
    × (xs ≡ precincts_of h stamp b.before b.content))

-- The precincts of what follows whole codestreams in an input: none past the 65,536th codestream, and else these.
abbrev pub ArePrecinctsBehind : ℕ → ℕ → ℕ → List ℕ → List Precinct → Type 0
ArePrecinctsBehind stamp step n rest xs = ((n ≡ 65536) × (xs ≡ [])) ⊎ ((n < 65536) × ArePrecinctsOf (stamp_of stamp step n) rest xs)

-- `parse` writes the lines of all packets of the whole codestreams that it read, in order, and then those of the whole
-- packets after them, up to the first that isn't there.
abbrev pub ParseWritesWholePackets : Type 0
ParseWritesWholePackets =
    (stamp step : ℕ) (read : List ℕ) (ended : Bool) (said : List Said) (codestreams : List (List ℕ)) (rest : List ℕ) (xs : List Precinct)
    → stamp < 2 ^ 32 → IsBytes read → counted read ≡ joined codestreams ++ rest → AreCodestreams said codestreams → ArePrecinctsBehind stamp step (length codestreams) rest xs
    → parse_lines stamp step read ≡ lines (precincts_from stamp step 0 said ++ xs)

-- All bytes that it may have read are whole codestreams, and after them whole packets up to the first that isn't there.
abbrev pub ReadsHaveWholePackets : Type 0
ReadsHaveWholePackets =
    (stamp step : ℕ) (read : List ℕ) → IsBytes read
    → (said : List Said) × (codestreams : List (List ℕ)) × (rest : List ℕ) × (xs : List Precinct)
    × (counted read ≡ joined codestreams ++ rest) × AreCodestreams said codestreams × ArePrecinctsBehind stamp step (length codestreams) rest xs

-- Of an input of whole codestreams `parse` writes the lines of all their packets, in order.
abbrev pub ParseWritesInputs : Type 0
ParseWritesInputs =
    (stamp step : ℕ) (input : List ℕ) (ended : Bool) (said : List Said) (codestreams : List (List ℕ))
    → stamp < 2 ^ 32 → IsBytes input → IsInput input codestreams → AreCodestreams said codestreams
    → parse_lines stamp step input ≡ lines (precincts_from stamp step 0 said)

-- Of an input with a fault `parse` writes the lines of all packets of the whole codestreams before it, and those of the
-- whole packets of the codestream in which it is.
abbrev pub ParseWritesUpToFault : Type 0
ParseWritesUpToFault =
    (stamp step : ℕ) (input : List ℕ) (ended : Bool) (at : ℕ) (why : WalkRefusal) (f : Faults input at why)
    → stamp < 2 ^ 32 → IsBytes input
    → (said : List Said) × (rest : List ℕ) × (xs : List Precinct) × AreCodestreams said f.codestreams
    × (counted input ≡ joined f.codestreams ++ rest) × ArePrecinctsBehind stamp step (length f.codestreams) rest xs
    × (parse_lines stamp step input ≡ lines (precincts_from stamp step 0 said ++ xs))
