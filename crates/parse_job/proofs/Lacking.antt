-- What is refused or unfinished isn't there.
use Rattle.std.proofs.Common.{◌≤◌, ℕ, List, [], ◌∷◌, arith}
use Rattle.codestream_model.specs.Values.{Head, Place}
use Rattle.codestream_model.specs.Precincts.{grids}
use Rattle.codestream_model.specs.Packet.{block_count}
use Rattle.codestream_model.specs.Codestream.{WalkRefusal, HeadRefused, Cut, TooManyBlocks, HeaderRefused, PacketTooLong, Psot, NoEoc, InputTooLong, TooManyFrames, RefusesNext, NeedsNextBytes}
use Rattle.codestream_model.proofs.OwnBands.{own_bands}
use Rattle.codestream_model.proofs.MarkedVerdicts.{one_marked_verdict}
use Rattle.codestream_walk.specs.Items.{RefusesHeadItem}
use Rattle.stream_model.specs.CommandLaws.{LacksNext, BeginsWithHead}
use Rattle.stream_model.proofs.ParsedInputs.{head_lacks, packet_header, long_lacks, needs_lacks, other_lacks, few_lacks}

-- the packet or EOC that is next isn't there where the bytes end inside it
pub needed_lacks : (h : Head) (later : List Place) (size : ℕ) (rest : List ℕ) → NeedsNextBytes h later size rest → LacksNext h later size rest
needed_lacks h [] size rest n = λ e. few_lacks rest e.1.0 n.1 e.1.1
needed_lacks h (p ∷ later) size rest n = λ b. needs_lacks h p rest n b

-- nor where they are refused
pub refused_lacks : (h : Head) (later : List Place) (size : ℕ) (rest : List ℕ) (why : WalkRefusal) → RefusesNext h later size rest why → LacksNext h later size rest
refused_lacks h [] size rest Psot r = λ e. r e.0
refused_lacks h [] size rest NoEoc r = λ e. other_lacks rest r.1 e.1.0 e.1.1
refused_lacks h [] size rest TooManyBlocks r = absurd r
refused_lacks h [] size rest (HeaderRefused why) r = absurd r
refused_lacks h [] size rest PacketTooLong r = absurd r
refused_lacks h [] size rest (HeadRefused why) r = absurd r
refused_lacks h [] size rest Cut r = absurd r
refused_lacks h [] size rest InputTooLong r = absurd r
refused_lacks h [] size rest TooManyFrames r = absurd r
refused_lacks h (p ∷ later) size rest TooManyBlocks r = λ b. let few : block_count (grids h p) ≤ 65536 = b.3.few_blocks in omega (arith, r, few)
refused_lacks h (p ∷ later) size rest (HeaderRefused why) r = λ b. (one_marked_verdict (grids h p) h.eph rest (own_bands h p)).not_refused (packet_header h p rest b) why r.1
refused_lacks h (p ∷ later) size rest PacketTooLong r = λ b. long_lacks h p rest r b
refused_lacks h (p ∷ later) size rest (HeadRefused why) r = absurd r
refused_lacks h (p ∷ later) size rest Cut r = absurd r
refused_lacks h (p ∷ later) size rest Psot r = absurd r
refused_lacks h (p ∷ later) size rest NoEoc r = absurd r
refused_lacks h (p ∷ later) size rest InputTooLong r = absurd r
refused_lacks h (p ∷ later) size rest TooManyFrames r = absurd r

-- nor is a main header that is refused
pub head_item_lacks : (bytes : List ℕ) (at : ℕ) (why : WalkRefusal) → RefusesHeadItem bytes at why → BeginsWithHead bytes → ⊥
head_item_lacks bytes at (HeadRefused why) r = head_lacks bytes at why r.0
head_item_lacks bytes at TooManyBlocks r = absurd r
head_item_lacks bytes at (HeaderRefused why) r = absurd r
head_item_lacks bytes at PacketTooLong r = absurd r
head_item_lacks bytes at Cut r = absurd r
head_item_lacks bytes at Psot r = absurd r
head_item_lacks bytes at NoEoc r = absurd r
head_item_lacks bytes at InputTooLong r = absurd r
head_item_lacks bytes at TooManyFrames r = absurd r
