-- The bytes in hand that fix no answer fix none.
use Rattle.std.proofs.Common.{◌≡◌, ℕ, List, [], ◌∷◌, ◌++◌, length, subst, ap, inl, inr, arith}
use Rattle.std.proofs.lemmas.List.{length-append}
use Rattle.codestream_model.specs.Values.{Head, Place, Block}
use Rattle.codestream_model.specs.HeadRefusals.{Cut as HeadCut}
use Rattle.codestream_model.specs.RefusedHeader.{RefusesHead}
use Rattle.codestream_model.specs.MainHeader.{SpellsHead}
use Rattle.codestream_model.specs.Precincts.{grids}
use Rattle.codestream_model.specs.Packet.{NeedsPacketHeaderBytes, HasFewBlocks, BeginsPacket}
use Rattle.codestream_model.specs.Codestream.{WalkRefusal, HeadRefused, Cut, TooManyBlocks, HeaderRefused, PacketTooLong, Psot, NoEoc, InputTooLong, TooManyFrames, RefusesPacket, RefusesEoc}
use Rattle.codestream_model.proofs.HeaderJudged.{header_is_not_refused, refusal_is_one}
use Rattle.codestream_model.proofs.OwnBands.{own_bands}
use Rattle.codestream_model.proofs.MarkedVerdicts.{one_marked_verdict}
use Rattle.codestream_walk.specs.Items.{RefusesHeadItem}
use Rattle.codestream_walk.specs.Walking.{Stage, AtStart, AtNext, InBody, AtEnd, WantsIn, RefusesIn}
use Rattle.codestream_walk.specs.Inputs.{WantsFixNothing}
use Rattle.codestream_walk.specs.declared.fault.PieceOut.TheVariants as out

-- a packet's header
begins_not_needs : (h : Head) (p : Place) (blocks : List Block) (header rest bytes : List ℕ) → BeginsPacket h p blocks header rest bytes → NeedsPacketHeaderBytes h p bytes → ⊥
begins_not_needs h p blocks header rest bytes b n = (one_marked_verdict (grids h p) h.eph bytes (own_bands h p)).not_unfinished (blocks, header, rest, b.is_header, b.whole) n

refused_not_needs : (h : Head) (p : Place) (bytes : List ℕ) (why : WalkRefusal) → RefusesPacket h p bytes why → HasFewBlocks h p → NeedsPacketHeaderBytes h p bytes → ⊥
refused_not_needs h p bytes TooManyBlocks r few n = omega (arith, r, few)
refused_not_needs h p bytes (HeaderRefused why) r few n = (one_marked_verdict (grids h p) h.eph bytes (own_bands h p)).not_both why r.1 n
refused_not_needs h p bytes PacketTooLong r few n = begins_not_needs h p r.blocks r.header r.rest bytes r.begins n
refused_not_needs h p bytes (HeadRefused why) r few n = absurd r
refused_not_needs h p bytes Cut r few n = absurd r
refused_not_needs h p bytes Psot r few n = absurd r
refused_not_needs h p bytes NoEoc r few n = absurd r
refused_not_needs h p bytes InputTooLong r few n = absurd r
refused_not_needs h p bytes TooManyFrames r few n = absurd r

eoc_not_needs : (h : Head) (size : ℕ) (bytes : List ℕ) (why : WalkRefusal) → RefusesEoc h size bytes why → WantsIn (AtNext h [] size) 0 bytes → ⊥
eoc_not_needs h size bytes Psot r n = r n.0
eoc_not_needs h size bytes NoEoc (psot, (a, b, more, e, differ)) n = omega (arith, n.1, ap length e)
eoc_not_needs h size bytes TooManyBlocks r n = absurd r
eoc_not_needs h size bytes (HeaderRefused why) r n = absurd r
eoc_not_needs h size bytes PacketTooLong r n = absurd r
eoc_not_needs h size bytes (HeadRefused why) r n = absurd r
eoc_not_needs h size bytes Cut r n = absurd r
eoc_not_needs h size bytes InputTooLong r n = absurd r
eoc_not_needs h size bytes TooManyFrames r n = absurd r

head_not_needs : (bytes : List ℕ) (at place : ℕ) (why : WalkRefusal) → RefusesHeadItem bytes at why → RefusesHead bytes place HeadCut → ⊥
head_not_needs bytes at place (HeadRefused why) (r, other) n = other (refusal_is_one bytes at place why HeadCut r n).1
head_not_needs bytes at place TooManyBlocks r n = absurd r
head_not_needs bytes at place (HeaderRefused why) r n = absurd r
head_not_needs bytes at place PacketTooLong r n = absurd r
head_not_needs bytes at place Cut r n = absurd r
head_not_needs bytes at place Psot r n = absurd r
head_not_needs bytes at place NoEoc r n = absurd r
head_not_needs bytes at place InputTooLong r n = absurd r
head_not_needs bytes at place TooManyFrames r n = absurd r

refuses_not_wants : (stage : Stage) (codestreams : ℕ) (hand : List ℕ) (at : ℕ) (why : WalkRefusal) → WantsIn stage codestreams hand → RefusesIn stage codestreams hand at why → ⊥
refuses_not_wants AtStart codestreams hand at why (inl empty) r = omega (arith, r.0, ap length empty)
refuses_not_wants AtStart codestreams hand at why (inr n) (some, inl full) = omega (arith, n.0, full.0)
refuses_not_wants AtStart codestreams hand at why (inr (few, (place, n))) (some, inr r) = head_not_needs hand at place why r.1 n
refuses_not_wants (AtNext h [] size) codestreams hand at why n r = eoc_not_needs h size hand why r.0 n
refuses_not_wants (AtNext h (p ∷ later) size) codestreams hand at why n r = refused_not_needs h p hand why r.0 n.0 n.1
refuses_not_wants (InBody h p blocks later size left) codestreams hand at why n r = absurd r
refuses_not_wants AtEnd codestreams hand at why n r = absurd r

wants_by : (s t : Stage) (codestreams : ℕ) (hand : List ℕ) → s ≡ t → WantsIn s codestreams hand → WantsIn t codestreams hand
wants_by s t codestreams hand e n = let P : Stage → Type 0 = λ x. WantsIn x codestreams hand in subst P e n

head_not_wants : (codestreams : ℕ) (h : Head) (front rest hand : List ℕ) → SpellsHead h front → hand ≡ front ++ rest → WantsIn AtStart codestreams hand → ⊥
head_not_wants codestreams h front rest hand s whole (inl empty) = omega (arith, ap length s.whole, ap length whole, ap length empty, length-append front rest)
head_not_wants codestreams h front rest hand s whole (inr (few, (at, n))) = let P : List ℕ → Type 0 = λ l. RefusesHead l at HeadCut in header_is_not_refused h front rest at HeadCut s (subst P whole n)

pub wants_fix_nothing : WantsFixNothing
wants_fix_nothing out.Head w before v n g = absurd (head_not_wants w.codestreams g.head g.front g.rest w.hand g.is_head g.whole (wants_by w.stage AtStart w.codestreams w.hand g.stage n))
wants_fix_nothing out.Start w before v n g = let k = wants_by w.stage (AtNext g.head (g.place ∷ g.later) g.size) w.codestreams w.hand g.stage n in absurd (begins_not_needs g.head g.place g.blocks g.front g.rest w.hand g.begins k.1)
wants_fix_nothing out.More w before v n g = let k : w.hand ≡ [] = wants_by w.stage (InBody g.head g.place g.blocks g.later g.size g.left) w.codestreams w.hand g.stage n in absurd (omega (arith, ap length k, ap length g.whole, length-append g.front g.rest, g.some))
wants_fix_nothing out.FrameEnd w before v n g = let k = wants_by w.stage (AtNext g.head [] g.size) w.codestreams w.hand g.stage n in absurd (omega (arith, k.1, ap length g.whole))
wants_fix_nothing (out.Refused fault) w before v n g = absurd (refuses_not_wants w.stage w.codestreams w.hand g.0.0 _ n g.0.1)
wants_fix_nothing out.End w before v n g = absurd g
wants_fix_nothing out.ReadFault w before v n g = absurd g
