-- A walk inside a packet, and its answers.
use Rattle.std.proofs.Common.{◌≡◌, ◌≤◌, ◌+◌, ℕ, List, [], ◌∷◌, ◌++◌, length, refl, sym, subst, ◌∙◌, ap, inl, inr, arith, append_assoc}
use Rattle.std.proofs.lemmas.List.{append-nil, length-append}
use Rattle.codestream_model.specs.Values.{Head, Place, Block}
use Rattle.codestream_model.specs.Precincts.{IsPrecinct}
use Rattle.codestream_model.specs.Packet.{SpellsPacketHeader, HasFewBlocks, segment_bytes, BeginsPacket}
use Rattle.codestream_model.specs.Bytes.{IsBytes}
use Rattle.codestream_walk.proofs.Bytes.{bytes_join}
use Rattle.codestream_model.specs.Codestream.{NeedsNextBytes}
use Rattle.scl_outside.specs.Meaning.{Meaning}
use Rattle.scl_outside.specs.Events.{Event}
use Rattle.scl_outside.specs.Effects.{Effects, HasPassed, nothing, only_read, effects, and_then}
use Rattle.scl_outside.specs.Traces.{Trace, AtReads}
use Rattle.scl_outside.proofs.Traces.{trace_join, effects_then, at_reads_then, has_passed}
use Rattle.codestream_walk.specs.InHand.{input_limit}
use Rattle.codestream_walk.specs.Walking.{Stage, AtStart, AtNext, InBody, Walking, Seen, fed, reach, WantsIn}
use Rattle.codestream_walk.specs.Walks.{BeginsNext, NeedsItem}
use Rattle.codestream_walk.specs.Reading.{Waits}
use Rattle.codestream_walk.specs.WalkSteps.{WaitsItem, FixesItem}

-- in a packet: its header and these segments were given after what begins it
pub record InPacket (w : Walking) (given : List ℕ) (stage : Stage) (body : List ℕ) : Type 0 where
  pub head : Head
  pub place : Place
  pub blocks : List Block
  pub later : List Place
  pub size : ℕ
  pub left : ℕ
  pub header : List ℕ
  pub front : List ℕ
  pub next : BeginsNext w head (place ∷ later) size header
  pub is_precinct : IsPrecinct head place
  pub is : stage ≡ InBody head place blocks later (size + length (front ++ body)) left
  pub few_blocks : HasFewBlocks head place
  pub is_header : SpellsPacketHeader head place blocks front
  pub some : 1 ≤ left
  pub segments : length body + left ≡ segment_bytes blocks
  pub fits : length front + segment_bytes blocks ≤ 16777216
  pub whole : given ≡ header ++ (front ++ body)

-- what was given since a step's start
pub data Inside (w : Walking) (given : List ℕ) (stage : Stage) (body : List ℕ) : Type 0 where
  Between : stage ≡ AtStart → w.stage ≡ AtStart → given ≡ [] → Inside w given stage body
  Behind : (h : Head) → (later : List Place) → (size : ℕ) → BeginsNext w h later size given → stage ≡ AtNext h later size → Inside w given stage body
  Within : InPacket w given stage body → Inside w given stage body

-- bytes are wanted
wants_next : (h : Head) (later : List Place) (size codestreams : ℕ) (hand : List ℕ) → WantsIn (AtNext h later size) codestreams hand → NeedsNextBytes h later size hand
wants_next h [] size codestreams hand n = n
wants_next h (p ∷ later) size codestreams hand n = record { few_blocks = n.0; unfinished = inl n.1 }

wants_by : (s t : Stage) (codestreams : ℕ) (hand : List ℕ) → s ≡ t → WantsIn s codestreams hand → WantsIn t codestreams hand
wants_by s t codestreams hand e n = let P : Stage → Type 0 = λ x. WantsIn x codestreams hand in subst P e n

pub inside_needs : (w : Walking) (given hand all : List ℕ) (stage : Stage) (codestreams : ℕ) (body : List ℕ) → Inside w given stage body → all ≡ given ++ hand → codestreams ≡ w.codestreams → WantsIn stage codestreams hand → NeedsItem (record w { hand = all })
inside_needs w given hand all stage codestreams body (Between here start none) whole count n =
    let P : ℕ → Type 0 = λ c. WantsIn AtStart c hand in
    let Q : List ℕ → Type 0 = λ l. WantsIn AtStart w.codestreams l in
    let same : hand ≡ all = sym (whole ∙ ap (λ (l : List ℕ). l ++ hand) none) in
    inl (start, subst Q same (subst P count (wants_by stage AtStart codestreams hand here n)))
inside_needs w given hand all stage codestreams body (Behind h later size next here) whole count n =
    inr (record { head = h; later = later; size = size; header = given; rest = hand; next = next; whole = whole; needs = wants_next h later size codestreams hand (wants_by stage (AtNext h later size) codestreams hand here n) })
inside_needs w given hand all stage codestreams body (Within k) whole count n =
    let empty : hand ≡ [] = wants_by stage (InBody k.head k.place k.blocks k.later (k.size + length (k.front ++ body)) k.left) codestreams hand k.is n in
    let begins : BeginsPacket k.head k.place k.blocks k.front body (k.front ++ body) = record { few_blocks = k.few_blocks; is_header = k.is_header; whole = refl } in
    let split : all ≡ k.header ++ (k.front ++ body) = whole ∙ (ap (λ (l : List ℕ). given ++ l) empty ∙ (append-nil given ∙ k.whole)) in
    inr (record { head = k.head; later = k.place ∷ k.later; size = k.size; header = k.header; rest = k.front ++ body; next = k.next; whole = split; needs = record { few_blocks = k.few_blocks; unfinished = inr (record { blocks = k.blocks; header = k.front; rest = body; begins = begins; fits = k.fits; lacks = omega (arith, k.segments, k.some) }) } })

-- a walk so far
pub record SoFar (s t : Meaning) (w x : Walking) (body : List ℕ) (es : List Event) : Type 0 where
  pub trace : Trace s es t
  pub within : AtReads (WaitsItem w) nothing es
  pub bytes : List ℕ
  pub given : List ℕ
  pub reads : effects es ≡ only_read bytes
  pub are_bytes : IsBytes bytes
  pub hand : w.hand ++ bytes ≡ given ++ x.hand
  pub offset : x.offset ≡ w.offset + length given
  pub count : x.codestreams ≡ w.codestreams
  pub inside : Inside w given x.stage body

-- the bytes after more reads
pub all_bytes : (s t : Meaning) (w x : Walking) (body : List ℕ) (es : List Event) (r : List ℕ) → (p : SoFar s t w x body es) → w.hand ++ (p.bytes ++ r) ≡ p.given ++ (x.hand ++ r)
all_bytes s t w x body es r p = sym (append_assoc w.hand p.bytes r) ∙ (ap (λ (l : List ℕ). l ++ r) p.hand ∙ append_assoc p.given x.hand r)

all_read : (bytes : List ℕ) (f g : Effects) → f ≡ only_read bytes → g ≡ only_read g.read → and_then f g ≡ only_read (bytes ++ g.read)
all_read bytes f g e h = ap (λ (x : Effects). and_then x g) e ∙ ap (λ (x : Effects). and_then (only_read bytes) x) h

-- no call of a walk so far failed
pub walk_passed : (s t : Meaning) (w x : Walking) (body : List ℕ) (es : List Event) → SoFar s t w x body es → HasPassed (effects es)
walk_passed s t w x body es p = has_passed (effects es) (only_read p.bytes) p.reads (record { reads = refl; writes = refl; on_wire = refl })

-- what holds at each read
pub waits_item : (s t : Meaning) (w x : Walking) (body : List ℕ) (es : List Event) → (p : SoFar s t w x body es) → (f : Effects) → Waits x f → WaitsItem w (and_then (effects es) f)
waits_item s t w x body es p f k =
    let all = all_read p.bytes (effects es) f p.reads k.reads in
    let split = all_bytes s t w x body es f.read p in
    let needs = inside_needs w p.given (x.hand ++ f.read) (w.hand ++ (p.bytes ++ f.read)) x.stage x.codestreams body p.inside split p.count k.wants in
    let P : Effects → Type 0 = λ e. WaitsItem w e in
    let few : w.offset + length (w.hand ++ (p.bytes ++ f.read)) ≤ input_limit = omega (arith, k.within, p.offset, ap length split, length-append p.given (x.hand ++ f.read)) in
    subst P (sym all) (record { reads = refl; are_bytes = bytes_join p.bytes f.read p.are_bytes k.are_bytes; needs = needs; within = few })

-- a step of the reader adds to a walk
pub record Added (s r : Meaning) (w x : Walking) (given bytes : List ℕ) (es : List Event) : Type 0 where
  pub trace : Trace s es r
  pub within : AtReads (WaitsItem w) nothing es
  pub reads : effects es ≡ only_read bytes
  pub are_bytes : IsBytes bytes
  pub hand : w.hand ++ bytes ≡ given ++ x.hand

pub added : (s t r : Meaning) (w : Walking) (u : Seen) (body : List ℕ) (es fs : List Event) (p : SoFar s t w u.walk body es) → Trace t fs r → AtReads (Waits u.walk) nothing fs → effects fs ≡ only_read (effects fs).read → IsBytes (effects fs).read
    → Added s r w (fed u.walk (effects fs).read) p.given (p.bytes ++ (effects fs).read) (es ++ fs)
added s t r w u body es fs p trace within reads are = record {
  trace = trace_join s t r es fs p.trace trace;
  within = at_reads_then (Waits u.walk) (WaitsItem w) es fs p.within (walk_passed s t w u.walk body es p) (waits_item s t w u.walk body es p) within;
  reads = effects_then es fs _ _ p.reads reads;
  are_bytes = bytes_join p.bytes (effects fs).read p.are_bytes are;
  hand = all_bytes s t w u.walk body es (effects fs).read p;
}

-- the bytes that are in hand after a step of the reader fix a walk's answer
pub fixes_item : (Holds : Walking → Type 0) (s t r : Meaning) (w : Walking) (u : Seen) (body : List ℕ) (es fs : List Event) (p : SoFar s t w u.walk body es)
    → Added s r w (fed u.walk (effects fs).read) p.given (p.bytes ++ (effects fs).read) (es ++ fs) → reach (fed u.walk (effects fs).read) ≤ input_limit
    → Holds (fed w (p.bytes ++ (effects fs).read)) → FixesItem Holds w (effects (es ++ fs))
fixes_item Holds s t r w u body es fs p a few holds =
    let F : Effects → Type 0 = λ q. FixesItem Holds w q in
    let within : w.offset + length (w.hand ++ (p.bytes ++ (effects fs).read)) ≤ input_limit = omega (arith, few, p.offset, ap length a.hand, length-append p.given (u.walk.hand ++ (effects fs).read)) in
    subst F (sym a.reads) (record { reads = refl; are_bytes = a.are_bytes; within = within; gives = holds })
