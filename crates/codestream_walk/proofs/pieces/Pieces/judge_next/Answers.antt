use Rattle.std.proofs.Common.{◌≡◌, ◌<◌, List, map, length, Some, subst, ◌∙◌, ap, arith}
use Rattle.codestream_model.specs.Values.{Place}
use Rattle.precinct_geometry.specs.Spans.{place_of}
use Rattle.packet_header.specs.Answers.{block_of}
use Rattle.codestream_walk.specs.InHand.{InHand}
use Rattle.codestream_walk.specs.Walking.{Stage, AtNext, Seen, Walking, Wants, Refuses, IsSound, IsDone}
use Rattle.codestream_walk.specs.Staging.{stage_of, staged, IsNextRead}
use Rattle.codestream_walk.specs.Progressions.{after_packet}
use Rattle.codestream_walk.specs.Faults.{walk_refusal}
use Rattle.codestream_model.proofs.ItemsJudged.{unfinished_short}
use Rattle.codestream_walk.proofs.Stages.{at_next, next_place, gives_start, sound_started, same_stage, wants_packet, refuses_packet, refused_answer, start_seen, has_begun, walk_of}
use Rattle.codestream_walk.proofs.NextReads.{unread, next_read}
use Rattle.codestream_walk.proofs.pieces.Pieces.judge_next.Goals as goal

pub judge-requires-clause-place : goal.judge-requires-clause-place
judge-requires-clause-place c = rw c.geometry-geometry.ensures c.in-Some-next.ensures.some.0

pub judge-requires-clause-so_far : goal.judge-requires-clause-so_far
judge-requires-clause-so_far c =
    let i = c.self.inside in
    let b = c.in-Some.begun in
    let place = c.in-Some-next.ensures.some in
    let e = ap (λ (v : Seen). v.walk.stage) c.self.view_is ∙ c.requires.3 in
    let f : stage_of i.state (Some b) (place_of i.place) (map block_of i.header.reader.blocks) i.size i.left ≡ AtNext c.requires.0 c.requires.1 c.requires.2 = rw c.in-Some.is at e in
    let read : IsNextRead i.state (Some b) i.header.fed i.header.reader i.input.bytes = rw c.in-Some.is at c.self.invariant.3 in
    rw (c.geometry-geometry.ensures, c.bytes.ensures) (next_read i.state b (place_of i.place) (map block_of i.header.reader.blocks) i.size i.left c.requires.0 c.requires.1 c.requires.2 _ i.header.fed i.header.reader i.input.bytes f place.1 read)

pub advance-requires : goal.advance-requires
advance-requires c = let place = c.in-Some-next.ensures.some in omega (arith, ap (λ (l : List Place). length l) place.1)

pub invariant_of-self-in-Whole : goal.invariant_of-self-in-Whole
invariant_of-self-in-Whole c =
    let i = c.self.inside in
    let b = c.in-Some.begun in
    let place = c.in-Some-next.ensures.some in
    let e = ap (λ (v : Seen). v.walk.stage) c.self.view_is ∙ c.requires.3 in
    let f : stage_of i.state (Some b) (place_of i.place) (map block_of i.header.reader.blocks) i.size i.left ≡ AtNext c.requires.0 c.requires.1 c.requires.2 = rw c.in-Some.is at e in
    let n = next_place i.state b (place_of i.place) (map block_of i.header.reader.blocks) i.size i.left c.requires.0 c.requires.1 c.requires.2 _ f place.1 in
    let sound : IsSound (stage_of i.state (Some b) (place_of i.place) (map block_of i.header.reader.blocks) i.size i.left) i.codestreams i.input.offset = rw c.in-Some.is at c.self.invariant.1 in
    (c.judge.ensures.room, rw (c.advance.ensures, c.state_with-self-inside.ensures) (sound_started i.state b (place_of i.place) (map block_of i.header.reader.blocks) i.size i.left c.requires.0 _ _ c.requires.2 i.codestreams i.input.offset c.give.new.self.offset c.in-Whole.used c.in-Whole.body (map block_of c.judge.new.self.reader.blocks) n sound (ap (λ (j : InHand). j.offset) c.give.ensures)), rw (c.advance.ensures, c.state_with-self-inside.ensures) (has_begun c.in-Whole.body (after_packet b)), rw (c.advance.ensures, c.state_with-self-inside.ensures) (unread (staged c.in-Whole.body) (Some (after_packet b)) c.judge.new.self.fed c.judge.new.self.reader c.give.new.self.bytes c.in-Whole.ensures.keeps))

pub returns-in-Whole : goal.returns-in-Whole
returns-in-Whole c =
    let i = c.self.inside in
    let b = c.in-Some.begun in
    let place = c.in-Some-next.ensures.some in
    let e = ap (λ (v : Seen). v.walk.stage) c.self.view_is ∙ c.requires.3 in
    let f : stage_of i.state (Some b) (place_of i.place) (map block_of i.header.reader.blocks) i.size i.left ≡ AtNext c.requires.0 c.requires.1 c.requires.2 = rw c.in-Some.is at e in
    let n = next_place i.state b (place_of i.place) (map block_of i.header.reader.blocks) i.size i.left c.requires.0 c.requires.1 c.requires.2 _ f place.1 in
    let judged = rw (c.bytes.ensures, c.geometry-geometry.ensures) at c.in-Whole.ensures.judged in
    start_seen _ _ _ c.self.view_is (rw (c.in-Some.is, c.advance.ensures, c.state_with-self-inside.ensures) (gives_start i.state b (place_of i.place) (map block_of i.header.reader.blocks) i.size i.left i.input c.give.new.self i.codestreams c.requires.0 _ _ c.requires.2 c.in-Whole.used c.in-Whole.body (map block_of c.judge.new.self.reader.blocks) n place.0 judged c.give.ensures))

pub returns-in-Refused : goal.returns-in-Refused
returns-in-Refused c =
    let i = c.self.inside in
    let b = c.in-Some.begun in
    let place = c.in-Some-next.ensures.some in
    let e = ap (λ (v : Seen). v.walk.stage) c.self.view_is ∙ c.requires.3 in
    let f : stage_of i.state (Some b) (place_of i.place) (map block_of i.header.reader.blocks) i.size i.left ≡ AtNext c.requires.0 c.requires.1 c.requires.2 = rw c.in-Some.is at e in
    let n = next_place i.state b (place_of i.place) (map block_of i.header.reader.blocks) i.size i.left c.requires.0 c.requires.1 c.requires.2 _ f place.1 in
    let parts = at_next i.state b (place_of i.place) (map block_of i.header.reader.blocks) i.size i.left c.requires.0 c.requires.1 c.requires.2 f in
    let judged = rw (c.bytes.ensures, c.geometry-geometry.ensures) at c.in-Refused.ensures.judged in
    let P : Seen → Type 0 = λ u. Refuses u.walk c.offset-at.result (walk_refusal c.in-Refused.why) in
    let Q : Seen → Type 0 = λ u. IsDone u.head c.refuse.new.self in
    refused_answer c.refuse.result c.offset-at.result c.in-Refused.why c.args.self.now c.refuse.new.self c.refuse.ensures.result
    (subst P c.self.view_is (rw c.in-Some.is (refuses_packet b _ c.requires.0 _ _ c.requires.2 i.codestreams i.input.offset c.offset-at.result i.input.bytes (walk_refusal c.in-Refused.why) n parts.1 judged c.offset-at.ensures.offset)))
    (subst Q (rw c.in-Some.is at c.self.view_is) c.refuse.ensures.done)

pub returns-in-Wants : goal.returns-in-Wants
returns-in-Wants c =
    let i = c.self.inside in
    let b = c.in-Some.begun in
    let place = c.in-Some-next.ensures.some in
    let e = ap (λ (v : Seen). v.walk.stage) c.self.view_is ∙ c.requires.3 in
    let f : stage_of i.state (Some b) (place_of i.place) (map block_of i.header.reader.blocks) i.size i.left ≡ AtNext c.requires.0 c.requires.1 c.requires.2 = rw c.in-Some.is at e in
    let n = next_place i.state b (place_of i.place) (map block_of i.header.reader.blocks) i.size i.left c.requires.0 c.requires.1 c.requires.2 _ f place.1 in
    let parts = at_next i.state b (place_of i.place) (map block_of i.header.reader.blocks) i.size i.left c.requires.0 c.requires.1 c.requires.2 f in
    let judged = rw (c.bytes.ensures, c.geometry-geometry.ensures) at c.in-Wants.ensures.judged in
    let walk : walk_of i.input i.codestreams (stage_of i.state (Some b) (place_of i.place) (map block_of i.header.reader.blocks) i.size i.left) ≡ c.args.self.now.walk = rw c.in-Some.is at (ap (λ (v : Seen). v.walk) c.self.view_is) in
    let P : Walking → Type 0 = λ w. Wants w × (length w.hand < 65538) in
    let short : length i.input.bytes < 65538 = unfinished_short b.head _ i.input.bytes judged.1 in
    let wants = subst P walk (wants_packet b _ c.requires.0 _ _ c.requires.2 i.codestreams i.input.bytes n parts.1 judged.0 judged.1, short) in
    record {
      walk = (ap (λ (s : Stage). walk_of i.input i.codestreams s) (same_stage i.state b (place_of i.place) (map block_of i.header.reader.blocks) (map block_of c.judge.new.self.reader.blocks) i.size i.left c.requires.0 c.requires.1 c.requires.2 f) ∙ walk);
      shown = rw c.in-Some.is at (ap (λ (v : Seen). v.head) c.self.view_is);
      wants = wants.0;
      short = wants.1;
    }

pub overflow_add-self : goal.overflow_add-self
overflow_add-self c =
    let i = c.self.inside in
    let b = c.in-Some.begun in
    let e = ap (λ (v : Seen). v.walk.stage) c.self.view_is ∙ c.requires.3 in
    let f : stage_of i.state (Some b) (place_of i.place) (map block_of i.header.reader.blocks) i.size i.left ≡ AtNext c.requires.0 c.requires.1 c.requires.2 = rw c.in-Some.is at e in
    let parts = at_next i.state b (place_of i.place) (map block_of i.header.reader.blocks) i.size i.left c.requires.0 c.requires.1 c.requires.2 f in
    let P : Stage → Type 0 = λ s. IsSound s i.codestreams i.input.offset in
    let sound = subst P e c.self.invariant.1 in
    omega (arith, sound.1, parts.3, c.in-Whole.ensures.judged.3, c.offset-at.ensures.within)
