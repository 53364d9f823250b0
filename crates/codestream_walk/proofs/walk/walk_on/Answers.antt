use Rattle.std.proofs.Common.{rules, ◌≡◌, true, false, [], ◌++◌, length, refl, ap, arith, List, ℕ, vec_len}
use Rattle.std.proofs.lemmas.Grind.{common_steps}
use Rattle.codestream_walk.specs.Walking.{in_body}
use Rattle.codestream_walk.proofs.Exits.{head_goes, start_gives, more_gives, eoc_gives}
use Rattle.codestream_walk.proofs.Stops.{end_stops, fault_stops, refused_stops, so_far_none, body_fits, start_goes_to, more_goes_to, rank_start, rank_more, item_by, packet_shown}
use Rattle.codestream_walk.proofs.walk.walk_on.Goals as goal

pub loop-body-init : goal.loop-body-init
loop-body-init g c = (([], so_far_none _ _ _ c.requires.live c.requires.item), c.requires.room)

pub loop-body-preserved-in-Head : goal.loop-body-preserved-in-Head
loop-body-preserved-in-Head g c = let p = c.loop-body.invariant in let k = c.in-Head.ensures.steps in ((p.0.0 ++ k.0, head_goes _ _ _ _ c.loop-body.pieces c.step.new.self _ _ _ p.0.1 k.1), p.1)

pub returns-then-not-in_body-clause-walks : goal.returns-then-not-in_body-clause-walks
returns-then-not-in_body-clause-walks g c =
    let p = c.loop-body.invariant in
    let k = c.in-Start.ensures.steps in
    let shows = c.in-Start.ensures.shows in
    let none : in_body c.step.new.self.walk.stage ≡ false = search rules in
    (p.0.0 ++ k.0, start_gives _ _ _ _ c.loop-body.pieces c.step.new.self _ _ _ _ p.0.1 k.1 none shows refl refl refl (ap (λ (l : List ℕ). record { blocks = c.step.new.self.blocks; bytes = l }) c.clear.ensures.items))

pub loop-body-preserved-else-not-in_body : goal.loop-body-preserved-else-not-in_body
loop-body-preserved-else-not-in_body g c =
    let p = c.loop-body.invariant in
    let k = c.in-Start.ensures.steps in
    let more : in_body c.step.new.self.walk.stage ≡ true = search rules in
    let room = p.1 in
    ((p.0.0 ++ k.0, start_goes_to _ _ _ _ c.loop-body.pieces c.step.new.self _ _ _ _ p.0.1 k.1 more c.clear.ensures.items), omega (arith, room, c.clear.ensures.capacity))

pub returns-in-FrameEnd-clause-walks : goal.returns-in-FrameEnd-clause-walks
returns-in-FrameEnd-clause-walks g c = let p = c.loop-body.invariant in let k = c.in-FrameEnd.ensures.steps in (p.0.0 ++ k.0, eoc_gives _ _ _ _ c.loop-body.pieces c.step.new.self _ _ _ _ p.0.1 k.1 refl)

pub returns-in-End-clause-walks : goal.returns-in-End-clause-walks
returns-in-End-clause-walks g c = let p = c.loop-body.invariant in let k = c.in-End.ensures.steps in (p.0.0 ++ k.0, end_stops _ _ _ _ c.loop-body.pieces c.step.new.self _ _ _ _ p.0.1 k.1 refl)

pub returns-in-Refused-clause-walks : goal.returns-in-Refused-clause-walks
returns-in-Refused-clause-walks g c = let p = c.loop-body.invariant in let k = c.in-Refused.ensures.steps in (p.0.0 ++ k.0, refused_stops _ _ _ _ c.loop-body.pieces c.step.new.self _ _ _ _ c.in-Refused.fault p.0.1 refl k.1)

pub returns-in-ReadFault-clause-walks : goal.returns-in-ReadFault-clause-walks
returns-in-ReadFault-clause-walks g c = let p = c.loop-body.invariant in let k = c.in-ReadFault.ensures.steps in (p.0.0 ++ k.0, fault_stops _ _ _ _ c.loop-body.pieces c.step.new.self _ _ _ _ p.0.1 k.1 refl)

pub returns-then-not-in_body-2-clause-walks : goal.returns-then-not-in_body-2-clause-walks
returns-then-not-in_body-2-clause-walks g c =
    let p = c.loop-body.invariant in
    let k = c.in-More.ensures.steps in
    let fits = body_fits _ _ _ _ c.loop-body.pieces c.step.new.self _ _ _ p.0.1 k.1 in
    let shown = ap length c.bytes.ensures in
    let room = p.1 in
    let long : vec_len c.loop-body.body ≡ length c.loop-body.body.items = grind (arith, common_steps) in
    let all : c.extend_from_slice.new.self.items ≡ c.loop-body.body.items ++ c.step.new.self.given = grind (arith, common_steps) in
    let shows = c.in-More.ensures.shows in
    let none : in_body c.step.new.self.walk.stage ≡ false = search rules in
    (p.0.0 ++ k.0, more_gives _ _ _ _ c.loop-body.pieces c.step.new.self _ _ _ _ p.0.1 k.1 none shows refl refl refl (ap (λ (l : List ℕ). record { blocks = c.step.new.self.blocks; bytes = l }) all))

pub loop-body-preserved : goal.loop-body-preserved
loop-body-preserved g c =
    let p = c.loop-body.invariant in
    let k = c.in-More.ensures.steps in
    let fits = body_fits _ _ _ _ c.loop-body.pieces c.step.new.self _ _ _ p.0.1 k.1 in
    let shown = ap length c.bytes.ensures in
    let room = p.1 in
    let long : vec_len c.loop-body.body ≡ length c.loop-body.body.items = grind (arith, common_steps) in
    let all : c.extend_from_slice.new.self.items ≡ c.loop-body.body.items ++ c.step.new.self.given = grind (arith, common_steps) in
    let more : in_body c.step.new.self.walk.stage ≡ true = search rules in
    ((p.0.0 ++ k.0, more_goes_to _ _ _ _ c.loop-body.pieces c.step.new.self _ _ _ _ p.0.1 k.1 more all), omega (arith, room, c.extend_from_slice.ensures.capacity))

pub loop-body-smaller-else-not-in_body : goal.loop-body-smaller-else-not-in_body
loop-body-smaller-else-not-in_body g c =
    let k = c.in-Start.ensures.steps in
    let more : in_body c.step.new.self.walk.stage ≡ true = search rules in
    rank_start _ _ c.loop-body.pieces c.step.new.self _ k.1 more

pub returns-then-not-in_body-clause-item : goal.returns-then-not-in_body-clause-item
returns-then-not-in_body-clause-item g c = let none : in_body c.step.new.self.walk.stage ≡ false = search rules in item_by c.step.new.self.walk.stage none

pub returns-then-not-in_body-2-clause-item : goal.returns-then-not-in_body-2-clause-item
returns-then-not-in_body-2-clause-item g c = let none : in_body c.step.new.self.walk.stage ≡ false = search rules in item_by c.step.new.self.walk.stage none

pub returns-then-not-in_body-clause-packet : goal.returns-then-not-in_body-clause-packet
returns-then-not-in_body-clause-packet g c = λ e. let k = returns-then-not-in_body-clause-walks g c in packet_shown _ _ _ _ _ k.1

pub returns-then-not-in_body-2-clause-packet : goal.returns-then-not-in_body-2-clause-packet
returns-then-not-in_body-2-clause-packet g c = λ e. let k = returns-then-not-in_body-2-clause-walks g c in packet_shown _ _ _ _ _ k.1

pub loop-body-smaller : goal.loop-body-smaller
loop-body-smaller g c =
    let k = c.in-More.ensures.steps in
    let more : in_body c.step.new.self.walk.stage ≡ true = search rules in
    rank_more _ _ c.loop-body.pieces c.step.new.self _ k.1 more
