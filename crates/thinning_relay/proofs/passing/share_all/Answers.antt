use Rattle.std.proofs.Common.{◌≡◌, ◌<◌, ◌∙◌, length, refl, ap, sym, get_or, arith, ℕ, List, Some}
use Rattle.std.specs.Rc.{rc_slice_items}
use Rattle.thinning_relay.specs.Passing.{share_at}
use Rattle.thinning_relay.specs.declared.receiver.Receiver.{Receiver}
use Rattle.thinning_relay.proofs.Flushing.{get_at}
use Rattle.thinning_relay.proofs.Loops.{changing_none, changing_more}
use Rattle.thinning_relay.proofs.Sharing.{Shared, stopped, all_shared}
use Rattle.thinning_relay.proofs.passing.share_all.Goals as goal

-- the item at a place, whatever stands for a place that isn't there
one_limit : (xs : List Receiver) (i : ℕ) (a b : Receiver) → i < length xs → (get_or xs i a).limit ≡ (get_or xs i b).limit
one_limit xs i a b h = let e : Some (get_or xs i a) ≡ Some (get_or xs i b) = sym (get_at xs i a h) ∙ get_at xs i b h in let f : get_or xs i a ≡ get_or xs i b = cc in ap (λ (r : Receiver). r.limit) f

pub loop-j-init : goal.loop-j-init
loop-j-init c = changing_none (Shared c.args.level (rc_slice_items c.args.copy.now)) c.args.receivers.now

pub loop-j-preserved : goal.loop-j-preserved
loop-j-preserved c =
    let e = c.loop-j.invariant.count in
    let within : c.loop-j.j < length c.loop-j.receivers = omega arith in
    let same = one_limit c.loop-j.receivers c.loop-j.j c.index-receivers-j.result c.index-receivers-j-in-loop-j.result within in
    changing_more (Shared c.args.level (rc_slice_items c.args.copy.now)) c.loop-j.j c.args.receivers.now c.loop-j.receivers c.index-receivers-j-in-loop-j.result _ (omega arith) c.loop-j.invariant
    (record { same = record { limit = refl; queue = refl; sent = refl; lost = refl; failed = refl }; share = c.in_ok-share.ensures ∙ ap (λ (n : ℕ). share_at c.args.level (rc_slice_items c.args.copy.now) n) same })

pub returns-in_err-share-clause-kept : goal.returns-in_err-share-clause-kept
returns-in_err-share-clause-kept c = stopped c.args.level (rc_slice_items c.args.copy.now) c.loop-j.j _ _ c.loop-j.invariant

pub returns-clause-shared : goal.returns-clause-shared
returns-clause-shared c = let e = c.loop-j.invariant.count in all_shared c.args.level (rc_slice_items c.args.copy.now) c.loop-j.j _ _ (omega arith) c.loop-j.invariant

pub returns-clause-kept : goal.returns-clause-kept
returns-clause-kept c = stopped c.args.level (rc_slice_items c.args.copy.now) c.loop-j.j _ _ c.loop-j.invariant
