use Rattle.std.proofs.Common.{◌≡◌, ◌<◌, ◌≤◌, ◌∙◌, ℕ, List, length, sym, subst, arith}
use Rattle.std.specs.Prelude.{slice_index_or}
use Rattle.thinning_relay.specs.declared.relay.Peer.{Peer}
use Rattle.relay_job.specs.Settings.{AreSettings, Settings}
use Rattle.relay_job.specs.Held.{peers_of}
use Rattle.relay_job.proofs.Lists.{PeersTo, peers_more, peers_all, limits_within, depths_some, depths_most}
use Rattle.relay_job.proofs.run.relay_for.Goals as goal

pub loop-j-preserved : goal.loop-j-preserved
loop-j-preserved c = peers_more _ _ _ _ _ (let low : c.loop-j.j < length c.args.settings.now.targets = omega (arith, c.count-j-end.ensures, c.loop-j-test.true) in low) c.peer.ensures c.in_ok-push.ensures.items c.loop-j.invariant

-- the peers are those of the targets
are_peers : (s : Settings) (i : ℕ) (items now : List Peer) → length s.targets ≤ i → now ≡ items → PeersTo i s.targets items → now ≡ peers_of s.targets
are_peers s i items now all e h = e ∙ peers_all i s.targets items all h

limits : (s : Settings) (now : List Peer) → AreSettings s → now ≡ peers_of s.targets → (k : ℕ) (d : Peer) → k < length now → (slice_index_or now k d).limit ≤ 7
limits s now h e = let P : List Peer → Type 0 = λ l. ((k : ℕ) (d : Peer) → k < length l → (slice_index_or l k d).limit ≤ 7) in subst P (sym e) (limits_within s.targets h.each)

some : (s : Settings) (now : List Peer) → AreSettings s → now ≡ peers_of s.targets → (k : ℕ) (d : Peer) → k < length now → 1 ≤ (slice_index_or now k d).depth
some s now h e = let P : List Peer → Type 0 = λ l. ((k : ℕ) (d : Peer) → k < length l → 1 ≤ (slice_index_or l k d).depth) in subst P (sym e) (depths_some s.targets h.each)

most : (s : Settings) (now : List Peer) → AreSettings s → now ≡ peers_of s.targets → (k : ℕ) (d : Peer) → k < length now → (slice_index_or now k d).depth ≤ 4096
most s now h e = let P : List Peer → Type 0 = λ l. ((k : ℕ) (d : Peer) → k < length l → (slice_index_or l k d).depth ≤ 4096) in subst P (sym e) (depths_most s.targets h.each)

pub new-requires-clause-limits : goal.new-requires-clause-limits
new-requires-clause-limits c = limits c.args.settings.now _ c.requires (are_peers c.args.settings.now c.loop-j.j _ _ (omega (arith, c.count-j-end.ensures, c.loop-j-test.false)) c.as_slice.ensures.value c.loop-j.invariant)

pub new-requires-clause-some : goal.new-requires-clause-some
new-requires-clause-some c = some c.args.settings.now _ c.requires (are_peers c.args.settings.now c.loop-j.j _ _ (omega (arith, c.count-j-end.ensures, c.loop-j-test.false)) c.as_slice.ensures.value c.loop-j.invariant)

pub new-requires-clause-most : goal.new-requires-clause-most
new-requires-clause-most c = most c.args.settings.now _ c.requires (are_peers c.args.settings.now c.loop-j.j _ _ (omega (arith, c.count-j-end.ensures, c.loop-j-test.false)) c.as_slice.ensures.value c.loop-j.invariant)
