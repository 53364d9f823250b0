-- What is made of lists, item by item.
use Rattle.std.proofs.Common.{◌≡◌, ◌≤◌, ◌<◌, ◌+◌, ◌*◌, ◌++◌, ℕ, zero, suc, List, [], ◌∷◌, Some, length, get_or, drop-cons, refl, sym, ◌∙◌, ap, subst, arith, append_assoc, length-append}
use Rattle.std.specs.Prelude.{slice_get, slice_index_or, drop}
use Rattle.std.specs.List.{AllByRecursion}
use Rattle.std.proofs.lemmas.List.{append-nil}
use Rattle.thinning_relay.proofs.Flushing.{get_at}
use Rattle.thinning_relay.specs.declared.receiver.Receiver.{Receiver}
use Rattle.thinning_relay.specs.declared.relay.Peer.{Peer}
use Rattle.relay_job.specs.Settings.{Target, IsTarget}
use Rattle.relay_job.specs.Held.{peers_of}
use Rattle.relay_job.specs.Lines.{count_line, count_lines}
use Rattle.relay_job.proofs.Working.{place}

-- a target where there is none
abbrev pub no_target : Target
no_target = record { address = []; limit = 0; depth = 0 }

-- the item at a place, and the others after it
pub ahead : {A : Type 0} (xs : List A) (i : ℕ) (d : A) → i < length xs → drop i xs ≡ get_or xs i d ∷ drop (i + 1) xs
ahead {A} xs i d low = let e : suc i ≡ i + 1 = omega arith in drop-cons xs i d low ∙ ap (λ (n : ℕ). get_or xs i d ∷ drop n xs) e

pub drop_end : {A : Type 0} (xs : List A) (i : ℕ) → length xs ≤ i → drop i xs ≡ []
drop_end [] zero h = refl
drop_end [] (suc i) h = refl
drop_end (x ∷ xs) zero h = absurd (omega arith)
drop_end (x ∷ xs) (suc i) h = drop_end xs i (omega arith)

-- the peers of the first targets
pub record PeersTo (i : ℕ) (targets : List Target) (peers : List Peer) : Type 0 where
  pub size : length peers ≡ i
  pub all : peers ++ peers_of (drop i targets) ≡ peers_of targets

pub peers_none : (targets : List Target) (peers : List Peer) → peers ≡ [] → PeersTo 0 targets peers
peers_none targets peers e = let P : List Peer → Type 0 = λ l. PeersTo 0 targets l in subst P (sym e) (record { size = refl; all = refl })

pub peers_more : (i : ℕ) (targets : List Target) (peers now : List Peer) (p : Peer) → i < length targets → ((r : Target) → slice_get targets i ≡ Some r → p ≡ record { limit = r.limit; depth = r.depth }) → now ≡ peers ++ p ∷ [] → PeersTo i targets peers → PeersTo (i + 1) targets now
peers_more i targets peers now p low is e h =
    let r = get_or targets i no_target in
    let f : p ≡ record { limit = r.limit; depth = r.depth } = is r (get_at targets i no_target low) in
    let P : List Peer → Type 0 = λ l. PeersTo (i + 1) targets l in
    subst P (sym e) (record {
      size = length-append peers (p ∷ []) ∙ (let n = h.size in let k : length peers + 1 ≡ i + 1 = omega (arith, n) in k);
      all = append_assoc peers (p ∷ []) (peers_of (drop (i + 1) targets)) ∙ ap (λ (x : Peer). peers ++ x ∷ peers_of (drop (i + 1) targets)) f ∙ ap (λ (l : List Target). peers ++ peers_of l) (sym (ahead targets i no_target low)) ∙ h.all;
    })

pub peers_all : (i : ℕ) (targets : List Target) (peers : List Peer) → length targets ≤ i → PeersTo i targets peers → peers ≡ peers_of targets
peers_all i targets peers all h = sym (append-nil peers) ∙ (ap (λ (l : List Target). peers ++ peers_of l) (sym (drop_end targets i all)) ∙ h.all)

-- the ranges of peers
pub limits_within : (targets : List Target) → AllByRecursion IsTarget targets → (k : ℕ) (d : Peer) → k < length (peers_of targets) → (slice_index_or (peers_of targets) k d).limit ≤ 7
limits_within [] all k d low = absurd (omega arith)
limits_within (r ∷ targets) all zero d low = all.0.limit
limits_within (r ∷ targets) all (suc k) d low = limits_within targets all.1 k d (omega arith)

pub depths_some : (targets : List Target) → AllByRecursion IsTarget targets → (k : ℕ) (d : Peer) → k < length (peers_of targets) → 1 ≤ (slice_index_or (peers_of targets) k d).depth
depths_some [] all k d low = absurd (omega arith)
depths_some (r ∷ targets) all zero d low = all.0.some
depths_some (r ∷ targets) all (suc k) d low = depths_some targets all.1 k d (omega arith)

pub depths_most : (targets : List Target) → AllByRecursion IsTarget targets → (k : ℕ) (d : Peer) → k < length (peers_of targets) → (slice_index_or (peers_of targets) k d).depth ≤ 4096
depths_most [] all k d low = absurd (omega arith)
depths_most (r ∷ targets) all zero d low = all.0.most
depths_most (r ∷ targets) all (suc k) d low = depths_most targets all.1 k d (omega arith)

-- the lines of the first receivers
pub record LinesTo (i : ℕ) (rs : List Receiver) (first bytes : List ℕ) : Type 0 where
  pub size : length bytes ≤ 70 + 132 * i
  pub all : bytes ++ count_lines i (drop i rs) ≡ first ++ count_lines 0 rs

pub lines_none : (rs : List Receiver) (first before bytes : List ℕ) → before ≡ [] → length bytes ≤ length before + 70 → bytes ≡ before ++ first → LinesTo 0 rs first bytes
lines_none rs first before bytes none few e = record {
  size = (let n : length before ≡ 0 = ap (λ (l : List ℕ). length l) none in omega (arith, few, n));
  all = ap (λ (l : List ℕ). l ++ count_lines 0 rs) (e ∙ ap (λ (l : List ℕ). l ++ first) none);
}

pub lines_more : (i : ℕ) (rs : List Receiver) (first bytes now : List ℕ) → i < length rs → ((r : Receiver) → slice_get rs i ≡ Some r → now ≡ bytes ++ count_line i r) → length now ≤ length bytes + 132 → LinesTo i rs first bytes → LinesTo (i + 1) rs first now
lines_more i rs first bytes now low is few h =
    let d = (place rs i low).0 in
    let r = get_or rs i d in
    let e : now ≡ bytes ++ count_line i r = is r (get_at rs i d low) in
    record {
      size = (let n = h.size in omega (arith, few, n));
      all = ap (λ (l : List ℕ). l ++ count_lines (i + 1) (drop (i + 1) rs)) e ∙ append_assoc bytes (count_line i r) (count_lines (i + 1) (drop (i + 1) rs)) ∙ ap (λ (l : List Receiver). bytes ++ count_lines i l) (sym (ahead rs i d low)) ∙ h.all;
    }

pub lines_all : (i : ℕ) (rs : List Receiver) (first bytes : List ℕ) → length rs ≤ i → LinesTo i rs first bytes → bytes ≡ first ++ count_lines 0 rs
lines_all i rs first bytes all h = sym (append-nil bytes) ∙ (ap (λ (l : List Receiver). bytes ++ count_lines i l) (sym (drop_end rs i all)) ∙ h.all)
