-- The calls of a machine's wire, each as one step of what it tells.
use Rattle.std.proofs.Common.{◌≡◌, ◌≢◌, ◌≤◌, ◌<◌, ◌+◌, ◌==◌, ℕ, zero, suc, min, Bool, true, false, List, [], ◌∷◌, ◌++◌, length, take, refl, sym, subst, ◌∙◌, ap, arith}
use Rattle.std.specs.Prelude.{slice_set, slice_index_or}
use Rattle.std.proofs.lemmas.Bool.{eqb-true, eq-eqb}
use Rattle.std.proofs.lemmas.List.{length-append, length-take}
use Rattle.wire_model.specs.Receptions.{Reception, Arrived}
use Rattle.wire_model.specs.LinkAnswers.{Sent, NotReady, Failed}
use Rattle.wire_model.specs.Receptions as receptions
use Rattle.scl_outside.specs.Meaning.{Parcel}
use Rattle.scl_outside.specs.Events.{WireEvent, OnWire, Received, Offered, Bound, Joined, asks, wire_fails}
use Rattle.scl_outside.specs.Steps.{Step, WireStep, Counts, Marks}
use Rattle.scl_outside.specs.WireAnswers.{IsAtFront}
use Rattle.scl_cli.specs.declared.machine.Peer.{Peer}
use Rattle.scl_cli.specs.MachineMeaning.{faults_at, machine_wire, machine_meaning}

-- a count that rises by one, and stays at the last value of 64 bits
pub risen : (n m : ℕ) → n < 18446744073709551616 → m ≡ min (n + 1) 18446744073709551615 → Counts true n m
risen n m fits is = (omega (arith, is, fits), omega (arith, is, fits))

marked : (r w f : ℕ) (ps : List Peer) (e : WireEvent) → Marks (asks (OnWire e)) (machine_meaning r w f ps) (machine_meaning r w f ps).marks
marked r w f ps (Received x) = tt
marked r w f ps (Offered parcel answer) = refl
marked r w f ps (Bound text done) = refl
marked r w f ps (Joined text done) = refl

on_wire : (r w f g : ℕ) (ps qs : List Peer) (e : WireEvent) → WireStep (machine_wire f ps) e (machine_wire g qs) → Step (machine_meaning r w f ps) (OnWire e) (machine_meaning r w g qs)
on_wire r w f g ps qs e h = record {
  some = tt;
  read = refl;
  left = refl;
  over = tt;
  written = refl;
  noted = refl;
  marks = marked r w f ps e;
  wire = (machine_wire g qs, h, record { inbound = refl; received = refl; sent = refl; replies = refl; bound = refl; joined = refl; peers = refl; faults = omega arith; peer_faults = λ j. omega arith });
  read_faults = omega arith;
  write_faults = omega arith;
}

-- a call for a datagram
pub received : (r w f r' w' g : ℕ) (ps qs : List Peer) (x : Reception) → r' ≡ r → w' ≡ w → qs ≡ ps → Counts (wire_fails (Received x)) f g → Step (machine_meaning r w f ps) (OnWire (Received x)) (machine_meaning r' w' g qs)
received r w f r' w' g ps qs x er ew eq h = rw (er, ew, eq) (on_wire r w f g ps ps (Received x) (step x h)) where
  step : (x : Reception) → Counts (wire_fails (Received x)) f g → WireStep (machine_wire f ps) (Received x) (machine_wire g ps)
  step (receptions.Arrived d) h = record { inbound = tt; received = tt; sent = refl; replies = refl; bound = refl; joined = refl; peers = omega arith; faults = h; peer_faults = λ j. omega arith }
  step receptions.NotReady h = record { inbound = tt; received = tt; sent = refl; replies = refl; bound = refl; joined = refl; peers = omega arith; faults = h; peer_faults = λ j. omega arith }
  step receptions.Closed h = record { inbound = tt; received = tt; sent = refl; replies = refl; bound = refl; joined = refl; peers = omega arith; faults = h; peer_faults = λ j. omega arith }
  step receptions.Failed h = record { inbound = tt; received = tt; sent = refl; replies = refl; bound = refl; joined = refl; peers = omega arith; faults = h; peer_faults = λ j. omega arith }

-- an address that is bound, or isn't
pub bound : (r w f g : ℕ) (ps : List Peer) (text : List ℕ) (done : Bool) → Counts (wire_fails (Bound text done)) f g → Step (machine_meaning r w f ps) (OnWire (Bound text done)) (machine_meaning r w g ps)
bound r w f g ps text true h = on_wire r w f g ps ps (Bound text true) (record { inbound = refl; received = refl; sent = refl; replies = refl; bound = tt; joined = tt; peers = omega arith; faults = h; peer_faults = λ j. omega arith })
bound r w f g ps text false h = on_wire r w f g ps ps (Bound text false) (record { inbound = refl; received = refl; sent = refl; replies = refl; bound = tt; joined = tt; peers = omega arith; faults = h; peer_faults = λ j. omega arith })

pub refused : (r w f r' w' g : ℕ) (ps qs : List Peer) (text : List ℕ) (done : Bool) → done ≡ false → r' ≡ r → w' ≡ w → qs ≡ ps → Counts true f g → Step (machine_meaning r w f ps) (OnWire (Bound text done)) (machine_meaning r' w' g qs)
refused r w f r' w' g ps qs text done fails er ew eq h = rw (fails, er, ew, eq) (bound r w f g ps text false h)

-- a new peer has no fault
more_peers : (ps : List Peer) (p : Peer) (j : ℕ) → faults_at ps j ≤ faults_at (ps ++ p ∷ []) j
unfolding faults_at
more_peers [] p j = omega arith
more_peers (q ∷ ps) p zero = omega arith
more_peers (q ∷ ps) p (suc j) = more_peers ps p j

-- a peer that is joined, and one that isn't
pub joined : (r w f : ℕ) (ps qs : List Peer) (p : Peer) (text : List ℕ) → qs ≡ ps ++ p ∷ [] → Step (machine_meaning r w f ps) (OnWire (Joined text true)) (machine_meaning r w f qs)
joined r w f ps qs p text is = rw is (on_wire r w f f ps (ps ++ p ∷ []) (Joined text true) (record { inbound = refl; received = refl; sent = refl; replies = refl; bound = tt; joined = tt; peers = omega (arith, length-append ps (p ∷ [])); faults = omega arith; peer_faults = λ j. more_peers ps p j }))

left_out : (r w f g : ℕ) (ps : List Peer) (text : List ℕ) → Counts true f g → Step (machine_meaning r w f ps) (OnWire (Joined text false)) (machine_meaning r w g ps)
left_out r w f g ps text h = on_wire r w f g ps ps (Joined text false) (record { inbound = refl; received = refl; sent = refl; replies = refl; bound = tt; joined = tt; peers = omega arith; faults = h; peer_faults = λ j. omega arith })

pub not_joined : (r w f r' w' g : ℕ) (ps qs : List Peer) (text : List ℕ) (done : Bool) → done ≡ false → r' ≡ r → w' ≡ w → qs ≡ ps → Counts true f g → Step (machine_meaning r w f ps) (OnWire (Joined text done)) (machine_meaning r' w' g qs)
not_joined r w f r' w' g ps qs text done fails er ew eq h = rw (fails, er, ew, eq) (left_out r w f g ps text h)

-- a datagram that was sent, or not yet
pub offered : (r w f : ℕ) (ps : List Peer) (parcel : Parcel) → Step (machine_meaning r w f ps) (OnWire (Offered parcel Sent)) (machine_meaning r w f ps)
offered r w f ps parcel = on_wire r w f f ps ps (Offered parcel Sent) (record { inbound = refl; received = refl; sent = tt; replies = tt; bound = refl; joined = refl; peers = omega arith; faults = omega arith; peer_faults = λ j. omega arith })

pub delayed : (r w f : ℕ) (ps : List Peer) (parcel : Parcel) → Step (machine_meaning r w f ps) (OnWire (Offered parcel NotReady)) (machine_meaning r w f ps)
delayed r w f ps parcel = on_wire r w f f ps ps (Offered parcel NotReady) (record { inbound = refl; received = refl; sent = tt; replies = tt; bound = refl; joined = refl; peers = omega arith; faults = omega arith; peer_faults = λ j. omega arith })

-- a send that failed counts for its peer
pub broken : (r w f : ℕ) (ps qs : List Peer) (parcel : Parcel) → length qs ≡ length ps → ((j : ℕ) → Counts (parcel.peer == j) (faults_at ps j) (faults_at qs j)) → Step (machine_meaning r w f ps) (OnWire (Offered parcel Failed)) (machine_meaning r w f qs)
broken r w f ps qs parcel same h = on_wire r w f f ps qs (Offered parcel Failed) (record { inbound = refl; received = refl; sent = tt; replies = tt; bound = refl; joined = refl; peers = omega (arith, same); faults = omega arith; peer_faults = h })

-- the faults of one peer change, and those of no other
same_peer : (ps : List Peer) (j : ℕ) (q : Peer) → j < length ps → faults_at (slice_set ps j q) j ≡ q.faults
unfolding faults_at
same_peer [] j q h = absurd (omega (arith, h))
same_peer (p ∷ ps) zero q h = refl
same_peer (p ∷ ps) (suc j) q h = same_peer ps j q (omega (arith, h))

other_peer : (ps : List Peer) (j k : ℕ) (q : Peer) → j ≢ k → faults_at (slice_set ps j q) k ≡ faults_at ps k
unfolding faults_at
other_peer [] j k q h = refl
other_peer (p ∷ ps) zero zero q h = absurd (h refl)
other_peer (p ∷ ps) zero (suc k) q h = refl
other_peer (p ∷ ps) (suc j) zero q h = refl
other_peer (p ∷ ps) (suc j) (suc k) q h = other_peer ps j k q (λ e. h (ap suc e))

faults_there : (ps : List Peer) (j : ℕ) (d : Peer) → j < length ps → (slice_index_or ps j d).faults ≡ faults_at ps j
unfolding faults_at
faults_there [] j d h = absurd (omega (arith, h))
faults_there (p ∷ ps) zero d h = refl
faults_there (p ∷ ps) (suc j) d h = faults_there ps j d (omega (arith, h))

count_by : (b : Bool) (n m : ℕ) → (b ≡ true → Counts true n m) → (b ≡ false → m ≡ n) → Counts b n m
count_by true n m rises same = rises refl
count_by false n m rises same = omega (arith, same refl)

pub one_fault : (ps : List Peer) (j : ℕ) (d q : Peer) → j < length ps → d ≡ slice_index_or ps j d → d.faults < 18446744073709551616 → q.faults ≡ min (d.faults + 1) 18446744073709551615
    → (k : ℕ) → Counts (j == k) (faults_at ps k) (faults_at (slice_set ps j q) k)
one_fault ps j d q h at fits is k =
    let P : ℕ → Type 0 = λ n. Counts true n (faults_at (slice_set ps j q) j) in
    let was : d.faults ≡ faults_at ps j = ap (λ (x : Peer). x.faults) at ∙ faults_there ps j d h in
    let rises : Counts true (faults_at ps j) (faults_at (slice_set ps j q) j) = subst P was (risen d.faults (faults_at (slice_set ps j q) j) fits (same_peer ps j q h ∙ is)) in
    count_by (j == k) (faults_at ps k) (faults_at (slice_set ps j q) k)
    (λ e. let Q : ℕ → Type 0 = λ i. Counts true (faults_at ps i) (faults_at (slice_set ps j q) i) in subst Q (eqb-true j k e) rises)
    (λ e. other_peer ps j k q (λ same. let c : true ≡ false = sym (eq-eqb j k same) ∙ e in absurd (cc)))

take-take : (n : ℕ) (xs : List ℕ) → take n (take n xs) ≡ take n xs
take-take zero xs = refl
take-take (suc n) [] = refl
take-take (suc n) (x ∷ xs) = ap (λ (l : List ℕ). x ∷ l) (take-take n xs)

-- bytes at the front of a buffer, as a datagram
pub at_front : (n : ℕ) (buf : List ℕ) → n ≤ length buf → IsAtFront (take n buf) n buf
at_front n buf h = record { count = omega (arith, h, length-take n buf); bytes = sym (take-take n buf) }
