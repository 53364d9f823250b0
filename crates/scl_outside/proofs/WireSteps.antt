-- What each call does to what a wire in memory tells.
use Rattle.std.proofs.Common.{◌≡◌, ◌≤◌, ◌<◌, ◌+◌, ◌-◌, ◌^◌, ℕ, Bool, true, false, eqb, List, [], ◌∷◌, ◌++◌, Option, Some, None, length, min, get_or, set, refl, sym, ◌∙◌, ap, subst, arith}
use Rattle.std.specs.Prelude.{not, ◌≢◌, if◌then◌else◌}
use Rattle.std.proofs.lemmas.Bool.Decides.{eqb_tells}
use Rattle.std.proofs.lemmas.List.{append-nil}
use Rattle.std.proofs.Common.{get_or-set_other, get_or-set_same, inl, inr, ◌⊎◌}
use Rattle.wire_model.specs.Causes.{Grew, Rose}
use Rattle.wire_model.specs.Receptions.{Reception, Arrived}
use Rattle.wire_model.specs.LinkAnswers.{LinkAnswer}
use Rattle.wire_model.specs.Receptions as receptions
use Rattle.scl_outside.specs.Meaning.{Parcel}
use Rattle.scl_outside.specs.Events.{Bound, Joined, Offered, Received, arrived_by, sent_by, bound_by, joined_by, peers_by, wire_fails, peer_fails}
use Rattle.scl_outside.specs.Steps.{WireStep, Moves, Loses, Counts}
use Rattle.scl_outside.specs.Record.{room_of}
use Rattle.scl_outside.specs.Texts.{texts_of, texts_room, with_text, fits_text}
use Rattle.scl_outside.specs.Inbound.{first_of, after_first, datagrams_in}
use Rattle.scl_outside.specs.Inbox.{entries_left, inbound_left, next_reception, received_of, IsReception, recv_fails}
use Rattle.scl_outside.specs.LinkPlans.{sent_after, faults_after, replies_of}
use Rattle.scl_outside.specs.Addresses.{addresses_of, named_after, joined_peers}
use Rattle.scl_outside.specs.WireAnswers.{is_bound, answer_of, parcel}
use Rattle.scl_outside.specs.WireMemory.{wire_of, ReceivesInMemory, SendsInMemory, BindsInMemory, JoinsInMemory}
use Rattle.scl_outside.specs.declared.inbox.Inbound.{Inbound}
use Rattle.scl_outside.specs.declared.inbox.Inbound.TheVariants as planned
use Rattle.scl_outside.specs.declared.inbox.Inbox.{Inbox}
use Rattle.scl_outside.specs.declared.links.Links.{Links}
use Rattle.scl_outside.specs.declared.addresses.Addresses.{Addresses}
use Rattle.scl_outside.specs.declared.texts.Texts.{Texts}
use Rattle.scl_outside.specs.declared.wire_mem.WireMem.{WireMem}
use Rattle.scl_outside.specs.declared.outside.BindOut.{BindOut}
use Rattle.scl_outside.specs.declared.outside.BindOut.TheVariants as bind
use Rattle.scl_outside.specs.declared.outside.RecvOut.{RecvOut}
use Rattle.scl_outside.specs.declared.outside.RecvOut.TheVariants as got
use Rattle.scl_outside.specs.declared.outside.SendOut.{SendOut}
use Rattle.scl_outside.specs.declared.outside.SendOut.TheVariants as sent
use Rattle.scl_outside.proofs.InMemory.{grew_room}

-- what is left after a call for a datagram
left_step : (never_fails : Bool) (entries : List Inbound) → Loses (Some (datagrams_in entries)) (Some (datagrams_in (after_first entries))) (arrived_by (Received (first_of never_fails entries)))
left_step never_fails [] = refl
left_step never_fails (planned.Datagram d ∷ rest) = refl
left_step never_fails (planned.NotReady ∷ rest) = refl
left_step never_fails (planned.Closed ∷ rest) = refl
left_step true (planned.Failed ∷ rest) = refl
left_step false (planned.Failed ∷ rest) = refl

-- a call for a datagram fails as it answers
fails_as : (result : RecvOut) (buf : List ℕ) (r : Reception) → IsReception result buf r → recv_fails result ≡ wire_fails (Received r)
fails_as (got.Got n) buf (receptions.Arrived d) h = refl
fails_as (got.Got n) buf receptions.NotReady h = absurd h
fails_as (got.Got n) buf receptions.Closed h = absurd h
fails_as (got.Got n) buf receptions.Failed h = absurd h
fails_as got.NotReady buf receptions.NotReady h = refl
fails_as got.NotReady buf (receptions.Arrived d) h = absurd h
fails_as got.NotReady buf receptions.Closed h = absurd h
fails_as got.NotReady buf receptions.Failed h = absurd h
fails_as got.Closed buf receptions.Closed h = refl
fails_as got.Closed buf (receptions.Arrived d) h = absurd h
fails_as got.Closed buf receptions.NotReady h = absurd h
fails_as got.Closed buf receptions.Failed h = absurd h
fails_as got.Failed buf receptions.Failed h = refl
fails_as got.Failed buf (receptions.Arrived d) h = absurd h
fails_as got.Failed buf receptions.NotReady h = absurd h
fails_as got.Failed buf receptions.Closed h = absurd h

count_stays : (was now : ℕ) → now ≡ was → was ≤ now
count_stays was now e = omega arith

no_more : (n : ℕ) → n ≡ n + 0
no_more n = omega arith

pub recv_step : (w v : WireMem) (result : RecvOut) (buf : List ℕ) → ReceivesInMemory w result buf v → Counts (recv_fails result) w.faults v.faults
    → WireStep (wire_of w) (Received (next_reception w.inbox)) (wire_of v)
recv_step w v result buf h f =
    let P : Option (List Reception) → Type 0 = λ o. Grew (received_of w.inbox) o (next_reception w.inbox ∷ []) in
    let Q : List Inbound → Type 0 = λ l. Loses (Some (datagrams_in (entries_left w.inbox))) (Some (datagrams_in l)) (arrived_by (Received (next_reception w.inbox))) in
    let R : Bool → Type 0 = λ b. Counts b w.faults v.faults in
    record {
      inbound = subst Q (sym h.takes.left) (left_step w.inbox.never_fails (entries_left w.inbox));
      received = subst P (sym h.takes.told) (grew_room (room_of w.inbox.answers) (received_of w.inbox) (next_reception w.inbox ∷ []));
      sent = ap (λ (l : Links). texts_of l.sent) h.links;
      replies = ap replies_of h.links;
      bound = ap (λ (a : Addresses). addresses_of a.bound) h.addresses;
      joined = ap (λ (a : Addresses). addresses_of a.joined) h.addresses;
      peers = ap (λ (a : Addresses). a.peers) h.addresses ∙ no_more w.addresses.peers;
      faults = subst R (fails_as result buf (next_reception w.inbox) h.takes.gives) f;
      peer_faults = λ peer. count_stays _ _ (ap (λ (l : Links). get_or l.faults peer 0) h.links);
    }

grew_text : {A : Type 0} (text : A → List ℕ) (room : ℕ) (was : Option (List A)) (one : A) → Grew was (with_text text room was one) (one ∷ [])
grew_text text room None one = tt
grew_text {A} text room (Some was) one = by_fit (fits_text text room was one) where
  by_fit : (b : Bool) → Grew (Some was) (if b then Some (was ++ one ∷ []) else None) (one ∷ [])
  by_fit true = refl
  by_fit false = tt

grew_same : {A : Type 0} (a : Option (List A)) → Grew a a []
grew_same None = tt
grew_same (Some x) = sym (append-nil x)

grew_to : {A : Type 0} (was now next : Option (List A)) (items : List A) → next ≡ now → Grew was now items → Grew was next items
grew_to {A} was now next items e g = let P : Option (List A) → Type 0 = λ o. Grew was o items in subst P (sym e) g

sent_step : (result : SendOut) (l : Links) (one : Parcel) (now : Option (List Parcel)) → now ≡ sent_after result l one → Moves (texts_of l.sent) now (sent_by (Offered one (answer_of result)))
sent_step sent.Sent l one now e = grew_to (texts_of l.sent) (sent_after sent.Sent l one) now _ e (grew_text (λ (p : Parcel). p.bytes) (texts_room l.sent) (texts_of l.sent) one)
sent_step sent.NotReady l one now e = grew_to (texts_of l.sent) (texts_of l.sent) now _ e (grew_same (texts_of l.sent))
sent_step sent.Failed l one now e = grew_to (texts_of l.sent) (texts_of l.sent) now _ e (grew_same (texts_of l.sent))

-- the counts of peers after a call to one of them
pub peer_counts : (result : SendOut) (was now : List ℕ) (peer : ℕ) (bytes : List ℕ) → now ≡ faults_after result was peer → peer < length was → get_or was peer 0 < 2 ^ 64
    → (p : ℕ) → Counts (peer_fails p (Offered (parcel peer bytes) (answer_of result))) (get_or was p 0) (get_or now p 0)
peer_counts sent.Sent was now peer bytes is below small p = count_stays _ _ (ap (λ (l : List ℕ). get_or l p 0) is)
peer_counts sent.NotReady was now peer bytes is below small p = count_stays _ _ (ap (λ (l : List ℕ). get_or l p 0) is)
peer_counts sent.Failed was now peer bytes is below small p = by (eqb_tells peer p) where
  at : get_or now p 0 ≡ get_or (set was peer (min (get_or was peer 0 + 1) (2 ^ 64 - 1))) p 0
  at = ap (λ (l : List ℕ). get_or l p 0) is

  risen : peer ≡ p → (get_or was p 0 ≤ get_or now p 0) × Rose (get_or was p 0) (get_or now p 0)
  risen same =
      let there : get_or now p 0 ≡ min (get_or was p 0 + 1) (2 ^ 64 - 1) =
      at ∙ ap (λ (q : ℕ). get_or (set was q (min (get_or was q 0 + 1) (2 ^ 64 - 1))) p 0) same ∙ get_or-set_same was p _ 0 (rw (sym same) below) in
      let least : get_or was p 0 < 2 ^ 64 = rw (sym same) small in
      (omega arith, omega arith)

  by : ((eqb peer p ≡ true) × (peer ≡ p)) ⊎ ((eqb peer p ≡ false) × (peer ≢ p)) → Counts (eqb peer p) (get_or was p 0) (get_or now p 0)
  by (inl (e, same)) = rw e (risen same)
  by (inr (e, other)) = rw e (count_stays _ _ (at ∙ get_or-set_other was peer p _ 0 (λ k. other (sym k))))

pub send_step : (w v : WireMem) (peer : ℕ) (bytes : List ℕ) (result : SendOut) → SendsInMemory w peer bytes result v → v.faults ≡ w.faults
    → WireStep (wire_of w) (Offered (parcel peer bytes) (answer_of result)) (wire_of v)
send_step w v peer bytes result h f =
    record {
      inbound = ap (λ (i : Inbox). Some (inbound_left i)) h.inbox;
      received = ap received_of h.inbox;
      sent = sent_step result w.links (parcel peer bytes) (texts_of v.links.sent) h.sends.sent;
      replies = grew_to (replies_of w.links) _ (replies_of v.links) _ h.sends.replies (grew_room (room_of w.links.replies) (replies_of w.links) _);
      bound = ap (λ (a : Addresses). addresses_of a.bound) h.addresses;
      joined = ap (λ (a : Addresses). addresses_of a.joined) h.addresses;
      peers = ap (λ (a : Addresses). a.peers) h.addresses ∙ no_more w.addresses.peers;
      faults = count_stays _ _ f;
      peer_faults = h.sends.counts;
    }

-- an address that was named
abbrev named_items : Bool → List ℕ → List (List ℕ)
named_items true text = text ∷ []
named_items false text = []

-- the addresses that a call leaves
named_step : (result : BindOut) (t : Texts) (text : List ℕ) (now : Option (List (List ℕ))) → now ≡ named_after result t text → Grew (addresses_of t) now (named_items (is_bound result) text)
named_step bind.Bound t text now e = grew_to (addresses_of t) (named_after bind.Bound t text) now _ e (grew_text (λ (l : List ℕ). l) (texts_room t) (addresses_of t) text)
named_step bind.Failed t text now e = grew_to (addresses_of t) (addresses_of t) now _ e (grew_same (addresses_of t))

bound_moves : (result : BindOut) (text : List ℕ) (a b : Option (List (List ℕ))) → Grew a b (named_items (is_bound result) text) → Moves a b (bound_by (Bound text (is_bound result)))
bound_moves bind.Bound text a b g = g
bound_moves bind.Failed text a b g = g

joined_moves : (result : BindOut) (text : List ℕ) (a b : Option (List (List ℕ))) → Grew a b (named_items (is_bound result) text) → Moves a b (joined_by (Joined text (is_bound result)))
joined_moves bind.Bound text a b g = g
joined_moves bind.Failed text a b g = g

joined_stays : (result : BindOut) (text : List ℕ) (a b : Option (List (List ℕ))) → b ≡ a → Moves a b (joined_by (Bound text (is_bound result)))
joined_stays bind.Bound text a b e = grew_to a a b [] e (grew_same a)
joined_stays bind.Failed text a b e = grew_to a a b [] e (grew_same a)

bound_stays : (result : BindOut) (text : List ℕ) (a b : Option (List (List ℕ))) → b ≡ a → Moves a b (bound_by (Joined text (is_bound result)))
bound_stays bind.Bound text a b e = grew_to a a b [] e (grew_same a)
bound_stays bind.Failed text a b e = grew_to a a b [] e (grew_same a)

bind_counts : (result : BindOut) (text : List ℕ) (a b : ℕ) → Counts (not (is_bound result)) a b → Counts (wire_fails (Bound text (is_bound result))) a b
bind_counts bind.Bound text a b h = h
bind_counts bind.Failed text a b h = h

join_counts : (result : BindOut) (text : List ℕ) (a b : ℕ) → Counts (not (is_bound result)) a b → Counts (wire_fails (Joined text (is_bound result))) a b
join_counts bind.Bound text a b h = h
join_counts bind.Failed text a b h = h

join_peers : (result : BindOut) (text : List ℕ) (a b : ℕ) → b ≡ a + joined_peers result → b ≡ a + peers_by (Joined text (is_bound result))
join_peers bind.Bound text a b h = h
join_peers bind.Failed text a b h = h

pub bind_step : (w v : WireMem) (text : List ℕ) (result : BindOut) → BindsInMemory w text result v → Counts (not (is_bound result)) w.faults v.faults → WireStep (wire_of w) (Bound text (is_bound result)) (wire_of v)
bind_step w v text result h f =
    record {
      inbound = ap (λ (i : Inbox). Some (inbound_left i)) h.inbox;
      received = ap received_of h.inbox;
      sent = ap (λ (l : Links). texts_of l.sent) h.links;
      replies = ap replies_of h.links;
      bound = bound_moves result text _ _ (named_step result w.addresses.bound text (addresses_of v.addresses.bound) h.binds.bound);
      joined = joined_stays result text _ _ (ap addresses_of h.binds.joined);
      peers = h.binds.peers ∙ no_more w.addresses.peers;
      faults = bind_counts result text w.faults v.faults f;
      peer_faults = λ peer. count_stays _ _ (ap (λ (l : Links). get_or l.faults peer 0) h.links);
    }

pub join_step : (w v : WireMem) (text : List ℕ) (result : BindOut) → JoinsInMemory w text result v → Counts (not (is_bound result)) w.faults v.faults → WireStep (wire_of w) (Joined text (is_bound result)) (wire_of v)
join_step w v text result h f =
    record {
      inbound = ap (λ (i : Inbox). Some (inbound_left i)) h.inbox;
      received = ap received_of h.inbox;
      sent = ap (λ (l : Links). texts_of l.sent) h.links;
      replies = ap replies_of h.links;
      bound = bound_stays result text _ _ (ap addresses_of h.joins.bound);
      joined = joined_moves result text _ _ (named_step result w.addresses.joined text (addresses_of v.addresses.joined) h.joins.joined);
      peers = join_peers result text w.addresses.peers v.addresses.peers h.joins.peers;
      faults = join_counts result text w.faults v.faults f;
      peer_faults = λ peer. count_stays _ _ (ap (λ (l : Links). get_or l.faults peer 0) h.links);
    }
