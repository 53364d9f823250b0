-- A wire on which nothing happened yet.
use Rattle.std.proofs.Common.{◌≡◌, ℕ, zero, suc, List, [], Some, get_or, replicate, refl, ◌∙◌, ap}
use mathlib.Core.Path.{fun_ext}
use Rattle.scl_outside.specs.Texts.{texts_of}
use Rattle.scl_outside.specs.Inbox.{inbound_left, received_of}
use Rattle.scl_outside.specs.LinkPlans.{replies_of}
use Rattle.scl_outside.specs.Addresses.{addresses_of}
use Rattle.scl_outside.specs.WireMemory.{wire_of, fresh_wire}
use Rattle.scl_outside.specs.declared.inbox.Inbox.{Inbox}
use Rattle.scl_outside.specs.declared.links.Links.{Links}
use Rattle.scl_outside.specs.declared.addresses.Addresses.{Addresses}

zeros : (n p : ℕ) → ◌≡◌ {A = ℕ} (get_or (replicate n 0) p 0) 0
zeros zero p = refl
zeros (suc n) zero = refl
zeros (suc n) (suc p) = zeros n p

-- the parts of a wire on which nothing happened
pub record IsFresh (inbound : List (List ℕ)) (i : Inbox) (l : Links) (a : Addresses) : Type 0 where
  pub left : inbound_left i ≡ inbound
  pub received : received_of i ≡ Some []
  pub sent : texts_of l.sent ≡ Some []
  pub replies : replies_of l ≡ Some []
  pub faults : l.faults ≡ replicate 64 0
  pub bound : addresses_of a.bound ≡ Some []
  pub joined : addresses_of a.joined ≡ Some []
  pub peers : a.peers ≡ 0

pub fresh : (inbound : List (List ℕ)) (i : Inbox) (l : Links) (a : Addresses) → IsFresh inbound i l a → wire_of (record { inbox = i; links = l; addresses = a; faults = 0 }) ≡ fresh_wire inbound
fresh inbound i l a h =
    let none : (p : ℕ) → get_or l.faults p 0 ≡ 0 = λ p. ap (λ (f : List ℕ). get_or f p 0) h.faults ∙ zeros 64 p in
    let all : (λ (p : ℕ). get_or l.faults p 0) ≡ (λ (p : ℕ). 0) = fun_ext none in
    rw (h.left, h.received, h.sent, h.replies, h.bound, h.joined, h.peers, all) refl
