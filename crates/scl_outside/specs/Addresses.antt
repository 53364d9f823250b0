-- The addresses of a wire in memory.
use Rattle.std.specs.Prelude.{◌≡◌, ◌+◌, ◌-◌, ◌^◌, ◌↔◌, ℕ, List, Option, Contains, map, option_map, min}
use Rattle.scl_outside.specs.Texts.{texts_of, texts_room, with_text}
use Rattle.scl_outside.specs.declared.texts.Texts.{Texts}
use Rattle.scl_outside.specs.declared.addresses.Addresses.{Addresses}
use Rattle.scl_outside.specs.declared.outside.BindOut.{BindOut}
use Rattle.scl_outside.specs.declared.outside.BindOut.TheVariants.{Bound, Failed}

-- These addresses are told of a record of them.
abbrev pub addresses_of : Texts → Option (List (List ℕ))
addresses_of t = option_map (map (λ p. p.bytes)) (texts_of t)

-- A call that names an address leaves these in the record.
abbrev pub named_after : BindOut → Texts → List ℕ → Option (List (List ℕ))
named_after Bound t text = with_text (λ l. l) (texts_room t) (addresses_of t) text
named_after Failed t text = addresses_of t

-- A peer comes where the call that joins it doesn't fail.
abbrev pub joined_peers : BindOut → ℕ
joined_peers Bound = 1
joined_peers Failed = 0

-- A call that names an address fails where its number is listed.
pub record IsNumbered (a : Addresses) (result : BindOut) (b : Addresses) : Type 0 where
  pub fails : (result ≡ Failed) ↔ Contains a.bad.items a.calls
  pub calls : b.calls ≡ min (a.calls + 1) (2 ^ 64 - 1)
  pub bad : b.bad ≡ a.bad

-- A call that names the local address records it where it doesn't fail.
pub record BindsNext (a : Addresses) (text : List ℕ) (result : BindOut) (b : Addresses) : Type 0 where
  pub numbered : IsNumbered a result b
  pub bound : addresses_of b.bound ≡ named_after result a.bound text
  pub room : texts_room b.bound ≡ texts_room a.bound
  pub joined : b.joined ≡ a.joined
  pub peers : b.peers ≡ a.peers

-- A call that joins a peer records its address where it doesn't fail.
pub record JoinsNext (a : Addresses) (text : List ℕ) (result : BindOut) (b : Addresses) : Type 0 where
  pub numbered : IsNumbered a result b
  pub joined : addresses_of b.joined ≡ named_after result a.joined text
  pub room : texts_room b.joined ≡ texts_room a.joined
  pub bound : b.bound ≡ a.bound
  pub peers : b.peers ≡ a.peers + joined_peers result
