-- What the words of a relay ask for.
use Rattle.std.specs.Prelude.{◌≤◌, ◌<◌, ◌^◌, ℕ, List, length, map}
use Rattle.std.specs.List.{AllByRecursion}

-- A receiver has an address, a limit, and a depth of its queue.
pub record Target : Type 0 where
  pub address : List ℕ
  pub limit : ℕ
  pub depth : ℕ

-- A relay takes at most this number of datagrams, ends after this number of idle turns in a row, and has a local
-- address and receivers.
pub record Settings : Type 0 where
  pub max : ℕ
  pub idle : ℕ
  pub local : List ℕ
  pub targets : List Target

-- The addresses of receivers, in their order.
abbrev pub addresses : List Target → List (List ℕ)
addresses targets = map (λ r. r.address) targets

-- An address has 1 to 64 bytes.
pub record IsAddress (text : List ℕ) : Type 0 where
  pub some : 1 ≤ length text
  pub few : length text ≤ 64

-- The ranges of a receiver's values.
pub record IsTarget (r : Target) : Type 0 where
  pub address : IsAddress r.address
  pub limit : r.limit ≤ 7
  pub some : 1 ≤ r.depth
  pub most : r.depth ≤ 4096

-- The ranges of a relay's values: 1 to 8,388,607 datagrams, an idle count of 32 bits, and 1 to 64 receivers.
pub record AreSettings (s : Settings) : Type 0 where
  pub some : 1 ≤ s.max
  pub most : s.max ≤ 8388607
  pub idles : 1 ≤ s.idle
  pub idle : s.idle < 2 ^ 32
  pub local : IsAddress s.local
  pub each : AllByRecursion IsTarget s.targets
  pub any : 1 ≤ length s.targets
  pub few : length s.targets ≤ 64
