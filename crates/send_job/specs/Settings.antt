-- What the words of a sender ask for.
use Rattle.std.specs.Prelude.{◌≤◌, ◌<◌, ◌^◌, ℕ, List, length}
use Rattle.stream_model.specs.Cut.{Plan, IsPlan}

-- A sender has a plan for its datagrams, gives a datagram up once its link wasn't ready this number of times in a
-- row, and has a local address and the address of its peer.
pub record Settings : Type 0 where
  pub plan : Plan
  pub idle : ℕ
  pub local : List ℕ
  pub peer : List ℕ

-- An address has 1 to 64 bytes.
pub record IsAddress (text : List ℕ) : Type 0 where
  pub some : 1 ≤ length text
  pub few : length text ≤ 64

-- The ranges of a sender's values; its idle count is at least 1 and has 32 bits.
pub record AreSettings (s : Settings) : Type 0 where
  pub plan : IsPlan s.plan
  pub idles : 1 ≤ s.idle
  pub idle : s.idle < 2 ^ 32
  pub local : IsAddress s.local
  pub peer : IsAddress s.peer
