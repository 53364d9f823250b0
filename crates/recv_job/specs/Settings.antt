-- What the words of `recv` ask for.
use Rattle.std.specs.Prelude.{◌≤◌, ◌<◌, ◌^◌, ℕ, List, length}
use Rattle.stream_model.specs.Receiver.{Pick}

-- A receiver picks a stream, takes at most this number of datagrams, ends after this number of calls
-- in a row that found none, and has a local address.
pub record Settings : Type 0 where
  pub pick : Pick
  pub max : ℕ
  pub idle : ℕ
  pub local : List ℕ

-- The ranges of these values: 1 to 16,384 datagrams of a window, 1 to 8,388,607 datagrams, an idle
-- count of 32 bits, and an address of 1 to 64 bytes.
pub record AreSettings (s : Settings) : Type 0 where
  pub some_window : 1 ≤ s.pick.window
  pub most_window : s.pick.window ≤ 16384
  pub some : 1 ≤ s.max
  pub most : s.max ≤ 8388607
  pub idles : 1 ≤ s.idle
  pub idle : s.idle < 2 ^ 32
  pub some_address : 1 ≤ length s.local
  pub short_address : length s.local ≤ 64
