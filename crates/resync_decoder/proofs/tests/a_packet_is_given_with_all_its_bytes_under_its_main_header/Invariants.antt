use Rattle.std.proofs.Common.{◌≡◌, true}
use Rattle.resync_decoder.proofs.tests.a_packet_is_given_with_all_its_bytes_under_its_main_header.Given as goal

-- no rule applies before a call
abbrev pub invariant-loop-heads : goal.invariant-loop-heads
invariant-loop-heads g l = l.decoder.waits ≡ true
