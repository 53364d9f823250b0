-- Receivers of a relay, and a sender, each with its own link.
use Rattle.std.specs.Prelude.{◌≡◌, ℕ, List, [], ◌∷◌, refl, map, Some, codes}
use Rattle.std.proofs.Common.{arith}
use Rattle.std.proofs.lemmas.Fmt.{decimal_digit}
use Rattle.wire_model.specs.Receptions.{Reception, Arrived, NotReady, Closed}
use Rattle.wire_model.specs.LinkAnswers as link
use Rattle.wire_model.proofs.Captures.{main_of_b, first_body_of_b, second_body_of_b, third_body_of_b, last_body_of_b, codestream_of_b, main_header_of_three}
use Rattle.relay_model.specs.Queue.{untold, send_tale, poll, turns, flushes}
use Rattle.relay_model.specs.Relays.{relay_tale, left_over, flush_count}
use Rattle.relay_model.specs.Lines.{relay_lines, relay_line}

-- the five datagrams of a stream of three precincts: its Main and four Bodies
abbrev pub five : List (List ℕ)
five = main_of_b ∷ first_body_of_b ∷ second_body_of_b ∷ third_body_of_b ∷ last_body_of_b ∷ []

-- one of them a turn
abbrev pub one_a_turn : List Reception
one_a_turn = map (λ d. Arrived d) five

-- a link that is never ready, with a queue of one: after five turns and three flushes the first datagram is left, and the
-- others are lost
pub never_ready : relay_tale 7 1 one_a_turn (link.NotReady ∷ link.NotReady ∷ link.NotReady ∷ link.NotReady ∷ link.NotReady ∷ link.NotReady ∷ link.NotReady ∷ link.NotReady ∷ []) ≡ record { sent = []; lost = 4; failed = 0; left = main_of_b ∷ [] }
unfolding poll turns flushes main_of_b first_body_of_b second_body_of_b third_body_of_b last_body_of_b codestream_of_b main_header_of_three
never_ready = refl

-- a link that is always ready: all are sent
pub always_ready : relay_tale 7 1 one_a_turn (link.Sent ∷ link.Sent ∷ link.Sent ∷ link.Sent ∷ link.Sent ∷ []) ≡ record { sent = five; lost = 0; failed = 0; left = [] }
unfolding poll turns flushes main_of_b first_body_of_b second_body_of_b third_body_of_b last_body_of_b codestream_of_b main_header_of_three
always_ready = refl

-- a link whose second send fails
pub second_fails : relay_tale 7 1 one_a_turn (link.Sent ∷ link.Failed ∷ link.Sent ∷ link.Sent ∷ link.Sent ∷ [])
    ≡ record { sent = main_of_b ∷ second_body_of_b ∷ third_body_of_b ∷ last_body_of_b ∷ []; lost = 0; failed = 1; left = [] }
unfolding poll turns flushes main_of_b first_body_of_b second_body_of_b third_body_of_b last_body_of_b codestream_of_b main_header_of_three
second_fails = refl

-- a limit of 6 keeps the Main alone
pub main_alone : relay_tale 6 1 one_a_turn (link.Sent ∷ []) ≡ record { sent = main_of_b ∷ []; lost = 0; failed = 0; left = [] }
unfolding poll turns flushes main_of_b first_body_of_b second_body_of_b third_body_of_b last_body_of_b codestream_of_b main_header_of_three
main_alone = refl

-- one datagram whose link is ready at the second call: the turn leaves one answer over, and one flush takes it
pub ready_later : (flush_count (left_over 7 1 (Some main_of_b ∷ []) (link.NotReady ∷ link.Sent ∷ [])) ≡ 1)
    × (relay_tale 7 1 (Arrived main_of_b ∷ []) (link.NotReady ∷ link.Sent ∷ []) ≡ record { sent = main_of_b ∷ []; lost = 0; failed = 0; left = [] })
unfolding poll turns flushes main_of_b main_header_of_three
ready_later = (refl, refl)

-- a sender whose link is always ready, and one whose link never is, each with three waits
pub a_sender : (send_tale 3 0 untold five (link.Sent ∷ link.Sent ∷ link.Sent ∷ link.Sent ∷ link.Sent ∷ []) ≡ record { sent = five; lost = 0; failed = 0; left = [] })
    × (send_tale 3 0 untold (main_of_b ∷ first_body_of_b ∷ []) (link.NotReady ∷ link.NotReady ∷ link.NotReady ∷ link.NotReady ∷ link.NotReady ∷ link.NotReady ∷ []) ≡ record { sent = []; lost = 2; failed = 0; left = [] })
unfolding send_tale
a_sender = (refl, refl)

-- the lines of the first two receivers, where five datagrams were the most that were taken
pub two_receivers : relay_lines 5 one_a_turn (
    relay_tale 7 1 one_a_turn (link.NotReady ∷ link.NotReady ∷ link.NotReady ∷ link.NotReady ∷ link.NotReady ∷ link.NotReady ∷ link.NotReady ∷ link.NotReady ∷ [])
    ∷ relay_tale 7 1 one_a_turn (link.Sent ∷ link.Sent ∷ link.Sent ∷ link.Sent ∷ link.Sent ∷ []) ∷ []
    ) ≡ codes "RELAY end=max in=5 refused=0\nPEER 0 sent=0 lost=4 failed=0 left=1\nPEER 1 sent=5 lost=0 failed=0 left=0\n"
unfolding poll turns flushes main_of_b first_body_of_b second_body_of_b third_body_of_b last_body_of_b codestream_of_b main_header_of_three
two_receivers = rw (decimal_digit 0 (omega arith), decimal_digit 1 (omega arith), decimal_digit 4 (omega arith), decimal_digit 5 (omega arith)) refl

-- an empty datagram isn't well formed; the words for a wire that was closed, and for one on which nothing comes
pub other_ends : (relay_line 5 (Arrived [] ∷ Closed ∷ []) ≡ codes "RELAY end=closed in=1 refused=1\n")
    × (relay_line 5 (NotReady ∷ NotReady ∷ []) ≡ codes "RELAY end=idle in=0 refused=0\n")
other_ends = (rw (decimal_digit 1 (omega arith)) refl, rw (decimal_digit 0 (omega arith)) refl)
