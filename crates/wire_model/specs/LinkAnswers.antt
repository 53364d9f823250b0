-- What the link to a peer answers to a datagram that is to be sent.

-- The datagram went out; the link wasn't ready; the send failed.
pub data LinkAnswer : Type 0 where
  Sent : LinkAnswer
  NotReady : LinkAnswer
  Failed : LinkAnswer
