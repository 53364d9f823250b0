-- The fields of a receiver as its state, and what holds of them.
use Rattle.std.specs.Prelude.{◌≡◌, ◌≤◌, ℕ, true, [], Option, None}
use Rattle.std.specs.List.{AllByRecursion}
use Rattle.wire_model.specs.Datagram.{datagram_of}
use Rattle.stream_model.specs.Arrivals.{is_of_kind}
use Rattle.stream_model.specs.WindowMaps.{window_as}
use Rattle.stream_model.specs.DrainLaws.{IsWindow}
use Rattle.stream_receiver.specs.declared.receiver.Receiver.TheInside.{Inside}
use Rattle.stream_receiver.specs.States.{ReceiverState, pick_of}

-- The state that these fields make: the window of the code holds frames, that of the rules their
-- datagrams.
abbrev pub state_of : Inside → ReceiverState
state_of d = record {
  pick = pick_of d.pick;
  rules = record {
    source = d.source;
    window = window_as datagram_of d.window.window;
    decoder = d.decoder.rules;
    releases = [];
    kept = d.kept;
    old = d.late;
    refused = d.refused;
  };
  given = d.decoder.given;
  settled = d.settled;
}

-- What holds of every receiver: the window holds datagrams of the payload type, each near its
-- base; before the first offer nothing is due, and until a source is picked there was none; and the
-- decoder waits where its rules were followed.
pub record IsSound (d : Inside) : Type 0 where
  pub size : d.window.size ≡ d.pick.window
  pub some : 1 ≤ d.pick.window
  pub near : IsWindow d.pick.window (window_as datagram_of d.window.window) d.window.window.base
  pub items : AllByRecursion (λ h. is_of_kind d.pick.kind h.item ≡ true) d.window.window.held
  pub sourced : d.source ≡ None → d.window.window.base ≡ None
  pub undue : d.window.window.base ≡ None → d.window.window.due ≡ 0
  pub waits : d.settled ≡ true → d.decoder.waits ≡ true
