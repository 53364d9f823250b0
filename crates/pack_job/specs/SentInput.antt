-- An input of codestreams that are sent in datagrams.
use Rattle.std.specs.Prelude.{◌≡◌, ◌≤◌, ◌+◌, ◌%◌, ℕ, List, map, length}
use Rattle.stream_model.specs.Cut.{Plan}
use Rattle.sender_model.specs.Refusals.{SenderRefusal, InputRefused, HeaderTooLong, TooManyDatagrams, SenderRefuses, SenderAccepts}
use Rattle.sender_model.specs.Lead.{LeavesOpen}
use Rattle.codestream_walk.specs.InHand.{input_limit}
use Rattle.parse_job.specs.Inputs.{reason_for}
use Rattle.scl_run.specs.declared.ending.Reason.{Reason}
use Rattle.scl_run.specs.declared.ending.Reason.TheVariants as reason
use Rattle.scl_run.specs.declared.ending.Refusal.{Refusal}
use Rattle.scl_run.specs.InputClass.{InputClass}

-- The numbers of an input as bytes: those of bytes are the bytes themselves.
abbrev pub octets : List ℕ → List ℕ
octets input = map (λ b. b % 256) input

-- The reason that is noted for a refusal of a sender.
abbrev pub sender_reason : SenderRefusal → Reason
sender_reason (InputRefused why) = reason_for why
sender_reason HeaderTooLong = reason.HeaderTooLong
sender_reason TooManyDatagrams = reason.TooManyDatagrams

-- The input is whole codestreams that can be sent.
abbrev pub AreSendable : Plan → List ℕ → Type 0
AreSendable p input = (codestreams : List (List ℕ)) × SenderAccepts p (octets input) codestreams

-- A sender refuses the input at this offset and for this reason.
abbrev pub RefusesToSend : Plan → List ℕ → Refusal → Type 0
RefusesToSend p input r =
    (why : SenderRefusal) × (r.reason ≡ sender_reason why) × SenderRefuses p (octets input) r.at why

-- Inputs of codestreams that are sent by a plan, read to their end or to the first byte after which they are refused
-- whatever follows.
abbrev pub sent_input : Plan → InputClass
sent_input p = record {
  Accepts = AreSendable p;
  Refuses = RefusesToSend p;
  AcceptsAtEnd = Unit {0};
  RefusesAtEnd = λ why. why ≡ reason.Cut;
  Wants = λ read. LeavesOpen p (octets read);
  Fits = λ read. length read ≤ input_limit + 1;
}
