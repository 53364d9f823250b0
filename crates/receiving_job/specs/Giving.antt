-- What putting out the packets that a receiver gives does.
use Rattle.std.specs.Prelude.{◌≡◌, ◌++◌, ℕ, Bool, true, List, [], length}
use Rattle.std.specs.List.{AllByRecursion}
use Rattle.wire_model.specs.Bytes.{IsBytes}
use Rattle.stream_model.specs.Decoder.{Release}
use Rattle.stream_model.specs.Receiver as rules
use Rattle.stream_model.specs.Receiver.{received, take_frame, flushed}
use Rattle.stream_model.specs.ReceiverJoins.{forgetful, having_given}
use Rattle.scl_outside.specs.Meaning.{Meaning}
use Rattle.scl_outside.specs.Events.{Event}
use Rattle.scl_outside.specs.declared.duct.PutOut.{PutOut}
use Rattle.scl_outside.specs.declared.duct.PutOut.TheVariants.{Done, WriteFault}
use Rattle.scl_outside.specs.Writing.{Puts}
use Rattle.stream_receiver.specs.States.{ReceiverState, counted}
use Rattle.receiving_job.specs.Sinks.{PutsMore}

-- A receiver that has given all that it can give by now: the decoder's rules were followed, and
-- nothing is due.
pub record IsReady (s : ReceiverState) : Type 0 where
  pub settled : s.settled ≡ true
  pub undue : s.rules.window.due ≡ 0
  pub fresh : s.rules.releases ≡ []

-- A receiver has taken as many frames of bytes as it counts, and given these packets.
pub record HasGiven (s : ReceiverState) (xs : List Release) : Type 0 where
  pub frames : List (List ℕ)
  pub are_bytes : AllByRecursion IsBytes frames
  pub count : length frames ≡ counted s.rules
  pub is : received s.pick frames ≡ having_given xs s.rules

-- A receiver that is ready has given these packets, and they were put.
pub record Stands (HasPut : List Release → Type 0) (s : ReceiverState) (xs : List Release) : Type 0 where
  pub has_put : HasPut xs
  pub has_given : HasGiven s xs

-- The receiver once all that these rules give was put out; nothing is said after a write that
-- failed.
abbrev pub IsLeft : PutOut → rules.Receiver → ReceiverState → Type 0
IsLeft Done r t = (t.rules ≡ forgetful r) × IsReady t
IsLeft WriteFault r t = Unit {0}

-- All these packets were put, where no write failed.
abbrev pub ArePut : PutOut → (List Release → Type 0) → List Release → Type 0
ArePut Done HasPut xs = HasPut xs
ArePut WriteFault HasPut xs = Unit {0}

-- After the packets `xs` all that these rules give was put out, and this receiver is left.
pub record Gives
    (so_far : List Release → List ℕ) (HasPut : List Release → Type 0) (xs : List Release) (r : rules.Receiver)
    (result : PutOut) (t : ReceiverState) (m n : Meaning) (es : List Event)
    : Type 0 where
  pub puts : PutsMore so_far xs r.releases m n result es
  pub put : ArePut result HasPut (xs ++ r.releases)
  pub left : IsLeft result r t

-- A receiver's end: what is put out there was written, up to what these rules make.
pub record Ends
    (so_far : List Release → List ℕ) (made : rules.Receiver → Bool → List ℕ) (xs : List Release) (r : rules.Receiver)
    (m n : Meaning) (result : PutOut) (es : List Event)
    : Type 0 where
  pub text : List ℕ
  pub adds : made (having_given xs r) true ≡ so_far xs ++ text
  pub puts : Puts text m n result es
