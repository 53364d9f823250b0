-- What is promised of the decoder's rules: each of them says how the bytes settle, and what is settled waits.
use Rattle.std.specs.Prelude.{◌≡◌, []}
use Rattle.codestream_model.specs.Bytes.{IsBytes}
use Rattle.stream_model.specs.Decoder.{Decoder, Ruling, Releases, Changes, Waits, rule, settled, with_release}

-- What is settled of a decoder follows from what the rule that applies to it does.
abbrev pub SettlesAs : Decoder → Ruling → Type 0
SettlesAs d (Releases x next) = settled d ≡ with_release x (settled next)
SettlesAs d (Changes next) = settled d ≡ settled next
SettlesAs d (Waits next) = settled d ≡ record { releases = []; decoder = next }

-- Following the rules one after another gives what is settled, however long it takes.
abbrev pub SettledFollowsRules : Type 0
SettledFollowsRules = (d : Decoder) → IsBytes d.bytes → SettlesAs d (rule d d.current)

-- A decoder that is settled waits: no rule releases a packet or changes it.
abbrev pub SettledWaits : Type 0
SettledWaits = (d : Decoder) → IsBytes d.bytes → rule (settled d).decoder (settled d).decoder.current ≡ Waits (settled d).decoder
