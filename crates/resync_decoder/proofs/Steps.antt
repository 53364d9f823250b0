-- One precinct of what the bytes settle to.
use Rattle.std.specs.Prelude.{IsSome}
use Rattle.std.proofs.Common.{◌≡◌, ◌<◌, true, [], Option, Some, None, refl, sym, ◌∙◌, subst}
use Rattle.codestream_model.specs.Bytes.{IsBytes}
use Rattle.stream_model.specs.Decoder as rules
use Rattle.stream_model.specs.Decoder.{Ruling, Releases, Changes, Waits, Release, settled}
use Rattle.stream_model.specs.DecoderLaws.{SettlesAs}
use Rattle.stream_model.proofs.Settles.{settled_follows_rules, weight, Falls, falls}
use Rattle.resync_decoder.specs.declared.decoder.Rule.TheVariants as rule
use Rattle.resync_decoder.specs.States.{DecoderState, IsFollowed, Gives}

released_by : (first d : rules.Decoder) (r : Ruling) (s : DecoderState) → settled first ≡ settled d → SettlesAs d r → IsFollowed r rule.Released s → Gives first s.given s
released_by first d (Releases x next) s so law (is, e) = (let P : DecoderState → Type 0 = λ k. Gives first k.given k in subst P (sym e) (so ∙ law))
released_by first d (Changes next) s so law (is, e) = absurd (cc)
released_by first d (Waits next) s so law (is, e) = absurd (cc)

pub step_released : (first d : rules.Decoder) (s : DecoderState) → settled first ≡ settled d → IsBytes d.bytes → IsFollowed (rules.rule d d.current) rule.Released s → Gives first s.given s
step_released first d s so b f = released_by first d (rules.rule d d.current) s so (settled_follows_rules d b) f

waited_by : (first d : rules.Decoder) (r : Ruling) (s : DecoderState) → settled first ≡ settled d → SettlesAs d r → IsFollowed r rule.Waits s → (settled first ≡ record { releases = []; decoder = s.rules }) × (s.waits ≡ true)
waited_by first d (Releases x next) s so law (is, e) = absurd (cc)
waited_by first d (Changes next) s so law (is, e) = absurd (cc)
waited_by first d (Waits next) s so law (is, e) = (let P : DecoderState → Type 0 = λ k. (settled first ≡ record { releases = []; decoder = k.rules }) × (k.waits ≡ true) in subst P (sym e) (so ∙ law, refl))

pub step_waited : (first d : rules.Decoder) (s : DecoderState) → settled first ≡ settled d → IsBytes d.bytes → IsFollowed (rules.rule d d.current) rule.Waits s → (settled first ≡ record { releases = []; decoder = s.rules }) × (s.waits ≡ true)
step_waited first d s so b f = waited_by first d (rules.rule d d.current) s so (settled_follows_rules d b) f

changed_by : (first d : rules.Decoder) (r : Ruling) (s : DecoderState) → settled first ≡ settled d → SettlesAs d r → Falls d r → IsFollowed r rule.Changed s → (settled first ≡ settled s.rules) × (weight s.rules < weight d)
changed_by first d (Releases x next) s so law fall (is, e) = absurd (cc)
changed_by first d (Changes next) s so law fall (is, e) = (let P : DecoderState → Type 0 = λ k. (settled first ≡ settled k.rules) × (weight k.rules < weight d) in subst P (sym e) (so ∙ law, fall.0))
changed_by first d (Waits next) s so law fall (is, e) = absurd (cc)

pub step_changed : (first d : rules.Decoder) (s : DecoderState) → settled first ≡ settled d → IsBytes d.bytes → IsFollowed (rules.rule d d.current) rule.Changed s → (settled first ≡ settled s.rules) × (weight s.rules < weight d)
step_changed first d s so b f = changed_by first d (rules.rule d d.current) s so (settled_follows_rules d b) (falls d b) f

-- what was given is there
given_by : (d : rules.Decoder) (o : Option Release) (s : DecoderState) → Gives d o s → IsSome o
given_by d None s g = absurd g
given_by d (Some x) s g = refl

pub step_given : (d : rules.Decoder) (s : DecoderState) → Gives d s.given s → IsSome s.given
step_given d s g = given_by d s.given s g
