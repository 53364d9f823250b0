-- The values of a header that is read lie within the limits, by the laws of the model.
use Rattle.std.proofs.Common.{◌≡◌, List, ℕ, take}
use Rattle.std.specs.Prelude.{Ok}
use Rattle.std.proofs.lemmas.Result.{MatchResult-at_ok}
use Rattle.codestream_model.specs.Values.{Head}
use Rattle.codestream_model.specs.Bytes.{IsBytes}
use Rattle.codestream_model.specs.HeadLimits.{IsWithinLimits}
use Rattle.codestream_model.specs.MainHeader.{SpellsHead}
use Rattle.codestream_model.specs.MainHeaderReading.{Refused, head_of}
use Rattle.codestream_model.specs.RefusedHeader.{RefusesHead}
use Rattle.codestream_model.proofs.HeaderJudged.{headers_are_judged}
use Rattle.codestream_model.proofs.HeaderLimits.{header_is_within_limits}
use Rattle.codestream_model.proofs.SegmentBytes.{bytes-take}

-- a header that is read is one
pub spelt : (b : List ℕ) (h : Head) → IsBytes b → head_of b ≡ Ok h → SpellsHead h (take h.length b)
spelt b h fits e = MatchResult-at_ok (λ (g : Head). SpellsHead g (take g.length b)) (λ (r : Refused). RefusesHead b r.at r.why) h e (headers_are_judged b fits)

-- so its values lie within the limits
pub within : (b : List ℕ) (h : Head) → IsBytes b → head_of b ≡ Ok h → IsWithinLimits h
within b h fits e = header_is_within_limits h (take h.length b) (bytes-take h.length b fits) (spelt b h fits e)
