-- What is promised of the main header: the computed reading is what the relations say, and no bytes can be read in two ways.
use Rattle.std.specs.Prelude.{◌≡◌, ◌≢◌, ℕ, List, ◌++◌, take, Ok, Err, MatchResult}
use Rattle.codestream_model.specs.Values.{Head}
use Rattle.codestream_model.specs.Bytes.{IsBytes}
use Rattle.codestream_model.specs.HeadRefusals.{HeadRefusal, Cut}
use Rattle.codestream_model.specs.HeadLimits.{IsWithinLimits}
use Rattle.codestream_model.specs.MainHeader.{SpellsHead}
use Rattle.codestream_model.specs.RefusedHeader.{RefusesHead}
use Rattle.codestream_model.specs.MainHeaderReading.{head_of}

-- Bytes that begin with a main header are read as that one, whatever follows it.
abbrev pub HeaderIsReadOneWay : Type 0
HeaderIsReadOneWay = (h : Head) (front more : List ℕ) → SpellsHead h front → head_of (front ++ more) ≡ Ok h

-- A refusal is the one that is computed.
abbrev pub RefusalIsReadOneWay : Type 0
RefusalIsReadOneWay = (b : List ℕ) (at : ℕ) (why : HeadRefusal) → RefusesHead b at why → head_of b ≡ Err (record { at = at; why = why })

-- Bytes begin with the main header that is computed, or are refused for the computed reason.
abbrev pub HeadersAreJudged : Type 0
HeadersAreJudged = (b : List ℕ) → IsBytes b → MatchResult (head_of b)
    (λ h. SpellsHead h (take h.length b))
    (λ r. RefusesHead b r.at r.why)

-- Bytes begin with at most one main header.
abbrev pub HeaderIsOne : Type 0
HeaderIsOne = (h g : Head) (front other more rest : List ℕ) → SpellsHead h front → SpellsHead g other → front ++ more ≡ other ++ rest → (h ≡ g) × (front ≡ other)

-- Bytes are refused in at most one way.
abbrev pub RefusalIsOne : Type 0
RefusalIsOne = (b : List ℕ) (at place : ℕ) (why reason : HeadRefusal) → RefusesHead b at why → RefusesHead b place reason → (at ≡ place) × (why ≡ reason)

-- Bytes that begin with a main header are not refused.
abbrev pub HeaderIsNotRefused : Type 0
HeaderIsNotRefused = (h : Head) (front more : List ℕ) (at : ℕ) (why : HeadRefusal) → SpellsHead h front → RefusesHead (front ++ more) at why → ⊥

-- The values of a main header are within the limits.
abbrev pub HeaderIsWithinLimits : Type 0
HeaderIsWithinLimits = (h : Head) (b : List ℕ) → IsBytes b → SpellsHead h b → IsWithinLimits h

-- A header that was read stays the same when more bytes follow.
abbrev pub HeaderStands : Type 0
HeaderStands = (b more : List ℕ) (h : Head) → IsBytes b → head_of b ≡ Ok h → head_of (b ++ more) ≡ Ok h

-- A refusal stays the same when more bytes follow, unless it was for the end of the bytes.
abbrev pub RefusalStands : Type 0
RefusalStands = (b more : List ℕ) (at : ℕ) (why : HeadRefusal) → why ≢ Cut → RefusesHead b at why → RefusesHead (b ++ more) at why
