-- Places in a list of bytes, and the texts there.
use Rattle.std.specs.Prelude.{ℕ, ◌-◌, Bool, true, ◌&&◌, List, [], ◌∷◌, nat_le, take, drop, flat_map}
use Rattle.scl_outside.specs.Meaning.{Parcel}
use Rattle.scl_outside.specs.WireAnswers.{parcel}
use Rattle.scl_outside.specs.declared.texts.Place.{Place}

-- This place is a range of `len` bytes.
abbrev pub is_within : ℕ → Place → Bool
is_within len p = nat_le p.start p.end && nat_le p.end len

-- Each of these places is a range of `len` bytes.
abbrev pub are_within : ℕ → List Place → Bool
are_within len [] = true
are_within len (p ∷ places) = is_within len p && are_within len places

-- This is the text at a place, cut out of the bytes.
abbrev pub text_at : List ℕ → Place → Parcel
text_at bytes p = parcel p.owner (take (p.end - p.start) (drop p.start bytes))

-- These are the texts at the places.
abbrev pub texts_at : List ℕ → List Place → List Parcel
texts_at bytes [] = []
texts_at bytes (p ∷ places) = text_at bytes p ∷ texts_at bytes places

-- These are the bytes of a list of texts, one text after another.
abbrev pub joined : List Parcel → List ℕ
joined texts = flat_map (λ t. t.bytes) texts
