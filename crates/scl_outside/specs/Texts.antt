-- A record of texts, each with a number.
use Rattle.std.specs.Prelude.{ℕ, ◌+◌, Bool, ◌&&◌, List, [], ◌∷◌, ◌++◌, Option, Some, None, if◌then◌else◌, length, nat_le, flat_map}
use Rattle.scl_outside.specs.Meaning.{Parcel}
use Rattle.scl_outside.specs.Places.{texts_at}
use Rattle.scl_outside.specs.declared.texts.Texts.{Texts}

-- These texts are in a record, told or not.
abbrev pub kept_texts : Texts → List Parcel
kept_texts t = texts_at t.bytes.items t.places.items

-- A record tells its texts as long as all of them fitted.
abbrev pub texts_of : Texts → Option (List Parcel)
texts_of t = if t.told then Some (kept_texts t) else None

-- A record has room for this number of texts, and for this number of bytes in all of them together.
abbrev pub texts_room : Texts → ℕ
texts_room t = t.room

-- One more text fits among these.
abbrev pub fits_text : {A : Type 0} → (A → List ℕ) → ℕ → List A → A → Bool
fits_text text room was item =
    nat_le (length was + 1) room && nat_le (length (flat_map text was) + length (text item)) room

-- After one more text came, all of them are told where it fits, and nothing from then on where it doesn't.
abbrev pub with_text : {A : Type 0} → (A → List ℕ) → ℕ → Option (List A) → A → Option (List A)
with_text text room None item = None
with_text text room (Some was) item = if fits_text text room was item then Some (was ++ item ∷ []) else None

-- After one more text these are told.
abbrev pub texts_after : Texts → Parcel → Option (List Parcel)
texts_after t text = with_text (λ p. p.bytes) (texts_room t) (texts_of t) text
