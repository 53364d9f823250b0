-- Addresses that are recorded.
use Rattle.std.proofs.Common.{◌≡◌, ℕ, Bool, true, false, List, [], ◌∷◌, ◌++◌, Option, Some, None, map, refl, ◌∙◌, ap, subst}
use Rattle.std.specs.Prelude.{option_map, flat_map, if◌then◌else◌}
use Rattle.std.proofs.lemmas.List.{map-append, length-map}
use Rattle.scl_outside.specs.Meaning.{Parcel}
use Rattle.scl_outside.specs.WireAnswers.{parcel}
use Rattle.scl_outside.specs.Texts.{texts_of, texts_room, with_text, fits_text}
use Rattle.scl_outside.specs.declared.texts.Texts.{Texts}
use Rattle.scl_outside.specs.Addresses.{addresses_of}

abbrev bytes : Parcel → List ℕ
bytes p = p.bytes

joined-map : (was : List Parcel) → flat_map (λ (l : List ℕ). l) (map bytes was) ≡ flat_map bytes was
joined-map [] = refl
joined-map (p ∷ was) = ap (λ (l : List ℕ). p.bytes ++ l) (joined-map was)

fits_same : (room : ℕ) (was : List Parcel) (p : Parcel) → fits_text (λ l. l) room (map bytes was) p.bytes ≡ fits_text bytes room was p
fits_same room was p = rw (length-map, joined-map was) refl

-- the bytes of a record of texts with one more are those before, with one more
pub with_bytes : (room : ℕ) (was : Option (List Parcel)) (p : Parcel) → option_map (map bytes) (with_text bytes room was p) ≡ with_text (λ (l : List ℕ). l) room (option_map (map bytes) was) p.bytes
with_bytes room None p = refl
with_bytes room (Some was) p = rw (fits_same room was p) (by_fit (fits_text bytes room was p)) where
  by_fit : (b : Bool) → option_map (map bytes) (if b then Some (was ++ p ∷ []) else None) ≡ (if b then Some (map bytes was ++ p.bytes ∷ []) else None)
  by_fit true = ap (λ (l : List (List ℕ)). Some l) (map-append bytes was (p ∷ []))
  by_fit false = refl

-- a record of addresses after one more text was put into it
pub named : (t u : Texts) (was : Texts) (owner : ℕ) (text word : List ℕ) → text ≡ word → t ≡ was → texts_of u ≡ with_text bytes (texts_room t) (texts_of t) (parcel owner text)
    → addresses_of u ≡ with_text (λ (l : List ℕ). l) (texts_room was) (addresses_of was) word
named t u was owner text word same kept told =
    let P : Texts → Type 0 = λ x. texts_of u ≡ with_text bytes (texts_room x) (texts_of x) (parcel owner text) in
    let from : texts_of u ≡ with_text bytes (texts_room was) (texts_of was) (parcel owner text) = subst P kept told in
    ap (λ (o : Option (List Parcel)). option_map (map bytes) o) from ∙ with_bytes (texts_room was) (texts_of was) (parcel owner text) ∙ ap (λ (l : List ℕ). with_text (λ (x : List ℕ). x) (texts_room was) (addresses_of was) l) same
