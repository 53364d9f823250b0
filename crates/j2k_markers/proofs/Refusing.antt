-- A refusal that is met is what the model reads, with the place that the walk gives it.
use Rattle.std.proofs.Common.{◌≡◌, ◌<◌, ◌≤◌, ℕ, zero, suc, Bool, true, false, List, [], ◌∷◌, ◌++◌, length, refl, sym, ◌∙◌, ap, inl, inr, arith}
use Rattle.std.specs.Prelude.{◌==◌, Option, Some, Err, if◌then◌else◌}
use Rattle.std.proofs.lemmas.Bool.{cases_lt, or_parts, lt-ltb, le-ltb}
use Rattle.codestream_model.specs.Bytes.{two_at}
use Rattle.codestream_model.specs.Segments.{SIZ, CAP, COD, SOT, Segment, segment_at}
use Rattle.codestream_model.specs.HeadRefusals.{HeadRefusal, Cut, TooLong, NoSoc, Quant, Test, first_refusal}
use Rattle.codestream_model.specs.RefusedHeader.{wanting, place_of, segment_tests, skipped_tests, refusal_next, refusal_behind}
use Rattle.codestream_model.specs.MainHeaderReading.{refused, read_tile, read_main}
use Rattle.codestream_model.proofs.HeaderSteps.{main_stops, tile_stops}
use Rattle.j2k_markers.specs.declared.head.HeadWhy.{HeadWhy}
use Rattle.j2k_markers.specs.declared.head.HeadWhy.TheVariants as why
use Rattle.j2k_markers.specs.declared.head.HeadFault.{HeadFault}
use Rattle.j2k_markers.specs.declared.segments.Before.{Before}
use Rattle.j2k_markers.specs.Before.{place_kept, IsKept}
use Rattle.j2k_markers.specs.Refusals.{why_of, read_as}

-- the place of a refusal by what is kept
place_is : (b : List ℕ) (w : Before) (before : List Segment) (r : HeadRefusal) → IsKept w before → place_of b before r ≡ place_kept b w (why_of r)
place_is b w before Cut k = refl
place_is b w before TooLong k = refl
place_is b w before NoSoc k = refl
place_is b w before Quant k = sym k.quant
place_is b w before r k = sym k.place

-- so a fault with that place is the answer
pub answer_refused : (b : List ℕ) (w : Before) (before : List Segment) (r : HeadRefusal) (f : HeadFault) (e : HeadWhy) → IsKept w before → f.at ≡ place_kept b w e → f.why ≡ e → why_of r ≡ e → Err f ≡ read_as (refused b before r)
answer_refused b w before r f e k at why same =
    let place : f.at ≡ place_of b before r = at ∙ (ap (λ (x : HeadWhy). place_kept b w x) (sym same) ∙ sym (place_is b w before r k)) in
    let reason : f.why ≡ why_of r = why ∙ sym same in
    let whole : record { at = f.at; why = f.why } ≡ record { at = place_of b before r; why = why_of r } = cc in
    ap (λ (x : HeadFault). Err x) whole

-- two refusals that are met first are one
one_refusal : (o : Option HeadRefusal) (r s : HeadRefusal) → o ≡ Some r → o ≡ Some s → r ≡ s
one_refusal o r s e f = cc

-- where nothing is left a byte is wanted
want_next : (b : List ℕ) (before : List Segment) (rest : List ℕ) → length rest ≤ 0 → refusal_next b before rest ≡ Some (wanting b)
unfolding segment_tests
want_next b before rest none = rw (lt-ltb (length rest) 2 (omega arith)) refl

-- after SOT too
want_behind : (b : List ℕ) (rest : List ℕ) → length rest ≤ 0 → refusal_behind b rest ≡ Some (wanting b)
unfolding skipped_tests
want_behind b rest none = rw (lt-ltb (length rest) 2 (omega arith)) refl

-- no more segments are read up to SOT
main_spent : (b : List ℕ) (before : List Segment) (rest : List ℕ) → read_main 0 b before rest ≡ refused b before (wanting b)
unfolding read_main
main_spent b before rest = refl

-- or after it
tile_spent : (b : List ℕ) (main : List Segment) (tile : Segment) (skipped : List Segment) (rest : List ℕ) → read_tile 0 b main tile skipped rest ≡ refused b (main ++ tile ∷ skipped) (wanting b)
unfolding read_tile
tile_spent b main tile skipped rest = refl

-- a refusal that is met up to SOT is what is read
pub main_refuses : (left : ℕ) (b : List ℕ) (before : List Segment) (rest : List ℕ) (r : HeadRefusal) → length rest ≤ left → refusal_next b before rest ≡ Some r → read_main left b before rest ≡ refused b before r
main_refuses zero b before rest r room e = main_spent b before rest ∙ ap (λ (x : HeadRefusal). refused b before x) (one_refusal (refusal_next b before rest) (wanting b) r (want_next b before rest room) e)
main_refuses (suc n) b before rest r room e = main_stops n b before rest r e

-- and one that is met after it
pub tile_refuses : (left : ℕ) (b : List ℕ) (main : List Segment) (tile : Segment) (skipped : List Segment) (rest : List ℕ) (r : HeadRefusal) → length rest ≤ left → refusal_behind b rest ≡ Some r → read_tile left b main tile skipped rest ≡ refused b (main ++ tile ∷ skipped) r
tile_refuses zero b main tile skipped rest r room e = tile_spent b main tile skipped rest ∙ ap (λ (x : HeadRefusal). refused b (main ++ tile ∷ skipped) x) (one_refusal (refusal_behind b rest) (wanting b) r (want_behind b rest room) e)
tile_refuses (suc n) b main tile skipped rest r room e = tile_stops n b main tile skipped rest r e

-- The program's reason is that the bytes end too early only where the definitions' reason is.
pub why_cut : (r : HeadRefusal) → why_of r ≡ why.Cut → r ≡ Cut
why_cut Cut e = refl
why_cut r e = absurd (cc)
