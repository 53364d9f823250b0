-- Conditions judged one after another: a refusal of the first ones is one of all, and where there is none the others are judged.
use Rattle.std.proofs.Common.{◌≡◌, List, [], ◌∷◌, ◌++◌, false, true, refl, sym, ◌∙◌, ap}
use Rattle.std.specs.Prelude.{Bool, Option, Some, None, Result, Ok, Err, if◌then◌else◌}
use Rattle.codestream_model.specs.HeadRefusals.{HeadRefusal, Test, first_refusal}
use Rattle.j2k_markers.specs.declared.head.HeadWhy.{HeadWhy}
use Rattle.j2k_markers.specs.Refusals.{judged, why_of}

-- a refusal of one condition or of those after it
pub test_then : (why : HeadRefusal) (fails : Bool) (x y : Option HeadRefusal) (w : HeadRefusal) → (x ≡ Some w → y ≡ Some w) → (if fails then Some why else x) ≡ Some w → (if fails then Some why else y) ≡ Some w
test_then why true x y w f e = e
test_then why false x y w f e = f e

-- a refusal of the first conditions is one of all
pub first_of_both : (xs ys : List Test) (w : HeadRefusal) → first_refusal xs ≡ Some w → first_refusal (xs ++ ys) ≡ Some w
first_of_both [] ys w e = absurd (cc)
first_of_both (t ∷ xs) ys w e = test_then t.why t.fails (first_refusal xs) (first_refusal (xs ++ ys)) w (first_of_both xs ys w) e

-- none of one condition and none after it
pub none_then : (why : HeadRefusal) (fails : Bool) (x y z : Option HeadRefusal) → (x ≡ None → y ≡ z) → (if fails then Some why else x) ≡ None → (if fails then Some why else y) ≡ z
none_then why true x y z f e = absurd (cc)
none_then why false x y z f e = f e

-- where the first conditions are not met the others are judged
pub second_of_both : (xs ys : List Test) → first_refusal xs ≡ None → first_refusal (xs ++ ys) ≡ first_refusal ys
second_of_both [] ys e = refl
second_of_both (t ∷ xs) ys e = none_then t.why t.fails (first_refusal xs) (first_refusal (xs ++ ys)) (first_refusal ys) (second_of_both xs ys) e

-- a judge's error is a refusal
pub judged_err : (o : Option HeadRefusal) (e : HeadWhy) → judged o ≡ Err e → (w : HeadRefusal) × (o ≡ Some w) × (why_of w ≡ e)
judged_err None e h = absurd (cc)
judged_err (Some w) e h = (w, refl, cc)

-- and where it has none there is none
pub judged_ok : (o : Option HeadRefusal) (u : Unit {0}) → judged o ≡ Ok u → o ≡ None
judged_ok None u h = refl
judged_ok (Some w) u h = absurd (cc)

-- a judge of the first conditions that refuses
pub stops : (xs ys : List Test) (r : Result (Unit {0}) HeadWhy) (e : HeadWhy) → r ≡ judged (first_refusal xs) → r ≡ Err e → Err e ≡ judged (first_refusal (xs ++ ys))
stops xs ys r e j h =
    let p = judged_err (first_refusal xs) e (sym j ∙ h) in
    sym (ap judged (first_of_both xs ys p.0 p.1) ∙ ap (λ (w : HeadWhy). Err w) p.2)

-- and one that does not
pub goes_on : (xs ys : List Test) (r : Result (Unit {0}) HeadWhy) (u : Unit {0}) → r ≡ judged (first_refusal xs) → r ≡ Ok u → judged (first_refusal (xs ++ ys)) ≡ judged (first_refusal ys)
goes_on xs ys r u j h = ap judged (second_of_both xs ys (judged_ok (first_refusal xs) u (sym j ∙ h)))

-- the same conditions are judged so
pub same_judged : {xs ys : List Test} → xs ≡ ys → judged (first_refusal xs) ≡ judged (first_refusal ys)
same_judged e = ap (λ (tests : List Test). judged (first_refusal tests)) e

-- where the first condition is not met the others are judged
pub behind : (t : Test) (tests : List Test) → t.fails ≡ false → judged (first_refusal (t ∷ tests)) ≡ judged (first_refusal tests)
behind t tests e = rw e refl
