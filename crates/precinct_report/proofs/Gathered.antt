-- Text that is gathered on a page, piece by piece.
use Rattle.std.proofs.Common.{◌≡◌, ◌++◌, ℕ, List, [], sym, ◌∙◌, ap, subst, append_assoc}
use Rattle.std.proofs.lemmas.List.{append-nil}
use Rattle.scl_outside.specs.Meaning.{Meaning}
use Rattle.scl_outside.specs.Events.{Event}
use Rattle.scl_outside.specs.Writing.{Puts}
use Rattle.scl_outside.specs.declared.duct.PutOut.{PutOut}
use Rattle.scl_outside.specs.declared.duct.PutOut.TheVariants.{Done, WriteFault}
use Rattle.precinct_report.specs.Gathering.{Gathers}
use Rattle.scl_outside.proofs.Putting.{puts_nothing, puts_then, puts_front, puts_same}

-- text that was appended to the page
pub gathers_pushed : (a p q : List ℕ) (s : Meaning) → q ≡ p ++ a → Gathers a s s p q Done []
gathers_pushed a p q s e = record { gives = ([], puts_nothing s, sym e) }

-- nothing
pub gathers_nothing : (p : List ℕ) (s : Meaning) → Gathers [] s s p p Done []
gathers_nothing p s = record { gives = ([], puts_nothing s, append-nil p) }

-- the whole page was written
pub gathers_written : (p q : List ℕ) (s t : Meaning) (es : List Event) → Puts p s t Done es → q ≡ [] → Gathers [] s t p q Done es
gathers_written p q s t es h e = record { gives = (p, h, ap (λ (l : List ℕ). p ++ l) (sym e)) }

pub gathers_unwritten : (p q : List ℕ) (s t : Meaning) (es : List Event) → Puts p s t WriteFault es → Gathers [] s t p q WriteFault es
gathers_unwritten p q s t es h = record { gives = puts_front p [] s t es h }

-- and then others
pub gathers_done : (a b p q r : List ℕ) (s m t : Meaning) (es fs : List Event) → Gathers a s m p q Done es → Gathers b m t q r Done fs → Gathers (a ++ b) s t p r Done (es ++ fs)
gathers_done a b p q r s m t es fs x y =
    let u = x.gives in
    let v = y.gives in
    let joined : p ++ (a ++ b) ≡ (u.0 ++ v.0) ++ r =
    sym (append_assoc p a b) ∙ (ap (λ (l : List ℕ). l ++ b) u.2 ∙ (append_assoc u.0 q b ∙ (ap (λ (l : List ℕ). u.0 ++ l) v.2 ∙ sym (append_assoc u.0 v.0 r)))) in
    record { gives = (u.0 ++ v.0, puts_then u.0 v.0 s m t Done es fs u.1 v.1, joined) }

pub gathers_failed : (a b p q r : List ℕ) (s m t : Meaning) (es fs : List Event) → Gathers a s m p q Done es → Gathers b m t q r WriteFault fs → Gathers (a ++ b) s t p r WriteFault (es ++ fs)
gathers_failed a b p q r s m t es fs x y =
    let u = x.gives in
    let joined : u.0 ++ (q ++ b) ≡ p ++ (a ++ b) = sym (append_assoc u.0 q b) ∙ (ap (λ (l : List ℕ). l ++ b) (sym u.2) ∙ append_assoc p a b) in
    record { gives = puts_same (u.0 ++ (q ++ b)) (p ++ (a ++ b)) s t WriteFault (es ++ fs) joined (puts_then u.0 (q ++ b) s m t WriteFault es fs u.1 y.gives) }

-- what follows a failed write stays out
pub gathers_front : (a b p q : List ℕ) (s t : Meaning) (es : List Event) → Gathers a s t p q WriteFault es → Gathers (a ++ b) s t p q WriteFault es
gathers_front a b p q s t es x = record { gives = puts_same ((p ++ a) ++ b) (p ++ (a ++ b)) s t WriteFault es (append_assoc p a b) (puts_front (p ++ a) b s t es x.gives) }

-- the same text
pub gathers_same : (a b p q : List ℕ) (s t : Meaning) (o : PutOut) (es : List Event) → a ≡ b → Gathers a s t p q o es → Gathers b s t p q o es
gathers_same a b p q s t o es e h = let P : List ℕ → Type 0 = λ l. Gathers l s t p q o es in subst P e h

-- and then the page is written
pub puts_page : (a p q : List ℕ) (s m t : Meaning) (o : PutOut) (es fs : List Event) → Gathers a s m p q Done es → Puts q m t o fs → Puts (p ++ a) s t o (es ++ fs)
puts_page a p q s m t o es fs x y = let u = x.gives in puts_same (u.0 ++ q) (p ++ a) s t o (es ++ fs) (sym u.2) (puts_then u.0 q s m t o es fs u.1 y)
