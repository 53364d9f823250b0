-- Packets put out one after another.
use Rattle.std.proofs.Common.{◌≡◌, ◌<◌, ◌++◌, ℕ, Bool, true, false, List, [], ◌∷◌, length, Option, Some, None, refl, sym, ◌∙◌, ap, subst, append_assoc, arith}
use Rattle.std.specs.List.{AllByRecursion}
use Rattle.std.proofs.lemmas.List.{append-nil}
use Rattle.stream_model.specs.Decoder.{Release}
use Rattle.stream_model.specs.Receiver as rules
use Rattle.stream_model.specs.ReceiverJoins.{having_given, forgetful}
use Rattle.stream_model.specs.DrainLaws.{IsWhole}
use Rattle.stream_model.proofs.WholeGiven.{given_are_whole}
use Rattle.scl_outside.specs.Meaning.{Meaning}
use Rattle.scl_outside.specs.Events.{Event}
use Rattle.scl_outside.specs.declared.duct.PutOut.{PutOut}
use Rattle.scl_outside.specs.declared.duct.PutOut.TheVariants.{Done, WriteFault}
use Rattle.scl_outside.proofs.Putting.{puts_nothing, puts_then, puts_front}
use Rattle.stream_receiver.specs.States.{ReceiverState, followed_by, rest, Gave}
use Rattle.receiving_job.specs.Sinks.{Extends, AreFirst, IsNext, PutsMore}
use Rattle.receiving_job.specs.Giving.{Gives}

-- what can be given are whole precincts
pub left_whole : (s : ReceiverState) → s.rules.releases ≡ [] → AllByRecursion IsWhole (rest s).releases
left_whole s fresh =
    let P : List Release → Type 0 = λ l. AllByRecursion IsWhole l in
    let h : AllByRecursion IsWhole s.rules.releases = subst P (sym fresh) tt in
    (given_are_whole (followed_by s.settled s.rules) (by s.settled h)).0 where
      by : (b : Bool) → AllByRecursion IsWhole s.rules.releases → AllByRecursion IsWhole (followed_by b s.rules).releases
      by true h = h
      by false h = (given_are_whole s.rules h).1

-- the packet that was given
pub given_is : (r left : rules.Receiver) (o : Option Release) → Gave r o left → (x : Release) × (o ≡ Some x) × (r ≡ having_given (x ∷ []) left)
given_is r left None g = absurd g
given_is r left (Some x) g = (x, refl, g)

pub first_whole : (r left : rules.Receiver) (x : Release) → r ≡ having_given (x ∷ []) left → AllByRecursion IsWhole r.releases → IsWhole x × AllByRecursion IsWhole left.releases
first_whole r left x e h = let P : rules.Receiver → Type 0 = λ s. AllByRecursion IsWhole s.releases in subst P e h

pub fewer : (r left : rules.Receiver) (x : Release) → r ≡ having_given (x ∷ []) left → length left.releases < length r.releases
fewer r left x e = let n : length r.releases ≡ length (x ∷ left.releases) = ap (λ (s : rules.Receiver). length s.releases) e in omega (arith, n)

pub one_more : (first r left : rules.Receiver) (ys : List Release) (x : Release) → first ≡ having_given ys r → r ≡ having_given (x ∷ []) left → first ≡ having_given (ys ++ x ∷ []) left
one_more first r left ys x e f = e ∙ (ap (having_given ys) f ∙ ap (λ l. record left { releases = l }) (sym (append_assoc ys (x ∷ []) left.releases)))

-- a front of packets that are the first of some frames is so too
pub first_front : (xs ys : List Release) → AreFirst (xs ++ ys) → AreFirst xs
first_front xs ys f = record {
  pick = f.pick;
  frames = f.frames;
  are_bytes = f.are_bytes;
  few = f.few;
  more = ys ++ f.more;
  whole = f.whole ∙ append_assoc xs ys f.more;
}

pub first_same : (xs ys : List Release) → xs ≡ ys → AreFirst xs → AreFirst ys
first_same xs ys e f = let P : List Release → Type 0 = λ l. AreFirst l in subst P e f

-- a packet is the next one, where the first receiver is left so
pub next_is : (first r left : rules.Receiver) (xs ys : List Release) (x : Release) → first ≡ having_given ys r → r ≡ having_given (x ∷ []) left → AreFirst (xs ++ first.releases) → IsWhole x → IsNext (xs ++ ys) x
next_is first r left xs ys x e f a whole =
    let all : first.releases ≡ (ys ++ x ∷ []) ++ left.releases = ap (λ (s : rules.Receiver). s.releases) (one_more first r left ys x e f) in
    let same : xs ++ first.releases ≡ ((xs ++ ys) ++ x ∷ []) ++ left.releases =
    ap (λ l. xs ++ l) all ∙ (sym (append_assoc xs (ys ++ x ∷ []) left.releases) ∙ ap (λ l. l ++ left.releases) (sym (append_assoc xs ys (x ∷ [])))) in
    (first_front ((xs ++ ys) ++ x ∷ []) left.releases (first_same _ _ same a), whole)

-- nothing was put yet
pub puts_none : (so_far : List Release → List ℕ) (xs : List Release) (m : Meaning) → PutsMore so_far xs [] m m Done []
puts_none so_far xs m = record { text = []; adds = ap so_far (append-nil xs) ∙ sym (append-nil (so_far xs)); puts = puts_nothing m }

-- more packets, and then others
pub puts_more : (so_far : List Release → List ℕ) (xs ys zs : List Release) (l m n : Meaning) (result : PutOut) (es fs : List Event) → PutsMore so_far xs ys l m Done es → PutsMore so_far (xs ++ ys) zs m n result fs
    → PutsMore so_far xs (ys ++ zs) l n result (es ++ fs)
puts_more so_far xs ys zs l m n result es fs p q = record {
  text = p.text ++ q.text;
  adds = ap so_far (sym (append_assoc xs ys zs)) ∙ (q.adds ∙ (ap (λ l. l ++ q.text) p.adds ∙ append_assoc (so_far xs) p.text q.text));
  puts = puts_then _ _ _ _ _ _ _ _ p.puts q.puts;
}

pub puts_list : (so_far : List Release → List ℕ) (xs ys zs : List Release) (m n : Meaning) (result : PutOut) (es : List Event) → ys ≡ zs → PutsMore so_far xs ys m n result es → PutsMore so_far xs zs m n result es
puts_list so_far xs ys zs m n result es e p = let P : List Release → Type 0 = λ l. PutsMore so_far xs l m n result es in subst P e p

-- a write failed on the way
pub puts_some : (so_far : List Release → List ℕ) (xs ys zs : List Release) (m n : Meaning) (es : List Event) → ((us vs : List Release) → Extends (so_far us) (so_far (us ++ vs)))
    → PutsMore so_far xs ys m n WriteFault es → PutsMore so_far xs (ys ++ zs) m n WriteFault es
puts_some so_far xs ys zs m n es grows p =
    let (more, is) = grows (xs ++ ys) zs in
    record {
      text = p.text ++ more;
      adds = ap so_far (sym (append_assoc xs ys zs)) ∙ (is ∙ (ap (λ l. l ++ more) p.adds ∙ append_assoc (so_far xs) p.text more));
      puts = puts_front p.text more _ _ _ p.puts;
    }

-- all was given
nothing_more : (r left : rules.Receiver) (ys : List Release) → r ≡ having_given ys left → left.releases ≡ [] → (r.releases ≡ ys) × (left ≡ forgetful r)
nothing_more r left ys e none =
    (ap (λ (x : rules.Receiver). x.releases) e ∙ (ap (λ l. ys ++ l) none ∙ append-nil ys), ap (λ l. record left { releases = l }) none ∙ sym (ap forgetful e))

pub gives_all : (so_far : List Release → List ℕ) (HasPut : List Release → Type 0) (xs ys : List Release) (s u t : ReceiverState) (m n : Meaning) (es : List Event) → rest s ≡ having_given ys (rest u) → rest u ≡ t.rules → t.settled ≡ true
    → t.rules.window.due ≡ 0 → t.rules.releases ≡ [] → HasPut (xs ++ ys) → PutsMore so_far xs ys m n Done es → Gives so_far HasPut xs (rest s) Done t m n es
gives_all so_far HasPut xs ys s u t m n es e f settled undue fresh put p =
    let all = nothing_more (rest s) t.rules ys (e ∙ ap (having_given ys) f) fresh in
    let P : List Release → Type 0 = λ l. HasPut (xs ++ l) in
    record {
      puts = puts_list so_far xs ys (rest s).releases m n Done es (sym all.0) p;
      put = subst P (sym all.0) put;
      left = (all.1, record { settled = settled; undue = undue; fresh = fresh });
    }

pub gives_some : (so_far : List Release → List ℕ) (HasPut : List Release → Type 0) (xs ys : List Release) (s u t : ReceiverState) (x : Release) (m n : Meaning) (es : List Event)
    → ((us vs : List Release) → Extends (so_far us) (so_far (us ++ vs))) → rest s ≡ having_given (ys ++ x ∷ []) (rest u) → PutsMore so_far xs (ys ++ x ∷ []) m n WriteFault es → Gives so_far HasPut xs (rest s) WriteFault t m n es
gives_some so_far HasPut xs ys s u t x m n es grows e p = record {
  puts = puts_list so_far xs _ _ m n WriteFault es (sym (ap (λ (r : rules.Receiver). r.releases) e)) (puts_some so_far xs (ys ++ x ∷ []) (rest u).releases m n es grows p);
  put = tt;
  left = tt;
}
