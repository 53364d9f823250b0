-- An input is whole codestreams to its end, or has one fault.
use Rattle.std.proofs.Common.{◌≡◌, ◌⊎◌, ◌<◌, ◌≤◌, ◌+◌, ◌-◌, ◌^◌, ℕ, zero, suc, List, [], ◌∷◌, ◌++◌, length, take, drop, subst, refl, sym, ◌∙◌, ap, inl, inr, arith, append_assoc}
use Rattle.std.specs.List.{AllByRecursion}
use Rattle.std.proofs.lemmas.Bool.{cases_lt}
use Rattle.std.proofs.lemmas.List.{append-nil, length-append, length-take, take_all, take-append-drop}
use Rattle.std.proofs.lemmas.Grind.{flat_map-append}
use Rattle.codestream_model.specs.Bytes.{IsBytes}
use Rattle.codestream_model.specs.Codestream.{IsCodestream, joined, WalkRefusal, HeadRefused, Cut, TooManyBlocks, HeaderRefused, PacketTooLong, Psot, NoEoc, InputTooLong, TooManyFrames, RefusesCodestream, NeedsCodestreamBytes, readable, RefusesRest, Faults, IsInput}
use Rattle.codestream_model.specs.CodestreamLaws.{InputsAreJudged, InputIsNotRefused, InputIsOne, FaultIsOne}
use Rattle.codestream_model.proofs.TreeLemmas.{among_all}
use Rattle.codestream_model.proofs.SegmentBytes.{bytes-take}
use Rattle.codestream_model.proofs.HeaderSteps.{each_append}
use Rattle.codestream_model.proofs.HeaderReads.{take_past}
use Rattle.codestream_model.proofs.OneWayLemmas.{same_front}
use Rattle.codestream_model.proofs.CodestreamsJudged.{bytes_back, codestreams_judged, codestream_verdict, one_codestream}

-- a codestream has bytes
pub codestream_long : (codestream : List ℕ) → IsCodestream codestream → 2 ≤ length codestream
codestream_long codestream (h, content, s) = omega (arith, ap length s.whole, length-append s.head (s.packets ++ 255 ∷ 217 ∷ []), length-append s.packets (255 ∷ 217 ∷ []))

-- codestreams joined
joined-append : (xs ys : List (List ℕ)) → joined (xs ++ ys) ≡ joined xs ++ joined ys
joined-append xs ys = flat_map-append (λ (b : List ℕ). b) xs ys

-- lists with equal parts
cons_both : (x y : List ℕ) (xs ys : List (List ℕ)) → x ≡ y → xs ≡ ys → x ∷ xs ≡ y ∷ ys
cons_both x y xs ys e f = cc

-- of two lists of codestreams at the front of the same bytes one is a prefix of the other
pub lists_agree : (xs ys : List (List ℕ)) (r s : List ℕ) → AllByRecursion IsCodestream xs → AllByRecursion IsCodestream ys → joined xs ++ r ≡ joined ys ++ s
    → (more : List (List ℕ)) × ((ys ≡ xs ++ more) ⊎ (xs ≡ ys ++ more))
lists_agree [] ys r s a b e = (ys, inl refl)
lists_agree (x ∷ xs) [] r s a b e = (x ∷ xs, inr refl)
lists_agree (x ∷ xs) (y ∷ ys) r s a b e =
    let split : x ++ (joined xs ++ r) ≡ y ++ (joined ys ++ s) = sym (append_assoc x (joined xs) r) ∙ (e ∙ append_assoc y (joined ys) s) in
    let same = (one_codestream a.0.0 b.0.0 a.0.1 b.0.1 x y (joined xs ++ r) (joined ys ++ s) a.0.2 b.0.2 split).0 in
    let behind = (same_front x y (joined xs ++ r) (joined ys ++ s) (ap length same) split).1 in
    let n = lists_agree xs ys r s a.1 b.1 behind in
    (n.0, elim n.1 [ inl f ↦ inl (cons_both y x ys (xs ++ n.0) (sym same) f) | inr f ↦ inr (cons_both x y xs (ys ++ n.0) same f) ])

-- what is refused of a rest: a missing byte at the input's end; a byte past the greatest offset of an input; or an item
rest_cases : (done : ℕ) (rest : List ℕ) (at : ℕ) (why : WalkRefusal) → RefusesRest done rest at why
    → ((why ≡ Cut) × NeedsCodestreamBytes rest × (done + length rest ≤ 2 ^ 40) × (at ≡ done + length rest))
    ⊎ (((why ≡ InputTooLong) × NeedsCodestreamBytes (readable done rest) × (2 ^ 40 < done + length rest) × (at ≡ 2 ^ 40))
    ⊎ ((inside : ℕ) × RefusesCodestream (readable done rest) inside why × (at ≡ done + inside)))
rest_cases done rest at Cut r = inl (refl, r.0, r.1, r.2)
rest_cases done rest at InputTooLong r = inr (inl (refl, r.0, r.1, r.2))
rest_cases done rest at (HeadRefused why) r = inr (inr r)
rest_cases done rest at TooManyBlocks r = inr (inr r)
rest_cases done rest at (HeaderRefused why) r = inr (inr r)
rest_cases done rest at PacketTooLong r = inr (inr r)
rest_cases done rest at Psot r = inr (inr r)
rest_cases done rest at NoEoc r = inr (inr r)
rest_cases done rest at TooManyFrames r = inr (inr r)

-- what is refused after a place is refused of the rest
pub refuse_rest : (done : ℕ) (rest : List ℕ) (inside : ℕ) (why : WalkRefusal) → RefusesCodestream (readable done rest) inside why → RefusesRest done rest (done + inside) why
refuse_rest done rest inside Cut r = absurd r
refuse_rest done rest inside InputTooLong r = absurd r
refuse_rest done rest inside TooManyFrames r = absurd r
refuse_rest done rest inside (HeadRefused why) r = (inside, r, refl)
refuse_rest done rest inside TooManyBlocks r = (inside, r, refl)
refuse_rest done rest inside (HeaderRefused why) r = (inside, r, refl)
refuse_rest done rest inside PacketTooLong r = (inside, r, refl)
refuse_rest done rest inside Psot r = (inside, r, refl)
refuse_rest done rest inside NoEoc r = (inside, r, refl)

-- all of a rest within the limit is read
pub all_read : (done : ℕ) (rest : List ℕ) → done + length rest ≤ 2 ^ 40 → readable done rest ≡ rest
all_read done rest within = take_all (2 ^ 40 - done) rest (omega arith)

-- and all of a codestream within it
codestream_read : (done : ℕ) (codestream more : List ℕ) → done + length codestream ≤ 2 ^ 40 → readable done (codestream ++ more) ≡ codestream ++ take (2 ^ 40 - done - length codestream) more
codestream_read done codestream more within = take_past (2 ^ 40 - done) codestream more (omega arith)

-- where bytes are unfinished they aren't refused
never_both : (xs ys : List ℕ) (at : ℕ) (why : WalkRefusal) → xs ≡ ys → NeedsCodestreamBytes xs → RefusesCodestream ys at why → ⊥
never_both xs ys at why e n r =
    let P : List ℕ → Type 0 = λ l. NeedsCodestreamBytes l in
    (codestream_verdict ys).not_both at why r (subst P e n)

-- a rest is refused in one way
one_rest : (done : ℕ) (rest : List ℕ) (at place : ℕ) (why reason : WalkRefusal) → RefusesRest done rest at why → RefusesRest done rest place reason → (at ≡ place) × (why ≡ reason)
one_rest done rest at place why reason r s = elim (rest_cases done rest at why r) [
  | inl a ↦ elim (rest_cases done rest place reason s) [
    | inl b ↦ (a.3 ∙ sym b.3, a.0 ∙ sym b.0)
    | inr (inl b) ↦ absurd (omega (arith, a.2, b.2))
    | inr (inr b) ↦ absurd (never_both rest (readable done rest) b.0 reason (sym (all_read done rest a.2)) a.1 b.1)
  ]
  | inr (inl a) ↦ elim (rest_cases done rest place reason s) [
    | inl b ↦ absurd (omega (arith, a.2, b.2))
    | inr (inl b) ↦ (a.3 ∙ sym b.3, a.0 ∙ sym b.0)
    | inr (inr b) ↦ absurd (never_both (readable done rest) (readable done rest) b.0 reason refl a.1 b.1)
  ]
  | inr (inr a) ↦ elim (rest_cases done rest place reason s) [
    | inl b ↦ absurd (never_both rest (readable done rest) a.0 why (sym (all_read done rest b.2)) b.1 a.1)
    | inr (inl b) ↦ absurd (never_both (readable done rest) (readable done rest) a.0 why refl b.1 a.1)
    | inr (inr b) ↦
        let one = (codestream_verdict (readable done rest)).one_refusal a.0 b.0 why reason a.1 b.1 in
        (a.2 ∙ (ap (λ (n : ℕ). done + n) one.0 ∙ sym b.2), one.1)
  ]
]

-- a rest that begins with a codestream within the limit isn't refused
not_refused : (done : ℕ) (rest codestream more : List ℕ) (at : ℕ) (why : WalkRefusal) → IsCodestream codestream → rest ≡ codestream ++ more → done + length codestream ≤ 2 ^ 40 → RefusesRest done rest at why → ⊥
not_refused done rest codestream more at why c e within r =
    let seen : readable done rest ≡ codestream ++ take (2 ^ 40 - done - length codestream) more = ap (readable done) e ∙ codestream_read done codestream more within in
    elim (rest_cases done rest at why r) [
      | inl a ↦ (codestream_verdict rest).not_unfinished (codestream, more, c, e) a.1
      | inr (inl a) ↦ (codestream_verdict (readable done rest)).not_unfinished (codestream, take (2 ^ 40 - done - length codestream) more, c, seen) a.1
      | inr (inr a) ↦ (codestream_verdict (readable done rest)).not_refused (codestream, take (2 ^ 40 - done - length codestream) more, c, seen) a.0 why a.1
    ]

-- after the codestreams of a fault no codestream follows that is read
no_further : (input : List ℕ) (at : ℕ) (why : WalkRefusal) (f : Faults input at why) (others : List (List ℕ)) (rest codestream : List ℕ) (more : List (List ℕ))
    → input ≡ joined others ++ rest → AllByRecursion IsCodestream others → length others ≤ 65536 → length (joined others) ≤ 2 ^ 40 → others ≡ f.codestreams ++ codestream ∷ more → ⊥
no_further input at why f others rest codestream more whole each few within e =
    let P : List (List ℕ) → Type 0 = λ l. AllByRecursion IsCodestream l in
    let c : IsCodestream codestream = among_all IsCodestream f.codestreams codestream more (subst P e each) in
    let count : length f.codestreams + suc (length more) ≡ length others = sym (ap length e ∙ length-append f.codestreams (codestream ∷ more)) in
    let all : joined others ≡ joined f.codestreams ++ (codestream ++ joined more) = ap joined e ∙ joined-append f.codestreams (codestream ∷ more) in
    let split : joined f.codestreams ++ f.rest ≡ joined f.codestreams ++ (codestream ++ (joined more ++ rest)) =
    sym f.whole ∙ (whole ∙ (ap (λ (l : List ℕ). l ++ rest) all ∙ (append_assoc (joined f.codestreams) (codestream ++ joined more) rest ∙ ap (λ (l : List ℕ). joined f.codestreams ++ l) (append_assoc codestream (joined more) rest)))) in
    let behind : f.rest ≡ codestream ++ (joined more ++ rest) = (same_front (joined f.codestreams) (joined f.codestreams) f.rest (codestream ++ (joined more ++ rest)) refl split).1 in
    let size : length (joined f.codestreams) + length codestream ≤ 2 ^ 40 = omega (arith, within, ap length all, length-append (joined f.codestreams) (codestream ++ joined more), length-append codestream (joined more)) in
    elim f.fault [
      | inl t ↦ omega (arith, t.0, count, few)
      | inr t ↦ not_refused (length (joined f.codestreams)) f.rest codestream (joined more ++ rest) at why c behind size t.1
    ]

-- the codestreams of a fault are not too many
few_before : (input : List ℕ) (at : ℕ) (why : WalkRefusal) (f : Faults input at why) → length f.codestreams ≤ 65536
few_before input at why f = elim f.fault [ inl t ↦ omega (arith, t.0) | inr t ↦ omega (arith, t.0) ]

-- two faults after the same codestreams
same_faults : (n m d e : ℕ) (r s : List ℕ) (at place : ℕ) (why reason : WalkRefusal) → n ≡ m → d ≡ e → r ≡ s
    → ((n ≡ 65536) × (why ≡ TooManyFrames) × (at ≡ d)) ⊎ ((n < 65536) × RefusesRest d r at why)
    → ((m ≡ 65536) × (reason ≡ TooManyFrames) × (place ≡ e)) ⊎ ((m < 65536) × RefusesRest e s place reason) → (at ≡ place) × (why ≡ reason)
same_faults n m d e r s at place why reason p q l (inl a) (inl b) = (a.2 ∙ (q ∙ sym b.2), a.1 ∙ sym b.1)
same_faults n m d e r s at place why reason p q l (inl a) (inr b) = absurd (omega (arith, a.0, b.0))
same_faults n m d e r s at place why reason p q l (inr a) (inl b) = absurd (omega (arith, a.0, b.0))
same_faults n m d e r s at place why reason p q l (inr a) (inr b) =
    let P : ℕ → Type 0 = λ k. RefusesRest k s place reason in
    let Q : List ℕ → Type 0 = λ k. RefusesRest d k place reason in
    one_rest d r at place why reason a.1 (subst Q (sym l) (subst P (sym q) b.1))

-- and they are the same codestreams
same_codestreams : (input : List ℕ) (at place : ℕ) (why reason : WalkRefusal) (f : Faults input at why) (g : Faults input place reason) (more : List (List ℕ)) → g.codestreams ≡ f.codestreams ++ more → f.codestreams ≡ g.codestreams
same_codestreams input at place why reason f g [] e = sym (e ∙ append-nil f.codestreams)
same_codestreams input at place why reason f g (c ∷ more) e =
    absurd (no_further input at why f g.codestreams g.rest c more g.whole g.each (few_before input place reason g) g.within e)

-- an input has one fault
pub fault_is_one : FaultIsOne
fault_is_one input at place why reason f g =
    let split : joined f.codestreams ++ f.rest ≡ joined g.codestreams ++ g.rest = sym f.whole ∙ g.whole in
    let n = lists_agree f.codestreams g.codestreams f.rest g.rest f.each g.each split in
    let same : f.codestreams ≡ g.codestreams = elim n.1 [
      | inl e ↦ same_codestreams input at place why reason f g n.0 e
      | inr e ↦ sym (same_codestreams input place at reason why g f n.0 e)
    ] in
    let bytes : joined f.codestreams ≡ joined g.codestreams = ap joined same in
    let behind = (same_front (joined f.codestreams) (joined g.codestreams) f.rest g.rest (ap length bytes) split).1 in
    let one = same_faults (length f.codestreams) (length g.codestreams) (length (joined f.codestreams)) (length (joined g.codestreams)) f.rest g.rest at place why reason (ap length same) (ap length bytes) behind f.fault g.fault in
    (one.0, one.1, same)

-- nothing follows where whole codestreams end
none_behind : (input : List ℕ) (at : ℕ) (why : WalkRefusal) (f : Faults input at why) (codestreams more : List (List ℕ)) → IsInput input codestreams → codestreams ≡ f.codestreams ++ more → ⊥
none_behind input at why f codestreams [] i e =
    omega (arith, f.follows, ap length i.whole, ap length f.whole, length-append (joined f.codestreams) f.rest, ap (λ (l : List (List ℕ)). length (joined l)) (e ∙ append-nil f.codestreams))
none_behind input at why f codestreams (c ∷ more) i e =
    no_further input at why f codestreams [] c more (i.whole ∙ sym (append-nil (joined codestreams))) i.each i.few (omega (arith, i.within, ap length i.whole)) e

-- an input that is whole codestreams has no fault
pub input_is_not_refused : InputIsNotRefused
input_is_not_refused input codestreams at why i f =
    let split : joined f.codestreams ++ f.rest ≡ joined codestreams ++ [] = sym f.whole ∙ (i.whole ∙ sym (append-nil (joined codestreams))) in
    let n = lists_agree f.codestreams codestreams f.rest [] f.each i.each split in
    elim n.1 [
      | inl e ↦ none_behind input at why f codestreams n.0 i e
      | inr e ↦
          omega (arith, f.follows, ap length i.whole, ap length f.whole, length-append (joined f.codestreams) f.rest, ap (λ (l : List (List ℕ)). length (joined l)) e, ap length (joined-append codestreams n.0), length-append (joined codestreams) (joined n.0))
    ]

-- no more codestreams in no more bytes
no_more : (xs ys more : List (List ℕ)) → AllByRecursion IsCodestream ys → length (joined xs) ≡ length (joined ys) → ys ≡ xs ++ more → xs ≡ ys
no_more xs ys [] each e f = sym (f ∙ append-nil xs)
no_more xs ys (c ∷ more) each e f =
    let P : List (List ℕ) → Type 0 = λ l. AllByRecursion IsCodestream l in
    let long = codestream_long c (among_all IsCodestream xs c more (subst P f each)) in
    absurd (omega (arith, e, long, ap (λ (l : List (List ℕ)). length (joined l)) f, ap length (joined-append xs (c ∷ more)), length-append (joined xs) (c ++ joined more), length-append c (joined more)))

-- an input is whole codestreams in one way
pub input_is_one : InputIsOne
input_is_one input codestreams others i j =
    let same : joined codestreams ≡ joined others = sym i.whole ∙ j.whole in
    let n = lists_agree codestreams others [] [] i.each j.each (ap (λ (l : List ℕ). l ++ []) same) in
    elim n.1 [
      | inl e ↦ no_more codestreams others n.0 j.each (ap length same) e
      | inr e ↦ sym (no_more others codestreams n.0 i.each (sym (ap length same)) e)
    ]

-- what may be said of an input
abbrev IsJudged : List ℕ → Type 0
IsJudged input = ((codestreams : List (List ℕ)) × IsInput input codestreams) ⊎ ((at : ℕ) × (why : WalkRefusal) × Faults input at why)

-- whole codestreams at the front of an input, and what follows them
record Read (input : List ℕ) (codestreams : List (List ℕ)) (rest : List ℕ) : Type 0 where
  whole : input ≡ joined codestreams ++ rest
  each : AllByRecursion IsCodestream codestreams
  within : length (joined codestreams) ≤ 2 ^ 40

-- a fault after them
fault_behind : (input : List ℕ) (codestreams : List (List ℕ)) (rest : List ℕ) (at : ℕ) (why : WalkRefusal) → Read input codestreams rest → 1 ≤ length rest
    → ((length codestreams ≡ 65536) × (why ≡ TooManyFrames) × (at ≡ length (joined codestreams))) ⊎ ((length codestreams < 65536) × RefusesRest (length (joined codestreams)) rest at why)
    → IsJudged input
fault_behind input codestreams rest at why r some fault =
    inr (at, why, record { codestreams = codestreams; rest = rest; whole = r.whole; each = r.each; within = r.within; follows = some; fault = fault })

-- where bytes are wanted: at the input's end, or where it may not reach
wanted : (input : List ℕ) (codestreams : List (List ℕ)) (rest : List ℕ) → Read input codestreams rest → 1 ≤ length rest → length codestreams < 65536 → NeedsCodestreamBytes (readable (length (joined codestreams)) rest) → IsJudged input
wanted input codestreams rest r some few n =
    let done = length (joined codestreams) in
    elim (cases_lt (2 ^ 40) (done + length rest)) [
      | inl past ↦ fault_behind input codestreams rest (2 ^ 40) InputTooLong r some (inr (few, (n, past, refl)))
      | inr within ↦
          let P : List ℕ → Type 0 = λ l. NeedsCodestreamBytes l in
          fault_behind input codestreams rest (done + length rest) Cut r some (inr (few, (subst P (all_read done rest within) n, within, refl)))
    ]

-- one codestream more
read_further : (input : List ℕ) (codestreams : List (List ℕ)) (rest codestream seen : List ℕ) → Read input codestreams rest → IsCodestream codestream → readable (length (joined codestreams)) rest ≡ codestream ++ seen
    → (more : List ℕ) × (rest ≡ codestream ++ more) × Read input (codestreams ++ codestream ∷ []) more
read_further input codestreams rest codestream seen r c e =
    let done = length (joined codestreams) in
    let more = seen ++ drop (2 ^ 40 - done) rest in
    let split : rest ≡ codestream ++ more = sym (take-append-drop (2 ^ 40 - done) rest) ∙ (ap (λ (l : List ℕ). l ++ drop (2 ^ 40 - done) rest) e ∙ append_assoc codestream seen (drop (2 ^ 40 - done) rest)) in
    let all : joined (codestreams ++ codestream ∷ []) ≡ joined codestreams ++ codestream = joined-append codestreams (codestream ∷ []) ∙ ap (λ (l : List ℕ). joined codestreams ++ l) (append-nil codestream) in (
      more,
      split,
      record {
        whole = r.whole ∙ (ap (λ (l : List ℕ). joined codestreams ++ l) split ∙ (sym (append_assoc (joined codestreams) codestream more) ∙ ap (λ (l : List ℕ). l ++ more) (sym all)));
        each = each_append IsCodestream codestreams (codestream ∷ []) r.each (c, tt);
        within = omega (arith, r.within, ap length all, length-append (joined codestreams) codestream, ap length e, length-append codestream seen, length-take (2 ^ 40 - done) rest);
      },
    )

-- after whole codestreams, with at most n bytes
judged_behind : (n : ℕ) (input : List ℕ) (codestreams : List (List ℕ)) (rest : List ℕ) → length rest ≤ n → Read input codestreams rest → length codestreams ≤ 65536 → IsBytes rest → IsJudged input
judged_behind n input codestreams [] most r few fits =
    let all : input ≡ joined codestreams = r.whole ∙ append-nil (joined codestreams) in
    inl (codestreams, record { whole = all; each = r.each; few = few; within = omega (arith, ap length all, r.within) })
judged_behind zero input codestreams (b ∷ bytes) most r few fits = absurd (omega arith)
judged_behind (suc n) input codestreams (b ∷ bytes) most r few fits =
    let rest = b ∷ bytes in
    let done = length (joined codestreams) in
    let some : 1 ≤ length rest = omega arith in
    elim (cases_lt (length codestreams) 65536) [
      | inr all ↦ fault_behind input codestreams rest done TooManyFrames r some (inl (omega arith, refl, refl))
      | inl fewer ↦ elim (codestreams_judged (readable done rest) (bytes-take (2 ^ 40 - done) rest fits)) [
        | inl c ↦
            let t = read_further input codestreams rest c.0 c.1 r c.2 c.3 in
            let P : List ℕ → Type 0 = λ l. IsBytes l in
            judged_behind n input (codestreams ++ c.0 ∷ []) t.0 (omega (arith, most, codestream_long c.0 c.2, ap length t.1, length-append c.0 t.0)) t.2 (omega (arith, length-append codestreams (c.0 ∷ []))) (bytes_back c.0 t.0 (subst P t.1 fits))
        | inr (inl c) ↦ fault_behind input codestreams rest (done + c.0) c.1 r some (inr (fewer, refuse_rest done rest c.0 c.1 c.2))
        | inr (inr c) ↦ wanted input codestreams rest r some fewer c
      ]
    ]

-- an input is whole codestreams, or has a fault
pub inputs_are_judged : InputsAreJudged
inputs_are_judged input fits = judged_behind (length input) input [] input (omega arith) (record { whole = refl; each = tt; within = omega arith }) (omega arith) fits
