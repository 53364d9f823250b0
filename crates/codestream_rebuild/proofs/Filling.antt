-- Empty packets, one after another.
use Rattle.std.proofs.Common.{◌≡◌, ◌++◌, ℕ, true, false, List, [], ◌∷◌, refl, sym, ◌∙◌, ap, subst, append_assoc}
use Rattle.std.proofs.lemmas.List.{append-nil}
use Rattle.std.specs.Prelude.{Some, drop}
use Rattle.codestream_model.specs.Values.{Place}
use Rattle.stream_model.specs.Decoder.{is_place}
use Rattle.rebuild_model.specs.Rebuilding.{Open, eoc, empty_packet, empty_packets, places_before, places_after, closing}

-- a codestream without its next packet
abbrev pub gone_on : Open → Open
gone_on o = record o { later = drop 1 o.later }

-- a codestream after the packet of a precinct
abbrev pub past : Place → Open → Open
past p o = record o { later = places_after p o.later }

-- the first empty packets up to a precinct, and the codestream after them
pub record IsFilled (p : Place) (was now : Open) (front : List ℕ) : Type 0 where
  pub head : now.head ≡ was.head
  pub bytes : empty_packets was.head (places_before p was.later) ≡ front ++ empty_packets was.head (places_before p now.later)
  pub after : past p was ≡ past p now

-- at first none
pub none_filled : (p : Place) (o : Open) → IsFilled p o o []
none_filled p o = record { head = refl; bytes = refl; after = refl }

-- the next precinct is before this one
before_more : (p q : Place) (places more : List Place) → places ≡ q ∷ more → is_place p q ≡ false → places_before p places ≡ q ∷ places_before p more
before_more p q places more next other = ap (places_before p) next ∙ rw other refl

after_more : (p q : Place) (places more : List Place) → places ≡ q ∷ more → is_place p q ≡ false → places_after p places ≡ places_after p more
after_more p q places more next other = ap (places_after p) next ∙ rw other refl

-- or is this one
before_none : (p q : Place) (places more : List Place) → places ≡ q ∷ more → is_place p q ≡ true → places_before p places ≡ []
before_none p q places more next same = ap (places_before p) next ∙ rw same refl

after_all : (p q : Place) (places more : List Place) → places ≡ q ∷ more → is_place p q ≡ true → places_after p places ≡ more
after_all p q places more next same = ap (places_after p) next ∙ rw same refl

-- one empty packet, and the others
pub one_filled : (p q : Place) (was now : Open) (front : List ℕ) → IsFilled p was now front → now.later ≡ q ∷ drop 1 now.later → is_place p q ≡ false
    → empty_packets was.head (places_before p was.later) ≡ (front ++ empty_packet was.head) ++ empty_packets was.head (places_before p (drop 1 now.later))
one_filled p q was now front filled next other =
    let h = was.head in
    let rest = empty_packets h (places_before p (drop 1 now.later)) in
    filled.bytes ∙ (ap (λ l. front ++ empty_packets h l) (before_more p q now.later (drop 1 now.later) next other) ∙ sym (append_assoc front (empty_packet h) rest))

pub filled_more : (p q : Place) (was now then : Open) (front own : List ℕ) → IsFilled p was now front → now.later ≡ q ∷ drop 1 now.later → is_place p q ≡ false → then ≡ gone_on now → own ≡ empty_packet then.head
    → IsFilled p was then (front ++ own)
filled_more p q was now then front own filled next other is packet =
    let same : own ≡ empty_packet was.head = packet ∙ ap empty_packet (ap (λ o. o.head) is ∙ filled.head) in
    let after : past p now ≡ past p (gone_on now) = ap (λ l. record now { later = l }) (after_more p q now.later (drop 1 now.later) next other) in
    let all : IsFilled p was (gone_on now) (front ++ empty_packet was.head) = record { head = filled.head; bytes = one_filled p q was now front filled next other; after = filled.after ∙ after } in
    let P : List ℕ → Type 0 = λ l. IsFilled p was (gone_on now) (front ++ l) in
    let Q : Open → Type 0 = λ o. IsFilled p was o (front ++ own) in
    subst Q (sym is) (subst P (sym same) all)

-- a prefix of one empty packet and the others
pub filled_until : (p q : Place) (was now then : Open) (front own : List ℕ) → IsFilled p was now front → now.later ≡ q ∷ drop 1 now.later → is_place p q ≡ false → then ≡ gone_on now → own ≡ empty_packet then.head
    → (front ++ own) ++ empty_packets was.head (places_before p then.later) ≡ empty_packets was.head (places_before p was.later)
filled_until p q was now then front own filled next other is packet = sym (filled_more p q was now then front own filled next other is packet).bytes

-- all of them, where this precinct is next
pub all_filled : (p q : Place) (was now : Open) (front : List ℕ) → IsFilled p was now front → now.later ≡ q ∷ drop 1 now.later → is_place p q ≡ true → front ≡ empty_packets was.head (places_before p was.later)
all_filled p q was now front filled next same =
    sym (filled.bytes ∙ (ap (λ l. front ++ empty_packets was.head l) (before_none p q now.later (drop 1 now.later) next same) ∙ append-nil front))

pub is_past : (p q : Place) (was now then : Open) (front : List ℕ) → IsFilled p was now front → now.later ≡ q ∷ drop 1 now.later → is_place p q ≡ true → then ≡ gone_on now → then ≡ past p was
is_past p q was now then front filled next same is =
    is ∙ (ap (λ l. record now { later = l }) (sym (after_all p q now.later (drop 1 now.later) next same)) ∙ sym filled.after)

-- or where none is left
pub all_filled_none : (p : Place) (was now : Open) (front : List ℕ) → IsFilled p was now front → now.later ≡ [] → front ≡ empty_packets was.head (places_before p was.later)
all_filled_none p was now front filled none = sym (filled.bytes ∙ (ap (λ l. front ++ empty_packets was.head (places_before p l)) none ∙ append-nil front))

pub is_past_none : (p : Place) (was now : Open) (front : List ℕ) → IsFilled p was now front → now.later ≡ [] → now ≡ past p was
is_past_none p was now front filled none =
    let left : now.later ≡ places_after p now.later = none ∙ ap (places_after p) (sym none) in
    ap (λ l. record now { later = l }) left ∙ sym filled.after

-- the first bytes of what closes a codestream, and the codestream after them
pub record IsClosing (was now : Open) (front : List ℕ) : Type 0 where
  pub head : now.head ≡ was.head
  pub bytes : closing (Some was) ≡ front ++ (empty_packets was.head now.later ++ eoc)

pub none_closed : (o : Open) → IsClosing o o []
none_closed o = record { head = refl; bytes = refl }

-- one empty packet more
pub closing_more : (q : Place) (was now then : Open) (front own : List ℕ) → IsClosing was now front → now.later ≡ q ∷ drop 1 now.later → then ≡ gone_on now → own ≡ empty_packet then.head
    → IsClosing was then (front ++ own)
closing_more q was now then front own closes next is packet =
    let h = was.head in
    let same : own ≡ empty_packet h = packet ∙ ap empty_packet (ap (λ o. o.head) is ∙ closes.head) in
    let rest = empty_packets h (drop 1 now.later) in
    let all : closing (Some was) ≡ (front ++ empty_packet h) ++ (rest ++ eoc) =
    closes.bytes
    ∙ (ap (λ l. front ++ (empty_packets h l ++ eoc)) next
    ∙ (ap (λ l. front ++ l) (append_assoc (empty_packet h) rest eoc)
    ∙ sym (append_assoc front (empty_packet h) (rest ++ eoc)))) in
    let left : drop 1 now.later ≡ then.later = sym (ap (λ o. o.later) is) in
    record {
      head = ap (λ o. o.head) is ∙ closes.head;
      bytes = all ∙ (ap (λ l. (front ++ l) ++ (rest ++ eoc)) (sym same) ∙ ap (λ l. (front ++ own) ++ (empty_packets h l ++ eoc)) left);
    }

-- EOC is left
pub closing_end : (was now : Open) (front : List ℕ) → IsClosing was now front → now.later ≡ [] → front ++ eoc ≡ closing (Some was)
closing_end was now front closes none = sym (closes.bytes ∙ ap (λ l. front ++ (empty_packets was.head l ++ eoc)) none)
