-- What an input of codestreams is, by what a walk over it wants or refuses.
use Rattle.std.proofs.Common.{◌≡◌, ◌<◌, ◌≤◌, ◌⊎◌, ◌+◌, ℕ, List, [], ◌∷◌, ◌++◌, length, refl, sym, subst, ◌∙◌, ap, inl, inr, arith, append_assoc}
use Rattle.std.specs.List.{AllByRecursion}
use Rattle.std.proofs.lemmas.Bool.{cases_lt}
use Rattle.std.proofs.lemmas.List.{append-nil, length-append}
use Rattle.codestream_model.specs.Values.{Head, Place}
use Rattle.codestream_model.specs.Codestream.{WalkRefusal, Cut, InputTooLong, TooManyFrames, IsCodestream, joined, BeginsCodestream, RefusesCodestream, NeedsCodestreamBytes, RefusesNext, NeedsNextBytes, Faults, IsInput}
use Rattle.stream_model.specs.Report.{Precinct}
use Rattle.stream_model.specs.CommandLaws.{Said, AreCodestreams, stamp_of}
use Rattle.codestream_walk.specs.InHand.{input_limit}
use Rattle.codestream_walk.specs.Items.{NeedsHeadBytes}
use Rattle.codestream_walk.specs.Walking.{AtStart, Walking, reach}
use Rattle.codestream_walk.specs.Walks.{NeedsItem, RefusesItem}
use Rattle.codestream_walk.specs.Reading.{IsBetween, IsFull}
use Rattle.codestream_walk.proofs.Inputs.{begun_more, begun_size, begun_long}
use Rattle.codestream_walk.proofs.Refusals.{refuses_by_head, refuses_by_packet, refuses_by_eoc}
use Rattle.parse_job.specs.Inputs.{LeavesOpen}
use Rattle.codestream_model.proofs.FaultsStay.{one_frame_more}
use Rattle.parse_job.proofs.Faulty.{Behind, cut_at, refused_at, long_at}
use Rattle.parse_job.proofs.Telling.{AreWhole, Tells, opened, start_by, open_by}

-- codestreams that say something are codestreams
each_of : (said : List Said) (codestreams : List (List ℕ)) → AreCodestreams said codestreams → AllByRecursion IsCodestream codestreams
each_of [] [] a = tt
each_of [] (c ∷ codestreams) a = absurd a
each_of (x ∷ said) [] a = absurd a
each_of (x ∷ said) (c ∷ codestreams) a = ((x.head, x.content, a.0), each_of said codestreams a.1)

-- after a main header and packets
next_needs : (h : Head) (later : List Place) (size : ℕ) (rest front : List ℕ) → BeginsCodestream h later size [] front → NeedsNextBytes h later size rest → NeedsCodestreamBytes (front ++ rest)
next_needs h [] size rest front b n = (size, inr (inr (h, rest, begun_more h [] size front rest b, n)))
next_needs h (p ∷ later) size rest front b n = (size, inr (inl (h, p, later, rest, begun_more h (p ∷ later) size front rest b, n)))

next_refused : (h : Head) (later : List Place) (size : ℕ) (rest front : List ℕ) (why : WalkRefusal) → BeginsCodestream h later size [] front → RefusesNext h later size rest why → RefusesCodestream (front ++ rest) size why
next_refused h [] size rest front why b r = refuses_by_eoc h size rest (front ++ rest) why (begun_more h [] size front rest b) r
next_refused h (p ∷ later) size rest front why b r = refuses_by_packet h p later size rest (front ++ rest) why (begun_more h (p ∷ later) size front rest b) r

-- the bytes end inside a codestream
pub record EndsInside (n : ℕ) (rest : List ℕ) : Type 0 where
  pub few : n < 65536
  pub some : 1 ≤ length rest
  pub needs : NeedsCodestreamBytes rest

-- bytes are wanted where a codestream may begin, or inside one
head_needs : (w : Walking) (hand : List ℕ) → w.stage ≡ AtStart → w.hand ≡ hand → w.codestreams < 65536 → NeedsHeadBytes hand → IsBetween w ⊎ EndsInside w.codestreams hand
head_needs w [] start is few n = inl (start, is)
head_needs w (x ∷ hand) start is few n = inr (record { few = few; some = omega arith; needs = (n.0, inl n.1) })

pub wanting : (stamp : ℕ) (w : Walking) (front : List ℕ) (last : List Precinct) → (front ≡ []) ⊎ (w.codestreams < 65536) → AreWhole stamp w.stage front last → NeedsItem w → IsBetween w ⊎ EndsInside w.codestreams (front ++ w.hand)
wanting stamp w front last room g (inl (start, inl empty)) = inl (start, empty)
wanting stamp w front last room g (inl (start, inr (few, n))) =
    let none = start_by stamp w.stage front last start g in
    let P : List ℕ → Type 0 = λ l. IsBetween w ⊎ EndsInside w.codestreams (l ++ w.hand) in
    subst P (sym none.0) (head_needs w w.hand start refl few n)
wanting stamp w front last room g (inr n) =
    let b = (opened stamp w n.head n.later n.size n.header front last n.next g).0 in
    let few = open_by stamp w n.head n.later n.size n.header front last n.next g room in
    let all : (front ++ n.header) ++ n.rest ≡ front ++ w.hand = append_assoc front n.header n.rest ∙ ap (λ (l : List ℕ). front ++ l) (sym n.whole) in
    let P : List ℕ → Type 0 = λ l. NeedsCodestreamBytes l in
    inr (record {
      few = few;
      some = omega (arith, begun_long n.head n.later n.size (front ++ n.header) b, ap length all, length-append (front ++ n.header) n.rest);
      needs = subst P all (next_needs n.head n.later n.size n.rest (front ++ n.header) b n.needs);
    })

-- sizes
sizes : (stamp step : ℕ) (consumed : List ℕ) (w : Walking) (xs : List Precinct) (t : Tells stamp step consumed w xs) → w.offset ≡ length (joined t.codestreams) + length t.front
sizes stamp step consumed w xs t = t.offset ∙ (ap length t.whole ∙ length-append (joined t.codestreams) t.front)

-- all bytes that were read, and more
all_of : (stamp step : ℕ) (consumed : List ℕ) (w : Walking) (xs : List Precinct) (t : Tells stamp step consumed w xs) (more : List ℕ) → consumed ++ (w.hand ++ more) ≡ joined t.codestreams ++ ((t.front ++ w.hand) ++ more)
all_of stamp step consumed w xs t more =
    ap (λ (l : List ℕ). l ++ (w.hand ++ more)) t.whole ∙ (append_assoc (joined t.codestreams) t.front (w.hand ++ more) ∙ ap (λ (l : List ℕ). joined t.codestreams ++ l) (sym (append_assoc t.front w.hand more)))

all_read : (stamp step : ℕ) (consumed : List ℕ) (w : Walking) (xs : List Precinct) (t : Tells stamp step consumed w xs) → consumed ++ w.hand ≡ joined t.codestreams ++ (t.front ++ w.hand)
all_read stamp step consumed w xs t = ap (λ (l : List ℕ). l ++ w.hand) t.whole ∙ append_assoc (joined t.codestreams) t.front w.hand

-- between codestreams
pub whole_input : (stamp step : ℕ) (consumed : List ℕ) (w : Walking) (xs : List Precinct) (t : Tells stamp step consumed w xs) → reach w ≤ input_limit → IsBetween w → IsInput (consumed ++ w.hand) t.codestreams
whole_input stamp step consumed w xs t few (start, empty) =
    let none = start_by (stamp_of stamp step (length t.codestreams)) w.stage t.front t.last start t.given in
    record {
      whole = all_read stamp step consumed w xs t ∙ (ap (λ (l : List ℕ). joined t.codestreams ++ (l ++ w.hand)) none.0 ∙ (ap (λ (l : List ℕ). joined t.codestreams ++ l) empty ∙ append-nil (joined t.codestreams)));
      each = each_of t.said t.codestreams t.are;
      few = omega (arith, t.few, t.count);
      within = omega (arith, few, t.offset, length-append consumed w.hand);
    }

-- inside one
pub cut_input : (stamp step : ℕ) (consumed : List ℕ) (w : Walking) (xs : List Precinct) (t : Tells stamp step consumed w xs) → reach w ≤ input_limit → EndsInside w.codestreams (t.front ++ w.hand) → Faults (consumed ++ w.hand) (reach w) Cut
cut_input stamp step consumed w xs t few e =
    let size = sizes stamp step consumed w xs t in
    let both = length-append t.front w.hand in
    let P : List ℕ → Type 0 = λ l. Faults l (reach w) Cut in
    let Q : ℕ → Type 0 = λ n. Faults (joined t.codestreams ++ (t.front ++ w.hand)) n Cut in
    let place : length (joined t.codestreams) + length (t.front ++ w.hand) ≡ reach w = omega (arith, size, both) in
    let b : Behind t.codestreams (t.front ++ w.hand) = record { each = each_of t.said t.codestreams t.are; few = omega (arith, e.few, t.count); some = e.some; within = omega (arith, size, both, few) } in
    subst P (sym (all_read stamp step consumed w xs t)) (subst Q place (cut_at t.codestreams (t.front ++ w.hand) b e.needs))

-- where bytes are wanted, what was read leaves open what the input is
pub needs_open : (stamp step : ℕ) (consumed : List ℕ) (w : Walking) (xs : List Precinct) → Tells stamp step consumed w xs → reach w ≤ input_limit → NeedsItem w → LeavesOpen (consumed ++ w.hand)
needs_open stamp step consumed w xs t few n = elim (wanting (stamp_of stamp step (length t.codestreams)) w t.front t.last t.room t.given n) [
  | inl between ↦ inl (t.codestreams, whole_input stamp step consumed w xs t few between)
  | inr e ↦
      let P : ℕ → Type 0 = λ k. Faults (consumed ++ w.hand) k Cut in
      let place : reach w ≡ length (consumed ++ w.hand) = omega (arith, t.offset, length-append consumed w.hand) in
      inr (subst P place (cut_input stamp step consumed w xs t few e))
]

-- what a walk refuses is the first fault of the input
refused_here : (stamp step : ℕ) (consumed : List ℕ) (w : Walking) (xs : List Precinct) (t : Tells stamp step consumed w xs) (inside at : ℕ) (why : WalkRefusal) → reach w ≤ input_limit → w.codestreams < 65536 → 1 ≤ length (t.front ++ w.hand)
    → at ≡ length (joined t.codestreams) + inside → RefusesCodestream (t.front ++ w.hand) inside why → Faults (consumed ++ w.hand) at why
refused_here stamp step consumed w xs t inside at why few fewer some place r =
    let size = sizes stamp step consumed w xs t in
    let both = length-append t.front w.hand in
    let b : Behind t.codestreams (t.front ++ w.hand) = record { each = each_of t.said t.codestreams t.are; few = omega (arith, fewer, t.count); some = some; within = omega (arith, size, both, few) } in
    let P : List ℕ → Type 0 = λ l. Faults l at why in
    let Q : ℕ → Type 0 = λ n. Faults (joined t.codestreams ++ ((t.front ++ w.hand) ++ [])) n why in
    let all : consumed ++ w.hand ≡ joined t.codestreams ++ ((t.front ++ w.hand) ++ []) = all_read stamp step consumed w xs t ∙ ap (λ (l : List ℕ). joined t.codestreams ++ l) (sym (append-nil (t.front ++ w.hand))) in
    subst P (sym all) (subst Q (sym place) (refused_at t.codestreams (t.front ++ w.hand) [] inside why b r))

pub refusal_is_fault : (stamp step : ℕ) (consumed : List ℕ) (w : Walking) (xs : List Precinct) (at : ℕ) (why : WalkRefusal) → Tells stamp step consumed w xs → reach w ≤ input_limit → RefusesItem w at why → Faults (consumed ++ w.hand) at why
refusal_is_fault stamp step consumed w xs at why t few (inl r) =
    let size = sizes stamp step consumed w xs t in
    let none = start_by (stamp_of stamp step (length t.codestreams)) w.stage t.front t.last r.start t.given in
    let P : List ℕ → Type 0 = λ l. Faults l at why in
    let Q : ℕ → WalkRefusal → Type 0 = λ n y. Faults (joined t.codestreams ++ (t.front ++ w.hand)) n y in
    let R : ℕ → Type 0 = λ n. Q n why in
    let S : WalkRefusal → Type 0 = λ y. Q (length (joined t.codestreams)) y in
    let place : length (joined t.codestreams) ≡ at = omega (arith, r.place, size, ap length none.0) in
    subst P (sym (all_read stamp step consumed w xs t)) (subst R place (subst S (sym r.is) (one_frame_more t.codestreams (t.front ++ w.hand) (each_of t.said t.codestreams t.are) (omega (arith, r.full, t.count)) (omega (arith, size, few)) (omega (arith, r.some, length-append t.front w.hand)))))
refusal_is_fault stamp step consumed w xs at why t few (inr (inl r)) =
    let size = sizes stamp step consumed w xs t in
    let none = start_by (stamp_of stamp step (length t.codestreams)) w.stage t.front t.last r.start t.given in
    let P : List ℕ → Type 0 = λ l. RefusesCodestream (l ++ w.hand) r.inside why in
    refused_here stamp step consumed w xs t r.inside at why few r.few (omega (arith, r.some, length-append t.front w.hand)) (omega (arith, r.place, size, ap length none.0)) (subst P (sym none.0) (refuses_by_head w.hand r.inside why r.refused))
refusal_is_fault stamp step consumed w xs at why t few (inr (inr r)) =
    let size = sizes stamp step consumed w xs t in
    let stamped = stamp_of stamp step (length t.codestreams) in
    let b = (opened stamped w r.head r.later r.size r.header t.front t.last r.next t.given).0 in
    let all : (t.front ++ r.header) ++ r.rest ≡ t.front ++ w.hand = append_assoc t.front r.header r.rest ∙ ap (λ (l : List ℕ). t.front ++ l) (sym r.whole) in
    let long = begun_long r.head r.later r.size (t.front ++ r.header) b in
    let P : List ℕ → Type 0 = λ l. RefusesCodestream l r.size why in
    let part = begun_size r.head r.later r.size (t.front ++ r.header) b in
    refused_here stamp step consumed w xs t r.size at why few (open_by stamped w r.head r.later r.size r.header t.front t.last r.next t.given t.room) (omega (arith, long, ap length all, length-append (t.front ++ r.header) r.rest))
    (omega (arith, r.place, size, part, length-append t.front r.header)) (subst P all (next_refused r.head r.later r.size r.rest (t.front ++ r.header) why b r.refused))

-- a byte past the last that may be read is there
pub limit_is_fault : (stamp step : ℕ) (consumed more : List ℕ) (w : Walking) (xs : List Precinct) → Tells stamp step consumed w xs → reach w ≡ input_limit → NeedsItem w → 1 ≤ length more → (IsFull w → ⊥) → Faults (consumed ++ (w.hand ++ more)) input_limit InputTooLong
limit_is_fault stamp step consumed more w xs t full n some free =
    let size = sizes stamp step consumed w xs t in
    let both = length-append t.front w.hand in
    let P : List ℕ → Type 0 = λ l. Faults l input_limit InputTooLong in
    let each = each_of t.said t.codestreams t.are in
    let needs : (w.codestreams < 65536) × NeedsCodestreamBytes (t.front ++ w.hand) = elim (wanting (stamp_of stamp step (length t.codestreams)) w t.front t.last t.room t.given n) [
      | inr e ↦ (e.few, e.needs)
      | inl (start, empty) ↦
          let none = start_by (stamp_of stamp step (length t.codestreams)) w.stage t.front t.last start t.given in
          let Q : List ℕ → Type 0 = λ l. NeedsCodestreamBytes l in
          let nothing : [] ≡ t.front ++ w.hand = sym (ap (λ (l : List ℕ). l ++ w.hand) none.0 ∙ empty) in
          let fewer : w.codestreams < 65536 = elim (cases_lt w.codestreams 65536) [ inl f ↦ f | inr all ↦ absurd (free (start, omega (arith, all, t.few))) ] in
          (fewer, subst Q nothing (0, inl (inl (record { first = refl; place = refl }))))
    ] in
    subst P (sym (all_of stamp step consumed w xs t more)) (long_at t.codestreams (t.front ++ w.hand) more each (omega (arith, needs.0, t.count)) needs.1 (omega (arith, size, both, full)) some)

-- or it follows the last codestream that may be
pub limit_is_full : (stamp step : ℕ) (consumed more : List ℕ) (w : Walking) (xs : List Precinct) → Tells stamp step consumed w xs → reach w ≡ input_limit → NeedsItem w → 1 ≤ length more → IsFull w → Faults (consumed ++ (w.hand ++ more)) input_limit TooManyFrames
limit_is_full stamp step consumed more w xs t full n some (start, all) =
    let size = sizes stamp step consumed w xs t in
    let none = start_by (stamp_of stamp step (length t.codestreams)) w.stage t.front t.last start t.given in
    let empty : w.hand ≡ [] = elim (wanting (stamp_of stamp step (length t.codestreams)) w t.front t.last t.room t.given n) [ inl between ↦ between.1 | inr e ↦ absurd (omega (arith, e.few, all)) ] in
    let P : List ℕ → Type 0 = λ l. Faults l input_limit TooManyFrames in
    let Q : ℕ → Type 0 = λ k. Faults (joined t.codestreams ++ ((t.front ++ w.hand) ++ more)) k TooManyFrames in
    let place : length (joined t.codestreams) ≡ input_limit = omega (arith, size, full, ap length none.0, ap length empty) in
    subst P (sym (all_of stamp step consumed w xs t more)) (subst Q place (one_frame_more t.codestreams ((t.front ++ w.hand) ++ more) (each_of t.said t.codestreams t.are) (omega (arith, all, t.count)) (omega (arith, place)) (omega (arith, some, length-append (t.front ++ w.hand) more))))
