-- What a reader refuses is the first fault of its input, whatever follows.
use Rattle.std.proofs.Common.{◌≡◌, ◌<◌, ◌≤◌, ◌⊎◌, ◌+◌, ◌-◌, ◌^◌, ℕ, List, [], ◌∷◌, ◌++◌, length, take, refl, sym, subst, ◌∙◌, ap, inl, inr, arith, append_assoc}
use Rattle.std.proofs.lemmas.Bool.{cases_lt}
use Rattle.std.proofs.lemmas.List.{append-nil, length-append, take_at}
use Rattle.std.proofs.Math.Seq.{take-append-add}
use Rattle.codestream_model.specs.Values.{Head, Place, Block}
use Rattle.codestream_model.specs.Packet.{BeginsPacket, LacksSegments}
use Rattle.codestream_model.specs.Codestream.{WalkRefusal, HeadRefused, Cut, TooManyBlocks, HeaderRefused, PacketTooLong, Psot, NoEoc, InputTooLong, TooManyFrames, joined, BeginsCodestream, RefusesCodestream, NeedsCodestreamBytes, readable, RefusesRest, RefusesPacket, RefusesEoc}
use Rattle.codestream_model.proofs.Standing.{refusal_stands}
use Rattle.codestream_model.proofs.ItemsJudged.{packet_refusal_stays, eoc_refusal_stays}
use Rattle.codestream_model.proofs.Inputs.{refuse_rest}
use Rattle.codestream_walk.specs.Items.{RefusesHeadItem}
use Rattle.codestream_walk.specs.Walking.{Stage, AtStart, AtNext, InBody, AtEnd, Walking, WantsIn, RefusesIn}
use Rattle.codestream_walk.specs.Inputs.{IsGiven, WereGiven, RefusalIsFault, EndIsInput, EndIsCut, LimitIsFault, LimitIsFull}
use Rattle.codestream_walk.proofs.Inputs.{begun_more, begun_size, begun_long, body_long}

-- a refusal of a main header stays when bytes are added
pub head_refusal_stays : (bytes more : List ℕ) (at : ℕ) (why : WalkRefusal) → RefusesHeadItem bytes at why → RefusesHeadItem (bytes ++ more) at why
head_refusal_stays bytes more at (HeadRefused why) (r, other) = (refusal_stands bytes more at why other r, other)
head_refusal_stays bytes more at TooManyBlocks r = absurd r
head_refusal_stays bytes more at (HeaderRefused why) r = absurd r
head_refusal_stays bytes more at PacketTooLong r = absurd r
head_refusal_stays bytes more at Cut r = absurd r
head_refusal_stays bytes more at Psot r = absurd r
head_refusal_stays bytes more at NoEoc r = absurd r
head_refusal_stays bytes more at InputTooLong r = absurd r
head_refusal_stays bytes more at TooManyFrames r = absurd r

-- a refused item refuses the codestream
pub refuses_by_head : (bytes : List ℕ) (at : ℕ) (why : WalkRefusal) → RefusesHeadItem bytes at why → RefusesCodestream bytes at why
refuses_by_head bytes at (HeadRefused why) r = r
refuses_by_head bytes at TooManyBlocks r = absurd r
refuses_by_head bytes at (HeaderRefused why) r = absurd r
refuses_by_head bytes at PacketTooLong r = absurd r
refuses_by_head bytes at Cut r = absurd r
refuses_by_head bytes at Psot r = absurd r
refuses_by_head bytes at NoEoc r = absurd r
refuses_by_head bytes at InputTooLong r = absurd r
refuses_by_head bytes at TooManyFrames r = absurd r

pub refuses_by_packet : (h : Head) (p : Place) (later : List Place) (at : ℕ) (rest bytes : List ℕ) (why : WalkRefusal) → BeginsCodestream h (p ∷ later) at rest bytes → RefusesPacket h p rest why → RefusesCodestream bytes at why
refuses_by_packet h p later at rest bytes TooManyBlocks b r = (h, p, later, rest, b, r)
refuses_by_packet h p later at rest bytes (HeaderRefused why) b r = (h, p, later, rest, b, r)
refuses_by_packet h p later at rest bytes PacketTooLong b r = (h, p, later, rest, b, r)
refuses_by_packet h p later at rest bytes (HeadRefused why) b r = absurd r
refuses_by_packet h p later at rest bytes Cut b r = absurd r
refuses_by_packet h p later at rest bytes Psot b r = absurd r
refuses_by_packet h p later at rest bytes NoEoc b r = absurd r
refuses_by_packet h p later at rest bytes InputTooLong b r = absurd r
refuses_by_packet h p later at rest bytes TooManyFrames b r = absurd r

pub refuses_by_eoc : (h : Head) (at : ℕ) (rest bytes : List ℕ) (why : WalkRefusal) → BeginsCodestream h [] at rest bytes → RefusesEoc h at rest why → RefusesCodestream bytes at why
refuses_by_eoc h at rest bytes Psot b r = (h, rest, b, r)
refuses_by_eoc h at rest bytes NoEoc b r = (h, rest, b, r)
refuses_by_eoc h at rest bytes TooManyBlocks b r = absurd r
refuses_by_eoc h at rest bytes (HeaderRefused why) b r = absurd r
refuses_by_eoc h at rest bytes PacketTooLong b r = absurd r
refuses_by_eoc h at rest bytes (HeadRefused why) b r = absurd r
refuses_by_eoc h at rest bytes Cut b r = absurd r
refuses_by_eoc h at rest bytes InputTooLong b r = absurd r
refuses_by_eoc h at rest bytes TooManyFrames b r = absurd r

-- what a reader refuses refuses the codestream that it is in, whatever follows
pub in_codestream : (stage : Stage) (codestreams : ℕ) (front hand more : List ℕ) (at : ℕ) (why : WalkRefusal) → codestreams < 65536 → IsGiven stage front → RefusesIn stage codestreams hand at why → RefusesCodestream (front ++ (hand ++ more)) (length front + at) why
in_codestream AtStart codestreams front hand more at why few none (some, inl full) = absurd (omega (arith, full.0))
in_codestream AtStart codestreams front hand more at why few none (some, inr r) =
    let P : List ℕ → Type 0 = λ l. RefusesCodestream (l ++ (hand ++ more)) (length l + at) why in
    let Q : ℕ → Type 0 = λ n. RefusesCodestream (hand ++ more) n why in
    let place : at ≡ 0 + at = omega arith in
    subst P (sym none) (subst Q place (refuses_by_head (hand ++ more) at why (head_refusal_stays hand more at why r.1)))
in_codestream (AtNext h [] size) codestreams front hand more at why few b (r, zero_at) =
    let Q : ℕ → Type 0 = λ n. RefusesCodestream (front ++ (hand ++ more)) n why in
    let place : size ≡ length front + at = omega (arith, zero_at, begun_size h [] size front b) in
    subst Q place (refuses_by_eoc h size (hand ++ more) (front ++ (hand ++ more)) why (begun_more h [] size front (hand ++ more) b) (eoc_refusal_stays h size hand more why r))
in_codestream (AtNext h (p ∷ later) size) codestreams front hand more at why few b (r, zero_at) =
    let Q : ℕ → Type 0 = λ n. RefusesCodestream (front ++ (hand ++ more)) n why in
    let place : size ≡ length front + at = omega (arith, zero_at, begun_size h (p ∷ later) size front b) in
    subst Q place (refuses_by_packet h p later size (hand ++ more) (front ++ (hand ++ more)) why (begun_more h (p ∷ later) size front (hand ++ more) b) (packet_refusal_stays h p hand more why r))
in_codestream (InBody h p blocks later size left) codestreams front hand more at why few b r = absurd r
in_codestream AtEnd codestreams front hand more at why few b r = absurd r

-- where bytes are wanted inside a codestream, the codestream wants them
pub needs_codestream : (stage : Stage) (codestreams : ℕ) (front hand : List ℕ) → IsGiven stage front → WantsIn stage codestreams hand → ((stage ≡ AtStart) × (hand ≡ []) → ⊥) → NeedsCodestreamBytes (front ++ hand)
needs_codestream AtStart codestreams front hand none (inl empty) inside = absurd (inside (refl, empty))
needs_codestream AtStart codestreams front hand none (inr (few, (at, r))) inside =
    let P : List ℕ → Type 0 = λ l. NeedsCodestreamBytes (l ++ hand) in
    subst P (sym none) (at, inl r)
needs_codestream (AtNext h [] size) codestreams front hand b n inside = (size, inr (inr (h, hand, begun_more h [] size front hand b, n)))
needs_codestream (AtNext h (p ∷ later) size) codestreams front hand b (few, n) inside = (size, inr (inl (h, p, later, hand, begun_more h (p ∷ later) size front hand b, record { few_blocks = few; unfinished = inl n })))
needs_codestream (InBody h p blocks later size left) codestreams front hand (size_is, b) empty inside =
    let P : List ℕ → Type 0 = λ l. NeedsCodestreamBytes l in
    let begins : BeginsPacket h p blocks b.header b.part (b.header ++ b.part) = record { few_blocks = b.few_blocks; is_header = b.is_header; whole = refl } in
    let lacks : LacksSegments h p (b.header ++ b.part) = record { blocks = blocks; header = b.header; rest = b.part; begins = begins; fits = b.fits; lacks = omega (arith, b.segments, b.some) } in
    let whole : front ++ hand ≡ b.before ++ (b.header ++ b.part) = ap (λ (l : List ℕ). front ++ l) empty ∙ (append-nil front ∙ b.whole) in
    subst P (sym whole) (b.at, inr (inl (h, p, later, b.header ++ b.part, begun_more h (p ∷ later) b.at b.before (b.header ++ b.part) b.begins, record { few_blocks = b.few_blocks; unfinished = inr lacks })))
needs_codestream AtEnd codestreams front hand b n inside = absurd n

-- bytes that may be read are, and of what follows a front
seen : (done : ℕ) (xs ys : List ℕ) → done + length xs ≤ 2 ^ 40 → (k : ℕ) × (readable done (xs ++ ys) ≡ xs ++ take k ys)
seen done xs ys few =
    let k = 2 ^ 40 - done - length xs in
    let e : 2 ^ 40 - done ≡ length xs + k = omega (arith, few) in
    (k, ap (λ (n : ℕ). take n (xs ++ ys)) e ∙ take-append-add xs ys k)

-- where there are as many codestreams as are allowed, only one more is refused
full_refusal : (stage : Stage) (codestreams : ℕ) (front hand : List ℕ) (at : ℕ) (why : WalkRefusal) → codestreams ≡ 65536 → front ≡ [] → IsGiven stage front → RefusesIn stage codestreams hand at why → (at ≡ 0) × (why ≡ TooManyFrames) × (1 ≤ length hand)
full_refusal AtStart codestreams front hand at why full none g (some, inl r) = (r.1, r.2, some)
full_refusal AtStart codestreams front hand at why full none g (some, inr r) = absurd (omega (arith, full, r.0))
full_refusal (AtNext h [] size) codestreams front hand at why full none b r = absurd (omega (arith, begun_long h [] size front b, ap length none))
full_refusal (AtNext h (p ∷ later) size) codestreams front hand at why full none b r = absurd (omega (arith, begun_long h (p ∷ later) size front b, ap length none))
full_refusal (InBody h p blocks later size left) codestreams front hand at why full none g r = absurd r
full_refusal AtEnd codestreams front hand at why full none g r = absurd r

-- a byte follows the whole codestreams
some_follow : (stage : Stage) (codestreams : ℕ) (front hand : List ℕ) (at : ℕ) (why : WalkRefusal) → IsGiven stage front → RefusesIn stage codestreams hand at why → 1 ≤ length front + length hand
some_follow AtStart codestreams front hand at why g r = omega (arith, r.0)
some_follow (AtNext h [] size) codestreams front hand at why b r = omega (arith, begun_long h [] size front b)
some_follow (AtNext h (p ∷ later) size) codestreams front hand at why b r = omega (arith, begun_long h (p ∷ later) size front b)
some_follow (InBody h p blocks later size left) codestreams front hand at why g r = absurd r
some_follow AtEnd codestreams front hand at why g r = absurd r

-- sizes
given_size : (consumed : List ℕ) (w : Walking) (t : WereGiven consumed w) → w.offset ≡ length (joined t.codestreams) + length t.front
given_size consumed w t = t.offset ∙ (ap length t.whole ∙ length-append (joined t.codestreams) t.front)

nothing_given : (consumed : List ℕ) (w : Walking) (t : WereGiven consumed w) → w.codestreams ≡ 65536 → t.front ≡ []
nothing_given consumed w t full = elim t.room [ inl none ↦ none | inr few ↦ absurd (omega (arith, full, few)) ]

pub refusal_is_fault : RefusalIsFault
refusal_is_fault consumed more w at why t few (inside, r, at_is) =
    let done = length (joined t.codestreams) in
    let size = given_size consumed w t in
    let rest = t.front ++ (w.hand ++ more) in
    let whole : consumed ++ (w.hand ++ more) ≡ joined t.codestreams ++ rest = ap (λ (l : List ℕ). l ++ (w.hand ++ more)) t.whole ∙ append_assoc (joined t.codestreams) t.front (w.hand ++ more) in
    let follow : 1 ≤ length rest = omega (arith, some_follow w.stage w.codestreams t.front w.hand inside why t.given r, length-append t.front (w.hand ++ more), length-append w.hand more) in
    let within : done ≤ 2 ^ 40 = omega (arith, size, few) in
    elim (cases_lt w.codestreams 65536) [
      | inr all ↦
          let full : w.codestreams ≡ 65536 = omega (arith, all, t.few) in
          let none = nothing_given consumed w t full in
          let k = full_refusal w.stage w.codestreams t.front w.hand inside why full none t.given r in
          record { codestreams = t.codestreams; rest = rest; whole = whole; each = t.each; within = within; follows = follow; fault = inl (omega (arith, t.count, full), k.1, omega (arith, at_is, size, k.0, ap length none)) }
      | inl fewer ↦
          let room : done + length (t.front ++ w.hand) ≤ 2 ^ 40 = omega (arith, size, few, length-append t.front w.hand) in
          let k = seen done (t.front ++ w.hand) more room in
          let read : readable done rest ≡ t.front ++ (w.hand ++ take k.0 more) = ap (λ (l : List ℕ). readable done l) (sym (append_assoc t.front w.hand more)) ∙ (k.1 ∙ append_assoc t.front w.hand (take k.0 more)) in
          let P : List ℕ → Type 0 = λ l. RefusesCodestream l (length t.front + inside) why in
          let Q : ℕ → Type 0 = λ n. RefusesRest done rest n why in
          let place : done + (length t.front + inside) ≡ at = omega (arith, at_is, size) in
          let refused = refuse_rest done rest (length t.front + inside) why (subst P (sym read) (in_codestream w.stage w.codestreams t.front w.hand (take k.0 more) inside why fewer t.given r)) in
          record { codestreams = t.codestreams; rest = rest; whole = whole; each = t.each; within = within; follows = follow; fault = inr (omega (arith, t.count, fewer), subst Q place refused) }
    ]

-- the input's end
start_given : (stage : Stage) (front : List ℕ) → stage ≡ AtStart → IsGiven stage front → front ≡ []
start_given stage front e g = let P : Stage → Type 0 = λ s. IsGiven s front in subst P e g

pub end_is_input : EndIsInput
end_is_input consumed w t few (start, empty) =
    let none = start_given w.stage t.front start t.given in
    let all : consumed ++ w.hand ≡ joined t.codestreams = ap (λ (l : List ℕ). consumed ++ l) empty ∙ (append-nil consumed ∙ (t.whole ∙ (ap (λ (l : List ℕ). joined t.codestreams ++ l) none ∙ append-nil (joined t.codestreams)))) in
    (t.codestreams, record { whole = all; each = t.each; few = omega (arith, t.count, t.few); within = omega (arith, few, t.offset, length-append consumed w.hand) })

-- fewer codestreams than may be, where more bytes are wanted inside one
wants_open : (stage : Stage) (codestreams : ℕ) (front hand : List ℕ) → (front ≡ []) ⊎ (codestreams < 65536) → IsGiven stage front → WantsIn stage codestreams hand → ((stage ≡ AtStart) × (hand ≡ []) → ⊥) → codestreams < 65536
wants_open stage codestreams front hand (inr few) g n inside = few
wants_open AtStart codestreams front hand (inl none) g (inl empty) inside = absurd (inside (refl, empty))
wants_open AtStart codestreams front hand (inl none) g (inr n) inside = n.0
wants_open (AtNext h [] size) codestreams front hand (inl none) b n inside = absurd (omega (arith, begun_long h [] size front b, ap length none))
wants_open (AtNext h (p ∷ later) size) codestreams front hand (inl none) b n inside = absurd (omega (arith, begun_long h (p ∷ later) size front b, ap length none))
wants_open (InBody h p blocks later size left) codestreams front hand (inl none) g n inside = absurd (omega (arith, body_long h p blocks later left front g.1, ap length none))
wants_open AtEnd codestreams front hand (inl none) g n inside = absurd n

-- bytes are there where more are wanted inside a codestream
wants_some : (stage : Stage) (codestreams : ℕ) (front hand : List ℕ) → IsGiven stage front → WantsIn stage codestreams hand → ((stage ≡ AtStart) × (hand ≡ []) → ⊥) → 1 ≤ length front + length hand
wants_some AtStart codestreams front [] g n inside = absurd (inside (refl, refl))
wants_some AtStart codestreams front (x ∷ hand) g n inside = omega arith
wants_some (AtNext h [] size) codestreams front hand b n inside = omega (arith, begun_long h [] size front b)
wants_some (AtNext h (p ∷ later) size) codestreams front hand b n inside = omega (arith, begun_long h (p ∷ later) size front b)
wants_some (InBody h p blocks later size left) codestreams front hand g n inside = omega (arith, body_long h p blocks later left front g.1)
wants_some AtEnd codestreams front hand g n inside = absurd n

pub end_is_cut : EndIsCut
end_is_cut consumed w t few n inside =
    let done = length (joined t.codestreams) in
    let size = given_size consumed w t in
    let rest = t.front ++ w.hand in
    let sizes = length-append t.front w.hand in
    record {
      codestreams = t.codestreams;
      rest = rest;
      whole = ap (λ (l : List ℕ). l ++ w.hand) t.whole ∙ append_assoc (joined t.codestreams) t.front w.hand;
      each = t.each;
      within = omega (arith, size, few);
      follows = omega (arith, wants_some w.stage w.codestreams t.front w.hand t.given n inside, sizes);
      fault = inr (omega (arith, t.count, wants_open w.stage w.codestreams t.front w.hand t.room t.given n inside), (needs_codestream w.stage w.codestreams t.front w.hand t.given n inside, omega (arith, size, few, sizes), omega (arith, size, sizes)));
    }

next_start : (h : Head) (later : List Place) (size : ℕ) → AtNext h later size ≡ AtStart → ⊥
next_start h later size e = cc

body_start : (h : Head) (p : Place) (blocks : List Block) (later : List Place) (size left : ℕ) → InBody h p blocks later size left ≡ AtStart → ⊥
body_start h p blocks later size left e = cc

-- what is wanted where no byte more may be read
limit_needs : (stage : Stage) (codestreams : ℕ) (front hand : List ℕ) → (front ≡ []) ⊎ (codestreams < 65536) → codestreams ≤ 65536 → IsGiven stage front → WantsIn stage codestreams hand → ((stage ≡ AtStart) × (codestreams ≡ 65536) → ⊥)
    → (codestreams < 65536) × NeedsCodestreamBytes (front ++ hand)
limit_needs AtStart codestreams front [] room few none n free =
    let P : List ℕ → Type 0 = λ l. NeedsCodestreamBytes (l ++ []) in
    let fewer : codestreams < 65536 = elim (cases_lt codestreams 65536) [ inl f ↦ f | inr all ↦ absurd (free (refl, omega (arith, all, few))) ] in
    (fewer, subst P (sym none) (0, inl (inl (record { first = refl; place = refl }))))
limit_needs AtStart codestreams front (x ∷ hand) room few none (inl empty) free = absurd (omega (arith, ap length empty))
limit_needs AtStart codestreams front (x ∷ hand) room few none (inr n) free = (n.0, needs_codestream AtStart codestreams front (x ∷ hand) none (inr n) (λ e. omega (arith, ap length e.1)))
limit_needs (AtNext h [] size) codestreams front hand room few b n free = (wants_open (AtNext h [] size) codestreams front hand room b n (λ e. next_start h [] size e.0), needs_codestream (AtNext h [] size) codestreams front hand b n (λ e. next_start h [] size e.0))
limit_needs (AtNext h (p ∷ later) size) codestreams front hand room few b n free = (wants_open (AtNext h (p ∷ later) size) codestreams front hand room b n (λ e. next_start h (p ∷ later) size e.0), needs_codestream (AtNext h (p ∷ later) size) codestreams front hand b n (λ e. next_start h (p ∷ later) size e.0))
limit_needs (InBody h p blocks later size left) codestreams front hand room few g n free = (wants_open (InBody h p blocks later size left) codestreams front hand room g n (λ e. body_start h p blocks later size left e.0), needs_codestream (InBody h p blocks later size left) codestreams front hand g n (λ e. body_start h p blocks later size left e.0))
limit_needs AtEnd codestreams front hand room few g n free = absurd n

pub limit_is_fault : LimitIsFault
limit_is_fault consumed more w t full n some free =
    let done = length (joined t.codestreams) in
    let size = given_size consumed w t in
    let rest = t.front ++ (w.hand ++ more) in
    let sizes = length-append t.front w.hand in
    let all = length-append t.front (w.hand ++ more) in
    let both = length-append w.hand more in
    let needs = limit_needs w.stage w.codestreams t.front w.hand t.room t.few t.given n free in
    let room : 2 ^ 40 - done ≡ length (t.front ++ w.hand) = omega (arith, size, full, sizes) in
    let read : readable done rest ≡ t.front ++ w.hand = ap (λ (l : List ℕ). readable done l) (sym (append_assoc t.front w.hand more)) ∙ take_at (t.front ++ w.hand) more (2 ^ 40 - done) (sym room) in
    let P : List ℕ → Type 0 = λ l. NeedsCodestreamBytes l in
    record {
      codestreams = t.codestreams;
      rest = rest;
      whole = ap (λ (l : List ℕ). l ++ (w.hand ++ more)) t.whole ∙ append_assoc (joined t.codestreams) t.front (w.hand ++ more);
      each = t.each;
      within = omega (arith, size, full);
      follows = omega (arith, some, all, both);
      fault = inr (omega (arith, t.count, needs.0), (subst P (sym read) needs.1, omega (arith, size, full, some, all, both), omega arith));
    }

full_hand : (stage : Stage) (codestreams : ℕ) (hand : List ℕ) → stage ≡ AtStart → codestreams ≡ 65536 → WantsIn stage codestreams hand → hand ≡ []
full_hand stage codestreams hand start full n =
    let P : Stage → Type 0 = λ s. WantsIn s codestreams hand in
    elim (subst P start n) [ inl empty ↦ empty | inr k ↦ absurd (omega (arith, full, k.0)) ]

pub limit_is_full : LimitIsFull
limit_is_full consumed more w t full n some (start, all) =
    let done = length (joined t.codestreams) in
    let size = given_size consumed w t in
    let none = start_given w.stage t.front start t.given in
    let empty = full_hand w.stage w.codestreams w.hand start all n in
    let rest = t.front ++ (w.hand ++ more) in
    record {
      codestreams = t.codestreams;
      rest = rest;
      whole = ap (λ (l : List ℕ). l ++ (w.hand ++ more)) t.whole ∙ append_assoc (joined t.codestreams) t.front (w.hand ++ more);
      each = t.each;
      within = omega (arith, size, full);
      follows = omega (arith, some, length-append t.front (w.hand ++ more), length-append w.hand more);
      fault = inl (omega (arith, t.count, all), refl, omega (arith, size, full, ap length none, ap length empty));
    }
