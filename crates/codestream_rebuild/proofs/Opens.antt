-- What a packet that is put adds, and the codestream that is open after it.
use Rattle.std.proofs.Common.{◌≡◌, ◌==◌, ◌&&◌, ◌++◌, ℕ, Bool, true, false, List, [], refl, sym, ◌∙◌, ap, subst, inl, inr, append_assoc, if◌then◌else◌}
use Rattle.std.specs.Prelude.{Option, Some, None, Result, Ok, Err, IfSome}
use Rattle.std.specs.List.{list_any}
use Rattle.std.proofs.lemmas.Bool.{cases_Bool, and_parts, eqb-true}
use Rattle.std.proofs.lemmas.List.{append-nil}
use Rattle.codestream_model.specs.Values.{Head, Place}
use Rattle.codestream_model.specs.MainHeader.{SpellsHead}
use Rattle.codestream_model.specs.MainHeaderReading.{head_of}
use Rattle.codestream_model.specs.Precincts.{IsPrecinct}
use Rattle.codestream_model.specs.PacketOrder.{packet_order}
use Rattle.codestream_model.proofs.HeaderReads.{header_is_read_one_way}
use Rattle.stream_model.specs.Decoder.{Release, is_place}
use Rattle.rebuild_model.specs.Stripping.{stripped}
use Rattle.rebuild_model.specs.Rebuilding.{Open, empty_packets, places_before, places_after, goes_on, closing, beginning, begun, joining, joined_by, added, open_after}
use Rattle.codestream_rebuild.specs.Opening.{IsReleaseOf, IsUnder, FitsOpen, takes, opened, open_for, opening, open_past, up_to}

-- a value, or else another
abbrev value_or : {A E : Type 0} → A → Result A E → A
value_or other (Ok x) = x
value_or other (Err e) = other

-- a result has one value
pub ok_one : {A E : Type 0} (r : Result A E) (x y : A) → r ≡ Ok x → r ≡ Ok y → x ≡ y
ok_one r x y a b = ap (value_or x) (sym a ∙ b)

-- whether the packet goes into the codestream that is open
goes_is : (current : Option Open) (x : Release) (n : ℕ) (bytes packet : List ℕ) (p : Place) → IsReleaseOf x n bytes p packet → goes_on current x ≡ takes current n p
goes_is None x n bytes packet p r = refl
goes_is (Some o) x n bytes packet p r =
    ap (λ m. (o.heads == m) && list_any (is_place x.precinct.place) o.later) r.heads ∙ ap (λ q. (o.heads == n) && list_any (is_place q) o.later) r.place

-- what it adds there
joining_is : (current : Option Open) (x : Release) (n : ℕ) (bytes packet : List ℕ) (p : Place) → IsReleaseOf x n bytes p packet → joining current x ≡ up_to current p packet
joining_is None x n bytes packet p r = refl
joining_is (Some o) x n bytes packet p r =
    ap (λ q. empty_packets o.head (places_before q o.later) ++ x.raw) r.place ∙ ap (λ l. empty_packets o.head (places_before p o.later) ++ l) r.raw

joined_is : (current : Option Open) (x : Release) (n : ℕ) (bytes packet : List ℕ) (p : Place) → IsReleaseOf x n bytes p packet → joined_by current x ≡ open_past current p
joined_is None x n bytes packet p r = refl
joined_is (Some o) x n bytes packet p r = ap (λ q. Some (record o { later = places_after q o.later })) r.place

-- the values of its main header
read_is : (x : Release) (n : ℕ) (bytes packet : List ℕ) (p : Place) (h : Head) → IsReleaseOf x n bytes p packet → SpellsHead h bytes → head_of x.header ≡ Ok h
read_is x n bytes packet p h r spelt = ap head_of r.header ∙ (ap head_of (sym (append-nil bytes)) ∙ header_is_read_one_way h bytes [] spelt)

-- a codestream that begins with it
beginning_is : (x : Release) (n : ℕ) (bytes packet : List ℕ) (p : Place) (h : Head) → IsReleaseOf x n bytes p packet → SpellsHead h bytes
    → beginning (head_of x.header) x ≡ stripped bytes ++ up_to (Some (opened n h)) p packet
beginning_is x n bytes packet p h r spelt =
    let order = packet_order h in
    ap (λ o. beginning o x) (read_is x n bytes packet p h r spelt)
    ∙ (ap (λ l. stripped l ++ (empty_packets h (places_before x.precinct.place order) ++ x.raw)) r.header
    ∙ (ap (λ q. stripped bytes ++ (empty_packets h (places_before q order) ++ x.raw)) r.place
    ∙ ap (λ l. stripped bytes ++ (empty_packets h (places_before p order) ++ l)) r.raw))

begun_is : (x : Release) (n : ℕ) (bytes packet : List ℕ) (p : Place) (h : Head) → IsReleaseOf x n bytes p packet → SpellsHead h bytes
    → begun (head_of x.header) x ≡ open_past (Some (opened n h)) p
begun_is x n bytes packet p h r spelt =
    ap (λ o. begun o x) (read_is x n bytes packet p h r spelt)
    ∙ (ap (λ m. Some (record { heads = m; head = h; later = places_after x.precinct.place (packet_order h) })) r.heads
    ∙ ap (λ q. Some (record { heads = n; head = h; later = places_after q (packet_order h) })) r.place)

-- the codestream that is open takes it, or a new one does
pub added_is : (current : Option Open) (x : Release) (n : ℕ) (bytes packet : List ℕ) (p : Place) (h : Head) → IsReleaseOf x n bytes p packet → SpellsHead h bytes
    → opening current n bytes p ++ up_to (open_for current n h p) p packet ≡ added current x
added_is current x n bytes packet p h r spelt =
    let goes = goes_is current x n bytes packet p r in
    let old = joining current x in
    let new = closing current ++ beginning (head_of x.header) x in
    let end = closing current ++ stripped bytes in
    let mine : (b : Bool) → List ℕ = λ b. (if b then [] else end) ++ up_to (if b then current else Some (opened n h)) p packet in
    elim (cases_Bool (takes current n p)) [
      | inl t ↦ ap mine t ∙ (sym (joining_is current x n bytes packet p r) ∙ sym (ap (λ (b : Bool). if b then old else new) (goes ∙ t)))
      | inr f ↦
          ap mine f
          ∙ (append_assoc (closing current) (stripped bytes) (up_to (Some (opened n h)) p packet)
          ∙ (ap (λ l. closing current ++ l) (sym (beginning_is x n bytes packet p h r spelt))
          ∙ sym (ap (λ (b : Bool). if b then old else new) (goes ∙ f))))
    ]

-- and is open then
pub after_is : (current : Option Open) (x : Release) (n : ℕ) (bytes packet : List ℕ) (p : Place) (h : Head) → IsReleaseOf x n bytes p packet → SpellsHead h bytes
    → open_past (open_for current n h p) p ≡ open_after current x
after_is current x n bytes packet p h r spelt =
    let goes = goes_is current x n bytes packet p r in
    let old = joined_by current x in
    let new = begun (head_of x.header) x in
    let mine : (b : Bool) → Option Open = λ b. open_past (if b then current else Some (opened n h)) p in
    elim (cases_Bool (takes current n p)) [
      | inl t ↦ ap mine t ∙ (sym (joined_is current x n bytes packet p r) ∙ sym (ap (λ (b : Bool). if b then old else new) (goes ∙ t)))
      | inr f ↦ ap mine f ∙ (sym (begun_is x n bytes packet p h r spelt) ∙ sym (ap (λ (b : Bool). if b then old else new) (goes ∙ f)))
    ]

-- where no codestream takes it, one is closed and another begins
pub opening_new : (current : Option Open) (n : ℕ) (bytes : List ℕ) (p : Place) (b : Bool) → b ≡ takes current n p → b ≡ false → closing current ++ stripped bytes ≡ opening current n bytes p
opening_new current n bytes p b is f = sym (ap (λ (b : Bool). if b then [] else closing current ++ stripped bytes) (sym is ∙ f))

pub open_new : (current : Option Open) (n : ℕ) (h : Head) (p : Place) (b : Bool) → b ≡ takes current n p → b ≡ false → Some (opened n h) ≡ open_for current n h p
open_new current n h p b is f = sym (ap (λ (b : Bool). if b then current else Some (opened n h)) (sym is ∙ f))

-- in a codestream that is open
pub up_to_some : (current : Option Open) (o : Open) (p : Place) (packet : List ℕ) → current ≡ Some o → empty_packets o.head (places_before p o.later) ++ packet ≡ up_to current p packet
up_to_some current o p packet is = sym (ap (λ c. up_to c p packet) is)

pub closing_some : (current : Option Open) (o : Open) → current ≡ Some o → closing (Some o) ≡ closing current
closing_some current o is = sym (ap closing is)

-- a codestream that takes a packet has its main header
taken_under : (current : Option Open) (n : ℕ) (bytes : List ℕ) (p : Place) (h : Head) → IfSome current (λ o. o.heads ≡ n → o.head ≡ h) → SpellsHead h bytes → takes current n p ≡ true
    → IsUnder (open_past current p) n bytes
taken_under None n bytes p h same spelt t = absurd (cc)
taken_under (Some o) n bytes p h same spelt t =
    let heads : o.heads ≡ n = eqb-true o.heads n (and_parts (o.heads == n) (list_any (is_place p) o.later) t).0 in
    let P : Head → Type 0 = λ x. SpellsHead x bytes in
    (heads, subst P (sym (same heads)) spelt)

-- and so has a new one
pub under_is : (current : Option Open) (n : ℕ) (bytes : List ℕ) (p : Place) (h : Head) → IfSome current (λ o. o.heads ≡ n → o.head ≡ h) → SpellsHead h bytes
    → IsUnder (open_past (open_for current n h p) p) n bytes
under_is current n bytes p h same spelt =
    let P : Option Open → Type 0 = λ c. IsUnder (open_past c p) n bytes in
    elim (cases_Bool (takes current n p)) [
      | inl t ↦ subst P (sym (ap (λ (b : Bool). if b then current else Some (opened n h)) t)) (taken_under current n bytes p h same spelt t)
      | inr f ↦ subst P (open_new current n h p (takes current n p) refl f) (refl, spelt)
    ]

-- under one main header all have its values
same_head : (current : Option Open) (n : ℕ) (bytes : List ℕ) (h : Head) → IfSome current (λ o. SpellsHead o.head bytes) → SpellsHead h bytes → IfSome current (λ o. o.heads ≡ n → o.head ≡ h)
same_head None n bytes h there spelt = tt
same_head (Some o) n bytes h there spelt = λ e.
    ok_one (head_of bytes) o.head h (ap head_of (sym (append-nil bytes)) ∙ header_is_read_one_way o.head bytes [] there) (ap head_of (sym (append-nil bytes)) ∙ header_is_read_one_way h bytes [] spelt)

pub fits_under : (current : Option Open) (n : ℕ) (bytes : List ℕ) (p : Place) (h : Head) → IfSome current (λ o. SpellsHead o.head bytes) → SpellsHead h bytes → IsPrecinct h p → FitsOpen current n bytes p
fits_under current n bytes p h there spelt precinct = record { head = h; spelt = spelt; precinct = precinct; same = same_head current n bytes h there spelt }

pub spelt_under : (current : Option Open) (n : ℕ) (bytes : List ℕ) → IsUnder current n bytes → IfSome current (λ o. SpellsHead o.head bytes)
spelt_under None n bytes is = tt
spelt_under (Some o) n bytes is = is.1
