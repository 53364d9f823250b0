-- The next packet of a receiver fits the codestream that is open.
use Rattle.std.proofs.Common.{◌≡◌, ◌++◌, ℕ, true, false, List, [], ◌∷◌, Option, Some, None, Result, Ok, Err, refl, sym, ◌∙◌, ap, subst, inl, append_assoc, if◌then◌else◌}
use Rattle.std.specs.Prelude.{IfSome, option_map}
use Rattle.std.specs.List.{AllByRecursion}
use Rattle.std.proofs.lemmas.List.{append-nil}
use Rattle.codestream_model.specs.Values.{Head, Place}
use Rattle.codestream_model.specs.MainHeader.{SpellsHead}
use Rattle.codestream_model.specs.MainHeaderReading.{Refused, head_of}
use Rattle.codestream_model.specs.Precincts.{IsPrecinct}
use Rattle.codestream_model.specs.PacketOrder.{IsPacketOrder}
use Rattle.codestream_model.proofs.Members.{contained_has, has_right}
use Rattle.codestream_model.proofs.HeaderReads.{header_is_read_one_way}
use Rattle.stream_model.specs.Decoder.{Release}
use Rattle.stream_model.specs.Report.{Precinct}
use Rattle.stream_model.specs.ReadingLaws.{IsReleased, kept_of}
use Rattle.stream_model.specs.Receiver.{new_receiver}
use Rattle.stream_model.proofs.FrameKept.{each_release_is_read}
use Rattle.rebuild_model.specs.HeaderLaws.{ShareHeaders}
use Rattle.rebuild_model.specs.Rebuilding.{Open, goes_on, joined_by, begun, open_after, open_at_end}
use Rattle.rebuild_model.proofs.Numbered.{headers_are_numbered}
use Rattle.codestream_rebuild.specs.Opening.{FitsOpen, IsReleaseOf}
use Rattle.codestream_rebuild.proofs.Opens.{ok_one}
use Rattle.receiving_job.specs.Sinks.{AreFirst}

-- what holds of each of a list holds of one in its middle
all_middle : (P : Release → Type 0) (xs : List Release) (x : Release) (more : List Release) → AllByRecursion P (xs ++ x ∷ more) → P x
all_middle P [] x more all = all.0
all_middle P (y ∷ xs) x more all = all_middle P xs x more all.1

-- the packets before one, as far as they share its number, have its main header
abbrev HaveHeaderOf : Release → List Release → Type 0
HaveHeaderOf x xs = AllByRecursion (λ y. x.heads ≡ y.heads → x.header ≡ y.header) xs

headers_before : (xs : List Release) (x : Release) (more : List Release) → ShareHeaders (xs ++ x ∷ more) → HaveHeaderOf x xs
headers_before [] x more shared = tt
headers_before (y ∷ xs) x more shared = (all_middle (λ z. z.heads ≡ y.heads → z.header ≡ y.header) xs x more shared.0, headers_before xs x more shared.1)

-- a codestream that is open under the number of a packet has its main header
abbrev Agrees : Release → Option Open → Type 0
Agrees x current = IfSome current (λ o. o.heads ≡ x.heads → head_of x.header ≡ Ok o.head)

agrees_joined : (x y : Release) (current : Option Open) → Agrees x current → Agrees x (joined_by current y)
agrees_joined x y None a = tt
agrees_joined x y (Some o) a = a

agrees_begun : (x y : Release) (r : Result Head Refused) → head_of y.header ≡ r → (x.heads ≡ y.heads → x.header ≡ y.header) → Agrees x (begun r y)
agrees_begun x y (Err why) is same = tt
agrees_begun x y (Ok h) is same = λ e. ap head_of (same (sym e)) ∙ is

agrees_after : (x y : Release) (current : Option Open) → (x.heads ≡ y.heads → x.header ≡ y.header) → Agrees x current → Agrees x (open_after current y)
agrees_after x y current same a = elim (goes_on current y) as (λ b. Agrees x (if b then joined_by current y else begun (head_of y.header) y)) [
  | true ↦ agrees_joined x y current a
  | false ↦ agrees_begun x y (head_of y.header) refl same
]

agrees_at_end : (x : Release) (current : Option Open) (xs : List Release) → HaveHeaderOf x xs → Agrees x current → Agrees x (open_at_end current xs)
unfolding open_at_end
agrees_at_end x current [] have a = a
agrees_at_end x current (y ∷ ys) have a = agrees_at_end x (open_after current y) ys have.1 (agrees_after x y current have.0 a)

-- a precinct that is among those of the packet order is one of the image
precinct_is : (h : Head) (before places : List Place) (p : Place) (after : List Place) → IsPacketOrder h (before ++ (places ++ p ∷ after)) → IsPrecinct h p
precinct_is h before places p after order =
    (order.each p).0 (contained_has (before ++ (places ++ p ∷ after)) p (has_right before (places ++ p ∷ after) p (has_right places (p ∷ after) p (inl refl))))

-- the next packet of a receiver fits
pub next_fits : (xs : List Release) (x : Release) (current : Option Open) (number : ℕ) (bytes : List ℕ) (p : Place) → AreFirst (xs ++ x ∷ []) → current ≡ open_at_end None xs
    → x.heads ≡ number → x.header ≡ bytes → x.precinct.place ≡ p → FitsOpen current number bytes p
next_fits xs x current number bytes p first is heads header place =
    let all = first.whole ∙ append_assoc xs (x ∷ []) first.more in
    let kept = kept_of first.pick (new_receiver first.pick) first.frames in
    let R : List Release → Type 0 = λ l. AllByRecursion (IsReleased kept) l in
    let S : List Release → Type 0 = λ l. ShareHeaders l in
    let released : IsReleased kept x = all_middle (IsReleased kept) xs x first.more (subst R all (each_release_is_read first.pick first.frames first.are_bytes)) in
    let shared = headers_before xs x first.more (subst S all (headers_are_numbered first.pick first.frames first.few)) in
    let agrees = agrees_at_end x None xs shared tt in
    let g = released.reading in
    let B : List ℕ → Type 0 = λ l. SpellsHead g.head l in
    let spelt : SpellsHead g.head x.header = subst B (sym released.header) g.is_head in
    let read : head_of x.header ≡ Ok g.head = ap head_of (sym (append-nil x.header)) ∙ header_is_read_one_way g.head x.header [] spelt in
    let H : Place → Type 0 = λ q. IsPrecinct g.head q in
    let O : Option Open → Type 0 = λ o. IfSome o (λ o. o.heads ≡ number → o.head ≡ g.head) in
    record {
      head = g.head;
      spelt = subst B header spelt;
      precinct = subst H place (precinct_is g.head g.before g.places x.precinct.place g.after g.order);
      same = subst O (sym is) (same_of g.head (open_at_end None xs) agrees read);
    }
  where
    same_of : (h : Head) (o : Option Open) → Agrees x o → head_of x.header ≡ Ok h → IfSome o (λ o. o.heads ≡ number → o.head ≡ h)
    same_of h None a read = tt
    same_of h (Some o) a read = λ e. ok_one (head_of x.header) o.head h (a (e ∙ sym heads)) read

-- the packet that a receiver lends
pub lent_is : (o : Option Release) (x : Release) (number : ℕ) (header : Option (List ℕ)) (bytes packet : List ℕ) (p : Precinct) → o ≡ Some x
    → x.heads ≡ number → Some bytes ≡ header → header ≡ Some x.header → option_map (λ y. y.precinct) o ≡ Some p → option_map (λ y. y.raw) o ≡ Some packet
    → IsReleaseOf x number bytes p.place packet
lent_is o x number header bytes packet p given heads head same precinct raw =
    let h : Some bytes ≡ Some x.header = head ∙ same in
    let q : Some x.precinct ≡ Some p = sym (ap (option_map (λ (y : Release). y.precinct)) given) ∙ precinct in
    let r : Some x.raw ≡ Some packet = sym (ap (option_map (λ (y : Release). y.raw)) given) ∙ raw in
    let place : x.precinct ≡ p = cc in
    record { heads = heads; header = (let e : x.header ≡ bytes = cc in e); place = ap (λ (y : Precinct). y.place) place; raw = (let e : x.raw ≡ packet = cc in e) }
