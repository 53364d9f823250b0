-- The frames of a list, one after another.
use Rattle.std.proofs.Common.{◌≡◌, ◌<◌, ◌≤◌, ◌+◌, ◌-◌, ℕ, suc, List, [], ◌∷◌, ◌++◌, length, drop, get_or, sym, subst, ◌∙◌, ap, arith}
use Rattle.std.specs.List.{range_with_len}
use Rattle.std.proofs.lemmas.List.{append-nil, map-append, drop_more}
use Rattle.wire_model.specs.Framing.{frame, framing}
use Rattle.wire_model.proofs.FramingLaws.{framing-append}
use Rattle.delivery_model.specs.Delivering.{Range, positions_of, frames_at}
use Rattle.scl_outside.specs.Meaning.{Meaning}
use Rattle.deliver_job.specs.declared.items.Item.{Item}
use Rattle.deliver_job.specs.Items.{range_of, ranges_of}
use Rattle.deliver_job.specs.Writing.{listed}
use Rattle.deliver_job.proofs.Putting.{Putting, none_put}

-- the frames of the positions from one on to the last
abbrev pub from_on : ℕ → ℕ → List (List ℕ) → List ℕ
from_on position last frames = framing (frames_at (range_with_len position (last + 1 - position)) frames)

pub item_is : (r : Range) (frames : List (List ℕ)) → listed (r ∷ []) frames ≡ from_on r.first r.last frames
item_is r frames = ap (λ (l : List ℕ). framing (frames_at l frames)) (append-nil (range_with_len r.first (r.last + 1 - r.first)))

pub one_position : (position last : ℕ) (frames : List (List ℕ)) → position ≤ last → from_on position last frames ≡ frame (get_or frames position []) ++ from_on (position + 1) last frames
one_position position last frames low =
    let e : last + 1 - position ≡ suc (last + 1 - (position + 1)) = omega arith in
    ap (λ (n : ℕ). framing (frames_at (range_with_len position n) frames)) e

pub no_position : (position last : ℕ) (frames : List (List ℕ)) → last < position → from_on position last frames ≡ []
no_position position last frames past =
    let e : last + 1 - position ≡ 0 = omega arith in
    ap (λ (n : ℕ). framing (frames_at (range_with_len position n) frames)) e

-- the frames of an item, and then those of the others
pub one_item : (r : Range) (list : List Range) (frames : List (List ℕ)) → listed (r ∷ list) frames ≡ listed (r ∷ []) frames ++ listed list frames
one_item r list frames =
    let mine = range_with_len r.first (r.last + 1 - r.first) in
    ap framing (map-append (λ (i : ℕ). get_or frames i []) mine (positions_of list))
    ∙ (framing-append (frames_at mine frames) (frames_at (positions_of list) frames)
    ∙ ap (λ (l : List ℕ). l ++ listed list frames) (sym (item_is r frames)))

-- the frames of an item are left, from its first position on
pub item_left : (r : Range) (frames : List (List ℕ)) (first last : ℕ) (s : Meaning) → first ≡ r.first → last ≡ r.last → Putting (listed (r ∷ []) frames) (from_on first last frames) s s []
item_left r frames first last s f l =
    let P : List ℕ → Type 0 = λ left. Putting (listed (r ∷ []) frames) left s s [] in
    let e : from_on r.first r.last frames ≡ from_on first last frames = ap (λ (n : ℕ). from_on n r.last frames) (sym f) ∙ ap (λ (n : ℕ). from_on first n frames) (sym l) in
    subst P (item_is r frames ∙ e) (none_put (listed (r ∷ []) frames) s)

-- the frames of the item at an index of a list, and those of the items after it
pub next_frames : (list : List Item) (i : ℕ) (d : Item) (frames : List (List ℕ)) → i < length list → listed (ranges_of (drop i list)) frames ≡ listed (range_of (get_or list i d) ∷ []) frames ++ listed (ranges_of (drop (i + 1) list)) frames
next_frames list i d frames low =
    ap (λ (l : List Item). listed (ranges_of l) frames) (drop_more list i d low)
    ∙ one_item (range_of (get_or list i d)) (ranges_of (drop (i + 1) list)) frames
