-- What is put of a position is what the model has there, and positions join.
use Rattle.std.proofs.Common.{◌≡◌, ◌==◌, ◌-◌, ◌++◌, ℕ, Bool, true, false, List, [], ◌∷◌, map, length, Result, Ok, Err, IfOk, IsErr, refl, sym, ◌∙◌, ap, subst, inl, inr, append_assoc, if◌then◌else◌}
use Rattle.std.specs.List.{AllByRecursion, filter, flat_map, list_any}
use Rattle.std.proofs.lemmas.List.{append-nil}
use Rattle.std.proofs.lemmas.List.Elements.{filter-append}
use Rattle.std.proofs.lemmas.List.Concat.{flat_map-append}
use Rattle.codestream_model.specs.Values as values
use Rattle.codestream_model.specs.StuffedBits.{number_bits}
use Rattle.codestream_model.specs.TagTrees.{Seat, seats, seat_of, inclusion_bits, value_steps, least_inclusion, least_planes}
use Rattle.codestream_model.specs.HeaderPieces.{InclusionPiece, PlanesPiece, RefinePiece, piece_bits, bits_of, passes_code, run_of, stands_at, refine_width, block_pieces, seat_pieces}
use Rattle.codestream_model.specs.PacketHeader.{is_included, least_lblock, first_lblock, lblock_at, least_choices}
use Rattle.codestream_model.proofs.ReadingLemmas.{segment_pieces}
use Rattle.codestream_model.proofs.TreeLemmas.{AreDistinct, either, among_all}
use Rattle.codestream_model.proofs.SeatLemmas.{distinct-filter, seats_distinct, none_stands, stands_here}
use Rattle.stuffed_bits.specs.BitWriterState.{BitWriterState}
use Rattle.stuffed_bits.specs.declared.bit_writer.Full.{Full}
use Rattle.tag_tree.specs.TreeState.{TreeState}
use Rattle.tag_tree.specs.LeafReading.{IsSameShape}
use Rattle.tag_tree.specs.LeafWriting.{grid_of as tree_grid, Holds, HasMet, Writes, leaf_bits, inclusion_step, value_step}
use Rattle.tag_tree.proofs.LeafBits.{inclusion_written, value_written}
use Rattle.tag_tree.proofs.WayLemmas.{holds_after}
use Rattle.tag_tree.proofs.WriteLemmas.{writes_none, writes_behind, writes_no_more}
use Rattle.packet_header.specs.Puts.{refine_tail, value_bits}
use Rattle.packet_header.specs.Queues.{IsElsewhere, left_at}
use Rattle.packet_header.specs.PositionsWritten.{AreOnGrid, AreWritten, Remain, PositionsPut, PutsPositions, positions_bits}
use Rattle.packet_header.specs.declared.grids.TagTrees.{TagTrees}
use Rattle.packet_header.proofs.PositionWalks.{position_there, in_order_after}

-- the bits of a code-block's values are those of its pieces
refine_bits : (passes lblock n : ℕ) → bits_of (if passes == 1 then [] else RefinePiece (refine_width passes lblock) n ∷ []) ≡ refine_tail passes lblock n
refine_bits passes lblock n = elim (either (passes == 1)) [
  | inl t ↦ rw t refl
  | inr t ↦ rw t (append-nil (number_bits (refine_width passes lblock) n))
]

values_written : (lblock : ℕ) (b : values.Block) → bits_of (segment_pieces lblock b) ≡ value_bits lblock b
values_written lblock b = ap (λ (l : List Bool). passes_code b.passes ++ (run_of true (lblock - 3) false ++ (number_bits lblock b.cleanup ++ l))) (refine_bits b.passes lblock b.refine)

-- the bits of a code-block at a position, if there is one
abbrev block_bits : values.Grid → List values.Block → List values.Block → List Bool
block_bits g blocks here = bits_of (flat_map (block_pieces g (least_choices blocks) blocks) here)

-- the bits of its inclusion
abbrev first_bits : values.Grid → List values.Block → Seat → List Bool
first_bits g blocks s = bits_of (map InclusionPiece (inclusion_bits g (least_inclusion blocks g.band) s))

position_by_parts : (g : values.Grid) (blocks : List values.Block) (s : Seat) → positions_bits g blocks (s ∷ []) ≡ first_bits g blocks s ++ block_bits g blocks (filter (stands_at s) blocks)
position_by_parts g blocks s =
    ap bits_of (append-nil (seat_pieces g (least_choices blocks) blocks s))
    ∙ flat_map-append piece_bits (map InclusionPiece (inclusion_bits g (least_inclusion blocks g.band) s)) (flat_map (block_pieces g (least_choices blocks) blocks) (filter (stands_at s) blocks))

-- what is written of its inclusion
pub inclusion_put : (g : values.Grid) (blocks : List values.Block) (earlier later : List Seat) (s : Seat) (t : TagTrees) → t.inclusion.cols ≡ g.cols → t.inclusion.rows ≡ g.rows → seats g ≡ earlier ++ s ∷ later
    → leaf_bits inclusion_step (tree_grid t.inclusion) (least_inclusion blocks g.band) earlier s ≡ first_bits g blocks s
inclusion_put g blocks earlier later s t c r e = inclusion_written t.inclusion g (least_inclusion blocks g.band) earlier later s c r e

-- no code-block waits for a position where none is included
none_waits : (p : Seat → Bool) (s : Seat) (rest : List Seat) (remaining : List values.Block) → map seat_of remaining ≡ filter p (s ∷ rest) → IsElsewhere s remaining → p s ≡ false
none_waits p s rest [] m e = elim (either (p s)) [
  | inr t ↦ t
  | inl t ↦ let no : [] ≡ s ∷ filter p rest = rw t at m in absurd (cc)
]
none_waits p s rest (b ∷ more) m e = elim (either (p s)) [
  | inr t ↦ t
  | inl t ↦
      let both : seat_of b ∷ map seat_of more ≡ s ∷ filter p rest = rw t at m in
      let same : seat_of b ≡ s = cc in
      let P : Seat → Type 0 = λ u. stands_at u b ≡ true in
      let yes : stands_at s b ≡ true = subst P same (stands_here b) in
      let no : true ≡ false = sym yes ∙ e in
      absurd (cc)
]

left_elsewhere : (s : Seat) (remaining : List values.Block) → IsElsewhere s remaining → left_at s remaining ≡ remaining
left_elsewhere s [] e = refl
left_elsewhere s (b ∷ more) e = rw e refl

-- a position more at which none is included, or one is
more_out : (p : Seat → Bool) (earlier : List Seat) (s : Seat) → p s ≡ false → filter p (earlier ++ s ∷ []) ≡ filter p earlier
more_out p earlier s e = filter-append p earlier (s ∷ []) ∙ rw e (append-nil (filter p earlier))

more_in : (p : Seat → Bool) (earlier later : List Seat) (s : Seat) → p s ≡ true → filter p (earlier ++ s ∷ later) ≡ filter p earlier ++ s ∷ filter p later
more_in p earlier later s e = filter-append p earlier (s ∷ later) ∙ rw e refl

-- an item among others
any_among : {X : Type 0} (p : X → Bool) (xs : List X) (x : X) (ys : List X) → p x ≡ true → list_any p (xs ++ x ∷ ys) ≡ true
any_among p [] x ys e = rw e refl
any_among p (y ∷ xs) x ys e = elim (either (p y)) [
  | inl t ↦ rw t refl
  | inr t ↦ rw t (any_among p xs x ys e)
]

-- a position that is left out
pub seat_out : (g : values.Grid) (blocks : List values.Block) (earlier later rest : List Seat) (s : Seat) (t u : TagTrees) (remaining left : List values.Block) (old new : BitWriterState) (before after : List ℕ)
    → t.inclusion.cols ≡ g.cols → t.inclusion.rows ≡ g.rows → seats g ≡ earlier ++ s ∷ later → Remain blocks (s ∷ rest) remaining → left ≡ remaining → IsElsewhere s remaining
    → AreWritten g blocks (earlier ++ s ∷ []) u
    → Writes {A = Unit {0}} (leaf_bits inclusion_step (tree_grid t.inclusion) (least_inclusion blocks g.band) earlier s) old new before after (Ok tt)
    → PositionsPut g blocks earlier (s ∷ []) rest u left old new before after (Ok tt)
seat_out g blocks earlier later rest s t u remaining left old new before after c r e w same elsewhere written wrote =
    let out : is_included blocks s ≡ false = none_waits (is_included blocks) s rest remaining w.seated elsewhere in
    let bits : leaf_bits inclusion_step (tree_grid t.inclusion) (least_inclusion blocks g.band) earlier s ≡ positions_bits g blocks (s ∷ []) =
    inclusion_put g blocks earlier later s t c r e
    ∙ sym (position_by_parts g blocks s ∙ (ap (λ (l : List values.Block). first_bits g blocks s ++ block_bits g blocks l) (none_stands s blocks out) ∙ append-nil (first_bits g blocks s))) in
    let P : List Bool → Type 0 = λ l. Writes {A = Unit {0}} l old new before after (Ok tt) in
    let Q : List values.Block → Type 0 = λ l. Remain blocks rest l in
    record {
      bits = subst P bits wrote;
      written = written;
      waits = subst Q (left_elsewhere s remaining elsewhere ∙ sym same) (record {
        front = w.front;
        whole = w.whole ∙ ap (λ (l : List values.Block). w.front ++ l) (sym (left_elsewhere s remaining elsewhere));
        seated = in_order_after (is_included blocks) s rest remaining w.seated;
      });
    }

-- a position at which a code-block is taken: it is included there, its bits are these, and the others wait
pub record TakenAt (g : values.Grid) (blocks : List values.Block) (earlier rest : List Seat) (s : Seat) (b : values.Block) (inclusion planes : TreeState) (left : List values.Block) : Type 0 where
  pub included : is_included blocks s ≡ true
  pub bits : leaf_bits inclusion_step (tree_grid inclusion) (least_inclusion blocks g.band) earlier s ++ (leaf_bits value_step (tree_grid planes) (least_planes blocks g.band) (filter (is_included blocks) earlier) s ++ value_bits (least_lblock b) b) ≡ positions_bits g blocks (s ∷ [])
  pub waits : Remain blocks rest left

-- the bits of a code-block that is alone at a position
block_alone : (g : values.Grid) (blocks : List values.Block) (earlier later : List Seat) (s : Seat) (b : values.Block) (planes : TreeState)
    → planes.cols ≡ g.cols → planes.rows ≡ g.rows → seats g ≡ earlier ++ s ∷ later
    → map seat_of (filter (λ x. x.band == g.band) blocks) ≡ filter (is_included blocks) (seats g)
    → is_included blocks s ≡ true → seat_of b ≡ s → filter (stands_at s) blocks ≡ b ∷ []
    → leaf_bits value_step (tree_grid planes) (least_planes blocks g.band) (filter (is_included blocks) earlier) s ++ value_bits (least_lblock b) b ≡ block_bits g blocks (filter (stands_at s) blocks)
block_alone g blocks earlier later s b planes c r e own included there alone =
    let p = is_included blocks in
    let labels = least_planes blocks g.band in
    let before = filter p earlier in
    let after = filter p later in
    let among : filter p (seats g) ≡ before ++ s ∷ after = ap (filter p) e ∙ more_in p earlier later s included in
    let D : List Seat → Type 0 = AreDistinct in
    let distinct : AreDistinct (before ++ s ∷ after) = subst D among (distinct-filter p (seats g) (seats_distinct g)) in
    let own_is : before ++ s ∷ after ≡ map seat_of (filter (λ x. x.band == g.band) blocks) = sym (own ∙ among) in
    let labelled : leaf_bits value_step (tree_grid planes) labels before s ≡ bits_of (map PlanesPiece (value_steps g labels (map seat_of (filter (λ x. x.band == g.band) blocks)) (seat_of b))) =
    value_written planes g labels before after s c r distinct
    ∙ (ap (λ (l : List Seat). bits_of (map PlanesPiece (value_steps g labels l s))) own_is
    ∙ ap (λ (u : Seat). bits_of (map PlanesPiece (value_steps g labels (map seat_of (filter (λ x. x.band == g.band) blocks)) u))) (sym there)) in
    let lblock : lblock_at blocks (seat_of b) ≡ least_lblock b = ap (λ (u : Seat). first_lblock (filter (stands_at u) blocks)) there ∙ ap first_lblock alone in
    let valued : value_bits (least_lblock b) b ≡ bits_of (segment_pieces (lblock_at blocks (seat_of b)) b) = sym (ap (λ (n : ℕ). bits_of (segment_pieces n b)) lblock ∙ values_written (least_lblock b) b) in
    let planes_pieces = map PlanesPiece (value_steps g labels (map seat_of (filter (λ x. x.band == g.band) blocks)) (seat_of b)) in
    let pieces = segment_pieces (lblock_at blocks (seat_of b)) b in
    ap (λ (l : List Bool). l ++ value_bits (least_lblock b) b) labelled
    ∙ (ap (λ (l : List Bool). bits_of planes_pieces ++ l) valued
    ∙ (sym (flat_map-append piece_bits planes_pieces pieces)
    ∙ (ap bits_of (sym (append-nil (planes_pieces ++ pieces)))
    ∙ ap (block_bits g blocks) (sym alone))))

pub taken_at : (g : values.Grid) (blocks : List values.Block) (earlier later rest : List Seat) (s : Seat) (b : values.Block) (t : TagTrees) (planes : TreeState) (remaining left : List values.Block) → AreOnGrid g blocks
    → t.inclusion.cols ≡ g.cols → t.inclusion.rows ≡ g.rows → planes.cols ≡ g.cols → planes.rows ≡ g.rows → seats g ≡ earlier ++ s ∷ later → Remain blocks (s ∷ rest) remaining → remaining ≡ b ∷ left → stands_at s b ≡ true
    → TakenAt g blocks earlier rest s b t.inclusion planes left
taken_at g blocks earlier later rest s b t planes remaining left on_grid c r cp rp e w taken holds =
    let whole : blocks ≡ w.front ++ b ∷ left = w.whole ∙ ap (λ (l : List values.Block). w.front ++ l) taken in
    let included : is_included blocks s ≡ true = ap (list_any (stands_at s)) whole ∙ any_among (stands_at s) w.front b left holds in
    let there : seat_of b ≡ s = position_there s b holds in
    let A : List values.Block → Type 0 = λ l. AllByRecursion (λ x. filter (stands_at (seat_of x)) blocks ≡ x ∷ []) l in
    let own : filter (stands_at (seat_of b)) blocks ≡ b ∷ [] = among_all (λ x. filter (stands_at (seat_of x)) blocks ≡ x ∷ []) w.front b left (subst A whole on_grid.alone) in
    let alone : filter (stands_at s) blocks ≡ b ∷ [] = ap (λ (u : Seat). filter (stands_at u) blocks) (sym there) ∙ own in
    let gone : left_at s remaining ≡ left = ap (left_at s) taken ∙ ap (λ (x : Bool). if x then left else b ∷ left) holds in
    let M : List values.Block → Type 0 = λ l. map seat_of l ≡ filter (is_included blocks) rest in
    record {
      included = included;
      bits = ap (λ (l : List Bool). l ++ (leaf_bits value_step (tree_grid planes) (least_planes blocks g.band) (filter (is_included blocks) earlier) s ++ value_bits (least_lblock b) b)) (inclusion_put g blocks earlier later s t c r e)
          ∙ (ap (λ (l : List Bool). first_bits g blocks s ++ l) (block_alone g blocks earlier later s b planes cp rp e on_grid.own_seats included there alone) ∙ sym (position_by_parts g blocks s));
      waits = record {
        front = w.front ++ b ∷ [];
        whole = whole ∙ sym (append_assoc w.front (b ∷ []) left);
        seated = subst M gone (in_order_after (is_included blocks) s rest remaining w.seated);
      };
    }

-- the trees after a position
pub written_out : (g : values.Grid) (blocks : List values.Block) (earlier : List Seat) (s : Seat) (t u : TagTrees) → AreWritten g blocks earlier t → is_included blocks s ≡ false
    → IsSameShape t.inclusion u.inclusion → u.inclusion.labels ≡ t.inclusion.labels → HasMet u.inclusion (earlier ++ s ∷ []) → u.planes ≡ t.planes → AreWritten g blocks (earlier ++ s ∷ []) u
written_out g blocks earlier s t u a out same labels met still =
    let H : TreeState → Type 0 = λ x. Holds x (least_planes blocks g.band) in
    let M : TreeState → Type 0 = λ x. HasMet x (filter (is_included blocks) (earlier ++ s ∷ [])) in
    let N : List Seat → Type 0 = λ l. HasMet t.planes l in
    record {
      inclusion = holds_after t.inclusion u.inclusion (least_inclusion blocks g.band) same labels a.inclusion;
      planes = subst H (sym still) a.planes;
      met = met;
      met_planes = subst M (sym still) (subst N (sym (more_out (is_included blocks) earlier s out)) a.met_planes);
    }

pub written_in : (g : values.Grid) (blocks : List values.Block) (earlier : List Seat) (s : Seat) (t u : TagTrees) → AreWritten g blocks earlier t → is_included blocks s ≡ true
    → IsSameShape t.inclusion u.inclusion → u.inclusion.labels ≡ t.inclusion.labels → HasMet u.inclusion (earlier ++ s ∷ [])
    → IsSameShape t.planes u.planes → u.planes.labels ≡ t.planes.labels → HasMet u.planes (filter (is_included blocks) earlier ++ s ∷ []) → AreWritten g blocks (earlier ++ s ∷ []) u
written_in g blocks earlier s t u a inside same labels met same_planes planes_labels met_planes =
    let N : List Seat → Type 0 = λ l. HasMet u.planes l in
    record {
      inclusion = holds_after t.inclusion u.inclusion (least_inclusion blocks g.band) same labels a.inclusion;
      planes = holds_after t.planes u.planes (least_planes blocks g.band) same_planes planes_labels a.planes;
      met = met;
      met_planes = subst N (sym (more_in (is_included blocks) earlier [] s inside)) met_planes;
    }

-- where no code-block is taken at a position none is included there
pub is_out : (blocks : List values.Block) (s : Seat) (rest : List Seat) (remaining : List values.Block) → Remain blocks (s ∷ rest) remaining → IsElsewhere s remaining → is_included blocks s ≡ false
is_out blocks s rest remaining w e = none_waits (is_included blocks) s rest remaining w.seated e

-- a position for whose inclusion there is no room
pub position_full : (g : values.Grid) (blocks : List values.Block) (earlier later rest : List Seat) (s : Seat) (t u : TagTrees) (left : List values.Block) (old new : BitWriterState) (before after : List ℕ) (why : Full) (out : Result (Unit {0}) Full)
    → IsErr out → t.inclusion.cols ≡ g.cols → t.inclusion.rows ≡ g.rows → seats g ≡ earlier ++ s ∷ later
    → Writes {A = Unit {0}} (leaf_bits inclusion_step (tree_grid t.inclusion) (least_inclusion blocks g.band) earlier s) old new before after (Err why)
    → PositionsPut g blocks earlier (s ∷ []) rest u left old new before after out
position_full g blocks earlier later rest s t u left old new before after why (Ok x) is c r e wrote = absurd (cc)
position_full g blocks earlier later rest s t u left old new before after why (Err other) is c r e wrote =
    let P : List Bool → Type 0 = λ l. Writes {A = Unit {0}} l old new before after (Err other) in
    let bits = ap (λ (l : List Bool). l ++ block_bits g blocks (filter (stands_at s) blocks)) (inclusion_put g blocks earlier later s t c r e) ∙ sym (position_by_parts g blocks s) in
    record {
      bits = subst P bits (writes_no_more (Unit {0}) (Unit {0}) (leaf_bits inclusion_step (tree_grid t.inclusion) (least_inclusion blocks g.band) earlier s) (block_bits g blocks (filter (stands_at s) blocks)) old new before after why (Err other) refl wrote);
      written = tt;
      waits = tt;
    }

-- no position
pub no_position_put : (g : values.Grid) (t : TagTrees) (remaining : List values.Block) (w : BitWriterState) (buf : List ℕ) → PutsPositions g [] t t remaining remaining w w buf buf (Ok tt)
no_position_put g t remaining w buf = λ blocks earlier later rest on_grid e written waits.
    let P : List Seat → Type 0 = λ l. AreWritten g blocks l t in
    record { bits = writes_none (Unit {0}) [] w buf tt refl; written = subst P (sym (append-nil earlier)) written; waits = waits }

-- positions, and then others
pub positions_bits-append : (g : values.Grid) (blocks : List values.Block) (xs ys : List Seat) → positions_bits g blocks (xs ++ ys) ≡ positions_bits g blocks xs ++ positions_bits g blocks ys
positions_bits-append g blocks xs ys =
    ap bits_of (flat_map-append (seat_pieces g (least_choices blocks) blocks) xs ys)
    ∙ flat_map-append piece_bits (flat_map (seat_pieces g (least_choices blocks) blocks) xs) (flat_map (seat_pieces g (least_choices blocks) blocks) ys)

pub ok_along : {A : Type 0} (P Q : A → Type 0) (out : Result A Full) → ((x : A) → P x → Q x) → IfOk out P → IfOk out Q
ok_along P Q (Ok x) f a = f x a
ok_along P Q (Err e) f a = tt

pub always_ok : {A : Type 0} {P : Type 0} (out : Result A Full) → P → IfOk out (λ x. P)
always_ok (Ok x) p = p
always_ok (Err e) p = tt

pub positions_join : (g : values.Grid) (xs ys : List Seat) (t u v : TagTrees) (remaining mid left : List values.Block) (old between new : BitWriterState) (before middle after : List ℕ) (x : Unit {0}) (out : Result (Unit {0}) Full) → length middle ≡ length before
    → PutsPositions g xs t u remaining mid old between before middle (Ok x) → PutsPositions g ys u v mid left between new middle after out → PutsPositions g (xs ++ ys) t v remaining left old new before after out
positions_join g xs ys t u v remaining mid left old between new before middle after x out same one two = λ blocks earlier later rest on_grid e written waits.
    let first_e : seats g ≡ earlier ++ (xs ++ (ys ++ later)) = e ∙ ap (λ (l : List Seat). earlier ++ l) (append_assoc xs ys later) in
    let W : List Seat → Type 0 = λ l. Remain blocks l remaining in
    let a = one blocks earlier (ys ++ later) (ys ++ rest) on_grid first_e written (subst W (append_assoc xs ys rest) waits) in
    let b = two blocks (earlier ++ xs) later rest on_grid (first_e ∙ sym (append_assoc earlier xs (ys ++ later))) a.written a.waits in
    let P : List Bool → Type 0 = λ l. Writes {A = Unit {0}} l old new before after out in
    let Q : List Seat → Type 0 = λ l. AreWritten g blocks l v in
    record {
      bits = subst P (sym (positions_bits-append g blocks xs ys)) (writes_behind (Unit {0}) (Unit {0}) (positions_bits g blocks xs) (positions_bits g blocks ys) old between new before middle after x out same a.bits b.bits);
      written = ok_along (λ y. AreWritten g blocks ((earlier ++ xs) ++ ys) v) (λ y. AreWritten g blocks (earlier ++ (xs ++ ys)) v) out (λ y. subst Q (append_assoc earlier xs ys)) b.written;
      waits = b.waits;
    }

-- positions after which there is no room for others
pub positions_full : (g : values.Grid) (whole xs ys zs : List Seat) (t u v : TagTrees) (remaining mid left : List values.Block) (old between new : BitWriterState) (before middle after : List ℕ) (x : Unit {0}) (why : Full) (out : Result (Unit {0}) Full)
    → IsErr out → whole ≡ xs ++ (ys ++ zs) → length middle ≡ length before
    → PutsPositions g xs t u remaining mid old between before middle (Ok x) → PutsPositions g ys u v mid left between new middle after (Err why) → PutsPositions g whole t v remaining left old new before after out
positions_full g whole xs ys zs t u v remaining mid left old between new before middle after x why (Ok y) is w same one two = absurd (cc)
positions_full g whole xs ys zs t u v remaining mid left old between new before middle after x why (Err other) is w same one two = λ blocks earlier later rest on_grid e written waits.
    let split : (l : List Seat) → whole ++ l ≡ xs ++ (ys ++ (zs ++ l)) = λ l. ap (λ (k : List Seat). k ++ l) w ∙ (append_assoc xs (ys ++ zs) l ∙ ap (λ (k : List Seat). xs ++ k) (append_assoc ys zs l)) in
    let first_e : seats g ≡ earlier ++ (xs ++ (ys ++ (zs ++ later))) = e ∙ ap (λ (l : List Seat). earlier ++ l) (split later) in
    let W : List Seat → Type 0 = λ l. Remain blocks l remaining in
    let a = one blocks earlier (ys ++ (zs ++ later)) (ys ++ (zs ++ rest)) on_grid first_e written (subst W (split rest) waits) in
    let b = two blocks (earlier ++ xs) (zs ++ later) (zs ++ rest) on_grid (first_e ∙ sym (append_assoc earlier xs (ys ++ (zs ++ later)))) a.written a.waits in
    let P : List Bool → Type 0 = λ l. Writes {A = Unit {0}} l old new before after (Err other) in
    let bits : positions_bits g blocks xs ++ (positions_bits g blocks ys ++ positions_bits g blocks zs) ≡ positions_bits g blocks whole =
    ap (λ (l : List Bool). positions_bits g blocks xs ++ l) (sym (positions_bits-append g blocks ys zs)) ∙ (sym (positions_bits-append g blocks xs (ys ++ zs)) ∙ ap (positions_bits g blocks) (sym w)) in
    record {
      bits = subst P bits (writes_behind (Unit {0}) (Unit {0}) (positions_bits g blocks xs) (positions_bits g blocks ys ++ positions_bits g blocks zs) old between new before middle after x (Err other) same a.bits
          (writes_no_more (Unit {0}) (Unit {0}) (positions_bits g blocks ys) (positions_bits g blocks zs) between new middle after why (Err other) refl b.bits));
      written = tt;
      waits = tt;
    }
