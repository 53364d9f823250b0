-- Drawn contents fit their precincts.
use Rattle.std.proofs.Common.{◌≡◌, ◌≤◌, ◌+◌, ◌*◌, ◌⊎◌, ◌++◌, ℕ, Bool, true, false, List, [], ◌∷◌, length, map, refl, sym, ◌∙◌, ap, subst, inl, inr, arith}
use Rattle.std.specs.List.{AllByRecursion, filter, flat_map}
use Rattle.std.proofs.lemmas.Bool.{cases_Bool}
use Rattle.std.proofs.lemmas.Bool.Decides.{eqb_tells}
use Rattle.std.proofs.lemmas.List.{length-append}
use Rattle.std.proofs.lemmas.List.Sums.{sum_by-cons}
use Rattle.std.proofs.lemmas.Nat.{mul-le}
use Rattle.codestream_model.specs.Values.{Head, Place, Grid, Block}
use Rattle.codestream_model.specs.Precincts.{grids}
use Rattle.codestream_model.specs.TagTrees.{Seat, seats, seat_of}
use Rattle.codestream_model.specs.HeaderPieces.{stands_at}
use Rattle.codestream_model.specs.PacketHeader.{HaveOwnBands, AreBlocks, IsWithinLimits, is_included, written_bits, written_header}
use Rattle.codestream_model.specs.MarkedHeader.{SpellsMarkedHeader, written_marked_header, end_marker}
use Rattle.codestream_model.specs.Packet.{Content, SpellsPacket, block_count, segment_bytes}
use Rattle.codestream_model.proofs.OwnBands.{own_bands}
use Rattle.codestream_model.proofs.SeatLemmas.{all-filter, stands_here}
use Rattle.codestream_model.proofs.WrittenLemmas.{IsApart, AreApart, grids_apart, apart-filter, stand_alone, StandAlone, written_is_header}
use Rattle.codestream_model.proofs.PackingLemmas.{packing_packs}
use Rattle.trial_model.specs.Draws.{draw}
use Rattle.trial_model.specs.Generator.{no_content, both, draw_refine, draw_included, draw_block, draw_content, packet_of}
use Rattle.trial_model.proofs.Drawing.{draws_are_within}
use Rattle.trial_model.proofs.HeaderBits.{IsSmall, IsShort, few_seats, header_short}

-- What is drawn at a position: nothing, or a code-block there that is within the limits, and its bytes.
pub record IsIncluded (s : Seat) (x : Content) : Type 0 where
  pub block : Block
  pub one : x.blocks ≡ block ∷ []
  pub here : seat_of block ≡ s
  pub limits : IsWithinLimits block
  pub short : IsShort block
  pub segments : length x.bytes ≡ block.cleanup + block.refine

abbrev IsDrawn : Seat → Content → Type 0
IsDrawn s x = (x ≡ no_content) ⊎ IsIncluded s x

refine_drawn : (passes state : ℕ) → ((draw_refine passes state).value ≤ 63) × (passes ≡ 1 → (draw_refine passes state).value ≡ 0)
refine_drawn passes state = elim (eqb_tells passes 1) [
  | inl t ↦ rw t.0 (omega arith, (λ e. refl))
  | inr f ↦ rw f.0 (omega (arith, draws_are_within.number 64 state (omega arith)), (λ e. absurd (f.1 e)))
]

included_drawn : (s : Seat) (passes state : ℕ) → 1 ≤ passes → passes ≤ 3 → IsIncluded s (draw_included s passes state).value
included_drawn s passes state some few =
    let planes = draw 8 state in
    let cleanup = draw 63 planes.state in
    let refine = draw_refine passes cleanup.state in
    let planes_low = draws_are_within.number 8 state (omega arith) in
    let cleanup_low = draws_are_within.number 63 planes.state (omega arith) in
    let refine_low = refine_drawn passes cleanup.state in
    record {
      block = record { band = s.band; col = s.col; row = s.row; planes = planes.value; passes = passes; cleanup = 2 + cleanup.value; refine = refine.value };
      one = refl;
      here = refl;
      limits = record {
        planes = omega (arith, planes_low);
        some_passes = some;
        few_passes = few;
        some_cleanup = omega arith;
        short_cleanup = omega (arith, cleanup_low);
        short_refine = omega (arith, refine_low.0);
        no_refine = refine_low.1;
      };
      short = (omega (arith, cleanup_low), refine_low.0);
      segments = draws_are_within.length (2 + cleanup.value + refine.value) refine.state;
    }

block_drawn : (s : Seat) (state : ℕ) → IsDrawn s (draw_block s state).value
block_drawn s state = elim (eqb_tells (draw 4 state).value 0) [
  | inl t ↦ rw t.0 (inl refl)
  | inr f ↦ rw f.0 (inr (included_drawn s (draw 4 state).value (draw 4 state).state (omega (arith, f.1)) (omega (arith, draws_are_within.number 4 state (omega arith)))))
]

-- What is drawn at positions.
pub record HasDrawn (ss : List Seat) (x : Content) : Type 0 where
  pub limits : AllByRecursion IsWithinLimits x.blocks
  pub short : AllByRecursion IsShort x.blocks
  pub segments : length x.bytes ≡ segment_bytes x.blocks
  pub few : length x.bytes ≤ length ss * 127
  pub seated : AreApart ss → map seat_of x.blocks ≡ filter (is_included x.blocks) ss

-- A position that is apart from those of code-blocks isn't included.
none_included : (s : Seat) (blocks : List Block) → AllByRecursion (IsApart s) (map seat_of blocks) → is_included blocks s ≡ false
none_included s [] apart = refl
none_included s (b ∷ blocks) apart = rw apart.0.0 (none_included s blocks apart.1)

-- A code-block more at a position that is apart from others includes none of these.
same_included : (b : Block) (blocks : List Block) (ss : List Seat) → AllByRecursion (IsApart (seat_of b)) ss → filter (is_included (b ∷ blocks)) ss ≡ filter (is_included blocks) ss
same_included b blocks [] apart = refl
same_included b blocks (s ∷ ss) apart =
    let e : is_included (b ∷ blocks) s ≡ is_included blocks s = rw apart.0.1 refl in
    elim (cases_Bool (is_included blocks s)) [
      | inl t ↦ rw (e, t) (ap (λ (l : List Seat). s ∷ l) (same_included b blocks ss apart.1))
      | inr f ↦ rw (e, f) (same_included b blocks ss apart.1)
    ]

left_out : (s : Seat) (ss : List Seat) (y : Content) → HasDrawn ss y → HasDrawn (s ∷ ss) y
left_out s ss y d = record {
  limits = d.limits;
  short = d.short;
  segments = d.segments;
  few = omega (arith, d.few);
  seated = λ apart.
      let same = d.seated apart.1 in
      let P : List Seat → Type 0 = λ l. AllByRecursion (IsApart s) l in
      let none = none_included s y.blocks (subst P (sym same) (all-filter (IsApart s) (is_included y.blocks) ss apart.0)) in
      rw none same;
}

put_in : (s : Seat) (ss : List Seat) (x y : Content) → IsIncluded s x → HasDrawn ss y → HasDrawn (s ∷ ss) (both x y)
put_in s ss x y i d =
    let b = i.block in
    let blocks : (both x y).blocks ≡ b ∷ y.blocks = ap (λ (l : List Block). l ++ y.blocks) i.one in
    let size = length-append x.bytes y.bytes in
    let sum : segment_bytes (b ∷ y.blocks) ≡ (b.cleanup + b.refine) + segment_bytes y.blocks = sum_by-cons (λ (x : Block). x.cleanup + x.refine) b y.blocks in
    let P : List Block → Type 0 = λ l. AllByRecursion IsWithinLimits l in
    let Q : List Block → Type 0 = λ l. AllByRecursion IsShort l in
    let R : List Block → Type 0 = λ l. length (both x y).bytes ≡ segment_bytes l in
    let S : List Block → Type 0 = λ l. map seat_of l ≡ filter (is_included l) (s ∷ ss) in
    record {
      limits = subst P (sym blocks) (i.limits, d.limits);
      short = subst Q (sym blocks) (i.short, d.short);
      segments = subst R (sym blocks) (omega (arith, size, sum, i.segments, d.segments));
      few = omega (arith, size, i.segments, i.short.0, i.short.1, d.few);
      seated = λ apart. subst S (sym blocks) (seated_more b i.here apart);
    }
  where
    seated_more : (b : Block) → seat_of b ≡ s → AreApart (s ∷ ss) → map seat_of (b ∷ y.blocks) ≡ filter (is_included (b ∷ y.blocks)) (s ∷ ss)
    seated_more b here apart =
        let T : Seat → Type 0 = λ at. AllByRecursion (IsApart at) ss in
        let U : Seat → Type 0 = λ at. stands_at at b ≡ true in
        let first : stands_at s b ≡ true = subst U here (stands_here b) in
        rw first (
        ap (λ (at : Seat). at ∷ map seat_of y.blocks) here
        ∙ ap (λ (l : List Seat). s ∷ l) (d.seated apart.1 ∙ sym (same_included b y.blocks ss (subst T (sym here) apart.0)))
        )

one_more : (s : Seat) (ss : List Seat) (x y : Content) → IsDrawn s x → HasDrawn ss y → HasDrawn (s ∷ ss) (both x y)
one_more s ss x y (inl none) d =
    let P : Content → Type 0 = λ z. HasDrawn (s ∷ ss) (both z y) in
    subst P (sym none) (left_out s ss y d)
one_more s ss x y (inr i) d = put_in s ss x y i d

pub content_drawn : (ss : List Seat) (state : ℕ) → HasDrawn ss (draw_content ss state).value
unfolding draw_content
content_drawn [] state = record { limits = tt; short = tt; segments = refl; few = omega arith; seated = λ apart. refl }
content_drawn (s ∷ ss) state =
    one_more s ss (draw_block s state).value (draw_content ss (draw_block s state).state).value (block_drawn s state) (content_drawn ss (draw_block s state).state)

-- A header that our writer gives code-blocks is one that says them, if it isn't too long.
some_bits : (gs : List Grid) (blocks : List Block) → 1 ≤ length (written_bits gs blocks)
some_bits gs [] = omega arith
some_bits gs (b ∷ more) = omega arith

pub written_is_spelled : (gs : List Grid) (eph : Bool) (blocks : List Block) → HaveOwnBands gs → AreBlocks gs blocks
    → length (written_header gs blocks) ≤ 65536 → SpellsMarkedHeader gs eph blocks (written_marked_header gs eph blocks)
written_is_spelled gs eph blocks own are short = record {
  header = written_header gs blocks;
  is_header = record {
    bits = written_bits gs blocks;
    is_header = written_is_header gs blocks own are;
    packs = packing_packs (written_bits gs blocks) (some_bits gs blocks);
    short = short;
  };
  whole = refl;
}

-- The grids of a precinct are few and small.
pub record HasSmallGrids (h : Head) (p : Place) : Type 0 where
  pub few : length (grids h p) ≤ 3
  pub small : AllByRecursion IsSmall (grids h p)

all_seats : (gs : List Grid) → AllByRecursion IsSmall gs → length (flat_map seats gs) ≤ length gs * 4
all_seats [] small = omega arith
all_seats (g ∷ gs) small = omega (arith, few_seats g small.0, all_seats gs small.1, length-append (seats g) (flat_map seats gs))

few_blocks : (gs : List Grid) → AllByRecursion IsSmall gs → block_count gs ≤ length gs * 4
few_blocks [] small = omega arith
few_blocks (g ∷ gs) small = omega (arith, mul-le g.cols g.rows 2 2 small.0.0 small.0.1, few_blocks gs small.1, sum_by-cons (λ (x : Grid). x.cols * x.rows) g gs)

marker_short : (eph : Bool) → length (end_marker eph) ≤ 2
marker_short true = omega arith
marker_short false = omega arith

-- The packet of a drawn content is a packet of its precinct, and has at most 3,640 bytes.
pub packet_drawn : (h : Head) (p : Place) (x : Content) → HasSmallGrids h p → HasDrawn (flat_map seats (grids h p)) x
    → SpellsPacket h p x (packet_of h p x) × (length (packet_of h p x) ≤ 3640)
packet_drawn h p x g d =
    let gs = grids h p in
    let apart = grids_apart gs (own_bands h p) in
    let seated = d.seated apart in
    let P : List Seat → Type 0 = λ l. AreApart l in
    let alone : StandAlone x.blocks = stand_alone x.blocks (subst P (sym seated) (apart-filter (is_included x.blocks) (flat_map seats gs) apart)) in
    let header = header_short gs x.blocks g.few g.small d.short alone in
    let marked = length-append (written_header gs x.blocks) (end_marker h.eph) in
    let all = length-append (written_marked_header gs h.eph x.blocks) x.bytes in
    let short : length (packet_of h p x) ≤ 3640 = omega (arith, header, marked, all, marker_short h.eph, d.few, all_seats gs g.small, g.few) in (
      record {
        header = written_marked_header gs h.eph x.blocks;
        few_blocks = omega (arith, few_blocks gs g.small, g.few);
        is_header = written_is_spelled gs h.eph x.blocks (own_bands h p) (record { seated = seated; limits = d.limits }) (omega (arith, header));
        segments = d.segments;
        whole = refl;
        short = omega (arith, short);
      },
      short,
    )
