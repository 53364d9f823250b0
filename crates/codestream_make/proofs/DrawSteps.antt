-- Contents that are drawn step by step.
use Rattle.std.proofs.Common.{◌≡◌, ◌≢◌, ◌≤◌, ◌<◌, ◌+◌, ◌-◌, ◌++◌, ℕ, suc, List, [], ◌∷◌, map, refl, sym, ◌∙◌, ap, subst, arith, append_assoc}
use Rattle.std.specs.List.{flat_map, range_with_len}
use Rattle.std.proofs.lemmas.Bool.{eq-eqb, ne_eqb}
use Rattle.std.proofs.lemmas.List.{append-nil}
use Rattle.codestream_model.specs.Values.{Grid}
use Rattle.codestream_model.specs.TagTrees.{Seat}
use Rattle.codestream_model.specs.Packet.{Content}
use Rattle.trial_model.specs.Draws.{draw, draw_bytes}
use Rattle.trial_model.specs.Generator.{no_content, both, draw_refine, draw_included, draw_block, draw_content}
use Rattle.codestream_make.specs.declared.drawing.Drawing.{Drawing}
use Rattle.codestream_make.specs.Drawn.{drawn_in, HasDrawnBytes, DrawsAt, seat_at, row_of}

-- What is left of a number of bytes.
pub record BytesLeft (all left : ℕ) (old new : Drawing) : Type 0 where
  pub blocks : new.blocks.items ≡ old.blocks.items
  pub bytes : new.bytes.items ++ (draw_bytes left new.draws.state).value ≡ old.bytes.items ++ (draw_bytes all old.draws.state).value
  pub state : (draw_bytes left new.draws.state).state ≡ (draw_bytes all old.draws.state).state

pub one_byte : (all left after : ℕ) (old now new : Drawing) (byte : ℕ) → left ≡ suc after → BytesLeft all left old now → new.blocks.items ≡ now.blocks.items
    → byte ≡ (draw 255 now.draws.state).value → new.bytes.items ≡ now.bytes.items ++ byte ∷ [] → new.draws.state ≡ (draw 255 now.draws.state).state
    → BytesLeft all after old new
unfolding draw_bytes
one_byte all left after old now new byte more b blocks is bytes state =
    let P : ℕ → Type 0 = λ n. BytesLeft all n old now in
    let before = subst P more b in
    let later = (draw_bytes after (draw 255 now.draws.state).state).value in
    record {
      blocks = blocks ∙ before.blocks;
      bytes =
          ap (λ (s : ℕ). new.bytes.items ++ (draw_bytes after s).value) state
          ∙ ap (λ (l : List ℕ). l ++ later) (bytes ∙ ap (λ (k : ℕ). now.bytes.items ++ k ∷ []) is)
          ∙ append_assoc now.bytes.items ((draw 255 now.draws.state).value ∷ []) later
          ∙ before.bytes;
      state = ap (λ (s : ℕ). (draw_bytes after s).state) state ∙ before.state;
    }

pub all_bytes : (all : ℕ) (old new : Drawing) → BytesLeft all 0 old new → HasDrawnBytes all old new
unfolding draw_bytes
all_bytes all old new b = record { blocks = b.blocks; bytes = sym (append-nil new.bytes.items) ∙ b.bytes; state = b.state }

-- Contents one after another.
both-assoc : (x y z : Content) → both (both x y) z ≡ both x (both y z)
both-assoc x y z = rw (append_assoc x.blocks y.blocks z.blocks, append_assoc x.bytes y.bytes z.bytes) refl

both-none : (x : Content) → both x no_content ≡ x
both-none x = rw (append-nil x.blocks, append-nil x.bytes) refl

draw-append : (ss tt : List Seat) (state : ℕ)
    → ((draw_content (ss ++ tt) state).value ≡ both (draw_content ss state).value (draw_content tt (draw_content ss state).state).value)
    × ((draw_content (ss ++ tt) state).state ≡ (draw_content tt (draw_content ss state).state).state)
unfolding draw_content
draw-append [] tt state = (refl, refl)
draw-append (s ∷ ss) tt state =
    let first = (draw_block s state).value in
    let rest = draw-append ss tt (draw_block s state).state in (
      ap (both first) rest.0 ∙ sym (both-assoc first (draw_content ss (draw_block s state).state).value (draw_content tt (draw_content ss (draw_block s state).state).state).value),
      rest.1,
    )

pub chain : (ss tt : List Seat) (a b c : Drawing) → DrawsAt ss a b → DrawsAt tt b c → DrawsAt (ss ++ tt) a c
chain ss tt a b c d e =
    let both_drawn = draw-append ss tt a.draws.state in
    let later : ℕ → Content = λ s. (draw_content tt s).value in
    record {
      content =
          e.content
          ∙ ap (λ (s : ℕ). both (drawn_in b) (later s)) d.state
          ∙ ap (λ (x : Content). both x (later (draw_content ss a.draws.state).state)) d.content
          ∙ both-assoc (drawn_in a) (draw_content ss a.draws.state).value (later (draw_content ss a.draws.state).state)
          ∙ ap (both (drawn_in a)) (sym both_drawn.0);
      state = e.state ∙ ap (λ (s : ℕ). (draw_content tt s).state) d.state ∙ sym both_drawn.1;
    }

pub none_drawn : (a : Drawing) → DrawsAt [] a a
unfolding draw_content
none_drawn a = record { content = sym (both-none (drawn_in a)); state = refl }

-- What is drawn at the positions that are left makes all.
abbrev pub Leaves : List Seat → List Seat → Drawing → Drawing → Type 0
Leaves all left old now = (end : Drawing) → DrawsAt left now end → DrawsAt all old end

pub fewer_left : (all here left : List Seat) (old now new : Drawing) → Leaves all (here ++ left) old now → DrawsAt here now new → Leaves all left old new
fewer_left all here left old now new leaves drawn = λ end later. leaves end (chain here left now new end drawn later)

pub none_left : (all left : List Seat) (old now : Drawing) → Leaves all left old now → left ≡ [] → DrawsAt all old now
none_left all left old now leaves none =
    let P : List Seat → Type 0 = λ l. DrawsAt l now now in
    leaves now (subst P (sym none) (none_drawn now))

-- The columns of a row and the rows of a grid that are left.
abbrev pub columns_left : Grid → ℕ → ℕ → List Seat
columns_left g row col = map (λ k. seat_at g.band k row) (range_with_len col (g.cols - col))

abbrev pub rows_left : Grid → ℕ → List Seat
rows_left g row = flat_map (row_of g) (range_with_len row (g.rows - row))

range_next : (i n : ℕ) → i < n → range_with_len i (n - i) ≡ i ∷ range_with_len (i + 1) (n - (i + 1))
range_next i n less = let e : n - i ≡ suc (n - (i + 1)) = omega (arith, less) in rw e refl

pub next_column : (g : Grid) (row col : ℕ) → col < g.cols → columns_left g row col ≡ (seat_at g.band col row ∷ []) ++ columns_left g row (col + 1)
next_column g row col less = ap (λ (l : List ℕ). map (λ k. seat_at g.band k row) l) (range_next col g.cols less)

pub no_column : (g : Grid) (row col : ℕ) → g.cols ≤ col → columns_left g row col ≡ []
no_column g row col most = let e : g.cols - col ≡ 0 = omega (arith, most) in rw e refl

pub next_row : (g : Grid) (row : ℕ) → row < g.rows → rows_left g row ≡ row_of g row ++ rows_left g (row + 1)
next_row g row less = ap (λ (l : List ℕ). flat_map (row_of g) l) (range_next row g.rows less)

pub no_row : (g : Grid) (row : ℕ) → g.rows ≤ row → rows_left g row ≡ []
no_row g row most = let e : g.rows - row ≡ 0 = omega (arith, most) in rw e refl

-- What is drawn at one position: nothing, or a code-block.
left_draw : (s : Seat) (state : ℕ) → (draw 4 state).value ≡ 0 → ((draw_content (s ∷ []) state).value ≡ no_content) × ((draw_content (s ∷ []) state).state ≡ (draw 4 state).state)
unfolding draw_content
left_draw s state none = rw (eq-eqb (draw 4 state).value 0 none) (refl, refl)

put_draw : (s : Seat) (state : ℕ) → (draw 4 state).value ≢ 0
    → ((draw_content (s ∷ []) state).value ≡ (draw_included s (draw 4 state).value (draw 4 state).state).value)
    × ((draw_content (s ∷ []) state).state ≡ (draw_included s (draw 4 state).value (draw 4 state).state).state)
unfolding draw_content
put_draw s state some = rw (ne_eqb (draw 4 state).value 0 some) (both-none (draw_included s (draw 4 state).value (draw 4 state).state).value, refl)

-- A code-block that is left out.
pub left_out : (s : Seat) (a b : Drawing) → drawn_in b ≡ drawn_in a → (draw 4 a.draws.state).value ≡ 0 → b.draws.state ≡ (draw 4 a.draws.state).state → DrawsAt (s ∷ []) a b
left_out s a b same none state =
    let d = left_draw s a.draws.state none in
    record { content = same ∙ sym (both-none (drawn_in a)) ∙ ap (both (drawn_in a)) (sym d.0); state = state ∙ sym d.1 }

-- A code-block that is put in, by the numbers that were drawn.
pub record PutIn (s : Seat) (a b : Drawing) (passes planes second cleanup third refine fourth : ℕ) : Type 0 where
  pub passes_is : passes ≡ (draw 4 a.draws.state).value
  pub some : passes ≢ 0
  pub planes_is : planes ≡ (draw 8 (draw 4 a.draws.state).state).value
  pub second_is : second ≡ (draw 8 (draw 4 a.draws.state).state).state
  pub cleanup_is : cleanup ≡ 2 + (draw 63 second).value
  pub third_is : third ≡ (draw 63 second).state
  pub refine_is : refine ≡ (draw_refine passes third).value
  pub fourth_is : fourth ≡ (draw_refine passes third).state
  pub blocks : (drawn_in b).blocks ≡ (drawn_in a).blocks ++ record { band = s.band; col = s.col; row = s.row; planes = planes; passes = passes; cleanup = cleanup; refine = refine } ∷ []
  pub bytes : (drawn_in b).bytes ≡ (drawn_in a).bytes ++ (draw_bytes (cleanup + refine) fourth).value
  pub state : b.draws.state ≡ (draw_bytes (cleanup + refine) fourth).state

-- What is put in, by these numbers.
abbrev included : Seat → ℕ → ℕ → ℕ → ℕ → ℕ → Content
included s passes planes cleanup refine fourth = record {
  blocks = record { band = s.band; col = s.col; row = s.row; planes = planes; passes = passes; cleanup = cleanup; refine = refine } ∷ [];
  bytes = (draw_bytes (cleanup + refine) fourth).value;
}

included_is : (s : Seat) (state passes planes second cleanup third refine fourth : ℕ) → passes ≡ (draw 4 state).value
    → planes ≡ (draw 8 (draw 4 state).state).value → second ≡ (draw 8 (draw 4 state).state).state
    → cleanup ≡ 2 + (draw 63 second).value → third ≡ (draw 63 second).state
    → refine ≡ (draw_refine passes third).value → fourth ≡ (draw_refine passes third).state
    → (included s passes planes cleanup refine fourth ≡ (draw_included s (draw 4 state).value (draw 4 state).state).value)
    × ((draw_bytes (cleanup + refine) fourth).state ≡ (draw_included s (draw 4 state).value (draw 4 state).state).state)
included_is s state passes planes second cleanup third refine fourth e1 e2 e3 e4 e5 e6 e7 = rw (e7, e6, e5, e4, e3, e2, e1) (refl, refl)

pub put_in : (s : Seat) (a b : Drawing) (passes planes second cleanup third refine fourth : ℕ) → PutIn s a b passes planes second cleanup third refine fourth → DrawsAt (s ∷ []) a b
put_in s a b passes planes second cleanup third refine fourth p =
    let is = included_is s a.draws.state passes planes second cleanup third refine fourth p.passes_is p.planes_is p.second_is p.cleanup_is p.third_is p.refine_is p.fourth_is in
    let d = put_draw s a.draws.state (λ e. p.some (p.passes_is ∙ e)) in
    let same : drawn_in b ≡ both (drawn_in a) (included s passes planes cleanup refine fourth) = rw (p.blocks, p.bytes) refl in
    record { content = same ∙ ap (both (drawn_in a)) (is.0 ∙ sym d.0); state = p.state ∙ is.1 ∙ sym d.1 }

-- The length of a refinement segment by the number of passes.
pub refine_none : (passes state : ℕ) → passes ≡ 1 → ((draw_refine passes state).value ≡ 0) × ((draw_refine passes state).state ≡ state)
refine_none passes state one = rw (eq-eqb passes 1 one) (refl, refl)

pub refine_some : (passes state : ℕ) → passes ≢ 1 → ((draw_refine passes state).value ≡ (draw 64 state).value) × ((draw_refine passes state).state ≡ (draw 64 state).state)
refine_some passes state more = rw (ne_eqb passes 1 more) (refl, refl)
