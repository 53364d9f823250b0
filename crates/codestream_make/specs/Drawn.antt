-- What was drawn of a precinct's content.
use Rattle.std.specs.Prelude.{◌≡◌, ◌++◌, ℕ, List, map}
use Rattle.std.specs.List.{range_with_len}
use Rattle.codestream_model.specs.Values.{Grid}
use Rattle.codestream_model.specs.TagTrees.{Seat}
use Rattle.codestream_model.specs.Packet.{Content}
use Rattle.trial_model.specs.Draws.{draw_bytes}
use Rattle.trial_model.specs.Generator.{both, draw_content}
use Rattle.packet_header.specs.Answers.{block_of}
use Rattle.codestream_make.specs.declared.drawing.Drawing.{Drawing}

-- The content that was drawn so far.
abbrev pub drawn_in : Drawing → Content
drawn_in d = record { blocks = map block_of d.blocks.items; bytes = d.bytes.items }

-- A number of bytes was drawn, and nothing else.
pub record HasDrawnBytes (count : ℕ) (old new : Drawing) : Type 0 where
  pub blocks : new.blocks.items ≡ old.blocks.items
  pub bytes : new.bytes.items ≡ old.bytes.items ++ (draw_bytes count old.draws.state).value
  pub state : new.draws.state ≡ (draw_bytes count old.draws.state).state

-- What is at these positions was drawn, after what was drawn before.
pub record DrawsAt (ss : List Seat) (old new : Drawing) : Type 0 where
  pub content : drawn_in new ≡ both (drawn_in old) (draw_content ss old.draws.state).value
  pub state : new.draws.state ≡ (draw_content ss old.draws.state).state

-- The position of a code-block.
abbrev pub seat_at : ℕ → ℕ → ℕ → Seat
seat_at band col row = record { band = band; col = col; row = row }

-- The positions of a row of a grid.
abbrev pub row_of : Grid → ℕ → List Seat
row_of g row = map (λ col. seat_at g.band col row) (range_with_len 0 g.cols)
