-- The leaves of one code-block more.
use Rattle.std.proofs.Common.{◌≡◌, ◌<◌, ◌+◌, ◌++◌, ℕ, suc, List, [], ◌∷◌, map, take, drop, length, get_or, drop-cons, sym, ◌∙◌, ap, subst}
use Rattle.std.proofs.lemmas.List.{take_more, take-append-drop, map-append}
use Rattle.codestream_model.specs.Values as values
use Rattle.codestream_model.specs.TagTrees.{IsSeat, seat_of}
use Rattle.precinct_geometry.specs.Spans.{grid_of}
use Rattle.packet_header.specs.Answers.{block_of}
use Rattle.packet_header.specs.PositionsWritten.{AreOnGrid, LaysOut, laid}
use Rattle.packet_header.specs.declared.block.Block.{Block}
use Rattle.packet_header.proofs.PositionWalks.{each_at}
use Rattle.packet_header.proofs.LeafPlaces.{place_in, none_laid, laid_more}
use Rattle.packet_header.proofs.filling.leaves_of.Goals as goal

-- one code-block more, of all
laid_next : (g : values.Grid) (all : List Block) (i : ℕ) (leaves after : List ℕ) (value : values.Block → ℕ) (other : ℕ) → i < length all → AreOnGrid g (map block_of all)
    → after ≡ laid g (block_of (get_or all i (record { band = 0; col = 0; row = 0; planes = 0; passes = 0; cleanup = 0; refine = 0 }))) (value (block_of (get_or all i (record { band = 0; col = 0; row = 0; planes = 0; passes = 0; cleanup = 0; refine = 0 })))) leaves
    → LaysOut g (map block_of (take i all)) leaves value other → LaysOut g (map block_of (take (i + 1) all)) after value other
laid_next g all i leaves after value other h on_grid e l =
    let d : Block = record { band = 0; col = 0; row = 0; planes = 0; passes = 0; cleanup = 0; refine = 0 } in
    let b = block_of (get_or all i d) in
    let done = map block_of (take i all) in
    let split : all ≡ take i all ++ get_or all i d ∷ drop (suc i) all = sym (take-append-drop i all) ∙ ap (λ (r : List Block). take i all ++ r) (drop-cons all i d h) in
    let whole : map block_of all ≡ done ++ b ∷ map block_of (drop (suc i) all) = ap (map block_of) split ∙ map-append block_of (take i all) (get_or all i d ∷ drop (suc i) all) in
    let more : done ++ b ∷ [] ≡ map block_of (take (i + 1) all) = sym (ap (map block_of) (take_more all i d h) ∙ map-append block_of (take i all) (get_or all i d ∷ [])) in
    let S : List values.Block → Type 0 = λ x. AreOnGrid g x in
    let P : List values.Block → Type 0 = λ x. LaysOut g x after value other in
    let Q : List ℕ → Type 0 = λ x. LaysOut g (done ++ b ∷ []) x value other in
    subst P more (subst Q (sym e) (laid_more g done (map block_of (drop (suc i) all)) b leaves value other (subst S whole on_grid) l))

pub loop-block-init : goal.loop-block-init
loop-block-init c =
    let g = grid_of c.args.grid in
    let one = c.in_ok-vec.ensures.items_if_clones_equal (λ y e. e) in
    let two = c.in_ok-vec-2.ensures.items_if_clones_equal (λ y e. e) in
    let P : List ℕ → Type 0 = λ l. LaysOut g [] l (λ b. 0) 1 in
    let Q : List ℕ → Type 0 = λ l. LaysOut g [] l (λ b. b.planes) 74 in
    record { inclusion = subst P (sym one) (none_laid g (λ b. 0) 1); planes = subst Q (sym two) (none_laid g (λ b. b.planes) 74) }

pub loop-block-preserved : goal.loop-block-preserved
loop-block-preserved c =
    let g = grid_of c.args.grid in
    let all = c.args.blocks.now in
    let i = c.loop-block.block-index in
    record {
      inclusion = laid_next g all i c.loop-block.leaves.inclusion.items c.lay.new.self.inclusion.items (λ b. 0) 1 c.loop-block-test.true c.requires.on_grid c.lay.ensures.inclusion c.loop-block.invariant.inclusion;
      planes = laid_next g all i c.loop-block.leaves.planes.items c.lay.new.self.planes.items (λ b. b.planes) 74 c.loop-block-test.true c.requires.on_grid c.lay.ensures.planes c.loop-block.invariant.planes;
    }

pub lay-requires-clause-seated : goal.lay-requires-clause-seated
lay-requires-clause-seated c = λ e.
    let g = grid_of c.args.grid in
    let d : Block = record { band = 0; col = 0; row = 0; planes = 0; passes = 0; cleanup = 0; refine = 0 } in
    place_in g (seat_of (block_of (get_or c.args.blocks.now c.loop-block.block-index d))) (each_at (λ b. b.band ≡ g.band → IsSeat g (seat_of b)) block_of c.args.blocks.now c.loop-block.block-index d c.loop-block-test.true c.requires.on_grid.own_band e)
