-- What is read of all grids is a header that these code-blocks have.
use Rattle.std.proofs.Common.{◌≡◌, Bool, true, List, ◌∷◌, ◌++◌, sym, ◌∙◌, ap, subst, inl, inr}
use Rattle.std.specs.List.{AllByRecursion}
use Rattle.codestream_model.specs.Values.{Grid, Block}
use Rattle.codestream_model.specs.HeaderPieces.{Piece, IsSound, bits_of}
use Rattle.codestream_model.specs.PacketHeader.{HaveOwnBands, FilledHeaderBits}
use Rattle.codestream_model.specs.PacketHeaderReading.{Got, read_grids}
use Rattle.codestream_model.proofs.InverseLemmas.{got_parts}
use Rattle.codestream_model.proofs.JudgedRuns.{AreLimited}
use Rattle.codestream_model.proofs.LimitLemmas.{lblocks_low}
use Rattle.codestream_model.proofs.StopLemmas.{stop_not_got}
use Rattle.codestream_model.proofs.BitsJudged.{BitsTold, bits_told}

-- a header whose pieces are sound
filled : (gs : List Grid) (bits rest : List Bool) (t : BitsTold gs bits) → bits ≡ bits_of t.pieces ++ rest → AllByRecursion IsSound t.pieces → AreLimited t.blocks → (front : List Bool) × (true ∷ bits ≡ front ++ rest) × FilledHeaderBits gs t.blocks front
filled gs bits rest t e sound limits =
    let P : List Piece → Type 0 = λ l. AllByRecursion IsSound l in (
      true ∷ bits_of t.pieces,
      ap (λ (l : List Bool). true ∷ l) e,
      record {
        choices = t.header.choices;
        can_say = t.header.can_say;
        limits = limits;
        lblocks = lblocks_low gs t.header.choices t.blocks t.header.can_say (subst P t.header.pieces sound);
        whole = ap (λ (l : List Piece). true ∷ bits_of l) t.header.pieces;
      },
    )

-- what is read of all grids is a header
pub grids_say : (gs : List Grid) (bits : List Bool) (left : List Block) (rest : List Bool) → HaveOwnBands gs → read_grids gs bits ≡ Got left rest → (front : List Bool) × (true ∷ bits ≡ front ++ rest) × FilledHeaderBits gs left front
grids_say gs bits left rest bands e =
    let t = bits_told gs bits bands in
    elim t.told [
      | inr s ↦ absurd (stop_not_got s.0 left rest (sym s.2 ∙ e))
      | inl g ↦
          let parts = got_parts t.blocks left g.0 rest (sym g.1 ∙ e) in
          let P : List Bool → Type 0 = λ l. bits ≡ bits_of t.pieces ++ l in
          let Q : List Block → Type 0 = λ l. (front : List Bool) × (true ∷ bits ≡ front ++ rest) × FilledHeaderBits gs l front in
          subst Q parts.0 (filled gs bits rest t (subst P parts.1 g.2) g.3 g.4)
    ]
