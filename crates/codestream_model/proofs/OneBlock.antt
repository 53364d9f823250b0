-- Headers of one code-block in one grid of one: what is to be shown of one byte by byte, and all else.
use Rattle.std.proofs.Common.{◌≡◌, ◌<◌, ◌≤◌, ℕ, Bool, true, List, [], ◌∷◌, refl, arith, if◌then◌else◌}
use Rattle.codestream_model.specs.TagTrees.{Seat, halvings}
use Rattle.codestream_model.specs.HeaderPieces.{Choices, bits_of, header_pieces}
use Rattle.codestream_model.specs.PacketHeader.{IsWithinLimits, FitLengths, CanSay, is_included, FilledHeaderBits}
use Rattle.codestream_model.proofs.WorkedPacketHeaders.{one_grid, block}

-- labels that are all 0 in the inclusion tree and all the zero bit-planes in the value tree, and one Lblock
abbrev pub one_choice : ℕ → ℕ → Choices
one_choice planes lblock = record { inclusion = λ band level col row. 0; planes = λ band level col row. planes; lblock = λ s. lblock }

-- the only position of a grid of one is included
included_here : (planes passes cleanup refine : ℕ) (s : Seat) → s.band ≡ 0 → s.col < 1 → s.row < 1 → ◌≡◌ {A = ℕ} 0 (if is_included (block planes passes cleanup refine ∷ []) s then 0 else 1)
included_here planes passes cleanup refine s a b c =
    let d : s.col ≡ 0 = omega arith in
    let e : s.row ≡ 0 = omega arith in
    rw (a, d, e) refl

-- a header can say one code-block
pub one_can_say : (planes passes cleanup refine lblock : ℕ) → 1 ≤ passes → passes ≤ 6 → FitLengths lblock (block planes passes cleanup refine)
    → CanSay one_grid (one_choice planes lblock) (block planes passes cleanup refine ∷ [])
unfolding halvings
one_can_say planes passes cleanup refine lblock some few fits = record {
  seated = refl;
  inclusion = (
    record {
      never_falls = λ s level i h. absurd (omega arith);
      leaves = λ s i. included_here planes passes cleanup refine s i.band i.col i.row;
    },
    tt,
  );
  planes = (record { never_falls = λ s level i h. absurd (omega arith); leaves = (λ e. refl, tt) }, tt);
  passes = ((some, few), tt);
  lengths = (fits, tt);
}

-- the bits of one code-block's header
pub one_block : (planes passes cleanup refine lblock : ℕ) (bits : List Bool)
    → IsWithinLimits (block planes passes cleanup refine) → FitLengths lblock (block planes passes cleanup refine) → lblock ≤ 24
    → bits ≡ true ∷ bits_of (header_pieces one_grid (one_choice planes lblock) (block planes passes cleanup refine ∷ []))
    → FilledHeaderBits one_grid (block planes passes cleanup refine ∷ []) bits
one_block planes passes cleanup refine lblock bits limits fits low whole = record {
  choices = one_choice planes lblock;
  can_say = one_can_say planes passes cleanup refine lblock limits.some_passes (omega (arith, limits.few_passes)) fits;
  limits = (limits, tt);
  lblocks = (low, tt);
  whole = whole;
}
