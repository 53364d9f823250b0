-- What is asked of a generated codestream, and its plan.
use Rattle.std.specs.Prelude.{◌≡◌, ℕ, Bool, ◌∷◌, map, replicate}
use Rattle.std.specs.List.{range_with_len}
use Rattle.codestream_model.specs.Values.{Pair}
use Rattle.codestream_model.specs.Segments.{COM, segment_bytes}
use Rattle.trial_model.specs.Generator.{Shape as AskedShape, shape_step, com_content}
use Rattle.trial_model.specs.GeneratorLaws.{drawn_contents}
use Rattle.j2k_markers.specs.declared.plan.HeadPlan.{HeadPlan}
use Rattle.codestream_make.specs.declared.shape.Sub.{Sub}
use Rattle.codestream_make.specs.declared.shape.Sub.TheVariants.{S444, S422, S420}
use Rattle.codestream_make.specs.declared.shape.Shape.{Shape}
use Rattle.codestream_make.specs.declared.plan.CodePlan.{CodePlan}
use Rattle.codestream_make.specs.Making.{contents_of}

-- XRsiz and YRsiz of components 1 and 2.
abbrev pub chroma_of : Sub → Pair
chroma_of S444 = record { x = 1; y = 1 }
chroma_of S422 = record { x = 2; y = 1 }
chroma_of S420 = record { x = 2; y = 2 }

-- Two numbers as a pair of the definitions.
abbrev pub pair_of : ℕ × ℕ → Pair
pair_of step = record { x = step.0; y = step.1 }

-- The shape that these values ask for.
abbrev pub asked : ℕ → ℕ → ℕ → ℕ → Sub → ℕ → Bool → AskedShape
asked width height components levels sub order eph = record {
  width = width;
  height = height;
  components = components;
  chroma = chroma_of sub;
  levels = levels;
  order = order;
  eph = eph;
}

-- A shape of the code as one of the definitions.
abbrev pub shape_of : Shape → AskedShape
shape_of s = asked s.width s.height s.components s.levels s.sub s.order s.eph

-- XRsiz and YRsiz of a component, as two numbers.
abbrev pub step_pair : AskedShape → ℕ → ℕ × ℕ
step_pair shape c = ((shape_step shape c).x, (shape_step shape c).y)

-- The plan says what a shape asks for, with Psot 0.
pub record IsPlanOf (shape : AskedShape) (plan : HeadPlan) : Type 0 where
  pub left : plan.area.0 ≡ 0
  pub top : plan.area.1 ≡ 0
  pub width : plan.area.2 ≡ shape.width
  pub height : plan.area.3 ≡ shape.height
  pub steps : plan.steps.items ≡ map (step_pair shape) (range_with_len 0 shape.components)
  pub levels : plan.levels ≡ shape.levels
  pub block_x : plan.block.0 ≡ 6
  pub block_y : plan.block.1 ≡ 6
  pub style : plan.style ≡ 0x40
  pub precincts : plan.precincts.items ≡ (7, 7) ∷ replicate shape.levels (8, 8)
  pub psot : plan.psot ≡ 0
  pub extra : plan.extra.items ≡ segment_bytes (record { marker = COM; content = com_content })
  pub order : plan.order ≡ shape.order
  pub eph : plan.eph ≡ shape.eph

-- The plan of the codestream that is generated from a seed.
pub record IsDrawnPlan (shape : AskedShape) (seed : ℕ) (plan : CodePlan) : Type 0 where
  pub head : IsPlanOf shape plan.head
  pub contents : contents_of plan ≡ drawn_contents shape seed
