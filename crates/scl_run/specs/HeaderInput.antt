-- Inputs that are read for the main header that they begin with.
use Rattle.std.specs.Prelude.{◌≡◌, ◌≤◌, ◌++◌, ℕ, List, length}
use Rattle.codestream_model.specs.Values.{Head}
use Rattle.codestream_model.specs.MainHeader.{SpellsHead}
use Rattle.codestream_model.specs.RefusedHeader.{RefusesHead}
use Rattle.codestream_model.specs.HeadRefusals.{Cut as WantsBytes}
use Rattle.j2k_markers.specs.declared.head.HeadWhy.{HeadWhy}
use Rattle.j2k_markers.specs.declared.head.HeadWhy.TheVariants.{Cut}
use Rattle.j2k_markers.specs.Refusals.{refusal_of}
use Rattle.scl_run.specs.declared.ending.Reason.TheVariants.{Header}
use Rattle.scl_run.specs.declared.ending.Refusal.{Refusal}
use Rattle.scl_run.specs.InputClass.{InputClass}

-- The input begins with a main header.
pub record BeginsWithHead (input : List ℕ) : Type 0 where
  pub head : Head
  pub header : List ℕ
  pub more : List ℕ
  pub spelt : SpellsHead head header
  pub whole : input ≡ header ++ more

-- The input doesn't begin with a main header: the first refusal, and its place.
abbrev pub LacksHeader : List ℕ → Refusal → Type 0
LacksHeader input r = (why : HeadWhy) × (r.reason ≡ Header why) × RefusesHead input r.at (refusal_of why)

-- The bytes end before a main header is whole or refused for another reason.
abbrev pub WantsHeaderBytes : List ℕ → Type 0
WantsHeaderBytes read = (at : ℕ) × RefusesHead read at WantsBytes

-- The class of inputs that begin with a main header: at most 8,192 bytes are read, and none after the header is whole or refused.
abbrev pub header_input : InputClass
header_input = record {
  Accepts = BeginsWithHead;
  Refuses = LacksHeader;
  AcceptsAtEnd = ⊥;
  RefusesAtEnd = λ reason. reason ≡ Header Cut;
  Wants = WantsHeaderBytes;
  Fits = λ read. length read ≤ 8192;
}
