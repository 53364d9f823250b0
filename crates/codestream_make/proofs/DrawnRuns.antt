-- Contents that are drawn for precincts one after another.
use Rattle.std.proofs.Common.{◌≡◌, ◌++◌, ℕ, List, [], ◌∷◌, sym, ◌∙◌, ap, append_assoc}
use Rattle.std.specs.List.{flat_map}
use Rattle.std.proofs.lemmas.List.{append-nil}
use Rattle.codestream_model.specs.Values.{Head, Place}
use Rattle.codestream_model.specs.Precincts.{grids}
use Rattle.codestream_model.specs.TagTrees.{seats}
use Rattle.codestream_model.specs.Packet.{Content}
use Rattle.trial_model.specs.Generator.{draw_content, draw_contents}

-- The next content joins those that were drawn.
pub next_drawn : (h : Head) (p : Place) (places : List Place) (before all : List Content) (state after : ℕ) (x : Content)
    → before ++ (draw_contents h (p ∷ places) state).value ≡ all
    → x ≡ (draw_content (flat_map seats (grids h p)) state).value → after ≡ (draw_content (flat_map seats (grids h p)) state).state
    → (before ++ x ∷ []) ++ (draw_contents h places after).value ≡ all
unfolding draw_contents
next_drawn h p places before all state after x whole is same =
    append_assoc before (x ∷ []) (draw_contents h places after).value
    ∙ ap (λ (y : Content). before ++ y ∷ (draw_contents h places after).value) is
    ∙ ap (λ (n : ℕ). before ++ (draw_content (flat_map seats (grids h p)) state).value ∷ (draw_contents h places n).value) same
    ∙ whole

-- None is left.
pub all_drawn : (h : Head) (before all : List Content) (state : ℕ) → before ++ (draw_contents h [] state).value ≡ all → before ≡ all
unfolding draw_contents
all_drawn h before all state whole = sym (append-nil before) ∙ whole
