-- What is built of packets grows with them.
use Rattle.std.proofs.Common.{◌≡◌, ◌++◌, List, [], ◌∷◌, true, false, Option, None, refl, sym, ◌∙◌, ap}
use Rattle.std.proofs.lemmas.List.{append-nil}
use Rattle.stream_model.specs.Decoder.{Release}
use Rattle.rebuild_model.specs.Rebuilding.{Open, closing, rebuilt, open_at_end, open_after, added}
use Rattle.rebuild_model.proofs.Rebuilt.{rebuilt-append}
use Rattle.receiving_job.specs.Sinks.{Extends}

-- Of no packet nothing is built.
pub nothing_is_built : rebuilt false None [] ≡ []
unfolding rebuilt
nothing_is_built = refl

-- And no codestream is open.
pub nothing_is_open : None ≡ open_at_end None []
unfolding open_at_end
nothing_is_open = refl

-- What was built stays.
pub rebuilt_grows : (xs ys : List Release) → Extends (rebuilt false None xs) (rebuilt false None (xs ++ ys))
rebuilt_grows xs ys = (rebuilt false (open_at_end None xs) ys, rebuilt-append false None xs ys)

-- What is added at the end closes the codestream that is open.
nothing_more : (xs : List Release) → rebuilt true (open_at_end None xs) [] ≡ closing (open_at_end None xs)
unfolding rebuilt
nothing_more xs = refl

pub rebuilt_closes : (xs : List Release) → rebuilt true None xs ≡ rebuilt false None xs ++ closing (open_at_end None xs)
rebuilt_closes xs =
    ap (rebuilt true None) (sym (append-nil xs))
    ∙ (rebuilt-append true None xs [] ∙ ap (λ l. rebuilt false None xs ++ l) (nothing_more xs))

-- What one packet more adds.
nothing_after : (x : Release) (xs : List Release) → rebuilt false (open_at_end None xs) (x ∷ []) ≡ added (open_at_end None xs) x
unfolding rebuilt
nothing_after x xs = append-nil (added (open_at_end None xs) x)

pub one_is_added : (xs : List Release) (x : Release) → rebuilt false None (xs ++ x ∷ []) ≡ rebuilt false None xs ++ added (open_at_end None xs) x
one_is_added xs x = rebuilt-append false None xs (x ∷ []) ∙ ap (λ l. rebuilt false None xs ++ l) (nothing_after x xs)

-- The codestream that is open after it.
open_after_last : (current : Option Open) (xs : List Release) (x : Release) → open_at_end current (xs ++ x ∷ []) ≡ open_after (open_at_end current xs) x
unfolding open_at_end
open_after_last current [] x = refl
open_after_last current (y ∷ ys) x = open_after_last (open_after current y) ys x

pub open_after_one : (xs : List Release) (x : Release) → open_at_end None (xs ++ x ∷ []) ≡ open_after (open_at_end None xs) x
open_after_one xs x = open_after_last None xs x
