-- What is promised of the numbers of main headers.
use Rattle.std.specs.Prelude.{◌≡◌, ◌<◌, ◌-◌, ◌^◌, ℕ, List, [], ◌∷◌, length}
use Rattle.std.specs.List.{AllByRecursion}
use Rattle.stream_model.specs.Decoder.{Release}
use Rattle.stream_model.specs.Receiver.{Pick, received, flushed}

-- Packets with the same number of main headers have the same main header, each with all that follow it.
abbrev pub ShareHeaders : List Release → Type 0
ShareHeaders [] = Unit {0}
ShareHeaders (x ∷ xs) = AllByRecursion (λ y. y.heads ≡ x.heads → y.header ≡ x.header) xs × ShareHeaders xs

-- Packets that are released when the same number of main headers was taken are released under the same main header, whatever bytes
-- the frames are; there are fewer than 2^64 - 1 of them, so that the number counts on.
abbrev pub HeadersAreNumbered : Type 0
HeadersAreNumbered = (pick : Pick) (frames : List (List ℕ)) → length frames < 2 ^ 64 - 1 → ShareHeaders (flushed (received pick frames)).releases
