-- The stretches of the cut are runs of packets of one resolution, and its payloads are as long as they can be.
use Rattle.std.proofs.Common.{◌≡◌, ◌<◌, ◌≤◌, ◌⊎◌, ◌+◌, ◌-◌, ◌*◌, ◌/◌, ℕ, true, false, List, [], ◌∷◌, ◌++◌, map, length, drop, get_or, refl, sym, ap, ◌∙◌, inl, inr, arith}
use Rattle.std.specs.Prelude.{◌==◌}
use Rattle.std.specs.List.{AllByRecursion, flat_map}
use Rattle.std.proofs.lemmas.Bool.{eqb-true}
use Rattle.std.proofs.lemmas.List.{append-nil, length-take, length-drop}
use Rattle.std.proofs.lemmas.List.FromFn.{length-map-range_with_len, get_or-map-range_with_len}
use Rattle.codestream_model.specs.Codestream.{joined}
use Rattle.stream_model.specs.Cut.{Piece, onto_first, stretches, chunks}
use Rattle.stream_model.specs.Laws.{IsRun, AreApart, StretchesAreRuns, ChunksAreFull}
use Rattle.stream_model.proofs.InTime.{arrived_or_not}
use Rattle.stream_model.proofs.InOrder.{differ}
use Rattle.stream_model.proofs.CutPayloads.{chunk, not_more, chunks_join}

-- the bytes of packets, joined
abbrev pub bytes_of : List Piece → List ℕ
bytes_of pieces = joined (map (λ y. y.bytes) pieces)

-- in plain mode there is one stretch
plain_is_one : (x : Piece) (more : List Piece) → stretches false (x ∷ more) ≡ bytes_of (x ∷ more) ∷ []
plain_is_one x [] = ap (λ ys. ys ∷ []) (sym (append-nil x.bytes))
plain_is_one x (y ∷ more) = ap (λ ys. onto_first x.bytes ys) (plain_is_one y more)

-- the runs of packets of which the first is this one
pub record Runs (x : Piece) (more : List Piece) : Type 0 where
  pub others : List Piece
  pub rest : List (ℕ × List Piece)
  pub whole : (x ∷ others) ++ flat_map (λ run. run.1) rest ≡ x ∷ more
  pub runs : AllByRecursion IsRun ((x.place.r, x ∷ others) ∷ rest)
  pub apart : AreApart ((x.place.r, x ∷ others) ∷ rest)
  pub are : stretches true (x ∷ more) ≡ map (λ run. bytes_of run.1) ((x.place.r, x ∷ others) ∷ rest)

-- one more packet in front begins a run of its own or joins the first
same_runs : (a b : ℕ) (ps : List Piece) (rest : List (ℕ × List Piece)) (qs : List Piece) → AreApart ((a, ps) ∷ rest) → a ≡ b → AreApart ((b, qs) ∷ rest)
same_runs a b ps [] qs h e = tt
same_runs a b ps (r ∷ rest) qs h e = (λ f. h.0 (e ∙ f), h.1)

all_of : (a b : ℕ) (xs : List Piece) → a ≡ b → AllByRecursion (λ z. z.place.r ≡ a) xs → AllByRecursion (λ z. z.place.r ≡ b) xs
all_of a b [] e h = tt
all_of a b (x ∷ xs) e h = (h.0 ∙ e, all_of a b xs e h.1)

joins : (x y : Piece) (more : List Piece) → x.place.r ≡ y.place.r → (x.place.r == y.place.r) ≡ true → Runs y more → Runs x (y ∷ more)
joins x y more e t r = record {
  others = y ∷ r.others;
  rest = r.rest;
  whole = ap (λ ys. x ∷ ys) r.whole;
  runs = ((omega arith, (refl, (sym e, all_of y.place.r x.place.r r.others (sym e) r.runs.0.1.1))), r.runs.1);
  apart = same_runs y.place.r x.place.r (y ∷ r.others) r.rest (x ∷ y ∷ r.others) r.apart (sym e);
  are = rw t (ap (λ ys. onto_first x.bytes ys) r.are);
}

begins : (x y : Piece) (more : List Piece) → (x.place.r == y.place.r) ≡ false → Runs y more → Runs x (y ∷ more)
begins x y more t r = record {
  others = [];
  rest = (y.place.r, y ∷ r.others) ∷ r.rest;
  whole = ap (λ ys. x ∷ ys) r.whole;
  runs = ((omega arith, (refl, tt)), r.runs);
  apart = (differ x.place.r y.place.r t, r.apart);
  are = rw t (ap (λ ys. x.bytes ∷ ys) r.are ∙ ap (λ b. b ∷ map (λ run. bytes_of run.1) ((y.place.r, y ∷ r.others) ∷ r.rest)) (sym (append-nil x.bytes)));
}

more_runs : (x y : Piece) (more : List Piece) → (((x.place.r == y.place.r) ≡ true) ⊎ ((x.place.r == y.place.r) ≡ false)) → Runs y more → Runs x (y ∷ more)
more_runs x y more (inl t) r = joins x y more (eqb-true x.place.r y.place.r t) t r
more_runs x y more (inr t) r = begins x y more t r

runs_of : (x : Piece) (more : List Piece) → Runs x more
runs_of x [] = record {
  others = [];
  rest = [];
  whole = refl;
  runs = ((omega arith, (refl, tt)), tt);
  apart = tt;
  are = ap (λ ys. ys ∷ []) (sym (append-nil x.bytes));
}
runs_of x (y ∷ more) = more_runs x y more (arrived_or_not (x.place.r == y.place.r)) (runs_of y more)

split_in_runs : (pieces : List Piece)
    → (runs : List (ℕ × List Piece)) × (flat_map (λ run. run.1) runs ≡ pieces) × AllByRecursion IsRun runs × AreApart runs
    × (stretches true pieces ≡ map (λ run. bytes_of run.1) runs)
split_in_runs [] = ([], refl, tt, tt, refl)
split_in_runs (x ∷ more) = let r = runs_of x more in ((x.place.r, x ∷ r.others) ∷ r.rest, r.whole, r.runs, r.apart, r.are)

pub stretches_are_runs : StretchesAreRuns
stretches_are_runs = (plain_is_one, split_in_runs)

-- each chunk but the last is full
full_chunk : (room : ℕ) (bytes : List ℕ) (i : ℕ) → i * room + room ≤ length bytes → length (chunk room bytes i) ≡ room
full_chunk room bytes i h =
    let t = length-take (i * room + room - i * room) (drop (i * room) bytes) in
    let d = length-drop (i * room) bytes in
    omega (arith, t, d)

pub chunks_are_full : ChunksAreFull
chunks_are_full room bytes some = (
  chunks_join room bytes some,
  λ i h.
      (let n : ℕ = (length bytes + room - 1) / room in
      let long : length (chunks room bytes) ≡ n = length-map-range_with_len (chunk room bytes) 0 n in
      let next : i + 1 < n = omega arith in
      let low : (i + 1) * room < length bytes = not_more room (length bytes) (i + 1) some next in
      let e : (i + 1) * room ≡ i * room + room = omega arith in
      let at : get_or (chunks room bytes) i [] ≡ chunk room bytes i = get_or-map-range_with_len (chunk room bytes) 0 n i i [] (omega arith) (omega arith) in
      ap (λ b. length b) at ∙ full_chunk room bytes i (omega arith)),
)
