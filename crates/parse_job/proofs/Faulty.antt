-- The fault of an input of whole codestreams and some bytes after them.
use Rattle.std.proofs.Common.{◌≡◌, ◌<◌, ◌≤◌, ◌+◌, ◌-◌, ◌^◌, ℕ, List, [], ◌++◌, length, take, refl, sym, subst, ◌∙◌, ap, inl, inr, arith, append_assoc}
use Rattle.std.specs.List.{AllByRecursion}
use Rattle.std.proofs.Math.Seq.{take-append-add, take-append-le}
use Rattle.std.proofs.lemmas.Bool.{cases_lt}
use Rattle.std.proofs.lemmas.List.{append-nil, length-append, take_at, take_all}
use Rattle.codestream_model.specs.Codestream.{WalkRefusal, HeadRefused, Cut, TooManyBlocks, HeaderRefused, PacketTooLong, Psot, NoEoc, InputTooLong, TooManyFrames, IsCodestream, joined, RefusesCodestream, NeedsCodestreamBytes, RefusesRest, readable, Faults}
use Rattle.codestream_model.proofs.Inputs.{refuse_rest}
use Rattle.codestream_model.proofs.Stays.{codestream_refusals_stay}

-- fewer whole codestreams than may be, within the bytes that are read, and bytes after them
pub record Behind (codestreams : List (List ℕ)) (rest : List ℕ) : Type 0 where
  pub each : AllByRecursion IsCodestream codestreams
  pub few : length codestreams < 65536
  pub some : 1 ≤ length rest
  pub within : length (joined codestreams) + length rest ≤ 2 ^ 40

-- bytes that may be read, and of what follows them a front
readable_more : (done : ℕ) (xs ys : List ℕ) → done + length xs ≤ 2 ^ 40 → (k : ℕ) × (readable done (xs ++ ys) ≡ xs ++ take k ys)
readable_more done xs ys few =
    let k = 2 ^ 40 - done - length xs in
    let e : 2 ^ 40 - done ≡ length xs + k = omega (arith, few) in
    (k, ap (λ (n : ℕ). take n (xs ++ ys)) e ∙ take-append-add xs ys k)

-- the last bytes end inside a codestream, and so does the input
pub cut_at : (codestreams : List (List ℕ)) (rest : List ℕ) → Behind codestreams rest → NeedsCodestreamBytes rest → Faults (joined codestreams ++ rest) (length (joined codestreams) + length rest) Cut
cut_at codestreams rest b n = record { codestreams = codestreams; rest = rest; whole = refl; each = b.each; within = omega (arith, b.within); follows = b.some; fault = inr (b.few, (n, b.within, refl)) }

-- the last bytes are refused, whatever follows
pub refused_at : (codestreams : List (List ℕ)) (rest more : List ℕ) (inside : ℕ) (why : WalkRefusal) → Behind codestreams rest → RefusesCodestream rest inside why → Faults (joined codestreams ++ (rest ++ more)) (length (joined codestreams) + inside) why
refused_at codestreams rest more inside why b r =
    let done = length (joined codestreams) in
    let k = readable_more done rest more b.within in
    let P : List ℕ → Type 0 = λ l. RefusesCodestream l inside why in
    let refused = refuse_rest done (rest ++ more) inside why (subst P (sym k.1) (codestream_refusals_stay rest (take k.0 more) inside why r)) in
    record { codestreams = codestreams; rest = rest ++ more; whole = refl; each = b.each; within = omega (arith, b.within); follows = omega (arith, b.some, length-append rest more); fault = inr (b.few, refused) }

-- the last bytes that may be read end inside a codestream, and more follow
pub long_at : (codestreams : List (List ℕ)) (rest more : List ℕ) → AllByRecursion IsCodestream codestreams → length codestreams < 65536 → NeedsCodestreamBytes rest → length (joined codestreams) + length rest ≡ 2 ^ 40 → 1 ≤ length more
    → Faults (joined codestreams ++ (rest ++ more)) (2 ^ 40) InputTooLong
long_at codestreams rest more each few n full some =
    let done = length (joined codestreams) in
    let room : length rest ≡ 2 ^ 40 - done = omega (arith, full) in
    let read : readable done (rest ++ more) ≡ rest = take_at rest more (2 ^ 40 - done) room in
    let P : List ℕ → Type 0 = λ l. NeedsCodestreamBytes l in
    record { codestreams = codestreams; rest = rest ++ more; whole = refl; each = each; within = omega (arith, full); follows = omega (arith, some, length-append rest more); fault = inr (few, (subst P (sym read) n, omega (arith, full, some, length-append rest more), refl)) }
