-- A fault of an input stays whatever follows, unless the input only ended too early.
use Rattle.std.proofs.Common.{◌≡◌, ◌<◌, ◌≤◌, ◌+◌, ◌-◌, ◌^◌, ℕ, List, [], ◌++◌, length, take, refl, sym, subst, ◌∙◌, ap, inl, inr, arith, append_assoc}
use Rattle.std.proofs.Math.Seq.{take-append-add, take-append-le}
use Rattle.std.proofs.lemmas.Bool.{cases_lt}
use Rattle.std.proofs.lemmas.List.{append-nil, length-append, take_all}
use Rattle.codestream_model.specs.Codestream.{WalkRefusal, HeadRefused, Cut, TooManyBlocks, HeaderRefused, PacketTooLong, Psot, NoEoc, InputTooLong, TooManyFrames, joined, RefusesCodestream, NeedsCodestreamBytes, RefusesRest, readable}
use Rattle.codestream_model.specs.ItemLaws.{FaultsStay, OneFrameMoreIsAFault}
use Rattle.codestream_model.proofs.Inputs.{refuse_rest}
use Rattle.codestream_model.proofs.Stays.{codestream_refusals_stay}

-- the front of more bytes begins with the front of the first
take_more : (n : ℕ) (xs ys : List ℕ) → (zs : List ℕ) × (take n (xs ++ ys) ≡ take n xs ++ zs)
take_more n xs ys = elim (cases_lt n (length xs)) [
  | inl few ↦ ([], take-append-le n xs ys (omega (arith, few)) ∙ sym (append-nil (take n xs)))
  | inr many ↦
      let k = n - length xs in
      let e : n ≡ length xs + k = omega (arith, many) in
      (take k ys, ap (λ (m : ℕ). take m (xs ++ ys)) e ∙ (take-append-add xs ys k ∙ ap (λ (l : List ℕ). l ++ take k ys) (sym (take_all n xs (omega (arith, many))))))
]

-- A refusal after whole codestreams stays.
refusal_stays : (done : ℕ) (rest more : List ℕ) (inside : ℕ) (why : WalkRefusal) → RefusesCodestream (readable done rest) inside why → RefusesRest done (rest ++ more) (done + inside) why
refusal_stays done rest more inside why r =
    let k = take_more (2 ^ 40 - done) rest more in
    let P : List ℕ → Type 0 = λ l. RefusesCodestream l inside why in
    refuse_rest done (rest ++ more) inside why (subst P (sym k.1) (codestream_refusals_stay (readable done rest) k.0 inside why r))

-- and so at its place of the input
moved : (done : ℕ) (rest more : List ℕ) (at inside : ℕ) (why : WalkRefusal) → RefusesCodestream (readable done rest) inside why → at ≡ done + inside → RefusesRest done (rest ++ more) at why
moved done rest more at inside why r e = let P : ℕ → Type 0 = λ n. RefusesRest done (rest ++ more) n why in subst P (sym e) (refusal_stays done rest more inside why r)

-- what is refused of the rest of an input, other than its end, stays
rest_stays : (done : ℕ) (rest more : List ℕ) (at : ℕ) (why : WalkRefusal) → done ≤ 2 ^ 40 → (why ≡ Cut → ⊥) → RefusesRest done rest at why → RefusesRest done (rest ++ more) at why
rest_stays done rest more at Cut within other r = absurd (other refl)
rest_stays done rest more at InputTooLong within other (n, long, place) =
    let e : take (2 ^ 40 - done) (rest ++ more) ≡ take (2 ^ 40 - done) rest = take-append-le (2 ^ 40 - done) rest more (omega (arith, long)) in
    let P : List ℕ → Type 0 = λ l. NeedsCodestreamBytes l in
    (subst P (sym e) n, omega (arith, long, length-append rest more), place)
rest_stays done rest more at (HeadRefused why) within other (inside, r, place) = moved done rest more at inside (HeadRefused why) r place
rest_stays done rest more at TooManyBlocks within other (inside, r, place) = moved done rest more at inside TooManyBlocks r place
rest_stays done rest more at (HeaderRefused why) within other (inside, r, place) = moved done rest more at inside (HeaderRefused why) r place
rest_stays done rest more at PacketTooLong within other (inside, r, place) = moved done rest more at inside PacketTooLong r place
rest_stays done rest more at Psot within other (inside, r, place) = moved done rest more at inside Psot r place
rest_stays done rest more at NoEoc within other (inside, r, place) = moved done rest more at inside NoEoc r place
rest_stays done rest more at TooManyFrames within other (inside, r, place) = moved done rest more at inside TooManyFrames r place

-- a fault other than the input's end stays, whatever follows
pub faults_stay : FaultsStay
faults_stay input more at why other f = record {
  codestreams = f.codestreams;
  rest = f.rest ++ more;
  whole = ap (λ (l : List ℕ). l ++ more) f.whole ∙ append_assoc (joined f.codestreams) f.rest more;
  each = f.each;
  within = f.within;
  follows = omega (arith, f.follows, length-append f.rest more);
  fault = elim f.fault [ inl full ↦ inl full | inr (few, r) ↦ inr (few, rest_stays (length (joined f.codestreams)) f.rest more at why f.within other r) ];
}

-- bytes follow as many whole codestreams as there may be
pub one_frame_more : OneFrameMoreIsAFault
one_frame_more codestreams rest each full within some = record { codestreams = codestreams; rest = rest; whole = refl; each = each; within = within; follows = some; fault = inl (full, refl, refl) }
