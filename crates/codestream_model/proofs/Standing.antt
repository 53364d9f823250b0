-- What is read of a main header stays when more bytes follow, and so does a refusal, unless it is for missing bytes.
use Rattle.std.proofs.Common.{◌≡◌, ◌≢◌, ◌<◌, ◌≤◌, ◌+◌, ◌-◌, ◌*◌, ◌⊎◌, ℕ, Bool, true, false, not, List, [], ◌∷◌, ◌++◌, length, get_or, take, drop, refl, sym, ◌∙◌, ap, inl, inr, subst, arith, append_assoc}
use Rattle.std.specs.Prelude.{◌==◌, nat_lt, Option, Some, Result, MatchResult, slice_range, if◌then◌else◌}
use Rattle.std.proofs.lemmas.Bool.{cases_Bool, cases_lt, lt-ltb, le-ltb}
use Rattle.std.proofs.lemmas.List.{length-append, length-drop, take_all, take-append-le, drop-append-le, take-append-drop, get_or_append_left}
use Rattle.codestream_model.specs.Values.{Head}
use Rattle.codestream_model.specs.Bytes.{two_bytes, two_at}
use Rattle.codestream_model.specs.Segments.{SOC, SOT, Segment, segments_bytes, segment_at}
use Rattle.codestream_model.specs.HeadRefusals.{HeadRefusal, Cut, Test, first_refusal}
use Rattle.codestream_model.specs.SegmentTests.{tile_tests}
use Rattle.codestream_model.specs.MainHeader.{is_tile_marker, content_tests, SpellsHead}
use Rattle.codestream_model.specs.RefusedHeader.{in_reach, wanting, place_of, soc_tests, segment_tests, skipped_tests, refusal_next, refusal_behind, RefusesStart, RefusesMain, RefusesTile, RefusesHead}
use Rattle.codestream_model.specs.MainHeaderReading.{Refused, head_of}
use Rattle.codestream_model.specs.MainHeaderLaws.{HeaderStands, RefusalStands}
use Rattle.codestream_model.proofs.HeaderReads.{header_is_read_one_way, take_past}
use Rattle.codestream_model.proofs.HeaderJudged.{headers_are_judged}

-- of two lists of conditions the one is met where the other is, up to a missing bytes in the first
abbrev Keeps : List Test → List Test → Type 0
Keeps [] tests = Unit {0}
Keeps (t ∷ tests) [] = ⊥
Keeps (t ∷ tests) (u ∷ more) = ((t.why ≡ Cut) × (t.fails ≡ true)) ⊎ ((t.fails ≡ u.fails) × (t.fails ≡ true → t.why ≡ u.why) × Keeps tests more)

-- one condition that is met in both
keeps_first : (f g : Bool) (v w : HeadRefusal) (x y : Option HeadRefusal) (why : HeadRefusal) → f ≡ g → (f ≡ true → v ≡ w) → (x ≡ Some why → y ≡ Some why) → (if f then Some v else x) ≡ Some why → (if g then Some w else y) ≡ Some why
keeps_first true true v w x y why s t u e = ap (λ (r : HeadRefusal). Some r) (sym (t refl)) ∙ e
keeps_first false false v w x y why s t u e = u e
keeps_first true false v w x y why s t u e = absurd (cc)
keeps_first false true v w x y why s t u e = absurd (cc)

-- a missing bytes that is met first is the refusal
cut_first : (f : Bool) (v : HeadRefusal) (x : Option HeadRefusal) (why : HeadRefusal) → v ≡ Cut → f ≡ true → (if f then Some v else x) ≡ Some why → why ≡ Cut
cut_first true v x why s t e = cc
cut_first false v x why s t e = absurd (cc)

-- so a refusal but for missing bytes is the same in both
first_stands : (tests more : List Test) (why : HeadRefusal) → why ≢ Cut → Keeps tests more → first_refusal tests ≡ Some why → first_refusal more ≡ Some why
first_stands [] more why other k e = absurd (cc)
first_stands (t ∷ tests) [] why other k e = absurd k
first_stands (t ∷ tests) (u ∷ more) why other (inl cut) e = absurd (other (cut_first t.fails t.why (first_refusal tests) why cut.0 cut.1 e))
first_stands (t ∷ tests) (u ∷ more) why other (inr k) e = keeps_first t.fails u.fails t.why u.why (first_refusal tests) (first_refusal more) why k.0 k.1 (first_stands tests more why other k.2) e

-- a list of conditions keeps to itself
keeps_same : (tests : List Test) → Keeps tests tests
keeps_same [] = tt
keeps_same (t ∷ tests) = inr (refl, λ e. refl, keeps_same tests)

-- neither of two is met
neither : (f g : Bool) (v w : HeadRefusal) → f ≡ false → g ≡ false → (f ≡ g) × (f ≡ true → v ≡ w)
neither f g v w a b = (a ∙ sym b, λ c. absurd (cc))

-- the conditions on a segment, with more bytes after it
segment_keeps : (b d : List ℕ) (before : List Segment) (m n there m2 n2 there2 : ℕ) (c c2 : List ℕ) → wanting b ≡ Cut → there ≤ there2 → (2 ≤ there → m2 ≡ m) → (4 ≤ there → n2 ≡ n) → (4 ≤ there → 2 + n ≤ there → c2 ≡ c) → Keeps (segment_tests b before m n there c) (segment_tests d before m2 n2 there2 c2)
unfolding segment_tests
segment_keeps b d before m n there m2 n2 there2 c c2 cut grows same_m same_n same_c = elim (cases_lt there 2) [
  | inl short ↦ inl (cut, lt-ltb there 2 short)
  | inr two ↦ rw (same_m two) (
      let w0 = neither (nat_lt there 2) (nat_lt there2 2) (wanting b) (wanting d) (le-ltb there 2 two) (le-ltb there2 2 (omega arith)) in
      inr (
        w0.0,
        w0.1,
        inr (
          refl,
          λ e. refl,
          inr (
            refl,
            λ e. refl,
            inr (
              refl,
              λ e. refl,
              inr (
                refl,
                λ e. refl,
                inr (
                  refl,
                  λ e. refl,
                  inr (
                    refl,
                    λ e. refl,
                    elim (cases_lt there 4) [
                      | inl short ↦ inl (cut, lt-ltb there 4 short)
                      | inr four ↦ rw (same_n four) (
                          let w1 = neither (nat_lt there 4) (nat_lt there2 4) (wanting b) (wanting d) (le-ltb there 4 four) (le-ltb there2 4 (omega arith)) in
                          inr (
                            w1.0,
                            w1.1,
                            inr (
                              refl,
                              λ e. refl,
                              inr (
                                refl,
                                λ e. refl,
                                elim (cases_lt there (2 + n)) [
                                  | inl short ↦ inl (cut, lt-ltb there (2 + n) short)
                                  | inr whole ↦ rw (same_c four whole) (
                                      let w2 = neither (nat_lt there (2 + n)) (nat_lt there2 (2 + n)) (wanting b) (wanting d) (le-ltb there (2 + n) whole) (le-ltb there2 (2 + n) (omega arith)) in
                                      inr (w2.0, w2.1, keeps_same (if m == SOT then tile_tests before c else content_tests m c)))
                                ],
                              ),
                            ),
                          ))
                    ],
                  ),
                ),
              ),
            ),
          ),
        ),
      ))
]

-- and on what follows SOT
skipped_keeps : (b d : List ℕ) (m n there m2 n2 there2 : ℕ) → wanting b ≡ Cut → there ≤ there2 → (2 ≤ there → m2 ≡ m) → (4 ≤ there → n2 ≡ n) → Keeps (skipped_tests b m n there) (skipped_tests d m2 n2 there2)
unfolding skipped_tests
skipped_keeps b d m n there m2 n2 there2 cut grows same_m same_n = elim (cases_lt there 2) [
  | inl short ↦ inl (cut, lt-ltb there 2 short)
  | inr two ↦ rw (same_m two) (
      let w0 = neither (nat_lt there 2) (nat_lt there2 2) (wanting b) (wanting d) (le-ltb there 2 two) (le-ltb there2 2 (omega arith)) in
      inr (
        w0.0,
        w0.1,
        inr (
          refl,
          λ e. refl,
          elim (cases_Bool (is_tile_marker m)) [
            | inr end ↦ rw end (inr (refl, λ e. absurd (cc), inr (refl, λ e. refl, inr (refl, λ e. absurd (cc), tt))))
            | inl passed ↦ rw passed (elim (cases_lt there 4) [
              | inl short ↦ inl (cut, lt-ltb there 4 short)
              | inr four ↦ rw (same_n four) (
                  let w1 = neither (nat_lt there 4) (nat_lt there2 4) (wanting b) (wanting d) (le-ltb there 4 four) (le-ltb there2 4 (omega arith)) in
                  inr (
                    w1.0,
                    w1.1,
                    inr (
                      refl,
                      λ e. refl,
                      elim (cases_lt there (2 + n)) [
                        | inl short ↦ inl (cut, lt-ltb there (2 + n) short)
                        | inr whole ↦
                            let w2 = neither (nat_lt there (2 + n)) (nat_lt there2 (2 + n)) (wanting b) (wanting d) (le-ltb there (2 + n) whole) (le-ltb there2 (2 + n) (omega arith)) in
                            inr (w2.0, w2.1, tt)
                      ],
                    ),
                  ))
            ])
          ],
        ),
      ))
]

-- what is read of the front of bytes is read of more
pub two_at-append : (at : ℕ) (b more : List ℕ) → at + 2 ≤ length b → two_at (b ++ more) at ≡ two_at b at
two_at-append at b more some = ap (λ (x : ℕ). x * 256 + get_or (b ++ more) (at + 1) 0) (get_or_append_left b more 0 at (omega arith)) ∙ ap (λ (x : ℕ). get_or b at 0 * 256 + x) (get_or_append_left b more 0 (at + 1) (omega arith))

-- a range that is there is the same with more after it
range-append : (b more : List ℕ) (n : ℕ) → 4 ≤ length b → 2 + n ≤ length b → slice_range (b ++ more) 4 (2 + n) ≡ slice_range b 4 (2 + n)
range-append b more n four whole =
    ap (λ (l : List ℕ). take (2 + n - 4) l) (drop-append-le 4 b more four)
    ∙ take-append-le (2 + n - 4) (drop 4 b) more (omega (arith, length-drop 4 b))

-- the content of a segment that is there is the same with more after it
content-append : (b more : List ℕ) → 4 ≤ length b → 2 + two_at b 2 ≤ length b → (segment_at (b ++ more)).content ≡ (segment_at b).content
content-append b more four whole = ap (λ (n : ℕ). slice_range (b ++ more) 4 (2 + n)) (two_at-append 2 b more four) ∙ range-append b more (two_at b 2) four whole

-- a refusal stays at its offset
place_keeps : (b d : List ℕ) (before : List Segment) (why : HeadRefusal) → why ≢ Cut → place_of b before why ≡ place_of d before why
place_keeps b d before Cut other = absurd (other refl)
place_keeps b d before why other = refl

-- with fewer than 8,192 bytes more may follow,
short_wants : (b : List ℕ) → length b < 8192 → wanting b ≡ Cut
short_wants b short = rw (lt-ltb (length b) 8192 short) refl

-- and a refusal up to SOT is the same with them,
next_keeps : (b d : List ℕ) (before : List Segment) (rest tail : List ℕ) (why : HeadRefusal) → wanting b ≡ Cut → why ≢ Cut → refusal_next b before rest ≡ Some why → refusal_next d before (rest ++ tail) ≡ Some why
next_keeps b d before rest tail why cut other e = first_stands
    (segment_tests b before (two_at rest 0) (two_at rest 2) (length rest) (segment_at rest).content)
    (segment_tests d before (two_at (rest ++ tail) 0) (two_at (rest ++ tail) 2) (length (rest ++ tail)) (segment_at (rest ++ tail)).content)
    why other
    (segment_keeps b d before (two_at rest 0) (two_at rest 2) (length rest) (two_at (rest ++ tail) 0) (two_at (rest ++ tail) 2) (length (rest ++ tail)) (segment_at rest).content (segment_at (rest ++ tail)).content cut (omega (arith, length-append rest tail)) (λ two. two_at-append 0 rest tail two) (λ four. two_at-append 2 rest tail four) (λ four whole. content-append rest tail four whole))
    e

-- and one after SOT,
behind_keeps : (b d rest tail : List ℕ) (why : HeadRefusal) → wanting b ≡ Cut → why ≢ Cut → refusal_behind b rest ≡ Some why → refusal_behind d (rest ++ tail) ≡ Some why
behind_keeps b d rest tail why cut other e = first_stands
    (skipped_tests b (two_at rest 0) (two_at rest 2) (length rest))
    (skipped_tests d (two_at (rest ++ tail) 0) (two_at (rest ++ tail) 2) (length (rest ++ tail)))
    why other
    (skipped_keeps b d (two_at rest 0) (two_at rest 2) (length rest) (two_at (rest ++ tail) 0) (two_at (rest ++ tail) 2) (length (rest ++ tail)) cut (omega (arith, length-append rest tail)) (λ two. two_at-append 0 rest tail two) (λ four. two_at-append 2 rest tail four))
    e

-- and they are within reach
more_reach : (b more segments rest : List ℕ) → length b < 8192 → in_reach b ≡ two_bytes SOC ++ (segments ++ rest) → in_reach (b ++ more) ≡ two_bytes SOC ++ (segments ++ (rest ++ take (8192 - length b) more))
more_reach b more segments rest short e =
    let tail = take (8192 - length b) more in
    let all : in_reach b ≡ b = take_all 8192 b (omega arith) in
    take_past 8192 b more (omega arith)
    ∙ (ap (λ (l : List ℕ). l ++ tail) (sym all ∙ e)
    ∙ ap (λ (l : List ℕ). two_bytes SOC ++ l) (append_assoc segments rest tail))

-- and with as many none is looked at
same_reach : (b more : List ℕ) → 8192 ≤ length b → in_reach (b ++ more) ≡ in_reach b
same_reach b more long = take-append-le 8192 b more long

-- more bytes are as many
more_long : (b more : List ℕ) → 8192 ≤ length b → nat_lt (length (b ++ more)) 8192 ≡ false
more_long b more long = le-ltb (length (b ++ more)) 8192 (omega (arith, length-append b more))

-- the conditions up to SOT are the same
next_same : (b more : List ℕ) (before : List Segment) (rest : List ℕ) → 8192 ≤ length b → refusal_next (b ++ more) before rest ≡ refusal_next b before rest
unfolding segment_tests
next_same b more before rest long = rw (more_long b more long, le-ltb (length b) 8192 long) refl

-- and those after it
behind_same : (b more rest : List ℕ) → 8192 ≤ length b → refusal_behind (b ++ more) rest ≡ refusal_behind b rest
unfolding skipped_tests
behind_same b more rest long = rw (more_long b more long, le-ltb (length b) 8192 long) refl

-- each of the three refusals stays
soc_keeps : (b more : List ℕ) → Keeps (soc_tests b) (soc_tests (b ++ more))
soc_keeps b more = elim (cases_lt (length b) 2) [
  | inl short ↦ inl (short_wants b (omega arith), lt-ltb (length b) 2 short)
  | inr two ↦
      let w = neither (nat_lt (length b) 2) (nat_lt (length (b ++ more)) 2) (wanting b) (wanting (b ++ more)) (le-ltb (length b) 2 two) (le-ltb (length (b ++ more)) 2 (omega (arith, length-append b more))) in
      inr (w.0, w.1, inr (ap (λ (m : ℕ). not (m == SOC)) (sym (two_at-append 0 b more two)), λ e. refl, tt))
]

-- that of SOC
start_stands : (b more : List ℕ) (at : ℕ) (why : HeadRefusal) → why ≢ Cut → RefusesStart b at why → RefusesStart (b ++ more) at why
start_stands b more at why other r = record {
  first = first_stands (soc_tests b) (soc_tests (b ++ more)) why other (soc_keeps b more) r.first;
  place = r.place ∙ place_keeps b (b ++ more) [] why other;
}

-- that of a segment up to SOT
main_stands : (b more : List ℕ) (at : ℕ) (why : HeadRefusal) → why ≢ Cut → RefusesMain b at why → RefusesMain (b ++ more) at why
main_stands b more at why other r = elim (cases_lt (length b) 8192) [
  | inl short ↦ record {
    before = r.before;
    rest = r.rest ++ take (8192 - length b) more;
    whole = more_reach b more (segments_bytes r.before) r.rest short r.whole;
    is_main = r.is_main;
    first = next_keeps b (b ++ more) r.before r.rest (take (8192 - length b) more) why (short_wants b short) other r.first;
    place = r.place ∙ place_keeps b (b ++ more) r.before why other;
  }
  | inr long ↦ record {
    before = r.before;
    rest = r.rest;
    whole = same_reach b more long ∙ r.whole;
    is_main = r.is_main;
    first = next_same b more r.before r.rest long ∙ r.first;
    place = r.place ∙ place_keeps b (b ++ more) r.before why other;
  }
]

-- and that of what is after it
tile_stands : (b more : List ℕ) (at : ℕ) (why : HeadRefusal) → why ≢ Cut → RefusesTile b at why → RefusesTile (b ++ more) at why
tile_stands b more at why other r = elim (cases_lt (length b) 8192) [
  | inl short ↦ record {
    main = r.main;
    tile = r.tile;
    skipped = r.skipped;
    rest = r.rest ++ take (8192 - length b) more;
    whole = more_reach b more (segments_bytes (r.main ++ r.tile ∷ r.skipped)) r.rest short r.whole;
    is_main = r.is_main;
    is_tile = r.is_tile;
    is_skipped = r.is_skipped;
    first = behind_keeps b (b ++ more) r.rest (take (8192 - length b) more) why (short_wants b short) other r.first;
    place = r.place ∙ place_keeps b (b ++ more) (r.main ++ r.tile ∷ r.skipped) why other;
  }
  | inr long ↦ record {
    main = r.main;
    tile = r.tile;
    skipped = r.skipped;
    rest = r.rest;
    whole = same_reach b more long ∙ r.whole;
    is_main = r.is_main;
    is_tile = r.is_tile;
    is_skipped = r.is_skipped;
    first = behind_same b more r.rest long ∙ r.first;
    place = r.place ∙ place_keeps b (b ++ more) (r.main ++ r.tile ∷ r.skipped) why other;
  }
]

-- a refusal stays unless it is for missing bytes
pub refusal_stands : RefusalStands
refusal_stands b more at why other (inl r) = inl (start_stands b more at why other r)
refusal_stands b more at why other (inr (inl r)) = inr (inl (main_stands b more at why other r))
refusal_stands b more at why other (inr (inr r)) = inr (inr (tile_stands b more at why other r))

-- and so does a header
pub header_stands : HeaderStands
header_stands b more h fits e =
    let P : Result Head Refused → Type 0 = λ x. MatchResult x (λ g. SpellsHead g (take g.length b)) (λ r. RefusesHead b r.at r.why) in
    let spelt : SpellsHead h (take h.length b) = subst P e (headers_are_judged b fits) in
    let apart : b ++ more ≡ take h.length b ++ (drop h.length b ++ more) = ap (λ (l : List ℕ). l ++ more) (sym (take-append-drop h.length b)) ∙ append_assoc (take h.length b) (drop h.length b) more in
    ap head_of apart ∙ header_is_read_one_way h (take h.length b) (drop h.length b ++ more) spelt
