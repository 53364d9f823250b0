-- What `parse` makes of the bytes that were read.
use Rattle.std.proofs.Common.{◌≡◌, ◌<◌, ◌≤◌, ◌+◌, ◌-◌, ◌%◌, ◌^◌, ◌*◌, ℕ, zero, suc, min, Bool, List, [], ◌++◌, length, refl, sym, subst, ◌∙◌, ap, inl, inr, arith, append_assoc, if◌then◌else◌}
use Rattle.std.proofs.lemmas.Bool.{cases_lt}
use Rattle.std.proofs.lemmas.List.{length-append, take_all}
use Rattle.std.proofs.lemmas.Grind.{flat_map-append}
use Rattle.std.proofs.Math.Nat.{mod-eq_of_lt}
use Rattle.codestream_model.specs.Bytes.{IsBytes}
use Rattle.codestream_model.specs.Codestream.{WalkRefusal, joined}
use Rattle.stream_model.specs.Report.{Precinct, precinct_line, block_lines, lines}
use Rattle.stream_model.specs.Commands.{counted, parsed, walk, Walked as Parsed, parse_lines}
use Rattle.stream_model.specs.CommandLaws.{precincts_of, precincts_from, stamp_of, ArePrecinctsOf, ArePrecinctsBehind, BeginsWithHead}
use Rattle.stream_model.proofs.ParsedInputs.{whole_packets, many_bytes, head_lacks}
use Rattle.stream_model.proofs.ParsedPackets.{walk_begun, parsed_by, parsed_codestreams, bytes_behind, found_before}
use Rattle.codestream_model.specs.HeadRefusals.{Cut as HeadCut}
use Rattle.codestream_walk.specs.InHand.{input_limit}
use Rattle.codestream_walk.specs.Walking.{Stage, AtStart, AtNext, InBody, AtEnd, Walking, reach}
use Rattle.codestream_walk.specs.Walks.{NeedsItem, RefusesItem}
use Rattle.codestream_walk.proofs.Inputs.{begun_more, begun_long}
use Rattle.parse_job.proofs.Lacking.{needed_lacks, refused_lacks, head_item_lacks}
use Rattle.parse_job.proofs.Telling.{AreWhole, Tells, opened, start_by}

-- no main header is there where no byte is
none_begins : (front hand : List ℕ) → front ≡ [] → hand ≡ [] → BeginsWithHead (front ++ hand) → ⊥
none_begins front hand none empty (h, head, more, s, e) = omega (arith, ap length none, ap length empty, length-append front hand, ap length e, ap length s.whole, length-append head more)

-- the precincts of the bytes after whole codestreams, where more bytes are wanted
of_needed : (stamp : ℕ) (w : Walking) (front : List ℕ) (xs : List Precinct) → AreWhole stamp w.stage front xs → NeedsItem w → ArePrecinctsOf stamp (front ++ w.hand) xs
of_needed stamp w front xs g (inl (start, inl empty)) = let k = start_by stamp w.stage front xs start g in inl (none_begins front w.hand k.0 empty, k.1)
of_needed stamp w front xs g (inl (start, inr (few, (at, r)))) =
    let k = start_by stamp w.stage front xs start g in
    let P : List ℕ → Type 0 = λ l. BeginsWithHead (l ++ w.hand) in
    inl ((λ b. head_lacks w.hand at HeadCut r (subst P k.0 b)), k.1)
of_needed stamp w front xs g (inr n) =
    let here = opened stamp w n.head n.later n.size n.header front xs n.next g in
    let P : List ℕ → Type 0 = λ l. ArePrecinctsOf stamp l xs in
    let all : (front ++ n.header) ++ n.rest ≡ front ++ w.hand = append_assoc front n.header n.rest ∙ ap (λ (l : List ℕ). front ++ l) (sym n.whole) in
    subst P all (inr (n.head, n.later, n.size, n.rest, begun_more n.head n.later n.size (front ++ n.header) n.rest here.0, needed_lacks n.head n.later n.size n.rest n.needs, here.1))

-- or where they are refused
of_refused : (stamp : ℕ) (w : Walking) (front : List ℕ) (xs : List Precinct) (at : ℕ) (why : WalkRefusal) → w.codestreams < 65536 → AreWhole stamp w.stage front xs → RefusesItem w at why → ArePrecinctsOf stamp (front ++ w.hand) xs
of_refused stamp w front xs at why few g (inl r) = absurd (omega (arith, few, r.full))
of_refused stamp w front xs at why few g (inr (inl r)) =
    let k = start_by stamp w.stage front xs r.start g in
    let P : List ℕ → Type 0 = λ l. BeginsWithHead (l ++ w.hand) in
    inl ((λ b. head_item_lacks w.hand r.inside why r.refused (subst P k.0 b)), k.1)
of_refused stamp w front xs at why few g (inr (inr r)) =
    let here = opened stamp w r.head r.later r.size r.header front xs r.next g in
    let P : List ℕ → Type 0 = λ l. ArePrecinctsOf stamp l xs in
    let all : (front ++ r.header) ++ r.rest ≡ front ++ w.hand = append_assoc front r.header r.rest ∙ ap (λ (l : List ℕ). front ++ l) (sym r.whole) in
    subst P all (inr (r.head, r.later, r.size, r.rest, begun_more r.head r.later r.size (front ++ r.header) r.rest here.0, refused_lacks r.head r.later r.size r.rest why r.refused, here.1))

-- where nothing was given of a codestream no precinct was
none_of_none : (stamp : ℕ) (stage : Stage) (front : List ℕ) (xs : List Precinct) → front ≡ [] → AreWhole stamp stage front xs → xs ≡ []
none_of_none stamp AtStart front xs none g = g.1
none_of_none stamp (AtNext h later size) front xs none g = absurd (omega (arith, begun_long h later size front g.0, ap length none))
none_of_none stamp (InBody h p blocks later size left) front xs none g = absurd g
none_of_none stamp AtEnd front xs none g = absurd g

behind : (stamp step : ℕ) (consumed : List ℕ) (w : Walking) (xs : List Precinct) (t : Tells stamp step consumed w xs)
    → (w.codestreams < 65536 → ArePrecinctsOf (stamp_of stamp step (length t.codestreams)) (t.front ++ w.hand) t.last) → ArePrecinctsBehind stamp step (length t.codestreams) (t.front ++ w.hand) t.last
behind stamp step consumed w xs t of = elim (cases_lt w.codestreams 65536) [
  | inl few ↦ inr (omega (arith, few, t.count), of few)
  | inr all ↦
      let full : w.codestreams ≡ 65536 = omega (arith, all, t.few) in
      let none : t.front ≡ [] = elim t.room [ inl n ↦ n | inr few ↦ absurd (omega (arith, few, full)) ] in
      inl (omega (arith, full, t.count), none_of_none (stamp_of stamp step (length t.codestreams)) w.stage t.front t.last none t.given)
]

-- what is made of bytes of which those that count were given or are in hand
made_is : (stamp step : ℕ) (consumed read : List ℕ) (w : Walking) (xs : List Precinct) (ended : Bool) → stamp < 2 ^ 32 → IsBytes read → counted read ≡ consumed ++ w.hand → (t : Tells stamp step consumed w xs)
    → (w.codestreams < 65536 → ArePrecinctsOf (stamp_of stamp step (length t.codestreams)) (t.front ++ w.hand) t.last) → parse_lines stamp step read ≡ lines xs
made_is stamp step consumed read w xs ended low fits all t of =
    let whole : counted read ≡ joined t.codestreams ++ (t.front ++ w.hand) = all ∙ (ap (λ (l : List ℕ). l ++ w.hand) t.whole ∙ append_assoc (joined t.codestreams) t.front w.hand) in
    whole_packets stamp step read ended t.said t.codestreams (t.front ++ w.hand) t.last low fits whole t.are (behind stamp step consumed w xs t of) ∙ ap (λ (l : List Precinct). lines l) (sym t.all)

pub needed_made : (stamp step : ℕ) (consumed read : List ℕ) (w : Walking) (xs : List Precinct) (ended : Bool) → stamp < 2 ^ 32 → IsBytes read → counted read ≡ consumed ++ w.hand → Tells stamp step consumed w xs → NeedsItem w
    → parse_lines stamp step read ≡ lines xs
needed_made stamp step consumed read w xs ended low fits all t n =
    made_is stamp step consumed read w xs ended low fits all t (λ few. of_needed (stamp_of stamp step (length t.codestreams)) w t.front t.last t.given n)

pub refused_made : (stamp step : ℕ) (consumed read : List ℕ) (w : Walking) (xs : List Precinct) (ended : Bool) (at : ℕ) (why : WalkRefusal) → stamp < 2 ^ 32 → IsBytes read → counted read ≡ consumed ++ w.hand → Tells stamp step consumed w xs → RefusesItem w at why
    → parse_lines stamp step read ≡ lines xs
refused_made stamp step consumed read w xs ended at why low fits all t r =
    made_is stamp step consumed read w xs ended low fits all t (λ few. of_refused (stamp_of stamp step (length t.codestreams)) w t.front t.last at why few t.given r)

-- lines after lines
pub lines_more : (xs ys : List Precinct) → lines (xs ++ ys) ≡ lines xs ++ lines ys
lines_more xs ys = flat_map-append (λ (x : Precinct). precinct_line x ++ block_lines x.blocks x.bytes) xs ys

-- all bytes count that are within the limit
pub all_count : (read : List ℕ) → length read ≤ input_limit → counted read ≡ read
all_count read few = take_all 1099511627776 read few

-- what is parsed of the bytes after whole codestreams begins with the precincts that were given
parsed_begins : (m stamp step : ℕ) (stage : Stage) (front hand : List ℕ) (last : List Precinct) → AreWhole stamp stage front last → IsBytes (front ++ hand) → (m ≡ 0 → length front ≡ 0)
    → (more : List Precinct) × (parsed m stamp step (front ++ hand) ≡ last ++ more)
parsed_begins m stamp step AtStart front hand last (none, is) fits z = (parsed m stamp step (front ++ hand), ap (λ (l : List Precinct). l ++ parsed m stamp step (front ++ hand)) (sym is))
parsed_begins zero stamp step (AtNext h later size) front hand last (b, is) fits z = absurd (omega (arith, z refl, begun_long h later size front b))
parsed_begins (suc m) stamp step (AtNext h later size) front hand last (b, is) fits z =
    let all = begun_more h later size front hand b in
    let rest : Parsed = walk h stamp size later hand in
    let before = precincts_of h stamp b.before b.content in
    let e = walk_begun h stamp size later hand (front ++ hand) all fits in
    let some : 1 ≤ length (front ++ hand) = omega (arith, begun_long h later size front b, length-append front hand) in
    let tail : List Precinct = if rest.whole then parsed m ((stamp + step) % 2 ^ 32) step rest.rest else [] in (
      rest.precincts ++ tail,
      parsed_by m stamp step (front ++ hand) (found_before before rest) some e
          ∙ (append_assoc before rest.precincts tail ∙ ap (λ (l : List Precinct). l ++ (rest.precincts ++ tail)) (sym is)),
    )
parsed_begins m stamp step (InBody h p blocks later size left) front hand last g fits z = absurd g
parsed_begins m stamp step AtEnd front hand last g fits z = absurd g

-- what is made of the bytes read begins with the lines of the precincts that were given
pub made_begins : (stamp step : ℕ) (consumed : List ℕ) (w : Walking) (xs : List Precinct) (ended : Bool) → stamp < 2 ^ 32 → IsBytes (consumed ++ w.hand) → reach w ≤ input_limit → Tells stamp step consumed w xs
    → (rest : List ℕ) × (parse_lines stamp step (consumed ++ w.hand) ≡ lines xs ++ rest)
made_begins stamp step consumed w xs ended low fits few t =
    let read = consumed ++ w.hand in
    let k = length t.codestreams in
    let n = min 65536 (length read) in
    let m = n - k in
    let rest = t.front ++ w.hand in
    let P : List ℕ → Type 0 = λ l. IsBytes l in
    let is_read : read ≡ joined t.codestreams ++ rest = ap (λ (l : List ℕ). l ++ w.hand) t.whole ∙ append_assoc (joined t.codestreams) t.front w.hand in
    let short : length read ≤ input_limit = omega (arith, few, t.offset, length-append consumed w.hand) in
    let many = many_bytes t.said t.codestreams t.are in
    let size : length read ≡ length (joined t.codestreams) + (length t.front + length w.hand) = omega (arith, ap length is_read, length-append (joined t.codestreams) rest, length-append t.front w.hand) in
    let sum : n ≡ k + m = omega (arith, many, size, t.few, t.count) in
    let zero_front : m ≡ 0 → length t.front ≡ 0 = λ z. elim t.room [ inl none ↦ ap length none | inr fewer ↦ omega (arith, many, size, z, fewer, t.count) ] in
    let first : stamp_of stamp step 0 ≡ stamp = ap (λ (s : ℕ). s % 2 ^ 32) (let z : stamp + 0 * step ≡ stamp = omega arith in z) ∙ mod-eq_of_lt low in
    let all_fits : IsBytes (joined t.codestreams ++ rest) = subst P is_read fits in
    let b = parsed_begins m (stamp_of stamp step (0 + k)) step w.stage t.front w.hand t.last (let z : k ≡ 0 + k = omega arith in let Q : ℕ → Type 0 = λ j. AreWhole (stamp_of stamp step j) w.stage t.front t.last in subst Q z t.given) (bytes_behind (joined t.codestreams) rest all_fits) zero_front in
    let begun = precincts_from stamp step 0 t.said in
    let all : parsed n stamp step (counted read) ≡ xs ++ b.0 =
    ap (parsed n stamp step) (all_count read short ∙ is_read)
    ∙ (ap (λ (s : ℕ). parsed n s step (joined t.codestreams ++ rest)) (sym first)
    ∙ (ap (λ (j : ℕ). parsed j (stamp_of stamp step 0) step (joined t.codestreams ++ rest)) sum
    ∙ (parsed_codestreams m stamp step 0 t.said t.codestreams rest t.are all_fits
    ∙ (ap (λ (l : List Precinct). begun ++ l) b.1
    ∙ (sym (append_assoc begun t.last b.0) ∙ ap (λ (l : List Precinct). l ++ b.0) (sym t.all)))))) in
    (lines b.0, ap lines all ∙ lines_more xs b.0)
