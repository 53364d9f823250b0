-- What calls make of the bits that come, one after another.
use Rattle.std.proofs.Common.{◌≡◌, ℕ, Bool, List, [], ◌++◌, length, take, drop, Option, Result, Ok, Err, refl, sym, ◌∙◌, ap, subst, append_assoc}
use Rattle.std.proofs.lemmas.List.{drop_at}
use Rattle.codestream_model.specs.StuffedBits.{number_bits, carried_after, sound_after, packed_bits}
use Rattle.codestream_model.specs.HeaderPieces.{HeaderRefusal}
use Rattle.codestream_model.specs.PacketHeaderReading.{Read, Got, AtEnd, Refused, and_then}
use Rattle.stuffed_bits.specs.BitInState.{BitInState, part_bits}
use Rattle.stuffed_bits.specs.Carried.{before_next}
use Rattle.stuffed_bits.specs.BitsRead.{HasRead}
use Rattle.stuffed_bits.proofs.ReadLemmas.{bits_of_all}
use Rattle.packet_header.specs.Answers.{why_of}
use Rattle.packet_header.specs.Moves.{HasGiven, all_of, bits_after, Went, IsStop, Moved, Moves, Gets, behind_answer}
use Rattle.stuffed_bits.specs.declared.source.Source.{Source}
use Rattle.packet_header.specs.declared.refusal.HeaderStop.{HeaderStop}
use Rattle.packet_header.specs.declared.refusal.HeaderWhy.{HeaderWhy}
use Rattle.packet_header.specs.declared.refusal.HeaderStop.TheVariants.{Need, Bad}
use Rattle.packet_header.proofs.Sources.{taken_and_rest}

-- the bits that were given are the first of all that came
pub front_of_all : (done more : List Bool) (bytes rest : List ℕ) (h : BitInState) → HasRead (done ++ more) bytes h → (left : List Bool) × (bits_after done (bytes ++ rest) ≡ more ++ left)
front_of_all done more bytes rest h r =
    let last = before_next h.last in
    let part = part_bits h.part in
    let spare = number_bits h.left last ++ carried_after last (sound_after last rest) in
    let all : (packed_bits (bytes ++ rest)).bits ≡ ((done ++ more) ++ part) ++ spare = bits_of_all ((done ++ more) ++ part) bytes rest h r.drawn in
    let again : ((done ++ more) ++ part) ++ spare ≡ done ++ (more ++ (part ++ spare)) = append_assoc (done ++ more) part spare ∙ append_assoc done more (part ++ spare) in
    (part ++ spare, ap (drop (length done)) (all ∙ again) ∙ drop_at done (more ++ (part ++ spare)) (length done) refl)

pub front_behind : (before : List ℕ) (done more : List Bool) (old new : Source) → new.piece.now ≡ old.piece.now → HasGiven before (done ++ more) new → (left : List Bool) × (bits_after done (all_of before old) ≡ more ++ left)
front_behind before done more old new same s =
    let f = front_of_all done more (before ++ take new.at new.piece.now) (drop new.at new.piece.now) new.bits s.read in
    let whole : (before ++ take new.at new.piece.now) ++ drop new.at new.piece.now ≡ all_of before old = taken_and_rest before new.piece.now new.at ∙ ap (λ (l : List ℕ). before ++ l) same in
    (f.0, ap (bits_after done) (sym whole) ∙ f.1)

-- so what is to be read of all is what is to be read of those that weren't given
pub left_behind : (before : List ℕ) (done more : List Bool) (old new : Source) → new.piece.now ≡ old.piece.now → HasGiven before (done ++ more) new → bits_after done (all_of before old) ≡ more ++ bits_after (done ++ more) (all_of before new)
left_behind before done more old new same s =
    let bytes = all_of before new in
    let bits = (packed_bits bytes).bits in
    let h = front_of_all [] (done ++ more) (before ++ take new.at new.piece.now) (drop new.at new.piece.now) new.bits s.read in
    let all : bits ≡ (done ++ more) ++ h.0 = ap (λ (l : List ℕ). (packed_bits l).bits) (sym (taken_and_rest before new.piece.now new.at)) ∙ h.1 in
    let own : bits_after done (all_of before old) ≡ more ++ h.0 = ap (λ (l : List ℕ). bits_after done (before ++ l)) (sym same) ∙ (ap (drop (length done)) (all ∙ append_assoc done more h.0) ∙ drop_at done (more ++ h.0) (length done) refl) in
    let rest : bits_after (done ++ more) bytes ≡ h.0 = ap (drop (length (done ++ more))) all ∙ drop_at (done ++ more) h.0 (length (done ++ more)) refl in
    own ∙ ap (λ (l : List Bool). more ++ l) (sym rest)

-- what stops a reading stops one that is the same
pub same_stop : {X : Type 0} (r q : Read X) (o : Option ℕ) (stopped : HeaderStop) → r ≡ q → IsStop q o stopped → IsStop r o stopped
same_stop {X} r q o stopped e h = let P : Read X → Type 0 = λ x. IsStop x o stopped in subst P (sym e) h

-- and one that goes on from it
pub stops_then : {X Y : Type 0} (r : Read X) (k : X → List Bool → Read Y) (o : Option ℕ) (stopped : HeaderStop) → IsStop r o stopped → IsStop (and_then r k) o stopped
stops_then (Got x rest) k o stopped h = absurd h
stops_then AtEnd k o stopped h = h
stops_then (Refused why) k o stopped h = h

-- a call after another
went_on : {X : Type 0} (first second third : List Bool → Read X) (before : List ℕ) (done : List Bool) (mid new : Source) (a : Went first second before done mid) → Went second third before (done ++ a.more) new → Went first third before done new
went_on first second third before done mid new a b =
    let P : List Bool → Type 0 = λ l. HasGiven before l new in
    record {
      more = a.more ++ b.more;
      holds = subst P (append_assoc done a.more b.more) b.holds;
      goes_on = λ further. ap first (append_assoc a.more b.more further) ∙ (a.goes_on (b.more ++ further) ∙ b.goes_on further);
    }

moved_on : {X Z : Type 0} (first second third : List Bool → Read X) (before : List ℕ) (done : List Bool) (old mid new : Source) (out : Result Z HeaderStop) → mid.piece.now ≡ old.piece.now
    → (a : Went first second before done mid) → Moved second third before (done ++ a.more) mid new out → Moved first third before done old new out
moved_on first second third before done old mid new (Ok z) same a b = went_on first second third before done mid new a b
moved_on first second third before done old mid new (Err stopped) same a b =
    let e : first (bits_after done (all_of before old)) ≡ second (bits_after (done ++ a.more) (all_of before mid)) =
    ap first (left_behind before done a.more old mid same a.holds) ∙ a.goes_on (bits_after (done ++ a.more) (all_of before mid)) in
    let P : List ℕ → Type 0 = λ l. IsStop (second (bits_after (done ++ a.more) (all_of before mid))) (packed_bits (before ++ l)).broken_at stopped in (
      same_stop (first (bits_after done (all_of before old))) (second (bits_after (done ++ a.more) (all_of before mid))) (packed_bits (all_of before old)).broken_at stopped e (subst P same b.0),
      λ n. let r = b.1 n in record { whole = r.whole; went = went_on first second third before done mid new a r.went },
    )

pub moves_on : {X Y Z : Type 0} (first second third : List Bool → Read X) (old mid new : Source) (y : Y) (out : Result Z HeaderStop) → mid.piece.now ≡ old.piece.now
    → Moves first second old mid (Ok y) → Moves second third mid new out → Moves first third old new out
moves_on first second third old mid new y out same a b = λ before done s.
    let x = a before done s in
    moved_on first second third before done old mid new out same x (b before (done ++ x.more) x.holds)

-- a reading that goes on from another
pub moves_then : {X Y Z : Type 0} (first second : List Bool → Read X) (k : X → List Bool → Read Y) (old new : Source) (out : Result Z HeaderStop) → Moves first second old new out
    → Moves (λ l. and_then (first l) k) (λ l. and_then (second l) k) old new out
moves_then {X} {Y} first second k old new (Ok z) a = λ before done s.
    let x = a before done s in
    record { more = x.more; holds = x.holds; goes_on = λ further. ap (λ (r : Read X). and_then r k) (x.goes_on further) }
moves_then {X} {Y} first second k old new (Err stopped) a = λ before done s.
    let x = a before done s in (
      stops_then (first (bits_after done (all_of before old))) k (packed_bits (all_of before old)).broken_at stopped x.0,
      λ n. let r = x.1 n in record { whole = r.whole; went = record { more = r.went.more; holds = r.went.holds; goes_on = λ further. ap (λ (q : Read X). and_then q k) (r.went.goes_on further) } },
    )

-- readings that are one
pub moves_same : {X Z : Type 0} (first other second : List Bool → Read X) (old new : Source) (out : Result Z HeaderStop) → ((l : List Bool) → first l ≡ other l) → Moves other second old new out → Moves first second old new out
moves_same first other second old new (Ok z) e a = λ before done s.
    let x = a before done s in
    record { more = x.more; holds = x.holds; goes_on = λ further. e (x.more ++ further) ∙ x.goes_on further }
moves_same first other second old new (Err stopped) e a = λ before done s.
    let x = a before done s in
    let l = bits_after done (all_of before old) in (
      same_stop (first l) (other l) (packed_bits (all_of before old)).broken_at stopped (e l) x.0,
      λ n. let r = x.1 n in record { whole = r.whole; went = record { more = r.went.more; holds = r.went.holds; goes_on = λ further. e (r.went.more ++ further) ∙ r.went.goes_on further } },
    )

pub moves_to : {X Z : Type 0} (first second other : List Bool → Read X) (old new : Source) (out : Result Z HeaderStop) → ((l : List Bool) → second l ≡ other l) → Moves first second old new out → Moves first other old new out
moves_to first second other old new (Ok z) e a = λ before done s.
    let x = a before done s in
    record { more = x.more; holds = x.holds; goes_on = λ further. x.goes_on further ∙ e further }
moves_to first second other old new (Err stopped) e a = λ before done s.
    let x = a before done s in (
      x.0,
      λ n. let r = x.1 n in record { whole = r.whole; went = record { more = r.went.more; holds = r.went.holds; goes_on = λ further. r.went.goes_on further ∙ e further } },
    )

-- a value that was got, and what follows it
pub gets_ok : {X Y Z : Type 0} (r : List Bool → Read X) (k : X → List Bool → Read Y) (old new : Source) (got : Result X HeaderStop) (v : X) (z : Z) → Gets r old new got → got ≡ Ok v
    → Moves {Y = Z} (λ l. and_then (r l) k) (k v) old new (Ok z)
gets_ok {X} {Y} r k old new got v z a e = λ before done s.
    let P : Result X HeaderStop → Type 0 = λ x. Moved r (behind_answer r x) before done old new x in
    let x : Went r (λ l. Got v l) before done new = subst P e (a before done s) in
    record { more = x.more; holds = x.holds; goes_on = λ further. ap (λ (q : Read X). and_then q k) (x.goes_on further) }

-- a reading that stops
pub gets_err : {X Y : Type 0} (Z : Type 0) (r : List Bool → Read X) (k : X → List Bool → Read Y) (old new : Source) (got : Result X HeaderStop) (stopped : HeaderStop) → Gets r old new got → got ≡ Err stopped
    → Moves {Y = Z} (λ l. and_then (r l) k) (λ l. and_then (r l) k) old new (Err stopped)
gets_err {X} {Y} Z r k old new got stopped a e =
    let P : Result X HeaderStop → Type 0 = λ x. Moves r (behind_answer r x) old new x in
    let b : Moves {Y = X} r r old new (Err stopped) = subst P e a in
    λ before done s. moves_then {Z = X} r r k old new (Err stopped) b before done s

-- a value that was got and is refused
pub gets_refused : {X Y : Type 0} (Z : Type 0) (r : List Bool → Read X) (k : X → List Bool → Read Y) (after : List Bool → Read Y) (old new : Source) (got : Result X HeaderStop) (v : X) (why : HeaderRefusal) → new.piece.now ≡ old.piece.now → Gets r old new got → got ≡ Ok v
    → ((l : List Bool) → k v l ≡ Refused why) → Moves {Y = Z} (λ l. and_then (r l) k) after old new (Err (Bad (why_of why)))
gets_refused {X} {Y} Z r k after old new got v why same a e none = λ before done s.
    let P : Result X HeaderStop → Type 0 = λ x. Moved r (behind_answer r x) before done old new x in
    let x : Went r (λ l. Got v l) before done new = subst P e (a before done s) in
    let f = front_behind before done x.more old new same x.holds in
    let l = bits_after done (all_of before old) in
    let read : and_then (r l) k ≡ Refused why = ap (λ (m : List Bool). and_then (r m) k) f.1 ∙ (ap (λ (q : Read X). and_then q k) (x.goes_on f.0) ∙ none f.0) in (
      same_stop (and_then (r l) k) (Refused why) (packed_bits (all_of before old)).broken_at (Bad (why_of why)) read refl,
      λ n. absurd (let c : Bad (why_of why) ≡ Need = n in cc),
    )

-- readings, and what follows them
pub then_assoc : {X Y Z : Type 0} (r : Read X) (f : X → List Bool → Read Y) (g : Y → List Bool → Read Z) → and_then (and_then r f) g ≡ and_then r (λ x l. and_then (f x l) g)
then_assoc (Got x l) f g = refl
then_assoc AtEnd f g = refl
then_assoc (Refused why) f g = refl

-- a reading of a value and of what follows it: the value was got, or it is refused, or the reading stops
pub value_ok : {X Y Z : Type 0} (first : List Bool → Read Y) (r : List Bool → Read X) (k : X → List Bool → Read Y) (old new : Source) (got : Result X HeaderStop) (v : X) (z : Z) → ((l : List Bool) → first l ≡ and_then (r l) k)
    → Gets r old new got → got ≡ Ok v → Moves first (k v) old new (Ok z)
value_ok first r k old new got v z same a e = λ before done s. moves_same first (λ l. and_then (r l) k) (k v) old new (Ok z) same (gets_ok r k old new got v z a e) before done s

pub value_err : {X Y : Type 0} (Z : Type 0) (first : List Bool → Read Y) (r : List Bool → Read X) (k : X → List Bool → Read Y) (old new : Source) (got : Result X HeaderStop) (stopped : HeaderStop) → ((l : List Bool) → first l ≡ and_then (r l) k)
    → Gets r old new got → got ≡ Err stopped → Moves {Y = Z} first first old new (Err stopped)
value_err Z first r k old new got stopped same a e = λ before done s.
    moves_to {Z = Z} first (λ l. and_then (r l) k) first old new (Err stopped) (λ l. sym (same l)) (moves_same {Z = Z} first (λ l. and_then (r l) k) (λ l. and_then (r l) k) old new (Err stopped) same (gets_err Z r k old new got stopped a e)) before done s

pub value_refused : {X Y : Type 0} (Z : Type 0) (first : List Bool → Read Y) (r : List Bool → Read X) (k : X → List Bool → Read Y) (after : List Bool → Read Y) (old new : Source) (got : Result X HeaderStop) (v : X) (why : HeaderRefusal)
    → new.piece.now ≡ old.piece.now → ((l : List Bool) → first l ≡ and_then (r l) k) → Gets r old new got → got ≡ Ok v → ((l : List Bool) → k v l ≡ Refused why) → Moves {Y = Z} first after old new (Err (Bad (why_of why)))
value_refused Z first r k after old new got v why piece same a e none = λ before done s.
    moves_same {Z = Z} first (λ l. and_then (r l) k) after old new (Err (Bad (why_of why))) same (gets_refused Z r k after old new got v why piece a e none) before done s

-- what is read after a refusal may be anything
pub moves_bad : {X : Type 0} (Z : Type 0) (first after other : List Bool → Read X) (old new : Source) (why : HeaderWhy) → Moves {Y = Z} first after old new (Err (Bad why)) → Moves {Y = Z} first other old new (Err (Bad why))
moves_bad Z first after other old new why a = λ before done s. ((a before done s).0, λ n. absurd (cc))

-- a value that was got, and then a call that reads what follows it
pub value_then : {X Y Z : Type 0} (first second third : List Bool → Read Y) (r : List Bool → Read X) (k : X → List Bool → Read Y) (old mid new : Source) (got : Result X HeaderStop) (v : X) (out : Result Z HeaderStop) → mid.piece.now ≡ old.piece.now → ((l : List Bool) → first l ≡ and_then (r l) k)
    → Gets r old mid got → got ≡ Ok v → ((m : List Bool) → k v m ≡ second m) → Moves second third mid new out → Moves first third old new out
value_then first second third r k old mid new got v out piece same a e goes next = λ before done s.
    moves_on {Y = Unit {0}} first second third old mid new (tt {0}) out piece (moves_to {Z = Unit {0}} first (k v) second old mid (Ok (tt {0})) goes (value_ok first r k old mid got v (tt {0}) same a e)) next before done s
