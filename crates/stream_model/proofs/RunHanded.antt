-- One Body more that is there: a run goes on, and without a run one begins at its mark.
use Rattle.std.proofs.Common.{◌≡◌, ◌⊎◌, ◌<◌, ◌≤◌, ◌+◌, ◌==◌, ℕ, zero, suc, Bool, true, false, List, [], ◌∷◌, ◌++◌, length, Option, Some, None, subst, refl, sym, ◌∙◌, ap, inl, inr, arith}
use Rattle.std.specs.List.{AllByRecursion, flat_map}
use Rattle.std.proofs.lemmas.Bool.{cases_lt, eq-eqb}
use Rattle.std.proofs.lemmas.List.{append-nil, length-append}
use Rattle.wire_model.specs.Payload.{PayloadFields, BodyFields, Body}
use Rattle.wire_model.specs.Datagram.{Datagram}
use Rattle.codestream_model.specs.Values.{Place}
use Rattle.codestream_model.specs.Packet.{Content}
use Rattle.codestream_model.proofs.TreeLemmas.{either}
use Rattle.stream_model.specs.Stream.{Parts, ArePackets, ArePartsOf, Sent, Mark, IsResync, mark_of, packet_start, precinct_at, packet_span, carried_at}
use Rattle.stream_model.specs.Reached.{ResyncPoint}
use Rattle.stream_model.specs.Decoder.{Current, Decoder, Settled, run_of, place_of, settle, settled}
use Rattle.stream_model.specs.Receiver.{decoded}
use Rattle.stream_model.specs.RunLaws.{passing, current_of, releases_of}
use Rattle.stream_model.proofs.CutBodies.{all_imply}
use Rattle.stream_model.proofs.RunRules.{state, Went, settle_waits, goes_on}
use Rattle.stream_model.proofs.RunMarks.{mark_at, goes_past}
use Rattle.stream_model.proofs.RunPlaces.{as_many, next_here, gone_between, mark_ahead}
use Rattle.stream_model.proofs.RunReach.{reach_true, point, passing_all, passing_none, releases-length}
use Rattle.stream_model.proofs.RunStates.{marks_from, test, Lost, Dead, Alive, At, last_is, none_reached}
use Rattle.stream_model.proofs.RunSteps.{next_at, tail_of, split_passes, as_said, few_gone, many_done, the_next}

-- the bytes of a Body join those that are there,
joined_plain : (d0 : Decoder) (s : Sent) (run : Option (List Place)) (bytes : List ℕ) (x : Datagram) (g : BodyFields) → s.stamp ≡ x.rtp.stamp → g.ordb ≡ false
    → decoded (state d0 (current_of s) run bytes None) x (Body g) ≡ state d0 (current_of s) run (bytes ++ x.codestream) None
joined_plain d0 s run bytes x g e o = let same : (s.stamp == x.rtp.stamp) ≡ true = eq-eqb s.stamp x.rtp.stamp e in rw (same, o) refl

-- with their mark
pub joined_marked : (d0 : Decoder) (s : Sent) (run : Option (List Place)) (bytes : List ℕ) (x : Datagram) (g : BodyFields) (p : Place) → s.stamp ≡ x.rtp.stamp → g.ordb ≡ true → place_of (current_of s) g.pid ≡ Some p
    → decoded (state d0 (current_of s) run bytes None) x (Body g) ≡ state d0 (current_of s) run (bytes ++ x.codestream) (mark_at (length bytes + g.pos) p)
joined_marked d0 s run bytes x g p e o f = let same : (s.stamp == x.rtp.stamp) ≡ true = eq-eqb s.stamp x.rtp.stamp e in rw (same, o, f) refl

-- the mark of a Body
pub none_own : (i at : ℕ) (h : PayloadFields) (g : BodyFields) → h ≡ Body g → g.ordb ≡ false → mark_of i at h ≡ []
none_own i at h g e o = ap (mark_of i at) e ∙ rw o refl

-- with ORDB 1 it is this one
abbrev pub own_mark : ℕ → ℕ → BodyFields → Mark
own_mark i at g = record { body = i; place = at + g.pos; pid = g.pid }

-- and the only one
pub one_own : (i at : ℕ) (h : PayloadFields) (g : BodyFields) → h ≡ Body g → g.ordb ≡ true → mark_of i at h ≡ own_mark i at g ∷ []
one_own i at h g e o = ap (mark_of i at) e ∙ rw o refl

-- is right
pub own_right : (c : Parts) (i at : ℕ) (h : PayloadFields) (g : BodyFields) (later : List Mark) → h ≡ Body g → g.ordb ≡ true → AllByRecursion (IsResync c) (mark_of i at h ++ later) → IsResync c (own_mark i at g)
own_right c i at h g later e o a = let P : List Mark → Type 0 = λ l. AllByRecursion (IsResync c) (l ++ later) in (subst P (one_own i at h g e o) a).0

-- the packets that are gone in a run are reached
pub reached_here : (d0 : Decoder) (s : Sent) (main : ℕ) (there : ℕ → Bool) (i at : ℕ) (x : Datagram) (rest : List Datagram) (ps : List Place) (xs : List Content) (bs : List (List ℕ)) (got : List ℕ) (d : Decoder) (a : At d0 s main there i at (x ∷ rest) ps xs bs got d)
    (k j : ℕ) → there main ≡ true → Alive there main s (main + 1 + (i + 1)) k → k ≤ j → at < packet_start s.parts (j + 1) → packet_start s.parts (j + 1) ≤ at + length x.codestream → test there main s j ≡ true
reached_here d0 s main there i at x rest ps xs bs got d a k j main_there (r, has, most, run) low first last =
    let is = last_is d0 s main there i at x rest ps xs bs got d a j first last in
    reach_true there (carried_at main s) j (packet_span s main j) r main_there has (omega arith) (λ y l h. run y l (omega (arith, is, h)))

-- what is alive stays so where the Body is there
alive_on : (there : ℕ → Bool) (main : ℕ) (s : Sent) (i k n : ℕ) → there (main + 1 + i) ≡ true → k ≤ n → Alive there main s (main + 1 + i) k → Alive there main s (main + 1 + (i + 1)) n
alive_on there main s i k n here most (r, has, low, run) =
    (r, has, omega arith, λ y l h. elim (cases_lt y (main + 1 + i)) [ inl t ↦ run y l t | inr t ↦ let e : y ≡ main + 1 + i = omega arith in ap there e ∙ here ])

-- in a run
pub run_next : (d0 : Decoder) (s : Sent) (main : ℕ) (there : ℕ → Bool) (i at : ℕ) (x : Datagram) (rest : List Datagram) (ps : List Place) (xs : List Content) (bs : List (List ℕ)) (got : List ℕ) (d : Decoder) (a : At d0 s main there i at (x ∷ rest) ps xs bs got d)
    → there main ≡ true → there (main + 1 + i) ≡ true → Alive there main s (main + 1 + i) (length a.here.done) → Went d0 (current_of s) ps xs bs (got ++ x.codestream) (settled (decoded d x x.payload))
    → the_next d0 s main there i at x rest ps xs bs got d (Some x) a
run_next d0 s main there i at x rest ps xs bs got d a main_there here alive w =
    let c = s.parts in
    let cur = current_of s in
    let todo = flat_map (λ (y : Datagram). y.codestream) rest in
    let r = settled (decoded d x x.payload) in
    let h = next_here c at ps xs bs got x.codestream todo a.here d0 cur r refl w in
    let size = many_done c at ps xs bs got x.codestream todo a.here d0 cur r refl w in
    let k = length a.here.done in
    let on : (n : ℕ) → k ≤ n → Alive there main s (main + 1 + (i + 1)) n = λ n most. alive_on there main s i k n here most alive in
    let known = next_at d0 s main there i at x rest ps xs bs got d a w.left w.more w.rest w.kept h.0 r.decoder (inl (on (length h.0.done) (omega (arith, size)), ap (λ (q : Settled). q.decoder) w.is)) in
    let met : (j : ℕ) → k ≤ j → j < k + length w.gone → test there main s j ≡ true = λ j low high.
    (let b = gone_between c at ps xs bs got x.codestream (x.codestream ++ todo) a.here d0 cur r refl w j low high in
    reached_here d0 s main there i at x rest ps xs bs got d a k j main_there (on k (omega arith)) low b.0 b.1) in
    let same = as_said c.head w.gone w.said w.whole w.are_gone in
    let many = as_many c.head w.gone w.said w.whole w.are_gone in
    let passes = split_passes (test there main s) k cur d0.heads ps w.gone w.left xs w.said w.more bs w.whole w.rest w.places w.content w.packets same many in
    let all = passing_all (test there main s) k (releases_of cur d0.heads w.gone w.said w.whole) (λ j low high. met j low (omega (arith, high, releases-length cur d0.heads w.gone w.said w.whole same many))) in
    record {
      left = w.left;
      more = w.more;
      packets = w.rest;
      kept = w.kept;
      decoder = r.decoder;
      given = r.releases;
      gone = length w.gone;
      known = known.0;
      count = ap length known.1 ∙ size;
      passes = passes ∙ ap (λ l. l ++ passing (test there main s) (k + length w.gone) (releases_of cur d0.heads w.left w.more w.rest)) (all ∙ sym (ap (λ (q : Settled). q.releases) w.is));
      feeds = λ items. refl;
    }

-- what the rules make of a Body in a run
pub run_went : (d0 : Decoder) (s : Sent) (main : ℕ) (there : ℕ → Bool) (i at : ℕ) (x : Datagram) (rest : List Datagram) (ps : List Place) (xs : List Content) (bs : List (List ℕ)) (got : List ℕ) (d : Decoder) (a : At d0 s main there i at (x ∷ rest) ps xs bs got d)
    (codestream : List ℕ) (parts : ArePartsOf s.parts codestream) (g : BodyFields) → x.payload ≡ Body g → s.stamp ≡ x.rtp.stamp → (g.ordb ≡ true → g.pos < length x.codestream) → d ≡ state d0 (current_of s) (run_of ps) got None
    → Went d0 (current_of s) ps xs bs (got ++ x.codestream) (settled (decoded d x x.payload))
run_went d0 s main there i at x rest ps xs bs got d a codestream parts g e stamp marked is =
    let c = s.parts in
    let cur = current_of s in
    let todo = flat_map (λ (y : Datagram). y.codestream) rest in
    let t = tail_of c at ps xs bs got x.codestream todo a.here in
    let both = got ++ x.codestream in
    let n = length both + 5 in
    let W : Settled → Type 0 = λ q. Went d0 cur ps xs bs both q in
    let first : decoded d x x.payload ≡ decoded (state d0 cur (run_of ps) got None) x (Body g) = ap (λ y. decoded y x x.payload) is ∙ ap (decoded (state d0 cur (run_of ps) got None) x) e in
    elim (either g.ordb) [
      | inr o ↦
          let all : decoded d x x.payload ≡ state d0 cur (run_of ps) both None = first ∙ joined_plain d0 s (run_of ps) got x g stamp o in
          subst W (sym (ap settled all)) (goes_on n d0 cur ps xs bs both todo t.0 a.here.are t.1 (omega arith))
      | inl o ↦
          let later = marks_from (i + 1) (at + length x.codestream) rest in
          let m = own_mark i at g in
          let f = mark_ahead c codestream parts at ps xs bs got (x.codestream ++ todo) a.here cur m g.pos refl refl (own_right c i at x.payload g later e o a.right) refl in
          let A : List Place → Type 0 = λ l. ArePackets c.head l xs bs in
          let X : List Place → Type 0 = λ l. Went d0 cur l xs bs both (settle n (state d0 cur (run_of l) both (mark_at (length got + g.pos) f.p))) in
          let w = goes_past n d0 cur f.ahead f.p f.after xs bs both todo t.0 (length got + g.pos) (subst A f.places a.here.are) t.1 (sym f.start) (omega (arith, marked o, length-append got x.codestream)) (omega arith) in
          let all : decoded d x x.payload ≡ state d0 cur (run_of ps) both (mark_at (length got + g.pos) f.p) = first ∙ joined_marked d0 s (run_of ps) got x g f.p stamp o f.found in
          subst W (sym (ap settled all)) (subst X (sym f.places) w)
    ]

-- without a run the bytes of a Body that has no mark are dropped
idle_waits : (n : ℕ) (d0 : Decoder) (c : Current) (bytes : List ℕ) → 1 ≤ n → settle n (state d0 c None bytes None) ≡ record { releases = []; decoder = state d0 c None [] None }
idle_waits zero d0 c bytes some = absurd (omega arith)
idle_waits (suc n) d0 c bytes some = settle_waits n (state d0 c None bytes None) (state d0 c None [] None) refl

-- what is lost below a position is lost below a later one
lost_on : (there : ℕ → Bool) (main i : ℕ) (r : ResyncPoint) → Lost there (main + 1 + i) r → Lost there (main + 1 + (i + 1)) r
lost_on there main i r (y, low, less, e) = (y, low, omega arith, e)

-- so with all marks
pub dead_on : (there : ℕ → Bool) (main : ℕ) (s : Sent) (i : ℕ) (ms : List Mark) → Dead there main s (main + 1 + i) ms → Dead there main s (main + 1 + (i + 1)) ms
dead_on there main s i ms (main_lost, each) =
    (lost_on there main i (record { at = main; precinct = 0 }) main_lost, all_imply (λ m. Lost there (main + 1 + i) (point main s m)) (λ m. Lost there (main + 1 + (i + 1)) (point main s m)) ms (λ m l. lost_on there main i (point main s m) l) each)

-- without a run, and without a mark
pub step_idle : (d0 : Decoder) (s : Sent) (main : ℕ) (there : ℕ → Bool) (i at : ℕ) (x : Datagram) (rest : List Datagram) (ps : List Place) (xs : List Content) (bs : List (List ℕ)) (got : List ℕ) (d : Decoder) (a : At d0 s main there i at (x ∷ rest) ps xs bs got d)
    (codestream : List ℕ) (parts : ArePartsOf s.parts codestream) (g : BodyFields) → x.payload ≡ Body g → s.stamp ≡ x.rtp.stamp → g.ordb ≡ false → Dead there main s (main + 1 + i) a.earlier → d ≡ state d0 (current_of s) None [] None
    → the_next d0 s main there i at x rest ps xs bs got d (Some x) a
step_idle d0 s main there i at x rest ps xs bs got d a codestream parts g e stamp o dead is =
    let c = s.parts in
    let cur = current_of s in
    let todo = flat_map (λ (y : Datagram). y.codestream) rest in
    let t = tail_of c at ps xs bs got x.codestream todo a.here in
    let n = length (got ++ x.codestream) + 2 in
    let r = settle n (state d0 cur (run_of ps) (got ++ x.codestream) None) in
    let w = goes_on n d0 cur ps xs bs (got ++ x.codestream) todo t.0 a.here.are t.1 (omega arith) in
    let h = next_here c at ps xs bs got x.codestream todo a.here d0 cur r refl w in
    let size = many_done c at ps xs bs got x.codestream todo a.here d0 cur r refl w in
    let k = length a.here.done in
    let mine = mark_of i at x.payload in
    let none : mine ≡ [] = none_own i at x.payload g e o in
    let now = dead_on there main s i a.earlier dead in
    let D : List Mark → Type 0 = λ l. Dead there main s (main + 1 + (i + 1)) l in
    let after : Dead there main s (main + 1 + (i + 1)) (a.earlier ++ mine) = subst D (sym (ap (λ l. a.earlier ++ l) none ∙ append-nil a.earlier)) now in
    let all : settled (decoded d x x.payload) ≡ record { releases = []; decoder = state d0 cur None [] None } =
    ap settled (ap (λ y. decoded y x x.payload) is ∙ (ap (decoded (state d0 cur None [] None) x) e ∙ joined_plain d0 s None [] x g stamp o)) ∙ idle_waits (length x.codestream + 5) d0 cur x.codestream (omega arith) in
    let q = settled (decoded d x x.payload) in
    let known = next_at d0 s main there i at x rest ps xs bs got d a w.left w.more w.rest w.kept h.0 q.decoder (inr (after, ap (λ (y : Settled). y.decoder) all)) in
    let own = λ (j : ℕ). (let P : List Mark → Type 0 = λ l. AllByRecursion (λ m. (j < precinct_at c m.place) ⊎ (there (main + 1 + i) ≡ false)) l in let u : P mine = subst P (sym none) tt in u) in
    let missed : (j : ℕ) → k ≤ j → j < k + length w.gone → test there main s j ≡ false = λ j low high.
    (let b = gone_between c at ps xs bs got x.codestream (x.codestream ++ todo) a.here d0 cur r refl w j low high in
    none_reached d0 s main there i at x rest ps xs bs got d a codestream parts j now (omega (arith, few_gone c at ps xs bs got (x.codestream ++ todo) (got ++ x.codestream) a.here d0 cur r refl w, high)) b.0 b.1 (own j)) in
    let same = as_said c.head w.gone w.said w.whole w.are_gone in
    let many = as_many c.head w.gone w.said w.whole w.are_gone in
    let passes = split_passes (test there main s) k cur d0.heads ps w.gone w.left xs w.said w.more bs w.whole w.rest w.places w.content w.packets same many in
    let empty = passing_none (test there main s) k (releases_of cur d0.heads w.gone w.said w.whole) (λ j low high. missed j low (omega (arith, high, releases-length cur d0.heads w.gone w.said w.whole same many))) in
    record {
      left = w.left;
      more = w.more;
      packets = w.rest;
      kept = w.kept;
      decoder = q.decoder;
      given = q.releases;
      gone = length w.gone;
      known = known.0;
      count = ap length known.1 ∙ size;
      passes = passes ∙ ap (λ l. l ++ passing (test there main s) (k + length w.gone) (releases_of cur d0.heads w.left w.more w.rest)) (empty ∙ sym (ap (λ (y : Settled). y.releases) all));
      feeds = λ items. refl;
    }
