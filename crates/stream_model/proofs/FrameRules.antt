-- Each rule of the decoder keeps what is known of it, whatever the frames are, and gives what is read from them.
use Rattle.std.proofs.Common.{◌≡◌, ◌⊎◌, ◌<◌, ◌+◌, ◌-◌, ◌==◌, ◌&&◌, ℕ, zero, suc, Bool, true, false, List, [], ◌∷◌, ◌++◌, length, take, drop, nat_le, Option, Some, None, subst, refl, sym, ◌∙◌, ap, inl, inr, arith, if◌then◌else◌}
use Rattle.std.specs.List.{AllByRecursion}
use Rattle.std.proofs.lemmas.Bool.{leb-true, and_parts}
use Rattle.std.proofs.Math.Seq.{take-append_seam}
use Rattle.wire_model.specs.Datagram.{Datagram}
use Rattle.codestream_model.specs.Values.{Place, Block}
use Rattle.codestream_model.specs.Bytes.{IsBytes}
use Rattle.codestream_model.specs.PacketOrder.{pid}
use Rattle.codestream_model.proofs.TreeLemmas.{either, equal_number}
use Rattle.codestream_model.proofs.SegmentBytes.{bytes-drop}
use Rattle.stream_model.specs.Stream.{extended_number}
use Rattle.stream_model.specs.ReadingLaws.{IsReleased}
use Rattle.stream_model.specs.Decoder.{Current, Mark, Decoder, Found, Whole, Part, Other, found_packet, Release, Ruling, Releases, Changes, Waits, begin_at, begin_instead, mark_behind, run_of, release, is_place, from_place, rule_without_run, rule_of_packet, rule_before_mark, rule_at_mark, rule_in_run, rule_of_run, rule, Settled, settle, settled}
use Rattle.stream_model.specs.RunLaws.{release_of}
use Rattle.stream_model.proofs.PacketsFound.{found_is, segments_taken}
use Rattle.stream_model.proofs.RunRules.{settle_releases, settle_changes, settle_waits}
use Rattle.stream_model.proofs.FrameRuns.{HeadCame, Runs, RunIs, Marked, MarkIs, IsPast, mark_left, runs_read, run_left}

-- what is known of the main header in force, of the run and of the mark, where `next` is the number that comes next
abbrev pub HeadIs : List (List ℕ) → ℕ → Option Current → Option (List Place) → Option Mark → List ℕ → Type 0
HeadIs frames next None run mark bytes = Unit {0}
HeadIs frames next (Some c) run mark bytes = (main : Datagram) × HeadCame frames c main × RunIs frames c main next run bytes × MarkIs frames c next mark bytes

-- and of a decoder
abbrev pub DecoderIs : List (List ℕ) → ℕ → Decoder → Type 0
DecoderIs frames next d = IsBytes d.bytes × HeadIs frames next d.current d.run d.mark d.bytes

-- of what a rule does
abbrev pub RulingIs : List (List ℕ) → ℕ → Ruling → Type 0
RulingIs frames next (Releases x d) = IsReleased frames x × DecoderIs frames next d
RulingIs frames next (Changes d) = DecoderIs frames next d
RulingIs frames next (Waits d) = DecoderIs frames next d

-- the places are equal that the test says are
is_same : (p q : Place) → ((p.c == q.c) && (p.r == q.r) && (p.k == q.k)) ≡ true → p ≡ q
is_same p q e =
    let a = and_parts ((p.c == q.c) && (p.r == q.r)) (p.k == q.k) e in
    let b = and_parts (p.c == q.c) (p.r == q.r) a.0 in
    let c = equal_number p.c q.c b.0 in
    let r = equal_number p.r q.r b.1 in
    let k = equal_number p.k q.k a.1 in
    let of : ℕ → ℕ → ℕ → Place = λ x y z. record { c = x; r = y; k = z } in
    ap (λ n. of n p.r p.k) c ∙ (ap (λ n. of q.c n p.k) r ∙ ap (λ n. of q.c q.r n) k)

-- what is from an offset on begins with it, if there is anything
abbrev FromPlace : Place → List Place → List Place → Type 0
FromPlace p order from = (from ≡ []) ⊎ ((before : List Place) × (later : List Place) × (from ≡ p ∷ later) × (order ≡ before ++ p ∷ later))

from_further : (p q : Place) (more from : List Place) → FromPlace p more from → FromPlace p (q ∷ more) from
from_further p q more from (inl e) = inl e
from_further p q more from (inr (before, later, e, f)) = inr (q ∷ before, later, e, ap (λ l. q ∷ l) f)

from_is : (p : Place) (order : List Place) → FromPlace p order (from_place p order)
unfolding from_place
from_is p [] = inl refl
from_is p (q ∷ more) =
    let test = (p.c == q.c) && (p.r == q.r) && (p.k == q.k) in
    let P : Bool → Type 0 = λ b. FromPlace p (q ∷ more) (if b then q ∷ more else from_place p more) in
    elim (either test) [
      | inl t ↦ let s : p ≡ q = is_same p q t in subst P (sym t) (inr ([], more, ap (λ z. z ∷ more) (sym s), ap (λ z. z ∷ more) (sym s)))
      | inr t ↦ subst P (sym t) (from_further p q more (from_place p more) (from_is p more))
    ]

-- a run that begins at a mark
begun_by : (frames : List (List ℕ)) (c : Current) (main : Datagram) (next : ℕ) (m : Mark) (bytes : List ℕ) (from : List Place) → Marked frames c next bytes m → FromPlace m.place c.order from → RunIs frames c main next (Some from) (drop m.at bytes)
begun_by frames c main next m bytes from k (inl e) =
    let P : List Place → Type 0 = λ l. RunIs frames c main next (Some l) (drop m.at bytes) in subst P (sym e) tt
begun_by frames c main next m bytes from k (inr (before, later, e, f)) =
    let P : List Place → Type 0 = λ l. RunIs frames c main next (Some l) (drop m.at bytes) in
    let r : Runs frames c main next m.place later (drop m.at bytes) = record {
      number = extended_number k.body;
      bodies = k.body ∷ k.others;
      before = before;
      start = m.place;
      gone = [];
      said = [];
      at = k.fields.pos;
      skipped = k.skipped;
      packets = [];
      are = k.are;
      began = inl (k.fields, k.has, k.ordb, refl, k.names);
      order = f;
      first = ([], refl);
      joined = k.joined;
      from = k.from;
      are_packets = refl;
    } in
    subst P (sym e) r

-- what is known of the parts of a decoder with a main header
keep : (frames : List (List ℕ)) (next : ℕ) (d : Decoder) (c : Current) (main : Datagram) (run : Option (List Place)) (mark : Option Mark) (bytes : List ℕ) → d.current ≡ Some c → IsBytes bytes → HeadCame frames c main
    → RunIs frames c main next run bytes → MarkIs frames c next mark bytes → IsBytes bytes × HeadIs frames next d.current run mark bytes
keep frames next d c main run mark bytes e fits h r m =
    let P : Option Current → Type 0 = λ o. HeadIs frames next o run mark bytes in (fits, subst P (sym e) (main, h, r, m))

-- a run begins at the mark
begin_keeps : (frames : List (List ℕ)) (next : ℕ) (d : Decoder) (c : Current) (main : Datagram) (m : Mark) → d.current ≡ Some c → IsBytes d.bytes → HeadCame frames c main → Marked frames c next d.bytes m → DecoderIs frames next (begin_at d c m)
begin_keeps frames next d c main m e fits h k =
    keep frames next d c main (Some (from_place m.place c.order)) None (drop m.at d.bytes) e (bytes-drop m.at d.bytes fits) h (begun_by frames c main next m d.bytes (from_place m.place c.order) k (from_is m.place c.order)) tt

-- a packet is given
release_keeps : (frames : List (List ℕ)) (next : ℕ) (d : Decoder) (c : Current) (main : Datagram) (p : Place) (later : List Place) (blocks : List Block) (header size : ℕ) → d.current ≡ Some c → IsBytes d.bytes → HeadCame frames c main
    → Runs frames c main next p later d.bytes → MarkIs frames c next d.mark d.bytes → IsPast size d.mark → found_packet c.head p d.bytes ≡ Whole blocks header size → RulingIs frames next (release d c p later blocks header size)
release_keeps frames next d c main p later blocks header size e fits h r k past f =
    let (x, packet, more, s, whole, same, first, all) = (found_is c.head p d.bytes (Whole blocks header size) fits).0 f in
    let t = segments_taken c.head p x packet more s in
    let behind : drop size d.bytes ≡ more = ap (λ n. drop n d.bytes) (sym all) ∙ (ap (drop (length packet)) whole ∙ t.1) in
    let own : take (size - header) (drop header d.bytes) ≡ x.bytes =
    ap (λ n. take (n - header) (drop header d.bytes)) (sym all)
    ∙ (ap (λ n. take (length packet - n) (drop n d.bytes)) (sym first)
    ∙ (ap (λ (l : List ℕ). take (length packet - length s.header) (drop (length s.header) l)) whole ∙ t.0)) in
    let raw : take size d.bytes ≡ packet = ap (λ n. take n d.bytes) (sym all) ∙ (ap (take (length packet)) whole ∙ take-append_seam packet more) in
    let of : List Block → List ℕ → List ℕ → Release = λ bs l m. release_of c d.heads p (record { blocks = bs; bytes = l }) m in
    let is : of x.blocks x.bytes packet ≡ of blocks (take (size - header) (drop header d.bytes)) (take size d.bytes) =
    ap (λ bs. of bs x.bytes packet) same ∙ (ap (λ l. of blocks l packet) (sym own) ∙ ap (of blocks (take (size - header) (drop header d.bytes))) (sym raw)) in
    let R : Release → Type 0 = λ y. IsReleased frames y in
    let B : List ℕ → Type 0 = λ l. RunIs frames c main next (run_of later) l in (
      subst R is (runs_read frames c main next p later d.bytes h r d.heads x packet more s whole),
      keep frames next d c main (run_of later) (mark_behind size d.mark) (drop size d.bytes) e (bytes-drop size d.bytes fits) h
          (subst B (sym behind) (run_left frames c main next p later d.bytes r x packet more s whole))
          (mark_left frames c next size d.mark d.bytes k past),
    )

-- no run
idle_keeps : (frames : List (List ℕ)) (next : ℕ) (d : Decoder) (c : Current) (main : Datagram) (mark : Option Mark) → d.current ≡ Some c → IsBytes d.bytes → HeadCame frames c main → RunIs frames c main next d.run []
    → d.mark ≡ mark → MarkIs frames c next mark d.bytes → RulingIs frames next (rule_without_run d c mark)
idle_keeps frames next d c main None e fits h r m k =
    let M : Option Mark → Type 0 = λ o. MarkIs frames c next o [] in
    keep frames next d c main d.run d.mark [] e (λ i. let z : 0 < 256 = omega arith in z) h r (subst M (sym m) tt)
idle_keeps frames next d c main (Some m) e fits h r same k = begin_keeps frames next d c main m e fits h k

-- a packet without a mark
packet_keeps : (frames : List (List ℕ)) (next : ℕ) (d : Decoder) (c : Current) (main : Datagram) (p : Place) (later : List Place) (f : Found) → d.current ≡ Some c → IsBytes d.bytes → HeadCame frames c main
    → d.run ≡ Some (p ∷ later) → Runs frames c main next p later d.bytes → d.mark ≡ None → found_packet c.head p d.bytes ≡ f → RulingIs frames next (rule_of_packet d c p later f)
packet_keeps frames next d c main p later (Whole blocks header size) e fits h run r m g =
    let M : Option Mark → Type 0 = λ o. MarkIs frames c next o d.bytes in
    let P : Option Mark → Type 0 = λ o. IsPast size o in
    release_keeps frames next d c main p later blocks header size e fits h r (subst M (sym m) tt) (subst P (sym m) tt) g
packet_keeps frames next d c main p later Part e fits h run r m g =
    let M : Option Mark → Type 0 = λ o. MarkIs frames c next o d.bytes in
    let R : Option (List Place) → Type 0 = λ o. RunIs frames c main next o d.bytes in
    keep frames next d c main d.run d.mark d.bytes e fits h (subst R (sym run) r) (subst M (sym m) tt)
packet_keeps frames next d c main p later Other e fits h run r m g =
    let M : Option Mark → Type 0 = λ o. MarkIs frames c next o d.bytes in
    keep frames next d c main None d.mark d.bytes e fits h tt (subst M (sym m) tt)

-- a packet before a mark
before_keeps : (frames : List (List ℕ)) (next : ℕ) (d : Decoder) (c : Current) (main : Datagram) (m : Mark) (p : Place) (later : List Place) (f : Found) → d.current ≡ Some c → IsBytes d.bytes → HeadCame frames c main
    → Runs frames c main next p later d.bytes → d.mark ≡ Some m → Marked frames c next d.bytes m → found_packet c.head p d.bytes ≡ f → RulingIs frames next (rule_before_mark d c m p later f)
before_keeps frames next d c main m p later (Whole blocks header size) e fits h r same k g =
    let M : Option Mark → Type 0 = λ o. MarkIs frames c next o d.bytes in
    let P : Option Mark → Type 0 = λ o. IsPast size o in
    let T : Bool → Type 0 = λ t. RulingIs frames next (if t then release d c p later blocks header size else Changes (begin_instead d c m)) in
    elim (either (nat_le size m.at)) [
      | inl t ↦ subst T (sym t) (release_keeps frames next d c main p later blocks header size e fits h r (subst M (sym same) k) (subst P (sym same) (leb-true size m.at t)) g)
      | inr t ↦ subst T (sym t) (begin_keeps frames next d c main m e fits h k)
    ]
before_keeps frames next d c main m p later Part e fits h r same k g = begin_keeps frames next d c main m e fits h k
before_keeps frames next d c main m p later Other e fits h r same k g =
    let M : Option Mark → Type 0 = λ o. MarkIs frames c next o d.bytes in
    keep frames next d c main None d.mark d.bytes e fits h tt (subst M (sym same) k)

-- where the run has come to the mark
at_keeps : (frames : List (List ℕ)) (next : ℕ) (d : Decoder) (c : Current) (main : Datagram) (m : Mark) (p : Place) (later : List Place) → d.current ≡ Some c → IsBytes d.bytes → HeadCame frames c main
    → d.run ≡ Some (p ∷ later) → Runs frames c main next p later d.bytes → Marked frames c next d.bytes m → RulingIs frames next (rule_at_mark d c m p)
at_keeps frames next d c main m p later e fits h run r k =
    let R : Option (List Place) → Type 0 = λ o. RunIs frames c main next o d.bytes in
    elim (is_place m.place p) as (λ t. RulingIs frames next (if t then Changes (record d { mark = None }) else Changes (begin_instead d c m))) [
      | true ↦ keep frames next d c main d.run None d.bytes e fits h (subst R (sym run) r) tt
      | false ↦ begin_keeps frames next d c main m e fits h k
    ]

-- in a run
in_keeps : (frames : List (List ℕ)) (next : ℕ) (d : Decoder) (c : Current) (main : Datagram) (p : Place) (later : List Place) (mark : Option Mark) → d.current ≡ Some c → IsBytes d.bytes → HeadCame frames c main
    → d.run ≡ Some (p ∷ later) → Runs frames c main next p later d.bytes → d.mark ≡ mark → MarkIs frames c next mark d.bytes → RulingIs frames next (rule_in_run d c p later mark)
in_keeps frames next d c main p later None e fits h run r m k = packet_keeps frames next d c main p later (found_packet c.head p d.bytes) e fits h run r m refl
in_keeps frames next d c main p later (Some m) e fits h run r same k =
    elim (m.at == 0) as (λ t. RulingIs frames next (if t then rule_at_mark d c m p else rule_before_mark d c m p later (found_packet c.head p d.bytes))) [
      | true ↦ at_keeps frames next d c main m p later e fits h run r k
      | false ↦ before_keeps frames next d c main m p later (found_packet c.head p d.bytes) e fits h r same k refl
    ]

-- by the run
run_keeps : (frames : List (List ℕ)) (next : ℕ) (d : Decoder) (c : Current) (main : Datagram) (run : Option (List Place)) → d.current ≡ Some c → IsBytes d.bytes → HeadCame frames c main
    → d.run ≡ run → RunIs frames c main next run d.bytes → MarkIs frames c next d.mark d.bytes → RulingIs frames next (rule_of_run d c run)
run_keeps frames next d c main None e fits h run r k = let R : Option (List Place) → Type 0 = λ o. RunIs frames c main next o [] in idle_keeps frames next d c main d.mark e fits h (subst R (sym run) tt) refl k
run_keeps frames next d c main (Some []) e fits h run r k = let R : Option (List Place) → Type 0 = λ o. RunIs frames c main next o [] in idle_keeps frames next d c main d.mark e fits h (subst R (sym run) tt) refl k
run_keeps frames next d c main (Some (p ∷ later)) e fits h run r k = in_keeps frames next d c main p later d.mark e fits h run r refl k

-- and by the main header
rule_by : (frames : List (List ℕ)) (next : ℕ) (d : Decoder) (current : Option Current) → d.current ≡ current → IsBytes d.bytes → HeadIs frames next current d.run d.mark d.bytes → RulingIs frames next (rule d current)
rule_by frames next d None e fits h = let P : Option Current → Type 0 = λ o. HeadIs frames next o d.run d.mark d.bytes in (fits, subst P (sym e) tt)
rule_by frames next d (Some c) e fits (main, h, r, m) = run_keeps frames next d c main d.run e fits h refl r m

pub rule_keeps : (frames : List (List ℕ)) (next : ℕ) (d : Decoder) → DecoderIs frames next d → RulingIs frames next (rule d d.current)
rule_keeps frames next d k = rule_by frames next d d.current refl k.0 k.1

-- what the rules give, and the state that waits
abbrev pub SettledIs : List (List ℕ) → ℕ → Settled → Type 0
SettledIs frames next s = AllByRecursion (IsReleased frames) s.releases × DecoderIs frames next s.decoder

settle_by : (frames : List (List ℕ)) (next n : ℕ) (d : Decoder) (r : Ruling) → rule d d.current ≡ r → RulingIs frames next r → ((x : Decoder) → DecoderIs frames next x → SettledIs frames next (settle n x)) → SettledIs frames next (settle (suc n) d)
settle_by frames next n d (Releases x after) e k ih =
    let P : Settled → Type 0 = λ s. SettledIs frames next s in
    let s = ih after k.1 in
    subst P (sym (settle_releases n d after x e)) ((k.0, s.0), s.1)
settle_by frames next n d (Changes after) e k ih =
    let P : Settled → Type 0 = λ s. SettledIs frames next s in
    subst P (sym (settle_changes n d after e)) (ih after k)
settle_by frames next n d (Waits after) e k ih =
    let P : Settled → Type 0 = λ s. SettledIs frames next s in
    subst P (sym (settle_waits n d after e)) (tt, k)

settle_keeps : (frames : List (List ℕ)) (next n : ℕ) (d : Decoder) → DecoderIs frames next d → SettledIs frames next (settle n d)
unfolding settle
settle_keeps frames next zero d k = (tt, k)
settle_keeps frames next (suc n) d k = settle_by frames next n d (rule d d.current) refl (rule_keeps frames next d k) (λ x h. settle_keeps frames next n x h)

pub settled_keeps : (frames : List (List ℕ)) (next : ℕ) (d : Decoder) → DecoderIs frames next d → SettledIs frames next (settled d)
settled_keeps frames next d k = settle_keeps frames next (length d.bytes + 5) d k
