-- The rules of the decoder are followed until they wait: each takes something away.
use Rattle.std.proofs.Common.{◌≡◌, ◌<◌, ◌≤◌, ◌+◌, ◌==◌, ℕ, zero, suc, true, false, List, [], ◌∷◌, length, drop, nat_le, Option, Some, None, subst, refl, sym, ◌∙◌, ap, arith, length-drop, length-append, if◌then◌else◌}
use Rattle.codestream_model.specs.Values.{Head, Place, Block}
use Rattle.codestream_model.specs.Bytes.{IsBytes}
use Rattle.codestream_model.proofs.SegmentBytes.{bytes-drop}
use Rattle.stream_model.specs.Decoder.{Current, Mark, Decoder, Found, Whole, Part, Other, found_packet, Ruling, Releases, Changes, Waits, begin_at, begin_instead, mark_behind, run_of, release, drop_run, is_place, rule_without_run, rule_of_packet, rule_before_mark, rule_at_mark, rule_in_run, rule_of_run, rule, Settled, with_release, settle}
use Rattle.stream_model.specs.DecoderLaws.{SettlesAs, SettledFollowsRules, SettledWaits}
use Rattle.stream_model.proofs.Found.{packet_has_bytes}
use Rattle.stream_model.proofs.PacketsFound.{found_is}
use Rattle.stream_model.proofs.RunRules.{settle_releases, settle_changes, settle_waits}

-- what a rule can take away
abbrev pub of_mark : Option Mark → ℕ
of_mark None = 0
of_mark (Some m) = 2

abbrev pub of_run : Option (List Place) → ℕ
of_run None = 0
of_run (Some places) = 1

abbrev pub weight : Decoder → ℕ
weight d = length d.bytes + of_mark d.mark + of_run d.run

-- a rule that doesn't wait takes some of it away
abbrev pub Falls : Decoder → Ruling → Type 0
Falls d (Releases x next) = (weight next < weight d) × IsBytes next.bytes
Falls d (Changes next) = (weight next < weight d) × IsBytes next.bytes
Falls d (Waits next) = rule next next.current ≡ Waits next

-- a whole packet has a byte, and is there
pub whole_size : (h : Head) (p : Place) (bytes : List ℕ) (blocks : List Block) (header size : ℕ) → IsBytes bytes → found_packet h p bytes ≡ Whole blocks header size → (1 ≤ size) × (size ≤ length bytes) × (header ≤ size)
whole_size h p bytes blocks header size b e =
    let (x, packet, more, s, whole, same, first, all) = (found_is h p bytes (Whole blocks header size) b).0 e in
    let some = packet_has_bytes h p x packet s in
    let w = ap (λ (l : List ℕ). length l) whole in
    let n = length-append packet more in
    let t = ap (λ (l : List ℕ). length l) s.whole in
    let m = length-append s.header x.bytes in
    (omega (arith, some, all), omega (arith, w, n, all), omega (arith, t, m, first, all))

mark_stays : (size : ℕ) (m : Option Mark) → of_mark (mark_behind size m) ≡ of_mark m
mark_stays size None = refl
mark_stays size (Some m) = refl

run_most : (places : List Place) → of_run (run_of places) ≤ 1
run_most [] = omega arith
run_most (p ∷ places) = omega arith

-- a packet that is given
falls_release : (d : Decoder) (c : Current) (p : Place) (later : List Place) (blocks : List Block) (header size : ℕ) → IsBytes d.bytes → d.run ≡ Some (p ∷ later) → found_packet c.head p d.bytes ≡ Whole blocks header size → Falls d (release d c p later blocks header size)
falls_release d c p later blocks header size b run e =
    let w = whole_size c.head p d.bytes blocks header size b e in
    let m = mark_stays size d.mark in
    let r = run_most later in
    let o = ap of_run run in
    let n = length-drop size d.bytes in
    (omega (arith, w.0, w.1, m, r, o, n), bytes-drop size d.bytes b)

-- a run that is dropped
falls_drop : (d : Decoder) (p : Place) (later : List Place) → IsBytes d.bytes → d.run ≡ Some (p ∷ later) → Falls d (Changes (drop_run d))
falls_drop d p later b run = let o = ap of_run run in (omega (arith, o), b)

-- a run that begins at a mark
falls_begin : (d : Decoder) (c : Current) (m : Mark) (p : Place) (later : List Place) → IsBytes d.bytes → d.mark ≡ Some m → Falls d (Changes (begin_at d c m)) × Falls d (Changes (begin_instead d c m))
falls_begin d c m p later b mark =
    let o = ap of_mark mark in
    let n = length-drop m.at d.bytes in
    let less : length (drop m.at d.bytes) + 0 + 1 < length d.bytes + of_mark d.mark + of_run d.run = omega (arith, o, n) in
    ((less, bytes-drop m.at d.bytes b), (less, bytes-drop m.at d.bytes b))

falls_without : (d : Decoder) (c : Current) (run : Option (List Place)) (m : Option Mark) → d.current ≡ Some c → (rule_of_run (record d { bytes = [] }) c d.run ≡ rule_without_run (record d { bytes = [] }) c d.mark) → IsBytes d.bytes → d.mark ≡ m → Falls d (rule_without_run d c m)
falls_without d c run None cur idle b mark =
    ap (rule (record d { bytes = [] })) cur ∙ (idle ∙ ap (rule_without_run (record d { bytes = [] }) c) mark)
falls_without d c run (Some m) cur idle b mark =
    let o = ap of_mark mark in
    let n = length-drop m.at d.bytes in
    (omega (arith, o, n), bytes-drop m.at d.bytes b)

falls_packet : (d : Decoder) (c : Current) (p : Place) (later : List Place) (f : Found) → d.current ≡ Some c → IsBytes d.bytes → d.run ≡ Some (p ∷ later) → d.mark ≡ None → found_packet c.head p d.bytes ≡ f → Falls d (rule_of_packet d c p later f)
falls_packet d c p later (Whole blocks header size) cur b run mark e = falls_release d c p later blocks header size b run e
falls_packet d c p later Part cur b run mark e =
    ap (rule d) cur ∙ (ap (rule_of_run d c) run ∙ (ap (rule_in_run d c p later) mark ∙ ap (rule_of_packet d c p later) e))
falls_packet d c p later Other cur b run mark e = falls_drop d p later b run

falls_before : (d : Decoder) (c : Current) (m : Mark) (p : Place) (later : List Place) (f : Found) → IsBytes d.bytes → d.run ≡ Some (p ∷ later) → d.mark ≡ Some m → found_packet c.head p d.bytes ≡ f → Falls d (rule_before_mark d c m p later f)
falls_before d c m p later (Whole blocks header size) b run mark e = elim (nat_le size m.at) as (λ t. Falls d (if t then release d c p later blocks header size else Changes (begin_instead d c m))) [
  | true ↦ falls_release d c p later blocks header size b run e
  | false ↦ (falls_begin d c m p later b mark).1
]
falls_before d c m p later Part b run mark e = (falls_begin d c m p later b mark).1
falls_before d c m p later Other b run mark e = falls_drop d p later b run

falls_at : (d : Decoder) (c : Current) (m : Mark) (p : Place) (later : List Place) → IsBytes d.bytes → d.mark ≡ Some m → Falls d (rule_at_mark d c m p)
falls_at d c m p later b mark = elim (is_place m.place p) as (λ t. Falls d (if t then Changes (record d { mark = None }) else Changes (begin_instead d c m))) [
  | true ↦ (let o = ap of_mark mark in omega (arith, o), b)
  | false ↦ (falls_begin d c m p later b mark).1
]

falls_in : (d : Decoder) (c : Current) (p : Place) (later : List Place) (m : Option Mark) → d.current ≡ Some c → IsBytes d.bytes → d.run ≡ Some (p ∷ later) → d.mark ≡ m → Falls d (rule_in_run d c p later m)
falls_in d c p later None cur b run mark = falls_packet d c p later (found_packet c.head p d.bytes) cur b run mark refl
falls_in d c p later (Some m) cur b run mark = elim (m.at == 0) as (λ t. Falls d (if t then rule_at_mark d c m p else rule_before_mark d c m p later (found_packet c.head p d.bytes))) [
  | true ↦ falls_at d c m p later b mark
  | false ↦ falls_before d c m p later (found_packet c.head p d.bytes) b run mark refl
]

falls_run : (d : Decoder) (c : Current) (run : Option (List Place)) → d.current ≡ Some c → IsBytes d.bytes → d.run ≡ run → Falls d (rule_of_run d c run)
falls_run d c None cur b run = falls_without d c None d.mark cur (ap (rule_of_run (record d { bytes = [] }) c) run) b refl
falls_run d c (Some []) cur b run = falls_without d c (Some []) d.mark cur (ap (rule_of_run (record d { bytes = [] }) c) run) b refl
falls_run d c (Some (p ∷ later)) cur b run = falls_in d c p later d.mark cur b run refl

falls_by : (d : Decoder) (cur : Option Current) → d.current ≡ cur → IsBytes d.bytes → Falls d (rule d cur)
falls_by d None cur b = ap (rule d) cur
falls_by d (Some c) cur b = falls_run d c d.run cur b refl

pub falls : (d : Decoder) → IsBytes d.bytes → Falls d (rule d d.current)
falls d b = falls_by d d.current refl b

-- so it doesn't matter how many rules may be followed, where they are enough
enough_by : (n m : ℕ) (d : Decoder) (r : Ruling) → rule d d.current ≡ r → Falls d r → weight d < suc n → weight d < suc m
    → ((x : Decoder) → IsBytes x.bytes → weight x < n → weight x < m → settle n x ≡ settle m x) → settle (suc n) d ≡ settle (suc m) d
enough_by n m d (Releases x next) e f a b ih = settle_releases n d next x e ∙ (ap (with_release x) (ih next f.1 (omega (arith, f.0)) (omega (arith, f.0))) ∙ sym (settle_releases m d next x e))
enough_by n m d (Changes next) e f a b ih = settle_changes n d next e ∙ (ih next f.1 (omega (arith, f.0)) (omega (arith, f.0)) ∙ sym (settle_changes m d next e))
enough_by n m d (Waits next) e f a b ih = settle_waits n d next e ∙ sym (settle_waits m d next e)

pub enough : (n m : ℕ) (d : Decoder) → IsBytes d.bytes → weight d < n → weight d < m → settle n d ≡ settle m d
enough zero m d b low other = absurd (omega arith)
enough (suc n) zero d b low other = absurd (omega arith)
enough (suc n) (suc m) d b low other = enough_by n m d (rule d d.current) refl (falls d b) low other (λ x bytes l o. enough n m x bytes l o)

mark_most : (m : Option Mark) → of_mark m ≤ 2
mark_most None = omega arith
mark_most (Some m) = omega arith

run_least : (r : Option (List Place)) → of_run r ≤ 1
run_least None = omega arith
run_least (Some places) = omega arith

-- there are always enough
light : (d : Decoder) → weight d ≤ length d.bytes + 3
light d = let m = mark_most d.mark in let r = run_least d.run in omega (arith, m, r)

settles_by : (d : Decoder) (r : Ruling) → rule d d.current ≡ r → Falls d r → SettlesAs d r
settles_by d (Releases x next) e f =
    let n = length d.bytes + 4 in
    let a = light d in
    let b = light next in
    let z : length d.bytes + 5 ≡ suc n = omega arith in
    ap (λ k. settle k d) z ∙ (settle_releases n d next x e ∙ ap (with_release x) (enough n (length next.bytes + 5) next f.1 (omega (arith, f.0, a)) (omega (arith, b))))
settles_by d (Changes next) e f =
    let n = length d.bytes + 4 in
    let a = light d in
    let b = light next in
    let z : length d.bytes + 5 ≡ suc n = omega arith in
    ap (λ k. settle k d) z ∙ (settle_changes n d next e ∙ enough n (length next.bytes + 5) next f.1 (omega (arith, f.0, a)) (omega (arith, b)))
settles_by d (Waits next) e f =
    let n = length d.bytes + 4 in
    let z : length d.bytes + 5 ≡ suc n = omega arith in
    ap (λ k. settle k d) z ∙ settle_waits n d next e

pub settled_follows_rules : SettledFollowsRules
settled_follows_rules d b = settles_by d (rule d d.current) refl (falls d b)

-- and at the end the rules wait
ends_by : (n : ℕ) (d : Decoder) (r : Ruling) → rule d d.current ≡ r → Falls d r → weight d < suc n → ((x : Decoder) → IsBytes x.bytes → weight x < n → rule (settle n x).decoder (settle n x).decoder.current ≡ Waits (settle n x).decoder)
    → rule (settle (suc n) d).decoder (settle (suc n) d).decoder.current ≡ Waits (settle (suc n) d).decoder
ends_by n d (Releases x next) e f a ih =
    let W : Settled → Type 0 = λ s. rule s.decoder s.decoder.current ≡ Waits s.decoder in
    subst W (sym (settle_releases n d next x e)) (ih next f.1 (omega (arith, f.0)))
ends_by n d (Changes next) e f a ih =
    let W : Settled → Type 0 = λ s. rule s.decoder s.decoder.current ≡ Waits s.decoder in
    subst W (sym (settle_changes n d next e)) (ih next f.1 (omega (arith, f.0)))
ends_by n d (Waits next) e f a ih =
    let W : Settled → Type 0 = λ s. rule s.decoder s.decoder.current ≡ Waits s.decoder in
    subst W (sym (settle_waits n d next e)) f

ends : (n : ℕ) (d : Decoder) → IsBytes d.bytes → weight d < n → rule (settle n d).decoder (settle n d).decoder.current ≡ Waits (settle n d).decoder
ends zero d b low = absurd (omega arith)
ends (suc n) d b low = ends_by n d (rule d d.current) refl (falls d b) low (λ x bytes l. ends n x bytes l)

pub settled_waits : SettledWaits
settled_waits d b = ends (length d.bytes + 5) d b (let a = light d in omega (arith, a))
