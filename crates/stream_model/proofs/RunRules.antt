-- What the decoder's rules make of a run of a codestream's packets, as far as its bytes are there.
use Rattle.std.proofs.Common.{◌≡◌, ◌⊎◌, ◌<◌, ◌≤◌, ◌+◌, ℕ, zero, suc, List, [], ◌∷◌, ◌++◌, length, take, drop, Option, Some, None, subst, refl, sym, ◌∙◌, ap, inl, inr, arith, append_assoc}
use Rattle.std.proofs.lemmas.Bool.{cases_lt}
use Rattle.std.proofs.lemmas.List.{append-nil, length-append}
use Rattle.std.proofs.Math.Seq.{take-append_seam}
use Rattle.codestream_model.specs.Values.{Head, Place}
use Rattle.codestream_model.specs.Precincts.{grids}
use Rattle.codestream_model.specs.Packet.{SpellsPacketHeader, Content, SpellsPacket}
use Rattle.codestream_model.specs.Codestream.{joined}
use Rattle.codestream_model.proofs.OneWayLemmas.{fronts, same_front}
use Rattle.codestream_model.proofs.OwnBands.{own_bands}
use Rattle.codestream_model.proofs.MarkedVerdicts.{marked_front_needs}
use Rattle.stream_model.specs.Stream.{ArePackets}
use Rattle.stream_model.specs.RunLaws.{release_of, releases_of}
use Rattle.stream_model.specs.Decoder.{Current, Mark, Decoder, Part, found_packet, Releases, Changes, Waits, run_of, rule_of_packet, rule, Release, Settled, with_release, settle}
use Rattle.stream_model.proofs.Found.{packet_has_bytes}
use Rattle.stream_model.proofs.PacketsFound.{packet_found, segments_taken, stands_found}

-- a list after which nothing follows
no_items : (xs got header : List ℕ) → header ≡ got ++ xs → length xs ≡ 0 → got ≡ header ++ []
no_items [] got header e z = sym (append-nil got) ∙ (sym e ∙ sym (append-nil header))
no_items (x ∷ xs) got header e z = absurd (omega arith)

-- after the header of a packet not all of its segments are there
part_behind : (h : Head) (p : Place) (x : Content) (packet got rest : List ℕ) (s : SpellsPacket h p x packet) → packet ≡ got ++ rest → 1 ≤ length rest → (more : List ℕ) → got ≡ s.header ++ more → found_packet h p got ≡ Part
part_behind h p x packet got rest s e some more g =
    stands_found h p got Part (inr (record {
      few_blocks = s.few_blocks;
      unfinished = inr (record {
        blocks = x.blocks;
        header = s.header;
        rest = more;
        begins = record { few_blocks = s.few_blocks; is_header = s.is_header; whole = g };
        fits = omega (arith, s.short, s.segments, ap length s.whole, length-append s.header x.bytes);
        lacks = omega (arith, some, s.segments, ap length s.whole, length-append s.header x.bytes, ap length e, length-append got rest, ap length g, length-append s.header more);
      });
    }))

-- the front of a packet is found as less than one
pub part_found : (h : Head) (p : Place) (x : Content) (packet got rest : List ℕ) → SpellsPacket h p x packet → packet ≡ got ++ rest → 1 ≤ length rest → found_packet h p got ≡ Part
part_found h p x packet got rest s e some = elim (cases_lt (length got) (length s.header)) [
  | inl short ↦
      let f = fronts got s.header rest x.bytes (sym e ∙ s.whole) in
      elim f.1 [
        | inl g ↦
            let S : List ℕ → Type 0 = λ l. SpellsPacketHeader h p x.blocks l in
            stands_found h p got Part (inr (record { few_blocks = s.few_blocks; unfinished = inl (marked_front_needs (grids h p) h.eph x.blocks got f.0 (own_bands h p) (subst S g s.is_header) (omega (arith, short, ap length g, length-append got f.0))) }))
        | inr g ↦ absurd (omega (arith, short, ap length g, length-append s.header f.0))
      ]
  | inr long ↦
      let f = fronts s.header got x.bytes rest (sym s.whole ∙ e) in
      elim f.1 [
        | inr g ↦
            let z : length f.0 ≡ 0 = omega (arith, long, ap length g, length-append got f.0) in
            part_behind h p x packet got rest s e some [] (no_items f.0 got s.header g z)
        | inl g ↦ part_behind h p x packet got rest s e some f.0 g
      ]
]

-- the decoder with this main header, this run, these bytes and this mark
abbrev pub state : Decoder → Current → Option (List Place) → List ℕ → Option Mark → Decoder
state d c run bytes mark = record d { current = Some c; run = run; bytes = bytes; mark = mark }

-- a rule that releases a packet, one that changes the state, and one that waits
pub settle_releases : (n : ℕ) (d next : Decoder) (x : Release) → rule d d.current ≡ Releases x next → settle (suc n) d ≡ with_release x (settle n next)
unfolding settle
settle_releases n d next x e = rw (e, settle) refl

-- a change of the state goes on
pub settle_changes : (n : ℕ) (d next : Decoder) → rule d d.current ≡ Changes next → settle (suc n) d ≡ settle n next
unfolding settle
settle_changes n d next e = rw (e, settle) refl

-- and waiting ends
pub settle_waits : (n : ℕ) (d next : Decoder) → rule d d.current ≡ Waits next → settle (suc n) d ≡ record { releases = []; decoder = next }
unfolding settle
settle_waits n d next e = rw (e, settle) refl

-- of the next packet not all is there
abbrev pub IsUnfinished : List (List ℕ) → List ℕ → Type 0
IsUnfinished [] got = got ≡ []
IsUnfinished (b ∷ bs) got = length got < length b

-- Of the packets `bs` of the precincts `ps`, which say `xs`, these were there whole in the bytes `got`, and were given; the
-- decoder waits for the rest.
pub record Went (d : Decoder) (c : Current) (ps : List Place) (xs : List Content) (bs : List (List ℕ)) (got : List ℕ) (s : Settled) : Type 0 where
  pub gone : List Place
  pub left : List Place
  pub said : List Content
  pub more : List Content
  pub whole : List (List ℕ)
  pub rest : List (List ℕ)
  pub kept : List ℕ
  pub places : ps ≡ gone ++ left
  pub content : xs ≡ said ++ more
  pub packets : bs ≡ whole ++ rest
  pub are_gone : ArePackets c.head gone said whole
  pub are_left : ArePackets c.head left more rest
  pub within : length (joined whole) ≤ length got
  pub bytes : (rest ≡ []) ⊎ (got ≡ joined whole ++ kept)
  pub unfinished : IsUnfinished rest kept
  pub is : s ≡ record { releases = releases_of c d.heads gone said whole; decoder = state d c (run_of left) kept None }

-- one packet more
pub went_more : (d : Decoder) (c : Current) (p : Place) (ps : List Place) (x : Content) (xs : List Content) (b : List ℕ) (bs : List (List ℕ)) (got : List ℕ) (s : Settled) → SpellsPacket c.head p x b → Went d c ps xs bs got s
    → Went d c (p ∷ ps) (x ∷ xs) (b ∷ bs) (b ++ got) (with_release (release_of c d.heads p x b) s)
went_more d c p ps x xs b bs got s is w = record {
  gone = p ∷ w.gone;
  left = w.left;
  said = x ∷ w.said;
  more = w.more;
  whole = b ∷ w.whole;
  rest = w.rest;
  kept = w.kept;
  places = ap (λ l. p ∷ l) w.places;
  content = ap (λ l. x ∷ l) w.content;
  packets = ap (λ l. b ∷ l) w.packets;
  are_gone = (is, w.are_gone);
  are_left = w.are_left;
  within = omega (arith, w.within, length-append b (joined w.whole), length-append b got);
  bytes = elim w.bytes [ inl e ↦ inl e | inr e ↦ inr (ap (λ (l : List ℕ). b ++ l) e ∙ sym (append_assoc b (joined w.whole) w.kept)) ];
  unfinished = w.unfinished;
  is = ap (with_release (release_of c d.heads p x b)) w.is;
}

-- the release of a packet with these bytes of its segments
abbrev pub release_from : Current → ℕ → Place → Content → List ℕ → List ℕ → Release
release_from c heads p x bytes raw = release_of c heads p (record { blocks = x.blocks; bytes = bytes }) raw

-- the rule where there is a whole packet and no mark
packet_released : (d : Decoder) (c : Current) (p : Place) (ps : List Place) (x : Content) (b got : List ℕ) → SpellsPacket c.head p x b
    → rule (state d c (Some (p ∷ ps)) (b ++ got) None) (Some c) ≡ Releases (release_of c d.heads p x b) (state d c (run_of ps) got None)
packet_released d c p ps x b got s =
    let t = segments_taken c.head p x b got s in
    ap (rule_of_packet (state d c (Some (p ∷ ps)) (b ++ got) None) c p ps) (packet_found c.head p x b got s)
    ∙ (ap (λ (l : List ℕ). Releases (release_from c d.heads p x l (take (length b) (b ++ got))) (state d c (run_of ps) (drop (length b) (b ++ got)) None)) t.0
    ∙ (ap (λ (l : List ℕ). Releases (release_from c d.heads p x x.bytes l) (state d c (run_of ps) (drop (length b) (b ++ got)) None)) (take-append_seam b got)
    ∙ ap (λ (l : List ℕ). Releases (release_of c d.heads p x b) (state d c (run_of ps) l None)) t.1))

-- the rule where there is less than a packet and no mark
part_waits : (d : Decoder) (c : Current) (p : Place) (ps : List Place) (x : Content) (b got rest : List ℕ) → SpellsPacket c.head p x b → b ≡ got ++ rest → 1 ≤ length rest
    → rule (state d c (Some (p ∷ ps)) got None) (Some c) ≡ Waits (state d c (Some (p ∷ ps)) got None)
part_waits d c p ps x b got rest s e some = ap (rule_of_packet (state d c (Some (p ∷ ps)) got None) c p ps) (part_found c.head p x b got rest s e some)

-- a front that is as long
whole_packet : (b got more : List ℕ) → b ≡ got ++ more → length b ≤ length got → got ++ [] ≡ b
whole_packet b got [] g there = sym g
whole_packet b got (x ∷ more) g there = absurd (omega (arith, there, ap length g, length-append got (x ∷ more)))

-- what the rules give where no mark is in the bytes
pub goes_on : (n : ℕ) (d : Decoder) (c : Current) (ps : List Place) (xs : List Content) (bs : List (List ℕ)) (got todo tail : List ℕ) → ArePackets c.head ps xs bs → joined bs ++ tail ≡ got ++ todo → length got + 2 ≤ n
    → Went d c ps xs bs got (settle n (state d c (run_of ps) got None))
goes_on zero d c ps xs bs got todo tail a e enough = absurd (omega arith)
goes_on (suc n) d c [] [] [] got todo tail a e enough =
    record { gone = []; left = []; said = []; more = []; whole = []; rest = []; kept = []; places = refl; content = refl; packets = refl; are_gone = tt; are_left = tt; within = omega arith; bytes = inl refl; unfinished = refl; is = settle_waits n (state d c None got None) (state d c None [] None) refl }
goes_on (suc n) d c (p ∷ ps) (x ∷ xs) (b ∷ bs) got todo tail a e enough =
    let f = fronts b got (joined bs ++ tail) todo (sym (append_assoc b (joined bs) tail) ∙ e) in
    let some = packet_has_bytes c.head p x b a.0 in
    let waits = λ (lacks : length got < length b) (rest : List ℕ) (g : b ≡ got ++ rest).
    (let w : Went d c (p ∷ ps) (x ∷ xs) (b ∷ bs) got (settle (suc n) (state d c (Some (p ∷ ps)) got None)) =
    record {
      gone = [];
      left = p ∷ ps;
      said = [];
      more = x ∷ xs;
      whole = [];
      rest = b ∷ bs;
      kept = got;
      places = refl;
      content = refl;
      packets = refl;
      are_gone = tt;
      are_left = a;
      within = omega arith;
      bytes = inr refl;
      unfinished = lacks;
      is = settle_waits n (state d c (Some (p ∷ ps)) got None) (state d c (Some (p ∷ ps)) got None) (part_waits d c p ps x b got rest a.0 g (omega (arith, lacks, ap length g, length-append got rest)));
    } in w) in
    let releases = λ (more : List ℕ) (g : got ≡ b ++ more).
    (let split : b ++ (joined bs ++ tail) ≡ b ++ (more ++ todo) = sym (append_assoc b (joined bs) tail) ∙ (e ∙ (ap (λ (l : List ℕ). l ++ todo) g ∙ append_assoc b more todo)) in
    let behind = (same_front b b (joined bs ++ tail) (more ++ todo) refl split).1 in
    let w = went_more d c p ps x xs b bs more (settle n (state d c (run_of ps) more None)) a.0 (goes_on n d c ps xs bs more todo tail a.1 behind (omega (arith, enough, some, ap length g, length-append b more))) in
    let W : Settled → Type 0 = λ s. Went d c (p ∷ ps) (x ∷ xs) (b ∷ bs) (b ++ more) s in
    let r = subst W (sym (settle_releases n (state d c (Some (p ∷ ps)) (b ++ more) None) (state d c (run_of ps) more None) (release_of c d.heads p x b) (packet_released d c p ps x b more a.0))) w in
    let V : List ℕ → Type 0 = λ l. Went d c (p ∷ ps) (x ∷ xs) (b ∷ bs) l (settle (suc n) (state d c (Some (p ∷ ps)) l None)) in
    subst V (sym g) r) in
    elim f.1 [
      | inl g ↦ releases f.0 g
      | inr g ↦ elim (cases_lt (length got) (length b)) [
        | inl lacks ↦ waits lacks f.0 g
        | inr there ↦ releases [] (sym (append-nil got) ∙ (whole_packet b got f.0 g there ∙ sym (append-nil b)))
      ]
    ]
goes_on n d c [] [] (b ∷ bs) got todo tail a e enough = absurd a
goes_on n d c [] (x ∷ xs) bs got todo tail a e enough = absurd a
goes_on n d c (p ∷ ps) [] bs got todo tail a e enough = absurd a
goes_on n d c (p ∷ ps) (x ∷ xs) [] got todo tail a e enough = absurd a
