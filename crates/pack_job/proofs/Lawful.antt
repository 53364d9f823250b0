-- An input that is sent has one verdict, and is read until it is certain.
use Rattle.std.proofs.Common.{◌≡◌, ◌≢◌, ◌⊎◌, ◌<◌, ◌≤◌, ◌+◌, ◌-◌, ℕ, List, [], ◌++◌, length, take, refl, sym, subst, ◌∙◌, ap, inl, inr, arith}
use Rattle.std.proofs.lemmas.Bool.{cases_lt}
use Rattle.std.proofs.lemmas.List.{append-nil, length-append, take-append-le, take_all}
use Rattle.std.proofs.Math.Seq.{take-append-add}
use Rattle.codestream_model.specs.Bytes.{IsBytes}
use Rattle.codestream_model.specs.Codestream.{WalkRefusal, HeadRefused, Cut, TooManyBlocks, HeaderRefused, PacketTooLong, Psot, NoEoc, InputTooLong, TooManyFrames, RefusesCodestream, Faults, RefusesRest, readable, joined}
use Rattle.codestream_model.proofs.Inputs.{input_is_not_refused, fault_is_one}
use Rattle.codestream_model.proofs.FaultsStay.{faults_stay}
use Rattle.codestream_model.proofs.SegmentBytes.{bytes-take}
use Rattle.stream_model.specs.Commands.{counted}
use Rattle.stream_model.specs.Cut.{Plan, IsPlan, room}
use Rattle.sender_model.specs.Refusals.{SenderRefusal, InputRefused, HeaderTooLong, TooManyDatagrams, SenderRefuses, HasFewDatagrams, HasNoLongHeader, HasManyDatagrams, HasLongHeader}
use Rattle.sender_model.specs.Lead.{LeavesOpen}
use Rattle.sender_model.specs.Closing.{due_by}
use Rattle.sender_model.proofs.Refused.{sender_has_one_answer}
use Rattle.scl_run.specs.declared.ending.Reason.TheVariants as reason
use Rattle.scl_run.specs.declared.ending.Refusal.{Refusal}
use Rattle.scl_run.specs.InputClass.{IsLawful}
use Rattle.scl_run.proofs.InputClassLaws.{same_refusal}
use Rattle.parse_job.specs.Inputs.{reason_for}
use Rattle.pack_job.specs.SentInput.{octets, sender_reason, AreSendable, RefusesToSend, sent_input}
use Rattle.pack_job.proofs.Octets.{are_octets, octets_join}
use Rattle.pack_job.proofs.Stays.{IsOver, many_stay, long_due, long_stays, over_stays}

-- what counts of more bytes
counted_grows : (read more : List ℕ) → (later : List ℕ) × (counted (read ++ more) ≡ counted read ++ later)
counted_grows read more = elim (cases_lt (length read) 1099511627776) [
  | inl few ↦
      let left = 1099511627776 - length read in
      let all : 1099511627776 ≡ length read + left = omega (arith, few) in
      let whole : counted read ≡ read = take_all 1099511627776 read (omega (arith, few)) in
      (take left more, ap (λ (n : ℕ). take n (read ++ more)) all ∙ (take-append-add read more left ∙ ap (λ (l : List ℕ). l ++ take left more) (sym whole)))
  | inr many ↦ ([], take-append-le 1099511627776 read more many ∙ sym (append-nil (counted read)))
]

-- the bytes after whole codestreams that count
counted_after : (whole rest : List ℕ) → length whole ≤ 1099511627776 → counted (whole ++ rest) ≡ whole ++ take (1099511627776 - length whole) rest
counted_after whole rest within =
    let left = 1099511627776 - length whole in
    let all : 1099511627776 ≡ length whole + left = omega (arith, within) in
    ap (λ (n : ℕ). take n (whole ++ rest)) all ∙ take-append-add whole rest left

-- an item that is refused after whole codestreams
inside_over : (input : List ℕ) (at : ℕ) (why reason : WalkRefusal) (f : Faults input at why) → length f.codestreams < 65536 → ((inside : ℕ) × RefusesCodestream (readable (length (joined f.codestreams)) f.rest) inside reason × (at ≡ length (joined f.codestreams) + inside)) → IsOver (counted input)
inside_over input at why reason f few (inside, r, place) =
    (f.codestreams, readable (length (joined f.codestreams)) f.rest, ap counted f.whole ∙ counted_after (joined f.codestreams) f.rest f.within, f.each, inr (few, (inside, reason, r)))

-- by a fault other than the input's end nothing more is there, or all that counts was read
over_by : (input : List ℕ) (at : ℕ) (why : WalkRefusal) → Faults input at why → why ≢ Cut → IsOver (counted input) ⊎ (1099511627776 ≤ length input)
over_by input at why f other = elim f.fault [
  | inl full ↦ inl (f.codestreams, take (1099511627776 - length (joined f.codestreams)) f.rest, ap counted f.whole ∙ counted_after (joined f.codestreams) f.rest f.within, f.each, inl full.0)
  | inr t ↦ by_why why f other t.0 t.1
]
  where
    by_why : (y : WalkRefusal) → (f : Faults input at y) → y ≢ Cut → length f.codestreams < 65536 → RefusesRest (length (joined f.codestreams)) f.rest at y → IsOver (counted input) ⊎ (1099511627776 ≤ length input)
    by_why Cut f other few r = absurd (other refl)
    by_why InputTooLong f other few r = inr (omega (arith, r.1, ap length f.whole, length-append (joined f.codestreams) f.rest))
    by_why (HeadRefused w) f other few r = inl (inside_over input at (HeadRefused w) (HeadRefused w) f few r)
    by_why TooManyBlocks f other few r = inl (inside_over input at TooManyBlocks TooManyBlocks f few r)
    by_why (HeaderRefused w) f other few r = inl (inside_over input at (HeaderRefused w) (HeaderRefused w) f few r)
    by_why PacketTooLong f other few r = inl (inside_over input at PacketTooLong PacketTooLong f few r)
    by_why Psot f other few r = inl (inside_over input at Psot Psot f few r)
    by_why NoEoc f other few r = inl (inside_over input at NoEoc NoEoc f few r)
    by_why TooManyFrames f other few r = inl (inside_over input at TooManyFrames TooManyFrames f few r)

-- what counts are bytes
counted_bytes : (input : List ℕ) → IsBytes input → IsBytes (counted input)
counted_bytes input is = bytes-take 1099511627776 input is

-- a refusal other than the input's end stays
refusal_stays : (p : Plan) (input more : List ℕ) (at : ℕ) (why : SenderRefusal) → 1 ≤ room p → IsBytes input → IsBytes (input ++ more) → (why ≢ InputRefused Cut) → SenderRefuses p input at why → SenderRefuses p (input ++ more) at why
refusal_stays p input more at TooManyDatagrams some is fits other h =
    let g = counted_grows input more in
    let B : List ℕ → Type 0 = λ l. IsBytes l in
    let M : List ℕ → Type 0 = λ l. HasManyDatagrams p l at in
    subst M (sym g.1) (many_stay p (counted input) g.0 at some (counted_bytes input is) (subst B g.1 (counted_bytes (input ++ more) fits)) h)
refusal_stays p input more at HeaderTooLong some is fits other (few, long) =
    let g = counted_grows input more in
    let B : List ℕ → Type 0 = λ l. IsBytes l in
    let L : List ℕ → Type 0 = λ l. HasFewDatagrams p l × HasLongHeader p l at in
    let due : due_by p (counted input ++ g.0) ≡ due_by p (counted input) = long_due p (counted input) g.0 at (counted_bytes input is) (subst B g.1 (counted_bytes (input ++ more) fits)) long in
    subst L (sym g.1) (few_still p (counted input) (counted input ++ g.0) due few, long_stays p (counted input) g.0 at long)
  where
    few_still : (p : Plan) (x y : List ℕ) → due_by p y ≡ due_by p x → HasFewDatagrams p x → HasFewDatagrams p y
    few_still p x y e f = omega (arith, f, ap length e)
refusal_stays p input more at (InputRefused why) some is fits other (few, none, f) =
    let not_cut : why ≢ Cut = λ e. other (ap InputRefused e) in
    let stays = faults_stay input more at why not_cut f in
    elim (over_by input at why f not_cut) [
      | inl over ↦
          let g = counted_grows input more in
          let B : List ℕ → Type 0 = λ l. IsBytes l in
          let L : List ℕ → Type 0 = λ l. HasFewDatagrams p l × HasNoLongHeader p l in
          let s = subst L (sym g.1) (over_stays p (counted input) g.0 some (counted_bytes input is) (subst B g.1 (counted_bytes (input ++ more) fits)) over few none) in
          (s.0, s.1, stays)
      | inr long ↦
          let e : counted (input ++ more) ≡ counted input = take-append-le 1099511627776 input more long in
          let F : List ℕ → Type 0 = λ l. HasFewDatagrams p l in
          let N : List ℕ → Type 0 = λ l. HasNoLongHeader p l in
          (subst F (sym e) few, subst N (sym e) none, stays)
    ]

-- whether an input is refused because it ends
cut_or : (why : SenderRefusal) → (why ≡ InputRefused Cut) ⊎ (why ≢ InputRefused Cut)
cut_or TooManyDatagrams = inr (λ e. cc)
cut_or HeaderTooLong = inr (λ e. cc)
cut_or (InputRefused Cut) = inl refl
cut_or (InputRefused (HeadRefused w)) = inr (λ e. cc)
cut_or (InputRefused TooManyBlocks) = inr (λ e. cc)
cut_or (InputRefused (HeaderRefused w)) = inr (λ e. cc)
cut_or (InputRefused PacketTooLong) = inr (λ e. cc)
cut_or (InputRefused Psot) = inr (λ e. cc)
cut_or (InputRefused NoEoc) = inr (λ e. cc)
cut_or (InputRefused InputTooLong) = inr (λ e. cc)
cut_or (InputRefused TooManyFrames) = inr (λ e. cc)

refused : (p : Plan) → 1 ≤ room p → (read rest : List ℕ) (r : Refusal) → RefusesToSend p read r → (r.reason ≡ reason.Cut → rest ≡ []) → RefusesToSend p (read ++ rest) r
refused p some read rest r (why, is, h) end = elim (cut_or why) [
  | inl cut ↦
      let none = end (is ∙ ap sender_reason cut) in
      let R : List ℕ → Type 0 = λ l. RefusesToSend p l r in
      subst R (sym (ap (λ (l : List ℕ). read ++ l) none ∙ append-nil read)) (why, is, h)
  | inr other ↦
      let S : List ℕ → Type 0 = λ l. SenderRefuses p l r.at why in
      let B : List ℕ → Type 0 = λ l. IsBytes l in
      let e = octets_join read rest in
      (why, is, subst S (sym e) (refusal_stays p (octets read) (octets rest) r.at why some (are_octets read) (subst B e (are_octets (read ++ rest))) other h))
]

one_refusal : (p : Plan) (input : List ℕ) (r q : Refusal) → RefusesToSend p input r → RefusesToSend p input q → r ≡ q
one_refusal p input r q (why, is, f) (other, also, g) =
    let same = (sender_has_one_answer p (octets input)).one_refusal r.at q.at why other f g in
    same_refusal r q same.0 (is ∙ (ap sender_reason same.1 ∙ sym also))

waits_to_refuse : (p : Plan) (read : List ℕ) (r : Refusal) → LeavesOpen p (octets read) → RefusesToSend p read r → r.reason ≡ reason.Cut
waits_to_refuse p read r l (TooManyDatagrams, is, h) = absurd (omega (arith, h.many, l.few))
waits_to_refuse p read r l (HeaderTooLong, is, h) = absurd (l.fit r.at h.1)
waits_to_refuse p read r l (InputRefused why, is, h) = elim l.unfinished [
  | inl t ↦ absurd (input_is_not_refused (octets read) t.0 r.at why t.1 h.2)
  | inr cut ↦ let same = fault_is_one (octets read) r.at (length (octets read)) why Cut h.2 cut in is ∙ ap reason_for same.1
]

pub sent_inputs_are_lawful : (p : Plan) → IsPlan p → IsLawful (sent_input p)
sent_inputs_are_lawful p plan =
    let some : 1 ≤ room p = omega (arith, plan.least_mtu) in
    record {
      one = λ input r a h. (sender_has_one_answer p (octets input)).not_both a.0 r.at h.0 a.1 h.2;
      one_refusal = one_refusal p;
      accepted = λ read rest a end. let P : List ℕ → Type 0 = λ l. AreSendable p l in subst P (sym (ap (λ (l : List ℕ). read ++ l) (end tt) ∙ append-nil read)) a;
      refused = refused p some;
      waits_to_accept = λ read wants a. tt;
      waits_to_refuse = waits_to_refuse p;
    }
