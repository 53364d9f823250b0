-- What `pack` has written are frames, and only grows.
use Rattle.std.proofs.Common.{◌≡◌, ◌+◌, ◌-◌, ◌++◌, ℕ, List, [], length, take, subst, sym, ◌∙◌, ap, inl, inr, arith}
use Rattle.std.proofs.lemmas.Bool.{cases_lt}
use Rattle.std.proofs.lemmas.List.{append-nil, take-append-le}
use Rattle.std.proofs.Math.Seq.{take-append-add}
use Rattle.codestream_model.specs.Bytes.{IsBytes}
use Rattle.codestream_model.proofs.SegmentBytes.{bytes-take}
use Rattle.wire_model.specs.Framing.{framing, whole_frames}
use Rattle.wire_model.proofs.FramingLaws.{framing-append, whole_frames_of_framing}
use Rattle.stream_model.specs.Commands.{counted}
use Rattle.stream_model.specs.Cut.{Plan, IsPlan}
use Rattle.sender_model.specs.Closing.{closed}
use Rattle.sender_model.specs.OutputLaws.{PackedAreFrames, PackOnlyGrows, PackWritesCut, SendOnlyGrows}
use Rattle.sender_model.proofs.ClosedComputed.{closed_only_grows}
use Rattle.relay_model.specs.Queue.{untold, send_tale}
use Rattle.sender_model.proofs.Told.{sent_only_grows}
use Rattle.sender_model.proofs.Refused.{accepted_is_cut, all_counted}

pub packed_are_frames : PackedAreFrames
packed_are_frames p read =
    let datagrams = closed p (counted read) in
    ap whole_frames (sym (append-nil (framing datagrams))) ∙ whole_frames_of_framing datagrams [] tt

-- what counts of more bytes
counted_grows : (read more : List ℕ) → (later : List ℕ) × (counted (read ++ more) ≡ counted read ++ later)
counted_grows read more = elim (cases_lt (length read) 1099511627776) [
  | inl few ↦
      let left = 1099511627776 - length read in
      let all : 1099511627776 ≡ length read + left = omega (arith, few) in
      (take left more, ap (λ (n : ℕ). take n (read ++ more)) all ∙ (take-append-add read more left ∙ ap (λ (l : List ℕ). l ++ take left more) (sym (all_counted read (omega (arith, few))))))
  | inr many ↦ ([], take-append-le 1099511627776 read more many ∙ sym (append-nil (counted read)))
]

pub pack_writes_cut : PackWritesCut
pack_writes_cut p input codestreams plan fits a =
    let r = accepted_is_cut p input codestreams plan fits a in
    (r.0, r.1, ap (λ (l : List ℕ). framing (closed p l)) (all_counted input a.is_input.within) ∙ ap framing r.2)

-- what is closed of more bytes that count
closed_of_more : (p : Plan) (read more : List ℕ) → IsPlan p → IsBytes (read ++ more) → (added : List (List ℕ)) × (closed p (counted (read ++ more)) ≡ closed p (counted read) ++ added)
closed_of_more p read more plan fits =
    let c = counted_grows read more in
    let B : List ℕ → Type 0 = λ l. IsBytes l in
    let g = closed_only_grows p (counted read) c.0 (subst B c.1 (bytes-take 1099511627776 (read ++ more) fits)) (omega (arith, plan.least_mtu)) in
    (g.0, ap (closed p) c.1 ∙ g.1)

pub pack_only_grows : PackOnlyGrows
pack_only_grows p read more plan fits =
    let g = closed_of_more p read more plan fits in
    (framing g.0, ap framing g.1 ∙ framing-append (closed p (counted read)) g.0)

pub send_only_grows : SendOnlyGrows
send_only_grows p idle read more answers later plan fits =
    let g = closed_of_more p read more plan fits in
    let s = sent_only_grows idle (closed p (counted read)) g.0 answers later in
    (s.0, ap (λ (ds : List (List ℕ)). (send_tale idle 0 untold ds (answers ++ later)).sent) g.1 ∙ s.1)
