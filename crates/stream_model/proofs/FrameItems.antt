-- A datagram or a gap that is handed on to the decoder keeps what is known of it, whatever the frames are.
use Rattle.std.proofs.Common.{◌≡◌, ◌<◌, ◌+◌, ◌==◌, ℕ, zero, suc, Bool, true, List, [], ◌∷◌, ◌++◌, length, take, Option, Some, None, Result, Ok, Err, subst, refl, sym, ◌∙◌, ap, inl, inr, arith, if◌then◌else◌}
use Rattle.std.specs.Prelude.{find, MatchResult}
use Rattle.std.proofs.lemmas.List.{append-nil, length-append, take-append-drop, length-take-le}
use Rattle.std.proofs.lemmas.List.Elements.{All-weaker}
use Rattle.std.proofs.Math.Seq.{drop-append-add, take-length}
use Rattle.wire_model.specs.Payload.{BodyFields, PayloadFields, Main, Body, IsPayload}
use Rattle.wire_model.specs.Datagram.{Datagram}
use Rattle.codestream_model.specs.Values.{Head, Place}
use Rattle.codestream_model.specs.Bytes.{IsBytes}
use Rattle.codestream_model.specs.HeadLimits.{IsStep}
use Rattle.codestream_model.specs.MainHeader.{SpellsHead}
use Rattle.codestream_model.specs.MainHeaderReading.{head_of, Refused}
use Rattle.codestream_model.specs.RefusedHeader.{RefusesHead}
use Rattle.codestream_model.specs.PacketOrder.{pid, packet_order}
use Rattle.codestream_model.proofs.HeaderJudged.{headers_are_judged}
use Rattle.codestream_model.proofs.HeaderLimits.{header_is_within_limits}
use Rattle.codestream_model.proofs.Orders.{packet_order_is_computed}
use Rattle.codestream_model.proofs.TreeLemmas.{either, equal_number}
use Rattle.codestream_model.proofs.BytesLemmas.{bytes_join}
use Rattle.stream_model.specs.Stream.{IsMainPayload, IsBodyPayload, extended_number}
use Rattle.stream_model.specs.Reading.{IsAmong, IsBodyWith}
use Rattle.stream_model.specs.Decoder.{Current, Mark, Decoder, at_start, one_more, without_head, take_header, take_main, set_mark, join_bytes, place_of, take_body, take_gap}
use Rattle.stream_model.specs.Receiver.{decoded}
use Rattle.stream_model.proofs.FrameRuns.{HeadCame, RunIs, MarkIs, IsNext, after_next, run_push, mark_push}
use Rattle.stream_model.proofs.FrameRules.{HeadIs, DecoderIs}

-- no bytes are bytes
no_bytes : IsBytes []
no_bytes i = omega arith

-- an item that is found passes its test
pub found_passes : {A : Type 0} (t : A → Bool) (xs : List A) (x : A) → find t xs ≡ Some x → t x ≡ true
found_passes t [] x e = absurd (cc)
found_passes {A} t (y ∷ xs) x e =
    let P : Bool → Type 0 = λ b. (if b then Some y else find t xs) ≡ Some x → t x ≡ true in
    elim (either (t y)) as (λ z. t x ≡ true) [
      | inl q ↦ let f : Some y ≡ Some x = rw q at e in let s : y ≡ x = cc in ap t (sym s) ∙ q
      | inr q ↦ let f : find t xs ≡ Some x = rw q at e in found_passes t xs x f
    ]

-- the whole of bytes is taken
taken_all : (h : Head) (bytes : List ℕ) → h.length ≡ length bytes → SpellsHead h (take h.length bytes) → SpellsHead h bytes
taken_all h bytes e s =
    let S : List ℕ → Type 0 = λ l. SpellsHead h l in
    subst S (ap (λ n. take n bytes) e ∙ take-length bytes) s

-- a run that begins at the first precinct of an order
first_run : (frames : List (List ℕ)) (c : Current) (main : Datagram) (order : List Place) → c.order ≡ order → RunIs frames c main (after_next (extended_number main)) (Some order) []
first_run frames c main [] e = tt
first_run frames c main (p ∷ later) e = record {
  number = after_next (extended_number main);
  bodies = [];
  before = [];
  start = p;
  gone = [];
  said = [];
  at = 0;
  skipped = [];
  packets = [];
  are = record { each_came = tt; each_body = tt; each_stamp = tt; follow = tt; behind = refl };
  began = (refl, refl, (later, e));
  order = e;
  first = ([], refl);
  joined = refl;
  from = refl;
  are_packets = refl;
}

-- no main header
without_keeps : (frames : List (List ℕ)) (next : ℕ) (d : Decoder) → DecoderIs frames next (without_head d)
without_keeps frames next d = (no_bytes, tt)

-- a Main
header_keeps : (frames : List (List ℕ)) (d : Decoder) (x : Datagram) (r : Result Head Refused) → IsAmong frames x → IsMainPayload x.payload → IsBytes x.codestream
    → MatchResult r (λ h. SpellsHead h (take h.length x.codestream)) (λ t. RefusesHead x.codestream t.at t.why) → DecoderIs frames (after_next (extended_number x)) (take_header d x.rtp.stamp x.codestream r)
header_keeps frames d x (Err why) came is fits j = without_keeps frames (after_next (extended_number x)) d
header_keeps frames d x (Ok h) came is fits j =
    let next = after_next (extended_number x) in
    let c : Current = record { stamp = x.rtp.stamp; head = h; header = x.codestream; order = packet_order h } in
    let P : Bool → Type 0 = λ b. DecoderIs frames next (if b then record d { current = Some c; run = Some (packet_order h); bytes = []; mark = None; heads = one_more d.heads } else record (without_head d) { unsupported = one_more d.unsupported }) in
    elim (either (h.length == length x.codestream)) [
      | inl t ↦
          let s = taken_all h x.codestream (equal_number h.length (length x.codestream) t) j in
          let limits = header_is_within_limits h x.codestream fits s in
          let steps = All-weaker IsStep (λ step. (0 < step.x) × (0 < step.y)) (λ step i. (i.some_x, i.some_y)) h.steps limits.each_step in
          let came_as : HeadCame frames c x = record { came = came; is_main = is; stamp = refl; is_head = s; header = refl; order = packet_order_is_computed h steps } in
          subst P (sym t) (no_bytes, (x, came_as, first_run frames c x (packet_order h) refl, tt))
      | inr t ↦ subst P (sym t) (without_keeps frames next d)
    ]

-- a mark that is set
mark_set : (frames : List (List ℕ)) (c : Current) (next : ℕ) (x : Datagram) (g : BodyFields) (bytes : List ℕ) (p : Place) → IsNext frames c.stamp next x → IsBodyWith g x.payload → g.ordb ≡ true → g.pos < length x.codestream → pid c.head p ≡ g.pid
    → MarkIs frames c (after_next next) (Some (record { at = length bytes + g.pos; place = p })) (bytes ++ x.codestream)
mark_set frames c next x g bytes p n has ordb inside names = record {
  fields = g;
  body = x;
  others = [];
  skipped = take g.pos x.codestream;
  has = has;
  ordb = ordb;
  names = names;
  are = record { each_came = (n.came, tt); each_body = (n.body, tt); each_stamp = (n.stamp_is, tt); follow = (refl, tt); behind = ap after_next n.number };
  within = omega (arith, inside, length-append bytes x.codestream);
  joined = append-nil x.codestream ∙ (sym (take-append-drop g.pos x.codestream) ∙ ap (λ (l : List ℕ). take g.pos x.codestream ++ l) (sym (drop-append-add bytes x.codestream g.pos)));
  from = length-take-le g.pos x.codestream (omega (arith, inside));
}

-- a Body of the stamp, with its mark
set_keeps : (frames : List (List ℕ)) (c : Current) (main : Datagram) (next : ℕ) (d : Decoder) (x : Datagram) (g : BodyFields) (o : Option Place) → d.current ≡ Some c → place_of c g.pid ≡ o → IsBytes (d.bytes ++ x.codestream) → HeadCame frames c main
    → RunIs frames c main next d.run d.bytes → MarkIs frames c next d.mark d.bytes → IsNext frames c.stamp next x → IsBodyWith g x.payload → g.ordb ≡ true → g.pos < length x.codestream
    → DecoderIs frames (after_next next) (set_mark (join_bytes d x.codestream) (length d.bytes) g.pos o)
set_keeps frames c main next d x g None e f fits h r m n has ordb inside =
    let P : Option Current → Type 0 = λ z. HeadIs frames (after_next next) z d.run d.mark (d.bytes ++ x.codestream) in
    (fits, subst P (sym e) (main, h, run_push frames c main next d.run d.bytes x r n, mark_push frames c next d.mark d.bytes x m n))
set_keeps frames c main next d x g (Some p) e f fits h r m n has ordb inside =
    let mark : Option Mark = Some (record { at = length d.bytes + g.pos; place = p }) in
    let P : Option Current → Type 0 = λ z. HeadIs frames (after_next next) z d.run mark (d.bytes ++ x.codestream) in
    let names : pid c.head p ≡ g.pid = equal_number (pid c.head p) g.pid (found_passes (λ q. pid c.head q == g.pid) c.order p f) in
    (fits, subst P (sym e) (main, h, run_push frames c main next d.run d.bytes x r n, mark_set frames c next x g d.bytes p n has ordb inside names))

-- a Body of the stamp
join_keeps : (frames : List (List ℕ)) (c : Current) (main : Datagram) (next : ℕ) (d : Decoder) (x : Datagram) (g : BodyFields) → d.current ≡ Some c → IsBytes (d.bytes ++ x.codestream) → HeadCame frames c main
    → RunIs frames c main next d.run d.bytes → MarkIs frames c next d.mark d.bytes → IsNext frames c.stamp next x → IsBodyWith g x.payload → (g.ordb ≡ true → g.pos < length x.codestream)
    → DecoderIs frames (after_next next) (if g.ordb then set_mark (join_bytes d x.codestream) (length d.bytes) g.pos (place_of c g.pid) else join_bytes d x.codestream)
join_keeps frames c main next d x g e fits h r m n has marked =
    let B : Bool → Type 0 = λ b. DecoderIs frames (after_next next) (if b then set_mark (join_bytes d x.codestream) (length d.bytes) g.pos (place_of c g.pid) else join_bytes d x.codestream) in
    let P : Option Current → Type 0 = λ z. HeadIs frames (after_next next) z d.run d.mark (d.bytes ++ x.codestream) in
    elim (either g.ordb) [
      | inl t ↦ subst B (sym t) (set_keeps frames c main next d x g (place_of c g.pid) e refl fits h r m n has t (marked t))
      | inr t ↦ subst B (sym t) (fits, subst P (sym e) (main, h, run_push frames c main next d.run d.bytes x r n, mark_push frames c next d.mark d.bytes x m n))
    ]

-- a Body
body_keeps : (frames : List (List ℕ)) (next : ℕ) (d : Decoder) (x : Datagram) (g : BodyFields) (current : Option Current) → d.current ≡ current → IsBytes d.bytes → HeadIs frames next current d.run d.mark d.bytes
    → IsAmong frames x → IsBytes x.codestream → extended_number x ≡ next → IsBodyWith g x.payload → IsBodyPayload x.payload → (g.ordb ≡ true → g.pos < length x.codestream)
    → DecoderIs frames (after_next next) (take_body d current x.rtp.stamp g x.codestream)
body_keeps frames next d x g None e fits h came bytes number has is marked = let P : Option Current → Type 0 = λ z. HeadIs frames (after_next next) z d.run d.mark d.bytes in (fits, subst P (sym e) tt)
body_keeps frames next d x g (Some c) e fits (main, h, r, m) came bytes number has is marked =
    let P : Bool → Type 0 = λ b. DecoderIs frames (after_next next) (if b then (if g.ordb then set_mark (join_bytes d x.codestream) (length d.bytes) g.pos (place_of c g.pid) else join_bytes d x.codestream) else without_head d) in
    elim (either (c.stamp == x.rtp.stamp)) [
      | inl t ↦
          let n : IsNext frames c.stamp next x = record { came = came; body = is; stamp_is = sym (equal_number c.stamp x.rtp.stamp t); number = number } in
          subst P (sym t) (join_keeps frames c main next d x g e (bytes_join d.bytes x.codestream fits bytes) h r m n has marked)
      | inr t ↦ subst P (sym t) (without_keeps frames (after_next next) d)
    ]

-- by the payload
decoded_by : (frames : List (List ℕ)) (next : ℕ) (d : Decoder) (x : Datagram) (payload : PayloadFields) (body : List ℕ) → x.payload ≡ payload → IsPayload payload x.codestream body → DecoderIs frames next d → IsAmong frames x → IsBytes x.codestream → extended_number x ≡ next
    → DecoderIs frames (after_next next) (decoded d x payload)
decoded_by frames next d x (Main h) body e is k came bytes number =
    let I : PayloadFields → Type 0 = λ z. IsMainPayload z in
    let D : ℕ → Type 0 = λ n. DecoderIs frames (after_next n) (take_main d x.rtp.stamp x.codestream) in
    subst D number (header_keeps frames d x (head_of x.codestream) came (subst I (sym e) tt) bytes (headers_are_judged x.codestream bytes))
decoded_by frames next d x (Body h) body e is k came bytes number =
    let I : PayloadFields → Type 0 = λ z. IsBodyPayload z in
    let W : PayloadFields → Type 0 = λ z. IsBodyWith h z in
    body_keeps frames next d x h d.current refl k.0 k.1 came bytes number (subst W (sym e) refl) (subst I (sym e) tt) is.marked

-- a datagram that comes next
pub decoded_keeps : (frames : List (List ℕ)) (next : ℕ) (d : Decoder) (x : Datagram) → DecoderIs frames next d → IsAmong frames x → IsBytes x.codestream → extended_number x ≡ next → DecoderIs frames (after_next next) (decoded d x x.payload)
decoded_keeps frames next d x k came bytes number = decoded_by frames next d x x.payload came.2.body refl came.2.is_payload k came bytes number

-- a gap
gap_by : (frames : List (List ℕ)) (next other : ℕ) (run : Option (List Place)) (mark : Option Mark) (bytes : List ℕ) (current : Option Current) → HeadIs frames next current run mark bytes → HeadIs frames other current None None []
gap_by frames next other run mark bytes None h = tt
gap_by frames next other run mark bytes (Some c) (main, h, r, m) = (main, h, tt, tt)

pub gap_keeps : (frames : List (List ℕ)) (next other : ℕ) (d : Decoder) → DecoderIs frames next d → DecoderIs frames other (take_gap d)
gap_keeps frames next other d k = (no_bytes, gap_by frames next other d.run d.mark d.bytes d.current k.1)

-- and the start
pub start_is : (frames : List (List ℕ)) (next : ℕ) → DecoderIs frames next at_start
start_is frames next = (no_bytes, tt)
