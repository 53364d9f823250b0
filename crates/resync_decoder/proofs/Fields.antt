-- The fields of a decoder, and its state.
use Rattle.std.proofs.Common.{◌≡◌, ◌≤◌, ◌<◌, ◌+◌, ◌-◌, ◌==◌, ◌++◌, ℕ, Bool, true, false, List, [], ◌∷◌, length, drop, Option, Some, None, Result, Ok, Err, refl, sym, ◌∙◌, ap, subst, inl, inr, arith, length-append, length-drop, vec_capacity, if◌then◌else◌}
use Rattle.std.proofs.lemmas.Bool.Decides.{eqb_tells}
use Rattle.std.specs.Prelude.{is_some, IfSome}
use Rattle.codestream_model.specs.Values as values
use Rattle.codestream_model.specs.MainHeaderReading.{head_of, Refused}
use Rattle.codestream_model.specs.PacketOrder.{packet_order}
use Rattle.codestream_model.specs.Precincts.{IsPrecinct}
use Rattle.stream_model.specs.Decoder as rules
use Rattle.j2k_markers.specs.Refusals.{read_as}
use Rattle.pcrl_order.specs.Later.{later}
use Rattle.packet_header.specs.declared.block.Block.{Block}
use Rattle.precinct_geometry.specs.Spans.{place_of}
use Rattle.precinct_geometry.specs.declared.place.Place.{Place}
use Rattle.resync_decoder.specs.declared.decoder.Mark.{Mark}
use Rattle.resync_decoder.specs.declared.decoder.Given.{Given}
use Rattle.resync_decoder.specs.declared.decoder.HeadTaken.TheVariants.{Taken, Unsupported}
use Rattle.resync_decoder.specs.declared.decoder.Decoder.TheInside.{Inside}
use Rattle.resync_decoder.specs.InForce.{InForce, current_with, current_at}
use Rattle.resync_decoder.specs.States.{DecoderState, waiting, answer_of, head_answer}
use Rattle.resync_decoder.specs.Views.{run_at, mark_at, given_at, state_of, IsRun, IsMark, IsGiven, IsReadSoFar, IsSound}
use Rattle.resync_decoder.specs.declared.found.Progress.TheVariants.{Unread}
use Rattle.resync_decoder.proofs.Looks.{so_far_grows, so_far_unread}
use Rattle.resync_decoder.proofs.Orders.{in_force}
use Rattle.resync_decoder.proofs.Rules.{InRun}

-- an option that is there
pub some_is : {A : Type 0} (o : Option A) → is_some o ≡ true → (x : A) × (o ≡ Some x)
some_is None e = absurd (cc)
some_is (Some x) e = (x, refl)

-- a decoder in a run
pub in_run : (d : Inside) (s : DecoderState) (c : InForce) (p : Place) → state_of d ≡ s → d.current ≡ Some c → d.next ≡ Some p → InRun s.rules
in_run d s c p view is next = record {
  current = current_with d.header.items c;
  place = place_of p;
  later = later c.head (place_of p);
  is = ap (λ (x : DecoderState). x.rules.current) (sym view) ∙ ap (current_at d.header.items) is;
  runs = ap (λ (x : DecoderState). x.rules.run) (sym view) ∙ (ap (λ n. run_at n d.current) next ∙ ap (run_at (Some p)) is);
}

-- the mark of a decoder
abbrev pub mark_of : ℕ → Mark → rules.Mark
mark_of front m = record { at = m.at - front; place = place_of m.place }

pub marked : (d : Inside) (s : DecoderState) (m : Mark) → state_of d ≡ s → d.mark ≡ Some m → s.rules.mark ≡ Some (mark_of d.front m)
marked d s m view is = ap (λ (x : DecoderState). x.rules.mark) (sym view) ∙ ap (mark_at d.front) is

mark_low : (o : Option InForce) (m : Mark) (front len : ℕ) → IsMark (Some m) o front len → front ≤ m.at
mark_low None m front len is = absurd is
mark_low (Some c) m front len is = is.0

pub mark_follows : (d : Inside) (m : Mark) → IsSound d → d.mark ≡ Some m → d.front ≤ m.at
mark_follows d m sound is =
    let P : Option Mark → Type 0 = λ o. IsMark o d.current d.front (length d.buffer.items) in
    mark_low d.current m d.front (length d.buffer.items) (subst P is sound.mark)

-- a mark stays after a packet that ends before it
mark_stays : (o : Option Mark) (c : Option InForce) (front size len : ℕ) → IsMark o c front len → ((x : rules.Mark) → mark_at front o ≡ Some x → size ≤ x.at) → front + size ≤ len → IsMark o c (front + size) len
mark_stays None c front size len is before within = tt
mark_stays (Some m) None front size len is before within = is
mark_stays (Some m) (Some c) front size len is before within = let low = before (mark_of front m) refl in (omega (arith, low, is.0), is.1, is.2)

-- the invariant after a packet was given
pub released_sound : (d : Inside) (s : DecoderState) (c : InForce) (after : Option Place) (size : ℕ) → state_of d ≡ s → IsSound d → d.current ≡ Some c
    → IfSome after (λ p. IsPrecinct c.head (place_of p)) → size ≤ length s.rules.bytes → ((x : rules.Mark) → s.rules.mark ≡ Some x → size ≤ x.at)
    → IsSound (record d { next = after; front = d.front + size; finder = record d.finder { progress = Unread }; waits = false })
released_sound d s c after size view sound is precinct within before =
    let B : DecoderState → Type 0 = λ x. size ≤ length x.rules.bytes in
    let M : DecoderState → Type 0 = λ x. (y : rules.Mark) → x.rules.mark ≡ Some y → size ≤ y.at in
    let fits : size ≤ length (drop d.front d.buffer.items) = subst B (sym view) within in
    let len = length-drop d.front d.buffer.items in
    let R : Option InForce → Type 0 = λ o. IsRun after o in
    record {
      blocks = sound.blocks;
      room = sound.room;
      header = sound.header;
      front = omega (arith, fits, len, sound.front);
      few = sound.few;
      run = subst R (sym is) (next_is after c precinct);
      so_far = so_far_unread (record d.finder { progress = Unread }) after d.current (drop (d.front + size) d.buffer.items) refl;
      mark = mark_stays d.mark d.current d.front size (length d.buffer.items) sound.mark (subst M (sym view) before) (omega (arith, fits, len, sound.front));
      given = sound.given;
      waits = λ e. absurd (cc);
      headless = λ e. absurd (let f : Some c ≡ None = sym is ∙ e in cc);
    } where
      next_is : (o : Option Place) (c : InForce) → IfSome o (λ p. IsPrecinct c.head (place_of p)) → IsRun o (Some c)
      next_is None c h = tt
      next_is (Some p) c h = h

-- the invariant after a Body with a mark
pub marked_sound : (d : Inside) (s : DecoderState) (c : InForce) (front at : ℕ) (e : Inside) (bytes : List ℕ) (place : Place) → state_of d ≡ s → IsSound d → d.current ≡ Some c
    → drop front e.buffer.items ≡ drop d.front d.buffer.items ++ bytes → front ≤ length e.buffer.items → length e.buffer.items ≤ 16786216 → 16786216 ≤ vec_capacity e.buffer
    → (pos : ℕ) → pos < length bytes → at ≡ front + (length d.buffer.items - d.front) + pos → IsPrecinct c.head (place_of place)
    → IsSound (record d { buffer = e.buffer; front = front; mark = Some (record { at = at; place = place }); given = None; waits = false })
marked_sound d s c front at e bytes place view sound is joined within few room pos low where_at precinct =
    let all = ap (λ (l : List ℕ). length l) joined in
    let a = length-drop front e.buffer.items in
    let b = length-append (drop d.front d.buffer.items) bytes in
    let f = length-drop d.front d.buffer.items in
    let P : Option InForce → Type 0 = λ o. IsMark (Some (record { at = at; place = place })) o front (length e.buffer.items) in
    record {
      blocks = sound.blocks;
      room = room;
      header = sound.header;
      front = within;
      few = few;
      run = sound.run;
      so_far = so_far_grows d.finder d.next d.current (drop d.front d.buffer.items) bytes (drop front e.buffer.items) joined sound.so_far;
      mark = subst P (sym is) (omega (arith, where_at), omega (arith, all, a, b, f, low, where_at, within, sound.front), precinct);
      given = tt;
      waits = λ w. absurd (cc);
      headless = λ w. absurd (let g : Some c ≡ None = sym is ∙ w in cc);
    }

-- nothing is noted, and there is no mark
given_none : (o : Option Given) (c : Option InForce) (header : List ℕ) (heads : ℕ) (blocks : List Block) (buffer : List ℕ) (len : ℕ) → IsGiven o c len → given_at o (current_at header c) heads blocks buffer ≡ None → o ≡ None
given_none None c header heads blocks buffer len is e = refl
given_none (Some g) None header heads blocks buffer len is e = absurd is
given_none (Some g) (Some c) header heads blocks buffer len is e = absurd (cc)

mark_none : (front : ℕ) (o : Option Mark) → mark_at front o ≡ None → o ≡ None
mark_none front None e = refl
mark_none front (Some m) e = absurd (cc)

-- nothing is noted after what was dropped
none_given : (d : Inside) (s : rules.Decoder) → state_of d ≡ waiting (rules.take_gap s) → IsSound d → d.given ≡ None
none_given d s view sound = given_none d.given d.current d.header.items d.heads d.finder.reader.blocks d.buffer.items (length d.buffer.items) sound.given (ap (λ (x : DecoderState). x.given) view)

-- no main header is left
next_none : (o : Option Place) (c : Option InForce) → IsRun o c → run_at o c ≡ None → o ≡ None
next_none None c is e = refl
next_none (Some p) None is e = absurd is
next_none (Some p) (Some c) is e = absurd (cc)

pub dropped_sound : (d : Inside) (s : rules.Decoder) (n : ℕ) → state_of d ≡ waiting (rules.take_gap s) → IsSound d → IsSound (record d { current = None; unsupported = n })
dropped_sound d s n view sound =
    let next = next_none d.next d.current sound.run (ap (λ (x : DecoderState). x.rules.run) view) in
    let mark = mark_none d.front d.mark (ap (λ (x : DecoderState). x.rules.mark) view) in
    let given = none_given d s view sound in
    let waits : d.waits ≡ true = ap (λ (x : DecoderState). x.waits) view in
    let R : Option Place → Type 0 = λ o. IsRun o None in
    let F : Option Place → Type 0 = λ o. IsReadSoFar d.finder o None (drop d.front d.buffer.items) in
    let M : Option Mark → Type 0 = λ o. IsMark o None d.front (length d.buffer.items) in
    let G : Option Given → Type 0 = λ o. IsGiven o None (length d.buffer.items) in
    record {
      blocks = sound.blocks;
      room = sound.room;
      header = sound.header;
      front = sound.front;
      few = sound.few;
      run = subst R (sym next) tt;
      mark = subst M (sym mark) tt;
      so_far = subst F (sym next) tt;
      given = subst G (sym given) tt;
      waits = sound.waits;
      headless = λ e. waits;
    }

-- the invariant after a Body without a mark
pub joined_sound : (d e : Inside) (s : DecoderState) (c : InForce) (front disagreed : ℕ) (bytes : List ℕ) → state_of d ≡ s → IsSound d → s.waits ≡ true → d.current ≡ Some c
    → drop front e.buffer.items ≡ drop d.front d.buffer.items ++ bytes → front ≤ length e.buffer.items → length e.buffer.items ≤ 16786216 → 16786216 ≤ vec_capacity e.buffer
    → IsSound (record d { buffer = e.buffer; front = front; given = None; waits = false; disagreed = disagreed })
joined_sound d e s c front disagreed bytes view sound waits is joined within few room =
    let w : d.waits ≡ true = ap (λ (x : DecoderState). x.waits) view ∙ waits in
    let M : Option Mark → Type 0 = λ o. IsMark o d.current front (length e.buffer.items) in
    record {
      blocks = sound.blocks;
      room = room;
      header = sound.header;
      front = within;
      few = few;
      run = sound.run;
      mark = subst M (sym (sound.waits w).0) tt;
      so_far = so_far_grows d.finder d.next d.current (drop d.front d.buffer.items) bytes (drop front e.buffer.items) joined sound.so_far;
      given = tt;
      waits = λ f. absurd (cc);
      headless = λ f. absurd (let g : Some c ≡ None = sym is ∙ f in cc);
    }

-- the invariant where the bytes are dropped
pub emptied_sound : (d e : Inside) → IsSound d → e.buffer.items ≡ [] → 16786216 ≤ vec_capacity e.buffer → d.mark ≡ None
    → IsSound (record d { buffer = e.buffer; front = 0; finder = record d.finder { progress = Unread }; given = None; waits = true })
emptied_sound d e sound none room mark =
    let size : length e.buffer.items ≡ 0 = ap (λ (l : List ℕ). length l) none in
    let M : Option Mark → Type 0 = λ o. IsMark o d.current 0 (length e.buffer.items) in
    record {
      blocks = sound.blocks;
      room = room;
      header = sound.header;
      front = omega arith;
      few = omega (arith, size);
      run = sound.run;
      mark = subst M (sym mark) tt;
      so_far = so_far_unread (record d.finder { progress = Unread }) d.next d.current (drop 0 e.buffer.items) refl;
      given = tt;
      waits = λ f. (mark, omega (arith, size));
      headless = λ f. refl;
    }

-- an option that isn't there
pub none_is : {A : Type 0} (o : Option A) → is_some o ≡ false → o ≡ None
none_is None e = refl
none_is (Some x) e = absurd (cc)

-- a main header in force, whose bytes are those of `e`
pub main_sound : (d e : Inside) (s : rules.Decoder) (c : InForce) (p : Place) (heads : ℕ) → state_of d ≡ waiting (rules.take_gap s) → IsSound d → 8192 ≤ vec_capacity e.header → IsPrecinct c.head (place_of p)
    → IsSound (record d { current = Some c; header = e.header; next = Some p; finder = record d.finder { progress = Unread }; heads = heads })
main_sound d e s c p heads view sound room precinct =
    let mark = mark_none d.front d.mark (ap (λ (x : DecoderState). x.rules.mark) view) in
    let given = none_given d s view sound in
    let waits : d.waits ≡ true = ap (λ (x : DecoderState). x.waits) view in
    let M : Option Mark → Type 0 = λ o. IsMark o (Some c) d.front (length d.buffer.items) in
    let G : Option Given → Type 0 = λ o. IsGiven o (Some c) (length d.buffer.items) in
    record {
      blocks = sound.blocks;
      room = sound.room;
      header = room;
      front = sound.front;
      few = sound.few;
      run = precinct;
      mark = subst M (sym mark) tt;
      so_far = tt;
      given = subst G (sym given) tt;
      waits = sound.waits;
      headless = λ e. waits;
    }

pub main_state : (d e : Inside) (s : rules.Decoder) (stamp : ℕ) (h : values.Head) (c : InForce) (p : Place) (heads : ℕ) (bytes : List ℕ) → state_of d ≡ waiting (rules.take_gap s) → IsSound d → head_of bytes ≡ Ok h → h.length ≡ length bytes
    → e.header.items ≡ bytes → heads ≡ rules.one_more d.heads → c ≡ in_force stamp h → packet_order c.head ≡ place_of p ∷ later c.head (place_of p)
    → state_of (record d { current = Some c; header = e.header; next = Some p; finder = record d.finder { progress = Unread }; heads = heads }) ≡ waiting (rules.take_main s stamp bytes)
main_state d e s stamp h c p heads bytes view sound head size kept more is order =
    let given = none_given d s view sound in
    let g : given_at d.given (Some (current_with e.header.items c)) heads d.finder.reader.blocks d.buffer.items ≡ None = ap (λ o. given_at o (Some (current_with e.header.items c)) heads d.finder.reader.blocks d.buffer.items) given in
    let t : (h.length == length bytes) ≡ true = elim (eqb_tells h.length (length bytes)) [ inl u ↦ u.0 | inr u ↦ absurd (u.1 size) ] in
    let put : rules.Decoder → rules.Current → List values.Place → ℕ → rules.Decoder = λ r x l n. record r { current = Some x; run = Some l; bytes = []; mark = None; heads = n } in
    let was : d.heads ≡ s.heads = ap (λ (x : DecoderState). x.rules.heads) view in
    let taken : rules.take_main s stamp bytes ≡ put s (current_with bytes (in_force stamp h)) (packet_order h) (rules.one_more s.heads) =
    ap (rules.take_header s stamp bytes) head
    ∙ ap (λ (b : Bool). if b then put s (current_with bytes (in_force stamp h)) (packet_order h) (rules.one_more s.heads) else record (rules.without_head s) { unsupported = rules.one_more s.unsupported }) t in
    let l = place_of p ∷ later c.head (place_of p) in
    ap (λ o. record (state_of d) { rules = record (state_of d).rules { current = Some (current_with e.header.items c); run = Some l; heads = heads }; given = o }) g
    ∙ (ap (λ (x : DecoderState). record { rules = record x.rules { current = Some (current_with e.header.items c); run = Some l; heads = heads }; given = None; waits = x.waits }) view
    ∙ (ap (λ k. waiting (put s (current_with k c) l heads)) kept
    ∙ (ap (λ k. waiting (put s (current_with bytes c) k heads)) (sym order)
    ∙ (ap (λ (x : InForce). waiting (put s (current_with bytes x) (packet_order x.head) heads)) is
    ∙ (ap (λ n. waiting (put s (current_with bytes (in_force stamp h)) (packet_order h) n)) (more ∙ ap rules.one_more was) ∙ ap waiting (sym taken))))))

-- the answer to a Main
read_ok : (r : Result values.Head Refused) (h : values.Head) → Ok h ≡ read_as r → r ≡ Ok h
read_ok (Ok x) h e = (let f : h ≡ x = cc in ap (λ y. Ok y) (sym f))
read_ok (Err why) h e = absurd (cc)

pub head_read : (bytes : List ℕ) (h : values.Head) → Ok h ≡ read_as (head_of bytes) → head_of bytes ≡ Ok h
head_read bytes h e = read_ok (head_of bytes) h e

pub head_taken : (bytes : List ℕ) (h : values.Head) → head_of bytes ≡ Ok h → h.length ≡ length bytes → Taken ≡ head_answer bytes
head_taken bytes h head size =
    let t : (h.length == length bytes) ≡ true = elim (eqb_tells h.length (length bytes)) [ inl u ↦ u.0 | inr u ↦ absurd (u.1 size) ] in
    sym (ap (answer_of (length bytes)) head ∙ ap (λ (b : Bool). if b then Taken else Unsupported) t)
