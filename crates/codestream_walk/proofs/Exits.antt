-- What each answer of the reader of items makes of a walk.
use Rattle.std.proofs.Common.{◌≡◌, ◌<◌, ◌≤◌, ◌+◌, ◌-◌, ◌==◌, ℕ, Bool, true, false, List, [], ◌∷◌, ◌++◌, length, Some, refl, sym, subst, ◌∙◌, ap, inl, inr, arith, append_assoc, if◌then◌else◌}
use Rattle.std.proofs.lemmas.List.{append-nil, length-append}
use Rattle.codestream_model.specs.Values.{Head, Place, Block}
use Rattle.codestream_model.specs.Packet.{Content, segment_bytes, SpellsPacket}
use Rattle.scl_outside.specs.Meaning.{Meaning}
use Rattle.scl_outside.specs.Events.{Event}
use Rattle.scl_outside.specs.Effects.{effects}
use Rattle.codestream_walk.specs.Walking.{Stage, AtStart, AtNext, InBody, Walking, Seen, fed, stage_after, passing, in_body, ShowsHeadAt, ShowsHead, RefusesIn}
use Rattle.codestream_model.specs.Codestream.{WalkRefusal}
use Rattle.codestream_walk.specs.Items.{RefusesHeadItem}
use Rattle.codestream_walk.specs.Walks.{Walked, BeginsNext, GivesPacket, GivesEnd, RefusesItem}
use Rattle.codestream_walk.specs.Reading.{Steps}
use Rattle.codestream_walk.specs.declared.fault.PieceOut.TheVariants as piece
use Rattle.codestream_walk.specs.WalkSteps.{Walks}
use Rattle.codestream_walk.specs.declared.walk.WalkOut.TheVariants as out
use Rattle.codestream_walk.proofs.Inside.{InPacket, Inside, Between, Behind, Within, SoFar, Added, added, fixes_item}

-- the parts of stages
next_parts : (h g : Head) (later others : List Place) (m n : ℕ) → AtNext h later m ≡ AtNext g others n → (h ≡ g) × (later ≡ others) × (m ≡ n)
next_parts h g later others m n e = (cc, cc, cc)

next_same : (w : Walking) (h g : Head) (later others : List Place) (m n : ℕ) (given : List ℕ) → AtNext h later m ≡ AtNext g others n → BeginsNext w h later m given → BeginsNext w g others n given
next_same w h g later others m n given e b =
    let k = next_parts h g later others m n e in
    let P : Head → Type 0 = λ x. BeginsNext w x later m given in
    let Q : List Place → Type 0 = λ x. BeginsNext w g x m given in
    let R : ℕ → Type 0 = λ x. BeginsNext w g others x given in
    subst R k.2 (subst Q k.1 (subst P k.0 b))

-- where a packet or EOC is next
at_next : (w : Walking) (given : List ℕ) (stage : Stage) (body : List ℕ) (h : Head) (later : List Place) (size : ℕ) → Inside w given stage body → stage ≡ AtNext h later size → BeginsNext w h later size given
at_next w given stage body h later size (Between here start none) e = absurd (let f : AtStart ≡ AtNext h later size = sym here ∙ e in cc)
at_next w given stage body h later size (Behind g others n next here) e = next_same w g h others later n size given (sym here ∙ e) next
at_next w given stage body h later size (Within k) e = absurd (let f : InBody k.head k.place k.blocks k.later (k.size + length (k.front ++ body)) k.left ≡ AtNext h later size = sym k.is ∙ e in cc)

-- where a codestream may begin
at_start : (w : Walking) (given : List ℕ) (stage : Stage) (body : List ℕ) → Inside w given stage body → stage ≡ AtStart → (w.stage ≡ AtStart) × (given ≡ [])
at_start w given stage body (Between here start none) e = (start, none)
at_start w given stage body (Behind g others n next here) e = absurd (let f : AtNext g others n ≡ AtStart = sym here ∙ e in cc)
at_start w given stage body (Within k) e = absurd (let f : InBody k.head k.place k.blocks k.later (k.size + length (k.front ++ body)) k.left ≡ AtStart = sym k.is ∙ e in cc)

some_left : (k : ℕ) → (k == 0) ≡ false → 1 ≤ k
some_left k f = grind arith

none_left : (k : ℕ) → (k == 0) ≡ true → k ≡ 0
none_left k f = grind arith

-- the stages after a part of a packet
pub open_by : (t : Bool) (h : Head) (p : Place) (bs : List Block) (later : List Place) (size left : ℕ) → (left == 0) ≡ t → in_body (if t then AtNext h later size else InBody h p bs later size left) ≡ true
    → (1 ≤ left) × ((if t then AtNext h later size else InBody h p bs later size left) ≡ InBody h p bs later size left)
open_by true h p bs later size left e f = absurd (cc)
open_by false h p bs later size left e f = (some_left left e, refl)

closed_by : (t : Bool) (h : Head) (p : Place) (bs : List Block) (later : List Place) (size left : ℕ) → (left == 0) ≡ t → in_body (if t then AtNext h later size else InBody h p bs later size left) ≡ false
    → (left ≡ 0) × ((if t then AtNext h later size else InBody h p bs later size left) ≡ AtNext h later size)
closed_by true h p bs later size left e f = (none_left left e, refl)
closed_by false h p bs later size left e f = absurd (cc)

-- a walk goes on
moved : (s r : Meaning) (w x y : Walking) (given bytes front rest : List ℕ) (stage : Stage) (body : List ℕ) (es : List Event) → Added s r w x given bytes es → x.hand ≡ front ++ rest → x.offset ≡ w.offset + length given → x.codestreams ≡ w.codestreams
    → y ≡ passing x front rest stage → Inside w (given ++ front) stage body → SoFar s r w y body es
moved s r w x y given bytes front rest stage body es a whole offset count now inside =
    let P : Walking → Type 0 = λ z. SoFar s r w z body es in
    subst P (sym now) (record {
      trace = a.trace;
      within = a.within;
      bytes = bytes;
      given = given ++ front;
      reads = a.reads;
      are_bytes = a.are_bytes;
      hand = a.hand ∙ (ap (λ (l : List ℕ). given ++ l) whole ∙ sym (append_assoc given front rest));
      offset = omega (arith, offset, length-append given front);
      count = count;
      inside = inside;
    })

-- after a main header
pub head_goes : (s t r : Meaning) (w : Walking) (u y : Seen) (body : List ℕ) (es fs : List Event) → SoFar s t w u.walk body es → Steps u t r piece.Head y fs → SoFar s r w y.walk body (es ++ fs)
head_goes s t r w u y body es fs p k =
    let f = k.gives in
    let g = f.gives in
    let a = added s t r w u body es fs p k.trace k.within f.reads f.are_bytes in
    let here = at_start w p.given u.walk.stage body p.inside g.stage in
    let few : w.codestreams < 65536 = omega (arith, g.few, p.count) in
    let P : List ℕ → Type 0 = λ l. BeginsNext w g.head g.order (length g.front) (l ++ g.front) in
    moved s r w (fed u.walk (effects fs).read) y.walk p.given (p.bytes ++ (effects fs).read) g.front g.rest (AtNext g.head g.order (length g.front)) body (es ++ fs) a g.whole p.offset p.count g.now
    (Behind g.head g.order (length g.front) (subst P (sym here.1) (inr (here.0, few, g.is_head, g.is_order, refl))) refl)

-- after a packet's header, of whose segments more is to come
pub start_goes : (s t r : Meaning) (w : Walking) (u y : Seen) (body : List ℕ) (es fs : List Event) → SoFar s t w u.walk body es → Steps u t r piece.Start y fs → in_body y.walk.stage ≡ true → SoFar s r w y.walk [] (es ++ fs)
start_goes s t r w u y body es fs p k more =
    let f = k.gives in
    let g = f.gives in
    let a = added s t r w u body es fs p k.trace k.within f.reads f.are_bytes in
    let next = at_next w p.given u.walk.stage body g.head (g.place ∷ g.later) g.size p.inside g.stage in
    let stage = stage_after g.head g.place g.blocks g.later (g.size + length g.front) (segment_bytes g.blocks) in
    let o = open_by (segment_bytes g.blocks == 0) g.head g.place g.blocks g.later (g.size + length g.front) (segment_bytes g.blocks) refl (sym (ap (λ (x : Walking). in_body x.stage) g.now) ∙ more) in
    let all : g.front ++ [] ≡ g.front = append-nil g.front in
    moved s r w (fed u.walk (effects fs).read) y.walk p.given (p.bytes ++ (effects fs).read) g.front g.rest stage [] (es ++ fs) a g.begins.whole p.offset p.count g.now
    (Within (record {
      head = g.head;
      place = g.place;
      blocks = g.blocks;
      later = g.later;
      size = g.size;
      left = segment_bytes g.blocks;
      header = p.given;
      front = g.front;
      next = next;
      is_precinct = g.is_precinct;
      is = o.1 ∙ ap (λ (l : List ℕ). InBody g.head g.place g.blocks g.later (g.size + length l) (segment_bytes g.blocks)) (sym all);
      few_blocks = g.begins.few_blocks;
      is_header = g.begins.is_header;
      some = o.0;
      segments = omega arith;
      fits = g.fits;
      whole = ap (λ (l : List ℕ). p.given ++ l) (sym all);
    }))

-- the main header of the codestream is shown
head_shown : (y : Seen) (h : Head) (later : List Place) (size : ℕ) → ShowsHead y → y.walk.stage ≡ AtNext h later size → y.head ≡ Some h
head_shown y h later size shows e = let P : Stage → Type 0 = λ x. ShowsHeadAt x y.head in subst P e shows

-- a packet without segments
pub start_gives : (s t r : Meaning) (w : Walking) (u y : Seen) (v : Walked) (body : List ℕ) (es fs : List Event) → SoFar s t w u.walk body es → Steps u t r piece.Start y fs → in_body y.walk.stage ≡ false → ShowsHead y → v.walk ≡ y.walk → v.head ≡ y.head → v.place ≡ y.place → v.content ≡ record { blocks = y.blocks; bytes = [] }
    → Walks w s r out.Packet v (es ++ fs)
start_gives s t r w u y v body es fs p k none shows walk head place content =
    let f = k.gives in
    let g = f.gives in
    let a = added s t r w u body es fs p k.trace k.within f.reads f.are_bytes in
    let next = at_next w p.given u.walk.stage body g.head (g.place ∷ g.later) g.size p.inside g.stage in
    let o = closed_by (segment_bytes g.blocks == 0) g.head g.place g.blocks g.later (g.size + length g.front) (segment_bytes g.blocks) refl (sym (ap (λ (x : Walking). in_body x.stage) g.now) ∙ none) in
    let x : Content = record { blocks = g.blocks; bytes = [] } in
    let packet : SpellsPacket g.head g.place x g.front = record { header = g.front; few_blocks = g.begins.few_blocks; is_header = g.begins.is_header; segments = omega (arith, o.0); whole = sym (append-nil g.front); short = omega (arith, g.fits) } in
    let bytes = p.bytes ++ (effects fs).read in
    let place_is : u.walk.offset + length g.front ≡ w.offset + length (p.given ++ g.front) = omega (arith, p.offset, length-append p.given g.front) in
    record {
      trace = a.trace;
      within = a.within;
      gives = fixes_item (λ x. GivesPacket x v) s t r w u body es fs p a f.within (record {
        head = g.head;
        place = g.place;
        later = g.later;
        size = g.size;
        content = x;
        header = p.given;
        packet = g.front;
        rest = g.rest;
        next = next;
        is_packet = packet;
        is_precinct = g.is_precinct;
        whole = a.hand ∙ ap (λ (l : List ℕ). p.given ++ l) g.begins.whole;
        now = walk ∙ (g.now ∙ rw (o.1, place_is, p.count) refl);
        shown_head = head ∙ head_shown y g.head g.later (g.size + length g.front) shows (ap (λ (x : Walking). x.stage) g.now ∙ o.1);
        shown_place = place ∙ g.shown_place;
        shown_content = content ∙ ap (λ (l : List Block). record { blocks = l; bytes = [] }) g.shown_blocks;
      });
    }

-- in a packet
pub body_parts : (h g : Head) (p q : Place) (bs cs : List Block) (later others : List Place) (m n left more : ℕ) → InBody h p bs later m left ≡ InBody g q cs others n more → (h ≡ g) × (p ≡ q) × (bs ≡ cs) × (later ≡ others) × (m ≡ n) × (left ≡ more)
body_parts h g p q bs cs later others m n left more e = (cc, cc, cc, cc, cc, cc)

pub in_packet : (w : Walking) (given : List ℕ) (stage : Stage) (body : List ℕ) (h : Head) (p : Place) (bs : List Block) (later : List Place) (size left : ℕ) → Inside w given stage body → stage ≡ InBody h p bs later size left → InPacket w given stage body
in_packet w given stage body h p bs later size left (Between here start none) e = absurd (let f : AtStart ≡ InBody h p bs later size left = sym here ∙ e in cc)
in_packet w given stage body h p bs later size left (Behind g others n next here) e = absurd (let f : AtNext g others n ≡ InBody h p bs later size left = sym here ∙ e in cc)
in_packet w given stage body h p bs later size left (Within k) e = k

-- after more of a packet's segments
pub more_goes : (s t r : Meaning) (w : Walking) (u y : Seen) (body : List ℕ) (es fs : List Event) → SoFar s t w u.walk body es → Steps u t r piece.More y fs → in_body y.walk.stage ≡ true → SoFar s r w y.walk (body ++ y.given) (es ++ fs)
more_goes s t r w u y body es fs p k more =
    let f = k.gives in
    let g = f.gives in
    let a = added s t r w u body es fs p k.trace k.within f.reads f.are_bytes in
    let n = in_packet w p.given u.walk.stage body g.head g.place g.blocks g.later g.size g.left p.inside g.stage in
    let e = body_parts n.head g.head n.place g.place n.blocks g.blocks n.later g.later (n.size + length (n.front ++ body)) g.size n.left g.left (sym n.is ∙ g.stage) in
    let left = g.left - length g.front in
    let stage = stage_after g.head g.place g.blocks g.later (g.size + length g.front) left in
    let o = open_by (left == 0) g.head g.place g.blocks g.later (g.size + length g.front) left refl (sym (ap (λ (x : Walking). in_body x.stage) g.now) ∙ more) in
    let size : n.size + length (n.front ++ (body ++ g.front)) ≡ g.size + length g.front = omega (arith, e.4, length-append n.front body, length-append n.front (body ++ g.front), length-append body g.front) in
    let P : List ℕ → Type 0 = λ l. SoFar s r w y.walk (body ++ l) (es ++ fs) in
    subst P (sym g.given) (moved s r w (fed u.walk (effects fs).read) y.walk p.given (p.bytes ++ (effects fs).read) g.front g.rest stage (body ++ g.front) (es ++ fs) a g.whole p.offset p.count g.now
    (Within (record {
      head = n.head;
      place = n.place;
      blocks = n.blocks;
      later = n.later;
      size = n.size;
      left = left;
      header = n.header;
      front = n.front;
      next = n.next;
      is_precinct = n.is_precinct;
      is = o.1 ∙ rw (e.0, e.1, e.2, e.3, size) refl;
      few_blocks = n.few_blocks;
      is_header = n.is_header;
      some = o.0;
      segments = omega (arith, n.segments, e.5, g.within, length-append body g.front);
      fits = n.fits;
      whole = ap (λ (l : List ℕ). l ++ g.front) n.whole ∙ (append_assoc n.header (n.front ++ body) g.front ∙ ap (λ (l : List ℕ). n.header ++ l) (append_assoc n.front body g.front));
    })))

-- the last of them
pub more_gives : (s t r : Meaning) (w : Walking) (u y : Seen) (v : Walked) (body : List ℕ) (es fs : List Event) → SoFar s t w u.walk body es → Steps u t r piece.More y fs → in_body y.walk.stage ≡ false → ShowsHead y → v.walk ≡ y.walk → v.head ≡ y.head → v.place ≡ y.place → v.content ≡ record { blocks = y.blocks; bytes = body ++ y.given }
    → Walks w s r out.Packet v (es ++ fs)
more_gives s t r w u y v body es fs p k none shows walk head place content =
    let f = k.gives in
    let g = f.gives in
    let a = added s t r w u body es fs p k.trace k.within f.reads f.are_bytes in
    let n = in_packet w p.given u.walk.stage body g.head g.place g.blocks g.later g.size g.left p.inside g.stage in
    let e = body_parts n.head g.head n.place g.place n.blocks g.blocks n.later g.later (n.size + length (n.front ++ body)) g.size n.left g.left (sym n.is ∙ g.stage) in
    let left = g.left - length g.front in
    let o = closed_by (left == 0) g.head g.place g.blocks g.later (g.size + length g.front) left refl (sym (ap (λ (x : Walking). in_body x.stage) g.now) ∙ none) in
    let x : Content = record { blocks = n.blocks; bytes = body ++ g.front } in
    let packet = n.front ++ (body ++ g.front) in
    let size : n.size + length packet ≡ g.size + length g.front = omega (arith, e.4, length-append n.front body, length-append n.front (body ++ g.front), length-append body g.front) in
    let segments : length (body ++ g.front) ≡ segment_bytes n.blocks = omega (arith, n.segments, e.5, g.within, o.0, length-append body g.front) in
    let spells : SpellsPacket n.head n.place x packet = record { header = n.front; few_blocks = n.few_blocks; is_header = n.is_header; segments = segments; whole = refl; short = omega (arith, n.fits, segments, length-append n.front (body ++ g.front)) } in
    let given : p.given ++ g.front ≡ n.header ++ packet = ap (λ (l : List ℕ). l ++ g.front) n.whole ∙ (append_assoc n.header (n.front ++ body) g.front ∙ ap (λ (l : List ℕ). n.header ++ l) (append_assoc n.front body g.front)) in
    let place_is : u.walk.offset + length g.front ≡ w.offset + length (n.header ++ packet) = omega (arith, p.offset, length-append p.given g.front, ap length given) in
    record {
      trace = a.trace;
      within = a.within;
      gives = fixes_item (λ x. GivesPacket x v) s t r w u body es fs p a f.within (record {
        head = n.head;
        place = n.place;
        later = n.later;
        size = n.size;
        content = x;
        header = n.header;
        packet = packet;
        rest = g.rest;
        next = n.next;
        is_packet = spells;
        is_precinct = n.is_precinct;
        whole = a.hand ∙ (ap (λ (l : List ℕ). p.given ++ l) g.whole ∙ (sym (append_assoc p.given g.front g.rest) ∙ (ap (λ (l : List ℕ). l ++ g.rest) given ∙ append_assoc n.header packet g.rest)));
        now = walk ∙ (g.now ∙ rw (o.1, place_is, p.count, e.0, e.3, size) refl);
        shown_head = head ∙ (head_shown y g.head g.later (g.size + length g.front) shows (ap (λ (x : Walking). x.stage) g.now ∙ o.1) ∙ ap (λ (h : Head). Some h) (sym e.0));
        shown_place = place ∙ (g.shown_place ∙ sym e.1);
        shown_content = content ∙ (ap (λ (l : List Block). record { blocks = l; bytes = body ++ y.given }) (g.shown_blocks ∙ sym e.2) ∙ ap (λ (l : List ℕ). record { blocks = n.blocks; bytes = body ++ l }) g.given);
      });
    }

-- EOC
pub eoc_gives : (s t r : Meaning) (w : Walking) (u y : Seen) (v : Walked) (body : List ℕ) (es fs : List Event) → SoFar s t w u.walk body es → Steps u t r piece.FrameEnd y fs → v.walk ≡ y.walk → Walks w s r out.FrameEnd v (es ++ fs)
eoc_gives s t r w u y v body es fs p k walk =
    let f = k.gives in
    let g = f.gives in
    let a = added s t r w u body es fs p k.trace k.within f.reads f.are_bytes in
    let next = at_next w p.given u.walk.stage body g.head [] g.size p.inside g.stage in
    let eoc : List ℕ = 255 ∷ 217 ∷ [] in
    let place_is : u.walk.offset + length eoc ≡ w.offset + length (p.given ++ eoc) = omega (arith, p.offset, length-append p.given eoc) in
    record {
      trace = a.trace;
      within = a.within;
      gives = fixes_item (λ x. GivesEnd x v) s t r w u body es fs p a f.within (record {
        head = g.head;
        size = g.size;
        header = p.given;
        rest = g.rest;
        next = next;
        psot = g.psot;
        whole = a.hand ∙ ap (λ (l : List ℕ). p.given ++ l) g.whole;
        now = walk ∙ (g.now ∙ rw (place_is, p.count) refl);
      });
    }

-- refusals
differ : (h : Head) (later : List Place) (size : ℕ) → AtNext h later size ≡ AtStart → ⊥
differ h later size e = cc

pub inside_refuses : (w : Walking) (given hand all : List ℕ) (stage : Stage) (codestreams : ℕ) (body : List ℕ) (inside at : ℕ) (why : WalkRefusal) → Inside w given stage body → all ≡ given ++ hand → codestreams ≡ w.codestreams → at ≡ w.offset + length given + inside
    → RefusesIn stage codestreams hand inside why → RefusesItem (record w { hand = all }) at why
inside_refuses w given hand all stage codestreams body inside at why (Between here start none) whole count place r =
    let P : Stage → Type 0 = λ t. RefusesIn t codestreams hand inside why in
    let same : hand ≡ all = sym (whole ∙ ap (λ (l : List ℕ). l ++ hand) none) in
    let k = subst P here r in
    let some : 1 ≤ length all = omega (arith, k.0, ap length same) in
    let Q : List ℕ → Type 0 = λ l. RefusesHeadItem l inside why in
    elim k.1 [
      | inl full ↦ inl (record { start = start; some = some; full = omega (arith, count, full.0); place = omega (arith, place, full.1, ap length none); is = full.2 })
      | inr item ↦ inr (inl (record { inside = inside; start = start; some = some; few = omega (arith, count, item.0); refused = subst Q same item.1; place = omega (arith, place, ap length none) }))
    ]
inside_refuses w given hand all stage codestreams body inside at why (Behind h [] size next here) whole count place r =
    let P : Stage → Type 0 = λ t. RefusesIn t codestreams hand inside why in
    let k = subst P here r in
    inr (inr (record { head = h; later = []; size = size; header = given; rest = hand; next = next; whole = whole; refused = k.0; place = omega (arith, place, k.1) }))
inside_refuses w given hand all stage codestreams body inside at why (Behind h (p ∷ later) size next here) whole count place r =
    let P : Stage → Type 0 = λ t. RefusesIn t codestreams hand inside why in
    let k = subst P here r in
    inr (inr (record { head = h; later = p ∷ later; size = size; header = given; rest = hand; next = next; whole = whole; refused = k.0; place = omega (arith, place, k.1) }))
inside_refuses w given hand all stage codestreams body inside at why (Within n) whole count place r =
    let P : Stage → Type 0 = λ t. RefusesIn t codestreams hand inside why in
    absurd (subst P n.is r)
