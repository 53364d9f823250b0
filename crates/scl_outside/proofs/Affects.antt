-- What a list of calls does to what is told.
use Rattle.std.proofs.Common.{◌≡◌, ◌≤◌, ℕ, List, [], ◌∷◌, ◌++◌, Bool, true, false, ◌||◌, Option, Some, None, refl, sym, ◌∙◌, ap, subst, append_assoc, arith}
use Rattle.std.proofs.lemmas.List.{append-nil}
use Rattle.wire_model.specs.Causes.{Grew, Fell}
use Rattle.scl_outside.specs.Meaning.{Meaning, Wire}
use Rattle.std.specs.Prelude.{MatchBool, IfSome}
use Rattle.scl_outside.specs.Events.{Event, WireEvent, Took, Ended, ReadFailed, Wrote, WriteFailed, Noted, OnWire, taken_by, written_by, noted_by, wire_by, is_end, read_fails, write_fails, wire_fails}
use Rattle.scl_outside.specs.Steps.{Step, Moves, Loses, Counts, KeepsWire, WireStep, WireTrace}
use Rattle.scl_outside.specs.Effects.{Effects, nothing, effect_of, and_then, effects, wire_failed}
use Rattle.scl_outside.specs.Traces.{Trace, Affects}

-- growth, one after another
pub grew_join : {A : Type 0} (a b c : Option (List A)) (xs ys : List A) → Grew a b xs → Grew b c ys → Grew a c (xs ++ ys)
grew_join a b None xs ys p q = tt
grew_join a None (Some z) xs ys p q = absurd q
grew_join None (Some y) (Some z) xs ys p q = absurd p
grew_join (Some x) (Some y) (Some z) xs ys p q = q ∙ ap (λ l. l ++ ys) p ∙ append_assoc x xs ys

pub grew_none : {A : Type 0} (a : Option (List A)) → Grew a a []
grew_none None = tt
grew_none (Some x) = sym (append-nil x)

pub grew_same : {A : Type 0} (a b : Option (List A)) → b ≡ a → Grew a b []
grew_same a b e = rw e (grew_none a)

pub fell_join : {A : Type 0} (a b c : Option (List A)) (xs ys : List A) → Fell a b xs → Fell b c ys → Fell a c (xs ++ ys)
fell_join a b None xs ys p q = tt
fell_join a None (Some z) xs ys p q = absurd q
fell_join None (Some y) (Some z) xs ys p q = absurd p
fell_join {A} (Some x) (Some y) (Some z) xs ys p q = p ∙ ap (λ (l : List A). xs ++ l) q ∙ sym (append_assoc xs ys z)

pub fell_none : {A : Type 0} (a : Option (List A)) → Fell a a []
fell_none None = tt
fell_none (Some x) = refl

pub fell_same : {A : Type 0} (a b : Option (List A)) → b ≡ a → Fell a b []
fell_same a b e = rw e (fell_none a)

-- the items of a list that a call may be about
abbrev pub items_of : {A : Type 0} → Option (List A) → List A
items_of None = []
items_of (Some items) = items

moved : {A : Type 0} (a b : Option (List A)) (o : Option (List A)) → Moves a b o → Grew a b (items_of o)
moved a b None p = grew_same a b p
moved a b (Some items) p = p

lost : {A : Type 0} (a b : Option (List A)) (o : Option (List A)) → Loses a b o → Fell a b (items_of o)
lost a b None p = fell_same a b p
lost a b (Some items) p = p

-- counts, one after another
pub counts_join : (a b : Bool) (x y z : ℕ) → Counts a x y → Counts b y z → Counts (a || b) x z
counts_join true true x y z p q = (omega arith, omega arith)
counts_join true false x y z p q = (omega arith, omega arith)
counts_join false true x y z p q = (omega arith, omega arith)
counts_join false false x y z p q = omega arith

counts_after : (f : Bool) (x y z : ℕ) → x ≤ y → Counts f y z → Counts f x z
counts_after true x y z p q = (omega arith, omega arith)
counts_after false x y z p q = omega arith

moves_after : {A : Type 0} (a b c : Option (List A)) (o : Option (List A)) → b ≡ a → Moves b c o → Moves a c o
moves_after {A} a b c o e h = let P : Option (List A) → Type 0 = λ x. Moves x c o in subst P e h

loses_after : {A : Type 0} (a b c : Option (List A)) (o : Option (List A)) → b ≡ a → Loses b c o → Loses a c o
loses_after {A} a b c o e h = let P : Option (List A) → Type 0 = λ x. Loses x c o in subst P e h

-- a wire that stays as it is
pub keeps_same : (a : Wire) → KeepsWire a a
keeps_same a = record {
  inbound = refl;
  received = refl;
  sent = refl;
  replies = refl;
  bound = refl;
  joined = refl;
  peers = refl;
  faults = omega arith;
  peer_faults = λ peer. omega arith;
}

pub keeps_join : (a b c : Wire) → KeepsWire a b → KeepsWire b c → KeepsWire a c
keeps_join a b c h k = record {
  inbound = k.inbound ∙ h.inbound;
  received = k.received ∙ h.received;
  sent = k.sent ∙ h.sent;
  replies = k.replies ∙ h.replies;
  bound = k.bound ∙ h.bound;
  joined = k.joined ∙ h.joined;
  peers = k.peers ∙ h.peers;
  faults = (let p = h.faults in let q = k.faults in omega arith);
  peer_faults = λ peer. (let p = h.peer_faults peer in let q = k.peer_faults peer in omega arith);
}

-- a call of the wire after others that aren't
keeps_step : (a b c : Wire) (w : WireEvent) → KeepsWire a b → WireStep b w c → WireStep a w c
keeps_step a b c w k h = record {
  inbound = loses_after a.inbound b.inbound c.inbound _ k.inbound h.inbound;
  received = moves_after a.received b.received c.received _ k.received h.received;
  sent = moves_after a.sent b.sent c.sent _ k.sent h.sent;
  replies = moves_after a.replies b.replies c.replies _ k.replies h.replies;
  bound = moves_after a.bound b.bound c.bound _ k.bound h.bound;
  joined = moves_after a.joined b.joined c.joined _ k.joined h.joined;
  peers = (let p = h.peers in let q = k.peers in omega arith);
  faults = counts_after _ a.faults b.faults c.faults k.faults h.faults;
  peer_faults = λ peer. counts_after _ (a.peer_faults peer) (b.peer_faults peer) (c.peer_faults peer) (k.peer_faults peer) (h.peer_faults peer);
}

pub wire_join : (a b c : Wire) (vs ws : List WireEvent) → WireTrace a vs b → WireTrace b ws c → WireTrace a (vs ++ ws) c
wire_join a b c [] [] k more = keeps_join a b c k more
wire_join a b c [] (w ∷ ws) k (m, step, rest) = (m, keeps_step a b m w k step, rest)
wire_join a b c (v ∷ vs) ws (m, step, rest) more = (m, step, wire_join m b c vs ws rest more)

-- the count of faults of the wire, over calls of it
pub wire_counts : (s t : Wire) (ws : List WireEvent) → WireTrace s ws t → Counts (wire_failed ws) s.faults t.faults
wire_counts s t [] k = k.faults
wire_counts s t (w ∷ ws) (m, step, rest) = counts_join (wire_fails w) (wire_failed ws) s.faults m.faults t.faults step.faults (wire_counts m t ws rest)

-- a call's effects are what the call is about
read_is : (e : Event) → items_of (taken_by e) ≡ (effect_of e).read
read_is (Took bytes) = refl
read_is Ended = refl
read_is ReadFailed = refl
read_is (Wrote bytes) = refl
read_is (WriteFailed bytes) = refl
read_is (Noted line) = refl
read_is (OnWire w) = refl

written_is : (e : Event) → items_of (written_by e) ≡ (effect_of e).written
written_is (Took bytes) = refl
written_is Ended = refl
written_is ReadFailed = refl
written_is (Wrote bytes) = refl
written_is (WriteFailed bytes) = refl
written_is (Noted line) = refl
written_is (OnWire w) = refl

noted_is : (e : Event) → items_of (noted_by e) ≡ (effect_of e).noted
noted_is (Took bytes) = refl
noted_is Ended = refl
noted_is ReadFailed = refl
noted_is (Wrote bytes) = refl
noted_is (WriteFailed bytes) = refl
noted_is (Noted line) = refl
noted_is (OnWire w) = refl

wire_is : (e : Event) → wire_by e ≡ (effect_of e).wire
wire_is (Took bytes) = refl
wire_is Ended = refl
wire_is ReadFailed = refl
wire_is (Wrote bytes) = refl
wire_is (WriteFailed bytes) = refl
wire_is (Noted line) = refl
wire_is (OnWire w) = refl

ended_is : (e : Event) → is_end e ≡ (effect_of e).ended
ended_is (Took bytes) = refl
ended_is Ended = refl
ended_is ReadFailed = refl
ended_is (Wrote bytes) = refl
ended_is (WriteFailed bytes) = refl
ended_is (Noted line) = refl
ended_is (OnWire w) = refl

-- an input that is over stays over
rest_none : (xs ys : List ℕ) → xs ++ ys ≡ [] → ys ≡ []
rest_none [] ys e = e
rest_none (x ∷ xs) ys e = absurd (cc)

over_join : (a b : Bool) (m u : Option (List ℕ)) (xs : List ℕ) → MatchBool a (IfSome m (λ rest. rest ≡ [])) (Unit {0}) → Fell m u xs → MatchBool b (IfSome u (λ rest. rest ≡ [])) (Unit {0}) → MatchBool (a || b) (IfSome u (λ rest. rest ≡ [])) (Unit {0})
over_join false b m u xs p f q = q
over_join true b m None xs p f q = tt
over_join true b None (Some z) xs p f q = absurd f
over_join true b (Some y) (Some z) xs p f q = rest_none xs z (sym f ∙ p)

read_fails_is : (e : Event) → read_fails e ≡ (effect_of e).read_failed
read_fails_is (Took bytes) = refl
read_fails_is Ended = refl
read_fails_is ReadFailed = refl
read_fails_is (Wrote bytes) = refl
read_fails_is (WriteFailed bytes) = refl
read_fails_is (Noted line) = refl
read_fails_is (OnWire w) = refl

write_fails_is : (e : Event) → write_fails e ≡ (effect_of e).write_failed
write_fails_is (Took bytes) = refl
write_fails_is Ended = refl
write_fails_is ReadFailed = refl
write_fails_is (Wrote bytes) = refl
write_fails_is (WriteFailed bytes) = refl
write_fails_is (Noted line) = refl
write_fails_is (OnWire w) = refl

-- one call affects what is told by its effects
pub step_affects : (s : Meaning) (e : Event) (t : Meaning) → Step s e t → Affects s (effect_of e) t
step_affects s e t step = record {
  read = rw (read_is e) at (moved s.read t.read (taken_by e) step.read);
  left = rw (read_is e) at (lost s.left t.left (taken_by e) step.left);
  over = rw (ended_is e) at step.over;
  written = rw (written_is e) at (moved s.written t.written (written_by e) step.written);
  noted = rw (noted_is e) at (moved s.noted t.noted (noted_by e) step.noted);
  wire = rw (wire_is e) at step.wire;
  read_faults = rw (read_fails_is e) at step.read_faults;
  write_faults = rw (write_fails_is e) at step.write_faults;
}

-- effects, one after another
pub affects_join : (s t u : Meaning) (f g : Effects) → Affects s f t → Affects t g u → Affects s (and_then f g) u
affects_join s t u f g a b = record {
  read = grew_join s.read t.read u.read f.read g.read a.read b.read;
  left = fell_join s.left t.left u.left f.read g.read a.left b.left;
  over = over_join f.ended g.ended t.left u.left g.read a.over b.left b.over;
  written = grew_join s.written t.written u.written f.written g.written a.written b.written;
  noted = grew_join s.noted t.noted u.noted f.noted g.noted a.noted b.noted;
  wire = wire_join s.wire t.wire u.wire f.wire g.wire a.wire b.wire;
  read_faults = counts_join f.read_failed g.read_failed s.read_faults t.read_faults u.read_faults a.read_faults b.read_faults;
  write_faults = counts_join f.write_failed g.write_failed s.write_faults t.write_faults u.write_faults a.write_faults b.write_faults;
}

pub affects_none : (s : Meaning) → Affects s nothing s
affects_none s = record {
  read = grew_none s.read;
  left = fell_none s.left;
  over = tt;
  written = grew_none s.written;
  noted = grew_none s.noted;
  wire = keeps_same s.wire;
  read_faults = omega arith;
  write_faults = omega arith;
}

-- a list of calls affects what is told by the effects of them all
pub trace_affects : (s t : Meaning) (es : List Event) → Trace s es t → Affects s (effects es) t
trace_affects s t [] e = let P : Meaning → Type 0 = λ x. Affects s nothing x in subst P (sym e) (affects_none s)
trace_affects s t (e ∷ es) (m, step, rest) = affects_join s m t (effect_of e) (effects es) (step_affects s e m step) (trace_affects m t es rest)
