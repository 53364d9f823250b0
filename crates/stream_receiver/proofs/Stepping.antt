-- One precinct of what is left.
use Rattle.std.proofs.Common.{◌≡◌, ◌<◌, ◌++◌, ℕ, Bool, true, false, List, [], ◌∷◌, Option, Some, None, refl, sym, ◌∙◌, ap, subst}
use Rattle.wire_model.specs.Datagram.{Datagram}
use Rattle.stream_model.specs.Decoder as rules_decoder
use Rattle.stream_model.specs.Decoder.{Release, settled, with_release, Settled, take_gap}
use Rattle.stream_model.specs.Receiver as rules
use Rattle.stream_model.specs.Receiver.{followed, decoded, drain}
use Rattle.stream_model.specs.ReceiverJoins.{having_given}
use Rattle.stream_model.specs.Window.{Window, Next, Hand, Gap, Nothing, next}
use Rattle.stream_model.specs.DrainLaws.{IsWindow, weight, DrainsAs, FallsAs}
use Rattle.stream_model.proofs.ReceiverJoins.{drain_join}
use Rattle.stream_model.proofs.Drains.{next_is_drained}
use Rattle.resync_decoder.specs.States as decoder
use Rattle.stream_receiver.specs.States.{ReceiverState, followed_by, rest, Gave, Settles, Advances}

-- what was given is given of all that is left
gave_drained : (r left : rules.Receiver) (o : Option Release) → Gave r o left → Gave (drain r) o (drain left)
gave_drained r left None g = absurd g
gave_drained r left (Some x) g = ap drain g ∙ drain_join (x ∷ []) left

pub step_ready : (first s t : ReceiverState) → rest first ≡ rest s → Settles s true t → Gave (rest first) t.given (rest t)
step_ready first s t so g =
    let P : rules.Receiver → Type 0 = λ r. Gave r t.given (rest t) in
    subst P (sym so) (gave_drained (followed_by s.settled s.rules) (followed_by t.settled t.rules) t.given g)

-- the window as it was
window_of : (b : Bool) (r : rules.Receiver) → (followed_by b r).window ≡ r.window
window_of true r = refl
window_of false r = refl

rest_is : (s t : ReceiverState) → Settles s false t → rest s ≡ drain t.rules
rest_is s t g = ap drain g.0

idle_by : (t u : ReceiverState) (v : Next Datagram) → DrainsAs t.rules v → Advances v t false u → (drain t.rules ≡ u.rules) × (u.settled ≡ true) × (u.rules.window.due ≡ 0)
idle_by t u (Hand x w) d a = absurd a
idle_by t u (Gap n w) d a = absurd a
idle_by t u Nothing d a = (d ∙ sym a.0, a.1, a.2)

pub step_idle : (size : ℕ) (first s t u : ReceiverState) → rest first ≡ rest s → Settles s false t → IsWindow size t.rules.window t.rules.window.base → Advances (next t.rules.window t.rules.window.base) t false u → (rest first ≡ u.rules) × (u.settled ≡ true) × (u.rules.window.due ≡ 0)
step_idle size first s t u so g near a =
    let f = idle_by t u (next t.rules.window t.rules.window.base) (next_is_drained size t.rules near).0 a in
    (so ∙ (rest_is s t g ∙ f.0), f.1, f.2)

moved_by : (size : ℕ) (t u : ReceiverState) (v : Next Datagram) → DrainsAs t.rules v → FallsAs size (weight t.rules.window) v → Advances v t true u → (drain t.rules ≡ rest u) × (weight u.rules.window < weight t.rules.window)
moved_by size t u (Hand x w) d f a =
    let R : rules.Receiver = record t.rules { window = w; decoder = decoded t.rules.decoder x x.payload } in
    let P : Bool → Type 0 = λ b. drain t.rules ≡ drain (followed_by b u.rules) in
    let Q : rules.Receiver → Type 0 = λ r. drain t.rules ≡ drain (followed_by false r) in
    let W : rules.Receiver → Type 0 = λ r. weight r.window < weight t.rules.window in
    (subst P (sym a.1) (subst Q (sym a.0) d), subst W (sym a.0) f.0)
moved_by size t u (Gap n w) d f a =
    let P : Bool → Type 0 = λ b. drain t.rules ≡ drain (followed_by b u.rules) in
    let Q : rules.Receiver → Type 0 = λ r. drain t.rules ≡ drain (followed_by true r) in
    let W : rules.Receiver → Type 0 = λ r. weight r.window < weight t.rules.window in
    (subst P (sym a.1) (subst Q (sym a.0) d), subst W (sym a.0) f.0)
moved_by size t u Nothing d f a = absurd a

pub step_moved : (size : ℕ) (first s t u : ReceiverState) → rest first ≡ rest s → Settles s false t → IsWindow size t.rules.window t.rules.window.base → Advances (next t.rules.window t.rules.window.base) t true u
    → (rest first ≡ rest u) × (weight u.rules.window < weight s.rules.window)
step_moved size first s t u so g near a =
    let law = next_is_drained size t.rules near in
    let f = moved_by size t u (next t.rules.window t.rules.window.base) law.0 law.1 a in
    let same : s.rules.window ≡ t.rules.window = sym (window_of s.settled s.rules) ∙ ap (λ (r : rules.Receiver). r.window) g.0 in
    let W : Window Datagram → Type 0 = λ w. weight u.rules.window < weight w in
    (so ∙ (rest_is s t g ∙ f.0), subst W (sym same) f.1)

-- the decoder's rules give a precinct, or wait
gives_by : (r : rules.Receiver) (d : rules_decoder.Decoder) (o : Option Release) (s : decoder.DecoderState) → r.releases ≡ [] → decoder.Gives d o s → Gave (followed r d) o (followed r s.rules)
gives_by r d None s fresh g = absurd g
gives_by r d (Some x) s fresh g =
    ap (λ (k : Settled). record r { decoder = k.decoder; releases = r.releases ++ k.releases }) g
    ∙ ap (λ l. record r { decoder = (settled s.rules).decoder; releases = l }) (grown r.releases fresh x (settled s.rules).releases) where
      grown : (xs : List Release) → xs ≡ [] → (x : Release) (ys : List Release) → xs ++ (x ∷ ys) ≡ (x ∷ []) ++ (xs ++ ys)
      grown xs e x ys = rw e refl

pub settles_gave : (r : rules.Receiver) (b : Bool) (s : decoder.DecoderState) → b ≡ false → r.releases ≡ [] → decoder.Steps r.decoder true s → Gave (followed_by b r) s.given (followed_by b (record r { decoder = s.rules }))
settles_gave r true s e fresh g = absurd (cc)
settles_gave r false s e fresh g = gives_by r r.decoder s.given s fresh g

pub settles_waits : (r : rules.Receiver) (b : Bool) (s : decoder.DecoderState) → b ≡ false → r.releases ≡ [] → decoder.Steps r.decoder false s → followed_by b r ≡ record r { decoder = s.rules }
settles_waits r true s e fresh g = absurd (cc)
settles_waits r false s e fresh g =
    ap (λ (k : Settled). record r { decoder = k.decoder; releases = r.releases ++ k.releases }) g.0
    ∙ ap (λ l. record r { decoder = s.rules; releases = l }) (grown r.releases fresh) where
      grown : (xs : List Release) → xs ≡ [] → xs ++ [] ≡ xs
      grown xs e = rw e refl
