-- The tale of a sender is told datagram by datagram.
use Rattle.std.proofs.Common.{Bool, if◌then◌else◌, inl, inr, ◌≡◌, ◌<◌, ◌≤◌, ◌+◌, ◌++◌, ℕ, zero, suc, false, List, [], ◌∷◌, length, replicate, nat_lt, refl, sym, ◌∙◌, ap, arith, append_assoc}
use Rattle.std.proofs.lemmas.Bool.{cases_lt, lt-ltb, lt-leb}
use Rattle.std.proofs.lemmas.List.{append-nil, length-append}
use Rattle.wire_model.specs.LinkAnswers.{LinkAnswer, Sent, NotReady, Failed}
use Rattle.relay_model.specs.Queue.{Tale, untold, send_tale}
use Rattle.sender_model.specs.Sending.{Takes, HasTaken}
use Rattle.sender_model.specs.SendingLaws.{DatagramIsTold, SendingIsTold, EachIsCounted, SentOnlyGrows}

-- a link that isn't ready, as it may not be any more often,
waits : (idle waited : ℕ) (t : Tale) (d : List ℕ) (later : List (List ℕ)) (more : List LinkAnswer) → waited + 1 < idle → send_tale idle waited t (d ∷ later) (NotReady ∷ more) ≡ send_tale idle (waited + 1) t (d ∷ later) more
unfolding send_tale
waits idle waited t d later more less =
    ap (λ (b : Bool). if b then send_tale idle (waited + 1) t (d ∷ later) more else send_tale idle 0 (record t { lost = t.lost + 1 }) later more) (lt-ltb (waited + 1) idle less)

-- or too often
gives_up : (idle waited : ℕ) (t : Tale) (d : List ℕ) (later : List (List ℕ)) (more : List LinkAnswer) → idle ≤ waited + 1 → send_tale idle waited t (d ∷ later) (NotReady ∷ more) ≡ send_tale idle 0 (record t { lost = t.lost + 1 }) later more
unfolding send_tale
gives_up idle waited t d later more most =
    let e : nat_lt (waited + 1) idle ≡ false = lt-leb (suc (waited + 1)) idle (omega arith) in
    ap (λ (b : Bool). if b then send_tale idle (waited + 1) t (d ∷ later) more else send_tale idle 0 (record t { lost = t.lost + 1 }) later more) e

-- waiting for some answers
waits_long : (n idle waited : ℕ) (t : Tale) (d : List ℕ) (later : List (List ℕ)) (more : List LinkAnswer) → waited + n < idle → send_tale idle waited t (d ∷ later) (replicate n NotReady ++ more) ≡ send_tale idle (waited + n) t (d ∷ later) more
waits_long zero idle waited t d later more less = ap (λ (w : ℕ). send_tale idle w t (d ∷ later) more) (let e : waited ≡ waited + 0 = omega arith in e)
waits_long (suc n) idle waited t d later more less =
    waits idle waited t d later (replicate n NotReady ++ more) (omega arith)
    ∙ (waits_long n idle (waited + 1) t d later more (omega arith) ∙ ap (λ (w : ℕ). send_tale idle w t (d ∷ later) more) (let e : (waited + 1) + n ≡ waited + suc n = omega arith in e))

-- a datagram that goes out,
sent : (idle n : ℕ) (t : Tale) (d : List ℕ) → n < idle → Takes idle t d (replicate n NotReady ++ Sent ∷ []) (record t { sent = t.sent ++ d ∷ [] })
unfolding send_tale
sent idle n t d less = record {
  told = λ later more. ap (send_tale idle 0 t (d ∷ later)) (append_assoc (replicate n NotReady) (Sent ∷ []) more) ∙ waits_long n idle 0 t d later (Sent ∷ more) (omega (arith, less));
  left = refl;
}

-- one that fails,
failed : (idle n : ℕ) (t : Tale) (d : List ℕ) → n < idle → Takes idle t d (replicate n NotReady ++ Failed ∷ []) (record t { failed = t.failed + 1 })
unfolding send_tale
failed idle n t d less = record {
  told = λ later more. ap (send_tale idle 0 t (d ∷ later)) (append_assoc (replicate n NotReady) (Failed ∷ []) more) ∙ waits_long n idle 0 t d later (Failed ∷ more) (omega (arith, less));
  left = refl;
}

-- the last of several equal answers
last_not_ready : (n : ℕ) (more : List LinkAnswer) → replicate (suc n) NotReady ++ more ≡ replicate n NotReady ++ NotReady ∷ more
last_not_ready zero more = refl
last_not_ready (suc n) more = ap (λ (l : List LinkAnswer). NotReady ∷ l) (last_not_ready n more)

-- and one that is lost
lost : (idle : ℕ) (t : Tale) (d : List ℕ) → 1 ≤ idle → Takes idle t d (replicate idle NotReady) (record t { lost = t.lost + 1 })
lost zero t d some = absurd (omega arith)
lost (suc n) t d some = record {
  told = λ later more.
      ap (send_tale (suc n) 0 t (d ∷ later)) (last_not_ready n more)
      ∙ (waits_long n (suc n) 0 t d later (NotReady ∷ more) (omega arith) ∙ gives_up (suc n) (0 + n) t d later more (omega arith));
  left = refl;
}

pub datagram_is_told : DatagramIsTold
datagram_is_told = record { sent = sent; failed = failed; lost = lost }

-- one datagram more
one_more : (idle : ℕ) (datagrams : List (List ℕ)) (answers new : List LinkAnswer) (t u : Tale) (d : List ℕ) → HasTaken idle datagrams answers t → Takes idle t d new u → HasTaken idle (datagrams ++ d ∷ []) (answers ++ new) u
one_more idle datagrams answers new t u d h k = record {
  told = λ later more.
      ap (λ (ds : List (List ℕ)). send_tale idle 0 untold ds ((answers ++ new) ++ more)) (append_assoc datagrams (d ∷ []) later)
      ∙ (ap (send_tale idle 0 untold (datagrams ++ d ∷ later)) (append_assoc answers new more)
      ∙ (h.told (d ∷ later) (new ++ more) ∙ k.told later more));
  left = k.left ∙ h.left;
}

-- all datagrams
all_told : (idle : ℕ) (datagrams : List (List ℕ)) (answers : List LinkAnswer) (t : Tale) → HasTaken idle datagrams answers t → send_tale idle 0 untold datagrams answers ≡ t
unfolding send_tale
all_told idle datagrams answers t h =
    sym (ap (λ (ds : List (List ℕ)). send_tale idle 0 untold ds (answers ++ [])) (append-nil datagrams) ∙ ap (send_tale idle 0 untold datagrams) (append-nil answers))
    ∙ (h.told [] [] ∙ ap (λ (l : List (List ℕ)). record t { left = l }) (sym h.left))

pub sending_is_told : SendingIsTold
sending_is_told = record { none = λ idle. record { told = λ later more. refl; left = refl }; more = one_more; whole = all_told }

-- the datagrams of a tale
total : Tale → ℕ
total t = length t.sent + t.lost + t.failed + length t.left

-- each is counted once
counted : (idle waited : ℕ) (t : Tale) (datagrams : List (List ℕ)) (answers : List LinkAnswer) → t.left ≡ [] → total (send_tale idle waited t datagrams answers) ≡ length t.sent + t.lost + t.failed + length datagrams
unfolding send_tale total
counted idle waited t [] answers none = refl
counted idle waited t (d ∷ datagrams) [] none = refl
counted idle waited t (d ∷ datagrams) (Sent ∷ answers) none = omega (arith, counted idle 0 (record t { sent = t.sent ++ d ∷ [] }) datagrams answers none, length-append t.sent (d ∷ []))
counted idle waited t (d ∷ datagrams) (Failed ∷ answers) none = omega (arith, counted idle 0 (record t { failed = t.failed + 1 }) datagrams answers none)
counted idle waited t (d ∷ datagrams) (NotReady ∷ answers) none = elim (cases_lt (waited + 1) idle) [
  | inl less ↦ ap total (waits idle waited t d datagrams answers less) ∙ counted idle (waited + 1) t (d ∷ datagrams) answers none
  | inr most ↦ ap total (gives_up idle waited t d datagrams answers most) ∙ omega (arith, counted idle 0 (record t { lost = t.lost + 1 }) datagrams answers none)
]

pub each_is_counted : EachIsCounted
unfolding total
each_is_counted idle datagrams answers = omega (arith, counted idle 0 untold datagrams answers refl)

-- a sender only adds to what was sent
adds : (idle waited : ℕ) (t : Tale) (datagrams : List (List ℕ)) (answers : List LinkAnswer) → (added : List (List ℕ)) × ((send_tale idle waited t datagrams answers).sent ≡ t.sent ++ added)
unfolding send_tale
adds idle waited t [] answers = ([], sym (append-nil t.sent))
adds idle waited t (d ∷ datagrams) [] = ([], sym (append-nil t.sent))
adds idle waited t (d ∷ datagrams) (Sent ∷ answers) =
    let r = adds idle 0 (record t { sent = t.sent ++ d ∷ [] }) datagrams answers in
    (d ∷ r.0, r.1 ∙ append_assoc t.sent (d ∷ []) r.0)
adds idle waited t (d ∷ datagrams) (Failed ∷ answers) = adds idle 0 (record t { failed = t.failed + 1 }) datagrams answers
adds idle waited t (d ∷ datagrams) (NotReady ∷ answers) = elim (cases_lt (waited + 1) idle) [
  | inl less ↦ let r = adds idle (waited + 1) t (d ∷ datagrams) answers in (r.0, ap (λ (u : Tale). u.sent) (waits idle waited t d datagrams answers less) ∙ r.1)
  | inr most ↦ let r = adds idle 0 (record t { lost = t.lost + 1 }) datagrams answers in (r.0, ap (λ (u : Tale). u.sent) (gives_up idle waited t d datagrams answers most) ∙ r.1)
]

-- so what was sent of the first datagrams is sent first
grows : (idle waited : ℕ) (t : Tale) (datagrams later : List (List ℕ)) (answers more : List LinkAnswer)
    → (added : List (List ℕ)) × ((send_tale idle waited t (datagrams ++ later) (answers ++ more)).sent ≡ (send_tale idle waited t datagrams answers).sent ++ added)
unfolding send_tale
grows idle waited t [] later answers more = adds idle waited t later (answers ++ more)
grows idle waited t (d ∷ datagrams) later [] more = adds idle waited t (d ∷ (datagrams ++ later)) more
grows idle waited t (d ∷ datagrams) later (Sent ∷ answers) more = grows idle 0 (record t { sent = t.sent ++ d ∷ [] }) datagrams later answers more
grows idle waited t (d ∷ datagrams) later (Failed ∷ answers) more = grows idle 0 (record t { failed = t.failed + 1 }) datagrams later answers more
grows idle waited t (d ∷ datagrams) later (NotReady ∷ answers) more = elim (cases_lt (waited + 1) idle) [
  | inl less ↦
      let r = grows idle (waited + 1) t (d ∷ datagrams) later answers more in
      (r.0, ap (λ (u : Tale). u.sent) (waits idle waited t d (datagrams ++ later) (answers ++ more) less) ∙ (r.1 ∙ ap (λ (u : Tale). u.sent ++ r.0) (sym (waits idle waited t d datagrams answers less))))
  | inr most ↦
      let r = grows idle 0 (record t { lost = t.lost + 1 }) datagrams later answers more in
      (r.0, ap (λ (u : Tale). u.sent) (gives_up idle waited t d (datagrams ++ later) (answers ++ more) most) ∙ (r.1 ∙ ap (λ (u : Tale). u.sent ++ r.0) (sym (gives_up idle waited t d datagrams answers most))))
]

pub sent_only_grows : SentOnlyGrows
sent_only_grows idle datagrams later answers more = grows idle 0 untold datagrams later answers more
