-- Turns and flushes, one after another.
use Rattle.std.proofs.Common.{◌≡◌, ◌≢◌, ◌+◌, ◌++◌, ◌⊎◌, inl, inr, ℕ, zero, suc, List, [], ◌∷◌, Option, map, refl, sym, ◌∙◌, ap, subst, append_assoc, arith}
use Rattle.std.proofs.lemmas.List.{append-nil}
use Rattle.wire_model.specs.Receptions.{Reception}
use Rattle.wire_model.specs.LinkAnswers.{LinkAnswer, Sent, NotReady, Failed}
use Rattle.relay_model.specs.Queue.{Tale, Told, untold, poll, turn, turns, flushes}
use Rattle.relay_model.specs.Relays.{given_by, not_ready_count, ends_ready, flush_count, relay_tale, Turns, Flushes, HasTurned, HasFlushed}
use Rattle.relay_model.specs.Laws.{TurnsAreTold, FlushesAreTold}

-- a tale and the answers that follow
abbrev at : Tale → List LinkAnswer → Told
at t answers = record { tale = t; answers = answers }

turns-append : (limit depth : ℕ) (told : Told) (xs ys : List (Option (List ℕ))) → turns limit depth told (xs ++ ys) ≡ turns limit depth (turns limit depth told xs) ys
unfolding turns
turns-append limit depth told [] ys = refl
turns-append limit depth told (x ∷ xs) ys = turns-append limit depth (turn limit depth told x) xs ys

turns_none : (limit depth : ℕ) → HasTurned limit depth [] [] untold
unfolding turns
turns_none limit depth more = refl

turns_one : (limit depth : ℕ) (told : Told) (g : Option (List ℕ)) → turns limit depth told (g ∷ []) ≡ turn limit depth told g
unfolding turns
turns_one limit depth told g = refl

turns_more : (limit depth : ℕ) (given : List (Option (List ℕ))) (answers new : List LinkAnswer) (t u : Tale) (g : Option (List ℕ))
    → HasTurned limit depth given answers t → Turns limit depth t g new u → HasTurned limit depth (given ++ g ∷ []) (answers ++ new) u
turns_more limit depth given answers new t u g h k more =
    ap (λ (l : List LinkAnswer). turns limit depth (at untold l) (given ++ g ∷ [])) (append_assoc answers new more)
    ∙ turns-append limit depth (at untold (answers ++ (new ++ more))) given (g ∷ [])
    ∙ ap (λ (x : Told). turns limit depth x (g ∷ [])) (h (new ++ more))
    ∙ turns_one limit depth (at t (new ++ more)) g
    ∙ k more

pub turns_told : TurnsAreTold
turns_told = record { none = turns_none; more = turns_more }

-- one more flush at the end
abbrev flush_one : Told → Told
flush_one told = poll told.tale told.tale.left told.answers

flushes-suc : (n : ℕ) (told : Told) → flushes told (suc n) ≡ flush_one (flushes told n)
unfolding flushes
flushes-suc zero told = refl
flushes-suc (suc n) told = flushes-suc n (flush_one told)

flushes_none : (t : Tale) → HasFlushed t [] t
unfolding flushes
flushes_none t = record { told = λ more. refl; ends = λ e. absurd (cc) }

not_ready-append : (xs ys : List LinkAnswer) → not_ready_count (xs ++ ys) ≡ not_ready_count xs + not_ready_count ys
not_ready-append [] ys = omega arith
not_ready-append (NotReady ∷ xs) ys = omega (arith, not_ready-append xs ys)
not_ready-append (Sent ∷ xs) ys = not_ready-append xs ys
not_ready-append (Failed ∷ xs) ys = not_ready-append xs ys

ends-append : (xs : List LinkAnswer) (y : LinkAnswer) (ys : List LinkAnswer) → ends_ready (xs ++ y ∷ ys) ≡ ends_ready (y ∷ ys)
ends-append [] y ys = refl
ends-append (x ∷ []) y ys = ends_behind x y ys where
  ends_behind : (x y : LinkAnswer) (ys : List LinkAnswer) → ends_ready (x ∷ y ∷ ys) ≡ ends_ready (y ∷ ys)
  ends_behind NotReady y ys = refl
  ends_behind Sent y ys = refl
  ends_behind Failed y ys = refl
ends-append (x ∷ z ∷ xs) y ys = ends_behind x z (xs ++ y ∷ ys) ∙ ends-append (z ∷ xs) y ys where
  ends_behind : (x y : LinkAnswer) (ys : List LinkAnswer) → ends_ready (x ∷ y ∷ ys) ≡ ends_ready (y ∷ ys)
  ends_behind NotReady y ys = refl
  ends_behind Sent y ys = refl
  ends_behind Failed y ys = refl

-- what a flush of a queue that isn't empty took: its last answer alone may be that the link wasn't ready, and else the queue is empty
record OneFlush (answers : List LinkAnswer) (u : Tale) : Type 0 where
  some : answers ≢ []
  count : flush_count answers ≡ 1
  ends : ends_ready answers ≡ 1 → u.left ≡ []

abbrev answers_of : Told → List LinkAnswer
answers_of told = told.answers

abbrev left_of : Told → List (List ℕ)
left_of told = told.tale.left

-- an answer before others that is taken and leaves the queue longer than empty
one_before : (a : LinkAnswer) (answers : List LinkAnswer) (u : Tale) → not_ready_count (a ∷ answers) ≡ not_ready_count answers → ((b : LinkAnswer) (bs : List LinkAnswer) → ends_ready (a ∷ b ∷ bs) ≡ ends_ready (b ∷ bs)) → OneFlush answers u → OneFlush (a ∷ answers) u
one_before a [] u e behind one = absurd (one.some refl)
one_before a (b ∷ bs) u e behind one = record {
  some = λ h. absurd (cc);
  count = rw (e, behind b bs) one.count;
  ends = λ h. one.ends (sym (behind b bs) ∙ h);
}

one_flush : (t u : Tale) (d : List ℕ) (q : List (List ℕ)) (answers : List LinkAnswer) → ((more : List LinkAnswer) → poll t (d ∷ q) (answers ++ more) ≡ at u more) → OneFlush answers u
unfolding poll
one_flush t u d q [] h = let e : [] ≡ NotReady ∷ [] = ap answers_of (h (NotReady ∷ [])) in absurd (cc)
one_flush t u d q (NotReady ∷ answers) h = let e : answers ++ [] ≡ [] = ap answers_of (h []) in let n : answers ≡ [] = sym (append-nil answers) ∙ e in record {
  some = λ k. absurd (cc);
  count = rw n (omega arith);
  ends = λ k. not_ready_last answers n k;
} where
  not_ready_last : (l : List LinkAnswer) → l ≡ [] → ends_ready (NotReady ∷ l) ≡ 1 → u.left ≡ []
  not_ready_last [] n k = absurd (cc)
  not_ready_last (a ∷ l) n k = absurd (cc)
one_flush t u d [] (Sent ∷ answers) h = let e : answers ++ [] ≡ [] = ap answers_of (h []) in let n : answers ≡ [] = sym (append-nil answers) ∙ e in let l : [] ≡ u.left = ap left_of (h []) in record {
  some = λ k. absurd (cc);
  count = rw n (omega arith);
  ends = λ k. sym l;
}
one_flush t u d (f ∷ q) (Sent ∷ answers) h = one_before Sent answers u refl (λ b bs. refl) (one_flush (record t { sent = t.sent ++ d ∷ [] }) u f q answers h)
one_flush t u d [] (Failed ∷ answers) h = let e : answers ++ [] ≡ [] = ap answers_of (h []) in let n : answers ≡ [] = sym (append-nil answers) ∙ e in let l : [] ≡ u.left = ap left_of (h []) in record {
  some = λ k. absurd (cc);
  count = rw n (omega arith);
  ends = λ k. sym l;
}
one_flush t u d (f ∷ q) (Failed ∷ answers) h = one_before Failed answers u refl (λ b bs. refl) (one_flush (record t { failed = t.failed + 1 }) u f q answers h)

-- a flush of an empty queue takes nothing
no_flush : (t u : Tale) (answers : List LinkAnswer) → t.left ≡ [] → ((more : List LinkAnswer) → poll t t.left (answers ++ more) ≡ at u more) → (answers ≡ []) × (u ≡ t)
unfolding poll
no_flush t u answers e h =
    let P : List (List ℕ) → Type 0 = λ l. poll t l (answers ++ []) ≡ at u [] in
    let k : at (record t { left = [] }) (answers ++ []) ≡ at u [] = subst P e (h []) in
    let n : answers ++ [] ≡ [] = ap answers_of k in
    let v : record t { left = [] } ≡ u = ap (λ (x : Told). x.tale) k in
    (sym (append-nil answers) ∙ n, sym v ∙ ap (λ (l : List (List ℕ)). record t { left = l }) (sym e))

-- one more flush
flushed_more : (t u v : Tale) (answers new : List LinkAnswer) → HasFlushed t answers u → OneFlush new v → ends_ready answers ≡ 0 → Flushes u new v → HasFlushed t (answers ++ new) v
flushed_more t u v answers [] h one ready k = absurd (one.some refl)
flushed_more t u v answers (b ∷ bs) h one ready k = record { told = told; ends = λ e. one.ends (sym (ends-append answers b bs) ∙ e) } where
  number : flush_count (answers ++ b ∷ bs) ≡ suc (flush_count answers)
  number = rw (not_ready-append answers (b ∷ bs), ends-append answers b bs) (let c = one.count in omega arith)

  told : (more : List LinkAnswer) → flushes (at t ((answers ++ b ∷ bs) ++ more)) (flush_count (answers ++ b ∷ bs)) ≡ at v more
  told more =
      ap (λ (n : ℕ). flushes (at t ((answers ++ b ∷ bs) ++ more)) n) number
      ∙ ap (λ (l : List LinkAnswer). flushes (at t l) (suc (flush_count answers))) (append_assoc answers (b ∷ bs) more)
      ∙ flushes-suc (flush_count answers) (at t (answers ++ (b ∷ bs ++ more)))
      ∙ ap flush_one (h.told (b ∷ bs ++ more))
      ∙ k more

ready_or : (n : ℕ) (answers : List LinkAnswer) → ends_ready answers ≡ n → (n ≡ 0) ⊎ (n ≡ 1)
ready_or n [] e = inl (sym e)
ready_or n (NotReady ∷ []) e = inl (sym e)
ready_or n (Sent ∷ []) e = inr (sym e)
ready_or n (Failed ∷ []) e = inr (sym e)
ready_or n (NotReady ∷ b ∷ bs) e = ready_or n (b ∷ bs) e
ready_or n (Sent ∷ b ∷ bs) e = ready_or n (b ∷ bs) e
ready_or n (Failed ∷ b ∷ bs) e = ready_or n (b ∷ bs) e

flushes_more : (t u v : Tale) (answers new : List LinkAnswer) → HasFlushed t answers u → Flushes u new v → HasFlushed t (answers ++ new) v
flushes_more t u v answers new h k = by_queue u.left refl where
  same : u.left ≡ [] → HasFlushed t (answers ++ new) v
  same e = let nw = no_flush u v new e k in let P : Tale → Type 0 = λ x. HasFlushed t (answers ++ new) x in let Q : List LinkAnswer → Type 0 = λ l. HasFlushed t l u in subst P (sym nw.1) (subst Q (sym (ap (λ (l : List LinkAnswer). answers ++ l) nw.0 ∙ append-nil answers)) h)

  by_queue : (q : List (List ℕ)) → u.left ≡ q → HasFlushed t (answers ++ new) v
  by_queue [] e = same e
  by_queue (d ∷ q) e = elim (ready_or (ends_ready answers) answers refl) [
    | inl ready ↦ (let P : List (List ℕ) → Type 0 = λ l. ((more : List LinkAnswer) → poll u l (new ++ more) ≡ at v more) in flushed_more t u v answers new h (one_flush u v d q new (subst P e k)) ready k)
    | inr ended ↦ same (h.ends ended)
  ]

whole : (limit depth : ℕ) (received : List Reception) (answers later : List LinkAnswer) (t u : Tale)
    → HasTurned limit depth (map given_by received) answers t → HasFlushed t later u → relay_tale limit depth received (answers ++ later) ≡ u
whole limit depth received answers later t u h k =
    let e : turns limit depth (at untold (answers ++ later)) (map given_by received) ≡ at t later = h later in
    let f : flushes (at t later) (flush_count later) ≡ at u [] = ap (λ (l : List LinkAnswer). flushes (at t l) (flush_count later)) (sym (append-nil later)) ∙ k.told [] in
    ap (λ (x : Told). (flushes x (flush_count x.answers)).tale) e ∙ ap (λ (x : Told). x.tale) f

pub flushes_told : FlushesAreTold
flushes_told = record { none = flushes_none; more = flushes_more; whole = whole }
