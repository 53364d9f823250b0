-- A stream that arrives in order and without loss: every precinct is due.
use Rattle.std.proofs.Common.{◌≡◌, ◌<◌, ◌≤◌, ◌+◌, ◌-◌, ℕ, zero, suc, Bool, true, false, List, [], ◌∷◌, ◌++◌, map, refl, ap, ◌∙◌, arith}
use Rattle.std.specs.Prelude.{◌&&◌, ◌||◌, nat_le, nat_lt}
use Rattle.std.specs.List.{AllByRecursion, filter, list_all, list_any, range_with_len, enumerate_from}
use Rattle.std.proofs.lemmas.Bool.{lt-ltb, le-leb}
use Rattle.stream_model.specs.Arrivals.{in_time, base}
use Rattle.stream_model.specs.Reached.{CarriedPacket, Carried, run_in_time, is_reached, is_due, precincts_by, due, due_at_end}
use Rattle.stream_model.specs.Laws.{IsWithin, all_precincts}
use Rattle.stream_model.proofs.InOrder.{ordered_is_in_time}
use Rattle.stream_model.proofs.Decided.{base_of_all}

-- two tests that hold
two : (a b : Bool) → a ≡ true → b ≡ true → (a && b) ≡ true
two true true h k = refl
two true false h k = absurd (cc)
two false b h k = absurd (cc)

first_of_two : (a b : Bool) → a ≡ true → (a || b) ≡ true
first_of_two true b h = refl
first_of_two false b h = absurd (cc)

-- every run within the stream is in time
whole_run : (n window a m : ℕ) → 1 ≤ window → a + m ≤ n → list_all (λ i. in_time (range_with_len 0 n) i window) (range_with_len a m) ≡ true
whole_run n window a zero some h = refl
whole_run n window a (suc m) some h =
    two (in_time (range_with_len 0 n) a window) (list_all (λ i. in_time (range_with_len 0 n) i window) (range_with_len (a + 1) m))
    (ordered_is_in_time n a window some (omega arith))
    (whole_run n window (a + 1) m some (omega arith))

-- a packet within the stream is reached from the Main
pub whole_is_reached : (n window : ℕ) (c : Carried) (precinct : ℕ) (packet : CarriedPacket) → 1 ≤ window → IsWithin n c → packet.last < n → is_reached (range_with_len 0 n) window c precinct packet ≡ true
whole_is_reached n window c precinct packet some r h =
    two (in_time (range_with_len 0 n) c.main window) (list_any (λ r. nat_le r.precinct precinct && run_in_time (range_with_len 0 n) window r.at packet.last) c.resyncs)
    (ordered_is_in_time n c.main window some r.main)
    (rw r.starts
    (first_of_two (nat_le 0 precinct && run_in_time (range_with_len 0 n) window c.main packet.last) (list_any (λ r. nat_le r.precinct precinct && run_in_time (range_with_len 0 n) window r.at packet.last) r.marks)
    (two (nat_le 0 precinct) (run_in_time (range_with_len 0 n) window c.main packet.last)
    (le-leb 0 precinct (omega arith))
    (whole_run n window c.main (packet.last + 1 - c.main) some (let m : c.main < n = r.main in omega arith)))))

-- and due
pub whole_is_due : (n window : ℕ) (c : Carried) (precinct : ℕ) (packet : CarriedPacket) → 1 ≤ window → IsWithin n c → packet.last < n → is_due (range_with_len 0 n) window c precinct packet ≡ true
whole_is_due n window c precinct packet some r h =
    two (is_reached (range_with_len 0 n) window c precinct packet) (nat_lt packet.last (base (range_with_len 0 n) window))
    (whole_is_reached n window c precinct packet some r h)
    (rw (base_of_all n window some) (lt-ltb packet.last n h))

-- a test that all packets pass leaves all
pass_all : {B : Type 0} (f : (ℕ × CarriedPacket) → B) (test : ℕ → CarriedPacket → Bool) (n k : ℕ) (packets : List CarriedPacket) → ((k : ℕ) (p : CarriedPacket) → p.last < n → test k p ≡ true) → AllByRecursion (λ p. p.last < n) packets → map f (filter (λ p. test p.0 p.1) (enumerate_from k packets)) ≡ map f (filter (λ p. true) (enumerate_from k packets))
pass_all f test n k [] pass h = refl
pass_all f test n k (p ∷ ps) pass h = rw (pass k p h.0) (ap (λ xs. f (k, p) ∷ xs) (pass_all f test n (k + 1) ps pass h.1))

pub whole_is_due_at_end : (n window : ℕ) (stream : List Carried) → 1 ≤ window → AllByRecursion (IsWithin n) stream → due_at_end (range_with_len 0 n) window stream ≡ all_precincts stream
whole_is_due_at_end n window [] some h = refl
whole_is_due_at_end n window (c ∷ stream) some h =
    let here : precincts_by (is_reached (range_with_len 0 n) window c) c ≡ precincts_by (λ k p. true) c = pass_all (λ p. record { stamp = c.stamp; precinct = p.0 }) (is_reached (range_with_len 0 n) window c) n 0 c.packets (λ k p. whole_is_reached n window c k p some h.0) h.0.packets in
    ap (λ xs. xs ++ due_at_end (range_with_len 0 n) window stream) here ∙ ap (λ xs. precincts_by (λ k p. true) c ++ xs) (whole_is_due_at_end n window stream some h.1)

pub whole_is_due_now : (n window : ℕ) (stream : List Carried) → 1 ≤ window → AllByRecursion (IsWithin n) stream → due (range_with_len 0 n) window stream ≡ all_precincts stream
whole_is_due_now n window [] some h = refl
whole_is_due_now n window (c ∷ stream) some h =
    let here : precincts_by (is_due (range_with_len 0 n) window c) c ≡ precincts_by (λ k p. true) c = pass_all (λ p. record { stamp = c.stamp; precinct = p.0 }) (is_due (range_with_len 0 n) window c) n 0 c.packets (λ k p. whole_is_due n window c k p some h.0) h.0.packets in
    ap (λ xs. xs ++ due (range_with_len 0 n) window stream) here ∙ ap (λ xs. precincts_by (λ k p. true) c ++ xs) (whole_is_due_now n window stream some h.1)

pub whole_stream_is_due : (n window : ℕ) (stream : List Carried) → 1 ≤ window → AllByRecursion (IsWithin n) stream → (due (range_with_len 0 n) window stream ≡ all_precincts stream) × (due_at_end (range_with_len 0 n) window stream ≡ all_precincts stream)
whole_stream_is_due n window stream some h = (whole_is_due_now n window stream some h, whole_is_due_at_end n window stream some h)
