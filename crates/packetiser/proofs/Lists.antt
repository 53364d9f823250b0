-- The datagrams of codestreams, one codestream after another.
use Rattle.std.proofs.Common.{◌≡◌, ◌+◌, ℕ, suc, List, [], ◌∷◌, ◌++◌, length, refl, sym, ap, ◌∙◌, arith}
use Rattle.std.specs.List.{flat_map, sum_by}
use Rattle.std.proofs.lemmas.Grind.{flat_map-append}
use Rattle.std.proofs.lemmas.List.{append-nil, length-append}
use Rattle.std.proofs.lemmas.List.Sums.{sum_by-cons}
use Rattle.wire_model.specs.Datagram.{Datagram}
use Rattle.stream_model.specs.Cut.{Plan, Known, payloads, bodies_at, stamp_at, datagrams_by}
use Rattle.stream_model.proofs.Positions.{placed}
use Rattle.stream_model.proofs.CutBodies.{the_body, bodies_placed}
use Rattle.stream_model.proofs.GrownDatagrams.{those_of, many_of, all_of, datagrams_placed, placed-append}

length_placed : {A B : Type 0} (f : A → ℕ) (g : ℕ → ℕ → A → B) (i at : ℕ) (xs : List A) → length (placed f g i at xs) ≡ length xs
length_placed f g i at [] = refl
length_placed f g i at (x ∷ xs) = ap suc (length_placed f g (i + 1) (at + f x) xs)

pub bodies_count : (p : Plan) (stamp at : ℕ) (c : Known) → length (bodies_at p stamp at c) ≡ length (payloads p c)
bodies_count p stamp at c = ap length (bodies_placed p stamp at c) ∙ length_placed (λ (b : List ℕ). length b) (the_body p stamp at c) 0 0 (payloads p c)

all_count : (p : Plan) (i at : ℕ) (ks : List Known) → length (all_of p i at ks) ≡ sum_by (many_of p) ks
all_count p i at [] = refl
all_count p i at (c ∷ ks) =
    length-append (those_of p i at c) (all_of p (i + 1) (at + many_of p c) ks)
    ∙ (let e : length (those_of p i at c) + length (all_of p (i + 1) (at + many_of p c) ks) ≡ many_of p c + sum_by (many_of p) ks = omega (arith, bodies_count p (stamp_at p i) at c, all_count p (i + 1) (at + many_of p c) ks) in e ∙ sym (sum_by-cons (many_of p) c ks))

-- one codestream more
pub datagrams_push : (p : Plan) (ks : List Known) (c : Known) → datagrams_by p (ks ++ c ∷ []) ≡ datagrams_by p ks ++ those_of p (length ks) (length (datagrams_by p ks)) c
datagrams_push p ks c =
    let n : 0 + length ks ≡ length ks = omega arith in
    let m : 0 + sum_by (many_of p) ks ≡ length (datagrams_by p ks) = omega (arith, ap length (datagrams_placed p ks), all_count p 0 0 ks) in
    datagrams_placed p (ks ++ c ∷ [])
    ∙ (ap (flat_map (λ ds. ds)) (placed-append (many_of p) (those_of p) 0 0 ks (c ∷ []))
    ∙ (flat_map-append (λ (ds : List Datagram). ds) (placed (many_of p) (those_of p) 0 0 ks) (those_of p (0 + length ks) (0 + sum_by (many_of p) ks) c ∷ [])
    ∙ (ap (λ l. l ++ (those_of p (0 + length ks) (0 + sum_by (many_of p) ks) c ++ [])) (sym (datagrams_placed p ks))
    ∙ (ap (λ l. datagrams_by p ks ++ l) (append-nil (those_of p (0 + length ks) (0 + sum_by (many_of p) ks) c))
    ∙ (ap (λ k. datagrams_by p ks ++ those_of p k (0 + sum_by (many_of p) ks) c) n ∙ ap (λ k. datagrams_by p ks ++ those_of p (length ks) k c) m)))))
