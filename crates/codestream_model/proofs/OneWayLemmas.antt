-- Headers and packets are read in one way.
use Rattle.std.proofs.Common.{◌≡◌, ◌⊎◌, ℕ, List, [], ◌∷◌, ◌++◌, length, take, drop, refl, sym, ◌∙◌, ap, inl, inr}
use Rattle.std.proofs.lemmas.List.{take_at, drop_at}
use Rattle.codestream_model.specs.Values.{Block}
use Rattle.codestream_model.specs.PacketHeaderReading.{Done, header_of}
use Rattle.codestream_model.specs.PacketLaws.{PackedBitsAgree, HeadersAreReadOneWay}
use Rattle.codestream_model.proofs.PackingLemmas.{packed_are_carried}
use Rattle.codestream_model.proofs.HeaderLemmas.{header_read}

-- lists with equal parts
cons_both : {X : Type 0} (x y : X) (xs ys : List X) → x ≡ y → xs ≡ ys → x ∷ xs ≡ y ∷ ys
cons_both x y xs ys e f = cc

-- of two fronts of a list one is a prefix of the other
pub fronts : {X : Type 0} (xs ys us vs : List X) → xs ++ us ≡ ys ++ vs → (more : List X) × ((ys ≡ xs ++ more) ⊎ (xs ≡ ys ++ more))
fronts [] ys us vs e = (ys, inl refl)
fronts (x ∷ xs) [] us vs e = (x ∷ xs, inr refl)
fronts {X} (x ∷ xs) (y ∷ ys) us vs e =
    let head : x ≡ y = cc in
    let tail : xs ++ us ≡ ys ++ vs = cc in
    let r = fronts xs ys us vs tail in
    (r.0, elim r.1 [ inl f ↦ inl (cons_both y x ys (xs ++ r.0) (sym head) f) | inr f ↦ inr (cons_both x y xs (ys ++ r.0) head f) ])

-- fronts of one length are one
pub same_front : {X : Type 0} (xs ys us vs : List X) → length xs ≡ length ys → xs ++ us ≡ ys ++ vs → (xs ≡ ys) × (us ≡ vs)
same_front xs ys us vs l e = (
  sym (take_at xs us (length xs) refl) ∙ (ap (take (length xs)) e ∙ take_at ys vs (length xs) (sym l)),
  sym (drop_at xs us (length xs) refl) ∙ (ap (drop (length xs)) e ∙ drop_at ys vs (length xs) (sym l)),
)

-- runs of bits in the same bytes
pub packed_agree : PackedBitsAgree
packed_agree bits others bytes p q =
    let a = packed_are_carried bits bytes p in
    let b = packed_are_carried others bytes q in
    fronts bits others a.0 b.0 (sym a.1 ∙ b.1)

-- the parts of an answer
pub done_parts : (m n : ℕ) (xs ys : List Block) → Done m xs ≡ Done n ys → (m ≡ n) × (xs ≡ ys)
done_parts m n xs ys e = (cc, cc)

-- headers
pub one_header : HeadersAreReadOneWay
one_header gs blocks others header other more rest bands a b e =
    let r : Done (length header) blocks ≡ Done (length other) others =
    sym (header_read gs blocks header more bands a) ∙ (ap (header_of gs) e ∙ header_read gs others other rest bands b) in
    let parts = done_parts (length header) (length other) blocks others r in
    ((same_front header other more rest parts.0 e).0, parts.1)
