-- Where bits stop within pieces: in the middle of one that isn't decided yet, or at one that is refused.
use Rattle.std.proofs.Common.{◌≡◌, ◌≤◌, ◌⊎◌, Bool, List, [], ◌∷◌, ◌++◌, length, Option, Some, None, refl, sym, ◌∙◌, ap, inl, inr, append_assoc}
use Rattle.std.specs.List.{AllByRecursion}
use Rattle.std.proofs.lemmas.List.{append-nil}
use Rattle.codestream_model.specs.HeaderPieces.{HeaderRefusal, Piece, piece_bits, fault_of, IsSound, deciding_bits, bits_of}
use Rattle.codestream_model.specs.PacketHeaderReading.{Read, Got, AtEnd, Refused, and_then}

-- the bits stop in a piece: none that decides it is there, or it is refused
abbrev pub StopsIn : Piece → List Bool → Option HeaderRefusal → Type 0
StopsIn p bits None = (rest : List Bool) × (deciding_bits p ≡ bits ++ rest) × (1 ≤ length rest)
StopsIn p bits (Some why) = (rest : List Bool) × (fault_of p ≡ Some why) × (bits ≡ deciding_bits p ++ rest)

-- the bits stop in the first of pieces that isn't sound and whole
abbrev pub Stops : List Piece → List Bool → Option HeaderRefusal → Type 0
Stops [] bits r = ⊥
Stops (p ∷ ps) bits r = StopsIn p bits r ⊎ (IsSound p × ((more : List Bool) × (bits ≡ piece_bits p ++ more) × Stops ps more r))

-- bits that stop in pieces stop in the first of them, or after them all
pub stops_split : (ps qs : List Piece) (bits : List Bool) (r : Option HeaderRefusal) → Stops (ps ++ qs) bits r
    → Stops ps bits r ⊎ (AllByRecursion IsSound ps × ((more : List Bool) × (bits ≡ bits_of ps ++ more) × Stops qs more r))
stops_split [] qs bits r s = inr (tt, (bits, refl, s))
stops_split (p ∷ ps) qs bits r (inl s) = inl (inl s)
stops_split (p ∷ ps) qs bits r (inr (sound, (more, e, s))) = elim (stops_split ps qs more r s) [
  | inl t ↦ inl (inr (sound, (more, e, t)))
  | inr t ↦ inr ((sound, t.0), (t.1.0, e ∙ (ap (λ (l : List Bool). piece_bits p ++ l) t.1.1 ∙ sym (append_assoc (piece_bits p) (bits_of ps) t.1.0)), t.1.2))
]

-- the answer where bits stop
abbrev pub stop : {A : Type 0} → Option HeaderRefusal → Read A
stop None = AtEnd
stop (Some why) = Refused why

-- which is no value
pub stop_not_got : {A : Type 0} (r : Option HeaderRefusal) (x : A) (rest : List Bool) → stop r ≡ Got x rest → ⊥
stop_not_got None x rest e = cc
stop_not_got (Some why) x rest e = cc

-- What a reader makes of pieces: where all are sound it gets this value after their bits, and where bits stop it stops.
pub record Judged {A : Type 0} (read : List Bool → Read A) (Good : A → Type 0) (ps : List Piece) (x : A) : Type 0 where
  pub sound : AllByRecursion IsSound ps → Good x × ((more : List Bool) → read (bits_of ps ++ more) ≡ Got x more)
  pub stops : (bits : List Bool) (r : Option HeaderRefusal) → Stops ps bits r → read bits ≡ stop r

-- no pieces
pub judged_none : {A : Type 0} (Good : A → Type 0) (x : A) → Good x → Judged (λ (bits : List Bool). Got x bits) Good [] x
judged_none Good x g = record { sound = λ a. (g, λ more. refl); stops = λ bits r s. absurd s }

-- a reader that reads the same
pub judged_same : {A : Type 0} (read other : List Bool → Read A) (Good : A → Type 0) (ps : List Piece) (x : A) → ((bits : List Bool) → read bits ≡ other bits) → Judged other Good ps x → Judged read Good ps x
judged_same read other Good ps x e j = record {
  sound = λ a. let h = j.sound a in (h.0, λ more. e (bits_of ps ++ more) ∙ h.1 more);
  stops = λ bits r s. e bits ∙ j.stops bits r s;
}

-- one piece
pub judged_one : {A : Type 0} (read : List Bool → Read A) (Good : A → Type 0) (p : Piece) (x : A) → (IsSound p → Good x × ((more : List Bool) → read (piece_bits p ++ more) ≡ Got x more))
    → ((bits : List Bool) (r : Option HeaderRefusal) → StopsIn p bits r → read bits ≡ stop r) → Judged read Good (p ∷ []) x
judged_one read Good p x h t = record {
  sound = λ a. (
    (h a.0).0,
    λ more. ap (λ (l : List Bool). read (l ++ more)) (append-nil (piece_bits p)) ∙ (h a.0).1 more,
  );
  stops = λ bits r s. elim s [ inl u ↦ t bits r u | inr u ↦ absurd u.1.2 ];
}

-- what an answer becomes where a next reader follows
stop_then : {A B : Type 0} (r : Option HeaderRefusal) (next : A → List Bool → Read B) → and_then (stop r) next ≡ stop r
stop_then None next = refl
stop_then (Some why) next = refl

-- sound pieces of two lists
pub sound_parts : (ps qs : List Piece) → AllByRecursion IsSound (ps ++ qs) → AllByRecursion IsSound ps × AllByRecursion IsSound qs
sound_parts [] qs a = (tt, a)
sound_parts (p ∷ ps) qs a = let r = sound_parts ps qs a.1 in ((a.0, r.0), r.1)

-- the bits of two lists of pieces
pub bits_of-append : (ps qs : List Piece) → bits_of (ps ++ qs) ≡ bits_of ps ++ bits_of qs
bits_of-append [] qs = refl
bits_of-append (p ∷ ps) qs = ap (λ (l : List Bool). piece_bits p ++ l) (bits_of-append ps qs) ∙ sym (append_assoc (piece_bits p) (bits_of ps) (bits_of qs))

-- a reader, and then the next
pub judged_then : {A B : Type 0} (first : List Bool → Read A) (next : A → List Bool → Read B) (Good : A → Type 0) (Fine : B → Type 0) (ps qs : List Piece) (x : A) (y : B)
    → Judged first Good ps x → (Good x → Judged (next x) Fine qs y) → Judged (λ (bits : List Bool). and_then (first bits) next) Fine (ps ++ qs) y
judged_then first next Good Fine ps qs x y j k = record {
  sound = λ a.
      let parts = sound_parts ps qs a in
      let h = j.sound parts.0 in
      let n = (k h.0).sound parts.1 in (
        n.0,
        λ more. ap (λ (l : List Bool). and_then (first l) next) (ap (λ (l : List Bool). l ++ more) (bits_of-append ps qs) ∙ append_assoc (bits_of ps) (bits_of qs) more)
            ∙ (ap (λ (r : Read _). and_then r next) (h.1 (bits_of qs ++ more)) ∙ n.1 more),
      );
  stops = λ bits r s. elim (stops_split ps qs bits r s) [
    | inl t ↦ ap (λ (r : Read _). and_then r next) (j.stops bits r t) ∙ stop_then r next
    | inr t ↦
        let h = j.sound t.0 in
        ap (λ (r : Read _). and_then r next) (ap first t.1.1 ∙ h.1 t.1.0) ∙ (k h.0).stops t.1.0 r t.1.2
  ];
}
