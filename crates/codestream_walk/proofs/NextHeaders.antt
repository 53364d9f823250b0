-- What a reader of a packet's header tells of all bytes that came, by its answer for the last of them.
use Rattle.std.proofs.Common.{◌≡◌, ◌≤◌, ◌+◌, ◌-◌, ◌++◌, ℕ, Bool, Option, Some, List, [], ◌∷◌, map, length, take, drop, refl, sym, ◌∙◌, ap, subst, arith, length-take-le}
use Rattle.std.proofs.lemmas.List.{take-append-drop, take-append-le, length-drop, length-append}
use Rattle.std.proofs.Math.Seq.{take-length}
use Rattle.codestream_model.specs.Values.{Head, Place, Grid}
use Rattle.codestream_model.specs.Precincts.{grids}
use Rattle.codestream_model.specs.Packet.{HasFewBlocks, NeedsPacketHeaderBytes}
use Rattle.codestream_model.specs.HeaderPieces.{HeaderRefusal}
use Rattle.codestream_model.specs.MarkedHeader.{SpellsMarkedHeader, RefusesMarkedHeader, NeedsMarkedHeaderBytes}
use Rattle.packet_header.specs.Answers.{why_of, block_of}
use Rattle.packet_header.specs.Headers.{ReaderState, grids_of, IsSameHeader, IsFed, Answers, NeedsMore, EndsIn}
use Rattle.packet_header.specs.declared.refusal.HeaderOut.{HeaderOut}
use Rattle.packet_header.specs.declared.refusal.HeaderOut.TheVariants.{Done, Need, Bad}
use Rattle.codestream_walk.specs.Judging.{IsReadSoFar, IsPartRead}

-- What the answer for the bytes after the first `n` says of all of them.
pub record TellsOfAll (gs : List Grid) (eph : Bool) (new : ReaderState) (n : ℕ) (bytes : List ℕ) (o : HeaderOut) : Type 0 where
  pub found : (used : ℕ) → o ≡ Done used → (n + used ≤ length bytes) × SpellsMarkedHeader gs eph (map block_of new.blocks) (take (n + used) bytes)
  pub refused : (reason : HeaderRefusal) → o ≡ Bad (why_of reason) → RefusesMarkedHeader gs eph bytes reason
  pub needs : o ≡ Need → NeedsMarkedHeaderBytes gs eph bytes
  pub fed : o ≡ Need → IsFed new (take (length bytes) bytes)

-- the bytes from an index to their end
pub rest_is : (n : ℕ) (bytes : List ℕ) → take (length bytes - n) (drop n bytes) ≡ drop n bytes
rest_is n bytes = ap (λ k. take k (drop n bytes)) (sym (length-drop n bytes)) ∙ take-length (drop n bytes)

-- the header ends within the bytes
used_within : (n used : ℕ) (bytes piece : List ℕ) (o : HeaderOut) → piece ≡ drop n bytes → n ≤ length bytes → EndsIn piece o → o ≡ Done used → n + used ≤ length bytes
used_within n used bytes piece o is low inside e = omega (arith, ap (λ (l : List ℕ). length l) is, length-drop n bytes, inside used e, low)

pub tells_of_all : (old new : ReaderState) (n : ℕ) (bytes piece : List ℕ) (o : HeaderOut) → piece ≡ drop n bytes → n ≤ length bytes → IsFed old (take n bytes) → Answers old new piece o → EndsIn piece o → NeedsMore old new piece o
    → TellsOfAll (grids_of old) old.eph new n bytes o
tells_of_all old new n bytes piece o is low fed answers inside more =
    let front = take n bytes in
    let whole : front ++ piece ≡ bytes = ap (λ l. front ++ l) is ∙ take-append-drop n bytes in
    let size : length front ≡ n = length-take-le n bytes low in
    let a = answers front fed in
    let gs = grids_of old in
    let blocks = map block_of new.blocks in
    let N : List ℕ → Type 0 = λ l. NeedsMarkedHeaderBytes gs old.eph l in
    let F : List ℕ → Type 0 = λ l. IsFed new l in
    record {
      found = λ used e.
          (let S : List ℕ → Type 0 = λ l. SpellsMarkedHeader gs old.eph blocks (take (length front + used) l) in
          let T : ℕ → Type 0 = λ k. SpellsMarkedHeader gs old.eph blocks (take (k + used) bytes) in
          let both : (n + used ≤ length bytes) × SpellsMarkedHeader gs old.eph blocks (take (n + used) bytes) = (used_within n used bytes piece o is low inside e, subst T size (subst S whole (a.found used e))) in both);
      refused = λ reason e. (let R : List ℕ → Type 0 = λ l. RefusesMarkedHeader gs old.eph l reason in subst R whole ((a.refused reason).0 e));
      needs = λ e. subst N whole (a.needs.0 e);
      fed = λ e. subst F (sym (take-length bytes)) (subst F whole (more e front fed));
    }

-- a header's length
pub found_size : (n used : ℕ) (bytes : List ℕ) → n + used ≤ length bytes → n + used ≡ length (take (n + used) bytes)
found_size n used bytes low = sym (length-take-le (n + used) bytes low)

-- The same header, where all bytes were read.
pub all_read : (old new : ReaderState) (h : Head) (p : Place) (n : ℕ) (bytes : List ℕ) → IsPartRead old h p n bytes → IsSameHeader old new → IsFed new (take (length bytes) bytes) → IsPartRead new h p (length bytes) bytes
all_read old new h p n bytes part same fed = record { within = omega arith; grids = same.grids ∙ part.grids; eph = same.eph ∙ part.eph; fed = fed }

-- the bytes are refused, of a precinct's packet
pub refuses_of : (own : List Grid) (eph : Bool) (h : Head) (p : Place) (bytes : List ℕ) (reason : HeaderRefusal) → own ≡ grids h p → eph ≡ h.eph → RefusesMarkedHeader own eph bytes reason → RefusesMarkedHeader (grids h p) h.eph bytes reason
refuses_of own eph h p bytes reason e f r =
    let P : List Grid → Type 0 = λ x. RefusesMarkedHeader x eph bytes reason in
    let Q : Bool → Type 0 = λ x. RefusesMarkedHeader (grids h p) x bytes reason in
    subst Q f (subst P e r)

-- more bytes are needed, of a precinct's packet
pub needs_of : (own : List Grid) (eph : Bool) (h : Head) (p : Place) (bytes : List ℕ) → own ≡ grids h p → eph ≡ h.eph → NeedsMarkedHeaderBytes own eph bytes → NeedsPacketHeaderBytes h p bytes
needs_of own eph h p bytes e f r =
    let P : List Grid → Type 0 = λ x. NeedsMarkedHeaderBytes x eph bytes in
    let Q : Bool → Type 0 = λ x. NeedsMarkedHeaderBytes (grids h p) x bytes in
    subst Q f (subst P e r)

-- A header of which nothing was read.
take_none : (bytes : List ℕ) → take 0 bytes ≡ []
take_none [] = refl
take_none (b ∷ bytes) = refl

pub part_begun : (h : Head) (p : Place) (r : ReaderState) (bytes : List ℕ) → grids_of r ≡ grids h p → r.eph ≡ h.eph → IsFed r [] → IsPartRead r h p 0 bytes
part_begun h p r bytes same eph fed = let B : List ℕ → Type 0 = λ l. IsFed r l in record { within = omega arith; grids = same; eph = eph; fed = subst B (sym (take_none bytes)) fed }

-- What was read stays read where bytes are appended.
pub part_grows : (r : ReaderState) (h : Head) (p : Place) (n : ℕ) (bytes more : List ℕ) → IsPartRead r h p n bytes → IsPartRead r h p n (bytes ++ more)
part_grows r h p n bytes more k =
    let B : List ℕ → Type 0 = λ l. IsFed r l in
    record { within = omega (arith, k.within, length-append bytes more); grids = k.grids; eph = k.eph; fed = subst B (sym (take-append-le n bytes more k.within)) k.fed }

-- how far a header that is begun was read
pub so_far_of : (fed : Option ℕ) (n : ℕ) (r : ReaderState) (h : Head) (p : Place) (bytes : List ℕ) → fed ≡ Some n → IsReadSoFar fed r h p bytes → HasFewBlocks h p × IsPartRead r h p n bytes
so_far_of fed n r h p bytes e k = let P : Option ℕ → Type 0 = λ f. IsReadSoFar f r h p bytes in subst P e k
