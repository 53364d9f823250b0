-- What is put of grids, one after another, and of a whole header.
use Rattle.std.proofs.Common.{◌≡◌, ◌≢◌, ◌<◌, ◌≤◌, ◌-◌, ◌++◌, ℕ, min, Bool, true, false, List, [], ◌∷◌, map, length, take, drop, ◌==◌, Result, Ok, Err, IfOk, IsErr, refl, sym, ◌∙◌, ap, subst, inl, inr, arith, append_assoc}
use Rattle.std.specs.List.{flat_map}
use Rattle.std.proofs.lemmas.Bool.Decides.{leb_tells}
use Rattle.std.proofs.lemmas.List.{append-nil, length-take}
use Rattle.std.proofs.lemmas.List.Concat.{flat_map-append}
use Rattle.codestream_model.specs.Values as values
use Rattle.codestream_model.specs.StuffedBits.{width_after, packing, Packs, bytes_of_bits}
use Rattle.codestream_model.specs.TagTrees.{Seat, seats}
use Rattle.codestream_model.specs.HeaderPieces.{piece_bits, bits_of, seat_pieces, header_pieces}
use Rattle.codestream_model.specs.PacketHeader.{HaveOwnBands, AreBlocks, SpellsHeader, least_choices, written_bits, written_header}
use Rattle.codestream_model.proofs.PackingLemmas.{packing_packs}
use Rattle.codestream_model.proofs.WrittenLemmas.{written_is_header}
use Rattle.stuffed_bits.proofs.WriterLemmas.{reach_is}
use Rattle.stuffed_bits.specs.BitWriterState.{BitWriterState}
use Rattle.stuffed_bits.specs.BitsWritten.{HasWritten, reach}
use Rattle.stuffed_bits.specs.declared.bit_writer.Full.{Full}
use Rattle.tag_tree.specs.LeafWriting.{Writes}
use Rattle.tag_tree.proofs.ReachLemmas.{past_with_more}
use Rattle.tag_tree.proofs.WriteLemmas.{behind_both}
use Rattle.packet_header.specs.Puts.{Fills}
use Rattle.packet_header.specs.PositionsWritten.{Remain, GridPut, positions_bits}
use Rattle.packet_header.specs.declared.fault.PutFault.{PutFault}
use Rattle.packet_header.specs.declared.fault.PutFault.TheVariants as fault

-- bits that a call wrote, or for which there was no room
pub fills_ok : (bits : List Bool) (old new : BitWriterState) (before after : List ℕ) (x : Unit {0}) → Writes {A = Unit {0}} bits old new before after (Ok x) → Fills {A = Unit {0}} bits old new before after (Ok tt)
fills_ok bits old new before after x w = record { full = λ done r e. absurd (cc); holds = w.holds }

pub fills_full : (bits : List Bool) (old new : BitWriterState) (before after : List ℕ) (why : Full) (out : Result (Unit {0}) PutFault) → IsErr out → Writes {A = Unit {0}} bits old new before after (Err why) → Fills {A = Unit {0}} bits old new before after out
fills_full bits old new before after why (Ok x) is w = absurd (cc)
fills_full bits old new before after why (Err other) is w = record { full = λ done r e. (w.full done r).0 refl; holds = tt }

-- no bits
pub fills_none : (w : BitWriterState) (buf : List ℕ) → Fills {A = Unit {0}} [] w w buf buf (Ok tt)
fills_none w buf = record {
  full = λ done r e. absurd (cc);
  holds = λ done r. let P : List Bool → Type 0 = λ l. HasWritten l buf w in subst P (sym (append-nil done)) r;
}

-- bits after others
fills_stands : (bits more : List Bool) (old mid new : BitWriterState) (before between after : List ℕ) (out : Result (Unit {0}) PutFault)
    → ((done : List Bool) → HasWritten done before old → HasWritten (done ++ bits) between mid)
    → IfOk out (λ _. (done : List Bool) → HasWritten done between mid → HasWritten (done ++ more) after new)
    → IfOk out (λ _. (done : List Bool) → HasWritten done before old → HasWritten (done ++ (bits ++ more)) after new)
fills_stands bits more old mid new before between after (Err why) one two = tt
fills_stands bits more old mid new before between after (Ok x) one two = λ done r.
    let P : List Bool → Type 0 = λ l. HasWritten l after new in
    subst P (append_assoc done bits more) (two (done ++ bits) (one done r))

pub fills_behind : (bits more : List Bool) (old mid new : BitWriterState) (before between after : List ℕ) (x : Unit {0}) (out : Result (Unit {0}) PutFault) → length between ≡ length before
    → Fills {A = Unit {0}} bits old mid before between (Ok x) → Fills {A = Unit {0}} more mid new between after out → Fills {A = Unit {0}} (bits ++ more) old new before after out
fills_behind bits more old mid new before between after x out same one two = record {
  full = λ done r e.
      let P : List Bool → Type 0 = λ l. length before < reach l in
      let Q : ℕ → Type 0 = λ n. n < reach ((done ++ bits) ++ more) in
      subst P (append_assoc done bits more) (subst Q same (two.full (done ++ bits) (one.holds done r) e));
  holds = fills_stands bits more old mid new before between after out one.holds two.holds;
}

-- bits after which there is no room for others
pub fills_no_more : (bits more : List Bool) (old new : BitWriterState) (before after : List ℕ) (why : PutFault) (out : Result (Unit {0}) PutFault) → out ≡ Err why → Fills {A = Unit {0}} bits old new before after (Err why) → Fills {A = Unit {0}} (bits ++ more) old new before after out
fills_no_more bits more old new before after why (Ok x) e one = absurd (cc)
fills_no_more bits more old new before after why (Err other) e one =
    let same : other ≡ why = cc in
    record {
      full = λ done r f. past_with_more done bits more (length before) (one.full done r (sym (ap (λ (x : PutFault). Err x) same) ∙ f));
      holds = tt;
    }

-- other words for the same bits
pub fills_same : (bits more : List Bool) (old new : BitWriterState) (before after : List ℕ) (out : Result (Unit {0}) PutFault) → bits ≡ more → Fills {A = Unit {0}} bits old new before after out → Fills {A = Unit {0}} more old new before after out
fills_same bits more old new before after out e one = let P : List Bool → Type 0 = λ l. Fills {A = Unit {0}} l old new before after out in subst P e one

-- the bits of grids
abbrev pub grids_bits : List values.Grid → List values.Block → List Bool
grids_bits gs blocks = bits_of (header_pieces gs (least_choices blocks) blocks)

pub grid_bits : (g : values.Grid) (gs : List values.Grid) (blocks : List values.Block) → grids_bits (g ∷ gs) blocks ≡ positions_bits g blocks (seats g) ++ grids_bits gs blocks
grid_bits g gs blocks = flat_map-append piece_bits (flat_map (seat_pieces g (least_choices blocks) blocks) (seats g)) (header_pieces gs (least_choices blocks) blocks)

-- some grids are put, and these follow
pub record GridsPut (all rest : List values.Grid) (blocks remaining : List values.Block) (old new : BitWriterState) (before after : List ℕ) : Type 0 where
  pub done : List Bool
  pub whole : grids_bits all blocks ≡ done ++ grids_bits rest blocks
  pub fills : Fills {A = Unit {0}} done old new before after (Ok tt)
  pub waits : Remain blocks (flat_map seats rest) remaining

-- none of them
pub no_grid_put : (all : List values.Grid) (blocks remaining : List values.Block) (w : BitWriterState) (buf : List ℕ) → remaining ≡ blocks → AreBlocks all blocks → GridsPut all all blocks remaining w w buf buf
no_grid_put all blocks remaining w buf e are =
    let P : List values.Block → Type 0 = λ l. Remain blocks (flat_map seats all) l in
    record { done = []; whole = refl; fills = fills_none w buf; waits = subst P (sym e) (record { front = []; whole = refl; seated = are.seated }) }

-- one grid more
pub next_grid_put : (all more : List values.Grid) (g : values.Grid) (blocks remaining left : List values.Block) (old mid new : BitWriterState) (before between after : List ℕ) → length between ≡ length before
    → GridsPut all (g ∷ more) blocks remaining old mid before between → ((rest : List Seat) → Remain blocks (seats g ++ rest) remaining → GridPut g blocks rest left mid new between after (Ok tt)) → GridsPut all more blocks left old new before after
next_grid_put all more g blocks remaining left old mid new before between after same a put =
    let b = put (flat_map seats more) a.waits in
    record {
      done = a.done ++ positions_bits g blocks (seats g);
      whole = a.whole ∙ (ap (λ (l : List Bool). a.done ++ l) (grid_bits g more blocks) ∙ sym (append_assoc a.done (positions_bits g blocks (seats g)) (grids_bits more blocks)));
      fills = fills_behind a.done (positions_bits g blocks (seats g)) old mid new before between after tt (Ok tt) same a.fills b.bits;
      waits = b.waits;
    }

-- or there is no room for it
pub next_grid_full : (all more : List values.Grid) (g : values.Grid) (blocks remaining left : List values.Block) (old mid new : BitWriterState) (before between after : List ℕ) (why : PutFault) (out : Result (Unit {0}) PutFault) → out ≡ Err why → length between ≡ length before
    → GridsPut all (g ∷ more) blocks remaining old mid before between → ((rest : List Seat) → Remain blocks (seats g ++ rest) remaining → GridPut g blocks rest left mid new between after (Err why)) → Fills {A = Unit {0}} (grids_bits all blocks) old new before after out
next_grid_full all more g blocks remaining left old mid new before between after why out e same a put =
    let b = put (flat_map seats more) a.waits in
    let own = positions_bits g blocks (seats g) in
    fills_same (a.done ++ (own ++ grids_bits more blocks)) (grids_bits all blocks) old new before after out (sym (a.whole ∙ ap (λ (l : List Bool). a.done ++ l) (grid_bits g more blocks)))
    (fills_behind a.done (own ++ grids_bits more blocks) old mid new before between after tt out same a.fills (fills_no_more own (grids_bits more blocks) mid new between after why out e b.bits))

-- all grids
pub all_grids_put : (all : List values.Grid) (blocks remaining : List values.Block) (old new : BitWriterState) (before after : List ℕ) → GridsPut all [] blocks remaining old new before after → Fills {A = Unit {0}} (grids_bits all blocks) old new before after (Ok tt)
all_grids_put all blocks remaining old new before after a = fills_same a.done (grids_bits all blocks) old new before after (Ok tt) (sym (a.whole ∙ append-nil a.done)) a.fills

-- the bits of a header, by whether a code-block is included
pub bits_of_none : (gs : List values.Grid) (blocks : List values.Block) → length blocks ≡ 0 → false ∷ [] ≡ written_bits gs blocks
bits_of_none gs [] e = refl
bits_of_none gs (b ∷ blocks) e = absurd (omega arith)

pub bits_of_some : (gs : List values.Grid) (blocks : List values.Block) → length blocks ≢ 0 → (true ∷ []) ++ grids_bits gs blocks ≡ written_bits gs blocks
bits_of_some gs [] ne = absurd (ne refl)
bits_of_some gs (b ∷ blocks) ne = refl

-- there is always one
pub some_bits : (gs : List values.Grid) (blocks : List values.Block) → 1 ≤ length (written_bits gs blocks)
some_bits gs [] = omega arith
some_bits gs (b ∷ blocks) = omega arith

-- bits reach into no more bytes than there are
reached : (before n : ℕ) (bytes : List ℕ) → bytes_of_bits before n bytes ≤ length bytes
unfolding bytes_of_bits
reached before n [] = omega arith
reached before n (b ∷ bytes) = elim (leb_tells n (width_after before)) [
  | inl t ↦ rw t.0 (omega arith)
  | inr t ↦ rw t.0 (omega (arith, reached b (n - width_after before) bytes))
]

pub reach_within : (bits : List Bool) → reach bits ≤ length (packing bits)
reach_within bits = reached 0 (length bits) (packing bits)

-- a header that was written says its code-blocks
pub written_says : (gs : List values.Grid) (blocks : List values.Block) (n : ℕ) (bytes : List ℕ) → HaveOwnBands gs → AreBlocks gs blocks → take n bytes ≡ written_header gs blocks → n ≤ length bytes → n ≤ 65536 → SpellsHeader gs blocks (take n bytes)
written_says gs blocks n bytes bands are e within short =
    let size : length (take n bytes) ≡ min n (length bytes) = length-take n bytes in
    let P : List ℕ → Type 0 = λ l. Packs (written_bits gs blocks) l in
    record {
      bits = written_bits gs blocks;
      is_header = written_is_header gs blocks bands are;
      packs = subst P (sym e) (packing_packs (written_bits gs blocks) (some_bits gs blocks));
      short = omega arith;
    }

-- after a fault nothing is said
pub err_waits : {A : Type 0} (P : A → Type 0) (out : Result A PutFault) → IsErr out → IfOk out P
err_waits P (Ok x) is = absurd (cc)
err_waits P (Err e) is = tt

-- bits after those for which there was no room
pub fills_more : (bits more : List Bool) (old new : BitWriterState) (before after : List ℕ) (out : Result (Unit {0}) PutFault) → IsErr out → Fills {A = Unit {0}} bits old new before after out → Fills {A = Unit {0}} (bits ++ more) old new before after out
fills_more bits more old new before after (Ok x) is one = absurd (cc)
fills_more bits more old new before after (Err other) is one = record { full = λ done r f. past_with_more done bits more (length before) (one.full done r f); holds = tt }

-- a list that isn't empty
pub some_left : {X Y : Type 0} (f : X → Y) (xs : List X) → false ≡ (length xs == 0) → length (map f xs) ≢ 0
some_left f [] e = absurd (cc)
some_left f (x ∷ xs) e = λ z. omega arith

-- the bytes of a header that there was no room for, or that were written
pub header_full : (gs : List values.Grid) (blocks : List values.Block) (old new : BitWriterState) (before after : List ℕ) (why : PutFault) → ((buf : List ℕ) → HasWritten [] buf old)
    → Fills {A = Unit {0}} (written_bits gs blocks) old new before after (Err why) → why ≡ fault.Full → length before < length (written_header gs blocks)
header_full gs blocks old new before after why none f e =
    let far : length before < reach (written_bits gs blocks) = f.full [] (none before) (ap (λ (x : PutFault). Err x) e) in
    omega (arith, far, reach_within (written_bits gs blocks))

pub header_stands : (gs : List values.Grid) (blocks : List values.Block) (old new : BitWriterState) (before after : List ℕ) (x : Unit {0}) → ((buf : List ℕ) → HasWritten [] buf old)
    → Fills {A = Unit {0}} (written_bits gs blocks) old new before after (Ok x) → HasWritten (written_bits gs blocks) after new
header_stands gs blocks old new before after x none f = f.holds [] (none before)

-- as many bytes as a header has
pub header_size : (n : ℕ) (bytes header : List ℕ) → take n bytes ≡ header → n ≤ length bytes → n ≡ length header
header_size n bytes header e within =
    let size : length (take n bytes) ≡ min n (length bytes) = length-take n bytes in
    let same : length (take n bytes) ≡ length header = ap length e in
    omega arith

-- the bytes after a header are as they were
pub header_behind : (bits : List Bool) (before between after : List ℕ) (w : BitWriterState) (n : ℕ) → 0 < w.len → HasWritten bits between w → take n after ≡ packing bits → n ≤ length after
    → drop w.len between ≡ drop w.len before → drop n after ≡ drop n between → drop n after ≡ drop n before
header_behind bits before between after w n some r e within a b =
    let far : w.len ≤ n = omega (arith, reach_is bits between w some r, reach_within bits, header_size n after (packing bits) e within) in
    behind_both before between after w.len n far a b

-- equal answers have one fault
pub same_fault : {A : Type 0} (x y : PutFault) → let P : Result A PutFault → Result A PutFault → Type 0 = λ a b. a ≡ b in P (Err x) (Err y) → x ≡ y
same_fault x y e = cc
