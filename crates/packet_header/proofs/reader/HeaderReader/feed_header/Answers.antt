-- The header is read, or its reading stops.
use Rattle.std.proofs.Common.{◌≡◌, ◌≤◌, ◌+◌, ◌-◌, ◌++◌, ℕ, min, Bool, true, List, [], length, take, Result, sym, ◌∙◌, ap, subst, arith}
use Rattle.std.proofs.lemmas.List.{length-take}
use Rattle.codestream_model.specs.Values as values
use Rattle.codestream_model.specs.Bytes.{IsBytes}
use Rattle.codestream_model.specs.StuffedBits.{packed_bits}
use Rattle.codestream_model.specs.PacketHeaderReading.{read_bits}
use Rattle.codestream_model.specs.MarkedHeader.{marked_header_of}
use Rattle.packet_header.specs.Answers.{out_at, Tells}
use Rattle.packet_header.specs.Closing.{counted}
use Rattle.packet_header.specs.Moves.{IsStopNeed}
use Rattle.packet_header.specs.Headers.{ReaderState, ReadsHeader, grids_of, IsFed, counted_out}
use Rattle.packet_header.specs.Marked.{IsRest}
use Rattle.packet_header.specs.declared.refusal.HeaderOut.{HeaderOut}
use Rattle.packet_header.specs.declared.refusal.HeaderStop.{HeaderStop}
use Rattle.packet_header.proofs.Feeds.{header_stops, header_waits, header_ends, rest_tells}
use Rattle.packet_header.proofs.reader.HeaderReader.feed_header.Goals as goal

pub returns-in-Err-clause-judged : goal.returns-in-Err-clause-judged
returns-in-Err-clause-judged c = λ bytes f.
    let r = c.args.self.now in
    let now = c.read_header.new.self in
    let piece = c.args.piece.now in
    let n = c.min.result in
    let stopped = c.in-Err.stop in
    let m : n ≡ min (length piece) (65536 - r.fed) = c.min.ensures ∙ ap (λ (s : ReaderState). min (length piece) (65536 - s.fed)) c.self.view_is in
    let low : r.fed ≤ 65536 = let P : ReaderState → Type 0 = λ s. s.fed ≤ 65536 in subst P c.self.view_is c.self.invariant.1 in
    let R : Result ℕ HeaderStop → List ℕ → Type 0 = λ x l. ReadsHeader (read_bits (grids_of r) (packed_bits (l ++ take n piece)).bits) (l ++ take n piece) [] now.blocks (counted (length l) x) in
    let t = header_stops r now bytes piece n stopped f c.requires.stage low m (λ l h. let Q : Result ℕ HeaderStop → Type 0 = λ x. R x l in subst Q c.in-Err.is (c.read_header.ensures.read l h)) in
    let fed : c.self-in-Err.inside.fed ≡ r.fed = ap (λ (s : ReaderState). s.fed) c.self-in-Err.view_is ∙ c.read_header.ensures.fed in
    let count : c.self-in-Err.inside.fed + length (take n piece) ≡ r.fed + n = omega (arith, fed, length-take n piece, m) in
    let P : HeaderOut → Type 0 = λ o. Tells (marked_header_of (grids_of r) r.eph (bytes ++ piece)) (counted_out (length bytes) o) now.blocks in
    let V : ReaderState → Type 0 = λ s. Tells (marked_header_of (grids_of r) r.eph (bytes ++ piece)) (counted_out (length bytes) c.out.result) s.blocks in
    subst V (sym c.self-in-Err.view_is) (subst P (sym (c.out.ensures ∙ ap (λ (k : ℕ). out_at k stopped) count)) t)

pub returns-in-Err-clause-fed : goal.returns-in-Err-clause-fed
returns-in-Err-clause-fed c = λ need bytes f.
    let r = c.args.self.now in
    let now = c.read_header.new.self in
    let piece = c.args.piece.now in
    let n = c.min.result in
    let stopped = c.in-Err.stop in
    let each : IsBytes piece = λ i. omega (arith, c.type_inv.piece i) in
    let m : n ≡ min (length piece) (65536 - r.fed) = c.min.ensures ∙ ap (λ (s : ReaderState). min (length piece) (65536 - s.fed)) c.self.view_is in
    let low : r.fed ≤ 65536 = let P : ReaderState → Type 0 = λ s. s.fed ≤ 65536 in subst P c.self.view_is c.self.invariant.1 in
    let fed : c.self-in-Err.inside.fed ≡ r.fed = ap (λ (s : ReaderState). s.fed) c.self-in-Err.view_is ∙ c.read_header.ensures.fed in
    let count : c.self-in-Err.inside.fed + length (take n piece) ≡ r.fed + n = omega (arith, fed, length-take n piece, m) in
    let wanted = sym (c.out.ensures ∙ ap (λ (k : ℕ). out_at k stopped) count) ∙ need in
    let S : Result ℕ HeaderStop → Type 0 = λ x. IsStopNeed x in
    let w = header_waits r now bytes piece n stopped f c.requires.stage each low m wanted c.read_header.ensures.stage c.read_header.ensures.same (λ e h. c.read_header.ensures.rests (subst S (sym c.in-Err.is) e) bytes h) in
    let K : ℕ → Type 0 = λ k. IsFed (record now { fed = k }) (bytes ++ piece) in
    let V : ReaderState → Type 0 = λ s. IsFed (record s { fed = c.self-in-Err.inside.fed + length (take n piece) }) (bytes ++ piece) in
    subst V (sym c.self-in-Err.view_is) (subst K (sym count) w)

pub returns-then-self-clause-judged : goal.returns-then-self-clause-judged
returns-then-self-clause-judged c = λ bytes f.
    let r = c.args.self.now in
    let now = c.read_header.new.self in
    let piece = c.args.piece.now in
    let n = c.min.result in
    let used = c.in-Ok.used in
    let each : IsBytes piece = λ i. omega (arith, c.type_inv.piece i) in
    let m : n ≡ min (length piece) (65536 - r.fed) = c.min.ensures ∙ ap (λ (s : ReaderState). min (length piece) (65536 - s.fed)) c.self.view_is in
    let low : r.fed ≤ 65536 = let P : ReaderState → Type 0 = λ s. s.fed ≤ 65536 in subst P c.self.view_is c.self.invariant.1 in
    let R : Result ℕ HeaderStop → List ℕ → Type 0 = λ x l. ReadsHeader (read_bits (grids_of r) (packed_bits (l ++ take n piece)).bits) (l ++ take n piece) [] now.blocks (counted (length l) x) in
    let same = c.read_header.ensures.same in
    let rest : IsRest now bytes used piece = header_ends r now bytes piece n used f c.requires.stage each low m same (λ l h. let Q : Result ℕ HeaderStop → Type 0 = λ x. R x l in subst Q c.in-Ok.is (c.read_header.ensures.read l h)) in
    let eph : true ≡ r.eph = sym c.if-self.true ∙ (ap (λ (s : ReaderState). s.eph) c.self-in-Ok.view_is ∙ same.eph) in
    let G : List values.Grid → Type 0 = λ gs. Tells (marked_header_of gs true (bytes ++ piece)) (counted_out (length bytes) c.read_eph.result) c.read_eph.new.self.blocks in
    let E : Bool → Type 0 = λ x. Tells (marked_header_of (grids_of r) x (bytes ++ piece)) (counted_out (length bytes) c.read_eph.result) c.read_eph.new.self.blocks in
    subst E eph (subst G same.grids (c.read_eph.ensures.judged bytes rest))

pub returns-then-self-clause-fed : goal.returns-then-self-clause-fed
returns-then-self-clause-fed c = λ need bytes f.
    let r = c.args.self.now in
    let now = c.read_header.new.self in
    let piece = c.args.piece.now in
    let n = c.min.result in
    let used = c.in-Ok.used in
    let each : IsBytes piece = λ i. omega (arith, c.type_inv.piece i) in
    let m : n ≡ min (length piece) (65536 - r.fed) = c.min.ensures ∙ ap (λ (s : ReaderState). min (length piece) (65536 - s.fed)) c.self.view_is in
    let low : r.fed ≤ 65536 = let P : ReaderState → Type 0 = λ s. s.fed ≤ 65536 in subst P c.self.view_is c.self.invariant.1 in
    let R : Result ℕ HeaderStop → List ℕ → Type 0 = λ x l. ReadsHeader (read_bits (grids_of r) (packed_bits (l ++ take n piece)).bits) (l ++ take n piece) [] now.blocks (counted (length l) x) in
    c.read_eph.ensures.fed need bytes (header_ends r now bytes piece n used f c.requires.stage each low m c.read_header.ensures.same (λ l h. let Q : Result ℕ HeaderStop → Type 0 = λ x. R x l in subst Q c.in-Ok.is (c.read_header.ensures.read l h)))

pub returns-else-self-clause-judged : goal.returns-else-self-clause-judged
returns-else-self-clause-judged c = λ bytes f.
    let r = c.args.self.now in
    let now = c.read_header.new.self in
    let piece = c.args.piece.now in
    let n = c.min.result in
    let used = c.in-Ok.used in
    let each : IsBytes piece = λ i. omega (arith, c.type_inv.piece i) in
    let m : n ≡ min (length piece) (65536 - r.fed) = c.min.ensures ∙ ap (λ (s : ReaderState). min (length piece) (65536 - s.fed)) c.self.view_is in
    let low : r.fed ≤ 65536 = let P : ReaderState → Type 0 = λ s. s.fed ≤ 65536 in subst P c.self.view_is c.self.invariant.1 in
    let R : Result ℕ HeaderStop → List ℕ → Type 0 = λ x l. ReadsHeader (read_bits (grids_of r) (packed_bits (l ++ take n piece)).bits) (l ++ take n piece) [] now.blocks (counted (length l) x) in
    let same = c.read_header.ensures.same in
    let rest : IsRest now bytes used piece = header_ends r now bytes piece n used f c.requires.stage each low m same (λ l h. let Q : Result ℕ HeaderStop → Type 0 = λ x. R x l in subst Q c.in-Ok.is (c.read_header.ensures.read l h)) in
    rest_tells r now bytes piece used same (sym (ap (λ (s : ReaderState). s.eph) c.self-in-Ok.view_is) ∙ c.if-self.false) rest
