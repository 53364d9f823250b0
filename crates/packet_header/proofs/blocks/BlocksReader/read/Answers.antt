-- The code-blocks are read, and the bits closed; or what stops them.
use Rattle.std.proofs.Common.{◌≡◌, ◌++◌, ℕ, List, [], map, length, take, Result, Ok, sym, ◌∙◌, ap, subst, arith}
use Rattle.std.proofs.lemmas.Result.{err_from_is_err_and}
use Rattle.std.proofs.lemmas.List.{take_all}
use Rattle.codestream_model.specs.StuffedBits.{packed_bits}
use Rattle.codestream_model.specs.PacketHeaderReading.{read_bits}
use Rattle.precinct_geometry.specs.Spans.{grid_of}
use Rattle.stuffed_bits.specs.BitInState.{BitInState}
use Rattle.stuffed_bits.proofs.PartsRead.{drawn_free}
use Rattle.packet_header.specs.Moves.{taken_of, all_of}
use Rattle.packet_header.specs.Closing.{counted}
use Rattle.packet_header.specs.Blocks.{Took, HasTaken}
use Rattle.packet_header.specs.Headers.{ReadsHeader}
use Rattle.packet_header.specs.declared.refusal.HeaderStop.{HeaderStop}
use Rattle.packet_header.proofs.Closings.{begun}
use Rattle.packet_header.proofs.Feeds.{free_at_end, some_given, header_closed, header_stopped}
use Rattle.packet_header.proofs.blocks.BlocksReader.read.Goals as goal

pub returns-in_err-read_blocks-clause-read : goal.returns-in_err-read_blocks-clause-read
returns-in_err-read_blocks-clause-read c = λ before t.
    let p = err_from_is_err_and c.from_residual.result c.from_residual.ensures.1 in
    let gs = map grid_of c.args.self.now.bands.items in
    let R : Result (Unit {0}) HeaderStop → Type 0 = λ x. Took (read_bits gs) c.read_blocks.new.self before c.args.source.now c.read_blocks.new.source x in
    let q = subst R c.in_err-read_blocks.was (c.read_blocks.ensures.read (read_bits gs) before t) in
    rw (p.1, p.2) (header_stopped gs (all_of before c.args.source.now) c.read_blocks.new.self.blocks.items c.in_err-read_blocks.field-0.0 q.0)

-- no bit of a value is kept then
free : (c : goal.After-close-arg-1) (before : List ℕ) → HasTaken (read_bits (map grid_of c.args.self.now.bands.items)) c.args.self.now (taken_of before c.args.source.now) c.args.source.now.bits
    → Took (read_bits (map grid_of c.args.self.now.bands.items)) c.read_blocks.new.self before c.args.source.now c.read_blocks.new.source (Ok (tt {0}))
free c before t =
    let gs = map grid_of c.args.self.now.bands.items in
    let R : Result (Unit {0}) HeaderStop → Type 0 = λ x. Took (read_bits gs) c.read_blocks.new.self before c.args.source.now c.read_blocks.new.source x in
    subst R c.in_ok-read_blocks.was (c.read_blocks.ensures.read (read_bits gs) before t)

pub close-requires-clause-free : goal.close-requires-clause-free
close-requires-clause-free c =
    let gs = map grid_of c.args.self.now.bands.items in
    let mid = c.read_blocks.new.source in
    let ready = c.requires.ready in
    let q = free c ready.0 ready.1 in
    free_at_end (read_bits gs) c.read_blocks.new.self (taken_of ready.0 mid) mid.bits q.0 q.1

pub close-requires-clause-begun : goal.close-requires-clause-begun
close-requires-clause-begun c =
    let gs = map grid_of c.args.self.now.bands.items in
    let mid = c.read_blocks.new.source in
    let ready = c.requires.ready in
    let q = free c ready.0 ready.1 in
    let taken = taken_of ready.0 mid in
    let none = free_at_end (read_bits gs) c.read_blocks.new.self taken mid.bits q.0 q.1 in
    begun q.0.done taken mid.bits (drawn_free q.0.done taken mid.bits none q.0.read) (some_given gs c.read_blocks.new.self taken mid.bits q.0 c.requires.own_bands q.1 q.2)

pub returns-clause-read : goal.returns-clause-read
returns-clause-read c = λ before t.
    let gs = map grid_of c.args.self.now.bands.items in
    let now = c.read_blocks.new.self in
    let mid = c.read_blocks.new.source in
    let R : Result (Unit {0}) HeaderStop → Type 0 = λ x. Took (read_bits gs) now before c.args.source.now mid x in
    let q = subst R c.in_ok-read_blocks.was (c.read_blocks.ensures.read (read_bits gs) before t) in
    let some = some_given gs now (taken_of before mid) mid.bits q.0 c.requires.own_bands q.1 q.2 in
    let P : List ℕ → Type 0 = λ l. ReadsHeader (read_bits gs (packed_bits (before ++ l)).bits) (before ++ l) [] now.blocks.items (counted (length before) c.close.result) in
    subst P c.read_blocks.ensures.piece (header_closed gs now before mid c.close.result q.0 q.1 q.2 (c.close.ensures.closes before q.0.done (record { read = q.0.read }) some))

pub returns-clause-rests : goal.returns-clause-rests
returns-clause-rests c = λ need before t.
    let gs = map grid_of c.args.self.now.bands.items in
    let now = c.read_blocks.new.self in
    let mid = c.read_blocks.new.source in
    let R : Result (Unit {0}) HeaderStop → Type 0 = λ x. Took (read_bits gs) now before c.args.source.now mid x in
    let q = subst R c.in_ok-read_blocks.was (c.read_blocks.ensures.read (read_bits gs) before t) in
    let whole : take mid.at mid.piece.now ≡ mid.piece.now = take_all mid.at mid.piece.now (omega (arith, c.close.ensures.whole need)) in
    let taken : taken_of before mid ≡ all_of before c.args.source.now = ap (λ (l : List ℕ). before ++ l) (whole ∙ c.read_blocks.ensures.piece) in
    let P : List ℕ → Type 0 = λ l. HasTaken (read_bits gs) now l mid.bits in
    let Q : BitInState → Type 0 = λ h. HasTaken (read_bits gs) now (all_of before c.args.source.now) h in
    subst Q (sym (c.close.ensures.same need)) (subst P taken q.0)
