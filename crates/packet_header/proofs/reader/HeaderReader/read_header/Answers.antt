-- The source begins with the bits in hand.
use Rattle.std.proofs.Common.{◌≡◌, ◌++◌, ℕ, List, take, sym, ◌∙◌, ap, subst}
use Rattle.std.proofs.lemmas.List.{append-nil}
use Rattle.codestream_model.specs.PacketHeaderReading.{read_bits}
use Rattle.stuffed_bits.specs.BitInState.{BitInState}
use Rattle.packet_header.specs.Moves.{taken_of}
use Rattle.packet_header.specs.Blocks.{HasTaken}
use Rattle.packet_header.specs.Headers.{ReaderState, grids_of}
use Rattle.packet_header.proofs.reader.HeaderReader.read_header.Goals as goal

pub returns-clause-rests : goal.returns-clause-rests
returns-clause-rests c = λ need bytes t.
    let r = c.args.self.now in
    let source = c.new-source.result in
    let gs = grids_of r in
    let none : taken_of bytes source ≡ bytes = ap (λ (n : ℕ). bytes ++ take n source.piece.now) c.new-source.ensures.at ∙ append-nil bytes in
    let bits : source.bits ≡ r.bits = c.new-source.ensures.bits ∙ (c.replace-bits.ensures.value ∙ ap (λ (s : ReaderState). s.bits) c.self.view_is) in
    let B : List ℕ → Type 0 = λ l. HasTaken (read_bits gs) r.progress l r.bits in
    let H : BitInState → Type 0 = λ h. HasTaken (read_bits gs) r.progress (taken_of bytes source) h in
    let S : ReaderState → Type 0 = λ s. HasTaken (read_bits (grids_of s)) s.progress (taken_of bytes source) source.bits in
    let ready = subst S (sym c.self.view_is) (subst H (sym bits) (subst B (sym none) t)) in
    let all = c.read-read.ensures.rests need bytes ready in
    let G : ReaderState → Type 0 = λ s. HasTaken (read_bits (grids_of s)) c.read-read.new.self (bytes ++ source.piece.now) c.read-read.new.source.bits in
    let F : List ℕ → Type 0 = λ l. HasTaken (read_bits gs) c.read-read.new.self (bytes ++ l) c.read-read.new.source.bits in
    subst F c.new-source.ensures.piece (subst G c.self.view_is all)
