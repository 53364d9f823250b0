use Rattle.std.proofs.Common.{arith, length, length-drop, true, ◌≡◌, ℕ, List, drop, ap, ◌∙◌, subst}
use Rattle.codestream_model.specs.Bytes.{IsBytes}
use Rattle.codestream_model.proofs.SegmentBytes.{bytes-drop}
use Rattle.resync_decoder.specs.States.{DecoderState}
use Rattle.resync_decoder.proofs.decoder.Decoder.has_bytes.Goals as goal

pub returns-clause-bytes : goal.returns-clause-bytes
returns-clause-bytes c =
    let P : List ℕ → Type 0 = λ l. IsBytes l in
    let run : drop c.self.inside.front c.as_slice.result.now ≡ c.args.self.now.rules.bytes =
    ap (drop c.self.inside.front) c.as_slice.ensures.value ∙ ap (λ (x : DecoderState). x.rules.bytes) c.self.view_is in
    subst P run (bytes-drop c.self.inside.front c.as_slice.result.now c.are_bytes.ensures)

pub returns-clause-few : goal.returns-clause-few
returns-clause-few c = λ waits.
    let w : c.self.inside.waits ≡ true = ap (λ (x : DecoderState). x.waits) c.self.view_is ∙ waits in
    let len = length-drop c.self.inside.front c.self.inside.buffer.items in
    let size : length (drop c.self.inside.front c.self.inside.buffer.items) ≡ length c.args.self.now.rules.bytes = ap (λ (x : DecoderState). length x.rules.bytes) c.self.view_is in
    let few = (c.self.invariant.waits w).1 in
    omega (arith, len, size, few)
