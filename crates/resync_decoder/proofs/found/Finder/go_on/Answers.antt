use Rattle.std.proofs.Common.{◌-◌, length, take, drop, sym, subst}
use Rattle.stream_model.specs.Decoder.{found_packet}
use Rattle.packet_header.specs.Headers.{ReaderState}
use Rattle.resync_decoder.specs.Finding.{Finds, IsReadUpTo}
use Rattle.resync_decoder.proofs.Looks.{fed_on, rest_is}
use Rattle.resync_decoder.proofs.found.Finder.go_on.Goals as goal

pub returns-clause-found : goal.returns-clause-found
returns-clause-found c = λ h p part.
    let both = fed_on h p c.args.self.now.reader c.feed-out.new.self c.args.fed c.args.bytes.now (take (length c.args.bytes.now - c.args.fed) (drop c.args.fed c.args.bytes.now)) c.feed-out.result c.answer.result c.answer.new.self.progress part
    (record { piece_is = rest_is c.args.fed c.args.bytes.now; answers = c.feed-out.ensures.answers; inside = c.feed-out.ensures.inside; fed = c.feed-out.ensures.fed; same = c.feed-out.ensures.same })
    c.answer.ensures.answers in
    let P : ReaderState → Type 0 = λ r. Finds (found_packet h p c.args.bytes.now) c.answer.result r.blocks in
    subst P (sym c.answer.ensures.reader) both.0

pub returns-clause-so_far : goal.returns-clause-so_far
returns-clause-so_far c = λ h p part.
    let both = fed_on h p c.args.self.now.reader c.feed-out.new.self c.args.fed c.args.bytes.now (take (length c.args.bytes.now - c.args.fed) (drop c.args.fed c.args.bytes.now)) c.feed-out.result c.answer.result c.answer.new.self.progress part
    (record { piece_is = rest_is c.args.fed c.args.bytes.now; answers = c.feed-out.ensures.answers; inside = c.feed-out.ensures.inside; fed = c.feed-out.ensures.fed; same = c.feed-out.ensures.same })
    c.answer.ensures.answers in
    let P : ReaderState → Type 0 = λ r. IsReadUpTo c.answer.new.self.progress r h p c.args.bytes.now in
    subst P (sym c.answer.ensures.reader) both.1
