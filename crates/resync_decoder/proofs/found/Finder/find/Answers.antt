use Rattle.std.proofs.Common.{◌+◌, length, map, sym, ap, subst, arith, ◌∙◌}
use Rattle.codestream_model.specs.Packet.{segment_bytes}
use Rattle.stream_model.specs.Decoder.{found_packet}
use Rattle.packet_header.specs.Answers.{block_of}
use Rattle.precinct_geometry.specs.Spans.{place_of}
use Rattle.resync_decoder.specs.declared.found.Found as code
use Rattle.resync_decoder.specs.declared.found.Progress.TheVariants.{Begun, Read}
use Rattle.resync_decoder.specs.Finding.{Finds, found_by}
use Rattle.resync_decoder.proofs.Looks.{within, header_found, progress_is}
use Rattle.resync_decoder.proofs.found.Finder.find.Goals as goal

pub returns-in-Unread-clause-within : goal.returns-in-Unread-clause-within
returns-in-Unread-clause-within c = within c.args.geometry.now (place_of c.args.place) c.args.bytes.now c.begin.result c.begin.new.self.reader.blocks (λ i. omega (arith, c.type_inv.bytes i)) c.begin.ensures.found

pub returns-in-Begun-clause-within : goal.returns-in-Begun-clause-within
returns-in-Begun-clause-within c =
    let part = progress_is c.args.self.now.progress (Begun c.in-Begun.fed) c.args.self.now.reader c.args.geometry.now (place_of c.args.place) c.args.bytes.now c.in-Begun.is c.requires.so_far in
    within c.args.geometry.now (place_of c.args.place) c.args.bytes.now c.go_on.result c.go_on.new.self.reader.blocks (λ i. omega (arith, c.type_inv.bytes i)) (c.go_on.ensures.found c.args.geometry.now (place_of c.args.place) part)

pub returns-in-Read-clause-found : goal.returns-in-Read-clause-found
returns-in-Read-clause-found c =
    let r = c.args.self.now.reader in
    let k = progress_is c.args.self.now.progress (Read c.in-Read.used) r c.args.geometry.now (place_of c.args.place) c.args.bytes.now c.in-Read.is c.requires.so_far in
    let P : code.Found → Type 0 = λ x. Finds (found_packet c.args.geometry.now (place_of c.args.place) c.args.bytes.now) x r.blocks in
    let judged = c.judge.ensures ∙ ap (λ l. found_by (c.in-Read.used + segment_bytes (map block_of l)) c.in-Read.used (length c.args.bytes.now)) c.blocks-in-Read.ensures in
    subst P (sym judged) (header_found c.args.geometry.now (place_of c.args.place) r c.in-Read.used c.args.bytes.now k)

pub returns-in-Read-clause-within : goal.returns-in-Read-clause-within
returns-in-Read-clause-within c = within c.args.geometry.now (place_of c.args.place) c.args.bytes.now c.judge.result c.args.self.now.reader.blocks (λ i. omega (arith, c.type_inv.bytes i)) (returns-in-Read-clause-found c)
