use Rattle.std.proofs.Common.{◌≤◌, ◌+◌, ◌++◌, ℕ, List, length, take, sym, ◌∙◌, ap, arith}
use Rattle.precinct_geometry.specs.Spans.{place_of}
use Rattle.codestream_make.proofs.Adding.{packet_gathered, packet_fits}
use Rattle.codestream_make.proofs.packets.Maker.put_packet.Goals as goal

pub returns-clause-gathered : goal.returns-clause-gathered
returns-clause-gathered c = λ all g.
    let first = c.in_ok-add.ensures all g in
    let header = ap (λ (l : List ℕ). take c.in_ok-len.len l) c.deref-3.ensures.value ∙ c.in_ok-len.ensures.written in
    packet_gathered c.add-2.new.self c.args.geometry.now (place_of c.args.place) c.args.plan.now c.deref.result.now all (take c.in_ok-len.len c.deref-3.result.now) c.deref-4.result.now
    header c.deref.ensures.value c.deref-4.ensures.value (c.in_ok-add-2.ensures (all ++ take c.in_ok-len.len c.deref-3.result.now) first)

pub returns-clause-fits : goal.returns-clause-fits
returns-clause-fits c =
    let there = c.have_bytes.ensures.0 c.if-not-have_bytes.false in
    let short : c.in_ok-len.len + c.len.result ≤ 16777216 = omega (arith, c.if-len.false, c.len.ensures, c.len-else-not-have_bytes.ensures, c.in_ok-len.ensures.within) in
    packet_fits c.args.geometry.now (place_of c.args.place) c.args.plan.now c.deref.result.now c.deref-2.result.now c.in_ok-len.len c.len.result
    c.in_ok-len.ensures.few c.in_ok-len.ensures.spelled c.in_ok-len.ensures.size c.deref.ensures.value there c.deref-2.ensures.value (c.len.ensures ∙ sym c.deref-4.ensures.len ∙ ap (λ (l : List ℕ). length l) c.deref-4.ensures.value) short
