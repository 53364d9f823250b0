-- The page has the P line at first, and what is left on it is written at the end.
use Rattle.std.proofs.Common.{◌≡◌, ◌++◌, ℕ, List, [], sym, ◌∙◌, ap}
use Rattle.std.proofs.lemmas.List.{append-nil}
use Rattle.stream_model.specs.Report.{precinct_line, block_lines}
use Rattle.precinct_report.specs.Lines.{precinct_of}
use Rattle.scl_outside.proofs.Putting.{puts_same}
use Rattle.precinct_report.proofs.Gathered.{puts_page}
use Rattle.precinct_report.proofs.lines.write_precinct.Goals as goal

pub returns-in-WriteFault : goal.returns-in-WriteFault
returns-in-WriteFault g c =
    let x = precinct_of c.args.precinct.now in
    let lines = block_lines x.blocks x.bytes in
    let all : c.push_precinct.new.page ++ lines ≡ (precinct_line x ++ lines) ++ [] = ap (λ (l : List ℕ). l ++ lines) c.push_precinct.ensures ∙ sym (append-nil (precinct_line x ++ lines)) in
    (c.in-WriteFault.ensures.0, puts_same _ _ _ _ _ _ all c.in-WriteFault.ensures.1.gives)

pub returns : goal.returns
returns g c =
    let x = precinct_of c.args.precinct.now in
    let lines = block_lines x.blocks x.bytes in
    let all : c.push_precinct.new.page ++ lines ≡ (precinct_line x ++ lines) ++ [] = ap (λ (l : List ℕ). l ++ lines) c.push_precinct.ensures ∙ sym (append-nil (precinct_line x ++ lines)) in
    let text = puts_same _ _ _ _ _ _ c.text.ensures c.put.ensures.1 in
    (c.in-Done.ensures.0 ++ c.put.ensures.0, puts_same _ _ _ _ _ _ all (puts_page lines _ _ _ _ _ _ _ _ c.in-Done.ensures.1 text))
