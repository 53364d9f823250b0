use Rattle.std.proofs.Common.{[], ◌∷◌, ◌++◌, ◌∙◌}
use Rattle.scl_outside.specs.Events.{Wrote, WriteFailed}
use Rattle.scl_outside.proofs.Putting.{puts_same, puts_wrote, puts_not}
use Rattle.recv_job.specs.Turns.{progress_of}
use Rattle.recv_job.proofs.Turned.{ends_with_line, ends_broken}
use Rattle.recv_job.proofs.link.write_end.Goals as goal

pub returns-in-WriteFault : goal.returns-in-WriteFault
returns-in-WriteFault g c = λ xs given.
    let e = c.in-WriteFault.ensures.ends xs (record { has_put = tt; has_given = given }) in
    (e.0, ends_broken xs (progress_of c.args.link.now) c.args.why _ _ e.0 e.1)

pub returns-in-Done-write : goal.returns-in-Done-write
returns-in-Done-write g c = λ xs given.
    let e = c.in-Done.ensures.ends xs (record { has_put = tt; has_given = given }) in
    let line = c.as_bytes.ensures.value ∙ (c.deref.ensures.0 ∙ c.line_of.ensures) in
    let put = puts_same _ _ _ _ _ _ line (puts_wrote c.as_bytes.result.now _ _ c.in-Done-write.ensures.step) in
    (e.0 ++ Wrote c.as_bytes.result.now ∷ [], ends_with_line xs (progress_of c.args.link.now) c.args.why _ _ _ _ e.0 _ e.1 put)

pub returns-in-Failed : goal.returns-in-Failed
returns-in-Failed g c = λ xs given.
    let e = c.in-Done.ensures.ends xs (record { has_put = tt; has_given = given }) in
    let line = c.as_bytes.ensures.value ∙ (c.deref.ensures.0 ∙ c.line_of.ensures) in
    let w = c.in-Failed.ensures.step in
    let put = puts_same _ _ _ _ _ _ line (puts_not c.as_bytes.result.now w.0 w.1 _ _ w.2 w.3) in
    (e.0 ++ WriteFailed w.0 ∷ [], ends_with_line xs (progress_of c.args.link.now) c.args.why _ _ _ _ e.0 _ e.1 put)
