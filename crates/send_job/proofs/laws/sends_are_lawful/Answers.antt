use Rattle.send_job.proofs.laws.sends_are_lawful.Goals as goal

pub returns : goal.returns
returns c = λ settings plan. c.sent_inputs_are_lawful.ensures settings.plan plan
