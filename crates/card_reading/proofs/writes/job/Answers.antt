use Rattle.word.proofs.Base.{rules}
use Rattle.card_reading.proofs.JobLaws.{writes-turn, writes-done}
use Rattle.card_reading.proofs.writes.job.Goals as goal

pub loop-step-preserved : goal.loop-step-preserved
loop-step-preserved c = let step = c.write_step.ensures in
    (writes-turn _ _ _ _ _ _ _ _ (search rules) step.words step.place c.loop-step.invariant.0, search rules, search rules)

pub returns : goal.returns
returns c = let done = writes-done _ _ _ _ _ _ (search rules) c.loop-step.invariant.0 in search (rules, done)
