-- `runner::steps::run_steps` meets its contract: what is left of the job from here gives what the whole gives.
use Rattle.word.proofs.Base.{◌≡◌, ◌-◌, ◌*◌, ◌≤◌, false, length}
use Rattle.runner.specs.Run.{machine, run_from}
use Rattle.runner.proofs.RunLaws.{run_at}
use Rattle.runner.proofs.steps.run_steps.Given as goal

abbrev pub invariant-loop-step : goal.invariant-loop-step
invariant-loop-step l = (run_at l.job l.place (machine l.ram l.file l.done.stored l.done.round) ≡ run_from 0 l.job (machine l.initial.ram l.initial.file 0 false))
    × (l.done.stored ≤ l.place * 65536)
    × (l.place ≤ length l.job)
    × (length l.ram ≡ length l.initial.ram)
    × (length l.file ≡ length l.initial.file)

abbrev pub decreases-loop-step : goal.decreases-loop-step
decreases-loop-step l = length l.job - l.place
