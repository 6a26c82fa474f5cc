-- `folder::write::folded` meets its contract: what is left of the job from here gives what the whole gives.
-- The facts of a step are named by their paths: the structs hold more records than a search looks into.
use Rattle.word.proofs.Base.{◌≡◌, ◌-◌, length}
use Rattle.folder.proofs.FoldedLaws.{Stands}
use Rattle.folder.proofs.write.folded.Given as goal

abbrev pub invariant-loop-step : goal.invariant-loop-step
invariant-loop-step l = Stands l.n l.job l.out l.initial.words.run.now l.known.registers l.words.at l.from l.round l.words.run.now
    × (l.words.run.ghost_name ≡ l.initial.words.run.ghost_name)

abbrev pub decreases-loop-step : goal.decreases-loop-step
decreases-loop-step l = length l.job - l.from
