-- `copper::onward::onward` meets its contract: what is left from here gives what the whole gives.
use Rattle.word.proofs.Base.{◌≡◌, ◌-◌, length}
use Rattle.instruction.specs.Effect.{moment}
use Rattle.copper.specs.Frame.{onward}
use Rattle.copper.proofs.onward.onward.Given as goal

abbrev pub invariant-loop-done : goal.invariant-loop-done
invariant-loop-done l = (onward (l.lent - l.done) l.done (moment l.ram l.file l.here.beam l.here.word) ≡ onward l.lent 0 (moment l.initial.ram l.initial.file l.initial.here.beam l.initial.here.word))
    × (length l.ram ≡ length l.initial.ram)
    × (length l.file ≡ length l.initial.file)
