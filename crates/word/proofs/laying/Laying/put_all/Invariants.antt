-- `word::laying::Laying::put_all` meets its contract: what is left to lay from here gives what the whole gives.
use Rattle.word.proofs.Base.{◌≡◌, ◌+◌, drop}
use Rattle.word.specs.Laid.{laid}
use Rattle.word.proofs.laying.Laying.put_all.Given as goal

abbrev pub invariant-loop-word : goal.invariant-loop-word
invariant-loop-word g l = (laid (drop l.word-index l.words) l.self.at l.self.run.now ≡ laid l.words l.initial.self.at l.initial.self.run.now)
    × (l.self.at ≡ l.initial.self.at + l.word-index)
    × (l.self.run.ghost_name ≡ l.initial.self.run.ghost_name)
