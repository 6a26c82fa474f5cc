-- `groups::put_stores` meets its contract: what remains from here gives what the whole gives.
use Rattle.word.proofs.Base.{◌≡◌, ◌+◌, ◌*◌, ◌<◌, ◌≤◌, length, take}
use Rattle.word.specs.Laid.{laid}
use Rattle.groups.specs.Words.{stores_words}
use Rattle.groups.proofs.put_stores.Given as goal

abbrev pub invariant-loop-rest : goal.invariant-loop-rest
invariant-loop-rest l = (laid (stores_words l.rest) l.out.at l.out.run.now
    ≡ laid (stores_words (take l.many l.run)) l.initial.out.at l.initial.out.run.now)
    × (l.out.at + length (stores_words l.rest) ≡ l.initial.out.at + length (stores_words (take l.many l.run)))
    × (l.out.at + 3 * length l.rest < 1000200)
    × (length l.rest ≤ 64)
    × (l.out.run.ghost_name ≡ l.initial.out.run.ghost_name)

abbrev pub decreases-loop-rest : goal.decreases-loop-rest
decreases-loop-rest l = length l.rest
