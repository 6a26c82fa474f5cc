-- `output::words::put_stores` meets its contract: what remains from here gives what the whole gives.
use Rattle.word.proofs.Base.{◌≡◌, ◌+◌, ◌*◌, drop}
use Rattle.word.specs.Laid.{laid}
use Rattle.settled.specs.Words.{stores_words}
use Rattle.output.proofs.words.put_stores.Given as goal

abbrev pub invariant-loop-store : goal.invariant-loop-store
invariant-loop-store l = (laid (stores_words (drop l.store-index l.stores)) l.out.at l.out.run.now ≡ laid (stores_words l.stores) l.initial.out.at l.initial.out.run.now)
    × (l.out.at ≡ l.initial.out.at + 3 * l.store-index)
    × (l.out.run.ghost_name ≡ l.initial.out.run.ghost_name)
