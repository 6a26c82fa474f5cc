use Rattle.word.proofs.Base.{rules}
use Rattle.output.proofs.StoresLaws.{stores-turn, stores-end}
use Rattle.output.proofs.words.put_stores.Goals as goal

pub loop-store-preserved : goal.loop-store-preserved
loop-store-preserved c = let store = c.put_store.ensures in
    (stores-turn _ _ _ _ _ c.loop-store.invariant.0 _ _ _ c.loop-store-test.true store.words store.place, search rules, search rules)

pub returns-clause-words : goal.returns-clause-words
returns-clause-words c = search (rules, stores-end)
