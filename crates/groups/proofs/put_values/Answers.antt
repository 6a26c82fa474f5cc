use Rattle.word.proofs.Base.{rules}
use Rattle.groups.proofs.StoresLaws.{values-turn, values-end}
use Rattle.groups.proofs.put_values.Goals as goal

pub loop-store-preserved : goal.loop-store-preserved
loop-store-preserved c = let store = c.put.ensures in
    (values-turn _ _ _ _ _ c.loop-store.invariant.0 _ _ _ c.loop-store-test.true store.words store.place, search rules, search rules)

pub returns-clause-words : goal.returns-clause-words
returns-clause-words c = search (rules, values-end)
