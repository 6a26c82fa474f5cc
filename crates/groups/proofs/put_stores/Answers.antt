use Rattle.word.proofs.Base.{◌≡◌, arith, rules, length}
use Rattle.groups.proofs.StoresLaws.{put-stores-turn, put-stores-end-turn, put-stores-room-turn, put-stores-done, put-stores-end-done}
use Rattle.groups.proofs.put_stores.Goals as goal

pub loop-rest-preserved : goal.loop-rest-preserved
loop-rest-preserved c =
    let count = c.neighbours-count.ensures in
    let group = c.put_group.ensures in
    let so_far = c.loop-rest.invariant in (
      put-stores-turn _ _ count.0 count.1 count.2 _ _ _ _ _ so_far.0 group.words group.place,
      put-stores-end-turn _ _ count.0 count.1 count.2 _ _ _ so_far.1 group.place,
      put-stores-room-turn _ _ count.0 count.1 count.2 _ _ so_far.2 group.place,
      search rules,
      search rules,
    )

pub returns-clause-words : goal.returns-clause-words
returns-clause-words c = let none : length c.loop-rest.rest.now ≡ 0 = omega arith in
    put-stores-done _ _ _ _ none c.loop-rest.invariant.0

pub returns-clause-place : goal.returns-clause-place
returns-clause-place c = let none : length c.loop-rest.rest.now ≡ 0 = omega arith in
    put-stores-end-done _ _ _ none c.loop-rest.invariant.1
