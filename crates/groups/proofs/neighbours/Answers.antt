use Rattle.word.proofs.Base.{◌≡◌, ◌+◌, ◌<◌, arith, rules, length}
use Rattle.groups.proofs.LeadingLaws.{leading-turn, leading-stop, leading-end}
use Rattle.groups.proofs.neighbours.Goals as goal

pub returns-then-not-next_to : goal.returns-then-not-next_to
returns-then-not-next_to c = let more : c.loop-last.last + 1 < length c.args.stores.now = omega arith in
    (search (rules, leading-stop), search rules, search rules)

pub loop-last-preserved : goal.loop-last-preserved
loop-last-preserved c = let more : c.loop-last.last + 1 < length c.args.stores.now = omega arith in
    search (rules, leading-turn)

pub returns : goal.returns
returns c = let end : c.loop-last.last + 1 ≡ length c.args.stores.now = omega arith in
    (leading-end _ _ _ end c.loop-last.invariant, search rules, search rules)
