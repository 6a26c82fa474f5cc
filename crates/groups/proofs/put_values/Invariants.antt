-- `groups::put_values` meets its contract: the values that are left from here give what all give.
use Rattle.word.proofs.Base.{◌≡◌, ◌+◌, drop}
use Rattle.word.specs.Laid.{laid}
use Rattle.groups.specs.Inner.Values.{values}
use Rattle.groups.proofs.put_values.Given as goal

abbrev pub invariant-loop-store : goal.invariant-loop-store
invariant-loop-store l = (laid (values (drop l.store-index l.stores)) l.out.at l.out.run.now ≡ laid (values l.stores) l.initial.out.at l.initial.out.run.now)
    × (l.out.at ≡ l.initial.out.at + l.store-index)
    × (l.out.run.ghost_name ≡ l.initial.out.run.ghost_name)
