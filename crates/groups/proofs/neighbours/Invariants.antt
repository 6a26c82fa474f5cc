-- `groups::neighbours` meets its contract: those counted and those that lead from here are all that lead.
use Rattle.word.proofs.Base.{◌≡◌, ◌+◌, drop}
use Rattle.groups.specs.Inner.Leading.{leading}
use Rattle.groups.specs.Inner.Values.{places}
use Rattle.groups.proofs.neighbours.Given as goal

abbrev pub invariant-loop-last : goal.invariant-loop-last
invariant-loop-last l = l.last + leading (places (drop l.last l.stores)) ≡ leading (places l.stores)
