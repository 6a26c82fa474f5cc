-- `by_word::smear::smeared` meets its contract: each turn fetches a word, makes it and stores it.
use Rattle.word.proofs.Base.{◌≡◌, ◌-◌, ◌≤◌, length}
use Rattle.by_word.specs.Inner.Smear.{smeared_word, SmearedBy}
use Rattle.by_word.proofs.smear.smeared.Given as goal

abbrev pub invariant-loop-i : goal.invariant-loop-i
invariant-loop-i l = (l.i ≤ l.n) × (length l.ram ≡ length l.initial.ram) × SmearedBy (smeared_word l.terms l.by) l.a l.d l.i l.earlier l.initial.ram l.ram l.last l.zero

abbrev pub decreases-loop-i : goal.decreases-loop-i
decreases-loop-i l = l.n - l.i
