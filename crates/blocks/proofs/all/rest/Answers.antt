-- `blocks::all::rest` meets its contract: the word laid 64 times, then, if it is A's, masked in as many rows as fit.
use Rattle.word.proofs.Base.{rules}
use native.Mathlib.Nat.{div-mul-le_self}
use Rattle.blocks.proofs.SuppliedLaws.{rested-used, rested-level, rested-masked, rested-in-columns}
use Rattle.blocks.proofs.all.rest.Goals as goal

pub returns-then-used : goal.returns-then-used
returns-then-used c = rested-used (search rules)

pub returns-then-width-eq1 : goal.returns-then-width-eq1
returns-then-width-eq1 c = rw c.in-Some.is (rested-in-columns _ (search rules) c.level.ensures)

pub mask-requires : goal.mask-requires
mask-requires c = (search rules, div-mul-le_self 64 _)

pub returns-in-Some : goal.returns-in-Some
returns-in-Some c = rw c.in-Some.is (rested-masked _ _ c.requires.0 c.level-in-Some.ensures c.mask.ensures)

pub returns : goal.returns
returns c = rw c.in_default.is (rested-level c.level-2.ensures)
