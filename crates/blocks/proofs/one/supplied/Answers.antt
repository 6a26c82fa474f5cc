-- `blocks::one::supplied` meets its contract: fetched, and masked or as they are, or not.
use Rattle.word.proofs.Base.{refl}
use Rattle.word.proofs.ChoiceLaws.{and_left}
use Rattle.block.proofs.EachLaws.{each-self}
use Rattle.blocks.specs.Inner.Block.{masked_at, Each, level_at}
use Rattle.blocks.proofs.SuppliedLaws.{given-fetched, given-unfetched}
use Rattle.blocks.proofs.one.supplied.Goals as goal

pub rows-requires : goal.rows-requires
rows-requires c = (c.requires.lies (and_left _ _ c.if-source.true)).lies

pub returns-in-Some : goal.returns-in-Some
unfolding Each masked_at level_at
returns-in-Some c = rw c.in-Some.is (given-fetched _ c.if-source.true (rw c.in-Some.is at c.requires) c.rows.ensures c.mask.ensures)

pub returns-in_default : goal.returns-in_default
unfolding Each
returns-in_default c = rw c.in_default.is (given-fetched _ c.if-source.true (rw c.in_default.is at c.requires) c.rows.ensures (each-self _ _))

pub returns : goal.returns
returns c = given-unfetched _ _ refl refl c.if-source.false c.requires
