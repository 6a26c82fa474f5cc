-- `block::needs::needs` meets its contract, source by source.
use Rattle.block.proofs.needs.needs.Goals as goal

pub returns : goal.returns
returns c = rw (c.differs.ensures, c.differs-2.ensures, c.differs-3.ensures)
