-- `blocks::all::blocks` meets its contract: the arrays of the sources at rest are laid, then the blocks run.
use Rattle.blocks.proofs.all.blocks.Goals as goal

pub block_by_block-requires : goal.block_by_block-requires
block_by_block-requires c = let pre = c.requires in
    (pre.0, pre.1, pre.2, pre.3, pre.4, pre.5, pre.6, record { a = c.rest.ensures; b = c.rest-2.ensures; c = c.rest-3.ensures })
