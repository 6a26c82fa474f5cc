-- `engine::area_blit` meets its contract: by blocks or word by word, as the test says.
use Rattle.word.proofs.Base.{arith}
use Rattle.block.proofs.PlaceLaws.{some-rows}
use Rattle.engine.proofs.EngineLaws.{words-le, known_of}
use Rattle.engine.proofs.area_blit.Goals as goal

pub overflow_mul-width : goal.overflow_mul-width
overflow_mul-width c = omega (arith, words-le c.args.width c.args.height c.requires.3 c.requires.5)

pub rows_at_once-most-requires : goal.rows_at_once-most-requires
rows_at_once-most-requires c = known_of _ _ _ _ _ (c.worth_a_block.ensures c.if-worth_a_block.true) c.strides-far.ensures c.requires.0 c.requires.1 c.requires.2 c.requires.3 c.requires.4 c.requires.5 c.requires.6 c.requires.7 c.requires.8 c.requires.9 c.requires.10

pub overflow_mul-most : goal.overflow_mul-most
overflow_mul-most c = omega (arith, c.rows_at_once-most.ensures.0)

pub blocks-requires : goal.blocks-requires
blocks-requires c = let told = c.rows_at_once-most.ensures in
    let some = some-rows c.rows_at_once-most.result c.args.width (omega (arith, c.if-most-size-ge2.true)) in
    ((told.1 some).0, (told.1 some).1, some, told.0, c.if-most-size-ge2.true, c.requires.5, c.requires.11)

pub smears-requires : goal.smears-requires
smears-requires c = known_of _ _ _ _ _ (c.worth_a_block.ensures c.if-worth_a_block.true) c.strides-far.ensures c.requires.0 c.requires.1 c.requires.2 c.requires.3 c.requires.4 c.requires.5 c.requires.6 c.requires.7 c.requires.8 c.requires.9 c.requires.10

pub smear-requires : goal.smear-requires
smear-requires c = (known_of _ _ _ _ _ (c.worth_a_block.ensures c.if-worth_a_block.true) c.strides-far.ensures c.requires.0 c.requires.1 c.requires.2 c.requires.3 c.requires.4 c.requires.5 c.requires.6 c.requires.7 c.requires.8 c.requires.9 c.requires.10, c.smears.ensures c.if-smears.true, c.requires.11)
