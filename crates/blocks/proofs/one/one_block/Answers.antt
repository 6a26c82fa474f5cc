-- `blocks::one::one_block` meets its contract: its words are those of a quiet blit of its rows. The facts are named, for `search` reads too few.
use Rattle.word.proofs.Base.{refl, arith, rules}
use Rattle.blocks.proofs.BlockLaws.{far_lt, lies-of, sized, made-as, block-is}
use Rattle.blocks.proofs.one.one_block.Goals as goal

pub source-d-requires : goal.source-d-requires
source-d-requires c = sized c.requires.0 c.requires.0.placed.d

pub store_words-requires : goal.store_words-requires
store_words-requires c = rw c.source-d.ensures.0 (λ uses. (c.source-d.ensures.1 (lies-of c.requires.0 c.requires.0.placed.d uses)).lies)

pub pointers_on-requires : goal.pointers_on-requires
pointers_on-requires c = let fits = c.requires.0 in
    let a = far_lt fits fits.placed.a in
    let b = far_lt fits fits.placed.b in
    let c = far_lt fits fits.placed.c in
    let d = far_lt fits fits.placed.d in
    search rules

pub overflow_mul-size : goal.overflow_mul-size
overflow_mul-size c = omega (arith, c.requires.0.room)

pub counted-requires : goal.counted-requires
counted-requires c = (c.requires.0.room, c.requires.1)

pub returns : goal.returns
returns c = let end = c.made-end.ensures in
    let is = block-is c.requires.0 end c.source-d.ensures.1 (rw c.source-d.ensures.0 at c.store_words.ensures) c.pointers_on.ensures c.counted.ensures refl in
    (is, made-as _ _ _ end)
