-- `blocks::one::made` meets its contract: the words stand ready, or they are made. The facts are named, for `search` reads too few.
use Rattle.word.proofs.Base.{arith, rules}
use Rattle.blocks.proofs.RepeatsLaws.{made-ready}
use Rattle.blocks.proofs.one.made.Goals as goal

pub returns-then-ready : goal.returns-then-ready
returns-then-ready c = made-ready c.requires.0 c.requires.1 (c.requires.2 c.if-ready.true)

pub sources-sources-requires : goal.sources-sources-requires
sources-sources-requires c = (c.needs-need.ensures, c.requires.0, c.requires.1)

pub finals-carry-requires : goal.finals-carry-requires
finals-carry-requires c = let fits = c.requires.0 in let need = c.needs-need.ensures in search rules

pub last_words-earlier-requires : goal.last_words-earlier-requires
last_words-earlier-requires c = c.requires.0.placed.some

pub overflow_mul-size : goal.overflow_mul-size
overflow_mul-size c = omega (arith, c.requires.0.room)

pub still_nought-allzero-requires : goal.still_nought-allzero-requires
still_nought-allzero-requires c = c.requires.0.room

pub returns : goal.returns
returns c = let given = c.sources-sources.ensures in
    let end = c.finals-carry.ensures in
    let last = c.last_words-earlier.ensures in
    search rules
