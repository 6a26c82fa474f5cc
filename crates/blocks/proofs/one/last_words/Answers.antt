-- `blocks::one::last_words` meets its contract: in a row of one word the last is the first.
use Rattle.blocks.proofs.BlockLaws.{last-masked}
use Rattle.blocks.proofs.one.last_words.Goals as goal

pub returns : goal.returns
returns c = last-masked c.args.setup c.args.width c.args.last c.requires c.masked-a.ensures
