-- `Pointer::on` meets its contract: a bounded word number moves as any other, and one test tells for both ways.
use Rattle.word.proofs.RoundLaws.{moved-on}
use Rattle.word.proofs.types.Pointer.on.Goals as goal

pub returns : goal.returns
returns c = moved-on c.args.words c.args.up c.args.self
