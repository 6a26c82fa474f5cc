-- `beam::line_below` meets its contract: it compares the high bytes.
use Rattle.beam.proofs.SatisfiedLaws.{line_below-of-mask}
use Rattle.beam.proofs.line_below.Goals as goal

pub returns : goal.returns
returns c = search line_below-of-mask
