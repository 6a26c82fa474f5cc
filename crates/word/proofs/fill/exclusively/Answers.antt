-- `word::fill::exclusively` meets its contract: the carry handed on is the word's bit 15.
use Rattle.word.proofs.FillLaws.{exclusively-filled}
use Rattle.word.proofs.fill.exclusively.Goals as goal

pub returns : goal.returns
returns c = search exclusively-filled
