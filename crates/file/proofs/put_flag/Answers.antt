-- `file::put_flag` meets its contract: 1 or 0.
use Rattle.word.proofs.Base.{rules}
use Rattle.file.specs.Pointers.{put_flag}
use Rattle.file.proofs.put_flag.Goals as goal

pub returns : goal.returns
unfolding put_flag
returns c = search rules
