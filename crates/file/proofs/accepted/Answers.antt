-- `file::accepted` meets its contract: the length, then the flag, the colours and the words before them.
use Rattle.file.proofs.FileLaws.{accepted-of-length, accepted-of-parts}
use Rattle.file.proofs.accepted.Goals as goal

pub returns-then-file-ne-WORDS : goal.returns-then-file-ne-WORDS
returns-then-file-ne-WORDS c = search accepted-of-length

pub returns : goal.returns
returns c = search accepted-of-parts
