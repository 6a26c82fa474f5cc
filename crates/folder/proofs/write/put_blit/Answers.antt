-- `folder::write::put_blit` meets its contract: the words of the known numbers' file, and where the blit leaves D's pointer.
use Rattle.folder.proofs.PutLaws.{put-blit-of-parts, put-blit-end, settled-known-of-parts}
use Rattle.folder.proofs.write.put_blit.Goals as goal

pub returns-clause-words : goal.returns-clause-words
returns-clause-words c = search put-blit-of-parts

pub returns-clause-place : goal.returns-clause-place
returns-clause-place c = search put-blit-end

pub returns-clause-learns : goal.returns-clause-learns
returns-clause-learns c = search settled-known-of-parts
