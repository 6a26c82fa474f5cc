-- `picture::picture` meets its contract: each test is a rule of the list, in the list's order, and the line is drawn where
-- none applies.
use Rattle.word.proofs.Base.{ap, not, rules}
use Rattle.picture.proofs.PictureLaws.{picture-of-memory_size, picture-of-file, picture-of-playfield, picture-of-too_short}
use Rattle.picture.proofs.PictureLaws.{picture-of-leaves, picture-when-done, drawable-when-passed, file-length-told}
use Rattle.picture.proofs.picture.Goals as goal

pub returns-then-memory_size : goal.returns-then-memory_size
returns-then-memory_size c = search picture-of-memory_size

pub returns-then-not-accepted : goal.returns-then-not-accepted
returns-then-not-accepted c = search picture-of-file

pub returns-then-bad_playfield : goal.returns-then-bad_playfield
returns-then-bad_playfield c = search picture-of-playfield

pub returns-then-out-field : goal.returns-then-out-field
returns-then-out-field c = search picture-of-too_short

pub returns-then-not-all_inside : goal.returns-then-not-all_inside
returns-then-not-all_inside c = search picture-of-leaves

pub draw-requires : goal.draw-requires
draw-requires c = (
  drawable-when-passed _ _ _ _ c.bad_playfield.ensures c.if-bad_playfield.false
      c.all_inside.ensures (ap not c.if-not-all_inside.false),
  search file-length-told,
  search rules,
)

pub returns : goal.returns
returns c = search picture-when-done
