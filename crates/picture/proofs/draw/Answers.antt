-- `picture::draw` meets its contract: the planes make the pixels' colour numbers, which are written as colours.
use Rattle.playfield.specs.Inner.Numbers.{room}
use Rattle.playfield.proofs.NumbersLaws.{zeros-small}
use Rattle.playfield.proofs.PlanesLaws.{numbered-small}
use Rattle.picture.proofs.PictureLaws.{with_line-of-numbers}
use Rattle.picture.proofs.draw.Goals as goal

pub lay_planes-requires : goal.lay_planes-requires
lay_planes-requires c = (c.requires.0, zeros-small room)

pub show-requires : goal.show-requires
show-requires c = let pre = c.requires in
    (pre.1, numbered-small _ _ _ 5 _ pre.0.planes c.lay_planes.ensures, pre.0.words, pre.2)

pub returns : goal.returns
returns c = search with_line-of-numbers
