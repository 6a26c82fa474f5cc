use Rattle.word.proofs.Base.{refl, rules}
use Rattle.picture.specs.Inner.Painted.{number_colour}
use Rattle.picture.proofs.PaintedLaws.{painted-none, painted-turn, painted-done}
use Rattle.picture.proofs.show.show.Goals as goal

pub loop-pixel-init : goal.loop-pixel-init
loop-pixel-init c = painted-none _ _

pub loop-pixel-preserved : goal.loop-pixel-preserved
unfolding number_colour
loop-pixel-preserved c = painted-turn _ _ _ _ _ c.loop-pixel.invariant refl

pub returns : goal.returns
returns c = painted-done _ _ _ _ _ (search rules) (search rules) c.loop-pixel.invariant
