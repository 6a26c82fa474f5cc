-- `picture::show::show` meets its contract: each turn writes one pixel more.
use Rattle.word.proofs.Base.{◌≡◌}
use Rattle.picture.specs.Inner.Painted.{painted, number_colour}
use Rattle.picture.proofs.show.show.Given as goal

abbrev pub invariant-loop-pixel : goal.invariant-loop-pixel
invariant-loop-pixel l = l.out ≡ painted (number_colour l.file l.numbers) l.pixel l.initial.out
