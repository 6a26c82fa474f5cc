-- `playfield::lay_planes` meets its contract: each turn lays one plane more, whose pixels are the numbers' next bit.
use Rattle.playfield.specs.Playfield.{playfield}
use Rattle.playfield.specs.Inner.Numbers.{Numbered}
use Rattle.playfield.proofs.lay_planes.Given as goal

abbrev pub invariant-loop-place : goal.invariant-loop-place
invariant-loop-place l = Numbered l.ram (playfield l.field.planes.now l.field.words l.field.odd l.field.even) l.place l.numbers
