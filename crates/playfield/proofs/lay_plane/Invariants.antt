-- `playfield::lay_plane` meets its contract: each turn lays one word more.
use Rattle.playfield.specs.Inner.Numbers.{words_pixel, Grown}
use Rattle.playfield.proofs.lay_plane.Given as goal

abbrev pub invariant-loop-word : goal.invariant-loop-word
invariant-loop-word l = Grown l.weight (words_pixel l.ram l.start l.delay l.word) l.initial.numbers l.numbers
