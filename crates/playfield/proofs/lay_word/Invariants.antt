-- `playfield::lay_word` meets its contract: each turn lays one bit more.
use Rattle.playfield.specs.Inner.Numbers.{word_pixel, Grown}
use Rattle.playfield.proofs.lay_word.Given as goal

abbrev pub invariant-loop-pixel : goal.invariant-loop-pixel
invariant-loop-pixel l = Grown l.weight (word_pixel l.word l.s l.pixel) l.initial.numbers l.numbers
