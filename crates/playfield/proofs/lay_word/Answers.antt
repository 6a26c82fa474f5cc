use Rattle.word.proofs.Base.{◌≡◌, refl, arith, rules}
use Rattle.playfield.proofs.NumbersLaws.{word_pixel-none, grown-none, word_sum, word-turn}
use Rattle.playfield.proofs.lay_word.Goals as goal

pub loop-pixel-init : goal.loop-pixel-init
loop-pixel-init c = grown-none _ _ _ (search rules) (word_pixel-none _ _)

pub overflow_add-numbers : goal.overflow_add-numbers
overflow_add-numbers c = omega (
  arith,
  word_sum _ _ _ _ _ _ c.loop-pixel.invariant _ 31 _
      refl c.requires.2 c.share.ensures,
)

pub loop-pixel-preserved : goal.loop-pixel-preserved
loop-pixel-preserved c = word-turn _ _ _ _ _ _ c.loop-pixel.invariant _ _ _
    refl (search rules) c.share.ensures refl

pub returns : goal.returns
returns c = let all : c.loop-pixel.pixel ≡ 16 = omega arith in rw all at c.loop-pixel.invariant
