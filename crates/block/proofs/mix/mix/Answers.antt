-- `block::mix::mix` meets its contract: a source that is ignored may be any word.
use Rattle.word.proofs.Base.{◌&&◌, ◌||◌, rules}
use Rattle.word.proofs.ChoiceLaws.{or_left, or_right}
use Rattle.block.proofs.MixLaws.{mix-of-three, mix-of-a, mix-of-b, mix-of-c}
use Rattle.block.proofs.mix.mix.Goals as goal

pub returns-then-need : goal.returns-then-need
returns-then-need c = mix-of-three _ _ _ _ _ _ _ _ c.requires.0 c.terms-by.ensures (λ j below. let is = c.each.ensures j below in search rules)

pub returns-then-need-2 : goal.returns-then-need-2
returns-then-need-2 c = let need = c.args.need in
    let others = rw c.if-need-2.true at (or_left (need.b && (need.a || need.c)) (need.a && need.c) c.if-need.false) in
    mix-of-b _ _ _ _ _ _ _ _ c.requires.0 c.terms-by.ensures (or_left _ _ others) (or_right need.a _ others)
    (λ j below. let is = c.each-then-need-2.ensures j below in search rules)

pub returns-then-need-3 : goal.returns-then-need-3
returns-then-need-3 c = let need = c.args.need in
    mix-of-a _ _ _ _ _ _ _ _ c.requires.0 c.terms-by.ensures c.if-need-2.false (rw c.if-need-3.true at (or_right (need.b && (need.a || need.c)) _ c.if-need.false))
    (λ j below. let is = c.each-then-need-3.ensures j below in search rules)

pub returns-else-need-3 : goal.returns-else-need-3
returns-else-need-3 c =
    mix-of-c _ _ _ _ _ _ _ _ c.requires.0 c.terms-by.ensures c.if-need-3.false c.if-need-2.false
    (λ j below. let is = c.each-else-need-3.ensures j below in search rules)
