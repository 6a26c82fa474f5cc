-- `block::fill::exclusive` meets its contract: prefixes, then carries.
use Rattle.word.proofs.Base.{◌≡◌, ℕ, ◌<◌, ◌*◌, get_or, arith, rules}
use Rattle.word.specs.Fill.{exclusive}
use Rattle.block.specs.Inner.Each.{Each, prefix_at, at}
use Rattle.block.proofs.FillLaws.{exclusive-words, exclusive-carry}
use Rattle.block.proofs.fill.exclusive.Goals as goal

pub returns : goal.returns
unfolding Each prefix_at at
returns c =
    let some = c.requires.1 in
    let small = c.first_word.ensures in
    let all : (j : ℕ) → j < c.args.size.height * c.args.size.width → get_or c.each.new.x j 0 ≡ exclusive 0 (get_or c.args.o.now j 0) =
    λ j below. let is = c.each.ensures j (omega arith) in search rules in
    (exclusive-words _ _ _ _ _ _ _ some small all c.carry_rows-over.ensures, exclusive-carry _ _ _ _ _ _ _ some small all c.carry_rows-over.ensures, small)
