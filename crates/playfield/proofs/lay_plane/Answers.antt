use Rattle.word.proofs.Base.{◌≡◌, rules, arith}
use Rattle.playfield.proofs.NumbersLaws.{grown-none}
use Rattle.playfield.proofs.PlanesLaws.{words_pixel-none, words_pixel-lt, grown-small, plane-turn}
use Rattle.playfield.proofs.lay_plane.Goals as goal

pub loop-word-init : goal.loop-word-init
loop-word-init c = grown-none _ _ _ (search rules) (words_pixel-none _ _ _)

pub lay_word-requires : goal.lay_word-requires
lay_word-requires c = let so_far = c.loop-word.invariant in
    let pre = c.requires in
    (search rules, search rules, grown-small _ 15 31 _ _ _ (words_pixel-lt _ _ _ _) (search rules) pre.4 so_far)

pub loop-word-preserved : goal.loop-word-preserved
loop-word-preserved c = plane-turn _ _ _ _ _ _ _ _ c.loop-word.invariant c.lay_word.ensures

pub returns : goal.returns
returns c = let all : c.loop-word.word ≡ c.args.words = omega arith in rw all at c.loop-word.invariant
