use Rattle.word.proofs.Base.{◌≡◌, ap, ℕ, ◌+◌, Bool, ◌&&◌, leb, List, get_or}
use Rattle.word.specs.Choice.{every}
use Rattle.word.proofs.ChoiceLaws.{every-next, every-done}
use Rattle.picture.specs.Refusal.{inside}
use Rattle.picture.proofs.refuse.all_inside.Goals as goal

inside-turn : (n words place end : ℕ) (planes : List ℕ) (so_far : Bool) → end ≡ get_or planes place 0 + words
    → so_far ≡ every (inside n words planes) place → (so_far && leb end n) ≡ every (inside n words planes) (place + 1)
unfolding inside
inside-turn n words place end planes so_far is same =
    every-next (inside n words planes) place (leb end n) so_far (ap (λ (end : ℕ). leb end n) is) same

pub loop-start-preserved : goal.loop-start-preserved
loop-start-preserved c = search inside-turn

pub returns : goal.returns
returns c = search every-done
