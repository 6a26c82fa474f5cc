use Rattle.word.proofs.Base.{◌≡◌, ap, ℕ, ◌+◌, Bool, ◌&&◌, eqb, List, get_or}
use Rattle.word.specs.Choice.{every}
use Rattle.word.proofs.ChoiceLaws.{every-next, every-done}
use Rattle.file.specs.File.{kept, kept_at}
use Rattle.file.proofs.keeps.Goals as goal

keeps-turn : (file : List ℕ) (at word : ℕ) (so_far : Bool) → word ≡ kept at (get_or file at 0) → so_far ≡ every (kept_at file) at
    → (so_far && eqb word (get_or file at 0)) ≡ every (kept_at file) (at + 1)
unfolding kept_at
keeps-turn file at word so_far holds same =
    every-next (kept_at file) at (eqb word (get_or file at 0)) so_far (ap (λ (this : ℕ). eqb this (get_or file at 0)) holds) same

pub loop-at-preserved : goal.loop-at-preserved
loop-at-preserved c = search keeps-turn

pub returns : goal.returns
returns c = search every-done
