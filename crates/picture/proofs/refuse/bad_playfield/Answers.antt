-- `picture::refuse::bad_playfield` meets its contract: the four tests in the definition's order.
use Rattle.word.proofs.Base.{◌≡◌, ℕ, Bool, ◌||◌, ltb, List, length}
use Rattle.word.proofs.ChoiceLaws.{beyond-is-not-within}
use Rattle.playfield.specs.Playfield.{most_planes, most_words, most_delay, playfield}
use Rattle.picture.specs.Refusal.{bad, bad_playfield}
use Rattle.picture.proofs.refuse.bad_playfield.Goals as goal

bad_playfield-of-tests : (planes : List ℕ) (words odd even : ℕ) (few narrow : Bool) → few ≡ bad (length planes) most_planes → narrow ≡ bad words most_words
    → (((few || narrow) || ltb most_delay odd) || ltb most_delay even) ≡ bad_playfield (playfield planes words odd even)
unfolding bad_playfield
bad_playfield-of-tests planes words odd even few narrow of-planes of_words =
    rw (of-planes, of_words, beyond-is-not-within most_delay odd, beyond-is-not-within most_delay even)

pub returns : goal.returns
returns c = search bad_playfield-of-tests
