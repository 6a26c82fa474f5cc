-- `blocks::all::repeats` meets its contract: no source is used, nothing is filled, and two blocks are done.
use Rattle.word.proofs.Base.{◌≡◌, sym, ℕ, ◌<◌, true, false, ◌||◌, ltb, ltb-true, rules}
use Rattle.word.specs.declared.types.Fill.TheVariants.{Off}
use Rattle.word.proofs.ChoiceLaws.{or_left, or_right}
use Rattle.area.specs.declared.types.Setup.{Setup}
use Rattle.block.proofs.EachLaws.{never}
use Rattle.blocks.specs.Inner.Repeats.{Still}
use Rattle.blocks.proofs.all.repeats.Goals as goal

still-of : (setup : Setup) (most row : ℕ) → (setup.uses.a || setup.uses.b || setup.uses.c) ≡ false → setup.fill ≡ Off → ltb most row ≡ true → Still setup × (most < row)
still-of setup most row none off past =
    let uses = setup.uses in
    let first = or_left (uses.a || uses.b) uses.c none in
    (record { a = or_left uses.a uses.b first; b = or_right uses.a uses.b first; c = or_right (uses.a || uses.b) uses.c none; off = off }, ltb-true most row past)

pub returns-then-uses : goal.returns-then-uses
returns-then-uses c told = never (sym told)

pub returns-in-Off : goal.returns-in-Off
returns-in-Off c = still-of _ _ _ (search rules) (search rules)

pub returns-in-Inclusive : goal.returns-in-Inclusive
returns-in-Inclusive c told = never (sym told)
