-- Which of three a blit is to the folder: settled, kept for going round alone, or kept for another reason too.
use Rattle.std.specs.Prelude.{ℕ, Bool, List, Option, if◌then◌else◌}
use Rattle.settled.specs.declared.types.Fate.{Fate}
use Rattle.settled.specs.Settled.{settled, kept_for_round}

unfoldable pub fate : (n : ℕ) → (known : List (Option ℕ)) → (size : ℕ) → Fate
fate n known size =
    if settled n known size then Fate.Settled else
    if kept_for_round n known size then Fate.KeptForRound else
    Fate.Kept

-- by W12's condition, where every other holds
unfoldable pub by_round : (round : Bool) → Fate
by_round round = if round then Fate.KeptForRound else Fate.Settled
