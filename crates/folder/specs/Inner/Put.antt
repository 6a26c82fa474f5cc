-- What laying a step leaves: what it becomes, in the run, the place behind it, what is known after it, and whether it is
-- kept for going round alone.
use Rattle.std.specs.Prelude.{ℕ, ◌+◌, ◌≤◌, ◌≡◌, Bool, List, Option, length}
use Rattle.word.specs.Laid.{laid}
use Rattle.job.specs.declared.types.Step.{Step}
use Rattle.folder.specs.Fold.{becomes, learned}
use Rattle.folder.specs.Kept.{keeps_for_round}

-- raw are the step's own words. A settled blit has at most 64 stores of three words, and five words behind them.
pub record Put (n : ℕ) (known : List (Option ℕ)) (step : Step) (raw : List ℕ) (at : ℕ)
    (run next : List ℕ) (end : ℕ) (after : List (Option ℕ)) (round : Bool) : Type 0 where
  pub lays : next ≡ laid (becomes n known step raw) at run
  pub counts : end ≡ at + length (becomes n known step raw)
  pub few : end ≤ at + 197
  pub learns : after ≡ learned n known step
  pub keeps : round ≡ keeps_for_round n known step
