-- `apart::calm::ahead` meets its contract: behind, or so many steps ahead.
use Rattle.word.proofs.Base.{ℕ, ◌+◌, ◌-◌, ◌*◌, ◌/◌, ◌<◌, ◌≤◌, arith, rules}
use native.Mathlib.Nat.{le-div_iff_mul-le}
use mathlib.Core.Logic.{inl, inr}
use Rattle.apart.proofs.calm.ahead.Goals as goal

steps-in : (rows step behind front : ℕ) → 1 ≤ step → behind < front → rows ≤ (front - behind) / step → behind + rows * step ≤ front
steps-in rows step behind front some less few = omega (arith, (le-div_iff_mul-le {k = step} {x = rows} {y = front - behind} some).0 few)

pub returns-then-step-ge-INDEX_DOWNWARD : goal.returns-then-step-ge-INDEX_DOWNWARD
returns-then-step-ge-INDEX_DOWNWARD c = (omega arith, λ some. absurd (omega arith))

pub returns-then-step-width : goal.returns-then-step-width
returns-then-step-width c = (omega arith, λ some. absurd (omega arith))

pub returns-then-front-behind : goal.returns-then-front-behind
returns-then-front-behind c = (search rules, λ some. record { apart = omega arith; short = omega arith; order = inl c.if-front-behind.true })

pub returns : goal.returns
returns c = let few = c.min.ensures in
    (omega (arith, few), λ some. record { apart = omega arith; short = omega arith; order = inr (steps-in _ _ _ _ (omega arith) (omega arith) (omega (arith, few))) })
