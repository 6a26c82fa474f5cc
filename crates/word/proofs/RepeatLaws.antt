-- Laws of a step done n times: a turn of a loop that counts down, its end, and what every step keeps.
use Rattle.word.proofs.Base.{◌≡◌, refl, ◌∙◌, ℕ, zero, suc, ◌-◌, ◌<◌, ◌≤◌, sub-one, arith}
use Rattle.word.specs.Repeat.{repeated}

pub repeated-turn : {State : Type 0} (step : ℕ → State → State) (n : ℕ) (now next whole : State)
    → 0 < n → next ≡ step (n - 1) now → repeated step n now ≡ whole → repeated step (n - 1) next ≡ whole
unfolding repeated
repeated-turn step zero now next whole more turn same = absurd (omega arith)
repeated-turn step (suc n) now next whole more turn same = rw (turn, sub-one) same

pub repeated-done : {State : Type 0} (step : ℕ → State → State) (n : ℕ) (now whole : State)
    → n ≤ 0 → repeated step n now ≡ whole → now ≡ whole
unfolding repeated
repeated-done step zero now whole none same = same
repeated-done step (suc n) now whole none same = absurd (omega arith)

-- what holds after a step if it held before holds after all the steps
pub repeated-holds : {State : Type 0} (step : ℕ → State → State) (Holds : State → Type 0)
    → ((remaining : ℕ) (state : State) → Holds state → Holds (step remaining state))
    → (n : ℕ) (state : State) → Holds state → Holds (repeated step n state)
unfolding repeated
repeated-holds step Holds again zero state holds = holds
repeated-holds step Holds again (suc n) state holds = repeated-holds step Holds again n (step n state) (again n state holds)

-- what every step keeps, all the steps keep
pub repeated-keeps : {State Part : Type 0} (step : ℕ → State → State) (part : State → Part)
    → ((remaining : ℕ) (state : State) → part (step remaining state) ≡ part state)
    → (n : ℕ) (state : State) → part (repeated step n state) ≡ part state
repeated-keeps step part keeps n state =
    repeated-holds step (λ now. part now ≡ part state) (λ remaining now same. keeps remaining now ∙ same) n state refl
