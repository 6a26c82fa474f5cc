-- A step done n times, one after the other. The step is handed how many more come after it.
use Rattle.std.specs.Prelude.{ℕ, zero, suc}

unfoldable pub repeated : {State : Type 0} → (step : (remaining : ℕ) → State → State) → (n : ℕ) → State → State
repeated step zero state = state
repeated step (suc remaining) state = repeated step remaining (step remaining state)
