-- How the definitions choose: one test a line, the first that holds; and the paper's table of numbers as a list of
-- rules.
use Rattle.std.specs.Prelude.{ℕ, zero, suc, Bool, true, ◌&&◌, List, [], ◌∷◌, if◌then◌else◌}

-- the test holds at every number below n
abbrev pub every : (test : ℕ → Bool) → (n : ℕ) → Bool
every test zero = true
every test (suc n) = test n && every test n

-- a number of the paper's table, and whether its condition applies
pub record Rule : Type 0 where
  pub number : ℕ
  pub applies : Bool

infix 70 ◌when◌
abbrev pub ◌when◌ : ℕ → Bool → Rule
number when applies = record { number = number; applies = applies }

-- the number of the first rule that applies; 0, done, where none does
unfoldable pub given : List Rule → ℕ
given [] = 0
given (rule ∷ rest) = if rule.applies then rule.number else given rest
