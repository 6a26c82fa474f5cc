-- The places and the values of stores, and the step of those for rising addresses.
use Rattle.std.specs.Prelude.{ℕ, List, [], ◌∷◌, map}
use Rattle.stores.specs.Stores.{Store}
use Rattle.groups.specs.Words.{step_words}

-- the word numbers of stores, and their values
abbrev pub places : List Store → List ℕ
places list = map (λ (one : Store). one.to.word) list

abbrev pub values : List Store → List ℕ
values list = map (λ (one : Store). one.value) list

-- their step, where they rise one by one
unfoldable pub group_step : List Store → List ℕ
group_step [] = []
group_step (one ∷ rest) = step_words one.to (values (one ∷ rest))
