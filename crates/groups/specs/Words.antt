-- Paper 01, "Jobs", and paper 02, W11: the words of a store and of a group, and those that a blit's stores become.
use Rattle.std.specs.Prelude.{ℕ, ◌+◌, List, [], ◌∷◌, ◌++◌, length}
use Rattle.word.specs.declared.types.Pointer.{Pointer}
use Rattle.word.specs.Pointer.{high, low}
use Rattle.stores.specs.Stores.{Store}
use Rattle.groups.specs.Gather.{Group, gathered}

-- "store: 8000 to 8007 (last digit the high half), low half, value"
abbrev pub store_words : (to : Pointer) → (value : ℕ) → List ℕ
store_words to value = (0x8000 + high to) ∷ low to ∷ value ∷ []

-- "9000 to 9007 with the high half, the low half, a count from 1 to 64, then that many values for rising addresses"
abbrev pub group_words : (to : Pointer) → (values : List ℕ) → List ℕ
group_words to values = (0x9000 + high to) ∷ low to ∷ length values ∷ values

-- a group as a step: "a lone one staying a single store"; none is empty
unfoldable pub step_words : (to : Pointer) → (values : List ℕ) → List ℕ
step_words to [] = []
step_words to (value ∷ []) = store_words to value
step_words to (first ∷ second ∷ rest) = group_words to (first ∷ second ∷ rest)

-- the steps of groups, in order
unfoldable pub groups_words : List Group → List ℕ
groups_words [] = []
groups_words (one ∷ rest) = step_words one.to one.values ++ groups_words rest

-- a blit's stores, gathered
unfoldable pub stores_words : List Store → List ℕ
stores_words list = groups_words (gathered list)
