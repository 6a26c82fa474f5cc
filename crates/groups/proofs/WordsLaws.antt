-- Laws of the words of groups: how many there are.
use Rattle.word.proofs.Base.{◌≡◌, ap, ℕ, ◌*◌, ◌≤◌, arith, List, [], ◌∷◌, ◌++◌, length, length-append, take, drop}
use Rattle.word.specs.declared.types.Pointer.{Pointer}
use Rattle.stores.specs.Stores.{Store}
use Rattle.groups.specs.Gather.{Group, gathered}
use Rattle.groups.specs.Words.{step_words, groups_words, stores_words}
use Rattle.groups.specs.Inner.Values.{places, values}
use Rattle.groups.specs.Inner.Leading.{leading}
use Rattle.groups.proofs.GatherLaws.{groups_count, gathered-count, gathered-of-leading}

-- a step has at most the words that its values would have as stores
pub step_words-length-le : (to : Pointer) (values : List ℕ) → length (step_words to values) ≤ 3 * length values
unfolding step_words
step_words-length-le to [] = omega arith
step_words-length-le to (value ∷ []) = omega arith
step_words-length-le to (first ∷ second ∷ rest) = omega arith

groups_words-length-le : (groups : List Group) → length (groups_words groups) ≤ 3 * groups_count groups
unfolding groups_words groups_count
groups_words-length-le [] = omega arith
groups_words-length-le (one ∷ rest) =
    omega (
      arith,
      length-append (step_words one.to one.values) (groups_words rest),
      step_words-length-le one.to one.values,
      groups_words-length-le rest,
    )

pub stores_words-length-le : (list : List Store) → length (stores_words list) ≤ 3 * length list
unfolding stores_words
stores_words-length-le list = omega (arith, groups_words-length-le (gathered list), gathered-count list)

-- a list's words begin with the step of the stores that lead
pub stores_words-of-leading : (list : List Store) (one : Store) (rest : List Store) → list ≡ one ∷ rest
    → stores_words list
    ≡ step_words one.to (take (leading (places list)) (values list))
    ++ stores_words (drop (leading (places list)) list)
unfolding stores_words groups_words
stores_words-of-leading list one rest is = rw is (ap groups_words (gathered-of-leading one rest))
