-- Paper 02, W11: "gathers a settled blit's stores, in order, into the longest groups of neighbouring rising addresses".
-- Laid out again the groups are the stores, no two neighbours could be joined, and no other groups are so.
use Rattle.std.specs.Prelude.{ℕ, ◌+◌, ◌≡◌, Bool, true, not, ◌&&◌, List, [], ◌∷◌, ◌++◌, eqb, leb, length}
use Rattle.stores.specs.Stores.{Store, store}
use Rattle.groups.specs.Gather.{Group, gathered}

-- the stores of values "for rising addresses"
unfoldable pub rising : (to : ℕ) → (values : List ℕ) → List Store
rising to [] = []
rising to (value ∷ rest) = store (record { word = to }) value ∷ rising (to + 1) rest

-- groups laid out again, one after the other
unfoldable pub laid_out : List Group → List Store
laid_out [] = []
laid_out (one ∷ rest) = rising one.to.word one.values ++ laid_out rest

-- each has a value at least
unfoldable pub none_empty : List Group → Bool
none_empty [] = true
none_empty (one ∷ rest) = leb 1 (length one.values) && none_empty rest

-- groups behind an address: the first of them doesn't begin there, nor the next where it ends
unfoldable pub apart_from : (end : ℕ) → List Group → Bool
apart_from end [] = true
apart_from end (one ∷ rest) = not (eqb end one.to.word) && apart_from (one.to.word + length one.values) rest

-- no two neighbours could be joined
unfoldable pub apart : List Group → Bool
apart [] = true
apart (one ∷ rest) = apart_from (one.to.word + length one.values) rest

-- the longest groups of a list of stores
pub record Longest (list : List Store) (groups : List Group) : Type 0 where
  pub keeps : laid_out groups ≡ list
  pub some : none_empty groups ≡ true
  pub apart : apart groups ≡ true

pub record GathersTheLongest : Type 0 where
  pub gathers : (list : List Store) → Longest list (gathered list)
  pub only : (list : List Store) (groups : List Group) → Longest list groups → groups ≡ gathered list
