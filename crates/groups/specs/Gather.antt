-- Paper 02, W11: "The folder gathers a settled blit's stores, in order, into the longest groups of neighbouring rising
-- addresses". A lone store is a group of one value here; how it is written is said in Words.
use Rattle.std.specs.Prelude.{ℕ, ◌+◌, List, [], ◌∷◌, eqb, if◌then◌else◌}
use Rattle.word.specs.declared.types.Pointer.{Pointer}
use Rattle.stores.specs.Stores.{Store}

-- where a group's first word goes, and its values "for rising addresses"
pub record Group : Type 0 where
  pub to : Pointer
  pub values : List ℕ

abbrev pub group : (to : Pointer) → (values : List ℕ) → Group
group to values = record { to = to; values = values }

-- a store and the groups behind it: it is the first of a group that begins one word further on, and otherwise stands
-- alone. "An address doesn't wrap inside a group": the sum is a plain one, and no word stands at 262,144
unfoldable pub gather : Store → List Group → List Group
gather one [] = group one.to (one.value ∷ []) ∷ []
gather one (next ∷ rest) =
    if eqb (one.to.word + 1) next.to.word then group one.to (one.value ∷ next.values) ∷ rest else
    group one.to (one.value ∷ []) ∷ next ∷ rest

-- a blit's stores, "in order"
unfoldable pub gathered : List Store → List Group
gathered [] = []
gathered (one ∷ rest) = gather one (gathered rest)
