-- Paper 01, "Folding": "A settled 058 write becomes its stores in the blit's order, writes of 054 and 056 with the
-- final D pointer, then the flag step."
use Rattle.std.specs.Prelude.{ℕ, ◌+◌, Bool, List, [], ◌∷◌, ◌++◌, if◌then◌else◌}
use Rattle.word.specs.declared.types.Pointer.{Pointer}
use Rattle.word.specs.Pointer.{high, low}
use Rattle.stores.specs.Stores.{Store, stores, all_zero, final_d}

-- "store: 8000 to 8007 (last digit the high half), low half, value"
abbrev pub store_words : (to : Pointer) → (value : ℕ) → List ℕ
store_words to value = (0x8000 + high to) ∷ low to ∷ value ∷ []

-- the store steps of a list of stores
unfoldable pub stores_words : List Store → List ℕ
stores_words [] = []
stores_words (one ∷ rest) = store_words one.to one.value ++ stores_words rest

-- "writes of 054 and 056 with the final D pointer"
abbrev pub pointer_words : Pointer → List ℕ
pointer_words pointer = 0x0054 ∷ high pointer ∷ 0x0056 ∷ low pointer ∷ []

-- "flag: C000 or C001"
abbrev pub flag_words : (allzero : Bool) → List ℕ
flag_words allzero = (if allzero then 0xC001 else 0xC000) ∷ []

unfoldable pub settled_words : (file : List ℕ) → (size : ℕ) → List ℕ
settled_words file size =
    stores_words (stores file size)
    ++ (pointer_words (final_d file size)
    ++ flag_words (all_zero (stores file size)))
