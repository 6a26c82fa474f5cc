-- Texts as the bytes of their letters.
use Rattle.std.specs.Prelude.{ℕ, List, [], ◌∷◌, ◌++◌}
use Prim.Native.Char.{code}
use Prim.Native.String.{String, [] as no_letter, ◌∷◌ as ◌before◌}

abbrev pub bytes : (text : String) → List ℕ
bytes no_letter = []
bytes (letter before rest) = code letter ∷ bytes rest

-- the bytes of one text after the other
abbrev pub all_bytes : (texts : List String) → List ℕ
all_bytes [] = []
all_bytes (text ∷ rest) = bytes text ++ all_bytes rest
