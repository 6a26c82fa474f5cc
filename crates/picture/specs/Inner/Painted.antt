-- Pixels written into a run one after the other, from its front on.
use Rattle.std.specs.Prelude.{ℕ, zero, suc, List, get_or, set}
use Rattle.picture.specs.Line.{colour}

unfoldable pub painted : (pixel : ℕ → ℕ) → (n : ℕ) → (run : List ℕ) → List ℕ
painted pixel zero run = run
painted pixel (suc n) run = set (painted pixel n run) n (pixel n)

-- the colour of the number that stands at pixel i of an array
unfoldable pub number_colour : (file numbers : List ℕ) → (i : ℕ) → ℕ
number_colour file numbers i = colour file (get_or numbers i 0)
