-- Every size has at least one word, since zero means 1,024 and 64: no blit is empty, and none is refused for it.
use Rattle.std.specs.Prelude.{ℕ, ◌*◌, ◌≤◌}
use Rattle.word.specs.Size.{height, width}

abbrev pub EverySizeHasAWord : Type 0
EverySizeHasAWord = (size : ℕ) → 1 ≤ height size * width size
