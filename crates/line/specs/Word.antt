-- Paper 01, "Kept for lines and Copper lists": the word of one dot, by the blit's own logic function. "A is its data ANDed
-- with BLTAFWM, moved right by its shift"; nothing comes in from the dot before.
use Rattle.std.specs.Prelude.{ℕ, ◌/◌, ◌^◌}
use Rattle.word.specs.Logic.{logic}
use Rattle.line.specs.declared.types.Line.{Line}
use Rattle.line.specs.declared.types.Dot.{Dot}
use Rattle.line.specs.Texture.{textured}

unfoldable pub dot_word : Line → Dot → (c : ℕ) → ℕ
dot_word line dot c =
    logic line.function (line.a / 2 ^ dot.spot.shift) (textured line.texture dot.bit) c
