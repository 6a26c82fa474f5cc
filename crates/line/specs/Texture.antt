-- Paper 01, "Kept for lines and Copper lists": the texture.
use Rattle.std.specs.Prelude.{ℕ, ◌+◌, ◌%◌, if◌then◌else◌}
use Rattle.word.specs.Word.{is_set}

-- "B is all ones or zeros by one bit of its data"
abbrev pub textured : (texture bit : ℕ) → ℕ
textured texture bit = if is_set texture bit then 0xFFFF else 0

-- "then one lower per dot, 15 after 0"
abbrev pub lower : (bit : ℕ) → ℕ
lower bit = (bit + 15) % 16
