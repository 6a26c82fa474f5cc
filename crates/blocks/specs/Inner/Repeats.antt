-- A blit that uses no source and doesn't fill: a block's words hang on the words before it alone, and those are the same
-- from the second block on. So are the words, which stand ready for every block after that.
use Rattle.std.specs.Prelude.{ℕ, ◌*◌, ◌<◌, ◌≤◌, ◌≡◌, true, false, List}
use Rattle.word.specs.declared.types.Fill.TheVariants.{Off}
use Rattle.blocks.specs.Inner.Block.{Inputs, Setup, Flow, Size, at, nought}
use Rattle.blocks.specs.Inner.MadeOf.{FinalWords, last_words}

pub record Still (setup : Setup) : Type 0 where
  pub a : setup.uses.a ≡ false
  pub b : setup.uses.b ≡ false
  pub c : setup.uses.c ≡ false
  pub off : setup.fill ≡ Off

-- the words of so many rows stand in an array, and such a block leaves all but D as it is
pub record Prepared (setup : Setup) (size : Size) (flow : Flow) (x : Inputs (List ℕ)) (o : List ℕ) : Type 0 where
  pub still : Still setup
  pub earlier : flow.earlier ≡ last_words setup size.width flow.sources
  pub carry : flow.carry ≡ setup.carry
  pub words : FinalWords setup size.width (size.height * size.width) flow.earlier x o
  pub zero : flow.allzero ≡ true → nought (size.height * size.width) (at o) ≡ true

-- what holds before each block: after one, what was handed on; after two that were full, the words too
pub record Repeating (setup : Setup) (width most height row : ℕ) (flow : Flow) (x : Inputs (List ℕ)) (o : List ℕ) : Type 0 where
  pub one : Still setup → 1 ≤ row → flow.earlier ≡ last_words setup width flow.sources
  pub two : Still setup → most < row → row < height → Prepared setup (record { width = width; height = most }) flow x o
