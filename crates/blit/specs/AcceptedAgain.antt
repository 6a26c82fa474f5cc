-- What a blit leaves can be gone on with: a register file that is accepted is accepted again, memory has as many words
-- as before, and they have 16 bits.
use Rattle.std.specs.Prelude.{ℕ, ◌≡◌, true, List, length}
use Rattle.word.specs.Word.{SixteenBits}
use Rattle.file.specs.File.{accepted}
use Rattle.blit.specs.Blit.{blit_step, blit}

-- memory of n words of 16 bits, and a register file that is accepted
pub record Ready (n : ℕ) (memory file : List ℕ) : Type 0 where
  pub long : length memory ≡ n
  pub words : SixteenBits memory
  pub fine : accepted file ≡ true

-- by the blit called alone, and by that of a job's step
pub record AcceptedAgain : Type 0 where
  pub blit : (n : ℕ) (memory file : List ℕ) (size : ℕ)
      → Ready n memory file
      → Ready n (blit memory file size).memory (blit memory file size).file
  pub step : (n : ℕ) (memory file : List ℕ) (size : ℕ)
      → Ready n memory file
      → Ready n (blit_step memory file size).memory (blit_step memory file size).file
