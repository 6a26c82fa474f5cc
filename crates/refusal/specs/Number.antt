-- Paper 01, "Numbers given back", as paper 02 leaves it: the number of each refusal of a blit.
use Rattle.std.specs.Prelude.{ℕ}
use Rattle.refusal.specs.declared.types.Refusal.{Refusal}
use Rattle.refusal.specs.declared.types.Refusal.TheVariants.{MemorySize, RegisterFile, BothFills, FillUpward, ALeaves, BLeaves, CLeaves, DLeaves, LineForm, LineApart}

-- the papers' number for each case
abbrev pub refusal_number : Refusal → ℕ
refusal_number MemorySize = 1
refusal_number RegisterFile = 2
refusal_number BothFills = 8
refusal_number FillUpward = 9
refusal_number ALeaves = 14
refusal_number BLeaves = 15
refusal_number CLeaves = 16
refusal_number DLeaves = 17
refusal_number LineForm = 18
refusal_number LineApart = 19
