-- Paper 01, "Folding": what the folder knows, as a list of the Blitter's 19 registers in the register file's order:
-- "each register is known with its number or not known".
-- "The zero flag isn't tracked", and COPCON and the colours touch "neither a blit nor the folder's knowledge" (paper 02, W7).
use Rattle.std.specs.Prelude.{ℕ, List, Option, None, map, replicate, get_or, unwrap_or}
use Rattle.file.specs.Places.{blitter_length}

-- what is known of the register at a place
abbrev pub known_at : (known : List (Option ℕ)) → (place : ℕ) → Option ℕ
known_at known place = get_or known place None

-- "at the start none is" known
abbrev pub nothing : List (Option ℕ)
nothing = replicate blitter_length None

-- a register's number; 0 where it isn't known
abbrev pub number : Option ℕ → ℕ
number known = unwrap_or known 0

-- the file's first words, of which a blit is made, with the known numbers: 0 for a register that isn't known
unfoldable pub numbers : (known : List (Option ℕ)) → List ℕ
numbers known = map number known
