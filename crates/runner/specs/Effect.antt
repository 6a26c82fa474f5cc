-- Paper 01, "Jobs" and "Numbers given back", as paper 02 leaves it: what one step does to memory and register file, how
-- many words it stores, and its number. A refused step changes nothing.
use Rattle.std.specs.Prelude.{ℕ, Bool, false, List, [], ◌∷◌, eqb, leb, length, set, if◌then◌else◌, Some, None, Ok, Err}
use Rattle.word.specs.Choice.{Rule, ◌when◌, given}
use Rattle.file.specs.File.{kept}
use Rattle.file.specs.Places.{flag}
use Rattle.refusal.specs.Refusal.{blit_rules}
use Rattle.blit.specs.Blit.{Outcome, done, refused}
use Rattle.job.specs.declared.types.Step.{Step}
use Rattle.job.specs.Types.{Read}
use Rattle.job.specs.Step.{read_rules, read_number}

-- "10 for stores only": the store "lies at N or above"
unfoldable pub store_outside : (n : ℕ) → Step → Bool
store_outside n (Step.Register place value) = false
store_outside n (Step.Size size) = false
store_outside n (Step.Store to value) = leb n to
store_outside n (Step.Flag value) = false

-- a blit's own rules, where the step is a blit
unfoldable pub own_rules : (n : ℕ) → (file : List ℕ) → Step → List Rule
own_rules n file (Step.Register place value) = []
own_rules n file (Step.Size size) = blit_rules n file size
own_rules n file (Step.Store to value) = []
own_rules n file (Step.Flag value) = []

-- the rules of a step, on n words of memory and the file that it finds: 10, then a blit's own; no step has both
abbrev pub step_rules : (n : ℕ) → (file : List ℕ) → Step → List Rule
step_rules n file step = 10 when store_outside n step ∷ own_rules n file step

-- what stands at a place of the job: 4, 5, 6 where it is no step, then the step's rules; the end has none
unfoldable pub rules_at : (n : ℕ) → (file : List ℕ) → Read → List Rule
rules_at n file (Ok (Some (step, next))) = step_rules n file step
rules_at n file (Ok None) = []
rules_at n file (Err why) = read_rules (Err why)

-- a step that is done, with the words that it stored; only a blit moves pointers
abbrev pub did : (stored : ℕ) → (memory file : List ℕ) → Outcome
did stored memory file = record { number = 0; stored = stored; round = false; memory = memory; file = file }

-- what a step does that no rule refuses: "Writing a register drops the bits not kept"; "058 (BLTSIZE) isn't kept; writing
-- it starts a blit"; the store "puts the value into memory at that byte address"; the flag step "sets the zero flag to 0
-- or 1"
unfoldable pub taken : Step → (memory file : List ℕ) → Outcome
taken (Step.Register place value) memory file = did 0 memory (set file place (kept place value))
taken (Step.Size size) memory file = done memory file size
taken (Step.Store to value) memory file = did 1 (set memory to value) file
taken (Step.Flag value) memory file = did 0 memory (set file flag value)

-- a step by its number, 0 where it is done
unfoldable pub answered : (number : ℕ) → Step → (memory file : List ℕ) → Outcome
answered number step memory file =
    if eqb number 0 then taken step memory file else
    refused number memory file

unfoldable pub step_effect : Step → (memory file : List ℕ) → Outcome
step_effect step memory file = answered (given (step_rules (length memory) file step)) step memory file

-- what stands at a place of the job: a step, or what is refused as no step; the end does nothing
unfoldable pub effect : Read → (memory file : List ℕ) → Outcome
effect (Ok (Some (step, next))) memory file = step_effect step memory file
effect (Ok None) memory file = did 0 memory file
effect (Err why) memory file = refused (read_number (Err why)) memory file
