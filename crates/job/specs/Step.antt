-- Paper 01, "Jobs": the steps of a job, and what stands at a place of it.
use Rattle.std.specs.Prelude.{ℕ, ◌+◌, ◌%◌, Bool, true, List, [], ◌∷◌, eqb, drop, if◌then◌else◌, Option, Some, None, Ok, Err}
use Rattle.word.specs.Choice.{Rule, ◌when◌, given}
use Rattle.word.specs.Pointer.{pointer}
use Rattle.job.specs.declared.types.Kind.{Kind}
use Rattle.job.specs.declared.types.Step.{Step}
use Rattle.job.specs.declared.types.Refusal.{Refusal}
use Rattle.job.specs.Types.{Read}
use Rattle.job.specs.Kind.{kind}

-- the words of a step after its first: the value; the low half and the value; none
unfoldable pub operands : Step → ℕ
operands (Step.Register place value) = 1
operands (Step.Size value) = 1
operands (Step.Store to value) = 2
operands (Step.Flag flag) = 0

-- a step whose first word is word `at` of the job, with the place of the next
unfoldable pub found : (at : ℕ) → Step → Read
found at step = Ok (Some (step, at + (1 + operands step)))

-- a store's low half odd
abbrev pub is_odd : (low : ℕ) → Bool
is_odd low = eqb (low % 2) 1

-- the step that a first word of this kind begins, with the words after it up to the job's end.
-- The refusals in their order: "first word begins no step", "step cut off by the job's end", "store's low half odd".
-- A store "puts the value into memory at that byte address": the word number is that of the two halves as a pointer
unfoldable pub begun : Option Kind → (at : ℕ) → (rest : List ℕ) → Read
begun None at rest = Err Refusal.NoStep
begun (Some (Kind.Register place)) at [] = Err Refusal.CutOff
begun (Some (Kind.Register place)) at (value ∷ rest) = found at (Step.Register place value)
begun (Some Kind.Size) at [] = Err Refusal.CutOff
begun (Some Kind.Size) at (value ∷ rest) = found at (Step.Size value)
begun (Some (Kind.Store high)) at [] = Err Refusal.CutOff
begun (Some (Kind.Store high)) at (low ∷ []) = Err Refusal.CutOff
begun (Some (Kind.Store high)) at (low ∷ value ∷ rest) =
    if is_odd low then Err Refusal.OddStore else
    found at (Step.Store (pointer high low).word value)
begun (Some (Kind.Flag flag)) at rest = found at (Step.Flag flag)

-- what stands at the front of a run of words, of which the first is word `at` of the job
unfoldable pub front : (at : ℕ) → (words : List ℕ) → Read
front at [] = Ok None
front at (first ∷ rest) = begun (kind first) at rest

-- what stands at a place of a job
unfoldable pub step_at : (job : List ℕ) → (at : ℕ) → Read
step_at job at = front at (drop at job)

-- "Numbers given back": the number for each reason
abbrev pub refusal_number : Refusal → ℕ
refusal_number Refusal.NoStep = 4
refusal_number Refusal.CutOff = 5
refusal_number Refusal.OddStore = 6

-- the rule for what stands at a place: only what is refused as no step has one
abbrev pub read_rules : Read → List Rule
read_rules (Ok (Some (step, next))) = []
read_rules (Ok None) = []
read_rules (Err why) = refusal_number why when true ∷ []

-- its number: 0 for a step and for the end
unfoldable pub read_number : Read → ℕ
read_number read = given (read_rules read)
