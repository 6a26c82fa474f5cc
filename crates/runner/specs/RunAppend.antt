-- The run of a job cut at a step boundary, followed by the run of the rest, is the run of the whole.
use Rattle.std.specs.Prelude.{ℕ, ◌≤◌, ◌≡◌, List, [], ◌∷◌, ◌++◌, eqb, length, if◌then◌else◌}
use Rattle.job.specs.Length.{job_most}
use Rattle.job.specs.Steps.{Placed, behind, steps_from, steps}
use Rattle.runner.specs.Run.{Machine, End, run_from, run}

-- the steps of a first part, and then those of the rest; where the first part ends at what is refused, the list ends too
unfoldable pub joined : (these others : List Placed) → List Placed
joined [] others = others
joined (one ∷ these) others = one ∷ behind one.read (λ _. joined these others)

-- a cut at a step boundary: the job's steps are those of its first part, and then those of the rest at their places
abbrev pub CutAtStep : (first rest : List ℕ) → Type 0
CutAtStep first rest = steps (first ++ rest) ≡ joined (steps first) (steps_from 0 (length first) rest)

-- a run that is done goes on; a refused one has ended
infix 4 ◌followed_by◌
unfoldable pub ◌followed_by◌ : End → (Machine → End) → End
end followed_by next = if eqb end.number 0 then next end.machine else end

abbrev pub RunAppend : Type 0
RunAppend =
    (memory file first rest : List ℕ)
    → CutAtStep first rest
    → length (first ++ rest) ≤ job_most
    → run memory file (first ++ rest) ≡ (run memory file first followed_by run_from (length first) rest)
