-- Demand 3: "Take any job the folder accepts, any memory of the size it was folded for, and any register file the
-- runner accepts at the start. The folded job and the original end with the same memory, registers, zero flag, count
-- of stored words and answer number. Only the place told with a refusal may differ." Paper 02, W12, of the runner's yes:
-- "Demand 3 then also compares the runner's."
use Rattle.std.specs.Prelude.{ℕ, ◌≡◌, true, List, length, take}
use Rattle.file.specs.File.{accepted}
use Rattle.runner.specs.Run.{End, run}
use Rattle.folder.specs.Folding.{folding}

-- the folder accepts a job and an output run: the folding is done
abbrev pub FolderAccepts : (n : ℕ) → (job out : List ℕ) → Type 0
FolderAccepts n job out = (folding n job out).number ≡ 0

-- the folded job, as the caller holds it: the first `long` words of the output run
abbrev pub folded_job : (n : ℕ) → (job out : List ℕ) → List ℕ
folded_job n job out = take (folding n job out).long (folding n job out).out

-- the runner accepts a register file at the start; its last word is the zero flag
abbrev pub RunnerAccepts : (file : List ℕ) → Type 0
RunnerAccepts file = accepted file ≡ true

-- two ends that agree in all but the place of a refusal
pub record SameEnd (folded original : End) : Type 0 where
  pub memory : folded.machine.memory ≡ original.machine.memory
  pub file : folded.machine.file ≡ original.machine.file
  pub stored : folded.machine.stored ≡ original.machine.stored
  pub round : folded.machine.round ≡ original.machine.round
  pub number : folded.number ≡ original.number

abbrev pub DemandThree : Type 0
DemandThree =
    (n : ℕ) (job out memory file : List ℕ)
    → FolderAccepts n job out
    → length memory ≡ n
    → RunnerAccepts file
    → SameEnd (run memory file (folded_job n job out)) (run memory file job)
