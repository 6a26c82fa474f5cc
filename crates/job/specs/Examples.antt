-- Paper 01, "Jobs" and "Numbers given back": what stands at the front of short jobs. One list, computed and printed.
use Rattle.std.specs.Prelude.{ℕ, ◌≡◌, List, [], ◌∷◌, map, Some, None, Ok, Err}
use Rattle.job.specs.declared.types.Step.{Step}
use Rattle.job.specs.declared.types.Refusal.{Refusal}
use Rattle.job.specs.Types.{Read}
use Rattle.job.specs.Step.{step_at, read_number}

pub record Reading : Type 0 where
  pub job : List ℕ
  pub read : Read
  pub number : ℕ

infix 70 ◌reads◌giving◌
abbrev pub ◌reads◌giving◌ : (job : List ℕ) → (read : Read) → (number : ℕ) → Reading
job reads read giving number = record { job = job; read = read; number = number }

unfoldable pub examples : List Reading
examples =
    -- "register write: an offset of the table or 058, then the value"
    (0x0040 ∷ 0x1234 ∷ []) reads Ok (Some (Step.Register 0 0x1234, 2)) giving 0
    ∷ (0x0074 ∷ 0x1234 ∷ []) reads Ok (Some (Step.Register 18 0x1234, 2)) giving 0
    ∷ (0x0058 ∷ 0x1234 ∷ []) reads Ok (Some (Step.Size 0x1234, 2)) giving 0
    -- "store: 8000 to 8007 (last digit the high half), low half, value"
    ∷ (0x8000 ∷ 0x0010 ∷ 0x1234 ∷ []) reads Ok (Some (Step.Store 0x00008 0x1234, 3)) giving 0
    ∷ (0x8007 ∷ 0xFFFE ∷ 0x1234 ∷ []) reads Ok (Some (Step.Store 0x3FFFF 0x1234, 3)) giving 0
    -- "flag: C000 or C001, sets the zero flag to 0 or 1"
    ∷ (0xC000 ∷ []) reads Ok (Some (Step.Flag 0, 1)) giving 0
    ∷ (0xC001 ∷ []) reads Ok (Some (Step.Flag 1, 1)) giving 0
    -- paper 02, W7: COPCON and the colours
    ∷ (0x002E ∷ 0x1234 ∷ []) reads Ok (Some (Step.Register 19 0x1234, 2)) giving 0
    ∷ (0x0180 ∷ 0x1234 ∷ []) reads Ok (Some (Step.Register 20 0x1234, 2)) giving 0
    ∷ (0x01AA ∷ 0x1234 ∷ []) reads Ok (Some (Step.Register 41 0x1234, 2)) giving 0
    ∷ (0x01BE ∷ 0x1234 ∷ []) reads Ok (Some (Step.Register 51 0x1234, 2)) giving 0
    -- odd words, and words between the offsets of the table
    ∷ (0x0041 ∷ 0x0000 ∷ 0x0000 ∷ []) reads Err Refusal.NoStep giving 4
    ∷ (0x0059 ∷ 0x0000 ∷ 0x0000 ∷ []) reads Err Refusal.NoStep giving 4
    ∷ (0x005A ∷ 0x0000 ∷ 0x0000 ∷ []) reads Err Refusal.NoStep giving 4
    ∷ (0x0068 ∷ 0x0000 ∷ 0x0000 ∷ []) reads Err Refusal.NoStep giving 4
    ∷ (0x0076 ∷ 0x0000 ∷ 0x0000 ∷ []) reads Err Refusal.NoStep giving 4
    ∷ (0x002C ∷ 0x0000 ∷ 0x0000 ∷ []) reads Err Refusal.NoStep giving 4
    ∷ (0x002F ∷ 0x0000 ∷ 0x0000 ∷ []) reads Err Refusal.NoStep giving 4
    ∷ (0x017E ∷ 0x0000 ∷ 0x0000 ∷ []) reads Err Refusal.NoStep giving 4
    ∷ (0x0181 ∷ 0x0000 ∷ 0x0000 ∷ []) reads Err Refusal.NoStep giving 4
    ∷ (0x01C0 ∷ 0x0000 ∷ 0x0000 ∷ []) reads Err Refusal.NoStep giving 4
    -- an offset's high bits count
    ∷ (0x0140 ∷ 0x0000 ∷ 0x0000 ∷ []) reads Err Refusal.NoStep giving 4
    ∷ (0x1040 ∷ 0x0000 ∷ 0x0000 ∷ []) reads Err Refusal.NoStep giving 4
    ∷ (0x0380 ∷ 0x0000 ∷ 0x0000 ∷ []) reads Err Refusal.NoStep giving 4
    -- past the stores, past the flags, and the least and the greatest word
    ∷ (0x8008 ∷ 0x0000 ∷ 0x0000 ∷ []) reads Err Refusal.NoStep giving 4
    ∷ (0xC002 ∷ 0x0000 ∷ 0x0000 ∷ []) reads Err Refusal.NoStep giving 4
    ∷ (0x0000 ∷ 0x0000 ∷ 0x0000 ∷ []) reads Err Refusal.NoStep giving 4
    ∷ (0xFFFF ∷ 0x0000 ∷ 0x0000 ∷ []) reads Err Refusal.NoStep giving 4
    -- "step cut off by the job's end" comes before "store's low half odd"
    ∷ (0x0040 ∷ []) reads Err Refusal.CutOff giving 5
    ∷ (0x0058 ∷ []) reads Err Refusal.CutOff giving 5
    ∷ (0x0180 ∷ []) reads Err Refusal.CutOff giving 5
    ∷ (0x8000 ∷ 0x0010 ∷ []) reads Err Refusal.CutOff giving 5
    ∷ (0x8000 ∷ 0x0001 ∷ []) reads Err Refusal.CutOff giving 5
    ∷ (0x8000 ∷ 0x0001 ∷ 0x0000 ∷ []) reads Err Refusal.OddStore giving 6
    -- "An empty job is done"
    ∷ [] reads Ok None giving 0
    ∷ []

-- an example as the definitions have it
abbrev pub computed : Reading → Reading
computed example = example.job reads step_at example.job 0 giving read_number (step_at example.job 0)

abbrev pub FirstWords : Type 0
FirstWords = map computed examples ≡ examples
