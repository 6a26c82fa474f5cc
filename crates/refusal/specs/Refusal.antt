-- Paper 01, "Numbers given back", as paper 02 leaves it: the rows of a blit, given in the order 1, 2, then of an area blit
-- 8, 9, 14, 15, 16, 17, of a line 18, 19, 16.
-- Blit, runner and folder go by this one definition, a function of N, file and size.
use Rattle.std.specs.Prelude.{ℕ, Bool, not, ◌&&◌, ◌||◌, List, [], ◌∷◌, eqb, Result, Ok, Err}
use Rattle.word.specs.Choice.{Rule, ◌when◌, given}
use Rattle.word.specs.declared.types.Pointer.{Pointer}
use Rattle.word.specs.Memory.{memory_size}
use Rattle.word.specs.Types.{Uses}
use Rattle.word.specs.Size.{height, width}
use Rattle.word.specs.Control.{uses, exclusive_fill, inclusive_fill, descending}
use Rattle.file.specs.Places.{pointer_c, pointer_d}
use Rattle.file.specs.File.{accepted, con0, con1}
use Rattle.file.specs.Pointers.{pointer_at}
use Rattle.line.specs.Setup.{line_setup}
use Rattle.line.specs.Dot.{first_dot}
use Rattle.refusal.specs.declared.types.Refusal.{Refusal}
use Rattle.refusal.specs.declared.types.AreaPlan.{AreaPlan}
use Rattle.refusal.specs.declared.types.Plan.{Plan}
use Rattle.refusal.specs.Touch.{line_touches, leaves, channel_leaves}
use Rattle.refusal.specs.Plan.{line_or_area, area_plan}
pub use Rattle.refusal.specs.Number.{refusal_number}

-- "both fill bits set"
unfoldable pub both_fills : (con1 : ℕ) → Bool
both_fills con1 = exclusive_fill con1 && inclusive_fill con1

-- "a fill bit set without descending"
unfoldable pub fill_upward : (con1 : ℕ) → Bool
fill_upward con1 = (exclusive_fill con1 || inclusive_fill con1) && not (descending con1)

-- a channel of a blit leaves memory
abbrev pub goes_out : (n : ℕ) → AreaPlan → (used : Bool) → (modulo : ℕ) → Pointer → Bool
goes_out n by used modulo at = channel_leaves n by.setup.direction used by.width modulo by.height at

-- "the first channel, in the order A, B, C, D, of which any word lies at N or above", whichever leaves earlier
abbrev pub leaving_rules : (n : ℕ) → AreaPlan → List Rule
leaving_rules n by =
    14 when goes_out n by by.setup.uses.a by.setup.modulos.a by.pointers.a
    ∷ 15 when goes_out n by by.setup.uses.b by.setup.modulos.b by.pointers.b
    ∷ 16 when goes_out n by by.setup.uses.c by.setup.modulos.c by.pointers.c
    ∷ 17 when goes_out n by by.setup.uses.d by.setup.modulos.d by.pointers.d
    ∷ []

-- the number of a blit that "leaves memory"; 0 where none of its channels does
unfoldable pub leaving : (n : ℕ) → AreaPlan → ℕ
leaving n by = given (leaving_rules n by)

-- the rules of an area blit: 8, 9, then the channels'
abbrev pub area_rules : (n : ℕ) → (file : List ℕ) → (size : ℕ) → List Rule
area_rules n file size =
    8 when both_fills (con1 file)
    ∷ 9 when fill_upward (con1 file)
    ∷ leaving_rules n (area_plan file size)

-- "the width isn't 2 or the use bits aren't A, C and D"
unfoldable pub other_form : Uses → (width : ℕ) → Bool
other_form uses width = not (eqb width 2) || not (uses.a && not uses.b && uses.c && uses.d)

-- "the C and D pointers differ at the start"
unfoldable pub pointers_differ : (file : List ℕ) → Bool
pointers_differ file = not (eqb (pointer_at file pointer_c).word (pointer_at file pointer_d).word)

-- the rules of a line, which "stand where 7 stood": 18, 19, "then 16, D going where C goes"
abbrev pub line_rules : (n : ℕ) → (file : List ℕ) → (size : ℕ) → List Rule
line_rules n file size =
    18 when other_form (uses (con0 file)) (width size)
    ∷ 19 when pointers_differ file
    ∷ 16 when leaves n (line_touches (line_setup file) (height size) (first_dot file))
    ∷ []

-- the rules of a job's blit, for which memory and file have been taken
abbrev pub blit_rules : (n : ℕ) → (file : List ℕ) → (size : ℕ) → List Rule
blit_rules n file size = line_or_area file (line_rules n file size) (area_rules n file size)

abbrev pub refusals : (n : ℕ) → (file : List ℕ) → (size : ℕ) → List Rule
refusals n file size =
    1 when memory_size n
    ∷ 2 when not (accepted file)
    ∷ blit_rules n file size

-- the number of the refusal, of a job's blit and of the blit called alone; 0 where none applies
unfoldable pub step_refusal : (n : ℕ) → (file : List ℕ) → (size : ℕ) → ℕ
step_refusal n file size = given (blit_rules n file size)

unfoldable pub refusal : (n : ℕ) → (file : List ℕ) → (size : ℕ) → ℕ
refusal n file size = given (refusals n file size)

-- the number of the refusal that an answer gives, 0 where it gives none
abbrev pub verdict_number : {Answer : Type 0} → Result Answer Refusal → ℕ
verdict_number (Ok answer) = 0
verdict_number (Err why) = refusal_number why

-- what a verdict hands on: a lawful one what it carries, a refused one nothing, so that the other stands
abbrev pub handed : Result Plan Refusal → (other : Plan) → Plan
handed (Ok by) other = by
handed (Err why) other = other
