-- Papers 01 and 02: a blit is one of two things, an area's or a line's, by the line bit; and what each goes by.
use Rattle.std.specs.Prelude.{ℕ, List, if◌then◌else◌}
use Rattle.word.specs.Size.{height, width}
use Rattle.word.specs.Control.{line}
use Rattle.file.specs.File.{con1}
use Rattle.area.specs.Setup.{setup}
use Rattle.area.specs.Flow.{pointers}
use Rattle.line.specs.Setup.{line_setup}
use Rattle.line.specs.Dot.{first_dot}
use Rattle.refusal.specs.declared.types.AreaPlan.{AreaPlan}
use Rattle.refusal.specs.declared.types.LinePlan.{LinePlan}
use Rattle.refusal.specs.declared.types.Plan.{Plan}
use Rattle.refusal.specs.declared.types.Plan.TheVariants as plans

-- "BLTCON1: .. 0 line": what is said of a line, or of an area blit
abbrev pub line_or_area : {Answer : Type 0} → (file : List ℕ) → (of_line of_area : Answer) → Answer
line_or_area file of_line of_area = if line (con1 file) then of_line else of_area

-- what an area blit goes by
abbrev pub area_plan : (file : List ℕ) → (size : ℕ) → AreaPlan
area_plan file size =
    record {
      setup = setup file;
      pointers = pointers file;
      width = width size;
      height = height size;
    }

-- what a line goes by: "one dot per row of the size"
abbrev pub line_plan : (file : List ℕ) → (size : ℕ) → LinePlan
line_plan file size = record { line = line_setup file; first = first_dot file; dots = height size }

abbrev pub plan : (file : List ℕ) → (size : ℕ) → Plan
plan file size = line_or_area file (plans.Line (line_plan file size)) (plans.Area (area_plan file size))
