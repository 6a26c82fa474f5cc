-- Laws of what a blit goes by: what holds of a line and of an area blit holds of a blit, and a plan tells which it is.
use Rattle.std.specs.Prelude.{if◌then◌else◌}
use Rattle.word.proofs.Base.{◌≡◌, refl, sym, ap, ◌∙◌, ℕ, Bool, true, false, List}
use Rattle.word.specs.Control.{line}
use Rattle.file.specs.File.{con1}
use Rattle.refusal.specs.declared.types.AreaPlan.{AreaPlan}
use Rattle.refusal.specs.declared.types.LinePlan.{LinePlan}
use Rattle.refusal.specs.declared.types.Plan.{Plan}
use Rattle.refusal.specs.declared.types.Plan.TheVariants as plans
use Rattle.refusal.specs.Plan.{line_or_area, area_plan, line_plan, plan}

pub line_or_area-cases : {Answer : Type 0} (Holds : Answer → Type 0) (file : List ℕ) (of_line of_area : Answer)
    → (line (con1 file) ≡ true → Holds of_line) → (line (con1 file) ≡ false → Holds of_area) → Holds (line_or_area file of_line of_area)
line_or_area-cases {Answer = Answer} Holds file of_line of_area first second = by_bit (line (con1 file)) first second
  where
    by_bit : (bit : Bool) → (bit ≡ true → Holds of_line) → (bit ≡ false → Holds of_area) → Holds (if bit then of_line else of_area)
    by_bit true first second = first refl
    by_bit false first second = second refl

-- which of the two a plan is, and what it carries
abbrev is_line : Plan → Bool
is_line (plans.Area by) = false
is_line (plans.Line by) = true

abbrev area_or : (other : AreaPlan) → Plan → AreaPlan
area_or other (plans.Area by) = by
area_or other (plans.Line by) = other

abbrev line_or : (other : LinePlan) → Plan → LinePlan
line_or other (plans.Area by) = other
line_or other (plans.Line by) = by

module _ (file : List ℕ) (size : ℕ) (by : Plan) (same : by ≡ plan file size) where
  bit-of-plan : is_line by ≡ line (con1 file)
  bit-of-plan = ap is_line same ∙ by_bit (line (con1 file))
    where
      by_bit : (bit : Bool) → is_line (if bit then plans.Line (line_plan file size) else plans.Area (area_plan file size)) ≡ bit
      by_bit true = refl
      by_bit false = refl

  module _ (area : AreaPlan) (is : by ≡ plans.Area area) where
    pub area-bit : line (con1 file) ≡ false
    area-bit = sym bit-of-plan ∙ ap is_line is

    pub area-of-plan : area ≡ area_plan file size
    area-of-plan = ap (area_or area) (sym is ∙ (rw area-bit at same))

  module _ (course : LinePlan) (is : by ≡ plans.Line course) where
    pub line-bit : line (con1 file) ≡ true
    line-bit = sym bit-of-plan ∙ ap is_line is

    pub line-of-plan : course ≡ line_plan file size
    line-of-plan = ap (line_or course) (sym is ∙ (rw line-bit at same))
