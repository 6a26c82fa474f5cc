-- Laws of a blit that goes round: an area's or a line's, as its plan says.
use Rattle.word.proofs.Base.{◌≡◌, ℕ, Bool, List}
use Rattle.refusal.specs.declared.types.AreaPlan.{AreaPlan}
use Rattle.refusal.specs.declared.types.LinePlan.{LinePlan}
use Rattle.refusal.specs.declared.types.Plan.{Plan}
use Rattle.refusal.specs.declared.types.Plan.TheVariants as plans
use Rattle.refusal.specs.Plan.{plan}
use Rattle.refusal.proofs.PlanLaws.{area-bit, area-of-plan, line-bit, line-of-plan}
use Rattle.refusal.specs.Inner.AreaRange.{AreaRange}
use Rattle.round.specs.Inner.Ranges.{LineRange}
use Rattle.round.specs.Channel.{area_round}
use Rattle.round.specs.Line.{line_round}
use Rattle.round.specs.Round.{goes_round}
use Rattle.refusal.proofs.RefusalLaws.{area-in-range}
use Rattle.round.proofs.RangeLaws.{line-in-range}

module _ (file : List ℕ) (size : ℕ) (by : Plan) (same : by ≡ plan file size) where
  module _ (area : AreaPlan) (is : by ≡ plans.Area area) where
    pub planned-area-in-range : AreaRange area
    planned-area-in-range = area-in-range file size area (area-of-plan file size by same area is)

    pub goes_round-of-area : (round : Bool) → round ≡ area_round area → round ≡ goes_round file size
    unfolding goes_round
    goes_round-of-area round tells = rw (area-bit file size by same area is, ← (area-of-plan file size by same area is)) tells

  module _ (course : LinePlan) (is : by ≡ plans.Line course) where
    pub planned-line-in-range : LineRange course.dots course.first
    planned-line-in-range = line-in-range file size course (line-of-plan file size by same course is)

    pub goes_round-of-line : (round : Bool) → round ≡ line_round course → round ≡ goes_round file size
    unfolding goes_round
    goes_round-of-line round tells = rw (line-bit file size by same course is, ← (line-of-plan file size by same course is)) tells
