-- Laws of what a blit goes by: every plan is in range.
use Rattle.word.proofs.Base.{◌≡◌, ℕ, List}
use Rattle.word.proofs.SizeLaws.{height-le, height-positive}
use Rattle.refusal.specs.declared.types.LinePlan.{LinePlan}
use Rattle.refusal.specs.Plan.{line_plan}
use Rattle.refusal.proofs.RefusalLaws.{first-lt, first-shift-lt, first-bit-lt}
use Rattle.round.specs.Inner.Ranges.{LineRange}

pub line-in-range : (file : List ℕ) (size : ℕ) (by : LinePlan) → by ≡ line_plan file size → LineRange by.dots by.first
line-in-range file size by same =
    record {
      start = first-lt file size by same;
      shift = first-shift-lt file size by same;
      bit = first-bit-lt file size by same;
      some = rw same (height-positive size);
      few = rw same (height-le size);
    }
