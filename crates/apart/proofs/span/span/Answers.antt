-- `apart::span::span` meets its contract: the first row and the last tell.
use Rattle.word.proofs.Base.{ℕ, ◌+◌, ◌*◌, ◌≤◌, mul-le-mul, arith, rules}
use mir.Syntax.{w64}
use mir.Val.{Fits}
use Rattle.apart.specs.Inner.Spans.{pointer_end}
use Rattle.apart.proofs.span.span.Goals as goal

-- the rows' reach is no long way
reach-le : (last far on : ℕ) → last ≤ 1024 → far ≤ pointer_end → on ≤ 64 → last * far + on ≤ 1024 * pointer_end + 64
reach-le last far on few short narrow = let all : last * far ≤ 1024 * pointer_end = mul-le-mul few short in omega arith

rows_fit : (last far : ℕ) → last ≤ 1024 → far ≤ pointer_end → Fits w64 (last * far)
rows_fit last far few short = omega (arith, reach-le last far 0 few short (omega arith))

reach-fits : (last far on : ℕ) → last ≤ 1024 → far ≤ pointer_end → on ≤ 64 → Fits w64 (last * far + on)
reach-fits last far on few short narrow = omega (arith, reach-le last far on few short narrow)

pub overflow_mul-size : goal.overflow_mul-size
overflow_mul-size c = rows_fit _ _ (omega arith) (omega arith)

pub overflow_add-size : goal.overflow_add-size
overflow_add-size c = reach-fits _ _ _ (omega arith) (omega arith) (omega arith)

pub around-requires : goal.around-requires
around-requires c = (search rules, reach-le _ _ _ (omega arith) (omega arith) (omega arith))

pub returns-then-course-lt-INDEX_DOWNWARD : goal.returns-then-course-lt-INDEX_DOWNWARD
returns-then-course-lt-INDEX_DOWNWARD c span is = let told = c.around.ensures span is in search rules

pub overflow_mul-size-2 : goal.overflow_mul-size-2
overflow_mul-size-2 c = rows_fit _ _ (omega arith) (omega arith)

pub overflow_add-size-2 : goal.overflow_add-size-2
overflow_add-size-2 c = reach-fits _ _ _ (omega arith) (omega arith) (omega arith)

pub returns : goal.returns
returns c span is = let told = c.around-2.ensures span is in search rules
