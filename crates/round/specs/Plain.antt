-- Rows of a channel counted plainly, which lie in memory without passing the top or nought: nothing here is taken modulo
-- 262,144. A blit of such rows doesn't go round (`WhenItIsSafe`, in the crate `blit`).
use Rattle.std.specs.Prelude.{ℕ, ◌+◌, ◌*◌, ◌%◌, ◌<◌, ◌≤◌, ◌≡◌, Bool, true, List, if◌then◌else◌}
use Rattle.word.specs.declared.types.Direction.{Direction}
use Rattle.word.specs.declared.types.Direction.TheVariants.{Ascending, Descending}
use Rattle.word.specs.declared.types.Pointer.{Pointer}
use Rattle.word.specs.Pointer.{pointer_end}
use Rattle.word.specs.Round.{is_below, far_below}
use Rattle.word.specs.Size.{height}
use Rattle.line.specs.Setup.{line_setup}
use Rattle.refusal.specs.declared.types.AreaPlan.{AreaPlan}

-- half of a modulo as a plain number: so many words on, so many back; one of the two is nought
abbrev pub words_on : (modulo : ℕ) → ℕ
words_on modulo = if is_below modulo then 0 else modulo % pointer_end

abbrev pub words_back : (modulo : ℕ) → ℕ
words_back modulo = if is_below modulo then far_below modulo else 0

-- a row's words lie in memory; and the word behind it does too, to which the row's last step leads
abbrev pub Lies : Direction → (width start : ℕ) → Type 0
Lies Ascending width start = start + width ≤ pointer_end
Lies Descending width start = (start < pointer_end) × (width ≤ start + 1)

abbrev pub LiesWithNext : Direction → (width start : ℕ) → Type 0
LiesWithNext Ascending width start = start + width < pointer_end
LiesWithNext Descending width start = width ≤ start

-- the next row starts a row and the modulo on, or back if descending
abbrev pub Follows : Direction → (width modulo start next : ℕ) → Type 0
Follows Ascending width modulo start next = next + words_back modulo ≡ start + width + words_on modulo
Follows Descending width modulo start next = next + width + words_on modulo ≡ start + words_back modulo

-- the rows of a channel: where each starts
pub record PlainRows (direction : Direction) (width modulo rows : ℕ) (pointer : Pointer) : Type 0 where
  pub starts : ℕ → ℕ
  pub first : starts 0 ≡ pointer.word
  pub follows : (k : ℕ) → k + 1 < rows → Follows direction width modulo (starts k) (starts (k + 1))
  pub lies : (k : ℕ) → k < rows → Lies direction width (starts k)
  pub behind : (k : ℕ) → k + 1 < rows → LiesWithNext direction width (starts k)

-- every used channel's
abbrev pub PlainChannel : AreaPlan → (used : Bool) → (modulo : ℕ) → Pointer → Type 0
PlainChannel by used modulo at = used ≡ true → PlainRows by.setup.direction by.width modulo by.height at

pub record PlainArea (by : AreaPlan) : Type 0 where
  pub a : PlainChannel by by.setup.uses.a by.setup.modulos.a by.pointers.a
  pub b : PlainChannel by by.setup.uses.b by.setup.modulos.b by.pointers.b
  pub c : PlainChannel by by.setup.uses.c by.setup.modulos.c by.pointers.c
  pub d : PlainChannel by by.setup.uses.d by.setup.modulos.d by.pointers.d

-- of a line the farthest that its dots may come: a row and a word each
abbrev pub farthest_dot : (file : List ℕ) → (size : ℕ) → ℕ
farthest_dot file size = height size * (words_on (line_setup file).row + words_back (line_setup file).row + 1)
