-- What a blit leaves alone in memory: every word that D doesn't touch, and all of it where D isn't used.
use Rattle.std.specs.Prelude.{ℕ, ◌≡◌, false, List, get_or}
use Rattle.word.specs.Size.{height, width}
use Rattle.area.specs.Setup.{setup}
use Rattle.area.specs.Flow.{start}
use Rattle.line.specs.Setup.{line_setup}
use Rattle.line.specs.Dot.{first_dot}
use Rattle.refusal.specs.Touch.{touches, line_touches, among}
use Rattle.refusal.specs.Plan.{line_or_area}
use Rattle.blit.specs.Blit.{blit}

-- the words that D would touch; in a line it goes where C goes
abbrev pub touched_by_d : (file : List ℕ) → (size : ℕ) → List ℕ
touched_by_d file size =
    line_or_area file (line_touches (line_setup file) (height size) (first_dot file))
    (touches (setup file).direction (width size) (setup file).modulos.d (height size) (start file).pointers.d)

abbrev pub OnlyDChanges : Type 0
OnlyDChanges =
    (memory file : List ℕ) (size word : ℕ)
    → among word (touched_by_d file size) ≡ false
    → get_or (blit memory file size).memory word 0 ≡ get_or memory word 0

abbrev pub WithoutDNothingChanges : Type 0
WithoutDNothingChanges =
    (memory file : List ℕ) (size : ℕ)
    → (setup file).uses.d ≡ false
    → (blit memory file size).memory ≡ memory
