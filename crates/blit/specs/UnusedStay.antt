-- "Unused pointers stay", and so do unused data registers, controls, masks and modulos: a blit changes no other
-- register.
use Rattle.std.specs.Prelude.{ℕ, ◌+◌, ◌≡◌, Bool, false, List, [], ◌∷◌, ◌++◌, get_or, if◌then◌else◌}
use Rattle.file.specs.Places.{pointer_a, pointer_b, pointer_c, pointer_d, source_a, source_b, source_c, flag}
use Rattle.word.specs.Types.{Uses}
use Rattle.area.specs.Setup.{setup}
use Rattle.refusal.specs.Touch.{among}
use Rattle.blit.specs.Blit.{blit}

-- the places of a used channel's pointer, and of a used source's data register
abbrev pub pointer_places : (used : Bool) → (place : ℕ) → List ℕ
pointer_places used place = if used then place ∷ (place + 1) ∷ [] else []

abbrev pub source_places : (used : Bool) → (place : ℕ) → List ℕ
source_places used place = if used then place ∷ [] else []

-- the places that a blit may change
unfoldable pub changeable : Uses → List ℕ
changeable uses =
    pointer_places uses.a pointer_a
    ++ pointer_places uses.b pointer_b
    ++ pointer_places uses.c pointer_c
    ++ pointer_places uses.d pointer_d
    ++ source_places uses.a source_a
    ++ source_places uses.b source_b
    ++ source_places uses.c source_c
    ++ (flag ∷ [])

abbrev pub UnusedStay : Type 0
UnusedStay =
    (memory file : List ℕ) (size place : ℕ)
    → among place (changeable (setup file).uses) ≡ false
    → get_or (blit memory file size).file place 0 ≡ get_or file place 0
