-- Paper 02, W3: "After a line the A pointer's low half holds the accumulator, the C and D pointers stand where the last
-- step put them, and every other register is as before. The flag .. [goes] by the words really stored".
use Rattle.std.specs.Prelude.{ℕ, ◌+◌, List, set}
use Rattle.file.specs.Places.{pointer_a, pointer_c, pointer_d}
use Rattle.file.specs.Pointers.{with_pointer, put_flag}
use Rattle.line.specs.declared.types.Drawn.{Drawn}

unfoldable pub leave : Drawn → (file : List ℕ) → List ℕ
leave end file =
    put_flag end.allzero
    (with_pointer pointer_d end.dot.spot.at
    (with_pointer pointer_c end.dot.spot.at
    (set file (pointer_a + 1) end.dot.accumulator)))
