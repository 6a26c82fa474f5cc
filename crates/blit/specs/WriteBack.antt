-- Paper 01, "The area blit": what a blit writes back to the register file.
use Rattle.std.specs.Prelude.{ℕ, Bool, List, set, if◌then◌else◌}
use Rattle.word.specs.declared.types.Pointer.{Pointer}
use Rattle.file.specs.Places.{pointer_a, pointer_b, pointer_c, pointer_d, source_a, source_b, source_c}
use Rattle.file.specs.Pointers.{with_pointer, put_flag}
use Rattle.word.specs.Types.{Uses}
use Rattle.area.specs.Types.{Pointers, Sources}
use Rattle.area.specs.declared.types.Flow.{Flow}

-- "Unused pointers stay"; a used one is written to its two registers
unfoldable pub put_pointer : (used : Bool) → (place : ℕ) → Pointer → (file : List ℕ) → List ℕ
put_pointer used place pointer file =
    if used then with_pointer place pointer file else file

unfoldable pub put_pointers : Uses → Pointers → (file : List ℕ) → List ℕ
put_pointers uses pointers file =
    put_pointer uses.d pointer_d pointers.d
    (put_pointer uses.c pointer_c pointers.c
    (put_pointer uses.b pointer_b pointers.b
    (put_pointer uses.a pointer_a pointers.a file)))

-- "The data register of each used source holds the last word it fetched"
unfoldable pub put_source : (used : Bool) → (place word : ℕ) → (file : List ℕ) → List ℕ
put_source used place word file = if used then set file place word else file

unfoldable pub put_sources : Uses → Sources → (file : List ℕ) → List ℕ
put_sources uses sources file =
    put_source uses.c source_c sources.c
    (put_source uses.b source_b sources.b
    (put_source uses.a source_a sources.a file))

-- all of it, from where a blit's flow ends
abbrev pub write_back : Uses → Flow → (file : List ℕ) → List ℕ
write_back uses end file =
    put_flag end.allzero (put_sources uses end.sources (put_pointers uses end.pointers file))
