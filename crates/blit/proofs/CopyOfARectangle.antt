-- A copy of a rectangle is a copying blit whose words lie inside memory.
use Rattle.word.proofs.Base.{◌≡◌, refl, sym, ◌∙◌, ℕ, zero, suc, ◌*◌, ◌/◌, ◌%◌, ◌<◌, ◌≤◌, mod-lt, arith, Bool, true}
use Rattle.word.proofs.Base.{false, leb, leb-false, List, length, get_or}
use native.Mathlib.Nat.{zero-lt-suc, div-lt_iff_lt-mul}
use Rattle.word.specs.declared.types.Direction.{Direction}
use Rattle.word.specs.declared.types.Direction.TheVariants.{Ascending, Descending}
use Rattle.word.specs.declared.types.Pointer.{Pointer}
use Rattle.word.specs.declared.types.Fill.TheVariants.{Off}
use Rattle.word.specs.Repeat.{repeated}
use Rattle.word.specs.Pointer.{moved, next_row}
use Rattle.word.specs.Size.{height, width}
use Rattle.word.specs.Control.{uses, line}
use Rattle.word.proofs.ChoiceLaws.{or_left, or_right}
use Rattle.word.proofs.SizeLaws.{width_positive}
use Rattle.file.specs.File.{con1}
use Rattle.area.specs.Setup.{shifts, fill, masks, setup}
use Rattle.area.specs.Flow.{state, start}
use Rattle.area.specs.Rows.{area_blit}
use Rattle.quiet.specs.Stream.{standing, standing_at, laid_at}
use Rattle.quiet.proofs.StreamLaws.{laid_at-found}
use Rattle.quiet.proofs.CopyLaws.{Copying, area_blit-copies}
use Rattle.refusal.specs.Touch.{row_touches, touches, leaves}
use Rattle.refusal.specs.Plan.{area_plan}
use Rattle.refusal.specs.Refusal.{refusal}
use Rattle.refusal.proofs.TouchLaws.{leaves-of-append}
use Rattle.refusal.proofs.RefusalLaws.{refusal-of-none, step_refusal-of-none, leaving-of-d}
use Rattle.blit.specs.Blit.{finished, area_done, done, answered, blit}
use Rattle.blit.specs.CopyOfOneRow.{plain, Copies}
use Rattle.blit.specs.CopyOfARectangle.{from_a, to_d, CopyOfARectangle}

-- a file that copies has a set-up that copies
setup-fill : (way : Direction) (file : List ℕ) → con1 file ≡ plain way → (setup file).fill ≡ Off
unfolding setup fill
setup-fill Ascending file control = rw control
setup-fill Descending file control = rw control

pub setup-copies : (way : Direction) (file : List ℕ) → Copies way file → Copying (setup file)
unfolding setup uses shifts masks
setup-copies way file copies =
    record {
      a = rw copies.control0;
      b = rw copies.control0;
      c = rw copies.control0;
      d = rw copies.control0;
      function = rw copies.control0;
      shift = rw copies.control0;
      fill = setup-fill way file copies.control1;
      first = copies.first;
      last = copies.last;
    }

-- the words of a row that doesn't leave memory lie inside, and so do those of all rows
row_inside : (direction : Direction) (n remaining : ℕ) (pointer : Pointer) → leaves n (row_touches direction remaining pointer) ≡ false
    → (word : ℕ) → word < remaining → (repeated (λ _. moved direction) word pointer).word < n
unfolding leaves row_touches repeated
row_inside direction n zero pointer stays word within = absurd (omega arith)
row_inside direction n (suc remaining) pointer stays zero within = leb-false n pointer.word (or_left (leb n pointer.word) _ stays)
row_inside direction n (suc remaining) pointer stays (suc word) within =
    row_inside direction n remaining (moved direction pointer) (or_right (leb n pointer.word) _ stays) word (omega arith)

rows_inside : (direction : Direction) (n width modulo rows : ℕ) (pointer : Pointer) → leaves n (touches direction width modulo rows pointer) ≡ false
    → (row word : ℕ) → row < rows → word < width → (standing direction true width modulo row word pointer).word < n
unfolding touches standing repeated
rows_inside direction n width modulo zero pointer stays row word below within = absurd (omega arith)
rows_inside direction n width modulo (suc rows) pointer stays row word below within =
    let first : List ℕ = row_touches direction width pointer in
    let rest : List ℕ = touches direction width modulo rows (next_row direction width modulo pointer) in
    let parts = sym (leaves-of-append n first rest) ∙ stays in
    by_row (row_inside direction n width pointer (or_left (leaves n first) (leaves n rest) parts))
    (rows_inside direction n width modulo rows (next_row direction width modulo pointer) (or_right (leaves n first) (leaves n rest) parts))
    row below
  where
    by_row : ((word : ℕ) → word < width → (repeated (λ _. moved direction) word pointer).word < n)
        → ((row word : ℕ) → row < rows → word < width → (standing direction true width modulo row word (next_row direction width modulo pointer)).word < n)
        → (row : ℕ) → row < suc rows → (standing direction true width modulo row word pointer).word < n
    by_row here later zero below = here word within
    by_row here later (suc row) below = later row word (omega arith) within

standing_at-inside : (direction : Direction) (used : Bool) (n width modulo rows : ℕ) (pointer : Pointer) → used ≡ true → 1 ≤ width
    → leaves n (touches direction width modulo rows pointer) ≡ false
    → (k : ℕ) → k < rows * width → (standing_at direction used width modulo pointer k).word < n
standing_at-inside direction used n width modulo rows pointer uses some stays k below =
    rw uses
    (rows_inside direction n width modulo rows pointer stays (k / width) (k % width) ((div-lt_iff_lt-mul {k = width} {x = k} {y = rows} some).1 below) (mod-lt k some))

-- it copies an area, not a line
area-of-plain : (way : Direction) (file : List ℕ) → con1 file ≡ plain way → line (con1 file) ≡ false
area-of-plain Ascending file control = rw control
area-of-plain Descending file control = rw control

blit-of-lawful : (memory file : List ℕ) (size : ℕ) → line (con1 file) ≡ false → refusal (length memory) file size ≡ 0
    → (blit memory file size).memory ≡ (area_blit (setup file) (width size) (height size) (state memory (start file))).memory
unfolding blit answered done area_done finished
blit-of-lawful memory file size area lawful = rw (lawful, area)

pub copy-of-a-rectangle : CopyOfARectangle
unfolding start
copy-of-a-rectangle way memory file size all copies lawful apart =
    let copying : Copying (setup file) = setup-copies way file copies in
    let area : line (con1 file) ≡ false = area-of-plain way file copies.control1 in
    let words : ℕ = height size * width size in
    let laid : (blit memory file size).memory ≡ laid_at (to_d file size) (λ k. get_or memory (from_a file size k) 0) words memory =
    blit-of-lawful memory file size area lawful
    ∙ area_blit-copies (setup file) copying (width size) memory (start file) all (zero-lt-suc 65535) (height size) (width_positive size) refl
    (λ i j below early. apart i j below (omega arith)) in
    let inside : (k : ℕ) → k < words → to_d file size k < length memory =
    standing_at-inside (setup file).direction (setup file).uses.d (length memory) (width size) (setup file).modulos.d (height size)
    (start file).pointers.d copying.d (width_positive size)
    (leaving-of-d (length memory) (area_plan file size) copying.d (step_refusal-of-none (length memory) file size area (refusal-of-none (length memory) file size lawful))) in
    record {
      laid = laid;
      found =
          λ distinct k within. rw laid (laid_at-found (to_d file size) (λ k. get_or memory (from_a file size k) 0) words memory inside distinct k within);
    }
