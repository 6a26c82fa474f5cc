-- Laws of a channel's rows: they go up or down without going round, between their lowest word and their highest.
use Rattle.word.proofs.Base.{◌≡◌, sym, ap, ◌∙◌, ℕ, ◌+◌, ◌-◌, ◌*◌, ◌/◌, ◌%◌, ◌<◌, ◌≤◌, mul-le-mul_right, mod-lt}
use Rattle.word.proofs.Base.{mod-eq_of_lt, dec_lt, arith}
use native.Mathlib.Nat.{mul-add, mul_assoc, add-mul-mod_self_right, div-lt_iff_lt-mul}
use Rattle.word.specs.Inner.Even.{RowInside}
use Rattle.block.specs.Inner.Place.{row_at, place_in, place_at, EvenRows}
use Rattle.apart.specs.Inner.Spans.{Direction, Ascending, Descending, Size, Course, Span, pointer_end}
use Rattle.apart.specs.Inner.Spans.{downward, below, Spans}

-- rows that rise, or that fall by going round each time, where the last one lies inside
row_goes : (far from rise fall round last row : ℕ) → far + fall ≡ rise + round * pointer_end → row ≤ last → last * fall ≤ from → from + last * rise < pointer_end
    → (row_at far from row + row * fall ≡ from + row * rise) × (row * fall ≤ last * fall) × (row * rise ≤ last * rise)
unfolding row_at
row_goes far from rise fall round last row goes here under over =
    let down : row * fall ≤ last * fall = mul-le-mul_right fall here in
    let up : row * rise ≤ last * rise = mul-le-mul_right rise here in
    let whole : row * far + row * fall ≡ row * rise + row * round * pointer_end =
    sym (mul-add row far fall) ∙ ap (λ (all : ℕ). row * all) goes ∙ mul-add row rise (round * pointer_end) ∙ ap (λ (all : ℕ). row * rise + all) (sym (mul_assoc row round pointer_end)) in
    let at : (from + row * far) % pointer_end ≡ from + row * rise - row * fall =
    ap (λ (sum : ℕ). sum % pointer_end) (omega arith)
    ∙ add-mul-mod_self_right (from + row * rise - row * fall) (row * round) pointer_end
    ∙ mod-eq_of_lt (omega arith) in
    (omega arith, down, up)

-- a row that starts here lies between two words, and so do its words
record Between (direction : Direction) (width low high start : ℕ) : Type 0 where
  under : low + below direction width ≤ start
  over : start + (width - 1 - below direction width) ≤ high

row_inside : (n : ℕ) (direction : Direction) (width low high start : ℕ) → 1 ≤ width → high < n → Between direction width low high start
    → RowInside n direction width (record { word = start })
unfolding RowInside
row_inside n Ascending width low high start some inside lies = omega arith
row_inside n Descending width low high start some inside lies = (omega arith, omega arith)

word-between : (direction : Direction) (width low high start word : ℕ) → word < width → Between direction width low high start
    → (low ≤ place_in direction start word) × (place_in direction start word ≤ high)
unfolding place_in
word-between Ascending width low high start word short lies = (omega arith, omega arith)
word-between Descending width low high start word short lies = (omega arith, omega arith)

module _ {n : ℕ} {direction : Direction} {size : Size} {course : Course} {span : Span} (spans : Spans n direction size course span) where
  row_up : (row : ℕ) → row < size.height → course.far < downward
      → (row_at course.far course.from row ≡ course.from + row * course.far) × (row * course.far ≤ (size.height - 1) * course.far)
  row_up row here short =
      let goes = row_goes course.far course.from course.far 0 0 (size.height - 1) row (omega arith) (omega arith) (omega arith) (omega (arith, spans.up short)) in
      (omega (arith, goes), goes.2)

  row-down : (row : ℕ) → row < size.height → downward ≤ course.far
      → (row_at course.far course.from row + row * (pointer_end - course.far) ≡ course.from) × (row * (pointer_end - course.far) ≤ (size.height - 1) * (pointer_end - course.far))
  row-down row here long =
      let ends = spans.down long in
      let goes = row_goes course.far course.from 0 (pointer_end - course.far) 1 (size.height - 1) row (omega arith) (omega arith) (omega arith) (omega arith) in
      (omega (arith, goes), goes.1)

  row-between : (row : ℕ) → row < size.height → Between direction size.width span.low span.high (row_at course.far course.from row)
  row-between row here = by (dec_lt course.far downward)
    where
      by : Dec (course.far < downward) → Between direction size.width span.low span.high (row_at course.far course.from row)
      by (yes short) =
          let at = row_up row here short in
          let ends = spans.up short in
          record { under = omega arith; over = omega arith }
      by (no long) =
          let at = row-down row here (omega arith) in
          let ends = spans.down (omega arith) in
          record { under = omega arith; over = omega arith }

  pub spans-inside : EvenRows n direction size.width course.far course.from size.height
  unfolding EvenRows
  spans-inside row here = row_inside n direction size.width span.low span.high _ spans.sized.some spans.inside (row-between row here)

  -- word k lies in one of the rows
  module _ (k : ℕ) (here : k < size.height * size.width) where
    row_of : k / size.width < size.height
    row_of = (div-lt_iff_lt-mul {k = size.width} {x = k} {y = size.height} spans.sized.some).1 here

    pub spans-between : (span.low ≤ place_at direction size.width course.far course.from k) × (place_at direction size.width course.far course.from k ≤ span.high)
    unfolding place_at
    spans-between = word-between direction size.width span.low span.high _ (k % size.width) (mod-lt k {m = size.width} spans.sized.some) (row-between (k / size.width) row_of)

    -- and so far on from the first
    pub place_up : direction ≡ Ascending → course.far < downward
        → place_at direction size.width course.far course.from k ≡ course.from + (k / size.width * course.far + k % size.width)
    unfolding place_at place_in
    place_up way short = rw way (omega (arith, row_up (k / size.width) row_of short))

    pub place_down : direction ≡ Descending → downward ≤ course.far
        → place_at direction size.width course.far course.from k + (k / size.width * (pointer_end - course.far) + k % size.width) ≡ course.from
    unfolding place_at place_in
    place_down way long =
        let lies = rw way at (row-between (k / size.width) row_of) in
        rw way (omega (arith, lies, row-down (k / size.width) row_of long, mod-lt k {m = size.width} spans.sized.some))
