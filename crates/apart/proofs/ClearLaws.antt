-- Laws of two channels' words: where D's lie apart from a source's, go along behind them, or are so many rows ahead.
use Rattle.word.proofs.Base.{◌≡◌, ap, ℕ, ◌+◌, ◌-◌, ◌*◌, ◌/◌, ◌%◌, ◌<◌, ◌≤◌, add-mul, mul-le-mul_right, arith}
use native.Mathlib.Nat.{mul-add, div-add-mod', div-mul-le_self, add-mul-div_right, le-div_iff_mul-le}
use mathlib.Core.Logic.{◌⊎◌, ⊎_elim}
use Rattle.apart.specs.Inner.Spans.{Direction, Ascending, Descending, Size, Course, Span, pointer_end, Ahead, Calm}
use Rattle.apart.proofs.SpanLaws.{spans-between, place_up, place_down}

-- along rows a step apart word k is k words on, and for each row as many more as the step is more than the width
along : (width step k : ℕ) → width ≤ step → k / width * step + k % width ≡ k + k / width * (step - width)
along width step k apart =
    let whole : width + (step - width) ≡ step = omega arith in
    omega (arith, mul-add (k / width) width (step - width), ap (λ (all : ℕ). k / width * all) whole, div-add-mod' k width)

-- so two that go along don't meet
apart-along : {width step behind front rows : ℕ} → 1 ≤ width → Ahead width step behind front rows → (j i : ℕ) → j < i → i < j + rows * width
    → front + (j / width * step + j % width) ≡ behind + (i / width * step + i % width) → ⊥
apart-along {width} {step} {behind} {front} {rows} some ahead j i early near meets =
    let later : j / width ≤ i / width = (le-div_iff_mul-le {k = width} {x = j / width} {y = i} some).1 (omega (arith, div-mul-le_self j width)) in
    let soon : i / width ≤ j / width + rows =
    rw (← add-mul-div_right j rows {z = width} some) ((le-div_iff_mul-le {k = width} {x = i / width} {y = j + rows * width} some).1 (omega (arith, div-mul-le_self i width))) in
    let whole : width + (step - width) ≡ step = omega arith in
    let at_j = along width step j ahead.apart in
    let at_i = along width step i ahead.apart in
    ⊎_elim
    (λ back. omega (arith, mul-le-mul_right (step - width) later))
    (λ on. omega (arith, mul-le-mul_right (step - width) soon, add-mul (j / width) rows (step - width), mul-add rows width (step - width), ap (λ (all : ℕ). rows * all) whole))
    ahead.order

module _ {size : Size} {d x : Span} {to of : Course} {rows : ℕ} where
  -- apart altogether
  pub calm-apart : {direction : Direction} → (x.high < d.low) ⊎ (d.high < x.low) → Calm direction size d x to of rows
  calm-apart apart n at-d at_x = record {
    never = λ i j below early near meets.
        let d-lies = spans-between at-d j (omega arith) in
        let x-lies = spans-between at_x i below in
        ⊎_elim (λ under. omega (arith, meets, d-lies, x-lies)) (λ over. omega (arith, meets, d-lies, x-lies)) apart;
  }

  -- upward and downward
  pub calm-up : {direction : Direction} → direction ≡ Ascending → to.far ≡ of.far → Ahead size.width of.far of.from to.from rows
      → Calm direction size d x to of rows
  calm-up way same ahead n at-d at_x = record {
    never = λ i j below early near meets.
        let d-lies = place_up at-d j (omega arith) way (omega arith) in
        let x-lies = place_up at_x i below way (omega arith) in
        apart-along at-d.sized.some ahead j i early near (omega (arith, ap (λ (far : ℕ). j / size.width * far) same));
  }

  pub calm-down : {direction : Direction} → direction ≡ Descending → to.far ≡ of.far → Ahead size.width (pointer_end - of.far) to.from of.from rows
      → Calm direction size d x to of rows
  calm-down way same ahead n at-d at_x = record {
    never = λ i j below early near meets.
        let d-lies = place_down at-d j (omega arith) way (omega arith) in
        let x-lies = place_down at_x i below way (omega arith) in
        apart-along at-d.sized.some ahead j i early near (omega (arith, ap (λ (far : ℕ). j / size.width * (pointer_end - far)) same));
  }
