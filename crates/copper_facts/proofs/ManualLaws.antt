-- Where the sample list's WAITs end. A line that lies below the first word's is passed whole, of any other each
-- position is tried.
use Rattle.word.proofs.Base.{◌≡◌, refl, ap, ◌∙◌, ℕ, ◌+◌, ◌-◌, ◌*◌, ◌/◌, ◌%◌, ◌<◌, ◌≤◌, arith, Bool, true, false, ◌||◌}
use Rattle.word.proofs.Base.{not, T, not-true}
use Rattle.word.specs.Choice.{every}
use Rattle.word.proofs.ChoiceLaws.{every-at}
use Rattle.beam.specs.Beam.{frame_end, line}
use Rattle.beam.specs.Satisfied.{satisfied}
use Rattle.beam.specs.Inner.LineBelow.{line_below}
use Rattle.beam.specs.Wait.{first_satisfied, waited}
use Rattle.beam.proofs.SatisfiedLaws.{satisfied-on-line-below}
use Rattle.beam.proofs.WaitLaws.{first_satisfied-passes}

module _ (first second : ℕ) where
  -- nowhere on a line is the comparison satisfied
  fails-on : (this : ℕ) → Bool
  fails-on this = line_below first second this || every (λ (at : ℕ). not (satisfied first second (this * 227 + at))) 227

  is_true : (test : Bool) → T test → test ≡ true
  is_true true holds = refl
  is_true false holds = absurd holds

  satisfied-fails-on : (this at : ℕ) → at < 227 → T (fails-on this) → satisfied first second (this * 227 + at) ≡ false
  unfolding fails-on
  satisfied-fails-on this at inside = by-line (line_below first second this) refl
    where
      by-line : (below : Bool) → line_below first second this ≡ below
          → T (below || every (λ (at : ℕ). not (satisfied first second (this * 227 + at))) 227)
          → satisfied first second (this * 227 + at) ≡ false
      by-line true is fails =
          let here : line (this * 227 + at) ≡ this = omega (arith, inside) in
          satisfied-on-line-below first second (this * 227 + at) (ap (line_below first second) here ∙ is)
      by-line false is fails =
          not-true (satisfied first second (this * 227 + at))
          (is_true (not (satisfied first second (this * 227 + at)))
          (every-at (λ (at : ℕ). not (satisfied first second (this * 227 + at))) 227 fails at inside))

  -- nowhere on the first lines is it satisfied
  satisfied-fails-below : (many : ℕ) → T (every fails-on many) → (place : ℕ) → place < many * 227 → satisfied first second place ≡ false
  satisfied-fails-below many all place inside =
      let split : place ≡ place / 227 * 227 + place % 227 = omega arith in
      ap (satisfied first second) split
      ∙ satisfied-fails-on (place / 227) (place % 227) (omega arith) (every-at fails-on many all (place / 227) (omega (arith, inside)))

  -- a WAIT passes them
  waited-past : (many beam : ℕ) → T (every fails-on many) → beam + 6 ≤ many * 227 → many ≤ 262
      → waited first second beam ≡ first_satisfied first second (frame_end - many * 227) (many * 227)
  unfolding waited
  waited-past many beam all early few =
      let split : frame_end - (beam + 6) ≡ (many * 227 - (beam + 6)) + (frame_end - many * 227) = omega (arith, early, few) in
      let end : beam + 6 + (many * 227 - (beam + 6)) ≡ many * 227 = omega (arith, early) in
      ap (λ (places : ℕ). first_satisfied first second places (beam + 6)) split
      ∙ first_satisfied-passes first second (many * 227 - (beam + 6)) (frame_end - many * 227) (beam + 6)
      (λ k near. satisfied-fails-below many all (beam + 6 + k) (omega (arith, near, early)))
      ∙ ap (first_satisfied first second (frame_end - many * 227)) end

-- WAIT 9601 FF00 ends at line 150, position 0
pub waited-for-150 : waited 0x9601 0xFF00 16 ≡ 34050
unfolding fails-on satisfied first_satisfied
waited-for-150 = waited-past 0x9601 0xFF00 150 16 tt (omega arith) (omega arith)

-- WAIT FFFF FFFE ends past the frame
pub waited-for-never : waited 0xFFFF 0xFFFE 34066 ≡ 59474
unfolding fails-on satisfied first_satisfied
waited-for-never = waited-past 0xFFFF 0xFFFE 262 34066 tt (omega arith) (omega arith)

-- FFFF FFFE is satisfied at no place of the frame
pub first_satisfied-never : first_satisfied 0xFFFF 0xFFFE 59474 0 ≡ 59474
unfolding fails-on satisfied first_satisfied
first_satisfied-never =
    first_satisfied-passes 0xFFFF 0xFFFE 59474 0 0
    (λ k inside. satisfied-fails-below 0xFFFF 0xFFFE 262 tt (0 + k) (omega (arith, inside)))
