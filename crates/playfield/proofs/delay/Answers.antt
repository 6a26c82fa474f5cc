-- `playfield::delay` meets its contract: at an even place stands a plane with an odd number.
use Rattle.word.proofs.Base.{◌≡◌, refl, ℕ, ◌+◌, ◌%◌, arith, eq-eqb, ne_eqb}
use Rattle.playfield.specs.Playfield.{plane_delay}
use Rattle.playfield.proofs.delay.Goals as goal

plane_delay-of-odd : (odd even place : ℕ) → place % 2 ≡ 0 → odd ≡ plane_delay odd even (place + 1)
unfolding plane_delay
plane_delay-of-odd odd even place first = rw (eq-eqb ((place + 1) % 2) 1 (omega arith)) refl

plane_delay-of-even : (odd even place : ℕ) → (place % 2 ≡ 0 → ⊥) → even ≡ plane_delay odd even (place + 1)
unfolding plane_delay
plane_delay-of-even odd even place second = rw (ne_eqb ((place + 1) % 2) 1 (λ one. second (omega arith))) refl

pub returns-then-place-eq0 : goal.returns-then-place-eq0
returns-then-place-eq0 c = plane_delay-of-odd _ _ _ (omega arith)

pub returns : goal.returns
returns c = plane_delay-of-even _ _ _ (λ even. omega arith)
