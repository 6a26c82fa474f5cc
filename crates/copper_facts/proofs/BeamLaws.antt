-- The beam only goes forward: by an instruction's kind.
use Rattle.word.proofs.Base.{◌≡◌, ℕ, zero, suc, ◌+◌, ◌-◌, ◌≤◌, arith}
use Rattle.word.proofs.ChoiceLaws.{if-either}
use Rattle.beam.specs.Beam.{frame_end}
use Rattle.beam.specs.Satisfied.{satisfied}
use Rattle.beam.specs.Wait.{first_satisfied, waited}
use Rattle.instruction.specs.Effect.{Moment, Turn, after_instruction, effect}
use Rattle.instruction.proofs.EffectLaws.{effect-either}
use Rattle.copper_facts.specs.BeamGoesForward.{BeamGoesForward}

first_satisfied-ge : (first second many place : ℕ) → place ≤ first_satisfied first second many place
unfolding first_satisfied
first_satisfied-ge first second zero place = omega arith
first_satisfied-ge first second (suc many) place =
    if-either (λ (end : ℕ). place ≤ end) (satisfied first second place) place (first_satisfied first second many (suc place))
    (omega arith) (omega (arith, first_satisfied-ge first second many (suc place)))

pub waited-ge : (first second beam : ℕ) → beam + 6 ≤ waited first second beam
unfolding waited
waited-ge first second beam = first_satisfied-ge first second (frame_end - (beam + 6)) (beam + 6)

-- one that is done takes the beam four places on at least
pub effect-forward : (here : Moment) → (effect here).number ≡ 0 → here.beam + 4 ≤ (effect here).moment.beam
unfolding after_instruction
effect-forward here =
    effect-either (λ (taken : Turn). taken.number ≡ 0 → here.beam + 4 ≤ taken.moment.beam) here
    (λ number some none. absurd (some none)) (λ size none. omega arith) (λ place value none. omega arith)
    (λ first second none. omega (arith, waited-ge first second here.beam)) (λ first second none. omega arith)

pub beam-goes-forward : BeamGoesForward
beam-goes-forward = record { instruction = effect-forward; wait = waited-ge }
