-- Laws of the rules: the first that applies has the number that the effect has, and every number of theirs is past 3.
use Rattle.std.specs.Prelude.{if◌then◌else◌, Some, None, Ok, Err}
use Rattle.word.proofs.Base.{◌≡◌, refl, sym, ◌∙◌, ℕ, ◌<◌, Bool, true, false, ◌&&◌, eqb, ltb, eqb-true, ltb-true, List}
use Rattle.word.proofs.Base.{[], ◌∷◌, length}
use Rattle.word.specs.Choice.{Rule, given}
use Rattle.word.proofs.ChoiceLaws.{and_left, and_right}
use Rattle.refusal.specs.Refusal.{area_rules, line_rules}
use Rattle.refusal.proofs.PlanLaws.{line_or_area-cases}
use Rattle.blit.specs.Blit.{refused}
use Rattle.job.specs.declared.types.Refusal.{Refusal}
use Rattle.job.specs.declared.types.Step.{Step}
use Rattle.job.specs.Types.{Read}
use Rattle.job.specs.Step.{read_number}
use Rattle.runner.specs.Effect.{own_rules, step_rules, rules_at, taken, answered, step_effect, effect}
use Rattle.runner.specs.Run.{Machine, effect_on}
use Rattle.runner.specs.EachNumberExactly.{rules_on}
use Rattle.runner.proofs.EffectLaws.{taken-number}

-- a step has the number that it is answered with
answered-number : (number : ℕ) (step : Step) (memory file : List ℕ) → number ≡ (answered number step memory file).number
unfolding answered refused
answered-number number step memory file = by-test (eqb number 0) refl
  where
    by-test : (none : Bool) → eqb number 0 ≡ none
        → number ≡ (if none then taken step memory file else refused number memory file).number
    by-test true same = eqb-true number 0 same ∙ sym (taken-number step memory file)
    by-test false same = refl

pub rules_on-is-effect : (before : Machine) (read : Read) → given (rules_on before read) ≡ (effect_on before read).number
unfolding rules_at effect step_effect given refused read_number
rules_on-is-effect before (Ok (Some (step, next))) =
    answered-number (given (step_rules (length before.memory) before.file step)) step before.memory before.file
rules_on-is-effect before (Ok None) = refl
rules_on-is-effect before (Err why) = refl

-- every number is past 3, by a computed test
abbrev late : List Rule → Bool
late [] = true
late (rule ∷ rest) = ltb 3 rule.number && late rest

given-lt : (rules : List Rule) → late rules ≡ true → (given rules ≡ 0 → ⊥) → 3 < given rules
unfolding given
given-lt [] all refusal = absurd (refusal refl)
given-lt (rule ∷ rest) all refusal =
    by-test rule.applies refusal (given-lt rest (and_right (ltb 3 rule.number) (late rest) all))
  where
    by-test : (applies : Bool) → ((if applies then rule.number else given rest) ≡ 0 → ⊥) → ((given rest ≡ 0 → ⊥) → 3 < given rest)
        → 3 < (if applies then rule.number else given rest)
    by-test true refusal later = ltb-true 3 rule.number (and_left (ltb 3 rule.number) (late rest) all)
    by-test false refusal later = later refusal

rules_at-are-late : (n : ℕ) (file : List ℕ) (read : Read) → late (rules_at n file read) ≡ true
unfolding rules_at own_rules
rules_at-are-late n file (Ok (Some (Step.Register place value, next))) = refl
rules_at-are-late n file (Ok (Some (Step.Size size, next))) =
    line_or_area-cases (λ (rules : List Rule). late rules ≡ true) file (line_rules n file size) (area_rules n file size) (λ _. refl) (λ _. refl)
rules_at-are-late n file (Ok (Some (Step.Store to value, next))) = refl
rules_at-are-late n file (Ok (Some (Step.Flag value, next))) = refl
rules_at-are-late n file (Ok None) = refl
rules_at-are-late n file (Err Refusal.NoStep) = refl
rules_at-are-late n file (Err Refusal.CutOff) = refl
rules_at-are-late n file (Err Refusal.OddStore) = refl

pub rules_on-lt : (before : Machine) (read : Read) → (given (rules_on before read) ≡ 0 → ⊥) → 3 < given (rules_on before read)
rules_on-lt before read = given-lt (rules_on before read) (rules_at-are-late (length before.memory) before.file read)
