-- The examples are computed, but for the two WAITs of the sample list, whose ends are laws.
use Rattle.word.proofs.Base.{◌≡◌, refl, ap, ◌∙◌, ℕ, arith, Bool, true, false, ◌&&◌, eqb, eqb-true, List, [], ◌∷◌, ◌++◌}
use mathlib.Core.List.{map}
use Rattle.word.specs.Example.{Example}
use Rattle.word.specs.Choice.{given}
use Rattle.word.proofs.ChoiceLaws.{and_left, and_right}
use Rattle.file.specs.File.{registers, place_in, place, is_register, kept_bits, kept}
use Rattle.beam.specs.Satisfied.{satisfied}
use Rattle.instruction.specs.Instruction.{instruction}
use Rattle.instruction.specs.Permitted.{danger, permitted, modelled}
use Rattle.instruction.specs.Refusal.{outside, forbidden, not_modelled, own_rules, instruction_refusal}
use Rattle.instruction.specs.Effect.{after_instruction, decided, instruction_effect, effect}
use Rattle.copper_facts.specs.Course.{after}
use Rattle.copper_facts.specs.ManualHolds.{numbers_before, down, comparisons, never, sample_list}
use Rattle.copper_facts.proofs.ManualLaws.{waited-for-150, waited-for-never, first_satisfied-never}
use Rattle.copper_facts.proofs.manual_holds.Goals as goal

abbrev all_give : List Example → List (List ℕ)
all_give examples = map (λ (example : Example). example.gives) examples

abbrev all_say : List Example → List (List ℕ)
all_say examples = map (λ (example : Example). example.says) examples

sample-holds : all_give sample_list ≡ all_say sample_list
unfolding after effect instruction_effect decided instruction_refusal given outside forbidden not_modelled own_rules after_instruction instruction permitted danger modelled is_register place place_in registers kept_bits kept
sample-holds = rw (waited-for-150, waited-for-never)

-- the numbers of two lists compared one by one
same_numbers : (these those : List ℕ) → Bool
same_numbers [] [] = true
same_numbers [] (that ∷ those) = false
same_numbers (this ∷ these) [] = false
same_numbers (this ∷ these) (that ∷ those) = eqb this that && same_numbers these those

same_numbers-is-same : (these those : List ℕ) → same_numbers these those ≡ true → these ≡ those
unfolding same_numbers
same_numbers-is-same [] [] same = refl
same_numbers-is-same [] (that ∷ those) same = let n : ◌≡◌ {A = ℕ} 0 1 = cc in absurd (omega arith)
same_numbers-is-same (this ∷ these) [] same = let n : ◌≡◌ {A = ℕ} 0 1 = cc in absurd (omega arith)
same_numbers-is-same (this ∷ these) (that ∷ those) same =
    let heads = eqb-true this that (and_left (eqb this that) (same_numbers these those) same) in
    let tails = same_numbers-is-same these those (and_right (eqb this that) (same_numbers these those) same) in
    rw (heads, tails)

all_same : List Example → Bool
all_same [] = true
all_same (example ∷ rest) = same_numbers example.gives example.says && all_same rest

all_same-is-same : (examples : List Example) → all_same examples ≡ true → all_give examples ≡ all_say examples
unfolding all_same
all_same-is-same [] same = refl
all_same-is-same (example ∷ rest) same =
    let heads = same_numbers-is-same example.gives example.says (and_left (same_numbers example.gives example.says) (all_same rest) same) in
    let tails = all_same-is-same rest (and_right (same_numbers example.gives example.says) (all_same rest) same) in
    rw (heads, tails)

comparisons-hold : all_give comparisons ≡ all_say comparisons
unfolding same_numbers all_same satisfied numbers_before down
comparisons-hold = all_same-is-same comparisons refl

never-holds : all_give never ≡ all_say never
never-holds = rw first_satisfied-never

pub returns : goal.returns
returns c = ap (λ (rows : List (List ℕ)). rows ++ (all_give never ++ all_give sample_list)) comparisons-hold
    ∙ ap (λ (rows : List (List ℕ)). all_say comparisons ++ (rows ++ all_give sample_list)) never-holds
    ∙ ap (λ (rows : List (List ℕ)). all_say comparisons ++ (all_say never ++ rows)) sample-holds
