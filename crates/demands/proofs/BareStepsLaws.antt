-- Laws of steps without their places: a run of whole steps is its steps, one after the other, wherever it stands.
use Rattle.std.specs.Prelude.{Some, None, Ok, Err}
use Rattle.word.proofs.Base.{◌≡◌, refl, sym, ap, ◌∙◌, ℕ, zero, suc, ◌+◌, ◌≤◌, add-zero, arith, Bool, true}
use Rattle.word.proofs.Base.{false, ◌&&◌, List, [], ◌∷◌, ◌++◌, length, drop, drop_of_length-le}
use Rattle.job.specs.declared.types.Step.{Step}
use Rattle.job.specs.Types.{Read}
use Rattle.job.specs.Step.{operands, found, front}
use Rattle.job.specs.Steps.{Placed, placed, behind, steps_from, steps}
use Rattle.job.proofs.StepLaws.{front-le}
use Rattle.job.proofs.StepsLaws.{steps_from-of-step}
use Rattle.job.proofs.WellCutLaws.{is_step, faultless, well_cut, faultless-anywhere, steps-of-append}
use Rattle.demands.specs.SettledAreReplaced.{bare_step, bare_steps, placed_from}
use Rattle.demands.proofs.GoodStepLaws.{front-elsewhere}

-- whole steps, read at one place, stand one after the other at any other
steps_from-is-placed_from : (skip at to : ℕ) (words : List ℕ) → skip ≤ length words → faultless (steps_from skip at words) ≡ true
    → steps_from skip to words ≡ placed_from (to + skip) (bare_steps (steps_from skip at words))
unfolding steps_from faultless is_step behind bare_steps bare_step placed_from found
steps_from-is-placed_from zero at to [] inside whole = refl
steps_from-is-placed_from (suc skip) at to [] inside whole = absurd (omega arith)
steps_from-is-placed_from zero at to (first ∷ rest) inside whole =
    by_read (front at (first ∷ rest)) refl whole (λ skip. steps_from-is-placed_from skip (at + 1) (to + 1) rest)
  where
    by_read : (read : Read) → front at (first ∷ rest) ≡ read
        → (is_step read && faultless (behind read (λ skip. steps_from skip (at + 1) rest))) ≡ true
        → ((skip : ℕ) → skip ≤ length rest → faultless (steps_from skip (at + 1) rest) ≡ true
        → steps_from skip (to + 1) rest ≡ placed_from (to + 1 + skip) (bare_steps (steps_from skip (at + 1) rest)))
        → steps_from 0 to (first ∷ rest) ≡ placed_from (to + 0) (bare_step read ++ bare_steps (behind read (λ skip. steps_from skip (at + 1) rest)))
    by_read (Ok (Some (step, next))) reads whole later =
        let fits = front-le at (first ∷ rest) step next reads in
        let same : to + 1 + operands step ≡ to + (1 + operands step) = omega arith in
        ap (λ (read : Read). placed to read ∷ behind read (λ skip. steps_from skip (to + 1) rest)) (front-elsewhere at to first rest step next reads)
        ∙ ap (λ (others : List Placed). placed to (found to step) ∷ others)
        (later (operands step) (omega arith) whole
        ∙ ap (λ (place : ℕ). placed_from place (bare_steps (steps_from (operands step) (at + 1) rest))) same)
        ∙ ap (λ (place : ℕ). placed_from place (step ∷ bare_steps (steps_from (operands step) (at + 1) rest))) (sym (add-zero to))
    by_read (Ok None) reads whole later = let n : ◌≡◌ {A = ℕ} 0 1 = cc in absurd (omega arith)
    by_read (Err why) reads whole later = let n : ◌≡◌ {A = ℕ} 0 1 = cc in absurd (omega arith)
steps_from-is-placed_from (suc skip) at to (word ∷ rest) inside whole =
    let same : to + 1 + skip ≡ to + suc skip = omega arith in
    steps_from-is-placed_from skip (at + 1) (to + 1) rest (omega arith) whole
    ∙ ap (λ (place : ℕ). placed_from place (bare_steps (steps_from skip (at + 1) rest))) same

bare_steps-of-placed_from : (at : ℕ) (list : List Step) → bare_steps (placed_from at list) ≡ list
unfolding bare_steps bare_step placed_from found
bare_steps-of-placed_from at [] = refl
bare_steps-of-placed_from at (step ∷ rest) = ap (λ (others : List Step). step ∷ others) (bare_steps-of-placed_from (at + (1 + operands step)) rest)

bare_steps-of-append : (first rest : List Placed) → bare_steps (first ++ rest) ≡ bare_steps first ++ bare_steps rest
unfolding bare_steps bare_step
bare_steps-of-append [] rest = refl
bare_steps-of-append (one ∷ first) rest = by_read one.read (bare_steps-of-append first rest)
  where
    by_read : (read : Read) → bare_steps (first ++ rest) ≡ bare_steps first ++ bare_steps rest
        → bare_step read ++ bare_steps (first ++ rest) ≡ (bare_step read ++ bare_steps first) ++ bare_steps rest
    by_read (Ok (Some (step, next))) later = ap (λ (others : List Step). step ∷ others) later
    by_read (Ok None) later = later
    by_read (Err why) later = later

faultless-of-append : (first rest : List Placed) → faultless first ≡ true → faultless rest ≡ true → faultless (first ++ rest) ≡ true
unfolding faultless
faultless-of-append [] rest one other = other
faultless-of-append (one ∷ first) rest all other = by_first (is_step one.read) all (λ whole. faultless-of-append first rest whole other)
  where
    by_first : (is : Bool) → (is && faultless first) ≡ true → (faultless first ≡ true → faultless (first ++ rest) ≡ true)
        → (is && faultless (first ++ rest)) ≡ true
    by_first true whole later = later whole
    by_first false wrong later = wrong

-- a run of words that is whole steps, and these are they
pub record Says (words : List ℕ) (list : List Step) : Type 0 where
  pub whole : well_cut words ≡ true
  pub are : bare_steps (steps words) ≡ list

pub says_nothing : Says [] []
unfolding well_cut faultless steps_from bare_steps
says_nothing = record { whole = refl; are = refl }

-- the step that some words are
pub says-step : (raw : List ℕ) (step : Step) → length raw ≡ 1 + operands step → front 0 raw ≡ found 0 step → Says raw (step ∷ [])
unfolding well_cut faultless is_step bare_steps bare_step found steps_from
says-step raw step long reads =
    let past : length raw ≤ suc (operands step) = omega (arith, long) in
    let rest : drop (suc (operands step)) raw ≡ [] = drop_of_length-le raw past in
    let one : steps raw ≡ placed 0 (found 0 step) ∷ [] =
    steps_from-of-step 0 raw step (0 + (1 + operands step)) reads
    ∙ ap (λ (more : List ℕ). placed 0 (found 0 step) ∷ steps_from 0 (0 + (1 + operands step)) more) rest in
    record { whole = ap faultless one; are = ap bare_steps one }

pub says-append : (first rest : List ℕ) (some more : List Step) → Says first some → Says rest more → Says (first ++ rest) (some ++ more)
unfolding well_cut
says-append first rest some more one other =
    let apart : steps (first ++ rest) ≡ steps first ++ steps_from 0 (0 + length first) rest = steps-of-append 0 first rest one.whole in
    let there : bare_steps (steps_from 0 (0 + length first) rest) ≡ bare_steps (steps rest) =
    ap bare_steps (steps_from-is-placed_from 0 0 (0 + length first) rest (omega arith) other.whole)
    ∙ bare_steps-of-placed_from (0 + length first + 0) (bare_steps (steps rest)) in
    record {
      whole =
          ap faultless apart
          ∙ faultless-of-append (steps first) (steps_from 0 (0 + length first) rest) one.whole
          (faultless-anywhere 0 (0 + length first) 0 rest ∙ other.whole);
      are =
          ap bare_steps apart
          ∙ bare_steps-of-append (steps first) (steps_from 0 (0 + length first) rest)
          ∙ ap (λ (others : List Step). bare_steps (steps first) ++ others) (there ∙ other.are)
          ∙ ap (λ (others : List Step). others ++ more) one.are;
    }

-- a run of whole steps is its steps, from its first word on
pub says-in-order : (words : List ℕ) (list : List Step) → Says words list → steps words ≡ placed_from 0 list
unfolding well_cut
says-in-order words list is =
    steps_from-is-placed_from 0 0 0 words (omega arith) is.whole ∙ ap (placed_from 0) is.are
