-- Laws of a step: what each kind of step leaves, how many words a step stores at most, and that a refused one changes nothing.
use Rattle.std.specs.Prelude.{if◌then◌else◌, Result, Ok, Err, IsErrAnd}
use Rattle.word.proofs.Base.{◌≡◌, refl, ℕ, ◌<◌, ◌≤◌, arith, Bool, true, false, eqb, eqb-false, le-leb, lt-leb, List, length, set}
use Rattle.word.specs.Choice.{given}
use Rattle.word.proofs.ChoiceLaws.{if-either}
use Rattle.file.specs.File.{kept}
use Rattle.file.specs.Places.{flag}
use Rattle.refusal.specs.declared.types.Refusal.{Refusal}
use Rattle.refusal.specs.Refusal.{step_refusal}
use Rattle.blit.specs.Blit.{Outcome, refused, blit_step}
use Rattle.blit.specs.Blit as blit
use Rattle.blit.specs.declared.types.Done.{Done}
use Rattle.blit.proofs.BlitLaws.{done-number, blit_step-counts}
use Rattle.job.specs.declared.types.Step.{Step}
use Rattle.runner.specs.declared.types.Refusal as reasons
use Rattle.runner.specs.Effect.{store_outside, own_rules, step_rules, taken, answered, step_effect}
use Rattle.runner.specs.Answer.{left_by_step}

pub step_effect-of-register : (place value word : ℕ) (memory file next : List ℕ) → word ≡ kept place value → next ≡ set file place word
    → left_by_step (Ok (record { stored = 0; round = false })) memory next ≡ step_effect (Step.Register place value) memory file
unfolding step_effect answered taken store_outside own_rules given
step_effect-of-register place value word memory file next keeps writes = rw (writes, keeps)

pub step_effect-of-flag : (value : ℕ) (memory file next : List ℕ) → next ≡ set file flag value
    → left_by_step (Ok (record { stored = 0; round = false })) memory next ≡ step_effect (Step.Flag value) memory file
unfolding step_effect answered taken store_outside own_rules given
step_effect-of-flag value memory file next writes = rw writes

pub step_effect-when-outside : (to value : ℕ) (memory file : List ℕ) → length memory ≤ to
    → left_by_step (Err reasons.Refusal.StoreOutside) memory file ≡ step_effect (Step.Store to value) memory file
unfolding step_effect answered store_outside own_rules given refused
step_effect-when-outside to value memory file outside = rw (le-leb (length memory) to outside)

pub step_effect-when-inside : (to value : ℕ) (memory file next : List ℕ) → to < length memory → next ≡ set memory to value
    → left_by_step (Ok (record { stored = 1; round = false })) next file ≡ step_effect (Step.Store to value) memory file
unfolding step_effect answered taken store_outside own_rules given
step_effect-when-inside to value memory file next inside writes = rw (lt-leb (length memory) to inside, writes)

-- a blit's step is the blit
pub step_effect-of-blit : (size : ℕ) (memory file : List ℕ) → step_effect (Step.Size size) memory file ≡ blit_step memory file size
unfolding step_effect answered taken store_outside own_rules given blit_step blit.answered step_refusal
step_effect-of-blit size memory file = refl

-- a blit's answer, as a step's
pub blit_step-when-done : (size : ℕ) (done : Done) (answer : Result Done Refusal) (memory file next end : List ℕ)
    → blit.left answer next end ≡ blit_step memory file size → answer ≡ Ok done
    → left_by_step (Ok done) next end ≡ blit_step memory file size
blit_step-when-done size done answer memory file next end blits same = rw same at blits

pub blit_step-when-refused : (size : ℕ) (why : Refusal) (answer : Result Done Refusal) (step : Result Done reasons.Refusal)
    (memory file next end : List ℕ) → blit.left answer next end ≡ blit_step memory file size → answer ≡ Err why
    → IsErrAnd step (λ reason. reason ≡ reasons.Refusal.Blit why) → left_by_step step next end ≡ blit_step memory file size
blit_step-when-refused size why answer (Ok done) memory file next end gives same passed = absurd passed
blit_step-when-refused size why answer (Err reason) memory file next end gives same passed =
    rw passed (rw same at gives)

-- by the step's kind
pub step_effect-of-kind : (step kind : Step) (outcome : Outcome) (memory file : List ℕ) → step ≡ kind
    → outcome ≡ step_effect kind memory file → outcome ≡ step_effect step memory file
step_effect-of-kind step kind outcome memory file same gives = rw same gives

pub step_effect-of-size : (step : Step) (size : ℕ) (outcome : Outcome) (memory file : List ℕ) → step ≡ Step.Size size
    → outcome ≡ blit_step memory file size → outcome ≡ step_effect step memory file
step_effect-of-size step size outcome memory file same gives = rw (same, step_effect-of-blit size memory file) gives

-- what holds of a step that is done, and of it refused with any number
pub step_effect-either : (Holds : Outcome → Type 0) (step : Step) (memory file : List ℕ)
    → Holds (taken step memory file) → ((number : ℕ) → Holds (refused number memory file)) → Holds (step_effect step memory file)
unfolding step_effect answered
step_effect-either Holds step memory file does stays =
    if-either Holds (eqb (given (step_rules (length memory) file step)) 0) (taken step memory file)
    (refused (given (step_rules (length memory) file step)) memory file) does (stays (given (step_rules (length memory) file step)))

pub taken-number : (step : Step) (memory file : List ℕ) → (taken step memory file).number ≡ 0
unfolding taken
taken-number (Step.Register place value) memory file = refl
taken-number (Step.Size size) memory file = done-number memory file size
taken-number (Step.Store to value) memory file = refl
taken-number (Step.Flag value) memory file = refl

-- a step that is done is taken
pub step_effect-when-done : (step : Step) (memory file : List ℕ) → (step_effect step memory file).number ≡ 0
    → step_effect step memory file ≡ taken step memory file
unfolding step_effect answered refused
step_effect-when-done step memory file = by-test (eqb number 0) refl
  where
    number : ℕ
    number = given (step_rules (length memory) file step)

    by-test : (none : Bool) → eqb number 0 ≡ none
        → (if none then taken step memory file else refused number memory file).number ≡ 0
        → (if none then taken step memory file else refused number memory file) ≡ taken step memory file
    by-test true same done = refl
    by-test false same done = absurd (eqb-false number 0 same done)

-- a step stores at most 65,536 words
Few : Outcome → Type 0
Few outcome = outcome.stored ≤ 65536

pub step_effect-counts : (step : Step) (memory file : List ℕ) → (step_effect step memory file).stored ≤ 65536
unfolding Few taken refused
step_effect-counts (Step.Register place value) memory file =
    step_effect-either Few (Step.Register place value) memory file (omega arith) (λ number. omega arith)
step_effect-counts (Step.Size size) memory file = rw (step_effect-of-blit size memory file) (blit_step-counts memory file size)
step_effect-counts (Step.Store to value) memory file =
    step_effect-either Few (Step.Store to value) memory file (omega arith) (λ number. omega arith)
step_effect-counts (Step.Flag value) memory file =
    step_effect-either Few (Step.Flag value) memory file (omega arith) (λ number. omega arith)

-- a refused step leaves memory and file
Stays : (memory file : List ℕ) → Outcome → Type 0
Stays memory file outcome = (outcome.number ≡ 0 → ⊥) → (outcome.memory ≡ memory) × (outcome.file ≡ file)

pub step_effect-stays : (step : Step) (memory file : List ℕ) → ((step_effect step memory file).number ≡ 0 → ⊥)
    → ((step_effect step memory file).memory ≡ memory) × ((step_effect step memory file).file ≡ file)
unfolding Stays refused
step_effect-stays step memory file =
    step_effect-either (Stays memory file) step memory file
    (λ refusal. absurd (refusal (taken-number step memory file))) (λ number refusal. (refl, refl))
