-- Laws of store steps: what the words of a store, a pointer and a flag do when they are run.
use Rattle.std.specs.Prelude.{if◌then◌else◌, Some}
use Rattle.word.proofs.Base.{◌≡◌, refl, ℕ, zero, suc, ◌+◌, ◌%◌, ◌<◌, add-zero, arith, Bool, true, false, ne_eqb}
use Rattle.word.proofs.Base.{lt-leb, List, ◌∷◌, ◌++◌, length, set}
use mathlib.Core.Bool.{or-false}
use Rattle.word.specs.declared.types.Pointer.{Pointer}
use Rattle.word.specs.Choice.{given}
use Rattle.word.specs.Pointer.{pointer_end, pointer, high, low}
use Rattle.file.specs.File.{registers, place_in, place, is_register, kept_bits, kept}
use Rattle.file.specs.Places.{pointer_d, flag}
use Rattle.file.proofs.FileLaws.{kept-of-high, kept-of-low}
use Rattle.job.specs.declared.types.Kind.{Kind}
use Rattle.job.specs.declared.types.Step.{Step}
use Rattle.job.specs.Kind.{kind}
use Rattle.job.specs.Step.{operands, found, begun, front}
use Rattle.job.specs.Steps.{placed, behind, steps_from}
use Rattle.runner.specs.Effect.{store_outside, own_rules, taken, answered, step_effect, effect}
use Rattle.runner.specs.Run.{machine, run_steps, run_from}
use Rattle.settled.specs.Words.{store_words, pointer_words, flag_words}

kind-of-store : (half : ℕ) → half < 8 → kind (0x8000 + half) ≡ Some (Kind.Store half)
unfolding kind is_register place place_in registers
kind-of-store zero small = refl
kind-of-store (suc zero) small = refl
kind-of-store (suc (suc zero)) small = refl
kind-of-store (suc (suc (suc zero))) small = refl
kind-of-store (suc (suc (suc (suc zero)))) small = refl
kind-of-store (suc (suc (suc (suc (suc zero))))) small = refl
kind-of-store (suc (suc (suc (suc (suc (suc zero)))))) small = refl
kind-of-store (suc (suc (suc (suc (suc (suc (suc zero))))))) small = refl
kind-of-store (suc (suc (suc (suc (suc (suc (suc (suc half)))))))) small = absurd (omega arith)

-- the halves of a pointer make the pointer
pub pointer-of-halves : (to : Pointer) → to.word < pointer_end → (pointer (high to) (low to)).word ≡ to.word
unfolding pointer
pointer-of-halves to small = omega arith

-- what stands at the front of a store's words
front-of-store : (at value : ℕ) (to : Pointer) (more : List ℕ) → to.word < pointer_end
    → front at ((0x8000 + high to) ∷ low to ∷ value ∷ more) ≡ found at (Step.Store to.word value)
unfolding front begun
front-of-store at value to more small =
    rw (kind-of-store (high to) (omega arith), ne_eqb (low to % 2) 1 (λ odd. omega arith), pointer-of-halves to small)

-- a store in memory, and the run after it
pub run-of-store : (at value : ℕ) (to : Pointer) (more memory file : List ℕ) (stored : ℕ) (round : Bool)
    → to.word < pointer_end → to.word < length memory
    → run_from at (store_words to value ++ more) (machine memory file stored round)
    ≡ run_from (at + 1 + 1 + 1) more (machine (set memory to.word value) file (stored + 1) round)
unfolding steps_from run_steps found behind operands effect step_effect answered taken store_outside own_rules given
run-of-store at value to more memory file stored round small inside =
    rw (front-of-store at value to more small, lt-leb (length memory) to.word inside, or-false round)

-- D's pointer keeps its halves
high-kept : (to : Pointer) → kept pointer_d (high to) ≡ high to
unfolding kept_bits registers
high-kept to = kept-of-high pointer_d to refl

low-kept : (to : Pointer) → kept (pointer_d + 1) (low to) ≡ low to
unfolding kept_bits registers
low-kept to = kept-of-low (pointer_d + 1) to refl

front-of-high : (at value : ℕ) (more : List ℕ) → front at (0x0054 ∷ value ∷ more) ≡ found at (Step.Register pointer_d value)
unfolding front begun kind is_register place place_in registers
front-of-high at value more = refl

front-of-low : (at value : ℕ) (more : List ℕ) → front at (0x0056 ∷ value ∷ more) ≡ found at (Step.Register (pointer_d + 1) value)
unfolding front begun kind is_register place place_in registers
front-of-low at value more = refl

front-of-flag : (at : ℕ) (allzero : Bool) (more : List ℕ)
    → front at ((if allzero then 0xC001 else 0xC000) ∷ more) ≡ found at (Step.Flag (if allzero then 1 else 0))
unfolding front begun kind is_register place place_in registers
front-of-flag at true more = refl
front-of-flag at false more = refl

-- the end of a settled blit's words: D's pointer and the flag, and the run after them
pub run-of-end : (at : ℕ) (to : Pointer) (allzero : Bool) (more memory file : List ℕ) (stored : ℕ) (round : Bool)
    → run_from at ((pointer_words to ++ flag_words allzero) ++ more) (machine memory file stored round)
    ≡ run_from (at + 1 + 1 + 1 + 1 + 1) more
    (machine memory (set (set (set file pointer_d (high to)) (pointer_d + 1) (low to)) flag (if allzero then 1 else 0)) stored round)
unfolding steps_from run_steps found behind operands effect step_effect answered taken store_outside own_rules given
run-of-end at to allzero more memory file stored round =
    rw (front-of-high at (high to) (0x0056 ∷ low to ∷ (if allzero then 0xC001 else 0xC000) ∷ more))
    (rw (front-of-low (at + 1 + 1) (low to) ((if allzero then 0xC001 else 0xC000) ∷ more))
    (rw (front-of-flag (at + 1 + 1 + 1 + 1) allzero more)
    (rw (high-kept to, low-kept to, add-zero, add-zero, add-zero, or-false round, or-false round, or-false round))))

-- the steps of a store's words, and of the words that end a settled blit
pub steps-of-store : (at value : ℕ) (to : Pointer) (more : List ℕ) → to.word < pointer_end
    → steps_from 0 at (store_words to value ++ more) ≡ placed at (found at (Step.Store to.word value)) ∷ steps_from 0 (at + 1 + 1 + 1) more
unfolding steps_from found behind operands
steps-of-store at value to more small = rw (front-of-store at value to more small)

pub steps-of-end : (at : ℕ) (to : Pointer) (allzero : Bool) (more : List ℕ)
    → steps_from 0 at ((pointer_words to ++ flag_words allzero) ++ more)
    ≡ placed at (found at (Step.Register pointer_d (high to)))
    ∷ placed (at + 1 + 1) (found (at + 1 + 1) (Step.Register (pointer_d + 1) (low to)))
    ∷ placed (at + 1 + 1 + 1 + 1) (found (at + 1 + 1 + 1 + 1) (Step.Flag (if allzero then 1 else 0)))
    ∷ steps_from 0 (at + 1 + 1 + 1 + 1 + 1) more
unfolding steps_from found behind operands
steps-of-end at to allzero more =
    rw (front-of-high at (high to) (0x0056 ∷ low to ∷ (if allzero then 0xC001 else 0xC000) ∷ more))
    (rw (front-of-low (at + 1 + 1) (low to) ((if allzero then 0xC001 else 0xC000) ∷ more))
    (rw (front-of-flag (at + 1 + 1 + 1 + 1) allzero more)))
