-- What a step and a run leave is accepted again: a register keeps its bits, a store puts a word of the job into memory, a flag
-- step sets the flag to 0 or 1, and a blit leaves what is accepted.
use Rattle.std.specs.Prelude.{Option, Some, None, Ok, Err}
use Rattle.word.proofs.Base.{refl, ◌∙◌, ℕ, zero, suc, ◌+◌, ◌<◌, false, ◌&&◌, eqb, leb, List, [], ◌∷◌}
use Rattle.word.proofs.Base.{drop, length-set}
use lib.Dec.{lit<}
use Rattle.word.specs.Pointer.{pointer}
use Rattle.word.specs.Word.{SixteenBits}
use Rattle.word.proofs.ChoiceLaws.{if-either}
use Rattle.word.proofs.WordLaws.{SixteenBits-of-set, SixteenBits-of-rest}
use Rattle.file.specs.File.{registers, kept_bits, kept, is_register}
use Rattle.file.specs.Places.{flag}
use Rattle.file.proofs.FileLaws.{kept_again, kept-of-bits, accepted-of-set}
use Rattle.blit.specs.AcceptedAgain.{Ready}
use Rattle.blit.specs.Blit.{Outcome, refused}
use Rattle.blit.proofs.AcceptedAgain as blits
use Rattle.job.specs.declared.types.Kind.{Kind}
use Rattle.job.specs.declared.types.Step.{Step}
use Rattle.job.specs.Types.{Read}
use Rattle.job.specs.Kind.{kind}
use Rattle.job.specs.declared.types.Refusal.{Refusal}
use Rattle.job.specs.Step.{found, is_odd, begun, front, step_at, read_number}
use Rattle.job.specs.Steps.{Placed, behind, steps_from}
use Rattle.job.proofs.StepsLaws.{behind-either}
use Rattle.runner.specs.Effect.{taken, effect}
use Rattle.runner.specs.Run.{Machine, machine, effect_on, after, ended, run_steps, run_from, start_refusal, run}
use Rattle.runner.specs.AcceptedAgain as statements
use Rattle.runner.proofs.EffectLaws.{step_effect-either, step_effect-of-blit}

-- what a step of words of 16 bits has: a store a word of 16 bits, a flag step 0 or 1
abbrev OfWords : Read → Type 0
OfWords (Ok (Some (Step.Register to value, next))) = Unit
OfWords (Ok (Some (Step.Size size, next))) = Unit
OfWords (Ok (Some (Step.Store to value, next))) = value < 65536
OfWords (Ok (Some (Step.Flag value, next))) = value < 2
OfWords (Ok None) = Unit
OfWords (Err why) = Unit

abbrev FlagBit : Option Kind → Type 0
FlagBit (Some (Kind.Register to)) = Unit
FlagBit (Some Kind.Size) = Unit
FlagBit (Some (Kind.Store high)) = Unit
FlagBit (Some (Kind.Flag value)) = value < 2
FlagBit None = Unit

kind-of-flag : (first : ℕ) → FlagBit (kind first)
unfolding kind
kind-of-flag first =
    if-either FlagBit (is_register first) _ _ tt
    (if-either FlagBit (eqb first 0x058) _ _ tt
    (if-either FlagBit (leb 0x8000 first && leb first 0x8007) _ _ tt
    (if-either FlagBit (eqb first 0xC000) _ _ (lit< tt) (if-either FlagBit (eqb first 0xC001) _ _ (lit< tt) tt))))

begun-of-words : (begins : Option Kind) (at : ℕ) (rest : List ℕ) → FlagBit begins → SixteenBits rest → OfWords (begun begins at rest)
unfolding begun found
begun-of-words None at rest bit all = tt
begun-of-words (Some (Kind.Register to)) at [] bit all = tt
begun-of-words (Some (Kind.Register to)) at (value ∷ rest) bit all = tt
begun-of-words (Some Kind.Size) at [] bit all = tt
begun-of-words (Some Kind.Size) at (value ∷ rest) bit all = tt
begun-of-words (Some (Kind.Store high)) at [] bit all = tt
begun-of-words (Some (Kind.Store high)) at (low ∷ []) bit all = tt
begun-of-words (Some (Kind.Store high)) at (low ∷ value ∷ rest) bit all =
    if-either OfWords (is_odd low) (Err Refusal.OddStore) (found at (Step.Store (pointer high low).word value)) tt (all 1)
begun-of-words (Some (Kind.Flag value)) at rest bit all = bit

front-of-words : (at : ℕ) (words : List ℕ) → SixteenBits words → OfWords (front at words)
unfolding front
front-of-words at [] all = tt
front-of-words at (first ∷ rest) all = begun-of-words (kind first) at rest (kind-of-flag first) (SixteenBits-of-rest first rest all)

-- one step
ReadyAfter : (n : ℕ) → Outcome → Type 0
ReadyAfter n outcome = Ready n outcome.memory outcome.file

module _ (n : ℕ) (memory file : List ℕ) (ready : Ready n memory file) where
  -- a refused one leaves what it found
  ready-when-refused : (number : ℕ) → ReadyAfter n (refused number memory file)
  unfolding ReadyAfter refused
  ready-when-refused number = ready

  effect-ready : (read : Read) → OfWords read → ReadyAfter n (effect read memory file)
  unfolding ReadyAfter effect taken kept_bits registers
  effect-ready (Ok (Some (Step.Register to value, next))) fine =
      step_effect-either (ReadyAfter n) (Step.Register to value) memory file
      (record {
        long = ready.long;
        words = ready.words;
        fine = accepted-of-set file ready.fine to (kept to value) (kept_again to value);
      })
      ready-when-refused
  effect-ready (Ok (Some (Step.Size size, next))) fine =
      rw (step_effect-of-blit size memory file) ((blits.accepted-again).step n memory file size ready)
  effect-ready (Ok (Some (Step.Store to value, next))) fine =
      step_effect-either (ReadyAfter n) (Step.Store to value) memory file
      (record {
        long = length-set memory to value ∙ ready.long;
        words = SixteenBits-of-set memory to value ready.words fine;
        fine = ready.fine;
      })
      ready-when-refused
  effect-ready (Ok (Some (Step.Flag value, next))) fine =
      step_effect-either (ReadyAfter n) (Step.Flag value) memory file
      (record {
        long = ready.long;
        words = ready.words;
        fine = accepted-of-set file ready.fine flag value (kept-of-bits flag value 1 refl fine);
      })
      ready-when-refused
  effect-ready (Ok None) fine = ready
  effect-ready (Err why) fine = ready-when-refused (read_number (Err why))

-- the words of a job from a place on
SixteenBits-of-drop : (job : List ℕ) (at : ℕ) → SixteenBits job → SixteenBits (drop at job)
SixteenBits-of-drop job zero all = all
SixteenBits-of-drop [] (suc at) all = all
SixteenBits-of-drop (first ∷ rest) (suc at) all = SixteenBits-of-drop rest at (SixteenBits-of-rest first rest all)

-- step after step
run_steps-ready : (n skip at : ℕ) (words : List ℕ) (before : Machine) → SixteenBits words → Ready n before.memory before.file
    → Ready n (run_steps (steps_from skip at words) before).machine.memory (run_steps (steps_from skip at words) before).machine.file
unfolding run_steps steps_from ReadyAfter
run_steps-ready n skip at [] before all ready = ready
run_steps-ready n zero at (first ∷ rest) before all ready =
    let outcome : Outcome = effect_on before (front at (first ∷ rest)) in
    let next = effect-ready n before.memory before.file ready (front at (first ∷ rest)) (front-of-words at (first ∷ rest) all) in
    let later : ℕ → List Placed = λ skip. steps_from skip (at + 1) rest in
    if-either (λ end. Ready n end.machine.memory end.machine.file) (eqb outcome.number 0)
    (run_steps (behind (front at (first ∷ rest)) later) (after before outcome)) (ended outcome.number at before)
    (behind-either
    (λ list. Ready n (run_steps list (after before outcome)).machine.memory (run_steps list (after before outcome)).machine.file)
    (front at (first ∷ rest)) later
    (λ skip. run_steps-ready n skip (at + 1) rest (after before outcome) (SixteenBits-of-rest first rest all) next) next)
    ready
run_steps-ready n (suc skip) at (word ∷ rest) before all ready =
    run_steps-ready n skip (at + 1) rest before (SixteenBits-of-rest word rest all) ready

pub accepted-again : statements.AcceptedAgain
unfolding step_at run ReadyAfter
accepted-again =
    record {
      step = λ n memory file job place all ready.
          effect-ready n memory file ready (front place (drop place job)) (front-of-words place (drop place job) (SixteenBits-of-drop job place all));
      run = λ n memory file job all ready.
          if-either (λ end. Ready n end.machine.memory end.machine.file) (eqb (start_refusal memory file job) 0)
          (run_from 0 job (machine memory file 0 false)) (ended (start_refusal memory file job) 0 (machine memory file 0 false))
          (run_steps-ready n 0 0 job (machine memory file 0 false) all ready) ready;
    }
