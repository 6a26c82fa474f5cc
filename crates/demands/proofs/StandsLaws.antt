-- Laws of the machine that a run stands on: after every step that is copied, what the folder knows agrees with its file.
use Rattle.std.specs.Prelude.{Ok, Some, Option}
use Rattle.word.proofs.Base.{◌≡◌, refl, sym, subst, ◌∙◌, ℕ, List, length, length-set}
use Rattle.word.specs.Choice.{given}
use Rattle.file.specs.File.{kept}
use Rattle.file.specs.Places.{blitter_length, file_length}
use Rattle.blit.specs.Blit.{Outcome, refused}
use Rattle.job.specs.declared.types.Step.{Step}
use Rattle.job.specs.Types.{Read}
use Rattle.runner.specs.Effect.{store_outside, own_rules, taken, answered, step_effect, effect}
use Rattle.runner.specs.Run.{Machine, after}
use Rattle.runner.proofs.EffectLaws.{step_effect-either, step_effect-of-blit}
use Rattle.runner.proofs.LengthLaws.{effect-keeps-memory-length, effect-keeps-file-length}
use Rattle.learning.specs.Learn.{written, forgotten}
use Rattle.folder.specs.Fold.{learned}
use Rattle.demands.proofs.AgreesLaws.{Agrees, agrees-of-set, agrees-of-flag}
use Rattle.demands.proofs.LearnLaws.{forgotten-keeps-length, agrees-of-kept}

-- what a run has at a step of the machine that it stands on: memory of n words, a whole file, and knowledge that agrees with it
pub record Stands (n : ℕ) (known : List (Option ℕ)) (before : Machine) : Type 0 where
  pub memory : length before.memory ≡ n
  pub file : length before.file ≡ file_length
  pub long : length known ≡ blitter_length
  pub agrees : Agrees known before.file

store-keeps-file : (to value : ℕ) (memory file : List ℕ) → (step_effect (Step.Store to value) memory file).file ≡ file
unfolding taken refused
store-keeps-file to value memory file =
    step_effect-either (λ (end : Outcome). end.file ≡ file) (Step.Store to value) memory file refl (λ number. refl)

-- after a step that is copied, knowledge agrees
module _ (n : ℕ) (known : List (Option ℕ)) (before : Machine) (stands : Stands n known before) where
  pub after-lengths : (step : Step) (next : ℕ) (learned : List (Option ℕ)) → length learned ≡ blitter_length
      → Agrees learned (step_effect step before.memory before.file).file
      → Stands n learned (after before (step_effect step before.memory before.file))
  unfolding effect
  after-lengths step next learned long agrees =
      record {
        memory = effect-keeps-memory-length (Ok (Some (step, next))) before.memory before.file ∙ stands.memory;
        file = effect-keeps-file-length (Ok (Some (step, next))) before.memory before.file ∙ stands.file;
        long = long;
        agrees = agrees;
      }

  pub stands-after-register : (place value next : ℕ) → Stands n (written place value known) (after before (step_effect (Step.Register place value) before.memory before.file))
  unfolding written step_effect answered taken store_outside own_rules given
  stands-after-register place value next =
      after-lengths (Step.Register place value) next (written place value known) (length-set known place _ ∙ stands.long)
      (agrees-of-set known before.file place (kept place value) stands.long stands.file stands.agrees)

  pub stands-after-store : (to value next : ℕ) → Stands n known (after before (step_effect (Step.Store to value) before.memory before.file))
  stands-after-store to value next =
      after-lengths (Step.Store to value) next known stands.long
      (subst (Agrees known) (sym (store-keeps-file to value before.memory before.file)) stands.agrees)

  pub stands-after-flag : (value next : ℕ) → Stands n known (after before (step_effect (Step.Flag value) before.memory before.file))
  unfolding step_effect answered taken store_outside own_rules given
  stands-after-flag value next =
      after-lengths (Step.Flag value) next known stands.long (agrees-of-flag known before.file value stands.long stands.agrees)

  pub stands-after-kept : (size next : ℕ) → Stands n (forgotten known) (after before (step_effect (Step.Size size) before.memory before.file))
  stands-after-kept size next =
      after-lengths (Step.Size size) next (forgotten known) (forgotten-keeps-length known ∙ stands.long)
      (subst (λ (end : Outcome). Agrees (forgotten known) end.file) (sym (step_effect-of-blit size before.memory before.file))
      (agrees-of-kept known before.memory before.file size stands.long stands.agrees))
