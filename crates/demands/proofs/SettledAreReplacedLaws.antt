-- The steps of a folded job: a settled blit's words are whole steps, and any other step is its own.
use Rattle.std.specs.Prelude.{if◌then◌else◌, Option}
use Rattle.word.proofs.Base.{◌≡◌, refl, sym, ap, subst, ◌∙◌, ℕ, ◌+◌, ◌<◌, arith, Bool, true, false, List, []}
use Rattle.word.proofs.Base.{◌∷◌, ◌++◌, length}
use Rattle.word.specs.declared.types.Pointer.{Pointer}
use Rattle.word.specs.Pointer.{pointer_end}
use Rattle.word.specs.Size.{height, width}
use Rattle.file.specs.Places.{pointer_d}
use Rattle.area.specs.Setup.{setup}
use Rattle.file.specs.Pointers.{pointer_at}
use Rattle.area.specs.Flow.{state, pointers, start}
use Rattle.refusal.proofs.TouchLaws.{touches-stay}
use Rattle.file.proofs.PointersLaws.{pointer_at-lt}
use Rattle.job.specs.declared.types.Step.{Step}
use Rattle.job.specs.Types.{Read}
use Rattle.job.specs.Step.{operands, found, front}
use Rattle.job.specs.Steps.{Placed, steps_from, steps}
use Rattle.job.proofs.WellCutLaws.{is_step, faultless, well_cut}
use Rattle.knowledge.specs.Knowledge.{nothing, numbers}
use Rattle.stores.specs.Stores.{Store, stores, all_zero, final_d}
use Rattle.stores.proofs.OnlyDLaws.{OnlyD}
use Rattle.stores.proofs.OnMemoryLaws.{Inside, blit_stores-inside}
use Rattle.settled.specs.Words.{store_words, stores_words, pointer_words, flag_words, settled_words}
use Rattle.settled.proofs.StoreLaws.{steps-of-store, steps-of-end}
use Rattle.settled.specs.Settled.{settled}
use Rattle.folder.specs.Fold.{becomes, learned, raw_words, piece, learned_after, fold_steps, fold_from, fold}
use Rattle.demands.specs.SettledAreReplaced.{bare_step, bare_steps, replaced, all_replaced, SettledAreReplaced}
use Rattle.demands.proofs.SettledKnownLaws.{settled-uses-d}
use Rattle.demands.proofs.FoldedJobLaws.{Done, folding-when-done, folded_job-is-fold}
use Rattle.demands.proofs.GoodStepLaws.{Good, steps-are-good}
use Rattle.demands.proofs.BareStepsLaws.{Says, says_nothing, says-step, says-append, says-in-order}

-- a run of words is whole steps, whichever they are
abbrev Whole : (words : List ℕ) → Type 0
Whole words = Says words (bare_steps (steps words))

whole_of : (words : List ℕ) → well_cut words ≡ true → Whole words
whole_of words is = record { whole = is; are = refl }

whole_append : (first rest : List ℕ) → Whole first → Whole rest → Whole (first ++ rest)
whole_append first rest one other =
    whole_of (first ++ rest) (says-append first rest (bare_steps (steps first)) (bare_steps (steps rest)) one other).whole

whole-store : (to : Pointer) (value : ℕ) → to.word < pointer_end → Whole (store_words to value)
unfolding well_cut faultless is_step found steps_from
whole-store to value small = whole_of (store_words to value) (ap faultless (steps-of-store 0 value to [] small))

whole-end : (to : Pointer) (allzero : Bool) → Whole (pointer_words to ++ flag_words allzero)
unfolding well_cut faultless is_step found steps_from
whole-end to allzero = whole_of (pointer_words to ++ flag_words allzero) (ap faultless (steps-of-end 0 to allzero []))

whole-stores : (n : ℕ) (list : List Store) → Inside n list → Whole (stores_words list)
unfolding stores_words Inside
whole-stores n [] inside = whole_of [] says_nothing.whole
whole-stores n (one ∷ rest) inside =
    whole_append (store_words one.to one.value) (stores_words rest) (whole-store one.to one.value inside.0) (whole-stores n rest inside.2)

-- no store lies past what a pointer reaches
stores-reached : (file : List ℕ) (size : ℕ) → OnlyD (setup file).uses → Inside pointer_end (stores file size)
unfolding stores start pointers
stores-reached file size only =
    blit_stores-inside (setup file) only (width size) pointer_end (height size) (state [] (start file)) (pointer_at-lt file pointer_d)
    (touches-stay pointer_end (setup file).direction (width size) (setup file).modulos.d (height size) (pointer_at file pointer_d) (omega arith) (pointer_at-lt file pointer_d))

whole-settled : (file : List ℕ) (size : ℕ) → OnlyD (setup file).uses → Whole (settled_words file size)
unfolding settled_words
whole-settled file size only =
    whole_append (stores_words (stores file size)) (pointer_words (final_d file size) ++ flag_words (all_zero (stores file size)))
    (whole-stores pointer_end (stores file size) (stores-reached file size only))
    (whole-end (final_d file size) (all_zero (stores file size)))

-- what one step becomes
becomes-says : (n : ℕ) (known : List (Option ℕ)) (step : Step) (raw : List ℕ) → length raw ≡ 1 + operands step → front 0 raw ≡ found 0 step
    → Says (becomes n known step raw) (replaced n known step)
unfolding becomes replaced
becomes-says n known (Step.Register to value) raw long reads = says-step raw (Step.Register to value) long reads
becomes-says n known (Step.Store to value) raw long reads = says-step raw (Step.Store to value) long reads
becomes-says n known (Step.Flag value) raw long reads = says-step raw (Step.Flag value) long reads
becomes-says n known (Step.Size size) raw long reads = by-test (settled n known size) refl
  where
    by-test : (test : Bool) → settled n known size ≡ test
        → Says (if test then settled_words (numbers known) size else raw)
        (if test then bare_steps (steps (settled_words (numbers known) size)) else Step.Size size ∷ [])
    by-test true holds = whole-settled (numbers known) size (settled-uses-d n known size holds)
    by-test false keeps = says-step raw (Step.Size size) long reads

-- what all of them become
fold_steps-say : (n : ℕ) (job : List ℕ) (list : List Placed) → Good job list → (known : List (Option ℕ))
    → Says (fold_steps n known job list) (all_replaced n known (bare_steps list))
unfolding Good fold_steps piece learned_after all_replaced bare_steps bare_step
fold_steps-say n job [] good known = says_nothing
fold_steps-say n job (one ∷ rest) good known =
    subst (λ (read : Read). Says (piece n known job one.place read ++ fold_steps n (learned_after n known read) job rest)
    (all_replaced n known (bare_step read ++ bare_steps rest)))
    (sym good.0.reads)
    (says-append (becomes n known good.0.step (raw_words job one.place good.0.step)) (fold_steps n (learned n known good.0.step) job rest)
    (replaced n known good.0.step) (all_replaced n (learned n known good.0.step) (bare_steps rest))
    (becomes-says n known good.0.step (raw_words job one.place good.0.step) good.0.long (good.0.decodes 0))
    (fold_steps-say n job rest good.1 (learned n known good.0.step)))

pub settled-are-replaced : SettledAreReplaced
unfolding fold fold_from
settled-are-replaced n job out accepts =
    let is : Done n job out = folding-when-done n job out accepts in
    ap steps (folded_job-is-fold n job out is)
    ∙ says-in-order (fold n job) (all_replaced n nothing (bare_steps (steps job)))
    (fold_steps-say n job (steps job) (steps-are-good job 0 0 job refl is.clean) nothing)
