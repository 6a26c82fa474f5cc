-- Laws of a step: what the words after a first word make of it, and what stands at a place of a job.
use Rattle.std.specs.Prelude.{if◌then◌else◌, Option, Some, None, Ok, Err}
use Rattle.word.proofs.Base.{◌≡◌, refl, sym, ap, ◌∙◌, ℕ, suc, ◌+◌, ◌-◌, ◌%◌, ◌<◌, ◌≤◌, dec_lt, arith, Bool, true, false}
use Rattle.word.proofs.Base.{eq-eqb, ne_eqb, List, [], ◌∷◌, ◌++◌, length, get_or, drop, drop_of_length-le, drop-cons}
use lib.ListN.{length-drop, take}
use Rattle.std.proofs.lemmas.List.{take_all}
use Rattle.word.specs.Pointer.{pointer}
use Rattle.word.specs.declared.types.Pointer.{Pointer}
use Rattle.job.specs.declared.types.Kind.{Kind}
use Rattle.job.specs.declared.types.Step.{Step}
use Rattle.job.specs.declared.types.Refusal.{Refusal}
use Rattle.job.specs.Types.{Read}
use Rattle.job.specs.Kind.{kind}
use Rattle.job.specs.Step.{operands, found, is_odd, begun, front, step_at}

-- the step that a first word begins, by the words after it, of which there are enough or too few
module _ (begins : Kind) (at : ℕ) where
  pub begun-of-register : (rest : List ℕ) (place : ℕ) → begins ≡ Kind.Register place → 1 ≤ length rest
      → Ok (Some (Step.Register place (get_or rest 0 0), at + 2)) ≡ begun (Some begins) at rest
  unfolding begun found operands
  begun-of-register [] place same more = absurd (omega arith)
  begun-of-register (value ∷ rest) place same more = rw same

  pub begun-of-size : (rest : List ℕ) → begins ≡ Kind.Size → 1 ≤ length rest
      → Ok (Some (Step.Size (get_or rest 0 0), at + 2)) ≡ begun (Some begins) at rest
  unfolding begun found operands
  begun-of-size [] same more = absurd (omega arith)
  begun-of-size (value ∷ rest) same more = rw same

  pub begun-of-odd : (rest : List ℕ) (high : ℕ) → begins ≡ Kind.Store high → 2 ≤ length rest → get_or rest 0 0 % 2 ≡ 1
      → Err Refusal.OddStore ≡ begun (Some begins) at rest
  unfolding begun
  begun-of-odd [] high same more odd = absurd (omega arith)
  begun-of-odd (low ∷ []) high same more odd = absurd (omega arith)
  begun-of-odd (low ∷ value ∷ rest) high same more odd = rw (same, eq-eqb (low % 2) 1 odd)

  pub begun-of-store : (rest : List ℕ) (high : ℕ) (to : Pointer) → begins ≡ Kind.Store high → 2 ≤ length rest
      → (get_or rest 0 0 % 2 ≡ 1 → ⊥) → to ≡ pointer high (get_or rest 0 0)
      → Ok (Some (Step.Store to.word (get_or rest 1 0), at + 3)) ≡ begun (Some begins) at rest
  unfolding begun found operands
  begun-of-store [] high to same more even address = absurd (omega arith)
  begun-of-store (low ∷ []) high to same more even address = absurd (omega arith)
  begun-of-store (low ∷ value ∷ rest) high to same more even address = rw (same, ne_eqb (low % 2) 1 even, address)

  pub begun-of-register-cut : (rest : List ℕ) (place : ℕ) → begins ≡ Kind.Register place → length rest < 1
      → Err Refusal.CutOff ≡ begun (Some begins) at rest
  unfolding begun
  begun-of-register-cut [] place same cut = rw same
  begun-of-register-cut (value ∷ rest) place same cut = absurd (omega arith)

  pub begun-of-size-cut : (rest : List ℕ) → begins ≡ Kind.Size → length rest < 1 → Err Refusal.CutOff ≡ begun (Some begins) at rest
  unfolding begun
  begun-of-size-cut [] same cut = rw same
  begun-of-size-cut (value ∷ rest) same cut = absurd (omega arith)

  pub begun-of-store-cut : (rest : List ℕ) (high : ℕ) → begins ≡ Kind.Store high → length rest < 2
      → Err Refusal.CutOff ≡ begun (Some begins) at rest
  unfolding begun
  begun-of-store-cut [] high same cut = rw same
  begun-of-store-cut (low ∷ []) high same cut = rw same
  begun-of-store-cut (low ∷ value ∷ rest) high same cut = absurd (omega arith)

-- what stands at a place of a job: past the last word the end; elsewhere the first word's kind decides
module _ (job : List ℕ) (at : ℕ) where
  pub step_at-at-end : length job ≤ at → Ok None ≡ step_at job at
  unfolding step_at front
  step_at-at-end past = rw (drop_of_length-le job past)

  module _ (inside : at < length job) (begins : Option Kind) (is : begins ≡ kind (get_or job at 0)) where
    step_at-of-kind : begun begins at (drop (at + 1) job) ≡ step_at job at
    unfolding step_at front
    step_at-of-kind =
        let later : at + 1 ≡ suc at = omega arith in
        rw (later, drop-cons job at 0 inside, is)

    pub step_at-of-nothing : begins ≡ None → Err Refusal.NoStep ≡ step_at job at
    unfolding begun
    step_at-of-nothing same = rw same at step_at-of-kind

    pub step_at-of-begun : (one : Kind) (read : Read) → begins ≡ Some one
        → read ≡ begun (Some one) at (take (length job - (at + 1)) (drop (at + 1) job)) → read ≡ step_at job at
    step_at-of-begun one read same reads =
        let whole = take_all (length job - (at + 1)) (drop (at + 1) job) (omega (arith, length-drop (at + 1) job)) in
        reads ∙ (rw (whole, ← same) step_at-of-kind)

-- what is known of what was read at the front of a run: of a step, that its words stand in the run, and the next place
abbrev InRun : (at : ℕ) → (words : List ℕ) → Read → Type 0
InRun at words (Ok (Some (step, next))) = (next ≡ at + (1 + operands step)) × (1 + operands step ≤ length words)
InRun at words (Ok None) = Unit
InRun at words (Err why) = Unit

begun-in-run : (begins : Option Kind) (at first : ℕ) (rest : List ℕ) → InRun at (first ∷ rest) (begun begins at rest)
unfolding begun found operands
begun-in-run None at first rest = tt
begun-in-run (Some (Kind.Register place)) at first [] = tt
begun-in-run (Some (Kind.Register place)) at first (value ∷ rest) = (refl, omega arith)
begun-in-run (Some Kind.Size) at first [] = tt
begun-in-run (Some Kind.Size) at first (value ∷ rest) = (refl, omega arith)
begun-in-run (Some (Kind.Store high)) at first [] = tt
begun-in-run (Some (Kind.Store high)) at first (low ∷ []) = tt
begun-in-run (Some (Kind.Store high)) at first (low ∷ value ∷ rest) = by-test (is_odd low)
  where
    by-test : (odd : Bool)
        → InRun at (first ∷ low ∷ value ∷ rest) (if odd then Err Refusal.OddStore else found at (Step.Store (pointer high low).word value))
    by-test true = tt
    by-test false = (refl, omega arith)
begun-in-run (Some (Kind.Flag flag)) at first rest = (refl, omega arith)

front-in-run : (at : ℕ) (words : List ℕ) → InRun at words (front at words)
unfolding front
front-in-run at [] = tt
front-in-run at (first ∷ rest) = begun-in-run (kind first) at first rest

module _ (at : ℕ) (words : List ℕ) (step : Step) (next : ℕ) (reads : front at words ≡ Ok (Some (step, next))) where
  step-in-run : InRun at words (Ok (Some (step, next)))
  step-in-run = rw reads at (front-in-run at words)

  pub front-next : next ≡ at + (1 + operands step)
  front-next = step-in-run.0

  pub front-le : 1 + operands step ≤ length words
  front-le = step-in-run.1

module _ (job : List ℕ) (at : ℕ) (step : Step) (next : ℕ) (reads : step_at job at ≡ Ok (Some (step, next))) where
  -- the next place is past the step's words
  pub step_at-next : next ≡ at + (1 + operands step)
  unfolding step_at
  step_at-next = front-next at (drop at job) step next reads

  -- a step moves on, and stays within the job
  pub step_at-moves : (at < next) × (next ≤ length job)
  unfolding step_at
  step_at-moves =
      let past = front-next at (drop at job) step next reads in
      let inside = front-le at (drop at job) step next reads in
      (omega arith, omega (arith, length-drop at job))

-- the same of what a reader has given
module _ (job : List ℕ) (at : ℕ) (read : Read) (reads : read ≡ step_at job at) (found : Option (Step × ℕ)) (is : read ≡ Ok found) where
  module _ (step : Step) (next : ℕ) (same : found ≡ Some (step, next)) where
    pub read-step : step_at job at ≡ Ok (Some (step, next))
    read-step = sym reads ∙ is ∙ ap Ok same

    pub read-moves : at < next
    read-moves = (step_at-moves job at step next read-step).0

    pub read-inside : next ≤ length job
    read-inside = (step_at-moves job at step next read-step).1

    pub read-falls : length job - next < length job - at
    read-falls = let on = read-moves in let inside = read-inside in omega arith

  pub read-end : found ≡ None → step_at job at ≡ Ok None
  read-end same = sym reads ∙ is ∙ ap Ok same

-- only past the last word does the end stand
begun-is-some : (begins : Option Kind) (at : ℕ) (rest : List ℕ) → begun begins at rest ≡ Ok None → ⊥
unfolding begun found
begun-is-some None at rest reads = let n : ◌≡◌ {A = ℕ} 0 1 = cc in omega arith
begun-is-some (Some (Kind.Register place)) at [] reads = let n : ◌≡◌ {A = ℕ} 0 1 = cc in omega arith
begun-is-some (Some (Kind.Register place)) at (value ∷ rest) reads = let n : ◌≡◌ {A = ℕ} 0 1 = cc in omega arith
begun-is-some (Some Kind.Size) at [] reads = let n : ◌≡◌ {A = ℕ} 0 1 = cc in omega arith
begun-is-some (Some Kind.Size) at (value ∷ rest) reads = let n : ◌≡◌ {A = ℕ} 0 1 = cc in omega arith
begun-is-some (Some (Kind.Store high)) at [] reads = let n : ◌≡◌ {A = ℕ} 0 1 = cc in omega arith
begun-is-some (Some (Kind.Store high)) at (low ∷ []) reads = let n : ◌≡◌ {A = ℕ} 0 1 = cc in omega arith
begun-is-some (Some (Kind.Store high)) at (low ∷ value ∷ rest) reads = by-test (is_odd low) reads
  where
    by-test : (odd : Bool) → (if odd then Err Refusal.OddStore else found at (Step.Store (pointer high low).word value)) ≡ Ok None → ⊥
    by-test true reads = let n : ◌≡◌ {A = ℕ} 0 1 = cc in omega arith
    by-test false reads = let n : ◌≡◌ {A = ℕ} 0 1 = cc in omega arith
begun-is-some (Some (Kind.Flag flag)) at rest reads = let n : ◌≡◌ {A = ℕ} 0 1 = cc in omega arith

pub front-of-end : (at : ℕ) (words : List ℕ) → front at words ≡ Ok None → length words ≡ 0
unfolding front
front-of-end at [] reads = refl
front-of-end at (first ∷ rest) reads = absurd (begun-is-some (kind first) at rest reads)

pub step_at-of-end : (job : List ℕ) (at : ℕ) → step_at job at ≡ Ok None → length job ≤ at
unfolding step_at
step_at-of-end job at reads = let none = front-of-end at (drop at job) reads in omega (arith, length-drop at job)

-- words after a run change nothing of a step at its front
begun-of-append : (begins : Option Kind) (at : ℕ) (rest more : List ℕ) (step : Step) (next : ℕ)
    → begun begins at rest ≡ Ok (Some (step, next)) → begun begins at (rest ++ more) ≡ Ok (Some (step, next))
unfolding begun
begun-of-append None at rest more step next reads = reads
begun-of-append (Some (Kind.Register place)) at [] more step next reads = let n : ◌≡◌ {A = ℕ} 0 1 = cc in absurd (omega arith)
begun-of-append (Some (Kind.Register place)) at (value ∷ rest) more step next reads = reads
begun-of-append (Some Kind.Size) at [] more step next reads = let n : ◌≡◌ {A = ℕ} 0 1 = cc in absurd (omega arith)
begun-of-append (Some Kind.Size) at (value ∷ rest) more step next reads = reads
begun-of-append (Some (Kind.Store high)) at [] more step next reads = let n : ◌≡◌ {A = ℕ} 0 1 = cc in absurd (omega arith)
begun-of-append (Some (Kind.Store high)) at (low ∷ []) more step next reads = let n : ◌≡◌ {A = ℕ} 0 1 = cc in absurd (omega arith)
begun-of-append (Some (Kind.Store high)) at (low ∷ value ∷ rest) more step next reads = reads
begun-of-append (Some (Kind.Flag flag)) at rest more step next reads = reads

pub front-of-append : (at : ℕ) (words more : List ℕ) (step : Step) (next : ℕ)
    → front at words ≡ Ok (Some (step, next)) → front at (words ++ more) ≡ Ok (Some (step, next))
unfolding front
front-of-append at [] more step next reads = let n : ◌≡◌ {A = ℕ} 0 1 = cc in absurd (omega arith)
front-of-append at (first ∷ rest) more step next reads = begun-of-append (kind first) at rest more step next reads
