-- Laws of what stands at the front of a run of words: a step stands there too when the run is cut after it, and the end never does.
use Rattle.std.specs.Prelude.{if◌then◌else◌, Option, Some, None, Ok, Err}
use Rattle.word.proofs.Base.{◌≡◌, ap, ℕ, zero, suc, ◌≤◌, arith, Bool, true, false, List, [], ◌∷◌, length, take}
use Rattle.word.specs.Pointer.{pointer}
use Rattle.job.specs.declared.types.Kind.{Kind}
use Rattle.job.specs.declared.types.Step.{Step}
use Rattle.job.specs.declared.types.Refusal.{Refusal}
use Rattle.job.specs.Kind.{kind}
use Rattle.job.specs.Step.{operands, found, is_odd, begun, front}
use Rattle.job.proofs.StepLaws.{front-of-end}
use Rattle.job.proofs.WellCutLaws.{following}

-- a step stands whole in a run of words that is cut after its last word
begun-of-take : (begins : Option Kind) (at more : ℕ) (rest : List ℕ) (step : Step) (next : ℕ)
    → begun begins at rest ≡ Ok (Some (step, next)) → operands step ≤ more → begun begins at (take more rest) ≡ Ok (Some (step, next))
unfolding begun found operands following
begun-of-take None at more rest step next reads fits = reads
begun-of-take (Some (Kind.Register place)) at more [] step next reads fits = let n : ◌≡◌ {A = ℕ} 0 1 = cc in absurd (omega arith)
begun-of-take (Some (Kind.Register place)) at zero (value ∷ rest) step next reads fits =
    absurd (omega (arith, ap following reads))
begun-of-take (Some (Kind.Register place)) at (suc more) (value ∷ rest) step next reads fits = reads
begun-of-take (Some Kind.Size) at more [] step next reads fits = let n : ◌≡◌ {A = ℕ} 0 1 = cc in absurd (omega arith)
begun-of-take (Some Kind.Size) at zero (value ∷ rest) step next reads fits =
    absurd (omega (arith, ap following reads))
begun-of-take (Some Kind.Size) at (suc more) (value ∷ rest) step next reads fits = reads
begun-of-take (Some (Kind.Store high)) at more [] step next reads fits = let n : ◌≡◌ {A = ℕ} 0 1 = cc in absurd (omega arith)
begun-of-take (Some (Kind.Store high)) at more (low ∷ []) step next reads fits = let n : ◌≡◌ {A = ℕ} 0 1 = cc in absurd (omega arith)
begun-of-take (Some (Kind.Store high)) at zero (low ∷ value ∷ rest) step next reads fits = absurd (short (is_odd low) reads)
  where
    short : (odd : Bool) → (if odd then Err Refusal.OddStore else found at (Step.Store (pointer high low).word value)) ≡ Ok (Some (step, next)) → ⊥
    short true reads = let n : ◌≡◌ {A = ℕ} 0 1 = cc in omega arith
    short false reads = omega (arith, ap following reads)
begun-of-take (Some (Kind.Store high)) at (suc zero) (low ∷ value ∷ rest) step next reads fits = absurd (short (is_odd low) reads)
  where
    short : (odd : Bool) → (if odd then Err Refusal.OddStore else found at (Step.Store (pointer high low).word value)) ≡ Ok (Some (step, next)) → ⊥
    short true reads = let n : ◌≡◌ {A = ℕ} 0 1 = cc in omega arith
    short false reads = omega (arith, ap following reads)
begun-of-take (Some (Kind.Store high)) at (suc (suc more)) (low ∷ value ∷ rest) step next reads fits = reads
begun-of-take (Some (Kind.Flag flag)) at more rest step next reads fits = reads

pub front-of-take : (at more first : ℕ) (rest : List ℕ) (step : Step) (next : ℕ)
    → front at (first ∷ rest) ≡ Ok (Some (step, next)) → operands step ≤ more → front at (first ∷ take more rest) ≡ Ok (Some (step, next))
unfolding front
front-of-take at more first rest step next reads fits = begun-of-take (kind first) at more rest step next reads fits

-- what a first word begins is never the end
pub front-is-some : (at first : ℕ) (rest : List ℕ) → front at (first ∷ rest) ≡ Ok None → ⊥
front-is-some at first rest reads = let none : length (first ∷ rest) ≡ 0 = front-of-end at (first ∷ rest) reads in omega arith
