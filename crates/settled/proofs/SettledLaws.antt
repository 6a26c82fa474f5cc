-- Laws of a settled blit: each condition from its parts.
use Rattle.std.specs.Prelude.{if◌then◌else◌, Option, Result, Ok, Err}
use Rattle.word.proofs.Base.{◌≡◌, refl, sym, ◌∙◌, ℕ, ◌*◌, Bool, true, false, ◌&&◌, not, eqb, leb}
use Rattle.word.proofs.Base.{not-true, arith, List, get_or}
use Rattle.word.specs.Size.{height, width}
use Rattle.word.proofs.ChoiceLaws.{and_left, and_right, and_none}
use Rattle.file.specs.Places.{control0}
use Rattle.file.specs.File.{con0}
use Rattle.word.specs.Control.{function}
use Rattle.refusal.specs.declared.types.Refusal.{Refusal}
use Rattle.refusal.specs.declared.types.Plan.{Plan}
use Rattle.refusal.specs.Refusal.{step_refusal, verdict_number}
use Rattle.refusal.proofs.RefusalLaws.{refusal-is-some}
use Rattle.round.specs.Round.{goes_round}
use Rattle.knowledge.specs.Knowledge.{numbers}
use Rattle.settled.specs.declared.types.Fate.{Fate}
use Rattle.settled.specs.Settled.{controls_known, only_d_used, sources_known, otherwise_settled, settled, kept_for_round}
use Rattle.settled.specs.Inner.Fate.{fate, by_round}

-- a verdict, and the moves of a lawful blit
module _ (n : ℕ) (file : List ℕ) (size : ℕ) (verdict : Result Plan Refusal) (gives : verdict_number verdict ≡ step_refusal n file size) where
  pub kept-when-refused : (why : Refusal) → verdict ≡ Err why
      → Fate.Kept ≡ (if eqb (step_refusal n file size) 0 then by_round (goes_round file size) else Fate.Kept)
  kept-when-refused why same = rw (← gives, same, refusal-is-some why)

  pub fate-when-lawful : (by : Plan) (round : Bool) (told : Fate) → verdict ≡ Ok by → round ≡ goes_round file size → told ≡ by_round round
      → told ≡ (if eqb (step_refusal n file size) 0 then by_round (goes_round file size) else Fate.Kept)
  fate-when-lawful by round told same tells goes = rw (← gives, same, ← tells) goes

pub small-of-parts : (size rows words : ℕ) → rows ≡ height size → words ≡ width size
    → leb (rows * words) 64 ≡ leb (height size * width size) 64
small-of-parts size rows words tall wide = rw (tall, wide)

-- the conditions, the cheap ones first
module _ (n size : ℕ) (known : List (Option ℕ)) (few : Bool) (of-few : few ≡ leb (height size * width size) 64) where
  pub fate-when-large : few ≡ false → Fate.Kept ≡ fate n known size
  unfolding fate settled kept_for_round otherwise_settled
  fate-when-large fails =
      rw (← of-few, fails, and_none (controls_known known && only_d_used (con0 (numbers known)) && eqb (step_refusal n (numbers known) size) 0))

  module _ (is-few : few ≡ true) (controls : Bool) (of-controls : controls ≡ controls_known known) where
    pub fate-when-unknown : controls ≡ false → Fate.Kept ≡ fate n known size
    unfolding fate settled kept_for_round otherwise_settled
    fate-when-unknown fails = rw (← of-controls, fails)

    module _ (are-known : controls ≡ true) (file : List ℕ) (of-file : file ≡ numbers known) (only : Bool)
        (of-only : only ≡ only_d_used (get_or file control0 0)) where
      pub fate-when-fetching : only ≡ false → Fate.Kept ≡ fate n known size
      unfolding fate settled kept_for_round otherwise_settled
      fate-when-fetching fails = rw (← of-controls, are-known, ← of-file, ← of-only, fails)

      module _ (alone : only ≡ true) (sources : Bool) (of-sources : sources ≡ sources_known (function (get_or file control0 0)) known) where
        pub fate-when-sourceless : sources ≡ false → Fate.Kept ≡ fate n known size
        unfolding fate settled kept_for_round otherwise_settled
        fate-when-sourceless fails =
            rw (← of-controls, are-known, ← of-file, ← of-only, alone, ← of-sources, fails, and_none (eqb (step_refusal n file size) 0 && leb (height size * width size) 64))

        pub fate-when-known : sources ≡ true → (told : Fate)
            → told ≡ (if eqb (step_refusal n file size) 0 then by_round (goes_round file size) else Fate.Kept) → told ≡ fate n known size
        unfolding fate settled kept_for_round otherwise_settled by_round
        fate-when-known holds told is =
            rw (← of-controls, are-known, ← of-file, ← of-only, alone, ← of-sources, holds, ← of-few, is-few)
            (is ∙ by_tests (eqb (step_refusal n file size) 0) (goes_round file size))
          where
            by_tests : (done round : Bool)
                → (if done then (if round then Fate.KeptForRound else Fate.Settled) else Fate.Kept)
                ≡ (if done && true && true && not round then Fate.Settled else
                if done && true && true && round then Fate.KeptForRound else
                Fate.Kept)
            by_tests true true = refl
            by_tests true false = refl
            by_tests false round = refl

-- what each fate says of a blit
module _ (n size : ℕ) (known : List (Option ℕ)) (told : Fate) (is : told ≡ fate n known size) where
  pub fate-settled : told ≡ Fate.Settled → settled n known size ≡ true
  unfolding fate
  fate-settled same = by-test (settled n known size) (kept_for_round n known size) (sym same ∙ is)
    where
      by-test : (settles round : Bool) → Fate.Settled ≡ (if settles then Fate.Settled else if round then Fate.KeptForRound else Fate.Kept) → settles ≡ true
      by-test true round tells = refl
      by-test false true tells = let n : ◌≡◌ {A = ℕ} 0 1 = cc in absurd (omega arith)
      by-test false false tells = let n : ◌≡◌ {A = ℕ} 0 1 = cc in absurd (omega arith)

  pub fate-round : told ≡ Fate.KeptForRound → (settled n known size ≡ false) × (kept_for_round n known size ≡ true)
  unfolding fate
  fate-round same = by-test (settled n known size) (kept_for_round n known size) (sym same ∙ is)
    where
      by-test : (settles round : Bool) → Fate.KeptForRound ≡ (if settles then Fate.Settled else if round then Fate.KeptForRound else Fate.Kept)
          → (settles ≡ false) × (round ≡ true)
      by-test true round tells = let n : ◌≡◌ {A = ℕ} 0 1 = cc in absurd (omega arith)
      by-test false true tells = (refl, refl)
      by-test false false tells = let n : ◌≡◌ {A = ℕ} 0 1 = cc in absurd (omega arith)

  pub fate-kept : told ≡ Fate.Kept → (settled n known size ≡ false) × (kept_for_round n known size ≡ false)
  unfolding fate
  fate-kept same = by-test (settled n known size) (kept_for_round n known size) (sym same ∙ is)
    where
      by-test : (settles round : Bool) → Fate.Kept ≡ (if settles then Fate.Settled else if round then Fate.KeptForRound else Fate.Kept)
          → (settles ≡ false) × (round ≡ false)
      by-test true round tells = let n : ◌≡◌ {A = ℕ} 0 1 = cc in absurd (omega arith)
      by-test false true tells = let n : ◌≡◌ {A = ℕ} 0 1 = cc in absurd (omega arith)
      by-test false false tells = (refl, refl)

-- a settled blit isn't also kept, and doesn't go round
pub settled-is-not-kept : (n : ℕ) (known : List (Option ℕ)) (size : ℕ) → settled n known size ≡ true → kept_for_round n known size ≡ false
unfolding settled kept_for_round
settled-is-not-kept n known size = by_tests (otherwise_settled n known size) (goes_round (numbers known) size)
  where
    by_tests : (otherwise round : Bool) → (otherwise && not round) ≡ true → (otherwise && round) ≡ false
    by_tests true true holds = sym holds
    by_tests true false holds = refl
    by_tests false round holds = refl

pub settled-is-otherwise : (n : ℕ) (known : List (Option ℕ)) (size : ℕ) → settled n known size ≡ true → otherwise_settled n known size ≡ true
unfolding settled
settled-is-otherwise n known size holds = and_left (otherwise_settled n known size) (not (goes_round (numbers known) size)) holds

pub settled-never-goes-round : (n : ℕ) (known : List (Option ℕ)) (size : ℕ) → settled n known size ≡ true → goes_round (numbers known) size ≡ false
unfolding settled
settled-never-goes-round n known size holds = not-true (goes_round (numbers known) size) (and_right (otherwise_settled n known size) (not (goes_round (numbers known) size)) holds)
