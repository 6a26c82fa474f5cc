-- Laws of a block's final words: equal sources give equal words, and a source that is ignored may be any.
use Rattle.word.proofs.Base.{◌≡◌, refl, ap, ◌∙◌, ℕ, zero, suc, ◌+◌, ◌-◌, ◌<◌, ◌≤◌, arith, Bool, true, false, List}
use Rattle.word.specs.declared.types.Fill.{Fill}
use Rattle.word.specs.declared.types.Filled.{Filled}
use Rattle.word.specs.Logic.{logic}
use Rattle.quiet.specs.Words.{word_before, shifted_at, mixed_at, carry_to, filled_at, result_at}
use Rattle.block.specs.Inner.Types.{Needs}
use Rattle.block.specs.Inner.Each.{filled_word_at}
use Rattle.block.specs.Inner.Ignores.{Ignores}
use Rattle.block.proofs.MixLaws.{ignores-of}
use Rattle.blocks.specs.Inner.Block.{Direction, Inputs, Earlier, Setup, masked_at, at, Each, final_word_at, needed}
use Rattle.blocks.specs.Inner.MadeOf.{Stand, FinalWords, FinalCarry}

-- equal words give equal words
shifted_at-same : (direction : Direction) (by first : ℕ) (word same : ℕ → ℕ) (n : ℕ) → ((i : ℕ) → i < n → word i ≡ same i)
    → (k : ℕ) → k < n → shifted_at direction by first word k ≡ shifted_at direction by first same k
unfolding shifted_at word_before
shifted_at-same direction by first word same n all zero below = rw (all 0 below)
shifted_at-same direction by first word same n all (suc k) below = rw (all k (omega arith), all (suc k) below)

filled_at-same : (fill : Fill) (start width : ℕ) (word same : ℕ → ℕ) (n : ℕ) → ((i : ℕ) → i < n → word i ≡ same i)
    → (k : ℕ) → k < n → filled_at fill start width word k ≡ filled_at fill start width same k
unfolding filled_at carry_to
filled_at-same fill start width word same n all k below = rw (carries k below, all k below)
  where
    carries : (k : ℕ) → k < n → carry_to fill start width word k ≡ carry_to fill start width same k
    carries zero below = refl
    carries (suc k) below = rw (carries k (omega arith), all k (omega arith))

module _ (setup : Setup) (width n all : ℕ) (need : Needs) (earlier : Earlier) (x : Inputs (List ℕ)) (ya yb o : List ℕ) (fits : n ≤ all) (is : need ≡ needed setup.function)
    (to-a : need.a ≡ true → Each (all + 1) ya (shifted_at setup.direction setup.shifts.a earlier.a (at x.a)))
    (to-b : need.b ≡ true → Each (all + 1) yb (shifted_at setup.direction setup.shifts.b earlier.b (at x.b)))
    (mixes : Each all o (mixed_at setup.function (at ya) (at yb) (at x.c))) where
  results-are : (a b c : ℕ → ℕ) (i : ℕ) → i ≤ n → Stand setup width i x a b c → (j : ℕ) → j < i → at o j ≡ result_at setup width earlier a b c j
  unfolding result_at mixed_at Each at
  results-are a b c i most stand j below = mixes j (omega arith) ∙ by-a need.a refl ∙ by-b need.b refl ∙ by-c need.c refl
    where
      ignores : Ignores setup.function need
      ignores = rw is (ignores-of setup.function)

      shift_a : ℕ
      shift_a = shifted_at setup.direction setup.shifts.a earlier.a (masked_at setup.masks width a) j

      shift_b : ℕ
      shift_b = shifted_at setup.direction setup.shifts.b earlier.b b j

      by-a : (told : Bool) → need.a ≡ told → logic setup.function (at ya j) (at yb j) (at x.c j) ≡ logic setup.function shift_a (at yb j) (at x.c j)
      by-a true told = ap (λ (a : ℕ). logic setup.function a (at yb j) (at x.c j)) (to-a told j (omega arith) ∙ shifted_at-same _ _ _ (at x.a) _ i (stand.of_a (rw is at told)) j below)
      by-a false told = ignores.a told _ _ _ _

      by-b : (told : Bool) → need.b ≡ told
          → logic setup.function shift_a (at yb j) (at x.c j) ≡ logic setup.function shift_a shift_b (at x.c j)
      by-b true told = ap (λ (b : ℕ). logic setup.function shift_a b (at x.c j)) (to-b told j (omega arith) ∙ shifted_at-same _ _ _ (at x.b) _ i (stand.of_b (rw is at told)) j below)
      by-b false told = ignores.b told _ _ _ _

      by-c : (told : Bool) → need.c ≡ told → logic setup.function shift_a shift_b (at x.c j) ≡ logic setup.function shift_a shift_b (c j)
      by-c true told = ap (logic setup.function _ _) (stand.of_c (rw is at told) j below)
      by-c false told = ignores.c told _ _ _ _

  pub finals-are : (after : List ℕ) (carry : ℕ) → 1 ≤ n → Each n after (filled_word_at setup.fill setup.carry width (at o))
      → carry ≡ (filled_at setup.fill setup.carry width (at o) (n - 1)).carry
      → FinalWords setup width n earlier x after × FinalCarry setup width n earlier x carry
  unfolding Each filled_word_at final_word_at
  finals-are after carry some fills told = (
    λ a b c i most stand j below.
        fills j (omega arith) ∙ ap (λ (made : Filled). made.word) (filled_at-same _ _ _ (at o) _ i (results-are a b c i most stand) j below),
    λ a b c stand.
        told ∙ ap (λ (made : Filled). made.carry) (filled_at-same _ _ _ (at o) _ n (results-are a b c n (omega arith) stand) (n - 1) (omega arith)),
  )
