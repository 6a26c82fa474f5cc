-- Laws of a copying set-up: use A and D, function F0, shift 0, no fill, both masks all ones. Each final word is the one at
-- A's pointer.
use Rattle.word.proofs.Base.{◌≡◌, refl, sym, ap, ◌∙◌, ℕ, zero, suc, ◌+◌, ◌*◌, ◌<◌, ◌≤◌, arith, Bool, true, false, List}
use Rattle.word.proofs.Base.{get_or}
use mathlib.Core.Path.{fun_ext}
use Rattle.word.specs.declared.types.Direction.{Direction}
use Rattle.word.specs.declared.types.Pointer.{Pointer}
use Rattle.word.specs.declared.types.Fill.{Fill}
use Rattle.word.specs.declared.types.Fill.TheVariants.{Off}
use Rattle.word.specs.Word.{SixteenBits}
use Rattle.word.specs.Shift.{shifted}
use Rattle.word.specs.Logic.{logic}
use Rattle.word.specs.Fill.{filled}
use Rattle.word.proofs.ChoiceLaws.{if-when-true}
use Rattle.word.proofs.MaskLaws.{masked-by-ones}
use Rattle.word.proofs.ShiftLaws.{shifted-by-zero}
use Rattle.word.proofs.LogicLaws.{logic-of-f0}
use Rattle.area.specs.declared.types.Setup.{Setup}
use Rattle.area.specs.declared.types.Flow.{Flow}
use Rattle.area.specs.Flow.{State, state, nothing}
use Rattle.area.specs.Fetch.{fetched}
use Rattle.area.specs.Rows.{area_blit}
use Rattle.quiet.specs.Words.{word_before, masked_at, shifted_at, mixed_at, result_at, filled_at}
use Rattle.quiet.specs.Stream.{at_a, at_d, word_a, final_word, laid_at}
use Rattle.quiet.specs.Quiet.{Unmet, Quiet}
use Rattle.quiet.proofs.QuietLaws.{quiet-blit}

pub record Copying (setup : Setup) : Type 0 where
  pub a : setup.uses.a ≡ true
  pub b : setup.uses.b ≡ false
  pub c : setup.uses.c ≡ false
  pub d : setup.uses.d ≡ true
  pub function : setup.function ≡ 0xF0
  pub shift : setup.shifts.a ≡ 0
  pub fill : setup.fill ≡ Off
  pub first : setup.masks.first ≡ 0xFFFF
  pub last : setup.masks.last ≡ 0xFFFF

-- a copied word, over plain numbers
filled-copies : (fill : Fill) (direction : Direction) (carry function n earlier this b c word : ℕ)
    → fill ≡ Off → function ≡ 0xF0 → n ≡ 0 → this ≡ word → word < 65536 → earlier < 65536
    → (filled fill carry (logic function (shifted direction n earlier this) b c)).word ≡ word
unfolding filled
filled-copies fill direction carry function n earlier this b c word off f0 nought same small before =
    rw (off, f0, nought, same, shifted-by-zero direction earlier word before small) (logic-of-f0 word b c small)

-- an unused source fetches nothing
Unmet-of-unused : (stores used : Bool) (place fetches : ℕ → Pointer) (words : ℕ) → used ≡ false → Unmet stores used place fetches words
unfolding Unmet
Unmet-of-unused stores used place fetches words idle i j below early storing fetching same = let never : ◌≡◌ {A = ℕ} 0 1 = cc in omega arith

module _ (setup : Setup) (copying : Copying setup) (width : ℕ) (memory : List ℕ) (flow : Flow) (all : SixteenBits memory) (earlier : flow.earlier.a < 65536) where
  -- A as masked, and the final word, are the word at A's pointer
  masked_at-copies : (k : ℕ) → masked_at setup.masks width (word_a setup width memory flow) k ≡ get_or memory (at_a setup width flow k).word 0
  unfolding masked_at word_a fetched
  masked_at-copies k = rw (copying.first, copying.last, copying.a) (masked-by-ones _ _ _ (all _))

  before-lt : (k : ℕ) → word_before flow.earlier.a (masked_at setup.masks width (word_a setup width memory flow)) k < 65536
  unfolding word_before
  before-lt zero = earlier
  before-lt (suc k) = rw (masked_at-copies k) (all (at_a setup width flow k).word)

  final_word-copies : (k : ℕ) → final_word setup width memory flow k ≡ get_or memory (at_a setup width flow k).word 0
  unfolding filled_at result_at mixed_at shifted_at
  final_word-copies k =
      filled-copies setup.fill setup.direction _ setup.function setup.shifts.a _ _ _ _ _
      copying.fill copying.function copying.shift (masked_at-copies k) (all (at_a setup width flow k).word) (before-lt k)

  -- where A comes to no word two or more words after D stored it, the blit is a quiet one
  pub area_blit-copies : (height : ℕ) → 1 ≤ width → flow.pending ≡ nothing
      → ((i j : ℕ) → i < height * width → j + 1 < i → (at_a setup width flow i).word ≡ (at_d setup width flow j).word → ⊥)
      → (area_blit setup width height (state memory flow)).memory
      ≡ laid_at (λ k. (at_d setup width flow k).word) (λ k. get_or memory (at_a setup width flow k).word 0) (height * width) memory
  unfolding Quiet Unmet
  area_blit-copies height some none apart =
      let quiet : Quiet setup width (height * width) flow = (
        (λ i j below early storing fetching same. apart i j below early (sym same)),
        Unmet-of-unused setup.uses.d setup.uses.b _ _ _ copying.b,
        Unmet-of-unused setup.uses.d setup.uses.c _ _ _ copying.c,
      ) in
      ap (λ (end : State). end.memory) (quiet-blit setup width height memory flow some none quiet)
      ∙ sym (if-when-true setup.uses.d _ _ _ copying.d refl)
      ∙ ap (λ (word : ℕ → ℕ). laid_at (λ k. (at_d setup width flow k).word) word (height * width) memory) (fun_ext final_word-copies)
