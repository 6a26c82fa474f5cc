-- Paper 01, "The area blit": "Words go row by row." The words of a blit numbered from 0 over all its rows, each fetched
-- from the memory that the blit began with.
use Rattle.std.specs.Prelude.{ℕ, zero, suc, ◌/◌, ◌%◌, Bool, List, set, if◌then◌else◌}
use Rattle.word.specs.declared.types.Direction.{Direction}
use Rattle.word.specs.declared.types.Pointer.{Pointer}
use Rattle.word.specs.declared.types.Filled.{Filled}
use Rattle.word.specs.Repeat.{repeated}
use Rattle.word.specs.Pointer.{moved, next_row}
use Rattle.area.specs.declared.types.Setup.{Setup}
use Rattle.area.specs.declared.types.Flow.{Flow}
use Rattle.area.specs.Fetch.{fetched}
use Rattle.quiet.specs.Words.{final_at}

-- where a channel stands so many rows on and so many words into that row. "Unused pointers stay."
unfoldable pub standing : Direction → (used : Bool) → (width modulo row word : ℕ) → Pointer → Pointer
standing direction used width modulo row word pointer =
    if used then repeated (λ _. moved direction) word (repeated (λ _. next_row direction width modulo) row pointer) else
    pointer

-- where it fetches or stores word k of all
abbrev pub standing_at : Direction → (used : Bool) → (width modulo : ℕ) → Pointer → (k : ℕ) → Pointer
standing_at direction used width modulo pointer k = standing direction used width modulo (k / width) (k % width) pointer

module _ (setup : Setup) (width : ℕ) (flow : Flow) where
  abbrev pub at_a : (k : ℕ) → Pointer
  at_a = standing_at setup.direction setup.uses.a width setup.modulos.a flow.pointers.a

  abbrev pub at_b : (k : ℕ) → Pointer
  at_b = standing_at setup.direction setup.uses.b width setup.modulos.b flow.pointers.b

  abbrev pub at_c : (k : ℕ) → Pointer
  at_c = standing_at setup.direction setup.uses.c width setup.modulos.c flow.pointers.c

  abbrev pub at_d : (k : ℕ) → Pointer
  at_d = standing_at setup.direction setup.uses.d width setup.modulos.d flow.pointers.d

module _ (setup : Setup) (width : ℕ) (memory : List ℕ) (flow : Flow) where
  -- what each source gives
  unfoldable pub word_a : (k : ℕ) → ℕ
  word_a k = fetched setup.uses.a memory (at_a setup width flow k) flow.sources.a

  unfoldable pub word_b : (k : ℕ) → ℕ
  word_b k = fetched setup.uses.b memory (at_b setup width flow k) flow.sources.b

  unfoldable pub word_c : (k : ℕ) → ℕ
  word_c k = fetched setup.uses.c memory (at_c setup width flow k) flow.sources.c

  -- the final word, and the carry after it
  abbrev pub finals : (k : ℕ) → Filled
  finals = final_at setup width flow.earlier word_a word_b word_c

  abbrev pub final_word : (k : ℕ) → ℕ
  final_word k = (finals k).word

-- words laid into memory one after the other, each at its place
unfoldable pub laid_at : (place word : ℕ → ℕ) → (n : ℕ) → (memory : List ℕ) → List ℕ
laid_at place word zero memory = memory
laid_at place word (suc n) memory = set (laid_at place word n memory) (place n) (word n)
