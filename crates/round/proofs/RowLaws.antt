-- Laws of a row's moves: its steps are one move of so many words, and the modulo is one more.
use Rattle.word.proofs.Base.{◌≡◌, sym, ap, ap₂, ◌∙◌, ℕ, zero, suc, ◌<◌, arith, Bool, ◌||◌, [], ◌∷◌}
use mathlib.Core.Bool.{or_assoc, or-false}
use Rattle.word.specs.declared.types.Direction.{Direction}
use Rattle.word.specs.declared.types.Pointer.{Pointer}
use Rattle.word.specs.Pointer.{pointer_end, downward, moved, passed}
use Rattle.word.specs.Round.{moved_round, passed_round, word_move}
use Rattle.word.proofs.PointerLaws.{moved-lt}
use Rattle.round.specs.Between.{between, any_round, went_round}
use Rattle.round.specs.Channel.{row_moves}
use Rattle.round.proofs.BetweenLaws.{flat, Some, went_round-of-more}
use Rattle.round.proofs.FewLaws.{passed_round-of-none, passed_round-of-one, passed_round-of-more, passed-of-one, passed-of-more}

module _ (direction : Direction) (modulo : ℕ) where
  pub some-of-row : (more : ℕ) (pointer : Pointer) → Some (row_moves direction modulo (suc more) pointer)
  unfolding row_moves
  some-of-row zero pointer = tt
  some-of-row (suc more) pointer = tt

  -- where the row's words are the last, their last moves don't count
  pub went_round-of-row : (more : ℕ) (pointer : Pointer) → pointer.word < pointer_end → suc more < downward
      → went_round (row_moves direction modulo (suc more) pointer) ≡ passed_round direction more pointer
  unfolding row_moves between any_round
  went_round-of-row zero pointer small few = sym (passed_round-of-none direction pointer small)
  went_round-of-row (suc more) pointer small few =
      went_round-of-more (word_move direction pointer ∷ []) (row_moves direction modulo (suc more) (moved direction pointer))
      (some-of-row more (moved direction pointer))
      ∙ ap₂ ◌||◌ (or-false (moved_round direction pointer))
      (went_round-of-row more (moved direction pointer) (moved-lt direction pointer) (omega arith))
      ∙ passed_round-of-more direction pointer small more (omega arith)

  -- where another row follows, all moves count
  pub any_round-of-row : (more : ℕ) (pointer : Pointer) → pointer.word < pointer_end → suc more < downward
      → any_round (flat (row_moves direction modulo (suc more) pointer))
      ≡ (passed_round direction (suc more) pointer || passed_round direction modulo (passed direction (suc more) pointer))
  unfolding row_moves flat any_round
  any_round-of-row zero pointer small few =
      ap₂ ◌||◌ (passed_round-of-one direction pointer small)
      (or-false (passed_round direction modulo (moved direction pointer)) ∙ ap (passed_round direction modulo) (passed-of-one direction pointer small))
  any_round-of-row (suc more) pointer small few =
      ap (λ (later : Bool). moved_round direction pointer || later)
      (any_round-of-row more (moved direction pointer) (moved-lt direction pointer) (omega arith))
      ∙ sym (or_assoc (moved_round direction pointer) (passed_round direction (suc more) (moved direction pointer))
      (passed_round direction modulo (passed direction (suc more) (moved direction pointer))))
      ∙ ap₂ (λ (steps : Bool) (end : Pointer). steps || passed_round direction modulo end)
      (passed_round-of-more direction pointer small (suc more) few) (passed-of-more direction pointer small (suc more) few)
