-- Laws of an instruction: what it is, by its words' parity.
use Rattle.word.proofs.Base.{◌≡◌, ℕ, ◌%◌, arith, eq-eqb, ne_eqb}
use Rattle.instruction.specs.declared.types.Instruction.TheVariants.{Move, Wait, Skip}
use Rattle.instruction.specs.Instruction.{offset, instruction}

module _ (first second : ℕ) where
  pub instruction-of-move : (first % 2 ≡ 1 → ⊥) → Move (offset first) second ≡ instruction first second
  unfolding instruction
  instruction-of-move even = rw (eq-eqb (first % 2) 0 (omega arith))

  module _ (odd : first % 2 ≡ 1) where
    pub instruction-of-wait : (second % 2 ≡ 1 → ⊥) → Wait first second ≡ instruction first second
    unfolding instruction
    instruction-of-wait even = rw (ne_eqb (first % 2) 0 (λ none. omega arith), eq-eqb (second % 2) 0 (omega arith))

    pub instruction-of-skip : second % 2 ≡ 1 → Skip first second ≡ instruction first second
    unfolding instruction
    instruction-of-skip both = rw (ne_eqb (first % 2) 0 (λ none. omega arith), ne_eqb (second % 2) 0 (λ none. omega arith))
