-- Laws of an instruction's effect: what each kind leaves, and that a refused one changes nothing.
use Rattle.std.specs.Prelude.{Result, Ok, Err, IsErrAnd}
use Rattle.word.proofs.Base.{◌≡◌, refl, ℕ, zero, suc, ◌+◌, ◌<◌, ◌≤◌, arith, Bool, true, false, not, eqb, eq-eqb, ne_eqb}
use Rattle.word.proofs.Base.{eqb-false, le-leb, lt-leb, List, length, get_or, set}
use Rattle.word.specs.Choice.{given}
use Rattle.word.proofs.ChoiceLaws.{if-either}
use Rattle.file.specs.File.{place, kept}
use Rattle.beam.specs.Satisfied.{satisfied}
use Rattle.beam.specs.Wait.{waited}
use Rattle.refusal.specs.declared.types.Refusal as blits
use Rattle.blit.specs.declared.types.Done.{Done}
use Rattle.refusal.specs.Refusal.{step_refusal}
use Rattle.blit.specs.Blit as blit
use Rattle.blit.specs.Blit.{refused, answered, blit_step}
use Rattle.refusal.proofs.RefusalLaws.{refusal-is-some}
use Rattle.blit.proofs.BlitLaws.{done-number, blit_step-stays}
use Rattle.instruction.specs.declared.types.Instruction.{Instruction}
use Rattle.instruction.specs.declared.types.Instruction.TheVariants.{Move, Wait, Skip}
use Rattle.instruction.specs.declared.types.Refusal.{Refusal}
use Rattle.instruction.specs.declared.types.Position.{Position}
use Rattle.instruction.specs.Instruction.{instruction}
use Rattle.instruction.specs.Permitted.{permitted, size_offset, modelled}
use Rattle.instruction.specs.Refusal.{outside, forbidden, not_modelled, own_rules, instruction_refusal, refusal_number}
use Rattle.instruction.specs.Effect.{Moment, moment, Turn, turn, after_blit, after_register, skipped, after_instruction, decided, instruction_effect, effect}
use Rattle.instruction.specs.Inner.Blitted.{blitted}
use Rattle.instruction.specs.Inner.Taken.{left}

-- a blit that a MOVE starts, done or refused
module _ (answer : Result Done blits.Refusal) (size : ℕ) (here : Position) (memory file next end : List ℕ)
    (gives : blit.left answer next end ≡ blit_step memory file size) where
  pub blitted-when-done : (done : Done) (after : Position) → answer ≡ Ok done → after ≡ record { beam = here.beam + 4; word = here.word + 2 }
      → left (Ok after) here next end ≡ blitted size (moment memory file here.beam here.word)
  unfolding blitted decided
  blitted-when-done done after same moves = let did = rw same at gives in rw (moves, ← did)

  pub blitted-when-refused : (why : blits.Refusal) (taken : Result Position Refusal) → answer ≡ Err why → IsErrAnd taken (λ reason. reason ≡ Refusal.Blit why)
      → left taken here next end ≡ blitted size (moment memory file here.beam here.word)
  unfolding blitted decided
  blitted-when-refused why (Ok after) same passed = absurd passed
  blitted-when-refused why (Err reason) same passed =
      let did = rw same at gives in
      let stays = rw (← did) at (blit_step-stays memory file size) in
      let stayed = stays (eqb-false (refusal_number (Refusal.Blit why)) 0 (refusal-is-some why)) in
      rw (passed, ← did, refusal-is-some why, stayed.0, stayed.1)

-- a blit's number is that of its own rules
blit_step-gives : (memory file : List ℕ) (size number : ℕ) → step_refusal (length memory) file size ≡ number
    → (blit_step memory file size).number ≡ number
unfolding blit_step answered refused
blit_step-gives memory file size zero same = rw same (done-number memory file size)
blit_step-gives memory file size (suc number) same = rw (same, ne_eqb (suc number) 0 (λ none. omega (arith, none)))

pub skipped-when-satisfied : (first second beam word : ℕ) (holds : Bool) → holds ≡ satisfied first second beam → holds ≡ true
    → word + 4 ≡ skipped first second beam word
unfolding skipped
skipped-when-satisfied first second beam word holds is met = rw (← is, met)

pub skipped-when-not : (first second beam word : ℕ) (holds : Bool) → holds ≡ satisfied first second beam → holds ≡ false
    → word + 2 ≡ skipped first second beam word
unfolding skipped
skipped-when-not first second beam word holds is fails = rw (← is, fails)

-- an instruction that lies in memory
module _ (here : Position) (memory file : List ℕ) (inside : here.word + 1 < length memory) where
  within : outside (length memory) here.word ≡ false
  unfolding outside
  within = lt-leb (length memory) (here.word + 1) inside

  -- a MOVE, by the rules in their order
  module _ (offset value : ℕ) (may : Bool) (permits : may ≡ permitted file offset) where
    pub instruction_effect-when-forbidden : not may ≡ true
        → left (Err Refusal.Forbidden) here memory file ≡ instruction_effect (Move offset value) (moment memory file here.beam here.word)
    unfolding instruction_effect decided instruction_refusal given forbidden
    instruction_effect-when-forbidden bad = rw (within, ← permits, bad)

    module _ (good : not may ≡ false) (known : Bool) (models : known ≡ modelled offset) where
      pub instruction_effect-when-not-modelled : not known ≡ true
          → left (Err Refusal.NotModelled) here memory file ≡ instruction_effect (Move offset value) (moment memory file here.beam here.word)
      unfolding instruction_effect decided instruction_refusal given forbidden not_modelled
      instruction_effect-when-not-modelled unknown = rw (within, ← permits, good, ← models, unknown)

      module _ (fine : not known ≡ false) where
        pub instruction_effect-of-size : (whole : Turn) → offset ≡ size_offset → whole ≡ blitted value (moment memory file here.beam here.word)
            → whole ≡ instruction_effect (Move offset value) (moment memory file here.beam here.word)
        unfolding instruction_effect instruction_refusal given forbidden not_modelled own_rules after_instruction blitted step_refusal
        instruction_effect-of-size whole this gives =
            rw (within, ← permits, good, ← models, fine, eq-eqb offset size_offset this)
            (rw (blit_step-gives memory file value _ refl) at gives)

        pub instruction_effect-of-register : (found keeps : ℕ) (end : List ℕ) (after : Position) → (offset ≡ size_offset → ⊥)
            → found ≡ place offset → keeps ≡ kept found value → end ≡ set file found keeps → after ≡ record { beam = here.beam + 4; word = here.word + 2 }
            → left (Ok after) here memory end ≡ instruction_effect (Move offset value) (moment memory file here.beam here.word)
        unfolding instruction_effect decided instruction_refusal given forbidden not_modelled own_rules after_instruction
        instruction_effect-of-register found keeps end after other finds kept-bits writes moves =
            rw (moves, within, ← permits, good, ← models, fine, ne_eqb offset size_offset other, writes, kept-bits, finds)

  -- a WAIT and a SKIP
  module _ (found : Instruction) where
    pub instruction_effect-of-wait : (first second place : ℕ) → found ≡ Wait first second → place ≡ waited first second here.beam
        → left (Ok (record { beam = place; word = here.word + 2 })) here memory file ≡ instruction_effect found (moment memory file here.beam here.word)
    unfolding instruction_effect decided instruction_refusal given forbidden not_modelled own_rules after_instruction
    instruction_effect-of-wait first second place same waits = rw (same, within, waits)

    pub instruction_effect-of-skip : (first second next : ℕ) → found ≡ Skip first second → next ≡ skipped first second here.beam here.word
        → left (Ok (record { beam = here.beam + 4; word = next })) here memory file ≡ instruction_effect found (moment memory file here.beam here.word)
    unfolding instruction_effect decided instruction_refusal given forbidden not_modelled own_rules after_instruction
    instruction_effect-of-skip first second next same skips = rw (same, within, skips)

pub instruction_effect-of-move : (offset value : ℕ) (found : Instruction) (here : Moment) (whole : Turn) → found ≡ Move offset value
    → whole ≡ instruction_effect (Move offset value) here → whole ≡ instruction_effect found here
instruction_effect-of-move offset value found here whole same gives = rw same gives

-- where an instruction stands
pub effect-when-outside : (here : Position) (memory file : List ℕ) → length memory ≤ here.word + 1
    → left (Err Refusal.Outside) here memory file ≡ effect (moment memory file here.beam here.word)
unfolding effect instruction_effect decided instruction_refusal given outside
effect-when-outside here memory file beyond = rw (le-leb (length memory) (here.word + 1) beyond)

pub effect-when-inside : (beam word first second : ℕ) (memory file : List ℕ) (found : Instruction) (whole : Turn)
    → first ≡ get_or memory word 0 → second ≡ get_or memory (word + 1) 0 → found ≡ instruction first second
    → whole ≡ instruction_effect found (moment memory file beam word) → whole ≡ effect (moment memory file beam word)
unfolding effect
effect-when-inside beam word first second memory file found whole one two is gives = rw (← one, ← two, ← is) gives

-- what holds of an instruction that is done and of one that is refused
decided-either : (Holds : Turn → Type 0) (number : ℕ) (after here : Moment)
    → Holds (turn 0 after) → ((number ≡ 0 → ⊥) → Holds (turn number here)) → Holds (decided number after here)
unfolding decided
decided-either Holds zero after here does refuses = does
decided-either Holds (suc number) after here does refuses =
    let some : suc number ≡ 0 → ⊥ = λ none. omega (arith, none) in
    rw (ne_eqb (suc number) 0 some) (refuses some)

-- the same by the kinds that are done
module _ (Holds : Turn → Type 0) (here : Moment) (refuses : (number : ℕ) → (number ≡ 0 → ⊥) → Holds (turn number here))
    (blits : (size : ℕ) → Holds (turn 0 (after_blit size here)))
    (writes : (place value : ℕ) → Holds (turn 0 (after_register place value here)))
    (waits : (first second : ℕ) → Holds (turn 0 (after_instruction (Wait first second) here)))
    (skips : (first second : ℕ) → Holds (turn 0 (after_instruction (Skip first second) here))) where
  after_instruction-either : (found : Instruction) → Holds (turn 0 (after_instruction found here))
  unfolding after_instruction
  after_instruction-either (Move offset value) =
      if-either (λ (after : Moment). Holds (turn 0 after)) (eqb offset size_offset) _ _ (blits value) (writes (place offset) value)
  after_instruction-either (Wait first second) = waits first second
  after_instruction-either (Skip first second) = skips first second

  pub effect-either : Holds (effect here)
  unfolding effect instruction_effect
  effect-either = decided-either Holds _ _ here (after_instruction-either _) (refuses _)

-- a refused instruction leaves the moment
pub effect-stays : (here : Moment) → ((effect here).number ≡ 0 → ⊥) → (effect here).moment ≡ here
unfolding effect instruction_effect
effect-stays here =
    decided-either (λ (taken : Turn). (taken.number ≡ 0 → ⊥) → taken.moment ≡ here) _ _ here
    (λ some. absurd (some refl)) (λ other some. refl)
