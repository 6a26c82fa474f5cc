-- Laws of a frame: how it stops, and how it goes on after an instruction.
use Rattle.std.specs.Prelude.{Result, Ok, Err}
use Rattle.word.proofs.Base.{◌≡◌, sym, ap, ◌∙◌, ℕ, zero, suc, ◌+◌, ◌-◌, ◌<◌, ◌≤◌, arith, Bool, true, false, not}
use Rattle.word.proofs.Base.{ne_eqb, eqb-false, le-leb, lt-leb, List, length}
use Rattle.word.specs.Choice.{given}
use Rattle.file.specs.File.{accepted}
use Rattle.beam.specs.Beam.{frame_end}
use Rattle.refusal.specs.declared.types.Refusal as blits
use Rattle.word.specs.Memory.{memory_size}
use Rattle.refusal.proofs.RefusalLaws.{refusal-is-some}
use Rattle.instruction.specs.declared.types.Refusal.{Refusal}
use Rattle.instruction.specs.declared.types.Position.{Position}
use Rattle.copper.specs.declared.types.Why.{Why}
use Rattle.copper.specs.declared.types.Answer.{Answer}
use Rattle.instruction.specs.Effect.{Moment, moment, Turn, effect}
use Rattle.copper.specs.Frame.{end_of_frame, used_up, refusal, Frame, stopped, over, onward, start_refusal, frame_from}
use Rattle.instruction.specs.Inner.Taken as takens
use Rattle.instruction.specs.Refusal.{refusal_number}
use Rattle.copper.specs.Answer.{left}
use Rattle.instruction.proofs.EffectLaws.{effect-stays}

-- a refusal's number is never 0
pub refusal_number-positive : (why : Refusal) → refusal_number why ≡ 0 → ⊥
refusal_number-positive (Refusal.Blit why) = eqb-false (refusal_number (Refusal.Blit why)) 0 (refusal-is-some why)
refusal_number-positive Refusal.Forbidden = λ same. omega (arith, same)
refusal_number-positive Refusal.NotModelled = λ same. omega (arith, same)
refusal_number-positive Refusal.Outside = λ same. omega (arith, same)

-- how a frame stops
pub onward-when-over : (lent done : ℕ) (here : Moment) → over here ≡ true → stopped end_of_frame 0 done here ≡ onward lent done here
unfolding onward
onward-when-over zero done here past = rw past
onward-when-over (suc lent) done here past = rw past

pub onward-when-used-up : (done : ℕ) (here : Moment) → over here ≡ false → stopped used_up 0 done here ≡ onward 0 done here
unfolding onward
onward-when-used-up done here inside = rw inside

module _ (lent done : ℕ) (here : Moment) (inside : over here ≡ false) where
  pub onward-when-refused : ((effect here).number ≡ 0 → ⊥) → stopped refusal (effect here).number done here ≡ onward (suc lent) done here
  unfolding onward
  onward-when-refused some = rw (inside, ne_eqb (effect here).number 0 some)

  pub onward-when-done : (effect here).number ≡ 0 → onward lent (suc done) (effect here).moment ≡ onward (suc lent) done here
  unfolding onward
  onward-when-done none = rw (inside, none)

-- the loop, after so many done: what is left gives what the whole gives
module _ (lent done : ℕ) (here : Position) (memory file : List ℕ) (whole : Frame)
    (so_far : onward (lent - done) done (moment memory file here.beam here.word) ≡ whole) where
  pub onward-at-end : frame_end ≤ here.beam
      → left (record { why = Why.EndOfFrame; done = done; here = here }) memory file ≡ whole
  unfolding over
  onward-at-end past =
      onward-when-over (lent - done) done (moment memory file here.beam here.word) (le-leb frame_end here.beam past) ∙ so_far

  -- where all that were lent are done
  pub onward-at-last-end : done ≤ lent → lent ≤ done → frame_end ≤ here.beam
      → left (record { why = Why.EndOfFrame; done = lent; here = here }) memory file ≡ whole
  onward-at-last-end few all past =
      let same : lent ≡ done = omega arith in
      ap (λ (many : ℕ). left (record { why = Why.EndOfFrame; done = many; here = here }) memory file) same ∙ onward-at-end past

  module _ (inside : here.beam < frame_end) where
    within : over (moment memory file here.beam here.word) ≡ false
    unfolding over
    within = lt-leb frame_end here.beam inside

    pub onward-at-last : done ≤ lent → lent ≤ done
        → left (record { why = Why.UsedUp; done = lent; here = here }) memory file ≡ whole
    onward-at-last few all =
        let same : lent ≡ done = omega arith in
        let none : lent - done ≡ 0 = omega arith in
        ap (λ (many : ℕ). left (record { why = Why.UsedUp; done = many; here = here }) memory file) same
        ∙ onward-when-used-up done (moment memory file here.beam here.word) within
        ∙ sym (ap (λ (still : ℕ). onward still done (moment memory file here.beam here.word)) none) ∙ so_far

    module _ (more : done < lent) (taken : Result Position Refusal) (next end : List ℕ)
        (gives : takens.left taken here next end ≡ effect (moment memory file here.beam here.word)) where
      goes_on : onward (suc (lent - (done + 1))) done (moment memory file here.beam here.word) ≡ whole
      goes_on =
          let one : lent - done ≡ suc (lent - (done + 1)) = omega arith in
          sym (ap (λ (still : ℕ). onward still done (moment memory file here.beam here.word)) one) ∙ so_far

      pub onward-turn : (after : Position) → taken ≡ Ok after
          → onward (lent - (done + 1)) (done + 1) (moment next end after.beam after.word) ≡ whole
      onward-turn after same =
          let did : takens.left (Ok after) here next end ≡ effect (moment memory file here.beam here.word) = rw same at gives in
          let count : done + 1 ≡ suc done = omega arith in
          ap (λ (many : ℕ). onward (lent - (done + 1)) many (moment next end after.beam after.word)) count
          ∙ ap (λ (this : Turn). onward (lent - (done + 1)) (suc done) this.moment) did
          ∙ onward-when-done (lent - (done + 1)) done (moment memory file here.beam here.word) within (sym (ap (λ (this : Turn). this.number) did))
          ∙ goes_on

      pub onward-of-refused : (why : Refusal) → taken ≡ Err why
          → left (record { why = Why.Refused why; done = done; here = here }) next end ≡ whole
      onward-of-refused why same =
          let did : takens.left (Err why) here next end ≡ effect (moment memory file here.beam here.word) = rw same at gives in
          let number : refusal_number why ≡ (effect (moment memory file here.beam here.word)).number = ap (λ (this : Turn). this.number) did in
          let some : (effect (moment memory file here.beam here.word)).number ≡ 0 → ⊥ = λ none. refusal_number-positive why (number ∙ none) in
          let stays : moment next end here.beam here.word ≡ moment memory file here.beam here.word =
          ap (λ (this : Turn). this.moment) did ∙ effect-stays (moment memory file here.beam here.word) some in
          ap (stopped refusal (refusal_number why) done) stays
          ∙ ap (λ (this : ℕ). stopped refusal this done (moment memory file here.beam here.word)) number
          ∙ onward-when-refused (lent - (done + 1)) done (moment memory file here.beam here.word) within some
          ∙ goes_on

-- what is refused before any instruction, in its order
module _ (memory file : List ℕ) (beam start lent : ℕ) (bad : Bool) (of-bad : bad ≡ memory_size (length memory)) where
  pub frame_from-by-memory : (answer : Answer) → bad ≡ true
      → answer ≡ record { why = Why.Refused (Refusal.Blit blits.Refusal.MemorySize); done = 0; here = record { beam = beam; word = 0 } }
      → left answer memory file ≡ frame_from memory file beam start lent
  unfolding frame_from start_refusal given
  frame_from-by-memory answer holds same = rw (same, ← of-bad, holds)

  module _ (taken : bad ≡ false) (fine : Bool) (of-fine : fine ≡ accepted file) where
    pub frame_from-by-file : (answer : Answer) → not fine ≡ true
        → answer ≡ record { why = Why.Refused (Refusal.Blit blits.Refusal.RegisterFile); done = 0; here = record { beam = beam; word = 0 } }
        → left answer memory file ≡ frame_from memory file beam start lent
    unfolding frame_from start_refusal given
    frame_from-by-file answer holds same = rw (same, ← of-bad, taken, ← of-fine, holds)

    pub frame_from-onward : (answer : Answer) (next end : List ℕ) → not fine ≡ false
        → left answer next end ≡ onward lent 0 (moment memory file beam start)
        → left answer next end ≡ frame_from memory file beam start lent
    unfolding frame_from start_refusal given
    frame_from-onward answer next end accepts gives = rw (← of-bad, taken, ← of-fine, accepts) gives
