-- Why a frame stopped: it stops at one place only, and there for one reason.
use Rattle.word.proofs.Base.{◌≡◌, sym, ap, ◌∙◌, ℕ, ◌+◌, ◌<◌, ◌≤◌, add-zero, arith, true, false}
use Rattle.instruction.specs.Effect.{Moment, moment, effect}
use Rattle.copper.specs.Frame.{end_of_frame, used_up, refusal, Frame, stopped, over, onward}
use Rattle.copper_facts.specs.Course.{after, goes}
use Rattle.copper_facts.specs.WhyExactly.{ExactWhy, WhyExactly}
use Rattle.copper_facts.proofs.CourseLaws.{onward-wherever, onward-stops-over, onward-stops-used-up, onward-stops-refused}
use Rattle.copper_facts.proofs.CutLaws.{frame_from-when-started}

module _ (lent : ℕ) (here : Moment) where
  -- a count from 0 on
  from-none : (why number many : ℕ) → stopped why number (many + 0) (after many here) ≡ stopped why number many (after many here)
  from-none why number many = ap (λ (done : ℕ). stopped why number done (after many here)) (add-zero many)

  -- the count that an answer tells
  same_count : (why number many other reason done : ℕ) (one two : Moment)
      → stopped why number (many + 0) one ≡ stopped reason other done two → many ≡ done
  same_count why number many other reason done one two same = sym (add-zero many) ∙ ap (λ (end : Frame). end.done) same

  abbrev AtEnd : (done : ℕ) → Type 0
  AtEnd done = (done ≤ lent) × (goes done here ≡ true) × (over (after done here) ≡ true)

  abbrev AtLast : Type 0
  AtLast = (goes lent here ≡ true) × (over (after lent here) ≡ false)

  abbrev AtRefused : (done number : ℕ) → Type 0
  AtRefused done number =
      (done < lent) × (goes done here ≡ true) × (over (after done here) ≡ false)
      × ((effect (after done here)).number ≡ number) × (number ≡ 0 → ⊥)

  end-told : (done : ℕ) → onward lent 0 here ≡ stopped end_of_frame 0 done (after done here) → AtEnd done
  end-told done =
      onward-wherever (λ (end : Frame). end ≡ stopped end_of_frame 0 done (after done here) → AtEnd done) lent 0 here
      (λ many few all past same. rw (← same_count end_of_frame 0 many 0 end_of_frame done (after many here) (after done here) same) (few, all, past))
      (λ all within same. absurd (omega (arith, ap (λ (end : Frame). end.why) same)))
      (λ many few all within some same. absurd (omega (arith, ap (λ (end : Frame). end.why) same)))

  last-told : onward lent 0 here ≡ stopped used_up 0 lent (after lent here) → AtLast
  last-told =
      onward-wherever (λ (end : Frame). end ≡ stopped used_up 0 lent (after lent here) → AtLast) lent 0 here
      (λ many few all past same. absurd (omega (arith, ap (λ (end : Frame). end.why) same)))
      (λ all within same. (all, within))
      (λ many few all within some same. absurd (omega (arith, ap (λ (end : Frame). end.why) same)))

  refused-told : (done number : ℕ) → onward lent 0 here ≡ stopped refusal number done (after done here) → AtRefused done number
  refused-told done number =
      onward-wherever (λ (end : Frame). end ≡ stopped refusal number done (after done here) → AtRefused done number) lent 0 here
      (λ many few all past same. absurd (omega (arith, ap (λ (end : Frame). end.why) same)))
      (λ all within same. absurd (omega (arith, ap (λ (end : Frame). end.why) same)))
      (λ many few all within some same.
      let number-told : (effect (after many here)).number ≡ number = ap (λ (end : Frame). end.number) same in
      rw (← same_count refusal (effect (after many here)).number many number refusal done (after many here) (after done here) same)
      (few, all, within, number-told, λ none. some (number-told ∙ none)))

  pub onward-exactly : ExactWhy here lent (onward lent 0 here)
  onward-exactly =
      record {
        end_of_frame = λ done. (
          end-told done,
          λ so. onward-stops-over done 0 here so.1 lent so.0 so.2 ∙ from-none end_of_frame 0 done,
        );
        used_up = (
          last-told,
          λ so. onward-stops-used-up lent 0 here so.0 so.1 ∙ from-none used_up 0 lent,
        );
        refusal = λ done number. (
          refused-told done number,
          λ so. onward-stops-refused done 0 here so.1 so.2 lent so.0 (λ none. so.4 (sym so.3 ∙ none))
              ∙ from-none refusal (effect (after done here)).number done
              ∙ ap (λ (this : ℕ). stopped refusal this done (after done here)) so.3,
        );
      }

pub why-exactly : WhyExactly
why-exactly memory file beam start lent starts =
    rw (frame_from-when-started memory file beam start lent starts) (onward-exactly lent (moment memory file beam start))
