-- What an instruction and a frame leave is accepted again: a blit leaves what is accepted, a register keeps its bits,
-- and nothing else changes memory or register file.
use Rattle.word.proofs.Base.{ℕ, zero, suc, eqb}
use Rattle.word.proofs.ChoiceLaws.{if-either}
use Rattle.file.specs.File.{kept}
use Rattle.file.proofs.FileLaws.{kept_again, accepted-of-set}
use Rattle.blit.proofs.AcceptedAgain as blits
use Rattle.instruction.specs.Effect.{Moment, moment, Turn, after_instruction, effect}
use Rattle.instruction.proofs.EffectLaws.{effect-either}
use Rattle.copper.specs.Frame.{refusal, Frame, stopped, onward, start_refusal, frame_from}
use Rattle.copper_facts.specs.Course.{after}
use Rattle.copper_facts.specs.AcceptedAgain.{ReadyAt, AcceptedAgain}
use Rattle.copper_facts.proofs.CourseLaws.{onward-wherever}

effect-ready : (n : ℕ) (here : Moment) → ReadyAt n here → ReadyAt n (effect here).moment
unfolding after_instruction
effect-ready n here ready =
    effect-either (λ (taken : Turn). ReadyAt n taken.moment) here
    (λ number some. ready)
    (λ size. (blits.accepted-again).step n here.memory here.file size ready)
    (λ place value. record {
      long = ready.long;
      words = ready.words;
      fine = accepted-of-set here.file ready.fine place (kept place value) (kept_again place value);
    })
    (λ first second. ready)
    (λ first second. ready)

-- instruction after instruction, to wherever a frame stops
pub after-ready : (n many : ℕ) (here : Moment) → ReadyAt n here → ReadyAt n (after many here)
unfolding after
after-ready n zero here ready = ready
after-ready n (suc many) here ready = after-ready n many (effect here).moment (effect-ready n here ready)

onward-ready : (n lent : ℕ) (here : Moment) → ReadyAt n here → ReadyAt n (onward lent 0 here).moment
onward-ready n lent here ready =
    onward-wherever (λ (end : Frame). ReadyAt n end.moment) lent 0 here
    (λ many few all past. after-ready n many here ready)
    (λ all within. after-ready n lent here ready)
    (λ many few all within some. after-ready n many here ready)

pub accepted-again : AcceptedAgain
unfolding frame_from
accepted-again =
    record {
      instruction = effect-ready;
      frame = λ n memory file beam start lent ready.
          if-either (λ (end : Frame). ReadyAt n end.moment) (eqb (start_refusal memory file) 0) (onward lent 0 (moment memory file beam start))
          (stopped refusal (start_refusal memory file) 0 (moment memory file beam 0))
          (onward-ready n lent (moment memory file beam start) ready) ready;
    }
