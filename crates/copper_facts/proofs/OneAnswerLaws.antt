-- Two answers that meet the promise are equal: the numbers tell the refusals apart, and why a frame stopped is told.
use Rattle.std.specs.Prelude.{if◌then◌else◌}
use Rattle.word.proofs.Base.{◌≡◌, refl, sym, ap, ◌∙◌, ℕ, eqb}
use Rattle.refusal.proofs.OneAnswerLaws.{refusal_of, is_own}
use Rattle.refusal.proofs.OneAnswerLaws as blits
use Rattle.instruction.specs.declared.types.Refusal.{Refusal}
use Rattle.copper.specs.declared.types.Why.{Why}
use Rattle.copper.specs.Frame.{Frame}
use Rattle.instruction.specs.Refusal.{refusal_number}
use Rattle.copper.specs.Why.{why_number, answer_number}
use Rattle.copper_facts.specs.OneAnswer.{OneAnswer}

-- the refusal with a number
numbered : ℕ → Refusal
numbered number =
    if is_own number then Refusal.Blit (refusal_of number) else
    if eqb number 21 then Refusal.Forbidden else
    if eqb number 22 then Refusal.NotModelled else
    Refusal.Outside

refusal_number-tells : (why : Refusal) → numbered (refusal_number why) ≡ why
unfolding numbered refusal_of
refusal_number-tells (Refusal.Blit why) = rw (blits.refusal_number-is-own why) (ap Refusal.Blit (blits.refusal_number-tells why))
refusal_number-tells Refusal.Forbidden = refl
refusal_number-tells Refusal.NotModelled = refl
refusal_number-tells Refusal.Outside = refl

-- why a frame stopped, by its two numbers
told : (why number : ℕ) → Why
told why number =
    if eqb why 0 then Why.EndOfFrame else
    if eqb why 1 then Why.UsedUp else
    Why.Refused (numbered number)

why-tells : (why : Why) → told (why_number why) (answer_number why) ≡ why
unfolding told
why-tells Why.EndOfFrame = refl
why-tells Why.UsedUp = refl
why-tells (Why.Refused reason) = ap Why.Refused (refusal_number-tells reason)

pub one_answer : OneAnswer
one_answer memory file beam start lent first second promise again =
    let same = promise ∙ sym again in
    let whys : first.answer.why ≡ second.answer.why =
    sym (why-tells first.answer.why) ∙ ap (λ (end : Frame). told end.why end.number) same ∙ why-tells second.answer.why in
    λ i. record {
      answer = record { why = whys i; done = (same i).done; here = record { beam = (same i).moment.beam; word = (same i).moment.word } };
      memory = (same i).moment.memory;
      file = (same i).moment.file;
    }
