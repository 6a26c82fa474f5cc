-- Two answers that meet the promise are equal: the numbers tell the refusals apart, and no refusal has the number 0.
use Rattle.std.specs.Prelude.{Result, Ok, Err}
use Rattle.word.proofs.Base.{◌≡◌, sym, ap, ◌∙◌}
use Rattle.refusal.specs.declared.types.Refusal.{Refusal}
use Rattle.refusal.specs.Refusal.{verdict_number}
use Rattle.refusal.proofs.RefusalLaws.{refusal_number-positive}
use Rattle.refusal.proofs.OneAnswerLaws.{refusal_number-is-unique}
use Rattle.blit.specs.declared.types.Done.{Done}
use Rattle.blit.specs.Blit.{Outcome, answer_stored, answer_round, left}
use Rattle.blit.specs.OneAnswer.{Given, OneAnswer, OneStepAnswer}

answer-is-unique : (one other : Result Done Refusal) → verdict_number one ≡ verdict_number other → answer_stored one ≡ answer_stored other
    → answer_round one ≡ answer_round other → one ≡ other
answer-is-unique (Ok done) (Ok again) number counts rounds = λ i. Ok (record { stored = counts i; round = rounds i })
answer-is-unique (Ok done) (Err why) number counts rounds = absurd (refusal_number-positive why (sym number))
answer-is-unique (Err why) (Ok done) number counts rounds = absurd (refusal_number-positive why number)
answer-is-unique (Err why) (Err reason) number counts rounds = ap Err (refusal_number-is-unique why reason number)

given-is-unique : (first second : Given)
    → left first.answer first.memory first.file ≡ left second.answer second.memory second.file → first ≡ second
given-is-unique first second same =
    let answers =
    answer-is-unique first.answer second.answer (ap (λ (end : Outcome). end.number) same) (ap (λ (end : Outcome). end.stored) same)
    (ap (λ (end : Outcome). end.round) same) in
    λ i. record {
      answer = answers i;
      memory = (same i).memory;
      file = (same i).file;
    }

pub one_answer : OneAnswer
one_answer memory file size first second promise again = given-is-unique first second (promise ∙ sym again)

pub one-step-answer : OneStepAnswer
one-step-answer memory file size first second promise again = given-is-unique first second (promise ∙ sym again)
