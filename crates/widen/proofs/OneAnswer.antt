-- Two answers that meet the promise are equal: the three numbers differ.
use Rattle.std.specs.Prelude.{if◌then◌else◌}
use Rattle.word.proofs.Base.{◌≡◌, refl, sym, ap, ◌∙◌, ℕ, eqb}
use Rattle.std.specs.Prelude.{Ok, Err}
use Rattle.widen.specs.declared.types.Refusal.TheVariants.{OldFile, TargetLength}
use Rattle.widen.specs.Widen.{Answer, Widening, answer_number}
use Rattle.widen.specs.OneAnswer.{OneAnswer}

-- the answer with a number
answer_of : ℕ → Answer
answer_of number =
    if eqb number 0 then Ok tt else
    if eqb number 2 then Err OldFile else
    Err TargetLength

answer_number-tells : (answer : Answer) → answer_of (answer_number answer) ≡ answer
unfolding answer_of
answer_number-tells (Ok done) = refl
answer_number-tells (Err OldFile) = refl
answer_number-tells (Err TargetLength) = refl

pub one_answer : OneAnswer
one_answer old target first second promise again =
    let same = promise ∙ sym again in
    let answers : first.answer ≡ second.answer =
    sym (answer_number-tells first.answer) ∙ ap (λ (end : Widening). answer_of end.number) same ∙ answer_number-tells second.answer in
    λ i. record {
      answer = answers i;
      target = (same i).target;
    }
